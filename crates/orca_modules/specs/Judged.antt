-- What a test of a rule answers.
use Rattle.std.specs.Prelude.{◌≡◌, List, [], Result, Some}
use Rattle.orca_base.specs.declared.refusal.Refusal.{Refusal}
use Rattle.orca_base.specs.Refusal.{MatchRefusal}
use Rattle.link_rules.specs.declared.link_error.LinkError.{LinkError}
use Rattle.link_rules.specs.Rules.{first}

-- there are no breaches, or the first is refused
abbrev pub Judges : {T : Type 0} → Result T (Refusal LinkError) → List LinkError → Type 0
Judges result errors = MatchRefusal result (λ _. errors ≡ []) (λ e. first errors ≡ Some e)
