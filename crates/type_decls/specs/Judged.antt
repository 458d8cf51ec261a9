-- What a test of a program's rules answers.
use Rattle.std.specs.Prelude.{◌≡◌, List, [], Result, Some}
use Rattle.orca_base.specs.declared.refusal.Refusal.{Refusal}
use Rattle.orca_base.specs.Refusal.{MatchRefusal}
use Rattle.link_rules.specs.Rules.{first}
use Rattle.type_rules.specs.declared.type_error.TypeError.{TypeError}

-- there are no breaches, or the first is refused
abbrev pub Judges : {T : Type 0} → Result T (Refusal TypeError) → List TypeError → Type 0
Judges result errors = MatchRefusal result (λ _. errors ≡ []) (λ e. first errors ≡ Some e)
