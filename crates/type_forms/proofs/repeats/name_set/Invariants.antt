use Rattle.std.proofs.Common.{◌≡◌, ℕ, ◌||◌, List, drop}
use Rattle.type_rules.specs.Rules.{is_among}
use Rattle.type_rules.specs.Scopes.{texts}
use Rattle.type_forms.specs.Seen.{has, lent}
use Rattle.type_forms.proofs.repeats.name_set.Given as goal

abbrev pub invariant-names : goal.invariant-names
invariant-names l = (n : List ℕ) →
    (has l.set n || is_among (texts (lent (drop l.name-index l.names))) n) ≡ is_among (texts (lent l.names)) n
