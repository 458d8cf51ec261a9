use Rattle.std.proofs.Common.{◌≡◌, ℕ, ◌||◌, List, drop}
use Rattle.type_rules.specs.Rules.{is_among}
use Rattle.type_rules.specs.Scopes.{texts}
use Rattle.type_forms.specs.Seen.{has, lent}
use Rattle.type_decls.proofs.fields.enter.Given as goal

abbrev pub invariant-own : goal.invariant-own
invariant-own l = (n : List ℕ) →
    (has l.names n || is_among (texts (lent (drop l.name-index l.own))) n) ≡ (has l.initial.names n || is_among (texts (lent l.own)) n)
