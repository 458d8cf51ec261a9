use Rattle.std.proofs.Common.{◌≡◌, ℕ, cond, List, drop}
use Rattle.type_rules.specs.Rules.{is_among}
use Rattle.type_rules.specs.Scopes.{texts}
use Rattle.type_forms.specs.Seen.{lent}
use Rattle.type_tables.specs.Entries.{entry}
use Rattle.type_decls.proofs.fields.leave_locals.Given as goal

-- as if the names that are left were left
abbrev pub invariant-own : goal.invariant-own
invariant-own l = (n : List ℕ) →
    cond (is_among (texts (lent (drop l.name-index l.own))) n) (entry l.fields n) (entry l.locals n)
    ≡ cond (is_among (texts (lent l.own)) n) (entry l.fields n) (entry l.initial.locals n)
