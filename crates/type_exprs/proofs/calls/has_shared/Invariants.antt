use Rattle.std.proofs.Common.{◌≡◌, drop}
use Rattle.std.specs.List.{list_any}
use Rattle.type_rules.specs.Expressions.{is_shared}
use Rattle.type_exprs.proofs.calls.has_shared.Given as goal

abbrev pub invariant-formals : goal.invariant-formals
invariant-formals l = list_any is_shared (drop l.formal-index l.formals) ≡ list_any is_shared l.formals
