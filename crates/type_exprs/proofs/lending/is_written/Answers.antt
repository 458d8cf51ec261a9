use Rattle.std.proofs.Common.{Option, sym, ap, ◌∙◌}
use Rattle.std.specs.Borrow.{Bor}
use Rattle.type_rules.specs.Expressions.{is_written}
use Rattle.type_exprs.specs.declared.scope.Local.{Local}
use Rattle.type_exprs.specs.Scoped.{lent_local}
use Rattle.type_exprs.proofs.lending.is_written.Goals as goal

pub returns-in-Some : goal.returns-in-Some
returns-in-Some c = λ n. c.may_write.ensures n ∙ sym (ap (λ (o : Option (Bor Local)). is_written (lent_local n o)) c.in-Some.is)
