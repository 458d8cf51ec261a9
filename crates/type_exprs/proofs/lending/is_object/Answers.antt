use Rattle.std.proofs.Common.{sym, ◌∙◌}
use Rattle.type_exprs.proofs.Pushed.{no_object}
use Rattle.type_exprs.proofs.lending.is_object.Goals as goal

pub returns-then-not-is_empty : goal.returns-then-not-is_empty
returns-then-not-is_empty c = λ w s. sym (no_object w c.args.name.now c.args.path.now (sym c.is_empty.ensures ∙ c.if-not-is_empty.true))
