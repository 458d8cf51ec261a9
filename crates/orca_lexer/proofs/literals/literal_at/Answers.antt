use Rattle.std.proofs.lemmas.Result.{err_from_is_err_and}
use Rattle.orca_base.specs.Refusal.{because_weaker}
use Rattle.orca_lexer.specs.Refusal.IsFault.{unclosed}
use Rattle.orca_lexer.proofs.Fronts.{senseless_at}
use Rattle.orca_lexer.proofs.literals.literal_at.Goals as goal

pub returns-in_default : goal.returns-in_default
returns-in_default c = unclosed c.in_default.ensures.quote c.in_default.ensures.none

pub returns-in_err-kind : goal.returns-in_err-kind
returns-in_err-kind c =
    let p = err_from_is_err_and c.from_residual.result c.from_residual.ensures.1 in
    rw (p.1, p.2) (because_weaker c.in_err-kind.field-0.0 _ _ _ _ c.in_err-kind.ensures (λ f wrong. senseless_at c.args.text.now c.in-Some.len _ _ c.in-Some.ensures.longest wrong))
