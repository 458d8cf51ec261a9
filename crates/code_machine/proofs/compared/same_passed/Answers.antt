use Rattle.code_machine.proofs.Alike.{lent_alike}
use Rattle.code_machine.proofs.compared.same_passed.Goals as goal

pub returns-then-to-other_to : goal.returns-then-to-other_to
returns-then-to-other_to c =
    lent_alike c.args.one.now c.args.other.now c.in-Lent-Lent.to c.in-Lent-Lent.other_to c.deref.result.now c.deref-then-to-other_to.result.now c.same_path.result
    c.in-Lent-Lent.is-0 c.in-Lent-Lent.is-1 c.if-to-other_to.true c.deref.ensures.value c.deref-then-to-other_to.ensures.value c.same_path.ensures
