use Rattle.std.proofs.Common.{◌-◌, subst}
use Rattle.std.proofs.lemmas.Result.{IfOk-weaker}
use Rattle.value_core.specs.Datum.{list_of}
use Rattle.value_core.specs.View.{datum_of}
use Rattle.code_steps.specs.Pops.{Pops}
use Rattle.code_steps.proofs.Popping.{pops_more}
use Rattle.code_steps.proofs.operands.Operands.+pop_before.Goals as goal

pub returns-in_ok-insert-in-Some : goal.returns-in_ok-insert-in-Some
returns-in_ok-insert-in-Some t c =
    let x = datum_of c.in-Some.value in
    let front = list_of c.args.values.now in
    let rest = c.pop.new.self in
    let new = c.pop_before.new.self in
    let values = list_of c.pop_before.new.values in
    IfOk-weaker c.pop_before.result _ _
    (λ done h. pops_more c.args.count x c.args.self.now rest front new values done c.if-count-eq0.false (c.in-Some.ensures {u = tt})
    (subst (λ xs. Pops (c.args.count - 1) rest xs done new values) (c.in_ok-insert-in-Some.ensures {u = tt}).ok h))
    c.pop_before.ensures
