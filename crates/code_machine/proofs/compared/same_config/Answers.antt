use Rattle.std.proofs.Common.{◌≡◌, map, true, sym, ap, ◌∙◌, arith}
use Rattle.std.proofs.lemmas.Bool.{eqb-true}
use Rattle.code_steps.specs.Bodies.{caller_of, number_of}
use Rattle.code_machine.specs.Topped.{topped}
use Rattle.code_machine.proofs.Waiting.{callers_counted}
use Rattle.code_machine.proofs.Standing.{replied_by, waiting_alike}
use Rattle.code_machine.proofs.compared.same_config.Goals.{then-eq, else-eq, then-same_body, else-same_body, then-one-other, else-one-other, then-same_replied, else-same_replied}
use Rattle.code_machine.proofs.compared.same_config.Goals as goal

pub same_callers-requires-clause-one : goal.same_callers-requires-clause-one
same_callers-requires-clause-one c = callers_counted c.args.one.now.callers.items c.deref.result.now c.deref.ensures.value c.requires.one.1

pub same_callers-requires-clause-other : goal.same_callers-requires-clause-other
same_callers-requires-clause-other c = callers_counted c.args.other.now.callers.items c.deref-then-same_frame.result.now c.deref-then-same_frame.ensures.value c.requires.other.1

pub returns-then-same_frame : goal.returns-then-same_frame
returns-then-same_frame c =
    let one = c.args.one.now in
    let other = c.args.other.now in
    let reply = c.args.reply.now in
    let other_reply = c.args.other_reply.now in
    let left = ap (map caller_of) c.deref.ensures.value in
    let right = ap (map caller_of) c.deref-then-same_frame.ensures.value in
    let fourth : (c.if-one-other.value ≡ true) × (one.run.frame ≡ other.run.frame) = elim c.if-same_replied.branch [
      | then-same_replied w ↦ (w.if-same_replied.true, w.same_frame.ensures.0 (sym w.value-is ∙ c.if-same_frame.true))
      | else-same_replied w ↦ absurd (let was = w.value-is in let is = c.if-same_frame.true in grind arith)
    ] in
    let third : (c.if-same_body.value ≡ true) × (topped reply one.stack ≡ topped other_reply other.stack) = elim c.if-one-other.branch [
      | then-one-other w ↦ (w.if-one-other.true, w.same_replied.ensures.0 (sym w.value-is ∙ fourth.0))
      | else-one-other w ↦ absurd (let was = w.value-is in let is = fourth.0 in grind arith)
    ] in
    let second : (c.if-eq.value ≡ true) × (one.pc ≡ other.pc) = elim c.if-same_body.branch [
      | then-same_body w ↦ (w.if-same_body.true, (let equal = w.value-is in let is = third.0 in grind arith))
      | else-same_body w ↦ absurd (let was = w.value-is in let is = third.0 in grind arith)
    ] in
    let first : (one.process ≡ other.process) × (number_of one.body ≡ number_of other.body) = elim c.if-eq.branch [
      | then-eq w ↦ (
        (let same : one.process.0 ≡ other.process.0 = eqb-true one.process.0 other.process.0 (sym c.eq.ensures ∙ w.if-eq.true) in λ i. record { 0 = same i }),
        w.same_body.ensures.0 (sym w.value-is ∙ second.0),
      )
      | else-eq w ↦ absurd (let was = w.value-is in let is = second.0 in grind arith)
    ] in (
      (λ is. replied_by one other reply other_reply first.0 first.1 second.1 third.1 fourth.1 (sym left ∙ c.same_callers.ensures.0 is ∙ right)),
      (λ e. c.same_callers.ensures.1 (left ∙ waiting_alike one other reply other_reply e ∙ sym right)),
    )
