use Rattle.std.proofs.Common.{◌++◌, ◌∷◌, [], ap, sym, subst, ◌∙◌}
use Rattle.std.proofs.lemmas.Result.{IfOk-weaker}
use Rattle.value_core.specs.declared.action.Reply.{Reply}
use Rattle.value_core.specs.declared.meaning.Doing.TheVariants as doing
use Rattle.value_core.specs.Lawful.{FitsAction}
use Rattle.node_core.proofs.Playing.{left_waiting, received}
use Rattle.node_core.proofs.work.replied.Goals as goal

-- the copied state is the resident's
pub reply-state-requires-clause-stands : goal.reply-state-requires-clause-stands
reply-state-requires-clause-stands g c =
    let m = c.args.machine.now in
    let r = c.requires.played in
    let same = c.in_ok-state.ensures {u = tt} ∙ c.value.ensures in (
      r.text,
      record { 0 = c.requires.number },
      r.args,
      r.replies,
      r.turns,
      subst (λ (s : g.row.P-State.Denot). g.P.Processor.stands m s r.text (record { 0 = c.requires.number }) r.args r.replies r.turns) (sym same)
          (g.met.P.OneRun.stood_stands m c.args.resident.now.state r.text (record { 0 = c.requires.number }) r.args r.replies r.turns c.requires.is.state),
    )

pub reply-state-requires-clause-fits : goal.reply-state-requires-clause-fits
reply-state-requires-clause-fits g c =
    let m = c.args.machine.now in
    let act = c.requires.act in
    let same = c.in_ok-state.ensures {u = tt} ∙ c.value.ensures in (
      act,
      subst (λ (s : g.row.P-State.Denot). g.P.Processor.halted m s act) (sym same)
          (g.met.P.OneRun.left_halted m c.args.resident.now.state act
          (left_waiting g.P.OneRun.left c.args.resident.now.state c.requires.played.stage act c.requires.may.waits c.requires.is.halts)),
      subst (λ (x : Reply). FitsAction (g.P.Performer.fits_reply m) (doing.At act) x) (sym (c.in_ok-copy.ensures {u = tt})) c.requires.may.fits,
    )

pub returns-clause-received : goal.returns-clause-received
returns-clause-received g c =
    let m = c.args.machine.now in
    let same = c.in_ok-state.ensures {u = tt} ∙ c.value.ensures in
    IfOk-weaker c.after_reply.result _ _
    (λ after is i r played.
    received g.P.OneRun.stood g.P.OneRun.left c.args.place i c.args.reply.now c.args.resident.now after r played
    (subst (λ (s : g.row.P-State.Denot). g.P.OneRun.stood s r.text (record { 0 = i }) r.args (r.replies ++ c.args.reply.now ∷ []) r.turns) (sym (ap (λ a. a.state) is))
    (g.met.P.OneRun.stands_stood m c.reply-state.result r.text (record { 0 = i }) r.args (r.replies ++ c.args.reply.now ∷ []) r.turns
    (subst (λ (x : Reply). g.P.Processor.stands m c.reply-state.result r.text (record { 0 = i }) r.args (r.replies ++ x ∷ []) r.turns) (c.in_ok-copy.ensures {u = tt})
    (c.reply-state.ensures r.text (record { 0 = i }) r.args r.replies r.turns
    (subst (λ (s : g.row.P-State.Denot). g.P.Processor.stands m s r.text (record { 0 = i }) r.args r.replies r.turns) (sym same)
    (g.met.P.OneRun.stood_stands m c.args.resident.now.state r.text (record { 0 = i }) r.args r.replies r.turns played.state))))))
    (ap (λ a. a.turns) is) (ap (λ a. a.place) is) (ap (λ a. a.calls) is) (ap (λ a. a.stage) is))
    c.after_reply.ensures

pub returns-clause-out : goal.returns-clause-out
returns-clause-out g c = IfOk-weaker c.after_reply.result _ _ (λ after is. ap (λ a. a.out) is) c.after_reply.ensures
