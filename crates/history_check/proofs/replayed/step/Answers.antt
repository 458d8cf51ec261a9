use Rattle.std.proofs.Common.{Option, None, Result, List, length, ap, sym, ◌∙◌, subst}
use Rattle.std.specs.Prelude.{IfSome}
use Rattle.std.proofs.lemmas.List.{length-set}
use Rattle.history_check.specs.Outcomes.{IsJudged}
use Rattle.history_check.specs.Players.{ComesTo, Plays}
use Rattle.history_check.specs.declared.outcome.Outcome.{Outcome}
use Rattle.history_check.specs.declared.player.Player.{Player}
use Rattle.history_check.specs.declared.verdict.BreachRule.{BreachRule}
use Rattle.history_check.proofs.Judging.{differs, found, has_turns, may_take, may_try, no_action, other_call, taken}
use Rattle.history_check.proofs.replayed.step.Goals as goal

pub returns-then-player-line : goal.returns-then-player-line
returns-then-player-line g c = λ lines f.
    let m = c.args.program.now in
    let line = c.args.line.now in
    let r = c.args.replayed.now in
    let k = found g.row.P-State.Denot (g.P.Processor.stands m) (g.P.Processor.halted m) (g.P.Performer.performs m) (g.P.Processor.computes m) (g.P.Performer.fits_state m) (g.P.Performer.fits_args m) (g.P.Performer.fits_text m) (g.P.Performer.fits_reply m) lines line r f c.in-Some.player (sym c.take_at.ensures.taken ∙ c.in-Some.is) in
    other_call g.row.P-State.Denot (g.P.Processor.stands m) (g.P.Processor.halted m) (g.P.Performer.performs m) (g.P.Processor.computes m) (g.P.Performer.fits_state m) (g.P.Performer.fits_args m) (g.P.Performer.fits_text m) (g.P.Performer.fits_reply m) lines line r f c.in-Some.player k c.if-player-line.true

pub come_to-requires : goal.come_to-requires
come_to-requires g c =
    let m = c.args.program.now in
    let line = c.args.line.now in
    let r = c.args.replayed.now in
    let lines = c.requires.0 in
    let f = c.requires.2 in
    let k = found g.row.P-State.Denot (g.P.Processor.stands m) (g.P.Processor.halted m) (g.P.Performer.performs m) (g.P.Processor.computes m) (g.P.Performer.fits_state m) (g.P.Performer.fits_args m) (g.P.Performer.fits_text m) (g.P.Performer.fits_reply m) lines line r f c.in-Some.player (sym c.take_at.ensures.taken ∙ c.in-Some.is) in
    has_turns g.row.P-State.Denot (g.P.Processor.stands m) (g.P.Processor.halted m) (g.P.Performer.performs m) (g.P.Processor.computes m) (g.P.Performer.fits_state m) (g.P.Performer.fits_args m) (g.P.Performer.fits_text m) (g.P.Performer.fits_reply m) lines line r f c.in-Some.player k

pub returns-in_default-2 : goal.returns-in_default-2
returns-in_default-2 g c = λ lines f.
    let m = c.args.program.now in
    let line = c.args.line.now in
    let r = c.args.replayed.now in
    let k = found g.row.P-State.Denot (g.P.Processor.stands m) (g.P.Processor.halted m) (g.P.Performer.performs m) (g.P.Processor.computes m) (g.P.Performer.fits_state m) (g.P.Performer.fits_args m) (g.P.Performer.fits_text m) (g.P.Performer.fits_reply m) lines line r f c.in-Some.player (sym c.take_at.ensures.taken ∙ c.in-Some.is) in
    no_action g.row.P-State.Denot (g.P.Processor.stands m) (g.P.Processor.halted m) (g.P.Performer.performs m) (g.P.Processor.computes m) (g.P.Performer.fits_state m) (g.P.Performer.fits_args m) (g.P.Performer.fits_text m) (g.P.Performer.fits_reply m) lines line r f c.in-Some.player k c.if-player-line.false
    (subst (λ (o : Option g.row.P-State.Denot). ComesTo (g.P.Processor.computes m) (g.P.Processor.stands m) c.in-Some.player.state line.action o) c.in_default-2.is (c.in_ok-state.ensures {u = tt}).comes)

pub outcome_of-requires : goal.outcome_of-requires
outcome_of-requires g c =
    let m = c.args.program.now in
    let line = c.args.line.now in
    let r = c.args.replayed.now in
    let lines = c.requires.0 in
    let f = c.requires.2 in
    let k = found g.row.P-State.Denot (g.P.Processor.stands m) (g.P.Processor.halted m) (g.P.Performer.performs m) (g.P.Processor.computes m) (g.P.Performer.fits_state m) (g.P.Performer.fits_args m) (g.P.Performer.fits_text m) (g.P.Performer.fits_reply m) lines line r f c.in-Some.player (sym c.take_at.ensures.taken ∙ c.in-Some.is) in
    let comes = subst (λ (o : Option g.row.P-State.Denot). ComesTo (g.P.Processor.computes m) (g.P.Processor.stands m) c.in-Some.player.state line.action o) c.in-Some-2.is (c.in_ok-state.ensures {u = tt}).comes in
    let fits = c.histories_fit.ensures lines f.legal in
    may_try g.row.P-State.Denot (g.P.Processor.stands m) (g.P.Processor.halted m) (g.P.Performer.performs m) (g.P.Processor.computes m) (g.P.Performer.fits_state m) (g.P.Performer.fits_args m) (g.P.Performer.fits_text m) (g.P.Performer.fits_reply m) lines line r f c.in-Some.player k c.if-player-line.false c.in-Some-2.state comes fits

pub perform-requires : goal.perform-requires
perform-requires g c =
    let m = c.args.program.now in
    let line = c.args.line.now in
    let r = c.args.replayed.now in
    let lines = c.requires.0 in
    let f = c.requires.2 in
    let k = found g.row.P-State.Denot (g.P.Processor.stands m) (g.P.Processor.halted m) (g.P.Performer.performs m) (g.P.Processor.computes m) (g.P.Performer.fits_state m) (g.P.Performer.fits_args m) (g.P.Performer.fits_text m) (g.P.Performer.fits_reply m) lines line r f c.in-Some.player (sym c.take_at.ensures.taken ∙ c.in-Some.is) in
    let comes = subst (λ (o : Option g.row.P-State.Denot). ComesTo (g.P.Processor.computes m) (g.P.Processor.stands m) c.in-Some.player.state line.action o) c.in-Some-2.is (c.in_ok-state.ensures {u = tt}).comes in
    let fits = c.histories_fit.ensures lines f.legal in
    let j = subst (λ (u : Result Outcome BreachRule). IsJudged c.in_ok-outcome.outcome line u) c.in-Ok.is c.judged.ensures in
    let is = sym j.0 ∙ (c.in_ok-outcome.ensures {u = tt}) in
    may_take g.row.P-State.Denot (g.P.Processor.stands m) (g.P.Processor.halted m) (g.P.Performer.performs m) (g.P.Processor.computes m) (g.P.Performer.fits_state m) (g.P.Performer.fits_args m) (g.P.Performer.fits_text m) (g.P.Performer.fits_reply m) lines line r f c.in-Some.player k c.if-player-line.false c.in-Some-2.state comes fits c.in-Ok.outcome is j.1 j.2 c.histories_fit.ensures c.requires.1 (record { objects = r.objects; players = c.take_at.new.slots })
    (ap (λ (l : List (Option (Player g.row.P-State.Denot))). length l) c.take_at.ensures.rest ∙ length-set r.players.items line.process.0 None)
    (subst (λ (o : Option g.row.P-State.Denot). IfSome o (λ s. g.P.Processor.halted m s line.action)) c.in-Some-2.is (c.in_ok-state.ensures {u = tt}).left)

pub returns-in_ok-perform-in-Ok : goal.returns-in_ok-perform-in-Ok
returns-in_ok-perform-in-Ok g c = λ lines f.
    let m = c.args.program.now in
    let line = c.args.line.now in
    let r = c.args.replayed.now in
    let k = found g.row.P-State.Denot (g.P.Processor.stands m) (g.P.Processor.halted m) (g.P.Performer.performs m) (g.P.Processor.computes m) (g.P.Performer.fits_state m) (g.P.Performer.fits_args m) (g.P.Performer.fits_text m) (g.P.Performer.fits_reply m) lines line r f c.in-Some.player (sym c.take_at.ensures.taken ∙ c.in-Some.is) in
    let comes = subst (λ (o : Option g.row.P-State.Denot). ComesTo (g.P.Processor.computes m) (g.P.Processor.stands m) c.in-Some.player.state line.action o) c.in-Some-2.is (c.in_ok-state.ensures {u = tt}).comes in
    let fits = c.histories_fit.ensures lines f.legal in
    let j = subst (λ (u : Result Outcome BreachRule). IsJudged c.in_ok-outcome.outcome line u) c.in-Ok.is c.judged.ensures in
    let is = sym j.0 ∙ (c.in_ok-outcome.ensures {u = tt}) in
    taken g.row.P-State.Denot (g.P.Processor.stands m) (g.P.Processor.halted m) (g.P.Performer.performs m) (g.P.Processor.computes m) (g.P.Performer.fits_state m) (g.P.Performer.fits_args m) (g.P.Performer.fits_text m) (g.P.Performer.fits_reply m) lines line r f c.in-Some.player k c.if-player-line.false c.in-Some-2.state comes fits c.in-Ok.outcome is j.1 j.2 c.perform.new.replayed (c.in_ok-perform-in-Ok.ensures {u = tt}).objects
    (subst (λ (l : List (Option (Player g.row.P-State.Denot))). Plays (g.P.Processor.stands m) line c.in-Some-2.state c.in-Ok.outcome.reply l c.perform.new.replayed.players.items) c.take_at.ensures.rest (c.in_ok-perform-in-Ok.ensures {u = tt}).players)

pub returns-in-Err : goal.returns-in-Err
returns-in-Err g c = λ lines f.
    let m = c.args.program.now in
    let line = c.args.line.now in
    let r = c.args.replayed.now in
    let k = found g.row.P-State.Denot (g.P.Processor.stands m) (g.P.Processor.halted m) (g.P.Performer.performs m) (g.P.Processor.computes m) (g.P.Performer.fits_state m) (g.P.Performer.fits_args m) (g.P.Performer.fits_text m) (g.P.Performer.fits_reply m) lines line r f c.in-Some.player (sym c.take_at.ensures.taken ∙ c.in-Some.is) in
    let comes = subst (λ (o : Option g.row.P-State.Denot). ComesTo (g.P.Processor.computes m) (g.P.Processor.stands m) c.in-Some.player.state line.action o) c.in-Some-2.is (c.in_ok-state.ensures {u = tt}).comes in
    let fits = c.histories_fit.ensures lines f.legal in
    differs g.row.P-State.Denot (g.P.Processor.stands m) (g.P.Processor.halted m) (g.P.Performer.performs m) (g.P.Processor.computes m) (g.P.Performer.fits_state m) (g.P.Performer.fits_args m) (g.P.Performer.fits_text m) (g.P.Performer.fits_reply m) lines line r f c.in-Some.player k c.if-player-line.false c.in-Some-2.state comes fits c.in_ok-outcome.outcome (c.in_ok-outcome.ensures {u = tt}) c.in-Err.rule
    (subst (λ (u : Result Outcome BreachRule). IsJudged c.in_ok-outcome.outcome line u) c.in-Err.is c.judged.ensures)
