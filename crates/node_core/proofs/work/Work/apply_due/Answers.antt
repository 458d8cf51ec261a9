use Rattle.std.proofs.Common.{Option, subst, arith}
use Rattle.value_core.specs.declared.message.Message.{Message}
use Rattle.node_core.specs.Entries.{AppliesNext}
use Rattle.node_core.specs.Stands.{fitness_of}
use Rattle.node_core.proofs.CatchingUp.{far_done, far_more, far_smaller, far_stops, so_far, somewhere_far, told_done, told_stops}
use Rattle.node_core.proofs.TakingEntry.{none_of}
use Rattle.group_member.proofs.Working.{whole_length}
use Rattle.node_core.proofs.Keeping.{keeps_none, keeps_on}
use Rattle.node_core.proofs.work.Work.apply_due.Goals as goal

pub entries-init : goal.entries-init
entries-init g c =
    let m = c.args.machine.now in (
      so_far g.P.OneRun.stood g.P.OneRun.left g.P.OneRun.run.frame (fitness_of (g.P.Performer.fits_state m) (g.P.Performer.fits_args m) (g.P.Performer.fits_text m) (g.P.Performer.fits_reply m)) c.args.self.now c.args.messages.now.items,
      keeps_none _ _,
    )

pub apply_next-requires-clause-somewhere : goal.apply_next-requires-clause-somewhere
apply_next-requires-clause-somewhere g c =
    (let m = c.args.machine.now in somewhere_far g.P.OneRun.stood g.P.OneRun.left g.P.OneRun.run.frame (fitness_of (g.P.Performer.fits_state m) (g.P.Performer.fits_args m) (g.P.Performer.fits_text m) (g.P.Performer.fits_reply m)) c.args.self.now c.entries.self c.args.messages.now.items c.entries.messages.items c.requires c.entries.invariant.0)

pub apply_next-requires-clause-due : goal.apply_next-requires-clause-due
apply_next-requires-clause-due g c = omega arith

pub entries-preserved : goal.entries-preserved
entries-preserved g c =
    let m = c.args.machine.now in (
      far_more g.P.OneRun.stood g.P.OneRun.left g.P.OneRun.run.frame (fitness_of (g.P.Performer.fits_state m) (g.P.Performer.fits_args m) (g.P.Performer.fits_text m) (g.P.Performer.fits_reply m)) c.args.self.now c.entries.self c.apply_next.new.self c.args.messages.now.items c.entries.messages.items c.push.new.self.items c.in-Some.message (λ h which s k stands. whole_length stands) c.entries.invariant.0 (omega arith)
          (subst (λ (o : Option Message). AppliesNext g.P.OneRun.stood g.P.OneRun.left g.P.OneRun.run.frame (fitness_of (g.P.Performer.fits_state m) (g.P.Performer.fits_args m) (g.P.Performer.fits_text m) (g.P.Performer.fits_reply m)) c.entries.self c.apply_next.new.self o) c.in-Some.is (c.in_ok-message.ensures {u = tt}).does)
          (c.in_ok-push.ensures {u = tt}).items,
      keeps_on _ _ _ c.entries.invariant.1 (c.in_ok-message.ensures {u = tt}).tasks,
    )

pub entries-smaller : goal.entries-smaller
entries-smaller g c =
    let m = c.args.machine.now in
    far_smaller g.P.OneRun.stood g.P.OneRun.left g.P.OneRun.run.frame (fitness_of (g.P.Performer.fits_state m) (g.P.Performer.fits_args m) (g.P.Performer.fits_text m) (g.P.Performer.fits_reply m)) c.args.self.now c.entries.self c.apply_next.new.self c.args.messages.now.items c.entries.messages.items c.in-Some.message (λ h which s k stands. whole_length stands) c.requires c.entries.invariant.0 (omega arith)
    (subst (λ (o : Option Message). AppliesNext g.P.OneRun.stood g.P.OneRun.left g.P.OneRun.run.frame (fitness_of (g.P.Performer.fits_state m) (g.P.Performer.fits_args m) (g.P.Performer.fits_text m) (g.P.Performer.fits_reply m)) c.entries.self c.apply_next.new.self o) c.in-Some.is (c.in_ok-message.ensures {u = tt}).does)

pub returns-in_default-clause-does : goal.returns-in_default-clause-does
returns-in_default-clause-does g c =
    let m = c.args.machine.now in
    far_stops g.P.OneRun.stood g.P.OneRun.left g.P.OneRun.run.frame (fitness_of (g.P.Performer.fits_state m) (g.P.Performer.fits_args m) (g.P.Performer.fits_text m) (g.P.Performer.fits_reply m)) c.args.self.now c.entries.self c.apply_next.new.self c.args.messages.now.items c.entries.messages.items (λ h which s k stands. whole_length stands) c.entries.invariant.0 (omega arith)
    (subst (λ (o : Option Message). AppliesNext g.P.OneRun.stood g.P.OneRun.left g.P.OneRun.run.frame (fitness_of (g.P.Performer.fits_state m) (g.P.Performer.fits_args m) (g.P.Performer.fits_text m) (g.P.Performer.fits_reply m)) c.entries.self c.apply_next.new.self o) (none_of _ c.in_default.not-Some) (c.in_ok-message.ensures {u = tt}).does)

pub returns-in_default-clause-gathers : goal.returns-in_default-clause-gathers
returns-in_default-clause-gathers g c =
    let m = c.args.machine.now in
    told_stops g.P.OneRun.stood g.P.OneRun.left g.P.OneRun.run.frame (fitness_of (g.P.Performer.fits_state m) (g.P.Performer.fits_args m) (g.P.Performer.fits_text m) (g.P.Performer.fits_reply m)) c.args.self.now c.entries.self c.apply_next.new.self c.args.messages.now.items c.entries.messages.items (λ h which s k stands. whole_length stands) c.entries.invariant.0 (omega arith)
    (subst (λ (o : Option Message). AppliesNext g.P.OneRun.stood g.P.OneRun.left g.P.OneRun.run.frame (fitness_of (g.P.Performer.fits_state m) (g.P.Performer.fits_args m) (g.P.Performer.fits_text m) (g.P.Performer.fits_reply m)) c.entries.self c.apply_next.new.self o) (none_of _ c.in_default.not-Some) (c.in_ok-message.ensures {u = tt}).does)

pub returns-in_default-clause-tasks : goal.returns-in_default-clause-tasks
returns-in_default-clause-tasks g c = keeps_on _ _ _ c.entries.invariant.1 (c.in_ok-message.ensures {u = tt}).tasks

pub returns-clause-does : goal.returns-clause-does
returns-clause-does g c = (let m = c.args.machine.now in far_done g.P.OneRun.stood g.P.OneRun.left g.P.OneRun.run.frame (fitness_of (g.P.Performer.fits_state m) (g.P.Performer.fits_args m) (g.P.Performer.fits_text m) (g.P.Performer.fits_reply m)) c.args.self.now c.entries.self c.args.messages.now.items c.entries.messages.items c.entries.invariant.0 (omega arith))

pub returns-clause-gathers : goal.returns-clause-gathers
returns-clause-gathers g c = (let m = c.args.machine.now in told_done g.P.OneRun.stood g.P.OneRun.left g.P.OneRun.run.frame (fitness_of (g.P.Performer.fits_state m) (g.P.Performer.fits_args m) (g.P.Performer.fits_text m) (g.P.Performer.fits_reply m)) c.args.self.now c.entries.self c.args.messages.now.items c.entries.messages.items c.entries.invariant.0 (omega arith))

pub returns-clause-tasks : goal.returns-clause-tasks
returns-clause-tasks g c = c.entries.invariant.1
