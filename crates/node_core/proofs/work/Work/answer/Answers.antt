use Rattle.std.proofs.Common.{◌∙◌, ◌++◌, ◌∷◌, [], List, ap, sym, subst, refl}
use Rattle.value_core.specs.declared.action.Line.{Line}
use Rattle.world_rules.specs.Applying.{answers}
use Rattle.world_rules.specs.Nodes.{does}
use Rattle.world_rules.specs.Nodes.Deed.{Applies}
use Rattle.node_core.specs.Entries.{MayAnswerHere}
use Rattle.node_core.specs.Pieces.{BecomesIn}
use Rattle.node_core.specs.declared.work.Work.{Work}
use Rattle.node_core.proofs.Answering.{lines_told}
use Rattle.node_core.proofs.work.Work.answer.Goals as goal

pub hand_out-requires : goal.hand_out-requires
hand_out-requires g c =
    subst (λ (l : List Line). MayAnswerHere g.P.OneRun.stood g.P.OneRun.left g.P.OneRun.run.frame (g.P.Performer.fits_reply c.args.machine.now) l c.args.self.now)
    (sym (c.as_slice.ensures.value ∙ c.in_ok-lines.ensures {u = tt})) c.requires

pub returns-clause-does : goal.returns-clause-does
returns-clause-does g c =
    let lines = c.as_slice.ensures.value ∙ c.in_ok-lines.ensures {u = tt} in
    let new : Work g.row.P.Denot g.row.P-State.Denot = record c.hand_out.new.self { moved = record c.hand_out.new.self.moved { entries = c.push.new.self } } in
    subst (λ (l : List Line). BecomesIn g.P.OneRun.stood g.P.OneRun.left g.P.OneRun.run.frame c.args.self.now new (λ m v. answers c.args.self.now.node.copies.applied l (does (Applies l) v))) lines
    (lines_told g.P.OneRun.stood g.P.OneRun.left g.P.OneRun.run.frame c.as_slice.result.now c.args.self.now.node.copies.applied c.args.self.now c.hand_out.new.self new
    (c.in_ok-hand_out.ensures {u = tt}).does refl refl
    ((c.in_ok-push.ensures {u = tt}).items ∙ ap (λ (l : List Line). c.hand_out.new.self.moved.entries.items ++ l ∷ []) (c.new.ensures ∙ sym c.as_slice.ensures.value)))

pub returns-clause-tasks : goal.returns-clause-tasks
returns-clause-tasks g c = (c.in_ok-hand_out.ensures {u = tt}).tasks
