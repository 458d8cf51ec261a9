use Rattle.std.proofs.Common.{◌∙◌, ap, sym, subst}
use Rattle.node_core.specs.Events.{HasCome}
use Rattle.node_core.specs.Stands.{fitness_of}
use Rattle.node_core.specs.declared.node.Node.{Node}
use Rattle.node_core.proofs.Delivering.{Wire, come_answer, come_ask, come_grouped, grouped_else, may_be_taken}
use Rattle.node_core.proofs.Working.{ok_map, ok_so}
use Rattle.node_core.proofs.Keeping.{keeps_member}
use Rattle.node_core.proofs.work.Work.take_packet.Goals as goal

pub grouped-requires : goal.grouped-requires
grouped-requires g c =
    let m = c.args.machine.now in
    may_be_taken g.P.OneRun.stood g.P.OneRun.left g.P.OneRun.run.frame
    (fitness_of (g.P.Performer.fits_state m) (g.P.Performer.fits_args m) (g.P.Performer.fits_text m) (g.P.Performer.fits_reply m))
    c.args.from c.args.packet c.args.self.now (grouped_else c.args.packet c.in_default.not-Ask c.in_default.not-Answer) c.requires

pub returns-in-Ask-clause-does : goal.returns-in-Ask-clause-does
returns-in-Ask-clause-does g c =
    let m = c.args.machine.now in
    let f = g.P.OneRun.run.frame in
    let fitness = (fitness_of (g.P.Performer.fits_state m) (g.P.Performer.fits_args m) (g.P.Performer.fits_text m) (g.P.Performer.fits_reply m)) in
    ok_map c.arrive.result _ _
    (λ becomes. subst (λ (p : Wire). HasCome g.P.OneRun.stood g.P.OneRun.left f fitness c.args.from p c.args.self.now c.arrive.new.self) (sym c.in-Ask.is)
    (come_ask g.P.OneRun.stood g.P.OneRun.left f fitness c.args.from _ c.in-Ask.place c.in-Ask.message c.args.self.now c.arrive.new.self becomes))
    c.arrive.ensures.does

pub returns-in-Answer-clause-does : goal.returns-in-Answer-clause-does
returns-in-Answer-clause-does g c =
    let m = c.args.machine.now in
    let f = g.P.OneRun.run.frame in
    let fitness = (fitness_of (g.P.Performer.fits_state m) (g.P.Performer.fits_args m) (g.P.Performer.fits_text m) (g.P.Performer.fits_reply m)) in
    ok_map c.arrive-in-Answer.result _ _
    (λ becomes. subst (λ (p : Wire). HasCome g.P.OneRun.stood g.P.OneRun.left f fitness c.args.from p c.args.self.now c.arrive-in-Answer.new.self) (sym c.in-Answer.is)
    (come_answer g.P.OneRun.stood g.P.OneRun.left f fitness c.args.from _ c.in-Answer.place c.in-Answer.process c.in-Answer.call c.in-Answer.reply
    c.args.self.now c.arrive-in-Answer.new.self becomes))
    c.arrive-in-Answer.ensures.does

pub returns-in_ok-sends-in_default-clause-does : goal.returns-in_ok-sends-in_default-clause-does
returns-in_ok-sends-in_default-clause-does g c =
    let m = c.args.machine.now in
    let node = c.post.ensures.node in
    let member = ap (λ (n : Node g.row.P.Denot g.row.P-State.Denot). n.member) node in
    ok_map c.post.result _ _
    (λ posted. come_grouped g.P.OneRun.stood g.P.OneRun.left g.P.OneRun.run.frame
    (fitness_of (g.P.Performer.fits_state m) (g.P.Performer.fits_args m) (g.P.Performer.fits_text m) (g.P.Performer.fits_reply m))
    c.args.from c.args.packet c.args.self.now c.post.new.self c.in_ok-sends-in_default.sends.items (grouped_else c.args.packet c.in_default.not-Ask c.in_default.not-Answer)
    (rw member (c.in_ok-sends-in_default.ensures {u = tt})) (node ∙ ap (λ x. record c.args.self.now.node { member = x }) (sym member)) c.post.ensures.others posted)
    c.post.ensures.sends

pub returns-in-Ask-clause-tasks : goal.returns-in-Ask-clause-tasks
returns-in-Ask-clause-tasks g c = c.arrive.ensures.tasks

pub returns-in-Answer-clause-tasks : goal.returns-in-Answer-clause-tasks
returns-in-Answer-clause-tasks g c = c.arrive-in-Answer.ensures.tasks

pub returns-in_ok-sends-in_default-clause-tasks : goal.returns-in_ok-sends-in_default-clause-tasks
returns-in_ok-sends-in_default-clause-tasks g c = ok_so c.post.result _ (keeps_member _ _ _ c.post.ensures.node)
