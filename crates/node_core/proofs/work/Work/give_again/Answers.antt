use Rattle.std.proofs.Common.{◌∙◌, ℕ, ap, sym}
use Rattle.std.specs.Option.{option_copied}
use Rattle.world_rules.specs.Mail.{errand_packet}
use Rattle.world_rules.specs.Mail.Errand.{Answer}
use Rattle.node_core.proofs.Calling.{gives_none, gives_some}
use Rattle.node_core.proofs.Working.{ok_map, ok_so}
use Rattle.node_core.proofs.Keeping.{keeps_none, keeps_same}
use Rattle.node_core.proofs.work.Work.give_again.Goals as goal

pub returns-in-None-clause-does : goal.returns-in-None-clause-does
returns-in-None-clause-does g c = λ f m v work.
    gives_none g.P.OneRun.stood g.P.OneRun.left f m c.args.process c.args.self.now v (sym c.answer_to.ensures ∙ ap option_copied c.in-None.is) work

pub returns-clause-does : goal.returns-clause-does
returns-clause-does g c =
    let given = c.in-Some.given.now in
    ok_map c.send.result _ _
    (λ posts f m v work.
    gives_some g.P.OneRun.stood g.P.OneRun.left f m c.home_of-home.result c.args.process given c.in_ok-packet-in-Some.packet c.args.self.now c.send.new.self v
    (sym c.answer_to.ensures ∙ ap option_copied c.in-Some.is) c.home_of-home.ensures
    (c.in_ok-packet-in-Some.ensures {u = tt} ∙ ap (λ (k : ℕ). errand_packet k (Answer given.place c.args.process given.call given.reply)) c.installed-incarnation.ensures)
    c.send.ensures.node posts c.send.ensures.others work)
    c.send.ensures.sends

pub returns-in-None-clause-tasks : goal.returns-in-None-clause-tasks
returns-in-None-clause-tasks g c = keeps_none _ _

pub returns-clause-tasks : goal.returns-clause-tasks
returns-clause-tasks g c = ok_so c.send.result _ (keeps_same _ _ _ c.send.ensures.node)
