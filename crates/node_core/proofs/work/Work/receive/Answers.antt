use Rattle.std.proofs.Common.{Option, ap, sym, subst, refl, ◌∙◌}
use Rattle.std.specs.Option.{option_copied}
use Rattle.node_core.specs.Pieces.{MayBeHanded}
use Rattle.world_rules.specs.Played.{receives}
use Rattle.node_parts.specs.declared.resident.Resident.{Resident}
use Rattle.node_core.proofs.Working.{ok_map, played}
use Rattle.node_core.proofs.Keeping.{handed_waits, keeps_none, keeps_put}
use Rattle.node_core.proofs.work.Work.receive.Goals as goal

pub replied-requires : goal.replied-requires
replied-requires g c =
    subst (λ (o : Option (Resident g.row.P-State.Denot)). MayBeHanded g.P.OneRun.stood g.P.OneRun.left (g.P.Performer.fits_reply c.args.machine.now) c.args.process c.args.reply.now o)
    (sym c.resident.ensures ∙ ap option_copied c.in-Some.is) c.requires

pub returns-clause-does : goal.returns-clause-does
returns-clause-does g c =
    ok_map c.put.result _ _
    (λ put f m v work.
    played g.P.OneRun.stood g.P.OneRun.left f m c.args.process (receives c.args.place c.args.reply.now) c.in-Some.resident.now c.in_ok-after-in-Some.after c.args.self.now _ v
    (sym c.resident.ensures ∙ ap option_copied c.in-Some.is) (λ r is. (c.in_ok-after-in-Some.ensures {u = tt}).received c.args.process r is) put refl work)
    c.put.ensures

pub returns-in-None-clause-tasks : goal.returns-in-None-clause-tasks
returns-in-None-clause-tasks g c = keeps_none _ _

pub returns-clause-tasks : goal.returns-clause-tasks
returns-clause-tasks g c =
    ok_map c.put.result _ _
    (λ put.
    keeps_put c.args.self.now.node.copies.processes c.args.process c.in_ok-after-in-Some.after c.args.self.now.node _ put (c.in_ok-after-in-Some.ensures {u = tt}).out
    (λ s below is. handed_waits g.P.OneRun.stood g.P.OneRun.left (g.P.Performer.fits_reply c.args.machine.now) c.args.process c.args.reply.now _ s c.requires is))
    c.put.ensures
