use Rattle.std.proofs.Common.{◌-◌, ◌∙◌, ◌++◌, ◌∷◌, [], List, ap, refl, arith, length}
use Rattle.net_rules.specs.declared.asked.Asked.{Asked}
use Rattle.net_rules.specs.declared.fate.Fate.{Fate}
use Rattle.world_parts.specs.declared.parts.Parts.{Parts}
use Rattle.world_core.specs.Closing.{asked_all}
use Rattle.world_core.proofs.Adding.{taken_length}
use Rattle.world_core.proofs.Asking.{MayClose, done_possible, idle_small, may_close, may_end, may_leave, room_stands}
use Rattle.world_core.proofs.Closed.{Calls, done_as, ended_others, step_done, step_fewer, step_keeps, step_outs, step_stands}
use Rattle.world_core.proofs.Doing.{Here}
use Rattle.world_core.proofs.step.does.Goals as goal

pub idle_after-idle-requires : goal.idle_after-idle-requires
idle_after-idle-requires g c =
    let small = idle_small g.P.OneRun.stood g.P.OneRun.left g.P.OneRun.run.frame c.args.parts.now c.requires.stands.world c.requires.stands c.requires.stands.is (c.requires.going c.requires.stands.world c.requires.stands.is) in
    omega (arith, small, c.make_room.ensures.same.idle)

pub leave_net-requires : goal.leave_net-requires
leave_net-requires g c =
    let w = c.requires.stands.world in
    let d = (c.in_ok-draft.ensures {u = tt}).drafts w c.requires.stands.is in
    let here : Here g.P.OneRun.stood g.P.OneRun.left g.P.OneRun.run.frame c.args.parts.now w c.args.event d.0 = record { stands = c.requires.stands; is = c.requires.stands.is; going = c.requires.going w c.requires.stands.is; possible = d.1 } in
    may_leave g.P.OneRun.stood g.P.OneRun.left g.P.OneRun.run.frame c.args.parts.now c.make_room.new.parts w c.args.event d.0 here c.make_room.ensures.same

pub close-fates-requires-clause-members : goal.close-fates-requires-clause-members
close-fates-requires-clause-members g c =
    let w = c.requires.stands.world in
    let d = (c.in_ok-draft.ensures {u = tt}).drafts w c.requires.stands.is in
    let here : Here g.P.OneRun.stood g.P.OneRun.left g.P.OneRun.run.frame c.args.parts.now w c.args.event d.0 = record { stands = c.requires.stands; is = c.requires.stands.is; going = c.requires.going w c.requires.stands.is; possible = d.1 } in
    let may : MayClose c.in_ok-draft.draft c.leave_net.new.parts = may_close g.P.OneRun.stood g.P.OneRun.left g.P.OneRun.run.frame c.args.parts.now c.make_room.new.parts c.leave_net.new.parts w c.args.event d.0 c.in_ok-draft.draft here d.2 c.make_room.ensures.same c.leave_net.ensures (c.in_ok-fates.ensures {u = tt}).few in
    may.members

pub close-fates-requires-clause-twins : goal.close-fates-requires-clause-twins
close-fates-requires-clause-twins g c =
    let w = c.requires.stands.world in
    let d = (c.in_ok-draft.ensures {u = tt}).drafts w c.requires.stands.is in
    let here : Here g.P.OneRun.stood g.P.OneRun.left g.P.OneRun.run.frame c.args.parts.now w c.args.event d.0 = record { stands = c.requires.stands; is = c.requires.stands.is; going = c.requires.going w c.requires.stands.is; possible = d.1 } in
    let may : MayClose c.in_ok-draft.draft c.leave_net.new.parts = may_close g.P.OneRun.stood g.P.OneRun.left g.P.OneRun.run.frame c.args.parts.now c.make_room.new.parts c.leave_net.new.parts w c.args.event d.0 c.in_ok-draft.draft here d.2 c.make_room.ensures.same c.leave_net.ensures (c.in_ok-fates.ensures {u = tt}).few in
    may.twins

pub close-fates-requires-clause-below : goal.close-fates-requires-clause-below
close-fates-requires-clause-below g c =
    let w = c.requires.stands.world in
    let d = (c.in_ok-draft.ensures {u = tt}).drafts w c.requires.stands.is in
    let here : Here g.P.OneRun.stood g.P.OneRun.left g.P.OneRun.run.frame c.args.parts.now w c.args.event d.0 = record { stands = c.requires.stands; is = c.requires.stands.is; going = c.requires.going w c.requires.stands.is; possible = d.1 } in
    let may : MayClose c.in_ok-draft.draft c.leave_net.new.parts = may_close g.P.OneRun.stood g.P.OneRun.left g.P.OneRun.run.frame c.args.parts.now c.make_room.new.parts c.leave_net.new.parts w c.args.event d.0 c.in_ok-draft.draft here d.2 c.make_room.ensures.same c.leave_net.ensures (c.in_ok-fates.ensures {u = tt}).few in
    may.below

pub close-fates-requires-clause-small : goal.close-fates-requires-clause-small
close-fates-requires-clause-small g c =
    let w = c.requires.stands.world in
    let d = (c.in_ok-draft.ensures {u = tt}).drafts w c.requires.stands.is in
    let here : Here g.P.OneRun.stood g.P.OneRun.left g.P.OneRun.run.frame c.args.parts.now w c.args.event d.0 = record { stands = c.requires.stands; is = c.requires.stands.is; going = c.requires.going w c.requires.stands.is; possible = d.1 } in
    let may : MayClose c.in_ok-draft.draft c.leave_net.new.parts = may_close g.P.OneRun.stood g.P.OneRun.left g.P.OneRun.run.frame c.args.parts.now c.make_room.new.parts c.leave_net.new.parts w c.args.event d.0 c.in_ok-draft.draft here d.2 c.make_room.ensures.same c.leave_net.ensures (c.in_ok-fates.ensures {u = tt}).few in
    may.small

pub close-fates-requires-clause-entries : goal.close-fates-requires-clause-entries
close-fates-requires-clause-entries g c =
    omega (arith, (c.in_ok-fates.ensures {u = tt}).entries, ap (λ (p : Parts g.row.P.Denot g.row.P-State.Denot). p.ledger.entry_room) c.leave_net.ensures.others)

pub close-fates-requires-clause-pieces : goal.close-fates-requires-clause-pieces
close-fates-requires-clause-pieces g c =
    omega (arith, (c.in_ok-fates.ensures {u = tt}).pieces, ap (λ (p : Parts g.row.P.Denot g.row.P-State.Denot). p.ledger.piece_room) c.leave_net.ensures.others)

pub close-fates-requires-clause-net : goal.close-fates-requires-clause-net
close-fates-requires-clause-net g c =
    omega (arith, (c.in_ok-fates.ensures {u = tt}).net, c.leave_net.ensures.spare)

pub close-fates-requires-clause-wires : goal.close-fates-requires-clause-wires
close-fates-requires-clause-wires g c =
    (c.in_ok-fates.ensures {u = tt}).wires

pub close-fates-requires-clause-fates : goal.close-fates-requires-clause-fates
close-fates-requires-clause-fates g c =
    (c.in_ok-fates.ensures {u = tt}).fates

pub end_tasks-requires : goal.end_tasks-requires
end_tasks-requires g c =
    let w = c.requires.stands.world in
    let d = (c.in_ok-draft.ensures {u = tt}).drafts w c.requires.stands.is in
    let here : Here g.P.OneRun.stood g.P.OneRun.left g.P.OneRun.run.frame c.args.parts.now w c.args.event d.0 = record { stands = c.requires.stands; is = c.requires.stands.is; going = c.requires.going w c.requires.stands.is; possible = d.1 } in
    may_end g.P.OneRun.stood g.P.OneRun.left g.P.OneRun.run.frame c.args.parts.now c.close-fates.new.parts w c.args.event d.0 here
    (ap length c.close-fates.ensures.closed.nodes ∙ taken_length c.in_ok-draft.draft.parts.items c.leave_net.new.parts.nodes.items
    ∙ ap (λ (p : Parts g.row.P.Denot g.row.P-State.Denot). length p.nodes.items) c.leave_net.ensures.others ∙ ap length c.make_room.ensures.same.nodes ∙ c.requires.stands.is.members)

pub push_step-requires : goal.push_step-requires
push_step-requires g c =
    omega (
      arith,
      (c.in_ok-fates.ensures {u = tt}).steps,
      ap (λ (p : Parts g.row.P.Denot g.row.P-State.Denot). p.ledger.step_room) c.leave_net.ensures.others,
      c.close-fates.ensures.closed.step_room,
      ap (λ (p : Parts g.row.P.Denot g.row.P-State.Denot). p.ledger.step_room) (ended_others g.P.OneRun.stood g.P.OneRun.left c.args.event c.close-fates.new.parts c.end_tasks.new.parts c.end_tasks.ensures),
    )

pub returns-clause-stands : goal.returns-clause-stands
returns-clause-stands g c =
    let calls : Calls g.P.OneRun.stood g.P.OneRun.left c.args.event c.in_ok-draft.draft c.close-fates.result.items c.args.parts.now c.make_room.new.parts c.leave_net.new.parts c.close-fates.new.parts c.end_tasks.new.parts (done_as c.end_tasks.new.parts c.idle_after-idle.result c.push_step.new.self) = record {
      room = c.make_room.ensures.same;
      steps = (c.in_ok-fates.ensures {u = tt}).steps;
      pieces = (c.in_ok-fates.ensures {u = tt}).pieces;
      few = (c.in_ok-fates.ensures {u = tt}).few;
      leaves = c.leave_net.ensures;
      closed = c.close-fates.ensures.closed;
      ended = c.end_tasks.ensures;
      numbers = refl;
      nodes = refl;
      lives = refl;
      flights = refl;
      ledger = c.push_step.ensures ∙ ap (λ (l : List Fate). record c.end_tasks.new.parts.ledger { steps = c.end_tasks.new.parts.ledger.steps ++ record { event = c.args.event; fates = l } ∷ []; step_room = c.end_tasks.new.parts.ledger.step_room - 1 }) c.new.ensures;
      sent = refl;
      swaps = refl;
      idle = c.idle_after-idle.ensures;
    } in
    step_stands g.P.OneRun.stood g.P.OneRun.left g.P.OneRun.run.frame c.args.event c.in_ok-draft.draft c.close-fates.result.items c.args.parts.now c.make_room.new.parts c.leave_net.new.parts c.close-fates.new.parts c.end_tasks.new.parts (done_as c.end_tasks.new.parts c.idle_after-idle.result c.push_step.new.self) c.requires.stands (c.requires.going c.requires.stands.world c.requires.stands.is) (c.in_ok-draft.ensures {u = tt}).drafts calls

pub returns-clause-done : goal.returns-clause-done
returns-clause-done g c =
    let calls : Calls g.P.OneRun.stood g.P.OneRun.left c.args.event c.in_ok-draft.draft c.close-fates.result.items c.args.parts.now c.make_room.new.parts c.leave_net.new.parts c.close-fates.new.parts c.end_tasks.new.parts (done_as c.end_tasks.new.parts c.idle_after-idle.result c.push_step.new.self) = record {
      room = c.make_room.ensures.same;
      steps = (c.in_ok-fates.ensures {u = tt}).steps;
      pieces = (c.in_ok-fates.ensures {u = tt}).pieces;
      few = (c.in_ok-fates.ensures {u = tt}).few;
      leaves = c.leave_net.ensures;
      closed = c.close-fates.ensures.closed;
      ended = c.end_tasks.ensures;
      numbers = refl;
      nodes = refl;
      lives = refl;
      flights = refl;
      ledger = c.push_step.ensures ∙ ap (λ (l : List Fate). record c.end_tasks.new.parts.ledger { steps = c.end_tasks.new.parts.ledger.steps ++ record { event = c.args.event; fates = l } ∷ []; step_room = c.end_tasks.new.parts.ledger.step_room - 1 }) c.new.ensures;
      sent = refl;
      swaps = refl;
      idle = c.idle_after-idle.ensures;
    } in
    step_done g.P.OneRun.stood g.P.OneRun.left g.P.OneRun.run.frame c.args.event c.in_ok-draft.draft c.close-fates.result.items c.args.parts.now c.make_room.new.parts c.leave_net.new.parts c.close-fates.new.parts c.end_tasks.new.parts (done_as c.end_tasks.new.parts c.idle_after-idle.result c.push_step.new.self) _ _ c.requires.stands c.requires.going (c.in_ok-draft.ensures {u = tt}).drafts calls (c.close-fates.ensures.told ∙ ap (λ (l : List Asked). l ++ asked_all c.leave_net.new.parts.sent c.in_ok-draft.draft.outgoing.items c.close-fates.result.items) c.make_room.ensures.told)

pub returns-clause-enabled : goal.returns-clause-enabled
returns-clause-enabled g c refused =
    absurd (done_possible g.P.OneRun.stood g.P.OneRun.left g.P.OneRun.run.frame c.args.parts.now c.args.event c.in_ok-draft.draft c.requires.stands (c.requires.going c.requires.stands.world c.requires.stands.is) (c.in_ok-draft.ensures {u = tt}).drafts refused)

pub returns-clause-tasks : goal.returns-clause-tasks
returns-clause-tasks g c =
    let calls : Calls g.P.OneRun.stood g.P.OneRun.left c.args.event c.in_ok-draft.draft c.close-fates.result.items c.args.parts.now c.make_room.new.parts c.leave_net.new.parts c.close-fates.new.parts c.end_tasks.new.parts (done_as c.end_tasks.new.parts c.idle_after-idle.result c.push_step.new.self) = record {
      room = c.make_room.ensures.same;
      steps = (c.in_ok-fates.ensures {u = tt}).steps;
      pieces = (c.in_ok-fates.ensures {u = tt}).pieces;
      few = (c.in_ok-fates.ensures {u = tt}).few;
      leaves = c.leave_net.ensures;
      closed = c.close-fates.ensures.closed;
      ended = c.end_tasks.ensures;
      numbers = refl;
      nodes = refl;
      lives = refl;
      flights = refl;
      ledger = c.push_step.ensures ∙ ap (λ (l : List Fate). record c.end_tasks.new.parts.ledger { steps = c.end_tasks.new.parts.ledger.steps ++ record { event = c.args.event; fates = l } ∷ []; step_room = c.end_tasks.new.parts.ledger.step_room - 1 }) c.new.ensures;
      sent = refl;
      swaps = refl;
      idle = c.idle_after-idle.ensures;
    } in
    step_outs g.P.OneRun.stood g.P.OneRun.left g.P.OneRun.run.frame c.args.event c.in_ok-draft.draft c.close-fates.result.items c.args.parts.now c.make_room.new.parts c.leave_net.new.parts c.close-fates.new.parts c.end_tasks.new.parts (done_as c.end_tasks.new.parts c.idle_after-idle.result c.push_step.new.self) c.requires.stands (c.requires.going c.requires.stands.world c.requires.stands.is) (c.in_ok-draft.ensures {u = tt}).drafts calls

pub returns-clause-out : goal.returns-clause-out
returns-clause-out g c =
    let calls : Calls g.P.OneRun.stood g.P.OneRun.left c.args.event c.in_ok-draft.draft c.close-fates.result.items c.args.parts.now c.make_room.new.parts c.leave_net.new.parts c.close-fates.new.parts c.end_tasks.new.parts (done_as c.end_tasks.new.parts c.idle_after-idle.result c.push_step.new.self) = record {
      room = c.make_room.ensures.same;
      steps = (c.in_ok-fates.ensures {u = tt}).steps;
      pieces = (c.in_ok-fates.ensures {u = tt}).pieces;
      few = (c.in_ok-fates.ensures {u = tt}).few;
      leaves = c.leave_net.ensures;
      closed = c.close-fates.ensures.closed;
      ended = c.end_tasks.ensures;
      numbers = refl;
      nodes = refl;
      lives = refl;
      flights = refl;
      ledger = c.push_step.ensures ∙ ap (λ (l : List Fate). record c.end_tasks.new.parts.ledger { steps = c.end_tasks.new.parts.ledger.steps ++ record { event = c.args.event; fates = l } ∷ []; step_room = c.end_tasks.new.parts.ledger.step_room - 1 }) c.new.ensures;
      sent = refl;
      swaps = refl;
      idle = c.idle_after-idle.ensures;
    } in
    step_keeps g.P.OneRun.stood g.P.OneRun.left g.P.OneRun.run.frame c.args.event c.in_ok-draft.draft c.close-fates.result.items c.args.parts.now c.make_room.new.parts c.leave_net.new.parts c.close-fates.new.parts c.end_tasks.new.parts (done_as c.end_tasks.new.parts c.idle_after-idle.result c.push_step.new.self) c.requires.stands (c.in_ok-draft.ensures {u = tt}).drafts calls

pub returns-clause-fewer : goal.returns-clause-fewer
returns-clause-fewer g c =
    let calls : Calls g.P.OneRun.stood g.P.OneRun.left c.args.event c.in_ok-draft.draft c.close-fates.result.items c.args.parts.now c.make_room.new.parts c.leave_net.new.parts c.close-fates.new.parts c.end_tasks.new.parts (done_as c.end_tasks.new.parts c.idle_after-idle.result c.push_step.new.self) = record {
      room = c.make_room.ensures.same;
      steps = (c.in_ok-fates.ensures {u = tt}).steps;
      pieces = (c.in_ok-fates.ensures {u = tt}).pieces;
      few = (c.in_ok-fates.ensures {u = tt}).few;
      leaves = c.leave_net.ensures;
      closed = c.close-fates.ensures.closed;
      ended = c.end_tasks.ensures;
      numbers = refl;
      nodes = refl;
      lives = refl;
      flights = refl;
      ledger = c.push_step.ensures ∙ ap (λ (l : List Fate). record c.end_tasks.new.parts.ledger { steps = c.end_tasks.new.parts.ledger.steps ++ record { event = c.args.event; fates = l } ∷ []; step_room = c.end_tasks.new.parts.ledger.step_room - 1 }) c.new.ensures;
      sent = refl;
      swaps = refl;
      idle = c.idle_after-idle.ensures;
    } in
    step_fewer g.P.OneRun.stood g.P.OneRun.left g.P.OneRun.run.frame c.args.event c.in_ok-draft.draft c.close-fates.result.items c.args.parts.now c.make_room.new.parts c.leave_net.new.parts c.close-fates.new.parts c.end_tasks.new.parts (done_as c.end_tasks.new.parts c.idle_after-idle.result c.push_step.new.self) c.requires.stands (c.requires.going c.requires.stands.world c.requires.stands.is) (c.in_ok-draft.ensures {u = tt}).drafts calls

pub returns-in_err-fates-clause-stands : goal.returns-in_err-fates-clause-stands
returns-in_err-fates-clause-stands g c = room_stands g.P.OneRun.stood g.P.OneRun.left g.P.OneRun.run.frame c.args.parts.now c.make_room.new.parts c.make_room.ensures.same c.requires.stands
