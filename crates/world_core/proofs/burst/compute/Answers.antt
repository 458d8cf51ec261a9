use Rattle.std.proofs.Common.{◌<◌, ◌-◌, ◌∙◌, length, slice_set, ap, sym, refl, arith}
use Rattle.std.proofs.lemmas.Option.{slice_get_read}
use Rattle.node_core.specs.Stands.{fitness_of}
use Rattle.world_rules.specs.declared.event.Event.TheVariants as event
use Rattle.world_parts.proofs.Worlds.{home_within}
use Rattle.world_parts.specs.Recorded.{Recorded}
use Rattle.world_parts.specs.Seen.{Seen, all_outs, tasks_out}
use Rattle.world_core.specs.Closing.{HasRoomMade}
use Rattle.world_core.specs.declared.burst.Ran.{Ran}
use Rattle.world_core.proofs.Asking.{room_seen, room_stands}
use Rattle.world_core.proofs.AtOnce.{Now, Takes, computed_stands, has_computed, outs_still, ran_now, takes_of, took_some}
use Rattle.world_core.proofs.CheckingIn.{checked_on}
use Rattle.world_core.proofs.CheckingOut.{handed_on, may_out, on_err, ready_is, set_same}
use Rattle.world_core.proofs.burst.compute.Goals as goal

pub burst-requires : goal.burst-requires
burst-requires g c =
    let m = c.args.machine.now in
    let w = c.requires.stands.world in
    let is = c.requires.stands.is in
    let lt : c.home_of-home.result < length c.args.parts.now.nodes.items = omega (arith, c.home_of-home.ensures w is, home_within g.P.OneRun.stood g.P.OneRun.left g.P.OneRun.run.frame c.args.parts.now w c.requires.stands c.args.process.0, is.members) in
    let at = slice_get_read c.args.parts.now.nodes.items (length c.args.parts.now.nodes.items) c.home_of-home.result c.index_mut.result.now refl lt c.index_mut.ensures.value in
    let ready = ready_is g.P.OneRun.run.frame c.args.parts.now w c.args.process (c.requires.ready w is) in
    may_out g.P.OneRun.stood g.P.OneRun.left g.P.OneRun.run.frame (fitness_of (g.P.Performer.fits_state m) (g.P.Performer.fits_args m) (g.P.Performer.fits_text m) (g.P.Performer.fits_reply m)) c.args.parts.now w c.args.process c.home_of-home.result c.turns_of-start.result c.budget-budget.result c.args.parts.now.numbers.turns c.index_mut.result.now is ready
    (c.calls_fit.ensures.bursts g.P.OneRun.run.frame (sym (g.met.P.OneRun.performs_run m)) (sym (g.met.P.OneRun.computes_run m)) c.requires.stands.settings c.args.parts.now.ledger.steps w is.replays (c.requires.going w is))
    (c.home_of-home.ensures w is) at (c.turns_of-start.ensures w is) c.requires.stands.numbers.turns c.budget-budget.ensures

pub overflow_sub-event : goal.overflow_sub-event
overflow_sub-event g c =
    let w = c.requires.stands.world in
    let is = c.requires.stands.is in
    let lt : c.home_of-home.result < length c.args.parts.now.nodes.items = omega (arith, c.home_of-home.ensures w is, home_within g.P.OneRun.stood g.P.OneRun.left g.P.OneRun.run.frame c.args.parts.now w c.requires.stands c.args.process.0, is.members) in
    let at = slice_get_read c.args.parts.now.nodes.items (length c.args.parts.now.nodes.items) c.home_of-home.result c.index_mut.result.now refl lt c.index_mut.ensures.value in
    let run = ran_now g.P.OneRun.stood g.P.OneRun.left g.P.OneRun.run.frame c.args.parts.now c.args.process c.home_of-home.result c.index_mut.result.now c.burst.new.self c.in_ok-burst.burst c.in_ok-burst.turns at (c.in_ok-burst.ensures {u = tt}).does in
    let now : Now g.P.OneRun.stood g.P.OneRun.left g.P.OneRun.run.frame c.args.parts.now w c.args.process c.home_of-home.result c.turns_of-start.result = record {
      stands = c.requires.stands;
      is = is;
      going = c.requires.going w is;
      ready = ready_is g.P.OneRun.run.frame c.args.parts.now w c.args.process (c.requires.ready w is);
      at_home = c.home_of-home.ensures w is;
      from = c.turns_of-start.ensures w is;
    } in
    (took_some g.P.OneRun.stood g.P.OneRun.left g.P.OneRun.run.frame c.args.parts.now w c.args.process c.home_of-home.result c.turns_of-start.result _ now run).0

pub overflow_cast-event : goal.overflow_cast-event
overflow_cast-event g c =
    let w = c.requires.stands.world in
    let is = c.requires.stands.is in
    let lt : c.home_of-home.result < length c.args.parts.now.nodes.items = omega (arith, c.home_of-home.ensures w is, home_within g.P.OneRun.stood g.P.OneRun.left g.P.OneRun.run.frame c.args.parts.now w c.requires.stands c.args.process.0, is.members) in
    let at = slice_get_read c.args.parts.now.nodes.items (length c.args.parts.now.nodes.items) c.home_of-home.result c.index_mut.result.now refl lt c.index_mut.ensures.value in
    let run = ran_now g.P.OneRun.stood g.P.OneRun.left g.P.OneRun.run.frame c.args.parts.now c.args.process c.home_of-home.result c.index_mut.result.now c.burst.new.self c.in_ok-burst.burst c.in_ok-burst.turns at (c.in_ok-burst.ensures {u = tt}).does in
    let now : Now g.P.OneRun.stood g.P.OneRun.left g.P.OneRun.run.frame c.args.parts.now w c.args.process c.home_of-home.result c.turns_of-start.result = record {
      stands = c.requires.stands;
      is = is;
      going = c.requires.going w is;
      ready = ready_is g.P.OneRun.run.frame c.args.parts.now w c.args.process (c.requires.ready w is);
      at_home = c.home_of-home.ensures w is;
      from = c.turns_of-start.ensures w is;
    } in
    let some = took_some g.P.OneRun.stood g.P.OneRun.left g.P.OneRun.run.frame c.args.parts.now w c.args.process c.home_of-home.result c.turns_of-start.result _ now run in
    record { fits = omega (arith, some.0, some.1) }

pub push_piece-requires : goal.push_piece-requires
push_piece-requires g c = omega (arith, (c.in_ok-make_room.ensures {u = tt}).pieces)

pub push_step-requires : goal.push_step-requires
push_step-requires g c = omega (arith, (c.in_ok-make_room.ensures {u = tt}).steps, ap (λ (l : Recorded). l.step_room) c.push_piece.ensures)

pub returns-in_err-burst-clause-stands : goal.returns-in_err-burst-clause-stands
returns-in_err-burst-clause-stands g c =
    let w = c.requires.stands.world in
    let is = c.requires.stands.is in
    let lt : c.home_of-home.result < length c.args.parts.now.nodes.items = omega (arith, c.home_of-home.ensures w is, home_within g.P.OneRun.stood g.P.OneRun.left g.P.OneRun.run.frame c.args.parts.now w c.requires.stands c.args.process.0, is.members) in
    let at = slice_get_read c.args.parts.now.nodes.items (length c.args.parts.now.nodes.items) c.home_of-home.result c.index_mut.result.now refl lt c.index_mut.ensures.value in
    let room : HasRoomMade c.args.parts.now (handed_on c.args.parts.now c.home_of-home.result c.burst.new.self c.make_room.new.self) = record {
      numbers = refl;
      nodes = ap (slice_set c.args.parts.now.nodes.items c.home_of-home.result) (c.in_err-burst.ensures {u = tt}).err ∙ set_same c.args.parts.now.nodes.items c.home_of-home.result c.index_mut.result.now at;
      lives = refl;
      flights = refl;
      steps = ap (λ (l : Recorded). l.steps) c.make_room.ensures.same;
      entries = ap (λ (l : Recorded). l.entries) c.make_room.ensures.same;
      performed = ap (λ (l : Recorded). l.performed) c.make_room.ensures.same;
      step_room = c.make_room.ensures.step_room;
      piece_room = c.make_room.ensures.piece_room;
      sent = refl;
      swaps = refl;
      idle = refl;
    } in
    room_stands g.P.OneRun.stood g.P.OneRun.left g.P.OneRun.run.frame c.args.parts.now (handed_on c.args.parts.now c.home_of-home.result c.burst.new.self c.make_room.new.self) room c.requires.stands

pub returns-in_err-burst-clause-out : goal.returns-in_err-burst-clause-out
returns-in_err-burst-clause-out g c =
    let w = c.requires.stands.world in
    let is = c.requires.stands.is in
    let lt : c.home_of-home.result < length c.args.parts.now.nodes.items = omega (arith, c.home_of-home.ensures w is, home_within g.P.OneRun.stood g.P.OneRun.left g.P.OneRun.run.frame c.args.parts.now w c.requires.stands c.args.process.0, is.members) in
    let at = slice_get_read c.args.parts.now.nodes.items (length c.args.parts.now.nodes.items) c.home_of-home.result c.index_mut.result.now refl lt c.index_mut.ensures.value in
    let room : HasRoomMade c.args.parts.now (handed_on c.args.parts.now c.home_of-home.result c.burst.new.self c.make_room.new.self) = record {
      numbers = refl;
      nodes = ap (slice_set c.args.parts.now.nodes.items c.home_of-home.result) (c.in_err-burst.ensures {u = tt}).err ∙ set_same c.args.parts.now.nodes.items c.home_of-home.result c.index_mut.result.now at;
      lives = refl;
      flights = refl;
      steps = ap (λ (l : Recorded). l.steps) c.make_room.ensures.same;
      entries = ap (λ (l : Recorded). l.entries) c.make_room.ensures.same;
      performed = ap (λ (l : Recorded). l.performed) c.make_room.ensures.same;
      step_room = c.make_room.ensures.step_room;
      piece_room = c.make_room.ensures.piece_room;
      sent = refl;
      swaps = refl;
      idle = refl;
    } in
    ap (λ (s : Seen g.row.P-State.Denot). s.out) (room_seen c.args.parts.now (handed_on c.args.parts.now c.home_of-home.result c.burst.new.self c.make_room.new.self) room)

pub returns-in_err-burst-clause-tasks : goal.returns-in_err-burst-clause-tasks
returns-in_err-burst-clause-tasks g c =
    let w = c.requires.stands.world in
    let is = c.requires.stands.is in
    let lt : c.home_of-home.result < length c.args.parts.now.nodes.items = omega (arith, c.home_of-home.ensures w is, home_within g.P.OneRun.stood g.P.OneRun.left g.P.OneRun.run.frame c.args.parts.now w c.requires.stands c.args.process.0, is.members) in
    let at = slice_get_read c.args.parts.now.nodes.items (length c.args.parts.now.nodes.items) c.home_of-home.result c.index_mut.result.now refl lt c.index_mut.ensures.value in
    let room : HasRoomMade c.args.parts.now (handed_on c.args.parts.now c.home_of-home.result c.burst.new.self c.make_room.new.self) = record {
      numbers = refl;
      nodes = ap (slice_set c.args.parts.now.nodes.items c.home_of-home.result) (c.in_err-burst.ensures {u = tt}).err ∙ set_same c.args.parts.now.nodes.items c.home_of-home.result c.index_mut.result.now at;
      lives = refl;
      flights = refl;
      steps = ap (λ (l : Recorded). l.steps) c.make_room.ensures.same;
      entries = ap (λ (l : Recorded). l.entries) c.make_room.ensures.same;
      performed = ap (λ (l : Recorded). l.performed) c.make_room.ensures.same;
      step_room = c.make_room.ensures.step_room;
      piece_room = c.make_room.ensures.piece_room;
      sent = refl;
      swaps = refl;
      idle = refl;
    } in
    ap (λ (s : Seen g.row.P-State.Denot). tasks_out s) (room_seen c.args.parts.now (handed_on c.args.parts.now c.home_of-home.result c.burst.new.self c.make_room.new.self) room)

pub returns-in_err-burst-clause-err : goal.returns-in_err-burst-clause-err
returns-in_err-burst-clause-err g c =
    let w = c.requires.stands.world in
    let is = c.requires.stands.is in
    let lt : c.home_of-home.result < length c.args.parts.now.nodes.items = omega (arith, c.home_of-home.ensures w is, home_within g.P.OneRun.stood g.P.OneRun.left g.P.OneRun.run.frame c.args.parts.now w c.requires.stands c.args.process.0, is.members) in
    let at = slice_get_read c.args.parts.now.nodes.items (length c.args.parts.now.nodes.items) c.home_of-home.result c.index_mut.result.now refl lt c.index_mut.ensures.value in
    let room : HasRoomMade c.args.parts.now (handed_on c.args.parts.now c.home_of-home.result c.burst.new.self c.make_room.new.self) = record {
      numbers = refl;
      nodes = ap (slice_set c.args.parts.now.nodes.items c.home_of-home.result) (c.in_err-burst.ensures {u = tt}).err ∙ set_same c.args.parts.now.nodes.items c.home_of-home.result c.index_mut.result.now at;
      lives = refl;
      flights = refl;
      steps = ap (λ (l : Recorded). l.steps) c.make_room.ensures.same;
      entries = ap (λ (l : Recorded). l.entries) c.make_room.ensures.same;
      performed = ap (λ (l : Recorded). l.performed) c.make_room.ensures.same;
      step_room = c.make_room.ensures.step_room;
      piece_room = c.make_room.ensures.piece_room;
      sent = refl;
      swaps = refl;
      idle = refl;
    } in
    on_err c.from_residual-in_err-burst.result (room_seen c.args.parts.now (handed_on c.args.parts.now c.home_of-home.result c.burst.new.self c.make_room.new.self) room)

pub returns-clause-stands : goal.returns-clause-stands
returns-clause-stands g c =
    let w = c.requires.stands.world in
    let is = c.requires.stands.is in
    let lt : c.home_of-home.result < length c.args.parts.now.nodes.items = omega (arith, c.home_of-home.ensures w is, home_within g.P.OneRun.stood g.P.OneRun.left g.P.OneRun.run.frame c.args.parts.now w c.requires.stands c.args.process.0, is.members) in
    let at = slice_get_read c.args.parts.now.nodes.items (length c.args.parts.now.nodes.items) c.home_of-home.result c.index_mut.result.now refl lt c.index_mut.ensures.value in
    let ran : Ran g.row.P.Denot g.row.P-State.Denot = record { node = c.burst.new.self; burst = c.in_ok-burst.burst; turns = c.in_ok-burst.turns } in
    let run = ran_now g.P.OneRun.stood g.P.OneRun.left g.P.OneRun.run.frame c.args.parts.now c.args.process c.home_of-home.result c.index_mut.result.now c.burst.new.self c.in_ok-burst.burst c.in_ok-burst.turns at (c.in_ok-burst.ensures {u = tt}).does in
    let now : Now g.P.OneRun.stood g.P.OneRun.left g.P.OneRun.run.frame c.args.parts.now w c.args.process c.home_of-home.result c.turns_of-start.result = record {
      stands = c.requires.stands;
      is = is;
      going = c.requires.going w is;
      ready = ready_is g.P.OneRun.run.frame c.args.parts.now w c.args.process (c.requires.ready w is);
      at_home = c.home_of-home.ensures w is;
      from = c.turns_of-start.ensures w is;
    } in
    let takes : Takes c.args.parts.now (checked_on c.args.parts.now c.home_of-home.result c.burst.new.self c.push_step.new.self) c.home_of-home.result (event.Burst c.args.process c.in_ok-burst.burst.place (c.in_ok-burst.turns - c.turns_of-start.result)) ran =
    takes_of c.args.parts.now c.make_room.new.self c.push_piece.new.self c.push_step.new.self c.home_of-home.result (event.Burst c.args.process c.in_ok-burst.burst.place (c.in_ok-burst.turns - c.turns_of-start.result)) c.new-fates.result _ ran c.make_room.ensures.same
    (omega (arith, (c.in_ok-make_room.ensures {u = tt}).steps, c.tasks_out.ensures)) (omega (arith, (c.in_ok-make_room.ensures {u = tt}).pieces, c.tasks_out.ensures))
    c.push_piece.ensures c.reads_of.ensures c.push_step.ensures (c.new-fates.ensures ∙ c.no_fates.ensures) in
    computed_stands g.P.OneRun.stood g.P.OneRun.left g.P.OneRun.run.frame c.args.parts.now (checked_on c.args.parts.now c.home_of-home.result c.burst.new.self c.push_step.new.self) c.args.process c.home_of-home.result c.turns_of-start.result ran c.requires.stands now run takes

pub returns-clause-done : goal.returns-clause-done
returns-clause-done g c =
    let w = c.requires.stands.world in
    let is = c.requires.stands.is in
    let lt : c.home_of-home.result < length c.args.parts.now.nodes.items = omega (arith, c.home_of-home.ensures w is, home_within g.P.OneRun.stood g.P.OneRun.left g.P.OneRun.run.frame c.args.parts.now w c.requires.stands c.args.process.0, is.members) in
    let at = slice_get_read c.args.parts.now.nodes.items (length c.args.parts.now.nodes.items) c.home_of-home.result c.index_mut.result.now refl lt c.index_mut.ensures.value in
    let ran : Ran g.row.P.Denot g.row.P-State.Denot = record { node = c.burst.new.self; burst = c.in_ok-burst.burst; turns = c.in_ok-burst.turns } in
    let run = ran_now g.P.OneRun.stood g.P.OneRun.left g.P.OneRun.run.frame c.args.parts.now c.args.process c.home_of-home.result c.index_mut.result.now c.burst.new.self c.in_ok-burst.burst c.in_ok-burst.turns at (c.in_ok-burst.ensures {u = tt}).does in
    let takes : Takes c.args.parts.now (checked_on c.args.parts.now c.home_of-home.result c.burst.new.self c.push_step.new.self) c.home_of-home.result (event.Burst c.args.process c.in_ok-burst.burst.place (c.in_ok-burst.turns - c.turns_of-start.result)) ran =
    takes_of c.args.parts.now c.make_room.new.self c.push_piece.new.self c.push_step.new.self c.home_of-home.result (event.Burst c.args.process c.in_ok-burst.burst.place (c.in_ok-burst.turns - c.turns_of-start.result)) c.new-fates.result _ ran c.make_room.ensures.same
    (omega (arith, (c.in_ok-make_room.ensures {u = tt}).steps, c.tasks_out.ensures)) (omega (arith, (c.in_ok-make_room.ensures {u = tt}).pieces, c.tasks_out.ensures))
    c.push_piece.ensures c.reads_of.ensures c.push_step.ensures (c.new-fates.ensures ∙ c.no_fates.ensures) in
    has_computed g.P.OneRun.stood g.P.OneRun.left g.P.OneRun.run.frame c.args.parts.now (checked_on c.args.parts.now c.home_of-home.result c.burst.new.self c.push_step.new.self) c.args.process c.home_of-home.result c.turns_of-start.result ran c.requires.stands
    (λ w is. record {
      stands = c.requires.stands;
      is = is;
      going = c.requires.going w is;
      ready = ready_is g.P.OneRun.run.frame c.args.parts.now w c.args.process (c.requires.ready w is);
      at_home = c.home_of-home.ensures w is;
      from = c.turns_of-start.ensures w is;
    })
    run takes

pub returns-clause-out : goal.returns-clause-out
returns-clause-out g c =
    let w = c.requires.stands.world in
    let is = c.requires.stands.is in
    let lt : c.home_of-home.result < length c.args.parts.now.nodes.items = omega (arith, c.home_of-home.ensures w is, home_within g.P.OneRun.stood g.P.OneRun.left g.P.OneRun.run.frame c.args.parts.now w c.requires.stands c.args.process.0, is.members) in
    let at = slice_get_read c.args.parts.now.nodes.items (length c.args.parts.now.nodes.items) c.home_of-home.result c.index_mut.result.now refl lt c.index_mut.ensures.value in
    let ran : Ran g.row.P.Denot g.row.P-State.Denot = record { node = c.burst.new.self; burst = c.in_ok-burst.burst; turns = c.in_ok-burst.turns } in
    let run = ran_now g.P.OneRun.stood g.P.OneRun.left g.P.OneRun.run.frame c.args.parts.now c.args.process c.home_of-home.result c.index_mut.result.now c.burst.new.self c.in_ok-burst.burst c.in_ok-burst.turns at (c.in_ok-burst.ensures {u = tt}).does in
    let now : Now g.P.OneRun.stood g.P.OneRun.left g.P.OneRun.run.frame c.args.parts.now w c.args.process c.home_of-home.result c.turns_of-start.result = record {
      stands = c.requires.stands;
      is = is;
      going = c.requires.going w is;
      ready = ready_is g.P.OneRun.run.frame c.args.parts.now w c.args.process (c.requires.ready w is);
      at_home = c.home_of-home.ensures w is;
      from = c.turns_of-start.ensures w is;
    } in
    let takes : Takes c.args.parts.now (checked_on c.args.parts.now c.home_of-home.result c.burst.new.self c.push_step.new.self) c.home_of-home.result (event.Burst c.args.process c.in_ok-burst.burst.place (c.in_ok-burst.turns - c.turns_of-start.result)) ran =
    takes_of c.args.parts.now c.make_room.new.self c.push_piece.new.self c.push_step.new.self c.home_of-home.result (event.Burst c.args.process c.in_ok-burst.burst.place (c.in_ok-burst.turns - c.turns_of-start.result)) c.new-fates.result _ ran c.make_room.ensures.same
    (omega (arith, (c.in_ok-make_room.ensures {u = tt}).steps, c.tasks_out.ensures)) (omega (arith, (c.in_ok-make_room.ensures {u = tt}).pieces, c.tasks_out.ensures))
    c.push_piece.ensures c.reads_of.ensures c.push_step.ensures (c.new-fates.ensures ∙ c.no_fates.ensures) in
    outs_still g.P.OneRun.stood g.P.OneRun.left g.P.OneRun.run.frame c.args.parts.now (checked_on c.args.parts.now c.home_of-home.result c.burst.new.self c.push_step.new.self) w c.args.process c.home_of-home.result c.turns_of-start.result _ ran now run takes

pub returns-clause-tasks : goal.returns-clause-tasks
returns-clause-tasks g c =
    let w = c.requires.stands.world in
    let is = c.requires.stands.is in
    let lt : c.home_of-home.result < length c.args.parts.now.nodes.items = omega (arith, c.home_of-home.ensures w is, home_within g.P.OneRun.stood g.P.OneRun.left g.P.OneRun.run.frame c.args.parts.now w c.requires.stands c.args.process.0, is.members) in
    let at = slice_get_read c.args.parts.now.nodes.items (length c.args.parts.now.nodes.items) c.home_of-home.result c.index_mut.result.now refl lt c.index_mut.ensures.value in
    let ran : Ran g.row.P.Denot g.row.P-State.Denot = record { node = c.burst.new.self; burst = c.in_ok-burst.burst; turns = c.in_ok-burst.turns } in
    let run = ran_now g.P.OneRun.stood g.P.OneRun.left g.P.OneRun.run.frame c.args.parts.now c.args.process c.home_of-home.result c.index_mut.result.now c.burst.new.self c.in_ok-burst.burst c.in_ok-burst.turns at (c.in_ok-burst.ensures {u = tt}).does in
    let now : Now g.P.OneRun.stood g.P.OneRun.left g.P.OneRun.run.frame c.args.parts.now w c.args.process c.home_of-home.result c.turns_of-start.result = record {
      stands = c.requires.stands;
      is = is;
      going = c.requires.going w is;
      ready = ready_is g.P.OneRun.run.frame c.args.parts.now w c.args.process (c.requires.ready w is);
      at_home = c.home_of-home.ensures w is;
      from = c.turns_of-start.ensures w is;
    } in
    let takes : Takes c.args.parts.now (checked_on c.args.parts.now c.home_of-home.result c.burst.new.self c.push_step.new.self) c.home_of-home.result (event.Burst c.args.process c.in_ok-burst.burst.place (c.in_ok-burst.turns - c.turns_of-start.result)) ran =
    takes_of c.args.parts.now c.make_room.new.self c.push_piece.new.self c.push_step.new.self c.home_of-home.result (event.Burst c.args.process c.in_ok-burst.burst.place (c.in_ok-burst.turns - c.turns_of-start.result)) c.new-fates.result _ ran c.make_room.ensures.same
    (omega (arith, (c.in_ok-make_room.ensures {u = tt}).steps, c.tasks_out.ensures)) (omega (arith, (c.in_ok-make_room.ensures {u = tt}).pieces, c.tasks_out.ensures))
    c.push_piece.ensures c.reads_of.ensures c.push_step.ensures (c.new-fates.ensures ∙ c.no_fates.ensures) in
    ap all_outs (outs_still g.P.OneRun.stood g.P.OneRun.left g.P.OneRun.run.frame c.args.parts.now (checked_on c.args.parts.now c.home_of-home.result c.burst.new.self c.push_step.new.self) w c.args.process c.home_of-home.result c.turns_of-start.result _ ran now run takes)
