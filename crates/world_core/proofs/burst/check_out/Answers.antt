use Rattle.std.proofs.Common.{◌<◌, ◌∙◌, ap, sym, refl, arith, length, slice_set}
use Rattle.std.proofs.lemmas.Option.{slice_get_read}
use Rattle.node_core.specs.Stands.{fitness_of}
use Rattle.world_parts.proofs.Worlds.{home_within}
use Rattle.world_parts.specs.Recorded.{Recorded}
use Rattle.world_core.specs.Closing.{HasRoomMade}
use Rattle.world_core.proofs.Asking.{room_seen, room_stands}
use Rattle.world_core.proofs.CheckingOut.{Handed, handed_on, hands_out, may_out, on_err, out_more, out_stands, ready_is, set_same}
use Rattle.world_core.proofs.burst.check_out.Goals as goal

pub check_out-requires : goal.check_out-requires
check_out-requires g c =
    let m = c.args.machine.now in
    let w = c.requires.stands.world in
    let is = c.requires.stands.is in
    let lt : c.home_of-home.result < length c.args.parts.now.nodes.items = omega (arith, c.home_of-home.ensures c.requires.stands.world c.requires.stands.is, home_within g.P.OneRun.stood g.P.OneRun.left g.P.OneRun.run.frame c.args.parts.now c.requires.stands.world c.requires.stands c.args.process.0, c.requires.stands.is.members) in
    let at = slice_get_read c.args.parts.now.nodes.items (length c.args.parts.now.nodes.items) c.home_of-home.result c.index_mut.result.now refl lt c.index_mut.ensures.value in
    let ready = ready_is g.P.OneRun.run.frame c.args.parts.now w c.args.process (c.requires.ready w is) in
    may_out g.P.OneRun.stood g.P.OneRun.left g.P.OneRun.run.frame (fitness_of (g.P.Performer.fits_state m) (g.P.Performer.fits_args m) (g.P.Performer.fits_text m) (g.P.Performer.fits_reply m)) c.args.parts.now w c.args.process c.home_of-home.result c.turns_of-turns.result c.budget-budget.result c.args.parts.now.numbers.turns c.index_mut.result.now is ready
    (c.calls_fit.ensures.bursts g.P.OneRun.run.frame (sym (g.met.P.OneRun.performs_run m)) (sym (g.met.P.OneRun.computes_run m)) c.requires.stands.settings c.args.parts.now.ledger.steps w is.replays (c.requires.going w is))
    (c.home_of-home.ensures w is) at (c.turns_of-turns.ensures w is) c.requires.stands.numbers.turns c.budget-budget.ensures

pub returns-in_err-task-clause-stands : goal.returns-in_err-task-clause-stands
returns-in_err-task-clause-stands g c =
    let lt : c.home_of-home.result < length c.args.parts.now.nodes.items = omega (arith, c.home_of-home.ensures c.requires.stands.world c.requires.stands.is, home_within g.P.OneRun.stood g.P.OneRun.left g.P.OneRun.run.frame c.args.parts.now c.requires.stands.world c.requires.stands c.args.process.0, c.requires.stands.is.members) in
    let at = slice_get_read c.args.parts.now.nodes.items (length c.args.parts.now.nodes.items) c.home_of-home.result c.index_mut.result.now refl lt c.index_mut.ensures.value in
    let room : HasRoomMade c.args.parts.now (handed_on c.args.parts.now c.home_of-home.result c.check_out.new.self c.make_room.new.self) = record {
      numbers = refl;
      nodes = ap (slice_set c.args.parts.now.nodes.items c.home_of-home.result) (c.in_err-task.ensures {u = tt}).err ∙ set_same c.args.parts.now.nodes.items c.home_of-home.result c.index_mut.result.now at;
      lives = refl;
      flights = refl;
      steps = ap (λ (l : Recorded). l.steps) c.make_room.ensures.same;
      entries = ap (λ (l : Recorded). l.entries) c.make_room.ensures.same;
      performed = ap (λ (l : Recorded). l.performed) c.make_room.ensures.same;
      step_room = c.make_room.ensures.step_room;
      piece_room = c.make_room.ensures.piece_room;
      sent = refl;
      swaps = refl;
      idle = refl;
    } in
    room_stands g.P.OneRun.stood g.P.OneRun.left g.P.OneRun.run.frame c.args.parts.now (handed_on c.args.parts.now c.home_of-home.result c.check_out.new.self c.make_room.new.self) room c.requires.stands

pub returns-in_err-task-clause-err : goal.returns-in_err-task-clause-err
returns-in_err-task-clause-err g c =
    let lt : c.home_of-home.result < length c.args.parts.now.nodes.items = omega (arith, c.home_of-home.ensures c.requires.stands.world c.requires.stands.is, home_within g.P.OneRun.stood g.P.OneRun.left g.P.OneRun.run.frame c.args.parts.now c.requires.stands.world c.requires.stands c.args.process.0, c.requires.stands.is.members) in
    let at = slice_get_read c.args.parts.now.nodes.items (length c.args.parts.now.nodes.items) c.home_of-home.result c.index_mut.result.now refl lt c.index_mut.ensures.value in
    let room : HasRoomMade c.args.parts.now (handed_on c.args.parts.now c.home_of-home.result c.check_out.new.self c.make_room.new.self) = record {
      numbers = refl;
      nodes = ap (slice_set c.args.parts.now.nodes.items c.home_of-home.result) (c.in_err-task.ensures {u = tt}).err ∙ set_same c.args.parts.now.nodes.items c.home_of-home.result c.index_mut.result.now at;
      lives = refl;
      flights = refl;
      steps = ap (λ (l : Recorded). l.steps) c.make_room.ensures.same;
      entries = ap (λ (l : Recorded). l.entries) c.make_room.ensures.same;
      performed = ap (λ (l : Recorded). l.performed) c.make_room.ensures.same;
      step_room = c.make_room.ensures.step_room;
      piece_room = c.make_room.ensures.piece_room;
      sent = refl;
      swaps = refl;
      idle = refl;
    } in
    on_err c.from_residual-in_err-task.result (room_seen c.args.parts.now (handed_on c.args.parts.now c.home_of-home.result c.check_out.new.self c.make_room.new.self) room)

pub returns-clause-stands : goal.returns-clause-stands
returns-clause-stands g c =
    let w = c.requires.stands.world in
    let is = c.requires.stands.is in
    let lt : c.home_of-home.result < length c.args.parts.now.nodes.items = omega (arith, c.home_of-home.ensures c.requires.stands.world c.requires.stands.is, home_within g.P.OneRun.stood g.P.OneRun.left g.P.OneRun.run.frame c.args.parts.now c.requires.stands.world c.requires.stands c.args.process.0, c.requires.stands.is.members) in
    let at = slice_get_read c.args.parts.now.nodes.items (length c.args.parts.now.nodes.items) c.home_of-home.result c.index_mut.result.now refl lt c.index_mut.ensures.value in
    let ready = ready_is g.P.OneRun.run.frame c.args.parts.now w c.args.process (c.requires.ready w is) in
    let handed : Handed c.args.parts.now (handed_on c.args.parts.now c.home_of-home.result c.check_out.new.self c.make_room.new.self) c.home_of-home.result c.index_mut.result.now c.check_out.new.self = record {
      there = at;
      numbers = refl;
      nodes = refl;
      lives = refl;
      flights = refl;
      steps = ap (λ (l : Recorded). l.steps) c.make_room.ensures.same;
      entries = ap (λ (l : Recorded). l.entries) c.make_room.ensures.same;
      performed = ap (λ (l : Recorded). l.performed) c.make_room.ensures.same;
      sent = refl;
      swaps = refl;
      idle = refl;
      step_room = omega (arith, (c.in_ok-make_room.ensures {u = tt}).steps, c.tasks_out.ensures);
      piece_room = omega (arith, (c.in_ok-make_room.ensures {u = tt}).pieces, c.tasks_out.ensures);
    } in
    out_stands g.P.OneRun.stood g.P.OneRun.left g.P.OneRun.run.frame c.args.parts.now (handed_on c.args.parts.now c.home_of-home.result c.check_out.new.self c.make_room.new.self) c.args.process c.home_of-home.result c.budget-budget.result c.in_ok-task.task c.index_mut.result.now c.check_out.new.self c.requires.stands ready (c.home_of-home.ensures w is) handed (c.in_ok-task.ensures {u = tt}).out c.check_out.ensures.alike

pub returns-clause-out : goal.returns-clause-out
returns-clause-out g c =
    let lt : c.home_of-home.result < length c.args.parts.now.nodes.items = omega (arith, c.home_of-home.ensures c.requires.stands.world c.requires.stands.is, home_within g.P.OneRun.stood g.P.OneRun.left g.P.OneRun.run.frame c.args.parts.now c.requires.stands.world c.requires.stands c.args.process.0, c.requires.stands.is.members) in
    let at = slice_get_read c.args.parts.now.nodes.items (length c.args.parts.now.nodes.items) c.home_of-home.result c.index_mut.result.now refl lt c.index_mut.ensures.value in
    let handed : Handed c.args.parts.now (handed_on c.args.parts.now c.home_of-home.result c.check_out.new.self c.make_room.new.self) c.home_of-home.result c.index_mut.result.now c.check_out.new.self = record {
      there = at;
      numbers = refl;
      nodes = refl;
      lives = refl;
      flights = refl;
      steps = ap (λ (l : Recorded). l.steps) c.make_room.ensures.same;
      entries = ap (λ (l : Recorded). l.entries) c.make_room.ensures.same;
      performed = ap (λ (l : Recorded). l.performed) c.make_room.ensures.same;
      sent = refl;
      swaps = refl;
      idle = refl;
      step_room = omega (arith, (c.in_ok-make_room.ensures {u = tt}).steps, c.tasks_out.ensures);
      piece_room = omega (arith, (c.in_ok-make_room.ensures {u = tt}).pieces, c.tasks_out.ensures);
    } in
    hands_out g.P.OneRun.stood g.P.OneRun.left g.P.OneRun.run.frame c.args.parts.now (handed_on c.args.parts.now c.home_of-home.result c.check_out.new.self c.make_room.new.self) c.args.process c.home_of-home.result c.turns_of-turns.result c.budget-budget.result c.args.parts.now.numbers.turns c.in_ok-task.task c.index_mut.result.now c.check_out.new.self c.requires.stands
    (λ w is. (c.home_of-home.ensures w is, c.turns_of-turns.ensures w is)) c.requires.stands.numbers.turns c.budget-budget.ensures handed (c.in_ok-task.ensures {u = tt}).out

pub returns-clause-more : goal.returns-clause-more
returns-clause-more g c =
    let w = c.requires.stands.world in
    let is = c.requires.stands.is in
    let lt : c.home_of-home.result < length c.args.parts.now.nodes.items = omega (arith, c.home_of-home.ensures c.requires.stands.world c.requires.stands.is, home_within g.P.OneRun.stood g.P.OneRun.left g.P.OneRun.run.frame c.args.parts.now c.requires.stands.world c.requires.stands c.args.process.0, c.requires.stands.is.members) in
    let at = slice_get_read c.args.parts.now.nodes.items (length c.args.parts.now.nodes.items) c.home_of-home.result c.index_mut.result.now refl lt c.index_mut.ensures.value in
    let ready = ready_is g.P.OneRun.run.frame c.args.parts.now w c.args.process (c.requires.ready w is) in
    let handed : Handed c.args.parts.now (handed_on c.args.parts.now c.home_of-home.result c.check_out.new.self c.make_room.new.self) c.home_of-home.result c.index_mut.result.now c.check_out.new.self = record {
      there = at;
      numbers = refl;
      nodes = refl;
      lives = refl;
      flights = refl;
      steps = ap (λ (l : Recorded). l.steps) c.make_room.ensures.same;
      entries = ap (λ (l : Recorded). l.entries) c.make_room.ensures.same;
      performed = ap (λ (l : Recorded). l.performed) c.make_room.ensures.same;
      sent = refl;
      swaps = refl;
      idle = refl;
      step_room = omega (arith, (c.in_ok-make_room.ensures {u = tt}).steps, c.tasks_out.ensures);
      piece_room = omega (arith, (c.in_ok-make_room.ensures {u = tt}).pieces, c.tasks_out.ensures);
    } in
    out_more g.P.OneRun.run.frame c.args.parts.now (handed_on c.args.parts.now c.home_of-home.result c.check_out.new.self c.make_room.new.self) w c.args.process c.home_of-home.result c.budget-budget.result (record { objects = c.index_mut.result.now.copies.objects; place = c.index_mut.result.now.copies.applied }) c.in_ok-task.task c.index_mut.result.now c.check_out.new.self ready (c.home_of-home.ensures w is) handed (c.in_ok-task.ensures {u = tt}).out
