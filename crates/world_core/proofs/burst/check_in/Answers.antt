use Rattle.std.proofs.Common.{◌<◌, ◌-◌, ◌∙◌, ◌++◌, ◌∷◌, [], ℕ, List, ap, sym, refl, arith, length, slice_set}
use Rattle.std.proofs.lemmas.Option.{slice_get_read}
use Rattle.std.proofs.lemmas.Result.{err_from_is_err_and}
use Rattle.orca_base.specs.declared.ids.ProcessNo.{ProcessNo}
use Rattle.book_law.specs.declared.placing.Placed.{Placed}
use Rattle.net_rules.specs.declared.fate.Fate.{Fate}
use Rattle.world_facts.specs.Ends.{turns_in}
use Rattle.world_rules.specs.declared.event.Event.TheVariants as event
use Rattle.world_rules.specs.Standings.{standing}
use Rattle.world_rules.specs.Worlds.{home_of, played_in}
use Rattle.world_parts.proofs.Worlds.{home_within}
use Rattle.world_parts.specs.Recorded.{Recorded}
use Rattle.world_core.specs.Stepping.{is_going}
use Rattle.world_core.proofs.Asking.{going_of, room_stands}
use Rattle.world_core.proofs.CheckingIn.{Ends, astray_by, checked_fewer, checked_on, checked_stands, checks_in, one_out, turns_there}
use Rattle.world_core.proofs.CheckingOut.{handed_on, set_same}
use Rattle.world_core.proofs.TakenIn.{Checks, burst_of}
use Rattle.world_core.proofs.burst.check_in.Goals as goal

pub returns-in_err-burst-clause-stands : goal.returns-in_err-burst-clause-stands
returns-in_err-burst-clause-stands g c =
    let lt : c.home_of-home.result < length c.args.parts.now.nodes.items = omega (arith, c.home_of-home.ensures c.requires.world c.requires.is, home_within g.P.OneRun.stood g.P.OneRun.left g.P.OneRun.run.frame c.args.parts.now c.requires.world c.requires c.process-process.result.0, c.requires.is.members) in
    let at = slice_get_read c.args.parts.now.nodes.items (length c.args.parts.now.nodes.items) c.home_of-home.result c.index_mut.result.now refl lt c.index_mut.ensures.value in
    room_stands g.P.OneRun.stood g.P.OneRun.left g.P.OneRun.run.frame c.args.parts.now (handed_on c.args.parts.now c.home_of-home.result c.check_in.new.self c.args.parts.now.ledger)
    (record { numbers = refl; nodes = ap (slice_set c.args.parts.now.nodes.items c.home_of-home.result) (c.in_err-burst.ensures {u = tt}).stray.same ∙ set_same c.args.parts.now.nodes.items c.home_of-home.result c.index_mut.result.now at; lives = refl; flights = refl; steps = refl; entries = refl; performed = refl; step_room = omega arith; piece_room = omega arith; sent = refl; swaps = refl; idle = refl }) c.requires

pub returns-in_err-burst-clause-astray : goal.returns-in_err-burst-clause-astray
returns-in_err-burst-clause-astray g c =
    let lt : c.home_of-home.result < length c.args.parts.now.nodes.items = omega (arith, c.home_of-home.ensures c.requires.world c.requires.is, home_within g.P.OneRun.stood g.P.OneRun.left g.P.OneRun.run.frame c.args.parts.now c.requires.world c.requires c.process-process.result.0, c.requires.is.members) in
    let at = slice_get_read c.args.parts.now.nodes.items (length c.args.parts.now.nodes.items) c.home_of-home.result c.index_mut.result.now refl lt c.index_mut.ensures.value in
    let p = err_from_is_err_and c.from_residual.result c.from_residual.ensures.1 in
    rw (p.1, p.2) (astray_by g.P.OneRun.stood g.P.OneRun.left g.P.OneRun.run.frame c.args.parts.now c.home_of-home.result c.args.done c.in_err-burst.field-0.0.done c.index_mut.result.now c.check_in.new.self c.requires at (λ w is. (c.home_of-home.ensures w is ∙ ap (λ (p : ProcessNo). home_of g.P.OneRun.run.frame w p.0) c.process-process.ensures)) (c.in_err-burst.ensures {u = tt}).stray)

pub overflow_sub-event : goal.overflow_sub-event
overflow_sub-event g c =
    let w = c.requires.world in
    let is = c.requires.is in
    let lt : c.home_of-home.result < length c.args.parts.now.nodes.items = omega (arith, c.home_of-home.ensures c.requires.world c.requires.is, home_within g.P.OneRun.stood g.P.OneRun.left g.P.OneRun.run.frame c.args.parts.now c.requires.world c.requires c.process-process.result.0, c.requires.is.members) in
    let at = slice_get_read c.args.parts.now.nodes.items (length c.args.parts.now.nodes.items) c.home_of-home.result c.index_mut.result.now refl lt c.index_mut.ensures.value in
    let has = (c.in_ok-burst.ensures {u = tt}).ok in
    let checks : Checks g.P.OneRun.stood g.P.OneRun.left g.P.OneRun.run.frame c.args.parts.now w c.home_of-home.result c.args.done c.in_ok-burst.burst c.index_mut.result.now c.check_in.new.self = record { stands = c.requires; is = is; going = (going_of (standing g.P.OneRun.run.frame w) (ap is_going (sym (c.standing.ensures w is)) ∙ sym c.is_going.ensures ∙ c.if-not-is_going.false)); at_home = (c.home_of-home.ensures w is ∙ ap (λ (p : ProcessNo). home_of g.P.OneRun.run.frame w p.0) c.process-process.ensures); there = at; has = has } in
    let b = burst_of g.P.OneRun.stood g.P.OneRun.left g.P.OneRun.run.frame c.args.parts.now w c.home_of-home.result c.args.done c.in_ok-burst.burst c.index_mut.result.now c.check_in.new.self checks in
    omega (arith, c.turns-after.ensures, (turns_there g.P.OneRun.stood g.P.OneRun.left g.P.OneRun.run.frame c.args.parts.now w c.home_of-home.result c.turns_of-before.result c.args.done c.index_mut.result.now has.resident is (c.home_of-home.ensures w is ∙ ap (λ (p : ProcessNo). home_of g.P.OneRun.run.frame w p.0) c.process-process.ensures) at has.here (c.turns_of-before.ensures w is ∙ ap (λ (p : ProcessNo). turns_in (played_in g.P.OneRun.run.frame w p.0)) c.process-process.ensures)), b.least)

pub overflow_cast-event : goal.overflow_cast-event
overflow_cast-event g c =
    let w = c.requires.world in
    let is = c.requires.is in
    let lt : c.home_of-home.result < length c.args.parts.now.nodes.items = omega (arith, c.home_of-home.ensures c.requires.world c.requires.is, home_within g.P.OneRun.stood g.P.OneRun.left g.P.OneRun.run.frame c.args.parts.now c.requires.world c.requires c.process-process.result.0, c.requires.is.members) in
    let at = slice_get_read c.args.parts.now.nodes.items (length c.args.parts.now.nodes.items) c.home_of-home.result c.index_mut.result.now refl lt c.index_mut.ensures.value in
    let has = (c.in_ok-burst.ensures {u = tt}).ok in
    let checks : Checks g.P.OneRun.stood g.P.OneRun.left g.P.OneRun.run.frame c.args.parts.now w c.home_of-home.result c.args.done c.in_ok-burst.burst c.index_mut.result.now c.check_in.new.self = record { stands = c.requires; is = is; going = (going_of (standing g.P.OneRun.run.frame w) (ap is_going (sym (c.standing.ensures w is)) ∙ sym c.is_going.ensures ∙ c.if-not-is_going.false)); at_home = (c.home_of-home.ensures w is ∙ ap (λ (p : ProcessNo). home_of g.P.OneRun.run.frame w p.0) c.process-process.ensures); there = at; has = has } in
    let b = burst_of g.P.OneRun.stood g.P.OneRun.left g.P.OneRun.run.frame c.args.parts.now w c.home_of-home.result c.args.done c.in_ok-burst.burst c.index_mut.result.now c.check_in.new.self checks in
    record { fits = omega (arith, c.turns-after.ensures, (turns_there g.P.OneRun.stood g.P.OneRun.left g.P.OneRun.run.frame c.args.parts.now w c.home_of-home.result c.turns_of-before.result c.args.done c.index_mut.result.now has.resident is (c.home_of-home.ensures w is ∙ ap (λ (p : ProcessNo). home_of g.P.OneRun.run.frame w p.0) c.process-process.ensures) at has.here (c.turns_of-before.ensures w is ∙ ap (λ (p : ProcessNo). turns_in (played_in g.P.OneRun.run.frame w p.0)) c.process-process.ensures)), b.most) }

pub push_piece-requires : goal.push_piece-requires
push_piece-requires g c =
    let lt : c.home_of-home.result < length c.args.parts.now.nodes.items = omega (arith, c.home_of-home.ensures c.requires.world c.requires.is, home_within g.P.OneRun.stood g.P.OneRun.left g.P.OneRun.run.frame c.args.parts.now c.requires.world c.requires c.process-process.result.0, c.requires.is.members) in
    let at = slice_get_read c.args.parts.now.nodes.items (length c.args.parts.now.nodes.items) c.home_of-home.result c.index_mut.result.now refl lt c.index_mut.ensures.value in
    let has = (c.in_ok-burst.ensures {u = tt}).ok in
    omega (arith, c.requires.is.piece_room, one_out g.P.OneRun.stood g.P.OneRun.left g.P.OneRun.run.frame c.args.parts.now c.home_of-home.result c.args.done c.in_ok-burst.burst c.index_mut.result.now c.check_in.new.self at has)

pub push_step-requires : goal.push_step-requires
push_step-requires g c =
    let lt : c.home_of-home.result < length c.args.parts.now.nodes.items = omega (arith, c.home_of-home.ensures c.requires.world c.requires.is, home_within g.P.OneRun.stood g.P.OneRun.left g.P.OneRun.run.frame c.args.parts.now c.requires.world c.requires c.process-process.result.0, c.requires.is.members) in
    let at = slice_get_read c.args.parts.now.nodes.items (length c.args.parts.now.nodes.items) c.home_of-home.result c.index_mut.result.now refl lt c.index_mut.ensures.value in
    let has = (c.in_ok-burst.ensures {u = tt}).ok in
    omega (arith, c.requires.is.step_room, one_out g.P.OneRun.stood g.P.OneRun.left g.P.OneRun.run.frame c.args.parts.now c.home_of-home.result c.args.done c.in_ok-burst.burst c.index_mut.result.now c.check_in.new.self at has, ap (λ (l : Recorded). l.step_room) c.push_piece.ensures)

pub returns-clause-stands : goal.returns-clause-stands
returns-clause-stands g c =
    let w = c.requires.world in
    let is = c.requires.is in
    let lt : c.home_of-home.result < length c.args.parts.now.nodes.items = omega (arith, c.home_of-home.ensures c.requires.world c.requires.is, home_within g.P.OneRun.stood g.P.OneRun.left g.P.OneRun.run.frame c.args.parts.now c.requires.world c.requires c.process-process.result.0, c.requires.is.members) in
    let at = slice_get_read c.args.parts.now.nodes.items (length c.args.parts.now.nodes.items) c.home_of-home.result c.index_mut.result.now refl lt c.index_mut.ensures.value in
    let has = (c.in_ok-burst.ensures {u = tt}).ok in
    let checks : Checks g.P.OneRun.stood g.P.OneRun.left g.P.OneRun.run.frame c.args.parts.now w c.home_of-home.result c.args.done c.in_ok-burst.burst c.index_mut.result.now c.check_in.new.self = record { stands = c.requires; is = is; going = (going_of (standing g.P.OneRun.run.frame w) (ap is_going (sym (c.standing.ensures w is)) ∙ sym c.is_going.ensures ∙ c.if-not-is_going.false)); at_home = (c.home_of-home.ensures w is ∙ ap (λ (p : ProcessNo). home_of g.P.OneRun.run.frame w p.0) c.process-process.ensures); there = at; has = has } in
    let ends : Ends c.args.parts.now (checked_on c.args.parts.now c.home_of-home.result c.check_in.new.self c.push_step.new.self) c.home_of-home.result (c.turns-after.result - c.turns_of-before.result) c.args.done c.in_ok-burst.burst c.index_mut.result.now c.check_in.new.self = record {
      there = at;
      numbers = refl;
      nodes = refl;
      lives = refl;
      flights = refl;
      steps = ap (λ (l : Recorded). l.steps) c.push_step.ensures ∙ ap (λ (l : Recorded). l.steps ++ record { event = event.Burst c.process-process.result c.in_ok-burst.burst.place (c.turns-after.result - c.turns_of-before.result); fates = c.new-fates.result } ∷ []) c.push_piece.ensures
          ∙ ap (λ (p : ProcessNo). c.args.parts.now.ledger.steps ++ record { event = event.Burst p c.in_ok-burst.burst.place (c.turns-after.result - c.turns_of-before.result); fates = c.new-fates.result } ∷ []) c.process-process.ensures
          ∙ ap (λ (l : List Fate). c.args.parts.now.ledger.steps ++ record { event = event.Burst c.args.done.process c.in_ok-burst.burst.place (c.turns-after.result - c.turns_of-before.result); fates = l } ∷ []) (c.new-fates.ensures ∙ c.no_fates.ensures);
      entries = ap (λ (l : Recorded). l.entries) c.push_step.ensures ∙ ap (λ (l : Recorded). l.entries) c.push_piece.ensures;
      performed = ap (λ (l : Recorded). l.performed) c.push_step.ensures ∙ ap (λ (l : Recorded). l.performed) c.push_piece.ensures ∙ ap (λ (l : List Placed). c.args.parts.now.ledger.performed ++ l) c.reads_of.ensures;
      step_room = ap (λ (l : Recorded). l.step_room) c.push_step.ensures ∙ ap (λ (l : Recorded). l.step_room - 1) c.push_piece.ensures;
      piece_room = ap (λ (l : Recorded). l.piece_room) c.push_step.ensures ∙ ap (λ (l : Recorded). l.piece_room) c.push_piece.ensures;
      sent = refl;
      swaps = refl;
      idle = refl;
    } in
    checked_stands g.P.OneRun.stood g.P.OneRun.left g.P.OneRun.run.frame c.args.parts.now (checked_on c.args.parts.now c.home_of-home.result c.check_in.new.self c.push_step.new.self) c.home_of-home.result (c.turns-after.result - c.turns_of-before.result) c.args.done c.in_ok-burst.burst c.index_mut.result.now c.check_in.new.self c.requires checks ends (ap (λ (n : ℕ). n - c.turns_of-before.result) c.turns-after.ensures ∙ ap (λ (n : ℕ). c.args.done.turns - n) (turns_there g.P.OneRun.stood g.P.OneRun.left g.P.OneRun.run.frame c.args.parts.now w c.home_of-home.result c.turns_of-before.result c.args.done c.index_mut.result.now has.resident is (c.home_of-home.ensures w is ∙ ap (λ (p : ProcessNo). home_of g.P.OneRun.run.frame w p.0) c.process-process.ensures) at has.here (c.turns_of-before.ensures w is ∙ ap (λ (p : ProcessNo). turns_in (played_in g.P.OneRun.run.frame w p.0)) c.process-process.ensures)))

pub returns-clause-done : goal.returns-clause-done
returns-clause-done g c =
    let lt : c.home_of-home.result < length c.args.parts.now.nodes.items = omega (arith, c.home_of-home.ensures c.requires.world c.requires.is, home_within g.P.OneRun.stood g.P.OneRun.left g.P.OneRun.run.frame c.args.parts.now c.requires.world c.requires c.process-process.result.0, c.requires.is.members) in
    let at = slice_get_read c.args.parts.now.nodes.items (length c.args.parts.now.nodes.items) c.home_of-home.result c.index_mut.result.now refl lt c.index_mut.ensures.value in
    let has = (c.in_ok-burst.ensures {u = tt}).ok in
    let ends : Ends c.args.parts.now (checked_on c.args.parts.now c.home_of-home.result c.check_in.new.self c.push_step.new.self) c.home_of-home.result (c.turns-after.result - c.turns_of-before.result) c.args.done c.in_ok-burst.burst c.index_mut.result.now c.check_in.new.self = record {
      there = at;
      numbers = refl;
      nodes = refl;
      lives = refl;
      flights = refl;
      steps = ap (λ (l : Recorded). l.steps) c.push_step.ensures ∙ ap (λ (l : Recorded). l.steps ++ record { event = event.Burst c.process-process.result c.in_ok-burst.burst.place (c.turns-after.result - c.turns_of-before.result); fates = c.new-fates.result } ∷ []) c.push_piece.ensures
          ∙ ap (λ (p : ProcessNo). c.args.parts.now.ledger.steps ++ record { event = event.Burst p c.in_ok-burst.burst.place (c.turns-after.result - c.turns_of-before.result); fates = c.new-fates.result } ∷ []) c.process-process.ensures
          ∙ ap (λ (l : List Fate). c.args.parts.now.ledger.steps ++ record { event = event.Burst c.args.done.process c.in_ok-burst.burst.place (c.turns-after.result - c.turns_of-before.result); fates = l } ∷ []) (c.new-fates.ensures ∙ c.no_fates.ensures);
      entries = ap (λ (l : Recorded). l.entries) c.push_step.ensures ∙ ap (λ (l : Recorded). l.entries) c.push_piece.ensures;
      performed = ap (λ (l : Recorded). l.performed) c.push_step.ensures ∙ ap (λ (l : Recorded). l.performed) c.push_piece.ensures ∙ ap (λ (l : List Placed). c.args.parts.now.ledger.performed ++ l) c.reads_of.ensures;
      step_room = ap (λ (l : Recorded). l.step_room) c.push_step.ensures ∙ ap (λ (l : Recorded). l.step_room - 1) c.push_piece.ensures;
      piece_room = ap (λ (l : Recorded). l.piece_room) c.push_step.ensures ∙ ap (λ (l : Recorded). l.piece_room) c.push_piece.ensures;
      sent = refl;
      swaps = refl;
      idle = refl;
    } in
    checks_in g.P.OneRun.stood g.P.OneRun.left g.P.OneRun.run.frame c.args.parts.now (checked_on c.args.parts.now c.home_of-home.result c.check_in.new.self c.push_step.new.self) c.home_of-home.result (c.turns-after.result - c.turns_of-before.result) c.args.done c.in_ok-burst.burst c.index_mut.result.now c.check_in.new.self c.requires (λ w is. (record { stands = c.requires; is = is; going = (going_of (standing g.P.OneRun.run.frame w) (ap is_going (sym (c.standing.ensures w is)) ∙ sym c.is_going.ensures ∙ c.if-not-is_going.false)); at_home = (c.home_of-home.ensures w is ∙ ap (λ (p : ProcessNo). home_of g.P.OneRun.run.frame w p.0) c.process-process.ensures); there = at; has = has }, (ap (λ (n : ℕ). n - c.turns_of-before.result) c.turns-after.ensures ∙ ap (λ (n : ℕ). c.args.done.turns - n) (turns_there g.P.OneRun.stood g.P.OneRun.left g.P.OneRun.run.frame c.args.parts.now w c.home_of-home.result c.turns_of-before.result c.args.done c.index_mut.result.now has.resident is (c.home_of-home.ensures w is ∙ ap (λ (p : ProcessNo). home_of g.P.OneRun.run.frame w p.0) c.process-process.ensures) at has.here (c.turns_of-before.ensures w is ∙ ap (λ (p : ProcessNo). turns_in (played_in g.P.OneRun.run.frame w p.0)) c.process-process.ensures))))) has ends

pub returns-clause-fewer : goal.returns-clause-fewer
returns-clause-fewer g c =
    let lt : c.home_of-home.result < length c.args.parts.now.nodes.items = omega (arith, c.home_of-home.ensures c.requires.world c.requires.is, home_within g.P.OneRun.stood g.P.OneRun.left g.P.OneRun.run.frame c.args.parts.now c.requires.world c.requires c.process-process.result.0, c.requires.is.members) in
    let at = slice_get_read c.args.parts.now.nodes.items (length c.args.parts.now.nodes.items) c.home_of-home.result c.index_mut.result.now refl lt c.index_mut.ensures.value in
    let has = (c.in_ok-burst.ensures {u = tt}).ok in
    let ends : Ends c.args.parts.now (checked_on c.args.parts.now c.home_of-home.result c.check_in.new.self c.push_step.new.self) c.home_of-home.result (c.turns-after.result - c.turns_of-before.result) c.args.done c.in_ok-burst.burst c.index_mut.result.now c.check_in.new.self = record {
      there = at;
      numbers = refl;
      nodes = refl;
      lives = refl;
      flights = refl;
      steps = ap (λ (l : Recorded). l.steps) c.push_step.ensures ∙ ap (λ (l : Recorded). l.steps ++ record { event = event.Burst c.process-process.result c.in_ok-burst.burst.place (c.turns-after.result - c.turns_of-before.result); fates = c.new-fates.result } ∷ []) c.push_piece.ensures
          ∙ ap (λ (p : ProcessNo). c.args.parts.now.ledger.steps ++ record { event = event.Burst p c.in_ok-burst.burst.place (c.turns-after.result - c.turns_of-before.result); fates = c.new-fates.result } ∷ []) c.process-process.ensures
          ∙ ap (λ (l : List Fate). c.args.parts.now.ledger.steps ++ record { event = event.Burst c.args.done.process c.in_ok-burst.burst.place (c.turns-after.result - c.turns_of-before.result); fates = l } ∷ []) (c.new-fates.ensures ∙ c.no_fates.ensures);
      entries = ap (λ (l : Recorded). l.entries) c.push_step.ensures ∙ ap (λ (l : Recorded). l.entries) c.push_piece.ensures;
      performed = ap (λ (l : Recorded). l.performed) c.push_step.ensures ∙ ap (λ (l : Recorded). l.performed) c.push_piece.ensures ∙ ap (λ (l : List Placed). c.args.parts.now.ledger.performed ++ l) c.reads_of.ensures;
      step_room = ap (λ (l : Recorded). l.step_room) c.push_step.ensures ∙ ap (λ (l : Recorded). l.step_room - 1) c.push_piece.ensures;
      piece_room = ap (λ (l : Recorded). l.piece_room) c.push_step.ensures ∙ ap (λ (l : Recorded). l.piece_room) c.push_piece.ensures;
      sent = refl;
      swaps = refl;
      idle = refl;
    } in
    checked_fewer g.P.OneRun.stood g.P.OneRun.left g.P.OneRun.run.frame c.args.parts.now (checked_on c.args.parts.now c.home_of-home.result c.check_in.new.self c.push_step.new.self) c.home_of-home.result (c.turns-after.result - c.turns_of-before.result) c.args.done c.in_ok-burst.burst c.index_mut.result.now c.check_in.new.self has ends
