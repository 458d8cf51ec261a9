use Rattle.std.proofs.Common.{◌≡◌, ◌∙◌, ap, false, is_some, map, nat_lt, not, rules, subst, sym, true}
use Rattle.world_core.specs.Stepping.{is_going}
use Rattle.world_parts.specs.Seen.{Of, tasks_out}
use Rattle.world_rules.specs.declared.standing.Standing.TheVariants.{Going}
use Rattle.room_state.specs.Held.{Held, is_idle, is_stopped}
use Rattle.room_state.proofs.Ordering.{any_ready, idle_is}
use Rattle.room_state.proofs.state.RoomState.is_idle.Goals as goal

pub returns-then-is_none-2 : goal.returns-then-is_none-2
returns-then-is_none-2 g c =
    let f = g.P.OneRun.run.frame in
    let r = c.self.inside in
    let h : Held g.row.P-State.Denot =
    record { seen = r.driver.world; in_use = r.driver.in_use; phase = r.phase; told = map g.W.Wire.told r.wires.items; tasks = r.driver.tasks.counts.items } in
    let left = c.is_none-then-is_none-2.result in
    let open_still : not (is_stopped r.phase) ≡ true = search rules in
    let going : c.standing.result ≡ Going = search rules in
    let out : nat_lt 0 (tasks_out r.driver.world) ≡ true = search rules in
    let no_act : is_some c.due_act.result ≡ false = search rules in
    let no_packet : is_some c.due_packet.result ≡ false = search rules in
    subst (λ (k : Held g.row.P-State.Denot). Of f k.seen (λ w. left ≡ is_idle f k w)) c.self.view_is
    (λ w led.
    idle_is f h w c.due_act.result c.chosen.result c.due_packet.result left open_still (ap is_going (sym (c.standing.ensures.standing w led) ∙ going)) out no_act (c.due_act.ensures w led) no_packet (c.due_packet.ensures w led)
    c.is_none-then-is_none-2.ensures (any_ready f h.seen c.chosen.result h.tasks 0 c.chosen.ensures.chosen c.chosen.ensures.none w led))
