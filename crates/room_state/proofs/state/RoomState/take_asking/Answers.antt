use Rattle.std.proofs.Common.{◌≡◌, ◌∙◌, ◌++◌, ap, drop, length, map, rules, subst, sym, take}
use Rattle.std.proofs.lemmas.List.{length-map}
use Rattle.room_state.specs.Held.{AreAskedOnce, Held}
use Rattle.room_state.proofs.Taking.{err_so, failed_from, handed_from, taken_back}
use Rattle.room_state.proofs.state.RoomState.take_asking.Goals as goal

pub returns-in-Ok-false-clause-task : goal.returns-in-Ok-false-clause-task
returns-in-Ok-false-clause-task g c = λ t is.
    let old = c.args.self.now in
    let same : c.asks.new.self ≡ c.self.inside.driver = search rules in
    handed_from g.P.OneRun.run.frame c.args.home old.seen c.asks.new.self.world old.tasks c.asks.new.self.tasks.counts.items t c.take_due.new.self
    (ap (λ d. d.world) same ∙ ap (λ (h : Held g.row.P-State.Denot). h.seen) c.self.view_is)
    (ap (λ d. d.tasks.counts.items) same ∙ ap (λ (h : Held g.row.P-State.Denot). h.tasks) c.self.view_is)
    (c.take_due.ensures.task t is)

pub returns-in-Ok-false-clause-err : goal.returns-in-Ok-false-clause-err
returns-in-Ok-false-clause-err g c =
    let old = c.args.self.now in
    let inside = c.self.inside in
    let back = take inside.wires.len (c.asks.new.wires ++ drop (length c.asks.new.wires) inside.wires.items) in
    let size : length inside.wires.items ≡ inside.wires.len = search rules in
    let now : c.deref_mut.result.now ≡ inside.wires.items = search rules in
    let mapped : length (map g.W.Wire.rule c.asks.new.wires) ≡ length (map g.W.Wire.rule c.deref_mut.result.now) = ap length c.asks.ensures.scripts in
    let many : length c.asks.new.wires ≡ inside.wires.len =
    sym (length-map c.asks.new.wires g.W.Wire.rule) ∙ mapped ∙ length-map c.deref_mut.result.now g.W.Wire.rule ∙ ap length now ∙ size in
    let same_wires : back ≡ c.asks.new.wires = taken_back inside.wires.len c.asks.new.wires inside.wires.items many size in
    let told = map g.W.Wire.told back in
    let same : c.asks.new.self ≡ inside.driver = search rules in
    let once : AreAskedOnce inside.driver.world inside.driver.in_use (map g.W.Wire.told inside.wires.items) (map g.W.Wire.told c.asks.new.wires) = search rules in
    err_so c.take_due.result
    (failed_from old c.take_due.new.self c.asks.new.self.world told (ap (λ d. d.world) same ∙ ap (λ (h : Held g.row.P-State.Denot). h.seen) c.self.view_is)
    (subst (λ (h : Held g.row.P-State.Denot). AreAskedOnce h.seen h.in_use h.told told) c.self.view_is
    (subst (λ wires. AreAskedOnce inside.driver.world inside.driver.in_use (map g.W.Wire.told inside.wires.items) (map g.W.Wire.told wires)) (sym same_wires) once)))
    c.take_due.ensures.err
