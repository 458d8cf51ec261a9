use Rattle.std.proofs.Common.{◌≡◌, ◌+◌, ◌∙◌, ℕ, suc, false, ap, sym, subst, refl, arith, rules, length}
use Rattle.std.specs.List.{AllByRecursion as Each}
use Rattle.std.specs.Vec.Iter.{into_iter_items}
use Rattle.net_rules.specs.Flights.{travels}
use Rattle.node_core.proofs.Reaching.{empty_left, none_left, some_left}
use Rattle.letter_bytes.specs.declared.letters.Outgoing.{Outgoing}
use Rattle.world_core.proofs.Numbering.{next_new}
use Rattle.world_core.proofs.SendingAll.{SentAll, sent_first, sent_next, sent_over}
use Rattle.world_core.proofs.step.send_all.Goals as goal

pub packets-init : goal.packets-init
packets-init g c =
    let all : into_iter_items c.into_iter-one-iterator.result ≡ c.args.outgoing.items = search rules in (
      sent_first c.args.sent c.args.outgoing.items _ c.args.fates.items c.args.net.now.flights (g.W.Wire.told c.args.wire.now) all c.requires.fates.0 c.requires.below,
      omega (arith, ap length all, c.requires.net),
      omega (arith, ap length all, c.requires.wires),
      omega (arith, ap length all, ap length c.requires.fates.0, c.requires.fates.1),
      subst (Each (λ (one : Outgoing). one.twin ≡ one.bytes)) (sym all) c.requires.twins,
      omega (arith, ap length all, c.requires.small),
      refl,
      refl,
    )

pub fate-fate-requires : goal.fate-fate-requires
fate-fate-requires g c =
    let left = (some_left c.next.result c.in-Some.one _ _ c.in-Some.is c.next.ensures.steps).0 in
    omega (arith, c.packets.invariant.2, ap length left)

pub put-requires-clause-room : goal.put-requires-clause-room
put-requires-clause-room g c =
    let left = (some_left c.next.result c.in-Some.one _ _ c.in-Some.is c.next.ensures.steps).0 in
    omega (arith, c.packets.invariant.1, ap length left)

pub put-requires-clause-twin : goal.put-requires-clause-twin
put-requires-clause-twin g c =
    let left = (some_left c.next.result c.in-Some.one _ _ c.in-Some.is c.next.ensures.steps).0 in
    (subst (Each (λ (one : Outgoing). one.twin ≡ one.bytes)) left c.packets.invariant.4).0

pub put-requires-clause-other : goal.put-requires-clause-other
put-requires-clause-other g c =
    let up : suc c.packets.number ≡ c.packets.number + 1 = omega arith in
    subst (λ (k : ℕ). travels k c.packets.net.flights ≡ false) up (next_new c.packets.number c.packets.net.flights c.packets.invariant.0.low)

pub push_reserved-requires : goal.push_reserved-requires
push_reserved-requires g c =
    let left = (some_left c.next.result c.in-Some.one _ _ c.in-Some.is c.next.ensures.steps).0 in
    omega (arith, c.packets.invariant.3, ap length left)

pub packets-preserved : goal.packets-preserved
packets-preserved g c =
    let left = (some_left c.next.result c.in-Some.one _ _ c.in-Some.is c.next.ensures.steps).0 in
    let many = ap length left in (
      sent_next c.args.sent c.packets.number (c.packets.number + 1) c.args.outgoing.items _ _ c.in-Some.one c.fate-fate.result c.packets.fates.items _ c.args.net.now.flights c.packets.net.flights _ (g.W.Wire.told c.args.wire.now) (g.W.Wire.told c.packets.wire) _
          (omega arith) left c.push_reserved.ensures.items c.put.ensures.put c.fate-fate.ensures.told c.packets.invariant.0,
      omega (arith, c.packets.invariant.1, many, c.put.ensures.spare),
      omega (arith, c.packets.invariant.2, many, c.fate-fate.ensures.spare),
      omega (arith, c.packets.invariant.3, many, ap length c.push_reserved.ensures.items, c.push_reserved.ensures.capacity),
      (subst (Each (λ (one : Outgoing). one.twin ≡ one.bytes)) left c.packets.invariant.4).1,
      omega (arith, c.packets.invariant.5, many),
      c.fate-fate.ensures.script ∙ c.packets.invariant.6,
      c.fate-fate.ensures.since ∙ c.packets.invariant.7,
    )

pub returns-clause-flights : goal.returns-clause-flights
returns-clause-flights g c =
    let over = (none_left c.next.result _ _ c.in-None.is c.next.ensures.steps).0 in
    let whole = c.packets.one-iterator.rest.ok.0 in
    let all : SentAll c.args.sent c.args.outgoing.items c.packets.fates.items c.args.net.now.flights c.packets.net.flights (g.W.Wire.told c.args.wire.now) (g.W.Wire.told c.packets.wire) =
    sent_over c.args.sent c.packets.number c.args.outgoing.items _ c.packets.fates.items c.args.net.now.flights c.packets.net.flights (g.W.Wire.told c.args.wire.now) (g.W.Wire.told c.packets.wire)
    (empty_left (into_iter_items c.packets.one-iterator) (omega (arith, over, whole))) c.packets.invariant.0 in
    all.flights

pub returns-clause-count : goal.returns-clause-count
returns-clause-count g c =
    let over = (none_left c.next.result _ _ c.in-None.is c.next.ensures.steps).0 in
    let whole = c.packets.one-iterator.rest.ok.0 in
    let all : SentAll c.args.sent c.args.outgoing.items c.packets.fates.items c.args.net.now.flights c.packets.net.flights (g.W.Wire.told c.args.wire.now) (g.W.Wire.told c.packets.wire) =
    sent_over c.args.sent c.packets.number c.args.outgoing.items _ c.packets.fates.items c.args.net.now.flights c.packets.net.flights (g.W.Wire.told c.args.wire.now) (g.W.Wire.told c.packets.wire)
    (empty_left (into_iter_items c.packets.one-iterator) (omega (arith, over, whole))) c.packets.invariant.0 in
    all.count

pub returns-clause-told : goal.returns-clause-told
returns-clause-told g c =
    let over = (none_left c.next.result _ _ c.in-None.is c.next.ensures.steps).0 in
    let whole = c.packets.one-iterator.rest.ok.0 in
    let all : SentAll c.args.sent c.args.outgoing.items c.packets.fates.items c.args.net.now.flights c.packets.net.flights (g.W.Wire.told c.args.wire.now) (g.W.Wire.told c.packets.wire) =
    sent_over c.args.sent c.packets.number c.args.outgoing.items _ c.packets.fates.items c.args.net.now.flights c.packets.net.flights (g.W.Wire.told c.args.wire.now) (g.W.Wire.told c.packets.wire)
    (empty_left (into_iter_items c.packets.one-iterator) (omega (arith, over, whole))) c.packets.invariant.0 in
    all.asked

pub returns-clause-script : goal.returns-clause-script
returns-clause-script g c =
    c.packets.invariant.6

pub returns-clause-since : goal.returns-clause-since
returns-clause-since g c =
    c.packets.invariant.7
