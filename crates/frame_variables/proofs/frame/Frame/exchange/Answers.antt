use Rattle.std.proofs.Common.{◌<◌, [], ◌++◌, ap, arith, length, map, refl, subst, sym, ◌∙◌}
use Rattle.std.proofs.lemmas.List.{set-append_left}
use Rattle.value_core.specs.Datum.{list_of}
use Rattle.value_core.specs.View.{datum_of}
use Rattle.frame_variables.specs.Bounded.{AreWithin}
use Rattle.frame_variables.specs.Gives.{target_of}
use Rattle.frame_variables.specs.Ordered.{AllOrdered}
use Rattle.frame_variables.proofs.Fronts.{exchanges_all, exchanges_front}
use Rattle.frame_variables.proofs.Keeping.{front_of, joined}
use Rattle.frame_variables.proofs.Staying.{exchanged, firm_all, firm_front}
use Rattle.frame_variables.proofs.frame.Frame.exchange.Goals as goal

pub invariant_of-self : goal.invariant_of-self
invariant_of-self c =
    let own = list_of c.self.inside.own in
    let behind = map datum_of c.self.inside.behind.now in
    let others = c.exchange_own-old.ensures.others in
    let low : c.args.to.now.slot < length own = omega (arith, c.if-to-len.true, c.len.ensures.len) in
    let same = set-append_left own behind c.args.to.now.slot others.0 low ∙ ap (λ xs. xs ++ behind) (sym others.1) in (
      λ t. let stays = c.stayed-self-inside.ensures.stays t in
          exchanged (target_of c.args.to.now) (datum_of c.args.value) own behind (list_of c.exchange_own-old.new.own) c.exchange_own-old.result
          (firm_front (target_of c.args.to.now) own behind _ c.self.view_is (c.stays_in_order-stays.ensures.firm stays))
          (subst AllOrdered (sym c.self.view_is) (c.stays_in_order-stays.ensures.values stays))
          (c.requires (c.stays_in_order-stays.ensures.value stays)) c.exchange_own-old.ensures.exchanged (c.stayed-self-inside.ensures.ok t),
      subst (AreWithin c.forget.new.self) same (c.forget.ensures (own ++ behind) others.0 c.self.invariant.1),
    )

pub invariant_of-self-2 : goal.invariant_of-self-2
invariant_of-self-2 c =
    let own = list_of c.add_copies.new.all in
    let copied = c.in_ok-add_copies.ensures {u = tt} in (
      λ t. let stays = c.stayed-self-inside-2.ensures.stays t in
          exchanged (target_of c.args.to.now) (datum_of c.args.value) own [] (list_of c.exchange_own-old-2.new.own) c.exchange_own-old-2.result
          (firm_all (target_of c.args.to.now) own _ (copied ∙ c.self.view_is) (c.stays_in_order-stays.ensures.firm stays))
          (joined own [] (subst AllOrdered (sym (copied ∙ c.self.view_is)) (c.stays_in_order-stays.ensures.values stays)) tt)
          (c.requires (c.stays_in_order-stays.ensures.value stays)) c.exchange_own-old-2.ensures.exchanged (c.stayed-self-inside-2.ensures.ok t),
      c.clear.ensures (list_of c.exchange_own-old-2.new.own ++ []),
    )

pub exchange_own-old-requires : goal.exchange_own-old-requires
exchange_own-old-requires c t = front_of (list_of c.self.inside.own) (map datum_of c.self.inside.behind.now) (c.self.invariant.0 t)

pub exchange_own-old-requires-2 : goal.exchange_own-old-requires-2
exchange_own-old-requires-2 c t = subst AllOrdered (sym (c.in_ok-add_copies.ensures {u = tt})) (c.self.invariant.0 t)

pub returns-then-to-len : goal.returns-then-to-len
returns-then-to-len c s is =
    let own = list_of c.self.inside.own in
    let low : c.args.to.now.slot < length own = omega (arith, c.if-to-len.true, c.len.ensures.len) in
    exchanges_front (target_of c.args.to.now) (datum_of c.args.value) own (map datum_of c.self.inside.behind.now) (list_of c.exchange_own-old.new.own) s c.exchange_own-old.result low (is ∙ sym c.self.view_is)
    (c.exchange_own-old.ensures.exchanged (record s { frame = own }) refl)

pub returns : goal.returns
returns c s is =
    exchanges_all (target_of c.args.to.now) (datum_of c.args.value) (list_of c.exchange_own-old-2.new.own) s c.exchange_own-old-2.result
    (c.exchange_own-old-2.ensures.exchanged s (is ∙ sym c.self.view_is ∙ sym (c.in_ok-add_copies.ensures {u = tt})))
