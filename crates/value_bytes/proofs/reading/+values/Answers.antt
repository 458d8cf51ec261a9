use Rattle.std.proofs.Common.{◌≡◌, ◌++◌, ◌∷◌, [], ◌<◌, ◌∙◌, ap, List, Ok, subst, map, None, arith}
use Rattle.std.proofs.lemmas.Result.{err_from_is_err_and}
use Rattle.std.proofs.lemmas.List.{map_push}
use Rattle.value_core.specs.View.{datum_of}
use Rattle.value_core.specs.declared.value.Value.{Value}
use Rattle.value_bytes.specs.Reading.{Fails, item_at, items_at, last_of, may_follow, value_at, with_tag}
use Rattle.value_bytes.proofs.Loop.{goes_on, ends, is_done, no_tag, too_deep, by_tag, list_read}
use Rattle.value_bytes.proofs.reading.+values.Goals as goal

pub parts_of-returns-in_err-part : goal.parts_of-returns-in_err-part
parts_of-returns-in_err-part t c =
    let p = err_from_is_err_and c.from_residual.result c.from_residual.ensures.1 in
    let read = value_at c.args.end c.args.levels in
    let follows = may_follow c.args.tag in
    let stops = subst (λ (vs : List Value). Fails c.in_err-part.field-0.0 (item_at read follows c.args.end (last_of (map datum_of vs)) c.loop.rest.now)) c.deref.ensures.value c.in_err-part.ensures in
    rw (p.1, p.2) (ends read follows c.args.end c.in_err-part.field-0.0 (map datum_of c.loop.parts.items) c.args.count c.loop.counter c.loop.rest.now
    (items_at read follows c.args.end c.args.count None c.args.bytes.now) c.loop-test.true stops c.loop.invariant)

pub parts_of-loop-preserved : goal.parts_of-loop-preserved
parts_of-loop-preserved t c =
    let read = value_at c.args.end c.args.levels in
    let follows = may_follow c.args.tag in
    let part = c.in_ok-part.part in
    let e : map datum_of c.push.new.self.items ≡ map datum_of c.loop.parts.items ++ datum_of part ∷ [] = rw c.in_ok-push.ensures.items (map_push _ c.loop.parts.items part) in
    let one = subst (λ (vs : List Value). item_at read follows c.args.end (last_of (map datum_of vs)) c.loop.rest.now ≡ Ok (datum_of part, c.in_ok-part.after.now)) c.deref.ensures.value c.in_ok-part.ensures in
    rw e (goes_on read follows c.args.end (map datum_of c.loop.parts.items) c.args.count c.loop.counter c.loop.rest.now (datum_of part) c.in_ok-part.after.now
    (items_at read follows c.args.end c.args.count None c.args.bytes.now) c.loop-test.true one c.loop.invariant)

pub parts_of-returns : goal.parts_of-returns
parts_of-returns t c =
    let read = value_at c.args.end c.args.levels in
    let follows = may_follow c.args.tag in
    is_done read follows c.args.end (map datum_of c.loop.parts.items) c.args.count c.loop.counter c.loop.rest.now (items_at read follows c.args.end c.args.count None c.args.bytes.now) c.loop-test.false c.loop.invariant

pub value_of-returns-in_err-tag : goal.value_of-returns-in_err-tag
value_of-returns-in_err-tag t c =
    let p = err_from_is_err_and c.from_residual.result c.from_residual.ensures.1 in
    rw (p.1, p.2) (no_tag c.in_err-tag.field-0.0 c.args.end c.args.levels c.args.bytes.now c.in_err-tag.ensures)

pub value_of-returns-then-levels-eq0 : goal.value_of-returns-then-levels-eq0
value_of-returns-then-levels-eq0 t c =
    rw (c.refuse.ensures, c.place.ensures) (too_deep c.args.end c.args.levels c.args.bytes.now (c.in_ok-tag.tag, c.in_ok-tag.rest.now) c.in_ok-tag.ensures (omega (arith, c.if-levels-eq0.true)))

pub value_of-returns : goal.value_of-returns
value_of-returns t c =
    let some : 0 < c.args.levels = omega (arith, c.if-levels-eq0.false) in
    rw (by_tag c.args.end c.args.levels c.args.bytes.now (c.in_ok-tag.tag, c.in_ok-tag.rest.now) c.in_ok-tag.ensures some) c.content_of.ensures

pub list_of-returns : goal.list_of-returns
list_of-returns t c =
    let w = c.from_vec.result in
    let is : datum_of c.with_tag.result ≡ with_tag c.args.tag w = c.with_tag.ensures ∙ ap (with_tag c.args.tag) c.in_ok-parts-2.ensures in
    list_read (value_at c.args.end c.args.levels) c.args.tag c.args.end c.args.bytes.now c.in_ok-count.count c.in_ok-count.rest.now (map datum_of c.in_ok-parts.parts.items) c.in_ok-parts.rest.now w (datum_of c.with_tag.result)
    c.in_ok-count.ensures c.in_ok-parts.ensures c.from_vec.ensures is
