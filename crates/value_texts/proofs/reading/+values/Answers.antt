use Rattle.std.proofs.Common.{◌≡◌, ◌++◌, ◌∷◌, [], ◌<◌, ◌∙◌, ap, sym, length, true, false, List, Some, subst, map, None, arith}
use Rattle.std.proofs.lemmas.Result.{err_from_is_err_and}
use Rattle.std.proofs.lemmas.List.{map_push}
use Rattle.value_core.specs.View.{datum_of}
use Rattle.value_core.specs.declared.value.Value.{Value}
use Rattle.value_texts.specs.Reading.{Fails, begins, closing, last_of, part_at, until_at, value_at, within}
use Rattle.value_texts.proofs.Levels.{first_read, list_read, no_level}
use Rattle.value_texts.proofs.Turns.{closes, fails, goes_on, runs_out}
use Rattle.value_texts.proofs.reading.+values.Goals as goal

pub parts_in-returns-then-begins : goal.parts_in-returns-then-begins
parts_in-returns-then-begins t c =
    let item = part_at (value_at c.args.levels) c.args.brackets in
    let shut : begins (closing c.args.brackets) c.loop.rest.now ≡ true = subst (λ b. begins b c.loop.rest.now ≡ true) c.closing.ensures (sym c.begins.ensures ∙ c.if-begins.true) in
    rw c.behind.ensures (closes item (closing c.args.brackets) (map datum_of c.loop.parts.items) (length c.args.text.now) c.loop.counter c.loop.rest.now
    (until_at item (closing c.args.brackets) (length c.args.text.now) None c.args.text.now) c.loop-test.true shut c.loop.invariant)

pub parts_in-returns-in_err-part : goal.parts_in-returns-in_err-part
parts_in-returns-in_err-part t c =
    let p = err_from_is_err_and c.from_residual.result c.from_residual.ensures.1 in
    let item = part_at (value_at c.args.levels) c.args.brackets in
    let apart : begins (closing c.args.brackets) c.loop.rest.now ≡ false = subst (λ b. begins b c.loop.rest.now ≡ false) c.closing.ensures (sym c.begins.ensures ∙ c.if-begins.false) in
    let stopped = subst (λ (vs : List Value). Fails c.in_err-part.field-0.0 (item (last_of (map datum_of vs)) c.loop.rest.now)) c.deref.ensures.value c.in_err-part.ensures in
    rw (p.1, p.2) (fails item (closing c.args.brackets) c.in_err-part.field-0.0 (map datum_of c.loop.parts.items) (length c.args.text.now) c.loop.counter c.loop.rest.now
    (until_at item (closing c.args.brackets) (length c.args.text.now) None c.args.text.now) c.loop-test.true apart stopped c.loop.invariant)

pub parts_in-loop-preserved : goal.parts_in-loop-preserved
parts_in-loop-preserved t c =
    let part = c.in_ok-part.part in
    let item = part_at (value_at c.args.levels) c.args.brackets in
    let apart : begins (closing c.args.brackets) c.loop.rest.now ≡ false = subst (λ b. begins b c.loop.rest.now ≡ false) c.closing.ensures (sym c.begins.ensures ∙ c.if-begins.false) in
    let e : map datum_of c.push.new.self.items ≡ map datum_of c.loop.parts.items ++ datum_of part ∷ [] = rw c.in_ok-push.ensures.items (map_push _ c.loop.parts.items part) in
    let one = subst (λ (vs : List Value). item (last_of (map datum_of vs)) c.loop.rest.now ≡ Some (datum_of part, c.in_ok-part.after.now)) c.deref.ensures.value c.in_ok-part.ensures in
    rw e (goes_on item (closing c.args.brackets) (map datum_of c.loop.parts.items) (length c.args.text.now) c.loop.counter c.loop.rest.now (datum_of part) c.in_ok-part.after.now
    (until_at item (closing c.args.brackets) (length c.args.text.now) None c.args.text.now) c.loop-test.true apart one c.loop.invariant)

pub parts_in-returns : goal.parts_in-returns
parts_in-returns t c =
    let item = part_at (value_at c.args.levels) c.args.brackets in
    rw c.refuse.ensures (runs_out item (closing c.args.brackets) (map datum_of c.loop.parts.items) (length c.args.text.now) c.loop.counter c.loop.rest.now
    (until_at item (closing c.args.brackets) (length c.args.text.now) None c.args.text.now) c.loop-test.false c.loop.invariant)

pub list_in-returns : goal.list_in-returns
list_in-returns t c =
    let is : datum_of c.value.result ≡ within c.args.brackets c.from_vec.result = c.value.ensures ∙ ap (within c.args.brackets) c.in_ok-parts-2.ensures in
    list_read (value_at c.args.levels) c.args.brackets c.args.text.now (map datum_of c.in_ok-parts.parts.items) c.in_ok-parts.rest.now c.from_vec.result (datum_of c.value.result)
    c.in_ok-parts.ensures c.from_vec.ensures is

pub value_in-returns-then-levels-eq0 : goal.value_in-returns-then-levels-eq0
value_in-returns-then-levels-eq0 t c = rw c.refuse.ensures (no_level c.args.levels c.args.text.now (omega (arith, c.if-levels-eq0.true)))

pub value_in-returns : goal.value_in-returns
value_in-returns t c =
    let some : 0 < c.args.levels = omega (arith, c.if-levels-eq0.false) in
    rw (first_read c.args.levels c.args.text.now some) c.first_in.ensures
