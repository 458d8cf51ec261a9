use Rattle.std.proofs.Common.{◌≡◌, ◌++◌, ◌∷◌, [], ◌∙◌, sym, subst, map, None}
use Rattle.std.proofs.lemmas.Result.{err_from_is_err_and}
use Rattle.std.proofs.lemmas.List.{map_push}
use Rattle.orca_base.specs.declared.limits.TheConstants.{VALUE_NESTING}
use Rattle.value_core.specs.View.{datum_of}
use Rattle.value_bytes.specs.Reading.{Fails, items_at, last_of, value_at}
use Rattle.value_bytes.proofs.Loop.{goes_on, ends, is_done, any_item}
use Rattle.packet_bytes.specs.Reading.{any}
use Rattle.packet_bytes.proofs.fields.values_of.Goals as goal

pub returns-in_err-value : goal.returns-in_err-value
returns-in_err-value c =
    let p = err_from_is_err_and c.from_residual.result c.from_residual.ensures.1 in
    let read = value_at c.args.end VALUE_NESTING in
    let front = map datum_of c.loop.values.items in
    let stops = subst (λ r. Fails c.in_err-value.field-0.0 r) (sym (any_item read c.args.end (last_of front) c.loop.rest.now)) c.in_err-value.ensures in
    rw (p.1, p.2) (ends read any c.args.end c.in_err-value.field-0.0 front c.args.count c.loop.counter c.loop.rest.now
    (items_at read any c.args.end c.args.count None c.args.bytes.now) c.loop-test.true stops c.loop.invariant)

pub loop-preserved : goal.loop-preserved
loop-preserved c =
    let read = value_at c.args.end VALUE_NESTING in
    let front = map datum_of c.loop.values.items in
    let value = c.in_ok-value.value in
    let e : map datum_of c.push.new.self.items ≡ front ++ datum_of value ∷ [] = rw c.in_ok-push.ensures.items (map_push _ c.loop.values.items value) in
    rw e (goes_on read any c.args.end front c.args.count c.loop.counter c.loop.rest.now (datum_of value) c.in_ok-value.after.now
    (items_at read any c.args.end c.args.count None c.args.bytes.now) c.loop-test.true (any_item read c.args.end (last_of front) c.loop.rest.now ∙ c.in_ok-value.ensures) c.loop.invariant)

pub returns : goal.returns
returns c =
    let read = value_at c.args.end VALUE_NESTING in
    is_done read any c.args.end (map datum_of c.loop.values.items) c.args.count c.loop.counter c.loop.rest.now
    (items_at read any c.args.end c.args.count None c.args.bytes.now) c.loop-test.false c.loop.invariant
