use Rattle.std.proofs.Common.{◌≡◌, ◌<◌, ◌≤◌, length, ap, ◌∙◌, sym, arith}
use Rattle.std.specs.Prelude.{slice_index_or}
use Rattle.value_core.proofs.Comparing.{by_rest, longer, differ, ended}
use Rattle.value_core.proofs.value.+compares.Goals as goal

pub Parts::compare-returns-in_default : goal.Parts::compare-returns-in_default
Parts::compare-returns-in_default t c =
    let vs = c.self.inside.items.items in
    let ws = c.other.inside.items.items in
    let i = c.loop-index.index in
    let gone = (c.in_default.ensures {u = tt}).lookup.3 in
    let here : i < length vs = omega (arith, ap length c.deref-one-items.ensures.value) in
    let past : length ws ≤ i = omega (arith, gone, ap length c.deref.ensures.value) in
    sym (by_rest vs ws c.args.self.now c.args.other.now i c.self.view_is c.other.view_is c.loop-index.invariant.left ∙ longer vs ws i here past)

pub Parts::compare-returns-then-ne : goal.Parts::compare-returns-then-ne
Parts::compare-returns-then-ne t c =
    let vs = c.self.inside.items.items in
    let ws = c.other.inside.items.items in
    let i = c.loop-index.index in
    let one = c.one-item.result in
    let two = c.in-Some.two.now in
    let found = (c.in-Some.ensures {u = tt}).lookup in
    let here : i < length vs = omega (arith, ap length c.deref-one-items.ensures.value) in
    let there : i < length ws = omega (arith, found.3.0, ap length c.deref.ensures.value) in
    let first : one ≡ slice_index_or vs i one = c.one-item.is ∙ ap (λ xs. slice_index_or xs i one) c.deref-one-items.ensures.value in
    let second : two ≡ slice_index_or ws i two = found.1 ∙ ap (λ xs. slice_index_or xs i two) c.deref.ensures.value in
    sym (by_rest vs ws c.args.self.now c.args.other.now i c.self.view_is c.other.view_is c.loop-index.invariant.left ∙ differ vs ws i one two c.compare-order.result here there first second c.compare-order.ensures (c.if-ne.ensures {u = tt}))

pub Parts::compare-returns : goal.Parts::compare-returns
Parts::compare-returns t c =
    let vs = c.self.inside.items.items in
    let ws = c.other.inside.items.items in
    let i = c.loop-index.index in
    let same_length = ap length c.deref-one-items.ensures.value in
    let low : length vs ≤ i = omega (arith, same_length) in
    let high : i ≤ length vs = omega (arith, same_length, c.loop-index.auto.index-end) in
    let compared = by_rest vs ws c.args.self.now c.args.other.now i c.self.view_is c.other.view_is c.loop-index.invariant.left ∙ ended vs ws i low high c.loop-index.invariant.within in
    c.cmp.ensures ∙ cc (c.len.ensures, c.len-2.ensures, c.self.inside.items.ok.0, c.other.inside.items.ok.0) ∙ sym compared
