use Rattle.std.proofs.Common.{◌≡◌, None, slice_get, refl, sym, ◌∙◌, arith}
use Rattle.value_core.specs.View.{datum_of}
use Rattle.code_machine.proofs.Alike.{ends, no_value, same_to_end}
use Rattle.code_machine.proofs.compared.same_frame.Goals as goal

pub returns-then-is_none : goal.returns-then-is_none
returns-then-is_none c =
    let one = c.args.one.now in
    let other = c.args.other.now in
    let n = c.slots.slot in
    let none : slice_get one n ≡ None = sym c.get.ensures ∙ no_value datum_of c.get.result (c.if-is_none.ensures {u = tt}) in
    let here : slice_get one n ≡ slice_get other n = c.same_slot.ensures.0 c.if-not-same_slot.false in
    (λ t. same_to_end one other n c.slots.invariant (ends one n none) (ends other n (sym here ∙ none)), λ same. refl)

pub returns : goal.returns
returns c =
    let low = c.slots-test.false in
    let few = c.requires.one in
    let few' = c.requires.other in
    (λ t. same_to_end c.args.one.now c.args.other.now c.slots.slot c.slots.invariant (omega (arith, low, few)) (omega (arith, low, few')), λ same. refl)
