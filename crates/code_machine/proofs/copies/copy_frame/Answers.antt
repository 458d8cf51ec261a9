use Rattle.std.proofs.Common.{◌≡◌, ◌∷◌, [], ◌++◌, Some, slice_get, take, sym, ap, ◌∙◌}
use Rattle.std.specs.Option.{option_copied}
use Rattle.std.specs.Prelude.{option_map}
use Rattle.value_core.specs.View.{datum_of}
use Rattle.code_machine.proofs.Alike.{take_one_more}
use Rattle.code_machine.proofs.copies.copy_frame.Goals as goal

pub slots-preserved : goal.slots-preserved
slots-preserved c =
    let frame = c.args.frame.now in
    let n = c.slots.slot in
    let here : slice_get frame n ≡ Some (datum_of c.in-Some.value.now) = sym c.get.ensures ∙ ap (λ r. option_map datum_of (option_copied r)) c.in-Some.is in
    (c.in_ok-push-in-Some.ensures {u = tt}).ok
    ∙ ap (λ v. v ++ datum_of c.in_ok-copy-in-Some.field-0 ∷ []) c.slots.invariant
    ∙ ap (λ v. take n frame ++ datum_of v ∷ []) (c.in_ok-copy-in-Some.ensures {u = tt})
    ∙ sym (take_one_more frame n (datum_of c.in-Some.value.now) here)
