-- What a message does of itself.
use Rattle.std.proofs.Common.{◌≡◌, List, [], ◌∷◌, ap, ◌∙◌, sym, refl}
use Rattle.value_core.specs.Datum.{Data, list_of}
use Rattle.value_core.specs.Datum as datum
use Rattle.value_core.specs.Fits.{Kinds}
use Rattle.value_core.specs.declared.action.Line.{Line}
use Rattle.value_core.specs.declared.meaning.Tried.{Tried}
use Rattle.value_core.specs.declared.meaning.Tried.TheVariants as tried
use Rattle.value_core.specs.History.{Objects, with_object, output_object, output_kind}
use Rattle.guard_queue.specs.declared.queue.Suspended.{Suspended}
use Rattle.guard_queue.specs.Settles.{answered, objects_with}
use Rattle.object_manager.specs.After.{called_in, opening_copies}

no_values : (w : Data) → list_of w ≡ [] → w ≡ datum.none
no_values datum.none h = refl
no_values (datum.more v vs) h = cc

pub opening_is : (after before own : Objects) (queue waits : List Suspended) (singles : Kinds) (w : Data) → before ≡ [] → after ≡ with_object before output_object (record { kind = output_kind; state = w }) → list_of w ≡ []
    → queue ≡ [] → singles ≡ [] → own ≡ [] → waits ≡ []
    → record { objects = after; queue = queue; processes = 1; applied = 0; singles = singles; own = own; waits = waits } ≡ opening_copies
opening_is after before own queue waits singles w empty put none no_calls no_singles no_own no_waits =
    let e : after ≡ (output_object, record { kind = output_kind; state = datum.none }) ∷ [] =
    (put ∙ ap (λ xs. with_object xs output_object (record { kind = output_kind; state = w })) empty ∙ ap (λ v. (output_object, record { kind = output_kind; state = v }) ∷ []) (no_values w none)) in
    λ i. record { objects = e i; queue = no_calls i; processes = 1; applied = 0; singles = no_singles i; own = no_own i; waits = no_waits i }

-- a call that isn't blocked
called_if : (objects : Objects) (queue : List Suspended) (call : Suspended) (t : Tried) → (t ≡ tried.Blocked → ⊥)
    → called_in objects queue call t ≡ record { objects = objects_with objects call t; queue = queue; lines = answered call t ∷ [] }
called_if objects queue call tried.Blocked apart = absurd (apart refl)
called_if objects queue call (tried.Did guard state reply) apart = refl
called_if objects queue call (tried.Broke guard fault) apart = refl

pub called_so : (was objects : Objects) (queue waits : List Suspended) (call : Suspended) (t u : Tried) (line : Line) (lines : List Line) → t ≡ u → (t ≡ tried.Blocked → ⊥) → objects ≡ objects_with was call t → waits ≡ queue
    → line ≡ answered call t → lines ≡ line ∷ []
    → record { objects = objects; queue = waits; lines = lines } ≡ called_in was queue call u
called_so was objects queue waits call t u line lines is apart put same said one =
    let said_all : lines ≡ answered call t ∷ [] = one ∙ ap (λ l. l ∷ []) said in
    let all : record { objects = objects; queue = waits; lines = lines } ≡ record { objects = objects_with was call t; queue = queue; lines = answered call t ∷ [] } =
    (λ i. record { objects = put i; queue = same i; lines = said_all i }) in
    all ∙ sym (called_if was queue call t apart) ∙ ap (called_in was queue call) is
