-- One suspended call that fits, in a queue of its own.
use Rattle.std.proofs.Common.{◌≡◌, ℕ, List, [], ◌∷◌, Some, subst, sym, zero, suc}
use Rattle.std.specs.Prelude.{slice_get}
use Rattle.value_core.specs.History.{Objects}
use Rattle.guard_queue.specs.declared.queue.Suspended.{Suspended}
use Rattle.guard_queue.specs.Fitting.{CallFits, Fitting, SomeFit}
use Rattle.object_manager.specs.After.{Copied}
use Rattle.object_manager.specs.Applies.{CopiesFit}
use Rattle.object_manager.specs.Singles.{kinds_at}
use Rattle.bag_performer.specs.Fitting.{FitsArgs}
use Rattle.bag_copies.specs.Fits.{BagArgs, BagState, HasObject}

only : {X : Type 0} (P : X → Type 0) (y : X) (at : ℕ) (x : X) → slice_get (y ∷ []) at ≡ Some x → P y → P x
only P y zero x is here = let same : y ≡ x = cc is in subst P same here
only P y (suc at) x is here = cc

pub one_fits : (c : Copied) (objects : Objects) (queue : List Suspended) (call : Suspended) → CopiesFit BagState BagArgs c → objects ≡ c.objects → queue ≡ call ∷ [] → HasObject c.objects call.kind call.object
    → FitsArgs call.kind call.op call.args → SomeFit BagState BagArgs objects queue
one_fits c objects queue call fit same alone there args =
    let kinds = kinds_at c in
    let one : CallFits BagArgs kinds c.objects call = record { kept = there.0; exists = there.1; kind = there.2; args = args } in
    let all : Fitting BagState BagArgs kinds c.objects (call ∷ []) = record { states = fit.shared.states; calls = λ at x is. only (CallFits BagArgs kinds c.objects) call at x is one } in
    let P : Objects → Type 0 = λ o. Fitting BagState BagArgs kinds o (call ∷ []) in
    let Q : List Suspended → Type 0 = λ q. Fitting BagState BagArgs kinds objects q in
    (kinds, subst Q (sym alone) (subst P (sym same) all))
