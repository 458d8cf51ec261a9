-- A frame's values stay in order.
use Rattle.std.proofs.Common.{◌≡◌, ℕ, zero, suc, true, List, [], ◌∷◌, ◌++◌, Option, Some, None, Result, Ok, Err, refl, ap, sym, ◌∙◌, subst}
use Rattle.std.specs.Prelude.{IfOk, is_ok, ok_or, slice_get}
use Rattle.orca_base.specs.declared.fault.FaultKind.{FaultKind}
use Rattle.orca_base.specs.declared.fault.FaultKind.TheVariants.{IndexOutside}
use Rattle.value_core.specs.Datum.{Datum}
use Rattle.value_core.specs.View.{datum_of}
use Rattle.value_core.specs.declared.value.Value.{Value}
use Rattle.value_paths.specs.declared.step.Step.{Step as ValueStep}
use Rattle.value_paths.specs.Paths.{part_at, with_part}
use Rattle.meaning_rules.specs.Operators.{and_then}
use Rattle.meaning_rules.specs.States.{State, Goes}
use Rattle.meaning_rules.specs.Variables.{Target, held, whole_at}
use Rattle.frame_variables.specs.declared.stop.Stop.{Stop}
use Rattle.frame_variables.specs.Exchanges.{Exchanges, IsPut}
use Rattle.frame_variables.specs.Firm.{IsFirm, IsFirmAt}
use Rattle.frame_variables.specs.Ordered.{AllOrdered, IsOrdered}
use Rattle.frame_variables.proofs.Keeping.{back_of, front_of, joined, path_ordered, set_in}
use Rattle.frame_variables.proofs.Standing.{firm_put}
use Rattle.frame_variables.proofs.Stopping.{gives_ok}

whole_in : (xs : List Datum) (i : ℕ) (x : Datum) → AllOrdered xs → ok_or (slice_get xs i) IndexOutside ≡ Ok x → IsOrdered x
whole_in [] i x h is = absurd cc
whole_in (y ∷ xs) zero x h is = let same : y ≡ x = cc in subst IsOrdered same h.0
whole_in (y ∷ xs) (suc i) x h is = whole_in xs i x h.1 is

-- what stands at a target
put_ordered : (to : Target) (old new : Datum) (s s1 : State) → AllOrdered s.frame → IsPut to old new s s1 → IsOrdered old
put_ordered to old new s s1 h p = path_ordered to.path p.whole old (whole_in s.frame to.slot p.whole h p.is) p.stood

pub lifted_ordered : (to : Target) (x : Datum) (s s1 : State) (r : Result Value Stop) → AllOrdered s.frame → Exchanges to x s r s1 → IfOk r (λ v. IsOrdered (datum_of v))
lifted_ordered to x s s1 (Ok part) h p = put_ordered to (datum_of part) x s s1 h p
lifted_ordered to x s s1 (Err why) h p = tt

pub held_ordered : (to : Target) (s : State) (p : Datum) → AllOrdered s.frame → held to s ≡ Goes p s → IsOrdered p
held_ordered to s p h is = by_whole (whole_at to s) refl (gives_ok (and_then (whole_at to s) (part_at to.path)) s p is)
  where
    by_whole : (q : Result Datum FaultKind) → whole_at to s ≡ q → and_then q (part_at to.path) ≡ Ok p → IsOrdered p
    by_whole (Ok whole) stands is = path_ordered to.path whole p (whole_in s.frame to.slot whole h stands) is
    by_whole (Err fault) stands is = absurd cc

-- what is put there
pub some_whole : (o : Option Datum) (x : Datum) → ok_or o IndexOutside ≡ Ok x → o ≡ Some x
some_whole None x is = absurd cc
some_whole (Some y) x is = let same : y ≡ x = cc in ap Some same

frame_ordered : (to : Target) (old x : Datum) (s s1 : State) → IsFirmAt to s.frame → AllOrdered s.frame → IsOrdered x → IsPut to old x s s1 → AllOrdered s1.frame
frame_ordered to old x s s1 firm h one p =
    let whole = whole_in s.frame to.slot p.whole h p.is in
    subst (λ (t : State). AllOrdered t.frame) (sym p.stands)
    (set_in s.frame to.slot (with_part to.path p.whole x) h (firm_put to.path p.whole x (firm p.whole (some_whole (slice_get s.frame to.slot) p.whole p.is)) whole one))

pub exchanged : (to : Target) (x : Datum) (xs ys xs1 : List Datum) (r : Result Value Stop) → IsFirmAt to xs → AllOrdered (xs ++ ys) → IsOrdered x →
    ((s : State) → s.frame ≡ xs → Exchanges to x s r (record s { frame = xs1 })) → is_ok r ≡ true → AllOrdered (xs1 ++ ys)
exchanged to x xs ys xs1 (Ok part) firm h one put ok =
    let s : State = record { frame = xs; replies = []; left = 0 } in
    joined xs1 ys (frame_ordered to (datum_of part) x s (record s { frame = xs1 }) firm (front_of xs ys h) one (put s refl)) (back_of xs ys h)
exchanged to x xs ys xs1 (Err why) firm h one put ok = absurd cc

-- what stands in front of others
got_front : (xs ys : List Datum) (i : ℕ) (x : Datum) → slice_get xs i ≡ Some x → slice_get (xs ++ ys) i ≡ Some x
got_front [] ys i x is = absurd cc
got_front (y ∷ xs) ys zero x is = is
got_front (y ∷ xs) ys (suc i) x is = got_front xs ys i x is

pub firm_front : (to : Target) (xs ys zs : List Datum) → xs ++ ys ≡ zs → IsFirmAt to zs → IsFirmAt to xs
firm_front to xs ys zs view firm whole is = firm whole (ap (λ us. slice_get us to.slot) (sym view) ∙ got_front xs ys to.slot whole is)

pub firm_all : (to : Target) (xs zs : List Datum) → xs ≡ zs → IsFirmAt to zs → IsFirmAt to xs
firm_all to xs zs same firm whole is = firm whole (ap (λ us. slice_get us to.slot) (sym same) ∙ is)

-- as code finds a variable, and its path
pub firm_there : (path path' : List ValueStep) (xs : List Datum) (i : ℕ) (v whole : Datum) → path ≡ path' → slice_get xs i ≡ Some v → slice_get xs i ≡ Some whole → IsFirm path v → IsFirm path' whole
firm_there path path' xs i v whole same there stands firm =
    let both : Some v ≡ Some whole = sym there ∙ stands in
    let is : v ≡ whole = cc in
    subst (λ p. IsFirm p whole) same (subst (IsFirm path) is firm)
