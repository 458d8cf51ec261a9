-- Slots that get a small value.
use Rattle.std.proofs.Common.{◌≡◌, ℕ, ℤ, zero, suc, Bool, true, false, List, [], ◌∷◌, MatchBool, Option, Some, None, Ok, Err, Result, refl, sym, ap, ◌∙◌}
use Rattle.std.specs.Prelude.{if◌then◌else◌, nat_le, ok_or, slice_get, slice_set}
use Rattle.orca_base.specs.declared.fault.FaultKind.TheVariants.{IndexOutside, TooLarge}
use Rattle.orca_base.specs.declared.limits.TheConstants.{VALUE_SIZE}
use Rattle.value_core.specs.Datum.{Datum}
use Rattle.value_core.specs.Datum as datum
use Rattle.value_core.specs.Size.{size_of}
use Rattle.meaning_rules.specs.Operators.{and_then, fitting, integer_in}
use Rattle.meaning_rules.specs.States.{State, Out, Goes, Stops, after, gives}
use Rattle.meaning_rules.specs.Variables.{changed_at, store, stored}
use Rattle.value_paths.specs.declared.step.Step.{Step as ValueStep}
use Rattle.value_paths.specs.Paths.{part_at}
use Rattle.value_paths.specs.declared.step.Step.TheVariants.{Index}
use Rattle.frame_variables.specs.Gives.{Gives}
use Rattle.frame_variables.specs.declared.stop.Stop.{Stop}
use Rattle.code_rules.specs.Instructions as rules
use Rattle.code_rules.specs.Machine.{Code, Config, Effect, act, at_state, indices, into, next, on_out, on_result, on_top, pops, pushes, read, steps_by, to, Stuck}
use Rattle.code_steps.specs.declared.advance.Advance.{Advance}
use Rattle.code_steps.specs.declared.advance.Advance.TheVariants as advance
use Rattle.code_steps.specs.Moves.{effect_of, holding}
use Rattle.code_steps.specs.Passing.{Changes, Stores}
use Rattle.code_steps.proofs.Arriving.{changed, pushed_on}

-- where there is no such slot nothing is set
pub no_slot : (xs : List Datum) (slot : ℕ) (v : Datum) → slice_get xs slot ≡ None → slice_set xs slot v ≡ xs
no_slot [] slot v none = refl
no_slot (x ∷ xs) zero v none = absurd cc
no_slot (x ∷ xs) (suc n) v none = ap (λ ys. x ∷ ys) (no_slot xs n v none)

-- a value of one part fits
pub one_fits : (v : Datum) → size_of v ≡ 1 → fitting v ≡ Ok v
one_fits v one = ap (λ (n : ℕ). if nat_le n VALUE_SIZE then Ok v else Err TooLarge) one

-- and is stored in a slot that is there
pub slot_stored : (slot : ℕ) (v x : Datum) (s : State) → slice_get s.frame slot ≡ Some x → size_of v ≡ 1 → store (record { slot = slot; path = [] }) v s ≡ Goes tt (stored slot v s)
slot_stored slot v x s there one =
    ap (λ (o : Option Datum). after (gives (and_then (and_then (ok_or o IndexOutside) (changed_at [] (λ old. Ok v))) fitting) s) (λ whole s1. Goes tt (stored slot whole s1))) there
    ∙ ap (λ r. after (gives r s) (λ whole s1. Goes tt (stored slot whole s1))) (one_fits v one)

frame_in : Out (Unit {0}) → List Datum → List Datum
frame_in (Goes u s) other = s.frame
frame_in (Stops why) other = other

-- what was stored in it stands there
pub slot_set : (slot : ℕ) (path : List ValueStep) (v : Datum) (s1 s2 : State) (old : List Datum) → path ≡ [] → s1 ≡ at_state old → (x : Datum) × (slice_get old slot ≡ Some x) → size_of v ≡ 1 →
    store (record { slot = slot; path = path }) v s1 ≡ Goes tt s2 → s2.frame ≡ slice_set old slot v
unfolding frame_in
slot_set slot path v s1 s2 old bare clear there one h =
    let here : slice_get s1.frame slot ≡ Some there.0 = ap (λ (s : State). slice_get s.frame slot) clear ∙ there.1 in
    let out = ap (λ (p : List ValueStep). store (record { slot = slot; path = p }) v s1) (sym bare) ∙ h in
    ap (λ o. frame_in o old) (sym out ∙ slot_stored slot v there.0 s1 here one) ∙ ap (λ (s : State). slice_set s.frame slot v) clear

-- whether there is such a slot
pub there : (b : Bool) (slot : ℕ) (xs : List Datum) → b ≡ true → MatchBool b ((x : Datum) × (slice_get xs slot ≡ Some x)) (slice_get xs slot ≡ None) → (x : Datum) × (slice_get xs slot ≡ Some x)
there true slot xs is h = h
there false slot xs is h = absurd cc

pub not_there : (b : Bool) (slot : ℕ) (xs : List Datum) → b ≡ false → MatchBool b ((x : Datum) × (slice_get xs slot ≡ Some x)) (slice_get xs slot ≡ None) → slice_get xs slot ≡ None
not_there true slot xs is h = absurd cc
not_there false slot xs is h = h

-- ---- variables

-- the value of a variable is pushed, where there is one
pub gets_slot : (code : Code) (home : Config) (slot : ℕ) (old new locals : List Datum) (x : Datum) → slice_get locals slot ≡ Some x → new ≡ x ∷ old →
    act code (Some (rules.Get slot [])) (holding home old locals) ≡ effect_of home advance.Next new locals
gets_slot code home slot old new locals x is top =
    ap (λ (o : Option Datum). on_result (and_then (ok_or o IndexOutside) (part_at [])) (λ y. pushes (holding home old locals) old y locals)) is
    ∙ pushed_on home x old old new locals locals advance.Next refl top

pub gets_none : (code : Code) (home : Config) (slot : ℕ) (old locals : List Datum) → slice_get locals slot ≡ None →
    act code (Some (rules.Get slot [])) (holding home old locals) ≡ effect_of home (advance.Fails IndexOutside) old locals
gets_none code home slot old locals is =
    ap (λ (o : Option Datum). on_result (and_then (ok_or o IndexOutside) (part_at [])) (λ y. pushes (holding home old locals) old y locals)) is

-- an element's value is, by the index on top
pub gets_element : (code : Code) (home : Config) (slot : ℕ) (low : ℤ) (old st locals : List Datum) (x : Datum) → old ≡ x ∷ st →
    act code (Some (rules.Get slot (rules.ByIndex low ∷ []))) (holding home old locals) ≡
    on_result (read slot (Index low (integer_in x) ∷ []) locals) (λ y. pushes (holding home old locals) st y locals)
gets_element code home slot low old st locals x is =
    ap (λ w. pops 1 w [] (λ xs stack. on_result (read slot (steps_by (rules.ByIndex low ∷ []) xs) locals) (λ y. pushes (holding home old locals) stack y locals))) is

pub gets_no_element : (code : Code) (home : Config) (slot : ℕ) (low : ℤ) (old locals : List Datum) → old ≡ [] →
    act code (Some (rules.Get slot (rules.ByIndex low ∷ []))) (holding home old locals) ≡ Stuck
gets_no_element code home slot low old locals is =
    ap (λ w. pops 1 w [] (λ xs stack. on_result (read slot (steps_by (rules.ByIndex low ∷ []) xs) locals) (λ y. pushes (holding home old locals) stack y locals))) is

-- the value on top goes to the element that the index beneath names
pub assigns_element : (code : Code) (home : Config) (slot : ℕ) (low : ℤ) (old mid st locals : List Datum) (x i : Datum) → old ≡ x ∷ mid → mid ≡ i ∷ st →
    act code (Some (rules.Put slot (rules.ByIndex low ∷ []))) (holding home old locals) ≡
    on_out (store (to slot (Index low (integer_in i) ∷ [])) x (at_state locals)) (λ _ after. next (holding home old locals) st after)
assigns_element code home slot low old mid st locals x i is below =
    ap (λ w. on_top w (λ y rest. pops 1 rest [] (λ xs stack. into store slot (steps_by (rules.ByIndex low ∷ []) xs) y (holding home old locals) stack))) is
    ∙ ap (λ w. pops 1 w [] (λ xs stack. into store slot (steps_by (rules.ByIndex low ∷ []) xs) x (holding home old locals) stack)) below

pub assigns_no_element : (code : Code) (home : Config) (slot : ℕ) (low : ℤ) (old mid locals : List Datum) (x : Datum) → old ≡ x ∷ mid → mid ≡ [] →
    act code (Some (rules.Put slot (rules.ByIndex low ∷ []))) (holding home old locals) ≡ Stuck
assigns_no_element code home slot low old mid locals x is below =
    ap (λ w. on_top w (λ y rest. pops 1 rest [] (λ xs stack. into store slot (steps_by (rules.ByIndex low ∷ []) xs) y (holding home old locals) stack))) is
    ∙ ap (λ w. pops 1 w [] (λ xs stack. into store slot (steps_by (rules.ByIndex low ∷ []) xs) x (holding home old locals) stack)) below

-- the value on top goes to one
pub assigns_slot : (code : Code) (home : Config) (slot : ℕ) (old st locals : List Datum) (x : Datum) → old ≡ x ∷ st →
    act code (Some (rules.Put slot [])) (holding home old locals) ≡ on_out (store (to slot []) x (at_state locals)) (λ _ after. next (holding home old locals) st after)
assigns_slot code home slot old st locals x is =
    ap (λ w. on_top w (λ y rest. pops (indices []) rest [] (λ xs stack. into store slot (steps_by [] xs) y (holding home old locals) stack))) is

pub puts_changed : (slot : ℕ) (path : List ValueStep) (v : Datum) (locals : List Datum) (s1 s2 : State) (a : Advance) (change : Result (Unit {0}) Stop) → path ≡ [] → s1 ≡ at_state locals →
    Gives (λ u. u) change s2 (store (record { slot = slot; path = path }) v s1) → Changes change a → Stores slot v locals a s2.frame
puts_changed slot path v locals s1 s2 a change bare clear h is home old st =
    let go : Unit {0} → List Datum → Effect = λ u after. next (holding home old locals) st after in
    ap (λ (p : List ValueStep). on_out (store (to slot p) v (at_state locals)) go) (sym bare)
    ∙ changed home old st st locals a s1 s2 clear change (store (to slot path) v) h is

-- ---- loops

pub pushed_two : (new mid st : List Datum) (x y x' y' : Datum) → mid ≡ x ∷ st → new ≡ y ∷ mid → x ≡ x' → y ≡ y' → new ≡ y' ∷ (x' ∷ st)
pushed_two new mid st x y x' y' one two ex ey = two ∙ ap (λ w. y ∷ w) one ∙ ap (λ w. y ∷ (w ∷ st)) ex ∙ ap (λ w. w ∷ (x' ∷ st)) ey

pub same_integer : (x y : Datum) (z : ℤ) → y ≡ datum.int (integer_in x) → x ≡ datum.int z → y ≡ datum.int z
same_integer x y z is same = is ∙ ap (λ w. datum.int (integer_in w)) same
