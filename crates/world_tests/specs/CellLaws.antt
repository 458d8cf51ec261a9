-- The law of processes, for the process of a cell: it names its own object alone, once its making gave one.
use Rattle.std.specs.Prelude.{◌≡◌, ℕ, pos, ◌+◌, ◌≤◌, ◌==◌, Bool, true, false, List, [], ◌∷◌, nat_lt, if◌then◌else◌, refl}
use Rattle.std.specs.List.{Contains}
use Rattle.std.proofs.Common.{arith, subst, sym}
use Rattle.std.proofs.lemmas.Bool.{ne_eqb}
use Rattle.orca_base.specs.declared.ids.OpNo.{OpNo}
use Rattle.orca_base.specs.declared.ids.ProcessNo.{ProcessNo}
use Rattle.orca_base.specs.declared.ids.TextNo.{TextNo}
use Rattle.value_core.specs.Datum.{Data}
use Rattle.value_core.specs.Fits.{Kinds}
use Rattle.value_core.specs.Lawful.{IsLawful, IsLawfulDoing, RepliesFit, own_objects}
use Rattle.value_core.specs.Lawful.IsKnownObject.{own as knows_own}
use Rattle.value_core.specs.Sound.{AreSoundArguments}
use Rattle.value_core.specs.declared.action.Action.{Action}
use Rattle.value_core.specs.declared.action.Action.TheVariants as action
use Rattle.value_core.specs.declared.action.Reply.{Reply}
use Rattle.value_core.specs.declared.action.Reply.TheVariants as answer
use Rattle.value_core.specs.declared.meaning.Doing.TheVariants as doing
use Rattle.bag_performer.specs.Fitting.{FitsArgs, FitsReply}
use Rattle.world_tests.specs.Cells.{action_at, cell, cell_computes, its_object, last, next, on_cell, place_from, with_number}

-- a process that has ended stays so, and one that isn't at its beginning doesn't come back to it
ended : (replies : List Reply) → place_from last replies ≡ last
ended [] = refl
ended (answer.Done ∷ replies) = ended replies
ended (answer.Gave value ∷ replies) = ended replies
ended (answer.Broke fault ∷ replies) = ended replies

-- what is lawful for the process that made its object
abbrev Lawful : Kinds → TextNo → ProcessNo → Data → List Reply → Action → Type 0
Lawful kinds text number args replies act = IsLawfulDoing cell_computes (λ (ks : Kinds). FitsArgs) (λ (ks : Kinds) (t : TextNo). AreSoundArguments) kinds text number args replies (doing.At act)

either : (P : Action → Type 0) (b : Bool) (x y : Action) → P x → P y → P (if b then x else y)
either P true x y one two = one
either P false x y one two = two

module _ (kinds : Kinds) (text : TextNo) (number : ProcessNo) (args : Data) (replies : List Reply) where
  calls : (op : OpNo) (given : Data) → Contains (own_objects cell_computes text number args replies) (its_object number, cell) → FitsArgs cell op given → Lawful kinds text number args replies (action.Call cell op (its_object number) given)
  calls op given own fits = (knows_own (its_object number) cell own, λ more knows. fits)

  cells : (place : ℕ) → Contains (own_objects cell_computes text number args replies) (its_object number, cell) → Lawful kinds text number args replies (on_cell number place)
  cells place own =
      either (Lawful kinds text number args replies) (place == 1) _ _ (calls (record { 0 = 1 }) (with_number (pos 6)) own (pos 6, record { sfits = omega arith }, refl))
      (either (Lawful kinds text number args replies) (place == 2) _ _ (calls (record { 0 = 0 }) (with_number (pos 6)) own (pos 6, record { sfits = omega arith }, refl))
      (either (Lawful kinds text number args replies) (place == 3) _ _ (calls (record { 0 = 1 }) (with_number (pos 7)) own (pos 7, record { sfits = omega arith }, refl)) tt))

some_next : (place : ℕ) (b : Bool) → 1 ≤ (if b then place + 1 else last)
some_next place true = omega arith
some_next place false = omega arith

some_after : (place : ℕ) (replies : List Reply) → 1 ≤ place → 1 ≤ place_from place replies
some_after place [] some = some
some_after place (answer.Done ∷ replies) some = some_after (next place answer.Done) replies (some_next place (nat_lt place last))
some_after place (answer.Gave value ∷ replies) some = some_after (next place (answer.Gave value)) replies (some_next place (nat_lt place last))
some_after place (answer.Broke fault ∷ replies) some = some_after last replies (omega arith)

-- the process names only what it knows
pub lawful_cell : (kinds : Kinds) (text : TextNo) (number : ProcessNo) (args : Data) (replies : List Reply) → RepliesFit cell_computes FitsReply text number args replies →
    IsLawful cell_computes (λ (ks : Kinds). FitsArgs) (λ (ks : Kinds) (t : TextNo). AreSoundArguments) kinds text number args replies
lawful_cell kinds text number args [] got = (refl, refl)
lawful_cell kinds text number args (answer.Done ∷ replies) got =
    let place = place_from 1 replies in
    let own : Contains (own_objects cell_computes text number args (answer.Done ∷ replies)) (its_object number, cell) = (0, omega arith, refl) in
    subst (λ b. Lawful kinds text number args (answer.Done ∷ replies) (if b then action.Make cell (its_object number) else on_cell number place))
    (sym (ne_eqb place 0 (λ (e : place ≡ 0). let some = some_after 1 replies (omega arith) in omega (arith, e, some))))
    (cells kinds text number args (answer.Done ∷ replies) place own)
lawful_cell kinds text number args (answer.Gave value ∷ replies) got = absurd got.0
lawful_cell kinds text number args (answer.Broke fault ∷ replies) got =
    subst (λ (n : ℕ). Lawful kinds text number args (answer.Broke fault ∷ replies) (action_at number n)) (sym (ended replies)) tt
