-- What a take says, from what its parts say.
use Rattle.std.proofs.Common.{◌≡◌, ◌∙◌, ◌++◌, ◌∷◌, [], ℕ, zero, suc, List, ap, arith, drop, length, refl, sym, subst, take, Result, Ok, Err, OnErr}
use Rattle.net_rules.specs.declared.asked.Asked.{Asked}
use Rattle.node_core.specs.Tasks.{Tasked}
use Rattle.world_rules.specs.Frame.{Frame}
use Rattle.world_parts.specs.Seen.{Seen}
use Rattle.room_state.specs.declared.phase.Phase.TheVariants as phase
use Rattle.room_state.specs.Held.{AreAskedOnce, HasFailed, HasHandedOut, Held}

module _ {S : Type 0} (f : Frame) where
  -- after the wire in use was asked
  pub handed_from : (home : ℕ) (s mid : Seen S) (tasks roomy : List ℕ) (task : Tasked S) (new : Held S) → mid ≡ s → roomy ≡ tasks → HasHandedOut f home task mid roomy new → HasHandedOut f home task s tasks new
  handed_from home s mid tasks roomy task new same_seen same_tasks h =
      subst (λ (x : Seen S). HasHandedOut f home task x tasks new) same_seen (subst (λ (l : List ℕ). HasHandedOut f home task mid l new) same_tasks h)

pub failed_from : {S : Type 0} (old new : Held S) (mid : Seen S) (told : List (List Asked)) → mid ≡ old.seen → AreAskedOnce old.seen old.in_use old.told told → (new.phase ≡ phase.Stopped) × (new.seen ≡ mid) × (new.told ≡ told) → HasFailed old new
failed_from old new mid told same once h = record {
  stopped = h.0;
  seen = h.1 ∙ same;
  told = subst (AreAskedOnce old.seen old.in_use old.told) (sym h.2) once;
}

pub err_so : {T E A B : Type 0} (r : Result T E) → (A → B) → OnErr r A → OnErr r B
err_so (Ok x) so a = tt
err_so (Err e) so a = so a

-- a list that was lent and written, put back where it was
pub taken_back : {A : Type 0} (n : ℕ) (xs ys : List A) → length xs ≡ n → length ys ≡ n → take n (xs ++ drop (length xs) ys) ≡ xs
taken_back zero [] ys e h = refl
taken_back zero (x ∷ xs) ys e h = absurd (omega (arith, e))
taken_back (suc n) [] ys e h = absurd (omega (arith, e))
taken_back (suc n) (x ∷ xs) [] e h = absurd (omega (arith, h))
taken_back (suc n) (x ∷ xs) (y ∷ ys) e h = ap (λ l. x ∷ l) (taken_back n xs ys (omega (arith, e)) (omega (arith, h)))
