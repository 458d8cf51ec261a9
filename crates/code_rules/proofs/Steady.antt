-- More instructions change nothing of a run that is over. So what a run comes to is one.
use Rattle.std.proofs.Common.{◌≡◌, ℕ, zero, suc, ◌+◌, ◌≤◌, List, [], ◌∷◌, refl, sym, ap, ◌∙◌, subst, arith, inl, inr, ⊎_elim}
use Rattle.std.specs.Prelude.{◌⊎◌, drop, take}
use Rattle.orca_base.specs.declared.limits.TheConstants.{OPERATION_TURNS}
use Rattle.value_core.specs.Datum.{data_of}
use Rattle.value_core.specs.declared.action.Reply.{Reply}
use Rattle.value_core.specs.declared.action.Reply.TheVariants as reply
use Rattle.value_core.specs.declared.meaning.Tried.{Tried}
use Rattle.value_core.specs.declared.meaning.Tried.TheVariants as tried
use Rattle.meaning_rules.specs.Operations.{fault_of, reply_of}
use Rattle.code_rules.specs.Machine.{Config, Code, Effect, Steps, Turns, Asks, Fails, Ends, Tests, Blocks, Stuck, RunResult, Over, Halted, Tested, AllFalse, Unfinished, Lost, Continuation, step, react, exec}
use Rattle.code_rules.specs.Performing.{Came, To, NotYet, GotStuck, ComesTo, Attempt, next_guard, part_of, tried_by, trying, attempted}

-- ---- a run

abbrev pub IsOver : RunResult → Type 0
IsOver Unfinished = ⊥
IsOver _ = Unit {0}

abbrev Extends : Continuation → Continuation → Type 0
Extends f g = (c : Config) (rs : List Reply) (turns n : ℕ) (r : RunResult) → IsOver r → f c rs turns n ≡ r → g c rs turns n ≡ r

react_extends : (f g : Continuation) → Extends f g → (e : Effect) (rs : List Reply) (turns n : ℕ) (r : RunResult) → IsOver r → react e f rs turns n ≡ r → react e g rs turns n ≡ r
react_extends f g h (Steps c) rs turns n r over e = h c rs turns n r over e
react_extends f g h (Turns c) rs turns zero r over e = e
react_extends f g h (Turns c) rs turns (suc zero) r over e = e
react_extends f g h (Turns c) rs turns (suc (suc n)) r over e = h c rs (turns + 1) (suc n) r over e
react_extends f g h (Asks a c) [] turns n r over e = e
react_extends f g h (Asks a c) (reply.Done ∷ rs) turns n r over e = h _ rs turns n r over e
react_extends f g h (Asks a c) (reply.Gave v ∷ rs) turns n r over e = h _ rs turns n r over e
react_extends f g h (Asks a c) (reply.Broke x ∷ rs) turns n r over e = e
react_extends f g h (Fails x) rs turns n r over e = e
react_extends f g h (Ends x locals) rs turns n r over e = e
react_extends f g h (Tests t place) rs turns n r over e = e
react_extends f g h Blocks rs turns n r over e = e
react_extends f g h Stuck rs turns n r over e = e

pub longer : (code : Code) (j k : ℕ) → j ≤ k → Extends (exec code j) (exec code k)
longer code zero k le c rs turns n r over e = absurd (subst IsOver (sym e) over)
longer code (suc j) zero le c rs turns n r over e = absurd (omega (arith, le))
longer code (suc j) (suc k) le c rs turns n r over e =
    react_extends (exec code j) (exec code k) (longer code j k (omega (arith, le))) (step code c) rs turns n r over e

over_or : (r : RunResult) → (r ≡ Unfinished) ⊎ IsOver r
over_or (Over x locals turns) = inr tt
over_or (Halted why s) = inr tt
over_or (Tested t place) = inr tt
over_or AllFalse = inr tt
over_or Unfinished = inl refl
over_or Lost = inr tt

-- ---- what it comes to

abbrev pub IsDone : {A : Type 0} → Came A → Type 0
IsDone y = y ≡ NotYet → ⊥

done_or : {A : Type 0} (y : Came A) → (y ≡ NotYet) ⊎ IsDone y
done_or (To x) = inr (λ e. cc e)
done_or NotYet = inl refl
done_or GotStuck = inr (λ e. cc e)

-- once it has come to something, it stays so with more instructions
abbrev pub IsSteady : {A : Type 0} → (ℕ → Came A) → Type 0
IsSteady {A} run = (j k : ℕ) → j ≤ k → (y : Came A) → IsDone y → run j ≡ y → run k ≡ y

pub comes : {A : Type 0} (run : ℕ → Came A) → IsSteady run → (x : A) → (k : ℕ) × (run k ≡ To x) → ComesTo run x
comes run steady x there = record {
  enough = there;
  stays = λ j k le is. steady j k le (To x) (λ e. cc e) is;
  only = λ k.
      ⊎_elim
      (λ (runs : run k ≡ NotYet). inl runs)
      (λ (done : IsDone (run k)). inr (
      sym (steady k (k + there.0) (omega arith) (run k) done refl)
      ∙ steady there.0 (k + there.0) (omega arith) (To x) (λ e. cc e) there.1))
      (done_or (run k));
}

-- of one run
pub run_steady : {A : Type 0} (by : RunResult → Came A) → by Unfinished ≡ NotYet → (code : Code) (c : Config) (rs : List Reply) (turns n : ℕ) → IsSteady (λ k. by (exec code k c rs turns n))
run_steady by still code c rs turns n j k le y done is =
    ⊎_elim
    (λ (no : exec code j c rs turns n ≡ Unfinished). absurd (done (sym is ∙ ap by no ∙ still)))
    (λ (over : IsOver (exec code j c rs turns n)). ap by (longer code j k le c rs turns n (exec code j c rs turns n) over refl) ∙ is)
    (over_or (exec code j c rs turns n))

-- of an attempt
abbrev OnTry : Type 0
OnTry = ℕ → Config → ℕ → Came Tried

tried_more : (a : Attempt) (guard : ℕ) (f g : OnTry) → ((gd : ℕ) (c : Config) (n : ℕ) (y : Came Tried) → IsDone y → f gd c n ≡ y → g gd c n ≡ y) → (e : Effect) (n : ℕ) (y : Came Tried) → IsDone y → tried_by a guard f e n ≡ y → tried_by a guard g e n ≡ y
tried_more a guard f g h (Steps c) n y done e = h guard c n y done e
tried_more a guard f g h (Turns c) zero y done e = e
tried_more a guard f g h (Turns c) (suc zero) y done e = e
tried_more a guard f g h (Turns c) (suc (suc n)) y done e = h guard c (suc n) y done e
tried_more a guard f g h (Asks act c) n y done e = e
tried_more a guard f g h (Fails fault) n y done e = e
tried_more a guard f g h (Ends x locals) n y done e = e
tried_more a guard f g h (Tests t place) n y done e = h _ _ _ y done e
tried_more a guard f g h Blocks n y done e = e
tried_more a guard f g h Stuck n y done e = e

trying_longer : (code : Code) (a : Attempt) (j k : ℕ) → j ≤ k → (guard : ℕ) (c : Config) (n : ℕ) (y : Came Tried) → IsDone y → trying code a j guard c n ≡ y → trying code a k guard c n ≡ y
trying_longer code a zero k le guard c n y done e = absurd (done (sym e))
trying_longer code a (suc j) zero le guard c n y done e = absurd (omega (arith, le))
trying_longer code a (suc j) (suc k) le guard c n y done e =
    tried_more a guard (trying code a j) (trying code a k) (λ gd c1 n1 y1 done1 e1. trying_longer code a j k (omega (arith, le)) gd c1 n1 y1 done1 e1) (step code c) n y done e

pub attempted_steady : (code : Code) (a : Attempt) (first : ℕ) → IsSteady (attempted code a first)
attempted_steady code a first j k le y done e = trying_longer code a j k le first (part_of a 0) (OPERATION_TURNS + 1) y done e

-- ---- a part of an attempt, as a run

-- what is to come of it, where its tests lead on to what so many instructions more come to
abbrev pub part_by : Code → Attempt → ℕ → ℕ → RunResult → Came Tried
part_by code a guard k (Over x locals turns) = To (tried.Did guard (data_of (drop a.own (take a.names locals))) (reply_of x))
part_by code a guard k (Halted why s) = To (tried.Broke guard (fault_of why))
part_by code a guard k (Tested t place) = trying code a k (next_guard t guard) (part_of a place) (OPERATION_TURNS + 1)
part_by code a guard k AllFalse = To tried.Blocked
part_by code a guard k Unfinished = NotYet
part_by code a guard k Lost = GotStuck

module _ (code : Code) (a : Attempt) (guard : ℕ) (t : Tried) where
  abbrev Tries : Config → ℕ → Type 0
  Tries c left = (k : ℕ) × (trying code a k guard c left ≡ To t)

  abbrev Reacts : Effect → ℕ → Type 0
  Reacts e left = (k : ℕ) × (tried_by a guard (trying code a k) e left ≡ To t)

  by_event : (j k : ℕ) → ((c : Config) (turns left : ℕ) → part_by code a guard k (exec code j c [] turns left) ≡ To t → Tries c left) → (e : Effect) (turns left : ℕ) → part_by code a guard k (react e (exec code j) [] turns left) ≡ To t → Reacts e left
  by_event j k more (Steps c) turns left is = more c turns left is
  by_event j k more (Turns c) turns zero is = (0, is)
  by_event j k more (Turns c) turns (suc zero) is = (0, is)
  by_event j k more (Turns c) turns (suc (suc n)) is = more c (turns + 1) (suc n) is
  by_event j k more (Asks act c) turns left is = (0, is)
  by_event j k more (Fails fault) turns left is = (0, is)
  by_event j k more (Ends x locals) turns left is = (0, is)
  by_event j k more (Tests b place) turns left is = (k, is)
  by_event j k more Blocks turns left is = (0, is)
  by_event j k more Stuck turns left is = absurd (cc is)

  pub part_tried : (j k : ℕ) (c : Config) (turns left : ℕ) → part_by code a guard k (exec code j c [] turns left) ≡ To t → Tries c left
  part_tried zero k c turns left is = absurd (cc is)
  part_tried (suc j) k c turns left is = let h = by_event j k (part_tried j k) (step code c) turns left is in (suc h.0, h.1)
