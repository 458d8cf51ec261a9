-- Evaluations count turns: what one did with some of them it does with so many again, and with fewer it is busy.
use Rattle.std.proofs.Common.{refl, ap, sym, ◌∙◌, subst, arith, ◌⊎◌, inl, inr}
use Rattle.std.specs.Prelude.{◌≡◌, ◌≤◌, ◌<◌, ℕ, zero, suc, ◌+◌, Bool, true, false, List, [], ◌∷◌, Option, Result, Ok, Err, if◌then◌else◌}
use Rattle.orca_base.specs.declared.fault.FaultKind.{FaultKind}
use Rattle.value_core.specs.Datum.{Datum}
use Rattle.value_core.specs.declared.action.Action.{Action}
use Rattle.value_core.specs.declared.action.Action.TheVariants as action
use Rattle.value_core.specs.declared.action.Reply.{Reply}
use Rattle.value_core.specs.declared.action.Reply.TheVariants as reply
use Rattle.meaning_rules.specs.Operators.{truth_in}
use Rattle.meaning_rules.specs.States.{State, Stop, Out, Goes, Stops, Needs, Faults, Busy, after, gives, begun, turn, replied, act}
use Rattle.meaning_rules.specs.Loops.{Flow, On, Back, Round, Over, Again, Leave, ended, round_if, while_round, until, until_round, loop, repeated, next_round}
use Rattle.meaning_rules.specs.Turns.{with_left, IsEnough, Counts, CountedTo, Counted}
use Rattle.meaning_rules.proofs.Closed.{Closed, IsRound, Makes, of_while, of_until}

-- ---- so many turns are within those that are used, or behind them

abbrev pub Within : ℕ → ℕ → Type 0
Within used n = (1 ≤ used) × (n ≤ used)

abbrev pub Behind : ℕ → ℕ → Type 0
Behind used n = (m : ℕ) × (n ≡ used + m) × IsEnough used m

raised : (u n : ℕ) → (n ≤ u) ⊎ ((m : ℕ) × (n ≡ u + suc m)) → (suc n ≤ suc u) ⊎ ((m : ℕ) × (suc n ≡ suc u + suc m))
raised u n (inl less) = inl (omega arith)
raised u n (inr h) = inr (h.0, omega (arith, h.1))

order : (u n : ℕ) → (n ≤ u) ⊎ ((m : ℕ) × (n ≡ u + suc m))
order zero zero = inl (omega arith)
order zero (suc n) = inr (n, omega arith)
order (suc u) zero = inl (omega arith)
order (suc u) (suc n) = raised u n (order u n)

by_order : (u n : ℕ) → (n ≤ suc u) ⊎ ((m : ℕ) × (n ≡ suc u + suc m)) → Within (suc u) n ⊎ Behind (suc u) n
by_order u n (inl less) = inl (omega arith, less)
by_order u n (inr h) = inr (suc h.0, h.1, λ some. omega arith)

pub split : (used n : ℕ) → Within used n ⊎ Behind used n
split zero n = inr (n, omega arith, λ some. absurd (omega arith))
split (suc used) n = by_order used n (order (suc used) n)

-- ---- what takes no turn

none_counts : {A : Type 0} (f : State → Out A) (s : State) (out : ℕ → Out A) → ((n : ℕ) → f (with_left n s) ≡ out n) → Counts f s out s.left
none_counts f s out same = record {
  used = 0;
  all = omega arith;
  last = λ some. absurd (omega arith);
  enough = λ n is. (let e : 0 + n ≡ n = omega arith in ap (λ k. f (with_left k s)) e ∙ same n);
  short = λ n some less. absurd (omega arith);
}

goes_counted : (A : Type 0) (x : A) → Counted A (λ s. Goes x s)
goes_counted A x = record { counted = λ s. none_counts (λ t. Goes x t) s (λ n. Goes x (with_left n s)) (λ n. refl) }

faults_counted : (A : Type 0) (fault : FaultKind) → Counted A (λ s. Stops (Faults fault))
faults_counted A fault = record { counted = λ s. (s.left, none_counts (λ t. Stops (Faults fault)) s (λ n. Stops (Faults fault)) (λ n. refl)) }

gives_counted_to : (A : Type 0) (r : List Datum → Result A FaultKind) (s : State) (x : Result A FaultKind) → r s.frame ≡ x →
    CountedTo (λ t. gives (r t.frame) t) s (gives x s)
gives_counted_to A r s (Ok x) is = none_counts (λ t. gives (r t.frame) t) s (λ n. Goes x (with_left n s)) (λ n. ap (λ y. gives y (with_left n s)) is)
gives_counted_to A r s (Err fault) is =
    (s.left, none_counts (λ t. gives (r t.frame) t) s (λ n. Stops (Faults fault)) (λ n. ap (λ y. gives y (with_left n s)) is))

gives_counted : (A : Type 0) (r : List Datum → Result A FaultKind) → Counted A (λ s. gives (r s.frame) s)
gives_counted A r = record { counted = λ s. gives_counted_to A r s (r s.frame) refl }

act_counted_to : (a : List Datum → Action) (frame : List Datum) (left : ℕ) (replies : List Reply) →
    CountedTo (λ s. act (a s.frame) s) (record { frame = frame; replies = replies; left = left })
    (replied (a frame) (record { frame = frame; replies = replies; left = left }) replies)
act_counted_to a frame left [] = (left, none_counts _ (record { frame = frame; replies = []; left = left }) _ (λ n. refl))
act_counted_to a frame left (reply.Done ∷ replies) = none_counts _ (record { frame = frame; replies = reply.Done ∷ replies; left = left }) _ (λ n. refl)
act_counted_to a frame left (reply.Gave value ∷ replies) =
    none_counts _ (record { frame = frame; replies = reply.Gave value ∷ replies; left = left }) _ (λ n. refl)
act_counted_to a frame left (reply.Broke fault ∷ replies) =
    (left, none_counts _ (record { frame = frame; replies = reply.Broke fault ∷ replies; left = left }) _ (λ n. refl))

act_counted : (a : List Datum → Action) → Counted (Option Datum) (λ s. act (a s.frame) s)
act_counted a = record { counted = λ s. act_counted_to a s.frame s.left s.replies }

pub make_counted : Makes Counted
make_counted kind object = act_counted (λ frame. action.Make kind object)

-- ---- a turn

few : (n : ℕ) (s : State) → n ≤ 1 → begun n s ≡ Stops Busy
few zero s less = refl
few (suc zero) s less = refl
few (suc (suc n)) s less = absurd (omega arith)

one_more : (n : ℕ) (s : State) → 1 ≤ n → turn (with_left (1 + n) s) ≡ Goes tt (with_left n s)
one_more zero s some = absurd (omega arith)
one_more (suc n) s some = let e : 1 + suc n ≡ suc (suc n) = omega arith in ap (λ k. turn (with_left k s)) e

turn_counted_to : (frame : List Datum) (replies : List Reply) (left : ℕ) →
    CountedTo turn (record { frame = frame; replies = replies; left = left }) (begun left (record { frame = frame; replies = replies; left = left }))
turn_counted_to frame replies zero = λ n less. few n (record { frame = frame; replies = replies; left = n }) (omega arith)
turn_counted_to frame replies (suc zero) = λ n less. few n (record { frame = frame; replies = replies; left = n }) (omega arith)
turn_counted_to frame replies (suc (suc left)) = record {
  used = 1;
  all = omega arith;
  last = λ some. omega arith;
  enough = λ n is. one_more n (record { frame = frame; replies = replies; left = 0 }) (is (omega arith));
  short = λ n some less. few n (record { frame = frame; replies = replies; left = n }) less;
}

turn_counted : Counted (Unit {0}) turn
turn_counted = record { counted = λ s. turn_counted_to s.frame s.replies s.left }

-- ---- one evaluation and then another

-- where so many are too few for both, and enough for the first, the second uses some
pub second_uses : (one two m n : ℕ) → 1 ≤ one + two → n ≤ one + two → n ≡ one + m → IsEnough one m → 1 ≤ two
second_uses one (suc two) m n some less is last = omega arith
second_uses zero zero m n some less is last = absurd (omega arith)
second_uses (suc one) zero m n some less is last = let k : 1 ≤ m = last (omega arith) in absurd (omega arith)

-- what both leave is enough for both
pub both_last : (one two middle left : ℕ) → IsEnough one middle → IsEnough two left → middle ≡ two + left → IsEnough (one + two) left
both_last one (suc two) middle left first second is some = second (omega arith)
both_last zero zero middle left first second is some = absurd (omega arith)
both_last (suc one) zero middle left first second is some = let k : 1 ≤ middle = first (omega arith) in omega arith

module _ {A B : Type 0} (f : State → Out A) (next : A → State → Out B) where
  module _ (s s1 : State) (x : A) (one : Counts f s (λ n. Goes x (with_left n s1)) s1.left) where
    first_goes : (m : ℕ) → IsEnough one.used m → after (f (with_left (one.used + m) s)) next ≡ next x (with_left m s1)
    first_goes m is = ap (λ o. after o next) (one.enough m is)

    first_short : (n : ℕ) → Within one.used n → after (f (with_left n s)) next ≡ Stops Busy
    first_short n h = ap (λ o. after o next) (one.short n h.0 h.1)

    both_short : (used : ℕ) → ((m : ℕ) → 1 ≤ used → m ≤ used → next x (with_left m s1) ≡ Stops Busy) → (n : ℕ) → 1 ≤ one.used + used → n ≤ one.used + used →
        Within one.used n ⊎ Behind one.used n → after (f (with_left n s)) next ≡ Stops Busy
    both_short used short n some less (inl h) = first_short n h
    both_short used short n some less (inr h) =
        let is : n ≡ one.used + h.0 = h.1 in
        ap (λ k. after (f (with_left k s)) next) is
        ∙ (first_goes h.0 h.2 ∙ short h.0 (second_uses one.used used h.0 n some less is h.2) (omega arith))

    both_counts : (out : ℕ → Out B) (left : ℕ) → Counts (next x) s1 out left → Counts (λ t. after (f t) next) s out left
    both_counts out left two =
        let first : s.left ≡ one.used + s1.left = one.all in
        let second : s1.left ≡ two.used + left = two.all in
        record {
          used = one.used + two.used;
          all = omega arith;
          last = both_last one.used two.used s1.left left one.last two.last two.all;
          enough = λ n is. (
              let e : (one.used + two.used) + n ≡ one.used + (two.used + n) = omega arith in
              ap (λ k. after (f (with_left k s)) next) e
              ∙ (first_goes (two.used + n) (λ some. omega arith) ∙ two.enough n (λ some. is (omega arith))));
          short = λ n some less. both_short two.used two.short n some less (split one.used n);
        }

    behind_busy : ((m : ℕ) → m ≤ s1.left → next x (with_left m s1) ≡ Stops Busy) → (n : ℕ) → n ≤ s.left → Within one.used n ⊎ Behind one.used n →
        after (f (with_left n s)) next ≡ Stops Busy
    behind_busy busy n less (inl h) = first_short n h
    behind_busy busy n less (inr h) =
        let all : s.left ≡ one.used + s1.left = one.all in
        let is : n ≡ one.used + h.0 = h.1 in
        ap (λ k. after (f (with_left k s)) next) is ∙ (first_goes h.0 h.2 ∙ busy h.0 (omega arith))

    behind_counted : (o : Out B) → CountedTo (next x) s1 o → CountedTo (λ t. after (f t) next) s o
    behind_counted (Goes y s2) h = both_counts (λ n. Goes y (with_left n s2)) s2.left h
    behind_counted (Stops (Needs action)) h = (h.0, both_counts (λ n. Stops (Needs action)) h.0 h.1)
    behind_counted (Stops (Faults fault)) h = (h.0, both_counts (λ n. Stops (Faults fault)) h.0 h.1)
    behind_counted (Stops Busy) h = λ n less. behind_busy h n less (split one.used n)

  stops_counts : (s : State) (why : Stop) (left : ℕ) → Counts f s (λ n. Stops why) left → Counts (λ t. after (f t) next) s (λ n. Stops why) left
  stops_counts s why left h = record {
    used = h.used;
    all = h.all;
    last = h.last;
    enough = λ n is. ap (λ o. after o next) (h.enough n is);
    short = λ n some less. ap (λ o. after o next) (h.short n some less);
  }

  after_counted : (s : State) (o : Out A) → CountedTo f s o → ((x : A) (s1 : State) → o ≡ Goes x s1 → CountedTo (next x) s1 (next x s1)) →
      CountedTo (λ t. after (f t) next) s (after o next)
  after_counted s (Goes x s1) h others = behind_counted s s1 x h (next x s1) (others x s1 refl)
  after_counted s (Stops (Needs action)) h others = (h.0, stops_counts s (Needs action) h.0 h.1)
  after_counted s (Stops (Faults fault)) h others = (h.0, stops_counts s (Faults fault) h.0 h.1)
  after_counted s (Stops Busy) h others = λ n less. ap (λ o. after o next) (h n less)

then_counted : (A B : Type 0) (f : State → Out A) (next : A → State → Out B) → Counted A f → ((x : A) → Counted B (next x)) →
    Counted B (λ s. after (f s) next)
then_counted A B f next first others = record { counted = λ s. after_counted f next s (f s) (first.counted s) (λ x s1 is. (others x).counted s1) }

-- ---- other variables

module _ (A : Type 0) (g : List Datum → State → Out A) (h : List Datum → List Datum) (s : State) where
  framed_counts : (out : ℕ → Out A) (left : ℕ) → Counts (g s.frame) (record s { frame = h s.frame }) out left →
      Counts (λ t. g t.frame (record t { frame = h t.frame })) s out left
  framed_counts out left k = record { used = k.used; all = k.all; last = k.last; enough = k.enough; short = k.short }

  framed_counted_to : (o : Out A) → CountedTo (g s.frame) (record s { frame = h s.frame }) o →
      CountedTo (λ t. g t.frame (record t { frame = h t.frame })) s o
  framed_counted_to (Goes x s1) k = framed_counts (λ n. Goes x (with_left n s1)) s1.left k
  framed_counted_to (Stops (Needs action)) k = (k.0, framed_counts (λ n. Stops (Needs action)) k.0 k.1)
  framed_counted_to (Stops (Faults fault)) k = (k.0, framed_counts (λ n. Stops (Faults fault)) k.0 k.1)
  framed_counted_to (Stops Busy) k = k

framed_counted : (A : Type 0) (g : List Datum → State → Out A) (h : List Datum → List Datum) → ((frame : List Datum) → Counted A (g frame)) →
    Counted A (λ s. g s.frame (record s { frame = h s.frame }))
framed_counted A g h all = record {
  counted = λ s. framed_counted_to A g h s (g s.frame (record s { frame = h s.frame })) ((all s.frame).counted (record s { frame = h s.frame }));
}

-- ---- rounds: one that goes on took a turn

-- so many turns are left at most
abbrev Lowers : {A : Type 0} → ℕ → Out A → Type 0
Lowers n (Goes x s) = s.left ≤ n
Lowers n (Stops why) = Unit {0}

lowers : {A : Type 0} (f : State → Out A) (s : State) (o : Out A) → CountedTo f s o → Lowers s.left o
lowers f s (Goes x s1) h = omega (arith, h.all)
lowers f s (Stops (Needs action)) h = tt
lowers f s (Stops (Faults fault)) h = tt
lowers f s (Stops Busy) h = tt

-- and fewer, where rounds go on
abbrev pub Falls : ℕ → Out Round → Type 0
Falls n (Goes Again s) = s.left < n
Falls n (Goes Over s) = Unit {0}
Falls n (Goes (Leave x) s) = Unit {0}
Falls n (Stops why) = Unit {0}

begun_falls : (inner : State → Out Round) → ((n : ℕ) (s : State) → s.left < n → Falls n (inner s)) → (n k : ℕ) (s : State) → k ≤ n →
    Falls n (after (begun k s) (λ _ s1. inner s1))
begun_falls inner all n zero s less = tt
begun_falls inner all n (suc zero) s less = tt
begun_falls inner all n (suc (suc k)) s less = all n (record s { left = suc k }) (omega arith)

ended_falls : (n m : ℕ) (o : Out Flow) → m < n → Lowers m o → Falls n (after o ended)
ended_falls n m (Goes On s) less low = omega arith
ended_falls n m (Goes (Back x) s) less low = tt
ended_falls n m (Stops why) less low = tt

either_falls : (n : ℕ) (s : State) (b : Bool) → s.left < n → Falls n (Goes (if b then Over else Again) s)
either_falls n s true less = tt
either_falls n s false less = less

tested_falls : (n m : ℕ) (o : Out Datum) → m < n → Lowers m o → Falls n (after o (λ x s1. Goes (if truth_in x then Over else Again) s1))
tested_falls n m (Goes x s) less low = either_falls n s (truth_in x) (omega arith)
tested_falls n m (Stops why) less low = tt

module _ (test : State → Out Datum) (body : State → Out Flow) (tests : Counted Datum test) (bodies : Counted Flow body) where
  round_if_falls : (b : Bool) (n : ℕ) (s : State) → s.left ≤ n → Falls n (round_if b body s)
  round_if_falls true n s less =
      begun_falls (λ s1. after (body s1) ended)
      (λ n s1 less. ended_falls n s1.left (body s1) less (lowers body s1 (body s1) (bodies.counted s1))) n s.left s less
  round_if_falls false n s less = tt

  chosen_falls : (n : ℕ) (o : Out Datum) → Lowers n o → Falls n (after o (λ x s1. round_if (truth_in x) body s1))
  chosen_falls n (Goes x s1) low = round_if_falls (truth_in x) n s1 low
  chosen_falls n (Stops why) low = tt

  while_falls : (s : State) → Falls s.left (while_round test body s)
  while_falls s = chosen_falls s.left (test s) (lowers test s (test s) (tests.counted s))

  until_falls_behind : (n m : ℕ) (o : Out Flow) → m < n → Lowers m o → Falls n (after o (until test))
  until_falls_behind n m (Goes On s) less low = tested_falls n s.left (test s) (omega arith) (lowers test s (test s) (tests.counted s))
  until_falls_behind n m (Goes (Back x) s) less low = tt
  until_falls_behind n m (Stops why) less low = tt

  until_falls : (s : State) → Falls s.left (until_round test body s)
  until_falls s =
      begun_falls (λ s1. after (body s1) (until test))
      (λ n s1 less. until_falls_behind n s1.left (body s1) less (lowers body s1 (body s1) (bodies.counted s1))) s.left s.left s (omega arith)

pub round_falls : (round : State → Out Round) → IsRound Counted round → (s : State) → Falls s.left (round s)
round_falls round (of_while test body tests bodies) = while_falls test body tests bodies
round_falls round (of_until test body tests bodies) = until_falls test body tests bodies

-- ---- loops: a round, and then the loop again

same_counts : {A : Type 0} (f g : State → Out A) → ((t : State) → f t ≡ g t) → (s : State) (out : ℕ → Out A) (left : ℕ) → Counts g s out left → Counts f s out left
same_counts f g same s out left h = record {
  used = h.used;
  all = h.all;
  last = h.last;
  enough = λ n is. same (with_left (h.used + n) s) ∙ h.enough n is;
  short = λ n some less. same (with_left n s) ∙ h.short n some less;
}

same_counted : {A : Type 0} (f g : State → Out A) → ((t : State) → f t ≡ g t) → (s : State) (o : Out A) → CountedTo g s o → CountedTo f s o
same_counted f g same s (Goes x s1) h = same_counts f g same s (λ n. Goes x (with_left n s1)) s1.left h
same_counted f g same s (Stops (Needs action)) h = (h.0, same_counts f g same s (λ n. Stops (Needs action)) h.0 h.1)
same_counted f g same s (Stops (Faults fault)) h = (h.0, same_counts f g same s (λ n. Stops (Faults fault)) h.0 h.1)
same_counted f g same s (Stops Busy) h = λ n less. same (with_left n s) ∙ h n less

-- what follows a round
abbrev pub again : (State → Out Round) → Round → State → Out Flow
again round r s = next_round r s (repeated round)

module _ (round : State → Out Round) (falls : (s : State) → Falls s.left (round s)) where
  rounds_agree : (f g : State → Out Flow) (n : ℕ) (o : Out Round) → Falls n o → ((s1 : State) → s1.left < n → f s1 ≡ g s1) →
      after o (λ r s1. next_round r s1 f) ≡ after o (λ r s1. next_round r s1 g)
  rounds_agree f g n (Goes Over s1) less same = refl
  rounds_agree f g n (Goes Again s1) less same = same s1 less
  rounds_agree f g n (Goes (Leave x) s1) less same = refl
  rounds_agree f g n (Stops why) less same = refl

  loops_agree : (j k : ℕ) (s : State) → s.left < j → s.left < k → loop j round s ≡ loop k round s
  unfolding loop
  loops_agree zero k s one two = absurd (omega arith)
  loops_agree (suc j) zero s one two = absurd (omega arith)
  loops_agree (suc j) (suc k) s one two =
      rounds_agree (loop j round) (loop k round) s.left (round s) (falls s) (λ s1 less. loops_agree j k s1 (omega arith) (omega arith))

  pub by_rounds : (s : State) → repeated round s ≡ after (round s) (again round)
  unfolding loop
  by_rounds s = rounds_agree (loop s.left round) (repeated round) s.left (round s) (falls s) (λ s1 less. loops_agree s.left (suc s1.left) s1 less (omega arith))

module _ (round : State → Out Round) (h : Counted Round round) (falls : (s : State) → Falls s.left (round s)) where
  again_counted : (n : ℕ) (r : Round) (s1 : State) → Falls n (Goes r s1) → (s1.left < n → CountedTo (repeated round) s1 (repeated round s1)) →
      CountedTo (again round r) s1 (again round r s1)
  again_counted n Over s1 less others = none_counts (again round Over) s1 (λ m. Goes On (with_left m s1)) (λ m. refl)
  again_counted n Again s1 less others = others less
  again_counted n (Leave x) s1 less others = none_counts (again round (Leave x)) s1 (λ m. Goes (Back x) (with_left m s1)) (λ m. refl)

  loop_counted : (k : ℕ) (s : State) → s.left < k → CountedTo (repeated round) s (repeated round s)
  loop_counted zero s less = absurd (omega arith)
  loop_counted (suc k) s less =
      subst (λ o. CountedTo (repeated round) s o) (sym (by_rounds round falls s))
      (same_counted (repeated round) (λ t. after (round t) (again round)) (by_rounds round falls) s (after (round s) (again round))
      (after_counted round (again round) s (round s) (h.counted s) (λ r s1 is.
      again_counted s.left r s1 (subst (λ o. Falls s.left o) is (falls s)) (λ fewer. loop_counted k s1 (omega arith)))))

  pub repeated_counted : Counted Flow (repeated round)
  repeated_counted = record { counted = λ s. loop_counted (suc s.left) s (omega arith) }

pub all_counted : Closed Counted
all_counted = record {
  goes = goes_counted;
  faults = faults_counted;
  gives = gives_counted;
  then = then_counted;
  turns = turn_counted;
  acts = λ a asked. act_counted a;
  framed = framed_counted;
  repeats = λ round h is. repeated_counted round h (round_falls round is);
}

pub busy_counted : Counted Flow (λ s. Stops Busy)
busy_counted = record { counted = λ s n less. refl }
