-- The answers that a coordinator keeps, as a list, and as the rules have them.
use Rattle.std.proofs.Common.{◌≡◌, ℕ, zero, suc, ◌<◌, ◌≤◌, ◌==◌, map, Bool, true, false, Option, Some, None, List, [], ◌∷◌, ◌++◌, length, get_or, refl, sym, ap, ◌∙◌, arith, length-drop, if◌then◌else◌, All}
use Rattle.std.specs.Option.{is_some}
use Rattle.std.proofs.lemmas.Bool.{cond_both, eq-eqb}
use Rattle.std.proofs.lemmas.List.Elements.{All-nil, All-push}
use Rattle.group_packets.specs.declared.packet.Join.{Join}
use Rattle.group_rules.specs.Sets.{count}
use Rattle.group_rules.specs.Messages.{Group}
use Rattle.group_rules.specs.Member.{Member as RulesMember, Report}
use Rattle.group_rules.specs.OnWire.{members_below, on_join}
use Rattle.group_rules.specs.Reset.{applied_of, beats, best, better_of, gave, greater_of, most_accepted}
use Rattle.group_member.specs.declared.member.Member.{Member}
use Rattle.group_member.specs.StandsFor.{StandsFor, join_of, on_answer}
use Rattle.group_member.specs.TakesOver.{heard_in}
use Rattle.group_reset.specs.Choice.{accepted_in, applied_with, beats_by, best_by, extent_of, gave_by, most_by}

-- ---- a list in which an answer is looked for

pub joined_here : {B R : Type 0} (x : ℕ) (xs : List (ℕ × Join B R)) (i : ℕ) (d : ℕ × Join B R) → i < length xs → ((k : ℕ) (d : ℕ × Join B R) → k < i → ((get_or xs k d).0 == x) ≡ false) → (get_or xs i d).0 ≡ x → join_of x xs ≡ Some (get_or xs i d).1
joined_here x [] i d l before e = absurd (omega arith)
joined_here x (y ∷ xs) zero d l before e = let q : (y.0 == x) ≡ true = eq-eqb y.0 x e in rw q refl
joined_here x (y ∷ xs) (suc i) d l before e = let q : (y.0 == x) ≡ false = before 0 y (omega arith) in rw q (joined_here x xs i d (omega arith) (λ k c j. before (suc k) c (omega arith)) e)

pub joined_nowhere : {B R : Type 0} (x : ℕ) (xs : List (ℕ × Join B R)) (i : ℕ) → length xs ≤ i → ((k : ℕ) (d : ℕ × Join B R) → k < i → ((get_or xs k d).0 == x) ≡ false) → join_of x xs ≡ None
joined_nowhere x [] i l before = refl
joined_nowhere x (y ∷ xs) zero l before = absurd (omega arith)
joined_nowhere x (y ∷ xs) (suc i) l before = let q : (y.0 == x) ≡ false = before 0 y (omega arith) in rw q (joined_nowhere x xs i (omega arith) (λ k d j. before (suc k) d (omega arith)))

-- an item, as the code has it
pub joined_at : {B R : Type 0} (x : ℕ) (xs : List (ℕ × Join B R)) (i : ℕ) (a : ℕ × Join B R) → i < length xs → ((k : ℕ) (d : ℕ × Join B R) → k < i → ((get_or xs k d).0 == x) ≡ false) → a ≡ get_or xs i a → a.0 ≡ x → join_of x xs ≡ Some a.1
joined_at {B} {R} x xs i a l before is e = joined_here x xs i a l before (ap (λ (b : ℕ × Join B R). b.0) (sym is) ∙ e) ∙ ap (λ (b : ℕ × Join B R). Some b.1) (sym is)

-- ---- logs that begin where their packets say

abbrev pub IsBased : {B : Type 0} → Option (Report B) → Type 0
IsBased None = Unit {0}
IsBased (Some report) = report.base ≤ length report.log

pub all_based : {B R : Type 0} {g : Group B} {which : ℕ} {s : Member B R} {m : RulesMember B} → StandsFor g which s m → (x : ℕ) → IsBased (m.answers x)
all_based {B} {m = m} h x = go (m.answers x) (λ r e. h.based x r e)
  where
    go : (o : Option (Report B)) → ((r : Report B) → o ≡ Some r → r.base ≤ length r.log) → IsBased o
    go None f = tt
    go (Some r) f = f r refl

-- so the entries that travel tell how many there are
pub whole_extent : {B : Type 0} (R : Type 0) (k : ℕ) (r : Report B) → r.base ≤ length r.log → extent_of (on_join {R = R} k r) ≡ length r.log
whole_extent R k r low = let l = length-drop r.base r.log in omega arith

-- ---- the best one

beats_same : {B : Type 0} (R : Type 0) (k : ℕ) (a b : Report B) → a.base ≤ length a.log → b.base ≤ length b.log → beats b a ≡ beats_by (on_join {R = R} k b) (on_join k a)
beats_same R k a b la lb = rw (whole_extent R k a la, whole_extent R k b lb) refl

better_same : {B R : Type 0} (k : ℕ) (a b : Option (Report B)) → IsBased a → IsBased b → on_answer {R = R} k (better_of beats a b) ≡ better_of beats_by (on_answer k a) (on_answer k b)
better_same k None b la lb = refl
better_same k (Some a) None la lb = refl
better_same {B} {R} k (Some a) (Some b) la lb = go (beats b a) (beats_same R k a b la lb)
  where
    go : (c : Bool) → c ≡ beats_by (on_join {R = R} k b) (on_join k a) → on_answer {R = R} k (if c then Some b else Some a) ≡ (if beats_by (on_join {R = R} k b) (on_join k a) then Some (on_join k b) else Some (on_join k a))
    go true e = rw (← e) refl
    go false e = rw (← e) refl

better_based : {B : Type 0} (a b : Option (Report B)) → IsBased a → IsBased b → IsBased (better_of beats a b)
better_based None b la lb = lb
better_based (Some a) None la lb = la
better_based (Some a) (Some b) la lb = cond_both (beats b a) (Some b) (Some a) IsBased (λ e. lb) (λ e. la)

pub best_based : {B : Type 0} (n : ℕ) (f : ℕ → Option (Report B)) → ((x : ℕ) → IsBased (f x)) → IsBased (best n f)
best_based zero f h = tt
best_based (suc n) f h = better_based (best n f) (f n) (best_based n f h) (h n)

pub best_same : {B R : Type 0} (k n : ℕ) (f : ℕ → Option (Report B)) (xs : List (ℕ × Join B R)) → ((x : ℕ) → on_answer k (f x) ≡ join_of x xs) → ((x : ℕ) → IsBased (f x)) → on_answer k (best n f) ≡ best_by n xs
best_same k zero f xs same h = refl
best_same {B} {R} k (suc n) f xs same h =
    better_same k (best n f) (f n) (best_based n f h) (h n) ∙ (ap (λ (o : Option (Join B R)). better_of beats_by o (on_answer k (f n))) (best_same k n f xs same h) ∙ ap (λ (o : Option (Join B R)). better_of beats_by (best_by n xs) o) (same n))

-- an answer as it travels is that of a report
pub record Travels {B R : Type 0} (k : ℕ) (o : Option (Report B)) (join : Join B R) : Type 0 where
  pub report : Report B
  pub is : o ≡ Some report
  pub carries : on_join k report ≡ join

pub travels : {B R : Type 0} (k : ℕ) (o : Option (Report B)) (join : Join B R) → on_answer k o ≡ Some join → Travels k o join
travels k None join e = absurd (clash join e)
  where
    clash : {A : Type 0} (a : A) → None ≡ Some a → ⊥
    clash a f = cc
travels {B} {R} k (Some report) join e = record { report = report; is = refl; carries = inside (on_join k report) e }
  where
    inside : (a : Join B R) → Some a ≡ Some join → a ≡ join
    inside a f = cc

-- where somebody answered there is one
pub none_best : {B R : Type 0} (n : ℕ) (xs : List (ℕ × Join B R)) → best_by n xs ≡ None → count n (gave_by xs) ≡ 0
none_best zero xs e = refl
none_best {B} {R} (suc n) xs e = go (best_by n xs) (join_of n xs) (λ f. none_best n xs f) e
  where
    clash : {A : Type 0} (a : A) → Some a ≡ None → ⊥
    clash a f = cc

    some : (a b : Join B R) → (c : Bool) → (if c then Some b else Some a) ≡ None → ⊥
    some a b true f = clash b f
    some a b false f = clash a f

    go : (o p : Option (Join B R)) → (o ≡ None → count n (gave_by xs) ≡ 0) → better_of beats_by o p ≡ None → (if is_some p then suc (count n (gave_by xs)) else count n (gave_by xs)) ≡ 0
    go None None ih f = ih refl
    go None (Some b) ih f = absurd (clash b f)
    go (Some a) None ih f = absurd (clash a f)
    go (Some a) (Some b) ih f = absurd (some a b (beats_by b a) f)

-- ---- the greatest accepted number

pub most_same : {B R : Type 0} (k n own : ℕ) (f : ℕ → Option (Report B)) (xs : List (ℕ × Join B R)) → ((x : ℕ) → on_answer k (f x) ≡ join_of x xs) → most_accepted n f own ≡ most_by n xs own
most_same k zero own f xs same = refl
most_same {B} {R} k (suc n) own f xs same = one (f n) ∙ (ap (λ (o : Option (Join B R)). greater_of accepted_in o (most_accepted n f own)) (same n) ∙ ap (greater_of accepted_in (join_of n xs)) (most_same k n own f xs same))
  where
    one : (o : Option (Report B)) → greater_of (λ (report : Report B). report.accepted) o (most_accepted n f own) ≡ greater_of accepted_in (on_answer {R = R} k o) (most_accepted n f own)
    one None = refl
    one (Some report) = refl

pub most_own : {B R : Type 0} (n own : ℕ) (xs : List (ℕ × Join B R)) → own ≤ most_by n xs own
most_own zero own xs = omega arith
most_own {B} {R} (suc n) own xs = go (join_of n xs) (most_own n own xs)
  where
    go : (o : Option (Join B R)) → own ≤ most_by n xs own → own ≤ greater_of accepted_in o (most_by n xs own)
    go None h = h
    go (Some join) h = omega arith

pub most_reaches : {B : Type 0} (n own top : ℕ) (f : ℕ → Option (Report B)) → own ≤ top → ((x : ℕ) (r : Report B) → f x ≡ Some r → r.accepted ≤ top) → most_accepted n f own ≤ top
most_reaches zero own top f low h = low
most_reaches {B} (suc n) own top f low h = go (f n) (λ r e. h n r e) (most_reaches n own top f low h)
  where
    go : (o : Option (Report B)) → ((r : Report B) → o ≡ Some r → r.accepted ≤ top) → most_accepted n f own ≤ top → greater_of (λ (report : Report B). report.accepted) o (most_accepted n f own) ≤ top
    go None g l = l
    go (Some r) g l = let a = g r refl in omega arith

-- ---- who answered, and what was reported as applied

pub gave_as : {B R : Type 0} (k : ℕ) (f : ℕ → Option (Report B)) (xs : List (ℕ × Join B R)) → ((x : ℕ) → on_answer k (f x) ≡ join_of x xs) → (x : ℕ) → gave f x ≡ gave_by xs x
gave_as {B} {R} k f xs same x = one (f x) ∙ ap is_some (same x)
  where
    one : (o : Option (Report B)) → is_some o ≡ is_some (on_answer {R = R} k o)
    one None = refl
    one (Some report) = refl

pub counts_as : (n : ℕ) (f h : ℕ → Bool) → ((x : ℕ) → f x ≡ h x) → count n f ≡ count n h
counts_as zero f h same = refl
counts_as (suc n) f h same = rw (same n, counts_as n f h same) refl

pub members_as : (n : ℕ) (f h : ℕ → Bool) → ((x : ℕ) → f x ≡ h x) → members_below n f ≡ members_below n h
members_as zero f h same = refl
members_as (suc n) f h same = rw (same n, members_as n f h same) refl

pub members_low : (n top : ℕ) (f : ℕ → Bool) → n ≤ top → All (λ x. x < top) (members_below n f)
members_low zero top f le = All-nil (λ x. x < top)
members_low (suc n) top f le = cond_both (f n) (members_below n f ++ n ∷ []) (members_below n f) (λ l. All (λ x. x < top) l) (λ e. All-push (λ x. x < top) (members_below n f) n (members_low n top f (omega arith)) (omega arith)) (λ e. members_low n top f (omega arith))

abbrev pub applied_in : {B R : Type 0} → Option (Join B R) → Option ℕ
applied_in None = None
applied_in (Some join) = Some join.applied

heard_list : {B R : Type 0} (x : ℕ) (xs : List (ℕ × Join B R)) → heard_in x (map applied_with xs) ≡ applied_in (join_of x xs)
heard_list x [] = refl
heard_list {B} {R} x (a ∷ xs) = go (a.0 == x) (heard_list x xs)
  where
    go : (b : Bool) → heard_in x (map applied_with xs) ≡ applied_in (join_of x xs) → (if b then Some a.1.applied else heard_in x (map applied_with xs)) ≡ applied_in (if b then Some a.1 else join_of x xs)
    go true h = refl
    go false h = h

pub heard_as : {B R : Type 0} (k : ℕ) (f : ℕ → Option (Report B)) (xs : List (ℕ × Join B R)) → ((x : ℕ) → on_answer k (f x) ≡ join_of x xs) → (x : ℕ) → applied_of (f x) ≡ heard_in x (map applied_with xs)
heard_as {B} {R} k f xs same x = one (f x) ∙ (ap applied_in (same x) ∙ sym (heard_list x xs))
  where
    one : (o : Option (Report B)) → applied_of o ≡ applied_in (on_answer {R = R} k o)
    one None = refl
    one (Some report) = refl
