-- The lines of a process, its suspended calls, and lists.
use Rattle.std.proofs.Common.{◌≡◌, ℕ, zero, suc, ◌+◌, ◌≤◌, ◌==◌, ◌⊎◌, inl, inr, ⊎_elim, Bool, true, false, cond, Some, List, [], ◌∷◌, ◌++◌, refl, sym, ap, ◌∙◌, arith, subst, if◌then◌else◌, append-nil, length}
use Rattle.std.specs.Prelude.{slice_get, remove}
use Rattle.std.specs.List.{position_from}
use Rattle.std.proofs.lemmas.Bool.{eqb-true, eqb-false, eq-eqb, ne_eqb}
use Rattle.value_core.specs.declared.action.Line.{Line}
use Rattle.guard_queue.specs.declared.queue.Suspended.{Suspended}
use Rattle.book_law.specs.Book.{Placed, aside_at}
use Rattle.book_law.specs.Singles.{waiting}
use Rattle.book_law.specs.Events.{In, lines_by}

-- ---- the lines of a process

pub lines_by-append : (j : ℕ) (xs ys : List Line) → lines_by j (xs ++ ys) ≡ lines_by j xs ++ lines_by j ys
lines_by-append j [] ys = refl
lines_by-append j (l ∷ xs) ys = go (l.process.0 == j) (lines_by-append j xs ys)
  where
    go : (b : Bool) → lines_by j (xs ++ ys) ≡ lines_by j xs ++ lines_by j ys → (if b then l ∷ lines_by j (xs ++ ys) else lines_by j (xs ++ ys)) ≡ (if b then l ∷ lines_by j xs else lines_by j xs) ++ lines_by j ys
    go true e = ap (λ (r : List Line). l ∷ r) e
    go false e = e

-- a line of another process
pub lines_by-other : (j : ℕ) (l : Line) (ls : List Line) → (l.process.0 ≡ j → ⊥) → lines_by j (l ∷ ls) ≡ lines_by j ls
lines_by-other j l ls apart = ap (λ b. if b then l ∷ lines_by j ls else lines_by j ls) (ne_eqb l.process.0 j apart)

pub lines_by-own : (j : ℕ) (l : Line) (ls : List Line) → l.process.0 ≡ j → lines_by j (l ∷ ls) ≡ l ∷ lines_by j ls
lines_by-own j l ls is = ap (λ b. if b then l ∷ lines_by j ls else lines_by j ls) (eq-eqb l.process.0 j is)

-- where a process has no lines, the first is another's, and the rest has none
pub lines_by-none : (j : ℕ) (l : Line) (ls : List Line) → lines_by j (l ∷ ls) ≡ [] → (l.process.0 ≡ j → ⊥) × (lines_by j ls ≡ [])
lines_by-none j l ls = go (l.process.0 == j) refl
  where
    go : (b : Bool) → (l.process.0 == j) ≡ b → (if b then l ∷ lines_by j ls else lines_by j ls) ≡ [] → (l.process.0 ≡ j → ⊥) × (lines_by j ls ≡ [])
    go true is e = absurd (cc e)
    go false is e = (eqb-false l.process.0 j is, e)

pub append_none_left : {A : Type 0} (xs ys : List A) → xs ++ ys ≡ [] → xs ≡ []
append_none_left [] ys e = refl
append_none_left (x ∷ xs) ys e = absurd (cc e)

pub append_none_right : {A : Type 0} (xs ys : List A) → xs ++ ys ≡ [] → ys ≡ []
append_none_right [] ys e = e
append_none_right (x ∷ xs) ys e = absurd (cc e)

-- ---- suspended calls

-- 1 where they are the same
abbrev pub one : ℕ → ℕ → ℕ
one i j = if i == j then 1 else 0

pub one_same : (i j : ℕ) → i ≡ j → one i j ≡ 1
one_same i j is = ap (λ b. if b then 1 else 0) (eq-eqb i j is)

pub one_other : (i j : ℕ) → (i ≡ j → ⊥) → one i j ≡ 0
one_other i j apart = ap (λ b. if b then 1 else 0) (ne_eqb i j apart)

pub waiting-cons : (j : ℕ) (call : Suspended) (calls : List Suspended) → waiting j (call ∷ calls) ≡ one call.process.0 j + waiting j calls
waiting-cons j call calls = go (call.process.0 == j)
  where
    go : (b : Bool) → (if b then suc (waiting j calls) else waiting j calls) ≡ (if b then 1 else 0) + waiting j calls
    go true = omega arith
    go false = omega arith

pub waiting-push : (j : ℕ) (calls : List Suspended) (call : Suspended) → waiting j (calls ++ call ∷ []) ≡ waiting j calls + one call.process.0 j
waiting-push j [] call = waiting-cons j call [] ∙ (let e : one call.process.0 j + 0 ≡ 0 + one call.process.0 j = omega arith in e)
waiting-push j (c ∷ calls) call =
    let a = waiting-cons j c (calls ++ call ∷ []) in
    let b = waiting-push j calls call in
    let d = waiting-cons j c calls in
    omega (arith, a, b, d)

pub waiting-remove : (j : ℕ) (calls : List Suspended) (at : ℕ) (call : Suspended) → slice_get calls at ≡ Some call → waiting j (remove calls at) + one call.process.0 j ≡ waiting j calls
waiting-remove j [] at call is = absurd (cc is)
waiting-remove j (c ∷ calls) zero call is =
    let e : c ≡ call = cc in
    let a = waiting-cons j c calls in
    let f : one c.process.0 j ≡ one call.process.0 j = ap (λ (x : Suspended). one x.process.0 j) e in
    omega (arith, a, f)
waiting-remove j (c ∷ calls) (suc at) call is =
    let a = waiting-cons j c (remove calls at) in
    let b = waiting-remove j calls at call is in
    let d = waiting-cons j c calls in
    omega (arith, a, b, d)

pub in_remove : {A : Type 0} (x : A) (xs : List A) (at : ℕ) → In x (remove xs at) → In x xs
in_remove x [] zero h = h
in_remove x [] (suc at) h = h
in_remove x (y ∷ xs) zero h = inr h
in_remove x (y ∷ xs) (suc at) (inl e) = inl e
in_remove x (y ∷ xs) (suc at) (inr h) = inr (in_remove x xs at h)

pub in_push : {A : Type 0} (x y : A) (xs : List A) → In x (xs ++ y ∷ []) → In x xs ⊎ (x ≡ y)
in_push x y [] (inl e) = inr e
in_push x y [] (inr h) = absurd h
in_push x y (z ∷ xs) (inl e) = inl (inl e)
in_push x y (z ∷ xs) (inr h) = ⊎_elim (λ u. inl (inr u)) (λ u. inr u) (in_push x y xs h)

pub in_left : {A : Type 0} (x y : A) (xs : List A) → In x xs → In x (xs ++ y ∷ [])
in_left x y [] h = absurd h
in_left x y (z ∷ xs) (inl e) = inl e
in_left x y (z ∷ xs) (inr h) = inr (in_left x y xs h)

pub in_end : {A : Type 0} (x : A) (xs : List A) → In x (xs ++ x ∷ [])
in_end x [] = inl refl
in_end x (z ∷ xs) = inr (in_end x xs)

pub in_at : {A : Type 0} (x : A) (xs : List A) (at : ℕ) → slice_get xs at ≡ Some x → In x xs
in_at x [] at is = absurd (cc is)
in_at x (y ∷ xs) zero is = let e : x ≡ y = cc in inl e
in_at x (y ∷ xs) (suc at) is = inr (in_at x xs at is)

-- who has a suspended call waits
pub in_waits : (call : Suspended) (calls : List Suspended) → In call calls → 1 ≤ waiting call.process.0 calls
in_waits call [] h = absurd h
in_waits call (c ∷ calls) (inl e) =
    let a = waiting-cons call.process.0 c calls in
    let f : one c.process.0 call.process.0 ≡ 1 = one_same c.process.0 call.process.0 (ap (λ (x : Suspended). x.process.0) (sym e)) in
    omega (arith, a, f)
in_waits call (c ∷ calls) (inr h) =
    let a = waiting-cons call.process.0 c calls in
    let b = in_waits call calls h in
    omega (arith, a, b)

-- the others of a queue are of other processes
pub others_apart : (calls : List Suspended) (at : ℕ) (call other : Suspended) → slice_get calls at ≡ Some call → waiting call.process.0 calls ≤ 1 → In other (remove calls at) → call.process.0 ≡ other.process.0 → ⊥
others_apart calls at call other is once h same =
    let a = waiting-remove call.process.0 calls at call is in
    let b = one_same call.process.0 call.process.0 refl in
    let d = in_waits other (remove calls at) h in
    let e : waiting other.process.0 (remove calls at) ≡ waiting call.process.0 (remove calls at) = ap (λ n. waiting n (remove calls at)) (sym same) in
    absurd (omega (arith, a, b, d, e))

-- ---- the first place at which a test passes

pub record FoundAt {A : Type 0} (t : A → Bool) (from at : ℕ) (xs : List A) : Type 0 where
  pub gap : ℕ
  pub item : A
  pub place : at ≡ from + gap
  pub there : slice_get xs gap ≡ Some item
  pub passes : t item ≡ true

pub found_at : {A : Type 0} (t : A → Bool) (i at : ℕ) (xs : List A) → position_from t i xs ≡ Some at → FoundAt t i at xs
found_at t i at [] e = absurd (cc e)
found_at {A} t i at (x ∷ xs) e = go (found_at t (i + 1) at xs) (t x) refl e
  where
    later : FoundAt t (i + 1) at xs → FoundAt t i at (x ∷ xs)
    later f = record { gap = suc f.gap; item = f.item; place = omega (arith, f.place); there = f.there; passes = f.passes }

    go : (position_from t (i + 1) xs ≡ Some at → FoundAt t (i + 1) at xs) → (b : Bool) → t x ≡ b → cond b (Some i) (position_from t (i + 1) xs) ≡ Some at → FoundAt t i at (x ∷ xs)
    go ih true is f = let g : i ≡ at = cc in record { gap = zero; item = x; place = omega (arith, g); there = refl; passes = is }
    go ih false is f = later (ih f)

pub found : {A : Type 0} (t : A → Bool) (at : ℕ) (xs : List A) → position_from t 0 xs ≡ Some at → (x : A) × (slice_get xs at ≡ Some x) × (t x ≡ true)
found t at xs e =
    let f = found_at t 0 at xs e in
    let g : at ≡ f.gap = omega (arith, f.place) in
    (f.item, subst (λ (n : ℕ). slice_get xs n ≡ Some f.item) (sym g) f.there, f.passes)

-- ---- what stands beside the list

pub aside_at-other : (n : ℕ) (aside : List Placed) (r : Placed) → (r.place ≡ n → ⊥) → aside_at n (aside ++ r ∷ []) ≡ aside_at n aside
aside_at-other n [] r apart = ap (λ b. if b then r.line ∷ [] else []) (ne_eqb r.place n apart)
aside_at-other n (x ∷ aside) r apart = ap (λ (ls : List Line). if x.place == n then x.line ∷ ls else ls) (aside_at-other n aside r apart)

pub aside_at-here : (n : ℕ) (aside : List Placed) (r : Placed) → r.place ≡ n → aside_at n (aside ++ r ∷ []) ≡ aside_at n aside ++ r.line ∷ []
aside_at-here n [] r is = ap (λ b. if b then r.line ∷ [] else []) (eq-eqb r.place n is)
aside_at-here n (x ∷ aside) r is = go (x.place == n) (aside_at-here n aside r is)
  where
    go : (b : Bool) → aside_at n (aside ++ r ∷ []) ≡ aside_at n aside ++ r.line ∷ [] → (if b then x.line ∷ aside_at n (aside ++ r ∷ []) else aside_at n (aside ++ r ∷ [])) ≡ (if b then x.line ∷ aside_at n aside else aside_at n aside) ++ r.line ∷ []
    go true e = ap (λ (ls : List Line). x.line ∷ ls) e
    go false e = e

-- another's read is no line of this process
pub reads_by-other : (j n : ℕ) (aside : List Placed) (r : Placed) → (r.line.process.0 ≡ j → ⊥) → lines_by j (aside_at n (aside ++ r ∷ [])) ≡ lines_by j (aside_at n aside)
reads_by-other j n aside r apart = go (r.place == n) refl
  where
    go : (b : Bool) → (r.place == n) ≡ b → lines_by j (aside_at n (aside ++ r ∷ [])) ≡ lines_by j (aside_at n aside)
    go true is =
        ap (lines_by j) (aside_at-here n aside r (eqb-true r.place n is)) ∙ lines_by-append j (aside_at n aside) (r.line ∷ [])
        ∙ ap (λ (ls : List Line). lines_by j (aside_at n aside) ++ ls) (lines_by-other j r.line [] apart) ∙ append-nil (lines_by j (aside_at n aside))
    go false is = ap (lines_by j) (aside_at-other n aside r (eqb-false r.place n is))

-- what stands in a list that is one longer
pub at_push : {A : Type 0} (xs : List A) (x : A) (n : ℕ) (y : A) → slice_get (xs ++ x ∷ []) n ≡ Some y → (slice_get xs n ≡ Some y) ⊎ ((n ≡ length xs) × (x ≡ y))
at_push [] x zero y is = inr (refl, cc is)
at_push [] x (suc n) y is = absurd (cc is)
at_push (z ∷ xs) x zero y is = inl is
at_push (z ∷ xs) x (suc n) y is = ⊎_elim (λ u. inl u) (λ u. inr (ap suc u.0, u.1)) (at_push xs x n y is)
