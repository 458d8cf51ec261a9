-- A stable sort by place of what was performed, in order of events, is the book.
use Rattle.std.proofs.Common.{◌≡◌, ℕ, zero, suc, ◌+◌, ◌≤◌, ◌<◌, ◌==◌, ⊎_elim, Bool, true, false, not, cond, Some, List, [], ◌∷◌, ◌++◌, length, take, map, refl, sym, ap, ◌∙◌, arith, subst, append-nil, append_assoc, if◌then◌else◌, get_or}
use Rattle.std.specs.Prelude.{slice_get, ◌&&◌}
use Rattle.std.specs.List.{filter}
use Rattle.std.specs.List.Sorted.{IsNonDecreasingBy, IsSortedByKey, IsStableByKey, ties}
use Rattle.std.specs.Ordering.{is_lt, nat_cmp}
use Rattle.std.specs.declared.cmp.Ordering.TheVariants.{Less, Equal, Greater}
use Rattle.std.specs.Cmp.{nat_cmp_is}
use Rattle.std.proofs.lemmas.Bool.{cases_eq, cases_lt, eq-eqb, ne_eqb}
use Rattle.std.proofs.lemmas.List.{length_push}
use Rattle.std.proofs.lemmas.List.Sorted.{IsNonDecreasingBy-from_sort}
use Rattle.std.proofs.lemmas.Option.{slice_get_within}
use Rattle.value_core.specs.declared.action.Line.{Line}
use Rattle.value_core.specs.declared.message.Message.{Message}
use Rattle.value_core.specs.declared.action.Action.TheVariants as action
use Rattle.value_core.specs.declared.action.Reply.TheVariants as answer
use Rattle.value_core.specs.Meaning.{Performs}
use Rattle.object_manager.specs.After.{Copied, opening_copies}
use Rattle.book_law.specs.Passes.{Test, after_all, lines_after}
use Rattle.book_law.specs.Book.{Placed, book, copies_at, aside_at, up_to}
use Rattle.book_law.specs.Performed.{Performed, placed}
use Rattle.book_law.proofs.Books.{book-append, copies_all, copies_applied, copies_keep, take_at, up_to_all}
use Rattle.book_law.proofs.Lists.{at_push, aside_at-here, aside_at-other}
use Rattle.book_law.proofs.Processes.{get_some}

-- ---- place by place

-- the places below n, one after another; k of them from n on
abbrev gather : ℕ → List Placed → List Line
gather zero xs = aside_at zero xs
gather (suc n) xs = gather n xs ++ aside_at (suc n) xs

abbrev gather_from : ℕ → ℕ → List Placed → List Line
gather_from n zero xs = []
gather_from n (suc k) xs = aside_at n xs ++ gather_from (suc n) k xs

gather_push : (n k : ℕ) (xs : List Placed) → gather_from n (suc k) xs ≡ gather_from n k xs ++ aside_at (n + k) xs
gather_push n zero xs = append-nil (aside_at n xs) ∙ ap (λ m. aside_at m xs) (let e : n ≡ n + 0 = omega arith in e)
gather_push n (suc k) xs =
    ap (λ (ls : List Line). aside_at n xs ++ ls) (gather_push (suc n) k xs ∙ ap (λ m. gather_from (suc n) k xs ++ aside_at m xs) (let e : suc n + k ≡ n + suc k = omega arith in e))
    ∙ sym (append_assoc (aside_at n xs) (gather_from (suc n) k xs) (aside_at (n + suc k) xs))

gathers : (n : ℕ) (xs : List Placed) → gather n xs ≡ gather_from zero (suc n) xs
gathers zero xs = sym (append-nil (aside_at zero xs))
gathers (suc n) xs = ap (λ (ls : List Line). ls ++ aside_at (suc n) xs) (gathers n xs) ∙ ap (λ m. gather_from zero (suc n) xs ++ aside_at m xs) (let e : suc n ≡ 0 + suc n = omega arith in e) ∙ sym (gather_push zero (suc n) xs)

-- ---- the book is what was performed, place by place

up_to_next : (single : Test) (p : Performs) (list : List Message) (aside : List Placed) (n : ℕ) (y : Message) → slice_get list n ≡ Some y → up_to single p list aside (suc n) ≡ up_to single p list aside n ++ (lines_after single p (copies_at single p list n) y ++ aside_at (suc n) aside)
up_to_next single p list aside n y is =
    let lt = slice_get_within list n y is in
    let e = copies_applied single p list n (omega (arith, lt)) in
    let c = copies_at single p list n in
    ap (λ (l : List Message). book single p l aside) (take_at list n y is)
    ∙ book-append single p (take n list) (y ∷ []) aside
    ∙ ap (λ (ls : List Line). up_to single p list aside n ++ ls) (append-nil (lines_after single p c y ++ aside_at (c.applied + 1) aside))
    ∙ ap (λ m. up_to single p list aside n ++ (lines_after single p c y ++ aside_at m aside)) (let f : c.applied + 1 ≡ suc n = omega (arith, e) in f)

gathered_to : (single : Test) (p : Performs) (list : List Message) (aside performed : List Placed) (n : ℕ) → n ≤ length list → Performed single p list aside performed → up_to single p list aside n ≡ gather n performed
gathered_to single p list aside performed zero le h = append-nil (aside_at 0 aside) ∙ sym h.first
gathered_to single p list aside performed (suc n) le h =
    let y = get_some list n (omega arith) in
    up_to_next single p list aside n y.0 y.1 ∙ ap (λ (ls : List Line). ls ++ (lines_after single p (copies_at single p list n) y.0 ++ aside_at (suc n) aside)) (gathered_to single p list aside performed n (omega arith) h)
    ∙ ap (λ (ls : List Line). gather n performed ++ ls) (sym (h.entries n y.0 y.1))

pub gathered : (single : Test) (p : Performs) (list : List Message) (aside performed : List Placed) → Performed single p list aside performed → book single p list aside ≡ gather_from 0 (suc (length list)) performed
gathered single p list aside performed h = sym (up_to_all single p list aside (length list) (omega arith)) ∙ gathered_to single p list aside performed (length list) (omega arith) h ∙ gathers (length list) performed

-- ---- events

aside_at-append : (n : ℕ) (xs ys : List Placed) → aside_at n (xs ++ ys) ≡ aside_at n xs ++ aside_at n ys
aside_at-append n [] ys = refl
aside_at-append n (x ∷ xs) ys = go (x.place == n) (aside_at-append n xs ys)
  where
    go : (b : Bool) → aside_at n (xs ++ ys) ≡ aside_at n xs ++ aside_at n ys → (if b then x.line ∷ aside_at n (xs ++ ys) else aside_at n (xs ++ ys)) ≡ (if b then x.line ∷ aside_at n xs else aside_at n xs) ++ aside_at n ys
    go true e = ap (λ (ls : List Line). x.line ∷ ls) e
    go false e = e

placed_here : (n : ℕ) (lines : List Line) → aside_at n (placed n lines) ≡ lines
placed_here n [] = refl
placed_here n (l ∷ lines) = ap (λ b. if b then l ∷ aside_at n (placed n lines) else aside_at n (placed n lines)) (eq-eqb n n refl) ∙ ap (λ (ls : List Line). l ∷ ls) (placed_here n lines)

placed_away : (m n : ℕ) (lines : List Line) → (m ≡ n → ⊥) → aside_at n (placed m lines) ≡ []
placed_away m n [] apart = refl
placed_away m n (l ∷ lines) apart = ap (λ b. if b then l ∷ aside_at n (placed m lines) else aside_at n (placed m lines)) (ne_eqb m n apart) ∙ placed_away m n lines apart

-- before the first event
pub performed_none : (single : Test) (p : Performs) → Performed single p [] [] []
performed_none single p = record { first = refl; entries = λ n y is. absurd (cc is); above = λ n lt. refl }

-- the first member applies an entry
pub performed_push : (single : Test) (p : Performs) (list : List Message) (aside performed : List Placed) (x : Message) → ((n : ℕ) → length list < n → aside_at n aside ≡ []) → Performed single p list aside performed
    → Performed single p (list ++ x ∷ []) aside (performed ++ placed (suc (length list)) (lines_after single p (after_all single p opening_copies list) x))
performed_push single p list aside performed x held h = record {
  first = away 0 (λ e. absurd (omega (arith, e))) ∙ h.first;
  entries = λ n y is. ⊎_elim (old n y) (new n y) (at_push list x n y is);
  above = λ n lt. let m = length_push list x in away n (λ e. absurd (omega (arith, e, lt, m))) ∙ h.above n (omega (arith, lt, m));
}
  where
    lines : List Line
    lines = lines_after single p (after_all single p opening_copies list) x

    away : (n : ℕ) → (suc (length list) ≡ n → ⊥) → aside_at n (performed ++ placed (suc (length list)) lines) ≡ aside_at n performed
    away n apart = aside_at-append n performed (placed (suc (length list)) lines) ∙ ap (λ (ls : List Line). aside_at n performed ++ ls) (placed_away (suc (length list)) n lines apart) ∙ append-nil (aside_at n performed)

    old : (n : ℕ) (y : Message) → slice_get list n ≡ Some y → aside_at (suc n) (performed ++ placed (suc (length list)) lines) ≡ lines_after single p (copies_at single p (list ++ x ∷ []) n) y ++ aside_at (suc n) aside
    old n y is =
        let lt = slice_get_within list n y is in
        away (suc n) (λ e. absurd (omega (arith, e, lt))) ∙ h.entries n y is ∙ ap (λ (c : Copied). lines_after single p c y ++ aside_at (suc n) aside) (sym (copies_keep single p list x n (omega (arith, lt))))

    new : (n : ℕ) (y : Message) → (n ≡ length list) × (x ≡ y) → aside_at (suc n) (performed ++ placed (suc (length list)) lines) ≡ lines_after single p (copies_at single p (list ++ x ∷ []) n) y ++ aside_at (suc n) aside
    new n y e =
        ap (λ m. aside_at (suc m) (performed ++ placed (suc (length list)) lines)) e.0
        ∙ aside_at-append (suc (length list)) performed (placed (suc (length list)) lines)
        ∙ ap (λ (ls : List Line). ls ++ aside_at (suc (length list)) (placed (suc (length list)) lines)) (h.above (suc (length list)) (omega arith))
        ∙ placed_here (suc (length list)) lines
        ∙ sym (append-nil lines) ∙ ap (λ (ls : List Line). lines ++ ls) (sym (held (suc n) (let f = e.0 in omega (arith, f))))
        ∙ ap (λ (c : Copied). lines_after single p c x ++ aside_at (suc n) aside) (sym (ap (copies_at single p (list ++ x ∷ [])) e.0 ∙ copies_keep single p list x (length list) (omega arith) ∙ copies_all single p list))
        ∙ ap (λ (z : Message). lines_after single p (copies_at single p (list ++ x ∷ []) n) z ++ aside_at (suc n) aside) e.1

-- a read is done
pub performed_read : (single : Test) (p : Performs) (list : List Message) (aside performed : List Placed) (r : Placed) → r.place ≤ length list → Performed single p list aside performed → Performed single p list (aside ++ r ∷ []) (performed ++ r ∷ [])
performed_read single p list aside performed r le h = record {
  first = go 0 [] h.first;
  entries = λ n y is. go (suc n) (lines_after single p (copies_at single p list n) y) (h.entries n y is);
  above = λ n lt. aside_at-other n performed r (λ e. absurd (omega (arith, e, lt, le))) ∙ h.above n lt;
}
  where
    go : (n : ℕ) (front : List Line) → aside_at n performed ≡ front ++ aside_at n aside → aside_at n (performed ++ r ∷ []) ≡ front ++ aside_at n (aside ++ r ∷ [])
    go n front e = ⊎_elim
        (λ (f : r.place ≡ n). aside_at-here n performed r f ∙ ap (λ (ls : List Line). ls ++ r.line ∷ []) e ∙ append_assoc front (aside_at n aside) (r.line ∷ []) ∙ ap (λ (ls : List Line). front ++ ls) (sym (aside_at-here n aside r f)))
        (λ apart. aside_at-other n performed r apart ∙ e ∙ ap (λ (ls : List Line). front ++ ls) (sym (aside_at-other n aside r apart)))
        (cases_eq r.place n)

-- ---- a list sorted by place

abbrev Rises : ℕ → List Placed → Type 0
Rises low [] = Unit {0}
Rises low (x ∷ xs) = (low ≤ x.place) × Rises x.place xs

abbrev AllBelow : ℕ → List Placed → Type 0
AllBelow top [] = Unit {0}
AllBelow top (x ∷ xs) = (x.place < top) × AllBelow top xs

rises_less : (m n : ℕ) (xs : List Placed) → m ≤ n → Rises n xs → Rises m xs
rises_less m n [] le h = tt
rises_less m n (x ∷ xs) le h = (let f = h.0 in omega (arith, f), h.1)

none_below : (n m : ℕ) (xs : List Placed) → n < m → Rises m xs → aside_at n xs ≡ []
none_below n m [] lt h = refl
none_below n m (x ∷ xs) lt h =
    ap (λ b. if b then x.line ∷ aside_at n xs else aside_at n xs) (ne_eqb x.place n (λ e. let f = h.0 in absurd (omega (arith, e, f)))) ∙ none_below n x.place xs (let f = h.0 in omega (arith, f)) h.1

gather_past : (n k : ℕ) (x : Placed) (xs : List Placed) → x.place < n → gather_from n k (x ∷ xs) ≡ gather_from n k xs
gather_past n zero x xs lt = refl
gather_past n (suc k) x xs lt =
    ap (λ b. (if b then x.line ∷ aside_at n xs else aside_at n xs) ++ gather_from (suc n) k (x ∷ xs)) (ne_eqb x.place n (λ e. absurd (omega (arith, e))))
    ∙ ap (λ (ls : List Line). aside_at n xs ++ ls) (gather_past (suc n) k x xs (omega arith))

gather_first : (n k : ℕ) (x : Placed) (xs : List Placed) → n ≤ x.place → x.place < n + k → Rises x.place xs → gather_from n k (x ∷ xs) ≡ x.line ∷ gather_from n k xs
gather_first n zero x xs le lt h = absurd (omega arith)
gather_first n (suc k) x xs le lt h = ⊎_elim
    (λ (e : x.place ≡ n).
    ap (λ b. (if b then x.line ∷ aside_at n xs else aside_at n xs) ++ gather_from (suc n) k (x ∷ xs)) (eq-eqb x.place n e)
    ∙ ap (λ (ls : List Line). (x.line ∷ aside_at n xs) ++ ls) (gather_past (suc n) k x xs (omega (arith, e))))
    (λ (apart : x.place ≡ n → ⊥).
    let lt2 : n < x.place = ⊎_elim (λ u. u) (λ u. absurd (apart (omega (arith, u)))) (cases_lt n x.place) in
    let none : aside_at n xs ≡ [] = none_below n x.place xs lt2 h in
    ap (λ b. (if b then x.line ∷ aside_at n xs else aside_at n xs) ++ gather_from (suc n) k (x ∷ xs)) (ne_eqb x.place n apart)
    ∙ ap (λ (ls : List Line). ls ++ gather_from (suc n) k (x ∷ xs)) none
    ∙ gather_first (suc n) k x xs (omega arith) (omega arith) h
    ∙ ap (λ (ls : List Line). x.line ∷ (ls ++ gather_from (suc n) k xs)) (sym none))
    (cases_eq x.place n)

gather_none : (n k : ℕ) → gather_from n k [] ≡ []
gather_none n zero = refl
gather_none n (suc k) = gather_none (suc n) k

pub sorted_lines : (n k : ℕ) (xs : List Placed) → Rises n xs → AllBelow (n + k) xs → map (λ (x : Placed). x.line) xs ≡ gather_from n k xs
sorted_lines n k [] h below = sym (gather_none n k)
sorted_lines n k (x ∷ xs) h below =
    ap (λ (ls : List Line). x.line ∷ ls) (sorted_lines n k xs (rises_less n x.place xs h.0 h.1) below.1) ∙ sym (gather_first n k x xs h.0 below.0 h.1)

same_gather : (n k : ℕ) (xs ys : List Placed) → ((m : ℕ) → aside_at m ys ≡ aside_at m xs) → gather_from n k ys ≡ gather_from n k xs
same_gather n zero xs ys same = refl
same_gather n (suc k) xs ys same = ap (λ (ls : List Line). ls ++ gather_from (suc n) k ys) (same n) ∙ ap (λ (ls : List Line). aside_at n xs ++ ls) (same_gather (suc n) k xs ys same)

-- any list with the same operations at each place, sorted by place, is the book
pub sorted_book : (single : Test) (p : Performs) (list : List Message) (aside performed sorted : List Placed) → Performed single p list aside performed → ((m : ℕ) → aside_at m sorted ≡ aside_at m performed) → Rises 0 sorted → AllBelow (suc (length list)) sorted
    → map (λ (x : Placed). x.line) sorted ≡ book single p list aside
sorted_book single p list aside performed sorted h same rises below =
    sorted_lines 0 (suc (length list)) sorted rises (subst (λ (n : ℕ). AllBelow n sorted) (let e : suc (length list) ≡ 0 + suc (length list) = omega arith in e) below)
    ∙ same_gather 0 (suc (length list)) performed sorted same ∙ sym (gathered single p list aside performed h)

-- ---- a stable sort by place

-- a tie in places is the same place
tie_is : (x y : Placed) → ties (λ (a b : Placed). is_lt (nat_cmp a.place b.place)) x y ≡ (y.place == x.place)
tie_is x y = ⊎_elim less (λ le. ⊎_elim same more (cases_eq y.place x.place)) (cases_lt x.place y.place)
  where
    less : x.place < y.place → ties (λ (a b : Placed). is_lt (nat_cmp a.place b.place)) x y ≡ (y.place == x.place)
    less lt =
        ap (λ o. not (is_lt o) && not (is_lt (nat_cmp y.place x.place))) (sym (nat_cmp_is x.place y.place Less lt))
        ∙ sym (ne_eqb y.place x.place (λ e. absurd (omega (arith, e, lt))))

    same : y.place ≡ x.place → ties (λ (a b : Placed). is_lt (nat_cmp a.place b.place)) x y ≡ (y.place == x.place)
    same e =
        ap (λ o. not (is_lt o) && not (is_lt (nat_cmp y.place x.place))) (sym (nat_cmp_is x.place y.place Equal (sym e)))
        ∙ ap (λ o. not (is_lt o)) (sym (nat_cmp_is y.place x.place Equal e)) ∙ sym (eq-eqb y.place x.place e)

    more : (y.place ≡ x.place → ⊥) → ties (λ (a b : Placed). is_lt (nat_cmp a.place b.place)) x y ≡ (y.place == x.place)
    more apart = ⊎_elim less (λ le.
        let lt : y.place < x.place = ⊎_elim (λ u. u) (λ u. absurd (apart (omega (arith, u, le)))) (cases_lt y.place x.place) in
        ap (λ o. not (is_lt o) && not (is_lt (nat_cmp y.place x.place))) (sym (nat_cmp_is x.place y.place Greater lt))
        ∙ ap (λ o. not (is_lt o)) (sym (nat_cmp_is y.place x.place Less lt)) ∙ sym (ne_eqb y.place x.place apart)) (cases_lt x.place y.place)

-- what stands beside the list at a place is a filter
at_filter : (x : Placed) (ys : List Placed) → map (λ (r : Placed). r.line) (filter (ties (λ (a b : Placed). is_lt (nat_cmp a.place b.place)) x) ys) ≡ aside_at x.place ys
at_filter x [] = refl
at_filter x (y ∷ ys) =
    ap (λ b. map (λ (r : Placed). r.line) (cond b (y ∷ filter (ties (λ (a b : Placed). is_lt (nat_cmp a.place b.place)) x) ys) (filter (ties (λ (a b : Placed). is_lt (nat_cmp a.place b.place)) x) ys))) (tie_is x y)
    ∙ go (y.place == x.place) (at_filter x ys)
  where
    go : (b : Bool) → map (λ (r : Placed). r.line) (filter (ties (λ (a b : Placed). is_lt (nat_cmp a.place b.place)) x) ys) ≡ aside_at x.place ys
        → map (λ (r : Placed). r.line) (cond b (y ∷ filter (ties (λ (a b : Placed). is_lt (nat_cmp a.place b.place)) x) ys) (filter (ties (λ (a b : Placed). is_lt (nat_cmp a.place b.place)) x) ys)) ≡ (if b then y.line ∷ aside_at x.place ys else aside_at x.place ys)
    go true e = ap (λ (ls : List Line). y.line ∷ ls) e
    go false e = e

some_line : Line
some_line = record { process = record { 0 = 0 }; call = record { 0 = 0 }; action = action.Ended; guard = 0; reply = answer.Done }

stable_same : (xs ys : List Placed) → IsStableByKey (λ (r : Placed). r.place) nat_cmp xs ys → (m : ℕ) → aside_at m ys ≡ aside_at m xs
stable_same xs ys stable m =
    let x : Placed = record { place = m; line = some_line } in
    sym (at_filter x ys) ∙ ap (λ (rs : List Placed). map (λ (r : Placed). r.line) rs) (stable x) ∙ at_filter x xs

rises_from : (xs : List Placed) → IsNonDecreasingBy (λ (r : Placed). r.place) xs → (low : ℕ) → ((x : Placed) (rest : List Placed) → xs ≡ x ∷ rest → low ≤ x.place) → Rises low xs
rises_from [] h low first = tt
rises_from (x ∷ xs) h low first = (
  first x xs refl,
  rises_from xs (λ i j d le lt. h (suc i) (suc j) d (omega arith) (omega arith)) x.place
      (λ y rest e.
      let long : 1 < length (x ∷ xs) = (let f = ap (λ (ys : List Placed). length ys) e in omega (arith, f)) in
      let g : get_or xs 0 x ≡ y = ap (λ (ys : List Placed). get_or ys 0 x) e in
      subst (λ (z : Placed). x.place ≤ z.place) g (h 0 1 x (omega arith) long)),
)

all_below : (top : ℕ) (xs : List Placed) → ((m : ℕ) → top ≤ m → aside_at m xs ≡ []) → AllBelow top xs
all_below top [] none = tt
all_below top (x ∷ xs) none = (
  ⊎_elim (λ lt. lt) (λ le. absurd (let e : x.line ∷ aside_at x.place xs ≡ [] = ap (λ b. if b then x.line ∷ aside_at x.place xs else aside_at x.place xs) (sym (eq-eqb x.place x.place refl)) ∙ none x.place le in cc e)) (cases_lt x.place top),
  all_below top xs (λ m le. tail m (x.place == m) (none m le)),
)
  where
    tail : (m : ℕ) (b : Bool) → (if b then x.line ∷ aside_at m xs else aside_at m xs) ≡ [] → aside_at m xs ≡ []
    tail m true e = absurd (cc e)
    tail m false e = e

-- so the kept history may be made by one stable sort
pub stable_book : (single : Test) (p : Performs) (list : List Message) (aside performed sorted : List Placed) → Performed single p list aside performed → IsSortedByKey (λ (r : Placed). r.place) nat_cmp sorted → IsStableByKey (λ (r : Placed). r.place) nat_cmp performed sorted
    → map (λ (r : Placed). r.line) sorted ≡ book single p list aside
stable_book single p list aside performed sorted h rising stable =
    let same = stable_same performed sorted stable in
    sorted_book single p list aside performed sorted h same
    (rises_from sorted (IsNonDecreasingBy-from_sort (λ (r : Placed). r.place) sorted rising) 0 (λ x rest e. omega arith))
    (all_below (suc (length list)) sorted (λ m le. same m ∙ h.above m (omega arith)))

-- an owner takes a call: what was performed grows by its lines
pub performed_takes : (single : Test) (p : Performs) (list : List Message) (aside performed : List Placed) (n : ℕ) (lines : List Line) → n ≤ length list → Performed single p list aside performed → Performed single p list (aside ++ placed n lines) (performed ++ placed n lines)
performed_takes single p list aside performed n [] le h =
    subst (λ (rs : List Placed). Performed single p list rs (performed ++ [])) (sym (append-nil aside)) (subst (λ (rs : List Placed). Performed single p list aside rs) (sym (append-nil performed)) h)
performed_takes single p list aside performed n (l ∷ lines) le h =
    let r : Placed = record { place = n; line = l } in
    let more = performed_takes single p list (aside ++ r ∷ []) (performed ++ r ∷ []) n lines le (performed_read single p list aside performed r le h) in
    subst (λ (rs : List Placed). Performed single p list rs (performed ++ placed n (l ∷ lines))) (append_assoc aside (r ∷ []) (placed n lines))
    (subst (λ (rs : List Placed). Performed single p list ((aside ++ r ∷ []) ++ placed n lines) rs) (append_assoc performed (r ∷ []) (placed n lines)) more)
