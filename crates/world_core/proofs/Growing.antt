-- The entries and lines of members' parts, joined, are what an event adds to the list and to what was performed.
use Rattle.std.proofs.Common.{◌≡◌, ◌≤◌, ◌<◌, ◌+◌, ◌-◌, ◌∙◌, ◌⊎◌, inl, inr, ⊎_elim, ◌==◌, ℕ, zero, suc, Bool, true, false, cond, ltb, List, [], ◌∷◌, ◌++◌, Some, slice_get, take, drop, ap, sym, subst, refl, arith, length, length-append, append_assoc, append-nil}
use Rattle.std.proofs.lemmas.Bool.{cases_lt, le-ltb, lt-ltb, ne_eqb}
use Rattle.std.proofs.Math.Seq.{drop-append-add, take-append_seam}
use Rattle.std.proofs.lemmas.List.{drop_all, length-take-le, take_all, take-append-drop, take-append-le}
use Rattle.std.proofs.lemmas.Option.{slice_get_within}
use Rattle.value_core.specs.declared.action.Line.{Line}
use Rattle.value_core.specs.declared.message.Message.{Message}
use Rattle.book_law.specs.Book.{aside_at}
use Rattle.book_law.specs.Performed.{Performed, placed}
use Rattle.book_law.specs.declared.placing.Placed.{Placed}
use Rattle.book_law.proofs.Books.{placed_here, placed_there}
use Rattle.run_law.specs.Growing.{ListGrows, PerformedGrows, lines_at}
use Rattle.world_rules.specs.Frame.{Frame}
use Rattle.world_rules.specs.Worlds.{World, agreed, singles_in}
use Rattle.world_core.specs.Drafting.{behind, lines_behind}
use Rattle.world_core.specs.Growing.{HasDrafted}

-- ---- lines by place

both_at : (n : ℕ) (xs ys : List Placed) → aside_at n (xs ++ ys) ≡ aside_at n xs ++ aside_at n ys
both_at n [] ys = refl
both_at n (r ∷ xs) ys = go (r.place == n) (both_at n xs ys)
  where
    go : (b : Bool) → aside_at n (xs ++ ys) ≡ aside_at n xs ++ aside_at n ys
        → cond b (r.line ∷ aside_at n (xs ++ ys)) (aside_at n (xs ++ ys)) ≡ cond b (r.line ∷ aside_at n xs) (aside_at n xs) ++ aside_at n ys
    go true e = ap (λ (l : List Line). r.line ∷ l) e
    go false e = e

here_at : (n : ℕ) (lines : List Line) → aside_at n (placed n lines) ≡ lines
here_at n lines = placed_here n [] lines

away_at : (n k : ℕ) (lines : List Line) → (n ≡ k → ⊥) → aside_at k (placed n lines) ≡ []
away_at n k lines apart = placed_there n k [] lines apart

-- those of an entry, where it is kept, and of the rest
first_at : (n known place : ℕ) (x : List Line) (xs : List (List Line)) (front : List Line) → aside_at n (cond (ltb known (suc place)) (placed (suc place) x) []) ≡ front
    → aside_at n (lines_behind known place (x ∷ xs)) ≡ front ++ aside_at n (lines_behind known (suc place) xs)
first_at n known place x xs front is = go (ltb known (suc place)) is
  where
    rest : List Placed
    rest = lines_behind known (suc place) xs

    go : (b : Bool) → aside_at n (cond b (placed (suc place) x) []) ≡ front → aside_at n (cond b (placed (suc place) x ++ rest) rest) ≡ front ++ aside_at n rest
    go true e = both_at n (placed (suc place) x) rest ∙ ap (λ (l : List Line). l ++ aside_at n rest) e
    go false e = ap (λ (l : List Line). l ++ aside_at n rest) e

none_of : (n : ℕ) (b : Bool) (place : ℕ) (x : List Line) → (b ≡ true → place ≡ n → ⊥) → aside_at n (cond b (placed place x) []) ≡ []
none_of n true place x h = away_at place n x (h refl)
none_of n false place x h = refl

low_none : (n known place : ℕ) (xs : List (List Line)) → n ≤ known → aside_at n (lines_behind known place xs) ≡ []
low_none n known place [] low = refl
low_none n known place (x ∷ xs) low =
    first_at n known place x xs [] (none_of n (ltb known (suc place)) (suc place) x (λ b e. absurd (kept b (omega (arith, e, low)))))
    ∙ low_none n known (suc place) xs low
  where
    kept : ltb known (suc place) ≡ true → suc place ≤ known → ⊥
    kept b le = let e = le-ltb known (suc place) le in cc

high_none : (n known place : ℕ) (xs : List (List Line)) → place + length xs < n → aside_at n (lines_behind known place xs) ≡ []
high_none n known place [] high = refl
high_none n known place (x ∷ xs) high =
    first_at n known place x xs [] (none_of n (ltb known (suc place)) (suc place) x (λ b e. absurd (omega (arith, e, high))))
    ∙ high_none n known (suc place) xs (omega (arith, high))

one_at : (n known place k : ℕ) (xs : List (List Line)) (lines : List Line) → known < n → place + suc k ≡ n → slice_get xs k ≡ Some lines → aside_at n (lines_behind known place xs) ≡ lines
one_at n known place k [] lines over is at = absurd (cc at)
one_at n known place zero (x ∷ xs) lines over is at =
    let same : x ≡ lines = cc in
    let e : suc place ≡ n = omega (arith, is) in
    let kept : ltb known (suc place) ≡ true = lt-ltb known (suc place) (omega (arith, over, e)) in
    first_at n known place x xs lines
    (ap (λ (b : Bool). aside_at n (cond b (placed (suc place) x) [])) kept ∙ subst (λ (m : ℕ). aside_at m (placed (suc place) x) ≡ lines) e (here_at (suc place) x ∙ same))
    ∙ ap (λ (l : List Line). lines ++ l) (past n known (suc place) xs (omega (arith, e))) ∙ append-nil lines
  where
    past : (n known place : ℕ) (xs : List (List Line)) → n ≤ place → aside_at n (lines_behind known place xs) ≡ []
    past n known place [] low = refl
    past n known place (x ∷ xs) low =
        first_at n known place x xs [] (none_of n (ltb known (suc place)) (suc place) x (λ b e. absurd (omega (arith, e, low)))) ∙ past n known (suc place) xs (omega (arith, low))
one_at n known place (suc k) (x ∷ xs) lines over is at =
    first_at n known place x xs [] (none_of n (ltb known (suc place)) (suc place) x (λ b e. absurd (omega (arith, e, is))))
    ∙ one_at n known (suc place) k xs lines over (omega (arith, is)) at

-- ---- entries

all_behind : {A : Type 0} (known place : ℕ) (xs : List A) → known ≤ place → behind known place xs ≡ xs
all_behind known place [] low = refl
all_behind {A} known place (x ∷ xs) low =
    ap (λ (b : Bool). cond b (x ∷ behind known (suc place) xs) (behind known (suc place) xs)) (lt-ltb known (suc place) (omega (arith, low)))
    ∙ ap (λ (l : List A). x ∷ l) (all_behind known (suc place) xs (omega (arith, low)))

none_dropped : {A : Type 0} (n : ℕ) → [] ≡ drop {A = A} n []
none_dropped zero = refl
none_dropped (suc n) = refl

-- of the entries behind `place`, those behind `known`
behind_by : {A : Type 0} (known place more : ℕ) (xs : List A) → place + more ≡ known → behind known place xs ≡ drop more xs
behind_by known place zero xs is = all_behind known place xs (omega (arith, is))
behind_by known place (suc more) [] is = none_dropped (suc more)
behind_by {A} known place (suc more) (x ∷ xs) is =
    ap (λ (b : Bool). cond b (x ∷ behind known (suc place) xs) (behind known (suc place) xs)) (le-ltb known (suc place) (omega (arith, is)))
    ∙ behind_by known (suc place) more xs (omega (arith, is))

-- the entries of the list so far, with those that a member that applied so many adds
pub record Fronts (list : List Message) (known applied : ℕ) (entries : List Message) : Type 0 where
  pub front : entries ≡ take (length entries) list
  pub from_known : known ≤ length entries
  pub from_applied : applied ≤ length entries
  pub one : (length entries ≤ known) ⊎ (length entries ≤ applied)

pub fronts_on : (list entries before messages : List Message) (now : ℕ) → entries ≡ take (length entries) list → now ≤ length list → length before ≤ length entries
    → before ++ messages ≡ take now list → Fronts list (length entries) now (entries ++ behind (length entries) (length before) messages)
fronts_on list entries before messages now front within low had =
    ⊎_elim far near (cases_lt (length entries) now)
  where
    known : ℕ
    known = length entries

    rest : behind known (length before) messages ≡ drop known (take now list)
    rest =
        behind_by known (length before) (known - length before) messages (omega (arith, low))
        ∙ sym (drop-append-add before messages (known - length before))
        ∙ ap (λ (n : ℕ). drop n (before ++ messages)) (let e : length before + (known - length before) ≡ known = omega (arith, low) in e)
        ∙ ap (drop known) had

    far : known < now → Fronts list known now (entries ++ behind known (length before) messages)
    far lt =
        let long : length (take now list) ≡ now = length-take-le now list within in
        let same : entries ≡ take known (take now list) = front ∙ sym (ap (take known) (take-append-drop now list)) ∙ take-append-le known (take now list) (drop now list) (omega (arith, lt, long)) in
        let is : entries ++ behind known (length before) messages ≡ take now list =
        ap (λ (l : List Message). entries ++ l) rest ∙ ap (λ (l : List Message). l ++ drop known (take now list)) same ∙ take-append-drop known (take now list) in
        let count : length (entries ++ behind known (length before) messages) ≡ now = ap length is ∙ long in
        record {
          front = is ∙ ap (λ (n : ℕ). take n list) (sym count);
          from_known = omega (arith, count, lt);
          from_applied = omega (arith, count);
          one = inr (omega (arith, count));
        }

    near : now ≤ known → Fronts list known now (entries ++ behind known (length before) messages)
    near le =
        let long : length (take now list) ≡ now = length-take-le now list within in
        let is : entries ++ behind known (length before) messages ≡ entries =
        ap (λ (l : List Message). entries ++ l) (rest ∙ drop_all known (take now list) (omega (arith, long, le))) ∙ append-nil entries in
        let count : length (entries ++ behind known (length before) messages) ≡ known = ap length is in
        record {
          front = is ∙ front ∙ ap (λ (n : ℕ). take n list) (sym count);
          from_known = omega (arith, count);
          from_applied = omega (arith, count, le);
          one = inl (omega (arith, count));
        }

-- ---- a member's part

-- places up to so many
up_to_none : (most n : ℕ) (xs : List Placed) → ((k : ℕ) (r : Placed) → slice_get xs k ≡ Some r → r.place ≤ most) → most < n → aside_at n xs ≡ []
up_to_none most n [] h lt = refl
up_to_none most n (r ∷ xs) h lt =
    ap (λ (b : Bool). cond b (r.line ∷ aside_at n xs) (aside_at n xs)) (ne_eqb r.place n (λ e. absurd (omega (arith, e, lt, h 0 r refl))))
    ∙ up_to_none most n xs (λ k s at. h (suc k) s at) lt

-- what is known of a member's part: it had applied so many entries, and tells just the lines of those that it applied now
pub record Tells (f : Frame) (u : World) (had now : ℕ) (told : List (List Line)) (more : List Placed) : Type 0 where
  pub count : had + length told ≡ now
  pub lines : (k : ℕ) (x : Message) → k < length told → slice_get (agreed f u) (had + k) ≡ Some x → slice_get told k ≡ Some (lines_at f u (had + k) x)
  pub beside : (k : ℕ) (r : Placed) → slice_get more k ≡ Some r → r.place ≤ now

pub drafted_on : (f : Frame) (w u : World) (entries before messages : List Message) (performed beside more : List Placed) (told : List (List Line)) (now : ℕ)
    → HasDrafted f w u entries performed beside → now ≤ length (agreed f u) → length before ≤ length entries → before ++ messages ≡ take now (agreed f u)
    → Tells f u (length before) now told more
    → HasDrafted f w u (entries ++ behind (length entries) (length before) messages) (performed ++ (lines_behind (length entries) (length before) told ++ more)) (beside ++ more)
drafted_on f w u entries before messages performed beside more told now h within low had tells = record {
  front = fronts.front;
  least = omega (arith, h.least, fronts.from_known);
  most = under_list fronts.one;
  old = λ n le. parts n ∙ ap (λ (l : List Line). l ++ (aside_at n (lines_behind known place told) ++ aside_at n more)) (h.old n le)
      ∙ ap (λ (l : List Line). aside_at n beside ++ (l ++ aside_at n more)) (low_none n known place told (omega (arith, le, h.least))) ∙ sym (both_at n beside more);
  new = λ n x le lt at. ⊎_elim (kept n x le at) (fresh n x le lt at) (cases_lt n known);
  above = λ n lt. parts n ∙ ap (λ (l : List Line). l ++ (aside_at n (lines_behind known place told) ++ aside_at n more)) (h.above n (omega (arith, lt, fronts.from_known)))
      ∙ ap (λ (l : List Line). l ++ aside_at n more) (high_none n known place told (omega (arith, tells.count, lt, fronts.from_applied)))
      ∙ up_to_none now n more tells.beside (omega (arith, lt, fronts.from_applied));
  behind = λ n lt. both_at n beside more ∙ ap (λ (l : List Line). l ++ aside_at n more) (h.behind n (omega (arith, lt, fronts.from_known))) ∙ up_to_none now n more tells.beside (omega (arith, lt, fronts.from_applied));
}
  where
    known : ℕ
    known = length entries

    place : ℕ
    place = length before

    list : List Message
    list = agreed f u

    fronts : Fronts list known now (entries ++ behind known place messages)
    fronts = fronts_on list entries before messages now h.front within low had

    under_list : (length (entries ++ behind known place messages) ≤ known) ⊎ (length (entries ++ behind known place messages) ≤ now) → length (entries ++ behind known place messages) ≤ length list
    under_list (inl e) = omega (arith, e, h.most)
    under_list (inr e) = omega (arith, e, within)

    parts : (n : ℕ) → aside_at n (performed ++ (lines_behind known place told ++ more)) ≡ aside_at n performed ++ (aside_at n (lines_behind known place told) ++ aside_at n more)
    parts n = both_at n performed (lines_behind known place told ++ more) ∙ ap (λ (l : List Line). aside_at n performed ++ l) (both_at n (lines_behind known place told) more)

    kept : (n : ℕ) (x : Message) → length (agreed f w) ≤ n → slice_get list n ≡ Some x → n < known
        → aside_at (suc n) (performed ++ (lines_behind known place told ++ more)) ≡ lines_at f u n x ++ aside_at (suc n) (beside ++ more)
    kept n x le at lt =
        parts (suc n)
        ∙ ap (λ (l : List Line). l ++ (aside_at (suc n) (lines_behind known place told) ++ aside_at (suc n) more)) (h.new n x le lt at)
        ∙ ap (λ (l : List Line). (lines_at f u n x ++ aside_at (suc n) beside) ++ (l ++ aside_at (suc n) more)) (low_none (suc n) known place told (omega (arith, lt)))
        ∙ append_assoc (lines_at f u n x) (aside_at (suc n) beside) (aside_at (suc n) more)
        ∙ ap (λ (l : List Line). lines_at f u n x ++ l) (sym (both_at (suc n) beside more))

    fresh : (n : ℕ) (x : Message) → length (agreed f w) ≤ n → n < length (entries ++ behind known place messages) → slice_get list n ≡ Some x → known ≤ n
        → aside_at (suc n) (performed ++ (lines_behind known place told ++ more)) ≡ lines_at f u n x ++ aside_at (suc n) (beside ++ more)
    fresh n x le lt at past =
        let below : n < now = under fronts.one in
        let k : ℕ = n - place in
        let e : place + k ≡ n = omega (arith, low, past) in
        let d : place + suc k ≡ suc n = omega (arith, e) in
        let there = tells.lines k x (omega (arith, tells.count, below, e)) (ap (slice_get list) e ∙ at) in
        parts (suc n)
        ∙ ap (λ (l : List Line). l ++ (aside_at (suc n) (lines_behind known place told) ++ aside_at (suc n) more)) (h.above (suc n) (omega (arith, past)))
        ∙ ap (λ (l : List Line). l ++ aside_at (suc n) more) (one_at (suc n) known place k told (lines_at f u (place + k) x) (omega (arith, past)) d there ∙ ap (λ (m : ℕ). lines_at f u m x) e)
        ∙ ap (λ (l : List Line). lines_at f u n x ++ l) (sym (both_at (suc n) beside more ∙ ap (λ (l : List Line). l ++ aside_at (suc n) more) (h.behind (suc n) (omega (arith, past)))))
      where
        under : (length (entries ++ behind known place messages) ≤ known) ⊎ (length (entries ++ behind known place messages) ≤ now) → n < now
        under (inl c) = absurd (omega (arith, c, lt, past))
        under (inr c) = omega (arith, c, lt)

-- ---- an event

pub drafted_first : (f : Frame) (w u : World) → ListGrows f w u → HasDrafted f w u (agreed f w) [] []
drafted_first f w u h = record {
  front = sym (ap (take (length (agreed f w))) h.grew ∙ take-append_seam (agreed f w) h.more);
  least = omega arith;
  most = omega (arith, ap length h.grew, length-append (agreed f w) h.more);
  old = λ n le. refl;
  new = λ n x le lt at. absurd (omega (arith, le, lt));
  above = λ n lt. refl;
  behind = λ n lt. refl;
}

-- once each member's entries are among those that were drafted, these are the list
pub drafted_list : (f : Frame) (w u : World) (entries : List Message) (performed beside : List Placed) → HasDrafted f w u entries performed beside → ListGrows f w u
    → ((m : ℕ) → m < f.settings.nodes → (u.nodes m).copies.applied ≤ length entries) → entries ≡ agreed f u
drafted_list f w u entries performed beside h grows all =
    let some = grows.some in
    h.front ∙ take_all (length entries) (agreed f u) (omega (arith, all some.0 some.1, some.2))

-- and what was performed is what was, with what was drafted
pub drafted_all : (f : Frame) (w u : World) (entries : List Message) (performed beside before : List Placed) → HasDrafted f w u entries performed beside → ListGrows f w u
    → entries ≡ agreed f u → u.aside ≡ w.aside ++ beside → PerformedGrows f w u → Performed (singles_in f w) f.performs (agreed f w) w.aside before
    → Performed (singles_in f u) f.performs (agreed f u) u.aside (before ++ performed)
drafted_all f w u entries performed beside before h grows is grown law was =
    law before performed was (record {
      beside = beside;
      grew = grown;
      old = h.old;
      entries = λ n x le at. h.new n x le (omega (arith, slice_get_within (agreed f u) n x at, ap length is)) at;
      above = λ n lt. h.above n (omega (arith, lt, ap length is));
    })
