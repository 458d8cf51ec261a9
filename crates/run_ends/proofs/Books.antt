-- The book of a run in code, and the ends that are told of it.
use Rattle.std.proofs.Common.{◌≡◌, ◌≤◌, ◌<◌, ◌+◌, ◌∙◌, ⊎_elim, ◌==◌, ltb, not, ℕ, zero, suc, Bool, true, false, cond, List, [], ◌∷◌, ◌++◌, Option, None, Some, slice_get, slice_set, take, replicate, map, ap, sym, subst, refl, arith, length, append-nil, append_assoc}
use Rattle.std.proofs.lemmas.Bool.{cases_lt, eq-eqb, le-ltb, lt-ltb, ne_eqb}
use Rattle.std.proofs.lemmas.List.{length-take, length_push, map-append, take-append-le, take_all}
use Rattle.std.proofs.lemmas.Option.{slice_get_within}
use Rattle.value_core.specs.declared.action.Line.{Line}
use Rattle.value_core.specs.declared.action.Reply.{Reply}
use Rattle.book_law.proofs.Lists.{at_push}
use Rattle.book_law.specs.Events.{lines_by, replies_to}
use Rattle.book_law.specs.Performed.{IsBook, Performed, placed}
use Rattle.book_law.specs.declared.placing.Placed.{Placed}
use Rattle.world_facts.specs.Ends as facts
use Rattle.world_facts.specs.Ends.{listed, node_end, process_end, replies_in}
use Rattle.world_rules.specs.Frame.{Frame}
use Rattle.world_rules.specs.Played.{Played}
use Rattle.world_rules.specs.Standings.{process_count}
use Rattle.world_rules.specs.Worlds.{Book, World, agreed, home_of, played_in, singles_in}
use Rattle.node_parts.specs.Shown.{IsPlayedIf, Left, Stood}
use Rattle.node_core.specs.declared.node.Node.{Node}
use Rattle.node_parts.specs.declared.resident.Resident.{Resident}
use Rattle.world_parts.proofs.Lists.{got_set, map_set, set_length, take_next}
use Rattle.world_parts.proofs.Keeping.{one_more}
use Rattle.world_parts.specs.Recorded.{of_piece, of_pieces}
use Rattle.world_parts.specs.Standing.{IsWorld, Stands}
use Rattle.world_parts.specs.declared.ledger.Piece.{Piece}
use Rattle.world_parts.specs.declared.parts.Parts.{Parts}
use Rattle.run_ends.specs.Telling.{AreProcessEnds, HasHeard, IsNodeEnd, TellsNode, on_process_end}
use Rattle.run_ends.specs.declared.ends.NodeEnd.{NodeEnd}
use Rattle.run_ends.specs.declared.ends.ProcessEnd.{ProcessEnd}

-- ---- the book

pub pieces_next : (all : List Piece) (k next : ℕ) (piece : Piece) (now new : List Placed) → suc k ≡ next → slice_get all k ≡ Some piece → new ≡ now ++ of_piece piece → now ≡ of_pieces (take k all) → new ≡ of_pieces (take next all)
pieces_next all k next piece now new up at is h =
    is ∙ ap (λ (l : List Placed). l ++ of_piece piece) h ∙ sym (ap of_pieces (take_next all k piece at) ∙ one_more (take k all) piece) ∙ ap (λ (n : ℕ). of_pieces (take n all)) up

pub lines_next : (place : ℕ) (all : List Line) (k next : ℕ) (line : Line) (old now new : List Placed) → suc k ≡ next → slice_get all k ≡ Some line → new ≡ now ++ record { place = place; line = line } ∷ [] → now ≡ old ++ placed place (take k all)
    → new ≡ old ++ placed place (take next all)
lines_next place all k next line old now new up at is h =
    is ∙ ap (λ (l : List Placed). l ++ record { place = place; line = line } ∷ []) h ∙ append_assoc old (placed place (take k all)) _
    ∙ ap (λ (l : List Placed). old ++ l) (sym (ap (placed place) (take_next all k line at) ∙ map-append _ (take k all) (line ∷ []))) ∙ ap (λ (n : ℕ). old ++ placed place (take n all)) up

-- the sorted lines are the book
pub book_is : {P S : Type 0} (stood : Stood S) (left : Left S) (f : Frame) (s : Parts P S) (w : World) (performed sorted : List Placed) (lines : List Line) → IsWorld stood left f s w → performed ≡ s.ledger.performed → IsBook performed sorted
    → lines ≡ map (λ (r : Placed). r.line) sorted → lines ≡ Book f w
book_is stood left f s w performed sorted lines is same book of = of ∙ book (singles_in f w) f.performs (agreed f w) w.aside (subst (λ (l : List Placed). Performed (singles_in f w) f.performs (agreed f w) w.aside l) (sym same) is.performed)

-- ---- members

-- what the loop over members knows
abbrev pub Ended : {P S : Type 0} → Stood S → Left S → Frame → Parts P S → ℕ → List NodeEnd → Type 0
Ended stood left f s k ends =
    (length ends ≡ k) × ((w : World) → IsWorld stood left f s w → (m : ℕ) (end : NodeEnd) → slice_get ends m ≡ Some end → IsNodeEnd end (node_end w m))

pub ended_first : {P S : Type 0} (stood : Stood S) (left : Left S) (f : Frame) (s : Parts P S) (ends : List NodeEnd) → ends ≡ [] → Ended stood left f s 0 ends
ended_first stood left f s ends none = (ap length none, λ w world m end at. absurd (none_there ends m end none at))
  where
    none_there : (xs : List NodeEnd) (m : ℕ) (x : NodeEnd) → xs ≡ [] → slice_get xs m ≡ Some x → ⊥
    none_there [] m x is h = absurd (cc h)
    none_there (y ∷ xs) m x is h = absurd (cc is)

pub ended_next : {P S : Type 0} (stood : Stood S) (left : Left S) (f : Frame) (s : Parts P S) (k next : ℕ) (node : Node P S) (lives : Bool) (end : NodeEnd) (ends more : List NodeEnd) → suc k ≡ next → Some node ≡ slice_get s.nodes.items k
    → ((w : World) → IsWorld stood left f s w → lives ≡ w.lives k) → TellsNode stood left node lives end → more ≡ ends ++ end ∷ [] → Ended stood left f s k ends → Ended stood left f s next more
ended_next {P} {S} stood left f s k next node lives end ends more up at living tells is h =
    subst (Ended stood left f s next) (sym is) (omega (arith, length_push ends end, h.0, up), λ w world m other there. ⊎_elim (λ old. h.1 w world m other old) (λ new. last w world m other new) (at_push ends end m other there))
  where
    last : (w : World) → IsWorld stood left f s w → (m : ℕ) (other : NodeEnd) → (m ≡ length ends) × (end ≡ other) → IsNodeEnd other (node_end w m)
    last w world m other new =
        let told = tells f k (w.nodes k) (world.nodes k node (sym at)) in
        let e : k ≡ m = omega (arith, h.0, new.0) in
        subst (λ (n : NodeEnd). IsNodeEnd n (node_end w m)) new.1
        (subst (λ (j : ℕ). IsNodeEnd end (node_end w j)) e
        (record { applied = told.applied; incarnation = told.incarnation; crashed = told.crashed ∙ ap not (living w world); outside = told.outside; copies = told.copies }))

-- ---- replies

by_push : (i : ℕ) (lines : List Line) (line : Line) → lines_by i (lines ++ line ∷ []) ≡ lines_by i lines ++ lines_by i (line ∷ [])
by_push i [] line = refl
by_push i (first ∷ lines) line = go (first.process.0 == i) (by_push i lines line)
  where
    go : (b : Bool) → lines_by i (lines ++ line ∷ []) ≡ lines_by i lines ++ lines_by i (line ∷ [])
        → cond b (first ∷ lines_by i (lines ++ line ∷ [])) (lines_by i (lines ++ line ∷ [])) ≡ cond b (first ∷ lines_by i lines) (lines_by i lines) ++ lines_by i (line ∷ [])
    go true h = ap (λ (l : List Line). first ∷ l) h
    go false h = h

to_push : (i : ℕ) (lines : List Line) (line : Line) → replies_to (lines_by i (lines ++ line ∷ [])) ≡ replies_to (lines_by i lines) ++ replies_to (lines_by i (line ∷ []))
to_push i lines line = ap replies_to (by_push i lines line) ∙ map-append _ (lines_by i lines) (lines_by i (line ∷ []))

own_line : (i : ℕ) (line : Line) → line.process.0 ≡ i → replies_to (lines_by i (line ∷ [])) ≡ line.reply ∷ []
own_line i line is = ap (λ (b : Bool). replies_to (cond b (line ∷ []) [])) (eq-eqb line.process.0 i is)

other_line : (i : ℕ) (line : Line) → (line.process.0 ≡ i → ⊥) → replies_to (lines_by i (line ∷ [])) ≡ []
other_line i line apart = ap (λ (b : Bool). replies_to (cond b (line ∷ []) [])) (ne_eqb line.process.0 i apart)

-- one reply more, up to so many
take_push : {A : Type 0} (n : ℕ) (xs : List A) (x : A) → cond (ltb (length (take n xs)) n) (take n xs ++ x ∷ []) (take n xs) ≡ take n (xs ++ x ∷ [])
take_push {A} n xs x = ⊎_elim more full (cases_lt (length xs) n)
  where
    more : length xs < n → cond (ltb (length (take n xs)) n) (take n xs ++ x ∷ []) (take n xs) ≡ take n (xs ++ x ∷ [])
    more lt =
        let whole = take_all n xs (omega (arith, lt)) in
        ap (λ (b : Bool). cond b (take n xs ++ x ∷ []) (take n xs)) (lt-ltb (length (take n xs)) n (omega (arith, ap length whole, lt)))
        ∙ ap (λ (l : List A). l ++ x ∷ []) whole ∙ sym (take_all n (xs ++ x ∷ []) (omega (arith, length_push xs x, lt)))

    full : n ≤ length xs → cond (ltb (length (take n xs)) n) (take n xs ++ x ∷ []) (take n xs) ≡ take n (xs ++ x ∷ [])
    full le =
        let count = length-take n xs in
        ap (λ (b : Bool). cond b (take n xs ++ x ∷ []) (take n xs)) (le-ltb (length (take n xs)) n (omega (arith, count, le))) ∙ sym (take-append-le n xs (x ∷ []) le)

-- the reply of a line joins those of its process
pub hear_next : (f : Frame) (w : World) (before : List Line) (line : Line) (n : ℕ) (old new : List (List Reply)) (heard : List Reply) → n ≡ length (replies_in (played_in f w line.process.0)) → slice_get old line.process.0 ≡ Some heard
    → new ≡ slice_set old line.process.0 (cond (ltb (length heard) n) (heard ++ line.reply ∷ []) heard) → HasHeard f w before old → HasHeard f w (before ++ line ∷ []) new
hear_next f w before line n old new heard many at is h =
    subst (HasHeard f w (before ++ line ∷ [])) (sym is) (record {
      count = set_length old line.process.0 after ∙ h.count;
      each = λ i got there. ⊎_elim (own i got) (other i got) (got_set old line.process.0 i after got there);
    })
  where
    after : List Reply
    after = cond (ltb (length heard) n) (heard ++ line.reply ∷ []) heard

    own : (i : ℕ) (got : List Reply) → (i ≡ line.process.0) × (after ≡ got) → got ≡ take (length (replies_in (played_in f w i))) (replies_to (lines_by i (before ++ line ∷ [])))
    own i got same =
        let j = line.process.0 in
        let was : heard ≡ take n (replies_to (lines_by j before)) = h.each j heard at ∙ ap (λ (k : ℕ). take k (replies_to (lines_by j before))) (sym many) in
        let now : after ≡ take n (replies_to (lines_by j (before ++ line ∷ []))) =
        ap (λ (l : List Reply). cond (ltb (length l) n) (l ++ line.reply ∷ []) l) was ∙ take_push n (replies_to (lines_by j before)) line.reply
        ∙ ap (take n) (sym (to_push j before line ∙ ap (λ (l : List Reply). replies_to (lines_by j before) ++ l) (own_line j line refl))) in
        sym same.1 ∙ now ∙ ap (λ (k : ℕ). take k (replies_to (lines_by j (before ++ line ∷ [])))) many ∙ ap (λ (k : ℕ). take (length (replies_in (played_in f w k))) (replies_to (lines_by k (before ++ line ∷ [])))) (sym same.0)

    other : (i : ℕ) (got : List Reply) → (i ≡ line.process.0 → ⊥) × (slice_get old i ≡ Some got) → got ≡ take (length (replies_in (played_in f w i))) (replies_to (lines_by i (before ++ line ∷ [])))
    other i got apart =
        h.each i got apart.1
        ∙ ap (take (length (replies_in (played_in f w i)))) (sym (to_push i before line ∙ ap (λ (l : List Reply). replies_to (lines_by i before) ++ l) (other_line i line (λ e. apart.0 (sym e))) ∙ append-nil (replies_to (lines_by i before))))

-- a line of no such process is nobody's
pub hear_none : (f : Frame) (w : World) (before : List Line) (line : Line) (old : List (List Reply)) → length old ≤ line.process.0 → HasHeard f w before old → HasHeard f w (before ++ line ∷ []) old
hear_none f w before line old past h = record {
  count = h.count;
  each = λ i got at.
      let lt = slice_get_within old i got at in
      h.each i got at
      ∙ ap (take (length (replies_in (played_in f w i)))) (sym (to_push i before line ∙ ap (λ (l : List Reply). replies_to (lines_by i before) ++ l) (other_line i line (λ e. absurd (omega (arith, e, lt, past)))) ∙ append-nil (replies_to (lines_by i before))));
}

map_got : {A B : Type 0} (see : A → B) (xs : List A) (k : ℕ) (x : A) → slice_get xs k ≡ Some x → slice_get (map see xs) k ≡ Some (see x)
map_got see [] k x at = absurd (cc at)
map_got see (y ∷ xs) zero x at = let e : y ≡ x = cc in ap (λ a. Some (see a)) e
map_got see (y ∷ xs) (suc k) x at = map_got see xs k x at

map_many : {A B : Type 0} (see : A → B) (xs : List A) → length (map see xs) ≡ length xs
map_many see [] = refl
map_many see (x ∷ xs) = ap suc (map_many see xs)

-- the same of lists as code has them
pub hear_on : {A : Type 0} (see : A → List Reply) (f : Frame) (w : World) (before : List Line) (line : Line) (n : ℕ) (xs : List A) (was now : A) → n ≡ length (replies_in (played_in f w line.process.0)) → slice_get xs line.process.0 ≡ Some was
    → see now ≡ cond (ltb (length (see was)) n) (see was ++ line.reply ∷ []) (see was) → HasHeard f w before (map see xs) → HasHeard f w (before ++ line ∷ []) (map see (slice_set xs line.process.0 now))
hear_on see f w before line n xs was now many at is h =
    hear_next f w before line n (map see xs) (map see (slice_set xs line.process.0 now)) (see was) many (map_got see xs line.process.0 was at)
    (map_set see xs line.process.0 now ∙ ap (slice_set (map see xs) line.process.0) is) h

pub hear_off : {A : Type 0} (see : A → List Reply) (f : Frame) (w : World) (before : List Line) (line : Line) (xs : List A) → length xs ≤ line.process.0 → HasHeard f w before (map see xs) → HasHeard f w (before ++ line ∷ []) (map see xs)
hear_off see f w before line xs past h = hear_none f w before line (map see xs) (omega (arith, past, map_many see xs)) h

-- nothing was heard yet
pub replicate_next : {A : Type 0} (n next : ℕ) (x : A) → suc n ≡ next → replicate n x ++ x ∷ [] ≡ replicate next x
replicate_next {A} n next x up = go n ∙ ap (λ (k : ℕ). replicate k x) up
  where
    go : (n : ℕ) → replicate n x ++ x ∷ [] ≡ replicate (suc n) x
    go zero = refl
    go (suc n) = ap (λ (l : List A). x ∷ l) (go n)

pub hear_first : (f : Frame) (w : World) (n : ℕ) (replies : List (List Reply)) → replies ≡ replicate n [] → n ≡ process_count f w → HasHeard f w [] replies
hear_first f w n replies is count =
    subst (HasHeard f w []) (sym is) (record { count = many n ∙ count; each = λ i heard at. none n i heard at ∙ sym (take_none (length (replies_in (played_in f w i)))) })
  where
    many : (n : ℕ) → length (replicate {A = List Reply} n []) ≡ n
    many zero = refl
    many (suc n) = ap suc (many n)

    none : (n i : ℕ) (heard : List Reply) → slice_get (replicate n []) i ≡ Some heard → heard ≡ []
    none zero i heard at = absurd (cc at)
    none (suc n) zero heard at = let e : ◌≡◌ {A = Option (List Reply)} (Some []) (Some heard) = at in cc e
    none (suc n) (suc i) heard at = none n i heard at

    take_none : (n : ℕ) → take {A = Reply} n [] ≡ []
    take_none zero = refl
    take_none (suc n) = refl

pub heard_there : {S : Type 0} (stood : Stood S) (left : Left S) (i : ℕ) (r : Resident S) (o : Option Played) → IsPlayedIf stood left i (Some r) o → r.calls ≡ length (replies_in o)
heard_there stood left i r None h = absurd h
heard_there stood left i r (Some p) h = h.calls

pub heard_none : {S : Type 0} (stood : Stood S) (left : Left S) (i : ℕ) (o : Option Played) → IsPlayedIf {S = S} stood left i None o → 0 ≡ length (replies_in o)
heard_none stood left i None h = refl
heard_none stood left i (Some p) h = absurd h

-- off the whole book they are those that it received
pub heard_all : {P S : Type 0} (stood : Stood S) (left : Left S) (f : Frame) (s : Parts P S) (w : World) (replies : List (List Reply)) (i : ℕ) (heard : List Reply) → Stands stood left f s → IsWorld stood left f s w → HasHeard f w (Book f w) replies
    → slice_get replies i ≡ Some heard → heard ≡ replies_in (played_in f w i)
heard_all stood left f s w replies i heard h is hears at = hears.each i heard at ∙ go (played_in f w i) refl
  where
    go : (o : Option Played) → played_in f w i ≡ o → take (length (replies_in o)) (replies_to (lines_by i (Book f w))) ≡ replies_in o
    go None known = refl
    go (Some r) known = sym (h.laws.replies f refl refl h.settings s.ledger.steps w is.replays (home_of f w i) i r known)

-- ---- processes

-- what the loop over processes knows: these have ended so, and of the others the replies are left
pub record EndedTo {P S : Type 0} (stood : Stood S) (left : Left S) (f : Frame) (s : Parts P S) (process all : ℕ) (ends : List ProcessEnd) (rest : List (List Reply)) : Type 0 where
  pub count : process + length rest ≡ all
  pub ended : (w : World) → IsWorld stood left f s w → map on_process_end ends ≡ listed process (process_end f w)
  pub others : (w : World) → IsWorld stood left f s w → (i : ℕ) (heard : List Reply) → slice_get rest i ≡ Some heard → heard ≡ replies_in (played_in f w (process + i))

pub processes_first : {P S : Type 0} (stood : Stood S) (left : Left S) (f : Frame) (s : Parts P S) (all rest : List (List Reply)) → Stands stood left f s → ((w : World) → IsWorld stood left f s w → HasHeard f w (Book f w) all) → rest ≡ all
    → EndedTo stood left f s 0 (length all) [] rest
processes_first {P} {S} stood left f s all rest h heard is =
    subst (EndedTo stood left f s 0 (length all) []) (sym is) (record {
      count = omega arith;
      ended = λ w world. refl;
      others = λ w world i one at. heard_all stood left f s w all i one h world (heard w world) at ∙ ap (λ (n : ℕ). replies_in (played_in f w n)) (let e : i ≡ 0 + i = omega arith in e);
    })

pub processes_next : {P S : Type 0} (stood : Stood S) (left : Left S) (f : Frame) (s : Parts P S) (process next all : ℕ) (ends more : List ProcessEnd) (rest left_over : List (List Reply)) (one : List Reply) (end : ProcessEnd) → suc process ≡ next
    → rest ≡ one ∷ left_over → ((w : World) → IsWorld stood left f s w → on_process_end end ≡ process_end f w process) → more ≡ ends ++ end ∷ [] → EndedTo stood left f s process all ends rest → EndedTo stood left f s next all more left_over
processes_next {P} {S} stood left f s process next all ends more rest left_over one end up first ended pushed h =
    subst (λ (n : ℕ). EndedTo stood left f s n all more left_over) up
    (subst (λ (l : List ProcessEnd). EndedTo stood left f s (suc process) all l left_over) (sym pushed) (record {
      count = omega (arith, h.count, ap length first);
      ended = λ w world. map-append on_process_end ends (end ∷ []) ∙ ap (λ (l : List facts.ProcessEnd). l ++ on_process_end end ∷ []) (h.ended w world) ∙ ap (λ (e : facts.ProcessEnd). listed process (process_end f w) ++ e ∷ []) (ended w world);
      others = λ w world i heard at.
          h.others w world (suc i) heard (ap (λ (l : List (List Reply)). slice_get l (suc i)) first ∙ at) ∙ ap (λ (n : ℕ). replies_in (played_in f w n)) (let e : process + suc i ≡ suc process + i = omega arith in e);
    }))

-- the replies of the next one
pub replies_there : {P S : Type 0} (stood : Stood S) (left : Left S) (f : Frame) (s : Parts P S) (w : World) (process all : ℕ) (ends : List ProcessEnd) (rest left_over : List (List Reply)) (one : List Reply) → IsWorld stood left f s w → rest ≡ one ∷ left_over
    → EndedTo stood left f s process all ends rest → one ≡ replies_in (played_in f w process)
replies_there {P} {S} stood left f s w process all ends rest left_over one world first h =
    h.others w world 0 one (ap (λ (l : List (List Reply)). slice_get l 0) first) ∙ ap (λ (n : ℕ). replies_in (played_in f w n)) (let e : process + 0 ≡ process = omega arith in e)

pub processes_over : {P S : Type 0} (stood : Stood S) (left : Left S) (f : Frame) (s : Parts P S) (w : World) (process : ℕ) (all rest : List (List Reply)) (ends : List ProcessEnd) → IsWorld stood left f s w → HasHeard f w (Book f w) all → rest ≡ []
    → EndedTo stood left f s process (length all) ends rest → AreProcessEnds f w ends
processes_over stood left f s w process all rest ends world heard none h =
    h.ended w world ∙ ap (λ (n : ℕ). listed n (process_end f w)) (let e : process ≡ process_count f w = omega (arith, h.count, ap length none, heard.count) in e)
