-- What an event adds to what was performed, in order, is what is new.
use Rattle.std.proofs.Common.{◌≡◌, ◌<◌, ◌≤◌, ◌+◌, ◌-◌, ◌&&◌, ◌⊎◌, inl, inr, max, ℕ, zero, suc, Bool, true, false, if◌then◌else◌, List, [], ◌∷◌, ◌++◌, All, length, length-append, length-drop, append_assoc, append-nil, take, drop, Option, None, Some, refl, sym, ap, ◌∙◌, subst, arith}
use Rattle.std.specs.Prelude.{nat_lt, slice_get}
use Rattle.std.proofs.lemmas.Bool.{and_parts, cases_eq, cases_lt, ltb-true, ne_eqb}
use Rattle.std.proofs.lemmas.List.Elements.{All-head, All-tail}
use Rattle.std.proofs.lemmas.Option.{slice_get_within}
use Rattle.value_core.specs.declared.action.Line.{Line}
use Rattle.value_core.specs.declared.message.Message.{Message}
use Rattle.book_law.specs.Book.{aside_at}
use Rattle.book_law.specs.Performed.{placed}
use Rattle.book_law.specs.declared.placing.Placed.{Placed}
use Rattle.book_law.proofs.Books.{placed_here, placed_there}
use Rattle.book_law.proofs.Courses.{at_other, at_own}
use Rattle.group_rules.specs.Member.{Member}
use Rattle.orca_base.specs.declared.ids.ProcessNo.{ProcessNo}
use Rattle.net_rules.specs.declared.flight.Flight.{Flight}
use Rattle.net_rules.specs.Flights.{ready_copy}
use Rattle.world_rules.specs.declared.event.Event as world
use Rattle.world_rules.specs.declared.event.Event.TheVariants as event
use Rattle.world_rules.specs.Frame.{Frame}
use Rattle.world_rules.specs.Mail.{Carried, is_whole, receiver_of}
use Rattle.world_rules.specs.Nodes.{Node, NodeWork, aside_of, does, idle}
use Rattle.world_rules.specs.Nodes.Deed.{Performs}
use Rattle.world_rules.specs.Parts.{acts, computes, performs_all, receives, suspects, ticks}
use Rattle.world_rules.specs.Steps.{AtWork, Burst, Known as Given, Possible, bursts, comes_whole, does_part, happens, lives_in, untouched}
use Rattle.world_rules.specs.Worlds.{World, agreed, applied_at, home_of, longer_of, longest}
use Rattle.world_law.specs.Gives.{taken_from as taken}
use Rattle.world_law.proofs.Homes.{home_low}
use Rattle.world_law.proofs.Walking.{performed_node}
use Rattle.node_rules.specs.Starts.{Start, part}
use Rattle.node_rules.specs.Starts.Start.{Acts, Comes, Ticks, Suspects}
use Rattle.world_calls.specs.Law.{ticking}
use Rattle.run_law.specs.Growing.{IsNew, ListGrows, TellsPart, adds, come_adds, event_adds, lines_at, placed_from, tick_adds, tick_knows}
use Rattle.node_rules.specs.Entries.{told_lines}
use Rattle.run_law.specs.Parts.{InParts, TicksApart}
use Rattle.run_law.proofs.Growing.{agreed_same, aside_append}
use Rattle.run_law.proofs.Ticking.{ticks_apart}

-- ---- lines at places

at_one : (n : ℕ) (lines : List Line) → aside_at n (placed n lines) ≡ lines
at_one n lines = placed_here n [] lines

at_none : (n k : ℕ) (lines : List Line) → (n ≡ k → ⊥) → aside_at k (placed n lines) ≡ []
at_none n k lines apart = placed_there n k [] lines apart

-- the places of groups begin behind n, and there are as many as groups
from_low : (p n : ℕ) (groups : List (List Line)) → p ≤ n → aside_at p (placed_from n groups) ≡ []
from_low p n [] le = refl
from_low p n (g ∷ groups) le =
    aside_append p (placed (suc n) g) (placed_from (suc n) groups)
    ∙ ap (λ (ls : List Line). ls ++ aside_at p (placed_from (suc n) groups)) (at_none (suc n) p g (λ e. omega (arith, e, le)))
    ∙ from_low p (suc n) groups (omega (arith, le))

from_high : (p n : ℕ) (groups : List (List Line)) → n + length groups < p → aside_at p (placed_from n groups) ≡ []
from_high p n [] lt = refl
from_high p n (g ∷ groups) lt =
    aside_append p (placed (suc n) g) (placed_from (suc n) groups)
    ∙ ap (λ (ls : List Line). ls ++ aside_at p (placed_from (suc n) groups)) (at_none (suc n) p g (λ e. omega (arith, e, lt)))
    ∙ from_high p (suc n) groups (omega (arith, lt))

from_at : (p n k : ℕ) (groups : List (List Line)) (g : List Line) → p ≡ suc (n + k) → slice_get groups k ≡ Some g → aside_at p (placed_from n groups) ≡ g
from_at p n k [] g e there = absurd (cc there)
from_at p n zero (h ∷ groups) g e there =
    let same : h ≡ g = cc there in
    let at : suc n ≡ p = omega (arith, e) in
    aside_append p (placed (suc n) h) (placed_from (suc n) groups)
    ∙ ap (λ (ls : List Line). ls ++ aside_at p (placed_from (suc n) groups)) (subst (λ (j : ℕ). aside_at j (placed (suc n) h) ≡ h) at (at_one (suc n) h))
    ∙ ap (λ (ls : List Line). h ++ ls) (from_low p (suc n) groups (omega (arith, at))) ∙ append-nil h ∙ same
from_at p n (suc k) (h ∷ groups) g e there =
    aside_append p (placed (suc n) h) (placed_from (suc n) groups)
    ∙ ap (λ (ls : List Line). ls ++ aside_at p (placed_from (suc n) groups)) (at_none (suc n) p h (λ same. omega (arith, same, e)))
    ∙ from_at p (suc n) k groups g (omega (arith, e)) there

get_dropped : {A : Type 0} (j k : ℕ) (xs : List A) → slice_get (drop j xs) k ≡ slice_get xs (j + k)
get_dropped zero k xs = let e : k ≡ 0 + k = omega arith in ap (slice_get xs) e
get_dropped (suc j) k [] = refl
get_dropped (suc j) k (x ∷ xs) = let e : suc (j + k) ≡ suc j + k = omega arith in get_dropped j k xs ∙ ap (slice_get (x ∷ xs)) e

-- nothing beside the list has a place behind this one
beside_none : (p n : ℕ) (aside : List Placed) → All (λ (r : Placed). r.place ≤ n) aside → n < p → aside_at p aside ≡ []
beside_none p n [] all lt = refl
beside_none p n (r ∷ aside) all lt =
    let le = All-head (λ (a : Placed). a.place ≤ n) r aside all in
    ap (λ (b : Bool). if b then r.line ∷ aside_at p aside else aside_at p aside) (ne_eqb r.place p (λ e. omega (arith, e, le, lt)))
    ∙ beside_none p n aside (All-tail (λ (a : Placed). a.place ≤ n) r aside all) lt

-- ---- so far

-- from w on, where so many entries are known, this was added, of which that stands beside the list
record AddsSo (f : Frame) (w u : World) (known : ℕ) (more beside : List Placed) : Type 0 where
  least : length (agreed f w) ≤ known
  most : known ≤ length (agreed f u)
  old : (n : ℕ) → n ≤ length (agreed f w) → aside_at n more ≡ aside_at n beside
  entries :
      (n : ℕ) (x : Message) → length (agreed f w) ≤ n → n < known → slice_get (agreed f u) n ≡ Some x →
      aside_at (suc n) more ≡ lines_at f u n x ++ aside_at (suc n) beside
  above : (n : ℕ) → known < n → (aside_at n more ≡ []) × (aside_at n beside ≡ [])

none_added : (f : Frame) (w u : World) → length (agreed f w) ≤ length (agreed f u) → AddsSo f w u (length (agreed f w)) [] []
none_added f w u le = record {
  least = omega arith;
  most = le;
  old = λ n low. refl;
  entries = λ n x low lt there. absurd (omega (arith, low, lt));
  above = λ n lt. (refl, refl);
}

-- what a part tells, which applied from a to b
record Part (f : Frame) (u : World) (a b : ℕ) (told : List (List Line)) (aside : List Placed) : Type 0 where
  count : a + length told ≡ b
  within : b ≤ length (agreed f u)
  lines : (k : ℕ) (x : Message) → k < length told → slice_get (agreed f u) (a + k) ≡ Some x → slice_get told k ≡ Some (lines_at f u (a + k) x)
  beside : All (λ (r : Placed). r.place ≤ b) aside

part_added : (f : Frame) (w u : World) (known a b : ℕ) (more beside aside : List Placed) (told : List (List Line)) → a ≤ length (agreed f w) → AddsSo f w u known more beside → Part f u a b told aside
    → AddsSo f w u (max known b) (more ++ (placed_from known (drop (known - a) told) ++ aside)) (beside ++ aside)
part_added f w u known a b more beside aside told low h p = record {
  least = let le = h.least in omega (arith, le);
  most = let le = h.most in let lt = p.within in omega (arith, le, lt);
  old = λ n le. both n ∙ ap (λ (ls : List Line). aside_at n more ++ (ls ++ aside_at n aside)) (from_low n known new (let l = h.least in omega (arith, l, le)))
      ∙ ap (λ (ls : List Line). ls ++ aside_at n aside) (h.old n le) ∙ sym (rest n);
  entries = λ n x le lt there. entry n x le lt there (cases_lt n known);
  above = λ n lt. (
    both n
        ∙ ap (λ (ls : List Line). ls ++ (aside_at n (placed_from known new) ++ aside_at n aside)) ((h.above n (omega (arith, lt))).0)
        ∙ ap (λ (ls : List Line). ls ++ aside_at n aside) (from_high n known new (high n lt))
        ∙ beside_none n b aside p.beside (omega (arith, lt)),
    rest n ∙ ap (λ (ls : List Line). ls ++ aside_at n aside) ((h.above n (omega (arith, lt))).1) ∙ beside_none n b aside p.beside (omega (arith, lt)),
  );
}
  where
    new : List (List Line)
    new = drop (known - a) told

    many : length new ≡ length told - (known - a)
    many = length-drop (known - a) told

    high : (n : ℕ) → max known b < n → known + length new < n
    high n lt = let count = p.count in let l = h.least in let e = many in omega (arith, lt, count, l, low, e)

    both : (n : ℕ) → aside_at n (more ++ (placed_from known new ++ aside)) ≡ aside_at n more ++ (aside_at n (placed_from known new) ++ aside_at n aside)
    both n = aside_append n more (placed_from known new ++ aside) ∙ ap (λ (ls : List Line). aside_at n more ++ ls) (aside_append n (placed_from known new) aside)

    rest : (n : ℕ) → aside_at n (beside ++ aside) ≡ aside_at n beside ++ aside_at n aside
    rest n = aside_append n beside aside

    entry : (n : ℕ) (x : Message) → length (agreed f w) ≤ n → n < max known b → slice_get (agreed f u) n ≡ Some x → (n < known) ⊎ (known ≤ n)
        → aside_at (suc n) (more ++ (placed_from known new ++ aside)) ≡ lines_at f u n x ++ aside_at (suc n) (beside ++ aside)
    entry n x le lt there (inl less) =
        both (suc n)
        ∙ ap (λ (ls : List Line). aside_at (suc n) more ++ (ls ++ aside_at (suc n) aside)) (from_low (suc n) known new (omega (arith, less)))
        ∙ ap (λ (ls : List Line). ls ++ aside_at (suc n) aside) (h.entries n x le less there)
        ∙ append_assoc (lines_at f u n x) (aside_at (suc n) beside) (aside_at (suc n) aside)
        ∙ ap (λ (ls : List Line). lines_at f u n x ++ ls) (sym (rest (suc n)))
    entry n x le lt there (inr past) =
        both (suc n)
        ∙ ap (λ (ls : List Line). ls ++ (aside_at (suc n) (placed_from known new) ++ aside_at (suc n) aside)) ((h.above (suc n) (omega (arith, past))).0)
        ∙ ap (λ (ls : List Line). ls ++ aside_at (suc n) aside) (from_at (suc n) known (n - known) new (lines_at f u n x) (omega (arith, past)) found)
        ∙ ap (λ (ls : List Line). lines_at f u n x ++ ls)
        (sym (rest (suc n) ∙ ap (λ (ls : List Line). ls ++ aside_at (suc n) aside) ((h.above (suc n) (omega (arith, past))).1)))
      where
        k : ℕ
        k = n - a

        at : a + k ≡ n
        at = omega (arith, low, le)

        short : k < length told
        short = let count = p.count in let e = at in omega (arith, count, e, lt, past)

        place : (known - a) + (n - known) ≡ k
        place = let l = h.least in omega (arith, l, low, past)

        found : slice_get new (n - known) ≡ Some (lines_at f u n x)
        found =
            get_dropped (known - a) (n - known) told ∙ ap (slice_get told) place
            ∙ subst (λ (j : ℕ). slice_get (agreed f u) j ≡ Some x → slice_get told k ≡ Some (lines_at f u j x)) at (p.lines k x short) there

-- ---- at the end

-- it is what is new, once all entries are known
new_of : (f : Frame) (w u : World) (known : ℕ) (more beside : List Placed) → u.aside ≡ w.aside ++ beside → length (agreed f u) ≤ known → AddsSo f w u known more beside → IsNew f w u more
new_of f w u known more beside grew all h = record {
  beside = beside;
  grew = grew;
  old = h.old;
  entries = λ n x le there. h.entries n x le (let lt = slice_get_within (agreed f u) n x there in omega (arith, lt, all)) there;
  above = λ n lt. (h.above n (let le = h.most in omega (arith, lt, le))).0;
}

-- ---- events

-- what leaves the members and what stands beside the list adds nothing
none_new : (f : Frame) (w u : World) → u.nodes ≡ w.nodes → u.aside ≡ w.aside → IsNew f w u []
none_new f w u nodes aside = record {
  beside = [];
  grew = aside ∙ sym (append-nil w.aside);
  old = λ n le. refl;
  entries = λ n x le there. absurd (let lt = slice_get_within (agreed f u) n x there in omega (arith, lt, le, same));
  above = λ n lt. refl;
}
  where
    same : length (agreed f u) ≡ length (agreed f w)
    same = ap (λ (l : List Message). length l) (agreed_same f w u nodes)

-- with the same members in the group the list is the same
longest_members : (n : ℕ) (w v : World) → ((m : ℕ) → (v.nodes m).member ≡ (w.nodes m).member) → longest n v ≡ longest n w
longest_members zero w v same = refl
longest_members (suc m) w v same =
    ap (λ (xs : List Message). longer_of xs (applied_at v m)) (longest_members m w v same)
    ∙ ap (λ (s : Member Message). longer_of (longest m w) (take s.applied s.log)) (same m)

-- the reads of a burst
reads_beside : (place : ℕ) (lines : List Line) (v : NodeWork) → aside_of (performs_all place lines v).deeds ≡ aside_of v.deeds ++ placed place lines
reads_beside place [] v = sym (append-nil (aside_of v.deeds))
reads_beside place (l ∷ lines) v =
    let r : Placed = record { place = place; line = l } in
    reads_beside place lines (does (Performs r) v) ∙ append_assoc (aside_of v.deeds) (r ∷ []) (placed place lines)

module _ (f : Frame) (w : World) (low_start : (m : ℕ) → (w.nodes m).copies.applied ≤ length (agreed f w)) where
  module _ (u : World) (grows : ListGrows f w u) where
    longer : length (agreed f w) ≤ length (agreed f u)
    longer =
        let e : length (agreed f u) ≡ length (agreed f w ++ grows.more) = ap (λ (l : List Message). length l) grows.grew in
        let long = length-append (agreed f w) grows.more in
        omega (arith, e, long)

    told_so : (m : ℕ) (start : Start) → m < f.settings.nodes → TellsPart f w u m start
        → Part f u (w.nodes m).copies.applied (part f m start (w.nodes m)).node.copies.applied (told_lines (part f m start (w.nodes m)).deeds) (aside_of (part f m start (w.nodes m)).deeds)
    told_so m start low t = record {
      count = t.count ∙ same;
      within = subst (λ (n : ℕ). n ≤ length (agreed f u)) same (grows.within m low);
      lines = t.lines;
      beside = subst (λ (n : ℕ). All (λ (r : Placed). r.place ≤ n) (aside_of (part f m start (w.nodes m)).deeds)) same t.beside;
    }
      where
        same : (u.nodes m).copies.applied ≡ (part f m start (w.nodes m)).node.copies.applied
        same = ap (λ (n : Node). n.copies.applied) t.node

    all_known : (known : ℕ) → ((m : ℕ) → m < f.settings.nodes → (u.nodes m).copies.applied ≤ known) → length (agreed f u) ≤ known
    all_known known each = let le = each grows.some.0 grows.some.1 in let e = grows.some.2 in omega (arith, le, e)

    -- where one member alone does a part
    one_new : (k : ℕ) (start : Start) → k < f.settings.nodes → TellsPart f w u k start → ((m : ℕ) → (m ≡ k → ⊥) → u.nodes m ≡ w.nodes m) → u.aside ≡ w.aside ++ aside_of (part f k start (w.nodes k)).deeds
        → IsNew f w u (adds f w (length (agreed f w)) k start)
    one_new k start low t others grew =
        new_of f w u (max (length (agreed f w)) b) _ (aside_of (part f k start (w.nodes k)).deeds) grew (all_known (max (length (agreed f w)) b) (λ m less. each m (cases_eq m k)))
        (part_added f w u (length (agreed f w)) (w.nodes k).copies.applied b [] [] (aside_of (part f k start (w.nodes k)).deeds) (told_lines (part f k start (w.nodes k)).deeds) (low_start k)
        (none_added f w u longer) (told_so k start low t))
      where
        b : ℕ
        b = (part f k start (w.nodes k)).node.copies.applied

        each : (m : ℕ) → (m ≡ k) ⊎ (m ≡ k → ⊥) → (u.nodes m).copies.applied ≤ max (length (agreed f w)) b
        each m (inl e) =
            let same : (u.nodes k).copies.applied ≡ b = ap (λ (n : Node). n.copies.applied) t.node in
            subst (λ (j : ℕ). (u.nodes j).copies.applied ≤ max (length (agreed f w)) b) (sym e) (omega (arith, same))
        each m (inr apart) =
            let same = ap (λ (n : Node). n.copies.applied) (others m apart) in
            let le = low_start m in
            omega (arith, same, le)

  -- ---- a copy that comes

  came_new : (number copy : ℕ) (o : Option (Flight Carried)) → ready_copy number copy w.flights ≡ o → ListGrows f w (comes_whole f (taken w number copy) o).world
      → InParts f w (TellsPart f w (comes_whole f (taken w number copy) o).world) (event.Deliver number copy) → IsNew f w (comes_whole f (taken w number copy) o).world (come_adds f w o)
  came_new number copy None found grows parts = none_new f w (taken w number copy) refl refl
  came_new number copy (Some flight) found grows parts = go (is_whole f.settings.nodes flight.packet) (lives_in f w k) refl refl grows (λ whole lives. parts flight found whole lives)
    where
      k : ℕ
      k = receiver_of flight.packet.mail

      left : Bool → Bool → World
      left a b =
          (if a then (if b then does_part f k (receives f k flight.packet.mail) (untouched (taken w number copy)) else untouched (taken w number copy))
          else untouched (taken w number copy)).world

      go : (a b : Bool) → is_whole f.settings.nodes flight.packet ≡ a → lives_in f w k ≡ b → ListGrows f w (left a b)
          → (is_whole f.settings.nodes flight.packet ≡ true → lives_in f w k ≡ true → TellsPart f w (left a b) k (Comes flight.packet.mail))
          → IsNew f w (left a b) (if a && b then adds f w (length (agreed f w)) k (Comes flight.packet.mail) else [])
      go true true whole lives grows says =
          one_new (left true true) grows k (Comes flight.packet.mail) (ltb-true k f.settings.nodes (and_parts (nat_lt k f.settings.nodes) (w.lives k) lives).0) (says whole lives)
          (λ m apart. at_other w.nodes k (receives f k flight.packet.mail (w.nodes k)).node m apart) refl
      go true false whole lives grows says = none_new f w (left true false) refl refl
      go false b whole lives grows says = none_new f w (left false b) refl refl

  -- ---- a tick

  abbrev tick_beside : ℕ → List Placed
  tick_beside zero = []
  tick_beside (suc m) = if w.lives m then tick_beside m ++ aside_of (part f m Ticks (w.nodes m)).deeds else tick_beside m

  tick_grew : (n : ℕ) → (ticking f w n).world.aside ≡ w.aside ++ tick_beside n
  tick_grew zero = sym (append-nil w.aside)
  tick_grew (suc m) = one (v.world.lives m) ∙ ap (λ (t : Bool). if t then v.world.aside ++ aside_of (part f m Ticks (v.world.nodes m)).deeds else v.world.aside) (ap (λ l. l m) h.lives)
      ∙ same (w.lives m) (tick_grew m)
    where
      v : AtWork
      v = ticking f w m

      h : TicksApart f w m
      h = ticks_apart f w m

      one : (t : Bool) → (if t then does_part f m (ticks f m) v else v).world.aside ≡ (if t then v.world.aside ++ aside_of (part f m Ticks (v.world.nodes m)).deeds else v.world.aside)
      one true = refl
      one false = refl

      same : (t : Bool) → v.world.aside ≡ w.aside ++ tick_beside m
          → (if t then v.world.aside ++ aside_of (part f m Ticks (v.world.nodes m)).deeds else v.world.aside) ≡ w.aside ++ (if t then tick_beside m ++ aside_of (part f m Ticks (w.nodes m)).deeds else tick_beside m)
      same true is =
          ap (λ (n : Node). v.world.aside ++ aside_of (part f m Ticks n).deeds) (h.others m (omega arith))
          ∙ ap (λ (rs : List Placed). rs ++ aside_of (part f m Ticks (w.nodes m)).deeds) is
          ∙ append_assoc w.aside (tick_beside m) (aside_of (part f m Ticks (w.nodes m)).deeds)
      same false is = is

  -- each living member's number is known once it ticked
  tick_high : (n m : ℕ) → m < n → w.lives m ≡ true → (part f m Ticks (w.nodes m)).node.copies.applied ≤ tick_knows f w n
  tick_high zero m lt lives = absurd (omega (arith, lt))
  tick_high (suc n) m lt lives = go (cases_eq m n) (λ less. tick_high n m less lives)
    where
      next : ℕ
      next = (part f n Ticks (w.nodes n)).node.copies.applied

      up : (t : Bool) → tick_knows f w n ≤ (if t then max (tick_knows f w n) next else tick_knows f w n)
      up true = omega arith
      up false = omega arith

      own : (t : Bool) → t ≡ true → next ≤ (if t then max (tick_knows f w n) next else tick_knows f w n)
      own true is = omega arith
      own false is = absurd (cc is)

      go : (m ≡ n) ⊎ (m ≡ n → ⊥) → (m < n → (part f m Ticks (w.nodes m)).node.copies.applied ≤ tick_knows f w n) → (part f m Ticks (w.nodes m)).node.copies.applied ≤ tick_knows f w (suc n)
      go (inl e) before = subst (λ (j : ℕ). (part f j Ticks (w.nodes j)).node.copies.applied ≤ tick_knows f w (suc n)) (sym e) (own (w.lives n) (ap w.lives (sym e) ∙ lives))
      go (inr apart) before = let le = before (omega (arith, lt, apart)) in let rise = up (w.lives n) in omega (arith, le, rise)

  tick_least : (n : ℕ) → length (agreed f w) ≤ tick_knows f w n
  tick_least zero = omega arith
  tick_least (suc n) = go (w.lives n) (tick_least n)
    where
      go : (t : Bool) → length (agreed f w) ≤ tick_knows f w n → length (agreed f w) ≤ (if t then max (tick_knows f w n) (part f n Ticks (w.nodes n)).node.copies.applied else tick_knows f w n)
      go true le = omega (arith, le)
      go false le = le

  tick_so : (u : World) (grows : ListGrows f w u) → ((m : ℕ) → m < f.settings.nodes → w.lives m ≡ true → TellsPart f w u m Ticks) → (n : ℕ) → n ≤ f.settings.nodes
      → AddsSo f w u (tick_knows f w n) (tick_adds f w n) (tick_beside n)
  tick_so u grows parts zero le = none_added f w u (longer u grows)
  tick_so u grows parts (suc m) le = go (w.lives m) refl (tick_so u grows parts m (omega (arith, le)))
    where
      b : ℕ
      b = (part f m Ticks (w.nodes m)).node.copies.applied

      go : (t : Bool) → w.lives m ≡ t → AddsSo f w u (tick_knows f w m) (tick_adds f w m) (tick_beside m)
          → AddsSo f w u (if t then max (tick_knows f w m) b else tick_knows f w m) (if t then tick_adds f w m ++ adds f w (tick_knows f w m) m Ticks else tick_adds f w m)
          (if t then tick_beside m ++ aside_of (part f m Ticks (w.nodes m)).deeds else tick_beside m)
      go true lives h =
          part_added f w u (tick_knows f w m) (w.nodes m).copies.applied b (tick_adds f w m) (tick_beside m) (aside_of (part f m Ticks (w.nodes m)).deeds) (told_lines (part f m Ticks (w.nodes m)).deeds)
          (low_start m) h (told_so u grows m Ticks (omega (arith, le)) (parts m (omega (arith, le)) lives))
      go false lives h = h

  tick_new : (u : World) → u ≡ (ticking f w f.settings.nodes).world → ListGrows f w u → ((m : ℕ) → m < f.settings.nodes → w.lives m ≡ true → TellsPart f w u m Ticks) → IsNew f w u (tick_adds f w f.settings.nodes)
  tick_new u is grows parts =
      new_of f w u (tick_knows f w n) (tick_adds f w n) (tick_beside n) (ap (λ (z : World). z.aside) is ∙ tick_grew n)
      (all_known u grows (tick_knows f w n) (λ m low. each m low (w.lives m) refl)) (tick_so u grows parts n (omega arith))
    where
      n : ℕ
      n = f.settings.nodes

      h : TicksApart f w n
      h = ticks_apart f w n

      each : (m : ℕ) → m < n → (t : Bool) → w.lives m ≡ t → (u.nodes m).copies.applied ≤ tick_knows f w n
      each m low true lives =
          let same : (u.nodes m).copies.applied ≡ (part f m Ticks (w.nodes m)).node.copies.applied = ap (λ (z : Node). z.copies.applied) (let t = parts m low lives in t.node) in
          let le = tick_high n m low lives in
          omega (arith, same, le)
      each m low false lives =
          let same : u.nodes m ≡ w.nodes m =
          ap (λ (z : World). z.nodes m) is ∙ h.ticked m low ∙ ap (λ (t : Bool). if t then (part f m Ticks (w.nodes m)).node else w.nodes m) lives in
          let e = ap (λ (z : Node). z.copies.applied) same in
          let le = low_start m in
          let least = tick_least n in
          omega (arith, e, le, least)

  -- ---- a burst

  burst_new : (i : ProcessNo) (place turns : ℕ) (burst : Burst) → place ≤ length (agreed f w) → IsNew f w (bursts f w i place burst).world (placed place burst.reads)
  burst_new i place turns burst low = record {
    beside = placed place burst.reads;
    grew = ap (λ (rs : List Placed). w.aside ++ rs) (reads_beside place burst.reads (idle (w.nodes k)));
    old = λ n le. refl;
    entries = λ n x le there. absurd (let lt = slice_get_within (agreed f u) n x there in omega (arith, lt, le, same));
    above = λ n lt. at_none place n burst.reads (λ e. omega (arith, e, low, lt, same));
  }
    where
      k : ℕ
      k = home_of f w i.0

      u : World
      u = (bursts f w i place burst).world

      v : NodeWork
      v = computes i.0 place burst.reads burst.end (w.nodes k)

      members : (m : ℕ) → (u.nodes m).member ≡ (w.nodes m).member
      members m = go (cases_eq m k)
        where
          own : (u.nodes k).member ≡ (w.nodes k).member
          own = ap (λ (n : Node). n.member) (at_own w.nodes k v.node) ∙ ap (λ (n : Node). n.member) (performed_node place burst.reads (idle (w.nodes k)))

          go : (m ≡ k) ⊎ (m ≡ k → ⊥) → (u.nodes m).member ≡ (w.nodes m).member
          go (inl e) = subst (λ (j : ℕ). (u.nodes j).member ≡ (w.nodes j).member) (sym e) own
          go (inr apart) = ap (λ (n : Node). n.member) (at_other w.nodes k v.node m apart)

      same : length (agreed f u) ≡ length (agreed f w)
      same = ap (λ (l : List Message). length l) (longest_members f.settings.nodes w u members)

  -- ---- each event

  pub event_new : (e : world.Event) (given : Given e) → 0 < f.settings.nodes → Possible f w e given → ((m : ℕ) → (w.nodes m).member.applied ≤ length (agreed f w)) → ListGrows f w (happens f w e given).world
      → InParts f w (TellsPart f w (happens f w e given).world) e → IsNew f w (happens f w e given).world (event_adds f w e given)
  event_new (event.Act process) given some possible noted grows parts =
      let k : ℕ = home_of f w process.0 in
      one_new (happens f w (event.Act process) given).world grows k (Acts process.0) (home_low f w process.0 some) parts
      (λ m apart. at_other w.nodes k (acts f k process.0 (w.nodes k)).node m apart) refl
  event_new (event.Deliver number copy) given some possible noted grows parts = came_new number copy (ready_copy number copy w.flights) refl grows parts
  event_new event.Tick given some possible noted grows parts = tick_new (happens f w event.Tick given).world refl grows parts
  event_new (event.Suspect node) given some possible noted grows parts =
      one_new (happens f w (event.Suspect node) given).world grows node Suspects (ltb-true node f.settings.nodes (and_parts (nat_lt node f.settings.nodes) (w.lives node) possible).0) parts
      (λ m apart. at_other w.nodes node (suspects f node (w.nodes node)).node m apart) refl
  event_new (event.Burst process place turns) burst some possible noted grows parts =
      burst_new process place turns burst (let before = possible.before in let le = noted (home_of f w process.0) in omega (arith, before, le))
  event_new (event.Crash node) given some possible noted grows parts = none_new f w (happens f w (event.Crash node) given).world refl refl
  event_new event.Swap given some possible noted grows parts = none_new f w (happens f w event.Swap given).world refl refl
