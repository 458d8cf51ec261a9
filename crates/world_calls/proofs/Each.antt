-- At each moment a course stands for the world by every test that agrees with its list, so that there is always one.
use Rattle.std.proofs.Common.{◌≡◌, ◌≤◌, ◌<◌, ◌⊎◌, inl, inr, ◌+◌, ℕ, suc, Bool, true, false, nat_lt, List, [], ◌∷◌, ◌++◌, length, Some, refl, sym, ap, ◌∙◌, subst, arith, take, append-nil, length-append, if◌then◌else◌}
use Rattle.std.specs.Prelude.{slice_get}
use Rattle.std.proofs.lemmas.Bool.{cases_eq, cases_lt}
use Rattle.std.proofs.lemmas.List.{take-take, take_all}
use Rattle.value_core.specs.declared.message.Message.{Message}
use Rattle.object_manager.specs.After.{Copied}
use Rattle.group_rules.specs.Member.{Member}
use Rattle.group_rules.specs.Steps.{note}
use Rattle.book_law.specs.Course.{Course}
use Rattle.book_law.specs.Passes.{Test}
use Rattle.book_law.proofs.Books.{take_at}
use Rattle.book_law.proofs.Courses.{at_other}
use Rattle.world_rules.specs.Applying.{notes, tries_read}
use Rattle.world_rules.specs.Frame.{Frame, group}
use Rattle.world_rules.specs.Nodes.{Node, NodeWork, entries_of, joins}
use Rattle.world_rules.specs.Owners.{takes}
use Rattle.world_rules.specs.Parts.{asks_again_of}
use Rattle.world_rules.specs.Processes.{processes_in, singles_of}
use Rattle.world_rules.specs.Worlds.{World}
use Rattle.world_law.specs.Moments.{IsMoment, LeadsOn}
use Rattle.world_law.proofs.Still.{Still, still_again_of, still_read, still_takes}
use Rattle.world_course.specs.Corresponds.{Agrees, Corresponds, IsMember, Stands}
use Rattle.world_course.specs.Errands.{Follows}
use Rattle.world_course.specs.Group.{IsAccepted}
use Rattle.world_course.specs.Works.{at_work}
use Rattle.world_course.proofs.Asked.{member_here}
use Rattle.world_course.proofs.Entry.{agrees_take}
use Rattle.world_course.proofs.Listing.{is_listed, within_list}
use Rattle.world_course.proofs.Tries.{node_at}
use Rattle.node_rules.specs.Conditions.{Fitness}
use Rattle.node_rules.specs.Moments.{Goes, IsDue, Moment, Walks}
use Rattle.node_rules.specs.Moments.Goes.{Takes_entry, Tries_read, Notes, Opens, Takes, Holds, Asks_again}
use Rattle.world_calls.proofs.Going.{At, Gone, Known, agreed_at, entry_entries, entry_number, goes}

-- ---- what a piece does to the applied entries

data Moved (u v : NodeWork) : Type 0 where
  Stood : v.node.copies.applied ≡ u.node.copies.applied → entries_of v.node ≡ entries_of u.node → Moved u v
  Took :
      (x : Message) → IsDue u.node x → v.node.copies.applied ≡ suc u.node.copies.applied → entries_of v.node ≡ take (suc u.node.copies.applied) u.node.member.log →
      Moved u v

still_moved : (f : Frame) (m : ℕ) (u v : NodeWork) → Still (group f) m u v → Moved u v
still_moved f m u v s = Stood s.applied (ap (λ (n : ℕ). take n v.node.member.log) s.applied ∙ ap (λ (z : Member Message). take u.node.copies.applied z.log) s.member)

notes_copies : (f : Frame) (m : ℕ) (v : NodeWork) → (notes f m v).node.copies ≡ v.node.copies
notes_copies f m v = go (nat_lt v.node.member.applied v.node.copies.applied)
  where
    go : (b : Bool) → (if b then joins (note (group f) m v.node.copies.applied v.node.member) v else v).node.copies ≡ v.node.copies
    go true = refl
    go false = refl

pub notes_keep : (f : Frame) (w : World) (m : ℕ) (v : NodeWork) → LeadsOn f w m v (notes f m v) → entries_of (notes f m v).node ≡ entries_of v.node
notes_keep f w m v l = ap (λ (k : Copied). take k.applied (notes f m v).node.member.log) (notes_copies f m v) ∙ l.kept

moved : (f : Frame) (fitness : Fitness) (w : World) (m : ℕ) (u v : Moment) → Known f fitness w m → IsMoment f w m u.work → Goes f m u v → Moved u.work v.work
moved f fitness w m u v known moment (Takes_entry x due within is) = subst (λ (z : Moment). Moved u.work z.work) (sym is) (Took x due (entry_number f m x u.work) (entry_entries f m x u.work))
moved f fitness w m u v known moment (Tries_read i is) = subst (λ (z : Moment). Moved u.work z.work) (sym is) (still_moved f m u.work (tries_read f i u.work) (still_read f (group f) m i u.work))
moved f fitness w m u v known moment (Notes is) =
    let g = known.group in
    subst (λ (z : Moment). Moved u.work z.work) (sym is) (Stood (ap (λ (k : Copied). k.applied) (notes_copies f m u.work)) (notes_keep f w m u.work (g.notes w m u.work known.lives moment)))
moved f fitness w m u v known moment (Opens none inside is) = subst (λ (z : Moment). Moved u.work z.work) (sym is) (Stood refl refl)
moved f fitness w m u v known moment (Takes e es hand reached is) = subst (λ (z : Moment). Moved u.work z.work) (sym is) (still_moved f m u.work (takes f m e u.work) (still_takes f (group f) m m e u.work))
moved f fitness w m u v known moment (Holds e es hand is) = subst (λ (z : Moment). Moved u.work z.work) (sym is) (Stood refl refl)
moved f fitness w m u v known moment (Asks_again i is) = subst (λ (z : Moment). Moved u.work z.work) (sym is) (still_moved f m u.work (asks_again_of f m i (u.work.node.played i) u.work) (still_again_of f (group f) m m i (u.work.node.played i) u.work))

-- ---- for each test

-- by a test, with this list
pub record AtList (f : Frame) (single : Test) (w : World) (m : ℕ) (list : List Message) (u : Moment) : Type 0 where
  pub at : At f single w m u
  pub is : at.course.list ≡ list

pub record AtEach (f : Frame) (w : World) (m : ℕ) (u : Moment) : Type 0 where
  pub list : List Message
  pub each : (single : Test) → Agrees f single list → AtList f single w m list u

-- the choices of the list itself
abbrev pub own : Frame → List Message → Test
own f list = singles_of f (processes_in f list)

pub self : (f : Frame) (w : World) (m : ℕ) (u : Moment) → (e : AtEach f w m u) → AtList f (own f e.list) w m e.list u
self f w m u e = e.each (own f e.list) (λ o lt. refl)

stands_of : (f : Frame) (single : Test) (w : World) (m : ℕ) (u : Moment) → (a : At f single w m u) → Stands f single (at_work f m w u.work) a.course
stands_of f single w m u a = let k = a.carries in let g = k.corresponds in g.stands

-- no member applied more
below : (f : Frame) (w : World) (m : ℕ) (u : Moment) → (e : AtEach f w m u) → (k : ℕ) → ((at_work f m w u.work).nodes k).copies.applied ≤ length e.list
below f w m u e k =
    let a = self f w m u e in
    let at = a.at in
    let le = within_list f (own f e.list) (at_work f m w u.work) at.course (stands_of f (own f e.list) w m u at) k in
    let same : length at.course.list ≡ length e.list = ap (λ (l : List Message). length l) a.is in
    omega (arith, le, same)

here_below : (f : Frame) (w : World) (m : ℕ) (u : Moment) → (e : AtEach f w m u) → u.work.node.copies.applied ≤ length e.list
here_below f w m u e = subst (λ (n : Node). n.copies.applied ≤ length e.list) (node_at f m w u.work) (below f w m u e m)

others_below : (f : Frame) (w : World) (m : ℕ) (u : Moment) → (e : AtEach f w m u) → (k : ℕ) → (k ≡ m → ⊥) → (w.nodes k).copies.applied ≤ length e.list
others_below f w m u e k apart = subst (λ (n : Node). n.copies.applied ≤ length e.list) (at_other w.nodes m u.work.node k apart) (below f w m u e k)

entries_begin : (f : Frame) (w : World) (m : ℕ) (u : Moment) → (e : AtEach f w m u) → entries_of u.work.node ≡ take u.work.node.copies.applied e.list
entries_begin f w m u e =
    let a = self f w m u e in
    let at = a.at in
    let mine = member_here f (own f e.list) w at.course m u.work (stands_of f (own f e.list) w m u at) in
    mine.entries ∙ ap (take u.work.node.copies.applied) a.is

-- ---- the list after a piece

none_more : (xs more : List Message) → length (xs ++ more) ≤ length xs → xs ++ more ≡ xs
none_more xs [] le = append-nil xs
none_more xs (y ∷ more) le = let e : length (xs ++ y ∷ more) ≡ length xs + length (y ∷ more) = length-append xs (y ∷ more) in absurd (omega (arith, le, e))

-- where no member applied more than it had, it stays
pub list_stays : (f : Frame) (single : Test) (w : World) (m : ℕ) (list : List Message) (v : Moment) → (g : Gone f single w m list v) → v.work.node.copies.applied ≤ length list → ((k : ℕ) → (k ≡ m → ⊥) → (w.nodes k).copies.applied ≤ length list)
    → AtList f single w m list v
list_stays f single w m list v g le others = record { at = at; is = g.grew ∙ none_more list g.more (go (cases_eq reached.0 m)) }
  where
    at : At f single w m v
    at = g.at

    corresponds : Corresponds f single (at_work f m w v.work) at.course
    corresponds = let k = at.carries in k.corresponds

    reached : (k : ℕ) × (length at.course.list ≤ ((at_work f m w v.work).nodes k).copies.applied)
    reached = corresponds.reached

    long : length at.course.list ≡ length (list ++ g.more)
    long = ap (λ (l : List Message). length l) g.grew

    go : (reached.0 ≡ m) ⊎ (reached.0 ≡ m → ⊥) → length (list ++ g.more) ≤ length list
    go (inl e) =
        let low : length at.course.list ≤ v.work.node.copies.applied =
        subst (λ (n : Node). length at.course.list ≤ n.copies.applied) (node_at f m w v.work) (subst (λ (k : ℕ). length at.course.list ≤ ((at_work f m w v.work).nodes k).copies.applied) e reached.1) in
        omega (arith, low, le, long)
    go (inr apart) =
        let low = reached.1 in
        let few = others reached.0 apart in
        let same : ((at_work f m w v.work).nodes reached.0).copies.applied ≡ (w.nodes reached.0).copies.applied = ap (λ (n : Node). n.copies.applied) (at_other w.nodes m v.work.node reached.0 apart) in
        omega (arith, low, few, same, long)

-- else it is what the member applied
list_takes : (f : Frame) (single : Test) (w : World) (m : ℕ) (list : List Message) (v : Moment) → (g : Gone f single w m list v) → length list < v.work.node.copies.applied → ((k : ℕ) → (k ≡ m → ⊥) → (w.nodes k).copies.applied ≤ length list)
    → AtList f single w m (entries_of v.work.node) v
list_takes f single w m list v g lt others = record { at = at; is = go (cases_eq reached.0 m) }
  where
    at : At f single w m v
    at = g.at

    corresponds : Corresponds f single (at_work f m w v.work) at.course
    corresponds = let k = at.carries in k.corresponds

    st : Stands f single (at_work f m w v.work) at.course
    st = corresponds.stands

    mine : IsMember f single at.course st.came m v.work.node
    mine = member_here f single w at.course m v.work st

    reached : (k : ℕ) × (length at.course.list ≤ ((at_work f m w v.work).nodes k).copies.applied)
    reached = corresponds.reached

    most : v.work.node.copies.applied ≤ length at.course.list
    most = subst (λ (n : Node). n.copies.applied ≤ length at.course.list) (node_at f m w v.work) (within_list f single (at_work f m w v.work) at.course st m)

    go : (reached.0 ≡ m) ⊎ (reached.0 ≡ m → ⊥) → at.course.list ≡ entries_of v.work.node
    go (inl e) =
        let low : length at.course.list ≤ v.work.node.copies.applied =
        subst (λ (n : Node). length at.course.list ≤ n.copies.applied) (node_at f m w v.work) (subst (λ (k : ℕ). length at.course.list ≤ ((at_work f m w v.work).nodes k).copies.applied) e reached.1) in
        sym (mine.entries ∙ take_all v.work.node.copies.applied at.course.list low)
    go (inr apart) =
        let low = reached.1 in
        let few = others reached.0 apart in
        let same : ((at_work f m w v.work).nodes reached.0).copies.applied ≡ (w.nodes reached.0).copies.applied = ap (λ (n : Node). n.copies.applied) (at_other w.nodes m v.work.node reached.0 apart) in
        absurd (omega (arith, low, few, same, most, lt))

-- ---- the next entry

-- the list has it already
is_next : (f : Frame) (fitness : Fitness) (w : World) (m : ℕ) (u : Moment) (x : Message) → Known f fitness w m → (e : AtEach f w m u) → IsDue u.work.node x → u.work.node.copies.applied < length e.list
    → take (suc u.work.node.copies.applied) u.work.node.member.log ≡ take (suc u.work.node.copies.applied) e.list
is_next f fitness w m u x known e due lt =
    take_at u.work.node.member.log u.work.node.copies.applied x due.there ∙ ap (λ (l : List Message). l ++ x ∷ []) (entries_begin f w m u e) ∙ sym (take_at e.list u.work.node.copies.applied x there)
  where
    a : AtList f (own f e.list) w m e.list u
    a = self f w m u e

    at : At f (own f e.list) w m u
    at = a.at

    now : World
    now = at_work f m w u.work

    corresponds : Corresponds f (own f e.list) now at.course
    corresponds = let k = at.carries in k.corresponds

    st : Stands f (own f e.list) now at.course
    st = corresponds.stands

    mine : IsMember f (own f e.list) at.course st.came m u.work.node
    mine = member_here f (own f e.list) w at.course m u.work st

    node_is : now.nodes m ≡ u.work.node
    node_is = node_at f m w u.work

    accepted : IsAccepted (now.nodes m) (now.nodes m).copies.applied x
    accepted = subst (λ (n : Node). IsAccepted n n.copies.applied x) (sym node_is) (record { accepted = due.accepted; there = due.there })

    low : (now.nodes m).copies.applied < length at.course.list
    low = subst (λ (n : Node). n.copies.applied < length at.course.list) (sym node_is) (subst (λ (l : List Message). u.work.node.copies.applied < length l) (sym a.is) lt)

    there : slice_get e.list u.work.node.copies.applied ≡ Some x
    there = ap (λ (l : List Message). slice_get l u.work.node.copies.applied) (sym a.is) ∙ ap (slice_get at.course.list) (sym mine.applied)
        ∙ is_listed f (own f e.list) now at.course m corresponds.reached.0 x st corresponds.reached.1 (agreed_at f fitness (own f e.list) w m u.work known at.moment) accepted low

-- or its list ends there
ends_there : (f : Frame) (w : World) (m : ℕ) (u : Moment) → (e : AtEach f w m u) → length e.list ≤ u.work.node.copies.applied → e.list ≡ take u.work.node.copies.applied (take (suc u.work.node.copies.applied) u.work.node.member.log)
ends_there f w m u e le =
    sym (take_all u.work.node.copies.applied e.list le) ∙ sym (entries_begin f w m u e)
    ∙ sym (take-take u.work.node.copies.applied (suc u.work.node.copies.applied) u.work.node.member.log (omega arith))

-- so a test agrees with the list and with that entry
pub record WithNext (f : Frame) (list log : List Message) (n : ℕ) : Type 0 where
  pub single : Test
  pub so_far : Agrees f single list
  pub next : Agrees f single (take (suc n) log)

pub with_next : (f : Frame) (fitness : Fitness) (w : World) (m : ℕ) (u : Moment) (x : Message) → Known f fitness w m → (e : AtEach f w m u) → IsDue u.work.node x → WithNext f e.list u.work.node.member.log u.work.node.copies.applied
with_next f fitness w m u x known e due = go (cases_lt u.work.node.copies.applied (length e.list))
  where
    n : ℕ
    n = u.work.node.copies.applied

    log : List Message
    log = u.work.node.member.log

    go : (n < length e.list) ⊎ (length e.list ≤ n) → WithNext f e.list log n
    go (inl lt) = record {
      single = own f e.list;
      so_far = λ o low. refl;
      next = subst (Agrees f (own f e.list)) (sym (is_next f fitness w m u x known e due lt)) (agrees_take f (own f e.list) e.list (suc n) (λ o low. refl));
    }
    go (inr le) = record {
      single = own f (take (suc n) log);
      so_far = subst (Agrees f (own f (take (suc n) log))) (sym (ends_there f w m u e le)) (agrees_take f (own f (take (suc n) log)) (take (suc n) log) n (λ o low. refl));
      next = λ o low. refl;
    }

-- ---- piece by piece

gone_by : (f : Frame) (fitness : Fitness) (single : Test) (w : World) (m : ℕ) (list : List Message) (u v : Moment) → Known f fitness w m → AtList f single w m list u → Goes f m u v → Agrees f single (entries_of v.work.node) → Gone f single w m list v
gone_by f fitness single w m list u v known a go agrees = subst (λ (l : List Message). Gone f single w m l v) a.is (goes f fitness single w m u v known a.at go agrees)

pub goes_each : (f : Frame) (fitness : Fitness) (w : World) (m : ℕ) (u v : Moment) → Known f fitness w m → AtEach f w m u → Goes f m u v → AtEach f w m v
goes_each f fitness w m u v known e go = by (moved f fitness w m u v known (let a = self f w m u e in let at = a.at in at.moment) go)
  where
    list : List Message
    list = e.list

    n : ℕ
    n = u.work.node.copies.applied

    by : Moved u.work v.work → AtEach f w m v
    by (Stood applied entries) = record {
      list = list;
      each = λ single agrees.
          list_stays f single w m list v
          (gone_by f fitness single w m list u v known (e.each single agrees) go (subst (Agrees f single) (sym (entries ∙ entries_begin f w m u e)) (agrees_take f single list n agrees)))
          (let le = here_below f w m u e in omega (arith, le, applied)) (others_below f w m u e);
    }
    by (Took x due applied entries) = or (cases_lt n (length list))
      where
        or : (n < length list) ⊎ (length list ≤ n) → AtEach f w m v
        or (inl lt) = record {
          list = list;
          each = λ single agrees.
              list_stays f single w m list v
              (gone_by f fitness single w m list u v known (e.each single agrees) go (subst (Agrees f single) (sym (entries ∙ is_next f fitness w m u x known e due lt)) (agrees_take f single list (suc n) agrees)))
              (omega (arith, lt, applied)) (others_below f w m u e);
        }
        or (inr le) = record {
          list = entries_of v.work.node;
          each = λ single agrees.
              let so_far : Agrees f single list = subst (Agrees f single) (sym (ends_there f w m u e le)) (agrees_take f single (take (suc n) u.work.node.member.log) n (subst (Agrees f single) entries agrees)) in
              list_takes f single w m list v (gone_by f fitness single w m list u v known (e.each single so_far) go agrees) (omega (arith, le, applied)) (others_below f w m u e);
        }

pub walks_each : (f : Frame) (fitness : Fitness) (w : World) (m : ℕ) (u v : Moment) → Known f fitness w m → AtEach f w m u → Walks f m u v → AtEach f w m v
walks_each f fitness w m u v known e (Walks.Stays x) = e
walks_each f fitness w m u v known e (Walks.Then x y z go rest) = walks_each f fitness w m y v known (goes_each f fitness w m u y known e go) rest

-- ---- a world that follows a course by each test

pub record FollowsList (f : Frame) (single : Test) (w : World) (list : List Message) : Type 0 where
  pub course : Course
  pub follows : Follows f single w course
  pub is : course.list ≡ list

abbrev pub FollowsEach : Frame → World → List Message → Type 0
FollowsEach f w list = (single : Test) → Agrees f single list → FollowsList f single w list

-- no member applied more than its list
pub applied_below : (f : Frame) (w : World) (list : List Message) → FollowsEach f w list → (k : ℕ) → (w.nodes k).copies.applied ≤ length list
applied_below f w list each k =
    let h = each (own f list) (λ o lt. refl) in
    let g = h.follows in
    let c = g.corresponds in
    let le = within_list f (own f list) w h.course c.stands k in
    let same : length h.course.list ≡ length list = ap (λ (l : List Message). length l) h.is in
    omega (arith, le, same)
