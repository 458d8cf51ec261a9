-- A member applies its next entry: its copies, and its processes, are the course's after that.
use Rattle.std.proofs.Common.{◌≡◌, ◌≤◌, ◌<◌, ◌==◌, ℕ, suc, ◌⊎◌, inl, inr, ⊎_elim, Bool, true, false, List, [], ◌∷◌, ◌++◌, Option, Some, None, refl, sym, ap, ◌∙◌, subst, arith, length, take, if◌then◌else◌}
use Rattle.std.proofs.lemmas.Bool.{cases_eq, cases_lt, eq-eqb, ne_eqb}
use Rattle.std.specs.Prelude.{option_map, slice_get}
use Rattle.orca_base.specs.declared.ids.ObjectId.{ObjectId}
use Rattle.value_core.specs.declared.action.Action.{Action}
use Rattle.value_core.specs.declared.action.Action.TheVariants as action
use Rattle.value_core.specs.declared.action.Line.{Line}
use Rattle.value_core.specs.declared.message.Message.{Message}
use Rattle.value_core.specs.Meaning.{Performs}
use Rattle.value_core.specs.declared.action.Reply.{Reply}
use Rattle.group_rules.specs.Sets.{In as IsIn}
use Rattle.guard_queue.specs.Settles.{Settling}
use Rattle.object_manager.specs.After.{Copied, acted, acted_by, after as after_applied, lines_after as lines_applied, settled_after}
use Rattle.object_manager.specs.Singles.{after_passed}
use Rattle.book_law.specs.Passes.{Test, is_passed, lines_after}
use Rattle.book_law.specs.Book.{copies_at}
use Rattle.book_law.specs.Course.{Came, Course, Next, applying}
use Rattle.book_law.specs.Course.Next.{Applies}
use Rattle.book_law.specs.Course.Came.{Then}
use Rattle.book_law.specs.Events.{Makes, Runner, handed, lines_by, told, took}
use Rattle.book_law.specs.Machines.{AllFit}
use Rattle.book_law.specs.Members.{Holds, after_entry, copies_of, runs_at}
use Rattle.book_law.specs.Replies.{IsReplyTo}
use Rattle.book_law.proofs.Asked.{entered_asked}
use Rattle.book_law.proofs.Books.{take_at}
use Rattle.book_law.proofs.Courses.{at_other, at_own}
use Rattle.book_law.specs.Fitness.{ArgsFit}
use Rattle.book_law.proofs.Fits.{ReplyFits, TextFits}
use Rattle.book_law.proofs.Lists.{in_at}
use Rattle.book_law.proofs.Members.{members_hold}
use Rattle.book_law.proofs.Processes.{get_some}
use Rattle.book_law.proofs.Replying.{hand_one}
use Rattle.world_rules.specs.Frame.{Frame}
use Rattle.world_rules.specs.Nodes.{Node, known}
use Rattle.world_rules.specs.Played.{Played, newborn, receives}
use Rattle.world_rules.specs.Processes.{Begun, begun_by, home_in, home_or_first, processes_in, singles_of}
use Rattle.world_rules.specs.Worlds.{World}
use Rattle.world_course.specs.Corresponds.{IsMember, IsOf, Stands}
use Rattle.world_course.specs.Processes.{IsProcess, IsRunner, StandsHere}
use Rattle.world_course.proofs.Begun.{known_agrees, whole_same}
use Rattle.world_course.proofs.Changing.{asked_on, one_begun}
use Rattle.world_course.proofs.Listing.{one_born}
use Rattle.world_course.proofs.Placing.{born_at, born_there, placed_so}

-- ---- an entry on copies

pub same_passed : (one two : Test) (a : Action) → ((o : ObjectId) → Makes a o → one o ≡ two o) → is_passed one a ≡ is_passed two a
same_passed one two (action.Make kind object) same = same object refl
same_passed one two (action.Call kind op object args) same = refl
same_passed one two (action.Fork text args place_on) same = refl
same_passed one two action.Ended same = refl
same_passed one two (action.Faulted fault) same = refl

-- what is kept beside changes nothing of an entry's lines
pub acted_same : (p : Performs) (c d : Copied) (x : Message) → c ≡ record d { own = c.own; waits = c.waits } → acted p c x ≡ acted p d x
acted_same p c d x same = ap (λ (e : Copied). acted p e x) same ∙ beside x.action
  where
    beside : (a : Action) → acted_by p (record d { own = c.own; waits = c.waits }) x a ≡ acted_by p d x a
    beside (action.Make kind object) = refl
    beside (action.Call kind op object args) = refl
    beside (action.Fork text args place_on) = refl
    beside action.Ended = refl
    beside (action.Faulted fault) = refl

pub entry_applied : (single : Test) (p : Performs) (c : Copied) (x : Message) (keeps : Bool) → (after_entry single p c x keeps).applied ≡ suc c.applied
entry_applied single p c x keeps = go (is_passed single x.action)
  where
    go : (b : Bool) → (if b then after_passed p keeps c x else after_applied p c x).applied ≡ suc c.applied
    go true = omega arith
    go false = omega arith

-- ---- a process receives

-- after these lines of its own, at this place
abbrev pub received : ℕ → List Line → Played → Played
received place [] r = r
received place (l ∷ ls) r = received place ls (receives place l.reply r)

-- what member m knows of processes once it applied the entry, which has this number and is x: its lines are answered, and the process
-- that it begins here begins
pub record PlaysOn (m : ℕ) (lines : List Line) (place count : ℕ) (born : List Begun) (old new : ℕ → Option Played) : Type 0 where
  pub born_here : (b : Begun) → born ≡ b ∷ [] → b.home ≡ m → new count ≡ Some (newborn b)
  pub others : (j : ℕ) → ((b : Begun) → born ≡ b ∷ [] → b.home ≡ m → j ≡ count → ⊥) → new j ≡ option_map (received place (lines_by j lines)) (old j)

-- member m applied entry x, by what it knew
pub record AppliedNode (f : Frame) (m : ℕ) (x : Message) (node more : Node) : Type 0 where
  pub copies : more.copies ≡ after_entry (singles_of f (known f node)) f.performs node.copies x (home_in (known f node) x.process.0 == m)
  pub log : more.member.log ≡ node.member.log
  pub plays : PlaysOn m (lines_after (singles_of f (known f node)) f.performs node.copies x) (suc node.copies.applied) (length (known f node))
      (begun_by f.settings.nodes (home_in (known f node) x.process.0) (suc node.copies.applied) x.action) node.played more.played

pub record Applied (f : Frame) (w v : World) (m : ℕ) (x : Message) : Type 0 where
  pub node : AppliedNode f m x (w.nodes m) (v.nodes m)
  pub nodes : (k : ℕ) → (k ≡ m → ⊥) → v.nodes k ≡ w.nodes k
  pub aside : v.aside ≡ w.aside
  pub submitted : (i : ℕ) → v.past.submitted i ≡ w.past.submitted i

-- ---- the course applies it

pub applied : (f : Frame) (single : Test) (fits_args : ArgsFit) (fits_text : TextFits) (fits_reply : ReplyFits) (w v : World) (c : Course) (m : ℕ) (x : Message) (h : Stands f single w c)
    → AllFit single f.performs f.computes fits_args fits_text fits_reply c → (next : slice_get c.list (c.applied m) ≡ Some x) → slice_get (w.nodes m).member.log (w.nodes m).copies.applied ≡ Some x
    → Applied f w v m x → Stands f single v (applying single f.performs c m x)
applied f single fits_args fits_text fits_reply w v c m x h fit next entry z = record {
  came = later;
  test = h.test;
  beside = h.beside ∙ sym z.aside;
  asked = λ y is. asked_on single c d y refl (h.asked y (subst (λ (l : List Message). IsIn y l) (z.submitted y.process.0) is));
  callers = h.callers;
  members = λ k. member k (cases_eq k m);
  processes = λ j b is. process j b is (cases_eq b.home m);
  played = λ k j r is. plays k j r is (cases_eq k m);
}
  where
    a : ℕ
    a = (w.nodes m).copies.applied

    d : Course
    d = applying single f.performs c m x

    step : Next single f.performs f.computes c d
    step = Applies m x next refl

    later : Came single f.performs f.computes d
    later = Then c d h.came step

    here : IsMember f single c h.came m (w.nodes m)
    here = h.members m

    at : slice_get c.list a ≡ Some x
    at = ap (slice_get c.list) (sym here.applied) ∙ next

    known_is : known f (w.nodes m) ≡ processes_in f (take a c.list)
    known_is = ap (processes_in f) here.entries

    -- what the member knows to be single is what the test says, of what x makes
    makes_same : (o : ObjectId) → Makes x.action o → singles_of f (known f (w.nodes m)) o ≡ single o
    makes_same o makes =
        let asks = entered_asked single f.performs f.computes c h.came in
        let e : o.process ≡ x.process.0 = fit.makes x o (asks.entered x (asks.listed x (in_at x c.list a at))) makes in
        let lt = h.callers a x at in
        ap (λ (ps : List Begun). singles_of f ps o) known_is ∙ known_agrees f single c.list a h.test o (omega (arith, e, lt))

    passed_same : is_passed (singles_of f (known f (w.nodes m))) x.action ≡ is_passed single x.action
    passed_same = same_passed (singles_of f (known f (w.nodes m))) single x.action makes_same

    -- its lines are the course's
    lines : List Line
    lines = lines_after (singles_of f (known f (w.nodes m))) f.performs (w.nodes m).copies x

    course_lines : List Line
    course_lines = lines_after single f.performs (copies_at single f.performs c.list (c.applied m)) x

    holds : Holds single f.performs c.list c.owned m (c.applied m) (w.nodes m).copies
    holds = subst (λ (k : Copied). Holds single f.performs c.list c.owned m (c.applied m) k) (sym here.copies) (members_hold single f.performs f.computes c h.came m)

    lines_same : lines ≡ course_lines
    lines_same = ap (λ (b : Bool). if b then (acted f.performs (w.nodes m).copies x).lines else lines_applied f.performs (w.nodes m).copies x) passed_same
        ∙ ap (λ (s : Settling). if is_passed single x.action then s.lines else s.lines ++ (settled_after f.performs s).lines)
        (acted_same f.performs (w.nodes m).copies (copies_at single f.performs c.list (c.applied m)) x holds.shared)

    -- ---- members

    -- the process of the entry is here by both
    keeps_same : (home_in (known f (w.nodes m)) x.process.0 == m) ≡ runs_at m (c.runners x.process.0)
    keeps_same =
        let u = get_some (processes_in f (take a c.list)) x.process.0 (h.callers a x at) in
        let there : slice_get (processes_in f c.list) x.process.0 ≡ Some u.0 = whole_same f c.list a x.process.0 (h.callers a x at) ∙ u.1 in
        let r = h.processes x.process.0 u.0 there in
        ap (λ (ps : List Begun). home_in ps x.process.0 == m) known_is ∙ ap (λ (o : Option Begun). home_or_first o == m) u.1 ∙ ap (λ (n : ℕ). n == m) (sym r.member) ∙ ap (runs_at m) (sym r.runs)

    copies_here : (v.nodes m).copies ≡ copies_of single f.performs f.computes d later m
    copies_here = z.node.copies
        ∙ ap (λ (k : Bool). after_entry (singles_of f (known f (w.nodes m))) f.performs (w.nodes m).copies x k) keeps_same
        ∙ ap (λ (b : Bool). if b then after_passed f.performs (runs_at m (c.runners x.process.0)) (w.nodes m).copies x else after_applied f.performs (w.nodes m).copies x) passed_same
        ∙ ap (λ (k : Copied). after_entry single f.performs k x (runs_at m (c.runners x.process.0))) here.copies
        ∙ sym (ap (λ (b : Bool). if b then after_entry single f.performs (copies_of single f.performs f.computes c h.came m) x (runs_at m (c.runners x.process.0)) else copies_of single f.performs f.computes c h.came m) (eq-eqb m m refl))

    applied_here : (v.nodes m).copies.applied ≡ suc a
    applied_here = ap (λ (k : Copied). k.applied) z.node.copies ∙ entry_applied (singles_of f (known f (w.nodes m))) f.performs (w.nodes m).copies x (home_in (known f (w.nodes m)) x.process.0 == m)

    member : (k : ℕ) → (k ≡ m) ⊎ (k ≡ m → ⊥) → IsMember f single d later k (v.nodes k)
    member k (inl e) = subst (λ (n : ℕ). IsMember f single d later n (v.nodes n)) (sym e) (record {
      applied = at_own c.applied m (suc (c.applied m)) ∙ ap suc here.applied ∙ sym applied_here;
      entries = subst (λ (n : ℕ). take n (v.nodes m).member.log ≡ take n c.list) (sym applied_here)
          (ap (take (suc a)) z.node.log ∙ take_at (w.nodes m).member.log a x entry ∙ ap (λ (l : List Message). l ++ x ∷ []) here.entries ∙ sym (take_at c.list a x at));
      copies = copies_here;
    })
    member k (inr apart) = let u = h.members k in subst (λ (n : Node). IsMember f single d later k n) (sym (z.nodes k apart)) (record {
      applied = at_other c.applied m (suc (c.applied m)) k apart ∙ u.applied;
      entries = u.entries;
      copies = u.copies ∙ sym (ap (λ (b : Bool). if b then after_entry single f.performs (copies_of single f.performs f.computes c h.came k) x (runs_at k (c.runners x.process.0)) else copies_of single f.performs f.computes c h.came k)
          (ne_eqb m k (λ e. apart (sym e))));
    })

    -- ---- processes

    count : ℕ
    count = length (known f (w.nodes m))

    born : List Begun
    born = begun_by f.settings.nodes (home_in (known f (w.nodes m)) x.process.0) (suc a) x.action

    born_is : born ≡ born_at f c.list a x
    born_is = ap (λ (ps : List Begun). begun_by f.settings.nodes (home_in ps x.process.0) (suc a) x.action) known_is

    -- who began before isn't the one that x begins
    not_new : (j : ℕ) (b : Begun) → slice_get (processes_in f c.list) j ≡ Some b → (b.place ≡ suc a → ⊥) → (e : Begun) → born ≡ e ∷ [] → e.home ≡ m → j ≡ count → ⊥
    not_new j b is apart e one home same =
        let there : slice_get (processes_in f c.list) j ≡ Some e = ap (slice_get (processes_in f c.list)) (same ∙ ap length known_is) ∙ born_there f c.list a x e at (sym born_is ∙ one) in
        let g : b ≡ e = one_begun (slice_get (processes_in f c.list) j) b e is there in
        apart (ap (λ (y : Begun). y.place) g ∙ place_of e one (one_born f.settings.nodes (home_in (known f (w.nodes m)) x.process.0) (suc a) x.action))
      where
        place_of : (y : Begun) → born ≡ y ∷ [] → (born ≡ []) ⊎ ((u : Begun) × (born ≡ u ∷ []) × (u.place ≡ suc a)) → y.place ≡ suc a
        place_of y is_y (inl none) = let k : [] ≡ y ∷ [] = sym none ∙ is_y in absurd (cc k)
        place_of y is_y (inr (u, is_u, place)) = let k : u ∷ [] ≡ y ∷ [] = sym is_u ∙ is_y in let g : u ≡ y = cc in ap (λ (s : Begun). s.place) (sym g) ∙ place

    -- what a process of this member is handed
    given : (j : ℕ) (r : Runner) → c.runners j ≡ Some r → r.member ≡ m → IsReplyTo r (lines_by j course_lines)
    given j r is home =
        let u = hand_one single f.performs f.computes c h.came in
        subst (λ (n : ℕ). IsReplyTo r (lines_by j (lines_after single f.performs (copies_at single f.performs c.list (c.applied n)) x))) home
        (u.entry j r x is (ap (λ (n : ℕ). slice_get c.list (c.applied n)) home ∙ next))

    handed_here : (j : ℕ) (r : Runner) → r.member ≡ m → handed m (suc (c.applied m)) course_lines j r ≡ took (suc (c.applied m)) (lines_by j course_lines) r
    handed_here j r home = ap (λ (b : Bool). if b then took (suc (c.applied m)) (lines_by j course_lines) r else r) (eq-eqb r.member m home)

    handed_there : (j : ℕ) (r : Runner) → (r.member ≡ m → ⊥) → handed m (suc (c.applied m)) course_lines j r ≡ r
    handed_there j r apart = ap (λ (b : Bool). if b then took (suc (c.applied m)) (lines_by j course_lines) r else r) (ne_eqb r.member m apart)

    no_lines : (r : Runner) → r.message ≡ None → (ls : List Line) → IsReplyTo r ls → ls ≡ []
    no_lines r free [] is = refl
    no_lines r free (l ∷ ls) is = let e : None ≡ Some is.1 = sym free ∙ is.2 in absurd (cc e)

    took_member : (ls : List Line) (r : Runner) → (took (suc (c.applied m)) ls r).member ≡ r.member
    took_member [] r = refl
    took_member (l ∷ ls) r = refl

    took_none : (ls : List Line) (r : Runner) → ls ≡ [] → took (suc (c.applied m)) ls r ≡ r
    took_none ls r none = ap (λ (l : List Line). took (suc (c.applied m)) l r) none

    -- its place is the entry's, or stays
    lower : (r : Played) (y : Runner) (ls : List Line) → IsReplyTo y ls → r.place ≤ a → (received (suc a) ls r).place ≤ suc a
    lower r y [] is le = omega (arith, le)
    lower r y (l ∷ ls) is le = subst (λ (rest : List Line). (received (suc a) (l ∷ rest) r).place ≤ suc a) (sym is.0) (omega arith)

    -- a process that was played receives what the course hands it
    receives_so : (j : ℕ) (r : Played) (y : Runner) (ls : List Line) → IsReplyTo y ls → IsRunner f.computes j r y → IsRunner f.computes j (received (suc a) ls r) (took (suc (c.applied m)) ls y)
    receives_so j r y [] is so = so
    receives_so j r y (l ∷ ls) is so =
        subst (λ (rest : List Line). IsRunner f.computes j (received (suc a) (l ∷ rest) r) (told (suc (c.applied m)) l y)) (sym is.0) (record {
          text = so.text;
          args = so.args;
          replies = ap (λ (rs : List Reply). rs ++ l.reply ∷ []) so.replies;
          place = ap suc here.applied;
          stage = refl;
        })

    stands_on : (j : ℕ) (b : Begun) (y : Runner) (o : Option Played) → slice_get (processes_in f c.list) j ≡ Some b → b.home ≡ m → IsReplyTo y (lines_by j course_lines) → (w.nodes m).played j ≡ o → StandsHere f.computes j b y a o
        → StandsHere f.computes j b (took (suc (c.applied m)) (lines_by j course_lines) y) (suc a) ((v.nodes m).played j)
    stands_on j b y (Some r) is home reply played (le, reaches, so) =
        let now : (v.nodes m).played j ≡ Some (received (suc a) (lines_by j course_lines) r) =
        z.node.plays.others j (not_new j b is (λ e. omega (arith, e, le))) ∙ ap (option_map (received (suc a) (lines_by j lines))) played ∙ ap (λ (ls : List Line). Some (received (suc a) (lines_by j ls) r)) lines_same in
        subst (λ (o : Option Played). StandsHere f.computes j b (took (suc (c.applied m)) (lines_by j course_lines) y) (suc a) o) (sym now) (omega (arith, le), lower r y (lines_by j course_lines) reply reaches, receives_so j r y (lines_by j course_lines) reply so)
    stands_on j b y None is home reply played (lt, same) =
        subst (λ (r : Runner). StandsHere f.computes j b r (suc a) ((v.nodes m).played j)) (sym (took_none (lines_by j course_lines) y (no_lines y (ap (λ (r : Runner). r.message) same) (lines_by j course_lines) reply)))
        (by_place (cases_eq b.place (suc a)))
      where
        more : (b.place ≡ suc a → ⊥) → suc a < b.place
        more apart = ⊎_elim (λ (far : suc a < b.place). far) (λ (near : b.place ≤ suc a). let e : b.place ≡ suc a = omega (arith, lt, near) in absurd (apart e)) (cases_lt (suc a) b.place)

        by_place : (b.place ≡ suc a) ⊎ (b.place ≡ suc a → ⊥) → StandsHere f.computes j b y (suc a) ((v.nodes m).played j)
        by_place (inl e) =
            let u = placed_so f c.list a x j b at is e in
            let now : (v.nodes m).played j ≡ Some (newborn b) = ap (v.nodes m).played (u.0 ∙ sym (ap length known_is)) ∙ z.node.plays.born_here b (born_is ∙ u.1) home in
            subst (λ (o : Option Played). StandsHere f.computes j b y (suc a) o) (sym now)
            (omega (arith, e), omega (arith, e), subst (λ (r : Runner). IsRunner f.computes j (newborn b) r) (sym same) (record { text = refl; args = refl; replies = refl; place = refl; stage = refl }))
        by_place (inr apart) =
            let now : (v.nodes m).played j ≡ None = z.node.plays.others j (not_new j b is apart) ∙ ap (option_map (received (suc a) (lines_by j lines))) played in
            subst (λ (o : Option Played). StandsHere f.computes j b y (suc a) o) (sym now) (more apart, same)

    process : (j : ℕ) (b : Begun) → slice_get (processes_in f c.list) j ≡ Some b → (b.home ≡ m) ⊎ (b.home ≡ m → ⊥) → IsProcess f.computes j b (d.runners j) (v.nodes b.home)
    process j b is (inl home) =
        let u = h.processes j b is in
        let mine : u.runner.member ≡ m = u.member ∙ home in
        let reply = given j u.runner u.runs mine in
        let was : StandsHere f.computes j b u.runner a ((w.nodes m).played j) = subst (λ (n : ℕ). StandsHere f.computes j b u.runner (w.nodes n).copies.applied ((w.nodes n).played j)) home u.stands in
        let now = stands_on j b u.runner ((w.nodes m).played j) is home reply refl was in
        record {
          runner = took (suc (c.applied m)) (lines_by j course_lines) u.runner;
          runs = ap (option_map (handed m (suc (c.applied m)) course_lines j)) u.runs ∙ ap (λ (r : Runner). Some r) (handed_here j u.runner mine);
          member = took_member (lines_by j course_lines) u.runner ∙ u.member;
          stands = subst (λ (n : ℕ). StandsHere f.computes j b (took (suc (c.applied m)) (lines_by j course_lines) u.runner) (v.nodes n).copies.applied ((v.nodes n).played j)) (sym home)
              (subst (λ (n : ℕ). StandsHere f.computes j b (took (suc (c.applied m)) (lines_by j course_lines) u.runner) n ((v.nodes m).played j)) (sym applied_here) now);
        }
    process j b is (inr apart) =
        let u = h.processes j b is in
        record {
          runner = u.runner;
          runs = ap (option_map (handed m (suc (c.applied m)) course_lines j)) u.runs ∙ ap (λ (r : Runner). Some r) (handed_there j u.runner (λ e. apart (sym u.member ∙ e)));
          member = u.member;
          stands = subst (λ (n : Node). StandsHere f.computes j b u.runner n.copies.applied (n.played j)) (sym (z.nodes b.home apart)) u.stands;
        }

    -- ---- who is played here

    moved : (k j : ℕ) → IsOf f c k j → IsOf f d k j
    moved k j o = record { begun = o.begun; there = o.there; home = o.home }

    was_played : (j : ℕ) (ls : List Line) (o : Option Played) (r : Played) → option_map (received (suc a) ls) o ≡ Some r → (q : Played) × (o ≡ Some q)
    was_played j ls None r is = absurd (cc is)
    was_played j ls (Some q) r is = (q, refl)

    plays_old : (j : ℕ) (r : Played) → ((e : Begun) → born ≡ e ∷ [] → e.home ≡ m → j ≡ count → ⊥) → (v.nodes m).played j ≡ Some r → IsOf f c m j
    plays_old j r apart is = let u = was_played j (lines_by j lines) ((w.nodes m).played j) r (sym (z.node.plays.others j apart) ∙ is) in h.played m j u.0 u.1

    plays_here : (j : ℕ) (r : Played) → (v.nodes m).played j ≡ Some r → (j ≡ count) ⊎ (j ≡ count → ⊥) → (born ≡ []) ⊎ ((b : Begun) × (born ≡ b ∷ []) × (b.place ≡ suc a)) → IsOf f c m j
    plays_here j r is (inr apart) which = plays_old j r (λ e one home same. apart same) is
    plays_here j r is (inl same) (inl none) = plays_old j r (λ e one home at_count. let k : [] ≡ e ∷ [] = sym none ∙ one in absurd (cc k)) is
    plays_here j r is (inl same) (inr (b, one, place)) = ⊎_elim
        (λ (home : b.home ≡ m). record {
          begun = b;
          there = ap (slice_get (processes_in f c.list)) (same ∙ ap length known_is) ∙ born_there f c.list a x b at (sym born_is ∙ one);
          home = home;
        })
        (λ (apart : b.home ≡ m → ⊥). plays_old j r (λ e also home at_count. let k : b ∷ [] ≡ e ∷ [] = sym one ∙ also in let g : b ≡ e = cc in apart (ap (λ (y : Begun). y.home) g ∙ home)) is)
        (cases_eq b.home m)

    plays : (k j : ℕ) (r : Played) → (v.nodes k).played j ≡ Some r → (k ≡ m) ⊎ (k ≡ m → ⊥) → IsOf f d k j
    plays k j r is (inl e) = moved k j (subst (λ (n : ℕ). IsOf f c n j) (sym e)
        (plays_here j r (ap (λ (n : ℕ). (v.nodes n).played j) (sym e) ∙ is) (cases_eq j count) (one_born f.settings.nodes (home_in (known f (w.nodes m)) x.process.0) (suc a) x.action)))
    plays k j r is (inr apart) = moved k j (h.played k j r (ap (λ (n : Node). n.played j) (sym (z.nodes k apart)) ∙ is))
