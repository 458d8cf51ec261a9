-- Each part of an event is a walk, piece by piece.
use Rattle.std.proofs.Common.{◌≡◌, ◌<◌, nat_le, ℕ, zero, suc, Bool, true, false, List, [], ◌∷◌, Option, None, Some, refl, sym, ap, ◌∙◌, arith, take, drop, if◌then◌else◌}
use Rattle.std.specs.Prelude.{slice_get, ◌==◌}
use Rattle.std.proofs.lemmas.Bool.{leb-true}
use Rattle.value_core.specs.declared.action.Action.{Action}
use Rattle.value_core.specs.declared.action.Line.{Line}
use Rattle.value_core.specs.declared.meaning.Tried.{Tried}
use Rattle.value_core.specs.declared.message.Message.{Message}
use Rattle.value_core.specs.Meaning.{Performs}
use Rattle.guard_queue.specs.Settles.{is_blocked}
use Rattle.object_manager.specs.After.{Copied}
use Rattle.object_manager.specs.After.{after as after_applied}
use Rattle.object_manager.specs.Singles.{after_passed}
use Rattle.book_law.specs.Members.{after_entry}
use Rattle.book_law.specs.Passes.{Test, is_passed}
use Rattle.group_rules.specs.Member.{Member, Waiting}
use Rattle.world_rules.specs.Applying.{answers, applies, applies_all, applies_each, applies_one, begins, copies_take, due_entries, passes_limit, performs_read, round, rounds, tries_as, tries_of, tries_read, tries_reads}
use Rattle.world_rules.specs.Bursts.{read_line, read_on}
use Rattle.world_rules.specs.Frame.{Frame}
use Rattle.world_rules.specs.Mail.{Errand, place_of}
use Rattle.world_rules.specs.Nodes.{Node, NodeWork, changes, does, if_played, known, plays}
use Rattle.world_rules.specs.Nodes.Deed.{Performs as PerformsLine}
use Rattle.world_rules.specs.Owners.{holds, takes, takes_each, takes_reached}
use Rattle.world_rules.specs.Parts.{asks_again, asks_below, catches_up}
use Rattle.world_rules.specs.Played.{Played, Stage, newborn, receives as hears}
use Rattle.world_rules.specs.Played.Stage.{Computing, Acting, Submitted, Reading, Asking, Over}
use Rattle.world_rules.specs.Processes.{Begun, home_in, singles_of}
use Rattle.node_rules.specs.Laws.{PartsAreWalks}
use Rattle.node_rules.specs.Moments.{IsDue, Goes, Moment, Walks, at_work, born_of, entry_lines, holds_none, takes_entry}
use Rattle.node_rules.specs.Moments.Goes.{Takes_entry, Tries_read, Notes, Opens, Takes, Holds, Asks_again}
use Rattle.node_rules.specs.Moments.Walks.{Stays, Then}
use Rattle.node_rules.specs.Starts.{begun}
use Rattle.node_rules.specs.Starts.Start.{Acts, Comes, Ticks, Suspects}

-- ---- walks

pub walk_on : (f : Frame) (m : ℕ) (u v w : Moment) → Walks f m u v → Walks f m v w → Walks f m u w
walk_on f m u v w (Stays x) more = more
walk_on f m u v w (Then x y z go rest) more = Then x y w go (walk_on f m y z w rest more)

pub walk_one : (f : Frame) (m : ℕ) (u v : Moment) → Goes f m u v → Walks f m u v
walk_one f m u v go = Then u v v go (Stays v)

-- ---- what an entry leaves of the work

-- the member and its copies stay
pub record Still (v u : NodeWork) : Type 0 where
  pub member : u.node.member ≡ v.node.member
  pub copies : u.node.copies ≡ v.node.copies

pub still : (v : NodeWork) → Still v v
still v = record { member = refl; copies = refl }

pub still_on : (v u t : NodeWork) → Still v u → Still u t → Still v t
still_on v u t one two = record { member = two.member ∙ one.member; copies = two.copies ∙ one.copies }

pub still_changes : (change : Played → Played) (i : ℕ) (v : NodeWork) → Still v (changes change i v)
still_changes change i v = go (v.node.played i)
  where
    go : (o : Option Played) → Still v (if_played change i o v)
    go None = still v
    go (Some r) = record { member = refl; copies = refl }

pub still_answers : (place : ℕ) (lines : List Line) (v : NodeWork) → Still v (answers place lines v)
still_answers place [] v = still v
still_answers place (l ∷ ls) v =
    let u : NodeWork = changes (hears place l.reply) l.process.0 v in
    still_on v u (answers place ls u) (still_changes (hears place l.reply) l.process.0 v) (still_answers place ls u)

pub still_begins : (m i : ℕ) (born : List Begun) (v : NodeWork) → Still v (begins m i born v)
still_begins m i [] v = still v
still_begins m i (b ∷ bs) v = go (b.home == m)
  where
    go : (t : Bool) → Still v (if t then plays i (newborn b) v else v)
    go true = record { member = refl; copies = refl }
    go false = still v

still_tried : (i : ℕ) (r : Played) (act : Action) (t : Tried) (v : NodeWork) → Still v (performs_read i r act t v)
still_tried i r act t v = go (is_blocked t)
  where
    u : NodeWork
    u = (let line = read_line (record { 0 = i }) r act t in
        plays i (hears v.node.copies.applied line.reply r) (does (PerformsLine (record { place = v.node.copies.applied; line = line })) v))

    go : (b : Bool) → Still v (if b then v else u)
    go true = still v
    go false = record { member = refl; copies = refl }

still_as : (f : Frame) (i : ℕ) (r : Played) (stage : Stage) (v : NodeWork) → Still v (tries_as f i r stage v)
still_as f i r (Reading act) v = still_tried i r act (read_on f.performs v.node.copies.objects act) v
still_as f i r Computing v = still v
still_as f i r (Acting act) v = still v
still_as f i r (Submitted act) v = still v
still_as f i r (Asking act) v = still v
still_as f i r (Over act) v = still v

pub still_read : (f : Frame) (i : ℕ) (v : NodeWork) → Still v (tries_read f i v)
still_read f i v = go (v.node.played i)
  where
    go : (o : Option Played) → Still v (tries_of f i o v)
    go None = still v
    go (Some r) = still_as f i r r.stage v

pub still_reads : (f : Frame) (n : ℕ) (v : NodeWork) → Still v (tries_reads f n v)
still_reads f zero v = still v
still_reads f (suc i) v = still_on v (tries_reads f i v) (tries_reads f (suc i) v) (still_reads f i v) (still_read f i (tries_reads f i v))

-- ---- one entry

-- the member stays, and one entry more is applied
pub record OneMore (v u : NodeWork) : Type 0 where
  pub member : u.node.member ≡ v.node.member
  pub applied : u.node.copies.applied ≡ suc v.node.copies.applied

entry_applied : (single : Test) (p : Performs) (c : Copied) (x : Message) (keeps : Bool) → (after_entry single p c x keeps).applied ≡ suc c.applied
entry_applied single p c x keeps = go (is_passed single x.action)
  where
    go : (b : Bool) → (if b then after_passed p keeps c x else after_applied p c x).applied ≡ suc c.applied
    go true = omega arith
    go false = omega arith

pub one_entry : (f : Frame) (m : ℕ) (x : Message) (v : NodeWork) → OneMore v (takes_entry f m x v)
one_entry f m x v =
    let lines = entry_lines f v.node x in
    let place : ℕ = suc v.node.copies.applied in
    let taken : NodeWork = copies_take f m (known f v.node) x v in
    let told : NodeWork = answers place lines taken in
    let one = still_answers place lines taken in
    let two = still_begins m v.node.copies.processes (born_of f v.node x) told in
    record {
      member = two.member ∙ one.member;
      applied = ap (λ (c : Copied). c.applied) (two.copies ∙ one.copies)
          ∙ entry_applied (singles_of f (known f v.node)) f.performs v.node.copies x (home_in (known f v.node) x.process.0 == m);
    }

pub one_more : (f : Frame) (m : ℕ) (x : Message) (v : NodeWork) → OneMore v (applies_one f m x v)
one_more f m x v =
    let u : NodeWork = takes_entry f m x v in
    let one = one_entry f m x v in
    let more = still_reads f u.node.copies.processes u in
    record { member = more.member ∙ one.member; applied = ap (λ (c : Copied). c.applied) more.copies ∙ one.applied }

walks_reads : (f : Frame) (m n : ℕ) (v : NodeWork) → Walks f m (at_work v) (at_work (tries_reads f n v))
walks_reads f m zero v = Stays (at_work v)
walks_reads f m (suc i) v =
    walk_on f m (at_work v) (at_work (tries_reads f i v)) (at_work (tries_reads f (suc i) v)) (walks_reads f m i v)
    (walk_one f m (at_work (tries_reads f i v)) (at_work (tries_reads f (suc i) v)) (Tries_read i refl))

pub walks_entry : (f : Frame) (m : ℕ) (x : Message) (v : NodeWork) → IsDue v.node x → passes_limit f v.node x ≡ false → Walks f m (at_work v) (at_work (applies_one f m x v))
walks_entry f m x v due within =
    let u : NodeWork = takes_entry f m x v in
    Then (at_work v) (at_work u) (at_work (applies_one f m x v)) (Takes_entry x due within refl) (walks_reads f m u.node.copies.processes u)

-- ---- the accepted entries

abbrev head_of : {A : Type 0} → List A → Option A
head_of [] = None
head_of (x ∷ xs) = Some x

abbrev tail_of : {A : Type 0} → List A → List A
tail_of [] = []
tail_of (x ∷ xs) = xs

-- what is left of a list begins with the next item of it
pub drop_first : {A : Type 0} (n : ℕ) (ys : List A) (x : A) (xs : List A) → x ∷ xs ≡ drop n ys → slice_get ys n ≡ Some x
drop_first zero [] x xs is = absurd (cc is)
drop_first zero (y ∷ ys) x xs is = sym (ap head_of is)
drop_first (suc n) [] x xs is = absurd (cc is)
drop_first (suc n) (y ∷ ys) x xs is = drop_first n ys x xs is

pub drop_rest : {A : Type 0} (n : ℕ) (ys : List A) (x : A) (xs : List A) → x ∷ xs ≡ drop n ys → xs ≡ drop (suc n) ys
drop_rest zero [] x xs is = absurd (cc is)
drop_rest zero (y ∷ ys) x xs is = ap tail_of is
drop_rest (suc n) [] x xs is = absurd (cc is)
drop_rest (suc n) (y ∷ ys) x xs is = drop_rest n ys x xs is

-- what stands among the first items stands in the list
record Taken {A : Type 0} (a n : ℕ) (ys : List A) (x : A) : Type 0 where
  below : n < a
  there : slice_get ys n ≡ Some x

take_got : {A : Type 0} (a n : ℕ) (ys : List A) (x : A) → slice_get (take a ys) n ≡ Some x → Taken a n ys x
take_got zero n ys x is = absurd (cc is)
take_got (suc a) n [] x is = absurd (cc is)
take_got (suc a) zero (y ∷ ys) x is = record { below = omega arith; there = is }
take_got (suc a) (suc n) (y ∷ ys) x is =
    let rest = take_got a n ys x is in
    let lt = rest.below in
    record { below = omega (arith, lt); there = rest.there }

pub due_first : (node : Node) (x : Message) (xs : List Message) → x ∷ xs ≡ due_entries node → IsDue node x
due_first node x xs is =
    let one = take_got node.member.accepted node.copies.applied node.member.log x (drop_first node.copies.applied (take node.member.accepted node.member.log) x xs is) in
    record { accepted = one.below; there = one.there }

pub due_rest : (v u : NodeWork) (x : Message) (xs : List Message) → OneMore v u → x ∷ xs ≡ due_entries v.node → xs ≡ due_entries u.node
due_rest v u x xs one is =
    drop_rest v.node.copies.applied (take v.node.member.accepted v.node.member.log) x xs is
    ∙ ap (λ (n : ℕ). drop n (take v.node.member.accepted v.node.member.log)) (sym one.applied)
    ∙ ap (λ (s : Member Message). drop u.node.copies.applied (take s.accepted s.log)) (sym one.member)

walks_each : (f : Frame) (m : ℕ) (xs : List Message) (v : NodeWork) → xs ≡ due_entries v.node → Walks f m (at_work v) (at_work (applies_each f m xs v))
walks_each f m [] v is = Stays (at_work v)
walks_each f m (x ∷ xs) v is =
    go (passes_limit f v.node x) refl (walks_each f m xs (applies_one f m x v) (due_rest v (applies_one f m x v) x xs (one_more f m x v) is))
  where
    u : NodeWork
    u = applies_one f m x v

    go : (b : Bool) → passes_limit f v.node x ≡ b → Walks f m (at_work u) (at_work (applies_each f m xs u)) → Walks f m (at_work v) (at_work (if b then v else applies_each f m xs u))
    go true limit rest = Stays (at_work v)
    go false within rest = walk_on f m (at_work v) (at_work u) (at_work (applies_each f m xs u)) (walks_entry f m x v (due_first v.node x xs is) within) rest

pub walks_applies : (f : Frame) (m : ℕ) (v : NodeWork) → Walks f m (at_work v) (at_work (applies f m v))
walks_applies f m v = walks_each f m (due_entries v.node) v refl

-- ---- rounds

pub walks_round : (f : Frame) (m : ℕ) (v : NodeWork) → Walks f m (at_work v) (at_work (round f m v))
walks_round f m v =
    walk_on f m (at_work v) (at_work (applies f m v)) (at_work (round f m v)) (walks_applies f m v)
    (walk_one f m (at_work (applies f m v)) (at_work (round f m v)) (Notes refl))

walks_rounds : (f : Frame) (m : ℕ) (waiting : List (Waiting Message)) (v : NodeWork) → Walks f m (at_work v) (at_work (rounds f m waiting v))
walks_rounds f m [] v = walks_round f m v
walks_rounds f m (waiting ∷ more) v =
    walk_on f m (at_work v) (at_work (round f m v)) (at_work (rounds f m more (round f m v))) (walks_round f m v) (walks_rounds f m more (round f m v))

-- ---- Asks and Answers

walks_taken : (f : Frame) (m : ℕ) (errands : List Errand) (v : NodeWork) → Walks f m (record { work = v; hand = errands }) (at_work (takes_each f m errands v))
walks_taken f m [] v = Stays (at_work v)
walks_taken f m (e ∷ es) v = go (nat_le (place_of e) v.node.copies.applied) refl (λ u. walks_taken f m es u)
  where
    go : (b : Bool) → nat_le (place_of e) v.node.copies.applied ≡ b
        → ((u : NodeWork) → Walks f m (record { work = u; hand = es }) (at_work (takes_each f m es u)))
        → Walks f m (record { work = v; hand = e ∷ es }) (at_work (takes_each f m es (if b then takes f m e v else holds e v)))
    go true reached rest =
        Then (record { work = v; hand = e ∷ es }) (record { work = takes f m e v; hand = es }) (at_work (takes_each f m es (takes f m e v)))
        (Takes e es refl (leb-true (place_of e) v.node.copies.applied reached) refl) (rest (takes f m e v))
    go false waits rest =
        Then (record { work = v; hand = e ∷ es }) (record { work = holds e v; hand = es }) (at_work (takes_each f m es (holds e v)))
        (Holds e es refl refl) (rest (holds e v))

walks_reached : (f : Frame) (m : ℕ) (v : NodeWork) → Walks f m (at_work v) (at_work (takes_reached f m v))
walks_reached f m v = go v.node.member.outside refl
  where
    go : (b : Bool) → v.node.member.outside ≡ b → Walks f m (at_work v) (at_work (if b then v else takes_each f m v.node.held (holds_none v)))
    go true outside = Stays (at_work v)
    go false inside =
        Then (at_work v) (record { work = holds_none v; hand = v.node.held }) (at_work (takes_each f m v.node.held (holds_none v)))
        (Opens refl inside refl) (walks_taken f m v.node.held (holds_none v))

pub walks_up : (f : Frame) (m : ℕ) (v : NodeWork) → Walks f m (at_work v) (at_work (catches_up f m v))
walks_up f m v =
    walk_on f m (at_work v) (at_work (applies_all f m v)) (at_work (catches_up f m v)) (walks_rounds f m v.node.member.waiting v)
    (walks_reached f m (applies_all f m v))

walks_below : (f : Frame) (m n : ℕ) (v : NodeWork) → Walks f m (at_work v) (at_work (asks_below f m n v))
walks_below f m zero v = Stays (at_work v)
walks_below f m (suc i) v =
    walk_on f m (at_work v) (at_work (asks_below f m i v)) (at_work (asks_below f m (suc i) v)) (walks_below f m i v)
    (walk_one f m (at_work (asks_below f m i v)) (at_work (asks_below f m (suc i) v)) (Asks_again i refl))

walks_again : (f : Frame) (m : ℕ) (v : NodeWork) → Walks f m (at_work v) (at_work (asks_again f m v))
walks_again f m v = go v.node.member.outside
  where
    go : (b : Bool) → Walks f m (at_work v) (at_work (if b then v else asks_below f m v.node.copies.processes v))
    go true = Stays (at_work v)
    go false = walks_below f m v.node.copies.processes v

-- ---- the parts

pub parts_walk : PartsAreWalks
parts_walk f m (Acts i) node = walks_up f m (begun f m (Acts i) node)
parts_walk f m (Comes mail) node = walks_up f m (begun f m (Comes mail) node)
parts_walk f m Ticks node =
    let v : NodeWork = begun f m Ticks node in
    walk_on f m (at_work v) (at_work (asks_again f m v)) (at_work (catches_up f m (asks_again f m v))) (walks_again f m v) (walks_up f m (asks_again f m v))
parts_walk f m Suspects node = walks_up f m (begun f m Suspects node)
