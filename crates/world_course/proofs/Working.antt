-- The work of applying an entry does what the course says.
use Rattle.std.proofs.Common.{◌≡◌, ◌==◌, ℕ, suc, ◌⊎◌, inl, inr, Bool, true, false, List, [], ◌∷◌, ◌++◌, Option, Some, None, refl, sym, ap, ◌∙◌, subst, length, take, if◌then◌else◌}
use Rattle.std.proofs.lemmas.Bool.{cases_eq, eq-eqb, eqb-true, ne_eqb}
use Rattle.std.specs.Prelude.{option_map}
use Rattle.value_core.specs.declared.action.Line.{Line}
use Rattle.value_core.specs.declared.message.Message.{Message}
use Rattle.group_rules.specs.Member.{Member}
use Rattle.object_manager.specs.After.{Copied}
use Rattle.book_law.specs.Passes.{Test}
use Rattle.book_law.specs.Book.{copies_at}
use Rattle.book_law.specs.Course.{Came, Course}
use Rattle.book_law.specs.Events.{lines_by}
use Rattle.book_law.specs.Members.{Holds}
use Rattle.book_law.specs.Passes.{lines_after}
use Rattle.book_law.proofs.Courses.{at_other, at_own}
use Rattle.book_law.proofs.Members.{members_hold}
use Rattle.world_rules.specs.Applying.{answers, begins, copies_take}
use Rattle.world_rules.specs.Frame.{Frame, group}
use Rattle.world_rules.specs.Nodes.{Deed, Node, NodeWork, aside_of, changes, if_played, known, past_after, plays}
use Rattle.world_rules.specs.Played.{Played, newborn, receives}
use Rattle.world_rules.specs.Processes.{Begun, begun_by, home_in, processes_in, singles_of}
use Rattle.world_rules.specs.Worlds.{World}
use Rattle.world_course.specs.Corresponds.{IsMember, Stands}
use Rattle.world_course.specs.Works.{at_work}
use Rattle.world_course.proofs.Applied.{Applied, AppliedNode, PlaysOn, received}
use Rattle.world_course.proofs.Listing.{count_in, one_born}

-- ---- what stays of a work

-- only its processes change
pub record OnlyPlays (v u : NodeWork) : Type 0 where
  pub copies : u.node.copies ≡ v.node.copies
  pub member : u.node.member ≡ v.node.member
  pub deeds : u.deeds ≡ v.deeds

pub only_same : (v : NodeWork) → OnlyPlays v v
only_same v = record { copies = refl; member = refl; deeds = refl }

pub only_on : (v u t : NodeWork) → OnlyPlays v u → OnlyPlays u t → OnlyPlays v t
only_on v u t one two = record { copies = two.copies ∙ one.copies; member = two.member ∙ one.member; deeds = two.deeds ∙ one.deeds }

only_if : (change : Played → Played) (i : ℕ) (o : Option Played) (v : NodeWork) → OnlyPlays v (if_played change i o v)
only_if change i None v = only_same v
only_if change i (Some r) v = record { copies = refl; member = refl; deeds = refl }

only_answers : (place : ℕ) (lines : List Line) (v : NodeWork) → OnlyPlays v (answers place lines v)
only_answers place [] v = only_same v
only_answers place (l ∷ ls) v =
    let u : NodeWork = changes (receives place l.reply) l.process.0 v in
    only_on v u (answers place ls u) (only_if (receives place l.reply) l.process.0 (v.node.played l.process.0) v) (only_answers place ls u)

only_begins : (m i : ℕ) (born : List Begun) (v : NodeWork) → OnlyPlays v (begins m i born v)
only_begins m i [] v = only_same v
only_begins m i (b ∷ bs) v = go (b.home == m)
  where
    go : (t : Bool) → OnlyPlays v (if t then plays i (newborn b) v else v)
    go true = record { copies = refl; member = refl; deeds = refl }
    go false = only_same v

-- ---- what each process knows

pub changed_if : (change : Played → Played) (i : ℕ) (o : Option Played) (v : NodeWork) (j : ℕ) → v.node.played i ≡ o → (if_played change i o v).node.played j ≡ (if i == j then option_map change (v.node.played j) else v.node.played j)
changed_if change i o v j is = go o is (cases_eq i j)
  where
    go : (o : Option Played) → v.node.played i ≡ o → (i ≡ j) ⊎ (i ≡ j → ⊥) → (if_played change i o v).node.played j ≡ (if i == j then option_map change (v.node.played j) else v.node.played j)
    go None is (inl e) =
        let none : v.node.played j ≡ None = ap v.node.played (sym e) ∙ is in
        none ∙ sym (ap (λ b. if b then option_map change (v.node.played j) else v.node.played j) (eq-eqb i j e) ∙ ap (option_map change) none)
    go None is (inr apart) = sym (ap (λ b. if b then option_map change (v.node.played j) else v.node.played j) (ne_eqb i j apart))
    go (Some r) is (inl e) =
        let some : v.node.played j ≡ Some r = ap v.node.played (sym e) ∙ is in
        ap (λ b. if b then Some (change r) else v.node.played j) (eq-eqb j i (sym e))
        ∙ sym (ap (λ b. if b then option_map change (v.node.played j) else v.node.played j) (eq-eqb i j e) ∙ ap (option_map change) some)
    go (Some r) is (inr apart) =
        ap (λ b. if b then Some (change r) else v.node.played j) (ne_eqb j i (λ e. apart (sym e)))
        ∙ sym (ap (λ b. if b then option_map change (v.node.played j) else v.node.played j) (ne_eqb i j apart))

map_twice : (place : ℕ) (l : Line) (ls : List Line) (o : Option Played) → option_map (received place ls) (option_map (receives place l.reply) o) ≡ option_map (received place (l ∷ ls)) o
map_twice place l ls None = refl
map_twice place l ls (Some r) = refl

map_none : (place : ℕ) (o : Option Played) → option_map (received place []) o ≡ o
map_none place None = refl
map_none place (Some r) = refl

answers_plays : (place : ℕ) (lines : List Line) (v : NodeWork) (j : ℕ) → (answers place lines v).node.played j ≡ option_map (received place (lines_by j lines)) (v.node.played j)
answers_plays place [] v j = sym (map_none place (v.node.played j))
answers_plays place (l ∷ ls) v j =
    answers_plays place ls (changes (receives place l.reply) l.process.0 v) j
    ∙ ap (option_map (received place (lines_by j ls))) (changed_if (receives place l.reply) l.process.0 (v.node.played l.process.0) v j refl)
    ∙ go (l.process.0 == j)
  where
    go : (b : Bool) → option_map (received place (lines_by j ls)) (if b then option_map (receives place l.reply) (v.node.played j) else v.node.played j)
        ≡ option_map (received place (if b then l ∷ lines_by j ls else lines_by j ls)) (v.node.played j)
    go true = map_twice place l (lines_by j ls) (v.node.played j)
    go false = refl

begins_other : (m i : ℕ) (born : List Begun) (v : NodeWork) (j : ℕ) → ((b : Begun) → born ≡ b ∷ [] → b.home ≡ m → j ≡ i → ⊥) → ((born ≡ []) ⊎ ((b : Begun) × (born ≡ b ∷ []))) → (begins m i born v).node.played j ≡ v.node.played j
begins_other m i born v j apart (inl none) = ap (λ (bs : List Begun). (begins m i bs v).node.played j) none
begins_other m i born v j apart (inr (b, one)) = ap (λ (bs : List Begun). (begins m i bs v).node.played j) one ∙ go (b.home == m) refl
  where
    go : (t : Bool) → (b.home == m) ≡ t → (if t then plays i (newborn b) v else v).node.played j ≡ v.node.played j
    go true is = at_other v.node.played i (Some (newborn b)) j (apart b one (eqb-true b.home m is))
    go false is = refl

begins_here : (m i : ℕ) (b : Begun) (v : NodeWork) → b.home ≡ m → (begins m i (b ∷ []) v).node.played i ≡ Some (newborn b)
begins_here m i b v home = ap (λ (t : Bool). (if t then plays i (newborn b) v else v).node.played i) (eq-eqb b.home m home) ∙ at_own v.node.played i (Some (newborn b))

-- ---- the work up to the reads

-- the copies take the entry, its lines are answered, and its process begins
abbrev pub takes_entry : Frame → ℕ → List Begun → ℕ → ℕ → Message → NodeWork → NodeWork
takes_entry f m processes count place x v =
    begins m count (begun_by f.settings.nodes (home_in processes x.process.0) place x.action)
    (answers place (lines_after (singles_of f processes) f.performs v.node.copies x) (copies_take f m processes x v))

pub entry_only : (f : Frame) (m : ℕ) (processes : List Begun) (count place : ℕ) (x : Message) (v : NodeWork) → OnlyPlays (copies_take f m processes x v) (takes_entry f m processes count place x v)
entry_only f m processes count place x v =
    let lines : List Line = lines_after (singles_of f processes) f.performs v.node.copies x in
    let u : NodeWork = answers place lines (copies_take f m processes x v) in
    only_on (copies_take f m processes x v) u (takes_entry f m processes count place x v)
    (only_answers place lines (copies_take f m processes x v))
    (only_begins m count (begun_by f.settings.nodes (home_in processes x.process.0) place x.action) u)

one_or_none : (born : List Begun) (place : ℕ) → (born ≡ []) ⊎ ((b : Begun) × (born ≡ b ∷ []) × (b.place ≡ place)) → (born ≡ []) ⊎ ((b : Begun) × (born ≡ b ∷ []))
one_or_none born place (inl none) = inl none
one_or_none born place (inr (b, one, at)) = inr (b, one)

entry_plays : (f : Frame) (m : ℕ) (processes : List Begun) (count place : ℕ) (x : Message) (v : NodeWork)
    → PlaysOn m (lines_after (singles_of f processes) f.performs v.node.copies x) place count (begun_by f.settings.nodes (home_in processes x.process.0) place x.action) v.node.played (takes_entry f m processes count place x v).node.played
entry_plays f m processes count place x v = record {
  born_here = λ b one home. ap (λ (bs : List Begun). (begins m count bs u).node.played count) one ∙ begins_here m count b u home;
  others = λ j apart. begins_other m count born u j apart (one_or_none born place (one_born f.settings.nodes (home_in processes x.process.0) place x.action)) ∙ answers_plays place lines (copies_take f m processes x v) j;
}
  where
    lines : List Line
    lines = lines_after (singles_of f processes) f.performs v.node.copies x

    born : List Begun
    born = begun_by f.settings.nodes (home_in processes x.process.0) place x.action

    u : NodeWork
    u = answers place lines (copies_take f m processes x v)

-- ---- in the world

-- how many processes the member knows, by its copies
pub known_count : (f : Frame) (single : Test) (c : Course) (came : Came single f.performs f.computes c) (m : ℕ) (node : Node) → IsMember f single c came m node → length (known f node) ≡ node.copies.processes
known_count f single c came m node h =
    let holds : Holds single f.performs c.list c.owned m (c.applied m) node.copies = subst (λ (k : Copied). Holds single f.performs c.list c.owned m (c.applied m) k) (sym h.copies) (members_hold single f.performs f.computes c came m) in
    ap (λ (l : List Message). length (processes_in f l)) h.entries
    ∙ count_in f single f.performs (take node.copies.applied c.list)
    ∙ ap (λ (n : ℕ). (copies_at single f.performs c.list n).processes) (sym h.applied)
    ∙ sym (ap (λ (k : Copied). k.processes) holds.shared)

-- so the work applies the entry
pub entry_applies : (f : Frame) (single : Test) (w : World) (c : Course) (m : ℕ) (x : Message) (v : NodeWork) (h : Stands f single (at_work f m w v) c)
    → Applied f (at_work f m w v) (at_work f m w (takes_entry f m (known f v.node) v.node.copies.processes (suc v.node.copies.applied) x v)) m x
entry_applies f single w c m x v h = record {
  node = subst (λ (n : Node). AppliedNode f m x n ((at_work f m w u).nodes m)) (sym (at_own w.nodes m v.node))
      (subst (λ (n : Node). AppliedNode f m x v.node n) (sym (at_own w.nodes m u.node)) (record {
        copies = only.copies;
        log = ap (λ (s : Member Message). s.log) only.member;
        plays = subst (λ (n : ℕ). PlaysOn m (lines_after (singles_of f (known f v.node)) f.performs v.node.copies x) (suc v.node.copies.applied) n
            (begun_by f.settings.nodes (home_in (known f v.node) x.process.0) (suc v.node.copies.applied) x.action) v.node.played u.node.played) (sym count)
            (entry_plays f m (known f v.node) v.node.copies.processes (suc v.node.copies.applied) x v);
      }));
  nodes = λ k apart. at_other w.nodes m u.node k apart ∙ sym (at_other w.nodes m v.node k apart);
  aside = ap (λ (ds : List Deed). w.aside ++ aside_of ds) only.deeds;
  submitted = λ i. ap (λ (ds : List Deed). (past_after (group f) m ds w.past).submitted i) only.deeds;
}
  where
    u : NodeWork
    u = takes_entry f m (known f v.node) v.node.copies.processes (suc v.node.copies.applied) x v

    only : OnlyPlays (copies_take f m (known f v.node) x v) u
    only = entry_only f m (known f v.node) v.node.copies.processes (suc v.node.copies.applied) x v

    count : length (known f v.node) ≡ v.node.copies.processes
    count = known_count f single c h.came m v.node (subst (λ (n : Node). IsMember f single c h.came m n) (at_own w.nodes m v.node) (h.members m))
