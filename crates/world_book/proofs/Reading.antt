-- Who waits with a read is blocked: its operation reads, and each of its guards is false on its member's copies.
use Rattle.std.proofs.Common.{◌≡◌, ◌==◌, ◌<◌, ◌≤◌, ⊎_elim, ℕ, zero, suc, true, nat_lt, Option, Some, None, List, [], ◌∷◌, refl, sym, ap, ◌∙◌, arith, subst}
use Rattle.std.proofs.lemmas.Bool.{cases_eq, cases_lt, cond_both}
use Rattle.value_core.specs.declared.action.Action.{Action}
use Rattle.value_core.specs.declared.action.Action.TheVariants as action
use Rattle.value_core.specs.declared.action.Class.TheVariants.{Reads}
use Rattle.value_core.specs.declared.action.Line.{Line}
use Rattle.value_core.specs.declared.action.Reply.{Reply}
use Rattle.value_core.specs.declared.message.Message.{Message}
use Rattle.value_core.specs.History.{Objects}
use Rattle.guard_queue.specs.Settles.{is_blocked}
use Rattle.book_law.specs.Passes.{lines_after}
use Rattle.group_rules.specs.Member.{Waiting}
use Rattle.group_rules.specs.Steps.{note}
use Rattle.world_rules.specs.Applying.{answers, applies, applies_each, applies_one, begins, copies_take, due_entries, passes_limit, round, rounds, tries_as, tries_of, tries_read, tries_reads}
use Rattle.world_rules.specs.Bursts.{read_line, read_on}
use Rattle.world_rules.specs.Frame.{Frame, group}
use Rattle.world_rules.specs.Nodes.{Node, NodeWork, changes, if_played, joins, known, plays}
use Rattle.world_rules.specs.Parts.{reads}
use Rattle.world_rules.specs.Played.{Played, Stage, moves_to, newborn, receives}
use Rattle.world_rules.specs.Played.Stage.{Computing, Acting, Submitted, Reading, Asking, Over}
use Rattle.world_rules.specs.Processes.{Begun, begun_by, home_in, singles_of}
use Rattle.world_law.proofs.Ages.{Fresh, ages_one, ages_round}
use Rattle.world_law.proofs.Going.{goes_reads}
use Rattle.world_law.proofs.Maps.{at_both, at_here, at_other}

-- the action is a call of an operation that reads
abbrev pub IsReads : Frame → Action → Type 0
IsReads f (action.Call kind op object args) = f.performs.class_of kind op ≡ Reads
IsReads f (action.Make kind object) = ⊥
IsReads f (action.Fork text args place_on) = ⊥
IsReads f action.Ended = ⊥
IsReads f (action.Faulted fault) = ⊥

-- a process that waits with a read: a read it is, and it is blocked on these objects
abbrev pub WaitsBlocked : Frame → Objects → Played → Type 0
WaitsBlocked f objects r = (act : Action) → r.stage ≡ Reading act → IsReads f act × (is_blocked (read_on f.performs objects act) ≡ true)

abbrev WaitsReading : Frame → Played → Type 0
WaitsReading f r = (act : Action) → r.stage ≡ Reading act → IsReads f act

abbrev Here : (Played → Type 0) → NodeWork → Type 0
Here P v = (i : ℕ) (r : Played) → v.node.played i ≡ Some r → P r

abbrev pub AllBlocked : Frame → Node → Type 0
AllBlocked f node = (i : ℕ) (r : Played) → node.played i ≡ Some r → WaitsBlocked f node.copies.objects r

-- ---- what receives a reply computes

abbrev Free : (Played → Type 0) → Type 0
Free P = (r : Played) → r.stage ≡ Computing → P r

free_reading : (f : Frame) → Free (WaitsReading f)
free_reading f r is act reads = let e : Computing ≡ Reading act = sym is ∙ reads in absurd (cc e)

free_blocked : (f : Frame) (objects : Objects) → Free (WaitsBlocked f objects)
free_blocked f objects r is act reads = let e : Computing ≡ Reading act = sym is ∙ reads in absurd (cc e)

here_plays : (P : Played → Type 0) (i : ℕ) (t : Played) (v : NodeWork) → P t → Here P v → Here P (plays i t v)
here_plays P i t v own all j r = at_both v.node.played i (Some t) j (λ z. z ≡ Some r → P r)
    (λ e is. let same : t ≡ r = cc is in subst P same own) (λ no is. all j r is)

here_if : (P : Played → Type 0) (place : ℕ) (reply : Reply) (i : ℕ) (o : Option Played) (v : NodeWork) → Free P → Here P v → Here P (if_played (receives place reply) i o v)
here_if P place reply i None v free all = all
here_if P place reply i (Some r) v free all = here_plays P i (receives place reply r) v (free (receives place reply r) refl) all

here_answers : (P : Played → Type 0) (place : ℕ) (lines : List Line) (v : NodeWork) → Free P → Here P v → Here P (answers place lines v)
here_answers P place [] v free all = all
here_answers P place (l ∷ ls) v free all = here_answers P place ls (changes (receives place l.reply) l.process.0 v) free
    (here_if P place l.reply l.process.0 (v.node.played l.process.0) v free all)

here_begins : (P : Played → Type 0) (m i : ℕ) (born : List Begun) (v : NodeWork) → Free P → Here P v → Here P (begins m i born v)
here_begins P m i [] v free all = all
here_begins P m i (b ∷ born) v free all = cond_both (b.home == m) (plays i (newborn b) v) v (λ (u : NodeWork). Here P u)
    (λ e. here_plays P i (newborn b) v (free (newborn b) refl) all) (λ e. all)

-- ---- reads are tried

-- process i's read at work: its objects stay, other processes stay, and who is left waiting is blocked
pub record Tries (f : Frame) (i : ℕ) (v u : NodeWork) : Type 0 where
  objects : u.node.copies.objects ≡ v.node.copies.objects
  others : (j : ℕ) → (j ≡ i → ⊥) → u.node.played j ≡ v.node.played j
  own : (r : Played) → u.node.played i ≡ Some r → WaitsBlocked f v.node.copies.objects r

tries_none : (f : Frame) (i : ℕ) (r : Played) (stage : Stage) (v : NodeWork) → v.node.played i ≡ Some r → r.stage ≡ stage → ((act : Action) → stage ≡ Reading act → ⊥) → Tries f i v v
tries_none f i r stage v here is never = record {
  objects = refl;
  others = λ j apart. refl;
  own = λ t there act reads. let e : Some r ≡ Some t = sym here ∙ there in let same : r ≡ t = cc in
      absurd (never act (sym is ∙ ap (λ (z : Played). z.stage) same ∙ reads));
}

tries_one : (f : Frame) (i : ℕ) (r : Played) (act : Action) (v : NodeWork) → v.node.played i ≡ Some r → r.stage ≡ Reading act → IsReads f act → Tries f i v (tries_as f i r (Reading act) v)
tries_one f i r act v here is one = cond_both (is_blocked (read_on f.performs v.node.copies.objects act)) _ _ (λ u. Tries f i v u)
    (λ e. record {
      objects = refl;
      others = λ j apart. refl;
      own = λ t there other stands.
          let f1 : Some r ≡ Some t = sym here ∙ there in
          let same : r ≡ t = cc in
          let g : Reading act ≡ Reading other = sym is ∙ ap (λ (z : Played). z.stage) same ∙ stands in
          let acts : act ≡ other = cc in
          subst (λ (a : Action). IsReads f a × (is_blocked (read_on f.performs v.node.copies.objects a) ≡ true)) acts (one, e);
    })
    (λ e.
    let line : Line = read_line (record { 0 = i }) r act (read_on f.performs v.node.copies.objects act) in
    let told : Played = receives v.node.copies.applied line.reply r in
    record {
      objects = refl;
      others = λ j apart. at_other v.node.played i j (Some told) apart;
      own = λ t there.
          let found : Some told ≡ Some t = sym (at_here v.node.played i (Some told)) ∙ there in
          let same : told ≡ t = cc in
          free_blocked f v.node.copies.objects t (ap (λ (z : Played). z.stage) (sym same));
    })

tries_by : (f : Frame) (i : ℕ) (r : Played) (stage : Stage) (v : NodeWork) → v.node.played i ≡ Some r → r.stage ≡ stage → Here (WaitsReading f) v → Tries f i v (tries_as f i r stage v)
tries_by f i r (Reading act) v here is all = tries_one f i r act v here is (all i r here act is)
tries_by f i r Computing v here is all = tries_none f i r Computing v here is (λ act e. cc e)
tries_by f i r (Acting act) v here is all = tries_none f i r (Acting act) v here is (λ other e. cc e)
tries_by f i r (Submitted act) v here is all = tries_none f i r (Submitted act) v here is (λ other e. cc e)
tries_by f i r (Asking act) v here is all = tries_none f i r (Asking act) v here is (λ other e. cc e)
tries_by f i r (Over act) v here is all = tries_none f i r (Over act) v here is (λ other e. cc e)

tries_it : (f : Frame) (i : ℕ) (o : Option Played) (v : NodeWork) → v.node.played i ≡ o → Here (WaitsReading f) v → Tries f i v (tries_of f i o v)
tries_it f i None v here all = record {
  objects = refl;
  others = λ j apart. refl;
  own = λ t there. let e : None ≡ Some t = sym here ∙ there in absurd (cc e);
}
tries_it f i (Some r) v here all = tries_by f i r r.stage v here refl all

-- so it is of the processes below a number
record TriesBelow (f : Frame) (n : ℕ) (v u : NodeWork) : Type 0 where
  objects : u.node.copies.objects ≡ v.node.copies.objects
  reading : Here (WaitsReading f) u
  below : (i : ℕ) → i < n → (r : Played) → u.node.played i ≡ Some r → WaitsBlocked f v.node.copies.objects r

tries_below : (f : Frame) (n : ℕ) (v : NodeWork) → Here (WaitsReading f) v → TriesBelow f n v (tries_reads f n v)
tries_below f zero v all = record { objects = refl; reading = all; below = λ i lt. absurd (omega (arith, lt)) }
tries_below f (suc k) v all =
    let b = tries_below f k v all in
    let u : NodeWork = tries_reads f k v in
    let t : Tries f k u (tries_read f k u) = tries_it f k (u.node.played k) u refl b.reading in
    record {
      objects = t.objects ∙ b.objects;
      reading = λ i r here act is. ⊎_elim
          (λ (e : i ≡ k). let w = t.own r (ap (tries_read f k u).node.played (sym e) ∙ here) act is in w.0)
          (λ apart. b.reading i r (sym (t.others i apart) ∙ here) act is) (cases_eq i k);
      below = λ i lt r here. ⊎_elim
          (λ (e : i ≡ k). subst (λ (o : Objects). WaitsBlocked f o r) b.objects (t.own r (ap (tries_read f k u).node.played (sym e) ∙ here)))
          (λ apart. b.below i (omega (arith, lt, apart)) r (sym (t.others i apart) ∙ here)) (cases_eq i k);
    }

-- ---- entries

blocked_reading : (f : Frame) (v : NodeWork) → AllBlocked f v.node → Here (WaitsReading f) v
blocked_reading f v all i r here act is = (all i r here act is).0

blocked_one : (f : Frame) (m : ℕ) (x : Message) (v : NodeWork) → Fresh v.node → AllBlocked f v.node → AllBlocked f (applies_one f m x v).node
blocked_one f m x v fresh all i r here = ⊎_elim
    (λ (lt : i < u.node.copies.processes). subst (λ (o : Objects). WaitsBlocked f o r) (sym tries.objects) (tries.below i lt r here))
    (λ (le : u.node.copies.processes ≤ i).
    let none : (applies_one f m x v).node.played i ≡ None = (ages_one f m x v fresh).fresh i (subst (λ n. n ≤ i) (sym count) le) in
    let e : None ≡ Some r = sym none ∙ here in absurd (cc e))
    (cases_lt i u.node.copies.processes)
  where
    ps : List Begun
    ps = known f v.node

    told : NodeWork
    told = answers (suc v.node.copies.applied) (lines_after (singles_of f ps) f.performs v.node.copies x) (copies_take f m ps x v)

    u : NodeWork
    u = begins m v.node.copies.processes (begun_by f.settings.nodes (home_in ps x.process.0) (suc v.node.copies.applied) x.action) told

    reading : Here (WaitsReading f) u
    reading = here_begins (WaitsReading f) m v.node.copies.processes (begun_by f.settings.nodes (home_in ps x.process.0) (suc v.node.copies.applied) x.action) told (free_reading f)
        (here_answers (WaitsReading f) (suc v.node.copies.applied) (lines_after (singles_of f ps) f.performs v.node.copies x) (copies_take f m ps x v) (free_reading f) (blocked_reading f v all))

    tries : TriesBelow f u.node.copies.processes u (tries_reads f u.node.copies.processes u)
    tries = tries_below f u.node.copies.processes u reading

    count : (tries_reads f u.node.copies.processes u).node.copies.processes ≡ u.node.copies.processes
    count = let g = goes_reads f u.node.copies.processes u in g.count

blocked_each : (f : Frame) (m : ℕ) (xs : List Message) (v : NodeWork) → Fresh v.node → AllBlocked f v.node → AllBlocked f (applies_each f m xs v).node
blocked_each f m [] v fresh all = all
blocked_each f m (x ∷ xs) v fresh all = cond_both (passes_limit f v.node x) v (applies_each f m xs (applies_one f m x v)) (λ (u : NodeWork). AllBlocked f u.node) (λ e. all)
    (λ e. let a = ages_one f m x v fresh in blocked_each f m xs (applies_one f m x v) a.fresh (blocked_one f m x v fresh all))

blocked_round : (f : Frame) (m : ℕ) (v : NodeWork) → Fresh v.node → AllBlocked f v.node → AllBlocked f (round f m v).node
blocked_round f m v fresh all =
    let u : NodeWork = applies f m v in
    let h : AllBlocked f u.node = blocked_each f m (due_entries v.node) v fresh all in
    cond_both (nat_lt u.node.member.applied u.node.copies.applied) (joins (note (group f) m u.node.copies.applied u.node.member) u) u
    (λ (t : NodeWork). AllBlocked f t.node) (λ e. h) (λ e. h)

pub blocked_rounds : (f : Frame) (m : ℕ) (waiting : List (Waiting Message)) (v : NodeWork) → Fresh v.node → AllBlocked f v.node → AllBlocked f (rounds f m waiting v).node
blocked_rounds f m [] v fresh all = blocked_round f m v fresh all
blocked_rounds f m (one ∷ more) v fresh all =
    let a = ages_round f m v fresh in
    blocked_rounds f m more (round f m v) a.fresh (blocked_round f m v fresh all)

-- ---- one process changes

pub blocked_plays : (f : Frame) (i : ℕ) (t : Played) (v : NodeWork) → WaitsBlocked f v.node.copies.objects t → AllBlocked f v.node → AllBlocked f (plays i t v).node
blocked_plays f i t v own all = here_plays (WaitsBlocked f v.node.copies.objects) i t v own all

-- it goes on to a read, which is tried
pub tries_moved : (f : Frame) (i : ℕ) (r : Played) (act : Action) (v : NodeWork) → IsReads f act → AllBlocked f v.node → AllBlocked f (reads f i r act v).node
tries_moved f i r act v one all j s here = ⊎_elim
    (λ (e : j ≡ i). subst (λ (o : Objects). WaitsBlocked f o s) (sym t.objects) (t.own s (ap (tries_read f i u).node.played (sym e) ∙ here)))
    (λ apart. subst (λ (o : Objects). WaitsBlocked f o s) (sym t.objects)
    (all j s (sym (at_other v.node.played i j (Some (moves_to (Reading act) r)) apart) ∙ sym (t.others j apart) ∙ here)))
    (cases_eq j i)
  where
    u : NodeWork
    u = plays i (moves_to (Reading act) r) v

    reading : Here (WaitsReading f) u
    reading = here_plays (WaitsReading f) i (moves_to (Reading act) r) v
        (λ other is. let same : act ≡ other = cc in subst (IsReads f) same one) (blocked_reading f v all)

    t : Tries f i u (tries_read f i u)
    t = tries_it f i (u.node.played i) u refl reading
