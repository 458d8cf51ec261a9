-- Works in which no Ask or Answer is at work: nothing more waits for its place or is kept, letters are the group's, who waits did so
-- before, and what is performed beside the list are reads that waited.
use Rattle.std.proofs.Common.{◌≡◌, ◌≤◌, ◌+◌, ◌==◌, nat_lt, ℕ, zero, suc, ◌⊎◌, inl, inr, ⊎_elim, Bool, true, false, List, [], ◌∷◌, ◌++◌, Option, Some, None, refl, sym, ap, ◌∙◌, subst, arith, length, map, if◌then◌else◌}
use Rattle.std.proofs.lemmas.Bool.{cases_eq}
use Rattle.orca_base.specs.declared.ids.ObjectId.{ObjectId}
use Rattle.value_core.specs.declared.action.Action.{Action}
use Rattle.value_core.specs.declared.action.Line.{Line}
use Rattle.value_core.specs.declared.message.Message.{Message}
use Rattle.value_core.specs.Meaning.{Performs}
use Rattle.value_core.specs.History.{forked}
use Rattle.guard_queue.specs.Settles.{is_blocked}
use Rattle.object_manager.specs.After.{Copied, after as after_applied}
use Rattle.object_manager.specs.Singles.{after_passed}
use Rattle.group_rules.specs.Member.{Waiting}
use Rattle.group_rules.specs.Sets.{with_at}
use Rattle.group_rules.specs.Steps.{note}
use Rattle.group_rules.specs.Work.{Act, Work}
use Rattle.book_law.specs.Events.{In}
use Rattle.book_law.specs.Members.{after_entry}
use Rattle.book_law.specs.Passes.{Test, is_passed, lines_after}
use Rattle.book_law.specs.declared.placing.Placed.{Placed}
use Rattle.book_law.proofs.Courses.{at_other, at_own}
use Rattle.book_law.proofs.Lists.{in_push}
use Rattle.world_rules.specs.Applying.{answers, applies, applies_all, applies_each, applies_one, begins, copies_take, due_entries, notes, passes_limit, round, rounds, tries_as, tries_of, tries_read, tries_reads}
use Rattle.world_rules.specs.Bursts.{read_line, read_on}
use Rattle.world_rules.specs.Frame.{Frame, group}
use Rattle.world_rules.specs.Mail.{Mail}
use Rattle.world_rules.specs.Nodes.{Deed, NodeWork, aside_of, changes, if_played, joins, known, mails_of, plays}
use Rattle.world_rules.specs.Nodes.Deed.{Acts}
use Rattle.world_rules.specs.Played.{Played, Stage, newborn, receives}
use Rattle.world_rules.specs.Played.Stage.{Computing, Acting, Submitted, Reading, Asking, Over}
use Rattle.world_rules.specs.Processes.{Begun, begun_by, home_in, singles_of}
use Rattle.world_course.specs.Errands.{AsksFor, WaitsOn}
use Rattle.world_course.proofs.Tries.{performing}
use Rattle.world_course.proofs.Working.{takes_entry}

-- the letter is the group's
abbrev pub IsGrouped : Mail → Type 0
IsGrouped (Mail.Grouped letter) = Unit {0}
IsGrouped (Mail.Sends incarnation from to errand) = ⊥

-- it waits for the group, or with a read, or asks an owner
abbrev pub Waits : Stage → Type 0
Waits Computing = ⊥
Waits (Acting act) = ⊥
Waits (Submitted act) = Unit {0}
Waits (Reading act) = Unit {0}
Waits (Asking act) = Unit {0}
Waits (Over act) = ⊥

pub asks_waits : (stage : Stage) (o : ObjectId) → AsksFor stage o → Waits stage
asks_waits Computing o h = h
asks_waits (Acting act) o h = h
asks_waits (Submitted act) o h = absurd h
asks_waits (Reading act) o h = absurd h
asks_waits (Asking act) o h = tt
asks_waits (Over act) o h = h

pub shares_waits : (stage : Stage) (o : ObjectId) → WaitsOn stage o → Waits stage
shares_waits Computing o h = h
shares_waits (Acting act) o h = h
shares_waits (Submitted act) o h = tt
shares_waits (Reading act) o h = tt
shares_waits (Asking act) o h = absurd h
shares_waits (Over act) o h = h

-- a process of the work waited with this read
pub record WasRead (v : NodeWork) (r : Placed) : Type 0 where
  pub process : ℕ
  pub played : Played
  pub here : v.node.played process ≡ Some played
  pub reads : played.stage ≡ Reading r.line.action

pub record Silent (v u : NodeWork) : Type 0 where
  pub held : u.node.held ≡ v.node.held
  pub given : u.node.given ≡ v.node.given
  pub count : v.node.copies.processes ≤ u.node.copies.processes
  pub mails : (mail : Mail) → In mail (mails_of u.deeds) → In mail (mails_of v.deeds) ⊎ IsGrouped mail
  pub waits : (j : ℕ) (r : Played) → u.node.played j ≡ Some r → Waits r.stage → v.node.played j ≡ Some r
  pub beside : (r : Placed) → In r (aside_of u.deeds) → In r (aside_of v.deeds) ⊎ WasRead v r

no_fewer : (n : ℕ) → n ≤ n
no_fewer n = omega arith

no_less : (n k : ℕ) → n ≤ n + k
no_less n k = omega arith

pub silent : (v : NodeWork) → Silent v v
silent v = record { held = refl; given = refl; count = no_fewer v.node.copies.processes; mails = λ mail is. inl is; waits = λ j r is waits. is; beside = λ r is. inl is }

was_before : (v u : NodeWork) (r : Placed) → ((j : ℕ) (s : Played) → u.node.played j ≡ Some s → Waits s.stage → v.node.played j ≡ Some s) → WasRead u r → WasRead v r
was_before v u r back was = record {
  process = was.process;
  played = was.played;
  here = back was.process was.played was.here (subst Waits (sym was.reads) tt);
  reads = was.reads;
}

pub silent_on : (v u t : NodeWork) → Silent v u → Silent u t → Silent v t
silent_on v u t one two = record {
  held = two.held ∙ one.held;
  given = two.given ∙ one.given;
  count = let a = one.count in let b = two.count in omega (arith, a, b);
  mails = λ mail is. ⊎_elim (λ old. one.mails mail old) (λ new. inr new) (two.mails mail is);
  waits = λ j r is waits. one.waits j r (two.waits j r is waits) waits;
  beside = λ r is. ⊎_elim (λ old. one.beside r old) (λ was. inr (was_before v u r one.waits was)) (two.beside r is);
}

abbrev with_it : ℕ → Played → (ℕ → Option Played) → ℕ → Option Played
with_it i s played = with_at played i (Some s)

-- one process is set, and doesn't wait
played_by : (i : ℕ) (s : Played) (played : ℕ → Option Played) → (Waits s.stage → ⊥) → (j : ℕ) (r : Played) → (j ≡ i) ⊎ (j ≡ i → ⊥) → with_it i s played j ≡ Some r → Waits r.stage → played j ≡ Some r
played_by i s played never j r (inl e) is waits =
    let g : Some s ≡ Some r = sym (ap (with_it i s played) e ∙ at_own played i (Some s)) ∙ is in
    let h : s ≡ r = cc in
    absurd (never (subst (λ (z : Played). Waits z.stage) (sym h) waits))
played_by i s played never j r (inr apart) is waits = sym (at_other played i (Some s) j apart) ∙ is

pub silent_plays : (i : ℕ) (s : Played) (v : NodeWork) → (Waits s.stage → ⊥) → Silent v (plays i s v)
silent_plays i s v never = record {
  held = refl;
  given = refl;
  count = no_fewer v.node.copies.processes;
  mails = λ mail is. inl is;
  waits = λ j r is waits. played_by i s v.node.played never j r (cases_eq j i) is waits;
  beside = λ r is. inl is;
}

-- ---- entries

-- an entry begins processes, and ends none
entry_more : (test : Test) (p : Performs) (c : Copied) (x : Message) (keeps : Bool) → c.processes ≤ (after_entry test p c x keeps).processes
entry_more test p c x keeps = go (is_passed test x.action)
  where
    go : (b : Bool) → c.processes ≤ (if b then after_passed p keeps c x else after_applied p c x).processes
    go true = no_fewer c.processes
    go false = no_less c.processes (length (forked x.action))

silent_if : (change : Played → Played) (i : ℕ) (o : Option Played) (v : NodeWork) → ((r : Played) → Waits (change r).stage → ⊥) → Silent v (if_played change i o v)
silent_if change i None v never = silent v
silent_if change i (Some r) v never = silent_plays i (change r) v (never r)

silent_answers : (place : ℕ) (lines : List Line) (v : NodeWork) → Silent v (answers place lines v)
silent_answers place [] v = silent v
silent_answers place (l ∷ ls) v =
    let u : NodeWork = changes (receives place l.reply) l.process.0 v in
    silent_on v u (answers place ls u) (silent_if (receives place l.reply) l.process.0 (v.node.played l.process.0) v (λ r waits. absurd waits)) (silent_answers place ls u)

silent_begins : (m i : ℕ) (born : List Begun) (v : NodeWork) → Silent v (begins m i born v)
silent_begins m i [] v = silent v
silent_begins m i (b ∷ bs) v = go (b.home == m)
  where
    go : (t : Bool) → Silent v (if t then plays i (newborn b) v else v)
    go true = silent_plays i (newborn b) v (λ waits. absurd waits)
    go false = silent v

pub silent_entry : (f : Frame) (m : ℕ) (processes : List Begun) (count place : ℕ) (x : Message) (v : NodeWork) → Silent v (takes_entry f m processes count place x v)
silent_entry f m processes count place x v =
    let lines : List Line = lines_after (singles_of f processes) f.performs v.node.copies x in
    let u : NodeWork = copies_take f m processes x v in
    let t : NodeWork = answers place lines u in
    let first : Silent v u = record {
      held = refl;
      given = refl;
      count = entry_more (singles_of f processes) f.performs v.node.copies x (home_in processes x.process.0 == m);
      mails = λ mail is. inl is;
      waits = λ j r is waits. is;
      beside = λ r is. inl is;
    } in
    silent_on v u (takes_entry f m processes count place x v) first
    (silent_on u t (takes_entry f m processes count place x v) (silent_answers place lines u) (silent_begins m count (begun_by f.settings.nodes (home_in processes x.process.0) place x.action) t))

silent_try : (i : ℕ) (r : Played) (act : Action) (f : Frame) (v : NodeWork) (b : Bool) → v.node.played i ≡ Some r → r.stage ≡ Reading act → Silent v (if b then v else performing i r act (read_on f.performs v.node.copies.objects act) v)
silent_try i r act f v true here reads = silent v
silent_try i r act f v false here reads = record {
  held = refl;
  given = refl;
  count = no_fewer v.node.copies.processes;
  mails = λ mail is. inl is;
  waits = λ j q is waits. played_by i after v.node.played (λ never. absurd never) j q (cases_eq j i) is waits;
  beside = λ s is. ⊎_elim (λ old. inl old) (λ (e : s ≡ done). inr (record { process = i; played = r; here = here; reads = reads ∙ ap (λ (z : Placed). Reading z.line.action) (sym e) })) (in_push s done (aside_of v.deeds) is);
}
  where
    line : Line
    line = read_line (record { 0 = i }) r act (read_on f.performs v.node.copies.objects act)

    done : Placed
    done = record { place = v.node.copies.applied; line = line }

    after : Played
    after = receives v.node.copies.applied line.reply r

silent_as : (f : Frame) (i : ℕ) (r : Played) (stage : Stage) (v : NodeWork) → v.node.played i ≡ Some r → r.stage ≡ stage → Silent v (tries_as f i r stage v)
silent_as f i r (Reading act) v here is = silent_try i r act f v (is_blocked (read_on f.performs v.node.copies.objects act)) here is
silent_as f i r Computing v here is = silent v
silent_as f i r (Acting act) v here is = silent v
silent_as f i r (Submitted act) v here is = silent v
silent_as f i r (Asking act) v here is = silent v
silent_as f i r (Over act) v here is = silent v

silent_of : (f : Frame) (i : ℕ) (o : Option Played) (v : NodeWork) → v.node.played i ≡ o → Silent v (tries_of f i o v)
silent_of f i None v here = silent v
silent_of f i (Some r) v here = silent_as f i r r.stage v here refl

pub silent_read : (f : Frame) (i : ℕ) (v : NodeWork) → Silent v (tries_read f i v)
silent_read f i v = silent_of f i (v.node.played i) v refl

silent_reads : (f : Frame) (n : ℕ) (v : NodeWork) → Silent v (tries_reads f n v)
silent_reads f zero v = silent v
silent_reads f (suc i) v = silent_on v (tries_reads f i v) (tries_read f i (tries_reads f i v)) (silent_reads f i v) (silent_read f i (tries_reads f i v))

silent_one : (f : Frame) (m : ℕ) (x : Message) (v : NodeWork) → Silent v (applies_one f m x v)
silent_one f m x v =
    let u : NodeWork = takes_entry f m (known f v.node) v.node.copies.processes (suc v.node.copies.applied) x v in
    silent_on v u (applies_one f m x v) (silent_entry f m (known f v.node) v.node.copies.processes (suc v.node.copies.applied) x v) (silent_reads f u.node.copies.processes u)

silent_each : (f : Frame) (m : ℕ) (xs : List Message) (v : NodeWork) → Silent v (applies_each f m xs v)
silent_each f m [] v = silent v
silent_each f m (x ∷ xs) v = go (passes_limit f v.node x) (silent_each f m xs (applies_one f m x v))
  where
    go : (b : Bool) → Silent (applies_one f m x v) (applies_each f m xs (applies_one f m x v)) → Silent v (if b then v else applies_each f m xs (applies_one f m x v))
    go true rest = silent v
    go false rest = silent_on v (applies_one f m x v) (applies_each f m xs (applies_one f m x v)) (silent_one f m x v) rest

-- ---- the group

acts_grouped : (acts : List (Act Message)) (deeds : List Deed) (mail : Mail) → In mail (mails_of (map Acts acts ++ deeds)) → In mail (mails_of deeds) ⊎ IsGrouped mail
acts_grouped [] deeds mail is = inl is
acts_grouped (Act.Sends letter ∷ acts) deeds mail is = ⊎_elim (λ old. acts_grouped acts deeds mail old) (λ (e : mail ≡ Mail.Grouped letter). inr (subst IsGrouped (sym e) tt)) (in_push mail (Mail.Grouped letter) (mails_of (map Acts acts ++ deeds)) is)
acts_grouped (Act.Keeps packet ∷ acts) deeds mail is = acts_grouped acts deeds mail is
acts_grouped (Act.Orders k x ∷ acts) deeds mail is = acts_grouped acts deeds mail is
acts_grouped (Act.Begins k log answers ∷ acts) deeds mail is = acts_grouped acts deeds mail is

acts_beside : (acts : List (Act Message)) (deeds : List Deed) → aside_of (map Acts acts ++ deeds) ≡ aside_of deeds
acts_beside [] deeds = refl
acts_beside (act ∷ acts) deeds = acts_beside acts deeds

pub silent_joins : (work : Work Message) (v : NodeWork) → Silent v (joins work v)
silent_joins work v = record {
  held = refl;
  given = refl;
  count = no_fewer v.node.copies.processes;
  mails = λ mail is. acts_grouped work.acts v.deeds mail is;
  waits = λ j r is waits. is;
  beside = λ r is. inl (subst (λ (l : List Placed). In r l) (acts_beside work.acts v.deeds) is);
}

pub silent_notes : (f : Frame) (m : ℕ) (v : NodeWork) → Silent v (notes f m v)
silent_notes f m v = go (nat_lt v.node.member.applied v.node.copies.applied)
  where
    go : (b : Bool) → Silent v (if b then joins (note (group f) m v.node.copies.applied v.node.member) v else v)
    go true = silent_joins (note (group f) m v.node.copies.applied v.node.member) v
    go false = silent v

silent_round : (f : Frame) (m : ℕ) (v : NodeWork) → Silent v (round f m v)
silent_round f m v = silent_on v (applies f m v) (round f m v) (silent_each f m (due_entries v.node) v) (silent_notes f m (applies f m v))

silent_rounds : (f : Frame) (m : ℕ) (waiting : List (Waiting Message)) (v : NodeWork) → Silent v (rounds f m waiting v)
silent_rounds f m [] v = silent_round f m v
silent_rounds f m (waiting ∷ more) v = silent_on v (round f m v) (rounds f m more (round f m v)) (silent_round f m v) (silent_rounds f m more (round f m v))

pub silent_all : (f : Frame) (m : ℕ) (v : NodeWork) → Silent v (applies_all f m v)
silent_all f m v = silent_rounds f m v.node.member.waiting v
