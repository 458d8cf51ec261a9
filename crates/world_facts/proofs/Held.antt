-- Whatever holds of each process as it begins, and stays as it receives a reply, as its action is carried out and as it computes, holds of
-- each process in every run; no member knows a process that its copies don't count; and a read that waits is blocked on its member's copies.
use Rattle.std.proofs.Common.{⊎_elim, ◌≡◌, ◌==◌, ◌||◌, ◌≤◌, ◌<◌, ◌+◌, if◌then◌else◌, ℕ, zero, suc, Bool, true, false, List, [], ◌∷◌, length, Option, Some, None, refl, sym, ap, ◌∙◌, arith, subst, nat_lt, nat_le, is_some, leb}
use Rattle.std.proofs.lemmas.Bool.{cases_eq, cond_both, eqb-false, eqb-true, leb-false}
use Rattle.orca_base.specs.declared.ids.CallNo.{CallNo}
use Rattle.orca_base.specs.declared.ids.ProcessNo.{ProcessNo}
use Rattle.orca_base.specs.declared.limits.TheConstants.{PROCESSES}
use Rattle.orca_base.specs.declared.what.What.{What}
use Rattle.orca_base.specs.declared.what.What.TheVariants as what
use Rattle.object_manager.specs.Limits.{too_many}
use Rattle.value_core.specs.Meaning.{Performs}
use Rattle.value_core.specs.History.{Objects, forked}
use Rattle.value_core.specs.declared.action.Action.{Action}
use Rattle.value_core.specs.declared.action.Action.TheVariants as action
use Rattle.value_core.specs.declared.action.Class.{Class}
use Rattle.value_core.specs.declared.action.Class.TheVariants.{Reads, Writes}
use Rattle.value_core.specs.declared.action.Line.{Line}
use Rattle.value_core.specs.declared.action.Reply.{Reply}
use Rattle.value_core.specs.declared.meaning.Tried.{Tried}
use Rattle.value_core.specs.declared.message.Message.{Message}
use Rattle.value_core.specs.declared.processor.Halt.{Halt}
use Rattle.value_core.specs.declared.processor.Halt.TheVariants as halt
use Rattle.guard_queue.specs.Settles.{is_blocked}
use Rattle.guard_queue.specs.declared.queue.Suspended.{Suspended}
use Rattle.object_manager.specs.After.{Copied, opening_copies}
use Rattle.object_manager.specs.Singles.{after_single, lines_single}
use Rattle.object_manager.specs.State.{message_of}
use Rattle.book_law.specs.Members.{after_entry}
use Rattle.book_law.specs.Passes.{Test, is_passed, lines_after}
use Rattle.group_rules.specs.Member.{Waiting, nobody}
use Rattle.group_rules.specs.Reset.{coordinate}
use Rattle.group_rules.specs.Sets.{with_at}
use Rattle.group_rules.specs.Steps.{timer}
use Rattle.net_rules.specs.Flights.{ready_copy, ticked, without}
use Rattle.net_rules.specs.declared.fate.Fate.{Fate}
use Rattle.net_rules.specs.declared.flight.Flight.{Flight}
use Rattle.world_rules.specs.declared.event.Event.{Event}
use Rattle.world_rules.specs.declared.event.Event.TheVariants as event
use Rattle.world_rules.specs.declared.event.Step.{Step}
use Rattle.world_rules.specs.Applying.{answers, applies, applies_all, applies_each, applies_one, begins, copies_take, due_entries, notes, passes_limit, performs_read, round, rounds, tries_as, tries_of, tries_read, tries_reads}
use Rattle.world_rules.specs.Bursts.{Ran, last_turn, read_line, read_on, reads_on}
use Rattle.world_rules.specs.Frame.{Frame, group}
use Rattle.world_rules.specs.Mail.{Carried, Errand, Mail, is_whole, place_of, receiver_of}
use Rattle.world_rules.specs.Mail.Errand.{Ask, Answer}
use Rattle.world_rules.specs.Nodes.{Given, Node, NodeWork, becomes, changes, does, idle, if_played, joins, known, opening_node, plays}
use Rattle.world_rules.specs.Nodes.Deed.{Performs as Performing}
use Rattle.world_rules.specs.Owners.{arrives, hands, hands_all, hands_to, hears_as, hears_of, holds, is_held, performs_call, takes, takes_asked, takes_call, takes_each, takes_reached, waits_here}
use Rattle.world_rules.specs.Parts.{acts, acts_at, acts_by, acts_of, asks, asks_again, asks_again_at, asks_again_by, asks_again_of, asks_below, asks_owner, calls, calls_as, catches_up, computes, performs_all, receives_mail, submits, suspects, ticks}
use Rattle.world_rules.specs.Parts.{receives as receives_at}
use Rattle.world_rules.specs.Played.{Played, Stage, at_action, moves_to, newborn, next_call, receives, stage_at}
use Rattle.world_rules.specs.Played.Stage.{Computing, Acting, Submitted, Reading, Asking, Over}
use Rattle.world_rules.specs.Processes.{Begun, begun_by, first_process, home_in, owner_in, singles_of}
use Rattle.world_rules.specs.Steps.{AtWork, Burst, IsBurst, Known, Leads, Next, Possible, after_part, closes, comes, comes_whole, happens, lives_in, posts, posts_all, ticks_below, untouched}
use Rattle.world_rules.specs.Worlds.{World, home_of, opening_world}
use Rattle.world_facts.proofs.Homes.{born_many}

-- ---- maps

pub at_both : {A : Type 0} (g : ℕ → A) (k : ℕ) (v : A) (x : ℕ) (P : A → Type 0) → (x ≡ k → P v) → ((x ≡ k → ⊥) → P (g x)) →
    P (with_at g k v x)
at_both g k v x P here other = cond_both (x == k) v (g x) P (λ e. here (eqb-true x k e)) (λ e. other (eqb-false x k e))

-- ---- what is said of a process

-- `born`, as it begins; `replied`, with one reply more; `moved`, once its action was carried out; `ran`, after a burst
pub record Closed (f : Frame) (P : ℕ → Played → Type 0) : Type 0 where
  pub born : (i : ℕ) (process : Begun) → P i (newborn process)
  pub replied : (i place : ℕ) (reply : Reply) (r : Played) → P i r → P i (receives place reply r)
  pub moved :
      (i : ℕ) (r : Played) (act : Action) → P i r → r.stage ≡ Acting act →
      P i (moves_to (Submitted act) r) × P i (moves_to (Reading act) r) × P i (moves_to (Asking act) r)
  pub ran :
      (objects : Objects) (place : ℕ) (i : ProcessNo) (r : Played) (lines : List Line) (end : Played) → P i.0 r → r.stage ≡ Computing →
      Ran f objects place i (last_turn f r) r lines end → P i.0 end

-- where it waits with a read, that one is blocked on these objects
abbrev pub Rested : Frame → Objects → Stage → Type 0
Rested f objects stage = (act : Action) → stage ≡ Reading act → is_blocked (read_on f.performs objects act) ≡ true

idle_rests : (f : Frame) (objects : Objects) → Rested f objects Computing
idle_rests f objects act e = absurd (cc e)

-- so it is of each process that a member knows; the member's copies count it, and they count no more processes than there may be; and those
-- that are due rest
abbrev pub Loose : Frame → (ℕ → Played → Type 0) → (ℕ → Type 0) → Node → Type 0
Loose f P due node =
    (node.copies.processes ≤ PROCESSES)
    × ((i : ℕ) (r : Played) → node.played i ≡ Some r →
    (i < node.copies.processes) × P i r × (due i → Rested f node.copies.objects r.stage))

abbrev pub Each : ℕ → Type 0
Each i = Unit {0}

abbrev pub Nobody : ℕ → Type 0
Nobody i = ⊥

abbrev pub Below : ℕ → ℕ → Type 0
Below n i = i < n

abbrev pub But : (ℕ → Type 0) → ℕ → ℕ → Type 0
But due i j = due j × (j ≡ i → ⊥)

-- all of them rest
abbrev pub Holds : Frame → (ℕ → Played → Type 0) → Node → Type 0
Holds f P node = Loose f P Each node

abbrev pub AllHold : Frame → (ℕ → Played → Type 0) → World → Type 0
AllHold f P w = (m : ℕ) → Holds f P (w.nodes m)

fewer : (f : Frame) (P : ℕ → Played → Type 0) (due less : ℕ → Type 0) (node : Node) → ((i : ℕ) → less i → due i) → Loose f P due node →
    Loose f P less node
fewer f P due less node sub h = (h.0, λ i r is. let k = h.1 i r is in (k.0, k.1, λ l. k.2 (sub i l)))

-- ---- the copies' numbers of processes

passed_forks_none : (single : Test) (a : Action) → is_passed single a ≡ true → length (forked a) ≡ 0
passed_forks_none single (action.Make kind object) e = refl
passed_forks_none single (action.Call kind op object args) e = refl
passed_forks_none single (action.Fork text args place_on) e = let h : false ≡ true = e in cc h
passed_forks_none single action.Ended e = refl
passed_forks_none single (action.Faulted fault) e = refl

counts : (single : Test) (p : Performs) (c : Copied) (x : Message) (keeps : Bool) →
    (after_entry single p c x keeps).processes ≡ c.processes + length (forked x.action)
counts single p c x keeps = cond_both (is_passed single x.action) _ _ (λ (z : Copied). z.processes ≡ c.processes + length (forked x.action))
    (λ e. let n = passed_forks_none single x.action e in omega (arith, n)) (λ e. refl)

-- a limit that isn't passed
below : (most n : ℕ) (passed : What × ℕ) → (if leb most n then Some passed else None) ≡ None → n < most
below most n passed e = go (leb most n) refl e
  where
    go : (b : Bool) → leb most n ≡ b → (if b then Some passed else None) ≡ None → n < most
    go true is h = absurd (cc h)
    go false is h = leb-false most n is

few_after : (p : Performs) (c : Copied) (a : Action) → c.processes ≤ PROCESSES → too_many p c a ≡ None →
    c.processes + length (forked a) ≤ PROCESSES
few_after p c (action.Make kind object) few none = omega (arith, few)
few_after p c (action.Call kind op object args) few none = omega (arith, few)
few_after p c (action.Fork text args place_on) few none =
    let less = below PROCESSES c.processes (what.Processes, PROCESSES) none in omega (arith, less)
few_after p c action.Ended few none = omega (arith, few)
few_after p c (action.Faulted fault) few none = omega (arith, few)

none_of : {A : Type 0} (o : Option A) → is_some o ≡ false → o ≡ None
none_of None e = refl
none_of (Some x) e = absurd (cc e)

count_if : (change : Played → Played) (i : ℕ) (o : Option Played) (v : NodeWork) →
    (if_played change i o v).node.copies.processes ≡ v.node.copies.processes
count_if change i None v = refl
count_if change i (Some r) v = refl

count_answers : (place : ℕ) (lines : List Line) (v : NodeWork) → (answers place lines v).node.copies.processes ≡ v.node.copies.processes
count_answers place [] v = refl
count_answers place (l ∷ ls) v = count_answers place ls (changes (receives place l.reply) l.process.0 v)
    ∙ count_if (receives place l.reply) l.process.0 (v.node.played l.process.0) v

count_read : (i : ℕ) (r : Played) (act : Action) (t : Tried) (v : NodeWork) →
    (performs_read i r act t v).node.copies.processes ≡ v.node.copies.processes
count_read i r act t v = cond_both (is_blocked t) _ _ (λ (u : NodeWork). u.node.copies.processes ≡ v.node.copies.processes)
    (λ e. refl) (λ e. refl)

count_as : (f : Frame) (i : ℕ) (r : Played) (stage : Stage) (v : NodeWork) →
    (tries_as f i r stage v).node.copies.processes ≡ v.node.copies.processes
count_as f i r (Reading act) v = count_read i r act _ v
count_as f i r Computing v = refl
count_as f i r (Acting act) v = refl
count_as f i r (Submitted act) v = refl
count_as f i r (Asking act) v = refl
count_as f i r (Over act) v = refl

count_of : (f : Frame) (i : ℕ) (o : Option Played) (v : NodeWork) → (tries_of f i o v).node.copies.processes ≡ v.node.copies.processes
count_of f i None v = refl
count_of f i (Some r) v = count_as f i r r.stage v

count_tried : (f : Frame) (n : ℕ) (v : NodeWork) → (tries_reads f n v).node.copies.processes ≡ v.node.copies.processes
count_tried f zero v = refl
count_tried f (suc i) v = count_of f i ((tries_reads f i v).node.played i) (tries_reads f i v) ∙ count_tried f i v

-- the same process
same_stage : (r s : Played) (o : Option Played) → o ≡ Some r → o ≡ Some s → r.stage ≡ s.stage
same_stage r s o one two =
    let found : Some r ≡ Some s = sym one ∙ two in
    let same : r ≡ s = cc in
    ap (λ (z : Played). z.stage) same

module _ (f : Frame) (P : ℕ → Played → Type 0) (c : Closed f P) (due : ℕ → Type 0) where
  -- ---- one process

  abbrev Near : NodeWork → Type 0
  Near v = Loose f P due v.node

  plays_near : (i : ℕ) (t : Played) (v : NodeWork) → i < v.node.copies.processes → P i t →
      (due i → Rested f v.node.copies.objects t.stage) → Loose f P (But due i) v.node → Near (plays i t v)
  plays_near i t v low p rest h = (
    h.0,
    λ j s is. at_both v.node.played i (Some t) j
        (λ (z : Option Played). z ≡ Some s →
        (j < v.node.copies.processes) × P j s × (due j → Rested f v.node.copies.objects s.stage))
        (λ e found.
        let same : t ≡ s = cc in (
          omega (arith, low, e),
          subst (λ k. P k s) (sym e) (subst (P i) same p),
          λ d. subst (λ (z : Played). Rested f v.node.copies.objects z.stage) same (rest (subst due e d)),
        ))
        (λ other found. let k = h.1 j s found in (k.0, k.1, λ d. k.2 (d, other))) is,
  )

  keeps_near : (i : ℕ) (v : NodeWork) → ((r : Played) → v.node.played i ≡ Some r → due i → Rested f v.node.copies.objects r.stage) →
      Loose f P (But due i) v.node → Near v
  keeps_near i v rest h = (
    h.0,
    λ j s is.
        let k = h.1 j s is in (
          k.0,
          k.1,
          λ d. ⊎_elim
              (λ (e : j ≡ i). rest s (ap v.node.played (sym e) ∙ is) (subst due e d))
              (λ other. k.2 (d, other))
              (cases_eq j i),
        ),
  )

  plays_new : (i : ℕ) (t : Played) (v : NodeWork) → i < v.node.copies.processes → P i t →
      (due i → Rested f v.node.copies.objects t.stage) → Near v → Near (plays i t v)
  plays_new i t v low p rest h = plays_near i t v low p rest (fewer f P due (But due i) v.node (λ j d. d.0) h)

  plays_on : (i : ℕ) (r t : Played) (v : NodeWork) → v.node.played i ≡ Some r → P i t →
      (due i → Rested f v.node.copies.objects t.stage) → Near v → Near (plays i t v)
  plays_on i r t v here p rest h = plays_new i t v (h.1 i r here).0 p rest h

  replies_if : (place : ℕ) (reply : Reply) (i : ℕ) (o : Option Played) (v : NodeWork) → v.node.played i ≡ o → Near v →
      Near (if_played (receives place reply) i o v)
  replies_if place reply i None v is h = h
  replies_if place reply i (Some r) v is h =
      plays_on i r (receives place reply r) v is (c.replied i place reply r (h.1 i r is).1) (λ d. idle_rests f v.node.copies.objects) h

  replies_on : (place : ℕ) (reply : Reply) (i : ℕ) (v : NodeWork) → Near v → Near (changes (receives place reply) i v)
  replies_on place reply i v h = replies_if place reply i (v.node.played i) v refl h

  -- ---- a read is tried, and then rests, where the others did

  read_tried : (i : ℕ) (r : Played) (act : Action) (v : NodeWork) → v.node.played i ≡ Some r → r.stage ≡ Reading act →
      Loose f P (But due i) v.node → Near (performs_read i r act (read_on f.performs v.node.copies.objects act) v)
  read_tried i r act v here at_read h =
      let t : Tried = read_on f.performs v.node.copies.objects act in
      cond_both (is_blocked t) _ _ Near
      (λ e. keeps_near i v
      (λ s is d b reads.
      let same : Reading act ≡ Reading b = sym at_read ∙ same_stage r s (v.node.played i) here is ∙ reads in
      let acts_same : act ≡ b = cc in
      subst (λ (z : Action). is_blocked (read_on f.performs v.node.copies.objects z) ≡ true) acts_same e) h)
      (λ e.
      let line : Line = read_line (record { 0 = i }) r act t in
      let u : NodeWork = does (Performing (record { place = v.node.copies.applied; line = line })) v in
      plays_near i (receives v.node.copies.applied line.reply r) u (h.1 i r here).0
      (c.replied i v.node.copies.applied line.reply r (h.1 i r here).1) (λ d. idle_rests f v.node.copies.objects) h)

  tried_as : (i : ℕ) (r : Played) (stage : Stage) (v : NodeWork) → v.node.played i ≡ Some r → r.stage ≡ stage →
      Loose f P (But due i) v.node → Near (tries_as f i r stage v)
  tried_as i r (Reading act) v here is h = read_tried i r act v here is h
  tried_as i r Computing v here is h = keeps_near i v
      (λ s found d b reads.
      let e : Computing ≡ Reading b = sym is ∙ same_stage r s (v.node.played i) here found ∙ reads in absurd (cc e)) h
  tried_as i r (Acting act) v here is h = keeps_near i v
      (λ s found d b reads.
      let e : Acting act ≡ Reading b = sym is ∙ same_stage r s (v.node.played i) here found ∙ reads in absurd (cc e)) h
  tried_as i r (Submitted act) v here is h = keeps_near i v
      (λ s found d b reads.
      let e : Submitted act ≡ Reading b = sym is ∙ same_stage r s (v.node.played i) here found ∙ reads in absurd (cc e)) h
  tried_as i r (Asking act) v here is h = keeps_near i v
      (λ s found d b reads.
      let e : Asking act ≡ Reading b = sym is ∙ same_stage r s (v.node.played i) here found ∙ reads in absurd (cc e)) h
  tried_as i r (Over act) v here is h = keeps_near i v
      (λ s found d b reads.
      let e : Over act ≡ Reading b = sym is ∙ same_stage r s (v.node.played i) here found ∙ reads in absurd (cc e)) h

  tried_of : (i : ℕ) (o : Option Played) (v : NodeWork) → v.node.played i ≡ o → Loose f P (But due i) v.node → Near (tries_of f i o v)
  tried_of i None v is h = keeps_near i v (λ s found. let e : None ≡ Some s = sym is ∙ found in absurd (cc e)) h
  tried_of i (Some r) v is h = tried_as i r r.stage v is refl h

  tried : (i : ℕ) (v : NodeWork) → Loose f P (But due i) v.node → Near (tries_read f i v)
  tried i v h = tried_of i (v.node.played i) v refl h

  -- ---- entries

  answered : (place : ℕ) (lines : List Line) (v : NodeWork) → Near v → Near (answers place lines v)
  answered place [] v h = h
  answered place (l ∷ ls) v h =
      answered place ls (changes (receives place l.reply) l.process.0 v) (replies_on place l.reply l.process.0 v h)

  begun : (m count : ℕ) (born : List Begun) (v : NodeWork) → count + length born ≤ v.node.copies.processes → Near v →
      Near (begins m count born v)
  begun m count [] v room h = h
  begun m count (process ∷ processes) v room h = cond_both (process.home == m) _ _ Near
      (λ e. plays_new count (newborn process) v (omega (arith, room)) (c.born count process) (λ d. idle_rests f v.node.copies.objects) h)
      (λ e. h)

-- the reads of the processes below a number, one by one
tried_all : (f : Frame) (P : ℕ → Played → Type 0) → Closed f P → (n : ℕ) (v : NodeWork) → Loose f P Nobody v.node →
    Loose f P (Below n) (tries_reads f n v).node
tried_all f P c zero v h = fewer f P Nobody (Below zero) v.node (λ i lt. omega (arith, lt)) h
tried_all f P c (suc i) v h =
    tried f P c (Below (suc i)) i (tries_reads f i v)
    (fewer f P (Below i) (But (Below (suc i)) i) (tries_reads f i v).node
    (λ j d. let lt = d.0 in let other = d.1 in omega (arith, lt, other)) (tried_all f P c i v h))

-- a burst doesn't end at a read that waits
not_reading_at : (act other : Action) → at_action act ≡ Reading other → ⊥
not_reading_at (action.Make kind object) other e = cc e
not_reading_at (action.Call kind op object args) other e = cc e
not_reading_at (action.Fork text args place_on) other e = cc e
not_reading_at action.Ended other e = cc e
not_reading_at (action.Faulted fault) other e = cc e

not_reading : (at_halt : Halt) (other : Action) → stage_at at_halt ≡ Reading other → ⊥
not_reading (halt.At act) other e = not_reading_at act other e
not_reading halt.Paused other e = cc e

ran_rests : (f : Frame) (objects seen : Objects) (place : ℕ) (i : ProcessNo) (last : ℕ) (r : Played) (lines : List Line) (end : Played) →
    Ran f seen place i last r lines end → Rested f objects end.stage
ran_rests f objects seen place i last r [] end ran act is =
    absurd (not_reading ran.0 act (ap (λ (z : Played). z.stage) (sym ran.4) ∙ is))
ran_rests f objects seen place i last r (line ∷ lines) end ran act is =
    ran_rests f objects seen place i last (reads_on place ran.1 line r) lines end ran.5 act is

module _ (f : Frame) (P : ℕ → Played → Type 0) (c : Closed f P) where
  -- ---- entries

  abbrev On : NodeWork → Type 0
  On v = Holds f P v.node

  -- it stands elsewhere now, and not at a read that waits
  moves_on : (i : ℕ) (r t : Played) (v : NodeWork) → v.node.played i ≡ Some r → P i t → Rested f v.node.copies.objects t.stage → On v →
      On (plays i t v)
  moves_on i r t v here p rest h = plays_on f P c Each i r t v here p (λ d. rest) h

  taken : (m : ℕ) (processes : List Begun) (x : Message) (v : NodeWork) → too_many f.performs v.node.copies x.action ≡ None → On v →
      Loose f P Nobody (copies_take f m processes x v).node
  taken m processes x v none h =
      let new = counts (singles_of f processes) f.performs v.node.copies x (home_in processes x.process.0 == m) in
      let few = few_after f.performs v.node.copies x.action h.0 none in
      (omega (arith, new, few), λ i r is. let k = h.1 i r is in let low = k.0 in (omega (arith, low, new), k.1, λ nobody_due. absurd nobody_due))

  applied_one : (m : ℕ) (x : Message) (v : NodeWork) → too_many f.performs v.node.copies x.action ≡ None → On v → On (applies_one f m x v)
  applied_one m x v none h =
      let ps : List Begun = known f v.node in
      let count : ℕ = v.node.copies.processes in
      let place : ℕ = suc v.node.copies.applied in
      let t : NodeWork = copies_take f m ps x v in
      let lines : List Line = lines_after (singles_of f ps) f.performs v.node.copies x in
      let told : NodeWork = answers place lines t in
      let born : List Begun = begun_by f.settings.nodes (home_in ps x.process.0) place x.action in
      let u : NodeWork = begins m count born told in
      let many = born_many f.settings.nodes (home_in ps x.process.0) place x.action in
      let new = counts (singles_of f ps) f.performs v.node.copies x (home_in ps x.process.0 == m) in
      let now = count_answers place lines t in
      let n : ℕ = u.node.copies.processes in
      let all : Loose f P (Below n) (tries_reads f n u).node =
      tried_all f P c n u
      (begun f P c Nobody m count born told (omega (arith, many, new, now)) (answered f P c Nobody place lines t (taken m ps x v none h))) in
      let same = count_tried f n u in
      (all.0, λ i r is. let k = all.1 i r is in let low = k.0 in (k.0, k.1, λ d. k.2 (omega (arith, low, same))))

  applied_each : (m : ℕ) (xs : List Message) (v : NodeWork) → On v → On (applies_each f m xs v)
  applied_each m [] v h = h
  applied_each m (x ∷ xs) v h = cond_both (passes_limit f v.node x) _ _ On (λ e. h)
      (λ e. applied_each m xs (applies_one f m x v) (applied_one m x v (none_of (too_many f.performs v.node.copies x.action) e) h))

  noted : (m : ℕ) (v : NodeWork) → On v → On (notes f m v)
  noted m v h = cond_both (nat_lt v.node.member.applied v.node.copies.applied) _ _ On (λ e. h) (λ e. h)

  one_round : (m : ℕ) (v : NodeWork) → On v → On (round f m v)
  one_round m v h = noted m (applies f m v) (applied_each m (due_entries v.node) v h)

  all_rounds : (m : ℕ) (waiting : List (Waiting Message)) (v : NodeWork) → On v → On (rounds f m waiting v)
  all_rounds m [] v h = one_round m v h
  all_rounds m (one ∷ more) v h = all_rounds m more (round f m v) (one_round m v h)

  -- ---- single copies

  handed_to : (m home place : ℕ) (l : Line) (v : NodeWork) → On v → On (hands_to m home place l v)
  handed_to m home place l v h = cond_both (home == m) _ _ On (λ e. replies_on f P c Each place l.reply l.process.0 v h) (λ e. h)

  handed : (m : ℕ) (l : Line) (v : NodeWork) → On v → On (hands f m l v)
  handed m l v h = handed_to m (home_in (known f v.node) l.process.0) v.node.copies.applied l
      (does (Performing (record { place = v.node.copies.applied; line = l })) v) h

  handed_all : (m : ℕ) (ls : List Line) (v : NodeWork) → On v → On (hands_all f m ls v)
  handed_all m [] v h = h
  handed_all m (l ∷ ls) v h = handed_all m ls (hands f m l v) (handed m l v h)

  call_performed : (m : ℕ) (x : Message) (v : NodeWork) → On v → On (performs_call f m x v)
  call_performed m x v h = handed_all m (lines_single f.performs v.node.copies x)
      (becomes (record v.node { copies = after_single f.performs v.node.copies x }) v) h

  call_taken : (m : ℕ) (x : Message) (v : NodeWork) → On v → On (takes_call f m x v)
  call_taken m x v h = cond_both (waits_here x v.node.copies.waits) _ _ On (λ e. h) (λ e. call_performed m x v h)

  asked_taken : (m : ℕ) (x : Message) (given : Option Given) (v : NodeWork) → On v → On (takes_asked f m x given v)
  asked_taken m x None v h = call_taken m x v h
  asked_taken m x (Some given) v h = cond_both (nat_lt given.call.0 x.call.0) _ _ On (λ e. call_taken m x v h)
      (λ e. cond_both (given.call.0 == x.call.0) _ _ On (λ d. h) (λ d. h))

  heard_as : (place i : ℕ) (call : CallNo) (reply : Reply) (r : Played) (stage : Stage) (v : NodeWork) → v.node.played i ≡ Some r → On v →
      On (hears_as place i call reply r stage v)
  heard_as place i call reply r (Asking act) v here h = cond_both (call.0 == length r.replies) _ _ On
      (λ e. moves_on i r (receives place reply r) v here (c.replied i place reply r (h.1 i r here).1) (idle_rests f v.node.copies.objects) h)
      (λ e. h)
  heard_as place i call reply r Computing v here h = h
  heard_as place i call reply r (Acting act) v here h = h
  heard_as place i call reply r (Submitted act) v here h = h
  heard_as place i call reply r (Reading act) v here h = h
  heard_as place i call reply r (Over act) v here h = h

  heard_of : (place i : ℕ) (call : CallNo) (reply : Reply) (o : Option Played) (v : NodeWork) → v.node.played i ≡ o → On v →
      On (hears_of place i call reply o v)
  heard_of place i call reply None v is h = h
  heard_of place i call reply (Some r) v is h = heard_as place i call reply r r.stage v is h

  took : (m : ℕ) (errand : Errand) (v : NodeWork) → On v → On (takes f m errand v)
  took m (Ask place x) v h = asked_taken m x (v.node.given x.process.0) v h
  took m (Answer place i call reply) v h = heard_of place i.0 call reply (v.node.played i.0) v refl h

  took_each : (m : ℕ) (errands : List Errand) (v : NodeWork) → On v → On (takes_each f m errands v)
  took_each m [] v h = h
  took_each m (errand ∷ errands) v h =
      took_each m errands (if nat_le (place_of errand) v.node.copies.applied then takes f m errand v else holds errand v)
      (cond_both (nat_le (place_of errand) v.node.copies.applied) (takes f m errand v) (holds errand v) On (λ e. took m errand v h) (λ e. h))

  took_reached : (m : ℕ) (v : NodeWork) → On v → On (takes_reached f m v)
  took_reached m v h = cond_both v.node.member.outside _ _ On (λ e. h)
      (λ e. took_each m v.node.held (becomes (record v.node { held = [] }) v) h)

  arrived : (errand : Errand) (v : NodeWork) → On v → On (arrives errand v)
  arrived errand v h = cond_both (v.node.member.outside || is_held errand v.node.held) _ _ On (λ e. h) (λ e. h)

  caught_up : (m : ℕ) (v : NodeWork) → On v → On (catches_up f m v)
  caught_up m v h = took_reached m (applies_all f m v) (all_rounds m v.node.member.waiting v h)

  -- ---- Asks again

  owner_asked : (m : ℕ) (r : Played) (call : Suspended) (v : NodeWork) → On v → On (asks_owner f m r call v)
  owner_asked m r call v h = cond_both (owner_in (known f v.node) call.object == m) _ _ On (λ e. h) (λ e. h)

  again_by : (m i : ℕ) (r : Played) (act : Action) (v : NodeWork) → On v → On (asks_again_by f m i r act v)
  again_by m i r (action.Call kind op object args) v h = owner_asked m r _ v h
  again_by m i r (action.Make kind object) v h = h
  again_by m i r (action.Fork text args place_on) v h = h
  again_by m i r action.Ended v h = h
  again_by m i r (action.Faulted fault) v h = h

  again_at : (m i : ℕ) (r : Played) (stage : Stage) (v : NodeWork) → On v → On (asks_again_at f m i r stage v)
  again_at m i r (Asking act) v h = again_by m i r act v h
  again_at m i r Computing v h = h
  again_at m i r (Acting act) v h = h
  again_at m i r (Submitted act) v h = h
  again_at m i r (Reading act) v h = h
  again_at m i r (Over act) v h = h

  again_of : (m i : ℕ) (o : Option Played) (v : NodeWork) → On v → On (asks_again_of f m i o v)
  again_of m i None v h = h
  again_of m i (Some r) v h = again_at m i r r.stage v h

  again_below : (m n : ℕ) (v : NodeWork) → On v → On (asks_below f m n v)
  again_below m zero v h = h
  again_below m (suc i) v h = again_of m i ((asks_below f m i v).node.played i) (asks_below f m i v) (again_below m i v h)

  again : (m : ℕ) (v : NodeWork) → On v → On (asks_again f m v)
  again m v h = cond_both v.node.member.outside _ _ On (λ e. h) (λ e. again_below m v.node.copies.processes v h)

  -- ---- an action is carried out

  submitted : (m i : ℕ) (r : Played) (act : Action) (x : Message) (v : NodeWork) → v.node.played i ≡ Some r → r.stage ≡ Acting act → On v →
      On (submits f m i r act x v)
  submitted m i r act x v here is h =
      moves_on i r (moves_to (Submitted act) r) v here (c.moved i r act (h.1 i r here).1 is).0 (λ b e. absurd (cc e)) h

  asked : (m i : ℕ) (r : Played) (call : Suspended) (v : NodeWork) → v.node.played i ≡ Some r → r.stage ≡ Acting (message_of call).action →
      On v → On (asks f m i r call v)
  asked m i r call v here is h =
      let u : NodeWork = plays i (moves_to (Asking (message_of call).action) r) v in
      let k : On u = moves_on i r (moves_to (Asking (message_of call).action) r) v here
      (c.moved i r (message_of call).action (h.1 i r here).1 is).2 (λ b e. absurd (cc e)) h in
      cond_both (owner_in (known f v.node) call.object == m) _ _ On (λ e. call_performed m (message_of call) u k) (λ e. k)

  called_as : (m i : ℕ) (r : Played) (call : Suspended) (class : Class) (v : NodeWork) → v.node.played i ≡ Some r →
      r.stage ≡ Acting (message_of call).action → On v → On (calls_as f m i r call class v)
  called_as m i r call Reads v here is h =
      let act : Action = (message_of call).action in
      let p = (c.moved i r act (h.1 i r here).1 is).1 in
      tried f P c Each i (plays i (moves_to (Reading act) r) v)
      (plays_on f P c (But Each i) i r (moves_to (Reading act) r) v here p (λ d. absurd (d.1 refl))
      (fewer f P Each (But Each i) v.node (λ j d. tt) h))
  called_as m i r call Writes v here is h = submitted m i r (message_of call).action (message_of call) v here is h

  called : (m i : ℕ) (r : Played) (call : Suspended) (v : NodeWork) → v.node.played i ≡ Some r → r.stage ≡ Acting (message_of call).action →
      On v → On (calls f m i r call v)
  called m i r call v here is h = cond_both (singles_of f (known f v.node) call.object) _ _ On (λ e. asked m i r call v here is h)
      (λ e. called_as m i r call (f.performs.class_of call.kind call.op) v here is h)

  acted_by : (m i : ℕ) (r : Played) (act : Action) (v : NodeWork) → v.node.played i ≡ Some r → r.stage ≡ Acting act → On v →
      On (acts_by f m i r act v)
  acted_by m i r (action.Make kind object) v here is h =
      let x : Message = record { process = record { 0 = i }; call = next_call r; action = action.Make kind object; performable = refl } in
      submitted m i r (action.Make kind object) x v here is h
  acted_by m i r (action.Call kind op object args) v here is h =
      called m i r (record { process = record { 0 = i }; call = next_call r; kind = kind; op = op; object = object; args = args }) v here is h
  acted_by m i r (action.Fork text args place_on) v here is h =
      let x : Message = record { process = record { 0 = i }; call = next_call r; action = action.Fork text args place_on; performable = refl } in
      submitted m i r (action.Fork text args place_on) x v here is h
  acted_by m i r action.Ended v here is h = h
  acted_by m i r (action.Faulted fault) v here is h = h

  acted_at : (m i : ℕ) (r : Played) (stage : Stage) (v : NodeWork) → v.node.played i ≡ Some r → r.stage ≡ stage → On v →
      On (acts_at f m i r stage v)
  acted_at m i r (Acting act) v here is h = acted_by m i r act v here is h
  acted_at m i r Computing v here is h = h
  acted_at m i r (Submitted act) v here is h = h
  acted_at m i r (Reading act) v here is h = h
  acted_at m i r (Asking act) v here is h = h
  acted_at m i r (Over act) v here is h = h

  acted_of : (m i : ℕ) (o : Option Played) (v : NodeWork) → v.node.played i ≡ o → On v → On (acts_of f m i o v)
  acted_of m i None v is h = h
  acted_of m i (Some r) v is h = acted_at m i r r.stage v is refl h

  came : (m : ℕ) (mail : Mail) (v : NodeWork) → On v → On (receives_mail f m mail v)
  came m (Mail.Grouped letter) v h = h
  came m (Mail.Sends incarnation from to errand) v h = arrived errand v h

  -- ---- a burst

  played_same : (place : ℕ) (lines : List Line) (v : NodeWork) (i : ℕ) → (performs_all place lines v).node ≡ v.node
  played_same place [] v i = refl
  played_same place (l ∷ ls) v i = played_same place ls (does (Performing (record { place = place; line = l })) v) i

  burst_held : (w : World) (i : ProcessNo) (place turns : ℕ) (burst : Burst) → IsBurst f w i place turns burst →
      Holds f P (w.nodes (home_of f w i.0)) →
      Holds f P (computes i.0 place burst.reads burst.end (w.nodes (home_of f w i.0))).node
  burst_held w i place turns burst b h =
      let node : Node = w.nodes (home_of f w i.0) in
      let v : NodeWork = performs_all place burst.reads (idle node) in
      let same : v.node ≡ node = played_same place burst.reads (idle node) i.0 in
      moves_on i.0 b.start burst.end v (ap (λ (n : Node). n.played i.0) same ∙ b.here)
      (c.ran _ place i b.start burst.reads burst.end (h.1 i.0 b.start b.here).1 b.computing b.ran)
      (ran_rests f v.node.copies.objects _ place i (last_turn f b.start) b.start burst.reads burst.end b.ran)
      (subst (Holds f P) (sym same) h)

  -- ---- a world

  part : (m : ℕ) (v : NodeWork) (u : AtWork) → AllHold f P u.world → On v → AllHold f P (after_part f m v u).world
  part m v u h a k = at_both u.world.nodes m v.node k (Holds f P) (λ e. a) (λ other. h k)

  comes_held : (v : World) (mail : Mail) → AllHold f P v → AllHold f P (comes f v mail).world
  comes_held v mail h = cond_both (lives_in f v (receiver_of mail)) _ _ (λ (u : AtWork). AllHold f P u.world)
      (λ e. part (receiver_of mail) (receives_at f (receiver_of mail) mail (v.nodes (receiver_of mail))) (untouched v) h
      (caught_up (receiver_of mail) (receives_mail f (receiver_of mail) mail (idle (v.nodes (receiver_of mail))))
      (came (receiver_of mail) mail (idle (v.nodes (receiver_of mail))) (h (receiver_of mail)))))
      (λ e. h)

  whole_held : (v : World) (o : Option (Flight Carried)) → AllHold f P v → AllHold f P (comes_whole f v o).world
  whole_held v None h = h
  whole_held v (Some flight) h = cond_both (is_whole f.settings.nodes flight.packet) _ _ (λ (u : AtWork). AllHold f P u.world)
      (λ e. comes_held v flight.packet.mail h) (λ e. h)

  below_held : (n : ℕ) (u : AtWork) → AllHold f P u.world → AllHold f P (ticks_below f n u).world
  below_held zero u h = h
  below_held (suc m) u h =
      let v : AtWork = ticks_below f m u in
      let k : AllHold f P v.world = below_held m u h in
      let timed : NodeWork = joins (timer (group f) m (v.world.nodes m).member) (idle (v.world.nodes m)) in
      cond_both (v.world.lives m) _ _ (λ (x : AtWork). AllHold f P x.world)
      (λ e. part m (ticks f m (v.world.nodes m)) v k (caught_up m (asks_again f m timed) (again m timed (k m))))
      (λ e. k)

  event_held : (w : World) (done : Event) (given : Known done) → Possible f w done given → AllHold f P w → AllHold f P (happens f w done given).world
  event_held w (event.Burst process place turns) burst may h =
      let m : ℕ = home_of f w process.0 in
      part m (computes process.0 place burst.reads burst.end (w.nodes m)) (untouched w) h (burst_held w process place turns burst may (h m))
  event_held w (event.Act process) given may h =
      let m : ℕ = home_of f w process.0 in
      part m (acts f m process.0 (w.nodes m)) (untouched w) h
      (caught_up m (acts_of f m process.0 ((w.nodes m).played process.0) (idle (w.nodes m)))
      (acted_of m process.0 ((w.nodes m).played process.0) (idle (w.nodes m)) refl (h m)))
  event_held w (event.Deliver packet copy) given may h =
      whole_held (record w { flights = without packet copy w.flights }) (ready_copy packet copy w.flights) h
  event_held w event.Tick given may h = below_held f.settings.nodes (untouched (record w { flights = ticked w.flights })) h
  event_held w (event.Crash node) given may h = h
  event_held w (event.Suspect node) given may h =
      part node (suspects f node (w.nodes node)) (untouched w) h
      (caught_up node (joins (coordinate (group f) node (w.nodes node).member) (idle (w.nodes node))) (h node))
  event_held w event.Swap given may h = h

  posted_nodes : (mails : List Mail) (fates : List Fate) (w : World) → (posts_all f w mails fates).nodes ≡ w.nodes
  posted_nodes [] fates w = refl
  posted_nodes (mail ∷ mails) [] w = refl
  posted_nodes (mail ∷ mails) (one ∷ fates) w = posted_nodes mails fates (posts f w mail one)

  step_held : (w v : World) (step : Step) → Next f w step v → AllHold f P w → AllHold f P v
  step_held w v step next h =
      let u : AtWork = happens f w step.event next.given in
      let nodes : (closes f w step u).nodes ≡ u.world.nodes = posted_nodes u.mails step.fates u.world in
      subst (AllHold f P) (sym next.after)
      (λ m. subst (λ (n : ℕ → Node). Holds f P (n m)) (sym nodes) (event_held w step.event next.given next.possible h m))

  leads_held : (w : World) (steps : List Step) (v : World) → Leads f w steps v → AllHold f P w → AllHold f P v
  leads_held w [] v leads h = subst (AllHold f P) (sym leads) h
  leads_held w (step ∷ steps) v leads h = leads_held leads.0 steps v leads.2 (step_held w leads.0 step leads.1 h)

  opening_held : (m : ℕ) → Holds f P (opening_node f m)
  opening_held zero = (
    omega arith,
    λ i r is. at_both nobody 0 (Some (newborn (first_process f))) i
        (λ (z : Option Played). z ≡ Some r → (i < 1) × P i r × (Each i → Rested f opening_copies.objects r.stage))
        (λ e found.
        let same : newborn (first_process f) ≡ r = cc in (
          omega (arith, e),
          subst (P i) same (c.born i (first_process f)),
          λ d. subst (λ (z : Played). Rested f opening_copies.objects z.stage) same (idle_rests f opening_copies.objects),
        ))
        (λ other found. absurd (cc found)) is,
  )
  opening_held (suc m) = (omega arith, λ i r is. absurd (cc is))

  pub held : (steps : List Step) (w : World) → Leads f (opening_world f) steps w → AllHold f P w
  held steps w leads = leads_held (opening_world f) steps w leads opening_held
