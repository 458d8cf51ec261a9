-- Each Answer is of an operation that was performed beside the list.
use Rattle.std.proofs.Common.{◌≡◌, ◌==◌, ◌||◌, if◌then◌else◌, ℕ, zero, suc, List, [], ◌∷◌, ◌++◌, map, length, Option, Some, None, append_assoc, refl, sym, ap, subst, inl, inr, nat_lt, nat_le}
use Rattle.std.proofs.lemmas.Bool.{cond_both}
use Rattle.orca_base.specs.declared.ids.CallNo.{CallNo}
use Rattle.orca_base.specs.declared.ids.ProcessNo.{ProcessNo}
use Rattle.value_core.specs.declared.action.Action.{Action}
use Rattle.value_core.specs.declared.action.Action.TheVariants as action
use Rattle.value_core.specs.declared.action.Class.{Class}
use Rattle.value_core.specs.declared.action.Class.TheVariants.{Reads, Writes}
use Rattle.value_core.specs.declared.action.Line.{Line}
use Rattle.value_core.specs.declared.action.Reply.{Reply}
use Rattle.value_core.specs.declared.meaning.Tried.{Tried}
use Rattle.value_core.specs.declared.message.Message.{Message}
use Rattle.guard_queue.specs.Settles.{is_blocked}
use Rattle.guard_queue.specs.declared.queue.Suspended.{Suspended}
use Rattle.object_manager.specs.Singles.{after_single, lines_single}
use Rattle.object_manager.specs.State.{message_of}
use Rattle.book_law.specs.Passes.{lines_after}
use Rattle.book_law.specs.declared.placing.Placed.{Placed}
use Rattle.group_rules.specs.Member.{Waiting}
use Rattle.group_rules.specs.Reset.{coordinate}
use Rattle.group_rules.specs.Sets.{In, with_at}
use Rattle.group_rules.specs.Steps.{deliver, note, submit, timer}
use Rattle.group_rules.specs.Work.{Act, Work}
use Rattle.world_rules.specs.Applying.{answers, applies, applies_all, applies_each, applies_one, applies_with, begins, copies_take, due_entries, notes, passes_limit, performs_read, round, rounds, tries_as, tries_of, tries_read, tries_reads}
use Rattle.world_rules.specs.Frame.{Frame, group}
use Rattle.world_rules.specs.Mail.{Errand, Mail, place_of}
use Rattle.world_rules.specs.Mail.Errand.{Ask, Answer}
use Rattle.world_rules.specs.Nodes.{Deed, Given, Node, NodeWork, aside_of, becomes, changes, does, idle, if_played, joins, known, mails_of, plays}
use Rattle.world_rules.specs.Nodes.Deed.{Submits, Acts, Performs}
use Rattle.world_rules.specs.Owners.{arrives, hands, hands_all, hands_to, hears_as, hears_of, holds, is_held, performs_call, sends, sends_given, takes, takes_asked, takes_call, takes_each, takes_reached, waits_here}
use Rattle.world_rules.specs.Parts.{acts, acts_at, acts_by, acts_of, asks, asks_again, asks_again_at, asks_again_by, asks_again_of, asks_below, asks_owner, calls, calls_as, catches_up, computes, performs_all, receives, receives_mail, submits, suspects, ticks}
use Rattle.world_rules.specs.Played.{Played, Stage, moves_to, next_call}
use Rattle.world_rules.specs.Played.{receives as receives_reply}
use Rattle.world_rules.specs.Played.Stage.{Computing, Acting, Submitted, Reading, Asking, Over}
use Rattle.world_rules.specs.Processes.{Begun, begun_by, home_in, owner_in, singles_of}
use Rattle.world_law.specs.Answers.{AreTrue, GivenTrue, IsTrue, MailIsTrue, Stands}
use Rattle.world_law.proofs.Maps.{at_both}

-- ---- with more operations

abbrev Within : List Placed → List Placed → Type 0
Within xs ys = (r : Placed) → In r xs → In r ys

stands_more : (xs ys : List Placed) → Within xs ys → (place : ℕ) (i : ProcessNo) (n : CallNo) (reply : Reply) → Stands xs place i n reply →
    Stands ys place i n reply
stands_more xs ys more place i n reply h = record {
  performed = h.performed;
  among = more h.performed h.among;
  place = h.place;
  process = h.process;
  call = h.call;
  reply = h.reply;
}

true_more : (xs ys : List Placed) → Within xs ys → (errand : Errand) → IsTrue xs errand → IsTrue ys errand
true_more xs ys more (Ask place x) h = tt
true_more xs ys more (Answer place i n reply) h = stands_more xs ys more place i n reply h

pub are_more : (xs ys : List Placed) → Within xs ys → (errands : List Errand) → AreTrue xs errands → AreTrue ys errands
are_more xs ys more [] h = tt
are_more xs ys more (errand ∷ errands) h = (true_more xs ys more errand h.0, are_more xs ys more errands h.1)

pub given_more : (xs ys : List Placed) → Within xs ys → (given : ℕ → Option Given) → GivenTrue xs given → GivenTrue ys given
given_more xs ys more given h i one e = stands_more xs ys more one.place i one.call one.reply (h i one e)

abbrev pub MailsTrue : List Placed → List Mail → Type 0
MailsTrue aside [] = Unit {0}
MailsTrue aside (mail ∷ mails) = MailIsTrue aside mail × MailsTrue aside mails

pub mail_more : (xs ys : List Placed) → Within xs ys → (mail : Mail) → MailIsTrue xs mail → MailIsTrue ys mail
mail_more xs ys more (Mail.Grouped letter) h = tt
mail_more xs ys more (Mail.Sends incarnation from to errand) h = true_more xs ys more errand h

pub mails_more : (xs ys : List Placed) → Within xs ys → (mails : List Mail) → MailsTrue xs mails → MailsTrue ys mails
mails_more xs ys more [] h = tt
mails_more xs ys more (mail ∷ mails) h = (mail_more xs ys more mail h.0, mails_more xs ys more mails h.1)

pub mails_append : (aside : List Placed) (one two : List Mail) → MailsTrue aside one → MailsTrue aside two → MailsTrue aside (one ++ two)
mails_append aside [] two h k = k
mails_append aside (mail ∷ one) two h k = (h.0, mails_append aside one two h.1 k)

are_append : (aside : List Placed) (one two : List Errand) → AreTrue aside one → AreTrue aside two → AreTrue aside (one ++ two)
are_append aside [] two h k = k
are_append aside (errand ∷ one) two h k = (h.0, are_append aside one two h.1 k)

in_left : {A : Type 0} (x : A) (xs ys : List A) → In x xs → In x (xs ++ ys)
in_left x [] ys h = absurd h
in_left x (y ∷ xs) ys (inl e) = inl e
in_left x (y ∷ xs) ys (inr h) = inr (in_left x xs ys h)

in_last : {A : Type 0} (x : A) (xs : List A) → In x (xs ++ x ∷ [])
in_last x [] = inl refl
in_last x (y ∷ xs) = inr (in_last x xs)

abbrev process_of : ℕ → ProcessNo
process_of n = record { 0 = n }

-- ---- a node at work, where these operations were performed before

pub record TellsOf (aside : List Placed) (rest held : List Errand) (given : ℕ → Option Given) (mails : List Mail) : Type 0 where
  pub rest_true : AreTrue aside rest
  pub held_true : AreTrue aside held
  pub given_true : GivenTrue aside given
  pub mails_true : MailsTrue aside mails

-- the operations performed before, and Asks and Answers that are to be looked at yet
pub record Before : Type 0 where
  pub aside : List Placed
  pub rest : List Errand

abbrev pub Tells : Before → NodeWork → Type 0
Tells before v = TellsOf (before.aside ++ aside_of v.deeds) before.rest v.node.held v.node.given (mails_of v.deeds)

-- one more is performed
one_more : (before : Before) (deeds : List Deed) (one : Placed) → Within (before.aside ++ aside_of deeds) (before.aside ++ (aside_of deeds ++ one ∷ []))
one_more before deeds one r h = subst (In r) (append_assoc before.aside (aside_of deeds) (one ∷ []))
    (in_left r (before.aside ++ aside_of deeds) (one ∷ []) h)

pub tells_performs : (before : Before) (one : Placed) (v : NodeWork) → Tells before v → Tells before (does (Performs one) v)
tells_performs before one v h =
    let more = one_more before v.deeds one in
    let xs : List Placed = before.aside ++ aside_of v.deeds in
    let ys : List Placed = before.aside ++ (aside_of v.deeds ++ one ∷ []) in
    record {
      rest_true = are_more xs ys more before.rest h.rest_true;
      held_true = are_more xs ys more v.node.held h.held_true;
      given_true = λ i given e. stands_more xs ys more given.place i given.call given.reply (h.given_true i given e);
      mails_true = mails_more xs ys more (mails_of v.deeds) h.mails_true;
    }

tells_sends : (before : Before) (m to : ℕ) (errand : Errand) (v : NodeWork) → IsTrue (before.aside ++ aside_of v.deeds) errand → Tells before v →
    Tells before (sends m to errand v)
tells_sends before m to errand v is h = record {
  rest_true = h.rest_true;
  held_true = h.held_true;
  given_true = h.given_true;
  mails_true = mails_append (before.aside ++ aside_of v.deeds) (mails_of v.deeds) (Mail.Sends v.node.member.installed m to errand ∷ []) h.mails_true (is, tt);
}

-- ---- a step of the member in the group sends none

aside_joins : (acts : List (Act Message)) (deeds : List Deed) → aside_of (map Acts acts ++ deeds) ≡ aside_of deeds
aside_joins [] deeds = refl
aside_joins (act ∷ acts) deeds = aside_joins acts deeds

mails_join : (aside : List Placed) (acts : List (Act Message)) (deeds : List Deed) → MailsTrue aside (mails_of deeds) →
    MailsTrue aside (mails_of (map Acts acts ++ deeds))
mails_join aside [] deeds h = h
mails_join aside (Act.Sends letter ∷ acts) deeds h =
    mails_append aside (mails_of (map Acts acts ++ deeds)) (Mail.Grouped letter ∷ []) (mails_join aside acts deeds h) (tt, tt)
mails_join aside (Act.Keeps packet ∷ acts) deeds h = mails_join aside acts deeds h
mails_join aside (Act.Orders k x ∷ acts) deeds h = mails_join aside acts deeds h
mails_join aside (Act.Begins k log answers ∷ acts) deeds h = mails_join aside acts deeds h

pub tells_joins : (before : Before) (work : Work Message) (v : NodeWork) → Tells before v → Tells before (joins work v)
tells_joins before work v h =
    subst (λ xs. TellsOf (before.aside ++ xs) before.rest v.node.held v.node.given (mails_of (map Acts work.acts ++ v.deeds))) (sym (aside_joins work.acts v.deeds))
    (record { rest_true = h.rest_true; held_true = h.held_true; given_true = h.given_true; mails_true = mails_join (before.aside ++ aside_of v.deeds) work.acts v.deeds h.mails_true })

-- ---- processes and entries

tells_if : (before : Before) (change : Played → Played) (i : ℕ) (r : Option Played) (v : NodeWork) → Tells before v →
    Tells before (if_played change i r v)
tells_if before change i None v h = h
tells_if before change i (Some r) v h = h

tells_changes : (before : Before) (change : Played → Played) (i : ℕ) (v : NodeWork) → Tells before v → Tells before (changes change i v)
tells_changes before change i v h = tells_if before change i (v.node.played i) v h

tells_read : (before : Before) (i : ℕ) (r : Played) (act : Action) (t : Tried) (v : NodeWork) → Tells before v →
    Tells before (performs_read i r act t v)
tells_read before i r act t v h = cond_both (is_blocked t) _ _ (Tells before) (λ e. h) (λ e. tells_performs before _ v h)

tells_as : (before : Before) (f : Frame) (i : ℕ) (r : Played) (stage : Stage) (v : NodeWork) → Tells before v → Tells before (tries_as f i r stage v)
tells_as before f i r (Reading act) v h = tells_read before i r act _ v h
tells_as before f i r Computing v h = h
tells_as before f i r (Acting act) v h = h
tells_as before f i r (Submitted act) v h = h
tells_as before f i r (Asking act) v h = h
tells_as before f i r (Over act) v h = h

tells_of : (before : Before) (f : Frame) (i : ℕ) (r : Option Played) (v : NodeWork) → Tells before v → Tells before (tries_of f i r v)
tells_of before f i None v h = h
tells_of before f i (Some r) v h = tells_as before f i r r.stage v h

tells_tries : (before : Before) (f : Frame) (i : ℕ) (v : NodeWork) → Tells before v → Tells before (tries_read f i v)
tells_tries before f i v h = tells_of before f i (v.node.played i) v h

tells_reads : (before : Before) (f : Frame) (n : ℕ) (v : NodeWork) → Tells before v → Tells before (tries_reads f n v)
tells_reads before f zero v h = h
tells_reads before f (suc i) v h = tells_tries before f i (tries_reads f i v) (tells_reads before f i v h)

tells_answers : (before : Before) (place : ℕ) (lines : List Line) (v : NodeWork) → Tells before v → Tells before (answers place lines v)
tells_answers before place [] v h = h
tells_answers before place (l ∷ ls) v h = tells_answers before place ls _ (tells_changes before (receives_reply place l.reply) l.process.0 v h)

tells_begins : (before : Before) (m i : ℕ) (processes : List Begun) (v : NodeWork) → Tells before v → Tells before (begins m i processes v)
tells_begins before m i [] v h = h
tells_begins before m i (process ∷ processes) v h = cond_both (process.home == m) _ _ (Tells before) (λ e. h) (λ e. h)

tells_with : (before : Before) (f : Frame) (m : ℕ) (processes : List Begun) (count place : ℕ) (x : Message) (v : NodeWork) → Tells before v →
    Tells before (applies_with f m processes count place x v)
tells_with before f m processes count place x v h =
    let taken : NodeWork = copies_take f m processes x v in
    let lines : List Line = lines_after (singles_of f processes) f.performs v.node.copies x in
    let told : NodeWork = answers place lines taken in
    let born : List Begun = begun_by f.settings.nodes (home_in processes x.process.0) place x.action in
    let u : NodeWork = begins m count born told in
    tells_reads before f u.node.copies.processes u (tells_begins before m count born told (tells_answers before place lines taken h))

tells_one : (before : Before) (f : Frame) (m : ℕ) (x : Message) (v : NodeWork) → Tells before v → Tells before (applies_one f m x v)
tells_one before f m x v h = tells_with before f m (known f v.node) v.node.copies.processes (suc v.node.copies.applied) x v h

tells_each : (before : Before) (f : Frame) (m : ℕ) (xs : List Message) (v : NodeWork) → Tells before v → Tells before (applies_each f m xs v)
tells_each before f m [] v h = h
tells_each before f m (x ∷ xs) v h = cond_both (passes_limit f v.node x) _ _ (Tells before) (λ e. h)
    (λ e. tells_each before f m xs (applies_one f m x v) (tells_one before f m x v h))

tells_notes : (before : Before) (f : Frame) (m : ℕ) (v : NodeWork) → Tells before v → Tells before (notes f m v)
tells_notes before f m v h = cond_both (nat_lt v.node.member.applied v.node.copies.applied) _ _ (Tells before)
    (λ e. tells_joins before (note (group f) m v.node.copies.applied v.node.member) v h) (λ e. h)

tells_round : (before : Before) (f : Frame) (m : ℕ) (v : NodeWork) → Tells before v → Tells before (round f m v)
tells_round before f m v h = tells_notes before f m (applies f m v) (tells_each before f m (due_entries v.node) v h)

tells_rounds : (before : Before) (f : Frame) (m : ℕ) (waiting : List (Waiting Message)) (v : NodeWork) → Tells before v →
    Tells before (rounds f m waiting v)
tells_rounds before f m [] v h = tells_round before f m v h
tells_rounds before f m (one ∷ more) v h = tells_rounds before f m more (round f m v) (tells_round before f m v h)

-- ---- owners

-- what a process is given is the reply that was performed last
tells_given : (before : Before) (m home : ℕ) (l : Line) (given : Given) (v : NodeWork) →
    Stands (before.aside ++ aside_of v.deeds) given.place l.process given.call given.reply → Tells before v →
    Tells before (sends_given m home l.process given (becomes (record v.node { given = with_at v.node.given l.process.0 (Some given) }) v))
tells_given before m home l given v is h =
    let u : NodeWork = becomes (record v.node { given = with_at v.node.given l.process.0 (Some given) }) v in
    tells_sends before m home (Answer given.place l.process given.call given.reply) u is (record {
      rest_true = h.rest_true;
      held_true = h.held_true;
      given_true = λ i one. at_both v.node.given l.process.0 (Some given) i.0 (λ z. z ≡ Some one → Stands (before.aside ++ aside_of v.deeds) one.place i one.call one.reply)
          (λ same e.
          let g : given ≡ one = cc in
          let p : l.process ≡ i = sym (ap (λ n. process_of n) same) in
          subst (λ (z : Given). Stands (before.aside ++ aside_of v.deeds) z.place i z.call z.reply) g
          (subst (λ (z : ProcessNo). Stands (before.aside ++ aside_of v.deeds) given.place z given.call given.reply) p is))
          (λ no e. h.given_true i one e);
      mails_true = h.mails_true;
    })

tells_hands_to : (before : Before) (m home place : ℕ) (l : Line) (v : NodeWork) →
    Stands (before.aside ++ aside_of v.deeds) place l.process l.call l.reply → Tells before v → Tells before (hands_to m home place l v)
tells_hands_to before m home place l v is h = cond_both (home == m) _ _ (Tells before)
    (λ e. tells_changes before (receives_reply place l.reply) l.process.0 v h)
    (λ e. tells_given before m home l (record { place = place; call = l.call; reply = l.reply }) v is h)

tells_hands : (before : Before) (f : Frame) (m : ℕ) (l : Line) (v : NodeWork) → Tells before v → Tells before (hands f m l v)
tells_hands before f m l v h =
    let one : Placed = record { place = v.node.copies.applied; line = l } in
    let u : NodeWork = does (Performs one) v in
    tells_hands_to before m (home_in (known f v.node) l.process.0) v.node.copies.applied l u
    (record {
      performed = one;
      among = subst (In one) (append_assoc before.aside (aside_of v.deeds) (one ∷ [])) (in_last one (before.aside ++ aside_of v.deeds));
      place = refl;
      process = refl;
      call = refl;
      reply = refl;
    })
    (tells_performs before one v h)

tells_hands_all : (before : Before) (f : Frame) (m : ℕ) (ls : List Line) (v : NodeWork) → Tells before v → Tells before (hands_all f m ls v)
tells_hands_all before f m [] v h = h
tells_hands_all before f m (l ∷ ls) v h = tells_hands_all before f m ls (hands f m l v) (tells_hands before f m l v h)

tells_call : (before : Before) (f : Frame) (m : ℕ) (x : Message) (v : NodeWork) → Tells before v → Tells before (performs_call f m x v)
tells_call before f m x v h = tells_hands_all before f m (lines_single f.performs v.node.copies x)
    (becomes (record v.node { copies = after_single f.performs v.node.copies x }) v) h

tells_takes_call : (before : Before) (f : Frame) (m : ℕ) (x : Message) (v : NodeWork) → Tells before v → Tells before (takes_call f m x v)
tells_takes_call before f m x v h = cond_both (waits_here x v.node.copies.waits) _ _ (Tells before) (λ e. h) (λ e. tells_call before f m x v h)

tells_asked : (before : Before) (f : Frame) (m : ℕ) (x : Message) (o : Option Given) (v : NodeWork) → v.node.given x.process.0 ≡ o →
    Tells before v → Tells before (takes_asked f m x o v)
tells_asked before f m x None v is h = tells_takes_call before f m x v h
tells_asked before f m x (Some given) v is h = cond_both (nat_lt given.call.0 x.call.0) _ _ (Tells before) (λ e. tells_takes_call before f m x v h)
    (λ e. cond_both (given.call.0 == x.call.0) _ _ (Tells before)
    (λ d. tells_sends before m (home_in (known f v.node) x.process.0) (Answer given.place x.process given.call given.reply) v (h.given_true x.process given is) h)
    (λ d. h))

tells_hears_as : (before : Before) (place i : ℕ) (call : CallNo) (reply : Reply) (r : Played) (stage : Stage) (v : NodeWork) →
    Tells before v → Tells before (hears_as place i call reply r stage v)
tells_hears_as before place i call reply r (Asking act) v h = cond_both (call.0 == length r.replies) _ _ (Tells before) (λ e. h) (λ e. h)
tells_hears_as before place i call reply r Computing v h = h
tells_hears_as before place i call reply r (Acting act) v h = h
tells_hears_as before place i call reply r (Submitted act) v h = h
tells_hears_as before place i call reply r (Reading act) v h = h
tells_hears_as before place i call reply r (Over act) v h = h

tells_hears : (before : Before) (place i : ℕ) (call : CallNo) (reply : Reply) (r : Option Played) (v : NodeWork) →
    Tells before v → Tells before (hears_of place i call reply r v)
tells_hears before place i call reply None v h = h
tells_hears before place i call reply (Some r) v h = tells_hears_as before place i call reply r r.stage v h

tells_takes : (before : Before) (f : Frame) (m : ℕ) (errand : Errand) (v : NodeWork) → Tells before v → Tells before (takes f m errand v)
tells_takes before f m (Ask place x) v h = tells_asked before f m x (v.node.given x.process.0) v refl h
tells_takes before f m (Answer place i call reply) v h = tells_hears before place i.0 call reply (v.node.played i.0) v h

tells_holds : (before : Before) (errand : Errand) (v : NodeWork) → IsTrue (before.aside ++ aside_of v.deeds) errand → Tells before v →
    Tells before (holds errand v)
tells_holds before errand v is h = record {
  rest_true = h.rest_true;
  held_true = are_append (before.aside ++ aside_of v.deeds) v.node.held (errand ∷ []) h.held_true (is, tt);
  given_true = h.given_true;
  mails_true = h.mails_true;
}

-- each that is to be looked at is taken, or waits on
tells_takes_each : (aside : List Placed) (f : Frame) (m : ℕ) (errands : List Errand) (v : NodeWork) →
    Tells (record { aside = aside; rest = errands }) v → Tells (record { aside = aside; rest = [] }) (takes_each f m errands v)
tells_takes_each aside f m [] v h = h
tells_takes_each aside f m (errand ∷ errands) v h =
    let all : Before = record { aside = aside; rest = errand ∷ errands } in
    let k : Tells all (if nat_le (place_of errand) v.node.copies.applied then takes f m errand v else holds errand v) =
    cond_both (nat_le (place_of errand) v.node.copies.applied) (takes f m errand v) (holds errand v) (Tells all)
    (λ e. tells_takes all f m errand v h) (λ e. tells_holds all errand v h.rest_true.0 h) in
    tells_takes_each aside f m errands _
    (record { rest_true = k.rest_true.1; held_true = k.held_true; given_true = k.given_true; mails_true = k.mails_true })

abbrev pub none_left : List Placed → Before
none_left aside = record { aside = aside; rest = [] }

tells_reached : (aside : List Placed) (f : Frame) (m : ℕ) (v : NodeWork) → Tells (none_left aside) v → Tells (none_left aside) (takes_reached f m v)
tells_reached aside f m v h = cond_both v.node.member.outside _ _ (Tells (none_left aside)) (λ e. h)
    (λ e. tells_takes_each aside f m v.node.held (becomes (record v.node { held = [] }) v)
    (record { rest_true = h.held_true; held_true = tt; given_true = h.given_true; mails_true = h.mails_true }))

pub tells_catches_up : (aside : List Placed) (f : Frame) (m : ℕ) (v : NodeWork) → Tells (none_left aside) v → Tells (none_left aside) (catches_up f m v)
tells_catches_up aside f m v h = tells_reached aside f m (applies_all f m v) (tells_rounds (none_left aside) f m v.node.member.waiting v h)

-- ---- parts of events

tells_performed : (before : Before) (place : ℕ) (lines : List Line) (v : NodeWork) → Tells before v → Tells before (performs_all place lines v)
tells_performed before place [] v h = h
tells_performed before place (l ∷ ls) v h = tells_performed before place ls _ (tells_performs before (record { place = place; line = l }) v h)

tells_asks : (before : Before) (f : Frame) (m i : ℕ) (r : Played) (call : Suspended) (v : NodeWork) → Tells before v → Tells before (asks f m i r call v)
tells_asks before f m i r call v h =
    let u : NodeWork = plays i (moves_to (Asking (message_of call).action) r) v in
    cond_both (owner_in (known f v.node) call.object == m) _ _ (Tells before)
    (λ e. tells_call before f m (message_of call) u h)
    (λ e. tells_sends before m (owner_in (known f v.node) call.object) (Ask r.place (message_of call)) u tt h)

tells_submits : (before : Before) (f : Frame) (m i : ℕ) (r : Played) (act : Action) (x : Message) (v : NodeWork) → Tells before v →
    Tells before (submits f m i r act x v)
tells_submits before f m i r act x v h =
    let u : NodeWork = does (Submits x) (plays i (moves_to (Submitted act) r) v) in
    tells_joins before (submit (group f) m x u.node.member) u h

tells_calls_as : (before : Before) (f : Frame) (m i : ℕ) (r : Played) (call : Suspended) (class : Class) (v : NodeWork) → Tells before v →
    Tells before (calls_as f m i r call class v)
tells_calls_as before f m i r call Reads v h = tells_tries before f i (plays i (moves_to (Reading (message_of call).action) r) v) h
tells_calls_as before f m i r call Writes v h = tells_submits before f m i r (message_of call).action (message_of call) v h

tells_calls : (before : Before) (f : Frame) (m i : ℕ) (r : Played) (call : Suspended) (v : NodeWork) → Tells before v → Tells before (calls f m i r call v)
tells_calls before f m i r call v h = cond_both (singles_of f (known f v.node) call.object) _ _ (Tells before)
    (λ e. tells_asks before f m i r call v h) (λ e. tells_calls_as before f m i r call (f.performs.class_of call.kind call.op) v h)

tells_by : (before : Before) (f : Frame) (m i : ℕ) (r : Played) (act : Action) (v : NodeWork) → Tells before v → Tells before (acts_by f m i r act v)
tells_by before f m i r (action.Make kind object) v h =
    let x : Message = record { process = record { 0 = i }; call = next_call r; action = action.Make kind object; performable = refl } in
    tells_submits before f m i r (action.Make kind object) x v h
tells_by before f m i r (action.Call kind op object args) v h =
    let call : Suspended = record { process = record { 0 = i }; call = next_call r; kind = kind; op = op; object = object; args = args } in
    tells_calls before f m i r call v h
tells_by before f m i r (action.Fork text args place_on) v h =
    let x : Message = record { process = record { 0 = i }; call = next_call r; action = action.Fork text args place_on; performable = refl } in
    tells_submits before f m i r (action.Fork text args place_on) x v h
tells_by before f m i r action.Ended v h = h
tells_by before f m i r (action.Faulted fault) v h = h

tells_at : (before : Before) (f : Frame) (m i : ℕ) (r : Played) (stage : Stage) (v : NodeWork) → Tells before v → Tells before (acts_at f m i r stage v)
tells_at before f m i r (Acting act) v h = tells_by before f m i r act v h
tells_at before f m i r Computing v h = h
tells_at before f m i r (Submitted act) v h = h
tells_at before f m i r (Reading act) v h = h
tells_at before f m i r (Asking act) v h = h
tells_at before f m i r (Over act) v h = h

tells_acts : (before : Before) (f : Frame) (m i : ℕ) (o : Option Played) (v : NodeWork) → Tells before v → Tells before (acts_of f m i o v)
tells_acts before f m i None v h = h
tells_acts before f m i (Some r) v h = tells_at before f m i r r.stage v h

tells_arrives : (before : Before) (errand : Errand) (v : NodeWork) → IsTrue (before.aside ++ aside_of v.deeds) errand → Tells before v →
    Tells before (arrives errand v)
tells_arrives before errand v is h = cond_both (v.node.member.outside || is_held errand v.node.held) _ _ (Tells before) (λ e. h)
    (λ e. tells_holds before errand v is h)

pub tells_mail : (before : Before) (f : Frame) (m : ℕ) (mail : Mail) (v : NodeWork) → MailIsTrue (before.aside ++ aside_of v.deeds) mail →
    Tells before v → Tells before (receives_mail f m mail v)
tells_mail before f m (Mail.Grouped letter) v is h = tells_joins before (deliver (group f) m letter.packet v.node.member) v h
tells_mail before f m (Mail.Sends incarnation from to errand) v is h = tells_arrives before errand v is h

tells_owner : (before : Before) (f : Frame) (m : ℕ) (r : Played) (call : Suspended) (v : NodeWork) → Tells before v → Tells before (asks_owner f m r call v)
tells_owner before f m r call v h = cond_both (owner_in (known f v.node) call.object == m) _ _ (Tells before) (λ e. h)
    (λ e. tells_sends before m (owner_in (known f v.node) call.object) (Ask r.place (message_of call)) v tt h)

tells_again_by : (before : Before) (f : Frame) (m i : ℕ) (r : Played) (act : Action) (v : NodeWork) → Tells before v →
    Tells before (asks_again_by f m i r act v)
tells_again_by before f m i r (action.Call kind op object args) v h =
    let call : Suspended = record { process = record { 0 = i }; call = next_call r; kind = kind; op = op; object = object; args = args } in
    tells_owner before f m r call v h
tells_again_by before f m i r (action.Make kind object) v h = h
tells_again_by before f m i r (action.Fork text args place_on) v h = h
tells_again_by before f m i r action.Ended v h = h
tells_again_by before f m i r (action.Faulted fault) v h = h

tells_again_at : (before : Before) (f : Frame) (m i : ℕ) (r : Played) (stage : Stage) (v : NodeWork) → Tells before v →
    Tells before (asks_again_at f m i r stage v)
tells_again_at before f m i r (Asking act) v h = tells_again_by before f m i r act v h
tells_again_at before f m i r Computing v h = h
tells_again_at before f m i r (Acting act) v h = h
tells_again_at before f m i r (Submitted act) v h = h
tells_again_at before f m i r (Reading act) v h = h
tells_again_at before f m i r (Over act) v h = h

tells_again_of : (before : Before) (f : Frame) (m i : ℕ) (o : Option Played) (v : NodeWork) → Tells before v → Tells before (asks_again_of f m i o v)
tells_again_of before f m i None v h = h
tells_again_of before f m i (Some r) v h = tells_again_at before f m i r r.stage v h

tells_below : (before : Before) (f : Frame) (m n : ℕ) (v : NodeWork) → Tells before v → Tells before (asks_below f m n v)
tells_below before f m zero v h = h
tells_below before f m (suc i) v h = tells_again_of before f m i ((asks_below f m i v).node.played i) (asks_below f m i v) (tells_below before f m i v h)

tells_again : (before : Before) (f : Frame) (m : ℕ) (v : NodeWork) → Tells before v → Tells before (asks_again f m v)
tells_again before f m v h = cond_both v.node.member.outside _ _ (Tells before) (λ e. h) (λ e. tells_below before f m v.node.copies.processes v h)

-- ---- whole parts

pub tells_computes : (aside : List Placed) (i place : ℕ) (lines : List Line) (end : Played) (node : Node) → Tells (none_left aside) (idle node) →
    Tells (none_left aside) (computes i place lines end node)
tells_computes aside i place lines end node h = tells_performed (none_left aside) place lines (idle node) h

pub tells_act : (aside : List Placed) (f : Frame) (m i : ℕ) (node : Node) → Tells (none_left aside) (idle node) → Tells (none_left aside) (acts f m i node)
tells_act aside f m i node h = tells_catches_up aside f m (acts_of f m i (node.played i) (idle node))
    (tells_acts (none_left aside) f m i (node.played i) (idle node) h)

pub tells_receives : (aside : List Placed) (f : Frame) (m : ℕ) (mail : Mail) (node : Node) → MailIsTrue (aside ++ []) mail →
    Tells (none_left aside) (idle node) → Tells (none_left aside) (receives f m mail node)
tells_receives aside f m mail node is h = tells_catches_up aside f m (receives_mail f m mail (idle node))
    (tells_mail (none_left aside) f m mail (idle node) is h)

pub tells_ticks : (aside : List Placed) (f : Frame) (m : ℕ) (node : Node) → Tells (none_left aside) (idle node) → Tells (none_left aside) (ticks f m node)
tells_ticks aside f m node h =
    let u : NodeWork = joins (timer (group f) m node.member) (idle node) in
    tells_catches_up aside f m (asks_again f m u) (tells_again (none_left aside) f m u (tells_joins (none_left aside) (timer (group f) m node.member) (idle node) h))

pub tells_suspects : (aside : List Placed) (f : Frame) (m : ℕ) (node : Node) → Tells (none_left aside) (idle node) → Tells (none_left aside) (suspects f m node)
tells_suspects aside f m node h = tells_catches_up aside f m (joins (coordinate (group f) m node.member) (idle node))
    (tells_joins (none_left aside) (coordinate (group f) m node.member) (idle node) h)
