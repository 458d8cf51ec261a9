-- What sends no Ask, and takes none in.
use Rattle.std.proofs.Common.{◌≡◌, ◌==◌, ℕ, zero, suc, List, [], ◌∷◌, Option, Some, None, refl, ◌∙◌, nat_lt, length}
use Rattle.std.proofs.lemmas.Bool.{cond_both}
use Rattle.value_core.specs.declared.action.Action.{Action}
use Rattle.value_core.specs.declared.action.Line.{Line}
use Rattle.value_core.specs.declared.action.Reply.{Reply}
use Rattle.value_core.specs.declared.meaning.Tried.{Tried}
use Rattle.value_core.specs.declared.message.Message.{Message}
use Rattle.guard_queue.specs.Settles.{is_blocked}
use Rattle.object_manager.specs.Singles.{after_single, lines_single}
use Rattle.world_rules.specs.Applying.{answers, begins, performs_read, tries_as, tries_of, tries_read, tries_reads}
use Rattle.world_rules.specs.Frame.{Frame}
use Rattle.world_rules.specs.Mail.{Errand}
use Rattle.world_rules.specs.Mail.Errand.{Ask, Answer}
use Rattle.world_rules.specs.Nodes.{Given, NodeWork, becomes, changes, does, if_played, known}
use Rattle.world_rules.specs.Nodes.Deed.{Performs}
use Rattle.world_rules.specs.Owners.{hands, hands_all, hands_to, hears_as, hears_of, performs_call, takes, takes_asked, takes_call, waits_here}
use Rattle.world_rules.specs.Parts.{performs_all}
use Rattle.world_rules.specs.Played.{Played, Stage, receives}
use Rattle.world_rules.specs.Played.Stage.{Computing, Acting, Submitted, Reading, Asking, Over}
use Rattle.world_rules.specs.Processes.{Begun, home_in}
use Rattle.orca_base.specs.declared.ids.CallNo.{CallNo}
use Rattle.orca_base.specs.declared.ids.ProcessNo.{ProcessNo}
use Rattle.std.proofs.Common.{ap, map, ◌++◌, append-nil}
use Rattle.book_law.specs.Passes.{lines_after}
use Rattle.group_rules.specs.Member.{Waiting}
use Rattle.group_rules.specs.Steps.{note}
use Rattle.group_rules.specs.Work.{Act, Work}
use Rattle.world_rules.specs.Applying.{applies, applies_each, applies_one, copies_take, due_entries, notes, passes_limit, round, rounds}
use Rattle.world_rules.specs.Frame.{group}
use Rattle.world_rules.specs.Mail.{Mail}
use Rattle.world_rules.specs.Nodes.{Deed, joins, mails_of}
use Rattle.world_rules.specs.Nodes.Deed.{Acts}
use Rattle.world_rules.specs.Processes.{begun_by, singles_of}

-- the Asks among letters, in order
abbrev pub asks_in : List Mail → List (ℕ × Message)
asks_in [] = []
asks_in (Mail.Grouped letter ∷ mails) = asks_in mails
asks_in (Mail.Sends incarnation from to (Ask place x) ∷ mails) = (place, x) ∷ asks_in mails
asks_in (Mail.Sends incarnation from to (Answer place i n reply) ∷ mails) = asks_in mails

pub asks_append : (one two : List Mail) → asks_in (one ++ two) ≡ asks_in one ++ asks_in two
asks_append [] two = refl
asks_append (Mail.Grouped letter ∷ one) two = asks_append one two
asks_append (Mail.Sends incarnation from to (Ask place x) ∷ one) two = ap (λ xs. (place, x) ∷ xs) (asks_append one two)
asks_append (Mail.Sends incarnation from to (Answer place i n reply) ∷ one) two = asks_append one two

quiet_answer : (mails : List Mail) (incarnation from to place : ℕ) (i : ProcessNo) (n : CallNo) (reply : Reply) →
    asks_in (mails ++ Mail.Sends incarnation from to (Answer place i n reply) ∷ []) ≡ asks_in mails
quiet_answer mails incarnation from to place i n reply = asks_append mails (Mail.Sends incarnation from to (Answer place i n reply) ∷ []) ∙ append-nil (asks_in mails)

-- the same Asks and Answers wait, and no Ask was sent
pub record Quiet (v u : NodeWork) : Type 0 where
  pub held : u.node.held ≡ v.node.held
  pub mails : asks_in (mails_of u.deeds) ≡ asks_in (mails_of v.deeds)

pub quiet : (v : NodeWork) → Quiet v v
quiet v = record { held = refl; mails = refl }

pub quiet_on : {v u t : NodeWork} → Quiet v u → Quiet u t → Quiet v t
quiet_on one two = record { held = two.held ∙ one.held; mails = two.mails ∙ one.mails }

-- ---- processes

quiet_if : (change : Played → Played) (i : ℕ) (r : Option Played) (v : NodeWork) → Quiet v (if_played change i r v)
quiet_if change i None v = quiet v
quiet_if change i (Some r) v = record { held = refl; mails = refl }

quiet_changes : (change : Played → Played) (i : ℕ) (v : NodeWork) → Quiet v (changes change i v)
quiet_changes change i v = quiet_if change i (v.node.played i) v

quiet_performs : (i : ℕ) (r : Played) (act : Action) (t : Tried) (v : NodeWork) → Quiet v (performs_read i r act t v)
quiet_performs i r act t v = cond_both (is_blocked t) _ _ (λ u. Quiet v u) (λ e. quiet v)
    (λ e. record { held = refl; mails = refl })

quiet_as : (f : Frame) (i : ℕ) (r : Played) (stage : Stage) (v : NodeWork) → Quiet v (tries_as f i r stage v)
quiet_as f i r (Reading act) v = quiet_performs i r act _ v
quiet_as f i r Computing v = quiet v
quiet_as f i r (Acting act) v = quiet v
quiet_as f i r (Submitted act) v = quiet v
quiet_as f i r (Asking act) v = quiet v
quiet_as f i r (Over act) v = quiet v

quiet_of : (f : Frame) (i : ℕ) (r : Option Played) (v : NodeWork) → Quiet v (tries_of f i r v)
quiet_of f i None v = quiet v
quiet_of f i (Some r) v = quiet_as f i r r.stage v

pub quiet_read : (f : Frame) (i : ℕ) (v : NodeWork) → Quiet v (tries_read f i v)
quiet_read f i v = quiet_of f i (v.node.played i) v

pub quiet_reads : (f : Frame) (n : ℕ) (v : NodeWork) → Quiet v (tries_reads f n v)
quiet_reads f zero v = quiet v
quiet_reads f (suc i) v = quiet_on (quiet_reads f i v) (quiet_read f i (tries_reads f i v))

quiet_answers : (place : ℕ) (lines : List Line) (v : NodeWork) → Quiet v (answers place lines v)
quiet_answers place [] v = quiet v
quiet_answers place (l ∷ ls) v = quiet_on (quiet_changes (receives place l.reply) l.process.0 v)
    (quiet_answers place ls (changes (receives place l.reply) l.process.0 v))

quiet_begins : (n i : ℕ) (processes : List Begun) (v : NodeWork) → Quiet v (begins n i processes v)
quiet_begins n i [] v = quiet v
quiet_begins n i (process ∷ processes) v = cond_both (process.home == n) _ _ (λ u. Quiet v u)
    (λ e. record { held = refl; mails = refl }) (λ e. quiet v)

-- ---- single copies

quiet_hands_to : (k home place : ℕ) (l : Line) (v : NodeWork) → Quiet v (hands_to k home place l v)
quiet_hands_to k home place l v = cond_both (home == k) _ _ (λ u. Quiet v u)
    (λ e. quiet_changes (receives place l.reply) l.process.0 v)
    (λ e. record { held = refl; mails = quiet_answer (mails_of v.deeds) v.node.member.installed k home place l.process l.call l.reply })

quiet_hands : (f : Frame) (k : ℕ) (l : Line) (v : NodeWork) → Quiet v (hands f k l v)
quiet_hands f k l v =
    let u : NodeWork = does (Performs (record { place = v.node.copies.applied; line = l })) v in
    quiet_on (record { held = refl; mails = refl })
    (quiet_hands_to k (home_in (known f v.node) l.process.0) v.node.copies.applied l u)

quiet_hands_all : (f : Frame) (k : ℕ) (ls : List Line) (v : NodeWork) → Quiet v (hands_all f k ls v)
quiet_hands_all f k [] v = quiet v
quiet_hands_all f k (l ∷ ls) v = quiet_on (quiet_hands f k l v) (quiet_hands_all f k ls (hands f k l v))

pub quiet_call : (f : Frame) (k : ℕ) (x : Message) (v : NodeWork) → Quiet v (performs_call f k x v)
quiet_call f k x v =
    let u : NodeWork = becomes (record v.node { copies = after_single f.performs v.node.copies x }) v in
    quiet_on (record { held = refl; mails = refl })
    (quiet_hands_all f k (lines_single f.performs v.node.copies x) u)

quiet_takes_call : (f : Frame) (k : ℕ) (x : Message) (v : NodeWork) → Quiet v (takes_call f k x v)
quiet_takes_call f k x v = cond_both (waits_here x v.node.copies.waits) _ _ (λ u. Quiet v u) (λ e. quiet v) (λ e. quiet_call f k x v)

quiet_asked : (f : Frame) (k : ℕ) (x : Message) (given : Option Given) (v : NodeWork) → Quiet v (takes_asked f k x given v)
quiet_asked f k x None v = quiet_takes_call f k x v
quiet_asked f k x (Some given) v = cond_both (nat_lt given.call.0 x.call.0) _ _ (λ u. Quiet v u) (λ e. quiet_takes_call f k x v)
    (λ e. cond_both (given.call.0 == x.call.0) _ _ (λ u. Quiet v u) (λ d. record { held = refl; mails = quiet_answer (mails_of v.deeds) v.node.member.installed k (home_in (known f v.node) x.process.0) given.place x.process given.call given.reply }) (λ d. quiet v))

quiet_hears_as : (place i : ℕ) (call : CallNo) (reply : Reply) (r : Played) (stage : Stage) (v : NodeWork) →
    Quiet v (hears_as place i call reply r stage v)
quiet_hears_as place i call reply r (Asking act) v = cond_both (call.0 == length r.replies) _ _ (λ u. Quiet v u)
    (λ e. record { held = refl; mails = refl }) (λ e. quiet v)
quiet_hears_as place i call reply r Computing v = quiet v
quiet_hears_as place i call reply r (Acting act) v = quiet v
quiet_hears_as place i call reply r (Submitted act) v = quiet v
quiet_hears_as place i call reply r (Reading act) v = quiet v
quiet_hears_as place i call reply r (Over act) v = quiet v

quiet_hears : (place i : ℕ) (call : CallNo) (reply : Reply) (r : Option Played) (v : NodeWork) →
    Quiet v (hears_of place i call reply r v)
quiet_hears place i call reply None v = quiet v
quiet_hears place i call reply (Some r) v = quiet_hears_as place i call reply r r.stage v

pub quiet_takes : (f : Frame) (k : ℕ) (errand : Errand) (v : NodeWork) → Quiet v (takes f k errand v)
quiet_takes f k (Ask place x) v = quiet_asked f k x (v.node.given x.process.0) v
quiet_takes f k (Answer place i call reply) v = quiet_hears place i.0 call reply (v.node.played i.0) v

-- ---- entries and the group

asks_join : (acts : List (Act Message)) (deeds : List Deed) → asks_in (mails_of (map Acts acts ++ deeds)) ≡ asks_in (mails_of deeds)
asks_join [] deeds = refl
asks_join (Act.Sends letter ∷ acts) deeds =
    asks_append (mails_of (map Acts acts ++ deeds)) (Mail.Grouped letter ∷ []) ∙ append-nil (asks_in (mails_of (map Acts acts ++ deeds))) ∙ asks_join acts deeds
asks_join (Act.Keeps packet ∷ acts) deeds = asks_join acts deeds
asks_join (Act.Orders k x ∷ acts) deeds = asks_join acts deeds
asks_join (Act.Begins k log answers ∷ acts) deeds = asks_join acts deeds

pub quiet_joins : (work : Work Message) (v : NodeWork) → Quiet v (joins work v)
quiet_joins work v = record { held = refl; mails = asks_join work.acts v.deeds }

quiet_one : (f : Frame) (m : ℕ) (x : Message) (v : NodeWork) → Quiet v (applies_one f m x v)
quiet_one f m x v =
    let ps : List Begun = known f v.node in
    let place : ℕ = suc v.node.copies.applied in
    let taken : NodeWork = copies_take f m ps x v in
    let lines : List Line = lines_after (singles_of f ps) f.performs v.node.copies x in
    let told : NodeWork = answers place lines taken in
    let born : List Begun = begun_by f.settings.nodes (home_in ps x.process.0) place x.action in
    let u : NodeWork = begins m v.node.copies.processes born told in
    let q : Quiet taken (tries_reads f u.node.copies.processes u) =
    quiet_on (quiet_answers place lines taken) (quiet_on (quiet_begins m v.node.copies.processes born told) (quiet_reads f u.node.copies.processes u)) in
    record { held = q.held; mails = q.mails }

quiet_each : (f : Frame) (m : ℕ) (xs : List Message) (v : NodeWork) → Quiet v (applies_each f m xs v)
quiet_each f m [] v = quiet v
quiet_each f m (x ∷ xs) v = cond_both (passes_limit f v.node x) _ _ (λ u. Quiet v u) (λ e. quiet v)
    (λ e. quiet_on (quiet_one f m x v) (quiet_each f m xs (applies_one f m x v)))

quiet_notes : (f : Frame) (m : ℕ) (v : NodeWork) → Quiet v (notes f m v)
quiet_notes f m v = cond_both (nat_lt v.node.member.applied v.node.copies.applied) _ _ (λ u. Quiet v u)
    (λ e. quiet_joins (note (group f) m v.node.copies.applied v.node.member) v) (λ e. quiet v)

quiet_round : (f : Frame) (m : ℕ) (v : NodeWork) → Quiet v (round f m v)
quiet_round f m v = quiet_on (quiet_each f m (due_entries v.node) v) (quiet_notes f m (applies f m v))

pub quiet_rounds : (f : Frame) (m : ℕ) (waiting : List (Waiting Message)) (v : NodeWork) → Quiet v (rounds f m waiting v)
quiet_rounds f m [] v = quiet_round f m v
quiet_rounds f m (one ∷ more) v = quiet_on (quiet_round f m v) (quiet_rounds f m more (round f m v))

pub quiet_performed : (place : ℕ) (lines : List Line) (v : NodeWork) → Quiet v (performs_all place lines v)
quiet_performed place [] v = quiet v
quiet_performed place (l ∷ ls) v = quiet_on (record { held = refl; mails = refl })
    (quiet_performed place ls (does (Performs (record { place = place; line = l })) v))
