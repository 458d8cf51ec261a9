-- What Asks and Answers cost: each that is on its way, and the Answer that an Ask leads to. A member's part adds nothing to that but what comes
-- to it or is asked of it.
use Rattle.std.proofs.Common.{◌≡◌, ◌≤◌, ◌+◌, ◌==◌, ◌||◌, ℕ, zero, suc, Option, Some, None, List, [], ◌∷◌, ◌++◌, map, length, length-append, refl, ap, ◌∙◌, arith, nat_lt, nat_le, if◌then◌else◌}
use Rattle.std.specs.Prelude.{slice_get, remove}
use Rattle.std.proofs.lemmas.Bool.{cond_both}
use Rattle.orca_base.specs.declared.ids.CallNo.{CallNo}
use Rattle.orca_base.specs.declared.ids.ProcessNo.{ProcessNo}
use Rattle.value_core.specs.declared.action.Action.{Action}
use Rattle.value_core.specs.declared.action.Action.TheVariants as action
use Rattle.value_core.specs.declared.action.Line.{Line}
use Rattle.value_core.specs.declared.action.Reply.{Reply}
use Rattle.value_core.specs.declared.meaning.Tried.{Tried}
use Rattle.value_core.specs.declared.meaning.Tried.TheVariants as tried
use Rattle.value_core.specs.declared.message.Message.{Message}
use Rattle.value_core.specs.Meaning.{Performs as Meant}
use Rattle.guard_queue.specs.declared.queue.Suspended.{Suspended}
use Rattle.guard_queue.specs.Settles.{Settling, answered, is_blocked, next_ready, performed, settle_up_to, settled, stepped, tried_in}
use Rattle.object_manager.specs.After.{Copied, acted, acted_by, as_call, called}
use Rattle.object_manager.specs.Singles.{after_single, lines_single, side}
use Rattle.book_law.specs.Passes.{lines_after}
use Rattle.group_rules.specs.Member.{Waiting}
use Rattle.group_rules.specs.Steps.{note}
use Rattle.group_rules.specs.Work.{Act, Work}
use Rattle.net_rules.specs.declared.flight.Flight.{Flight}
use Rattle.world_rules.specs.Applying.{answers, applies, applies_all, applies_each, applies_one, begins, copies_take, due_entries, passes_limit, performs_read, round, rounds, tries_as, tries_of, tries_read, tries_reads}
use Rattle.world_rules.specs.Frame.{Frame, group}
use Rattle.world_rules.specs.Mail.{Carried, Errand, Mail, place_of}
use Rattle.world_rules.specs.Mail.Errand.{Ask, Answer}
use Rattle.world_rules.specs.Nodes.{Deed, Given, Node, NodeWork, becomes, changes, does, if_played, joins, known, mails_of, plays}
use Rattle.world_rules.specs.Nodes.Deed.{Acts, Performs}
use Rattle.world_rules.specs.Owners.{arrives, hands, hands_all, hears_as, hears_of, holds, is_held, performs_call, sends_given, takes, takes_asked, takes_call, takes_each, takes_reached, waits_here}
use Rattle.world_rules.specs.Parts.{catches_up, performs_all}
use Rattle.world_rules.specs.Played.{Played, Stage, receives}
use Rattle.world_rules.specs.Played.Stage.{Computing, Acting, Submitted, Reading, Asking, Over}
use Rattle.world_rules.specs.Processes.{Begun, begun_by, home_in, singles_of}
use Rattle.world_idle.proofs.Own.{even_read, even_rounds}
use Rattle.world_idle.proofs.Taking.{all_copies, call_held}

-- ---- what is to come

-- one on its way: itself, and the Answer to an Ask
abbrev pub errand_cost : Errand → ℕ
errand_cost (Ask place x) = 2
errand_cost (Answer place i call reply) = 1

-- one that came and waits: the Answer to an Ask
abbrev pub held_cost : Errand → ℕ
held_cost (Ask place x) = 1
held_cost (Answer place i call reply) = 0

abbrev pub mail_cost : Mail → ℕ
mail_cost (Mail.Grouped letter) = 0
mail_cost (Mail.Sends incarnation from to errand) = errand_cost errand

abbrev pub mails_cost : List Mail → ℕ
mails_cost [] = 0
mails_cost (mail ∷ mails) = mail_cost mail + mails_cost mails

abbrev pub flights_cost : List (Flight Carried) → ℕ
flights_cost [] = 0
flights_cost (flight ∷ flights) = mail_cost flight.packet.mail + flights_cost flights

abbrev pub all_held : List Errand → ℕ
all_held [] = 0
all_held (errand ∷ errands) = held_cost errand + all_held errands

-- at a member: what it holds, and an Answer to each call that waits
abbrev pub node_cost : Node → ℕ
node_cost node = all_held node.held + length node.copies.waits

-- while it does its part: what it sent so far, too
abbrev pub sent_cost : NodeWork → ℕ
sent_cost v = mails_cost (mails_of v.deeds)

abbrev pub work_cost : NodeWork → ℕ
work_cost v = node_cost v.node + sent_cost v

-- ---- lists

mails_push : (mails : List Mail) (mail : Mail) → mails_cost (mails ++ mail ∷ []) ≡ mails_cost mails + mail_cost mail
mails_push [] mail = omega arith
mails_push (one ∷ mails) mail = let r = mails_push mails mail in omega (arith, r)

pub flights_push : (flights : List (Flight Carried)) (flight : Flight Carried) → flights_cost (flights ++ flight ∷ []) ≡ flights_cost flights + mail_cost flight.packet.mail
flights_push [] flight = omega arith
flights_push (one ∷ flights) flight = let r = flights_push flights flight in omega (arith, r)

held_push : (errands : List Errand) (errand : Errand) → all_held (errands ++ errand ∷ []) ≡ all_held errands + held_cost errand
held_push [] errand = omega arith
held_push (one ∷ errands) errand = let r = held_push errands errand in omega (arith, r)

le_suc : (n : ℕ) → n ≤ suc n
le_suc n = omega arith

-- ---- what sends neither an Ask nor an Answer

abbrev Light : NodeWork → NodeWork → Type 0
Light v u = sent_cost u ≡ sent_cost v

light_if : (change : Played → Played) (i : ℕ) (o : Option Played) (v : NodeWork) → Light v (if_played change i o v)
light_if change i None v = refl
light_if change i (Some r) v = refl

light_performs : (i : ℕ) (r : Played) (act : Action) (t : Tried) (v : NodeWork) → Light v (performs_read i r act t v)
light_performs i r act t v = cond_both (is_blocked t) _ _ (Light v) (λ e. refl) (λ e. refl)

light_as : (f : Frame) (i : ℕ) (r : Played) (stage : Stage) (v : NodeWork) → Light v (tries_as f i r stage v)
light_as f i r (Reading act) v = light_performs i r act _ v
light_as f i r Computing v = refl
light_as f i r (Acting act) v = refl
light_as f i r (Submitted act) v = refl
light_as f i r (Asking act) v = refl
light_as f i r (Over act) v = refl

light_tries : (f : Frame) (i : ℕ) (o : Option Played) (v : NodeWork) → Light v (tries_of f i o v)
light_tries f i None v = refl
light_tries f i (Some r) v = light_as f i r r.stage v

light_read : (f : Frame) (i : ℕ) (v : NodeWork) → Light v (tries_read f i v)
light_read f i v = light_tries f i (v.node.played i) v

light_reads : (f : Frame) (n : ℕ) (v : NodeWork) → Light v (tries_reads f n v)
light_reads f zero v = refl
light_reads f (suc i) v = light_read f i (tries_reads f i v) ∙ light_reads f i v

light_answers : (place : ℕ) (lines : List Line) (v : NodeWork) → Light v (answers place lines v)
light_answers place [] v = refl
light_answers place (l ∷ ls) v = light_answers place ls (changes (receives place l.reply) l.process.0 v) ∙ light_if (receives place l.reply) l.process.0 (v.node.played l.process.0) v

light_begins : (m i : ℕ) (processes : List Begun) (v : NodeWork) → Light v (begins m i processes v)
light_begins m i [] v = refl
light_begins m i (process ∷ processes) v = cond_both (process.home == m) _ _ (Light v) (λ e. refl) (λ e. refl)

light_one : (f : Frame) (m : ℕ) (x : Message) (v : NodeWork) → Light v (applies_one f m x v)
light_one f m x v =
    let ps : List Begun = known f v.node in
    let place : ℕ = suc v.node.copies.applied in
    let taken : NodeWork = copies_take f m ps x v in
    let lines : List Line = lines_after (singles_of f ps) f.performs v.node.copies x in
    let told : NodeWork = answers place lines taken in
    let born : List Begun = begun_by f.settings.nodes (home_in ps x.process.0) place x.action in
    let u : NodeWork = begins m v.node.copies.processes born told in
    light_reads f u.node.copies.processes u ∙ (light_begins m v.node.copies.processes born told ∙ light_answers place lines taken)

light_each : (f : Frame) (m : ℕ) (xs : List Message) (v : NodeWork) → Light v (applies_each f m xs v)
light_each f m [] v = refl
light_each f m (x ∷ xs) v = cond_both (passes_limit f v.node x) _ _ (Light v) (λ e. refl) (λ e. light_each f m xs (applies_one f m x v) ∙ light_one f m x v)

acts_light : (acts : List (Act Message)) (deeds : List Deed) → mails_cost (mails_of (map Acts acts ++ deeds)) ≡ mails_cost (mails_of deeds)
acts_light [] deeds = refl
acts_light (Act.Sends letter ∷ acts) deeds =
    let r = acts_light acts deeds in
    let p = mails_push (mails_of (map Acts acts ++ deeds)) (Mail.Grouped letter) in
    omega (arith, r, p)
acts_light (Act.Keeps packet ∷ acts) deeds = acts_light acts deeds
acts_light (Act.Orders k x ∷ acts) deeds = acts_light acts deeds
acts_light (Act.Begins k log answers ∷ acts) deeds = acts_light acts deeds

light_joins : (work : Work Message) (v : NodeWork) → Light v (joins work v)
light_joins work v = acts_light work.acts v.deeds

light_round : (f : Frame) (m : ℕ) (v : NodeWork) → Light v (round f m v)
light_round f m v =
    let u : NodeWork = applies f m v in
    cond_both (nat_lt u.node.member.applied u.node.copies.applied) (joins (note (group f) m u.node.copies.applied u.node.member) u) u (Light v)
    (λ e. light_joins (note (group f) m u.node.copies.applied u.node.member) u ∙ light_each f m (due_entries v.node) v) (λ e. light_each f m (due_entries v.node) v)

light_rounds : (f : Frame) (m : ℕ) (waiting : List (Waiting Message)) (v : NodeWork) → Light v (rounds f m waiting v)
light_rounds f m [] v = light_round f m v
light_rounds f m (one ∷ more) v = light_rounds f m more (round f m v) ∙ light_round f m v

light_performed : (place : ℕ) (lines : List Line) (v : NodeWork) → Light v (performs_all place lines v)
light_performed place [] v = refl
light_performed place (line ∷ lines) v = light_performed place lines (does (Performs (record { place = place; line = line })) v)

-- ---- so it costs nothing

pub joins_cost : (work : Work Message) (v : NodeWork) → work_cost (joins work v) ≡ work_cost v
joins_cost work v = let l = light_joins work v in omega (arith, l)

pub read_cost : (f : Frame) (i : ℕ) (v : NodeWork) → work_cost (tries_read f i v) ≡ work_cost v
read_cost f i v =
    let e = even_read f i v in
    let a = ap all_held e.held in
    let b = ap (λ (calls : List Suspended). length calls) e.waits in
    let l = light_read f i v in
    omega (arith, a, b, l)

pub performed_cost : (place : ℕ) (lines : List Line) (v : NodeWork) → (performs_all place lines v).node ≡ v.node → work_cost (performs_all place lines v) ≡ work_cost v
performed_cost place lines v same = let a = ap node_cost same in let l = light_performed place lines v in omega (arith, a, l)

applied_cost : (f : Frame) (m : ℕ) (v : NodeWork) → work_cost (applies_all f m v) ≡ work_cost v
applied_cost f m v =
    let e = even_rounds f m v.node.member.waiting v in
    let a = ap all_held e.held in
    let b = ap (λ (calls : List Suspended). length calls) e.waits in
    let l = light_rounds f m v.node.member.waiting v in
    omega (arith, a, b, l)

-- ---- a call is taken: it waits then, or it has a line, and so does each that waited

abbrev size : Settling → ℕ
size s = length s.queue + length s.lines

removed : (queue : List Suspended) (at : ℕ) (call : Suspended) → slice_get queue at ≡ Some call → suc (length (remove queue at)) ≡ length queue
removed [] at call e = let d : None ≡ Some call = e in absurd (cc d)
removed (x ∷ xs) zero call e = refl
removed (x ∷ xs) (suc at) call e = ap suc (removed xs at call e)

performed_size : (p : Meant) (s : Settling) (at : ℕ) (o : Option Suspended) → slice_get s.queue at ≡ o → size (performed p s at o) ≤ size s
performed_size p s at None is = omega arith
performed_size p s at (Some call) is =
    let r = removed s.queue at call is in
    let n = length-append s.lines (answered call (tried_in p s.objects call) ∷ []) in
    omega (arith, r, n)

stepped_size : (p : Meant) (s : Settling) (o : Option ℕ) → size (stepped p s o) ≤ size s
stepped_size p s None = omega arith
stepped_size p s (Some at) = performed_size p s at (slice_get s.queue at) refl

settled_size : (p : Meant) (n : ℕ) (s : Settling) → size (settle_up_to p n s) ≤ size s
settled_size p zero s = omega arith
settled_size p (suc n) s =
    let a = stepped_size p s (next_ready p s.objects s.queue) in
    let b = settled_size p n (stepped p s (next_ready p s.objects s.queue)) in
    omega (arith, a, b)

called_size : (copies : Copied) (s : Suspended) (t : Tried) → size (called copies s t) ≤ suc (length copies.queue)
called_size copies s tried.Blocked = let n = length-append copies.queue (s ∷ []) in omega (arith, n)
called_size copies s (tried.Did guard state reply) = omega arith
called_size copies s (tried.Broke guard fault) = omega arith

acted_size : (p : Meant) (copies : Copied) (x : Message) (a : Action) → size (acted_by p copies x a) ≤ suc (length copies.queue)
acted_size p copies x (action.Make kind object) = omega arith
acted_size p copies x (action.Call kind op object args) = called_size copies (as_call x kind op object args) (tried_in p copies.objects (as_call x kind op object args))
acted_size p copies x (action.Fork text args place_on) = omega arith
acted_size p copies x action.Ended = omega arith
acted_size p copies x (action.Faulted fault) = omega arith

call_size : (p : Meant) (copies : Copied) (x : Message) → length (after_single p copies x).waits + length (lines_single p copies x) ≤ suc (length copies.waits)
call_size p copies x =
    let a : Settling = acted p (side copies) x in
    let b : Settling = settled p a.objects a.queue in
    let one : size a ≤ suc (length copies.waits) = acted_size p (side copies) x x.action in
    let two : size b ≤ length a.queue + 0 = settled_size p (length a.queue) (record { objects = a.objects; queue = a.queue; lines = [] }) in
    let n : length (lines_single p copies x) ≡ length a.lines + length b.lines = length-append a.lines b.lines in
    whole (length (after_single p copies x).waits) (length (lines_single p copies x)) (length a.queue) (length a.lines) (length b.lines) (length copies.waits) one two n
  where
    whole : (waits lines queue first second before : ℕ) → queue + first ≤ suc before → waits + second ≤ queue + 0 → lines ≡ first + second → waits + lines ≤ suc before
    whole waits lines queue first second before one two n = omega (arith, one, two, n)

-- ---- and lines are handed on: each costs an Answer at most

answer_push : (mails : List Mail) (incarnation from to place : ℕ) (i : ProcessNo) (call : CallNo) (reply : Reply) →
    mails_cost (mails ++ Mail.Sends incarnation from to (Answer place i call reply) ∷ []) ≡ suc (mails_cost mails)
answer_push mails incarnation from to place i call reply = let p = mails_push mails (Mail.Sends incarnation from to (Answer place i call reply)) in omega (arith, p)

pub ask_push : (mails : List Mail) (incarnation from to place : ℕ) (x : Message) → mails_cost (mails ++ Mail.Sends incarnation from to (Ask place x) ∷ []) ≡ suc (suc (mails_cost mails))
ask_push mails incarnation from to place x = let p = mails_push mails (Mail.Sends incarnation from to (Ask place x)) in omega (arith, p)

hands_cost : (f : Frame) (m : ℕ) (l : Line) (v : NodeWork) → sent_cost (hands f m l v) ≤ suc (sent_cost v)
hands_cost f m l v =
    let place : ℕ = v.node.copies.applied in
    let u : NodeWork = does (Performs (record { place = place; line = l })) v in
    let to : ℕ = home_in (known f v.node) l.process.0 in
    cond_both (to == m) (changes (receives place l.reply) l.process.0 u) _ (λ (z : NodeWork). sent_cost z ≤ suc (sent_cost v))
    (λ e. let s = light_if (receives place l.reply) l.process.0 (u.node.played l.process.0) u in omega (arith, s))
    (λ e. let p = answer_push (mails_of v.deeds) v.node.member.installed m to place l.process l.call l.reply in omega (arith, p))

hands_all_cost : (f : Frame) (m : ℕ) (ls : List Line) (v : NodeWork) → sent_cost (hands_all f m ls v) ≤ sent_cost v + length ls
hands_all_cost f m [] v = omega arith
hands_all_cost f m (l ∷ ls) v = let a = hands_cost f m l v in let b = hands_all_cost f m ls (hands f m l v) in omega (arith, a, b)

pub call_cost : (f : Frame) (m : ℕ) (x : Message) (v : NodeWork) → work_cost (performs_call f m x v) ≤ suc (work_cost v)
call_cost f m x v =
    let ls : List Line = lines_single f.performs v.node.copies x in
    let u : NodeWork = becomes (record v.node { copies = after_single f.performs v.node.copies x }) v in
    let c = ap (λ (z : Copied). length z.waits) (all_copies f m 0 0 0 [] refl ls u) in
    let h = ap all_held (call_held f m 0 0 0 [] refl x v) in
    let s = hands_all_cost f m ls u in
    let n = call_size f.performs v.node.copies x in
    omega (arith, c, h, s, n)

-- ---- an Ask or an Answer is taken

taken_cost : (f : Frame) (m : ℕ) (x : Message) (v : NodeWork) → work_cost (takes_call f m x v) ≤ suc (work_cost v)
taken_cost f m x v = cond_both (waits_here x v.node.copies.waits) v (performs_call f m x v) (λ (u : NodeWork). work_cost u ≤ suc (work_cost v)) (λ e. le_suc (work_cost v)) (λ e. call_cost f m x v)

asked_cost : (f : Frame) (m : ℕ) (x : Message) (o : Option Given) (v : NodeWork) → work_cost (takes_asked f m x o v) ≤ suc (work_cost v)
asked_cost f m x None v = taken_cost f m x v
asked_cost f m x (Some given) v = cond_both (nat_lt given.call.0 x.call.0) (takes_call f m x v) _ (λ (u : NodeWork). work_cost u ≤ suc (work_cost v)) (λ e. taken_cost f m x v)
    (λ e. cond_both (given.call.0 == x.call.0) (sends_given m (home_in (known f v.node) x.process.0) x.process given v) v (λ (u : NodeWork). work_cost u ≤ suc (work_cost v))
    (λ d. let p = answer_push (mails_of v.deeds) v.node.member.installed m (home_in (known f v.node) x.process.0) given.place x.process given.call given.reply in omega (arith, p))
    (λ d. le_suc (work_cost v)))

hears_cost : (place i : ℕ) (call : CallNo) (reply : Reply) (r : Played) (stage : Stage) (v : NodeWork) → work_cost (hears_as place i call reply r stage v) ≡ work_cost v
hears_cost place i call reply r (Asking act) v = cond_both (call.0 == length r.replies) (plays i (receives place reply r) v) v (λ (u : NodeWork). work_cost u ≡ work_cost v) (λ e. refl) (λ e. refl)
hears_cost place i call reply r Computing v = refl
hears_cost place i call reply r (Acting act) v = refl
hears_cost place i call reply r (Submitted act) v = refl
hears_cost place i call reply r (Reading act) v = refl
hears_cost place i call reply r (Over act) v = refl

heard_cost : (place i : ℕ) (call : CallNo) (reply : Reply) (o : Option Played) (v : NodeWork) → work_cost (hears_of place i call reply o v) ≡ work_cost v
heard_cost place i call reply None v = refl
heard_cost place i call reply (Some r) v = hears_cost place i call reply r r.stage v

takes_cost : (f : Frame) (m : ℕ) (e : Errand) (v : NodeWork) → work_cost (takes f m e v) ≤ work_cost v + held_cost e
takes_cost f m (Ask place x) v = let a = asked_cost f m x (v.node.given x.process.0) v in omega (arith, a)
takes_cost f m (Answer place i call reply) v = let a = heard_cost place i.0 call reply (v.node.played i.0) v in omega (arith, a)

holds_cost : (e : Errand) (v : NodeWork) → work_cost (holds e v) ≤ work_cost v + held_cost e
holds_cost e v = let p = held_push v.node.held e in omega (arith, p)

each_cost : (f : Frame) (m : ℕ) (es : List Errand) (v : NodeWork) → work_cost (takes_each f m es v) ≤ work_cost v + all_held es
each_cost f m [] v = omega arith
each_cost f m (e ∷ es) v = both (work_cost v) (held_cost e) (all_held es) (work_cost u) (work_cost (takes_each f m es u)) one (each_cost f m es u)
  where
    u : NodeWork
    u = if nat_le (place_of e) v.node.copies.applied then takes f m e v else holds e v

    one : work_cost u ≤ work_cost v + held_cost e
    one = cond_both (nat_le (place_of e) v.node.copies.applied) (takes f m e v) (holds e v) (λ (z : NodeWork). work_cost z ≤ work_cost v + held_cost e) (λ d. takes_cost f m e v) (λ d. holds_cost e v)

    both : (a b c d g : ℕ) → d ≤ a + b → g ≤ d + c → g ≤ a + (b + c)
    both a b c d g x y = omega (arith, x, y)

reached_cost : (f : Frame) (m : ℕ) (v : NodeWork) → work_cost (takes_reached f m v) ≤ work_cost v
reached_cost f m v = cond_both v.node.member.outside v (takes_each f m v.node.held u) (λ (z : NodeWork). work_cost z ≤ work_cost v)
    (λ e. omega arith) (λ e. let a = each_cost f m v.node.held u in both (all_held v.node.held) (length v.node.copies.waits) (sent_cost v) (work_cost (takes_each f m v.node.held u)) a)
  where
    u : NodeWork
    u = becomes (record v.node { held = [] }) v

    both : (held waits sent all : ℕ) → all ≤ ((0 + waits) + sent) + held → all ≤ (held + waits) + sent
    both held waits sent all h = omega (arith, h)

-- ---- after an event

pub catches_cost : (f : Frame) (m : ℕ) (v : NodeWork) → work_cost (catches_up f m v) ≤ work_cost v
catches_cost f m v = let a = applied_cost f m v in let b = reached_cost f m (applies_all f m v) in omega (arith, a, b)

pub arrives_cost : (e : Errand) (v : NodeWork) → work_cost (arrives e v) ≤ work_cost v + held_cost e
arrives_cost e v = cond_both (v.node.member.outside || is_held e v.node.held) v (holds e v) (λ (u : NodeWork). work_cost u ≤ work_cost v + held_cost e) (λ d. omega arith) (λ d. holds_cost e v)
