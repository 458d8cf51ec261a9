-- Calls on single objects: at the owner, and the Asks and Answers that bring them there and their replies back.
use Rattle.std.specs.Prelude.{ℕ, ◌==◌, ◌||◌, nat_le, nat_lt, length, if◌then◌else◌, Bool, false, List, [], ◌∷◌, ◌++◌, Option, None, Some}
use Rattle.orca_base.specs.declared.ids.CallNo.{CallNo}
use Rattle.orca_base.specs.declared.ids.ProcessNo.{ProcessNo}
use Rattle.value_core.specs.declared.action.Line.{Line}
use Rattle.value_core.specs.declared.action.Reply.{Reply}
use Rattle.value_core.specs.declared.message.Message.{Message}
use Rattle.guard_queue.specs.declared.queue.Suspended.{Suspended}
use Rattle.object_manager.specs.Singles.{after_single, lines_single}
use Rattle.group_rules.specs.Sets.{with_at}
use Rattle.world_rules.specs.Frame.{Frame}
use Rattle.world_rules.specs.Mail.{Errand, Mail, place_of, same_call, same_errand}
use Rattle.world_rules.specs.Mail.Errand.{Ask, Answer}
use Rattle.world_rules.specs.Nodes.{Given, NodeWork, becomes, changes, does, known, plays}
use Rattle.world_rules.specs.Nodes.Deed.{Mails, Performs}
use Rattle.world_rules.specs.Played.{Played, Stage, receives}
use Rattle.world_rules.specs.Played.Stage.{Computing, Acting, Submitted, Reading, Asking, Over}
use Rattle.world_rules.specs.Processes.{home_in}

-- ---- at the owner

-- member m sends an Ask or an Answer
abbrev pub sends : ℕ → ℕ → Errand → NodeWork → NodeWork
sends m to errand v = does (Mails (Mail.Sends v.node.member.installed m to errand)) v

abbrev pub sends_given : ℕ → ℕ → ProcessNo → Given → NodeWork → NodeWork
sends_given m home i given v = sends m home (Answer given.place i given.call given.reply) v

-- a reply goes to its process here, or as an Answer, which is kept, to the member of its process
abbrev pub hands_to : ℕ → ℕ → ℕ → Line → NodeWork → NodeWork
hands_to m home place l v =
    if home == m then changes (receives place l.reply) l.process.0 v
    else (let given : Given = record { place = place; call = l.call; reply = l.reply } in
    sends_given m home l.process given
    (becomes (record v.node { given = with_at v.node.given l.process.0 (Some given) }) v))

-- each performed line stands beside the list, at the number of entries that the owner applied, and its reply is handed on
abbrev pub hands : Frame → ℕ → Line → NodeWork → NodeWork
hands f m l v =
    let place = v.node.copies.applied in
    hands_to m (home_in (known f v.node) l.process.0) place l (does (Performs (record { place = place; line = l })) v)

abbrev pub hands_all : Frame → ℕ → List Line → NodeWork → NodeWork
hands_all f m [] v = v
hands_all f m (l ∷ ls) v = hands_all f m ls (hands f m l v)

-- the owner tries a call, which is performed or joins the calls that wait on its object; these then settle
abbrev pub performs_call : Frame → ℕ → Message → NodeWork → NodeWork
performs_call f m x v =
    hands_all f m (lines_single f.performs v.node.copies x)
    (becomes (record v.node { copies = after_single f.performs v.node.copies x }) v)

-- ---- an Ask whose place is reached

-- the call waits here
abbrev pub is_this_call : Message → Suspended → Bool
is_this_call x call = same_call x.process x.call call.process call.call

abbrev pub waits_here : Message → List Suspended → Bool
waits_here x [] = false
waits_here x (call ∷ calls) = is_this_call x call || waits_here x calls

-- a call that waits here is taken once
abbrev pub takes_call : Frame → ℕ → Message → NodeWork → NodeWork
takes_call f m x v = if waits_here x v.node.copies.waits then v else performs_call f m x v

-- one that was answered gets its Answer again, with its old place, and an earlier one nothing
abbrev pub takes_asked : Frame → ℕ → Message → Option Given → NodeWork → NodeWork
takes_asked f m x None v = takes_call f m x v
takes_asked f m x (Some given) v =
    if nat_lt given.call.0 x.call.0 then takes_call f m x v
    else (if given.call.0 == x.call.0
    then sends_given m (home_in (known f v.node) x.process.0) x.process given v
    else v)

abbrev pub takes_ask : Frame → ℕ → Message → NodeWork → NodeWork
takes_ask f m x v = takes_asked f m x (v.node.given x.process.0) v

-- ---- an Answer whose place is reached

-- it is the reply to its process's next call, or it does nothing
abbrev pub hears_as : ℕ → ℕ → CallNo → Reply → Played → Stage → NodeWork → NodeWork
hears_as place i call reply r (Asking act) v = if call.0 == length r.replies then plays i (receives place reply r) v else v
hears_as place i call reply r Computing v = v
hears_as place i call reply r (Acting act) v = v
hears_as place i call reply r (Submitted act) v = v
hears_as place i call reply r (Reading act) v = v
hears_as place i call reply r (Over act) v = v

abbrev pub hears_of : ℕ → ℕ → CallNo → Reply → Option Played → NodeWork → NodeWork
hears_of place i call reply None v = v
hears_of place i call reply (Some r) v = hears_as place i call reply r r.stage v

abbrev pub takes_answer : ℕ → ProcessNo → CallNo → Reply → NodeWork → NodeWork
takes_answer place i call reply v = hears_of place i.0 call reply (v.node.played i.0) v

-- ---- what came and waits for its place

abbrev pub takes : Frame → ℕ → Errand → NodeWork → NodeWork
takes f m (Ask place x) v = takes_ask f m x v
takes f m (Answer place i call reply) v = takes_answer place i call reply v

abbrev pub holds : Errand → NodeWork → NodeWork
holds errand v = becomes (record v.node { held = v.node.held ++ errand ∷ [] }) v

-- in order of arrival: those whose place is reached are taken, others wait on
abbrev pub takes_each : Frame → ℕ → List Errand → NodeWork → NodeWork
takes_each f m [] v = v
takes_each f m (errand ∷ errands) v =
    takes_each f m errands (if nat_le (place_of errand) v.node.copies.applied then takes f m errand v else holds errand v)

-- an outside member takes none
abbrev pub takes_reached : Frame → ℕ → NodeWork → NodeWork
takes_reached f m v =
    if v.node.member.outside then v
    else takes_each f m v.node.held (becomes (record v.node { held = [] }) v)

-- one that comes waits, but for a repeat of one that waits
abbrev pub is_held : Errand → List Errand → Bool
is_held errand [] = false
is_held errand (other ∷ others) = same_errand errand other || is_held errand others

abbrev pub arrives : Errand → NodeWork → NodeWork
arrives errand v = if v.node.member.outside || is_held errand v.node.held then v else holds errand v
