-- One member's part of each event.
use Rattle.std.specs.Prelude.{ℕ, zero, suc, ◌==◌, if◌then◌else◌, List, [], ◌∷◌, Option, None, Some, refl}
use Rattle.value_core.specs.declared.action.Action.{Action}
use Rattle.value_core.specs.declared.action.Action.TheVariants as action
use Rattle.value_core.specs.declared.action.Class.{Class}
use Rattle.value_core.specs.declared.action.Class.TheVariants.{Reads, Writes}
use Rattle.value_core.specs.declared.action.Line.{Line}
use Rattle.value_core.specs.declared.message.Message.{Message}
use Rattle.guard_queue.specs.declared.queue.Suspended.{Suspended}
use Rattle.object_manager.specs.State.{message_of}
use Rattle.group_rules.specs.Reset.{coordinate}
use Rattle.group_rules.specs.Steps.{deliver, submit, timer}
use Rattle.world_rules.specs.Applying.{applies_all, tries_read}
use Rattle.world_rules.specs.Frame.{Frame, group}
use Rattle.world_rules.specs.Mail.{Mail}
use Rattle.world_rules.specs.Mail.Errand.{Ask}
use Rattle.world_rules.specs.Nodes.{Node, NodeWork, does, idle, joins, known, plays}
use Rattle.world_rules.specs.Nodes.Deed.{Performs, Submits}
use Rattle.world_rules.specs.Owners.{arrives, performs_call, sends, takes_reached}
use Rattle.world_rules.specs.Played.{Played, Stage, moves_to, next_call}
use Rattle.world_rules.specs.Played.Stage.{Computing, Acting, Submitted, Reading, Asking, Over}
use Rattle.world_rules.specs.Processes.{owner_in, singles_of}

-- ---- after an event

-- it applies its entries up to the accepted number, and then takes the Asks and Answers whose place it has reached
abbrev pub catches_up : Frame → ℕ → NodeWork → NodeWork
catches_up f m v = takes_reached f m (applies_all f m v)

-- ---- a burst is checked in

-- its reads are performed at its place, and its process stands where it ended
abbrev pub performs_all : ℕ → List Line → NodeWork → NodeWork
performs_all place [] v = v
performs_all place (line ∷ lines) v = performs_all place lines (does (Performs (record { place = place; line = line })) v)

abbrev pub computes : ℕ → ℕ → List Line → Played → Node → NodeWork
computes i place reads end node = plays i end (performs_all place reads (idle node))

-- ---- an action is carried out

-- a make, a fork or a call of a replicated object is submitted to the group
abbrev pub submits : Frame → ℕ → ℕ → Played → Action → Message → NodeWork → NodeWork
submits f m i r act x v =
    let u = does (Submits x) (plays i (moves_to (Submitted act) r) v) in
    joins (submit (group f) m x u.node.member) u

-- a read of one is performed here, or waits
abbrev pub reads : Frame → ℕ → Played → Action → NodeWork → NodeWork
reads f i r act v = tries_read f i (plays i (moves_to (Reading act) r) v)

-- a call on a single object is performed or waits at its owner, to which it goes as an Ask
abbrev pub asks : Frame → ℕ → ℕ → Played → Suspended → NodeWork → NodeWork
asks f m i r call v =
    let u = plays i (moves_to (Asking (message_of call).action) r) v in
    let owner = owner_in (known f v.node) call.object in
    if owner == m then performs_call f m (message_of call) u else sends m owner (Ask r.place (message_of call)) u

abbrev pub calls_as : Frame → ℕ → ℕ → Played → Suspended → Class → NodeWork → NodeWork
calls_as f m i r call Reads v = reads f i r (message_of call).action v
calls_as f m i r call Writes v = submits f m i r (message_of call).action (message_of call) v

abbrev pub calls : Frame → ℕ → ℕ → Played → Suspended → NodeWork → NodeWork
calls f m i r call v =
    if singles_of f (known f v.node) call.object then asks f m i r call v
    else calls_as f m i r call (f.performs.class_of call.kind call.op) v

-- a message of this process with its next call
abbrev pub acts_by : Frame → ℕ → ℕ → Played → Action → NodeWork → NodeWork
acts_by f m i r (action.Make kind object) v =
    submits f m i r (action.Make kind object)
    (record { process = record { 0 = i }; call = next_call r; action = action.Make kind object; performable = refl }) v
acts_by f m i r (action.Call kind op object args) v =
    calls f m i r (record { process = record { 0 = i }; call = next_call r; kind = kind; op = op; object = object; args = args }) v
acts_by f m i r (action.Fork text args place_on) v =
    submits f m i r (action.Fork text args place_on)
    (record { process = record { 0 = i }; call = next_call r; action = action.Fork text args place_on; performable = refl }) v
acts_by f m i r action.Ended v = v
acts_by f m i r (action.Faulted fault) v = v

abbrev pub acts_at : Frame → ℕ → ℕ → Played → Stage → NodeWork → NodeWork
acts_at f m i r (Acting act) v = acts_by f m i r act v
acts_at f m i r Computing v = v
acts_at f m i r (Submitted act) v = v
acts_at f m i r (Reading act) v = v
acts_at f m i r (Asking act) v = v
acts_at f m i r (Over act) v = v

abbrev pub acts_of : Frame → ℕ → ℕ → Option Played → NodeWork → NodeWork
acts_of f m i None v = v
acts_of f m i (Some r) v = acts_at f m i r r.stage v

abbrev pub acts : Frame → ℕ → ℕ → Node → NodeWork
acts f m i node = catches_up f m (acts_of f m i (node.played i) (idle node))

-- ---- a letter comes

abbrev pub receives_mail : Frame → ℕ → Mail → NodeWork → NodeWork
receives_mail f m (Mail.Grouped letter) v = joins (deliver (group f) m letter.packet v.node.member) v
receives_mail f m (Mail.Sends incarnation from to errand) v = arrives errand v

abbrev pub receives : Frame → ℕ → Mail → Node → NodeWork
receives f m mail node = catches_up f m (receives_mail f m mail (idle node))

-- ---- a tick

-- its Ask goes to the owner again
abbrev pub asks_owner : Frame → ℕ → Played → Suspended → NodeWork → NodeWork
asks_owner f m r call v =
    let owner = owner_in (known f v.node) call.object in
    if owner == m then v else sends m owner (Ask r.place (message_of call)) v

abbrev pub asks_again_by : Frame → ℕ → ℕ → Played → Action → NodeWork → NodeWork
asks_again_by f m i r (action.Call kind op object args) v =
    asks_owner f m r (record { process = record { 0 = i }; call = next_call r; kind = kind; op = op; object = object; args = args }) v
asks_again_by f m i r (action.Make kind object) v = v
asks_again_by f m i r (action.Fork text args place_on) v = v
asks_again_by f m i r action.Ended v = v
asks_again_by f m i r (action.Faulted fault) v = v

abbrev pub asks_again_at : Frame → ℕ → ℕ → Played → Stage → NodeWork → NodeWork
asks_again_at f m i r (Asking act) v = asks_again_by f m i r act v
asks_again_at f m i r Computing v = v
asks_again_at f m i r (Acting act) v = v
asks_again_at f m i r (Submitted act) v = v
asks_again_at f m i r (Reading act) v = v
asks_again_at f m i r (Over act) v = v

abbrev pub asks_again_of : Frame → ℕ → ℕ → Option Played → NodeWork → NodeWork
asks_again_of f m i None v = v
asks_again_of f m i (Some r) v = asks_again_at f m i r r.stage v

-- the Asks of the processes below n that lack their Answers, in increasing order
abbrev pub asks_below : Frame → ℕ → ℕ → NodeWork → NodeWork
asks_below f m zero v = v
asks_below f m (suc i) v =
    let u = asks_below f m i v in
    asks_again_of f m i (u.node.played i) u

abbrev pub asks_again : Frame → ℕ → NodeWork → NodeWork
asks_again f m v = if v.node.member.outside then v else asks_below f m v.node.copies.processes v

-- its timer runs, and its Asks follow, also where it coordinated
abbrev pub ticks : Frame → ℕ → Node → NodeWork
ticks f m node = catches_up f m (asks_again f m (joins (timer (group f) m node.member) (idle node)))

-- ---- a suspicion: it coordinates

abbrev pub suspects : Frame → ℕ → Node → NodeWork
suspects f m node = catches_up f m (joins (coordinate (group f) m node.member) (idle node))
