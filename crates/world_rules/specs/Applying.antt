-- How a member applies its accepted entries: one by one, each with what it does to the copies, to the member's processes, and to the reads
-- that wait here.
use Rattle.std.specs.Prelude.{ℕ, zero, suc, ◌==◌, nat_lt, if◌then◌else◌, Bool, is_some, List, [], ◌∷◌, Option, None, Some, take, drop}
use Rattle.value_core.specs.declared.action.Action.{Action}
use Rattle.value_core.specs.declared.action.Line.{Line}
use Rattle.value_core.specs.declared.message.Message.{Message}
use Rattle.value_core.specs.declared.meaning.Tried.{Tried}
use Rattle.guard_queue.specs.Settles.{is_blocked}
use Rattle.object_manager.specs.Limits.{too_many}
use Rattle.book_law.specs.Members.{after_entry}
use Rattle.book_law.specs.Passes.{lines_after}
use Rattle.group_rules.specs.Steps.{note}
use Rattle.group_rules.specs.Member.{Waiting}
use Rattle.world_rules.specs.Bursts.{read_line, read_on}
use Rattle.world_rules.specs.Frame.{Frame, group}
use Rattle.world_rules.specs.Nodes.{Node, NodeWork, becomes, changes, does, joins, known, plays}
use Rattle.world_rules.specs.Nodes.Deed.{Applies, Performs}
use Rattle.world_rules.specs.Played.{Played, Stage, newborn, receives}
use Rattle.world_rules.specs.Played.Stage.{Computing, Acting, Submitted, Reading, Asking, Over}
use Rattle.world_rules.specs.Processes.{Begun, begun_by, home_in, singles_of}

-- ---- a read at its member

-- what its try gives: where all guards are false it waits on, else it is performed at the number of entries that the copies applied
abbrev pub performs_read : ℕ → Played → Action → Tried → NodeWork → NodeWork
performs_read i r act t v =
    if is_blocked t then v
    else (let line = read_line (record { 0 = i }) r act t in
    plays i (receives v.node.copies.applied line.reply r) (does (Performs (record { place = v.node.copies.applied; line = line })) v))

abbrev pub tries_as : Frame → ℕ → Played → Stage → NodeWork → NodeWork
tries_as f i r (Reading act) v = performs_read i r act (read_on f.performs v.node.copies.objects act) v
tries_as f i r Computing v = v
tries_as f i r (Acting act) v = v
tries_as f i r (Submitted act) v = v
tries_as f i r (Asking act) v = v
tries_as f i r (Over act) v = v

abbrev pub tries_of : Frame → ℕ → Option Played → NodeWork → NodeWork
tries_of f i None v = v
tries_of f i (Some r) v = tries_as f i r r.stage v

-- process i's read is tried, where it waits with one
abbrev pub tries_read : Frame → ℕ → NodeWork → NodeWork
tries_read f i v = tries_of f i (v.node.played i) v

-- those of the processes below n, in increasing order
abbrev pub tries_reads : Frame → ℕ → NodeWork → NodeWork
tries_reads f zero v = v
tries_reads f (suc i) v = tries_read f i (tries_reads f i v)

-- ---- one entry

-- the copies take it: a single object is kept where its maker is a process of this member
abbrev pub copies_take : Frame → ℕ → List Begun → Message → NodeWork → NodeWork
copies_take f m processes x v =
    does (Applies (lines_after (singles_of f processes) f.performs v.node.copies x))
    (becomes (record v.node {
      copies = after_entry (singles_of f processes) f.performs v.node.copies x (home_in processes x.process.0 == m);
    }) v)

-- its lines answer this member's processes
abbrev pub answers : ℕ → List Line → NodeWork → NodeWork
answers place [] v = v
answers place (l ∷ ls) v = answers place ls (changes (receives place l.reply) l.process.0 v)

-- the process that it forks begins, where it is this member's
abbrev pub begins : ℕ → ℕ → List Begun → NodeWork → NodeWork
begins m i [] v = v
begins m i (process ∷ processes) v = if process.home == m then plays i (newborn process) v else v

-- then each read that waits here is tried
abbrev pub applies_with : Frame → ℕ → List Begun → ℕ → ℕ → Message → NodeWork → NodeWork
applies_with f m processes count place x v =
    let lines = lines_after (singles_of f processes) f.performs v.node.copies x in
    let born = begun_by f.settings.nodes (home_in processes x.process.0) place x.action in
    let u = begins m count born (answers place lines (copies_take f m processes x v)) in
    tries_reads f u.node.copies.processes u

abbrev pub applies_one : Frame → ℕ → Message → NodeWork → NodeWork
applies_one f m x v = applies_with f m (known f v.node) v.node.copies.processes (suc v.node.copies.applied) x v

-- ---- the accepted entries

-- the entry would make the 4,097th object or the 257th process: the member stops before it
abbrev pub passes_limit : Frame → Node → Message → Bool
passes_limit f node x = is_some (too_many f.performs node.copies x.action)

abbrev pub applies_each : Frame → ℕ → List Message → NodeWork → NodeWork
applies_each f m [] v = v
applies_each f m (x ∷ xs) v = if passes_limit f v.node x then v else applies_each f m xs (applies_one f m x v)

-- the entries that are accepted and that the copies haven't applied
abbrev pub due_entries : Node → List Message
due_entries node = drop node.copies.applied (take node.member.accepted node.member.log)

abbrev pub applies : Frame → ℕ → NodeWork → NodeWork
applies f m v = applies_each f m (due_entries v.node) v

-- the group is told how many were applied, where that number rose
abbrev pub notes : Frame → ℕ → NodeWork → NodeWork
notes f m v =
    if nat_lt v.node.member.applied v.node.copies.applied
    then joins (note (group f) m v.node.copies.applied v.node.member) v
    else v

-- that note may let a sequencer order messages that waited for room, which with r = 0 are accepted at once. So it goes on, at most once
-- for each message that waited
abbrev pub round : Frame → ℕ → NodeWork → NodeWork
round f m v = notes f m (applies f m v)

abbrev pub rounds : Frame → ℕ → List (Waiting Message) → NodeWork → NodeWork
rounds f m [] v = round f m v
rounds f m (waiting ∷ more) v = rounds f m more (round f m v)

abbrev pub applies_all : Frame → ℕ → NodeWork → NodeWork
applies_all f m v = rounds f m v.node.member.waiting v
