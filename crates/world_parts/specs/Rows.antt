-- Parts of the rows of the table of standings, as calls tell them one by one.
use Rattle.std.specs.Prelude.{◌≡◌, ◌==◌, ◌&&◌, ◌||◌, not, if◌then◌else◌, ℕ, Bool, length, Option, None}
use Rattle.orca_base.specs.declared.ids.ObjectId.{ObjectId}
use Rattle.orca_base.specs.declared.what.What.{What}
use Rattle.group_rules.specs.Member.{leads}
use Rattle.group_rules.specs.Steps.{is_empty}
use Rattle.world_rules.specs.Frame.{Frame, group}
use Rattle.world_rules.specs.Nodes.{Node}
use Rattle.world_rules.specs.Processes.{owner_in}
use Rattle.world_rules.specs.Standings.{limit_at, waits_in}
use Rattle.world_rules.specs.Worlds.{World, processes_of}
use Rattle.world_rules.specs.declared.standing.Standing.{Standing}
use Rattle.world_rules.specs.declared.standing.Standing.TheVariants.{Faulted, Blocked, Finished}

-- the limit that stops member m, where it lives
abbrev pub Stops : Frame → World → ℕ → Option (What × ℕ) → Type 0
Stops f w m passed = passed ≡ (if w.lives m then limit_at f (w.nodes m) else None)

-- member m is crashed or outside
abbrev pub is_lost : World → ℕ → Bool
is_lost w m = not (w.lives m) || (w.nodes m).member.outside

-- a call of process i stands in the queue of this owner, which isn't outside
abbrev pub waits_at : World → ℕ → ℕ → Bool
waits_at w i owner = not (w.nodes owner).member.outside && waits_in i (w.nodes owner).copies.waits

-- in that of the object's owner, which lives too
abbrev pub waits_on : Frame → World → ℕ → ObjectId → Bool
waits_on f w i object = w.lives (owner_in (processes_of f w) object) && waits_at w i (owner_in (processes_of f w) object)

-- nothing is pending with member m, and nothing waits at it as sequencer
abbrev pub has_nothing_left : Frame → ℕ → Node → Bool
has_nothing_left f m node = is_empty node.member.pending && (not (leads (group f) m node.member) || is_empty node.member.waiting)

-- and it applied its whole log, and so many entries
abbrev pub has_applied_all : Frame → ℕ → Node → ℕ → Bool
has_applied_all f m node listed =
    ((node.member.applied == length node.member.log) && (node.member.applied == listed)) && has_nothing_left f m node

-- how a run stands that is over, by whether a process has ended by a fault, and whether each of a living member has ended
abbrev pub how_ended : Bool → Bool → Standing
how_ended faulted ended = if faulted then Faulted else (if ended then Finished else Blocked)
