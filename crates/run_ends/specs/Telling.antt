-- What is told of a run at its end.
use Rattle.std.specs.Prelude.{◌≡◌, ℕ, Bool, not, if◌then◌else◌, List, map, length, take, Option, None, Some, slice_get}
use Rattle.std.specs.BTreeSet.{BTreeSet, contains}
use Rattle.std.specs.List.Sorted.{IsPermutation}
use Rattle.std.specs.Ordering.{nat_cmp, ordering_then}
use Rattle.std.specs.declared.cmp.Ordering.{Ordering}
use Rattle.book_law.specs.Events.{lines_by, replies_to}
use Rattle.book_law.specs.declared.placing.Placed.{Placed}
use Rattle.value_core.specs.declared.action.Line.{Line}
use Rattle.value_core.specs.declared.action.Reply.{Reply}
use Rattle.value_core.specs.declared.message.Message.{Message}
use Rattle.world_parts.specs.Standing.{Is}
use Rattle.world_parts.specs.declared.parts.Parts.{Parts}
use Rattle.world_places.specs.Told.{is_among}
use Rattle.world_rules.specs.Nodes as nodes
use Rattle.world_rules.specs.Standings.{process_count}
use Rattle.node_parts.specs.Shown.{Left, Stood, on_stage}
use Rattle.node_core.specs.Stands.{StandsAs}
use Rattle.node_core.specs.declared.node.Node.{Node}
use Rattle.node_parts.specs.declared.resident.Resident.{Resident}
use Rattle.object_manager.specs.Singles.{IsBoth}
use Rattle.world_rules.specs.Frame.{Frame}
use Rattle.world_rules.specs.Worlds.{Book, World}
use Rattle.world_facts.specs.Ends as facts
use Rattle.world_facts.specs.Ends.{Stand, StandsBy, end_at, node_end, process_end, process_ends, replies_in}
use Rattle.world_rules.specs.Played.{Played}
use Rattle.world_rules.specs.Worlds.{played_in}
use Rattle.value_core.specs.Lawful.{next_of}
use Rattle.orca_base.specs.declared.ids.ProcessNo.{ProcessNo}
use Rattle.run_ends.specs.declared.ends.NodeEnd.{NodeEnd}
use Rattle.run_ends.specs.declared.ends.ProcessEnd.{ProcessEnd}
use Rattle.run_ends.specs.declared.ends.ProcessStanding.{ProcessStanding}
use Rattle.run_ends.specs.declared.ends.ProcessStanding.TheVariants as standing

-- a member as the world's is, with all its copies as one
pub record IsNodeEnd (end : NodeEnd) (is : facts.NodeEnd) : Type 0 where
  pub applied : end.applied ≡ is.applied
  pub incarnation : end.incarnation ≡ is.incarnation
  pub crashed : end.crashed ≡ is.crashed
  pub outside : end.outside ≡ is.outside
  pub copies : IsBoth end.copies is.copies is.own

pub record AreNodeEnds (f : Frame) (w : World) (ends : List NodeEnd) : Type 0 where
  pub count : length ends ≡ f.settings.nodes
  pub each : (m : ℕ) (end : NodeEnd) → slice_get ends m ≡ Some end → IsNodeEnd end (node_end w m)

abbrev pub on_standing : ProcessStanding → Stand
on_standing standing.Ended = Stand.Ended
on_standing (standing.Faulted fault) = Stand.Faulted fault
on_standing (standing.Waits act) = Stand.Waits act
on_standing standing.Busy = Stand.Busy
on_standing standing.Crashed = Stand.Crashed

abbrev pub on_process_end : ProcessEnd → facts.ProcessEnd
on_process_end end = record { node = end.node; replies = end.replies; turns = end.turns; stand = on_standing end.standing }

-- what the end of each process that its member began says of what it does next, after its replies
abbrev pub EndsMean : Frame → World → Type 0
EndsMean f w =
    (i : ProcessNo) (r : Played) → played_in f w i.0 ≡ Some r →
    StandsBy (next_of f.computes r.text i r.args r.replies) (process_end f w i.0).stand

abbrev pub AreProcessEnds : Frame → World → List ProcessEnd → Type 0
AreProcessEnds f w ends = map on_process_end ends ≡ process_ends f w

-- ---- how code tells it

-- of whichever node of the world the member is, it is that one's end
abbrev pub TellsNode : {P S : Type 0} → Stood S → Left S → Node P S → Bool → NodeEnd → Type 0
TellsNode stood left s lives end =
    (f : Frame) (m : ℕ) (v : nodes.Node) → StandsAs stood left f m s v →
    IsNodeEnd end (record {
      applied = v.member.applied;
      incarnation = v.member.installed;
      crashed = not lives;
      outside = v.member.outside;
      copies = v.copies.objects;
      own = v.copies.own;
    })

-- where a process stands, as its member has it
abbrev pub standing_as : {S : Type 0} → Bool → Option (Resident S) → Stand
standing_as lives None = if lives then Stand.Busy else Stand.Crashed
standing_as lives (Some s) = end_at lives (on_stage s.stage)

-- off these lines, of each process the first replies of its own lines, as many as it received
pub record HasHeard (f : Frame) (w : World) (lines : List Line) (replies : List (List Reply)) : Type 0 where
  pub count : length replies ≡ process_count f w
  pub each :
      (i : ℕ) (heard : List Reply) → slice_get replies i ≡ Some heard →
      heard ≡ take (length (replies_in (played_in f w i))) (replies_to (lines_by i lines))

-- ---- places

-- what was performed, in an order in which its lines are the book
pub record IsInOrder {P S : Type 0} (stood : Stood S) (left : Left S) (f : Frame) (s : Parts P S) (performed : List Placed) : Type 0 where
  pub same : IsPermutation s.ledger.performed performed
  pub lines : Is stood left f s (λ w. map (λ (r : Placed). r.line) performed ≡ Book f w)

-- by process, then by number
abbrev pub call_cmp : ℕ × ℕ → ℕ × ℕ → Ordering
call_cmp a b = ordering_then (nat_cmp a.0 b.0) (nat_cmp a.1 b.1)

-- whether the line's call is in a set of calls
abbrev pub has : BTreeSet (ℕ × ℕ) → Line → Bool
has calls line = contains call_cmp calls (line.process.0, line.call.0)

-- the set has the calls that these messages are of
abbrev pub ListsCalls : List Message → BTreeSet (ℕ × ℕ) → Type 0
ListsCalls messages calls = (line : Line) → has calls line ≡ is_among messages line
