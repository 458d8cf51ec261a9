-- The moments of a member's part of an event: where it stands between the calls that the part is made of, and how it goes from one to the
-- next. Any piece may come at any moment at which its guard holds, so that whoever proves that something is so at each moment needs
-- no order of theirs.
use Rattle.std.specs.Prelude.{◌≡◌, ◌≤◌, ◌<◌, ℕ, suc, false, List, [], ◌∷◌, Some, slice_get}
use Rattle.value_core.specs.declared.action.Line.{Line}
use Rattle.value_core.specs.declared.message.Message.{Message}
use Rattle.book_law.specs.Passes.{lines_after}
use Rattle.world_rules.specs.Applying.{answers, begins, copies_take, notes, passes_limit, tries_read}
use Rattle.world_rules.specs.Frame.{Frame}
use Rattle.world_rules.specs.Mail.{Errand, place_of}
use Rattle.world_rules.specs.Nodes.{Node, NodeWork, becomes, known}
use Rattle.world_rules.specs.Owners.{holds, takes}
use Rattle.world_rules.specs.Parts.{asks_again_of}
use Rattle.world_rules.specs.Processes.{Begun, begun_by, home_in, singles_of}

-- the work so far, and the Asks and Answers that are at hand: those that were held when it began to take them, but for the taken ones
pub record Moment : Type 0 where
  pub work : NodeWork
  pub hand : List Errand

abbrev pub at_work : NodeWork → Moment
at_work v = record { work = v; hand = [] }

-- with this work, and the same at hand
abbrev pub works : NodeWork → Moment → Moment
works v u = record { work = v; hand = u.hand }

-- ---- the next entry

-- it is accepted, and the copies haven't applied it
pub record IsDue (node : Node) (x : Message) : Type 0 where
  pub accepted : node.copies.applied < node.member.accepted
  pub there : slice_get node.member.log node.copies.applied ≡ Some x

-- its lines, in the order in which they ran
abbrev pub entry_lines : Frame → Node → Message → List Line
entry_lines f node x = lines_after (singles_of f (known f node)) f.performs node.copies x

-- the process that it forks
abbrev pub born_of : Frame → Node → Message → List Begun
born_of f node x = begun_by f.settings.nodes (home_in (known f node) x.process.0) (suc node.copies.applied) x.action

-- the copies take it, its lines answer the processes here, and the process that it forks begins: all of `applies_one` but the reads
abbrev pub takes_entry : Frame → ℕ → Message → NodeWork → NodeWork
takes_entry f m x v =
    begins m v.node.copies.processes (born_of f v.node x)
    (answers (suc v.node.copies.applied) (entry_lines f v.node x) (copies_take f m (known f v.node) x v))

-- ---- from moment to moment

-- no Ask or Answer is held any more
abbrev pub holds_none : NodeWork → NodeWork
holds_none v = becomes (record v.node { held = [] }) v

-- member m goes from moment u to v
pub data Goes (f : Frame) (m : ℕ) (u v : Moment) : Type 0 where
  -- it applies the next entry, which passes no limit
  Takes_entry :
      (x : Message) → IsDue u.work.node x → passes_limit f u.work.node x ≡ false → v ≡ works (takes_entry f m x u.work) u →
      Goes f m u v
  -- it tries the read with which a process waits
  Tries_read : (i : ℕ) → v ≡ works (tries_read f i u.work) u → Goes f m u v
  -- it tells its group how many entries it applied
  Notes : v ≡ works (notes f m u.work) u → Goes f m u v
  -- it begins to take the Asks and Answers that it holds
  Opens :
      u.hand ≡ [] → u.work.node.member.outside ≡ false →
      v ≡ record { work = holds_none u.work; hand = u.work.node.held } → Goes f m u v
  -- it takes the first one at hand, whose place is reached
  Takes :
      (errand : Errand) (errands : List Errand) → u.hand ≡ errand ∷ errands → place_of errand ≤ u.work.node.copies.applied →
      v ≡ record { work = takes f m errand u.work; hand = errands } → Goes f m u v
  -- or it holds that
  Holds :
      (errand : Errand) (errands : List Errand) → u.hand ≡ errand ∷ errands →
      v ≡ record { work = holds errand u.work; hand = errands } → Goes f m u v
  -- it sends the Ask of a process that lacks the Answer again
  Asks_again : (i : ℕ) → v ≡ works (asks_again_of f m i (u.work.node.played i) u.work) u → Goes f m u v

-- and so on
pub data Walks (f : Frame) (m : ℕ) : Moment → Moment → Type 0 where
  Stays : (u : Moment) → Walks f m u u
  Then : (u w v : Moment) → Goes f m u w → Walks f m w v → Walks f m u v
