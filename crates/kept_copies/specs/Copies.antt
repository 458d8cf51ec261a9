-- What the copies that are kept of a run's members are, by its history (docs/RUNTIME.md, The book of a run): where each object is
-- replicated or single.
use Rattle.std.specs.Prelude.{◌≡◌, ◌==◌, ◌++◌, ℕ, Bool, true, false, List, Option, None, Some, slice_get}
use Rattle.orca_base.specs.declared.ids.ObjectId.{ObjectId}
use Rattle.value_core.specs.History.{Process, object_at, objects_of, processes_of}
use Rattle.value_core.specs.declared.action.Instance.{Instance}
use Rattle.value_core.specs.declared.action.Line.{Line}
use Rattle.world_rules.specs.Frame.{Frame, chooses_single}
use Rattle.world_rules.specs.Worlds.{Book, World, places}
use Rattle.world_book.specs.Promise.{IsKept}
use Rattle.world_facts.specs.Ends.{EndsStand}
use Rattle.world_facts.specs.Places.{IsPlaced, lines_to}
use Rattle.run_ends.specs.Telling.{AreNodeEnds, AreProcessEnds}
use Rattle.run_ends.specs.declared.ends.NodeEnd.{NodeEnd}
use Rattle.run_ends.specs.declared.ends.ProcessEnd.{ProcessEnd}

-- an object is single: the run's choices say so of its number among the objects of its maker's text
abbrev pub single_by : Frame → Option Process → ℕ → Bool
single_by f None number = false
single_by f (Some maker) number = chooses_single f.settings.choices maker.text number

-- an object's id names its maker, which is a process of the history
abbrev pub is_single : Frame → List Line → ObjectId → Bool
is_single f book o = single_by f (slice_get (processes_of f.performs f.computes book) o.process) o.number

-- a single object is kept by its owner, its maker's member
abbrev pub owned_by : Option ProcessEnd → ℕ → Bool
owned_by None m = false
owned_by (Some maker) m = maker.node == m

abbrev pub is_owner : List ProcessEnd → ℕ → ObjectId → Bool
is_owner processes m o = owned_by (slice_get processes o.process) m

-- what a member keeps of an object, of which the front of the history that it applied left `in_front`, and the whole history `in_all`: of a
-- replicated one what that front left; of a single one that it owns, and whose make is in that front, what the whole history left; and of
-- another single one nothing
abbrev pub kept_of : (single owner : Bool) (in_front in_all : Option Instance) → Option Instance
kept_of false owner in_front in_all = in_front
kept_of true true (Some made) in_all = in_all
kept_of true true None in_all = None
kept_of true false in_front in_all = None

-- what member m keeps of an object, which applied this front of the history
abbrev pub kept_copy : Frame → List Line → List Line → List ProcessEnd → ℕ → ObjectId → Option Instance
kept_copy f book front processes m o =
    kept_of (is_single f book o) (is_owner processes m o)
    (object_at (objects_of f.performs f.computes front) o) (object_at (objects_of f.performs f.computes book) o)

-- A member's copies: each replicated object is what the front of the history left of it whose lines have places up to what the member
-- applied; each single one is what the whole history left of it, at its owner alone, once that applied its make; and there is no other
pub record HasCopies (f : Frame) (w : World) (book : List Line) (processes : List ProcessEnd) (m : ℕ) (end : NodeEnd) : Type 0 where
  pub front : List Line
  pub rest : List Line
  pub splits : book ≡ front ++ rest
  pub places : front ≡ lines_to end.applied (places f w) book
  pub copies : (o : ObjectId) → object_at end.copies o ≡ kept_copy f book front processes m o

-- so it is of each member, where the book is a history whose objects the world's copies are
abbrev pub CopiesStand : Type 0
CopiesStand =
    (f : Frame) (w : World) → IsKept f w → IsPlaced f w → EndsStand f w → (book : List Line) → book ≡ Book f w →
    (processes : List ProcessEnd) → AreProcessEnds f w processes → (nodes : List NodeEnd) → AreNodeEnds f w nodes →
    (m : ℕ) (end : NodeEnd) → slice_get nodes m ≡ Some end → HasCopies f w book processes m end
