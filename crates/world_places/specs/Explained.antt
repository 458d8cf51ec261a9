-- Where each line of a run's book was performed (docs/RUNTIME.md, The book of a run). A logged operation has as place the number of the
-- entry at which it ran; a read of a replicated object the number of entries that its copy held; an operation on a single copy the number
-- of entries that its owner had applied. The book has its lines by place, and within a place the entry's come first.
use Rattle.std.specs.Prelude.{◌≡◌, ◌<◌, ◌≤◌, ◌⊎◌, ◌==◌, ◌&&◌, not, if◌then◌else◌, ℕ, suc, Bool, true, false, List, [], ◌∷◌, length, Some, slice_get, take}
use Rattle.orca_base.specs.declared.ids.ObjectId.{ObjectId}
use Rattle.value_core.specs.declared.action.Action.TheVariants as action
use Rattle.value_core.specs.declared.action.Line.{Line}
use Rattle.value_core.specs.declared.message.Message.{Message}
use Rattle.value_core.specs.Meaning.{Computes, Performs}
use Rattle.value_core.specs.History.{IsStep, after_lines, opening}
use Rattle.guard_queue.specs.declared.queue.Suspended.{Suspended}
use Rattle.object_manager.specs.After.{Copied}
use Rattle.book_law.specs.Book.{aside_at, copies_at}
use Rattle.book_law.specs.Events.{Calls, In, IsRead, Makes}
use Rattle.book_law.specs.Passes.{lines_after}
use Rattle.book_law.specs.declared.placing.Placed.{Placed}
use Rattle.world_rules.specs.declared.event.Step.{Step}
use Rattle.world_rules.specs.declared.standing.PlaceNote.{PlaceNote}
use Rattle.world_rules.specs.declared.standing.PlaceNote.TheVariants as note
use Rattle.world_rules.specs.Frame.{AreSettings, Frame}
use Rattle.world_rules.specs.Steps.{Next, Replays}
use Rattle.world_rules.specs.Worlds.{Book, World, agreed, home_of, places, singles_in}
use Rattle.world_facts.specs.Places.{number_of}

-- the copies after the first n entries
abbrev pub copies_after : Frame → World → ℕ → Copied
copies_after f w n = copies_at (singles_in f w) f.performs (agreed f w) n

-- ---- a line at an entry

-- the line is of this message
pub record IsLineOf (x : Message) (l : Line) : Type 0 where
  pub process : x.process ≡ l.process
  pub call : x.call ≡ l.call
  pub action : x.action ≡ l.action

-- the line is of this suspended call
pub record IsOfCall (call : Suspended) (l : Line) : Type 0 where
  pub process : call.process ≡ l.process
  pub number : call.call ≡ l.call
  pub action : action.Call call.kind call.op call.object call.args ≡ l.action

-- the line is of an earlier entry, whose call was suspended after so many entries
pub record WasSuspended (f : Frame) (w : World) (before : ℕ) (l : Line) : Type 0 where
  pub call : Suspended
  pub waits : In call (copies_after f w before).queue
  pub its : IsOfCall call l
  pub earlier : ℕ
  pub early : earlier < before
  pub entry : Message
  pub there : slice_get (agreed f w) earlier ≡ Some entry
  pub of : IsLineOf entry l

-- the line ran at the entry of this number: it is one of that entry's lines on the copies after the entries before it, and of that
-- entry's own message, or of an earlier one's that was suspended until then
pub record RanAt (f : Frame) (w : World) (number : ℕ) (l : Line) : Type 0 where
  pub before : ℕ
  pub is : number ≡ suc before
  pub entry : Message
  pub there : slice_get (agreed f w) before ≡ Some entry
  pub ran : In l (lines_after (singles_in f w) f.performs (copies_after f w before) entry)
  pub of : IsLineOf entry l ⊎ WasSuspended f w before l

-- ---- a line beside the list

-- a read of a replicated object is legal on the copies after this many entries, and leaves its object as it is; the member of its process
-- has applied this many entries
pub record ReadAt (f : Frame) (w : World) (number : ℕ) (l : Line) : Type 0 where
  pub read : IsRead (singles_in f w) f.performs (copies_after f w number).objects l
  pub within : number ≤ length (agreed f w)
  pub reached : number ≤ (w.nodes (home_of f w l.process.0)).copies.applied

-- a call on a single object: an entry up to this number made the object, and the member of the process that made it, which owns it, has
-- applied this many entries
pub record CalledAt (f : Frame) (w : World) (number : ℕ) (l : Line) : Type 0 where
  pub object : ObjectId
  pub calls : Calls l.action object
  pub single : singles_in f w object ≡ true
  pub before : ℕ
  pub entry : Message
  pub there : slice_get (agreed f w) before ≡ Some entry
  pub makes : Makes entry.action object
  pub made : before < number
  pub reached : number ≤ (w.nodes (home_of f w entry.process.0)).copies.applied

-- what a place says of a line
abbrev pub WasAt : Frame → World → Line → PlaceNote → Type 0
WasAt f w l (note.Entry number) = RanAt f w number l
WasAt f w l (note.Read number) = ReadAt f w number l
WasAt f w l (note.Single number) = CalledAt f w number l

-- ---- the order of places

abbrev pub is_entry : PlaceNote → Bool
is_entry (note.Entry number) = true
is_entry (note.Read number) = false
is_entry (note.Single number) = false

-- by their numbers, and at one number the entry's lines first
abbrev pub NotAfter : PlaceNote → PlaceNote → Type 0
NotAfter x y = (number_of x < number_of y) ⊎ ((number_of x ≡ number_of y) × (is_entry y ≡ true → is_entry x ≡ true))

-- ---- the lines at a place

-- the lines with such places, in their order
abbrev pub lines_where : (PlaceNote → Bool) → List PlaceNote → List Line → List Line
lines_where has [] lines = []
lines_where has (x ∷ notes) [] = []
lines_where has (x ∷ notes) (l ∷ lines) = if has x then l ∷ lines_where has notes lines else lines_where has notes lines

-- at this entry, and beside the list after so many entries
abbrev pub is_at_entry : ℕ → PlaceNote → Bool
is_at_entry n x = is_entry x && (number_of x == n)

abbrev pub is_beside : ℕ → PlaceNote → Bool
is_beside n x = not (is_entry x) && (number_of x == n)

-- ---- the law

-- line i of the book is this one, and this is its place
pub record IsAt (f : Frame) (w : World) (notes : List PlaceNote) (i : ℕ) (l : Line) (x : PlaceNote) : Type 0 where
  pub line : slice_get (Book f w) i ≡ Some l
  pub place : slice_get notes i ≡ Some x

-- these are the places of the book's lines, one for each. `order`, the lines stand in the order of their places; `was`, each line was
-- performed at its place; `entries`, those at an entry are the entry's lines in the order in which they ran; `beside`, those beside the
-- list after so many entries are what was performed there, in order of events; `legal`, each line may come next after the lines before
-- it: a call on a single object so is legal on what the lines before it left of that object
pub record AreItsPlaces (f : Frame) (w : World) (notes : List PlaceNote) : Type 0 where
  pub each : length notes ≡ length (Book f w)
  pub order :
      (i k : ℕ) (x y : PlaceNote) → i < k → slice_get notes i ≡ Some x → slice_get notes k ≡ Some y → NotAfter x y
  pub was : (i : ℕ) (l : Line) (x : PlaceNote) → IsAt f w notes i l x → WasAt f w l x
  pub entries :
      (before : ℕ) (entry : Message) → slice_get (agreed f w) before ≡ Some entry →
      lines_where (is_at_entry (suc before)) notes (Book f w) ≡ lines_after (singles_in f w) f.performs (copies_after f w before) entry
  pub beside : (n : ℕ) → lines_where (is_beside n) notes (Book f w) ≡ aside_at n w.aside
  pub legal :
      (i : ℕ) (l : Line) → slice_get (Book f w) i ≡ Some l →
      IsStep f.performs f.computes (after_lines f.performs (opening f.computes) (take i (Book f w))) l

-- so are the places of every run
abbrev pub RunsHavePlaces : Performs → Computes → Type 0
RunsHavePlaces p q =
    (f : Frame) → f.performs ≡ p → f.computes ≡ q → AreSettings f.settings → (steps : List Step) (w : World) →
    Replays f steps w → AreItsPlaces f w (places f w)

-- and no other list gives the places of the same lines
abbrev pub PlacesAreOne : Type 0
PlacesAreOne = (f : Frame) (w : World) (xs ys : List PlaceNote) → AreItsPlaces f w xs → AreItsPlaces f w ys → xs ≡ ys

-- a process's place never falls: of two lines of one process the one with the later number stands at no earlier place
abbrev pub PlacesNeverFall : Type 0
PlacesNeverFall =
    (f : Frame) (w : World) (notes : List PlaceNote) → AreItsPlaces f w notes →
    (i k : ℕ) (l m : Line) (x y : PlaceNote) → IsAt f w notes i l x → IsAt f w notes k m y → l.process ≡ m.process →
    l.call.0 < m.call.0 → NotAfter x y

-- ---- in a step

-- a call on a single object was performed at its place in the step from one world to another: before the step its owner had applied no
-- more entries, and after it no fewer
pub record CalledIn (f : Frame) (u v : World) (r : Placed) : Type 0 where
  pub called : CalledAt f v r.place r.line
  pub since : (u.nodes (home_of f v called.entry.process.0)).copies.applied ≤ r.place

-- what stands beside the list after a step, and didn't before, is a read at its place, or a call that the step performed at its place
abbrev pub StepPerforms : Frame → World → World → Type 0
StepPerforms f u v = (r : Placed) → In r v.aside → In r u.aside ⊎ (ReadAt f v r.place r.line ⊎ CalledIn f u v r)

-- so it is in every step of a run
abbrev pub StepsPerform : Performs → Computes → Type 0
StepsPerform p q =
    (f : Frame) → f.performs ≡ p → f.computes ≡ q → AreSettings f.settings → (steps : List Step) (u v : World) (step : Step) →
    Replays f steps u → Next f u step v → StepPerforms f u v
