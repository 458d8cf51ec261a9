-- Where the lines of a run's book were performed: each has its place, and the book up to a place is its front, and just the lines whose
-- places are at most that one. So it is of every world.
use Rattle.std.specs.Prelude.{◌≡◌, ℕ, nat_le, if◌then◌else◌, List, [], ◌∷◌, ◌++◌, length}
use Rattle.value_core.specs.declared.action.Line.{Line}
use Rattle.value_core.specs.declared.action.Reply.TheVariants as answer
use Rattle.value_core.specs.declared.message.Message.{Message}
use Rattle.value_core.specs.Meaning.{Performs}
use Rattle.book_law.specs.Book.{behind, book, up_to}
use Rattle.book_law.specs.Passes.{Test}
use Rattle.book_law.specs.declared.placing.Placed.{Placed}
use Rattle.world_rules.specs.declared.standing.PlaceNote.{PlaceNote}
use Rattle.world_rules.specs.declared.standing.PlaceNote.TheVariants as note
use Rattle.world_rules.specs.Frame.{Frame}
use Rattle.world_rules.specs.LostEntry.{early_read, late_read, lost_entry, lost_entry_book, lost_entry_end, lost_entry_places}
use Rattle.world_rules.specs.Programs.{assign, fork_on, line, make, write}
use Rattle.world_rules.specs.Worlds.{Book, World, agreed, places, singles_in}

-- the lines of the book up to this place, and those behind it
abbrev pub book_up_to : Frame → World → ℕ → List Line
book_up_to f w n = up_to (singles_in f w) f.performs (agreed f w) w.aside n

abbrev pub book_behind : Frame → World → ℕ → List Line
book_behind f w n = behind (singles_in f w) f.performs (agreed f w) w.aside n

-- of whatever list, and whatever stands beside it
abbrev pub FrontsOfBooks : Type 0
FrontsOfBooks =
    (single : Test) (p : Performs) (list : List Message) (aside : List Placed) (n : ℕ) →
    book single p list aside ≡ up_to single p list aside n ++ behind single p list aside n

-- ---- places

abbrev pub number_of : PlaceNote → ℕ
number_of (note.Entry number) = number
number_of (note.Read number) = number
number_of (note.Single number) = number

-- the lines whose places are at most n
abbrev pub lines_to : ℕ → List PlaceNote → List Line → List Line
lines_to n [] lines = []
lines_to n (x ∷ notes) [] = []
lines_to n (x ∷ notes) (l ∷ lines) = if nat_le (number_of x) n then l ∷ lines_to n notes lines else lines_to n notes lines

-- `notes`, each line of the book has one place; `front`, the book begins with what it is up to a place; `until`, that is the lines whose
-- places are at most it; `whole`, the book up to the last entry is all of it
pub record IsPlaced (f : Frame) (w : World) : Type 0 where
  pub notes : length (places f w) ≡ length (Book f w)
  pub front : (n : ℕ) → Book f w ≡ book_up_to f w n ++ book_behind f w n
  pub until : (n : ℕ) → book_up_to f w n ≡ lines_to n (places f w) (Book f w)
  pub whole : book_up_to f w (length (agreed f w)) ≡ Book f w

abbrev pub AllPlaced : Type 0
AllPlaced = (f : Frame) (w : World) → IsPlaced f w

-- ---- the run with a lost entry, cut at its place 2, at which a process read after the assignment had been applied

abbrev pub front_of_two : List Line
front_of_two = line 0 0 make 0 answer.Done ∷ line 0 1 (fork_on 1) 0 answer.Done ∷ early_read ∷ []

abbrev pub rest_of_two : List Line
rest_of_two = line 0 2 (assign 6) 0 answer.Done ∷ line 1 1 (write 48) 0 answer.Done ∷ late_read ∷ []

pub record WorkedPlaces : Type 0 where
  pub front : book_up_to lost_entry lost_entry_end 2 ≡ front_of_two
  pub rest : book_behind lost_entry lost_entry_end 2 ≡ rest_of_two
  pub lines : lines_to 2 lost_entry_places lost_entry_book ≡ front_of_two
  pub none : lines_to 0 lost_entry_places lost_entry_book ≡ []
