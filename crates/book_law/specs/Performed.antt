-- The performed operations as they come, each with its place: an entry's lines as it enters the list, a read or a call on a single
-- copy when it is performed.
use Rattle.std.specs.Prelude.{◌≡◌, ℕ, suc, ◌<◌, List, [], ◌++◌, length, Some, slice_get, map}
use Rattle.value_core.specs.declared.action.Line.{Line}
use Rattle.value_core.specs.declared.message.Message.{Message}
use Rattle.value_core.specs.Meaning.{Performs}
use Rattle.book_law.specs.Passes.{Test, lines_after}
use Rattle.book_law.specs.Book.{Placed, aside_at, book, copies_at}

-- lines, all at one place
abbrev pub placed : ℕ → List Line → List Placed
placed n lines = map (λ (line : Line). record { place = n; line = line }) lines

-- what was performed, in order of events, is place by place what the list and what stands beside it say
pub record Performed (single : Test) (p : Performs) (list : List Message) (aside performed : List Placed) : Type 0 where
  pub first : aside_at 0 performed ≡ aside_at 0 aside
  pub entries :
      (n : ℕ) (y : Message) → slice_get list n ≡ Some y →
      aside_at (suc n) performed ≡ lines_after single p (copies_at single p list n) y ++ aside_at (suc n) aside
  pub above : (n : ℕ) → length list < n → aside_at n performed ≡ []

-- whatever list and whatever beside it these operations are performed by, their lines in this order are the book
abbrev pub IsBook : List Placed → List Placed → Type 0
IsBook performed sorted =
    (single : Test) (p : Performs) (list : List Message) (aside : List Placed) → Performed single p list aside performed →
    map (λ (r : Placed). r.line) sorted ≡ book single p list aside
