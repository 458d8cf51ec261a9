-- The book of a run: the performed operations by place (docs/LANGUAGE.md, Histories). The list has the ordered messages, at least as
-- far as any member applied them. Beside the list stand the reads of replicated objects and the calls on single copies, each with its
-- place, in order of events. Within a place the lines of its entry come first, in the order in which they ran, then those others.
use Rattle.std.specs.Prelude.{ℕ, ◌+◌, ◌==◌, List, [], ◌∷◌, ◌++◌, take, drop, if◌then◌else◌}
use Rattle.value_core.specs.declared.action.Line.{Line}
use Rattle.value_core.specs.declared.message.Message.{Message}
use Rattle.value_core.specs.Meaning.{Performs}
use Rattle.object_manager.specs.After.{Copied, opening_copies}
use Rattle.book_law.specs.Passes.{Test, after, after_all, lines_after}
pub use Rattle.book_law.specs.declared.placing.Placed.{Placed}

-- what stands beside the list at a place, in order of events
abbrev pub aside_at : ℕ → List Placed → List Line
aside_at n [] = []
aside_at n (r ∷ rs) = if r.place == n then r.line ∷ aside_at n rs else aside_at n rs

-- the operations of the places behind these copies
abbrev pub book_from : Test → Performs → Copied → List Message → List Placed → List Line
book_from single p c [] aside = []
book_from single p c (m ∷ ms) aside =
    (lines_after single p c m ++ aside_at (c.applied + 1) aside) ++ book_from single p (after single p c m) ms aside

-- the book
abbrev pub book : Test → Performs → List Message → List Placed → List Line
book single p list aside = aside_at 0 aside ++ book_from single p opening_copies list aside

-- the copies of a member that applied so many entries
abbrev pub copies_at : Test → Performs → List Message → ℕ → Copied
copies_at single p list n = after_all single p opening_copies (take n list)

-- the book up to this place, and behind it
abbrev pub up_to : Test → Performs → List Message → List Placed → ℕ → List Line
up_to single p list aside n = book single p (take n list) aside

abbrev pub behind : Test → Performs → List Message → List Placed → ℕ → List Line
behind single p list aside n = book_from single p (copies_at single p list n) (drop n list) aside
