-- The replies of a process, off the lines of a book.
use Rattle.std.specs.Prelude.{◌≡◌, ℕ, List, length, take, Some}
use Rattle.value_core.specs.History.{Legal, replies_of}
use Rattle.value_core.specs.Meaning.{Computes, Performs}
use Rattle.value_core.specs.declared.action.Line.{Line}
use Rattle.book_law.specs.Events.{lines_by, replies_to}
use Rattle.world_rules.specs.declared.event.Step.{Step}
use Rattle.world_rules.specs.Frame.{AreSettings, Frame}
use Rattle.world_rules.specs.Played.{Played}
use Rattle.world_rules.specs.Steps.{Replays}
use Rattle.world_rules.specs.Worlds.{Book, World}

-- in a history they are those of its lines, in their order
abbrev pub RepliesByLines : Performs → Computes → Type 0
RepliesByLines p q = (lines : List Line) (i : ℕ) → Legal p q lines → replies_of p q lines i ≡ replies_to (lines_by i lines)

-- what a process has received are the first of those of its lines in the book, in every run of a program with these meanings, by settings
-- that a run may have
abbrev pub RepliesOffBooks : Performs → Computes → Type 0
RepliesOffBooks p q =
    (f : Frame) → f.performs ≡ p → f.computes ≡ q → AreSettings f.settings → (steps : List Step) (w : World) → Replays f steps w →
    (m i : ℕ) (r : Played) → (w.nodes m).played i ≡ Some r →
    r.replies ≡ take (length r.replies) (replies_to (lines_by i (Book f w)))
