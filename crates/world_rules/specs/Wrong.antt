-- Wrong rules, each told apart by what it makes of a computed run: its book is no history of the program, a process has a reply too many,
-- or what it asks for isn't possible.
use Rattle.std.specs.Prelude.{◌≡◌, ◌+◌, ℕ, true, List, [], ◌∷◌, ◌++◌, length, take, refl, Option, None, Some}
use Rattle.value_core.specs.declared.action.Line.{Line}
use Rattle.value_core.specs.declared.action.Reply.TheVariants as answer
use Rattle.value_core.specs.declared.message.Message.{Message}
use Rattle.value_core.specs.History.{Legal}
use Rattle.object_manager.specs.After.{Copied, opening_copies}
use Rattle.book_law.specs.Book.{aside_at, book}
use Rattle.book_law.specs.Passes.{Test, after, lines_after}
use Rattle.book_law.specs.declared.placing.Placed.{Placed}
use Rattle.world_rules.specs.declared.event.Step.{Step}
use Rattle.world_rules.specs.Applying.{applies, applies_each}
use Rattle.world_rules.specs.Frame.{Frame}
use Rattle.world_rules.specs.LostEntry.{early_read, lost_entry}
use Rattle.world_rules.specs.LostEntry as lost
use Rattle.world_rules.specs.Nodes.{Deed, Node, NodeWork, idle, opening_node}
use Rattle.world_rules.specs.Nodes.Deed.{Submits, Acts, Mails, Applies, Performs}
use Rattle.world_rules.specs.OneCell.{actions, one_cell, one_cell_end, read_six}
use Rattle.world_rules.specs.Played.{Played}
use Rattle.world_rules.specs.Programs.{assign, fork_on, gives, line, make, performs, two_texts, value, write}
use Rattle.world_rules.specs.Scenes.{world_after}
use Rattle.world_rules.specs.Standings.{is_quiet}
use Rattle.world_rules.specs.Steps.{Burst, IsBurst, Next}
use Rattle.world_rules.specs.Worlds.{World, agreed, opening_world, singles_in}

-- ---- within a place, reads are put before their entry's lines

abbrev pub aside_first_from : Test → Copied → List Message → List Placed → List Line
aside_first_from single c [] aside = []
aside_first_from single c (x ∷ xs) aside =
    (aside_at (c.applied + 1) aside ++ lines_after single performs c x) ++ aside_first_from single (after single performs c x) xs aside

abbrev pub reads_first : List Line
reads_first =
    aside_at 0 one_cell_end.aside
    ++ aside_first_from (singles_in one_cell one_cell_end) opening_copies (agreed one_cell one_cell_end) one_cell_end.aside

-- ---- a process reads below its place: process 1 was forked by entry 2, and reads at place 1

-- the run with a lost entry, up to where process 1 has begun, and up to its second burst
abbrev pub begun : World
begun = world_after lost_entry (opening_world lost_entry) (take 8 lost.scenes)

abbrev pub written : World
written = world_after lost_entry (opening_world lost_entry) (take 15 lost.scenes)

abbrev pub book_with : World → Placed → List Line
book_with w performed = book (singles_in lost_entry w) performs (agreed lost_entry w) (w.aside ++ performed ∷ [])

abbrev pub below_place : List Line
below_place = book_with begun (record { place = 1; line = early_read })

-- ---- a view is older than its process's last line: process 1 wrote at place 4, and reads again on the view of two entries

abbrev pub old_read : Line
old_read = line 1 2 value 0 (gives 0)

abbrev pub old_view : List Line
old_view = book_with written (record { place = 2; line = old_read })

-- ---- an entry is applied twice

abbrev pub applies_again : Frame → ℕ → NodeWork → NodeWork
applies_again f m v = applies_each f m (take v.node.member.accepted v.node.member.log) v

abbrev pub number_of_replies : Option Played → ℕ
number_of_replies None = 0
number_of_replies (Some r) = length r.replies

abbrev pub replies_at : NodeWork → ℕ
replies_at v = number_of_replies (v.node.played 0)

abbrev pub last_node : Node
last_node = one_cell_end.nodes 0

-- ---- each member that applies an entry tells its lines

abbrev pub applied_lines : List Deed → List Line
applied_lines [] = []
applied_lines (Submits x ∷ deeds) = applied_lines deeds
applied_lines (Acts act ∷ deeds) = applied_lines deeds
applied_lines (Mails mail ∷ deeds) = applied_lines deeds
applied_lines (Applies lines ∷ deeds) = applied_lines deeds ++ lines
applied_lines (Performs performed ∷ deeds) = applied_lines deeds

-- a member that is to apply the make
abbrev pub make_message : Message
make_message = record { process = record { 0 = 0 }; call = record { 0 = 0 }; action = make; performable = refl }

abbrev pub accepting : ℕ → Node
accepting m = record (opening_node one_cell m) {
  member = record (opening_node one_cell m).member { log = make_message ∷ []; accepted = 1 };
}

abbrev pub told_by : ℕ → List Line
told_by m = applied_lines (applies one_cell m (idle (accepting m))).deeds

-- ---- the rules are told apart

-- the books that the wrong rules make, written out
abbrev pub reads_first_book : List Line
reads_first_book =
    line 0 0 make 0 answer.Done ∷ read_six ∷ line 0 1 (assign 6) 0 answer.Done ∷ line 0 3 (write 54) 0 answer.Done ∷ []

abbrev pub below_place_book : List Line
below_place_book = line 0 0 make 0 answer.Done ∷ early_read ∷ line 0 1 (fork_on 1) 0 answer.Done ∷ []

abbrev pub old_view_book : List Line
old_view_book =
    line 0 0 make 0 answer.Done ∷ line 0 1 (fork_on 1) 0 answer.Done ∷ early_read ∷ old_read ∷ line 0 2 (assign 6) 0 answer.Done
    ∷ line 1 1 (write 48) 0 answer.Done ∷ []

abbrev pub told_twice_book : List Line
told_twice_book = line 0 0 make 0 answer.Done ∷ line 0 0 make 0 answer.Done ∷ []

-- none of these is a history of its program
pub record NoHistories : Type 0 where
  pub reads_first : Legal performs (two_texts actions []) reads_first_book → ⊥
  pub below_place : Legal performs (two_texts lost.first_text lost.second_text) below_place_book → ⊥
  pub old_view : Legal performs (two_texts lost.first_text lost.second_text) old_view_book → ⊥
  pub told_twice : Legal performs (two_texts actions []) told_twice_book → ⊥

pub record WrongRules : Type 0 where
  pub breaks : NoHistories
  pub reads_first : reads_first ≡ reads_first_book
  -- process 1 was forked by entry 2, and has its last line at place 4
  pub below_place : below_place ≡ below_place_book
  pub no_burst_below : (turns : ℕ) (burst : Burst) → IsBurst lost_entry begun (record { 0 = 1 }) 1 turns burst → ⊥
  pub old_view : old_view ≡ old_view_book
  pub no_old_burst : (turns : ℕ) (burst : Burst) → IsBurst lost_entry written (record { 0 = 1 }) 2 turns burst → ⊥
  -- a member that has applied its entries applies none; applied again, they would reply three times more
  pub applied_once : (applies one_cell 0 (idle last_node)).deeds ≡ []
  pub replies : replies_at (idle last_node) ≡ 4
  pub replies_twice : replies_at (applies_again one_cell 0 (idle last_node)) ≡ 7
  -- either member tells the make's line, which stands in the book once
  pub told_once : told_by 0 ≡ line 0 0 make 0 answer.Done ∷ []
  pub told_twice : told_by 0 ++ told_by 1 ≡ told_twice_book
  -- at the end of a run a tick would be possible, but no step is
  pub quiet : is_quiet one_cell one_cell_end ≡ true
  pub no_step : (step : Step) (v : World) → Next one_cell one_cell_end step v → ⊥
