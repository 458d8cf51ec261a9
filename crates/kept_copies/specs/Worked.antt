-- Copies that are computed: of a cell that is made, assigned and emptied, and of which member 0 is the owner.
use Rattle.std.specs.Prelude.{◌≡◌, ℕ, List, [], ◌∷◌, true, false, Option, None, Some}
use Rattle.value_core.specs.declared.action.Instance.{Instance}
use Rattle.value_core.specs.declared.action.Line.{Line}
use Rattle.value_core.specs.declared.action.Reply.TheVariants as answer
use Rattle.world_rules.specs.Frame.{Frame}
use Rattle.world_rules.specs.Programs.{assign, cell, cell_kind, fork_on, frame_of, holding, line, make}
use Rattle.world_rules.specs.SingleCopies.{cell_program, single_book, single_cell}
use Rattle.run_ends.specs.declared.ends.ProcessEnd.{ProcessEnd}
use Rattle.run_ends.specs.declared.ends.ProcessStanding.TheVariants as standing
use Rattle.kept_copies.specs.Copies.{is_single, kept_copy}

-- a process on each of two members
abbrev pub ended_on : ℕ → ProcessEnd
ended_on m = record { node = m; replies = []; turns = 0; standing = standing.Ended }

abbrev pub two_ended : List ProcessEnd
two_ended = ended_on 0 ∷ ended_on 1 ∷ []

-- the same run where the cell is replicated
abbrev pub replicated_cell : Frame
replicated_cell = frame_of 2 0 [] cell_program

-- its first lines: the make; and up to where it holds 6
abbrev pub made : List Line
made = line 0 0 make 0 answer.Done ∷ []

abbrev pub assigned : List Line
assigned = line 0 0 make 0 answer.Done ∷ line 0 1 (fork_on 1) 0 answer.Done ∷ line 1 0 (assign 6) 0 answer.Done ∷ []

abbrev pub holds : ℕ → Option Instance
holds n = Some (record { kind = cell_kind; state = holding n })

-- what a member keeps of the cell, which applied these lines
abbrev pub keeps : Frame → List Line → ℕ → Option Instance
keeps f front m = kept_copy f single_book front two_ended m cell

pub record WorkedCopies : Type 0 where
  pub single : is_single single_cell single_book cell ≡ true
  pub replicated : is_single replicated_cell single_book cell ≡ false
  -- the owner keeps it as the whole history left it, whatever it applied behind the make; the other member never keeps it
  pub owner : keeps single_cell assigned 0 ≡ holds 0
  pub made : keeps single_cell made 0 ≡ holds 0
  pub before : keeps single_cell [] 0 ≡ None
  pub other : keeps single_cell single_book 1 ≡ None
  -- replicated, it is at each member what the lines left that the member applied
  pub first : keeps replicated_cell assigned 0 ≡ holds 6
  pub second : keeps replicated_cell assigned 1 ≡ holds 6
  pub whole : keeps replicated_cell single_book 1 ≡ holds 0
  pub none : keeps replicated_cell [] 1 ≡ None
