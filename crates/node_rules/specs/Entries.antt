-- Entries of a member's copies: what one asks before it is applied, and what a member told of those that it applied.
use Rattle.std.specs.Prelude.{◌≡◌, ◌<◌, ◌^◌, ◌++◌, ◌∷◌, [], ℕ, List, None, Some, slice_get}
use Rattle.value_core.specs.Meaning.{Performs}
use Rattle.value_core.specs.declared.action.Action.{Action}
use Rattle.value_core.specs.declared.action.Line.{Line}
use Rattle.value_core.specs.declared.message.Message.{Message}
use Rattle.object_manager.specs.After.{Copied}
use Rattle.object_manager.specs.Applies.{Applies, CopiesBlocked, CopiesFit}
use Rattle.object_manager.specs.Limits.{too_many}
use Rattle.book_law.specs.Book.{copies_at}
use Rattle.book_law.specs.Fitness.{ArgsFit, StateFits}
use Rattle.world_rules.specs.Frame.{Frame}
use Rattle.world_rules.specs.Nodes.{Deed, Node, known}
use Rattle.world_rules.specs.Nodes.Deed.{Submits, Acts, Mails, Applies as Applied, Performs as Performed}
use Rattle.world_rules.specs.Processes.{singles_of}

-- ---- what an entry asks

-- one with this action may be taken by these copies, also where a limit refuses it
pub record MayTakeEntry (p : Performs) (fits_state : StateFits) (fits_args : ArgsFit) (c : Copied) (act : Action) : Type 0 where
  pub fits : CopiesFit fits_state fits_args c
  pub blocked : CopiesBlocked p c
  pub applies : Applies fits_args c act
  pub room : c.applied < 2 ^ 62

-- and it passes no limit
pub record MayTakeAgain (p : Performs) (fits_state : StateFits) (fits_args : ArgsFit) (c : Copied) (act : Action) : Type 0 where
  pub may : MayTakeEntry p fits_state fits_args c act
  pub within : too_many p c act ≡ None

-- so it is of each of these entries, at the copies after those before it, by the single objects that the member knows
abbrev pub MayApplyAgain : Frame → StateFits → ArgsFit → Node → List Message → Type 0
MayApplyAgain f fits_state fits_args node entries =
    (n : ℕ) (x : Message) → slice_get entries n ≡ Some x →
    MayTakeAgain f.performs fits_state fits_args (copies_at (singles_of f (known f node)) f.performs entries n) x.action

-- ---- what was told

-- of each entry that was applied its lines, the first first
abbrev pub told_lines : List Deed → List (List Line)
told_lines [] = []
told_lines (Submits x ∷ deeds) = told_lines deeds
told_lines (Acts act ∷ deeds) = told_lines deeds
told_lines (Mails mail ∷ deeds) = told_lines deeds
told_lines (Applied lines ∷ deeds) = told_lines deeds ++ lines ∷ []
told_lines (Performed performed ∷ deeds) = told_lines deeds
