-- What is asked where a process is handed a reply: it waits with that action, and the reply is one that the action can get.
use Rattle.std.specs.Prelude.{◌≡◌, ℕ, List, Option, None, Some, slice_get, length}
use Rattle.orca_base.specs.declared.ids.CallNo.{CallNo}
use Rattle.orca_base.specs.declared.ids.ProcessNo.{ProcessNo}
use Rattle.value_core.specs.declared.action.Action.{Action}
use Rattle.value_core.specs.declared.action.Line.{Line}
use Rattle.value_core.specs.declared.action.Reply.{Reply}
use Rattle.value_core.specs.declared.meaning.Doing.TheVariants as doing
use Rattle.value_core.specs.Lawful.{FitsAction}
use Rattle.book_law.specs.Fitness.{ReplyFits}
use Rattle.world_rules.specs.Nodes.{Node}
use Rattle.world_rules.specs.Played.{Played, Stage}
use Rattle.world_rules.specs.Played.Stage.{Computing, Acting, Submitted, Reading, Asking, Over}

-- the action to which it waits for the reply
abbrev pub waits_with : Stage → Option Action
waits_with Computing = None
waits_with (Acting act) = None
waits_with (Submitted act) = Some act
waits_with (Reading act) = Some act
waits_with (Asking act) = Some act
waits_with (Over act) = None

-- the process waits with this action, which can get this reply
pub record MayReceive (fits_reply : ReplyFits) (r : Played) (act : Action) (reply : Reply) : Type 0 where
  pub waits : waits_with r.stage ≡ Some act
  pub fits : FitsAction fits_reply (doing.At act) reply

-- so it is with the process of this line, where it began here
abbrev pub MayHand : ReplyFits → Node → Line → Type 0
MayHand fits_reply node l = (r : Played) → node.played l.process.0 ≡ Some r → MayReceive fits_reply r l.action l.reply

-- so it is with each of these lines, of which no two are of one process that began here
pub record MayHandAll (fits_reply : ReplyFits) (node : Node) (lines : List Line) : Type 0 where
  pub each : (k : ℕ) (l : Line) → slice_get lines k ≡ Some l → MayHand fits_reply node l
  pub once :
      (j k : ℕ) (a b : Line) (r : Played) → slice_get lines j ≡ Some a → slice_get lines k ≡ Some b →
      a.process.0 ≡ b.process.0 → node.played a.process.0 ≡ Some r → j ≡ k

-- an Answer that is the reply to its process's next call has one that this can get
abbrev pub MayHear : ReplyFits → Node → ProcessNo → CallNo → Reply → Type 0
MayHear fits_reply node i call reply =
    (r : Played) (act : Action) → node.played i.0 ≡ Some r → r.stage ≡ Asking act → call.0 ≡ length r.replies →
    FitsAction fits_reply (doing.At act) reply
