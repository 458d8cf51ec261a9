-- What the calls of a member's part of an event ask at each moment: of its copies, of its state in the group, and of the machine that
-- computes its processes.
use Rattle.std.specs.Prelude.{◌≡◌, ◌≤◌, ◌<◌, ◌^◌, nat_lt, ℕ, Bool, true, false, List, [], ◌∷◌, length, Option, None, Some}
use Rattle.orca_base.specs.declared.ids.KindNo.{KindNo}
use Rattle.orca_base.specs.declared.ids.OpNo.{OpNo}
use Rattle.orca_base.specs.declared.ids.ObjectId.{ObjectId}
use Rattle.value_core.specs.Datum.{Data}
use Rattle.value_core.specs.Fits.{Kinds}
use Rattle.value_core.specs.declared.action.Action.TheVariants as action
use Rattle.value_core.specs.declared.message.Message.{Message}
use Rattle.guard_queue.specs.Waits.{IsWaiting}
use Rattle.object_manager.specs.Applies.{Applies, AppliesSingle, CopiesBlocked, CopiesFit}
use Rattle.object_manager.specs.Singles.{lines_single}
use Rattle.object_manager.specs.Viewed.{ReadFits}
use Rattle.book_law.specs.Fitness.{ArgsFit, ReplyFits, StateFits, TextFits}
use Rattle.world_rules.specs.Applying.{notes, passes_limit}
use Rattle.world_rules.specs.Frame.{Frame}
use Rattle.world_rules.specs.Mail.{Errand, place_of}
use Rattle.world_rules.specs.Mail.Errand.{Ask, Answer}
use Rattle.world_rules.specs.Nodes.{Given, Node, entries_of}
use Rattle.world_rules.specs.Owners.{waits_here}
use Rattle.world_rules.specs.Played.{Played}
use Rattle.world_rules.specs.Played.Stage.{Reading}
use Rattle.world_rules.specs.Processes.{Begun}
use Rattle.node_rules.specs.Handing.{MayHandAll, MayHear}
use Rattle.node_rules.specs.Moments.{IsDue, Moment, born_of, entry_lines}

-- what fits, as a machine has it: states, arguments of operations and of process texts, replies
pub record Fitness : Type 1 where
  pub state : StateFits
  pub args : ArgsFit
  pub text : TextFits
  pub reply : ReplyFits

-- ---- the next entry

-- it may be applied, also where a limit refuses it; and where none does, its lines may be handed to the processes here, and the process
-- that it forks may be started, where that is this member's
pub record MayApply (f : Frame) (fitness : Fitness) (m : ℕ) (node : Node) (x : Message) : Type 0 where
  pub applies : Applies fitness.args node.copies x.action
  pub lines : passes_limit f node x ≡ false → MayHandAll fitness.reply node (entry_lines f node x)
  pub begins :
      passes_limit f node x ≡ false → (born : Begun) → born_of f node x ≡ born ∷ [] → born.home ≡ m →
      (kinds : Kinds) × fitness.text kinds born.text born.args

-- ---- a call on a single object, at its owner

-- it may be tried, and its lines may be handed to the processes here
pub record MayPerform (f : Frame) (fitness : Fitness) (node : Node) (x : Message) : Type 0 where
  pub call : AppliesSingle fitness.args node.copies x.action
  pub lines : MayHandAll fitness.reply node (lines_single f.performs node.copies x)

-- an Ask's call is later than the last one of its process that was answered
abbrev pub is_later : Message → Option Given → Bool
is_later x None = true
is_later x (Some given) = nat_lt given.call.0 x.call.0

-- a call of its process that waits here is this one; and it may be performed, where it doesn't wait here
pub record MayTakeCall (f : Frame) (fitness : Fitness) (node : Node) (x : Message) : Type 0 where
  pub one : IsWaiting node.copies.waits x.process → waits_here x node.copies.waits ≡ true
  pub call : waits_here x node.copies.waits ≡ false → MayPerform f fitness node x

-- an Ask of a call that wasn't answered may be taken; an Answer's reply may be handed on
abbrev pub MayTake : Frame → Fitness → Node → Errand → Type 0
MayTake f fitness node (Ask place x) = is_later x (node.given x.process.0) ≡ true → MayTakeCall f fitness node x
MayTake f fitness node (Answer place i call reply) = MayHear fitness.reply node i call reply

-- ---- at each moment

-- every number of the member, and of its processes, is small
pub record AreSmall (node : Node) : Type 0 where
  pub accepted : node.member.accepted < 2 ^ 62
  pub promised : node.member.promised < 2 ^ 62
  pub calls : (i : ℕ) (r : Played) → node.played i ≡ Some r → length r.replies < 2 ^ 62

-- `fits` and `blocked`, its copies are as their calls ask; `noted` and `within`, they applied as many entries as the member noted, at
-- least, and accepted ones alone; `kept`, a note leaves these entries as they are; `due`, the next entry may be applied; `reads`, a
-- read that waits here may be tried; `takes`, the first Ask or Answer at hand may be taken, where its place is reached
pub record Conditions (f : Frame) (fitness : Fitness) (m : ℕ) (u : Moment) : Type 0 where
  pub fits : CopiesFit fitness.state fitness.args u.work.node.copies
  pub blocked : CopiesBlocked f.performs u.work.node.copies
  pub noted : u.work.node.member.applied ≤ u.work.node.copies.applied
  pub within : u.work.node.copies.applied ≤ u.work.node.member.accepted
  pub small : AreSmall u.work.node
  pub kept : entries_of (notes f m u.work).node ≡ entries_of u.work.node
  pub due : (x : Message) → IsDue u.work.node x → MayApply f fitness m u.work.node x
  pub reads :
      (i : ℕ) (r : Played) (kind : KindNo) (op : OpNo) (object : ObjectId) (given : Data) →
      u.work.node.played i ≡ Some r → r.stage ≡ Reading (action.Call kind op object given) →
      ReadFits fitness.state fitness.args u.work.node.copies.objects kind op object given
  pub takes :
      (errand : Errand) (errands : List Errand) → u.hand ≡ errand ∷ errands → place_of errand ≤ u.work.node.copies.applied →
      MayTake f fitness u.work.node errand
