-- What the calls that apply a member's next entry ask and do, piece by piece.
use Rattle.std.specs.Prelude.{◌≡◌, ◌<◌, ◌^◌, ◌==◌, ◌++◌, ℕ, true, false, List, [], ◌∷◌, length, map, is_some, Option, None, Some, Vec, slice_get}
use Rattle.std.specs.declared.alloc.Global.{Global}
use Rattle.orca_base.specs.declared.ids.TextNo.{TextNo}
use Rattle.value_core.specs.Datum.{Data}
use Rattle.value_core.specs.Fits.{Kinds}
use Rattle.value_core.specs.Meaning.{Performs}
use Rattle.value_core.specs.declared.action.Action.{Action}
use Rattle.value_core.specs.declared.action.Action.TheVariants as action
use Rattle.value_core.specs.declared.action.Line.{Line}
use Rattle.value_core.specs.declared.message.Message.{Message}
use Rattle.guard_queue.specs.Settles.{lines_of}
use Rattle.guard_queue.specs.declared.settling.Answered.{Answered}
use Rattle.object_manager.specs.Limits.{too_many}
use Rattle.book_law.specs.Fitness.{ReplyFits, TextFits}
use Rattle.book_law.specs.Members.{after_entry}
use Rattle.book_law.specs.Passes.{lines_after}
use Rattle.world_rules.specs.Applying.{applies_one, begins, passes_limit}
use Rattle.world_rules.specs.Frame.{Frame}
use Rattle.world_rules.specs.Nodes as nodes
use Rattle.world_rules.specs.Nodes.{NodeWork, entries_of}
use Rattle.world_rules.specs.Played.{Played}
use Rattle.world_rules.specs.Played.Stage.{Computing}
use Rattle.world_rules.specs.Processes.{Begun, begun_by, home_in, singles_of}
use Rattle.node_rules.specs.Conditions.{Fitness}
use Rattle.node_rules.specs.Handing.{MayHandAll}
use Rattle.node_rules.specs.Moments.{IsDue, Moment, works}
use Rattle.node_parts.specs.Shown.{Left, Stood}
use Rattle.node_core.specs.Stands.{IsAt, IsWork, on_known}
use Rattle.node_parts.specs.declared.errand.Errand.{Errand}
use Rattle.node_core.specs.declared.node.Known.{Known}
use Rattle.node_core.specs.declared.node.Node.{Node}
use Rattle.node_core.specs.declared.work.Work.{Work}

-- ---- the copies take it

-- it knows these processes, and this run's choices
pub record KnowsAs {P S : Type 0} (f : Frame) (processes : List Begun) (s : Node P S) : Type 0 where
  pub known : s.known.items ≡ map on_known processes
  pub choices : s.choices ≡ f.settings.choices

-- no limit is passed; and whichever processes it knows, the copies are those after the entry, and these are its lines
pub record Took {P S : Type 0} (p : Performs) (old new : Node P S) (x : Message) (answered : List Answered) : Type 0 where
  pub within : too_many p old.copies x.action ≡ None
  pub copies :
      (f : Frame) (processes : List Begun) → KnowsAs f processes old →
      new.copies ≡ after_entry (singles_of f processes) p old.copies x (home_in processes x.process.0 == old.member.me)
  pub lines :
      (f : Frame) (processes : List Begun) → KnowsAs f processes old → lines_of answered ≡ lines_after (singles_of f processes) p old.copies x

-- a limit is passed, and the copies are as they were
pub record Refused {P S : Type 0} (p : Performs) (old new : Node P S) (x : Message) : Type 0 where
  pub passes : is_some (too_many p old.copies x.action) ≡ true
  pub copies : new.copies ≡ old.copies

-- the copies took the entry, with these lines; or it passes a limit
abbrev pub HasTaken : {P S : Type 0} → Performs → Node P S → Node P S → Message → Option (Vec Answered Global) → Type 0
HasTaken p old new x None = Refused p old new x
HasTaken p old new x (Some lines) = Took p old new x lines.items

-- ---- its lines answer

-- these lines may be handed to the processes of the node
pub record MayAnswer (fits_reply : ReplyFits) (node : nodes.Node) (lines : List Line) : Type 0 where
  pub may : MayHandAll fits_reply node lines
  pub small :
      (k : ℕ) (l : Line) (r : Played) → slice_get lines k ≡ Some l → node.played l.process.0 ≡ Some r → length r.replies < 2 ^ 62

-- it is some work of the world in which that is so
abbrev pub MayAnswerHere : {P S : Type 0} → Stood S → Left S → Frame → ReplyFits → List Line → Work P S → Type 0
MayAnswerHere stood left f fits_reply lines s =
    (m : ℕ) × (v : NodeWork) × IsWork stood left f m s v × MayAnswer fits_reply v.node lines

-- ---- its process begins

-- what there is of an option, as a list
abbrev pub listed : {A : Type 0} → Option A → List A
listed None = []
listed (Some x) = x ∷ []

-- these are the processes that the entry begins, whichever processes the member knows
abbrev pub IsBorn : {P S : Type 0} → Node P S → Message → List Known → Type 0
IsBorn s x born =
    (f : Frame) (processes : List Begun) (place : ℕ) → s.known.items ≡ map on_known processes → s.member.config.nodes ≡ f.settings.nodes →
    born ≡ map on_known (begun_by f.settings.nodes (home_in processes x.process.0) place x.action)

-- a fork's process may be started, where it is this member's
abbrev pub MayBegin : TextFits → ℕ → Action → List Known → Type 0
MayBegin fits_text me (action.Fork text args place_on) born =
    (known : Known) → born ≡ known ∷ [] → known.home ≡ me → (kinds : Kinds) × fits_text kinds known.text args
MayBegin fits_text me (action.Make kind object) born = Unit {0}
MayBegin fits_text me (action.Call kind op object args) born = Unit {0}
MayBegin fits_text me action.Ended born = Unit {0}
MayBegin fits_text me (action.Faulted fault) born = Unit {0}

-- a process of this text as it begins, at this place
abbrev pub newborn_at : TextNo → Data → ℕ → Played
newborn_at text args place = record { text = text; args = args; replies = []; turns = 0; place = place; stage = Computing }

-- whichever work it was in which these are the processes that the action begins, the one of this member has begun
abbrev pub Begins : {P S : Type 0} → Stood S → Left S → Frame → ℕ → List Known → Action → Work P S → Work P S → Type 0
Begins stood left f number born act old new =
    (m parent : ℕ) (v : NodeWork) → IsWork stood left f m old v →
    born ≡ map on_known (begun_by f.settings.nodes parent v.node.copies.applied act) →
    IsWork stood left f m new (begins m number (begun_by f.settings.nodes parent v.node.copies.applied act) v)

-- ---- the next entry

-- at whichever moment it was, the entry that is due is this one, and is applied; or it passes a limit, and it stays at that moment
abbrev pub AppliesNext : {P S : Type 0} → Stood S → Left S → Frame → Fitness → Work P S → Work P S → Option Message → Type 0
AppliesNext stood left f fitness old new (Some y) =
    (m : ℕ) (hand : List Errand) (u : Moment) (x : Message) → IsAt stood left f fitness m old hand u → IsDue u.work.node x →
    (y ≡ x) × (passes_limit f u.work.node x ≡ false) × IsAt stood left f fitness m new hand (works (applies_one f m x u.work) u)
AppliesNext stood left f fitness old new None =
    (m : ℕ) (hand : List Errand) (u : Moment) (x : Message) → IsAt stood left f fitness m old hand u → IsDue u.work.node x →
    (passes_limit f u.work.node x ≡ true) × IsAt stood left f fitness m new hand u

-- at whichever moment it was: where the messages, behind some first entries, were those that the copies had applied, they are so after the
-- piece
abbrev pub Gathers : {P S : Type 0} → Stood S → Left S → Frame → Fitness → Work P S → List Message → List Message → (ℕ → NodeWork → NodeWork) →
    Type 0
Gathers stood left f fitness s old new piece =
    (m : ℕ) (hand : List Errand) (u : Moment) (first : List Message) → IsAt stood left f fitness m s hand u →
    first ++ old ≡ entries_of u.work.node → first ++ new ≡ entries_of (piece m u.work).node
