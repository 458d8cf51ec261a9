-- What a burst asks of the view that it reads: wherever it comes, the read at which it halts may be tried.
use Rattle.std.specs.Prelude.{◌≡◌, ◌≤◌, ◌<◌, ℕ, IsTrue, is_some}
use Rattle.orca_base.specs.declared.ids.KindNo.{KindNo}
use Rattle.orca_base.specs.declared.ids.OpNo.{OpNo}
use Rattle.orca_base.specs.declared.ids.ObjectId.{ObjectId}
use Rattle.orca_base.specs.declared.ids.ProcessNo.{ProcessNo}
use Rattle.value_core.specs.Datum.{Data}
use Rattle.value_core.specs.History.{most_turns, object_at}
use Rattle.value_core.specs.declared.action.Action.{Action}
use Rattle.value_core.specs.declared.action.Action.TheVariants as action
use Rattle.value_core.specs.declared.action.Class.TheVariants.{Reads}
use Rattle.value_core.specs.declared.processor.Halt.TheVariants as halt
use Rattle.object_manager.specs.Viewed.{ReadFits, Viewed}
use Rattle.world_rules.specs.Bursts.{Halts, is_answered, last_turn, read_line, read_on, reads_on}
use Rattle.world_rules.specs.Frame.{Frame}
use Rattle.world_rules.specs.Played.{Played}
use Rattle.world_rules.specs.Played.Stage.{Computing}
use Rattle.node_rules.specs.Conditions.{Fitness}

-- process i, which is r, performs this read on the view, until these turns at the latest, and is u then
pub record IsNextRead (f : Frame) (i : ProcessNo) (view : Viewed) (last : ℕ) (r u : Played) : Type 0 where
  pub act : Action
  pub used : ℕ
  pub halts : Halts f i r last used (halt.At act)
  pub answered : IsTrue (is_answered f view.objects act)
  pub is : u ≡ reads_on view.place used (read_line i r act (read_on f.performs view.objects act)) r

-- it comes from r to u by reads
pub data ReadsOn (f : Frame) (i : ProcessNo) (view : Viewed) (last : ℕ) : Played → Played → Type 0 where
  Stays : (r : Played) → ReadsOn f i view last r r
  Then : (r u v : Played) → IsNextRead f i view last r u → ReadsOn f i view last u v → ReadsOn f i view last r v

-- a burst of the process may be computed on this view: it computes, its place isn't above the view's, it has turns left; and wherever it
-- comes, the read of an object of the view at which it halts may be tried
pub record BurstFits (f : Frame) (fitness : Fitness) (i : ProcessNo) (view : Viewed) (r : Played) : Type 0 where
  pub computing : r.stage ≡ Computing
  pub place : r.place ≤ view.place
  pub some : r.turns < last_turn f r
  pub turns : last_turn f r ≤ most_turns
  pub reads :
      (u : Played) → ReadsOn f i view (last_turn f r) r u →
      (used : ℕ) (kind : KindNo) (op : OpNo) (object : ObjectId) (given : Data) →
      Halts f i u (last_turn f r) used (halt.At (action.Call kind op object given)) →
      IsTrue (is_some (object_at view.objects object)) → f.performs.class_of kind op ≡ Reads →
      ReadFits fitness.state fitness.args view.objects kind op object given
