-- Where no object is single none is, whoever made it.
use Rattle.std.proofs.Common.{◌≡◌, ℕ, false, List, Option, Some, None, refl}
use Rattle.std.specs.Prelude.{slice_get}
use Rattle.orca_base.specs.declared.ids.ObjectId.{ObjectId}
use Rattle.world_rules.specs.Frame.{Frame}
use Rattle.world_rules.specs.Processes.{Begun, single_by, singles_of}
use Rattle.world_facts.specs.Replicated.{AllReplicated}

not_by : (f : Frame) (o : Option Begun) (number : ℕ) → AllReplicated f → single_by f o number ≡ false
not_by f None number all = refl
not_by f (Some maker) number all = all maker.text number

pub no_single : (f : Frame) (ps : List Begun) (o : ObjectId) → AllReplicated f → singles_of f ps o ≡ false
no_single f ps o all = not_by f (slice_get ps o.process) o.number all
