-- Settings by which no object is single.
use Rattle.std.specs.Prelude.{◌≡◌, ℕ, false}
use Rattle.orca_base.specs.declared.ids.TextNo.{TextNo}
use Rattle.world_rules.specs.Frame.{Frame, chooses_single}

-- each object is replicated, whichever site made it
abbrev pub AllReplicated : Frame → Type 0
AllReplicated f = (text : TextNo) (number : ℕ) → chooses_single f.settings.choices text number ≡ false
