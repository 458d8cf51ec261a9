-- Places before the last one that a member applied: its first entries may be applied to opening copies again, and a burst may be computed on
-- what its objects were there.
use Rattle.std.specs.Prelude.{◌≡◌, ◌<◌, ◌≤◌, ℕ, List, Some, length, take}
use Rattle.orca_base.specs.declared.ids.ProcessNo.{ProcessNo}
use Rattle.value_core.specs.Meaning.{Computes, Performs}
use Rattle.value_core.specs.declared.message.Message.{Message}
use Rattle.object_manager.specs.Viewed.{Viewed}
use Rattle.world_rules.specs.declared.event.Step.{Step}
use Rattle.world_rules.specs.declared.standing.Standing.TheVariants.{Going}
use Rattle.world_rules.specs.Frame.{AreSettings, Frame}
use Rattle.world_rules.specs.Nodes.{Node, entries_of}
use Rattle.world_rules.specs.Played.{Played}
use Rattle.world_rules.specs.Played.Stage.{Computing}
use Rattle.world_rules.specs.Standings.{standing}
use Rattle.world_rules.specs.Steps.{Replays, objects_after}
use Rattle.world_rules.specs.Worlds.{World, home_of, played_in}
use Rattle.node_rules.specs.Bursting.{BurstFits}
use Rattle.node_rules.specs.Conditions.{Fitness}
use Rattle.node_rules.specs.Entries.{MayApplyAgain}

-- ---- entries again

-- the first entries of each member may be applied so while a run of a program with these meanings is going, by settings that a run may have
abbrev pub AllApplyAgain : Performs → Computes → Fitness → Type 0
AllApplyAgain p q fitness =
    (f : Frame) → f.performs ≡ p → f.computes ≡ q → AreSettings f.settings → (steps : List Step) (w : World) →
    Replays f steps w → standing f w ≡ Going → (m : ℕ) → m < f.settings.nodes → (entries : List Message) →
    entries ≡ take (length entries) (entries_of (w.nodes m)) → MayApplyAgain f fitness.state fitness.args (w.nodes m) entries

-- ---- bursts

-- what the objects of a member were after so many entries
abbrev pub view_at : Frame → Node → ℕ → Viewed
view_at f node n = record { objects = objects_after f node n; place = n }

-- of each process that computes, a burst on what its member's objects were has what it asks, at each place from the process's own on
abbrev pub BurstsFitEarlier : Frame → Fitness → World → Type 0
BurstsFitEarlier f fitness w =
    (i : ProcessNo) (r : Played) → played_in f w i.0 ≡ Some r → r.stage ≡ Computing → (n : ℕ) → r.place ≤ n →
    n ≤ (w.nodes (home_of f w i.0)).member.applied → BurstFits f fitness i (view_at f (w.nodes (home_of f w i.0)) n) r

abbrev pub AllBurstsFit : Performs → Computes → Fitness → Type 0
AllBurstsFit p q fitness =
    (f : Frame) → f.performs ≡ p → f.computes ≡ q → AreSettings f.settings → (steps : List Step) (w : World) →
    Replays f steps w → standing f w ≡ Going → BurstsFitEarlier f fitness w
