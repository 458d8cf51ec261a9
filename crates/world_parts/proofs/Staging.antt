-- What a process's stage says, in code as in the world.
use Rattle.std.proofs.Common.{◌≡◌, ℕ, Bool, false, Option, Some, None, ap, refl}
use Rattle.node_parts.specs.Shown.{IsPlayedIf, Left, Stood, on_stage}
use Rattle.node_parts.specs.declared.resident.Resident.{Resident}
use Rattle.world_rules.specs.Played.{Played, Stage}
use Rattle.world_rules.specs.Standings.{stands}
use Rattle.world_rules.specs.Steps.{is_acting, may_act_as}

-- a test of the stage of a process that is here
pub says_there : {S : Type 0} (stood : Stood S) (left : Left S) (test : Stage → Bool) (i : ℕ) (s : Resident S) (o : Option Played)
    → IsPlayedIf stood left i (Some s) o → test (on_stage s.stage) ≡ stands test o
says_there stood left test i s None h = absurd h
says_there stood left test i s (Some r) h = ap test h.stage

-- and of one that isn't
pub says_none : {S : Type 0} (stood : Stood S) (left : Left S) (test : Stage → Bool) (i : ℕ) (o : Option Played) → IsPlayedIf stood left i None o → false ≡ stands test o
says_none stood left test i None h = refl
says_none stood left test i (Some r) h = absurd h

-- whether its action wasn't carried out
pub acts_there : {S : Type 0} (stood : Stood S) (left : Left S) (i : ℕ) (s : Resident S) (o : Option Played) → IsPlayedIf stood left i (Some s) o
    → is_acting (on_stage s.stage) ≡ may_act_as o
acts_there stood left i s None h = absurd h
acts_there stood left i s (Some r) h = ap is_acting h.stage

pub acts_none : {S : Type 0} (stood : Stood S) (left : Left S) (i : ℕ) (o : Option Played) → IsPlayedIf stood left i None o → false ≡ may_act_as o
acts_none stood left i None h = refl
acts_none stood left i (Some r) h = absurd h
