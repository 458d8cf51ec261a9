-- The turns that a process took in all.
use Rattle.std.proofs.Common.{◌≡◌, ℕ, Option, None, Some, refl}
use Rattle.world_facts.specs.Ends.{turns_in}
use Rattle.world_rules.specs.Played.{Played}
use Rattle.node_parts.specs.Shown.{IsPlayedIf, Left, Stood}
use Rattle.node_parts.specs.declared.resident.Resident.{Resident}

pub took_there : {S : Type 0} (stood : Stood S) (left : Left S) (i : ℕ) (r : Resident S) (o : Option Played) → IsPlayedIf stood left i (Some r) o → r.turns ≡ turns_in o
took_there stood left i r None h = absurd h
took_there stood left i r (Some p) h = h.turns

pub took_none : {S : Type 0} (stood : Stood S) (left : Left S) (i : ℕ) (o : Option Played) → IsPlayedIf {S = S} stood left i None o → 0 ≡ turns_in o
took_none stood left i None h = refl
took_none stood left i (Some p) h = absurd h
