-- A burst that is checked in is a step of the run.
use Rattle.std.proofs.Common.{◌≡◌, ◌≤◌, ◌+◌, ◌-◌, ◌∙◌, ℕ, true, Option, Some, None, slice_get, ap, sym, subst, refl, arith}
use Rattle.value_core.specs.History.{Objects}
use Rattle.world_rules.specs.Bursts.{Ran, last_turn}
use Rattle.world_rules.specs.declared.standing.Standing.TheVariants.{Going}
use Rattle.world_rules.specs.Frame.{Frame}
use Rattle.world_rules.specs.Parts.{computes}
use Rattle.world_rules.specs.Played.{Played}
use Rattle.world_rules.specs.Standings.{standing}
use Rattle.world_rules.specs.Steps.{Burst, IsBurst, objects_after}
use Rattle.world_rules.specs.Worlds.{World, home_of}
use Rattle.node_core.specs.CheckingIn.{HasCheckedIn}
use Rattle.node_parts.specs.Shown.{IsPlayed, IsPlayedIf, Left, Stood, on_stage}
use Rattle.node_core.specs.Stands.{StandsAs}
use Rattle.node_core.specs.Tasks.{Computed}
use Rattle.node_core.specs.declared.node.Node.{Node}
use Rattle.node_parts.specs.declared.resident.Resident.{Resident}
use Rattle.node_core.specs.declared.task.CheckedIn.{CheckedIn}
use Rattle.world_parts.specs.Standing.{IsWorld, Stands}
use Rattle.world_parts.specs.declared.parts.Parts.{Parts}

-- the process that is here, as the world has it
pub played_as : {S : Type 0} (stood : Stood S) (left : Left S) (i : ℕ) (s : Resident S) (o : Option Played) → IsPlayedIf stood left i (Some s) o → (r : Played) × (o ≡ Some r) × IsPlayed stood left i s r
played_as stood left i s None h = absurd h
played_as stood left i s (Some r) h = (r, refl, h)

-- what is checked in
pub record Checks {P S : Type 0} (stood : Stood S) (left : Left S) (f : Frame) (s : Parts P S) (w : World) (home : ℕ) (done : Computed S) (checked : CheckedIn) (before after : Node P S) : Type 0 where
  pub stands : Stands stood left f s
  pub is : IsWorld stood left f s w
  pub going : standing f w ≡ Going
  pub at_home : home ≡ home_of f w done.process.0
  pub there : slice_get s.nodes.items home ≡ Some before
  pub has : HasCheckedIn stood left f done checked before after

-- it is a burst of the run, after which the member is this one
pub record Bursts {P S : Type 0} (stood : Stood S) (left : Left S) (f : Frame) (w : World) (home : ℕ) (done : Computed S) (resident : Resident S) (after : Node P S) : Type 0 where
  pub burst : Burst
  pub reads : burst.reads ≡ done.reads
  pub possible : IsBurst f w done.process done.view.place (done.turns - resident.turns) burst
  pub least : resident.turns ≤ done.turns
  pub most : done.turns ≤ resident.turns + 10000
  pub stands : StandsAs stood left f home after (computes done.process.0 done.view.place burst.reads burst.end (w.nodes home)).node

pub burst_of : {P S : Type 0} (stood : Stood S) (left : Left S) (f : Frame) (s : Parts P S) (w : World) (home : ℕ) (done : Computed S) (checked : CheckedIn) (before after : Node P S)
    → (h : Checks stood left f s w home done checked before after) → Bursts stood left f w home done h.has.resident after
burst_of {P} {S} stood left f s w home done checked before after h =
    let resident = h.has.resident in
    let stands = h.is.nodes home before h.there in
    let known = played_as stood left done.process.0 resident ((w.nodes home).played done.process.0) (subst (λ (o : Option (Resident S)). IsPlayedIf stood left done.process.0 o ((w.nodes home).played done.process.0)) h.has.here (stands.residents done.process.0)) in
    let r = known.0 in
    let plays = known.2 in
    let becomes = h.has.becomes home (w.nodes home) r stands known.1 in
    let ended = becomes.0 in
    let ran = becomes.1 in
    let task = h.is.tasks home done.process.0 before resident done.view h.there h.has.here h.has.out.0 in
    let turns : ended.turns ≡ r.turns + (done.turns - resident.turns) = omega (arith, ran.turns, ran.least, plays.turns) in
    let last : last_turn f r ≤ r.turns + 10000 = omega arith in
    record {
      burst = record { reads = done.reads; end = ended };
      reads = refl;
      possible = record {
        start = r;
        here = subst (λ (k : ℕ). (w.nodes k).played done.process.0 ≡ Some r) h.at_home known.1;
        lives = subst (λ (k : ℕ). w.lives k ≡ true) h.at_home task.lives;
        computing = sym plays.stage ∙ ap on_stage task.computing;
        after = omega (arith, task.after, plays.place);
        before = subst (λ (k : ℕ). done.view.place ≤ (w.nodes k).member.applied) h.at_home task.before;
        ran = subst (λ (k : ℕ). Ran f (objects_after f (w.nodes k) done.view.place) done.view.place done.process (last_turn f r) r done.reads ended) h.at_home
            (subst (λ (o : Objects). Ran f o done.view.place done.process (last_turn f r) r done.reads ended) task.objects ran.ran);
        took = turns;
      };
      least = omega (arith, ran.least, ran.turns, plays.turns);
      most = omega (arith, ran.most, ran.turns, plays.turns, last);
      stands = becomes.2;
    }
