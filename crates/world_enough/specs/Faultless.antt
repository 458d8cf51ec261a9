-- Faultless runs: each packet's fate is Pass, or a Hold for no ticks, no wire acts, and of the packets that are ready the first is delivered.
-- A Cut counts as a fault, also where it leaves its packet whole: the steps don't show how long the packet was.
use Rattle.std.specs.Prelude.{◌≡◌, ◌⊎◌, ◌+◌, ℕ, List, [], ◌∷◌, Some}
use Rattle.value_core.specs.Meaning.{Computes, Performs}
use Rattle.net_rules.specs.Flights.{first_ready}
use Rattle.world_rules.specs.declared.event.Event.{Event}
use Rattle.world_rules.specs.declared.event.Event.TheVariants as event
use Rattle.world_rules.specs.declared.event.Step.{Step}
use Rattle.world_rules.specs.Frame.{AreSettings, Frame}
use Rattle.world_rules.specs.Steps.{Next}
use Rattle.world_rules.specs.Worlds.{World, opening_world}
use Rattle.world_facts.specs.Passing.{AllPass}

-- ---- events

-- no crash, no suspicion, no exchange of the wire
abbrev pub IsPlain : Event → Type 0
IsPlain (event.Burst process place turns) = Unit {0}
IsPlain (event.Act process) = Unit {0}
IsPlain (event.Deliver packet copy) = Unit {0}
IsPlain event.Tick = Unit {0}
IsPlain (event.Crash node) = ⊥
IsPlain (event.Suspect node) = ⊥
IsPlain event.Swap = ⊥

-- some fate of these steps doesn't pass, or some event is a crash, a suspicion or an exchange
abbrev pub IsFaulty : List Step → Type 0
IsFaulty [] = ⊥
IsFaulty (step ∷ steps) = ((AllPass step.fates → ⊥) ⊎ (IsPlain step.event → ⊥)) ⊎ IsFaulty steps

-- ---- the order of deliveries

-- of the packets that are ready the first comes
abbrev pub IsFirst : World → Event → Type 0
IsFirst w (event.Deliver packet copy) = first_ready w.flights ≡ Some (packet, copy)
IsFirst w (event.Burst process place turns) = Unit {0}
IsFirst w (event.Act process) = Unit {0}
IsFirst w event.Tick = Unit {0}
IsFirst w (event.Crash node) = Unit {0}
IsFirst w (event.Suspect node) = Unit {0}
IsFirst w event.Swap = Unit {0}

-- steps that lead from one world to another, in which of the packets that are ready the first comes, whatever their fates
abbrev pub LeadsFirst : Frame → World → List Step → World → Type 0
LeadsFirst f w [] v = v ≡ w
LeadsFirst f w (step ∷ steps) v = (u : World) × Next f w step u × IsFirst w step.event × LeadsFirst f u steps v

-- ---- faultless steps

pub record IsFaultless (w : World) (step : Step) : Type 0 where
  pub fates : AllPass step.fates
  pub plain : IsPlain step.event
  pub first : IsFirst w step.event

abbrev pub LeadsFaultless : Frame → World → List Step → World → Type 0
LeadsFaultless f w [] v = v ≡ w
LeadsFaultless f w (step ∷ steps) v = (u : World) × Next f w step u × IsFaultless w step × LeadsFaultless f u steps v

-- so it is of each faultless run of a program with these meanings, by settings that a run may have
abbrev pub OfFaultlessRuns : Performs → Computes → (Frame → World → List Step → Type 0) → Type 0
OfFaultlessRuns p q P =
    (f : Frame) → f.performs ≡ p → f.computes ≡ q → AreSettings f.settings → (steps : List Step) (w : World) →
    LeadsFaultless f (opening_world f) steps w → P f w steps

-- ---- its events

abbrev pub IsTick : Event → Type 0
IsTick event.Tick = Unit {0}
IsTick (event.Burst process place turns) = ⊥
IsTick (event.Act process) = ⊥
IsTick (event.Deliver packet copy) = ⊥
IsTick (event.Crash node) = ⊥
IsTick (event.Suspect node) = ⊥
IsTick event.Swap = ⊥

abbrev pub NoTick : List Step → Type 0
NoTick [] = Unit {0}
NoTick (step ∷ steps) = (IsTick step.event → ⊥) × NoTick steps

-- how many packets were delivered
abbrev pub delivers_by : Event → ℕ
delivers_by (event.Deliver packet copy) = 1
delivers_by (event.Burst process place turns) = 0
delivers_by (event.Act process) = 0
delivers_by event.Tick = 0
delivers_by (event.Crash node) = 0
delivers_by (event.Suspect node) = 0
delivers_by event.Swap = 0

abbrev pub delivered : List Step → ℕ
delivered [] = 0
delivered (step ∷ steps) = delivers_by step.event + delivered steps

-- and how many bursts and acts there were
abbrev pub works_by : Event → ℕ
works_by (event.Burst process place turns) = 1
works_by (event.Act process) = 1
works_by (event.Deliver packet copy) = 0
works_by event.Tick = 0
works_by (event.Crash node) = 0
works_by (event.Suspect node) = 0
works_by event.Swap = 0

abbrev pub worked : List Step → ℕ
worked [] = 0
worked (step ∷ steps) = works_by step.event + worked steps
