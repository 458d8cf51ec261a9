-- What wires do to a run: which event an act is, when it is passed over, which wire is in use, and what is asked of wires and given by them
-- before the events of a run. Events are numbered from 1.
use Rattle.std.specs.Prelude.{◌≡◌, ◌⊎◌, ◌+◌, ◌==◌, ℕ, zero, suc, Bool, true, false, not, if◌then◌else◌, List, [], ◌∷◌, Option, None, Some, take}
use Rattle.net_rules.specs.declared.asked.Asked.{Asked}
use Rattle.net_rules.specs.declared.asked.Asked.TheVariants.{Act, Packet}
use Rattle.net_rules.specs.declared.fate.WireAct.{WireAct}
use Rattle.net_rules.specs.declared.fate.WireAct.TheVariants as does
use Rattle.group_rules.specs.Sets.{In, entry_at}
use Rattle.world_rules.specs.declared.event.Event.{Event}
use Rattle.world_rules.specs.declared.event.Event.TheVariants as event
use Rattle.world_rules.specs.declared.event.Step.{Step}
use Rattle.world_rules.specs.Frame.{Frame}
use Rattle.world_rules.specs.Steps.{Replays, asked_of, lives_in, may_swap}
use Rattle.world_rules.specs.Worlds.{World}

-- ---- one act

-- the event that it is
abbrev pub event_of : WireAct → Event
event_of (does.Crash node) = event.Crash node
event_of (does.Suspect node) = event.Suspect node
event_of does.Swap = event.Swap

-- one that names a crashed member, or none, and an exchange without a next wire, is passed over, and is no event
abbrev pub is_passed_over : Frame → World → WireAct → Bool
is_passed_over f w (does.Crash node) = not (lives_in f w node)
is_passed_over f w (does.Suspect node) = not (lives_in f w node)
is_passed_over f w does.Swap = not (may_swap f w)

-- ---- the wire in use

-- how many exchanges there are among these events
abbrev pub swaps_by : Event → ℕ
swaps_by (event.Burst process place turns) = 0
swaps_by (event.Act process) = 0
swaps_by (event.Deliver packet copy) = 0
swaps_by event.Tick = 0
swaps_by (event.Crash node) = 0
swaps_by (event.Suspect node) = 0
swaps_by event.Swap = 1

abbrev pub swaps_in : List Step → ℕ
swaps_in [] = 0
swaps_in (step ∷ steps) = swaps_by step.event + swaps_in steps

-- the steps before step n, and the wire that is in use then: the wires are numbered from 0
abbrev pub before : ℕ → List Step → List Step
before zero steps = []
before (suc n) steps = take n steps

abbrev pub wire_before : ℕ → List Step → ℕ
wire_before n steps = swaps_in (before n steps)

-- ---- what a wire was asked, in order of time

-- of packets
abbrev pub packets_in : List Asked → List Asked
packets_in [] = []
packets_in (Packet question fate ∷ more) = Packet question fate ∷ packets_in more
packets_in (Act number answer ∷ more) = packets_in more

-- of acts: the number of the event that would come next, and the answer
abbrev pub acts_in : List Asked → List (ℕ × Option WireAct)
acts_in [] = []
acts_in (Packet question fate ∷ more) = acts_in more
acts_in (Act number answer ∷ more) = (number, answer) ∷ acts_in more

-- the answer to the last question before event n, where there was one
abbrev pub or_later : ℕ → ℕ → Option WireAct → Option (Option WireAct) → Option (Option WireAct)
or_later n number answer None = if number == n then Some answer else None
or_later n number answer (Some later) = Some later

abbrev pub last_answer : ℕ → List (ℕ × Option WireAct) → Option (Option WireAct)
last_answer n [] = None
last_answer n (one ∷ more) = or_later n one.0 one.1 (last_answer n more)

-- ---- the network was really used, in a run of these steps, which led to this world

-- what a process computed by itself
abbrev pub is_burst : Event → Bool
is_burst (event.Burst process place turns) = true
is_burst (event.Act process) = false
is_burst (event.Deliver packet copy) = false
is_burst event.Tick = false
is_burst (event.Crash node) = false
is_burst (event.Suspect node) = false
is_burst event.Swap = false

-- the act is event n
abbrev pub IsEvent : List Step → ℕ → WireAct → Type 0
IsEvent steps n act = (step : Step) × (entry_at steps n ≡ Some step) × (step.event ≡ event_of act)

-- or it is passed over in the world before event n
abbrev pub WasPassedOver : Frame → List Step → ℕ → WireAct → Type 0
WasPassedOver f steps n act = (w : World) × Replays f (before n steps) w × (is_passed_over f w act ≡ true)

abbrev pub IsAccounted : Frame → List Step → ℕ → Option WireAct → Type 0
IsAccounted f steps n None = Unit {0}
IsAccounted f steps n (Some act) = IsEvent steps n act ⊎ WasPassedOver f steps n act

abbrev pub AreAccounted : Frame → List Step → List (ℕ × Option WireAct) → Type 0
AreAccounted f steps [] = Unit {0}
AreAccounted f steps (one ∷ more) = IsAccounted f steps one.0 one.1 × AreAccounted f steps more

-- `asked` has what each wire was asked in the run. `packets`, each was asked about the packets that were sent while it was in use, with the
-- fates of those steps; `acts`, before each event that is no burst the wire in use was asked what it does; `caused`, each crash, suspicion
-- and exchange is the answer to the last such question; `given`, each act that a wire gave is the event of its number, or was passed over.
-- Where memory lacked, the last question of the wire in use may have an answer that is neither: `given` then holds without it
pub record WereUsed (f : Frame) (steps : List Step) (w : World) (asked : ℕ → List Asked) : Type 0 where
  pub packets : (wire : ℕ) → packets_in (asked wire) ≡ asked_of wire w.told
  pub acts :
      (n : ℕ) (step : Step) → entry_at steps n ≡ Some step → is_burst step.event ≡ false →
      (answer : Option WireAct) × In (n, answer) (acts_in (asked (wire_before n steps)))
  pub caused :
      (n : ℕ) (step : Step) (act : WireAct) → entry_at steps n ≡ Some step → step.event ≡ event_of act →
      last_answer n (acts_in (asked (wire_before n steps))) ≡ Some (Some act)
  pub given : (wire : ℕ) → AreAccounted f steps (acts_in (asked wire))
