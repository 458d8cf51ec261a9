-- A run with idle stretches, computed: three members, of which one may be lost. Process 0 makes the cell and forks process 1 on member 2,
-- which assigns 6 to it. Member 0, the sequencer, knows that this entry is accepted, both its Accepts are lost, and it crashes. At each
-- of six ticks members 1 and 2 send it a Status; at the seventh member 1 coordinates.
use Rattle.std.specs.Prelude.{◌≡◌, ◌≤◌, ◌++◌, ℕ, zero, suc, List, [], ◌∷◌, length, take}
use Rattle.value_core.specs.declared.action.Action.{Action}
use Rattle.value_core.specs.declared.action.Reply.TheVariants as answer
use Rattle.net_rules.specs.declared.fate.Fate.{Fate}
use Rattle.net_rules.specs.declared.fate.Fate.TheVariants as fate
use Rattle.world_rules.specs.Frame.{Frame}
use Rattle.world_rules.specs.LostEntry.{first_at, second_at}
use Rattle.world_rules.specs.Programs.{assign, fork_on, frame_of, make, two_texts, write}
use Rattle.world_rules.specs.Scenes.{Scene, act, both, burst, crash, deliver, one, steps_of, tick, world_after}
use Rattle.world_rules.specs.Worlds.{World, opening_world}
use Rattle.world_idle.specs.Faults.{crashes_in, last_fault, most_held, ticks_in}
use Rattle.world_idle.specs.Stretches.{AllInside, AllSame, IsIdleStretch}

-- the string "6" has the one character 54
abbrev pub first_text : List Action
first_text = make ∷ fork_on 2 ∷ []

abbrev pub second_text : List Action
second_text = assign 6 ∷ write 54 ∷ []

abbrev pub crashing : Frame
crashing = frame_of 3 1 [] (two_texts first_text second_text)

abbrev pub lost : List Fate
lost = fate.Drop ∷ fate.Drop ∷ []

-- up to the crash
abbrev pub crash_scenes : List Scene
crash_scenes =
    burst 0 0 [] (first_at [] 0 make)
    ∷ act 0 both ∷ deliver 1 one ∷ deliver 2 [] ∷ deliver 3 both ∷ deliver 4 [] ∷ deliver 5 []
    ∷ burst 0 1 [] (first_at (answer.Done ∷ []) 1 (fork_on 2))
    ∷ act 0 both ∷ deliver 6 one ∷ deliver 7 [] ∷ deliver 8 both ∷ deliver 9 [] ∷ deliver 10 []
    ∷ burst 1 2 [] (second_at [] 2 (assign 6))
    ∷ act 1 one ∷ deliver 11 both ∷ deliver 12 one ∷ deliver 13 [] ∷ deliver 14 lost ∷ crash 0 ∷ []

abbrev pub crashed : World
crashed = world_after crashing (opening_world crashing) crash_scenes

-- so many ticks, each with the two packets that it sends, the first of which has this number
abbrev pub rounds : ℕ → ℕ → List Scene
rounds zero number = []
rounds (suc n) number = tick both ∷ deliver number [] ∷ deliver (suc number) [] ∷ rounds n (suc (suc number))

-- ---- six ticks

-- an Invite to either of the others, and a Status
abbrev pub seventh : List Scene
seventh = tick (fate.Pass ∷ fate.Pass ∷ fate.Pass ∷ []) ∷ []

abbrev pub six_scenes : List Scene
six_scenes = crash_scenes ++ (rounds 6 17 ++ seventh)

abbrev pub waited : World
waited = world_after crashing crashed (rounds 6 17)

abbrev pub coordinated : World
coordinated = world_after crashing waited seventh

-- bursts, acts and deliveries whose packets pass are no faults, the lost Accepts of step 20 are one; the crash, step 21, is the last fault;
-- from there on six ticks are an idle stretch, and the seventh isn't idle
pub record SixTicks : Type 0 where
  pub none : last_fault (steps_of (take 19 crash_scenes)) ≡ 0
  pub lost : last_fault (steps_of (take 20 crash_scenes)) ≡ 20
  pub fault : last_fault (steps_of six_scenes) ≡ 21
  pub stretch : IsIdleStretch crashing (steps_of six_scenes) (steps_of (rounds 6 17)) coordinated
  pub ticks : ticks_in (steps_of (rounds 6 17)) ≡ 6
  pub crashes : crashes_in (steps_of six_scenes) ≤ crashing.settings.resilience
  pub inside : AllInside crashing coordinated
  pub last : AllSame crashing waited coordinated → ⊥

-- ---- held packets

-- the packets of the first tick behind the crash are held, for one tick and for two: each comes at that tick
abbrev pub holding_tick : List Scene
holding_tick = tick (fate.Hold 1 ∷ fate.Hold 2 ∷ []) ∷ []

abbrev pub held_ticks : List Scene
held_ticks =
    tick both ∷ deliver 17 [] ∷ deliver 19 [] ∷ deliver 20 [] ∷ tick both ∷ deliver 18 [] ∷ deliver 21 [] ∷ deliver 22 [] ∷ []

abbrev pub held_scenes : List Scene
held_scenes = (crash_scenes ++ holding_tick) ++ (held_ticks ++ rounds 3 23)

abbrev pub holding : World
holding = world_after crashing crashed holding_tick

abbrev pub let_go : World
let_go = world_after crashing holding held_ticks

abbrev pub held_end : World
held_end = world_after crashing let_go (rounds 3 23)

-- the last fault is that tick, step 22, at which one packet is held for two ticks and none for more: behind two ticks more the last three
-- are an idle stretch
pub record HeldTicks : Type 0 where
  pub fault : last_fault (steps_of held_scenes) ≡ 22
  pub held : most_held holding.flights ≡ 2
  pub waits : ticks_in (steps_of held_ticks) ≡ 2
  pub stretch : IsIdleStretch crashing (steps_of held_scenes) (steps_of (rounds 3 23)) held_end
  pub ticks : ticks_in (steps_of (rounds 3 23)) ≡ 3
  pub crashes : crashes_in (steps_of held_scenes) ≤ crashing.settings.resilience
  pub inside : AllInside crashing held_end

-- ---- logs that grow

-- another run of the program: member 1, which acknowledges, crashes once the first entry is accepted
abbrev pub acker_scenes : List Scene
acker_scenes =
    burst 0 0 [] (first_at [] 0 make) ∷ act 0 both ∷ deliver 1 one ∷ deliver 2 [] ∷ deliver 3 both ∷ crash 1 ∷ []

-- the Accepts of that entry come
abbrev pub accepts : List Scene
accepts = deliver 4 [] ∷ deliver 5 [] ∷ []

-- the second entry comes to member 2, and nobody acknowledges it; at a tick member 0 sends it again, and member 2 asks how it stands
abbrev pub growing : List Scene
growing =
    burst 0 1 [] (first_at (answer.Done ∷ []) 1 (fork_on 2)) ∷ act 0 both ∷ deliver 6 [] ∷ deliver 7 []
    ∷ tick (fate.Pass ∷ fate.Pass ∷ fate.Pass ∷ []) ∷ deliver 8 [] ∷ deliver 9 [] ∷ deliver 10 one ∷ deliver 11 [] ∷ []

abbrev pub grown_scenes : List Scene
grown_scenes = acker_scenes ++ (accepts ++ growing)

abbrev pub ackerless : World
ackerless = world_after crashing (opening_world crashing) acker_scenes

abbrev pub accepted : World
accepted = world_after crashing ackerless accepts

abbrev pub grown : World
grown = world_after crashing accepted growing

-- a stretch in which a log grows is idle
pub record GrowingLogs : Type 0 where
  pub fault : last_fault (steps_of grown_scenes) ≡ 6
  pub stretch : IsIdleStretch crashing (steps_of grown_scenes) (steps_of growing) grown
  pub ticks : ticks_in (steps_of growing) ≡ 1
  pub before : length (accepted.nodes 2).member.log ≡ 1
  pub behind : length (grown.nodes 2).member.log ≡ 2
