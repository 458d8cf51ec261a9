-- A follower beside a whole run: one cell on three members, of which none may be lost. The process makes the cell, assigns 6, reads it in a
-- burst, and writes it: 13 steps. From the 8th on the follower does a round after each.
use Rattle.std.specs.Prelude.{◌≡◌, ℕ, suc, true, false, List, [], ◌∷◌, replicate, take, None, Some, slice_get}
use Rattle.value_core.specs.declared.action.Action.TheVariants as action
use Rattle.value_core.specs.declared.action.Reply.TheVariants as answer
use Rattle.group_packets.specs.declared.packet.PacketKind.TheVariants as kind
use Rattle.group_rules.specs.Sets.{with_at}
use Rattle.net_rules.specs.Asked.{packet_asked}
use Rattle.net_rules.specs.declared.asked.Asked.{Asked}
use Rattle.net_rules.specs.declared.fate.Fate.{Fate}
use Rattle.world_rules.specs.Nodes.{Node}
use Rattle.net_rules.specs.declared.fate.Fate.TheVariants as fate
use Rattle.world_rules.specs.declared.event.Step.{Step}
use Rattle.world_rules.specs.declared.standing.Standing.TheVariants.{Finished}
use Rattle.world_rules.specs.Frame.{Frame}
use Rattle.world_rules.specs.OneCell.{actions, at_place, read_six}
use Rattle.world_rules.specs.Programs.{assign, frame_of, gives, make, two_texts, write}
use Rattle.world_rules.specs.Scenes.{Scene, act, both, burst, deliver, steps_of, world_after}
use Rattle.world_rules.specs.Standings.{standing}
use Rattle.world_rules.specs.Steps.{after_step}
use Rattle.world_rules.specs.Worlds.{World, opening_world}
use Rattle.join_law.specs.Moments.{Moment, RoundsUpTo, asks_member}
use Rattle.join_law.specs.Rounds.{Rounding, Rounds, ahead, ends_with, last_number, opening_rounding, round, turns}

abbrev pub one_cell : Frame
one_cell = frame_of 3 0 [] (two_texts actions [])

abbrev pub scenes : List Scene
scenes =
    burst 0 0 [] (at_place [] 0 make) ∷ act 0 both ∷ deliver 1 [] ∷ deliver 2 []
    ∷ burst 0 1 [] (at_place (answer.Done ∷ []) 1 (assign 6)) ∷ act 0 both ∷ deliver 3 [] ∷ deliver 4 []
    ∷ burst 0 2 (read_six ∷ []) (at_place (answer.Done ∷ answer.Done ∷ gives 6 ∷ []) 2 (write 54))
    ∷ act 0 both ∷ deliver 5 [] ∷ deliver 6 []
    ∷ burst 0 3 [] (at_place (answer.Done ∷ answer.Done ∷ gives 6 ∷ answer.Done ∷ []) 3 action.Ended) ∷ []

abbrev pub one_cell_steps : List Step
one_cell_steps = steps_of scenes

abbrev pub one_cell_end : World
one_cell_end = world_after one_cell (opening_world one_cell) scenes

-- the rounds beside scenes, of which the first has this number
abbrev pub beside : Frame → List Fate → ℕ → ℕ → World → List Scene → Rounding → Rounding
beside f fates start n w [] u = u
beside f fates start n w (scene ∷ scenes) u =
    beside f fates start (suc n) (after_step f w scene.step scene.given) scenes
    (turns f fates start (after_step f w scene.step scene.given) n u)

-- the follower at the end, where its packets have these fates
abbrev pub follower : List Fate → Rounding
follower fates =
    ends_with one_cell fates one_cell_end (ahead one_cell one_cell_end 3)
    (beside one_cell fates 8 1 (opening_world one_cell) scenes opening_rounding)

-- the fates of so many packets
abbrev pub all_drop : ℕ → List Fate
all_drop n = replicate n fate.Drop

abbrev pub all_pass : ℕ → List Fate
all_pass n = replicate n fate.Pass

-- faults: the first Seek is held for two rounds; the second comes twice, and so is answered twice; the answer to the first is held for one
-- round; and the next entry comes twice
abbrev pub faults : List Fate
faults = fate.Hold 2 ∷ fate.Twice ∷ fate.Pass ∷ fate.Pass ∷ fate.Hold 1 ∷ fate.Pass ∷ fate.Twice ∷ all_pass 4

-- an answer is held for one round, and is taken at the beginning of the next
abbrev pub late : List Fate
late = fate.Pass ∷ fate.Hold 1 ∷ all_pass 7

-- a Seek to a member, and an entry from one; the follower has the number 3
abbrev pub status : ℕ → ℕ → Fate → Asked
status number to fate = packet_asked number kind.Status 3 to 9 fate

abbrev pub entry : ℕ → ℕ → ℕ → Fate → Asked
entry number from length fate = packet_asked number kind.Entry from 3 length fate

abbrev pub asked_with_faults : List Asked
asked_with_faults =
    status 1 0 (fate.Hold 2)
    ∷ status 2 1 fate.Twice ∷ entry 3 1 28 fate.Pass ∷ entry 4 1 28 fate.Pass
    ∷ entry 5 0 28 (fate.Hold 1) ∷ status 6 2 fate.Pass ∷ entry 7 2 40 fate.Twice
    ∷ status 8 0 fate.Pass ∷ entry 9 0 37 fate.Pass
    ∷ status 10 1 fate.Pass
    ∷ status 11 2 fate.Pass ∷ []

abbrev pub asked_late : List Asked
asked_late =
    status 1 0 fate.Pass ∷ entry 2 0 28 (fate.Hold 1)
    ∷ status 3 1 fate.Pass ∷ entry 4 1 40 fate.Pass
    ∷ status 5 2 fate.Pass
    ∷ status 6 0 fate.Pass ∷ entry 7 0 37 fate.Pass
    ∷ status 8 1 fate.Pass
    ∷ status 9 2 fate.Pass ∷ []

-- ---- within the first round: the wire was asked about the Seek, which comes next

abbrev pub seek_comes : Moment
seek_comes = asks_member one_cell (all_pass 1) 0 opening_rounding

-- ---- a state: the world at the end, if member 0 had purged its first two entries (no run does this before 192 of them), and one round
-- with it, in which the state comes twice

abbrev pub purges : Node → Node
purges node = record node { member = record node.member { base = 2 } }

abbrev pub purged_world : World
purged_world = record one_cell_end { nodes = with_at one_cell_end.nodes 0 (purges (one_cell_end.nodes 0)) }

abbrev pub with_state : Rounding
with_state = round one_cell (fate.Pass ∷ fate.Twice ∷ []) purged_world 0 opening_rounding

-- ---- who answers: one round with member 0 at the end, if it were outside, or had crashed

abbrev pub leaves : Node → Node
leaves node = record node { member = record node.member { outside = true } }

abbrev pub outside_world : World
outside_world = record one_cell_end { nodes = with_at one_cell_end.nodes 0 (leaves (one_cell_end.nodes 0)) }

abbrev pub crashed_world : World
crashed_world = record one_cell_end { lives = with_at one_cell_end.lives 0 false }

abbrev pub asked_in : World → List Asked
asked_in w = (round one_cell (all_pass 2) w 0 opening_rounding).asked

-- ---- cuts: one round with member 0 at the end. A Seek has 9 bytes, and the first entry 28: cut to so many they are whole, to fewer lost

abbrev pub with_cuts : List Fate → Rounding
with_cuts fates = round one_cell fates one_cell_end 0 opening_rounding

abbrev pub asked_with_cuts : ℕ → List Asked
asked_with_cuts kept = status 1 0 (fate.Cut 9) ∷ entry 2 0 28 (fate.Cut kept) ∷ []

-- `passing`, it applied 3 entries of 3, by 3 entries, each of which it asked for, and no state; `dropping`, 0 of 3, where all that it
-- sent was lost: a packet for each of the 6 rounds beside the run and of the 70 behind it, the last one to member 0, which is the lowest
-- of those that applied most. A member that is outside or crashed answers nothing, and isn't ahead; where nobody is, the number of entries
-- is that of the agreed list. `faulty` and `held`, it applied all 3 as well,
-- and the wire was asked just this; `state`, it took one state, and the second was stale; `whole`, both packets are cut and whole;
-- `entry`, the entry is lost, which the wire was asked about; `seek`, the Seek is lost, and nothing is answered
pub record FollowsOneCell : Type 0 where
  pub stands : standing one_cell one_cell_end ≡ Finished
  pub passing : Rounds one_cell 8 (all_pass 9) one_cell_steps one_cell_end (follower (all_pass 9))
  pub applied : (follower (all_pass 9)).copies.applied ≡ 3
  pub of : last_number one_cell one_cell_end (ahead one_cell one_cell_end 3) ≡ 3
  pub states : (follower (all_pass 9)).states ≡ 0
  pub dropping : Rounds one_cell 8 (all_drop 76) one_cell_steps one_cell_end (follower (all_drop 76))
  pub none : (follower (all_drop 76)).copies.applied ≡ 0
  pub last : slice_get (follower (all_drop 76)).asked 75 ≡ Some (status 76 0 fate.Drop)
  pub nobody : last_number one_cell one_cell_end None ≡ 3
  pub outside : asked_in outside_world ≡ status 1 0 fate.Pass ∷ []
  pub outside_ahead : ahead one_cell outside_world 3 ≡ Some 1
  pub crashed : asked_in crashed_world ≡ status 1 0 fate.Pass ∷ []
  pub crashed_ahead : ahead one_cell crashed_world 3 ≡ Some 1
  pub faulty : Rounds one_cell 8 faults one_cell_steps one_cell_end (follower faults)
  pub faulty_applied : (follower faults).copies.applied ≡ 3
  pub faulty_asked : (follower faults).asked ≡ asked_with_faults
  pub held : Rounds one_cell 8 late one_cell_steps one_cell_end (follower late)
  pub held_applied : (follower late).copies.applied ≡ 3
  pub held_asked : (follower late).asked ≡ asked_late
  pub within :
      RoundsUpTo one_cell 8 (all_pass 1) (steps_of (take 8 scenes))
      (world_after one_cell (opening_world one_cell) (take 8 scenes)) seek_comes
  pub state_applied : with_state.copies.applied ≡ 3
  pub state_states : with_state.states ≡ 1
  pub state_asked : with_state.asked ≡ status 1 0 fate.Pass ∷ packet_asked 2 kind.Result 0 3 52 fate.Twice ∷ []
  pub whole_applied : (with_cuts (fate.Cut 9 ∷ fate.Cut 28 ∷ [])).copies.applied ≡ 1
  pub whole_asked : (with_cuts (fate.Cut 9 ∷ fate.Cut 28 ∷ [])).asked ≡ asked_with_cuts 28
  pub entry_applied : (with_cuts (fate.Cut 9 ∷ fate.Cut 27 ∷ [])).copies.applied ≡ 0
  pub entry_asked : (with_cuts (fate.Cut 9 ∷ fate.Cut 27 ∷ [])).asked ≡ asked_with_cuts 27
  pub seek_asked : (with_cuts (fate.Cut 8 ∷ [])).asked ≡ status 1 0 (fate.Cut 8) ∷ []
