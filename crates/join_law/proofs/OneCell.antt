-- The run of one cell on three members, step by step, and its follower.
use Rattle.std.proofs.Common.{◌++◌, take, drop, inl, inr, ℕ, List, [], ◌∷◌, ◌≡◌, suc, refl, arith}
use Rattle.value_core.specs.declared.action.Action.TheVariants as action
use Rattle.value_core.specs.declared.action.Reply.TheVariants as answer
use Rattle.packet_bytes.specs.Spelling as bytes
use Rattle.group_join.specs.Spelling as join
use Rattle.net_rules.specs.declared.fate.Fate.TheVariants as fate
use Rattle.net_rules.specs.Asked.{packet_asked}
use Rattle.group_packets.specs.declared.packet.PacketKind.TheVariants as kind
use Rattle.net_rules.specs.declared.fate.Fate.{Fate}
use Rattle.world_rules.proofs.Scenes.{checks_in, checks_in_read, first}
use Rattle.world_rules.specs.Frame.{Frame}
use Rattle.world_rules.specs.OneCell.{computing}
use Rattle.world_rules.specs.Programs.{assign, gives, make, value, write}
use Rattle.world_rules.specs.Scenes.{Scene, Unfolds, steps_of, world_after}
use Rattle.world_rules.specs.Steps.{after_step}
use Rattle.world_rules.specs.Worlds.{World, opening_world}
use Rattle.world_rules.specs.Scenes.{deliver}
use Rattle.join_law.specs.Moments.{RoundsUpTo}
use Rattle.join_law.specs.OneCell.{seek_comes, FollowsOneCell, beside, all_drop, all_pass, asked_late, asked_with_cuts, asked_with_faults, follower, status, with_cuts, with_state, faults, late, one_cell, scenes}
use Rattle.join_law.specs.Rounds.{Alongside, Rounding, opening_rounding, turns}

unfolds : Unfolds one_cell (opening_world one_cell) scenes
unfolds = (
  refl,
  (checks_in one_cell _ first 0 (computing [] 0) make
      refl refl refl (omega arith) (omega arith) refl (omega arith) refl refl),
  refl,
  (
    refl,
    refl,
    refl,
    (
      refl,
      refl,
      refl,
      (
        refl,
        refl,
        refl,
        (
          refl,
          (checks_in one_cell _ first 1 (computing (answer.Done ∷ []) 1) (assign 6)
              refl refl refl (omega arith) (omega arith) refl (omega arith) refl refl),
          refl,
          (
            refl,
            refl,
            refl,
            (
              refl,
              refl,
              refl,
              (
                refl,
                refl,
                refl,
                (
                  refl,
                  (checks_in_read one_cell _ first 2 (computing (answer.Done ∷ answer.Done ∷ []) 2) value (write 54)
                      refl refl refl (omega arith) (omega arith) refl (omega arith) refl refl refl refl),
                  refl,
                  (
                    refl,
                    refl,
                    refl,
                    (
                      refl,
                      refl,
                      refl,
                      (
                        refl,
                        refl,
                        refl,
                        (
                          refl,
                          (checks_in one_cell _ first 3 (computing (answer.Done ∷ answer.Done ∷ gives 6 ∷ answer.Done ∷ []) 3) action.Ended
                              refl refl refl (omega arith) (omega arith) refl (omega arith) refl refl),
                          refl,
                          tt,
                        ),
                      ),
                    ),
                  ),
                ),
              ),
            ),
          ),
        ),
      ),
    ),
  ),
)

along : (f : Frame) (fates : List Fate) (start n : ℕ) (w : World) (scenes : List Scene) (u : Rounding) → Unfolds f w scenes →
    Alongside f fates start n w (steps_of scenes) u (world_after f w scenes) (beside f fates start n w scenes u)
along f fates start n w [] u h = (refl, refl)
along f fates start n w (scene ∷ scenes) u h = (
  after_step f w scene.step scene.given,
  record { given = scene.given; going = h.0; possible = h.1; fates = h.2; after = refl },
  along f fates start (suc n) (after_step f w scene.step scene.given) scenes (turns f fates start (after_step f w scene.step scene.given) n u) h.3,
)

-- the first scenes, and the others behind them
firsts : (f : Frame) (w : World) (xs ys : List Scene) → Unfolds f w (xs ++ ys) → Unfolds f w xs
firsts f w [] ys h = tt
firsts f w (x ∷ xs) ys h = (h.0, h.1, h.2, firsts f (after_step f w x.step x.given) xs ys h.3)

others : (f : Frame) (w : World) (xs ys : List Scene) → Unfolds f w (xs ++ ys) → Unfolds f (world_after f w xs) ys
others f w [] ys h = h
others f w (x ∷ xs) ys h = others f (after_step f w x.step x.given) xs ys h.3

seek_is : RoundsUpTo one_cell 8 (all_pass 1) (steps_of (take 8 scenes)) (world_after one_cell (opening_world one_cell) (take 8 scenes)) seek_comes
seek_is =
    let before = world_after one_cell (opening_world one_cell) (take 7 scenes) in
    let rest = others one_cell (opening_world one_cell) (take 7 scenes) (drop 7 scenes) unfolds in
    record {
      fates_are = refl;
      moment = inr (inl (
        0,
        opening_rounding,
        record {
          earlier = steps_of (take 7 scenes);
          last = (deliver 4 []).step;
          steps_are = refl;
          before = before;
          along = along one_cell (all_pass 1) 8 1 (opening_world one_cell) (take 7 scenes) opening_rounding (firsts one_cell (opening_world one_cell) (take 7 scenes) (drop 7 scenes) unfolds);
          happens = record { given = tt; going = rest.0; possible = rest.1; fates = rest.2; after = refl };
          late = omega arith;
          member = refl;
        },
        (0, inr refl),
      ));
    }

-- what the wire was asked, with the packets' lengths
faulty_is : (follower faults).asked ≡ asked_with_faults
unfolding bytes.eight bytes.two bytes.message_spelling bytes.object_spelling bytes.arguments_spelling bytes.four
faulty_is = refl

late_is : (follower late).asked ≡ asked_late
unfolding bytes.eight bytes.two bytes.message_spelling bytes.object_spelling bytes.arguments_spelling bytes.four
late_is = refl

state_is : with_state.asked ≡ status 1 0 fate.Pass ∷ packet_asked 2 kind.Result 0 3 52 fate.Twice ∷ []
unfolding bytes.eight join.state_spelling bytes.two join.objects_spelling bytes.four join.one_spelling bytes.object_spelling join.values_spelling bytes.messages_spelling
state_is = refl

-- cut to as many bytes as they have, or to fewer
whole_comes : (with_cuts (fate.Cut 9 ∷ fate.Cut 28 ∷ [])).copies.applied ≡ 1
unfolding bytes.eight bytes.two bytes.message_spelling bytes.object_spelling bytes.four
whole_comes = refl

whole_is : (with_cuts (fate.Cut 9 ∷ fate.Cut 28 ∷ [])).asked ≡ asked_with_cuts 28
unfolding bytes.eight bytes.two bytes.message_spelling bytes.object_spelling bytes.four
whole_is = refl

entry_lost : (with_cuts (fate.Cut 9 ∷ fate.Cut 27 ∷ [])).copies.applied ≡ 0
unfolding bytes.eight bytes.two bytes.message_spelling bytes.object_spelling bytes.four
entry_lost = refl

entry_is : (with_cuts (fate.Cut 9 ∷ fate.Cut 27 ∷ [])).asked ≡ asked_with_cuts 27
unfolding bytes.eight bytes.two bytes.message_spelling bytes.object_spelling bytes.four
entry_is = refl

seek_is_lost : (with_cuts (fate.Cut 8 ∷ [])).asked ≡ status 1 0 (fate.Cut 8) ∷ []
unfolding bytes.eight
seek_is_lost = refl

pub follows_one_cell : FollowsOneCell
unfolding bytes.eight
follows_one_cell = record {
  stands = refl;
  passing = record { before = beside one_cell (all_pass 9) 8 1 (opening_world one_cell) scenes opening_rounding; along = along one_cell (all_pass 9) 8 1 (opening_world one_cell) scenes opening_rounding unfolds; end = refl; fates_are = refl };
  applied = refl;
  of = refl;
  states = refl;
  dropping = record {
    before = beside one_cell (all_drop 76) 8 1 (opening_world one_cell) scenes opening_rounding;
    along = along one_cell (all_drop 76) 8 1 (opening_world one_cell) scenes opening_rounding unfolds;
    end = refl;
    fates_are = refl;
  };
  none = refl;
  last = refl;
  nobody = refl;
  outside = refl;
  outside_ahead = refl;
  crashed = refl;
  crashed_ahead = refl;
  faulty = record {
    before = beside one_cell faults 8 1 (opening_world one_cell) scenes opening_rounding;
    along = along one_cell faults 8 1 (opening_world one_cell) scenes opening_rounding unfolds;
    end = refl;
    fates_are = refl;
  };
  faulty_applied = refl;
  faulty_asked = faulty_is;
  held = record {
    before = beside one_cell late 8 1 (opening_world one_cell) scenes opening_rounding;
    along = along one_cell late 8 1 (opening_world one_cell) scenes opening_rounding unfolds;
    end = refl;
    fates_are = refl;
  };
  held_applied = refl;
  held_asked = late_is;
  within = seek_is;
  state_applied = refl;
  state_states = refl;
  state_asked = state_is;
  whole_applied = whole_comes;
  whole_asked = whole_is;
  entry_applied = entry_lost;
  entry_asked = entry_is;
  seek_asked = seek_is_lost;
}
