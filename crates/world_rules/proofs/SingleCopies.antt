-- Calls on single objects, computed.
use Rattle.std.proofs.Common.{refl, arith, [], ◌∷◌}
use Rattle.value_core.specs.Datum as datum
use Rattle.value_core.specs.declared.action.Action.TheVariants as action
use Rattle.value_core.specs.declared.action.Reply.TheVariants as answer
use Rattle.world_rules.proofs.OneCell.{cell_with}
use Rattle.world_rules.proofs.Scenes.{checks_in, first, leads, second}
use Rattle.world_rules.specs.LostEntry.{handed}
use Rattle.world_rules.specs.Played.Stage.{Computing}
use Rattle.world_rules.specs.Programs.{assign, fork_on, gives, make, runner, take_out}
use Rattle.world_rules.specs.Scenes.{Unfolds}
use Rattle.world_rules.specs.SingleCopies.{AnswerWaits, AskWaits, RepeatedAsk, SingleCell, scenes, single_cell}
use Rattle.world_rules.specs.Worlds.{opening_world}

unfolds : Unfolds single_cell (opening_world single_cell) scenes
unfolds = (
  refl,
  checks_in single_cell _ first 0 (runner 0 datum.none [] 0 Computing) make
      refl refl refl (omega arith) (omega arith) refl (omega arith) refl refl,
  refl,
  (
    refl,
    refl,
    refl,
    (
      refl,
      checks_in single_cell _ first 1 (runner 0 datum.none (answer.Done ∷ []) 1 Computing) (fork_on 1)
          refl refl refl (omega arith) (omega arith) refl (omega arith) refl refl,
      refl,
      (
        refl,
        refl,
        refl,
        (
          refl,
          checks_in single_cell _ first 2 (runner 0 datum.none (answer.Done ∷ answer.Done ∷ []) 2 Computing) take_out
              refl refl refl (omega arith) (omega arith) refl (omega arith) refl refl,
          refl,
          (
            refl,
            refl,
            refl,
            (
              refl,
              refl,
              refl,
              (
                refl,
                refl,
                refl,
                (
                  refl,
                  checks_in single_cell _ second 2 (runner 1 handed [] 2 Computing) (assign 6)
                      refl refl refl (omega arith) (omega arith) refl (omega arith) refl refl,
                  refl,
                  (
                    refl,
                    refl,
                    refl,
                    (
                      refl,
                      refl,
                      refl,
                      (
                        refl,
                        refl,
                        refl,
                        (
                          refl,
                          refl,
                          refl,
                          (
                            refl,
                            refl,
                            refl,
                            (
                              refl,
                              checks_in single_cell _ second 2 (runner 1 handed (answer.Done ∷ []) 2 Computing) action.Ended
                                  refl refl refl (omega arith) (omega arith) refl (omega arith) refl refl,
                              refl,
                              (
                                refl,
                                checks_in single_cell _ first 2 (runner 0 datum.none (answer.Done ∷ answer.Done ∷ gives 6 ∷ []) 2 Computing) action.Ended
                                    refl refl refl (omega arith) (omega arith) refl (omega arith) refl refl,
                                refl,
                                tt,
                              ),
                            ),
                          ),
                        ),
                      ),
                    ),
                  ),
                ),
              ),
            ),
          ),
        ),
      ),
    ),
  ),
)

pub single_run : SingleCell
single_run = record {
  replays = leads _ _ scenes unfolds;
  stands = refl;
  asked = refl;
  book = refl;
  places = refl;
  legal = (
    record {
      process = record { text = record { 0 = 0 }; args = datum.none; replies = [] };
      exists = refl;
      call = refl;
      next = refl;
      performed = (refl, refl);
    },
    (
      record {
        process = record { text = record { 0 = 0 }; args = datum.none; replies = (answer.Done ∷ []) };
        exists = refl;
        call = refl;
        next = refl;
        performed = (refl, refl);
      },
      (
        record {
          process = record { text = record { 0 = 1 }; args = handed; replies = [] };
          exists = refl;
          call = refl;
          next = refl;
          performed = (cell_with 0, refl, (refl, refl));
        },
        (
          record {
            process = record { text = record { 0 = 0 }; args = datum.none; replies = (answer.Done ∷ answer.Done ∷ []) };
            exists = refl;
            call = refl;
            next = refl;
            performed = (cell_with 6, refl, (refl, refl));
          },
          tt,
        ),
      ),
    ),
  );
  owner = refl;
  other = refl;
  counted = refl;
  waited = refl;
}

pub ask_waits : AskWaits
ask_waits = record {
  silent = refl;
  waits = refl;
  repeat = refl;
  taken = refl;
  posts = refl;
  replied = refl;
  outside = refl;
}

pub repeated_ask : RepeatedAsk
repeated_ask = record {
  first = refl;
  again = refl;
  silent = refl;
  kept = refl;
  later = refl;
  earlier = refl;
}

pub answer_waits : AnswerWaits
answer_waits = record {
  asks = refl;
  replied = refl;
  waits = refl;
  same = refl;
  then_replied = refl;
  other = refl;
  again = refl;
}
