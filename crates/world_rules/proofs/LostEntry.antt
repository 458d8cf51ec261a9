-- The run with a lost entry, step by step.
use Rattle.std.proofs.Common.{refl, arith, [], ◌∷◌}
use Rattle.value_core.specs.Datum as datum
use Rattle.value_core.specs.declared.action.Action.TheVariants as action
use Rattle.value_core.specs.declared.action.Reply.TheVariants as answer
use Rattle.world_rules.proofs.OneCell.{cell_with, output}
use Rattle.world_rules.proofs.Scenes.{checks_in, checks_in_read, first, leads, second}
use Rattle.world_rules.specs.LostEntry.{LostEntry, handed, lost_entry, scenes}
use Rattle.world_rules.specs.Played.Stage.{Computing}
use Rattle.world_rules.specs.Programs.{assign, fork_on, gives, make, runner, value, write}
use Rattle.world_rules.specs.Scenes.{Unfolds}
use Rattle.world_rules.specs.Worlds.{opening_world}

unfolds : Unfolds lost_entry (opening_world lost_entry) scenes
unfolds = (
  refl,
  checks_in lost_entry _ first 0 (runner 0 datum.none [] 0 Computing) make
      refl refl refl (omega arith) (omega arith) refl (omega arith) refl refl,
  refl,
  (
    refl,
    refl,
    refl,
    (
      refl,
      checks_in lost_entry _ first 1 (runner 0 datum.none (answer.Done ∷ []) 1 Computing) (fork_on 1)
          refl refl refl (omega arith) (omega arith) refl (omega arith) refl refl,
      refl,
      (
        refl,
        refl,
        refl,
        (
          refl,
          refl,
          refl,
          (
            refl,
            refl,
            refl,
            (
              refl,
              refl,
              refl,
              (
                refl,
                refl,
                refl,
                (
                  refl,
                  checks_in lost_entry _ first 2 (runner 0 datum.none (answer.Done ∷ answer.Done ∷ []) 2 Computing) (assign 6)
                      refl refl refl (omega arith) (omega arith) refl (omega arith) refl refl,
                  refl,
                  (
                    refl,
                    refl,
                    refl,
                    (
                      refl,
                      refl,
                      refl,
                      (
                        refl,
                        checks_in_read lost_entry _ second 2 (runner 1 handed [] 2 Computing) value (write 48)
                            refl refl refl (omega arith) (omega arith) refl (omega arith) refl refl refl refl,
                        refl,
                        (
                          refl,
                          refl,
                          refl,
                          (
                            refl,
                            refl,
                            refl,
                            (
                              refl,
                              refl,
                              refl,
                              (
                                refl,
                                checks_in_read lost_entry _ second 4 (runner 1 handed (gives 0 ∷ answer.Done ∷ []) 4 Computing) value action.Ended
                                    refl refl refl (omega arith) (omega arith) refl (omega arith) refl refl refl refl,
                                refl,
                                (
                                  refl,
                                  checks_in lost_entry _ first 3 (runner 0 datum.none (answer.Done ∷ answer.Done ∷ answer.Done ∷ []) 3 Computing) action.Ended
                                      refl refl refl (omega arith) (omega arith) refl (omega arith) refl refl,
                                  refl,
                                  tt,
                                ),
                              ),
                            ),
                          ),
                        ),
                      ),
                    ),
                  ),
                ),
              ),
            ),
          ),
        ),
      ),
    ),
  ),
)

pub lost_entry_run : LostEntry
lost_entry_run = record {
  replays = leads _ _ scenes unfolds;
  stands = refl;
  asked = refl;
  book = refl;
  places = refl;
  legal = (
    record {
      process = record { text = record { 0 = 0 }; args = datum.none; replies = [] };
      exists = refl;
      call = refl;
      next = refl;
      performed = (refl, refl);
    },
    (
      record {
        process = record { text = record { 0 = 0 }; args = datum.none; replies = (answer.Done ∷ []) };
        exists = refl;
        call = refl;
        next = refl;
        performed = (refl, refl);
      },
      (
        record {
          process = record { text = record { 0 = 1 }; args = handed; replies = [] };
          exists = refl;
          call = refl;
          next = refl;
          performed = (cell_with 0, refl, (refl, refl));
        },
        (
          record {
            process = record { text = record { 0 = 0 }; args = datum.none; replies = (answer.Done ∷ answer.Done ∷ []) };
            exists = refl;
            call = refl;
            next = refl;
            performed = (cell_with 0, refl, (refl, refl));
          },
          (
            record {
              process = record { text = record { 0 = 1 }; args = handed; replies = (gives 0 ∷ []) };
              exists = refl;
              call = refl;
              next = refl;
              performed = (output, refl, (refl, refl));
            },
            (
              record {
                process = record { text = record { 0 = 1 }; args = handed; replies = (gives 0 ∷ answer.Done ∷ []) };
                exists = refl;
                call = refl;
                next = refl;
                performed = (cell_with 6, refl, (refl, refl));
              },
              tt,
            ),
          ),
        ),
      ),
    ),
  );
  sequencer = refl;
  other = refl;
}
