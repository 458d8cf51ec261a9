-- The run of one cell, step by step.
use Rattle.std.proofs.Common.{ℕ, refl, arith, [], ◌∷◌}
use Rattle.value_core.specs.Datum as datum
use Rattle.value_core.specs.declared.action.Instance.{Instance}
use Rattle.value_core.specs.declared.action.Action.TheVariants as action
use Rattle.value_core.specs.declared.action.Reply.TheVariants as answer
use Rattle.value_core.specs.History.{output_kind}
use Rattle.world_rules.proofs.Scenes.{checks_in, checks_in_read, first, leads}
use Rattle.world_rules.specs.OneCell.{OneCell, computing, one_cell, scenes}
use Rattle.world_rules.specs.Programs.{assign, cell_kind, gives, holding, make, value, write}
use Rattle.world_rules.specs.Scenes.{Unfolds}
use Rattle.world_rules.specs.Worlds.{opening_world}

unfolds : Unfolds one_cell (opening_world one_cell) scenes
unfolds = (
  refl,
  (checks_in one_cell _ first 0 (computing [] 0) make
      refl refl refl (omega arith) (omega arith) refl (omega arith) refl refl),
  refl,
  (
    refl,
    refl,
    refl,
    (
      refl,
      refl,
      refl,
      (
        refl,
        refl,
        refl,
        (
          refl,
          refl,
          refl,
          (
            refl,
            refl,
            refl,
            (
              refl,
              refl,
              refl,
              (
                refl,
                (checks_in one_cell _ first 1 (computing (answer.Done ∷ []) 1) (assign 6)
                    refl refl refl (omega arith) (omega arith) refl (omega arith) refl refl),
                refl,
                (
                  refl,
                  refl,
                  refl,
                  (
                    refl,
                    refl,
                    refl,
                    (
                      refl,
                      refl,
                      refl,
                      (
                        refl,
                        refl,
                        refl,
                        (
                          refl,
                          refl,
                          refl,
                          (
                            refl,
                            refl,
                            refl,
                            (
                              refl,
                              (checks_in_read one_cell _ first 2 (computing (answer.Done ∷ answer.Done ∷ []) 2) value (write 54)
                                  refl refl refl (omega arith) (omega arith) refl (omega arith) refl refl refl refl),
                              refl,
                              (
                                refl,
                                refl,
                                refl,
                                (
                                  refl,
                                  refl,
                                  refl,
                                  (
                                    refl,
                                    refl,
                                    refl,
                                    (
                                      refl,
                                      refl,
                                      refl,
                                      (
                                        refl,
                                        refl,
                                        refl,
                                        (
                                          refl,
                                          refl,
                                          refl,
                                          (
                                            refl,
                                            (checks_in one_cell _ first 3 (computing (answer.Done ∷ answer.Done ∷ gives 6 ∷ answer.Done ∷ []) 3) action.Ended
                                                refl refl refl (omega arith) (omega arith) refl (omega arith) refl refl),
                                            refl,
                                            tt,
                                          ),
                                        ),
                                      ),
                                    ),
                                  ),
                                ),
                              ),
                            ),
                          ),
                        ),
                      ),
                    ),
                  ),
                ),
              ),
            ),
          ),
        ),
      ),
    ),
  ),
)

abbrev pub cell_with : ℕ → Instance
cell_with n = record { kind = cell_kind; state = holding n }

abbrev pub output : Instance
output = record { kind = output_kind; state = datum.none }

pub one_cell_run : OneCell
one_cell_run = record {
  replays = leads _ _ scenes unfolds;
  stands = refl;
  first_wire = refl;
  second_wire = refl;
  book = refl;
  places = refl;
  legal = (
    record {
      process = record { text = record { 0 = 0 }; args = datum.none; replies = [] };
      exists = refl;
      call = refl;
      next = refl;
      performed = (refl, refl);
    },
    (
      record {
        process = record { text = record { 0 = 0 }; args = datum.none; replies = answer.Done ∷ [] };
        exists = refl;
        call = refl;
        next = refl;
        performed = (cell_with 0, refl, (refl, refl));
      },
      (
        record {
          process = record { text = record { 0 = 0 }; args = datum.none; replies = answer.Done ∷ answer.Done ∷ [] };
          exists = refl;
          call = refl;
          next = refl;
          performed = (cell_with 6, refl, (refl, refl));
        },
        (
          record {
            process = record { text = record { 0 = 0 }; args = datum.none; replies = answer.Done ∷ answer.Done ∷ gives 6 ∷ [] };
            exists = refl;
            call = refl;
            next = refl;
            performed = (output, refl, (refl, refl));
          },
          tt,
        ),
      ),
    ),
  );
  sequencer = refl;
  acknowledger = refl;
  other = refl;
  none = refl;
}
