-- The run of one cell, step by step: each step is faultless.
use Rattle.std.proofs.Common.{refl, arith, List, [], ◌∷◌}
use Rattle.value_core.specs.declared.action.Action.TheVariants as action
use Rattle.value_core.specs.declared.action.Reply.TheVariants as answer
use Rattle.world_rules.proofs.Scenes.{checks_in, checks_in_read, first}
use Rattle.world_rules.specs.Frame.{Frame}
use Rattle.world_rules.specs.OneCell.{computing, one_cell, one_cell_end, one_cell_steps, scenes}
use Rattle.world_rules.specs.Programs.{assign, gives, make, value, write}
use Rattle.world_rules.specs.Scenes.{Scene, Unfolds, steps_of, world_after}
use Rattle.world_rules.specs.Steps.{after_step}
use Rattle.world_rules.specs.Worlds.{World, opening_world}
use Rattle.world_enough.specs.Faultless.{IsFaultless, LeadsFaultless}

-- each step is faultless in the world before it
abbrev pub AllFaultless : Frame → World → List Scene → Type 0
AllFaultless f w [] = Unit {0}
AllFaultless f w (scene ∷ more) = IsFaultless w scene.step × AllFaultless f (after_step f w scene.step scene.given) more

pub leads : (f : Frame) (w : World) (all : List Scene) → Unfolds f w all → AllFaultless f w all → LeadsFaultless f w (steps_of all) (world_after f w all)
leads f w [] h k = refl
leads f w (scene ∷ more) h k =
    let u : World = after_step f w scene.step scene.given in
    (u, record { given = scene.given; going = h.0; possible = h.1; fates = h.2; after = refl }, k.0, leads f u more h.3 k.1)

unfolds : Unfolds one_cell (opening_world one_cell) scenes
unfolds = (
  refl,
  (checks_in one_cell _ first 0 (computing [] 0) make
      refl refl refl (omega arith) (omega arith) refl (omega arith) refl refl),
  refl,
  (
    refl,
    refl,
    refl,
    (
      refl,
      refl,
      refl,
      (
        refl,
        refl,
        refl,
        (
          refl,
          refl,
          refl,
          (
            refl,
            refl,
            refl,
            (
              refl,
              refl,
              refl,
              (
                refl,
                (checks_in one_cell _ first 1 (computing (answer.Done ∷ []) 1) (assign 6)
                    refl refl refl (omega arith) (omega arith) refl (omega arith) refl refl),
                refl,
                (
                  refl,
                  refl,
                  refl,
                  (
                    refl,
                    refl,
                    refl,
                    (
                      refl,
                      refl,
                      refl,
                      (
                        refl,
                        refl,
                        refl,
                        (
                          refl,
                          refl,
                          refl,
                          (
                            refl,
                            refl,
                            refl,
                            (
                              refl,
                              (checks_in_read one_cell _ first 2 (computing (answer.Done ∷ answer.Done ∷ []) 2) value (write 54)
                                  refl refl refl (omega arith) (omega arith) refl (omega arith) refl refl refl refl),
                              refl,
                              (
                                refl,
                                refl,
                                refl,
                                (
                                  refl,
                                  refl,
                                  refl,
                                  (
                                    refl,
                                    refl,
                                    refl,
                                    (
                                      refl,
                                      refl,
                                      refl,
                                      (
                                        refl,
                                        refl,
                                        refl,
                                        (
                                          refl,
                                          refl,
                                          refl,
                                          (
                                            refl,
                                            (checks_in one_cell _ first 3 (computing (answer.Done ∷ answer.Done ∷ gives 6 ∷ answer.Done ∷ []) 3) action.Ended
                                                refl refl refl (omega arith) (omega arith) refl (omega arith) refl refl),
                                            refl,
                                            tt,
                                          ),
                                        ),
                                      ),
                                    ),
                                  ),
                                ),
                              ),
                            ),
                          ),
                        ),
                      ),
                    ),
                  ),
                ),
              ),
            ),
          ),
        ),
      ),
    ),
  ),
)

faultless : AllFaultless one_cell (opening_world one_cell) scenes
faultless = (record { fates = tt; plain = tt; first = tt }, (record { fates = (refl, (refl, tt)); plain = tt; first = tt }, (record { fates = (refl, tt); plain = tt; first = refl }, (record { fates = tt; plain = tt; first = refl }, (record { fates = (refl, (refl, tt)); plain = tt; first = refl }, (record { fates = tt; plain = tt; first = refl }, (record { fates = tt; plain = tt; first = refl }, (record { fates = tt; plain = tt; first = tt }, (record { fates = (refl, (refl, tt)); plain = tt; first = tt }, (record { fates = (refl, tt); plain = tt; first = refl }, (record { fates = tt; plain = tt; first = refl }, (record { fates = (refl, (refl, tt)); plain = tt; first = refl }, (record { fates = tt; plain = tt; first = refl }, (record { fates = tt; plain = tt; first = refl }, (record { fates = tt; plain = tt; first = tt }, (record { fates = (refl, (refl, tt)); plain = tt; first = tt }, (record { fates = (refl, tt); plain = tt; first = refl }, (record { fates = tt; plain = tt; first = refl }, (record { fates = (refl, (refl, tt)); plain = tt; first = refl }, (record { fates = tt; plain = tt; first = refl }, (record { fates = tt; plain = tt; first = refl }, (record { fates = tt; plain = tt; first = tt }, tt))))))))))))))))))))))

pub runs_well : LeadsFaultless one_cell (opening_world one_cell) one_cell_steps one_cell_end
runs_well = leads one_cell (opening_world one_cell) scenes unfolds faultless
