-- The run with a single object, step by step: each step is faultless.
use Rattle.std.proofs.Common.{refl, arith, [], ◌∷◌}
use Rattle.value_core.specs.Datum as datum
use Rattle.value_core.specs.declared.action.Action.TheVariants as action
use Rattle.value_core.specs.declared.action.Reply.TheVariants as answer
use Rattle.world_rules.proofs.Scenes.{checks_in, first, second}
use Rattle.world_rules.specs.LostEntry.{handed}
use Rattle.world_rules.specs.Played.Stage.{Computing}
use Rattle.world_rules.specs.Programs.{assign, fork_on, gives, make, runner, take_out}
use Rattle.world_rules.specs.Scenes.{Unfolds}
use Rattle.world_rules.specs.SingleCopies.{single_cell}
use Rattle.world_rules.specs.Worlds.{opening_world}
use Rattle.world_enough.specs.Faultless.{LeadsFaultless}
use Rattle.world_enough.specs.OneOwner.{owner_end, owner_scenes, owner_steps}
use Rattle.world_enough.proofs.OneCell.{AllFaultless, leads}

unfolds : Unfolds single_cell (opening_world single_cell) owner_scenes
unfolds = (refl, checks_in single_cell _ first 0 (runner 0 datum.none [] 0 Computing) make refl refl refl (omega arith) (omega arith) refl (omega arith) refl refl, refl, (refl, refl, refl, (refl, checks_in single_cell _ first 1 (runner 0 datum.none (answer.Done ∷ []) 1 Computing) (fork_on 1) refl refl refl (omega arith) (omega arith) refl (omega arith) refl refl, refl, (refl, refl, refl, (refl, checks_in single_cell _ first 2 (runner 0 datum.none (answer.Done ∷ answer.Done ∷ []) 2 Computing) take_out refl refl refl (omega arith) (omega arith) refl (omega arith) refl refl, refl, (refl, refl, refl, (refl, refl, refl, (refl, refl, refl, (refl, checks_in single_cell _ second 2 (runner 1 handed [] 2 Computing) (assign 6) refl refl refl (omega arith) (omega arith) refl (omega arith) refl refl, refl, (refl, refl, refl, (refl, refl, refl, (refl, refl, refl, (refl, checks_in single_cell _ second 2 (runner 1 handed (answer.Done ∷ []) 2 Computing) action.Ended refl refl refl (omega arith) (omega arith) refl (omega arith) refl refl, refl, (refl, checks_in single_cell _ first 2 (runner 0 datum.none (answer.Done ∷ answer.Done ∷ gives 6 ∷ []) 2 Computing) action.Ended refl refl refl (omega arith) (omega arith) refl (omega arith) refl refl, refl, tt))))))))))))))

faultless : AllFaultless single_cell (opening_world single_cell) owner_scenes
faultless = (record { fates = tt; plain = tt; first = tt }, (record { fates = (refl, tt); plain = tt; first = tt }, (record { fates = tt; plain = tt; first = tt }, (record { fates = (refl, tt); plain = tt; first = tt }, (record { fates = tt; plain = tt; first = tt }, (record { fates = tt; plain = tt; first = tt }, (record { fates = tt; plain = tt; first = refl }, (record { fates = tt; plain = tt; first = refl }, (record { fates = tt; plain = tt; first = tt }, (record { fates = (refl, tt); plain = tt; first = tt }, (record { fates = (refl, tt); plain = tt; first = refl }, (record { fates = tt; plain = tt; first = refl }, (record { fates = tt; plain = tt; first = tt }, (record { fates = tt; plain = tt; first = tt }, tt))))))))))))))

pub goes : LeadsFaultless single_cell (opening_world single_cell) owner_steps owner_end
goes = leads single_cell (opening_world single_cell) owner_scenes unfolds faultless
