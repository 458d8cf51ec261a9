-- A run with a single object, computed: two members; process 0 makes the cell, which is single, forks process 1 on member 1, and takes the
-- integer out, for which it waits; process 1 assigns 6, by an Ask and an Answer.
use Rattle.std.specs.Prelude.{List, [], ◌∷◌, ◌++◌}
use Rattle.value_core.specs.declared.action.Action.TheVariants as action
use Rattle.value_core.specs.declared.action.Reply.TheVariants as answer
use Rattle.world_rules.specs.declared.event.Step.{Step}
use Rattle.world_rules.specs.Programs.{assign, gives}
use Rattle.world_rules.specs.Scenes.{Scene, act, burst, deliver, one, steps_of, world_after}
use Rattle.world_rules.specs.SingleCopies.{first_at, second_at, single_cell, until_begun}
use Rattle.world_rules.specs.Worlds.{World, opening_world}

abbrev pub owner_scenes : List Scene
owner_scenes =
    until_begun
    ++ (burst 1 2 [] (second_at [] 2 (assign 6)) ∷ act 1 one ∷ deliver 3 one ∷ deliver 4 []
    ∷ burst 1 2 [] (second_at (answer.Done ∷ []) 2 action.Ended)
    ∷ burst 0 2 [] (first_at (answer.Done ∷ answer.Done ∷ gives 6 ∷ []) 2 action.Ended) ∷ [])

-- two Entries, an Ask and an Answer come; there are four acts and six bursts
abbrev pub owner_steps : List Step
owner_steps = steps_of owner_scenes

abbrev pub owner_end : World
owner_end = world_after single_cell (opening_world single_cell) owner_scenes
