use Rattle.std.proofs.Common.{◌≡◌, map, take}
use Rattle.world_parts.specs.Standing.{IsWorld}
use Rattle.world_places.specs.Told.{note_told}
use Rattle.world_rules.specs.Worlds.{World}
use Rattle.run_ends.proofs.placing.notes_of.Given as goal

abbrev pub invariant-performed : goal.invariant-performed
invariant-performed g l =
    (w : World) → IsWorld g.P.OneRun.stood g.P.OneRun.left g.P.OneRun.run.frame l.parts w → l.notes.items ≡ map (note_told g.P.OneRun.run.frame w) (take l.placed-index l.performed)
