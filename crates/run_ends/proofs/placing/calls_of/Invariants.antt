use Rattle.std.proofs.Common.{◌≡◌, ◌||◌, drop}
use Rattle.std.specs.List.{list_any}
use Rattle.value_core.specs.declared.action.Line.{Line}
use Rattle.world_places.specs.Told.{has_number}
use Rattle.run_ends.specs.Telling.{has}
use Rattle.run_ends.proofs.placing.calls_of.Given as goal

abbrev pub invariant-entries : goal.invariant-entries
invariant-entries l = (line : Line) →
    (has l.calls line || list_any (λ x. has_number x line) (drop l.entry-index l.entries)) ≡ list_any (λ x. has_number x line) l.entries
