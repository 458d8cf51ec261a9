use Rattle.value_paths.proofs.Elsewhere.{path_apart, path_faults, step_apart}
use Rattle.value_paths.proofs.Exchanges.{path_again, path_same, path_stands, path_walks}
use Rattle.value_paths.proofs.Measured.{path_size}
use Rattle.value_paths.proofs.laws.paths_law.Goals as goal

pub returns-clause-walks : goal.returns-clause-walks
returns-clause-walks c = path_walks c.graphs_law.ensures.assigned

pub returns-clause-stands : goal.returns-clause-stands
returns-clause-stands c = path_stands

pub returns-clause-again : goal.returns-clause-again
returns-clause-again c = path_again

pub returns-clause-same : goal.returns-clause-same
returns-clause-same c = path_same

pub returns-clause-apart : goal.returns-clause-apart
returns-clause-apart c = step_apart

pub returns-clause-elsewhere : goal.returns-clause-elsewhere
returns-clause-elsewhere c = path_apart

pub returns-clause-faults : goal.returns-clause-faults
returns-clause-faults c = path_faults

pub returns-clause-sizes : goal.returns-clause-sizes
returns-clause-sizes c = path_size c.graphs_law.ensures.size_assigned
