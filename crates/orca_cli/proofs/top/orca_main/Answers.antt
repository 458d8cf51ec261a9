use Rattle.orca_cli.proofs.top.orca_main.Goals as goal

pub returns-clause-obeyed : goal.returns-clause-obeyed
returns-clause-obeyed g c = rw c.deref.ensures.value at c.obeyed.ensures
