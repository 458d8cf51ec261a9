use Rattle.command_files.proofs.AskedFiles.{asked_none}
use Rattle.orca_answers.proofs.AnswerLemmas.{script_none}
use Rattle.orca_answers.proofs.script.script_of.Goals as goal

pub returns-in-None-clause-had : goal.returns-in-None-clause-had
returns-in-None-clause-had g c = rw c.in-None.is (script_none (g.F.Shelf.told c.args.shelf.now) (g.F.Shelf.reads c.args.shelf.now) _ c.empty.ensures)

pub returns-in-None-clause-asked : goal.returns-in-None-clause-asked
returns-in-None-clause-asked g c = asked_none _ _ _
