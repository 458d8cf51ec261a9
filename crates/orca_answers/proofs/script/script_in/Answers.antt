use Rattle.std.proofs.Common.{arith}
use Rattle.command_files.specs.Stopped.{StoppedAt}
use Rattle.command_files.proofs.ReadFiles.{read_is}
use Rattle.orca_answers.proofs.AnswerLemmas.{script_since, wrong_since}
use Rattle.orca_answers.proofs.script.script_in.Goals as goal

pub returns-in-Ok-clause-had : goal.returns-in-Ok-clause-had
returns-in-Ok-clause-had g c =
    let read = c.in-Ok.ensures {u = tt} in
    script_since c.script_said.result (g.F.Shelf.told c.args.shelf.now) c.args.file.now c.in-Ok.text.items _ _
    (read_is (g.F.Shelf.told c.args.shelf.now) _ c.args.file.now c.in-Ok.text.items read.reads (omega (arith, read.within))) read.had
    (rw c.deref.ensures.value at c.script_said.ensures.script)

pub returns-in-Ok-clause-refused : goal.returns-in-Ok-clause-refused
returns-in-Ok-clause-refused g c =
    let read = c.in-Ok.ensures {u = tt} in
    let old = g.F.Shelf.reads c.args.shelf.now in
    let new = g.F.Shelf.reads c.read_file.new.shelf in
    wrong_since c.script_said.result (g.F.Shelf.told c.args.shelf.now) (StoppedAt (g.F.Shelf.faults c.args.shelf.now) (g.F.Shelf.faults c.read_file.new.shelf) old new) c.args.file.now c.in-Ok.text.items old new
    (read_is (g.F.Shelf.told c.args.shelf.now) _ c.args.file.now c.in-Ok.text.items read.reads (omega (arith, read.within))) read.had
    (rw c.deref.ensures.value at c.script_said.ensures.refused)
