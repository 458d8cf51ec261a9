use Rattle.std.proofs.Common.{subst, sym}
use Rattle.program_bodies.specs.Codes.{sources}
use Rattle.emitted_code.specs.Views.{program_seen}
use Rattle.code_rules.specs.Correct.{Means}
use Rattle.code_runs.specs.Runs.{HasRoomThroughout}
use Rattle.machine_laws.specs.MachineLaws.{numbers_of}
use Rattle.code_machine.proofs.Meant.{goes_on, has_room}
use Rattle.code_machine.proofs.processing.CodeMachineProcessor.go.Goals as goal

pub returns-clause-goes : goal.returns-clause-goes
returns-clause-goes c =
    let m = c.args.self.now in
    let us = sources m.tables.checked in
    let code = program_seen m.code in
    let means = subst (Means us) (sym m.compiled) (c.code_law.ensures.means us) in
    let room = subst HasRoomThroughout (sym m.compiled) (has_room us (c.numbers_law.ensures.objects us (numbers_of m.tables.checked m.within))) in
    goes_on us code (c.code_law.ensures.resumes us code means) c.args.state c.args.budget c.go.result c.requires.some c.requires.room
    (c.go.ensures.came room c.requires.some)
