use Rattle.std.proofs.Common.{◌≡◌, subst, sym}
use Rattle.std.proofs.lemmas.Result.{IfOk-weaker}
use Rattle.value_core.specs.declared.meaning.Making.{Making}
use Rattle.meaning_rules.specs.Operations.{making_of}
use Rattle.program_bodies.specs.Codes.{sources}
use Rattle.emitted_code.specs.Views.{program_seen}
use Rattle.code_rules.specs.Correct.{Means}
use Rattle.code_rules.specs.Performing.{makes}
use Rattle.code_runs.specs.Runs.{Gives, HasRoomThroughout}
use Rattle.machine_laws.specs.MachineLaws.{numbers_of}
use Rattle.code_machine.proofs.Meant.{given_is, has_room}
use Rattle.code_machine.proofs.performing.CodeMachinePerformer.make.Goals as goal

pub returns : goal.returns
returns c =
    let m = c.args.self.now in
    let us = sources m.tables.checked in
    let code = program_seen m.code in
    let run = makes code c.args.kind in
    let means = subst (Means us) (sym m.compiled) (c.code_law.ensures.means us) in
    let room = subst HasRoomThroughout (sym m.compiled) (has_room us (c.numbers_law.ensures.objects us (numbers_of m.tables.checked m.within))) in
    IfOk-weaker c.make_object.result (λ (x : Making). Gives run x) (λ (x : Making). x ≡ making_of us c.args.kind)
    (given_is run (making_of us c.args.kind) (means.makings c.args.kind)) (c.make_object.ensures room)
