use Rattle.std.proofs.Common.{◌≡◌, subst, sym}
use Rattle.std.proofs.lemmas.Result.{IfOk-weaker}
use Rattle.value_core.specs.declared.meaning.Tried.{Tried}
use Rattle.meaning_rules.specs.Operations.{tries_of}
use Rattle.program_bodies.specs.Codes.{sources}
use Rattle.emitted_code.specs.Views.{program_seen}
use Rattle.code_rules.specs.Correct.{Means}
use Rattle.code_rules.specs.Performing.{tries}
use Rattle.code_runs.specs.Runs.{Gives, HasRoomThroughout}
use Rattle.machine_laws.specs.MachineLaws.{numbers_of}
use Rattle.code_machine.proofs.Meant.{given_is, has_room, small_guards}
use Rattle.code_machine.proofs.performing.CodeMachinePerformer.try_op.Goals as goal

pub returns : goal.returns
returns c =
    let m = c.args.self.now in
    let us = sources m.tables.checked in
    let code = program_seen m.code in
    let kind = c.args.kind in
    let op = c.args.op in
    let state = c.args.state.now in
    let args = c.args.args.now in
    let run = tries code kind op state args in
    let meant = tries_of us kind op state args in
    let numbers = numbers_of m.tables.checked m.within in
    let means = subst (Means us) (sym m.compiled) (c.code_law.ensures.means us) in
    let comes = means.operations kind op state args ((c.code_law.ensures.fits us).tries c.requires.0 kind op state args c.requires.1 c.requires.2) in
    let room = subst HasRoomThroughout (sym m.compiled) (has_room us (c.numbers_law.ensures.objects us numbers)) in
    let small = small_guards us kind op state args (c.numbers_law.ensures.done us numbers kind op state args)
    (c.numbers_law.ensures.broken us numbers kind op state args) run comes in
    IfOk-weaker c.try_operation.result (λ (x : Tried). Gives run x) (λ (x : Tried). x ≡ meant) (given_is run meant comes) (c.try_operation.ensures room small)
