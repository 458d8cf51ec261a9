use Rattle.std.proofs.Common.{◌≡◌, [], subst, sym}
use Rattle.std.proofs.lemmas.Result.{IfOk-weaker}
use Rattle.program_bodies.specs.Codes.{sources}
use Rattle.emitted_code.specs.Views.{program_seen}
use Rattle.code_rules.specs.Correct.{Means}
use Rattle.code_rules.specs.Machine.{ProcessState}
use Rattle.code_rules.specs.Resuming as resuming
use Rattle.code_machine.proofs.processing.CodeMachineProcessor.start.Goals as goal

pub returns : goal.returns
returns c =
    let m = c.args.self.now in
    let us = sources m.tables.checked in
    let code = program_seen m.code in
    let text = c.args.process in
    let number = c.args.number in
    let args = c.args.args.now in
    let first = resuming.start code text number args in
    let means = subst (Means us) (sym m.compiled) (c.code_law.ensures.means us) in
    let start = (c.code_law.ensures.fits us).starts c.requires.0 text args c.requires.1 in
    let stood = (c.code_law.ensures.resumes us code means).starts text number args start in
    IfOk-weaker c.begin.result (λ (s : ProcessState). s ≡ first) (λ (s : ProcessState). resuming.stands us code s text number args [] 0)
    (λ s is. subst (λ (t : ProcessState). resuming.stands us code t text number args [] 0) (sym is) stood) c.begin.ensures
