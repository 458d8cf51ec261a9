use Rattle.std.proofs.Common.{◌∷◌, [], ◌++◌, subst, sym}
use Rattle.program_bodies.specs.Codes.{sources}
use Rattle.emitted_code.specs.Views.{program_seen}
use Rattle.code_rules.specs.Correct.{Means}
use Rattle.code_rules.specs.Machine.{ProcessState}
use Rattle.code_rules.specs.Resuming.{stands}
use Rattle.code_machine.proofs.processing.CodeMachineProcessor.reply.Goals as goal

pub returns : goal.returns
returns c = λ text number args replies turns stood.
    let m = c.args.self.now in
    let us = sources m.tables.checked in
    let code = program_seen m.code in
    let means = subst (Means us) (sym m.compiled) (c.code_law.ensures.means us) in
    let behind = (c.code_law.ensures.resumes us code means).replies c.args.state c.requires.fits.0 c.args.reply c.requires.fits.1 text number args replies turns stood in
    subst (λ (s : ProcessState). stands us code s text number args (replies ++ c.args.reply ∷ []) turns) (sym c.answered.ensures) behind
