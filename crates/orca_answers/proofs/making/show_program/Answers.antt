use Rattle.std.proofs.Common.{inl, inr, refl}
use Rattle.command_output.specs.declared.statuses.TheConstants.{FINISHED}
use Rattle.generated_program.specs.Program.{program_text}
use Rattle.orca_io.specs.declared.sink.SinkFault.TheVariants as faults
use Rattle.orca_answers.specs.Endings as because
use Rattle.orca_answers.proofs.Showing.{all_shown, front_shown}
use Rattle.orca_answers.proofs.making.show_program.Goals as goal

pub returns-in-Ok-clause-said : goal.returns-in-Ok-clause-said
returns-in-Ok-clause-said g c = λ policy words told before now old new asked.
    let text = program_text c.args.number in
    inl (FINISHED, text, because.said text asked, inl refl, all_shown _ _ text c.in-Ok.ensures.wrote)

pub returns-in-Err-Failed-clause-said : goal.returns-in-Err-Failed-clause-said
returns-in-Err-Failed-clause-said g c = λ policy words told before now old new asked.
    let text = program_text c.args.number in
    inl (FINISHED, text, because.said text asked, inr (inl refl), front_shown _ _ text faults.Failed _ (inl refl) (rw c.in-Err-Failed.field-0-is at c.in-Err-Failed.ensures.wrote))

pub returns-in-Err-NoMemory-clause-said : goal.returns-in-Err-NoMemory-clause-said
returns-in-Err-NoMemory-clause-said g c = λ policy words told before now old new asked.
    let text = program_text c.args.number in
    inl (FINISHED, text, because.said text asked, inr (inr refl), front_shown _ _ text faults.NoMemory _ (inr refl) (rw c.in-Err-NoMemory.field-0-is at c.in-Err-NoMemory.ensures.wrote))
