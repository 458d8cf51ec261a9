use Rattle.generated_program.proofs.Accepted.{is_generated}
use Rattle.generated_program.proofs.law.program_law.Goals as goal

pub returns : goal.returns
returns c number = is_generated number
