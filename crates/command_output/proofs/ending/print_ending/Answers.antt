use Rattle.command_output.proofs.Putting.{put_failed}
use Rattle.command_output.proofs.ending.print_ending.Goals as goal

pub returns-in-Err-Failed-clause-printed : goal.returns-in-Err-Failed-clause-printed
returns-in-Err-Failed-clause-printed g c =
    let puts = rw (c.in-Err-Failed.field-0-is, c.deref.ensures.value) at c.in-Err-Failed.ensures.puts in
    rw c.in-Ok.is (put_failed _ _ _ _ puts)
