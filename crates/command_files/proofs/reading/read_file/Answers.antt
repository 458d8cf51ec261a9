use Rattle.command_files.proofs.AskedFiles.{asked_one, stopped_one}
use Rattle.command_files.proofs.reading.read_file.Goals as goal

pub returns-clause-asked : goal.returns-clause-asked
returns-clause-asked g c = asked_one (λ v. v.items) _ c.args.name.now _ _ c.read_all.result c.read_all.ensures.noted c.read_all.ensures.sure

pub returns-clause-stopped : goal.returns-clause-stopped
returns-clause-stopped g c = stopped_one (λ v. v.items) _ _ c.args.name.now _ _ c.read_all.result c.read_all.ensures.failed c.read_all.ensures.noted
