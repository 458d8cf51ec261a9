use Rattle.std.proofs.Common.{refl}
use Rattle.command_files.proofs.AskedFiles.{asked_none}
use Rattle.orca_answers.specs.Choosing.{chooser_of}
use Rattle.orca_door.proofs.TwoWires.{none_made}
use Rattle.orca_door.proofs.serving.serve.Goals as goal

pub returns-in-Err-clause-served : goal.returns-in-Err-clause-served
returns-in-Err-clause-served g c = none_made (chooser_of g.P.Policy.rule g.P.Policy.told c.args.policy.now) _ _ _ _ _ _ refl

pub returns-in-Err-clause-asked : goal.returns-in-Err-clause-asked
returns-in-Err-clause-asked g c = asked_none _ _ _
