use Rattle.orca_cli.proofs.HeadlineLemmas.{have_obeyed}
use Rattle.orca_cli.proofs.top.obeyed.Goals as goal

pub returns : goal.returns
returns g c = have_obeyed g.W.Wire.told g.W.Wire.rule g.W.Wire.loaded c.args.wires.now c.have_obeyed.ensures
