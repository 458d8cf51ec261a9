use Rattle.orca_door.proofs.TwoWires.{is_served, two_left, two_made}
use Rattle.orca_door.proofs.serving.served.Goals as goal

pub orca_main_over-ended-requires : goal.orca_main_over-ended-requires
orca_main_over-ended-requires g c = record { wires = two_made c.args.wires.now c.requires }

pub answered-requires : goal.answered-requires
answered-requires g c = two_left _ _ _ _ _ _ _ _ _ c.orca_main_over-ended.result.kept _ _ c.requires c.orca_main_over-ended.ensures.untouched c.orca_main_over-ended.ensures.headline

pub returns-clause-served : goal.returns-clause-served
returns-clause-served g c =
    is_served _ _ _ _ _ _ _ _ _ _ c.orca_main_over-ended.result.kept _ _ c.requires c.answered.ensures c.orca_main_over-ended.ensures.refused c.orca_main_over-ended.ensures.untouched c.orca_main_over-ended.ensures.headline
