use Rattle.std.proofs.Common.{arith}
use Rattle.std.specs.Int.{w64}
use Rattle.std.proofs.lemmas.Int.{to_z-of_z}
use Rattle.frame_variables.proofs.Standing.{none_past, other_at}
use Rattle.frame_variables.proofs.firm.has_other.Goals as goal

pub returns-in-Some : goal.returns-in-Some
returns-in-Some c t x there =
    let found = (c.in-Some.ensures {u = tt}).lookup in
    other_at c.args.name _ c.args.nodes.now c.args.place c.in-Some.node.now c.is_named.result x (to_z-of_z w64 c.args.name c.ranges.name) found.3.0 found.1 c.is_named.ensures t there

pub returns-in-None : goal.returns-in-None
returns-in-None c t x there =
    let gone = (c.in-None.ensures {u = tt}).lookup in
    absurd (none_past c.args.nodes.now c.args.place x (omega (arith, gone)) there)
