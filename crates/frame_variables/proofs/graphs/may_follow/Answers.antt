use Rattle.std.proofs.Common.{map, subst}
use Rattle.std.specs.Int.{w64}
use Rattle.std.proofs.lemmas.Int.{to_z-of_z}
use Rattle.value_core.specs.View.{datum_of}
use Rattle.frame_variables.specs.Naming.{AreBefore}
use Rattle.frame_variables.proofs.graphs.may_follow.Goals as goal

pub returns-then-are_before-clause-before : goal.returns-then-are_before-clause-before
returns-then-are_before-clause-before c t =
    subst (λ n. AreBefore n (map datum_of c.args.nodes.now)) (to_z-of_z w64 c.args.name c.ranges.name) (c.are_before.ensures c.if-are_before.true)
