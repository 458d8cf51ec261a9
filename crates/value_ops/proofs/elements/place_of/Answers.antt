use Rattle.std.proofs.Common.{rules}
use Rattle.std.proofs.lemmas.List.Sorted.{IsPartitionPoint-from_clause}
use Rattle.value_core.specs.View.{datum_of}
use Rattle.value_ops.specs.Spots.{is_under}
use Rattle.value_ops.proofs.Spots.{parted}
use Rattle.value_ops.proofs.elements.place_of.Goals as goal

pub returns-clause-parted : goal.returns-clause-parted
returns-clause-parted c =
    let e = datum_of c.args.element.now in
    IsPartitionPoint-from_clause (is_under e) _ _ c.partition_point.ensures.partitioned (parted e c.args.values.now c.requires) (λ a r f called. search rules)
