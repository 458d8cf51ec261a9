use Rattle.std.proofs.Common.{rules}
use Rattle.std.proofs.lemmas.List.Sorted.{IsPartitionPoint-from_clause}
use Rattle.graph_values.specs.Places.{is_before}
use Rattle.value_writes.proofs.Names.{parted}
use Rattle.value_writes.proofs.finding.nodes_before.Goals as goal

pub returns-clause-parted : goal.returns-clause-parted
returns-clause-parted c =
    IsPartitionPoint-from_clause (is_before c.args.name) _ _ c.partition_point.ensures.partitioned (parted c.args.name c.args.nodes.now c.requires) (λ a r f called. search rules)
