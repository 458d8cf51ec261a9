use Rattle.std.proofs.Common.{rules}
use Rattle.std.proofs.lemmas.List.Sorted.{IsPartitionPoint-from_clause}
use Rattle.value_core.specs.View.{datum_of}
use Rattle.frame_variables.specs.Naming.{is_before}
use Rattle.frame_variables.proofs.Naming.{nodes_parted}
use Rattle.frame_variables.proofs.nodes.count_before.Goals as goal

pub returns-clause-parted : goal.returns-clause-parted
returns-clause-parted c =
    IsPartitionPoint-from_clause (λ v. is_before c.args.name (datum_of v)) _ _ c.partition_point.ensures.partitioned (nodes_parted c.args.name c.args.values.now c.requires) (λ a r f called. search rules)
