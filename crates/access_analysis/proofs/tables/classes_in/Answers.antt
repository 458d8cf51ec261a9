use Rattle.std.proofs.Common.{List, map, ap, ◌∙◌, arith}
use Rattle.std.proofs.lemmas.List.{take_all}
use Rattle.orca_tree.specs.declared.tree.Operation as tree
use Rattle.orca_syntax.specs.Shown.{operation}
use Rattle.meaning_rules.specs.Classes.{operation_class}
use Rattle.program_bodies.specs.Objects.{object_type_seen}
use Rattle.access_analysis.proofs.Listed.{listed_more}
use Rattle.access_analysis.proofs.tables.classes_in.Goals as goal

pub operations-preserved : goal.operations-preserved
operations-preserved c = λ us names.
    listed_more operation (operation_class us (object_type_seen c.args.of)) c.args.of.operations.now c.operations.operation-index c.operation-item.result
    c.operations.all.items _ c.operation_class-own.result c.operations-test.true c.operation-item.is c.in_ok-push.ensures.items
    (c.operation_class-own.ensures us names) (c.operations.invariant us names)

pub returns : goal.returns
returns c = λ us names.
    c.operations.invariant us names
    ∙ ap (λ (l : List tree.Operation). map (operation_class us (object_type_seen c.args.of)) (map operation l))
    (take_all c.operations.operation-index c.args.of.operations.now (omega (arith, c.operations-test.false)))
