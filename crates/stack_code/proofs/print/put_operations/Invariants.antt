use Rattle.std.proofs.Common.{◌≡◌, ◌++◌, List, drop}
use Rattle.std.specs.List.{flat_map}
use Rattle.code_rules.specs.Instructions.{Instr}
use Rattle.stack_code.specs.Bodies.{operation_shown}
use Rattle.stack_code.specs.Printed.{IsCounted, notes_of, written}
use Rattle.stack_code.specs.Text.{operation_bodies}
use Rattle.stack_code.proofs.print.put_operations.Given as goal

abbrev pub invariant-operations : goal.invariant-operations
invariant-operations l =
    ((rest : List (List Instr)) → written (notes_of l.notes) l.p (flat_map (λ x. operation_bodies (operation_shown x)) (drop l.operation-index l.operations) ++ rest)
    ≡ written (notes_of l.notes) l.initial.p (flat_map (λ x. operation_bodies (operation_shown x)) l.operations ++ rest)) × IsCounted l.p
