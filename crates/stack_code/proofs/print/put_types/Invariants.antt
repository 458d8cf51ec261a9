use Rattle.std.proofs.Common.{◌≡◌, ◌++◌, List, drop}
use Rattle.std.specs.Prelude.{option_map}
use Rattle.std.specs.List.{flat_map}
use Rattle.code_rules.specs.Instructions.{Instr}
use Rattle.stack_code.specs.Bodies.{type_shown}
use Rattle.stack_code.specs.Printed.{IsCounted, notes_of, written}
use Rattle.stack_code.specs.Text.{type_bodies}
use Rattle.stack_code.proofs.print.put_types.Given as goal

abbrev pub invariant-parts : goal.invariant-parts
invariant-parts l =
    ((rest : List (List Instr)) → written (notes_of l.notes) l.p (flat_map (λ x. type_bodies (option_map type_shown x)) (drop l.part-index l.parts) ++ rest)
    ≡ written (notes_of l.notes) l.initial.p (flat_map (λ x. type_bodies (option_map type_shown x)) l.parts ++ rest)) × IsCounted l.p
