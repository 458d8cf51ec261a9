use Rattle.std.proofs.Common.{◌≡◌, ◌++◌, List, drop}
use Rattle.std.specs.Prelude.{option_map}
use Rattle.std.specs.List.{flat_map}
use Rattle.code_rules.specs.Instructions.{Instr}
use Rattle.stack_code.specs.Bodies.{body_shown}
use Rattle.stack_code.specs.Printed.{IsCounted, notes_of, written}
use Rattle.stack_code.specs.Text.{function_bodies}
use Rattle.stack_code.proofs.print.put_functions.Given as goal

abbrev pub invariant-functions : goal.invariant-functions
invariant-functions l =
    ((rest : List (List Instr)) → written (notes_of l.notes) l.p (flat_map (λ x. function_bodies (option_map body_shown x)) (drop l.function-index l.functions) ++ rest)
    ≡ written (notes_of l.notes) l.initial.p (flat_map (λ x. function_bodies (option_map body_shown x)) l.functions ++ rest)) × IsCounted l.p
