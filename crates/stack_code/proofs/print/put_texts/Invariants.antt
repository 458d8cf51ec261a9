use Rattle.std.proofs.Common.{◌≡◌, ◌++◌, List, drop}
use Rattle.std.specs.List.{flat_map}
use Rattle.code_rules.specs.Instructions.{Instr}
use Rattle.stack_code.specs.Bodies.{body_shown}
use Rattle.stack_code.specs.Printed.{IsCounted, notes_of, written}
use Rattle.stack_code.specs.Text.{body_bodies}
use Rattle.stack_code.proofs.print.put_texts.Given as goal

abbrev pub invariant-texts : goal.invariant-texts
invariant-texts l =
    ((rest : List (List Instr)) → written (notes_of l.notes) l.p (flat_map (λ x. body_bodies (body_shown x)) (drop l.text-index l.texts) ++ rest)
    ≡ written (notes_of l.notes) l.initial.p (flat_map (λ x. body_bodies (body_shown x)) l.texts ++ rest)) × IsCounted l.p
