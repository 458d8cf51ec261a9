use Rattle.std.proofs.Common.{◌≡◌, ◌∙◌, ◌++◌, ◌∷◌, ap, subst, sym}
use Rattle.std.specs.Prelude.{List, OnOk, option_map}
use Rattle.std.specs.List.{flat_map}
use Rattle.stack_code.specs.declared.bodies.PackedOperation.{PackedOperation}
use Rattle.code_rules.specs.Instructions.{Instr}
use Rattle.stack_code.specs.Packed.{code_in}
use Rattle.stack_code.specs.Bodies.{operation_shown, type_shown}
use Rattle.stack_code.specs.Printed.{notes_of, written}
use Rattle.stack_code.specs.Text.{operation_bodies, type_bodies}
use Rattle.stack_code.proofs.Printing.{flat_map_map}
use Rattle.stack_code.proofs.print.put_type.Goals as goal

abbrev bodies : List PackedOperation → List (List Instr)
bodies os = flat_map (λ (x : PackedOperation). operation_bodies (operation_shown x)) os

pub returns-in_ok-put_body-in-Some-clause-text : goal.returns-in_ok-put_body-in-Some-clause-text
returns-in_ok-put_body-in-Some-clause-text c = λ rest.
    let a = c.args.p.now in
    let p = c.put_body.new.p in
    let q = c.put_operations.new.p in
    let os = c.in-Some.part.operations.items in
    subst (λ t. OnOk c.put_operations.result (written (notes_of c.args.notes.now) q rest ≡ t))
    (ap (λ l. written (notes_of c.args.notes.now) p (bodies l ++ rest)) c.deref.ensures.value
    ∙ c.in_ok-put_body-in-Some.ensures.text (bodies os ++ rest)
    ∙ ap (λ l. written (notes_of c.args.notes.now) a (code_in c.in-Some.part.making.code ∷ (l ++ rest))) (flat_map_map operation_bodies operation_shown os)
    ∙ ap (λ o. written (notes_of c.args.notes.now) a (type_bodies (option_map type_shown o) ++ rest)) (sym c.in-Some.is))
    (c.put_operations.ensures.text rest)
