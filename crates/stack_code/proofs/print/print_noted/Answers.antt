use Rattle.std.proofs.Common.{◌∙◌, ◌++◌, [], List, ℕ, Option, ap, map, sym, append-nil}
use Rattle.std.specs.Prelude.{string_bytes, option_map}
use Rattle.std.specs.List.{flat_map}
use Rattle.code_rules.specs.Instructions.{Instr}
use Rattle.stack_code.specs.declared.bodies.PackedBody.{PackedBody}
use Rattle.stack_code.specs.declared.bodies.PackedType.{PackedType}
use Rattle.stack_code.specs.Bodies.{body_shown, type_shown}
use Rattle.stack_code.specs.Printed.{notes_of, written}
use Rattle.stack_code.specs.Text.{bodies_text, body_bodies, function_bodies, type_bodies}
use Rattle.stack_code.proofs.Printing.{flat_map_map}
use Rattle.stack_code.proofs.print.print_noted.Goals as goal

abbrev of_functions : List (Option PackedBody) → List (List Instr)
of_functions fs = flat_map (λ (x : Option PackedBody). function_bodies (option_map body_shown x)) fs

abbrev of_texts : List PackedBody → List (List Instr)
of_texts ts = flat_map (λ (x : PackedBody). body_bodies (body_shown x)) ts

abbrev of_types : List (Option PackedType) → List (List Instr)
of_types ts = flat_map (λ (x : Option PackedType). type_bodies (option_map type_shown x)) ts

pub returns : goal.returns
returns c =
    let code = c.args.code.now in
    let f = c.put_functions.new.p in
    let t = c.put_texts.new.p in
    let behind : List (List Instr) = of_types code.types.items ++ [] in
    sym (append-nil (string_bytes c.put_types.new.p.out))
    ∙ c.in_ok-put_types.ensures.text []
    ∙ ap (λ l. written (notes_of c.args.notes.now) t (of_types l ++ [])) c.deref-3.ensures.value
    ∙ c.in_ok-put_texts.ensures.text behind
    ∙ ap (λ l. written (notes_of c.args.notes.now) f (of_texts l ++ behind)) c.deref-2.ensures.value
    ∙ c.in_ok-put_functions.ensures.text (of_texts code.texts.items ++ behind)
    ∙ ap (λ (out : List ℕ). out ++ bodies_text (notes_of c.args.notes.now) 0 0 (of_functions c.deref.result.now ++ (of_texts code.texts.items ++ behind))) c.new.ensures.bytes
    ∙ ap (λ l. bodies_text (notes_of c.args.notes.now) 0 0 (of_functions l ++ (of_texts code.texts.items ++ behind))) c.deref.ensures.value
    ∙ ap (λ l. bodies_text (notes_of c.args.notes.now) 0 0 (l ++ (of_texts code.texts.items ++ behind))) (flat_map_map function_bodies (option_map body_shown) code.functions.items)
    ∙ ap (λ l. bodies_text (notes_of c.args.notes.now) 0 0 (flat_map function_bodies (map (option_map body_shown) code.functions.items) ++ (l ++ behind))) (flat_map_map body_bodies body_shown code.texts.items)
    ∙ ap (λ l. bodies_text (notes_of c.args.notes.now) 0 0 (flat_map function_bodies (map (option_map body_shown) code.functions.items) ++ (flat_map body_bodies (map body_shown code.texts.items) ++ l)))
    (append-nil (of_types code.types.items) ∙ flat_map_map type_bodies (option_map type_shown) code.types.items)
