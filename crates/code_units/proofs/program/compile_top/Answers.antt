use Rattle.std.proofs.Common.{List, Some, subst, sym, ap, ◌∙◌}
use Rattle.std.specs.Prelude.{option_map, slice_get}
use Rattle.std.specs.Borrow.{Bor}
use Rattle.link_rules.specs.Units.{Source}
use Rattle.type_rules.specs.TopLevel.{top_names}
use Rattle.code_rules.specs.Machine as machine
use Rattle.program_bodies.specs.declared.blocks.BlockCode.{BlockCode}
use Rattle.program_bodies.specs.Codes.{IsCode}
use Rattle.program_bodies.specs.Blocks.{IsBlockCode, Routine, function_at as routine_at}
use Rattle.code_units.proofs.Found.{found_none, found_some}
use Rattle.code_units.proofs.Routines.{as_routine, routine_body, routine_program}
use Rattle.code_units.proofs.program.compile_top.Goals as goal

pub returns-in-None : goal.returns-in-None
returns-in-None c = λ us code.
    let none = found_none (λ (x : Bor BlockCode) (r : Routine). IsBlockCode x.now r) c.function.result (routine_at us c.args.number) c.in-None.is (c.function.ensures us code) in
    sym (as_routine us (slice_get (top_names us) c.args.number) ∙ ap (option_map (routine_body us)) none)

pub returns-in_ok-own-in-Some : goal.returns-in_ok-own-in-Some
returns-in_ok-own-in-Some c = λ us code.
    let o = slice_get (top_names us) c.args.number in
    let found = found_some (λ (x : Bor BlockCode) (r : Routine). IsBlockCode x.now r) c.function.result (routine_at us c.args.number) _ c.in-Some.is (c.function.ensures us code) in
    let r = found.0 in
    let of = routine_program us o r found.1.1 in
    ap (λ (b : machine.Body). Some b)
    ((c.in_ok-own-in-Some.ensures {u = tt}) r (subst (λ (p : List Source). IsCode p c.args.code.now) (sym of.0) code) found.1.0 of.1
    ∙ ap (λ (p : List Source). routine_body p r) of.0)
    ∙ sym (as_routine us o ∙ ap (option_map (routine_body us)) found.1.1)
