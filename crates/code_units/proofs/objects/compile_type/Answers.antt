use Rattle.std.proofs.Common.{Some, sym, ap, ◌∙◌}
use Rattle.std.specs.Prelude.{option_and_then, option_map, slice_get}
use Rattle.std.specs.Borrow.{Bor}
use Rattle.meaning_rules.specs.Programs.{specifications, specified}
use Rattle.code_rules.specs.Machine as machine
use Rattle.code_rules.specs.Program.{type_code}
use Rattle.program_bodies.specs.declared.objects.ObjectCode.{ObjectCode}
use Rattle.program_bodies.specs.Objects.{IsObjectCode}
use Rattle.code_units.proofs.Found.{found_none, found_some, mapped_after}
use Rattle.code_units.proofs.objects.compile_type.Goals as goal

pub returns-in-None : goal.returns-in-None
returns-in-None c = λ us code.
    let there = slice_get (specifications us) c.args.place in
    let none = found_none (λ (x : Bor ObjectCode). IsObjectCode us x.now) c.specified_at.result (option_and_then (specified us) there) c.in-None.is
    (c.specified_at.ensures us code) in
    sym (mapped_after (type_code us) (specified us) there ∙ ap (option_map (type_code us)) none)

pub returns-in_ok-made-in-Some : goal.returns-in_ok-made-in-Some
returns-in_ok-made-in-Some c = λ us code.
    let there = slice_get (specifications us) c.args.place in
    let found = found_some (λ (x : Bor ObjectCode). IsObjectCode us x.now) c.specified_at.result (option_and_then (specified us) there) _ c.in-Some.is
    (c.specified_at.ensures us code) in
    ap (λ (x : machine.TypeCode). Some x) ((c.in_ok-made-in-Some.ensures {u = tt}) us found.0 code found.1.0)
    ∙ sym (mapped_after (type_code us) (specified us) there ∙ ap (option_map (type_code us)) found.1.1)
