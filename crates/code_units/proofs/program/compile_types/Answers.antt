use Rattle.std.proofs.Common.{◌<◌, length, map, ap, ◌∙◌, arith}
use Rattle.std.specs.Prelude.{Option, option_and_then}
use Rattle.std.proofs.lemmas.List.{take_all}
use Rattle.type_rules.specs.TopLevel.{TopName}
use Rattle.std.specs.Prelude.{option_map}
use Rattle.meaning_rules.specs.Programs.{specifications}
use Rattle.code_rules.specs.Program.{type_at}
use Rattle.emitted_code.specs.Views.{type_seen}
use Rattle.code_units.proofs.Rows.{made_there, next_there}
use Rattle.code_units.proofs.program.compile_types.Goals as goal

pub specified-preserved : goal.specified-preserved
specified-preserved c = λ us code.
    let i = c.specified.place in
    let many = c.type_count-count.ensures us code in
    let low : i < length (specifications us) = omega (arith, many, c.specified-test.true) in
    let r = next_there (specifications us) i low in
    made_there (option_map type_seen) (type_at us) (specifications us) i r.0 c.specified.all.items _ c.in_ok-own.own r.1.1 c.in_ok-push.ensures.items
    (c.specified.invariant us code)
    ((c.in_ok-own.ensures {u = tt}) us code ∙ ap (λ (o : Option TopName). option_and_then (type_at us) o) r.1.0)

pub returns : goal.returns
returns c = λ us code.
    let many = c.type_count-count.ensures us code in
    c.specified.invariant us code ∙ ap (map (type_at us)) (take_all c.specified.place (specifications us) (omega (arith, many, c.specified-test.false)))
