use Rattle.std.proofs.Common.{◌<◌, length, map, ap, ◌∙◌, arith}
use Rattle.std.specs.Prelude.{Option, option_and_then}
use Rattle.std.proofs.lemmas.List.{take_all}
use Rattle.type_rules.specs.TopLevel.{TopName}
use Rattle.std.specs.Prelude.{option_map}
use Rattle.type_rules.specs.TopLevel.{top_names}
use Rattle.code_rules.specs.Program.{function_at}
use Rattle.emitted_code.specs.Views.{body_seen}
use Rattle.code_units.proofs.Rows.{made_there, next_there}
use Rattle.code_units.proofs.program.compile_functions.Goals as goal

pub tops-preserved : goal.tops-preserved
tops-preserved c = λ us code.
    let i = c.tops.number in
    let many = c.top_count-count.ensures us code in
    let low : i < length (top_names us) = omega (arith, many, c.tops-test.true) in
    let r = next_there (top_names us) i low in
    made_there (option_map body_seen) (function_at us) (top_names us) i r.0 c.tops.all.items _ c.in_ok-own.own r.1.1 c.in_ok-push.ensures.items
    (c.tops.invariant us code)
    ((c.in_ok-own.ensures {u = tt}) us code ∙ ap (λ (o : Option TopName). option_and_then (function_at us) o) r.1.0)

pub returns : goal.returns
returns c = λ us code.
    let many = c.top_count-count.ensures us code in
    c.tops.invariant us code ∙ ap (map (function_at us)) (take_all c.tops.number (top_names us) (omega (arith, many, c.tops-test.false)))
