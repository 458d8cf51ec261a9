use Rattle.std.proofs.Common.{List, map, ap, ◌∙◌}
use Rattle.std.specs.Prelude.{Option, option_map}
use Rattle.orca_base.specs.declared.ids.TextNo.{TextNo}
use Rattle.type_rules.specs.TopLevel.{top_names}
use Rattle.meaning_rules.specs.Programs.{process_texts, specifications}
use Rattle.code_rules.specs.Machine as machine
use Rattle.code_rules.specs.Program.{function_at, process_at, type_at}
use Rattle.emitted_code.specs.Views.{body_seen, type_seen}
use Rattle.code_units.proofs.program.compile.Goals as goal

abbrev a_program : List (Option machine.Body) → List machine.Body → List (Option machine.TypeCode) → TextNo → machine.Code
a_program functions texts types main = record { functions = functions; texts = texts; main = main; types = types }

pub returns : goal.returns
returns c = λ us code.
    let main = c.main_of-main.result in
    let fs = map (function_at us) (top_names us) in
    let ps = map (process_at us) (process_texts us) in
    ap (λ (k : List (Option machine.Body)). a_program k (map body_seen c.in_ok-texts.texts.items) (map (option_map type_seen) c.in_ok-types.types.items) main)
    ((c.in_ok-functions.ensures {u = tt}) us code)
    ∙ ap (λ (k : List machine.Body). a_program fs k (map (option_map type_seen) c.in_ok-types.types.items) main)
    ((c.in_ok-texts.ensures {u = tt}) us code)
    ∙ ap (λ (k : List (Option machine.TypeCode)). a_program fs ps k main) ((c.in_ok-types.ensures {u = tt}) us code)
    ∙ ap (a_program fs ps (map (type_at us) (specifications us))) (c.main_of-main.ensures us code)
