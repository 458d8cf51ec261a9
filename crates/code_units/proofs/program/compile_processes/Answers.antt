use Rattle.std.proofs.Common.{◌≡◌, map, subst, sym, ap, ◌∙◌, arith}
use Rattle.std.proofs.lemmas.List.{take_all}
use Rattle.type_forms.specs.declared.tops.Top.{Top}
use Rattle.type_forms.specs.Seen.{top}
use Rattle.meaning_rules.specs.Programs.{process_texts}
use Rattle.code_rules.specs.Program.{process_at}
use Rattle.program_tables.specs.declared.tables.CodeTables.{CodeTables}
use Rattle.program_tables.specs.Tables.{IsTables}
use Rattle.emitted_code.specs.Views.{body_seen}
use Rattle.code_units.proofs.Rows.{both_maps, made_next, seen_at}
use Rattle.code_units.proofs.program.compile_processes.Goals as goal

pub processes-preserved : goal.processes-preserved
processes-preserved c = λ us code.
    let i = c.processes.place in
    let x = c.index-processes-place.result in
    let xs = c.processes-processes.result.now in
    let texts : map top xs ≡ process_texts us = c.processes-processes.ensures us (subst (λ (t : CodeTables). IsTables us t) (sym c.tables.ensures) code.tables) in
    made_next body_seen (λ (y : Top). process_at us (top y)) xs i x c.processes.all.items _ c.in_ok-own.own c.processes-test.true c.index-processes-place.is
    c.in_ok-push.ensures.items (c.processes.invariant us code)
    ((c.in_ok-own.ensures {u = tt}) us code (seen_at top xs (process_texts us) i x texts c.processes-test.true c.index-processes-place.is))

pub returns : goal.returns
returns c = λ us code.
    let xs = c.processes-processes.result.now in
    let texts : map top xs ≡ process_texts us = c.processes-processes.ensures us (subst (λ (t : CodeTables). IsTables us t) (sym c.tables.ensures) code.tables) in
    c.processes.invariant us code
    ∙ ap (map (λ (y : Top). process_at us (top y))) (take_all c.processes.place xs (omega (arith, c.processes-test.false)))
    ∙ sym (both_maps top (process_at us) xs)
    ∙ ap (map (process_at us)) texts
