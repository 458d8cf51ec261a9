use Rattle.std.proofs.Common.{◌≡◌, ℕ, Option, Some, map, length, refl, subst, sym, ap, ◌∙◌}
use Rattle.std.specs.Prelude.{false, option_and_then}
use Rattle.std.specs.Borrow.{Bor}
use Rattle.std.proofs.lemmas.List.{length-map}
use Rattle.orca_syntax.specs.Shown.{block, parameter}
use Rattle.type_rules.specs.TopLevel as tops
use Rattle.type_forms.specs.Seen.{top, what}
use Rattle.meaning_rules.specs.Programs.{process_scope}
use Rattle.code_rules.specs.Bodies.{block_body}
use Rattle.code_rules.specs.Program.{process_in}
use Rattle.program_bodies.specs.declared.blocks.BlockCode.{BlockCode}
use Rattle.program_bodies.specs.Blocks.{IsBlockCode, Routine, process_in as routine_in, process_of}
use Rattle.program_bodies.specs.Matching.{Both}
use Rattle.emitted_code.specs.Views.{body_seen}
use Rattle.emitted_code.specs.declared.bodies.EmittedBody.{EmittedBody}
use Rattle.code_units.proofs.Rows.{on_if}
use Rattle.code_units.proofs.processes.compile_process.Goals as goal

pub returns-in-Process : goal.returns-in-Process
returns-in-Process c = λ us code there.
    let x = c.args.item.now in
    let a = c.in-Process in
    let ps = map parameter a.parameters.now in
    let b = block a.body.now in
    let v = process_scope us x.by.now ps b in
    let r : Routine = record { scope = v; statements = b.statements; has_result = false } in
    let is : what x.what ≡ tops.Process ps b = ap what a.is in
    let both : Both (λ (k : Bor BlockCode) (q : Routine). IsBlockCode k.now q) c.process_at.result (Some r) =
    subst (λ (w : tops.What). Both (λ (k : Bor BlockCode) (q : Routine). IsBlockCode k.now q) c.process_at.result (routine_in us (top x) w)) is
    (subst (λ (o : Option tops.TopName). Both (λ (k : Bor BlockCode) (q : Routine). IsBlockCode k.now q) c.process_at.result (option_and_then (process_of us) o)) there
    (c.process_at.ensures us code)) in
    let same : block_body us (length a.parameters.now) v b.statements ≡ process_in us (top x) (what x.what) =
    ap (λ (k : ℕ). block_body us k v b.statements) (sym (length-map a.parameters.now parameter))
    ∙ sym (ap (process_in us (top x)) is) in
    on_if c.compile_known.result (λ (k : EmittedBody). body_seen k ≡ block_body us (length a.parameters.now) v b.statements)
    (λ (k : EmittedBody). body_seen k ≡ process_in us (top x) (what x.what)) (λ k e. e ∙ same) (c.compile_known.ensures r code both refl)
