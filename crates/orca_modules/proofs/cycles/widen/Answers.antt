use Rattle.std.proofs.Common.{sym, ◌∙◌}
use Rattle.std.proofs.lemmas.Bool.{true≢false}
use Rattle.orca_modules.proofs.Passes.{adds, skips}
use Rattle.orca_modules.proofs.cycles.widen.Goals as goal
use Rattle.orca_modules.proofs.cycles.widen.Goals.{then-holds+then-not-holds+in_ok-add, else-holds, else-holds-via-then-holds+else-not-holds, else-holds-via-else-holds}

pub imports-preserved : goal.imports-preserved
imports-preserved c = elim c.if-holds.branch [
  | then-holds+then-not-holds+in_ok-add w ↦
      adds c.args.lines.now c.args.names.now c.imports.names w.add.new.names c.if-holds.names c.imports.wider c.if-holds.wider c.imports.line-index _ c.imports-test.true w.names-is w.wider-is
      w.in_ok-add.ensures (sym c.holds.ensures ∙ w.if-holds.true) (sym w.holds-then-holds.ensures ∙ w.if-not-holds.true) c.imports.invariant
  | else-holds w ↦ elim w.else-holds.branch [
    | else-holds-via-then-holds+else-not-holds v ↦
        skips c.args.lines.now c.args.names.now c.imports.names c.if-holds.names c.imports.wider c.if-holds.wider c.imports.line-index _ c.imports-test.true w.names-is w.wider-is
        (λ _. sym v.holds-then-holds.ensures ∙ v.if-not-holds.false) c.imports.invariant
    | else-holds-via-else-holds v ↦
        skips c.args.lines.now c.args.names.now c.imports.names c.if-holds.names c.imports.wider c.if-holds.wider c.imports.line-index _ c.imports-test.true w.names-is w.wider-is
        (λ there. absurd (true≢false (sym there ∙ sym c.holds.ensures ∙ v.if-holds.false))) c.imports.invariant
  ]
]
