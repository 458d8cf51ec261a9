use Rattle.std.proofs.Common.{List, drop, length}
use Rattle.orca_syntax.specs.Shown.{arms, stmts}
use Rattle.type_rules.specs.Scopes.{Scope}
use Rattle.code_rules.specs.Instructions.{Instr}
use Rattle.code_rules.specs.Layouts.{Layout}
use Rattle.code_rules.specs.Phrases.{arms_code, stmts_code}
use Rattle.emitted_code.specs.Appends.{Appends}
use Rattle.code_exprs.specs.Jumps.{aimed}
use Rattle.code_exprs.specs.CodeSites.{IsCodeSite}
use Rattle.emitted_code.specs.Views.{code_of}
use Rattle.code_exprs.proofs.statements.+statements.Given as goal

abbrev pub invariant-emit_statements-statements : goal.invariant-emit_statements-statements
invariant-emit_statements-statements l = (w : Scope) (s : Layout) → IsCodeSite l.here w s → (new : List Instr) →
    Appends (stmts_code w s (stmts (drop l.one-index l.statements))) (code_of l.out) new → Appends (stmts_code w s (stmts l.statements)) (code_of l.initial.out) new

-- whoever appends the arms that are left has appended all, once the jumps at the arms' ends lead behind them
abbrev pub invariant-emit_arms-arms : goal.invariant-emit_arms-arms
invariant-emit_arms-arms l = (w : Scope) (s : Layout) → IsCodeSite l.here w s → (new : List Instr) →
    Appends (arms_code w s (arms (drop l.one-index l.arms))) (code_of l.out) new →
    Appends (arms_code w s (arms l.arms)) (code_of l.initial.out) (aimed l.holes.items (length new) new)
