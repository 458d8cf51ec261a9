use Rattle.std.proofs.Common.{List, drop, map}
use Rattle.orca_syntax.specs.Shown.{guard}
use Rattle.type_rules.specs.Scopes.{Scope}
use Rattle.code_rules.specs.Instructions.{Instr}
use Rattle.code_rules.specs.Bodies.{guards_piece}
use Rattle.emitted_code.specs.Appends.{Appends}
use Rattle.emitted_code.specs.Views.{code_of}
use Rattle.code_units.specs.Guarded.{SeesGuards}
use Rattle.code_units.proofs.operations.emit_guards.Given as goal

abbrev pub invariant-guards : goal.invariant-guards
invariant-guards l = (g v : Scope) → SeesGuards l.code l.body g v → (new : List Instr) →
    Appends (guards_piece g v l.spare l.has_result (map guard (drop l.one-index l.guards))) (code_of l.out) new →
    Appends (guards_piece g v l.spare l.has_result (map guard l.guards)) (code_of l.initial.out) new
