use Rattle.std.proofs.Common.{◌≡◌, ◌≤◌, ◌+◌, List, drop, map}
use Rattle.type_rules.specs.Scopes.{Scope}
use Rattle.code_rules.specs.Instructions.{Instr}
use Rattle.code_rules.specs.Bodies.{variables_code}
use Rattle.program_bodies.specs.Codes.{IsCode}
use Rattle.emitted_code.specs.Appends.{Appends}
use Rattle.emitted_code.specs.Views.{code_of}
use Rattle.code_units.proofs.processes.emit_variables.Given as goal

abbrev pub invariant-own : goal.invariant-own
invariant-own l = record {
  few : l.made ≤ l.slot;
  code : (w : Scope) → IsCode w.program l.code → l.types ≡ map (λ v. v.type) w.locals → (new : List Instr) →
      Appends (variables_code w.program (drop l.slot w.locals) l.slot (l.made + 1)) (code_of l.out) new →
      Appends (variables_code w.program (drop l.parameters w.locals) l.parameters 1) (code_of l.initial.out) new;
}
