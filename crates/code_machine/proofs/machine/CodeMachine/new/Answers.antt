use Rattle.std.proofs.Common.{◌≡◌, subst, sym}
use Rattle.std.proofs.Math.Logic.{∥∥₁_elim}
use Rattle.type_decls.specs.declared.checked.Checked.{Checked}
use Rattle.accepted_law.specs.Limits.{IsWithinLimits}
use Rattle.program_bodies.specs.Codes.{sources}
use Rattle.emitted_code.specs.Views.{program_seen}
use Rattle.code_rules.specs.Program.{program_code}
use Rattle.machine_laws.specs.MachineLaws.{coded, few}
use Rattle.code_machine.specs.Once.{code_once}
use Rattle.code_machine.proofs.machine.CodeMachine.new.Goals as goal

pub invariant_of-result : goal.invariant_of-result
invariant_of-result c =
    let p = c.args.checked in
    let us = sources p in
    let code = c.in_ok-code.code in
    let kept = sym ((c.in_ok-tables.ensures {u = tt}).of) in
    let within = (c.in_ok-within_limits.ensures {u = tt}).within in
    let compiled : program_seen code ≡ program_code us =
    ∥∥₁_elim p.tables (code_once (program_seen code) (program_code us))
    (λ symbols. c.in_ok-code.ensures {u = tt} us ((c.in_ok-tables.ensures {u = tt}).code symbols (coded p within) (few p within))) in
    record {
      within = subst (λ (q : Checked). IsWithinLimits (sources q)) kept within;
      compiled = subst (λ (q : Checked). program_seen code ≡ program_code (sources q)) kept compiled;
      laws = c.machine_laws.ensures.values;
    }
