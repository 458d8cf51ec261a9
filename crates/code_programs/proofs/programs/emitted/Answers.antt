use Rattle.std.proofs.Math.Logic.{∥∥₁_elim}
use Rattle.program_bodies.proofs.Few.{few_values}
use Rattle.program_bodies.specs.Codes.{sources}
use Rattle.code_rules.specs.Program.{program_code}
use Rattle.emitted_code.specs.Views.{program_seen}
use Rattle.code_programs.proofs.Once.{shown_once}
use Rattle.code_programs.proofs.Premises.{accepted_program, coded}
use Rattle.code_programs.proofs.programs.emitted.Goals as goal

pub returns : goal.returns
returns c =
    let p = c.args.checked in
    let us = sources p in
    let accepted = accepted_program c.accepted_law.ensures.accepted p c.requires in
    let numbers = c.accepted_law.ensures.numbers us c.requires in
    ∥∥₁_elim p.tables (shown_once c.compile.result program_seen (program_code us))
    (λ symbols. c.compile.ensures us ((c.in_ok-tables.ensures {u = tt}).code symbols (coded us accepted numbers) (few_values us accepted)))
