use Rattle.std.proofs.Common.{◌∙◌, ap}
use Rattle.std.specs.Prelude.{string_bytes}
use Rattle.std.proofs.lemmas.Result.{err_from_is_err_and}
use Rattle.command_output.proofs.Putting.{grew_item}
use Rattle.generated_program.specs.Program.{ended}
use Rattle.make_command.proofs.Loops.{printed_all, printed_fault, printed_front}
use Rattle.make_command.proofs.printing.print_lines.Goals as goal

pub returns-in_err-text-clause-wrote : goal.returns-in_err-text-clause-wrote
returns-in_err-text-clause-wrote g c =
    let p = err_from_is_err_and c.from_residual.result c.from_residual.ensures.1 in
    rw p.1 (printed_front string_bytes _ _ c.args.lines.now c.lines.line-index p.0 c.lines.invariant.told)

pub returns-in_err-put-clause-wrote : goal.returns-in_err-put-clause-wrote
returns-in_err-put-clause-wrote g c =
    let p = err_from_is_err_and c.from_residual-in_err-put.result c.from_residual-in_err-put.ensures.1 in
    rw (p.1, p.2) (printed_fault string_bytes _ _ _ c.args.lines.now c.lines.line-index c.line-item.result _ _ c.lines-test.true c.line-item.is (c.deref.ensures.value ∙ c.in_ok-text.ensures ∙ ap ended c.as_str.ensures.value) c.lines.invariant.told c.in_err-put.ensures.puts)

pub lines-preserved : goal.lines-preserved
lines-preserved g c = record {
  told = grew_item (λ s. ended (string_bytes s)) _ _ _ c.args.lines.now c.lines.line-index c.line-item.result _ c.lines-test.true c.line-item.is (c.deref.ensures.value ∙ c.in_ok-text.ensures ∙ ap ended c.as_str.ensures.value) c.lines.invariant.told c.in_ok-put.ensures.puts;
  quiet = c.put.ensures.quiet (λ h. absurd (cc (c.in_ok-put.was {u = tt}, h))) ∙ c.lines.invariant.quiet;
}

pub returns-clause-wrote : goal.returns-clause-wrote
returns-clause-wrote g c = printed_all string_bytes _ _ c.args.lines.now c.lines.line-index c.lines-test.false c.lines.invariant.told
