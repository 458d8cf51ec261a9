use Rattle.std.proofs.Common.{◌≡◌, ◌∙◌}
use Rattle.std.proofs.lemmas.Result.{err_from_is_err_and}
use Rattle.fault_scripts.proofs.ScriptLaws.{found, only}
use Rattle.fault_scripts.proofs.Refusals.{passed_only, passed_none, passed_refused, passed_first}
use Rattle.fault_scripts.proofs.reading.read_script.Goals as goal

pub returns-in_err-lines-clause-only : goal.returns-in_err-lines-clause-only
returns-in_err-lines-clause-only c said says =
    let p = err_from_is_err_and c.from_residual.result c.from_residual.ensures.1 in
    rw (p.1, p.2) (passed_only (λ script. script ≡ said) c.in_err-lines.field-0.0 c.args.text.now said c.in_err-lines.ensures says)

pub returns-in_err-lines-clause-none : goal.returns-in_err-lines-clause-none
returns-in_err-lines-clause-none c =
    let p = err_from_is_err_and c.from_residual.result c.from_residual.ensures.1 in
    rw (p.1, p.2) (passed_none c.in_err-lines.field-0.0 c.args.text.now c.in_err-lines.ensures)

pub returns-in_err-lines-clause-refused : goal.returns-in_err-lines-clause-refused
returns-in_err-lines-clause-refused c =
    let p = err_from_is_err_and c.from_residual.result c.from_residual.ensures.1 in
    rw (p.1, p.2) (passed_refused c.in_err-lines.field-0.0 c.args.text.now c.in_err-lines.ensures)

pub returns-in_err-lines-clause-first : goal.returns-in_err-lines-clause-first
returns-in_err-lines-clause-first c =
    let p = err_from_is_err_and c.from_residual.result c.from_residual.ensures.1 in
    rw (p.1, p.2) (passed_first c.in_err-lines.field-0.0 c.args.text.now c.in_err-lines.ensures)

pub returns-clause-found : goal.returns-clause-found
returns-clause-found c = rw c.from_lines.ensures (found c.args.text.now c.in_ok-lines.lines.items c.in_ok-lines.ensures)

pub returns-clause-only : goal.returns-clause-only
returns-clause-only c said says = c.from_lines.ensures ∙ only c.args.text.now c.in_ok-lines.lines.items said c.in_ok-lines.ensures says
