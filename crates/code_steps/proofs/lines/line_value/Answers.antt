use Rattle.std.proofs.Common.{◌≡◌, [], Ok, map, sym, ap, ◌∙◌, subst}
use Rattle.std.specs.Prelude.{string_bytes}
use Rattle.std.proofs.lemmas.Result.{err_from_is_err_and}
use Rattle.value_core.specs.Datum as datum
use Rattle.value_core.specs.View.{datum_of}
use Rattle.meaning_rules.specs.States.{Goes, gives}
use Rattle.meaning_rules.specs.Statements.{line_of}
use Rattle.frame_variables.specs.Gives.{Fails}
use Rattle.code_rules.specs.Machine.{texts_by}
use Rattle.emitted_code.specs.Views.{texts_of}
use Rattle.code_steps.proofs.Texts.{fails_first, line_text}
use Rattle.code_steps.proofs.lines.line_value.Goals as goal

pub returns-in_err-add_texts : goal.returns-in_err-add_texts
returns-in_err-add_texts c = λ s.
    let p = err_from_is_err_and c.from_residual.result c.from_residual.ensures.1 in
    let ts = texts_by (texts_of c.args.names.now) (map datum_of c.args.values.now) in
    let why = c.in_err-add_texts.field-0.0 in
    rw (p.1, p.2) (fails_first why (line_of [] ts) (λ w. Ok (datum.text w)) s
    (subst (λ b. Fails why (gives (line_of b ts) s)) c.new-line.ensures.bytes (c.in_err-add_texts.ensures {u = tt} s)))

pub returns : goal.returns
returns c = λ s.
    let ts = texts_by (texts_of c.args.names.now) (map datum_of c.args.values.now) in
    let line = string_bytes c.add_texts.new.line in
    line_text line (line_of [] ts) s (subst (λ b. gives (line_of b ts) s ≡ Goes line s) c.new-line.ensures.bytes (c.in_ok-add_texts.ensures {u = tt} s))
    ∙ ap (λ w. Goes (datum.text w) s) (sym (c.in_ok-new.ensures {u = tt} ∙ c.new.ensures))
