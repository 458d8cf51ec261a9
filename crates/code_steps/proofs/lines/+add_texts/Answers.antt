use Rattle.std.proofs.Common.{◌≡◌, ◌≤◌, length, ap, ◌∙◌, arith}
use Rattle.std.specs.Prelude.{string_bytes}
use Rattle.std.proofs.lemmas.Result.{err_from_is_err_and}
use Rattle.meaning_rules.specs.States.{gives}
use Rattle.meaning_rules.specs.Statements.{line_of}
use Rattle.code_steps.proofs.Texts.{texts_more, texts_none, texts_stop}
use Rattle.code_steps.proofs.lines.+add_texts.Goals as goal

pub returns-in_err-append-in-len1-up-len1-up : goal.returns-in_err-append-in-len1-up-len1-up
returns-in_err-append-in-len1-up-len1-up t c = λ s.
    let p = err_from_is_err_and c.from_residual-in_err-append-in-len1-up-len1-up.result c.from_residual-in_err-append-in-len1-up-len1-up.ensures.1 in
    let names = c.args.names.now in
    let values = c.args.values.now in
    let low : 1 ≤ length names = grind arith in
    let high : 1 ≤ length values = grind arith in
    rw (p.1, p.2) (texts_stop c.in_err-append-in-len1-up-len1-up.field-0.0 names values c.first-item.result c.value-item.result (string_bytes c.args.line.now) c.as_str.result.now s
    low high c.first-item.is c.value-item.is (c.as_str.ensures ∙ c.in_ok-text-in-len1-up-len1-up.ensures {u = tt}) (c.in_err-append-in-len1-up-len1-up.ensures {u = tt} s))

pub returns-in-len1-up-empty : goal.returns-in-len1-up-empty
returns-in-len1-up-empty t c = λ s.
    let none : length c.args.values.now ≡ 0 = grind arith in
    ap (λ ts. gives (line_of (string_bytes c.args.line.now) ts) s) (texts_none c.args.names.now c.args.values.now none)

pub returns-in_ok-append-in-len1-up-len1-up : goal.returns-in_ok-append-in-len1-up-len1-up
returns-in_ok-append-in-len1-up-len1-up t c = λ s.
    let names = c.args.names.now in
    let values = c.args.values.now in
    let low : 1 ≤ length names = grind arith in
    let high : 1 ≤ length values = grind arith in
    texts_more c.add_texts.result names values c.first-item.result c.value-item.result (string_bytes c.args.line.now) (string_bytes c.append.new.line) (string_bytes c.add_texts.new.line)
    c.as_str.result.now s low high c.first-item.is c.value-item.is (c.as_str.ensures ∙ c.in_ok-text-in-len1-up-len1-up.ensures {u = tt}) (c.in_ok-append-in-len1-up-len1-up.ensures {u = tt} s)
    (c.add_texts.ensures s)
