use Rattle.std.proofs.Common.{List, [], length, sym, subst, ◌∙◌, Ok}
use Rattle.std.proofs.lemmas.Result.{IfOk-weaker}
use Rattle.value_core.specs.Datum.{Datum, list_of}
use Rattle.value_core.specs.Datum as datum
use Rattle.value_core.specs.View.{datum_of}
use Rattle.meaning_rules.specs.Operators.{and_then}
use Rattle.meaning_rules.specs.States.{State, gives}
use Rattle.meaning_rules.specs.Statements.{line_of}
use Rattle.frame_variables.specs.Gives.{Gives}
use Rattle.code_rules.specs.Machine.{texts_by}
use Rattle.emitted_code.specs.Views.{texts_of}
use Rattle.code_steps.proofs.Popping.{has_values, no_values}
use Rattle.code_steps.proofs.Arriving.{made}
use Rattle.code_steps.proofs.Texts.{counted, lines, lines_not}
use Rattle.code_steps.proofs.lines.join_line.Goals as goal

pub returns-in_default : goal.returns-in_default
returns-in_default c = λ locals code home.
    let old = c.args.stack.now in
    let names = c.args.names.now in
    let st = c.pop_many.new.self in
    lines_not code home (texts_of names) (length names) old st locals [] (sym (counted names))
    (no_values c.in_ok-values.field-0 (length names) old st (c.in_ok-values.ensures {u = tt}) c.in_default.is)

pub returns : goal.returns
returns c =
    let old = c.args.stack.now in
    let names = c.args.names.now in
    let st = c.pop_many.new.self in
    let values = list_of c.in-Some.values in
    let line = c.line_value.result in
    let make : (xs : List Datum) → Type 0 = λ xs. (s : State) → Gives datum_of line s (gives (and_then (line_of [] (texts_by (texts_of names) xs)) (λ w. Ok (datum.text w))) s) in
    IfOk-weaker c.push_made.result _ _
    (λ a p locals code home. lines code home (texts_of names) (length names) old st locals values (sym (counted names)) (has_values c.in_ok-values.field-0 (length names) old st (c.in_ok-values.ensures {u = tt}) c.in-Some.values c.in-Some.is)
    ∙ made home old st c.push_made.new.stack locals a line (and_then (line_of [] (texts_by (texts_of names) values)) (λ w. Ok (datum.text w)))
    (subst make c.as_slice.ensures c.line_value.ensures) p)
    c.push_made.ensures
