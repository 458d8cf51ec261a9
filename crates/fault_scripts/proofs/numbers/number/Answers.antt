use Rattle.std.proofs.Common.{◌∙◌, sym}
use Rattle.fault_scripts.proofs.Numerals.{read_number, long, mixed, digits_utf8}
use Rattle.fault_scripts.proofs.numbers.number.Goals as goal
use Rattle.fault_scripts.proofs.numbers.number.Goals.{then-word-gt-NUMBER_DIGITS-via-then-word-gt-NUMBER_DIGITS, then-word-gt-NUMBER_DIGITS-via-else-word-gt-NUMBER_DIGITS+then-not-is_digits}

pub returns-then-word-gt-NUMBER_DIGITS : goal.returns-then-word-gt-NUMBER_DIGITS
returns-then-word-gt-NUMBER_DIGITS c =
    elim c.then-word-gt-NUMBER_DIGITS.branch [
      | then-word-gt-NUMBER_DIGITS-via-then-word-gt-NUMBER_DIGITS w ↦ sym (long c.args.word.now w.if-word-gt-NUMBER_DIGITS.true)
      | then-word-gt-NUMBER_DIGITS-via-else-word-gt-NUMBER_DIGITS+then-not-is_digits w ↦ sym (mixed c.args.word.now (sym w.is_digits.ensures ∙ w.if-not-is_digits.true))
    ]

pub returns-in-Ok : goal.returns-in-Ok
returns-in-Ok c =
    let text = c.in-Ok.ensures.cases.0 in
    c.ok.ensures.value ∙ read_number c.args.word.now c.parse.result (rw text at c.parse.ensures.value.0) c.if-word-gt-NUMBER_DIGITS.false (sym c.is_digits.ensures ∙ c.if-not-is_digits.false)

pub returns-in-Err : goal.returns-in-Err
returns-in-Err c = absurd (c.in-Err.ensures.cases.0 (digits_utf8 c.args.word.now (sym c.is_digits.ensures ∙ c.if-not-is_digits.false)))
