use Rattle.std.proofs.Common.{◌∙◌, sym, []}
use Rattle.std.proofs.lemmas.List.{append-nil}
use Rattle.value_texts.specs.Spelling.{value_text}
use Rattle.value_texts.proofs.Facts.{not_empty}
use Rattle.value_texts.proofs.reading.read_value.Goals as goal

pub returns-then-not-is_empty-clause-only : goal.returns-then-not-is_empty-clause-only
returns-then-not-is_empty-clause-only c =
    λ v sound is.
    let e = c.in_ok-value.ensures.only v [] sound tt (is ∙ sym (append-nil (value_text v))) in
    absurd (not_empty c.in_ok-value.rest.now e.1 (sym c.is_empty.ensures ∙ c.if-not-is_empty.true))
