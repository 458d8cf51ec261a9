use Rattle.std.proofs.Common.{◌∙◌, sym, true≢false}
use Rattle.std.proofs.lemmas.Bool.Decides.{Decides-eqb}
use Rattle.std.proofs.lemmas.Slice.Eq.{slice_eq-Decides}
use Rattle.program_notes.specs.Faults as faults
use Rattle.program_notes.proofs.faults.link_cause.Goals as goal

pub returns-then-error-ne-DEFINED_TWICE : goal.returns-then-error-ne-DEFINED_TWICE
returns-then-error-ne-DEFINED_TWICE c = faults.breach (λ one. absurd (c.if-error-ne-DEFINED_TWICE.true one))

pub returns-then-eq : goal.returns-then-eq
returns-then-eq c = faults.breach (λ one. (slice_eq-Decides Decides-eqb _ _ _ c.eq.ensures).0 c.if-eq.true ∙ c.as_bytes.ensures)

pub returns : goal.returns
returns c =
    faults.mains c.if-error-ne-DEFINED_TWICE.false
    (λ same. true≢false (sym ((slice_eq-Decides Decides-eqb _ _ _ c.eq.ensures).1 (same ∙ sym c.as_bytes.ensures)) ∙ c.if-eq.false))
