use Rattle.std.proofs.Common.{◌∙◌, sym, true≢false}
use Rattle.std.proofs.lemmas.Bool.Decides.{Decides-eqb}
use Rattle.std.proofs.lemmas.Slice.Eq.{slice_eq-Decides}
use Rattle.program_notes.specs.Faults as faults
use Rattle.program_notes.proofs.causes.cause_of.Goals as goal

pub returns-in-Some : goal.returns-in-Some
returns-in-Some c = faults.lexical c.in-Some.rule c.in-Some.ensures.found

pub returns-then-eq : goal.returns-then-eq
returns-then-eq c = faults.ended ((slice_eq-Decides Decides-eqb _ _ _ c.eq.ensures).0 c.if-eq.true ∙ c.as_slice.ensures)

pub returns : goal.returns
returns c =
    faults.unexpected c.in_default.ensures.none
    (λ same. true≢false (sym ((slice_eq-Decides Decides-eqb _ _ _ c.eq.ensures).1 (same ∙ sym c.as_slice.ensures)) ∙ c.if-eq.false))
    c.in_ok-hint.hint
