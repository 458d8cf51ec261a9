use Rattle.std.proofs.Common.{List, ◌≤◌, ◌∙◌, ap, length, map, subst, sym}
use Rattle.std.specs.Prelude.{codes, string_bytes, ℕ}
use Rattle.orca_base.specs.declared.limits.TheConstants.{SOURCE_BYTES}
use Rattle.generated_program.specs.Program.{program_text, text_of}
use Rattle.generated_program.proofs.Texts.{text_short}
use Rattle.generated_program.proofs.program.program_source.Goals as goal

pub invariant_of-result : goal.invariant_of-result
unfolding program_text
invariant_of-result c = record {
  short = subst (λ (t : List ℕ). length t ≤ SOURCE_BYTES)
      (sym (c.in_ok-text.ensures ∙ (λ i. text_of (map string_bytes (c.deref.ensures.value i))) ∙ ap text_of c.in_ok-lines.ensures)) (text_short c.args.number);
}

pub returns : goal.returns
unfolding program_text
returns c =
    ap (λ (t : List ℕ). (codes "make", t))
    (c.in_ok-text.ensures ∙ (λ i. text_of (map string_bytes (c.deref.ensures.value i))) ∙ ap text_of c.in_ok-lines.ensures)
