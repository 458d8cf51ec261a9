-- What stands behind lines of a text.
use Rattle.std.proofs.Common.{◌≡◌, ℕ, suc, ◌+◌, List, arith, ap}
use Rattle.refusal_notes.specs.Excerpts.{behind_line, behind_lines}

-- behind one line more
pub behind_next : (n : ℕ) (text : List ℕ) → behind_lines (n + 1) text ≡ behind_line (behind_lines n text)
behind_next n text =
    let next : n + 1 ≡ suc n = omega arith in
    ap (λ (k : ℕ). behind_lines k text) next
