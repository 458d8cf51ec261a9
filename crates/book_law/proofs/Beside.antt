-- Lines are legal as before where some processes that have none of them have received more, and some objects that they don't call
-- have changed.
use Rattle.std.proofs.Common.{◌≡◌, ℕ, ◌+◌, inl, inr, List, [], ◌∷◌, length, refl, sym, ap, ◌∙◌}
use Rattle.std.specs.Prelude.{slice_get}
use Rattle.orca_base.specs.declared.ids.ObjectId.{ObjectId}
use Rattle.value_core.specs.declared.action.Line.{Line}
use Rattle.value_core.specs.Meaning.{Performs, Computes}
use Rattle.value_core.specs.History.{Configuration, IsStep, LegalFrom, after_line, after_lines, forked, object_at}
use Rattle.book_law.specs.Events.{Calls, In}
use Rattle.book_law.proofs.Objects.{agree, performed_on}
use Rattle.book_law.proofs.Processes.{after_length, after_pair}

-- d is c, but for these objects and these processes
pub record Beside (but : ObjectId → Type 0) (who : ℕ → Type 0) (c d : Configuration) : Type 0 where
  pub objects : (o : ObjectId) → (but o → ⊥) → object_at d.objects o ≡ object_at c.objects o
  pub count : length d.processes ≡ length c.processes
  pub others : (k : ℕ) → (who k → ⊥) → slice_get d.processes k ≡ slice_get c.processes k

-- none of these lines is of those processes, or calls those objects
abbrev pub Away : (ObjectId → Type 0) → (ℕ → Type 0) → List Line → Type 0
Away but who lines = (l : Line) → In l lines → (who l.process.0 → ⊥) × ((o : ObjectId) → Calls l.action o → but o → ⊥)

beside_line : (p : Performs) (but : ObjectId → Type 0) (who : ℕ → Type 0) (c d : Configuration) (line : Line) → (who line.process.0 → ⊥) → Beside but who c d → Beside but who (after_line p c line) (after_line p d line)
beside_line p but who c d line apart b = record {
  objects = λ o other. agree p d.objects c.objects line.action o (b.objects o other);
  count = after_length p d line ∙ ap (λ n. n + length (forked line.action)) b.count ∙ sym (after_length p c line);
  others = λ k other. after_pair p c d line k b.count (b.others line.process.0 apart) (b.others k other);
}

beside_step : (p : Performs) (q : Computes) (but : ObjectId → Type 0) (who : ℕ → Type 0) (c d : Configuration) (line : Line) → (who line.process.0 → ⊥) → ((o : ObjectId) → Calls line.action o → but o → ⊥) → Beside but who c d → IsStep p q c line → IsStep p q d line
beside_step p q but who c d line apart free b s = record {
  process = s.process;
  exists = b.others line.process.0 apart ∙ s.exists;
  call = s.call;
  next = s.next;
  performed = performed_on p c.objects d.objects line.action line.guard line.reply (λ o calls. sym (b.objects o (free o calls))) s.performed;
}

pub beside_legal : (p : Performs) (q : Computes) (but : ObjectId → Type 0) (who : ℕ → Type 0) (c d : Configuration) (lines : List Line) → Away but who lines → Beside but who c d → LegalFrom p q c lines → LegalFrom p q d lines
beside_legal p q but who c d [] away b legal = tt
beside_legal p q but who c d (l ∷ lines) away b legal =
    let n = away l (inl refl) in
    (beside_step p q but who c d l n.0 n.1 b legal.0, beside_legal p q but who (after_line p c l) (after_line p d l) lines (λ x h. away x (inr h)) (beside_line p but who c d l n.0 b) legal.1)

pub beside_after : (p : Performs) (but : ObjectId → Type 0) (who : ℕ → Type 0) (c d : Configuration) (lines : List Line) → Away but who lines → Beside but who c d → Beside but who (after_lines p c lines) (after_lines p d lines)
beside_after p but who c d [] away b = b
beside_after p but who c d (l ∷ lines) away b =
    let n = away l (inl refl) in
    beside_after p but who (after_line p c l) (after_line p d l) lines (λ x h. away x (inr h)) (beside_line p but who c d l n.0 b)
