-- A text that is filled byte by byte.
use Rattle.std.proofs.Common.{◌≡◌, ℕ, suc, ◌+◌, ◌<◌, ◌≤◌, List, [], ◌∷◌, ◌++◌, length, get_or, take, append-nil, append_assoc, arith, sym, ap, ◌∙◌}
use Rattle.std.specs.List.{flat_map}
use Rattle.std.proofs.Math.Seq.{take-suc}
use Rattle.std.proofs.lemmas.List.{take_all}
use Rattle.std.proofs.lemmas.List.Concat.{flat_map-append}
use Rattle.refusal_notes.specs.Notes.{fill, filled}

-- one byte more
pub filled_next : (this text : List ℕ) (i : ℕ) → i < length text → filled this (take (i + 1) text) ≡ filled this (take i text) ++ fill this (get_or text i 0)
filled_next this text i lt =
    let next : i + 1 ≡ suc i = omega arith in
    ap (λ (k : ℕ). flat_map (fill this) (take k text)) next ∙ ap (flat_map (fill this)) (take-suc text i 0 lt)
    ∙ flat_map-append (fill this) (take i text) (get_or text i 0 ∷ []) ∙ ap (λ (l : List ℕ). flat_map (fill this) (take i text) ++ l) (append-nil (fill this (get_or text i 0)))

-- all bytes
pub filled_all : (this text : List ℕ) (i : ℕ) → length text ≤ i → filled this (take i text) ≡ filled this text
filled_all this text i past = ap (flat_map (fill this)) (take_all i text past)

-- what was put so far, with one byte more
pub put_next : (this text before now new : List ℕ) (i : ℕ) → i < length text → now ≡ before ++ filled this (take i text) → new ≡ now ++ fill this (get_or text i 0) → new ≡ before ++ filled this (take (i + 1) text)
put_next this text before now new i lt so_far put =
    put ∙ ap (λ (l : List ℕ). l ++ fill this (get_or text i 0)) so_far ∙ append_assoc before (filled this (take i text)) (fill this (get_or text i 0))
    ∙ ap (λ (l : List ℕ). before ++ l) (sym (filled_next this text i lt))
