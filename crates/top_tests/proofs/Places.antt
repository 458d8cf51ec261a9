-- A text that stands in another, found by trying each place.
use Rattle.std.proofs.Common.{◌≡◌, ◌∙◌, ℕ, suc, List, [], ◌∷◌, ◌++◌, length, take, drop, ap, sym, take-append-drop}
use Rattle.std.specs.Prelude.{if◌then◌else◌}
use Rattle.std.specs.Str.{bytes_eq}
use Rattle.std.specs.Str.Iter.{HasSubslice}

-- the first place at which the word stands
abbrev pub place_of : List ℕ → List ℕ → ℕ
place_of word [] = 0
place_of word (c ∷ text) = if bytes_eq (take (length word) (c ∷ text)) word then 0 else suc (place_of word text)

stands_at : (text word : List ℕ) (n : ℕ) → take (length word) (drop n text) ≡ word → HasSubslice text word
stands_at text word n is =
    let rest = drop (length word) (drop n text) in
    let behind : drop n text ≡ word ++ rest = sym (take-append-drop (length word) (drop n text)) ∙ ap (λ (w : List ℕ). w ++ rest) is in
    (take n text, rest, sym (take-append-drop n text) ∙ ap (λ (l : List ℕ). take n text ++ l) behind)

pub stands : (text word : List ℕ) → take (length word) (drop (place_of word text) text) ≡ word → HasSubslice text word
stands text word is = stands_at text word (place_of word text) is
