-- A table, one row on.
use Rattle.std.proofs.Common.{◌≡◌, ℕ, ◌+◌, ◌<◌, cond, List, length, get_or, drop, map, Bor, Some, sym, ap, ◌∙◌}
use Rattle.std.specs.Str.{bytes_eq}
use Rattle.std.proofs.lemmas.List.{at_drop_more}
use Rattle.fault_scripts.specs.Words.{entry_of}

pub entry_of-drop : {X : Type 0} (rows : List (Bor (List ℕ) × X)) (i : ℕ) (row : Bor (List ℕ) × X) (word : List ℕ) → i < length rows → row ≡ get_or rows i row →
    entry_of (map (λ e. (e.0.now, e.1)) (drop i rows)) word ≡ cond (bytes_eq row.0.now word) (Some row.1) (entry_of (map (λ e. (e.0.now, e.1)) (drop (i + 1) rows)) word)
entry_of-drop {X} rows i row word below is =
    at_drop_more (λ (rs : List (Bor (List ℕ) × X)). entry_of (map (λ e. (e.0.now, e.1)) rs) word) rows i row below
    ∙ ap (λ (e : Bor (List ℕ) × X). cond (bytes_eq e.0.now word) (Some e.1) (entry_of (map (λ e. (e.0.now, e.1)) (drop (i + 1) rows)) word)) (sym is)
