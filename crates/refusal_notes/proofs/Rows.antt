-- Texts of a table, read.
use Rattle.std.proofs.Common.{◌≡◌, ℕ, ◌<◌, ◌≤◌, List, [], length, get_or, map, arith}
use Rattle.std.specs.Borrow.{Bor}
use Rattle.std.proofs.lemmas.List.{get_or-map, get_or_past, length-map}

pub row_read : (rows : List (Bor (List ℕ))) (n : ℕ) (d : Bor (List ℕ)) → n < length rows → get_or (map (λ (t : Bor (List ℕ)). t.now) rows) n [] ≡ (get_or rows n d).now
row_read rows n d lt = get_or-map (λ (t : Bor (List ℕ)). t.now) rows n d [] lt

pub row_past : (rows : List (Bor (List ℕ))) (n : ℕ) → length rows ≤ n → get_or (map (λ (t : Bor (List ℕ)). t.now) rows) n [] ≡ []
row_past rows n past = get_or_past (map (λ (t : Bor (List ℕ)). t.now) rows) n [] (omega (arith, past, length-map rows (λ (t : Bor (List ℕ)). t.now)))
