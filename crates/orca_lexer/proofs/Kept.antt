-- What was put stands behind what was there.
use Rattle.std.proofs.Common.{ℕ, ◌≤◌, List, ◌++◌, length, take, sym, ap, ◌∙◌, arith, length-take}
use Rattle.std.proofs.lemmas.List.{take-take}
use Rattle.std.proofs.Math.Seq.{take-append_seam, take-length}
use Rattle.orca_lexer.specs.Fronts.{StillBegins}

pub kept_append : (a b : List ℕ) → StillBegins a (a ++ b)
kept_append a b = record { front = take-append_seam a b }

pub kept_self : (a : List ℕ) → StillBegins a a
kept_self a = record { front = take-length a }

pub kept_twice : (a b c : List ℕ) → StillBegins a b → StillBegins b c → StillBegins a c
kept_twice a b c p q =
    let short : length a ≤ length b = omega (arith, ap length p.front, length-take (length a) b) in
    record { front = sym (take-take (length a) (length b) c short) ∙ ap (λ l. take (length a) l) q.front ∙ p.front }
