-- What was printed, one put on: of a text of several pieces a front was put, and its rest is left.
use Rattle.std.proofs.Common.{◌≡◌, ℕ, suc, ◌+◌, ◌<◌, List, [], ◌∷◌, ◌++◌, length, get_or, take, drop, add-one, drop-cons, Option, Some, None, refl, sym, ap, ◌∙◌, subst, inl, inr, arith, append_assoc, take-append-drop, true}
use Rattle.std.specs.List.{flat_map}
use Rattle.std.specs.Prelude.{◌==◌, Ok, Err}
use Rattle.std.proofs.lemmas.Bool.Decides.{nat_tests}
use Rattle.std.proofs.lemmas.List.{append-nil}
use Rattle.orca_io.specs.declared.sink.SinkFault.{SinkFault}
use Rattle.orca_io.specs.declared.sink.SinkFault.TheVariants as faults
use Rattle.orca_io.specs.Sinks.{Puts}
use Rattle.command_output.specs.declared.statuses.TheConstants.{WRITE_FAULT}
use Rattle.command_output.specs.Printed.{Grew, WroteOf, Ends}

-- the told bytes grew by the front of a text in front of this rest
abbrev pub GrewUpTo : Option (List ℕ) → Option (List ℕ) → List ℕ → List ℕ → Type 0
GrewUpTo old new whole rest = Grew old new (λ t. whole ≡ t ++ rest)

pub grew_none : (told : Option (List ℕ)) (whole : List ℕ) → GrewUpTo told told whole whole
grew_none None whole = refl
grew_none (Some old) whole = ([], sym (append-nil old), refl)

-- one piece more
pub grew_put : (first old new : Option (List ℕ)) (whole piece rest : List ℕ) → GrewUpTo first old whole (piece ++ rest) → Puts old new piece (Ok tt) → GrewUpTo first new whole rest
grew_put None None new whole piece rest h p = p
grew_put None (Some old) new whole piece rest h p = absurd cc
grew_put (Some first) None new whole piece rest h p = absurd h
grew_put (Some first) (Some old) None whole piece rest h p = absurd p
grew_put (Some first) (Some old) (Some new) whole piece rest h p =
    (h.0 ++ piece, p ∙ ap (λ (l : List ℕ). l ++ piece) h.1 ∙ append_assoc first h.0 piece, h.2 ∙ sym (append_assoc h.0 piece rest))

-- a piece that was not put whole: a front of the text was
pub grew_fault : (first old new : Option (List ℕ)) (whole piece rest : List ℕ) (fault : SinkFault) → GrewUpTo first old whole (piece ++ rest) → Puts old new piece (Err fault) → Grew first new (WroteOf (Err fault) whole)
grew_fault None None new whole piece rest fault h p = p
grew_fault None (Some old) new whole piece rest fault h p = absurd cc
grew_fault (Some first) None new whole piece rest fault h p = absurd h
grew_fault (Some first) (Some old) None whole piece rest fault h p = absurd p
grew_fault (Some first) (Some old) (Some new) whole piece rest faults.Failed h p = (
  h.0 ++ take p.0 piece,
  p.1 ∙ ap (λ (l : List ℕ). l ++ take p.0 piece) h.1 ∙ append_assoc first h.0 (take p.0 piece),
  (
    drop p.0 piece ++ rest,
    h.2 ∙ ap (λ (l : List ℕ). h.0 ++ (l ++ rest)) (sym (take-append-drop p.0 piece))
        ∙ ap (λ (l : List ℕ). h.0 ++ l) (append_assoc (take p.0 piece) (drop p.0 piece) rest) ∙ sym (append_assoc h.0 (take p.0 piece) (drop p.0 piece ++ rest)),
  ),
)
grew_fault (Some first) (Some old) (Some new) whole piece rest faults.NoMemory h p = (h.0, p ∙ h.1, (piece ++ rest, h.2))

-- where nothing more is put, a front of the text was
pub grew_front : (first old : Option (List ℕ)) (whole rest : List ℕ) (fault : SinkFault) → GrewUpTo first old whole rest → Grew first old (WroteOf (Err fault) whole)
grew_front None old whole rest fault h = h
grew_front (Some first) None whole rest fault h = h
grew_front (Some first) (Some old) whole rest fault h = (h.0, h.1, (rest, h.2))

-- and where nothing is left, all of it
pub grew_all : (first old : Option (List ℕ)) (whole rest : List ℕ) → rest ≡ [] → GrewUpTo first old whole rest → Grew first old (WroteOf (Ok tt) whole)
grew_all None old whole rest e h = h
grew_all (Some first) None whole rest e h = h
grew_all (Some first) (Some old) whole rest e h = (h.0, h.1, sym (h.2 ∙ ap (λ (l : List ℕ). h.0 ++ l) e ∙ append-nil h.0))

-- ---- a text that is written for each of some items

-- an item's piece, and those behind it
pub pieces_drop : {A : Type 0} (text : A → List ℕ) (xs : List A) (i : ℕ) (x : A) → i < length xs → x ≡ get_or xs i x → flat_map text (drop i xs) ≡ text x ++ flat_map text (drop (suc i) xs)
pieces_drop text xs i x less is = ap (flat_map text) (drop-cons xs i x less) ∙ ap (λ a. text a ++ flat_map text (drop (suc i) xs)) (sym is)

piece_left : {A : Type 0} (text : A → List ℕ) (first old : Option (List ℕ)) (xs : List A) (i : ℕ) (x : A) (piece : List ℕ) → i < length xs → x ≡ get_or xs i x → piece ≡ text x → GrewUpTo first old (flat_map text xs) (flat_map text (drop i xs)) →
    GrewUpTo first old (flat_map text xs) (piece ++ flat_map text (drop (suc i) xs))
piece_left text first old xs i x piece less is says told = subst (GrewUpTo first old (flat_map text xs))
    (pieces_drop text xs i x less is ∙ ap (λ (t : List ℕ). t ++ flat_map text (drop (suc i) xs)) (sym says)) told

-- one item more
pub grew_item : {A : Type 0} (text : A → List ℕ) (first old new : Option (List ℕ)) (xs : List A) (i : ℕ) (x : A) (piece : List ℕ) → i < length xs → x ≡ get_or xs i x → piece ≡ text x → GrewUpTo first old (flat_map text xs) (flat_map text (drop i xs)) →
    Puts old new piece (Ok tt) → GrewUpTo first new (flat_map text xs) (flat_map text (drop (i + 1) xs))
grew_item text first old new xs i x piece less is says told puts = subst (λ (k : ℕ). GrewUpTo first new (flat_map text xs) (flat_map text (drop k xs))) (sym (add-one i))
    (grew_put first old new (flat_map text xs) piece (flat_map text (drop (suc i) xs)) (piece_left text first old xs i x piece less is says told) puts)

-- and one that was not put whole
pub grew_item_fault : {A : Type 0} (text : A → List ℕ) (first old new : Option (List ℕ)) (xs : List A) (i : ℕ) (x : A) (piece : List ℕ) (fault : SinkFault) → i < length xs → x ≡ get_or xs i x → piece ≡ text x → GrewUpTo first old (flat_map text xs) (flat_map text (drop i xs)) →
    Puts old new piece (Err fault) → Grew first new (WroteOf (Err fault) (flat_map text xs))
grew_item_fault text first old new xs i x piece fault less is says told puts =
    grew_fault first old new (flat_map text xs) piece (flat_map text (drop (suc i) xs)) fault (piece_left text first old xs i x piece less is says told) puts

-- ---- a piece by itself

pub empty_is : {A : Type 0} → (l : List A) → true ≡ (length l == 0) → l ≡ []
empty_is [] h = refl
empty_is (x ∷ l) h = absurd (grind (arith, nat_tests))

pub puts_none : (told : Option (List ℕ)) (piece : List ℕ) → true ≡ (length piece == 0) → Puts told told piece (Ok tt)
puts_none None piece e = refl
puts_none (Some old) piece e = sym (ap (λ (l : List ℕ). old ++ l) (empty_is piece e) ∙ append-nil old)

pub put_failed : (old new : Option (List ℕ)) (piece : List ℕ) (status : ℕ) → Puts old new piece (Err faults.Failed) → Grew old new (Ends status WRITE_FAULT piece)
put_failed None new piece status h = h
put_failed (Some old) None piece status h = h
put_failed (Some old) (Some new) piece status h = (take h.0 piece, h.1, inr (inl refl, (drop h.0 piece, sym (take-append-drop h.0 piece))))
