-- The tokens of marks, part by part.
use Rattle.std.proofs.Common.{◌≡◌, ◌≢◌, ℕ, zero, suc, ◌+◌, ◌<◌, length, get_or, drop, List, [], ◌∷◌, ◌++◌, refl, sym, ap, ◌∙◌, append_assoc, append-nil, Result, subst}
use Rattle.std.proofs.lemmas.Grind.{common_steps}
use Rattle.std.specs.List.{flat_map}
use Rattle.std.specs.Result.{OnOk}
use Rattle.orca_base.specs.declared.refusal.NoMemory.{NoMemory}
use Rattle.orca_lexer.specs.declared.token.TokenKind.{TokenKind}
use Rattle.orca_grammar.specs.Forms.{Bracket, Mark, Spelled, Begin, End, bracketed, spelled}

pub spelled_append : (a b : List Mark) → spelled (a ++ b) ≡ spelled a ++ spelled b
spelled_append [] b = refl
spelled_append (Spelled at kind ∷ ms) b = ap (λ (ks : List TokenKind). kind ∷ ks) (spelled_append ms b)
spelled_append (Begin c ∷ ms) b = spelled_append ms b
spelled_append (End c ∷ ms) b = spelled_append ms b

pub spelled_bracketed : (b : Bracket) (ms : List Mark) → spelled (bracketed b ms) ≡ spelled ms
spelled_bracketed b ms = spelled_append ms (End b ∷ []) ∙ append-nil (spelled ms)

pub spelled_flat_map : {X : Type 0} (f : X → List Mark) (xs : List X) → spelled (flat_map f xs) ≡ flat_map (λ x. spelled (f x)) xs
spelled_flat_map f [] = refl
spelled_flat_map f (x ∷ xs) = spelled_append (f x) (flat_map f xs) ∙ ap (λ (ks : List TokenKind). spelled (f x) ++ ks) (spelled_flat_map f xs)

-- what a function that puts words makes use of, and a loop that does
pub ruleset spelling = (spelled_append, append_assoc, append-nil)

pub ruleset spelling_steps = (spelling, common_steps)

-- words that were put under one name were put under an equal one
pub put_as : (r : Result (Unit {0}) NoMemory) (old new ks js : List TokenKind) → ks ≡ js → OnOk r (new ≡ old ++ js) → OnOk r (new ≡ old ++ ks)
put_as r old new ks js same put = subst (λ (ws : List TokenKind). OnOk r (new ≡ old ++ ws)) (sym same) put

-- words that were put behind others
pub put_after : (r : Result (Unit {0}) NoMemory) (old mid new js ks : List TokenKind) → mid ≡ old ++ js → OnOk r (new ≡ mid ++ ks) → OnOk r (new ≡ old ++ (js ++ ks))
put_after r old mid new js ks first then =
    subst (λ (ws : List TokenKind). OnOk r (new ≡ ws)) (ap (λ (ws : List TokenKind). ws ++ ks) first ∙ append_assoc old js ks) then
