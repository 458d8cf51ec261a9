-- What is put piece by piece.
use Rattle.std.proofs.Common.{◌≡◌, ℕ, List, [], ◌++◌, sym, ap, subst, ◌∙◌, append_assoc}
use Rattle.std.specs.Str.{IsAscii}

-- one piece, and then the others
pub grow : (old between now a b : List ℕ) → between ≡ old ++ a → now ≡ between ++ b → now ≡ old ++ (a ++ b)
grow old between now a b first second = second ∙ ap (λ (t : List ℕ). t ++ b) first ∙ append_assoc old a b

-- six pieces
pub six : (o a b c d e f p q r s t u : List ℕ) → a ≡ o ++ p → b ≡ a ++ q → c ≡ b ++ r → d ≡ c ++ s → e ≡ d ++ t → f ≡ e ++ u →
    f ≡ o ++ (p ++ (q ++ (r ++ (s ++ (t ++ u)))))
six o a b c d e f p q r s t u one two three four five last =
    grow o a f p (q ++ (r ++ (s ++ (t ++ u)))) one
    (grow a b f q (r ++ (s ++ (t ++ u))) two
    (grow b c f r (s ++ (t ++ u)) three
    (grow c d f s (t ++ u) four
    (grow d e f t u five last))))

-- eight pieces
pub eight : (o a b c d e f g h p q r s t u v w : List ℕ) → a ≡ o ++ p → b ≡ a ++ q → c ≡ b ++ r → d ≡ c ++ s → e ≡ d ++ t → f ≡ e ++ u →
    g ≡ f ++ v → h ≡ g ++ w → h ≡ o ++ (p ++ (q ++ (r ++ (s ++ (t ++ (u ++ (v ++ w)))))))
eight o a b c d e f g h p q r s t u v w one two three four five more later last =
    grow o a h p (q ++ (r ++ (s ++ (t ++ (u ++ (v ++ w)))))) one
    (grow a b h q (r ++ (s ++ (t ++ (u ++ (v ++ w))))) two
    (six b c d e f g h r s t u v w three four five more later last))

-- three pieces
pub three_pieces : (o a b c p q r : List ℕ) → a ≡ o ++ p → b ≡ a ++ q → c ≡ b ++ r → c ≡ o ++ (p ++ (q ++ r))
three_pieces o a b c p q r one two last = grow o a c p (q ++ r) one (grow a b c q r two last)

-- what was put first is all, and it is ASCII
pub all_ascii : (new old text : List ℕ) → new ≡ old ++ text → old ≡ [] → IsAscii text → IsAscii new
all_ascii new old text grown empty low = subst IsAscii (sym (grown ∙ ap (λ (t : List ℕ). t ++ text) empty)) low
