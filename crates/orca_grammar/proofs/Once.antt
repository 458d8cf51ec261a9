-- One list of tokens has one derivation, however deep it nests.
use Rattle.std.proofs.Common.{◌≡◌, ℕ, zero, suc, ◌+◌, ◌≤◌, List, [], ◌∷◌, None, Ok, refl, sym, ap, ◌∙◌, arith}
use Rattle.orca_lexer.specs.declared.token.Token.{Token}
use Rattle.orca_grammar.specs.Forms.{Phrase, Chain, Mark, Spelled, Begin, End, first_deep, one_later}
use Rattle.orca_grammar.specs.Rules.{rule, unit}
use Rattle.orca_grammar.specs.Sets.{sets}
use Rattle.orca_grammar.specs.Grammar.{IsText}
use Rattle.orca_grammar.proofs.Decided.{unit_decided}
use Rattle.orca_grammar.proofs.Steps.{checked}
use Rattle.orca_grammar.proofs.Takes.{reads, ok_pair}
use Rattle.orca_grammar.proofs.Again.{again, judged}

-- how many nested phrases begin
abbrev begins : List Mark → ℕ
begins [] = 0
begins (Spelled at kind ∷ ms) = begins ms
begins (Begin (Phrase n) ∷ ms) = begins ms + 1
begins (Begin (Chain l) ∷ ms) = begins ms
begins (End b ∷ ms) = begins ms

-- where so many levels are left, none is too deep
none_deep : (ms : List Mark) (d : ℕ) → begins ms ≤ d → first_deep ms d ≡ None
none_deep [] d le = refl
none_deep (Spelled at kind ∷ ms) d le = ap one_later (none_deep ms d le)
none_deep (Begin (Phrase n) ∷ ms) zero le = absurd (omega arith)
none_deep (Begin (Phrase n) ∷ ms) (suc d) le = none_deep ms d (omega arith)
none_deep (Begin (Chain l) ∷ ms) d le = none_deep ms d le
none_deep (End (Phrase n) ∷ ms) d le = none_deep ms (suc d) (omega arith)
none_deep (End (Chain l) ∷ ms) d le = none_deep ms d le

read_at : (ms : List Mark) (tokens : List Token) (d : ℕ) → IsText ms tokens → begins ms ≤ d → reads sets rule d unit tokens ≡ Ok (ms, [])
read_at ms tokens d text le = again sets rule checked d text unit_decided refl ∙ ap (λ o. judged o ms tokens []) (none_deep ms d le)

pub once : (tokens : List Token) (one two : List Mark) → IsText one tokens → IsText two tokens → one ≡ two
once tokens one two p q =
    let d = begins one + begins two in
    (ok_pair one two [] [] (sym (read_at one tokens d p (omega arith)) ∙ read_at two tokens d q (omega arith))).0
