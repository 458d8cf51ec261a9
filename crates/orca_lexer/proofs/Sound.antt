-- Each token of a text is sound.
use Rattle.std.proofs.Common.{◌≡◌, ℕ, ◌≤◌, Bool, true, false, cond, ◌||◌, List, [], ◌∷◌, Some, None, refl, sym, subst, arith}
use Rattle.std.specs.Prelude.{◌==◌, slice_range}
use Rattle.std.specs.List.{AllByRecursion, list_all}
use Rattle.std.proofs.lemmas.Bool.{and_from}
use Rattle.std.proofs.lemmas.Bool.Decides.{nat_tests}
use Rattle.orca_lexer.specs.declared.token.Token.{Token}
use Rattle.orca_lexer.specs.declared.token.TokenKind.{TokenKind}
use Rattle.orca_lexer.specs.declared.token.TokenKind.TheVariants.{Name, Number, Char, Text, Key, Sign}
use Rattle.orca_lexer.specs.Shapes.{is_word, content_of}
use Rattle.orca_lexer.specs.Tables.{keyword_of}
use Rattle.orca_lexer.specs.Contents.{escape_of, first_character, Spells}
use Rattle.orca_lexer.specs.Tokens.{Means, Follow, Tokens}
use Rattle.orca_lexer.specs.Spelling.{is_character, IsSound}
use Rattle.orca_lexer.proofs.LiteralLemmas.{FirstIs, first_is, plain_byte}
use Rattle.orca_lexer.proofs.LiteralLemmas.FirstIs.{plain, escape}

printable : (c : ℕ) → 32 ≤ c → c ≤ 126 → is_character c ≡ true
printable c low high = grind (arith, nat_tests)

escape_sound : (c code : ℕ) → escape_of c ≡ Some code → is_character code ≡ true
escape_sound c code e = sort (c == 110) (c == 116) (c == 92 || (c == 39 || c == 34)) refl refl refl e
  where
    sort : (p q r : Bool) → (c == 110) ≡ p → (c == 116) ≡ q → (c == 92 || (c == 39 || c == 34)) ≡ r → cond p (Some 10) (cond q (Some 9) (cond r (Some c) None)) ≡ Some code → is_character code ≡ true
    sort true q r is _ _ e = let same : 10 ≡ code = cc in subst (λ (n : ℕ). is_character n ≡ true) same refl
    sort false true r _ is _ e = let same : 9 ≡ code = cc in subst (λ (n : ℕ). is_character n ≡ true) same refl
    sort false false true _ _ is e =
        let same : c ≡ code = cc in
        let low : 32 ≤ c = grind (arith, nat_tests) in
        let high : c ≤ 126 = grind (arith, nat_tests) in
        printable code (omega arith) (omega arith)
    sort false false false _ _ _ e = absurd cc

first_sound : (quote : ℕ) (content : List ℕ) (code : ℕ) (rest : List ℕ) → first_character quote content ≡ Some (code, rest) → is_character code ≡ true
first_sound quote content code rest e = by_first (first_is quote content code rest e)
  where
    by_first : FirstIs quote content code rest → is_character code ≡ true
    by_first (plain _ h) = let byte = plain_byte quote code h in printable code byte.low byte.high
    by_first (escape c _ h) = escape_sound c code h

spells_sound : (quote : ℕ) (content xs : List ℕ) → Spells quote content xs → list_all is_character xs ≡ true
spells_sound quote content [] p = refl
spells_sound quote content (x ∷ xs) p = and_from (is_character x) (list_all is_character xs) (first_sound quote content x p.0 p.1) (spells_sound quote p.0 xs p.2)

pub means_sound : (word : List ℕ) (k : TokenKind) → Means word k → IsSound k
means_sound word (Name name) m =
    let same = sym m.2 in
    (subst (λ (w : List ℕ). is_word w ≡ true) same m.0, subst (λ (w : List ℕ). keyword_of w ≡ None) same m.1)
means_sound word (Number value) m = (_, m.1, m.2)
means_sound word (Char code) m = first_sound 39 (content_of word) code m.1.0 m.1.1
means_sound word (Text text) m = spells_sound 34 (content_of word) text m.1
means_sound word (Key _) m = tt
means_sound word (Sign _) m = tt

follow_sound : (text : List ℕ) (from : ℕ) (ts : List Token) → Follow text from ts → AllByRecursion (λ t. IsSound t.kind) ts
follow_sound text from [] p = tt
follow_sound text from (t ∷ ts) p = (means_sound (slice_range text t.start t.end) t.kind p.0.means, follow_sound text t.end ts p.1)

pub tokens_sound : (text : List ℕ) (ts : List Token) → Tokens text ts → AllByRecursion (λ t. IsSound t.kind) ts
tokens_sound text ts p = follow_sound text 0 ts p.follow
