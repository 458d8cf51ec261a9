-- Tokens that are found, and those that are not.
use Rattle.std.proofs.Common.{◌≡◌, ◌-◌, ◌≤◌, Bool, true, false, List, [], ◌∷◌, length, take, drop, get_or, Some, None, Ok, sym, ap, ◌∙◌, arith}
use Rattle.std.proofs.lemmas.List.{drop_more, take_all, length-drop}
use Rattle.std.specs.Prelude.{◌||◌, if◌then◌else◌}
use Rattle.orca_lexer.specs.declared.token.Keyword.{Keyword}
use Rattle.orca_lexer.specs.declared.token.TokenKind.{TokenKind}
use Rattle.orca_lexer.specs.declared.token.TokenKind.TheVariants.{Name, Number, Char, Text, Key, Sign}
use Rattle.orca_lexer.specs.declared.token.Token.{Token}
use Rattle.orca_lexer.specs.contracts.token.Keyword as keyword
use denote.Enum.Bare.{same_true}
use Rattle.orca_grammar.specs.Forms.{KeyOf, is, Spelled, mark_of}
use Rattle.orca_grammar.specs.Reading.{comes, Read, bad, Unexpected, word_at}

-- a list of at least one token is its first and those behind it
pub first_and_rest : (ts : List Token) (t : Token) → 1 ≤ length ts → t ≡ get_or ts 0 t → ts ≡ t ∷ take (length ts - 1) (drop 1 ts)
first_and_rest ts t some e =
    let one : ts ≡ get_or ts 0 t ∷ drop 1 ts = drop_more ts 0 t (omega arith) in
    let all : take (length ts - 1) (drop 1 ts) ≡ drop 1 ts = take_all (length ts - 1) (drop 1 ts) (omega (arith, length-drop {A = Token})) in
    one ∙ (λ i. sym e i ∷ sym all i)

-- a keyword or a symbol that was found is this one
pub key_is : (w : Keyword) (kind : TokenKind) → is (KeyOf w) kind ≡ true → kind ≡ Key w
key_is w (Key v) e = ap Key (same_true keyword.the_type tt v w e)
key_is w (Sign s) e = absurd cc
key_is w (Name n) e = absurd cc
key_is w (Number n) e = absurd cc
key_is w (Char n) e = absurd cc
key_is w (Text n) e = absurd cc

pub key_found : (keeps : Bool) (w : Keyword) (ts : List Token) (t : Token) → 1 ≤ length ts → t ≡ get_or ts 0 t → is (KeyOf w) t.kind ≡ true
    → word_at keeps (KeyOf w) ts ≡ Ok (Spelled (if keeps then Some t.at else None) (Key w) ∷ [], take (length ts - 1) (drop 1 ts))
key_found keeps w ts t some e found =
    let rest = take (length ts - 1) (drop 1 ts) in
    ap (word_at keeps (KeyOf w)) (first_and_rest ts t some e)
    ∙ ap (λ b. let r : Read = if b then Ok (mark_of keeps t ∷ [], rest) else bad Unexpected (t ∷ rest) in r) found
    ∙ ap (λ (kind : TokenKind). let r : Read = Ok (Spelled (if keeps then Some t.at else None) kind ∷ [], rest) in r) (key_is w t.kind found)

pub key_comes : (w : Keyword) (ts : List Token) (t : Token) → 1 ≤ length ts → t ≡ get_or ts 0 t → is (KeyOf w) t.kind ≡ true → comes (KeyOf w ∷ []) ts ≡ true
key_comes w ts t some e found = ap (comes (KeyOf w ∷ [])) (first_and_rest ts t some e) ∙ ap (λ b. b || false) found
