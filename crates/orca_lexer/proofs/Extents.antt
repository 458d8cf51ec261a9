-- Where a literal ends: at its own quote, and at no other.
use Rattle.std.proofs.Common.{◌≡◌, ℕ, suc, ◌+◌, ◌<◌, ◌≤◌, Bool, true, false, cond, not, ◌&&◌, List, [], ◌∷◌, ◌++◌, length, take, drop, Option, Some, None, refl, sym, ap, ◌∙◌, subst, arith, length-append}
use Rattle.std.specs.Prelude.{◌==◌}
use Rattle.std.specs.Option.{option_map}
use Rattle.std.proofs.lemmas.Bool.{and_parts, and_from, eqb-true, eq-eqb}
use Rattle.std.proofs.lemmas.List.{length-take-le}
use Rattle.orca_lexer.specs.Shapes.{is_quote, content_len, is_last, is_literal, is_lexeme}
use Rattle.orca_lexer.specs.Tokens.{IsLongest, IsStart}
use Rattle.orca_lexer.specs.Refusal.{NoLexeme}
use Rattle.orca_lexer.specs.Fronts.{IsLiteralFront, IsUnclosed}
use Rattle.orca_lexer.proofs.Longest.{from_quote, literal_lexeme, no_empty_lexeme}

-- ---- the closing quote

-- one byte of a content: what `content_len` answers of it and of the bytes behind it
abbrev one_on : Bool → Bool → Option ℕ → Option ℕ
one_on feed closes behind = cond feed None (cond closes (Some 0) (option_map suc behind))

on_more : (b p : Bool) (x y : Option ℕ) (n : ℕ) → ((m : ℕ) → x ≡ Some m → y ≡ Some m) → one_on b p x ≡ Some n → one_on b p y ≡ Some n
on_more true p x y n f e = absurd cc
on_more false true x y n f e = e
on_more false false None y n f e = absurd cc
on_more false false (Some m) y n f e = ap (option_map suc) (f m refl) ∙ e

-- what stands behind the closing quote changes nothing
pub content_more : (escaped : Bool) (quote : ℕ) (bytes behind : List ℕ) (n : ℕ) → content_len escaped quote bytes ≡ Some n → content_len escaped quote (bytes ++ behind) ≡ Some n
content_more escaped quote [] behind n e = absurd cc
content_more escaped quote (c ∷ cs) behind n e =
    on_more (c == 10) (c == quote && not escaped) _ _ n (λ m h. content_more (c == 92 && not escaped) quote cs behind m h) e

on_within : (b p : Bool) (x : Option ℕ) (n len : ℕ) → ((m : ℕ) → x ≡ Some m → m < len) → one_on b p x ≡ Some n → n < suc len
on_within true p x n len f e = absurd cc
on_within false true x n len f e = let same : 0 ≡ n = cc in omega arith
on_within false false None n len f e = absurd cc
on_within false false (Some m) n len f e = let same : suc m ≡ n = cc in omega (arith, f m refl)

pub content_within : (escaped : Bool) (quote : ℕ) (bytes : List ℕ) (n : ℕ) → content_len escaped quote bytes ≡ Some n → n < length bytes
content_within escaped quote [] n e = absurd cc
content_within escaped quote (c ∷ cs) n e =
    on_within (c == 10) (c == quote && not escaped) _ n (length cs) (λ m h. content_within (c == 92 && not escaped) quote cs m h) e

on_cut : (b p : Bool) (x : Option ℕ) (n : ℕ) (y : ℕ → Option ℕ) → ((m : ℕ) → x ≡ Some m → y (suc m) ≡ Some m) → one_on b p x ≡ Some n → one_on b p (y n) ≡ Some n
on_cut true p x n y f e = absurd cc
on_cut false true x n y f e = e
on_cut false false None n y f e = absurd cc
on_cut false false (Some m) n y f e = let same : suc m ≡ n = cc in ap (λ k. option_map suc (y k)) (sym same) ∙ ap (option_map suc) (f m refl) ∙ e

-- up to the closing quote
pub content_cut : (escaped : Bool) (quote : ℕ) (bytes : List ℕ) (n : ℕ) → content_len escaped quote bytes ≡ Some n → content_len escaped quote (take (suc n) bytes) ≡ Some n
content_cut escaped quote [] n e = absurd cc
content_cut escaped quote (c ∷ cs) n e =
    on_cut (c == 10) (c == quote && not escaped) _ n (λ k. content_len (c == 92 && not escaped) quote (take k cs)) (λ m h. content_cut (c == 92 && not escaped) quote cs m h) e

-- ---- literals

pub record EndsAt (quote : ℕ) (bytes : List ℕ) : Type 0 where
  pub len : ℕ
  pub is : content_len false quote bytes ≡ Some len
  pub last : suc len ≡ length bytes

last_is : (o : Option ℕ) (len : ℕ) → is_last o len ≡ true → (n : ℕ) × (o ≡ Some n) × (suc n ≡ len)
last_is None len h = absurd cc
last_is (Some n) len h = (n, refl, eqb-true (suc n) len h)

pub literal_ends : (quote c : ℕ) (cs : List ℕ) → is_literal quote (c ∷ cs) ≡ true → EndsAt quote cs
literal_ends quote c cs l =
    let found = last_is (content_len false quote cs) (length cs) (and_parts (c == quote) (is_last (content_len false quote cs) (length cs)) l).1 in
    record { len = found.0; is = found.1; last = found.2 }

pub literal_from : (quote c : ℕ) (cs : List ℕ) (n : ℕ) → (c == quote) ≡ true → content_len false quote cs ≡ Some n → suc n ≡ length cs → is_literal quote (c ∷ cs) ≡ true
literal_from quote c cs n first e last = and_from (c == quote) (is_last (content_len false quote cs) (length cs)) first (rw e (eq-eqb (suc n) (length cs) last))

pub literal_long : (quote : ℕ) (word : List ℕ) → is_literal quote word ≡ true → 2 ≤ length word
literal_long quote [] l = absurd cc
literal_long quote (c ∷ cs) l = omega (arith, (literal_ends quote c cs l).last)

pub literal_longest : (quote : ℕ) (word rest : List ℕ) → is_quote quote ≡ true → is_literal quote word ≡ true → IsLongest word rest
literal_longest quote [] rest q l = absurd cc
literal_longest quote (c ∷ cs) rest q l = record { lexeme = literal_lexeme quote (c ∷ cs) q l; longest = none }
  where
    none : (more left : List ℕ) → rest ≡ more ++ left → is_lexeme ((c ∷ cs) ++ more) ≡ true → more ≡ []
    none [] left e longer = refl
    none (d ∷ m) left e longer =
        let first = (and_parts (c == quote) (is_last (content_len false quote cs) (length cs)) l).0 in
        let here = literal_ends quote c cs l in
        let there = literal_ends quote c (cs ++ d ∷ m) (from_quote quote c (cs ++ d ∷ m) q first longer) in
        let both = sym (content_more false quote cs (d ∷ m) here.len here.is) ∙ there.is in
        let same : here.len ≡ there.len = cc in
        absurd (omega (arith, here.last, there.last, length-append cs (d ∷ m)))

-- ---- at the front of a text

pub literal_begins : (quote : ℕ) (text : List ℕ) (n : ℕ) → is_quote quote ≡ true → IsStart (λ c. c == quote) text → content_len false quote (drop 1 text) ≡ Some n → IsLiteralFront quote text (n + 2)
literal_begins quote [] n q s e = absurd s
literal_begins quote (c ∷ cs) n q s e =
    let low = content_within false quote cs n e in
    let two : n + 2 ≡ suc (suc n) = omega arith in
    let is : is_literal quote (c ∷ take (suc n) cs) ≡ true = literal_from quote c (take (suc n) cs) n s (content_cut false quote cs n e) (sym (length-take-le (suc n) cs low)) in
    record {
      within = omega arith;
      is = rw two is;
      longest = literal_longest quote (take (n + 2) (c ∷ cs)) _ q (rw two is);
    }

-- a quote that is never closed begins no lexeme
pub unclosed_begins : (quote : ℕ) (text : List ℕ) → is_quote quote ≡ true → IsStart (λ c. c == quote) text → content_len false quote (drop 1 text) ≡ None → IsUnclosed text
unclosed_begins quote [] q s e = absurd s
unclosed_begins quote (c ∷ cs) q s e = record { quote = subst (λ (n : ℕ). is_quote n ≡ true) (sym (eqb-true c quote s)) q; none = none }
  where
    none : NoLexeme (c ∷ cs)
    none [] rest split l = omega (arith, no_empty_lexeme [] l)
    none (d ∷ ds) rest split l =
        let same : c ≡ d = cc in
        let others : cs ≡ ds ++ rest = cc in
        let first : (d == quote) ≡ true = subst (λ (n : ℕ). (n == quote) ≡ true) same s in
        let ends = literal_ends quote d ds (from_quote quote d ds q first l) in
        let more = ap (content_len false quote) others ∙ content_more false quote ds rest ends.len ends.is in
        cc
