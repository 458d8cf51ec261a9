-- What loops keep that read parts of one form, one after the other: `xs` are the parts that were read, `rest` the tokens that are left, and
-- `total` what reading gives from the beginning.
use Rattle.std.proofs.Common.{◌≡◌, ℕ, ◌<◌, ◌≤◌, Bool, true, false, not, List, [], ◌∷◌, ◌++◌, length, Ok, refl, sym, ap, ◌∙◌, append_assoc, arith, length-append}
use Rattle.std.proofs.lemmas.List.{append-nil}
use Rattle.std.specs.List.{flat_map}
use Rattle.orca_lexer.specs.declared.token.Symbol.{Symbol}
use Rattle.orca_lexer.specs.declared.token.TokenKind.TheVariants.{Sign}
use Rattle.orca_lexer.specs.declared.token.Token.{Token}
use Rattle.orca_grammar.specs.Forms.{Form, ◌⨾◌, Many, Mark, SignOf}
use Rattle.orca_grammar.specs.Rules.{sign, listed}
use Rattle.orca_grammar.specs.Reading.{comes, first, decided, nullable, Read, behind, ◌>>=◌, word_at}
use Rattle.orca_grammar.specs.Sets.{sets}
use Rattle.orca_grammar.specs.Grammar.{read}
use Rattle.orca_grammar.proofs.Steps.{form_shorter}
use Rattle.orca_grammar.proofs.Tests.{and_cases}
use Rattle.orca_tree.specs.Marks.{word, separated}
use Rattle.parse_exprs.specs.Gives.{Failure, Fails}
use Rattle.parse_exprs.proofs.Readings.{behind_none, goes_on, stops, breaks, both_second, both_read}

-- each part takes a token at least
pub shorter : (d : ℕ) (f : Form) (a : List Mark) (rest mid : List Token) → decided sets (Many f) ≡ true → read d f rest ≡ Ok (a, mid) → length mid < length rest
shorter d f a rest mid dec e =
    let p = and_cases (decided sets f) _ dec in
    let q = and_cases _ _ p.1 in
    form_shorter d f rest mid a p.0 (not_is (nullable f) q.0) e
  where
    not_is : (b : Bool) → not b ≡ true → b ≡ false
    not_is true h = absurd cc
    not_is false h = refl

-- ---- parts in a row

pub record Row {X : Type 0} (d : ℕ) (f : Form) (marks : X → List Mark) (xs : List X) (rest : List Token) (total : Read) : Type 0 where
  pub so_far : total ≡ behind (flat_map marks xs) (read d (Many f) rest)

pub flat_map-push : {X : Type 0} (marks : X → List Mark) (xs : List X) (x : X) → flat_map marks (xs ++ x ∷ []) ≡ flat_map marks xs ++ marks x
flat_map-push marks [] x = append-nil (marks x)
flat_map-push marks (y ∷ xs) x = ap (λ (ms : List Mark). marks y ++ ms) (flat_map-push marks xs x) ∙ sym (append_assoc (marks y) (flat_map marks xs) (marks x))

module _ {X : Type 0} {d : ℕ} {f : Form} {marks : X → List Mark} where
  pub row_begins : (ts : List Token) → Row d f marks [] ts (read d (Many f) ts)
  row_begins ts = record { so_far = sym (behind_none (read d (Many f) ts)) }

  -- behind a first part
  pub row_led : (x : X) (ts mid : List Token) → read d f ts ≡ Ok (marks x, mid) → Row d f marks (x ∷ []) mid (read d (f ⨾ Many f) ts)
  row_led x ts mid e = record {
    so_far = ap (λ (r : Read). r >>= (λ y. behind y.0 (read d (Many f) y.1))) e ∙ ap (λ (ms : List Mark). behind ms (read d (Many f) mid)) (sym (append-nil (marks x)));
  }

  pub row_more : {xs : List X} {rest : List Token} {total : Read} (x : X) (mid : List Token) → decided sets (Many f) ≡ true → comes (first sets f) rest ≡ true → read d f rest ≡ Ok (marks x, mid)
      → Row d f marks xs rest total → Row d f marks (xs ++ x ∷ []) mid total
  row_more {xs = xs} {rest = rest} {total = total} x mid dec c e row = record {
    so_far = goes_on d f (flat_map marks xs) rest total row.so_far (marks x) mid dec c e ∙ ap (λ (ms : List Mark). behind ms (read d (Many f) mid)) (sym (flat_map-push marks xs x));
  }

  pub row_ends : {xs : List X} {rest : List Token} {total : Read} → comes (first sets f) rest ≡ false → Row d f marks xs rest total → total ≡ Ok (flat_map marks xs, rest)
  row_ends {xs = xs} {rest = rest} {total = total} c row = stops d f (flat_map marks xs) rest total row.so_far c

  pub row_stops : {xs : List X} {rest : List Token} {total : Read} (h : Failure) → comes (first sets f) rest ≡ true → Fails h (read d f rest) → Row d f marks xs rest total → Fails h total
  row_stops {xs = xs} {rest = rest} {total = total} h c e row = breaks d f (flat_map marks xs) rest total row.so_far h c e

-- ---- parts with a separator between two

pub record Listed {X : Type 0} (d : ℕ) (s : Symbol) (f : Form) (marks : X → List Mark) (xs : List X) (rest : List Token) (total : Read) : Type 0 where
  pub some : 1 ≤ length xs
  pub so_far : total ≡ behind (separated (Sign s) marks xs) (read d (Many (sign s ⨾ f)) rest)

-- a part with the separator in front
abbrev pub later : {X : Type 0} → Symbol → (X → List Mark) → X → List Mark
later s marks x = word (Sign s) ∷ marks x

pub separated-push : {X : Type 0} (s : Symbol) (marks : X → List Mark) (xs : List X) (x : X) → 1 ≤ length xs → separated (Sign s) marks (xs ++ x ∷ []) ≡ separated (Sign s) marks xs ++ later s marks x
separated-push s marks [] x some = absurd (omega arith)
separated-push s marks (y ∷ xs) x some =
    ap (λ (ms : List Mark). marks y ++ ms) (flat_map-push (later s marks) xs x) ∙ sym (append_assoc (marks y) (flat_map (later s marks) xs) (later s marks x))

module _ {X : Type 0} {d : ℕ} {s : Symbol} {f : Form} {marks : X → List Mark} where
  pub listed_begins : (x : X) (ts mid : List Token) → read d f ts ≡ Ok (marks x, mid) → Listed d s f marks (x ∷ []) mid (read d (listed (sign s) f) ts)
  listed_begins x ts mid e = record {
    some = omega arith;
    so_far = ap (λ (r : Read). r >>= (λ y. behind y.0 (read d (Many (sign s ⨾ f)) y.1))) e ∙ ap (λ (ms : List Mark). behind ms (read d (Many (sign s ⨾ f)) mid)) (sym (append-nil (marks x)));
  }

  pub listed_more : {xs : List X} {rest after : List Token} {total : Read} (x : X) (mid : List Token) → decided sets (Many (sign s ⨾ f)) ≡ true → comes (SignOf s ∷ []) rest ≡ true
      → word_at false (SignOf s) rest ≡ Ok (word (Sign s) ∷ [], after) → read d f after ≡ Ok (marks x, mid) → Listed d s f marks xs rest total → Listed d s f marks (xs ++ x ∷ []) mid total
  listed_more {xs = xs} {rest = rest} {after = after} {total = total} x mid dec c p e l = record {
    some = omega (arith, length-append xs (x ∷ []));
    so_far =
        goes_on d (sign s ⨾ f) (separated (Sign s) marks xs) rest total l.so_far (later s marks x) mid dec c (both_read d (sign s) f rest (word (Sign s) ∷ []) after p (marks x) mid e)
        ∙ ap (λ (ms : List Mark). behind ms (read d (Many (sign s ⨾ f)) mid)) (sym (separated-push s marks xs x l.some));
  }

  pub listed_ends : {xs : List X} {rest : List Token} {total : Read} → comes (SignOf s ∷ []) rest ≡ false → Listed d s f marks xs rest total → total ≡ Ok (separated (Sign s) marks xs, rest)
  listed_ends {xs = xs} {rest = rest} {total = total} c l = stops d (sign s ⨾ f) (separated (Sign s) marks xs) rest total l.so_far c

  pub listed_stops : {xs : List X} {rest after : List Token} {total : Read} (h : Failure) → comes (SignOf s ∷ []) rest ≡ true → word_at false (SignOf s) rest ≡ Ok (word (Sign s) ∷ [], after) → Fails h (read d f after)
      → Listed d s f marks xs rest total → Fails h total
  listed_stops {xs = xs} {rest = rest} {after = after} {total = total} h c p e l =
      breaks d (sign s ⨾ f) (separated (Sign s) marks xs) rest total l.so_far h c (both_second d (sign s) f rest (word (Sign s) ∷ []) after p h e)
