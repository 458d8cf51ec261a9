-- The characters of literals, and where literals end.
use Rattle.std.proofs.Common.{◌≡◌, ℕ, ◌-◌, get_or, ◌+◌, ◌<◌, ◌≤◌, Bool, true, false, cond, not, ◌||◌, ◌&&◌, List, [], ◌∷◌, ◌++◌, length, Option, Some, None, refl, sym, ap, ◌∙◌, subst, arith, length-append, append_assoc}
use Rattle.std.specs.Prelude.{◌==◌, nat_le}
use Rattle.std.specs.Option.{option_map}
use Rattle.std.specs.Str.{IsAscii}
use Rattle.std.proofs.lemmas.Bool.{and_parts, or_parts, not-true, leb-true, eqb-true}
use Rattle.std.proofs.lemmas.Bool.Decides.{nat_tests}
use Rattle.std.proofs.lemmas.List.{append-nil, take_at, drop_at}
use Rattle.std.proofs.lemmas.Str.Ascii.{IsAscii-nil, IsAscii-cons}
use Rattle.orca_lexer.specs.Contents.{escape_of, is_plain, is_continuation, escaped_character, first_character, Spells, character_count}
use Rattle.orca_lexer.specs.Refusal.{IsWrongBehind}

-- ---- one character

abbrev pub code_in : ℕ → Option (ℕ × List ℕ) → ℕ
code_in d None = d
code_in d (Some p) = p.0

abbrev pub rest_in : Option (ℕ × List ℕ) → List ℕ
rest_in None = []
rest_in (Some p) = p.1

escape_ascii : (c code : ℕ) → escape_of c ≡ Some code → (c < 128) × (code < 128)
escape_ascii c code e = sort (c == 110) (c == 116) (c == 92 || (c == 39 || c == 34)) refl refl refl e
  where
    sort : (p q r : Bool) → (c == 110) ≡ p → (c == 116) ≡ q → (c == 92 || (c == 39 || c == 34)) ≡ r → cond p (Some 10) (cond q (Some 9) (cond r (Some c) None)) ≡ Some code → (c < 128) × (code < 128)
    sort true q r is _ _ e = let same : 10 ≡ code = cc in (omega (arith, eqb-true c 110 is), omega arith)
    sort false true r _ is _ e = let same : 9 ≡ code = cc in (omega (arith, eqb-true c 116 is), omega arith)
    sort false false true _ _ is e =
        let same : c ≡ code = cc in
        let low : c < 128 = grind (arith, nat_tests) in
        (low, omega arith)
    sort false false false _ _ _ e = absurd cc

-- an ASCII byte goes on with no character
not_continuation : (c : ℕ) → c < 128 → is_continuation c ≡ false
not_continuation c low = grind (arith, nat_tests)

pub record IsPlainByte (quote c : ℕ) : Type 0 where
  pub low : 32 ≤ c
  pub high : c ≤ 126
  pub no_backslash : (c == 92) ≡ false
  pub no_quote : (c == quote) ≡ false

pub plain_byte : (quote c : ℕ) → is_plain quote c ≡ true → IsPlainByte quote c
plain_byte quote c h =
    let parts = and_parts (nat_le 32 c && nat_le c 126) (not (c == 92 || c == quote)) h in
    let range = and_parts (nat_le 32 c) (nat_le c 126) parts.0 in
    let others = or_parts (c == 92) (c == quote) (not-true _ parts.1) in
    record { low = leb-true 32 c range.0; high = leb-true c 126 range.1; no_backslash = others.0; no_quote = others.1 }

-- the first character of a content: one that stands for itself, or an escape
pub data FirstIs (quote : ℕ) (content : List ℕ) (code : ℕ) (rest : List ℕ) : Type 0 where
  plain : content ≡ code ∷ rest → is_plain quote code ≡ true → FirstIs quote content code rest
  escape : (c : ℕ) → content ≡ 92 ∷ c ∷ rest → escape_of c ≡ Some code → FirstIs quote content code rest

pub plain_first : (quote c : ℕ) (cs : List ℕ) → is_plain quote c ≡ true → first_character quote (c ∷ cs) ≡ Some (c, cs)
plain_first quote c cs h = pick (c == 92) (is_plain quote c) (plain_byte quote c h).no_backslash h
  where
    pick : (b p : Bool) → b ≡ false → p ≡ true → cond b (escaped_character cs) (cond p (Some (c, cs)) None) ≡ Some (c, cs)
    pick true p e h = absurd cc
    pick false true e h = refl
    pick false false e h = absurd cc

pub escape_first : (quote c code : ℕ) (cs : List ℕ) → escape_of c ≡ Some code → first_character quote (92 ∷ c ∷ cs) ≡ Some (code, cs)
escape_first quote c code cs h = ap (option_map {T = ℕ} {U = ℕ × List ℕ} (λ x. (x, cs))) h

pub first_is : (quote : ℕ) (content : List ℕ) (code : ℕ) (rest : List ℕ) → first_character quote content ≡ Some (code, rest) → FirstIs quote content code rest
first_is quote [] code rest e = absurd cc
first_is quote (c ∷ cs) code rest e = sort (c == 92) (is_plain quote c) refl refl e
  where
    by_code : (d : ℕ) (ds : List ℕ) → c ≡ 92 → cs ≡ d ∷ ds → (o : Option ℕ) → escape_of d ≡ o → option_map {T = ℕ} {U = ℕ × List ℕ} (λ x. (x, ds)) o ≡ Some (code, rest) → FirstIs quote (c ∷ cs) code rest
    by_code d ds first same None found e = absurd cc
    by_code d ds first same (Some x) found e =
        let value : x ≡ code = ap (code_in x) e in
        let left : ds ≡ rest = ap rest_in e in
        escape d (λ i. first i ∷ (same ∙ ap (λ (l : List ℕ). d ∷ l) left) i) (found ∙ ap Some value)

    by_escape : c ≡ 92 → (ds : List ℕ) → cs ≡ ds → escaped_character ds ≡ Some (code, rest) → FirstIs quote (c ∷ cs) code rest
    by_escape first [] same e = absurd cc
    by_escape first (d ∷ ds) same e = by_code d ds first same (escape_of d) refl e

    sort : (b p : Bool) → (c == 92) ≡ b → is_plain quote c ≡ p → cond b (escaped_character cs) (cond p (Some (c, cs)) None) ≡ Some (code, rest) → FirstIs quote (c ∷ cs) code rest
    sort true p is h e = by_escape (eqb-true c 92 is) cs refl e
    sort false true is h e =
        let value : c ≡ code = ap (code_in c) e in
        let left : cs ≡ rest = ap rest_in e in
        plain (λ i. value i ∷ left i) (subst (λ (n : ℕ). is_plain quote n ≡ true) value h)
    sort false false is h e = absurd cc

-- what stands behind the content changes nothing of its first character
pub first_more : (quote : ℕ) (content behind : List ℕ) (code : ℕ) (rest : List ℕ) → first_character quote content ≡ Some (code, rest) → first_character quote (content ++ behind) ≡ Some (code, rest ++ behind)
first_more quote content behind code rest e = by_first (first_is quote content code rest e)
  where
    by_first : FirstIs quote content code rest → first_character quote (content ++ behind) ≡ Some (code, rest ++ behind)
    by_first (plain split h) = subst (λ (l : List ℕ). first_character quote (l ++ behind) ≡ Some (code, rest ++ behind)) (sym split) (plain_first quote code (rest ++ behind) h)
    by_first (escape c split h) = subst (λ (l : List ℕ). first_character quote (l ++ behind) ≡ Some (code, rest ++ behind)) (sym split) (escape_first quote c code (rest ++ behind) h)

-- the bytes of the first character, and what is left behind them
pub record IsPiece (quote : ℕ) (content : List ℕ) (code : ℕ) (rest : List ℕ) : Type 0 where
  pub piece : List ℕ
  pub split : content ≡ piece ++ rest
  pub some : 0 < length piece
  pub is : first_character quote piece ≡ Some (code, [])
  pub ascii : code < 128

pub first_piece : (quote : ℕ) (content : List ℕ) (code : ℕ) (rest : List ℕ) → first_character quote content ≡ Some (code, rest) → IsPiece quote content code rest
first_piece quote content code rest e = by_first (first_is quote content code rest e)
  where
    by_first : FirstIs quote content code rest → IsPiece quote content code rest
    by_first (plain split h) = let high = (plain_byte quote code h).high in record { piece = code ∷ []; split = split; some = omega arith; is = plain_first quote code [] h; ascii = omega arith }
    by_first (escape c split h) = record { piece = 92 ∷ c ∷ []; split = split; some = omega arith; is = escape_first quote c code [] h; ascii = (escape_ascii c code h).1 }

-- ---- characters one after the other

pub Spells-append : (quote : ℕ) (front back xs ys : List ℕ) → Spells quote front xs → Spells quote back ys → Spells quote (front ++ back) (xs ++ ys)
Spells-append quote front back [] ys p q = subst (λ (l : List ℕ). Spells quote (l ++ back) ys) (sym p) q
Spells-append quote front back (x ∷ xs) ys p q = (p.0 ++ back, first_more quote front back x p.0 p.1, Spells-append quote p.0 back xs ys p.2 q)

pub spells_once : (quote : ℕ) (content xs ys : List ℕ) → Spells quote content xs → Spells quote content ys → xs ≡ ys
spells_once quote content [] [] p q = refl
spells_once quote content [] (y ∷ ys) p q = let none : first_character quote content ≡ None = rw p refl in absurd cc
spells_once quote content (x ∷ xs) [] p q = let none : first_character quote content ≡ None = rw q refl in absurd cc
spells_once quote content (x ∷ xs) (y ∷ ys) p q =
    let both = sym p.1 ∙ q.1 in
    let same : x ≡ y = ap (code_in x) both in
    let left : p.0 ≡ q.0 = ap rest_in both in
    let others = spells_once quote q.0 xs ys (subst (λ (l : List ℕ). Spells quote l xs) left p.2) q.2 in
    λ i. same i ∷ others i

pub spelled_ascii : (quote : ℕ) (content xs : List ℕ) → Spells quote content xs → IsAscii xs
spelled_ascii quote content [] p = IsAscii-nil
spelled_ascii quote content (x ∷ xs) p = IsAscii-cons x xs (first_piece quote content x p.0 p.1).ascii (spelled_ascii quote p.0 xs p.2)

count_first : (quote : ℕ) (content : List ℕ) (code : ℕ) (rest : List ℕ) → first_character quote content ≡ Some (code, rest) → character_count false content ≡ 1 + character_count false rest
count_first quote content code rest e = by_first (first_is quote content code rest e)
  where
    escaped : (b : Bool) → 1 + (0 + character_count (b && false) rest) ≡ 1 + character_count false rest
    escaped true = omega arith
    escaped false = omega arith

    by_first : FirstIs quote content code rest → character_count false content ≡ 1 + character_count false rest
    by_first (plain split h) =
        let byte = plain_byte quote code h in
        let high = byte.high in
        let begins = not_continuation code (omega arith) in
        let other = byte.no_backslash in
        subst (λ (l : List ℕ). character_count false l ≡ 1 + character_count false rest) (sym split) (rw (other, begins) refl)
    by_first (escape c split h) = subst (λ (l : List ℕ). character_count false l ≡ 1 + character_count false rest) (sym split) (escaped (c == 92))

pub count_spelled : (quote : ℕ) (content xs : List ℕ) → Spells quote content xs → character_count false content ≡ length xs
count_spelled quote content [] p = rw p refl
count_spelled quote content (x ∷ xs) p = let others = count_spelled quote p.0 xs p.2 in omega (arith, count_first quote content x p.0 p.1)

-- ---- the loop over them

-- the characters read so far, and the content that is left
pub record AreRead (quote : ℕ) (content codes rest : List ℕ) : Type 0 where
  pub before : List ℕ
  pub split : content ≡ before ++ rest
  pub spelled : Spells quote before codes

pub read_none : (quote : ℕ) (content : List ℕ) → AreRead quote content [] content
read_none quote content = record { before = []; split = refl; spelled = refl }

pub read_more : (quote : ℕ) (content codes rest : List ℕ) (code : ℕ) (others : List ℕ) → AreRead quote content codes rest → first_character quote rest ≡ Some (code, others) → AreRead quote content (codes ++ code ∷ []) others
read_more quote content codes rest code others read e =
    let next = first_piece quote rest code others e in
    record {
      before = read.before ++ next.piece;
      split = read.split ∙ ap (λ (l : List ℕ). read.before ++ l) next.split ∙ sym (append_assoc read.before next.piece others);
      spelled = Spells-append quote read.before next.piece codes (code ∷ []) read.spelled ([], next.is, refl);
    }

pub read_all : (quote : ℕ) (content codes rest : List ℕ) → AreRead quote content codes rest → rest ≡ [] → Spells quote content codes
read_all quote content codes rest read e =
    subst (λ (l : List ℕ). Spells quote l codes) (sym (append-nil read.before) ∙ ap (λ (l : List ℕ). read.before ++ l) (sym e) ∙ sym read.split) read.spelled

pub read_no_further : (quote : ℕ) (content codes rest : List ℕ) → AreRead quote content codes rest → (rest ≡ [] → ⊥) → first_character quote rest ≡ None → IsWrongBehind quote content (length content - length rest)
read_no_further quote content codes rest read some none = subst (λ (l : List ℕ). IsWrongBehind quote l (length l - length rest)) (sym read.split) (at_rest read.before read.spelled)
  where
    not_empty : (l : List ℕ) → (l ≡ [] → ⊥) → 0 < length l
    not_empty [] h = absurd (h refl)
    not_empty (x ∷ l) h = omega arith

    at_rest : (before : List ℕ) → Spells quote before codes → IsWrongBehind quote (before ++ rest) (length (before ++ rest) - length rest)
    at_rest before spelled =
        let n : length before ≡ length (before ++ rest) - length rest = omega (arith, length-append before rest) in
        let left = not_empty rest some in
        record {
          codes = codes;
          before = subst (λ (l : List ℕ). Spells quote l codes) (sym (take_at before rest _ n)) spelled;
          within = omega (arith, length-append before rest);
          wrong = ap (first_character quote) (drop_at before rest _ n) ∙ none;
        }

pub shorter : (quote : ℕ) (content : List ℕ) (code : ℕ) (rest : List ℕ) → first_character quote content ≡ Some (code, rest) → length rest < length content
shorter quote content code rest e =
    let next = first_piece quote content code rest e in
    let some = next.some in
    omega (arith, ap length next.split, length-append next.piece rest)

-- a content of one character, and its code
pub one_spelled : (quote : ℕ) (content codes : List ℕ) (code : ℕ) → Spells quote content codes → character_count false content ≡ 1 → code ≡ get_or codes 0 code → Spells quote content (code ∷ [])
one_spelled quote content codes code spelled one is = subst (λ (l : List ℕ). Spells quote content l) (by_length codes (sym (count_spelled quote content codes spelled) ∙ one) is) spelled
  where
    by_length : (xs : List ℕ) → length xs ≡ 1 → code ≡ get_or xs 0 code → xs ≡ code ∷ []
    by_length [] e is = absurd (omega arith)
    by_length (x ∷ []) e is = λ i. sym is i ∷ []
    by_length (x ∷ y ∷ xs) e is = absurd (omega arith)
