-- There is one list of tokens, and one first reason for none, and never both.
use Rattle.std.proofs.Common.{◌≡◌, ℕ, suc, ◌-◌, ◌+◌, ◌<◌, ◌≤◌, Bool, true, false, cond, not, List, [], ◌∷◌, ◌++◌, length, take, drop, Some, None, refl, sym, ap, ◌∙◌, subst, inl, inr, ◌⊎◌, arith, append_assoc, length-drop, length-take, take-append-drop}
use Rattle.std.specs.Prelude.{slice_range, is_some, ◌==◌, ◌^◌}
use Rattle.std.specs.Char.{is_ascii_alphabetic, is_ascii_digit}
use Rattle.std.specs.List.{All, AllByRecursion, AllPairs, list_all}
use Rattle.std.specs.Str.{IsUtf8}
use Rattle.std.proofs.lemmas.Bool.{and_parts, or_parts, false_from_ne_true, cases_order, eqb-true}
use Rattle.std.proofs.lemmas.Bool.Decides.{nat_tests}
use Rattle.std.proofs.lemmas.List.{append-nil, drop-drop, take-take, drop-append-le}
use Rattle.std.specs.Prelude.{Result, Ok, Err, IfOk}
use Rattle.orca_base.specs.Refusal.{MatchRefusal, IfBecause}
use Rattle.orca_base.specs.declared.refusal.Refusal.{Refusal}
use Rattle.orca_base.specs.declared.refusal.Refusal.TheVariants.{Because, NoMemory}
use Rattle.orca_base.specs.declared.place.Place.{Place}
use Rattle.orca_lexer.specs.declared.error.LexError.{LexError}
use Rattle.orca_lexer.specs.declared.error.LexRule.{LexRule}
use Rattle.orca_lexer.specs.declared.token.Symbol.{Symbol}
use Rattle.orca_lexer.specs.declared.token.Token.{Token}
use Rattle.orca_lexer.specs.declared.token.TokenKind.{TokenKind}
use Rattle.orca_lexer.specs.declared.token.TokenKind.TheVariants.{Name, Number, Char, Text, Key, Sign}
use Rattle.orca_lexer.specs.Tables.{symbol_of}
use Rattle.orca_lexer.specs.Shapes.{is_name_byte, is_word, is_numeral, is_quote, is_literal, is_last, is_lexeme, content_len, content_of}
use Rattle.orca_lexer.specs.Contents.{first_character, Spells}
use Rattle.orca_lexer.specs.Tokens.{HasRoom, IsLongest, IsStart, Means, Begins, Follow, Tokens, end_of, after_gap, place_in}
use Rattle.orca_lexer.specs.Refusal.{IsWrongBehind, IsSenseless, IsFault, IsFirstBadByte, IsNoToken, IsRefusal}
use Rattle.orca_lexer.specs.Refusal.IsSenseless.{large, not_one, in_char, in_string}
use Rattle.orca_lexer.specs.Refusal.IsFault.{senseless, unclosed, stray}
use Rattle.orca_lexer.proofs.Slices.{EndsIn, EndsBefore, tokens_room, tokens_rise, tokens_within, HasEarlierPlace, tokens_places}
use Rattle.orca_lexer.proofs.Longest.{symbol_like, is_sign_like, sign_first}
use Rattle.orca_lexer.proofs.LiteralLemmas.{first_more, spells_once, count_spelled, rest_in}
use Rattle.orca_lexer.specs.Spelling.{IsSound}
use Rattle.orca_lexer.proofs.Sound.{tokens_sound}
use Rattle.orca_lexer.proofs.Following.{longest_some, fault_within}

-- ---- what a lexeme stands for

-- the kind of a first byte: a letter, a digit, `'`, `"`, or any other; 5 where there is none
abbrev byte_class : ℕ → ℕ
byte_class c = cond (is_ascii_alphabetic c) 0 (cond (is_ascii_digit c) 1 (cond (c == 39) 2 (cond (c == 34) 3 4)))

abbrev first_class : List ℕ → ℕ
first_class [] = 5
first_class (c ∷ cs) = byte_class c

word_class : (word : List ℕ) → is_word word ≡ true → first_class word ≡ 0
word_class [] h = absurd cc
word_class (c ∷ cs) h = let letter = (and_parts (is_ascii_alphabetic c) (list_all is_name_byte cs) h).0 in rw letter refl

digit_class : (c : ℕ) → is_ascii_digit c ≡ true → byte_class c ≡ 1
digit_class c h = grind (arith, nat_tests)

numeral_class : (word : List ℕ) → is_numeral word ≡ true → first_class word ≡ 1
numeral_class [] h = absurd cc
numeral_class (c ∷ cs) h = digit_class c (and_parts (is_ascii_digit c) (list_all is_ascii_digit cs) h).0

char_class : (word : List ℕ) → is_literal 39 word ≡ true → first_class word ≡ 2
char_class [] h = absurd cc
char_class (c ∷ cs) h =
    let first = eqb-true c 39 (and_parts (c == 39) (is_last (content_len false 39 cs) (length cs)) h).0 in
    subst (λ (n : ℕ). first_class (n ∷ cs) ≡ 2) (sym first) refl

string_class : (word : List ℕ) → is_literal 34 word ≡ true → first_class word ≡ 3
string_class [] h = absurd cc
string_class (c ∷ cs) h =
    let first = eqb-true c 34 (and_parts (c == 34) (is_last (content_len false 34 cs) (length cs)) h).0 in
    subst (λ (n : ℕ). first_class (n ∷ cs) ≡ 3) (sym first) refl

sign_class : (word : List ℕ) (s : Symbol) → symbol_of word ≡ Some s → first_class word ≡ 4
sign_class word s is = by_word word (symbol_like word (ap is_some is))
  where
    by_word : (word : List ℕ) → is_sign_like word ≡ true → first_class word ≡ 4
    by_word [] like = absurd cc
    by_word (c ∷ cs) like =
        let first = sign_first c cs like in
        let letter = false_from_ne_true _ first.letter in
        let digit = false_from_ne_true _ first.digit in
        let quotes = or_parts (c == 39) (c == 34) (false_from_ne_true _ first.quote) in
        rw (letter, digit, quotes.0, quotes.1) refl

abbrev kind_class : TokenKind → ℕ
kind_class (Name _) = 0
kind_class (Number _) = 1
kind_class (Char _) = 2
kind_class (Text _) = 3
kind_class (Key _) = 0
kind_class (Sign _) = 4

means_class : (word : List ℕ) (k : TokenKind) → Means word k → first_class word ≡ kind_class k
means_class word (Name _) m = word_class word m.0
means_class word (Number _) m = numeral_class word m.0
means_class word (Char _) m = char_class word m.0
means_class word (Text _) m = string_class word m.0
means_class word (Key _) m = word_class word m.0
means_class word (Sign s) m = sign_class word s m

apart : (word : List ℕ) (k l : TokenKind) → Means word k → Means word l → (kind_class k ≡ kind_class l → ⊥) → k ≡ l
apart word k l p q differ = absurd (differ (sym (means_class word k p) ∙ means_class word l q))

one_of : (a b : ℕ) (rest other : List ℕ) → a ∷ rest ≡ b ∷ other → a ≡ b
one_of a b rest other e = cc

pub means_once : (word : List ℕ) (k l : TokenKind) → Means word k → Means word l → k ≡ l
means_once word (Name a) (Name b) p q = ap Name (p.2 ∙ sym q.2)
means_once word (Number a) (Number b) p q = ap Number (p.2 ∙ sym q.2)
means_once word (Char a) (Char b) p q = ap Char (one_of a b [] [] (spells_once 39 (content_of word) (a ∷ []) (b ∷ []) p.1 q.1))
means_once word (Text a) (Text b) p q = ap Text (spells_once 34 (content_of word) a b p.1 q.1)
means_once word (Key a) (Key b) p q = let both = sym p.1 ∙ q.1 in let e : a ≡ b = cc in ap Key e
means_once word (Sign a) (Sign b) p q = let both = sym p ∙ q in let e : a ≡ b = cc in ap Sign e
means_once word (Name a) (Key b) p q = let both = sym p.1 ∙ q.1 in absurd cc
means_once word (Key a) (Name b) p q = let both = sym p.1 ∙ q.1 in absurd cc
means_once word k l p q = apart word k l p q (λ e. omega arith)

-- ---- why a lexeme stands for nothing

-- what is left of a content behind characters that begin it
spells_behind : (quote : ℕ) (front back xs ys : List ℕ) → Spells quote front ys → Spells quote (front ++ back) xs → (zs : List ℕ) × Spells quote back zs
spells_behind quote front back xs [] p q = (xs, subst (λ (l : List ℕ). Spells quote (l ++ back) xs) p q)
spells_behind quote front back [] (y ∷ ys) p q =
    let some = first_more quote front back y p.0 p.1 in
    let none : first_character quote (front ++ back) ≡ None = ap (first_character quote) q in
    let both = sym some ∙ none in
    absurd cc
spells_behind quote front back (x ∷ xs) (y ∷ ys) p q =
    let both = sym q.1 ∙ first_more quote front back y p.0 p.1 in
    let left : q.0 ≡ p.0 ++ back = ap rest_in both in
    spells_behind quote p.0 back xs ys p.2 (subst (λ (l : List ℕ). Spells quote l xs) left q.2)

-- no characters begin with a wrong one
wrong_spells : (quote : ℕ) (content behind zs : List ℕ) → 0 < length content → first_character quote (content ++ behind) ≡ None → Spells quote content zs → ⊥
wrong_spells quote content behind [] some none p = omega (arith, ap length p)
wrong_spells quote content behind (z ∷ zs) some none p = let both = sym none ∙ first_more quote content behind z p.0 p.1 in cc

wrong_none : (quote : ℕ) (content xs : List ℕ) (n : ℕ) → IsWrongBehind quote content n → Spells quote content xs → ⊥
wrong_none quote content xs n wrong p =
    let left = spells_behind quote (take n content) (drop n content) xs wrong.codes wrong.before (subst (λ (l : List ℕ). Spells quote l xs) (sym (take-append-drop n content)) p) in
    let within = wrong.within in
    wrong_spells quote (drop n content) [] left.0 (omega (arith, length-drop n content)) (ap (first_character quote) (append-nil (drop n content)) ∙ wrong.wrong) left.1

wrong_before : (quote : ℕ) (content : List ℕ) (n m : ℕ) → n < m → IsWrongBehind quote content n → IsWrongBehind quote content m → ⊥
wrong_before quote content n m below p q =
    let within = q.within in
    let middle : List ℕ = drop n (take m content) in
    let front : take n content ≡ take n (take m content) = sym (take-take n m content (omega arith)) in
    let split : take n content ++ middle ≡ take m content = ap (λ (l : List ℕ). l ++ middle) front ∙ take-append-drop n (take m content) in
    let left = spells_behind quote (take n content) middle q.codes p.codes p.before (subst (λ (l : List ℕ). Spells quote l q.codes) (sym split) q.before) in
    let all : middle ++ drop m content ≡ drop n content = sym (drop-append-le n (take m content) (drop m content) (omega (arith, length-take m content))) ∙ ap (drop n) (take-append-drop m content) in
    wrong_spells quote middle (drop m content) left.0 (omega (arith, length-drop n (take m content), length-take m content)) (ap (first_character quote) all ∙ p.wrong) left.1

wrong_once : (quote : ℕ) (content : List ℕ) (n m : ℕ) → IsWrongBehind quote content n → IsWrongBehind quote content m → n ≡ m
wrong_once quote content n m p q = by_order (cases_order n m)
  where
    by_order : (n ≡ m) ⊎ ((n < m) ⊎ (m < n)) → n ≡ m
    by_order (inl same) = same
    by_order (inr (inl below)) = absurd (wrong_before quote content n m below p q)
    by_order (inr (inr above)) = absurd (wrong_before quote content m n above q p)

pub record SameFault (r : LexRule) (n : ℕ) (s : LexRule) (m : ℕ) : Type 0 where
  pub rule : r ≡ s
  pub distance : n ≡ m

abbrev senseless_class : {word : List ℕ} {r : LexRule} {n : ℕ} → IsSenseless word r n → ℕ
senseless_class (large _ _) = 1
senseless_class (not_one _ _) = 2
senseless_class (in_char _ _ _ _) = 2
senseless_class (in_string _ _ _) = 3

class_of_senseless : (word : List ℕ) (r : LexRule) (n : ℕ) (p : IsSenseless word r n) → first_class word ≡ senseless_class p
class_of_senseless word r n (large h _) = numeral_class word h
class_of_senseless word r n (not_one h _) = char_class word h
class_of_senseless word r n (in_char _ h _ _) = char_class word h
class_of_senseless word r n (in_string _ h _) = string_class word h

differ : (word : List ℕ) (r s : LexRule) (n m : ℕ) (p : IsSenseless word r n) (q : IsSenseless word s m) → (senseless_class p ≡ senseless_class q → ⊥) → SameFault r n s m
differ word r s n m p q apart = absurd (apart (sym (class_of_senseless word r n p) ∙ class_of_senseless word s m q))

senseless_once : (word : List ℕ) (r s : LexRule) (n m : ℕ) → IsSenseless word r n → IsSenseless word s m → SameFault r n s m
senseless_once word r s n m (large _ _) (large _ _) = record { rule = refl; distance = refl }
senseless_once word r s n m (not_one _ _) (not_one _ _) = record { rule = refl; distance = refl }
senseless_once word r s n m (not_one _ many) (in_char _ _ one _) = absurd (many one)
senseless_once word r s n m (in_char _ _ one _) (not_one _ many) = absurd (many one)
senseless_once word r s n m (in_char k _ _ p) (in_char l _ _ q) = record { rule = refl; distance = ap (λ x. x + 1) (wrong_once 39 (content_of word) k l p q) }
senseless_once word r s n m (in_string k _ p) (in_string l _ q) = record { rule = refl; distance = ap (λ x. x + 1) (wrong_once 34 (content_of word) k l p q) }
senseless_once word r s n m p q = differ word r s n m p q (λ e. omega arith)

class_range : (word : List ℕ) (r : LexRule) (n : ℕ) (p : IsSenseless word r n) → (0 < senseless_class p) × (senseless_class p < 4)
class_range word r n (large _ _) = (omega arith, omega arith)
class_range word r n (not_one _ _) = (omega arith, omega arith)
class_range word r n (in_char _ _ _ _) = (omega arith, omega arith)
class_range word r n (in_string _ _ _) = (omega arith, omega arith)

-- a lexeme that stands for nothing stands for no token
senseless_none : (word : List ℕ) (r : LexRule) (n : ℕ) (k : TokenKind) → IsSenseless word r n → Means word k → ⊥
senseless_none word r n (Number v) (large _ above) m = let below = m.1 in omega arith
senseless_none word r n (Char v) (not_one _ many) m = many (count_spelled 39 (content_of word) (v ∷ []) m.1)
senseless_none word r n (Char v) (in_char k _ _ wrong) m = wrong_none 39 (content_of word) (v ∷ []) k wrong m.1
senseless_none word r n (Text v) (in_string k _ wrong) m = wrong_none 34 (content_of word) v k wrong m.1
senseless_none word r n k p m =
    let range = class_range word r n p in
    let e = sym (class_of_senseless word r n p) ∙ means_class word k m in omega arith

-- ---- one longest lexeme

pub record SameCut (a x b y : List ℕ) : Type 0 where
  pub front : a ≡ b
  pub back : x ≡ y

-- of two cuts of a text one goes on where the other ends
cuts : (a x b y : List ℕ) → a ++ x ≡ b ++ y → ((m : List ℕ) × (b ≡ a ++ m) × (x ≡ m ++ y)) ⊎ ((m : List ℕ) × (a ≡ b ++ m) × (y ≡ m ++ x))
cuts [] x b y e = inl (b, refl, e)
cuts (c ∷ a) x [] y e = inr (c ∷ a, refl, sym e)
cuts (c ∷ a) x (d ∷ b) y e =
    let h : c ≡ d = cc in
    let t : a ++ x ≡ b ++ y = cc in
    elim (cuts a x b y t) [
      | inl l ↦ inl (l.0, (λ i. sym h i ∷ l.1 i), l.2)
      | inr r ↦ inr (r.0, (λ i. h i ∷ r.1 i), r.2)
    ]

cut_once : (a x b y : List ℕ) → IsLongest a x → IsLongest b y → a ++ x ≡ b ++ y → SameCut a x b y
cut_once a x b y p q e =
    elim (cuts a x b y e) [
      | inl l ↦ longer a x b y p q l.0 l.1 l.2
      | inr r ↦ let s = longer b y a x q p r.0 r.1 r.2 in record { front = sym s.front; back = sym s.back }
    ]
  where
    longer : (a x b y : List ℕ) → IsLongest a x → IsLongest b y → (m : List ℕ) → b ≡ a ++ m → x ≡ m ++ y → SameCut a x b y
    longer a x b y p q m be xe =
        let nothing : m ≡ [] = p.longest m y xe (subst (λ (w : List ℕ). is_lexeme w ≡ true) be q.lexeme) in
        record { front = sym (append-nil a) ∙ ap (λ (w : List ℕ). a ++ w) (sym nothing) ∙ sym be; back = xe ∙ ap (λ (w : List ℕ). w ++ y) nothing }

-- ---- one fault

not_both : (p : ℕ → Bool) (text : List ℕ) → IsStart p text → IsStart (λ c. not (p c)) text → ⊥
not_both p [] s t = s
not_both p (c ∷ cs) s t = by_test (p c) s t
  where
    by_test : (b : Bool) → b ≡ true → not b ≡ true → ⊥
    by_test true p q = cc
    by_test false p q = cc

fault_once : (text : List ℕ) (r s : LexRule) (n m : ℕ) → IsFault text r n → IsFault text s m → SameFault r n s m
fault_once text r s n m (senseless _ _ word rest split longest wrong) (senseless _ _ other left cut most fault) =
    let same = cut_once word rest other left longest most (sym split ∙ cut) in
    senseless_once other r s n m (subst (λ (w : List ℕ). IsSenseless w r n) same.front wrong) fault
fault_once text r s n m (senseless _ _ word rest split longest wrong) (unclosed _ none) = absurd (none word rest split longest.lexeme)
fault_once text r s n m (senseless _ _ word rest split longest wrong) (stray _ none) = absurd (none word rest split longest.lexeme)
fault_once text r s n m (unclosed _ none) (senseless _ _ word rest split longest wrong) = absurd (none word rest split longest.lexeme)
fault_once text r s n m (unclosed _ _) (unclosed _ _) = record { rule = refl; distance = refl }
fault_once text r s n m (unclosed quote _) (stray other _) = absurd (not_both is_quote text quote other)
fault_once text r s n m (stray _ none) (senseless _ _ word rest split longest wrong) = absurd (none word rest split longest.lexeme)
fault_once text r s n m (stray other _) (unclosed quote _) = absurd (not_both is_quote text quote other)
fault_once text r s n m (stray _ _) (stray _ _) = record { rule = refl; distance = refl }

-- ---- one token

-- two fronts that leave as much are as long
same_start : (text : List ℕ) (n m : ℕ) → n ≤ length text → m ≤ length text → drop n text ≡ drop m text → n ≡ m
same_start text n m p q e = omega (arith, ap length e, length-drop n text, length-drop m text)

slice_cut : (text : List ℕ) (start end : ℕ) → start ≤ end → slice_range text start end ++ drop end text ≡ drop start text
slice_cut text start end within =
    let e : start + (end - start) ≡ end = omega arith in
    let back : drop end text ≡ drop (end - start) (drop start text) = ap (λ n. drop n text) (sym e) ∙ sym (drop-drop (end - start) start text) in
    ap (λ (l : List ℕ). slice_range text start end ++ l) back ∙ take-append-drop (end - start) (drop start text)

pub begins_some : (text : List ℕ) (from : ℕ) (t : Token) → Begins text from t → t.start < t.end
begins_some text from t b =
    let some = longest_some _ _ b.longest in
    omega (arith, length-take (t.end - t.start) (drop t.start text))

pub begins_once : (text : List ℕ) (from : ℕ) (t u : Token) → Begins text from t → Begins text from u → t ≡ u
begins_once text from t u p q = λ i. record { kind = kind i; start = start i; end = end i; at = at i }
  where
    t_some : t.start < t.end
    t_some = begins_some text from t p

    u_some : u.start < u.end
    u_some = begins_some text from u q

    gap : drop t.start text ≡ drop u.start text
    gap = p.gap ∙ sym q.gap

    start : t.start ≡ u.start
    start = let x = p.within in let y = q.within in same_start text t.start u.start (omega (arith, t_some)) (omega (arith, u_some)) gap

    same : SameCut (slice_range text t.start t.end) (drop t.end text) (slice_range text u.start u.end) (drop u.end text)
    same = cut_once _ _ _ _ p.longest q.longest (slice_cut text t.start t.end (omega (arith, t_some)) ∙ gap ∙ sym (slice_cut text u.start u.end (omega (arith, u_some))))

    end : t.end ≡ u.end
    end = same_start text t.end u.end p.within q.within same.back

    kind : t.kind ≡ u.kind
    kind = means_once (slice_range text u.start u.end) t.kind u.kind (subst (λ (w : List ℕ). Means w t.kind) same.front p.means) q.means

    at : t.at ≡ u.at
    at = p.place ∙ ap (place_in text) start ∙ sym q.place

nothing_begins : (text : List ℕ) (from : ℕ) (t : Token) → after_gap (drop from text) ≡ [] → Begins text from t → ⊥
nothing_begins text from t e b =
    let some = begins_some text from t b in
    let within = b.within in
    omega (arith, ap length (b.gap ∙ e), length-drop t.start text)

fault_none : (text : List ℕ) (from start : ℕ) (r : LexRule) (n : ℕ) (t : Token) → drop start text ≡ after_gap (drop from text) → IsFault (drop start text) r n → Begins text from t → ⊥
fault_none text from start r n t gap fault b = by_fault r n fault
  where
    split : drop start text ≡ slice_range text t.start t.end ++ drop t.end text
    split = gap ∙ sym b.gap ∙ sym (slice_cut text t.start t.end (let some = begins_some text from t b in omega arith))

    by_fault : (r : LexRule) (n : ℕ) → IsFault (drop start text) r n → ⊥
    by_fault r n (senseless _ _ word rest cut longest wrong) =
        let same = cut_once word rest (slice_range text t.start t.end) (drop t.end text) longest b.longest (sym cut ∙ split) in
        senseless_none (slice_range text t.start t.end) r n t.kind (subst (λ (w : List ℕ). IsSenseless w r n) same.front wrong) b.means
    by_fault r n (unclosed _ none) = none (slice_range text t.start t.end) (drop t.end text) split b.longest.lexeme
    by_fault r n (stray _ none) = none (slice_range text t.start t.end) (drop t.end text) split b.longest.lexeme

-- ---- tokens one behind the other

follow_once : (text : List ℕ) (from : ℕ) (ts us : List Token) → Follow text from ts → after_gap (drop (end_of from ts) text) ≡ [] → Follow text from us → after_gap (drop (end_of from us) text) ≡ [] → ts ≡ us
follow_once text from [] [] p over q done = refl
follow_once text from [] (u ∷ us) p over q done = absurd (nothing_begins text from u over q.0)
follow_once text from (t ∷ ts) [] p over q done = absurd (nothing_begins text from t done p.0)
follow_once text from (t ∷ ts) (u ∷ us) p over q done =
    let same = begins_once text from t u p.0 q.0 in
    let other : Token → Type 0 = λ v. Follow text v.end ts × (after_gap (drop (end_of v.end ts) text) ≡ []) in
    let moved = subst other same (p.1, over) in
    let rest = follow_once text u.end ts us moved.0 moved.1 q.1 done in
    λ i. same i ∷ rest i

pub tokens_once : (text : List ℕ) (ts us : List Token) → Tokens text ts → Tokens text us → ts ≡ us
tokens_once text ts us p q = follow_once text 0 ts us p.follow p.over q.follow q.over

-- a front of tokens, and behind it a fault
pub record FaultBehind (text : List ℕ) (from : ℕ) (ts : List Token) (r : LexRule) (place : Place) : Type 0 where
  pub follow : Follow text from ts
  pub start : ℕ
  pub gap : drop start text ≡ after_gap (drop (end_of from ts) text)
  pub distance : ℕ
  pub fault : IsFault (drop start text) r distance
  pub place_is : place ≡ place_in text (start + distance)

one_on : (text : List ℕ) (from : ℕ) (t : Token) (ts : List Token) (r : LexRule) (place : Place) → FaultBehind text from (t ∷ ts) r place → FaultBehind text t.end ts r place
one_on text from t ts r place f = record { follow = f.follow.1; start = f.start; gap = f.gap; distance = f.distance; fault = f.fault; place_is = f.place_is }

behind_none : (text : List ℕ) (from : ℕ) (ts us : List Token) (r : LexRule) (place : Place) → FaultBehind text from ts r place → Follow text from us → after_gap (drop (end_of from us) text) ≡ [] → ⊥
behind_none text from [] [] r place f q done =
    let some = fault_within (drop f.start text) r f.distance f.fault in
    omega (arith, ap length (f.gap ∙ done))
behind_none text from [] (u ∷ us) r place f q done = fault_none text from f.start r f.distance u f.gap f.fault q.0
behind_none text from (t ∷ ts) [] r place f q done = nothing_begins text from t done f.follow.0
behind_none text from (t ∷ ts) (u ∷ us) r place f q done =
    let same = begins_once text from t u f.follow.0 q.0 in
    behind_none text u.end ts us r place (subst (λ (v : Token). FaultBehind text v.end ts r place) same (one_on text from t ts r place f)) q.1 done

pub record SameRefusal (r : LexRule) (p : Place) (s : LexRule) (q : Place) : Type 0 where
  pub rule : r ≡ s
  pub place : p ≡ q

behind_once : (text : List ℕ) (from : ℕ) (ts us : List Token) (r s : LexRule) (p q : Place) → FaultBehind text from ts r p → FaultBehind text from us s q → SameRefusal r p s q
behind_once text from [] [] r s p q f g =
    let f_some = fault_within (drop f.start text) r f.distance f.fault in
    let g_some = fault_within (drop g.start text) s g.distance g.fault in
    let start = same_start text f.start g.start (omega (arith, length-drop f.start text)) (omega (arith, length-drop g.start text)) (f.gap ∙ sym g.gap) in
    let same = fault_once (drop g.start text) r s f.distance g.distance (subst (λ n. IsFault (drop n text) r f.distance) start f.fault) g.fault in
    record { rule = same.rule; place = f.place_is ∙ (λ i. place_in text (start i + same.distance i)) ∙ sym g.place_is }
behind_once text from [] (u ∷ us) r s p q f g = absurd (fault_none text from f.start r f.distance u f.gap f.fault g.follow.0)
behind_once text from (t ∷ ts) [] r s p q f g = absurd (fault_none text from g.start s g.distance t g.gap g.fault f.follow.0)
behind_once text from (t ∷ ts) (u ∷ us) r s p q f g =
    let same = begins_once text from t u f.follow.0 g.follow.0 in
    behind_once text u.end ts us r s p q (subst (λ (v : Token). FaultBehind text v.end ts r p) same (one_on text from t ts r p f)) (one_on text from u us s q g)

-- ---- refusals

behind_of : (text : List ℕ) (e : LexError) (none : IsNoToken text e) → FaultBehind text 0 none.tokens e.rule e.at
behind_of text e none = record { follow = none.follow; start = none.start; gap = none.gap; distance = none.distance; fault = none.fault; place_is = none.place }

bad_before : (text : List ℕ) (n m : ℕ) → n < m → IsFirstBadByte text n → IsFirstBadByte text m → ⊥
bad_before text n m below p q =
    let within = q.within in
    let front : take (suc n) text ≡ take (suc n) (take m text) = sym (take-take (suc n) m text (omega arith)) in
    let split : take (suc n) text ++ (drop (suc n) (take m text) ++ q.before.0) ≡ take m text ++ q.before.0 =
    sym (append_assoc (take (suc n) text) (drop (suc n) (take m text)) q.before.0)
    ∙ ap (λ (l : List ℕ). (l ++ drop (suc n) (take m text)) ++ q.before.0) front
    ∙ ap (λ (l : List ℕ). l ++ q.before.0) (take-append-drop (suc n) (take m text)) in
    p.bad (omega arith) (drop (suc n) (take m text) ++ q.before.0, subst IsUtf8 (sym split) q.before.1)

bad_once : (text : List ℕ) (n m : ℕ) → IsFirstBadByte text n → IsFirstBadByte text m → n ≡ m
bad_once text n m p q = by_order (cases_order n m)
  where
    by_order : (n ≡ m) ⊎ ((n < m) ⊎ (m < n)) → n ≡ m
    by_order (inl same) = same
    by_order (inr (inl below)) = absurd (bad_before text n m below p q)
    by_order (inr (inr above)) = absurd (bad_before text m n above q p)

-- a text that is refused has no tokens
pub refusal_none : (text : List ℕ) (e : LexError) (ts : List Token) → IsRefusal text e → Tokens text ts → ⊥
refusal_none text e ts (inl no_utf8) p = no_utf8.none p.utf8
refusal_none text e ts (inr no_token) p = behind_none text 0 no_token.tokens ts e.rule e.at (behind_of text e no_token) p.follow p.over

-- and one first reason for that
pub refusal_once : (text : List ℕ) (e f : LexError) → IsRefusal text e → IsRefusal text f → e ≡ f
refusal_once text e f (inl p) (inl q) =
    let rule : e.rule ≡ f.rule = p.rule ∙ sym q.rule in
    let at : e.at ≡ f.at = p.place ∙ ap (place_in text) (bad_once text p.offset q.offset p.first q.first) ∙ sym q.place in
    λ i. record { rule = rule i; at = at i }
refusal_once text e f (inl p) (inr q) = absurd (p.none q.utf8)
refusal_once text e f (inr p) (inl q) = absurd (q.none p.utf8)
refusal_once text e f (inr p) (inr q) =
    let same = behind_once text 0 p.tokens q.tokens e.rule f.rule e.at f.at (behind_of text e p) (behind_of text f q) in
    λ i. record { rule = same.rule i; at = same.place i }

-- what both clauses and the answer's other ones say, of a text that is UTF-8
pub record IsOnly {V : Type 0} (view : V → List Token) (text : List ℕ) (r : Result V (Refusal LexError)) : Type 0 where
  pub only : IfOk r (λ found. (others : List Token) → Tokens text others → others ≡ view found)
  pub sound : IfOk r (λ found. AllByRecursion (λ token. IsSound token.kind) (view found))
  pub none : IfBecause r (λ _. (others : List Token) → Tokens text others → ⊥)
  pub first : IfBecause r (λ error. (other : LexError) → IsRefusal text other → other ≡ error)
  pub room : IfOk r (λ found. All HasRoom (view found))
  pub within : IfOk r (λ found. All (EndsIn text) (view found))
  pub rise : IfOk r (λ found. AllPairs EndsBefore (view found))
  pub places : IfOk r (λ found. AllPairs HasEarlierPlace (view found))

pub is_only : {V : Type 0} (view : V → List Token) (text : List ℕ) → length text < 2 ^ 32 - 1 → (r : Result V (Refusal LexError)) → MatchRefusal r (λ found. Tokens text (view found)) (IsNoToken text) → IsOnly view text r
is_only view text short (Ok found) h = record {
  only = λ others p. tokens_once text others (view found) p h;
  sound = tokens_sound text (view found) h;
  none = tt;
  first = tt;
  room = tokens_room text (view found) short h;
  within = tokens_within text (view found) h;
  rise = tokens_rise text (view found) h;
  places = tokens_places text (view found) h;
}
is_only view text short (Err (Because error)) h = record {
  only = tt;
  sound = tt;
  none = λ others p. refusal_none text error others (inr h) p;
  first = λ other p. refusal_once text other error p (inr h);
  room = tt;
  within = tt;
  rise = tt;
  places = tt;
}
is_only view text short (Err NoMemory) h = record { only = tt; sound = tt; none = tt; first = tt; room = tt; within = tt; rise = tt; places = tt }
