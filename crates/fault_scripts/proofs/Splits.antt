-- The words of a line, one after the other.
use Rattle.std.proofs.Common.{◌≡◌, ℕ, suc, ◌+◌, ◌-◌, ◌<◌, Bool, true, false, cond, Bor, List, [], ◌∷◌, length, map, take, drop, ap, refl, sym, ◌∙◌, arith}
use Rattle.std.specs.Prelude.{◌==◌, not, nat_lt}
use Rattle.std.specs.List.{count_by, filter, prefix_len, slice_split, onto_first}
use Rattle.std.proofs.lemmas.Bool.Decides.{nat_tests}
use Rattle.std.proofs.lemmas.List.{length-map, take_rest}
use Rattle.std.proofs.lemmas.List.Splits.{length-slice_split}
use Rattle.std.proofs.lemmas.List.Sums.{count_by-le-length}
use Rattle.fault_scripts.specs.Words.{lines_of, words_of}

abbrev pub is_space : ℕ → Bool
is_space c = c == 32

abbrev pub is_not_space : ℕ → Bool
is_not_space c = not (c == 32)

abbrev some_bytes : List ℕ → Bool
some_bytes word = nat_lt 0 (length word)

-- a space in front is no word
space_first : (c : ℕ) (cs : List ℕ) → (c == 32) ≡ true → words_of (c ∷ cs) ≡ words_of cs
space_first c cs e = ap (λ b. filter some_bytes (cond b ([] ∷ slice_split is_space cs) (onto_first c (slice_split is_space cs)))) e

suc_len : (n : ℕ) (b : Bool) → b ≡ true → cond b (1 + n) 0 ≡ suc n
suc_len n b e = ap (λ x. cond x (1 + n) 0) e ∙ omega arith

no_len : (n : ℕ) (b : Bool) → b ≡ false → cond b (1 + n) 0 ≡ 0
no_len n b e = ap (λ x. cond x (1 + n) 0) e

behind_spaces-sort : (c : ℕ) (cs : List ℕ) (b : Bool) → (c == 32) ≡ b → words_of (drop (prefix_len is_space cs) cs) ≡ words_of cs →
    words_of (drop (prefix_len is_space (c ∷ cs)) (c ∷ cs)) ≡ words_of (c ∷ cs)
behind_spaces-sort c cs true e more =
    ap (λ n. words_of (drop n (c ∷ cs))) (suc_len (prefix_len is_space cs) (c == 32) e) ∙ more ∙ sym (space_first c cs e)
behind_spaces-sort c cs false e more = ap (λ n. words_of (drop n (c ∷ cs))) (no_len (prefix_len is_space cs) (c == 32) e)

-- nor are more of them
pub behind_spaces : (line : List ℕ) → words_of (drop (prefix_len is_space line) line) ≡ words_of line
behind_spaces [] = refl
behind_spaces (c ∷ cs) = behind_spaces-sort c cs (c == 32) refl (behind_spaces cs)

-- the parts behind a space in front
abbrev tail_parts : List ℕ → List (List ℕ)
tail_parts [] = []
tail_parts (c ∷ cs) = slice_split is_space cs

-- the first part of a line ends in front of its first space
abbrev IsCut : List ℕ → Type 0
IsCut line = (slice_split is_space line ≡ take (prefix_len is_not_space line) line ∷ tail_parts (drop (prefix_len is_not_space line) line))
    × (filter some_bytes (tail_parts (drop (prefix_len is_not_space line) line)) ≡ words_of (drop (prefix_len is_not_space line) line))

cut_at : (c : ℕ) (cs : List ℕ) (n : ℕ) → prefix_len is_not_space (c ∷ cs) ≡ n →
    slice_split is_space (c ∷ cs) ≡ take n (c ∷ cs) ∷ tail_parts (drop n (c ∷ cs)) →
    filter some_bytes (tail_parts (drop n (c ∷ cs))) ≡ words_of (drop n (c ∷ cs)) → IsCut (c ∷ cs)
cut_at c cs n e split words = (
  split ∙ ap (λ k. take k (c ∷ cs) ∷ tail_parts (drop k (c ∷ cs))) (sym e),
  ap (λ k. filter some_bytes (tail_parts (drop k (c ∷ cs)))) e ∙ words ∙ ap (λ k. words_of (drop k (c ∷ cs))) (sym e),
)

cut-sort : (c : ℕ) (cs : List ℕ) (b : Bool) → (c == 32) ≡ b → IsCut cs → IsCut (c ∷ cs)
cut-sort c cs true e more =
    cut_at c cs 0 (no_len (prefix_len is_not_space cs) (not (c == 32)) (ap not e))
    (ap (λ b. cond b ([] ∷ slice_split is_space cs) (onto_first c (slice_split is_space cs))) e)
    (sym (space_first c cs e))
cut-sort c cs false e more =
    cut_at c cs (suc (prefix_len is_not_space cs)) (suc_len (prefix_len is_not_space cs) (not (c == 32)) (ap not e))
    (ap (λ b. cond b ([] ∷ slice_split is_space cs) (onto_first c (slice_split is_space cs))) e ∙ ap (λ ps. onto_first c ps) more.0)
    more.1

cut : (line : List ℕ) → IsCut line
cut [] = (refl, refl)
cut (c ∷ cs) = cut-sort c cs (c == 32) refl (cut cs)

-- a part with a byte is a word
keeps : (c : ℕ) (cs : List ℕ) (parts : List (List ℕ)) → filter some_bytes ((c ∷ cs) ∷ parts) ≡ (c ∷ cs) ∷ filter some_bytes parts
keeps c cs parts =
    let some : nat_lt 0 (length (c ∷ cs)) ≡ true = grind (arith, nat_tests) in
    ap (λ b. cond b ((c ∷ cs) ∷ filter some_bytes parts) (filter some_bytes parts)) some

-- a line that begins with no space begins with its first word
word_first : (c : ℕ) (cs : List ℕ) → (c == 32) ≡ false →
    words_of (c ∷ cs) ≡ take (prefix_len is_not_space (c ∷ cs)) (c ∷ cs) ∷ words_of (drop (prefix_len is_not_space (c ∷ cs)) (c ∷ cs))
word_first c cs e =
    let n = prefix_len is_not_space cs in
    let len : prefix_len is_not_space (c ∷ cs) ≡ suc n = suc_len n (not (c == 32)) (ap not e) in
    let whole = cut (c ∷ cs) in
    let rest = drop (prefix_len is_not_space (c ∷ cs)) (c ∷ cs) in
    ap (λ ps. filter some_bytes ps) whole.0
    ∙ ap (λ k. filter some_bytes (take k (c ∷ cs) ∷ tail_parts rest)) len
    ∙ keeps c (take n cs) (tail_parts rest)
    ∙ ap (λ ws. (c ∷ take n cs) ∷ ws) whole.1
    ∙ ap (λ k. take k (c ∷ cs) ∷ words_of rest) (sym len)

stops-sort : (x : ℕ) (xs : List ℕ) (c : ℕ) (cs : List ℕ) (b : Bool) → (x == 32) ≡ b →
    (drop (prefix_len is_space xs) xs ≡ c ∷ cs → (c == 32) ≡ false) → drop (prefix_len is_space (x ∷ xs)) (x ∷ xs) ≡ c ∷ cs → (c == 32) ≡ false
stops-sort x xs c cs true e more h = more (sym (ap (λ n. drop n (x ∷ xs)) (suc_len (prefix_len is_space xs) (x == 32) e)) ∙ h)
stops-sort x xs c cs false e more h =
    let same : x ∷ xs ≡ c ∷ cs = sym (ap (λ n. drop n (x ∷ xs)) (no_len (prefix_len is_space xs) (x == 32) e)) ∙ h in
    let head : x ≡ c = cc in
    ap (λ y. y == 32) (sym head) ∙ e

-- behind the spaces stands no space
stops : (line : List ℕ) (c : ℕ) (cs : List ℕ) → drop (prefix_len is_space line) line ≡ c ∷ cs → (c == 32) ≡ false
stops [] c cs h = absurd (cc)
stops (x ∷ xs) c cs h = stops-sort x xs c cs (x == 32) refl (stops xs c cs) h

no_bytes : (xs : List ℕ) → (length xs == 0) ≡ true → xs ≡ []
no_bytes [] e = refl
no_bytes (x ∷ xs) e = let none : length (x ∷ xs) ≡ 0 = grind (arith, nat_tests) in absurd (omega arith)

-- a line of spaces has no words
pub no_word : (line : List ℕ) (n : ℕ) → n ≡ prefix_len is_space line → (length (take (length line - n) (drop n line)) == 0) ≡ true → words_of line ≡ []
no_word line n e none =
    let rest : drop n line ≡ [] = sym (take_rest line n) ∙ no_bytes (take (length line - n) (drop n line)) none in
    sym (behind_spaces line) ∙ ap (λ k. words_of (drop k line)) (sym e) ∙ ap words_of rest

first_of : (text : List ℕ) (m : ℕ) (word rest : List ℕ) → (length text == 0) ≡ false → ((c : ℕ) (cs : List ℕ) → text ≡ c ∷ cs → (c == 32) ≡ false) →
    m ≡ prefix_len is_not_space text → word ≡ take m text → rest ≡ drop m text → words_of text ≡ word ∷ words_of rest
first_of [] m word rest some begins f front back = absurd (cc)
first_of (c ∷ cs) m word rest some begins f front back =
    word_first c cs (begins c cs refl) ∙ ap (λ k. take k (c ∷ cs) ∷ words_of (drop k (c ∷ cs))) (sym f)
    ∙ ap (λ w. w ∷ words_of (drop m (c ∷ cs))) (sym front) ∙ ap (λ r. word ∷ words_of r) (sym back)

-- the next word, and what is left
pub next_is : (line : List ℕ) (n m : ℕ) (word rest : List ℕ) → n ≡ prefix_len is_space line → (length (take (length line - n) (drop n line)) == 0) ≡ false →
    m ≡ prefix_len is_not_space (take (length line - n) (drop n line)) → word ≡ take m (take (length line - n) (drop n line)) → rest ≡ drop m (take (length line - n) (drop n line)) →
    words_of line ≡ word ∷ words_of rest
next_is line n m word rest e some f front back =
    let all = take_rest line n in
    let left = drop n line in
    sym (behind_spaces line) ∙ ap (λ k. words_of (drop k line)) (sym e)
    ∙ first_of left m word rest (ap (λ t. length t == 0) (sym all) ∙ some) (λ c cs h. stops line c cs (ap (λ k. drop k line) (sym e) ∙ h))
    (f ∙ ap (λ t. prefix_len is_not_space t) all) (front ∙ ap (λ t. take m t) all) (back ∙ ap (λ t. drop m t) all)

-- a text has a line more than line feeds
pub few_lines : (text : List ℕ) (lines : List (Bor (List ℕ))) → map (λ l. l.now) lines ≡ lines_of text → length text < 4294967295 → length lines < 4294967296
few_lines text lines is short =
    let many : length lines ≡ length (lines_of text) = sym (length-map lines (λ (l : Bor (List ℕ)). l.now)) ∙ ap length is in
    let split : length (lines_of text) ≡ count_by (λ c. c == 10) text + 1 = length-slice_split (λ c. c == 10) text in
    omega (arith, count_by-le-length (λ c. c == 10) text)
