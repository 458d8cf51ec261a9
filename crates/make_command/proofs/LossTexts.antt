-- The text of losses is a script of these.
use Rattle.std.proofs.Common.{◌≡◌, ℕ, zero, suc, ◌+◌, ◌*◌, ◌<◌, ◌≤◌, Bool, true, false, cond, List, [], ◌∷◌, ◌++◌, length, refl, sym, ap, ◌∙◌, subst, arith, append_assoc}
use Rattle.std.specs.Prelude.{◌&&◌, ◌==◌, ◌^◌, not, nat_le, nat_lt, Some, None, codes, option_and_then}
use Rattle.std.specs.List.{count_by}
use Rattle.std.specs.Fmt.{decimal}
use Rattle.std.specs.Char.{digit_value, is_ascii_digit}
use Rattle.std.specs.List.{All, AllByRecursion, filter, list_all}
use Rattle.std.specs.Option.{option_map}
use Rattle.std.specs.Str.{IsAscii, IsUtf8, bytes_eq}
use Rattle.std.specs.Str.Parse.{AllDigits, digits_value}
use Rattle.std.proofs.lemmas.Bool.{and_from, and_parts, ltb-true, not-true}
use Rattle.std.proofs.lemmas.Bool.Decides.{nat_tests}
use Rattle.std.proofs.lemmas.Fmt.{IsAscii-decimal, decimal_is_IsNumeral, length-decimal-le}
use Rattle.std.proofs.lemmas.List.Splits.{slice_split_at, slice_split_none}
use Rattle.std.proofs.lemmas.Str.{IsUtf8-from_ascii}
use Rattle.std.proofs.lemmas.Str.Ascii.{IsAscii-nil, IsAscii-cons}
use Rattle.net_rules.specs.declared.line.Which.TheVariants.{All as Every, Nth}
use Rattle.net_rules.specs.declared.line.ScriptLine.{ScriptLine}
use Rattle.fault_scripts.specs.Says.{AreSaid, IsScript, SayAll, Says, is_seed, speaks}
use Rattle.fault_scripts.specs.Words.{GREATEST, kinds_of, lines_of, number_in, number_of, packet_number, verb_of, which_of, words_of}
use Rattle.make_command.specs.Losses.{loss, loss_line, losses, losses_text}

-- ---- the number in a line

all_digits : (ds : List ℕ) → AllDigits 10 ds → list_all is_ascii_digit ds ≡ true
all_digits [] h = refl
all_digits (d ∷ ds) h = and_from _ _ (digit_of d h.0) (all_digits ds h.1)
  where
    digit_of : (c : ℕ) → digit_value c < 10 → is_ascii_digit c ≡ true
    digit_of c h = grind (arith, nat_tests)

digits : (n : ℕ) → n < 2 ^ 64 → list_all is_ascii_digit (decimal n) ≡ true
digits n small = all_digits (decimal n) (decimal_is_IsNumeral n small).0.1

not_all : (ds : List ℕ) → list_all is_ascii_digit ds ≡ true → bytes_eq (codes "all") ds ≡ false
not_all [] h = refl
not_all (d ∷ ds) h = by_first (97 == d) refl
  where
    digit : is_ascii_digit d ≡ true
    digit = (and_parts (is_ascii_digit d) (list_all is_ascii_digit ds) h).0

    by_first : (b : Bool) → (97 == d) ≡ b → bytes_eq (codes "all") (d ∷ ds) ≡ false
    by_first true e = absurd (grind (arith, nat_tests))
    by_first false e = ap (λ b. b && bytes_eq (codes "ll") ds) e

tested : (n : ℕ) → n ≤ 5000 → (nat_lt 0 (length (decimal n)) && nat_le (length (decimal n)) 19 && list_all is_ascii_digit (decimal n)) ≡ true
tested n few =
    let is = decimal_is_IsNumeral n (omega arith) in
    let some : 0 < length (decimal n) = is.0.0 in
    let short = length-decimal-le 19 n (omega arith) (omega arith) (omega arith) in
    let each = digits n (omega arith) in
    grind (arith, nat_tests)

numbered : (n : ℕ) → n ≤ 5000 → number_of (decimal n) ≡ Some n
unfolding number_of
numbered n few =
    ap (λ b. cond b (Some (digits_value 10 (decimal n))) None) (tested n few)
    ∙ ap (λ m. Some m) (decimal_is_IsNumeral n (omega arith)).1

in_range : (n : ℕ) → 1 ≤ n → n ≤ 5000 → packet_number (decimal n) ≡ Some n
unfolding number_in
in_range n some few =
    let ok : (nat_le 1 n && nat_le n GREATEST) ≡ true = grind (arith, nat_tests) in
    ap (λ o. option_and_then (λ m. cond (nat_le 1 m && nat_le m GREATEST) (Some m) None) o) (numbered n few)
    ∙ ap (λ b. cond b (Some n) None) ok

nth_of : (n : ℕ) → 1 ≤ n → n ≤ 5000 → which_of (decimal n) ≡ Some (Nth n)
unfolding which_of
nth_of n some few =
    ap (λ b. cond b (Some Every) (option_map Nth (packet_number (decimal n)))) (not_all (decimal n) (digits n (omega arith)))
    ∙ ap (λ o. option_map Nth o) (in_range n some few)

-- ---- a line

-- digits have no byte below them
apart : (c : ℕ) → c < 48 → (ds : List ℕ) → list_all is_ascii_digit ds ≡ true → list_all (λ x. not (x == c)) ds ≡ true
apart c low [] h = refl
apart c low (d ∷ ds) h =
    let parts = and_parts (is_ascii_digit d) (list_all is_ascii_digit ds) h in
    and_from _ _ (one d parts.0) (apart c low ds parts.1)
  where
    one : (x : ℕ) → is_ascii_digit x ≡ true → not (x == c) ≡ true
    one x digit = grind (arith, nat_tests)

free : (c : ℕ) (xs : List ℕ) → list_all (λ x. not (x == c)) xs ≡ true → All (λ x. (x == c) ≡ false) xs
free c [] h k d less = absurd (omega (arith, less))
free c (x ∷ xs) h zero d less = not-true (x == c) (and_parts (not (x == c)) (list_all (λ y. not (y == c)) xs) h).0
free c (x ∷ xs) h (suc k) d less =
    free c xs (and_parts (not (x == c)) (list_all (λ y. not (y == c)) xs) h).1 k d (omega (arith, less))

abbrev is_space : ℕ → Bool
is_space c = c == 32

abbrev is_feed : ℕ → Bool
is_feed c = c == 10

abbrev some_bytes : List ℕ → Bool
some_bytes word = nat_lt 0 (length word)

-- its three words
loss_words : (n : ℕ) → 50 * n ≤ 5000 → words_of (loss_line n) ≡ codes "drop" ∷ codes "any" ∷ decimal (50 * n) ∷ []
loss_words n few =
    let ds = decimal (50 * n) in
    let some : some_bytes ds ≡ true = let long : 0 < length ds = (decimal_is_IsNumeral (50 * n) (omega arith)).0.0 in grind (arith, nat_tests) in
    ap (λ (ps : List (List ℕ)). filter some_bytes (codes "drop" ∷ codes "any" ∷ ps))
    (slice_split_none is_space ds (free 32 ds (apart 32 (omega arith) ds (digits (50 * n) (omega arith)))))
    ∙ ap (λ b. codes "drop" ∷ codes "any" ∷ cond b (ds ∷ []) []) some

-- which say the loss
loss_said : (n : ℕ) → 1 ≤ n → 50 * n ≤ 5000 → Says (words_of (loss_line n)) (loss n)
unfolding verb_of kinds_of
loss_said n some few =
    (codes "drop", codes "any", decimal (50 * n), loss_words n few, refl, refl, nth_of (50 * n) (omega arith) few)

no_feed : (n : ℕ) → 50 * n ≤ 5000 → All (λ x. is_feed x ≡ false) (loss_line n)
no_feed n few = free 10 (loss_line n) (apart 10 (omega arith) (decimal (50 * n)) (digits (50 * n) (omega arith)))

low_codes : (cs ds : List ℕ) → IsAscii ds → list_all (λ c. nat_lt c 128) cs ≡ true → IsAscii (cs ++ ds)
low_codes [] ds low h = low
low_codes (c ∷ cs) ds low h =
    let parts = and_parts (nat_lt c 128) (list_all (λ d. nat_lt d 128) cs) h in
    IsAscii-cons c (cs ++ ds) (ltb-true c 128 parts.0) (low_codes cs ds low parts.1)

loss_utf8 : (n : ℕ) → 50 * n ≤ 5000 → IsUtf8 (loss_line n)
loss_utf8 n few = IsUtf8-from_ascii (loss_line n) (low_codes (codes "drop any ") (decimal (50 * n)) (IsAscii-decimal (50 * n) (omega arith)) refl)

-- ---- the lines, from the n-th on

losses_from : ℕ → ℕ → List ScriptLine
losses_from n zero = []
losses_from n (suc more) = loss n ∷ losses_from (suc n) more

lines_from : ℕ → ℕ → List (List ℕ)
lines_from n zero = [] ∷ []
lines_from n (suc more) = loss_line n ∷ lines_from (suc n) more

text_from : ℕ → ℕ → List ℕ
text_from n zero = []
text_from n (suc more) = loss_line n ++ 10 ∷ text_from (suc n) more

-- one more behind them
losses_more : (more n : ℕ) → losses_from n (suc more) ≡ losses_from n more ++ loss (n + more) ∷ []
unfolding losses_from
losses_more zero n = ap (λ k. loss k ∷ []) (let e : n ≡ n + 0 = omega arith in e)
losses_more (suc more) n =
    ap (λ ls. loss n ∷ ls) (losses_more more (suc n) ∙ ap (λ k. losses_from (suc n) more ++ loss k ∷ []) (let e : suc n + more ≡ n + suc more = omega arith in e))

text_more : (more n : ℕ) → text_from n (suc more) ≡ text_from n more ++ (loss_line (n + more) ++ 10 ∷ [])
unfolding text_from
text_more zero n = ap (λ k. loss_line k ++ 10 ∷ []) (let e : n ≡ n + 0 = omega arith in e)
text_more (suc more) n =
    ap (λ t. loss_line n ++ 10 ∷ t)
    (text_more more (suc n) ∙ ap (λ k. text_from (suc n) more ++ (loss_line k ++ 10 ∷ [])) (let e : suc n + more ≡ n + suc more = omega arith in e))
    ∙ sym (append_assoc (loss_line n) (10 ∷ text_from (suc n) more) (loss_line (n + suc more) ++ 10 ∷ []))

losses_are : (lost : ℕ) → losses_from 1 lost ≡ losses lost
unfolding losses_from
losses_are zero = refl
losses_are (suc n) =
    losses_more n 1 ∙ ap (λ ls. ls ++ loss (1 + n) ∷ []) (losses_are n) ∙ ap (λ k. losses n ++ loss k ∷ []) (let e : 1 + n ≡ suc n = omega arith in e)

text_are : (lost : ℕ) → text_from 1 lost ≡ losses_text lost
unfolding text_from
text_are zero = refl
text_are (suc n) =
    text_more n 1 ∙ ap (λ t. t ++ (loss_line (1 + n) ++ 10 ∷ [])) (text_are n)
    ∙ ap (λ k. losses_text n ++ (loss_line k ++ 10 ∷ [])) (let e : 1 + n ≡ suc n = omega arith in e)

-- ---- what they say

split_lines : (more n : ℕ) → n + more ≤ 101 → lines_of (text_from n more) ≡ lines_from n more
unfolding text_from lines_from
split_lines zero n few = refl
split_lines (suc more) n few =
    slice_split_at is_feed (loss_line n) 10 (text_from (suc n) more) (no_feed n (omega arith)) refl
    ∙ ap (λ ls. loss_line n ∷ ls) (split_lines more (suc n) (omega arith))

each_utf8 : (more n : ℕ) → n + more ≤ 101 → AllByRecursion IsUtf8 (lines_from n more)
unfolding lines_from
each_utf8 zero n few = (IsUtf8-from_ascii [] IsAscii-nil, tt)
each_utf8 (suc more) n few = (loss_utf8 n (omega arith), each_utf8 more (suc n) (omega arith))

each_said : (more n : ℕ) → 1 ≤ n → n + more ≤ 101 → SayAll (filter speaks (lines_from n more)) (losses_from n more)
unfolding lines_from losses_from
each_said zero n some few = tt
each_said (suc more) n some few = (loss_said n some (omega arith), each_said more (suc n) (omega arith) (omega arith))

no_seed : (more n : ℕ) → count_by is_seed (losses_from n more) ≡ 0
unfolding losses_from
no_seed zero n = refl
no_seed (suc more) n = no_seed more (suc n)

said_from : (more n : ℕ) → 1 ≤ n → n + more ≤ 101 → IsScript (text_from n more) (losses_from n more)
said_from more n some few = subst (λ (ls : List (List ℕ)). AreSaid ls (losses_from n more)) (sym (split_lines more n few)) (record {
  utf8 = each_utf8 more n few;
  each = each_said more n some few;
  seeds = omega (arith, no_seed more n);
})

pub losses_said : (lost : ℕ) → lost ≤ 100 → IsScript (losses_text lost) (losses lost)
losses_said lost few =
    subst (λ (t : List ℕ). IsScript t (losses lost)) (text_are lost)
    (subst (λ (ls : List ScriptLine). IsScript (text_from 1 lost) ls) (losses_are lost) (said_from lost 1 (omega arith) (omega arith)))
