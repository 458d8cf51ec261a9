-- The first byte that doesn't continue UTF-8: where std's check finds a fault, and what could have followed before it.
use Rattle.std.proofs.Common.{◌≡◌, ℕ, suc, ◌-◌, ◌*◌, get_or, ◌+◌, ◌<◌, ◌≤◌, Bool, true, false, cond, List, [], ◌∷◌, ◌++◌, length, take, drop, Option, Some, None, refl, sym, ap, ◌∙◌, subst, inl, inr, ◌⊎◌, arith, append_assoc, length-drop}
use Rattle.std.specs.Prelude.{nat_lt, nat_le, ◌==◌}
use Rattle.std.specs.Int.{is_in_range}
use Rattle.std.specs.Str.{IsUtf8, IsValidUpTo, StartsWithNoChar}
use Rattle.std.specs.Str.Lossy.{utf8_error_len, error_len_after_one, error_len_after_two, second_byte_min, second_byte_max}
use Rattle.std.proofs.str.Laws.{Follows, IsUtf8-append}
use Rattle.std.proofs.str.Valid.{of_one, of_two, of_three, of_four}
use Rattle.std.proofs.str.Faults.{Ranged, no_char}
use Rattle.std.proofs.str.Lossy.{utf8_error_len_some}
use Rattle.std.proofs.iter.FirstChar.{no_text, after_text}
use Rattle.std.proofs.lemmas.Bool.{cases_eq, cases_lt, le-ltb, and_parts, and_from, leb-true, le-leb, eqb-true, both_ways, cond-false, cond-true}
use Rattle.std.proofs.lemmas.Bool.Decides.{nat_tests}
use Rattle.std.proofs.lemmas.List.{append-nil, length-take-le, take_at, drop_at}
use Rattle.std.proofs.Math.Seq.{take-add}
use Rattle.orca_lexer.specs.Refusal.{IsUtf8Front, IsFirstBadByte}

-- ---- what begins a character

-- bytes outside the ranges of a character's begin no text
not_text : (l : List ℕ) → 0 < length l → (Ranged (length l) (get_or l 0 0) (get_or l 1 0) (get_or l 2 0) (get_or l 3 0) → ⊥) → IsUtf8 l → ⊥
not_text l some out u =
    let all : length l - 0 ≡ length l = omega arith in
    no_text l [] (subst StartsWithNoChar (sym (append-nil l)) (no_char l 0 (λ w. out (subst (λ n. Ranged n (get_or l 0 0) (get_or l 1 0) (get_or l 2 0) (get_or l 3 0)) all w)))) u some

-- a second byte that may follow this first one
pub record IsSecond (x y : ℕ) : Type 0 where
  pub low : 128 ≤ y
  pub high : y < 192
  pub not_short : x ≡ 224 → 160 ≤ y
  pub no_surrogate : x ≡ 237 → y ≤ 159
  pub not_shorter : x ≡ 240 → 144 ≤ y
  pub not_above : x ≡ 244 → y ≤ 143

is_second : (x y : ℕ) → is_in_range (second_byte_min x) (second_byte_max x) y ≡ true → IsSecond x y
is_second x y h = record {
  low = grind (arith, nat_tests);
  high = grind (arith, nat_tests);
  not_short = λ e. grind (arith, nat_tests);
  no_surrogate = λ e. grind (arith, nat_tests);
  not_shorter = λ e. grind (arith, nat_tests);
  not_above = λ e. grind (arith, nat_tests);
}

second_is : (x y : ℕ) → IsSecond x y → is_in_range (second_byte_min x) (second_byte_max x) y ≡ true
second_is x y s = and_from _ _ (le-leb _ _ (least (x == 224) (x == 240) refl refl)) (le-leb _ _ (most (x == 237) (x == 244) refl refl))
  where
    least : (a b : Bool) → (x == 224) ≡ a → (x == 240) ≡ b → cond a 160 (cond b 144 128) ≤ y
    least true b e f = s.not_short (eqb-true x 224 e)
    least false true e f = s.not_shorter (eqb-true x 240 f)
    least false false e f = s.low

    most : (a b : Bool) → (x == 237) ≡ a → (x == 244) ≡ b → y ≤ cond a 159 (cond b 143 191)
    most true b e f = s.no_surrogate (eqb-true x 237 e)
    most false true e f = s.not_above (eqb-true x 244 f)
    most false false e f = let h = s.high in omega arith

two : (x y : ℕ) → 194 ≤ x → x < 224 → IsSecond x y → IsUtf8 (x ∷ y ∷ [])
two x y low high s = of_two (x ∷ y ∷ []) 0 (omega arith) (low, high) (s.low, s.high)

three : (x y z : ℕ) → 224 ≤ x → x < 240 → IsSecond x y → Follows z → IsUtf8 (x ∷ y ∷ z ∷ [])
three x y z low high s f = of_three (x ∷ y ∷ z ∷ []) 0 (omega arith) (low, high) (s.low, s.high) f (least (cases_eq x 224)) (scalar (cases_eq x 237) (cases_lt x 237))
  where
    code : ℕ
    code = (x - 224) * 4096 + (y - 128) * 64 + (z - 128)

    least : (x ≡ 224) ⊎ (x ≡ 224 → ⊥) → 2048 ≤ (x - 224) * 4096 + (y - 128) * 64 + (z - 128)
    least (inl e) = let h = s.not_short e in omega arith
    least (inr e) = omega arith

    scalar : (x ≡ 237) ⊎ (x ≡ 237 → ⊥) → (x < 237) ⊎ (237 ≤ x) → ((x - 224) * 4096 + (y - 128) * 64 + (z - 128) < 55296) ⊎ (57344 ≤ (x - 224) * 4096 + (y - 128) * 64 + (z - 128))
    scalar (inl e) _ = let h = s.no_surrogate e in let l = s.low in let g = f.1 in inl (omega arith)
    scalar (inr e) (inl l) = let h = s.high in let g = f.1 in inl (omega arith)
    scalar (inr e) (inr g) = inr (omega arith)

four : (x y z w : ℕ) → 240 ≤ x → x ≤ 244 → IsSecond x y → Follows z → Follows w → IsUtf8 (x ∷ y ∷ z ∷ w ∷ [])
four x y z w low high s f g = of_four (x ∷ y ∷ z ∷ w ∷ []) 0 (omega arith) low (s.low, s.high) f g (least (cases_eq x 240), most (cases_eq x 244))
  where
    least : (x ≡ 240) ⊎ (x ≡ 240 → ⊥) → 16 ≤ (x - 240) * 64 + (y - 128)
    least (inl e) = let h = s.not_shorter e in omega arith
    least (inr e) = omega arith

    most : (x ≡ 244) ⊎ (x ≡ 244 → ⊥) → (x - 240) * 64 + (y - 128) < 272
    most (inl e) = let h = s.not_above e in omega arith
    most (inr e) = let h = s.high in omega arith

-- the least byte that goes on
goes_on : Follows 128
goes_on = (omega arith, omega arith)

-- bytes that begin a character begin a text
front_two : (x y : ℕ) → 194 ≤ x → x ≤ 244 → IsSecond x y → IsUtf8Front (x ∷ y ∷ [])
front_two x y low high s = by_length (cases_lt x 224) (cases_lt x 240)
  where
    by_length : (x < 224) ⊎ (224 ≤ x) → (x < 240) ⊎ (240 ≤ x) → IsUtf8Front (x ∷ y ∷ [])
    by_length (inl l) _ = ([], two x y low l s)
    by_length (inr m) (inl l) = (128 ∷ [], three x y 128 m l s goes_on)
    by_length (inr _) (inr m) = (128 ∷ 128 ∷ [], four x y 128 128 m high s goes_on goes_on)

some_second : (x : ℕ) → (y : ℕ) × IsSecond x y
some_second x = by_least (cases_eq x 224) (cases_eq x 240)
  where
    by_least : (x ≡ 224) ⊎ (x ≡ 224 → ⊥) → (x ≡ 240) ⊎ (x ≡ 240 → ⊥) → (y : ℕ) × IsSecond x y
    by_least (inl e) _ = (160, record { low = omega arith; high = omega arith; not_short = λ _. omega arith; no_surrogate = λ f. absurd (omega arith); not_shorter = λ f. absurd (omega arith); not_above = λ f. absurd (omega arith) })
    by_least (inr d) (inl e) = (144, record { low = omega arith; high = omega arith; not_short = λ f. absurd (omega arith); no_surrogate = λ f. absurd (omega arith); not_shorter = λ _. omega arith; not_above = λ f. absurd (omega arith) })
    by_least (inr d) (inr e) = (128, record { low = omega arith; high = omega arith; not_short = λ f. absurd (d f); no_surrogate = λ _. omega arith; not_shorter = λ f. absurd (e f); not_above = λ _. omega arith })

front_one : (x : ℕ) → 194 ≤ x → x ≤ 244 → IsUtf8Front (x ∷ [])
front_one x low high =
    let y = some_second x in
    let more = front_two x y.0 low high y.1 in
    (y.0 ∷ more.0, more.1)

front_three : (x y z : ℕ) → 240 ≤ x → x ≤ 244 → IsSecond x y → Follows z → IsUtf8Front (x ∷ y ∷ z ∷ [])
front_three x y z low high s f = (128 ∷ [], four x y z 128 low high s f goes_on)

-- ---- what begins none

-- a byte that begins no character of several bytes begins no text with what follows, if it is none by itself
bad_lead : (x : ℕ) → 128 ≤ x → (194 ≤ x → x ≤ 244 → ⊥) → IsUtf8Front (x ∷ []) → ⊥
bad_lead x above out front = not_text (x ∷ front.0) (omega arith) (λ w. let second = w.second above in by_order w second (cases_lt 244 x)) front.1
  where
    by_order : Ranged (suc (length front.0)) x (get_or front.0 0 0) (get_or front.0 1 0) (get_or front.0 2 0) → (194 ≤ x) × (1 < suc (length front.0)) × Follows (get_or front.0 0 0) → (244 < x) ⊎ (x ≤ 244) → ⊥
    by_order w second (inl above) = let low = second.2.0 in let high = (w.fourth (omega arith)).2.1 in omega arith
    by_order w second (inr below) = out second.0 below

bad_second : (x y : ℕ) → 194 ≤ x → x ≤ 244 → (IsSecond x y → ⊥) → IsUtf8Front (x ∷ y ∷ []) → ⊥
bad_second x y low high out front = not_text (x ∷ y ∷ front.0) (omega arith) ranged front.1
  where
    ranged : Ranged (suc (suc (length front.0))) x y (get_or front.0 0 0) (get_or front.0 1 0) → ⊥
    ranged w = out (record {
      low = (w.second (omega arith)).2.0;
      high = (w.second (omega arith)).2.1;
      not_short = λ e. let follows = (w.second (omega arith)).2 in let h = (w.in_three (omega arith) (omega arith)).0 in omega arith;
      no_surrogate = λ e. let follows = (w.second (omega arith)).2 in let h = (w.in_three (omega arith) (omega arith)).1 in by_side e follows h;
      not_shorter = λ e. let follows = (w.second (omega arith)).2 in let h = (w.fourth (omega arith)).2.0 in omega arith;
      not_above = λ e. let follows = (w.second (omega arith)).2 in let h = (w.fourth (omega arith)).2.1 in omega arith;
    })
      where
        by_side : x ≡ 237 → Follows y → ((x - 224) * 64 + (y - 128) < 864) ⊎ (896 ≤ (x - 224) * 64 + (y - 128)) → y ≤ 159
        by_side e follows (inl l) = omega arith
        by_side e follows (inr g) = let h = follows.1 in absurd (omega arith)

bad_third : (x y z : ℕ) → 224 ≤ x → (Follows z → ⊥) → IsUtf8Front (x ∷ y ∷ z ∷ []) → ⊥
bad_third x y z low out front = not_text (x ∷ y ∷ z ∷ front.0) (omega arith) (λ w. out (w.third low).1) front.1

bad_fourth : (x y z v : ℕ) → 240 ≤ x → (Follows v → ⊥) → IsUtf8Front (x ∷ y ∷ z ∷ v ∷ []) → ⊥
bad_fourth x y z v low out front = not_text (x ∷ y ∷ z ∷ v ∷ front.0) (omega arith) (λ w. out (w.fourth low).1) front.1

-- ---- where std's check finds a fault

-- no front of these bytes is a text
abbrev pub NoFront : List ℕ → Type 0
NoFront rest = (m : ℕ) → 0 < m → IsUtf8 (take m rest) → ⊥

-- the fault, of bytes that begin with a first byte of several
abbrev FaultIs : List ℕ → Option ℕ → Type 0
FaultIs rest None = IsFirstBadByte rest (length rest)
FaultIs rest (Some n) = IsFirstBadByte rest n

third_range : (z : ℕ) → is_in_range 128 191 z ≡ true → Follows z
third_range z h = let parts = and_parts (nat_le 128 z) (nat_le z 191) h in let low = leb-true 128 z parts.0 in let high = leb-true z 191 parts.1 in (low, omega arith)

range_third : (z : ℕ) → Follows z → is_in_range 128 191 z ≡ true
range_third z f = and_from (nat_le 128 z) (nat_le z 191) (le-leb 128 z f.0) (le-leb z 191 (let h = f.1 in omega arith))

not_short : {X : Type 0} (n m : ℕ) (p q : X) → m ≤ n → cond (nat_lt n m) p q ≡ q
not_short n m p q long = cond-false (nat_lt n m) p q (le-ltb n m long)

-- behind four bytes
after_four : (x y z v : ℕ) (t : List ℕ) → 194 ≤ x → x ≤ 244 → IsSecond x y → Follows z → NoFront (x ∷ y ∷ z ∷ v ∷ t) → IsFirstBadByte (x ∷ y ∷ z ∷ v ∷ t) 3
after_four x y z v t low high s f none = by_length (cases_lt x 224) (cases_lt x 240)
  where
    by_length : (x < 224) ⊎ (224 ≤ x) → (x < 240) ⊎ (240 ≤ x) → IsFirstBadByte (x ∷ y ∷ z ∷ v ∷ t) 3
    by_length (inl l) _ = absurd (none 2 (omega arith) (two x y low l s))
    by_length (inr m) (inl l) = absurd (none 3 (omega arith) (three x y z m l s f))
    by_length (inr _) (inr m) = record {
      within = omega arith;
      before = front_three x y z m high s f;
      bad = λ _ front. bad_fourth x y z v m (λ g. none 4 (omega arith) (four x y z v m high s f g)) front;
    }

after_three : (x y z : ℕ) (t : List ℕ) (fault : Option ℕ) → 194 ≤ x → x ≤ 244 → IsSecond x y → Follows z → NoFront (x ∷ y ∷ z ∷ t) → fault ≡ cond (nat_lt (length (x ∷ y ∷ z ∷ t)) 4) None (Some 3) → FaultIs (x ∷ y ∷ z ∷ t) fault
after_three x y z [] fault low high s f none e = subst (FaultIs (x ∷ y ∷ z ∷ [])) (sym e) (by_length (cases_lt x 224) (cases_lt x 240))
  where
    by_length : (x < 224) ⊎ (224 ≤ x) → (x < 240) ⊎ (240 ≤ x) → IsFirstBadByte (x ∷ y ∷ z ∷ []) 3
    by_length (inl l) _ = absurd (none 2 (omega arith) (two x y low l s))
    by_length (inr m) (inl l) = absurd (none 3 (omega arith) (three x y z m l s f))
    by_length (inr _) (inr m) = record { within = omega arith; before = front_three x y z m high s f; bad = λ l. absurd (omega arith) }
after_three x y z (v ∷ t) fault low high s f none e = subst (FaultIs (x ∷ y ∷ z ∷ v ∷ t)) (sym (e ∙ not_short (length (x ∷ y ∷ z ∷ v ∷ t)) 4 None (Some 3) (omega arith))) (after_four x y z v t low high s f none)

after_two : (x y : ℕ) (t : List ℕ) (fault : Option ℕ) → 194 ≤ x → x ≤ 244 → IsSecond x y → NoFront (x ∷ y ∷ t) → fault ≡ error_len_after_two (x ∷ y ∷ t) → FaultIs (x ∷ y ∷ t) fault
after_two x y [] fault low high s none e = subst (FaultIs (x ∷ y ∷ [])) (sym e) (record { within = omega arith; before = front_two x y low high s; bad = λ l. absurd (omega arith) })
after_two x y (z ∷ t) fault low high s none e = by_third (is_in_range 128 191 z) refl (e ∙ not_short (length (x ∷ y ∷ z ∷ t)) 3 None _ (omega arith))
  where
    by_third : (b : Bool) → is_in_range 128 191 z ≡ b → fault ≡ cond b (cond (nat_lt (length (x ∷ y ∷ z ∷ t)) 4) None (Some 3)) (Some 2) → FaultIs (x ∷ y ∷ z ∷ t) fault
    by_third true is e = after_three x y z t fault low high s (third_range z is) none e
    by_third false is e = subst (FaultIs (x ∷ y ∷ z ∷ t)) (sym e) (by_length (cases_lt x 224))
      where
        by_length : (x < 224) ⊎ (224 ≤ x) → IsFirstBadByte (x ∷ y ∷ z ∷ t) 2
        by_length (inl l) = absurd (none 2 (omega arith) (two x y low l s))
        by_length (inr m) = record {
          within = omega arith;
          before = front_two x y low high s;
          bad = λ _ front. bad_third x y z m (λ f. both_ways _ is (range_third z f)) front;
        }

after_one : (x : ℕ) (t : List ℕ) (fault : Option ℕ) → 194 ≤ x → x ≤ 244 → NoFront (x ∷ t) → fault ≡ error_len_after_one (x ∷ t) → FaultIs (x ∷ t) fault
after_one x [] fault low high none e = subst (FaultIs (x ∷ [])) (sym e) (record { within = omega arith; before = front_one x low high; bad = λ l. absurd (omega arith) })
after_one x (y ∷ t) fault low high none e = by_second (is_in_range (second_byte_min x) (second_byte_max x) y) refl (e ∙ not_short (length (x ∷ y ∷ t)) 2 None _ (omega arith))
  where
    by_second : (b : Bool) → is_in_range (second_byte_min x) (second_byte_max x) y ≡ b → fault ≡ cond b (error_len_after_two (x ∷ y ∷ t)) (Some 1) → FaultIs (x ∷ y ∷ t) fault
    by_second true is e = after_two x y t fault low high (is_second x y is) none e
    by_second false is e = subst (FaultIs (x ∷ y ∷ t)) (sym e) (record {
      within = omega arith;
      before = front_one x low high;
      bad = λ _ front. bad_second x y low high (λ s. both_ways _ is (second_is x y s)) front;
    })

lead_range : (x : ℕ) → is_in_range 194 244 x ≡ true → (194 ≤ x) × (x ≤ 244)
lead_range x h = let parts = and_parts (nat_le 194 x) (nat_le x 244) h in (leb-true 194 x parts.0, leb-true x 244 parts.1)

range_lead : (x : ℕ) → 194 ≤ x → x ≤ 244 → is_in_range 194 244 x ≡ true
range_lead x low high = and_from (nat_le 194 x) (nat_le x 244) (le-leb 194 x low) (le-leb x 244 high)

-- a first byte of several
lead_fault : (rest : List ℕ) (fault : Option ℕ) → 0 < length rest → NoFront rest → fault ≡ utf8_error_len rest → is_in_range 194 244 (get_or rest 0 0) ≡ true → FaultIs rest fault
lead_fault [] fault some none e lead = absurd (omega arith)
lead_fault (x ∷ t) fault some none e lead =
    let range = lead_range x lead in
    after_one x t fault range.0 range.1 none (e ∙ utf8_error_len_some (x ∷ t) some ∙ cond-true (is_in_range 194 244 x) (error_len_after_one (x ∷ t)) (Some 1) lead)

-- any other first byte
pub other_fault : (rest : List ℕ) → 0 < length rest → NoFront rest → is_in_range 194 244 (get_or rest 0 0) ≡ false → IsFirstBadByte rest 0
other_fault [] some none other = absurd (omega arith)
other_fault (x ∷ t) some none other = record {
  within = omega arith;
  before = ([], ([], (refl, refl)));
  bad = λ _ front. bad_lead x (by_order (cases_lt x 128)) (λ low high. both_ways _ other (range_lead x low high)) front;
}
  where
    by_order : (x < 128) ⊎ (128 ≤ x) → 128 ≤ x
    by_order (inl low) = absurd (none 1 (omega arith) (of_one (x ∷ t) 0 (omega arith) low))
    by_order (inr high) = high

other_none : (rest : List ℕ) (fault : Option ℕ) → 0 < length rest → fault ≡ utf8_error_len rest → fault ≡ None → is_in_range 194 244 (get_or rest 0 0) ≡ true
other_none [] fault some e ends = absurd (omega arith)
other_none (x ∷ t) fault some e ends = by_lead (is_in_range 194 244 x) (sym ends ∙ e ∙ utf8_error_len_some (x ∷ t) some)
  where
    by_lead : (b : Bool) → None ≡ cond b (error_len_after_one (x ∷ t)) (Some 1) → b ≡ true
    by_lead true e = refl
    by_lead false e = absurd cc

-- the bytes end within a character
pub end_fault : (rest : List ℕ) (fault : Option ℕ) → 0 < length rest → NoFront rest → fault ≡ utf8_error_len rest → fault ≡ None → IsFirstBadByte rest (length rest)
end_fault rest fault some none e ends = subst (FaultIs rest) ends (lead_fault rest fault some none e (other_none rest fault some e ends))

-- a byte doesn't go on with a character
pub inner_fault : (rest : List ℕ) (fault : Option ℕ) (n : ℕ) → 0 < length rest → NoFront rest → fault ≡ utf8_error_len rest → fault ≡ Some n → is_in_range 194 244 (get_or rest 0 0) ≡ true → IsFirstBadByte rest n
inner_fault rest fault n some none e is lead = subst (FaultIs rest) is (lead_fault rest fault some none e lead)

-- ---- behind a text

-- no front of what is left behind the longest front that is a text is one
pub no_front : (text : List ℕ) (valid : ℕ) → IsValidUpTo text valid → (m : ℕ) → 0 < m → IsUtf8 (take m (drop valid text)) → ⊥
no_front text valid v m some u =
    let all : take (valid + m) text ≡ take valid text ++ take m (drop valid text) = take-add valid m text in
    v.longest (valid + m) (omega arith) (subst IsUtf8 (sym all) (IsUtf8-append _ _ v.front u))

pub bad_behind : (text : List ℕ) (valid n : ℕ) → IsValidUpTo text valid → IsFirstBadByte (drop valid text) n → IsFirstBadByte text (valid + n)
bad_behind text valid n v b = record {
  within = let within = b.within in let short = v.short in omega (arith, length-drop valid text);
  before = (b.before.0, subst IsUtf8 (sym split) (IsUtf8-append _ _ v.front b.before.1));
  bad = bad;
}
  where
    split : take (valid + n) text ++ b.before.0 ≡ take valid text ++ (take n (drop valid text) ++ b.before.0)
    split = ap (λ (l : List ℕ). l ++ b.before.0) (take-add valid n text) ∙ append_assoc (take valid text) (take n (drop valid text)) b.before.0

    bad : valid + n < length text → IsUtf8Front (take (suc (valid + n)) text) → ⊥
    bad below front = b.bad (omega (arith, length-drop valid text)) (front.0, subst IsUtf8 behind (after_text (take (suc (valid + n)) text ++ front.0) valid front.1 (subst IsUtf8 (sym text_front) v.front)))
      where
        one_more : suc (valid + n) ≡ valid + suc n
        one_more = omega arith

        whole : take (suc (valid + n)) text ++ front.0 ≡ take valid text ++ (take (suc n) (drop valid text) ++ front.0)
        whole = ap (λ k. take k text ++ front.0) one_more ∙ ap (λ (l : List ℕ). l ++ front.0) (take-add valid (suc n) text) ∙ append_assoc (take valid text) (take (suc n) (drop valid text)) front.0

        len : length (take valid text) ≡ valid
        len = let short = v.short in length-take-le valid text (omega arith)

        text_front : take valid (take (suc (valid + n)) text ++ front.0) ≡ take valid text
        text_front = ap (take valid) whole ∙ take_at (take valid text) (take (suc n) (drop valid text) ++ front.0) valid len

        behind : drop valid (take (suc (valid + n)) text ++ front.0) ≡ take (suc n) (drop valid text) ++ front.0
        behind = ap (drop valid) whole ∙ drop_at (take valid text) (take (suc n) (drop valid text) ++ front.0) valid len
