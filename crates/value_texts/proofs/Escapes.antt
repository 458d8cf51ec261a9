-- A character of a string that is read is the one that stands there, and what is written is read again.
use Rattle.std.proofs.Common.{◌≡◌, ℕ, zero, suc, ◌+◌, ◌-◌, ◌*◌, ◌<◌, ◌≤◌, Bool, true, false, cond, eqb, List, [], ◌∷◌, ◌++◌, Some, None, refl, sym, ap, subst, ◌∙◌, arith, inl, inr}
use Rattle.std.specs.Prelude.{◌&&◌, ◌||◌, ◌/◌, ◌%◌, nat_le}
use Rattle.std.proofs.lemmas.Bool.{eqb-true}
use Rattle.std.proofs.lemmas.Bool.Decides.{nat_tests}
use Rattle.value_texts.specs.Spelling.{escaped, hex_digit, is_plain}
use Rattle.value_texts.specs.Reading.{◌>>=◌, begins, character_at, code_at, escape_at, hex_value, is_coded}
use Rattle.value_texts.proofs.Steps.{bind_some, bound, some_is, guarded, chosen, no_is}

-- ---- digits in base 16

pub record IsHex (c n : ℕ) : Type 0 where
  pub small : n < 16
  pub digit : hex_digit n ≡ c

low_hex : (c : ℕ) → (nat_le 48 c && nat_le c 57) ≡ true → IsHex c (c - 48)
low_hex c h = record { small = grind (arith, nat_tests); digit = grind (arith, nat_tests) }

high_hex : (c : ℕ) → (nat_le 97 c && nat_le c 102) ≡ true → IsHex c (c - 87)
high_hex c h = record { small = grind (arith, nat_tests); digit = grind (arith, nat_tests) }

pub hex_takes : (c n : ℕ) → hex_value c ≡ Some n → IsHex c n
unfolding hex_value
hex_takes c n e =
    elim (chosen (nat_le 48 c && nat_le c 57) (Some (c - 48)) (cond (nat_le 97 c && nat_le c 102) (Some (c - 87)) None) (Some n) e) [
      | inl d ↦ subst (λ (k : ℕ). IsHex c k) (some_is (c - 48) n d.1) (low_hex c d.0)
      | inr l ↦
          let g = guarded (nat_le 97 c && nat_le c 102) (c - 87) n l.1 in
          subst (λ (k : ℕ). IsHex c k) g.1 (high_hex c g.0)
    ]

pub hex_again : (n : ℕ) → n < 16 → hex_value (hex_digit n) ≡ Some n
unfolding hex_value
hex_again zero h = refl
hex_again (suc zero) h = refl
hex_again (suc (suc zero)) h = refl
hex_again (suc (suc (suc zero))) h = refl
hex_again (suc (suc (suc (suc zero)))) h = refl
hex_again (suc (suc (suc (suc (suc zero))))) h = refl
hex_again (suc (suc (suc (suc (suc (suc zero)))))) h = refl
hex_again (suc (suc (suc (suc (suc (suc (suc zero))))))) h = refl
hex_again (suc (suc (suc (suc (suc (suc (suc (suc zero)))))))) h = refl
hex_again (suc (suc (suc (suc (suc (suc (suc (suc (suc zero))))))))) h = refl
hex_again (suc (suc (suc (suc (suc (suc (suc (suc (suc (suc zero)))))))))) h = refl
hex_again (suc (suc (suc (suc (suc (suc (suc (suc (suc (suc (suc zero))))))))))) h = refl
hex_again (suc (suc (suc (suc (suc (suc (suc (suc (suc (suc (suc (suc zero)))))))))))) h = refl
hex_again (suc (suc (suc (suc (suc (suc (suc (suc (suc (suc (suc (suc (suc zero))))))))))))) h = refl
hex_again (suc (suc (suc (suc (suc (suc (suc (suc (suc (suc (suc (suc (suc (suc zero)))))))))))))) h = refl
hex_again (suc (suc (suc (suc (suc (suc (suc (suc (suc (suc (suc (suc (suc (suc (suc zero))))))))))))))) h = refl
hex_again (suc (suc (suc (suc (suc (suc (suc (suc (suc (suc (suc (suc (suc (suc (suc (suc n)))))))))))))))) h = absurd (omega (arith, h))

-- ---- how a character is written

fourth : {A : Type 0} (a b c d : Bool) (v w x y z : A) → a ≡ false → b ≡ false → c ≡ false → d ≡ true → cond a v (cond b w (cond c x (cond d y z))) ≡ y
fourth false false false true v w x y z ha hb hc hd = refl
fourth true b c d v w x y z ha hb hc hd = absurd cc
fourth false true c d v w x y z ha hb hc hd = absurd cc
fourth false false true d v w x y z ha hb hc hd = absurd cc
fourth false false false false v w x y z ha hb hc hd = absurd cc

fifth : {A : Type 0} (a b c d : Bool) (v w x y z : A) → a ≡ false → b ≡ false → c ≡ false → d ≡ false → cond a v (cond b w (cond c x (cond d y z))) ≡ z
fifth false false false false v w x y z ha hb hc hd = refl
fifth true b c d v w x y z ha hb hc hd = absurd cc
fifth false true c d v w x y z ha hb hc hd = absurd cc
fifth false false true d v w x y z ha hb hc hd = absurd cc
fifth false false false true v w x y z ha hb hc hd = absurd cc

pub record IsPlain (c : ℕ) : Type 0 where
  pub feed : eqb c 10 ≡ false
  pub tab : eqb c 9 ≡ false
  pub quoted : (eqb c 92 || eqb c 34) ≡ false
  pub slash : eqb c 92 ≡ false
  pub quote : eqb c 34 ≡ false
  pub small : c ≤ 127

plain_parts : (c : ℕ) → is_plain c ≡ true → IsPlain c
plain_parts c h = record {
  feed = grind (arith, nat_tests);
  tab = grind (arith, nat_tests);
  quoted = grind (arith, nat_tests);
  slash = grind (arith, nat_tests);
  quote = grind (arith, nat_tests);
  small = grind (arith, nat_tests);
}

plain_escaped : (c : ℕ) → is_plain c ≡ true → escaped c ≡ c ∷ []
unfolding escaped
plain_escaped c h =
    let p = plain_parts c h in
    fourth (eqb c 10) (eqb c 9) (eqb c 92 || eqb c 34) (is_plain c) (92 ∷ 110 ∷ []) (92 ∷ 116 ∷ []) (92 ∷ c ∷ []) (c ∷ []) (92 ∷ 120 ∷ hex_digit (c / 16) ∷ hex_digit (c % 16) ∷ []) p.feed p.tab p.quoted h

pub record IsCoded (c : ℕ) : Type 0 where
  pub feed : eqb c 10 ≡ false
  pub tab : eqb c 9 ≡ false
  pub quoted : (eqb c 92 || eqb c 34) ≡ false
  pub plain : is_plain c ≡ false
  pub small : c ≤ 127

coded_parts : (c : ℕ) → is_coded c ≡ true → IsCoded c
coded_parts c h = record {
  feed = grind (arith, nat_tests);
  tab = grind (arith, nat_tests);
  quoted = grind (arith, nat_tests);
  plain = grind (arith, nat_tests);
  small = grind (arith, nat_tests);
}

coded_escaped : (c : ℕ) → is_coded c ≡ true → escaped c ≡ 92 ∷ 120 ∷ hex_digit (c / 16) ∷ hex_digit (c % 16) ∷ []
unfolding escaped
coded_escaped c h =
    let p = coded_parts c h in
    fifth (eqb c 10) (eqb c 9) (eqb c 92 || eqb c 34) (is_plain c) (92 ∷ 110 ∷ []) (92 ∷ 116 ∷ []) (92 ∷ c ∷ []) (c ∷ []) (92 ∷ 120 ∷ hex_digit (c / 16) ∷ hex_digit (c % 16) ∷ []) p.feed p.tab p.quoted p.plain

-- ---- what is read stands there

abbrev pub CharacterIs : List ℕ → ℕ × List ℕ → Type 0
CharacterIs text x = (text ≡ escaped x.0 ++ x.1) × (x.0 ≤ 127)

code_parts : (high low h l : ℕ) (rest : List ℕ) → IsHex high h → IsHex low l → is_coded (16 * h + l) ≡ true → CharacterIs (92 ∷ 120 ∷ high ∷ low ∷ rest) (16 * h + l, rest)
code_parts high low h l rest is_high is_low coded =
    let c = 16 * h + l in
    let first : c / 16 ≡ h = omega (arith, is_low.small) in
    let second : c % 16 ≡ l = omega (arith, is_low.small) in
    let digits : (high ∷ low ∷ []) ≡ (hex_digit (c / 16) ∷ hex_digit (c % 16) ∷ []) = rw (first, second, is_high.digit, is_low.digit) refl in
    let whole : (92 ∷ 120 ∷ high ∷ low ∷ []) ≡ escaped c = ap (λ (t : List ℕ). 92 ∷ 120 ∷ t) digits ∙ sym (coded_escaped c coded) in
    (ap (λ (t : List ℕ). t ++ rest) whole, (coded_parts c coded).small)

code_takes : (text : List ℕ) (x : ℕ × List ℕ) → code_at text ≡ Some x → CharacterIs (92 ∷ 120 ∷ text) x
unfolding code_at
code_takes [] x e = absurd cc
code_takes (high ∷ []) x e = absurd cc
code_takes (high ∷ low ∷ rest) x e =
    let a = bind_some (hex_value high) (λ h. hex_value low >>= λ l. cond (is_coded (16 * h + l)) (Some (16 * h + l, rest)) None) x e in
    let b = bind_some (hex_value low) (λ l. cond (is_coded (16 * a.0 + l)) (Some (16 * a.0 + l, rest)) None) x a.2 in
    let g = guarded (is_coded (16 * a.0 + b.0)) (16 * a.0 + b.0, rest) x b.2 in
    subst (λ (y : ℕ × List ℕ). CharacterIs (92 ∷ 120 ∷ high ∷ low ∷ rest) y) g.1 (code_parts high low a.0 b.0 rest (hex_takes high a.0 a.1) (hex_takes low b.0 b.1) g.0)

abbrev Escaped : ℕ → List ℕ → ℕ × List ℕ → Type 0
Escaped c rest x = CharacterIs (92 ∷ c ∷ rest) x

feed_is : (rest : List ℕ) → Escaped 110 rest (10, rest)
unfolding escaped
feed_is rest = (refl, omega arith)

tab_is : (rest : List ℕ) → Escaped 116 rest (9, rest)
unfolding escaped
tab_is rest = (refl, omega arith)

slash_is : (rest : List ℕ) → Escaped 92 rest (92, rest)
unfolding escaped
slash_is rest = (refl, omega arith)

quote_is : (rest : List ℕ) → Escaped 34 rest (34, rest)
unfolding escaped
quote_is rest = (refl, omega arith)

quoted_is : (c : ℕ) (rest : List ℕ) (b : Bool) → eqb c 92 ≡ b → (b || eqb c 34) ≡ true → Escaped c rest (c, rest)
quoted_is c rest true e h = subst (λ (k : ℕ). Escaped k rest (k, rest)) (sym (eqb-true c 92 e)) (slash_is rest)
quoted_is c rest false e h = subst (λ (k : ℕ). Escaped k rest (k, rest)) (sym (eqb-true c 34 h)) (quote_is rest)

escape_takes : (text : List ℕ) (x : ℕ × List ℕ) → escape_at text ≡ Some x → CharacterIs (92 ∷ text) x
unfolding escape_at
escape_takes [] x e = absurd cc
escape_takes (c ∷ rest) x e =
    elim (chosen (eqb c 110) _ _ _ e) [
      | inl d ↦ subst (λ (k : ℕ). Escaped k rest x) (sym (eqb-true c 110 d.0)) (subst (λ (y : ℕ × List ℕ). Escaped 110 rest y) (some_is (10, rest) x d.1) (feed_is rest))
      | inr d1 ↦ elim (chosen (eqb c 116) _ _ _ d1.1) [
        | inl d ↦ subst (λ (k : ℕ). Escaped k rest x) (sym (eqb-true c 116 d.0)) (subst (λ (y : ℕ × List ℕ). Escaped 116 rest y) (some_is (9, rest) x d.1) (tab_is rest))
        | inr d2 ↦ elim (chosen (eqb c 92 || eqb c 34) _ _ _ d2.1) [
          | inl d ↦ subst (λ (y : ℕ × List ℕ). Escaped c rest y) (some_is (c, rest) x d.1) (quoted_is c rest (eqb c 92) refl d.0)
          | inr d3 ↦ elim (chosen (eqb c 120) _ _ _ d3.1) [
            | inl d ↦ subst (λ (k : ℕ). Escaped k rest x) (sym (eqb-true c 120 d.0)) (code_takes rest x d.1)
            | inr d4 ↦ absurd (none_is x d4.1)
          ]
        ]
      ]
    ]
  where
    none_is : (x : ℕ × List ℕ) → None ≡ Some x → ⊥
    none_is x e = cc

pub character_takes : (text : List ℕ) (x : ℕ × List ℕ) → character_at text ≡ Some x → CharacterIs text x
unfolding character_at
character_takes [] x e = absurd cc
character_takes (c ∷ rest) x e =
    elim (chosen (eqb c 92) _ _ _ e) [
      | inl d ↦ subst (λ (k : ℕ). CharacterIs (k ∷ rest) x) (sym (eqb-true c 92 d.0)) (escape_takes rest x d.1)
      | inr d1 ↦
          let g = guarded (is_plain c) (c, rest) x d1.1 in
          subst (λ (y : ℕ × List ℕ). CharacterIs (c ∷ rest) y) g.1 (ap (λ (t : List ℕ). t ++ rest) (sym (plain_escaped c g.0)), (plain_parts c g.0).small)
    ]

-- ---- what is written is read

read_plain : (c : ℕ) (rest : List ℕ) → is_plain c ≡ true → character_at (c ∷ rest) ≡ Some (c, rest)
unfolding character_at
read_plain c rest h =
    no_is (eqb c 92) (escape_at rest) (cond (is_plain c) (Some (c, rest)) None) (plain_parts c h).slash
    ∙ ap (λ (b : Bool). cond b (Some (c, rest)) None) h

read_code : (c : ℕ) (rest : List ℕ) → c ≤ 127 → is_coded c ≡ true → code_at (hex_digit (c / 16) ∷ hex_digit (c % 16) ∷ rest) ≡ Some (c, rest)
unfolding code_at
read_code c rest small coded =
    let h = c / 16 in
    let l = c % 16 in
    let whole : 16 * h + l ≡ c = omega arith in
    bound (hex_value (hex_digit h)) (λ h. hex_value (hex_digit l) >>= λ l. cond (is_coded (16 * h + l)) (Some (16 * h + l, rest)) None) h (hex_again h (omega (arith, small)))
    ∙ bound (hex_value (hex_digit l)) (λ l. cond (is_coded (16 * h + l)) (Some (16 * h + l, rest)) None) l (hex_again l (omega arith))
    ∙ ap (λ (k : ℕ). cond (is_coded k) (Some (k, rest)) None) whole
    ∙ ap (λ (b : Bool). cond b (Some (c, rest)) None) coded

read_escaped_code : (text : List ℕ) → character_at (92 ∷ 120 ∷ text) ≡ code_at text
unfolding character_at escape_at
read_escaped_code text = refl

again_feed : (rest : List ℕ) → character_at (escaped 10 ++ rest) ≡ Some (10, rest)
unfolding character_at escape_at escaped
again_feed rest = refl

again_tab : (rest : List ℕ) → character_at (escaped 9 ++ rest) ≡ Some (9, rest)
unfolding character_at escape_at escaped
again_tab rest = refl

again_slash : (rest : List ℕ) → character_at (escaped 92 ++ rest) ≡ Some (92, rest)
unfolding character_at escape_at escaped
again_slash rest = refl

again_quote : (rest : List ℕ) → character_at (escaped 34 ++ rest) ≡ Some (34, rest)
unfolding character_at escape_at escaped
again_quote rest = refl

again_plain : (c : ℕ) (rest : List ℕ) → is_plain c ≡ true → character_at (escaped c ++ rest) ≡ Some (c, rest)
again_plain c rest h = ap (λ (t : List ℕ). character_at (t ++ rest)) (plain_escaped c h) ∙ read_plain c rest h

again_coded : (c : ℕ) (rest : List ℕ) → c ≤ 127 → is_coded c ≡ true → character_at (escaped c ++ rest) ≡ Some (c, rest)
again_coded c rest small coded =
    ap (λ (t : List ℕ). character_at (t ++ rest)) (coded_escaped c coded)
    ∙ read_escaped_code (hex_digit (c / 16) ∷ hex_digit (c % 16) ∷ rest)
    ∙ read_code c rest small coded

-- each character has one of six forms
data Form (c : ℕ) : Type 0 where
  feed : c ≡ 10 → Form c
  tab : c ≡ 9 → Form c
  slash : c ≡ 92 → Form c
  quote : c ≡ 34 → Form c
  plain : is_plain c ≡ true → Form c
  coded : is_coded c ≡ true → Form c

rest_coded : (c : ℕ) → c ≤ 127 → eqb c 10 ≡ false → eqb c 9 ≡ false → eqb c 92 ≡ false → eqb c 34 ≡ false → is_plain c ≡ false → is_coded c ≡ true
rest_coded c small f t s q p = grind (arith, nat_tests)

form_of : (c : ℕ) → c ≤ 127 → (f t s q p : Bool) → eqb c 10 ≡ f → eqb c 9 ≡ t → eqb c 92 ≡ s → eqb c 34 ≡ q → is_plain c ≡ p → Form c
form_of c small true t s q p ef et es eq ep = feed (eqb-true c 10 ef)
form_of c small false true s q p ef et es eq ep = tab (eqb-true c 9 et)
form_of c small false false true q p ef et es eq ep = slash (eqb-true c 92 es)
form_of c small false false false true p ef et es eq ep = quote (eqb-true c 34 eq)
form_of c small false false false false true ef et es eq ep = plain ep
form_of c small false false false false false ef et es eq ep = coded (rest_coded c small ef et es eq ep)

again_form : (c : ℕ) (rest : List ℕ) → c ≤ 127 → Form c → character_at (escaped c ++ rest) ≡ Some (c, rest)
again_form c rest small (feed e) = subst (λ (k : ℕ). character_at (escaped k ++ rest) ≡ Some (k, rest)) (sym e) (again_feed rest)
again_form c rest small (tab e) = subst (λ (k : ℕ). character_at (escaped k ++ rest) ≡ Some (k, rest)) (sym e) (again_tab rest)
again_form c rest small (slash e) = subst (λ (k : ℕ). character_at (escaped k ++ rest) ≡ Some (k, rest)) (sym e) (again_slash rest)
again_form c rest small (quote e) = subst (λ (k : ℕ). character_at (escaped k ++ rest) ≡ Some (k, rest)) (sym e) (again_quote rest)
again_form c rest small (plain h) = again_plain c rest h
again_form c rest small (coded h) = again_coded c rest small h

pub character_again : (c : ℕ) (rest : List ℕ) → c ≤ 127 → character_at (escaped c ++ rest) ≡ Some (c, rest)
character_again c rest small = again_form c rest small (form_of c small (eqb c 10) (eqb c 9) (eqb c 92) (eqb c 34) (is_plain c) refl refl refl refl refl)

-- no character begins with the closing quote
open_form : (c : ℕ) (rest : List ℕ) → Form c → begins 34 (escaped c ++ rest) ≡ false
unfolding escaped
open_form c rest (feed e) = subst (λ (k : ℕ). begins 34 (escaped k ++ rest) ≡ false) (sym e) refl
open_form c rest (tab e) = subst (λ (k : ℕ). begins 34 (escaped k ++ rest) ≡ false) (sym e) refl
open_form c rest (slash e) = subst (λ (k : ℕ). begins 34 (escaped k ++ rest) ≡ false) (sym e) refl
open_form c rest (quote e) = subst (λ (k : ℕ). begins 34 (escaped k ++ rest) ≡ false) (sym e) refl
open_form c rest (plain h) = ap (λ (t : List ℕ). begins 34 (t ++ rest)) (plain_escaped c h) ∙ (plain_parts c h).quote
open_form c rest (coded h) = ap (λ (t : List ℕ). begins 34 (t ++ rest)) (coded_escaped c h)

pub character_open : (c : ℕ) (rest : List ℕ) → c ≤ 127 → begins 34 (escaped c ++ rest) ≡ false
character_open c rest small = open_form c rest (form_of c small (eqb c 10) (eqb c 9) (eqb c 92) (eqb c 34) (is_plain c) refl refl refl refl refl)
