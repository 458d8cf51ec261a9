-- Within as many declarations as there are names each type is reached that is reached at all: a way that comes by a type twice is cut short.
use Rattle.std.proofs.Common.{◌≡◌, ℕ, zero, suc, ◌≤◌, ◌<◌, Bool, true, false, ◌||◌, List, length, Option, ◌⊎◌, inl, inr, refl, sym, ap, ◌∙◌, subst, arith}
use Rattle.std.specs.Prelude.{◌==◌}
use Rattle.std.specs.List.{list_any}
use Rattle.std.proofs.lemmas.Bool.{cases_lt, eq-eqb, eqb-true, true≢false}
use Rattle.std.proofs.lemmas.List.{length-map}
use Rattle.std.proofs.lemmas.Option.{slice_get_past}
use Rattle.link_rules.specs.Units.{Source}
use Rattle.link_rules.proofs.Truth.{or_left, or_right}
use Rattle.type_rules.specs.TopLevel.{top_names}
use Rattle.type_rules.specs.TypePhrases.{holds_itself, leads_to, parts_of}
use Rattle.type_forms.specs.Parts.{AreParts, listed_at, parts_at, parts_in}
use Rattle.type_forms.proofs.SettledTypes.{parts_are}
use Rattle.type_cycles.specs.Leading.{IsOnCycle, Leads, itself, by_part, is_in}
use Rattle.type_cycles.proofs.Members.{any_in, below, fewer_others, in_below, in_others, length-below, others, some_in}

-- a way on which these types alone name another
data Way (parts : List (List ℕ)) : List ℕ → ℕ → ℕ → Type 0 where
  ends : (ns : List ℕ) (a b : ℕ) → a ≡ b → Way parts ns a b
  goes : (ns : List ℕ) (a b h : ℕ) → is_in a ns ≡ true → is_in h (parts_in parts a) ≡ true → Way parts ns h b → Way parts ns a b

-- a part of this type, and a way on from there on which it doesn't name another again
abbrev Step : List (List ℕ) → List ℕ → ℕ → ℕ → Type 0
Step parts ns c b = (h : ℕ) × (is_in h (parts_in parts c) ≡ true) × Way parts (others c ns) h b

cut : (parts : List (List ℕ)) (c : ℕ) (ns : List ℕ) (x b : ℕ) → Way parts ns x b → Way parts (others c ns) x b ⊎ Step parts ns c b
cut parts c ns x b (ends _ _ _ e) = inl (ends (others c ns) x b e)
cut parts c ns x b (goes _ _ _ h own in_ rest) = by_test (x == c) refl (cut parts c ns h b rest)
  where
    by_test : (t : Bool) → (x == c) ≡ t → Way parts (others c ns) h b ⊎ Step parts ns c b → Way parts (others c ns) x b ⊎ Step parts ns c b
    by_test t test (inr r) = inr r
    by_test true test (inl w) = inr (h, subst (λ (v : ℕ). is_in h (parts_in parts v) ≡ true) (eqb-true x c test) in_, w)
    by_test false test (inl w) = inl (goes (others c ns) x b h (in_others c ns x test own) in_ w)

ends_at_once : (us : List Source) (n a b : ℕ) → a ≡ b → leads_to us n a b ≡ true
ends_at_once us zero a b e = eq-eqb a b e
ends_at_once us (suc n) a b e = or_left (a == b) (list_any (λ (h : ℕ). leads_to us n h b) (parts_of us a)) (eq-eqb a b e)

reaches : (us : List Source) (n a b h : ℕ) → is_in h (parts_of us a) ≡ true → leads_to us n h b ≡ true → leads_to us (suc n) a b ≡ true
reaches us n a b h in_ on =
    or_right (a == b) (list_any (λ (h : ℕ). leads_to us n h b) (parts_of us a)) (any_in (λ (h : ℕ). leads_to us n h b) (parts_of us a) h in_ on)

module _ (us : List Source) (parts : List (List ℕ)) (are : AreParts us parts) where
  in_parts : (a h : ℕ) → is_in h (parts_in parts a) ≡ true → is_in h (parts_of us a) ≡ true
  in_parts a h e = ap (is_in h) (sym (parts_are us parts a are)) ∙ e

  enough : (n : ℕ) (ns : List ℕ) (a b : ℕ) → length ns ≤ n → Way parts ns a b → leads_to us n a b ≡ true
  enough n ns a b le (ends _ _ _ e) = ends_at_once us n a b e
  enough zero ns a b le (goes _ _ _ h own in_ rest) = let less = fewer_others a ns own in absurd (omega (arith, less, le))
  enough (suc n) ns a b le (goes _ _ _ h own in_ rest) =
      let less = fewer_others a ns own in
      elim (cut parts a ns h b rest) [
        | inl w ↦ reaches us n a b h (in_parts a h in_) (enough n (others a ns) h b (omega (arith, less, le)) w)
        | inr r ↦ reaches us n a b r.0 (in_parts a r.0 r.1) (enough n (others a ns) r.0 b (omega (arith, less, le)) r.2)
      ]

  sound : (n a b : ℕ) → leads_to us n a b ≡ true → Leads parts a b
  sound zero a b h = itself a b (eqb-true a b h)
  sound (suc n) a b h = by_test (a == b) refl h (λ c. sound n c b)
    where
      by_test : (t : Bool) → (a == b) ≡ t → (t || list_any (λ (c : ℕ). leads_to us n c b) (parts_of us a)) ≡ true →
          ((c : ℕ) → leads_to us n c b ≡ true → Leads parts c b) → Leads parts a b
      by_test true test e further = itself a b (eqb-true a b test)
      by_test false test e further =
          let some = some_in (λ (c : ℕ). leads_to us n c b) (parts_of us a) e in
          by_part a some.0 b (ap (is_in some.0) (parts_are us parts a are) ∙ some.1) (further some.0 some.2)

  -- who names another is a name of the top level
  inside : (a h : ℕ) → is_in h (parts_in parts a) ≡ true → a < length parts
  inside a h e = by_place (cases_lt a (length parts))
    where
      by_place : (a < length parts) ⊎ (length parts ≤ a) → a < length parts
      by_place (inl lt) = lt
      by_place (inr le) = absurd (true≢false (sym e ∙ ap (λ (o : Option (List ℕ)). is_in h (listed_at o)) (slice_get_past parts a le)))

  way : (a b : ℕ) → Leads parts a b → Way parts (below (length parts)) a b
  way a b (itself _ _ e) = ends (below (length parts)) a b e
  way a b (by_part _ h _ in_ rest) = goes (below (length parts)) a b h (in_below (length parts) a (inside a h in_)) in_ (way h b rest)

  count : length parts ≡ length (top_names us)
  count = ap length are ∙ length-map (top_names us) (parts_at us)

  pub cycle_holds : (i : ℕ) → IsOnCycle parts i → holds_itself us i ≡ true
  cycle_holds i r =
      any_in (λ (h : ℕ). leads_to us (length (top_names us)) h i) (parts_of us i) r.0 (in_parts i r.0 r.1)
      (enough (length (top_names us)) (below (length parts)) r.0 i (let b = length-below (length parts) in let n = count in omega (arith, b, n)) (way r.0 i r.2))

  pub holds_cycle : (i : ℕ) → holds_itself us i ≡ true → IsOnCycle parts i
  holds_cycle i e =
      let some = some_in (λ (h : ℕ). leads_to us (length (top_names us)) h i) (parts_of us i) e in
      (some.0, ap (is_in some.0) (parts_are us parts i are) ∙ some.1, sound (length (top_names us)) some.0 i some.2)

  -- what is no name of the top level holds nothing
  pub holds_none : (i : ℕ) → length parts ≤ i → holds_itself us i ≡ false
  holds_none i le =
      ap (list_any (λ (h : ℕ). leads_to us (length (top_names us)) h i)) (sym (parts_are us parts i are) ∙ ap listed_at (slice_get_past parts i le))
