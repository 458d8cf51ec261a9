-- Where memberships are right, a type holds itself exactly where a part has its rank.
use Rattle.std.proofs.Common.{◌≡◌, ℕ, zero, suc, ◌≤◌, ◌<◌, Bool, true, false, ◌&&◌, ◌||◌, List, [], ◌∷◌, length, Option, None, Some, ◌⊎◌, inl, inr, refl, sym, ap, ◌∙◌, subst, arith}
use Rattle.std.specs.Prelude.{◌==◌, nat_lt, slice_get}
use Rattle.std.specs.List.{list_all, list_any}
use Rattle.std.proofs.lemmas.Bool.{cases_lt, eq-eqb, eqb-true, ltb-true, true≢false}
use Rattle.std.proofs.lemmas.Option.{slice_get_past}
use Rattle.link_rules.specs.Units.{Source}
use Rattle.link_rules.proofs.Truth.{and_first, and_second, or_left, or_right}
use Rattle.type_rules.specs.TypePhrases.{holds_itself}
use Rattle.type_forms.specs.Parts.{AreParts, listed_at, parts_in}
use Rattle.type_cycles.specs.declared.components.Membership.{Membership}
use Rattle.type_cycles.specs.Leading.{IsOnCycle, Leads, itself, by_part, is_in}
use Rattle.type_cycles.specs.Components.{AreRight, led_from_root, falls_to, leads_to_root, is_nearer_from, is_nearer_to, is_this, membership, on_cycle_at}
use Rattle.type_cycles.proofs.Members.{all_in, any_in, some_in}
use Rattle.type_cycles.proofs.Ways.{holds_cycle, cycle_holds}

-- ---- ways put together

then : (parts : List (List ℕ)) (a b c : ℕ) → Leads parts a b → Leads parts b c → Leads parts a c
then parts a b c (itself _ _ e) w = subst (λ (v : ℕ). Leads parts v c) (sym e) w
then parts a b c (by_part _ h _ in_ rest) w = by_part a h c in_ (then parts h b c rest w)

part_is : (js : List ℕ) (k h : ℕ) → slice_get js k ≡ Some h → is_in h js ≡ true
part_is [] k h e = cc
part_is (j ∷ js) zero h e = or_left (j == h) (is_in h js) (eq-eqb j h (cc))
part_is (j ∷ js) (suc k) h e = or_right (j == h) (is_in h js) (part_is js k h e)

module _ (parts : List (List ℕ)) (members : List Membership) (right : AreRight parts members) where
  inside : (a h : ℕ) → is_in h (parts_in parts a) ≡ true → a < length parts
  inside a h e = by_place (cases_lt a (length parts))
    where
      by_place : (a < length parts) ⊎ (length parts ≤ a) → a < length parts
      by_place (inl lt) = lt
      by_place (inr le) = absurd (true≢false (sym e ∙ ap (λ (o : Option (List ℕ)). is_in h (listed_at o)) (slice_get_past parts a le)))

  falls : (a h : ℕ) → is_in h (parts_in parts a) ≡ true → falls_to members (length parts) (membership members a) h ≡ true
  falls a h e =
      all_in (falls_to members (length parts) (membership members a)) (parts_in parts a) h
      (and_first (list_all (falls_to members (length parts) (membership members a)) (parts_in parts a)) (leads_to_root parts members a && led_from_root parts members a)
      (right a (inside a h e))) e

  within : (a h : ℕ) → is_in h (parts_in parts a) ≡ true → h < length parts
  within a h e = ltb-true h (length parts) (and_first (nat_lt h (length parts)) _ (falls a h e))

  -- of a part the rank is lower, or the same and the root too
  lower_or_same : (a h : ℕ) → is_in h (parts_in parts a) ≡ true → ((membership members h).rank < (membership members a).rank)
      ⊎ (((membership members h).rank ≡ (membership members a).rank) × ((membership members h).root ≡ (membership members a).root))
  lower_or_same a h e =
      by_test (nat_lt (membership members h).rank (membership members a).rank) refl
      (and_second (nat_lt h (length parts)) (nat_lt (membership members h).rank (membership members a).rank
      || ((membership members h).rank == (membership members a).rank && (membership members h).root == (membership members a).root)) (falls a h e))
    where
      by_test : (b : Bool) → nat_lt (membership members h).rank (membership members a).rank ≡ b →
          (b || ((membership members h).rank == (membership members a).rank && (membership members h).root == (membership members a).root)) ≡ true →
          ((membership members h).rank < (membership members a).rank)
          ⊎ (((membership members h).rank ≡ (membership members a).rank) × ((membership members h).root ≡ (membership members a).root))
      by_test true is t = inl (ltb-true (membership members h).rank (membership members a).rank is)
      by_test false is t = inr (
        eqb-true (membership members h).rank (membership members a).rank (and_first ((membership members h).rank == (membership members a).rank) _ t),
        eqb-true (membership members h).root (membership members a).root (and_second ((membership members h).rank == (membership members a).rank) _ t),
      )

  rank_falls : (a b : ℕ) → Leads parts a b → (membership members b).rank ≤ (membership members a).rank
  rank_falls a b (itself _ _ e) = let same = ap (λ (v : ℕ). (membership members v).rank) e in omega (arith, same)
  rank_falls a b (by_part _ h _ in_ rest) =
      let further = rank_falls h b rest in
      elim (lower_or_same a h in_) [ inl lt ↦ omega (arith, lt, further) | inr same ↦ let e = same.0 in omega (arith, e, further) ]

  placed : (i : ℕ) → i < length parts → (leads_to_root parts members i && led_from_root parts members i) ≡ true
  placed i lt = and_second (list_all (falls_to members (length parts) (membership members i)) (parts_in parts i)) (leads_to_root parts members i && led_from_root parts members i) (right i lt)

  -- a part that is nearer to the root
  Next : ℕ → Type 0
  Next i = (h : ℕ) × (is_in h (parts_in parts i) ≡ true) × ((membership members h).root ≡ (membership members i).root)
      × ((membership members h).to_root < (membership members i).to_root)

  -- one whose part it is, and which is nearer from the root
  Previous : ℕ → Type 0
  Previous i = (h : ℕ) × (is_in i (parts_in parts h) ≡ true) × ((membership members h).root ≡ (membership members i).root)
      × ((membership members h).from_root < (membership members i).from_root)

  next_of : (i : ℕ) → i < length parts → ((membership members i).root ≡ i) ⊎ Next i
  unfolding Next
  next_of i lt =
      by_test ((membership members i).root == i) refl (and_first (leads_to_root parts members i) (led_from_root parts members i) (placed i lt))
    where
      by_part_of : (o : Option ℕ) → slice_get (parts_in parts i) (membership members i).next ≡ o → is_nearer_to members (membership members i) o ≡ true →
          ((membership members i).root ≡ i) ⊎ Next i
      by_part_of None is t = absurd (true≢false (sym t))
      by_part_of (Some h) is t = inr (
        h,
        part_is (parts_in parts i) (membership members i).next h is,
        eqb-true (membership members h).root (membership members i).root (and_first ((membership members h).root == (membership members i).root) (nat_lt (membership members h).to_root (membership members i).to_root) t),
        ltb-true (membership members h).to_root (membership members i).to_root (and_second ((membership members h).root == (membership members i).root) (nat_lt (membership members h).to_root (membership members i).to_root) t),
      )

      by_test : (b : Bool) → ((membership members i).root == i) ≡ b →
          (b || is_nearer_to members (membership members i) (slice_get (parts_in parts i) (membership members i).next)) ≡ true → ((membership members i).root ≡ i) ⊎ Next i
      by_test true is t = inl (eqb-true (membership members i).root i is)
      by_test false is t = by_part_of (slice_get (parts_in parts i) (membership members i).next) refl t

  previous_of : (i : ℕ) → i < length parts → ((membership members i).root ≡ i) ⊎ Previous i
  unfolding Previous
  previous_of i lt =
      by_test ((membership members i).root == i) refl (and_second (leads_to_root parts members i) (led_from_root parts members i) (placed i lt))
    where
      by_part_of : (o : Option ℕ) → slice_get (parts_in parts (membership members i).previous) (membership members i).previous_at ≡ o →
          (is_this i o && ((membership members (membership members i).previous).root == (membership members i).root
          && nat_lt (membership members (membership members i).previous).from_root (membership members i).from_root)) ≡ true → ((membership members i).root ≡ i) ⊎ Previous i
      by_part_of None is t = absurd (true≢false (sym t))
      by_part_of (Some h) is t =
          let b = (membership members i).previous in
          let near = and_second (h == i) ((membership members b).root == (membership members i).root && nat_lt (membership members b).from_root (membership members i).from_root) t in
          let this = eqb-true h i (and_first (h == i) ((membership members b).root == (membership members i).root && nat_lt (membership members b).from_root (membership members i).from_root) t) in
          inr (
            b,
            subst (λ (v : ℕ). is_in v (parts_in parts b) ≡ true) this (part_is (parts_in parts b) (membership members i).previous_at h is),
            eqb-true (membership members b).root (membership members i).root (and_first ((membership members b).root == (membership members i).root) (nat_lt (membership members b).from_root (membership members i).from_root) near),
            ltb-true (membership members b).from_root (membership members i).from_root (and_second ((membership members b).root == (membership members i).root) (nat_lt (membership members b).from_root (membership members i).from_root) near),
          )

      by_test : (b : Bool) → ((membership members i).root == i) ≡ b → (b || is_nearer_from parts members i (membership members i)) ≡ true →
          ((membership members i).root ≡ i) ⊎ Previous i
      by_test true is t = inl (eqb-true (membership members i).root i is)
      by_test false is t = by_part_of (slice_get (parts_in parts (membership members i).previous) (membership members i).previous_at) refl t

  reaches_root : (n i : ℕ) → (membership members i).to_root ≤ n → i < length parts → Leads parts i (membership members i).root
  unfolding Next
  reaches_root zero i le lt =
      elim (next_of i lt) [
        | inl e ↦ itself i (membership members i).root (sym e)
        | inr s ↦ let less = s.3 in absurd (omega (arith, less, le))
      ]
  reaches_root (suc n) i le lt =
      elim (next_of i lt) [
        | inl e ↦ itself i (membership members i).root (sym e)
        | inr s ↦
            let less = s.3 in
            by_part i s.0 (membership members i).root s.1
            (subst (λ (v : ℕ). Leads parts s.0 v) s.2 (reaches_root n s.0 (omega (arith, less, le)) (within i s.0 s.1)))
      ]

  reached_from_root : (n i : ℕ) → (membership members i).from_root ≤ n → i < length parts → Leads parts (membership members i).root i
  unfolding Previous
  reached_from_root zero i le lt =
      elim (previous_of i lt) [
        | inl e ↦ itself (membership members i).root i e
        | inr s ↦ let less = s.3 in absurd (omega (arith, less, le))
      ]
  reached_from_root (suc n) i le lt =
      elim (previous_of i lt) [
        | inl e ↦ itself (membership members i).root i e
        | inr s ↦
            let less = s.3 in
            subst (λ (v : ℕ). Leads parts v i) s.2
            (then parts (membership members s.0).root s.0 i (reached_from_root n s.0 (omega (arith, less, le)) (inside s.0 i s.1)) (by_part s.0 i i s.1 (itself i i refl)))
      ]

  cycle_sound : (i : ℕ) → on_cycle_at parts members i ≡ true → IsOnCycle parts i
  cycle_sound i t =
      let some = some_in (λ (h : ℕ). (membership members h).rank == (membership members i).rank) (parts_in parts i) t in
      let h = some.0 in
      let same = eqb-true (membership members h).rank (membership members i).rank some.2 in
      elim (lower_or_same i h some.1) [
        | inl lt ↦ absurd (omega (arith, lt, same))
        | inr both ↦ (
          h,
          some.1,
          then parts h (membership members h).root i (reaches_root (membership members h).to_root h (omega arith) (within i h some.1))
              (subst (λ (v : ℕ). Leads parts v i) (sym both.1) (reached_from_root (membership members i).from_root i (omega arith) (inside i h some.1))),
        )
      ]

  cycle_found : (i : ℕ) → IsOnCycle parts i → on_cycle_at parts members i ≡ true
  cycle_found i r =
      let up = rank_falls r.0 i r.2 in
      elim (lower_or_same i r.0 r.1) [
        | inl lt ↦ absurd (omega (arith, lt, up))
        | inr both ↦ any_in (λ (h : ℕ). (membership members h).rank == (membership members i).rank) (parts_in parts i) r.0 r.1
            (eq-eqb (membership members r.0).rank (membership members i).rank both.0)
      ]

  -- where members are right, ranks tell which types hold themselves
  pub ranked : (us : List Source) → AreParts us parts → (i : ℕ) → on_cycle_at parts members i ≡ holds_itself us i
  ranked us are i = by_both (on_cycle_at parts members i) (holds_itself us i) refl refl
    where
      by_both : (p q : Bool) → on_cycle_at parts members i ≡ p → holds_itself us i ≡ q → p ≡ q
      by_both true true e f = refl
      by_both false false e f = refl
      by_both true false e f = sym (cycle_holds us parts are i (cycle_sound i e)) ∙ f
      by_both false true e f = sym (sym (cycle_found i (holds_cycle us parts are i f)) ∙ e)

-- what is no name of the top level has no part
pub no_cycle : (parts : List (List ℕ)) (members : List Membership) (i : ℕ) → length parts ≤ i → on_cycle_at parts members i ≡ false
no_cycle parts members i le =
    ap (λ (o : Option (List ℕ)). list_any (λ (h : ℕ). (membership members h).rank == (membership members i).rank) (listed_at o)) (slice_get_past parts i le)
