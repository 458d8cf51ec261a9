-- A declared type is known, in a program without a breach: none holds itself, so a way from one to another comes by each once.
use Rattle.std.proofs.Common.{◌≤◌, ◌<◌, ◌+◌, ◌⊎◌, inl, inr, refl, sym, ap, ◌∙◌, subst, arith, eqb-true}
use Rattle.std.specs.Prelude.{◌≡◌, ◌==◌, ◌||◌, not, ℕ, zero, suc, Bool, true, false, List, [], ◌∷◌, length, filter_map, slice_get, get_or, Option, Some, None}
use Rattle.std.specs.List.{All, AllByRecursion, Contains, cons_option, list_any}
use Rattle.std.proofs.lemmas.Bool.{true≢false, eqb-false}
use Rattle.std.proofs.lemmas.List.Elements.{All-contains, All-contains_itself, All-from_recursion, recursion_from_All}
use Rattle.std.proofs.lemmas.List.Folds.{Any-from_list_any, list_any-from_Any}
use Rattle.std.proofs.lemmas.Option.{slice_get_within}
use Rattle.orca_tree.specs.declared.tree.Name.{Name}
use Rattle.orca_syntax.specs.Syntax.{Definition}
use Rattle.link_rules.specs.Units.{Source}
use Rattle.link_rules.specs.Linked.{IsLinked}
use Rattle.link_rules.proofs.Elements.{cons_cases, here, there}
use Rattle.link_rules.proofs.Truth.{or_left, or_right}
use Rattle.type_rules.specs.declared.types.Measured.{Measured}
use Rattle.type_rules.specs.TopLevel as top
use Rattle.type_rules.specs.TopLevel.{What, TopName, StandsFor, number_of, stands_for, top_names}
use Rattle.type_rules.specs.Constants.{View}
use Rattle.type_rules.specs.Scopes.{view_of}
use Rattle.type_rules.specs.TypePhrases.{declared_number, declared_top, declared_type, declared_what, declared_within, definition, holds_itself, leads_to, names_within, parts_of, type_number, types_at, types_within, whole_module}
use Rattle.type_rules.specs.Declarations.{holds_no_self, number_or_none}
use Rattle.meaning_rules.proofs.Called.{top_at}
use Rattle.meaning_rules.proofs.Judged.{all_at, asked, not_true}
use Rattle.meaning_rules.proofs.Orderly.{all_filter_map}
use Rattle.accepted_law.proofs.Bounds.{Known}
use Rattle.accepted_law.proofs.Lists.{order}
use Rattle.accepted_law.proofs.Names.{own_number}
use Rattle.accepted_law.proofs.Phrases.{AgreeOn, IsThere, Table, definition_known, same_definition}
use Rattle.accepted_law.proofs.Tops.{HasRole, IsFine, IsFineTop, role_of, top_roles}

-- ---- numbers that are apart, and below another, are no more than that

abbrev Apart : List ℕ → Type 0
Apart [] = Unit {0}
Apart (x ∷ xs) = AllByRecursion (λ y. x ≡ y → ⊥) xs × Apart xs

record Fewer (n : ℕ) (xs : List ℕ) : Type 0 where
  rest : List ℕ
  apart : Apart rest
  below : AllByRecursion (λ y. y < n) rest
  kept : (x : ℕ) → AllByRecursion (λ y. x ≡ y → ⊥) xs → AllByRecursion (λ y. x ≡ y → ⊥) rest
  few : length xs ≤ suc (length rest)

below_next : (n x : ℕ) (xs : List ℕ) → x ≡ n → AllByRecursion (λ y. x ≡ y → ⊥) xs → AllByRecursion (λ y. y < suc n) xs → AllByRecursion (λ y. y < n) xs
below_next n x [] is apart less = tt
below_next n x (y ∷ ys) is apart less = (by (order y n), below_next n x ys is apart.1 less.1)
  where
    by : (y < n) ⊎ ((n < y) ⊎ (y ≡ n)) → y < n
    by (inl l) = l
    by (inr (inl l)) = let m = less.0 in absurd (omega (arith, l, m))
    by (inr (inr e)) = absurd (apart.0 (is ∙ sym e))

fewer : (n : ℕ) (xs : List ℕ) → Apart xs → AllByRecursion (λ y. y < suc n) xs → Fewer n xs
fewer n [] apart less = record { rest = []; apart = tt; below = tt; kept = λ z all. tt; few = omega arith }
fewer n (x ∷ xs) apart less = by (λ u. fewer n xs apart.1 less.1) (order x n)
  where
    more : Fewer n xs → x < n → Fewer n (x ∷ xs)
    more f l = record {
      rest = x ∷ f.rest;
      apart = (f.kept x apart.0, f.apart);
      below = (l, f.below);
      kept = λ z all. (all.0, f.kept z all.1);
      few = let g = f.few in omega (arith, g);
    }

    by : (Unit {0} → Fewer n xs) → (x < n) ⊎ ((n < x) ⊎ (x ≡ n)) → Fewer n (x ∷ xs)
    by rest (inl l) = more (rest tt) l
    by rest (inr (inl l)) = let m = less.0 in absurd (omega (arith, l, m))
    by rest (inr (inr e)) = record { rest = xs; apart = apart.1; below = below_next n x xs e apart.0 less.1; kept = λ z all. all.1; few = omega arith }

few_below : (n : ℕ) (xs : List ℕ) → Apart xs → AllByRecursion (λ y. y < n) xs → length xs ≤ n
few_below zero [] apart less = omega arith
few_below zero (x ∷ xs) apart less = let l = less.0 in absurd (omega (arith, l))
few_below (suc n) xs apart less =
    let f = fewer n xs apart less in
    let g = f.few in
    let rest = few_below n f.rest f.apart f.below in
    omega (arith, g, rest)

itself : (n : ℕ) → (n == n) ≡ true
itself n = by (n == n) refl
  where
    by : (b : Bool) → (n == n) ≡ b → b ≡ true
    by true e = refl
    by false e = absurd (eqb-false n n e refl)

-- it is in none, so it is apart from each
apart_from : (n : ℕ) (xs : List ℕ) → (Contains xs n → ⊥) → AllByRecursion (λ y. n ≡ y → ⊥) xs
apart_from n [] without = tt
apart_from n (x ∷ xs) without = (λ e. without (subst (Contains (x ∷ xs)) (sym e) (here x xs)), apart_from n xs (λ c. without (there x xs n c)))

from_filter_map : {X Y : Type 0} (P : Y → Type 0) (h : X → Option Y) (xs : List X) → AllByRecursion P (filter_map h xs) → AllByRecursion (λ x. (y : Y) → h x ≡ Some y → P y) xs
from_filter_map P h [] all = tt
from_filter_map {X} {Y} P h (x ∷ xs) all = by (h x) refl all (λ rest. from_filter_map P h xs rest)
  where
    given : Y → Option Y → Y
    given y None = y
    given y (Some z) = z

    by : (o : Option Y) → h x ≡ o → AllByRecursion P (cons_option o (filter_map h xs)) →
        (AllByRecursion P (filter_map h xs) → AllByRecursion (λ z. (y : Y) → h z ≡ Some y → P y) xs) → AllByRecursion (λ z. (y : Y) → h z ≡ Some y → P y) (x ∷ xs)
    by None is rest further = (λ y e. let none : None ≡ Some y = sym is ∙ e in absurd cc, further rest)
    by (Some z) is rest further = (λ y e. subst P (ap (given z) (sym is ∙ e)) rest.0, further rest.1)

module _ (us : List Source) (linked : IsLinked us) (fine : AllByRecursion (IsFineTop us) (top_names us)) where
  abbrev N : ℕ
  N = length (top_names us)

  -- ---- ways

  abbrev Leads : ℕ → ℕ → ℕ → Type 0
  Leads k i j = leads_to us k i j ≡ true

  -- some part leads there
  some_part : (k i h j : ℕ) → Contains (parts_of us i) h → Leads k h j → list_any (λ g. leads_to us k g j) (parts_of us i) ≡ true
  some_part k i h j in_ leads = list_any-from_Any (λ g. leads_to us k g j) (parts_of us i) (in_.0, h, in_.1, in_.2, leads)

  leads_self : (k i : ℕ) → Leads k i i
  leads_self zero i = itself i
  leads_self (suc k) i = or_left (i == i) (list_any (λ g. leads_to us k g i) (parts_of us i)) (itself i)

  leads_part : (k i h j : ℕ) → Contains (parts_of us i) h → Leads k h j → Leads (suc k) i j
  leads_part k i h j in_ leads = or_right (i == j) (list_any (λ g. leads_to us k g j) (parts_of us i)) (some_part k i h j in_ leads)

  leads_on : (k h p i : ℕ) → Leads k h p → Contains (parts_of us p) i → Leads (suc k) h i
  leads_on zero h p i leads in_ = leads_part zero h i i (subst (λ q. Contains (parts_of us q) i) (sym (eqb-true h p leads)) in_) (leads_self zero i)
  leads_on (suc k) h p i leads in_ = by (h == p) refl leads (λ g l. leads_on k g p i l in_)
    where
      by : (b : Bool) → (h == p) ≡ b → (b || list_any (λ g. leads_to us k g p) (parts_of us h)) ≡ true → ((g : ℕ) → Leads k g p → Leads (suc k) g i) → Leads (suc (suc k)) h i
      by true e is further = leads_part (suc k) h i i (subst (λ q. Contains (parts_of us q) i) (sym (eqb-true h p e)) in_) (leads_self (suc k) i)
      by false e is further =
          let some = Any-from_list_any (λ g. leads_to us k g p) (parts_of us h) is in
          leads_part (suc k) h some.1 i (some.0, some.2, some.3) (further some.1 some.4)

  leads_further : (k i j : ℕ) → Leads k i j → Leads (suc k) i j
  leads_further zero i j leads = or_left (i == j) (list_any (λ g. leads_to us zero g j) (parts_of us i)) leads
  leads_further (suc k) i j leads = by (i == j) refl leads (λ g l. leads_further k g j l)
    where
      by : (b : Bool) → (i == j) ≡ b → (b || list_any (λ g. leads_to us k g j) (parts_of us i)) ≡ true → ((g : ℕ) → Leads k g j → Leads (suc k) g j) → Leads (suc (suc k)) i j
      by true e is further = or_left (i == j) (list_any (λ g. leads_to us (suc k) g j) (parts_of us i)) e
      by false e is further =
          let some = Any-from_list_any (λ g. leads_to us k g j) (parts_of us i) is in
          leads_part (suc k) i some.1 j (some.0, some.2, some.3) (further some.1 some.4)

  leads_within : (n k i j : ℕ) → k ≤ n → Leads k i j → Leads n i j
  leads_within zero k i j le leads = subst (λ m. Leads m i j) (let e : k ≡ zero = omega (arith, le) in e) leads
  leads_within (suc n) k i j le leads = by (order k (suc n)) (λ l. leads_within n k i j l leads)
    where
      by : (k < suc n) ⊎ ((suc n < k) ⊎ (k ≡ suc n)) → (k ≤ n → Leads n i j) → Leads (suc n) i j
      by (inl l) rest = leads_further n i j (rest (omega (arith, l)))
      by (inr (inl l)) rest = absurd (omega (arith, l, le))
      by (inr (inr e)) rest = subst (λ m. Leads m i j) e leads

  -- declared types, each of which names the one before it, and the first this one
  abbrev Way : List ℕ → ℕ → Type 0
  Way [] i = Unit {0}
  Way (p ∷ ps) i = Contains (parts_of us p) i × Way ps p

  reached : (ps : List ℕ) (i q : ℕ) → Way ps i → Contains ps q → list_any (λ h. leads_to us (length ps) h i) (parts_of us q) ≡ true
  reached [] i q way in_ = let l = in_.1 in absurd (omega (arith, l))
  reached (p ∷ ps) i q way in_ = by (cons_cases p ps q in_) (λ c. reached ps p q way.1 c)
    where
      by : (p ≡ q) ⊎ Contains ps q → (Contains ps q → list_any (λ h. leads_to us (length ps) h p) (parts_of us q) ≡ true) → list_any (λ h. leads_to us (suc (length ps)) h i) (parts_of us q) ≡ true
      by (inl e) rest = some_part (suc (length ps)) q i i (subst (λ r. Contains (parts_of us r) i) e way.0) (leads_self (suc (length ps)) i)
      by (inr c) rest =
          let some = Any-from_list_any (λ g. leads_to us (length ps) g p) (parts_of us q) (rest c) in
          some_part (suc (length ps)) q some.1 i (some.0, some.2, some.3) (leads_on (length ps) some.1 p i some.4 way.0)

  -- ---- declared types

  pub record IsType (i : ℕ) : Type 0 where
    pub named : TopName
    pub of : Definition
    pub at : slice_get (top_names us) i ≡ Some named
    pub what : named.what ≡ top.TypeName of

  pub fine_at : (i : ℕ) (t : IsType i) → IsFine us t.named.defined.by t.named.defined.name (top.TypeName t.of)
  fine_at i t = subst (IsFine us t.named.defined.by t.named.defined.name) t.what (all_at (IsFineTop us) (top_names us) i t.named fine t.at)

  number_at : (i : ℕ) (t : IsType i) → number_of us t.named.defined.name.text ≡ Some i
  number_at i t = own_number us linked i t.named t.at (all_at HasRole (top_names us) i t.named (top_roles us) t.at ∙ ap role_of t.what)

  no_self : (i : ℕ) → IsType i → holds_itself us i ≡ false
  no_self i t =
      let name = t.named.defined.name in
      let none : holds_no_self us name (Some i) ≡ [] = subst (λ o. holds_no_self us name o ≡ []) (number_at i t) (fine_at i t).1 in
      not_true (holds_itself us i) (asked 8 name.at (not (holds_itself us i)) none)

  pub no_breach_in : (i : ℕ) (t : IsType i) → (definition (declared_type us) (whole_module us t.named) i t.of).breaches ≡ []
  no_breach_in i t =
      subst (λ o. (definition (declared_type us) (view_of us t.named.defined.by []) (number_or_none o) t.of).breaches ≡ []) (number_at i t) (fine_at i t).2

  parts_are : (i : ℕ) (t : IsType i) → parts_of us i ≡ types_within us t.named.defined.by (top.TypeName t.of)
  parts_are i t = ap (types_at us) t.at ∙ ap (types_within us t.named.defined.by) t.what

  pub part_is_type : (m : List ℕ) (n : Name) (j : ℕ) → declared_number (stands_for us m n.text) ≡ Some j → IsType j
  part_is_type m n j is = by (stands_for us m n.text) refl is
    where
      named : (i : ℕ) (t : TopName) → stands_for us m n.text ≡ top.Top i t → (w : What) → t.what ≡ w → type_number w i ≡ Some j → IsType j
      named i t at (top.TypeName of) e same =
          subst IsType (given same) (record { named = t; of = of; at = top_at us m n.text i t at; what = e })
        where
          from : Option ℕ → ℕ
          from None = i
          from (Some k) = k

          given : Some i ≡ Some j → i ≡ j
          given x = ap from x
      named i t at (top.Constant b) e same = absurd cc
      named i t at (top.Value of number) e same = absurd cc
      named i t at (top.Specified hs) e same = absurd cc
      named i t at (top.Implemented os) e same = absurd cc
      named i t at (top.Function ps r b) e same = absurd cc
      named i t at (top.Process ps b) e same = absurd cc

      by : (s : StandsFor) → stands_for us m n.text ≡ s → declared_number s ≡ Some j → IsType j
      by top.Nothing at e = absurd cc
      by (top.Everywhere p) at e = absurd cc
      by (top.Top i t) at e = named i t at t.what refl e

  parts_are_types : (i : ℕ) → IsType i → All IsType (parts_of us i)
  parts_are_types i t =
      subst (All IsType) (sym (parts_are i t))
      (All-from_recursion IsType (types_within us t.named.defined.by (top.TypeName t.of))
      (all_filter_map IsType (λ n. declared_number (stands_for us t.named.defined.by n.text)) (names_within t.of) (each t.named.defined.by (names_within t.of))))
    where
      each : (m : List ℕ) (ns : List Name) → AllByRecursion (λ n. (j : ℕ) → declared_number (stands_for us m n.text) ≡ Some j → IsType j) ns
      each m [] = tt
      each m (n ∷ ns) = (part_is_type m n, each m ns)

  not_on_way : (ps : List ℕ) (i : ℕ) → IsType i → Way ps i → length ps ≤ N → Contains ps i → ⊥
  not_on_way ps i t way le in_ =
      let some = Any-from_list_any (λ h. leads_to us (length ps) h i) (parts_of us i) (reached ps i i way in_) in
      true≢false (sym (some_part N i some.1 i (some.0, some.2, some.3) (leads_within N (length ps) some.1 i le some.4)) ∙ no_self i t)

  -- ---- what holds of a declared type where it holds of its parts, holds of each

  by_parts : (Q : ℕ → ℕ → Type 0) → ((k i : ℕ) → IsType i → k ≤ N → AllByRecursion (Q k) (parts_of us i) → Q (suc k) i) →
      (k : ℕ) (ps : List ℕ) (i : ℕ) → IsType i → Way ps i → Apart (i ∷ ps) → AllByRecursion (λ y. y < N) (i ∷ ps) → length ps + k ≡ N → Q k i
  by_parts Q step zero ps i t way apart less are =
      let few = few_below N (i ∷ ps) apart less in
      absurd (omega (arith, few, are))
  by_parts Q step (suc k) ps i t way apart less are =
      let few = few_below N (i ∷ ps) apart less in
      let part : (h : ℕ) → Contains (parts_of us i) h → Q k h = λ h in_.
      let is : IsType h = All-contains IsType (parts_of us i) h (parts_are_types i t) in_ in
      by_parts Q step k (i ∷ ps) h is (in_, way) (apart_from h (i ∷ ps) (not_on_way (i ∷ ps) h is (in_, way) few), apart) (slice_get_within (top_names us) h is.named is.at, less) (omega (arith, are)) in
      step k i t (omega (arith, are)) (recursion_from_All (Q k) (parts_of us i) (λ n d l. part (get_or (parts_of us i) n d) (All-contains_itself (parts_of us i) n d l)))

  abbrev Parts : (ℕ → Type 0) → (i : ℕ) → IsType i → Type 0
  Parts P i t = AllByRecursion (λ n. (j : ℕ) → declared_number (stands_for us t.named.defined.by n.text) ≡ Some j → P j) (names_within t.of)

  parts_hold : (P : ℕ → Type 0) (i : ℕ) (t : IsType i) → AllByRecursion P (parts_of us i) → Parts P i t
  parts_hold P i t all = from_filter_map P (λ n. declared_number (stands_for us t.named.defined.by n.text)) (names_within t.of) (subst (AllByRecursion P) (parts_are i t) all)

  pub types_hold : (P : ℕ → Type 0) → ((i : ℕ) (t : IsType i) → Parts P i t → P i) → (i : ℕ) → IsType i → P i
  types_hold P step i t =
      by_parts (λ k j. P j) (λ k j u le all. step j u (parts_hold P j u all)) N [] i t tt (tt, tt) (slice_get_within (top_names us) i t.named t.at, tt) (omega arith)

  -- ---- each is known, within so many declarations

  record Settled (k i : ℕ) : Type 0 where
    type : Measured
    settled : (n : ℕ) → k ≤ n → declared_within us n i ≡ Some type
    defined : declared_top (declared_type us) us i (slice_get (top_names us) i) ≡ Some type

  -- the declaration at a place, over a table
  defined_at : (d : Table) (i : ℕ) (t : IsType i) → declared_top d us i (slice_get (top_names us) i) ≡ (definition d (whole_module us t.named) i t.of).is
  defined_at d i t = ap (declared_top d us i) t.at ∙ ap (declared_what d us i t.named) t.what

  top_settled : (k i : ℕ) (t : IsType i) → k ≤ N → AllByRecursion (Settled k) (parts_of us i) → Settled (suc k) i
  top_settled k i t le parts = record { type = known.0; settled = settles; defined = defined_at (declared_type us) i t ∙ known.1 }
    where
      v : View
      v = whole_module us t.named

      each : Parts (Settled k) i t
      each = parts_hold (Settled k) i t parts

      theres : (ns : List Name) → AllByRecursion (λ n. (j : ℕ) → declared_number (stands_for us t.named.defined.by n.text) ≡ Some j → Settled k j) ns → AllByRecursion (IsThere (declared_type us) v) ns
      theres [] all = tt
      theres (n ∷ ns) all = (λ j is. let s = all.0 j is in (s.type, s.settled N le), theres ns all.1)

      agree : (n : ℕ) → k ≤ n → (ns : List Name) → AllByRecursion (λ n. (j : ℕ) → declared_number (stands_for us t.named.defined.by n.text) ≡ Some j → Settled k j) ns →
          AllByRecursion (AgreeOn (declared_within us n) (declared_type us) v) ns
      agree n less [] all = tt
      agree n less (x ∷ xs) all = (λ j is. let s = all.0 j is in s.settled n less ∙ sym (s.settled N le), agree n less xs all.1)

      known : Known (definition (declared_type us) v i t.of).is
      known = definition_known (declared_type us) us fine t.named.defined.by [] i t.of (theres (names_within t.of) each) (no_breach_in i t)

      settles : (n : ℕ) → suc k ≤ n → declared_within us n i ≡ Some known.0
      settles zero less = absurd (omega (arith, less))
      settles (suc n) less =
          defined_at (declared_within us n) i t
          ∙ ap (λ f. f.is) (same_definition (declared_within us n) (declared_type us) v i t.of (agree n (omega (arith, less)) (names_within t.of) each))
          ∙ known.1

  settled_all : (i : ℕ) → IsType i → Settled N i
  settled_all i t = by_parts Settled top_settled N [] i t tt (tt, tt) (slice_get_within (top_names us) i t.named t.at, tt) (omega arith)

  -- a declared type is known, and is what its definition says
  pub declared_known : (i : ℕ) → IsType i → Known (declared_type us i)
  declared_known i t = let s = settled_all i t in (s.type, s.settled N (omega arith))

  pub declared_is : (i : ℕ) (t : IsType i) → declared_type us i ≡ (definition (declared_type us) (whole_module us t.named) i t.of).is
  declared_is i t = let s = settled_all i t in s.settled N (omega arith) ∙ (sym s.defined ∙ defined_at (declared_type us) i t)
