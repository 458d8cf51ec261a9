-- A value goes by its enumeration; a process by its own text, and `OrcaMain` is one without parameters.
use Rattle.std.proofs.Common.{◌<◌, ◌+◌, refl, sym, ap, ◌∙◌, subst, arith}
use Rattle.std.specs.Prelude.{◌≡◌, ◌≢◌, ◌||◌, not, ℕ, zero, suc, Bool, true, false, codes, List, [], ◌∷◌, ◌++◌, length, map, flat_map, slice_get, unwrap_or, Some}
use Rattle.std.specs.List.{AllByRecursion}
use Rattle.std.specs.Option.{option_map_or}
use Rattle.std.proofs.lemmas.Bool.{true≢false}
use Rattle.std.proofs.lemmas.List.{length-map}
use Rattle.std.proofs.lemmas.Slice.Eq.{bytes_eq-Decides}
use Rattle.orca_base.specs.declared.place.Place.{Place as TextPlace}
use Rattle.orca_tree.specs.declared.tree.Name.{Name}
use Rattle.orca_syntax.specs.Syntax as syn
use Rattle.orca_syntax.specs.Syntax.{Kind, Parameter, Block, Definition, Decl}
use Rattle.link_rules.specs.Linked.{IsLinked, may_share}
use Rattle.link_rules.specs.Rules.{is_role}
use Rattle.link_rules.specs.Units.{Source, Defined, definitions, module_name}
use Rattle.link_rules.specs.declared.role.Role.{Role}
use Rattle.link_rules.specs.declared.role.Role.TheVariants.{Module, Specification, Implementation, Other}
use Rattle.type_rules.specs.declared.types.Base.TheVariants as base
use Rattle.type_rules.specs.Types as types
use Rattle.type_rules.specs.Rules.{asks}
use Rattle.type_rules.specs.TopLevel as top
use Rattle.type_rules.specs.TopLevel.{What, TopName, StandsFor, at_number, bears, everywhere, is_as, name_in, names_in, number_as, number_of, numbered, or_else, predeclared, sees, stands_for, top_at, top_names, unit_names, values_at, what_in}
use Rattle.type_rules.specs.Declarations.{is_empty, is_main, no_main, process_form}
use Rattle.meaning_rules.specs.Programs.{is_process, main_text, process_texts, text_of}
use Rattle.meaning_rules.specs.Statements as named
use Rattle.meaning_rules.specs.Statements.{names_at}
use Rattle.meaning_rules.proofs.Judged.{all_at, asked, left_none}
use Rattle.accepted_law.proofs.Lists.{Place, found_at, kept_place, place_kept, place_left, place_of, place_right, same_some, some_place}
use Rattle.accepted_law.proofs.Names.{defined_tops, is_top, one_place, own_number}
use Rattle.accepted_law.proofs.Tops.{HasRole, IsFine, IsFineTop, role_of, top_roles}

-- ---- values

-- of a value, its enumeration stands among these names
record IsEnumeration (ts : List TopName) (of : List ℕ) (number : ℕ) : Type 0 where
  enumeration : TopName
  stands : Place ts enumeration
  bears_it : enumeration.defined.name.text ≡ of
  role : enumeration.defined.role ≡ Other
  within : number < length (named.names_in enumeration.what)

abbrev HasEnumeration : List TopName → What → Type 0
HasEnumeration ts (top.Value of number) = IsEnumeration ts of number
HasEnumeration ts _ = Unit {0}

more_names : (ts us : List TopName) → ((t : TopName) → Place ts t → Place us t) → (w : What) → HasEnumeration ts w → HasEnumeration us w
more_names ts us more (top.Value of number) h =
    record { enumeration = h.enumeration; stands = more h.enumeration h.stands; bears_it = h.bears_it; role = h.role; within = h.within }
more_names ts us more (top.Constant b) h = tt
more_names ts us more (top.TypeName of) h = tt
more_names ts us more (top.Specified hs) h = tt
more_names ts us more (top.Implemented os) h = tt
more_names ts us more (top.Function ps r b) h = tt
more_names ts us more (top.Process ps b) h = tt

abbrev Closed : List TopName → Type 0
Closed ts = AllByRecursion (λ t. HasEnumeration ts t.what) ts

more_all : (ts us xs : List TopName) → ((t : TopName) → Place ts t → Place us t) → AllByRecursion (λ t. HasEnumeration ts t.what) xs → AllByRecursion (λ t. HasEnumeration us t.what) xs
more_all ts us [] more all = tt
more_all ts us (x ∷ xs) more all = (more_names ts us more x.what all.0, more_all ts us xs more all.1)

all_join : (P : TopName → Type 0) (xs ys : List TopName) → AllByRecursion P xs → AllByRecursion P ys → AllByRecursion P (xs ++ ys)
all_join P [] ys a b = b
all_join P (x ∷ xs) ys a b = (a.0, all_join P xs ys a.1 b)

closed_both : (ts us : List TopName) → Closed ts → Closed us → Closed (ts ++ us)
closed_both ts us a b =
    all_join (λ t. HasEnumeration (ts ++ us) t.what) ts us (more_all ts (ts ++ us) ts (λ t p. place_left ts us t p) a) (more_all us (ts ++ us) us (λ t p. place_right ts us t p) b)

closed_flat : {X : Type 0} (f : X → List TopName) (xs : List X) → ((x : X) → Closed (f x)) → Closed (flat_map f xs)
closed_flat f [] each = tt
closed_flat f (x ∷ xs) each = closed_both (f x) (flat_map f xs) (each x) (closed_flat f xs each)

values_closed : (ts : List TopName) (by file : List ℕ) (n : Name) (at : TextPlace) (all ns : List Name) (number : ℕ) →
    Place ts (top_at by file Other n (top.TypeName (syn.Enumeration at all))) → number + length ns ≡ length all → AllByRecursion (λ t. HasEnumeration ts t.what) (values_at by file n.text number ns)
values_closed ts by file n at all [] number place sum = tt
values_closed ts by file n at all (x ∷ xs) number place sum = (
  record {
    enumeration = top_at by file Other n (top.TypeName (syn.Enumeration at all));
    stands = place;
    bears_it = refl;
    role = refl;
    within = let l = length-map all (λ m. m.text) in omega (arith, sum, l);
  },
  values_closed ts by file n at all xs (suc number) place (omega (arith, sum)),
)

decl_closed : (by file : List ℕ) (d : Decl) → Closed (names_in by file d)
decl_closed by file (syn.Declares at n (syn.Enumeration p ns)) =
    (tt, values_closed (names_in by file (syn.Declares at n (syn.Enumeration p ns))) by file n p ns ns zero (zero, refl) (omega arith))
decl_closed by file (syn.Declares at n (syn.Record p fs)) = (tt, tt)
decl_closed by file (syn.Declares at n (syn.Alias k)) = (tt, tt)
decl_closed by file (syn.Constant at n value) = (tt, tt)
decl_closed by file (syn.Specification at n hs) = (tt, tt)
decl_closed by file (syn.Implementation at n fields os opening) = (tt, tt)
decl_closed by file (syn.Function at n ps r b) = (tt, tt)
decl_closed by file (syn.Process at n ps b) = (tt, tt)

tops_closed : (us : List Source) → Closed (top_names us)
tops_closed us = closed_flat unit_names us (λ u. closed_flat (names_in (module_name u) u.file) u.syntax.declarations (decl_closed (module_name u) u.file))

module _ (us : List Source) (linked : IsLinked us) where
  pub all_values : (i : ℕ) (t : TopName) (of : List ℕ) (number : ℕ) → slice_get (top_names us) i ≡ Some t → t.what ≡ top.Value of number →
      (j : ℕ) × (number_of us of ≡ Some j) × (number < length (names_at us (types.Bare (base.Enumeration j))))
  all_values i t of number at what =
      let h = subst (HasEnumeration (top_names us)) what (all_at (λ x. HasEnumeration (top_names us) x.what) (top_names us) i t (tops_closed us) at) in
      let j = h.stands.0 in (
        j,
        ap (number_of us) (sym h.bears_it) ∙ own_number us linked j h.enumeration h.stands.1 h.role,
        subst (λ o. number < length (option_map_or (λ x. named.names_in x.what) o [])) (sym h.stands.1) h.within,
      )

  -- ---- processes

  abbrev is_text : TopName → Bool
  is_text t = is_process t.what

  pub own_text : (k : ℕ) (t : TopName) (ps : List Parameter) (b : Block) → slice_get (top_names us) k ≡ Some t → t.what ≡ top.Process ps b →
      slice_get (process_texts us) (text_of us t.defined.name.text).0 ≡ Some t
  own_text k t ps b at what =
      let n = t.defined.name.text in
      let role : t.defined.role ≡ Other = all_at HasRole (top_names us) k t (top_roles us) at ∙ ap role_of what in
      let kept = place_kept is_text (top_names us) t (k, at) (ap is_process what) in
      let first = some_place (bears n) (process_texts us) kept.0 t kept.1 ((bytes_eq-Decides n n).1 refl) in
      let there = found_at (bears n) (process_texts us) first.0 first.1 in
      let x = there.0 in
      let place = kept_place is_text (top_names us) first.0 x there.1 in
      let same : place.0.0 ≡ k = one_place us linked place.0.0 k x t place.0.1 at ((bytes_eq-Decides x.defined.name.text n).0 there.2) (other_apart x.defined.role t.defined.role (text_role x place.0 place.1) role) in
      let one : x ≡ t = same_some x t (sym place.0.1 ∙ (ap (slice_get (top_names us)) same ∙ at)) in
      let held : slice_get (process_texts us) first.0 ≡ Some t = subst (λ y. slice_get (process_texts us) first.0 ≡ Some y) one there.1 in
      subst (λ o. slice_get (process_texts us) (unwrap_or o 0) ≡ Some t) (sym first.1) held
    where
      other_apart : (r s : Role) → r ≡ Other → s ≡ Other → may_share r s ≡ false
      other_apart r s e f = ap (λ x. may_share x s) e ∙ ap (may_share Other) f

      process_role : (w : What) → is_process w ≡ true → role_of w ≡ Other
      process_role (top.Process qs c) is = refl
      process_role (top.Constant c) is = absurd (true≢false (sym is))
      process_role (top.TypeName of) is = absurd (true≢false (sym is))
      process_role (top.Value of number) is = absurd (true≢false (sym is))
      process_role (top.Specified hs) is = absurd (true≢false (sym is))
      process_role (top.Implemented os) is = absurd (true≢false (sym is))
      process_role (top.Function qs r c) is = absurd (true≢false (sym is))

      text_role : (x : TopName) → Place (top_names us) x → is_text x ≡ true → x.defined.role ≡ Other
      text_role x place is = all_at HasRole (top_names us) place.0 x (top_roles us) place.1 ∙ process_role x.what is

  -- ---- the main process

  module _ (fine : AllByRecursion (IsFineTop us) (top_names us)) where
    main_breaks : (n : Name) → n.text ≡ codes "OrcaMain" → no_main n ≡ [] → ⊥
    main_breaks n is none =
        true≢false (sym ((bytes_eq-Decides n.text (codes "OrcaMain")).1 is) ∙ not_of (is_main n) (asked 16 n.at (not (is_main n)) none))
      where
        not_of : (b : Bool) → not b ≡ true → b ≡ false
        not_of true e = absurd cc
        not_of false e = refl

    no_parameter : (n : Name) (ps : List Parameter) → n.text ≡ codes "OrcaMain" → process_form n ps ≡ [] → ps ≡ []
    no_parameter n ps is none =
        by ps (or_of (is_main n) (is_empty ps) ((bytes_eq-Decides n.text (codes "OrcaMain")).1 is) (asked 16 n.at (not (is_main n) || is_empty ps) (left_none (asks 16 n.at (not (is_main n) || is_empty ps)) _ none)))
      where
        or_of : (b e : Bool) → b ≡ true → (not b || e) ≡ true → e ≡ true
        or_of true e is holds = holds
        or_of false e is holds = absurd (true≢false (sym is))

        by : (qs : List Parameter) → is_empty qs ≡ true → qs ≡ []
        by [] e = refl
        by (q ∷ qs) e = absurd (true≢false (sym e))

    is_main_text : (t : TopName) → t.defined.name.text ≡ codes "OrcaMain" → (w : What) → IsFine us t.defined.by t.defined.name w → (b : Block) × (w ≡ top.Process [] b)
    is_main_text t is (top.Process ps b) f = (b, ap (λ qs. top.Process qs b) (no_parameter t.defined.name ps is f.0))
    is_main_text t is (top.Constant b) f = absurd (main_breaks t.defined.name is f.0)
    is_main_text t is (top.TypeName of) f = absurd (main_breaks t.defined.name is f.0)
    is_main_text t is (top.Value of number) f = absurd (main_breaks t.defined.name is f)
    is_main_text t is (top.Specified hs) f = absurd (main_breaks t.defined.name is f.0)
    is_main_text t is (top.Implemented os) f = absurd (main_breaks t.defined.name is f.0)
    is_main_text t is (top.Function ps r b) f = absurd (main_breaks t.defined.name is f.0)

    pub has_main : (t : TopName) × (b : Block) × (slice_get (process_texts us) (main_text us).0 ≡ Some t) × (t.what ≡ top.Process [] b)
    has_main =
        let m = linked.main in
        let d = m.2.0 in
        let kept = place_kept is_top (definitions us) d (place_of (definitions us) d m.2.1) (top_of d.role m.0 m.2.2 m.1) in
        let mapped : slice_get (map (λ t. t.defined) (top_names us)) kept.0 ≡ Some d = ap (λ ds. slice_get ds kept.0) (defined_tops us) ∙ kept.1 in
        let t = at_map (top_names us) kept.0 d mapped in
        let name : t.0.defined.name.text ≡ codes "OrcaMain" = ap (λ x. x.name.text) t.2 ∙ m.2.3 in
        let what = is_main_text t.0 name t.0.what (all_at (IsFineTop us) (top_names us) kept.0 t.0 fine t.1) in
        (t.0, what.0, ap (λ n. slice_get (process_texts us) (text_of us n).0) (sym name) ∙ own_text kept.0 t.0 [] what.0 t.1 what.1, what.1)
      where
        top_of : (r s : Role) → r ≡ s → s ≢ Module → not (is_role Module r) ≡ true
        top_of Module s e apart = absurd (apart (sym e))
        top_of Specification s e apart = refl
        top_of Implementation s e apart = refl
        top_of Other s e apart = refl

        at_map : (ts : List TopName) (k : ℕ) (d : Defined) → slice_get (map (λ t. t.defined) ts) k ≡ Some d → (t : TopName) × (slice_get ts k ≡ Some t) × (t.defined ≡ d)
        at_map [] k d e = absurd cc
        at_map (t ∷ ts) zero d e = (t, refl, same_some t.defined d e)
        at_map (t ∷ ts) (suc k) d e = at_map ts k d e
