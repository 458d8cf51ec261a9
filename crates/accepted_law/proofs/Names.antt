-- In a program that links each name of the top level has its own place, by which it goes.
use Rattle.std.proofs.Common.{◌≡◌, ℕ, ◌<◌, Bool, true, false, List, [], ◌∷◌, ◌++◌, map, Some, None, ◌⊎◌, inl, inr, zero, suc, refl, sym, ap, ◌∙◌, subst, arith}
use Rattle.std.specs.Prelude.{not, filter, flat_map, slice_get, get_or, option_map}
use Rattle.std.specs.List.{AllPairs}
use Rattle.std.proofs.lemmas.Bool.{true≢false}
use Rattle.std.proofs.lemmas.List.Elements.{filter-append}
use Rattle.std.proofs.lemmas.List.Kept.{AllPairs-filter}
use Rattle.std.proofs.lemmas.List.{map-append}
use Rattle.std.proofs.lemmas.Option.{get_or_from_slice_get, slice_get-map, slice_get_within}
use Rattle.std.proofs.lemmas.Slice.Eq.{bytes_eq-Decides}
use Rattle.orca_tree.specs.declared.tree.Name.{Name}
use Rattle.orca_syntax.specs.Syntax as syn
use Rattle.orca_syntax.specs.Syntax.{Decl}
use Rattle.link_rules.specs.declared.role.Role.{Role}
use Rattle.link_rules.specs.declared.role.Role.TheVariants.{Module, Specification, Implementation, Other}
use Rattle.link_rules.specs.Units.{Source, Defined, defined, defined_by, definitions, definitions_of, module_name, values_of}
use Rattle.link_rules.specs.Rules.{is_role}
use Rattle.link_rules.specs.Linked.{IsLinked, may_share}
use Rattle.link_rules.proofs.Breaches.{role_is}
use Rattle.link_rules.proofs.Seeing.{either_way}
use Rattle.link_rules.proofs.Truth.{and_first, and_second, both_true, not_true}
use Rattle.type_rules.specs.TopLevel.{TopName, top_names, unit_names, names_in, values_at, is_as, bears, number_as, number_of, or_else}
use Rattle.accepted_law.proofs.Lists.{order, place_is, place_none, same_some}

-- ---- the names of the top level are the definitions but modules

abbrev pub is_top : Defined → Bool
is_top d = not (is_role Module d.role)

defined_values : (by file of : List ℕ) (number : ℕ) (ns : List Name) → map (λ t. t.defined) (values_at by file of number ns) ≡ filter is_top (map (defined by file Other) ns)
defined_values by file of number [] = refl
defined_values by file of number (n ∷ ns) = ap (λ ds. defined by file Other n ∷ ds) (defined_values by file of (suc number) ns)

defined_decl : (by file : List ℕ) (d : Decl) → map (λ t. t.defined) (names_in by file d) ≡ filter is_top (defined_by by file d)
defined_decl by file (syn.Constant at n value) = refl
defined_decl by file (syn.Declares at n of) = ap (λ ds. defined by file Other n ∷ ds) (defined_values by file n.text zero (values_of of))
defined_decl by file (syn.Specification at n hs) = refl
defined_decl by file (syn.Implementation at n fields os opening) = refl
defined_decl by file (syn.Function at n ps r b) = refl
defined_decl by file (syn.Process at n ps b) = refl

defined_unit : (by file : List ℕ) (ds : List Decl) → map (λ t. t.defined) (flat_map (names_in by file) ds) ≡ filter is_top (flat_map (defined_by by file) ds)
defined_unit by file [] = refl
defined_unit by file (d ∷ ds) =
    map-append (λ t. t.defined) (names_in by file d) (flat_map (names_in by file) ds)
    ∙ ap (λ xs. xs ++ map (λ t. t.defined) (flat_map (names_in by file) ds)) (defined_decl by file d)
    ∙ ap (λ xs. filter is_top (defined_by by file d) ++ xs) (defined_unit by file ds)
    ∙ sym (filter-append is_top (defined_by by file d) (flat_map (defined_by by file) ds))

pub defined_tops : (us : List Source) → map (λ t. t.defined) (top_names us) ≡ filter is_top (definitions us)
defined_tops [] = refl
defined_tops (u ∷ us) =
    map-append (λ t. t.defined) (unit_names u) (top_names us)
    ∙ ap (λ xs. xs ++ map (λ t. t.defined) (top_names us)) (defined_unit (module_name u) u.file u.syntax.declarations)
    ∙ ap (λ xs. filter is_top (definitions_of u) ++ xs) (defined_tops us)
    ∙ sym (filter-append is_top (definitions_of u) (definitions us))

own_role : (r : Role) → is_role r r ≡ true
own_role Module = refl
own_role Specification = refl
own_role Implementation = refl
own_role Other = refl

module _ (us : List Source) (linked : IsLinked us) where
  abbrev MayBoth : Defined → Defined → Type 0
  MayBoth d e = d.name.text ≡ e.name.text → may_share d.role e.role ≡ true

  tops_apart : AllPairs MayBoth (map (λ t. t.defined) (top_names us))
  tops_apart = subst (AllPairs MayBoth) (sym (defined_tops us)) (AllPairs-filter MayBoth is_top (definitions us) linked.distinct)

  -- of two names that may not be the same the places are one
  in_front : (i j : ℕ) (t u : TopName) → slice_get (top_names us) i ≡ Some t → slice_get (top_names us) j ≡ Some u → i < j → MayBoth t.defined u.defined
  in_front i j t u at_t at_u less =
      let ds = map (λ t. t.defined) (top_names us) in
      let first : slice_get ds i ≡ Some t.defined = slice_get-map (λ t. t.defined) (top_names us) i ∙ ap (option_map (λ t. t.defined)) at_t in
      let second : slice_get ds j ≡ Some u.defined = slice_get-map (λ t. t.defined) (top_names us) j ∙ ap (option_map (λ t. t.defined)) at_u in
      subst (λ d. MayBoth d u.defined) (get_or_from_slice_get ds i t.defined t.defined first)
      (subst (λ e. MayBoth (get_or ds i t.defined) e) (get_or_from_slice_get ds j u.defined t.defined second)
      (tops_apart i j t.defined less (slice_get_within ds j u.defined second)))

  pub one_place : (i j : ℕ) (t u : TopName) → slice_get (top_names us) i ≡ Some t → slice_get (top_names us) j ≡ Some u →
      t.defined.name.text ≡ u.defined.name.text → may_share t.defined.role u.defined.role ≡ false → i ≡ j
  one_place i j t u at_t at_u names apart = by (order i j)
    where
      by : (i < j) ⊎ ((j < i) ⊎ (i ≡ j)) → i ≡ j
      by (inl less) = absurd (true≢false (sym (in_front i j t u at_t at_u less names) ∙ apart))
      by (inr (inl less)) = absurd (true≢false (sym (in_front j i u t at_u at_t less (sym names)) ∙ (either_way u.defined.role t.defined.role ∙ apart)))
      by (inr (inr same)) = same

  -- a name of the top level goes by its place, for its role, and for no other that it may not share its name with
  named_as : (role : Role) (n : List ℕ) (t : TopName) → is_as role n t ≡ true → (t.defined.role ≡ role) × (t.defined.name.text ≡ n)
  named_as role n t is = (role_is role t.defined.role (and_first (is_role role t.defined.role) (bears n t) is), (bytes_eq-Decides t.defined.name.text n).0 (and_second (is_role role t.defined.role) (bears n t) is))

  pub number_is : (i : ℕ) (t : TopName) → slice_get (top_names us) i ≡ Some t → may_share t.defined.role t.defined.role ≡ false →
      number_as us t.defined.role t.defined.name.text ≡ Some i
  number_is i t at alone =
      place_is (is_as t.defined.role t.defined.name.text) (top_names us) i t at
      (both_true (is_role t.defined.role t.defined.role) (bears t.defined.name.text t) (own_role t.defined.role) ((bytes_eq-Decides t.defined.name.text t.defined.name.text).1 refl))
      (λ k u less at_u. not_true (is_as t.defined.role t.defined.name.text u) (λ is.
      let h = named_as t.defined.role t.defined.name.text u is in
      let same : k ≡ i = one_place k i u t at_u at h.1 (ap (λ r. may_share r t.defined.role) h.0 ∙ alone) in
      omega (arith, less, same)))

  pub number_none : (role : Role) (i : ℕ) (t : TopName) → slice_get (top_names us) i ≡ Some t → may_share role t.defined.role ≡ false → is_role role t.defined.role ≡ false →
      number_as us role t.defined.name.text ≡ None
  number_none role i t at apart differs =
      place_none (is_as role t.defined.name.text) (top_names us)
      (λ k u at_u. not_true (is_as role t.defined.name.text u) (λ is.
      let h = named_as role t.defined.name.text u is in
      let same : k ≡ i = one_place k i u t at_u at h.1 (ap (λ r. may_share r t.defined.role) h.0 ∙ apart) in
      let one : u ≡ t = same_some u t (sym at_u ∙ ap (slice_get (top_names us)) same ∙ at) in
      true≢false (sym (own_role role) ∙ ap (is_role role) (sym h.0 ∙ ap (λ x. x.defined.role) one) ∙ differs)))

  -- what is neither half of an object type goes by its own place
  pub own_number : (i : ℕ) (t : TopName) → slice_get (top_names us) i ≡ Some t → t.defined.role ≡ Other → number_of us t.defined.name.text ≡ Some i
  own_number i t at other =
      let n = t.defined.name.text in
      let first = number_none Specification i t at (ap (may_share Specification) other) (ap (is_role Specification) other) in
      let second = number_none Implementation i t at (ap (may_share Implementation) other) (ap (is_role Implementation) other) in
      let third : number_as us Other n ≡ Some i = ap (λ r. number_as us r n) (sym other) ∙ number_is i t at (ap (λ r. may_share r r) other) in
      ap (λ o. or_else o (or_else (number_as us Implementation n) (number_as us Other n))) first ∙ ap (λ o. or_else o (number_as us Other n)) second ∙ third
