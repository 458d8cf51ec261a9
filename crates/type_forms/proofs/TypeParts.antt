-- What a type phrase asks of declared types: it asks for those that it names alone, and it has no type where one of them has none.
use Rattle.std.proofs.Common.{◌≡◌, ℕ, ℤ, Bool, true, false, ◌&&◌, cond, List, [], ◌∷◌, ◌++◌, Option, Some, None, refl, sym, ap, ◌∙◌}
use Rattle.std.specs.Prelude.{flat_map, filter_map, option_map}
use Rattle.std.specs.List.{list_all, cons_option}
use Rattle.std.proofs.lemmas.Bool.{true≢false}
use Rattle.std.proofs.lemmas.List.Folds.{list_all-append}
use Rattle.std.proofs.lemmas.List.Elements.{filter_map-append}
use Rattle.orca_tree.specs.declared.tree.Name.{Name}
use Rattle.orca_tree.specs.declared.tree.Bound.{Bound}
use Rattle.orca_syntax.specs.Syntax as syn
use Rattle.orca_syntax.specs.Syntax.{Kind, TypedName, Definition}
use Rattle.orca_syntax.specs.Places.{kind_place}
use Rattle.link_rules.specs.Units.{Source}
use Rattle.link_rules.proofs.Truth.{and_first, and_second}
use Rattle.type_rules.specs.declared.breach.Breach.{Breach}
use Rattle.type_rules.specs.declared.types.Measured.{Measured}
use Rattle.type_rules.specs.Rules.{Found, found, unless}
use Rattle.type_rules.specs.TopLevel as top
use Rattle.type_rules.specs.TopLevel.{What, TopName, StandsFor, stands_for, top_names}
use Rattle.type_rules.specs.Constants.{View, OfAll, bound}
use Rattle.type_rules.specs.TypePhrases.{array_found, array_phrase, bag_of, data_phrase, declared_number, declared_top, declared_what, definition, distinct_fields, field_before, gathering_phrase, graph_of, graph_phrase, is_graph_bound, names_of, names_within, named_type, of_data, phrase, ranged_phrase, record_of, set_of, top_type, type_number, types_at, types_within, with_field, within_limits}
use Rattle.type_forms.specs.Parts.{part_named}

abbrev Table : Type 0
Table = ℕ → Option Measured

-- a view of a whole module
abbrev whole : List Source → List ℕ → View
whole us m = record { program = us; home = m; names = [] }

-- the declared types that these names stand for
abbrev named : List Source → List ℕ → List Name → List ℕ
named us m ns = filter_map (part_named us m) ns

-- of the names in two lists
both : (p : ℕ → Bool) (us : List Source) (m : List ℕ) (ns os : List Name) →
    list_all p (named us m (ns ++ os)) ≡ (list_all p (named us m ns) && list_all p (named us m os))
both p us m ns os = ap (list_all p) (filter_map-append (part_named us m) ns os) ∙ list_all-append p (named us m ns) (named us m os)

-- ---- tables that agree where a test passes

module _ (p : ℕ → Bool) (d e : Table) (agree : (j : ℕ) → p j ≡ true → d j ≡ e j) where
  same_what : (n : Name) (i : ℕ) (w : What) → list_all p (cons_option (type_number w i) []) ≡ true → top_type d n i w ≡ top_type e n i w
  same_what n i (top.TypeName of) h = ap found (agree i (and_first (p i) true h))
  same_what n i (top.Constant b) h = refl
  same_what n i (top.Value of number) h = refl
  same_what n i (top.Specified heads) h = refl
  same_what n i (top.Implemented os) h = refl
  same_what n i (top.Function ps r b) h = refl
  same_what n i (top.Process ps b) h = refl

  same_sense : (n : Name) (s : StandsFor) → list_all p (cons_option (declared_number s) []) ≡ true → named_type d n (OfAll s) ≡ named_type e n (OfAll s)
  same_sense n top.Nothing h = refl
  same_sense n (top.Top i t) h = same_what n i t.what h
  same_sense n (top.Everywhere w) h = refl

  same_phrase : (us : List Source) (m : List ℕ) (k : Kind) → list_all p (named us m (names_of k)) ≡ true → phrase d (whole us m) k ≡ phrase e (whole us m) k
  same_phrase us m (syn.Integer at) h = refl
  same_phrase us m (syn.Boolean at) h = refl
  same_phrase us m (syn.Character at) h = refl
  same_phrase us m (syn.String at) h = refl
  same_phrase us m (syn.Named n) h = same_sense n (stands_for us m n.text) h
  same_phrase us m (syn.Array at low high k) h =
      ap (λ (f : Found Measured). within_limits at (array_phrase (whole us m) low high (of_data (kind_place k) f))) (same_phrase us m k h)
  same_phrase us m (syn.Set at k) h =
      ap (λ (f : Found Measured). within_limits at (gathering_phrase set_of (of_data (kind_place k) f))) (same_phrase us m k h)
  same_phrase us m (syn.Bag at k) h =
      ap (λ (f : Found Measured). within_limits at (gathering_phrase bag_of (of_data (kind_place k) f))) (same_phrase us m k h)

  same_data : (us : List Source) (m : List ℕ) (k : Kind) → list_all p (named us m (names_of k)) ≡ true → data_phrase d (whole us m) k ≡ data_phrase e (whole us m) k
  same_data us m k h = ap (of_data (kind_place k)) (same_phrase us m k h)

  same_record : (us : List Source) (m : List ℕ) (i : ℕ) (fs : List TypedName) → list_all p (named us m (flat_map (λ f. names_of f.kind) fs)) ≡ true →
      record_of d (whole us m) i fs ≡ record_of e (whole us m) i fs
  same_record us m i [] h = refl
  same_record us m i (f ∷ fs) h =
      let rest = flat_map (λ (f : TypedName). names_of f.kind) fs in
      let all = sym (both p us m (names_of f.kind) rest) ∙ h in
      ap (λ (g : Found Measured). field_before g (record_of d (whole us m) i fs))
      (same_data us m f.kind (and_first (list_all p (named us m (names_of f.kind))) (list_all p (named us m rest)) all))
      ∙ ap (field_before (data_phrase e (whole us m) f.kind))
      (same_record us m i fs (and_second (list_all p (named us m (names_of f.kind))) (list_all p (named us m rest)) all))

  same_definition : (us : List Source) (m : List ℕ) (i : ℕ) (of : Definition) → list_all p (named us m (names_within of)) ≡ true →
      definition d (whole us m) i of ≡ definition e (whole us m) i of
  same_definition us m i (syn.Record at fs) h = ap (λ (f : Found Measured). within_limits at (distinct_fields fs f)) (same_record us m i fs h)
  same_definition us m i (syn.Enumeration at ns) h = refl
  same_definition us m i (syn.Alias k) h = same_data us m k h

  same_declared : (us : List Source) (i : ℕ) (t : TopName) (w : What) → list_all p (types_within us t.defined.by w) ≡ true →
      declared_what d us i t w ≡ declared_what e us i t w
  same_declared us i t (top.TypeName of) h = ap (λ (f : Found Measured). f.is) (same_definition us t.defined.by i of h)
  same_declared us i t (top.Constant b) h = refl
  same_declared us i t (top.Value of number) h = refl
  same_declared us i t (top.Specified heads) h = refl
  same_declared us i t (top.Implemented os) h = refl
  same_declared us i t (top.Function ps r b) h = refl
  same_declared us i t (top.Process ps b) h = refl

  -- what a name of the top level declares is the same over both
  pub same_top : (us : List Source) (i : ℕ) (t : Option TopName) → list_all p (types_at us t) ≡ true → declared_top d us i t ≡ declared_top e us i t
  same_top us i None h = refl
  same_top us i (Some t) h = same_declared us i t t.what h

-- ---- a phrase that names a type which is none

pub none_unless : {X : Type 0} (bs : List Breach) (x : Option X) → x ≡ None → (unless bs x).is ≡ None
none_unless [] x e = e
none_unless (b ∷ bs) x e = refl

no_array : (low high : Option ℤ) → array_found low high None ≡ None
no_array None high = refl
no_array (Some low) None = refl
no_array (Some low) (Some high) = refl

no_bounded : (v : View) (low high : Bound) (f : Found Measured) → f.is ≡ None → (array_phrase v low high f).is ≡ None
no_bounded v low high f e = by_test (is_graph_bound v high)
  where
    by_test : (b : Bool) → (cond b (graph_phrase low (bound v low) f) (ranged_phrase low (bound v low) (bound v high) f)).is ≡ None
    by_test true = none_unless _ (option_map graph_of f.is) (ap (option_map graph_of) e)
    by_test false =
        none_unless _ (array_found (bound v low).is (bound v high).is f.is)
        (ap (array_found (bound v low).is (bound v high).is) e ∙ no_array (bound v low).is (bound v high).is)

no_field : (r : Option Measured) → with_field None r ≡ None
no_field r = refl

no_rest : (f : Option Measured) → with_field f None ≡ None
no_rest None = refl
no_rest (Some f) = refl

-- one of both
either : (p q : Bool) → (p && q) ≡ false → (p ≡ true → q ≡ false)
either true q e = λ h. e
either false q e = λ h. absurd (true≢false (sym h))

module _ (p : ℕ → Bool) (d : Table) (without : (j : ℕ) → p j ≡ false → d j ≡ None) where
  no_what : (n : Name) (i : ℕ) (w : What) → list_all p (cons_option (type_number w i) []) ≡ false → (top_type d n i w).is ≡ None
  no_what n i (top.TypeName of) h = without i (last (p i) h)
    where
      last : (b : Bool) → (b && true) ≡ false → b ≡ false
      last true h = h
      last false h = refl
  no_what n i (top.Constant b) h = absurd (true≢false h)
  no_what n i (top.Value of number) h = absurd (true≢false h)
  no_what n i (top.Specified heads) h = absurd (true≢false h)
  no_what n i (top.Implemented os) h = absurd (true≢false h)
  no_what n i (top.Function ps r b) h = absurd (true≢false h)
  no_what n i (top.Process ps b) h = absurd (true≢false h)

  no_sense : (n : Name) (s : StandsFor) → list_all p (cons_option (declared_number s) []) ≡ false → (named_type d n (OfAll s)).is ≡ None
  no_sense n top.Nothing h = absurd (true≢false h)
  no_sense n (top.Top i t) h = no_what n i t.what h
  no_sense n (top.Everywhere w) h = absurd (true≢false h)

  no_phrase : (us : List Source) (m : List ℕ) (k : Kind) → list_all p (named us m (names_of k)) ≡ false → (phrase d (whole us m) k).is ≡ None
  no_phrase us m (syn.Integer at) h = absurd (true≢false h)
  no_phrase us m (syn.Boolean at) h = absurd (true≢false h)
  no_phrase us m (syn.Character at) h = absurd (true≢false h)
  no_phrase us m (syn.String at) h = absurd (true≢false h)
  no_phrase us m (syn.Named n) h = no_sense n (stands_for us m n.text) h
  no_phrase us m (syn.Array at low high k) h =
      none_unless _ (array_phrase (whole us m) low high (data_phrase d (whole us m) k)).is
      (no_bounded (whole us m) low high (data_phrase d (whole us m) k) (none_unless _ (phrase d (whole us m) k).is (no_phrase us m k h)))
  no_phrase us m (syn.Set at k) h =
      none_unless _ (gathering_phrase set_of (data_phrase d (whole us m) k)).is
      (none_unless _ (option_map set_of (data_phrase d (whole us m) k).is)
      (ap (option_map set_of) (none_unless _ (phrase d (whole us m) k).is (no_phrase us m k h))))
  no_phrase us m (syn.Bag at k) h =
      none_unless _ (gathering_phrase bag_of (data_phrase d (whole us m) k)).is
      (none_unless _ (option_map bag_of (data_phrase d (whole us m) k).is)
      (ap (option_map bag_of) (none_unless _ (phrase d (whole us m) k).is (no_phrase us m k h))))

  no_data : (us : List Source) (m : List ℕ) (k : Kind) → list_all p (named us m (names_of k)) ≡ false → (data_phrase d (whole us m) k).is ≡ None
  no_data us m k h = none_unless _ (phrase d (whole us m) k).is (no_phrase us m k h)

  no_record : (us : List Source) (m : List ℕ) (i : ℕ) (fs : List TypedName) → list_all p (named us m (flat_map (λ f. names_of f.kind) fs)) ≡ false →
      (record_of d (whole us m) i fs).is ≡ None
  no_record us m i [] h = absurd (true≢false h)
  no_record us m i (f ∷ fs) h =
      by_first (list_all p (named us m (names_of f.kind))) refl
      (λ is. no_record us m i fs
      (either (list_all p (named us m (names_of f.kind))) (list_all p (named us m (flat_map (λ (f : TypedName). names_of f.kind) fs)))
      (sym (both p us m (names_of f.kind) (flat_map (λ (f : TypedName). names_of f.kind) fs)) ∙ h) is))
    where
      by_first : (b : Bool) → list_all p (named us m (names_of f.kind)) ≡ b →
          (list_all p (named us m (names_of f.kind)) ≡ true → (record_of d (whole us m) i fs).is ≡ None) →
          (field_before (data_phrase d (whole us m) f.kind) (record_of d (whole us m) i fs)).is ≡ None
      by_first false is rest =
          none_unless _ (with_field (data_phrase d (whole us m) f.kind).is (record_of d (whole us m) i fs).is)
          (ap (λ (x : Option Measured). with_field x (record_of d (whole us m) i fs).is) (no_data us m f.kind is))
      by_first true is rest =
          none_unless _ (with_field (data_phrase d (whole us m) f.kind).is (record_of d (whole us m) i fs).is)
          (ap (with_field (data_phrase d (whole us m) f.kind).is) (rest is) ∙ no_rest (data_phrase d (whole us m) f.kind).is)

  no_definition : (us : List Source) (m : List ℕ) (i : ℕ) (of : Definition) → list_all p (named us m (names_within of)) ≡ false →
      (definition d (whole us m) i of).is ≡ None
  no_definition us m i (syn.Record at fs) h =
      none_unless _ (distinct_fields fs (record_of d (whole us m) i fs)).is
      (none_unless _ (record_of d (whole us m) i fs).is (no_record us m i fs h))
  no_definition us m i (syn.Enumeration at ns) h = absurd (true≢false h)
  no_definition us m i (syn.Alias k) h = no_data us m k h

  no_declared : (us : List Source) (i : ℕ) (t : TopName) (w : What) → list_all p (types_within us t.defined.by w) ≡ false →
      declared_what d us i t w ≡ None
  no_declared us i t (top.TypeName of) h = no_definition us t.defined.by i of h
  no_declared us i t (top.Constant b) h = refl
  no_declared us i t (top.Value of number) h = refl
  no_declared us i t (top.Specified heads) h = refl
  no_declared us i t (top.Implemented os) h = refl
  no_declared us i t (top.Function ps r b) h = refl
  no_declared us i t (top.Process ps b) h = refl

  pub no_top : (us : List Source) (i : ℕ) (t : Option TopName) → list_all p (types_at us t) ≡ false → declared_top d us i t ≡ None
  no_top us i None h = refl
  no_top us i (Some t) h = no_declared us i t t.what h
