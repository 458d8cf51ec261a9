-- A type phrase is the same over tables that agree on the declared types that it names; and where these are known, and it breaks no rule,
-- it is a type.
use Rattle.std.proofs.Common.{refl, ap, ◌∙◌}
use Rattle.std.specs.Prelude.{◌≡◌, ℕ, ℤ, Bool, true, false, if◌then◌else◌, List, [], ◌∷◌, ◌++◌, map, flat_map, Option, Some, None, option_map}
use Rattle.std.specs.List.{AllByRecursion}
use Rattle.orca_base.specs.declared.place.Place.{Place}
use Rattle.orca_tree.specs.declared.tree.Name.{Name}
use Rattle.orca_tree.specs.declared.tree.Bound.{Bound}
use Rattle.orca_syntax.specs.Syntax as syn
use Rattle.orca_syntax.specs.Syntax.{Kind, TypedName, Definition}
use Rattle.orca_syntax.specs.Places.{bound_place, kind_place}
use Rattle.link_rules.specs.Units.{Source}
use Rattle.type_rules.specs.declared.breach.Breach.{Breach}
use Rattle.type_rules.specs.declared.names.Predeclared.{Predeclared}
use Rattle.type_rules.specs.declared.names.Predeclared.TheVariants as predeclared
use Rattle.type_rules.specs.declared.types.Measured.{Measured}
use Rattle.type_rules.specs.declared.types.Base.TheVariants.{Integer, Boolean, Character, String, NodeName, Enumeration, Record, Object}
use Rattle.type_rules.specs.TopLevel as top
use Rattle.type_rules.specs.TopLevel.{What, TopName, StandsFor, top_names}
use Rattle.type_rules.specs.Rules.{Found, are_new, asks, found, unless}
use Rattle.type_rules.specs.Constants.{View, Sense, OfBody, OfAll, bound, sense}
use Rattle.type_rules.specs.TypePhrases.{array_found, array_of, array_phrase, at_most, bag_of, data_phrase, declared_number, definition, distinct_fields, field_before, gathering_phrase, graph_of, graph_phrase, is_graph_bound, is_number_one, names_of, names_within, named_type, of_data, phrase, predeclared_type, ranged_phrase, record_of, set_of, single, top_type, type_number, with_field, within_limits}
use Rattle.meaning_rules.proofs.Judged.{left_none, right_none, unless_is, unless_none}
use Rattle.accepted_law.proofs.Bounds.{Known, bound_known}
use Rattle.accepted_law.proofs.Tops.{IsFineTop}

abbrev pub Table : Type 0
Table = ℕ → Option Measured

-- the number of the declared type that a name stands for
abbrev pub number_in : Sense → Option ℕ
number_in OfBody = None
number_in (OfAll s) = declared_number s

abbrev pub AgreeOn : Table → Table → View → Name → Type 0
AgreeOn d e v n = (j : ℕ) → number_in (sense v n) ≡ Some j → d j ≡ e j

abbrev pub IsThere : Table → View → Name → Type 0
IsThere e v n = (j : ℕ) → number_in (sense v n) ≡ Some j → Known (e j)

pub all_left : {X : Type 0} (P : X → Type 0) (xs ys : List X) → AllByRecursion P (xs ++ ys) → AllByRecursion P xs
all_left P [] ys all = tt
all_left P (x ∷ xs) ys all = (all.0, all_left P xs ys all.1)

pub all_right : {X : Type 0} (P : X → Type 0) (xs ys : List X) → AllByRecursion P (xs ++ ys) → AllByRecursion P ys
all_right P [] ys all = all
all_right P (x ∷ xs) ys all = all_right P xs ys all.1

-- ---- tables that agree

module _ (d e : Table) where
  same_what : (n : Name) (i : ℕ) (w : What) → ((j : ℕ) → type_number w i ≡ Some j → d j ≡ e j) → top_type d n i w ≡ top_type e n i w
  same_what n i (top.TypeName of) one = ap found (one i refl)
  same_what n i (top.Constant b) one = refl
  same_what n i (top.Value of number) one = refl
  same_what n i (top.Specified heads) one = refl
  same_what n i (top.Implemented os) one = refl
  same_what n i (top.Function ps r b) one = refl
  same_what n i (top.Process ps b) one = refl

  same_sense : (n : Name) (s : Sense) → ((j : ℕ) → number_in s ≡ Some j → d j ≡ e j) → named_type d n s ≡ named_type e n s
  same_sense n OfBody one = refl
  same_sense n (OfAll top.Nothing) one = refl
  same_sense n (OfAll (top.Top i t)) one = same_what n i t.what one
  same_sense n (OfAll (top.Everywhere p)) one = refl

  module _ (v : View) where
    same_phrase : (k : Kind) → AllByRecursion (AgreeOn d e v) (names_of k) → phrase d v k ≡ phrase e v k
    same_phrase (syn.Integer at) agree = refl
    same_phrase (syn.Boolean at) agree = refl
    same_phrase (syn.Character at) agree = refl
    same_phrase (syn.String at) agree = refl
    same_phrase (syn.Named n) agree = same_sense n (sense v n) agree.0
    same_phrase (syn.Array at low high k) agree = ap (λ f. within_limits at (array_phrase v low high (of_data (kind_place k) f))) (same_phrase k agree)
    same_phrase (syn.Set at k) agree = ap (λ f. within_limits at (gathering_phrase set_of (of_data (kind_place k) f))) (same_phrase k agree)
    same_phrase (syn.Bag at k) agree = ap (λ f. within_limits at (gathering_phrase bag_of (of_data (kind_place k) f))) (same_phrase k agree)

    same_data : (k : Kind) → AllByRecursion (AgreeOn d e v) (names_of k) → data_phrase d v k ≡ data_phrase e v k
    same_data k agree = ap (of_data (kind_place k)) (same_phrase k agree)

    same_record : (i : ℕ) (fs : List TypedName) → AllByRecursion (AgreeOn d e v) (flat_map (λ f. names_of f.kind) fs) → record_of d v i fs ≡ record_of e v i fs
    same_record i [] agree = refl
    same_record i (f ∷ fs) agree =
        let rest = flat_map (λ g. names_of g.kind) fs in
        ap (λ g. field_before g (record_of d v i fs)) (same_data f.kind (all_left (AgreeOn d e v) (names_of f.kind) rest agree))
        ∙ ap (field_before (data_phrase e v f.kind)) (same_record i fs (all_right (AgreeOn d e v) (names_of f.kind) rest agree))

    pub same_definition : (i : ℕ) (of : Definition) → AllByRecursion (AgreeOn d e v) (names_within of) → definition d v i of ≡ definition e v i of
    same_definition i (syn.Record at fs) agree = ap (λ f. within_limits at (distinct_fields fs f)) (same_record i fs agree)
    same_definition i (syn.Enumeration at ns) agree = refl
    same_definition i (syn.Alias k) agree = same_data k agree

-- ---- types that are known

pub unless_known : {X : Type 0} (bs : List Breach) (x : Option X) → (unless bs x).breaches ≡ [] → Known x → Known (unless bs x).is
unless_known bs x none known = (known.0, ap (λ f. f.is) (unless_is bs x (unless_none bs x none)) ∙ known.1)

pub map_known : {X Y : Type 0} (f : X → Y) (o : Option X) → Known o → Known (option_map f o)
map_known f o known = (f known.0, ap (option_map f) known.1)

array_known : (low high : Option ℤ) (m : Option Measured) → Known low → Known high → Known m → Known (array_found low high m)
array_known None high m l h k = absurd cc
array_known (Some low) None m l h k = absurd cc
array_known (Some low) (Some high) None l h k = absurd cc
array_known (Some low) (Some high) (Some m) l h k = (array_of low high m, refl)

field_known : (f r : Option Measured) → Known f → Known r → Known (with_field f r)
field_known None r f k = absurd cc
field_known (Some x) None f k = absurd cc
field_known (Some x) (Some y) f k = (_, refl)

module _ (e : Table) where
  what_known : (n : Name) (i : ℕ) (w : What) → ((j : ℕ) → type_number w i ≡ Some j → Known (e j)) → (top_type e n i w).breaches ≡ [] → Known (top_type e n i w).is
  what_known n i (top.TypeName of) there none = there i refl
  what_known n i (top.Specified heads) there none = (single (Object i), refl)
  what_known n i (top.Implemented os) there none = (single (Object i), refl)
  what_known n i (top.Constant b) there none = absurd cc
  what_known n i (top.Value of number) there none = absurd cc
  what_known n i (top.Function ps r b) there none = absurd cc
  what_known n i (top.Process ps b) there none = absurd cc

  predeclared_known : (n : Name) (p : Predeclared) → (predeclared_type n p).breaches ≡ [] → Known (predeclared_type n p).is
  predeclared_known n predeclared.NodeNameType none = (single NodeName, refl)
  predeclared_known n predeclared.GraphBound none = absurd cc
  predeclared_known n predeclared.Nil none = absurd cc
  predeclared_known n predeclared.AddNode none = absurd cc
  predeclared_known n predeclared.DeleteNode none = absurd cc

  sense_known : (n : Name) (s : Sense) → ((j : ℕ) → number_in s ≡ Some j → Known (e j)) → (named_type e n s).breaches ≡ [] → Known (named_type e n s).is
  sense_known n OfBody there none = absurd cc
  sense_known n (OfAll top.Nothing) there none = absurd cc
  sense_known n (OfAll (top.Top i t)) there none = what_known n i t.what there none
  sense_known n (OfAll (top.Everywhere p)) there none = predeclared_known n p none

  module _ (us : List Source) (fine : AllByRecursion (IsFineTop us) (top_names us)) (m : List ℕ) (hidden : List (List ℕ)) where
    abbrev Here : View
    Here = record { program = us; home = m; names = hidden }

    bounded_known : (low high : Bound) (element : Found Measured) → (array_phrase Here low high element).breaches ≡ [] → (element.breaches ≡ [] → Known element.is) → Known (array_phrase Here low high element).is
    bounded_known low high element none known = by (is_graph_bound Here high) none
      where
        first : Found ℤ
        first = bound Here low

        last : Found ℤ
        last = bound Here high

        graph_phrases : (graph_phrase low first element).breaches ≡ [] → Known (graph_phrase low first element).is
        graph_phrases clean =
            let all = unless_none (first.breaches ++ (asks 9 (bound_place low) (is_number_one low) ++ element.breaches)) (option_map graph_of element.is) clean in
            unless_known _ (option_map graph_of element.is) clean
            (map_known graph_of element.is (known (right_none (asks 9 (bound_place low) (is_number_one low)) element.breaches (right_none first.breaches _ all))))

        ranged : (ranged_phrase low first last element).breaches ≡ [] → Known (ranged_phrase low first last element).is
        ranged clean =
            let test = asks 9 (bound_place low) (at_most first.is last.is) in
            let all = unless_none (first.breaches ++ (last.breaches ++ (test ++ element.breaches))) (array_found first.is last.is element.is) clean in
            let behind = right_none first.breaches _ all in
            unless_known _ (array_found first.is last.is element.is) clean
            (array_known first.is last.is element.is (bound_known us fine m hidden low (left_none first.breaches _ all)) (bound_known us fine m hidden high (left_none last.breaches _ behind))
            (known (right_none test element.breaches (right_none last.breaches _ behind))))

        by : (b : Bool) → (if b then graph_phrase low first element else ranged_phrase low first last element).breaches ≡ [] →
            Known (if b then graph_phrase low first element else ranged_phrase low first last element).is
        by true clean = graph_phrases clean
        by false clean = ranged clean

    within_known : (at : Place) (f : Found Measured) → (within_limits at f).breaches ≡ [] → (f.breaches ≡ [] → Known f.is) → Known (within_limits at f).is
    within_known at f none known = unless_known _ f.is none (known (left_none f.breaches _ (unless_none (f.breaches ++ _) f.is none)))

    gathered_known : (of : Measured → Measured) (element : Found Measured) → (gathering_phrase of element).breaches ≡ [] → (element.breaches ≡ [] → Known element.is) → Known (gathering_phrase of element).is
    gathered_known of element none known = unless_known element.breaches (option_map of element.is) none (map_known of element.is (known (unless_none element.breaches (option_map of element.is) none)))

    as_data : (at : Place) (f : Found Measured) → (of_data at f).breaches ≡ [] → (f.breaches ≡ [] → Known f.is) → Known (of_data at f).is
    as_data at f none known = unless_known _ f.is none (known (left_none f.breaches _ (unless_none (f.breaches ++ _) f.is none)))

    pub phrase_known : (k : Kind) → AllByRecursion (IsThere e Here) (names_of k) → (phrase e Here k).breaches ≡ [] → Known (phrase e Here k).is
    phrase_known (syn.Integer at) there none = (single Integer, refl)
    phrase_known (syn.Boolean at) there none = (single Boolean, refl)
    phrase_known (syn.Character at) there none = (single Character, refl)
    phrase_known (syn.String at) there none = (single String, refl)
    phrase_known (syn.Named n) there none = sense_known n (sense Here n) there.0 none
    phrase_known (syn.Array at low high k) there none =
        let element = of_data (kind_place k) (phrase e Here k) in
        within_known at (array_phrase Here low high element) none (λ one. bounded_known low high element one (λ two. as_data (kind_place k) (phrase e Here k) two (λ three. phrase_known k there three)))
    phrase_known (syn.Set at k) there none =
        let element = of_data (kind_place k) (phrase e Here k) in
        within_known at (gathering_phrase set_of element) none (λ one. gathered_known set_of element one (λ two. as_data (kind_place k) (phrase e Here k) two (λ three. phrase_known k there three)))
    phrase_known (syn.Bag at k) there none =
        let element = of_data (kind_place k) (phrase e Here k) in
        within_known at (gathering_phrase bag_of element) none (λ one. gathered_known bag_of element one (λ two. as_data (kind_place k) (phrase e Here k) two (λ three. phrase_known k there three)))

    pub data_known : (k : Kind) → AllByRecursion (IsThere e Here) (names_of k) → (data_phrase e Here k).breaches ≡ [] → Known (data_phrase e Here k).is
    data_known k there none = as_data (kind_place k) (phrase e Here k) none (λ one. phrase_known k there one)

    record_known : (i : ℕ) (fs : List TypedName) → AllByRecursion (IsThere e Here) (flat_map (λ f. names_of f.kind) fs) → (record_of e Here i fs).breaches ≡ [] → Known (record_of e Here i fs).is
    record_known i [] there none = (single (Record i), refl)
    record_known i (f ∷ fs) there none =
        let field = data_phrase e Here f.kind in
        let rest = record_of e Here i fs in
        let names = flat_map (λ g. names_of g.kind) fs in
        let all = unless_none (field.breaches ++ rest.breaches) (with_field field.is rest.is) none in
        unless_known (field.breaches ++ rest.breaches) (with_field field.is rest.is) none
        (field_known field.is rest.is (data_known f.kind (all_left (IsThere e Here) (names_of f.kind) names there) (left_none field.breaches rest.breaches all))
        (record_known i fs (all_right (IsThere e Here) (names_of f.kind) names there) (right_none field.breaches rest.breaches all)))

    pub definition_known : (i : ℕ) (of : Definition) → AllByRecursion (IsThere e Here) (names_within of) → (definition e Here i of).breaches ≡ [] → Known (definition e Here i of).is
    definition_known i (syn.Record at fs) there none =
        let r = record_of e Here i fs in
        within_known at (distinct_fields fs r) none
        (λ one. unless_known _ r.is one (record_known i fs there (left_none r.breaches _ (unless_none (r.breaches ++ are_new (map (λ f. f.name) fs)) r.is one))))
    definition_known i (syn.Enumeration at ns) there none = (single (Enumeration i), refl)
    definition_known i (syn.Alias k) there none = data_known k there none
