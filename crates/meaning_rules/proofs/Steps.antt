-- Steps without a breach lead to the types that typing gives.
use Rattle.std.proofs.Common.{refl, ap, sym, ◌∙◌, subst}
use Rattle.std.specs.Prelude.{◌≡◌, ◌++◌, ℕ, ℤ, Bool, true, false, cond, List, [], ◌∷◌, length, map, find, position, bytes_eq, slice_get, unwrap_or, Option, Some, None, option_map, is_some}
use Rattle.std.specs.Option.{option_map_or}
use Rattle.std.specs.List.{position_or_len}
use Rattle.std.proofs.Common.{lt-ltb}
use Rattle.std.proofs.lemmas.List.Folds.{find_at}
use Rattle.std.proofs.lemmas.Option.{slice_get-map, slice_get_within}
use Rattle.orca_base.specs.declared.place.Place.{Place}
use Rattle.orca_tree.specs.declared.tree.Name.{Name}
use Rattle.orca_syntax.specs.Syntax as syn
use Rattle.orca_syntax.specs.Syntax.{Expr, Step, Path, TypedName, Definition}
use Rattle.link_rules.specs.Units.{Source}
use Rattle.type_rules.specs.declared.types.DataType.{DataType}
use Rattle.type_rules.specs.declared.types.Base.TheVariants as base
use Rattle.type_rules.specs.declared.types.Layer.TheVariants as layer
use Rattle.type_rules.specs.Types as types
use Rattle.type_rules.specs.Types.{Outside, outside_of, inside_of, is_object, object_in}
use Rattle.type_rules.specs.Rules.{found, asks, breaks}
use Rattle.type_rules.specs.TopLevel as top
use Rattle.type_rules.specs.TopLevel.{What, TopName, top_names}
use Rattle.type_rules.specs.TypePhrases.{data_found, whole_module}
use Rattle.type_rules.specs.Scopes.{Scope, type_of}
use Rattle.type_rules.specs.Expressions.{typed, stepped, step_found, walked, field_found, field_of, field_at, field_of_what, is_indexed_by, index_of}
use Rattle.value_core.specs.Datum.{Datum}
use Rattle.value_paths.specs.declared.step.Step.{Step as ValueStep}
use Rattle.value_paths.specs.declared.step.Step.TheVariants as step
use Rattle.meaning_rules.specs.Openings.{fields_of_what, field_number, types_in, field_types}
use Rattle.meaning_rules.specs.Operators.{integer_in}
use Rattle.meaning_rules.specs.Designators.{stepped_type, step_to_field, step_by_index, field_of_base, index_into}
use Rattle.meaning_rules.specs.PathsFit.{StepsTo, Leads}
use Rattle.meaning_rules.specs.Accepted.{IsAccepted}
use Rattle.meaning_rules.proofs.Judged.{left_none, right_none, asked, unless_none, unless_is}

-- ---- fields

-- the first that passes stands at its place
at_place : {X : Type 0} (p : X → Bool) (xs : List X) (d : X) → find p xs ≡ Some d → slice_get xs (unwrap_or (position p xs) 0) ≡ Some d
at_place p xs d is =
    let here : slice_get xs (position_or_len p xs) ≡ Some d = sym (find_at p xs) ∙ is in
    let less = slice_get_within xs (position_or_len p xs) d here in
    ap (λ b. slice_get xs (unwrap_or (cond b (Some (position_or_len p xs)) None) 0)) (lt-ltb (position_or_len p xs) (length xs) less) ∙ here

mapped_at : {X Y : Type 0} (p : X → Bool) (g : X → Y) (xs : List X) (y : Y) → option_map g (find p xs) ≡ Some y →
    slice_get (map g xs) (unwrap_or (position p xs) 0) ≡ Some y
mapped_at p g xs y is = by (find p xs) refl is
  where
    by : (o : Option _) → find p xs ≡ o → option_map g o ≡ Some y → slice_get (map g xs) (unwrap_or (position p xs) 0) ≡ Some y
    by None e f = absurd cc
    by (Some d) e f = slice_get-map g xs (unwrap_or (position p xs) 0) ∙ (ap (option_map g) (at_place p xs d e) ∙ f)

field_placed : (v : Scope) (f : List ℕ) (t : TopName) (what : What) (u : Option DataType) → field_of_what v.program t f what ≡ Some u →
    slice_get (map (λ d. type_of (data_found (whole_module v.program t) d.kind)) (fields_of_what what))
    (unwrap_or (position (λ d. bytes_eq d.name.text f) (fields_of_what what)) 0) ≡ Some u
field_placed v f t (top.TypeName (syn.Record at fields)) u is =
    mapped_at (λ d. bytes_eq d.name.text f) (λ d. type_of (data_found (whole_module v.program t) d.kind)) fields u is
field_placed v f t (top.TypeName (syn.Enumeration at names)) u is = absurd cc
field_placed v f t (top.TypeName (syn.Alias k)) u is = absurd cc
field_placed v f t (top.Constant b) u is = absurd cc
field_placed v f t (top.Value of number) u is = absurd cc
field_placed v f t (top.Specified heads) u is = absurd cc
field_placed v f t (top.Implemented os) u is = absurd cc
field_placed v f t (top.Function ps r b) u is = absurd cc
field_placed v f t (top.Process ps b) u is = absurd cc

field_placed_at : (v : Scope) (f : List ℕ) (o : Option TopName) (u : Option DataType) → field_at v.program f o ≡ Some u →
    slice_get (option_map_or (types_in v.program) o [])
    (unwrap_or (position (λ d. bytes_eq d.name.text f) (option_map_or (λ t. fields_of_what t.what) o [])) 0) ≡ Some u
field_placed_at v f None u is = absurd cc
field_placed_at v f (Some t) u is = field_placed v f t t.what u is

-- the type of a record's field, at its number
pub field_types_at : (v : Scope) (f : List ℕ) (i : ℕ) (u : Option DataType) → field_of v f (types.Bare (base.Record i)) ≡ Some u →
    slice_get (field_types v.program i) (field_number v.program i f) ≡ Some u
field_types_at v f i u is = field_placed_at v f (slice_get (top_names v.program) i) u is

-- ---- steps

-- a step without a breach: the type to which it leads, by whatever index
pub record IsStep (v : Scope) (t : DataType) (x : Step) (leads : DataType → Type 0) : Type 0 where
  pub type : DataType
  pub found_so : stepped v (Some t) x ≡ found (Some type)
  pub next : stepped_type v (Some t) x ≡ Some type
  pub steps : leads type

module _ (v : Scope) (facts : IsAccepted v.program) (t : DataType) where
  abbrev pub LeadsField : Name → DataType → Type 0
  LeadsField f u = StepsTo v.program (step_to_field v (Some t) f) t u

  pub is_field_step : (at : Place) (f : Name) → (stepped v (Some t) (syn.Field at f)).breaches ≡ [] → IsStep v t (syn.Field at f) (LeadsField f)
  is_field_step at f none = by (outside_of t) refl none
    where
      of_field : (i : ℕ) → outside_of t ≡ types.Bare (base.Record i) → (o : Option (Option DataType)) → field_of v f.text (types.Bare (base.Record i)) ≡ o →
          (field_found at o).breaches ≡ [] → IsStep v t (syn.Field at f) (LeadsField f)
      of_field i e None is breaks = absurd cc
      of_field i e (Some u) is breaks =
          let at_number = field_types_at v f.text i u is in
          let known = facts.fields i (field_number v.program i f.text) u at_number in
          let here : field_of v f.text (outside_of t) ≡ Some (Some known.0) = ap (field_of v f.text) e ∙ (is ∙ ap Some known.1) in
          record {
            type = known.0;
            found_so = ap (field_found at) here;
            next = ap (λ x. unwrap_or x None) here;
            steps = subst (λ x. StepsTo v.program x t known.0) (sym (ap (field_of_base v.program f.text) e)) (i, e, at_number ∙ ap Some known.1);
          }

      by : (o : Outside) → outside_of t ≡ o → (field_found at (field_of v f.text o)).breaches ≡ [] → IsStep v t (syn.Field at f) (LeadsField f)
      by (types.Bare (base.Record i)) e breaks = of_field i e (field_of v f.text (types.Bare (base.Record i))) refl breaks
      by (types.Bare base.Integer) e breaks = absurd cc
      by (types.Bare base.Boolean) e breaks = absurd cc
      by (types.Bare base.Character) e breaks = absurd cc
      by (types.Bare base.String) e breaks = absurd cc
      by (types.Bare base.NodeName) e breaks = absurd cc
      by (types.Bare (base.Enumeration j)) e breaks = absurd cc
      by (types.Bare (base.Object j)) e breaks = absurd cc
      by (types.Within (layer.Array low high)) e breaks = absurd cc
      by (types.Within layer.Set) e breaks = absurd cc
      by (types.Within layer.Bag) e breaks = absurd cc
      by (types.Within layer.Graph) e breaks = absurd cc

  abbrev pub LeadsIndex : Expr → DataType → Type 0
  LeadsIndex e u = ((typed v e).breaches ≡ []) × ((y : Datum) → StepsTo v.program (step_by_index (Some t) y) t u)

  indexed : (o : Outside) → outside_of t ≡ o → (index : Option DataType) → is_indexed_by (index_of o) index ≡ true → (z : ℤ) →
      StepsTo v.program (index_into o z) t (inside_of t)
  indexed (types.Within (layer.Array low high)) e index is z = (high, e, refl)
  indexed (types.Within layer.Graph) e index is z = (e, refl)
  indexed (types.Within layer.Set) e index is z = absurd cc
  indexed (types.Within layer.Bag) e index is z = absurd cc
  indexed (types.Bare base.Integer) e index is z = absurd cc
  indexed (types.Bare base.Boolean) e index is z = absurd cc
  indexed (types.Bare base.Character) e index is z = absurd cc
  indexed (types.Bare base.String) e index is z = absurd cc
  indexed (types.Bare base.NodeName) e index is z = absurd cc
  indexed (types.Bare (base.Enumeration j)) e index is z = absurd cc
  indexed (types.Bare (base.Record j)) e index is z = absurd cc
  indexed (types.Bare (base.Object j)) e index is z = absurd cc

  pub is_index_step : (at : Place) (e : Expr) → (stepped v (Some t) (syn.Index at e)).breaches ≡ [] → IsStep v t (syn.Index at e) (LeadsIndex e)
  is_index_step at e none =
      let all = unless_none (asks 40 at (is_indexed_by (index_of (outside_of t)) (typed v e).is) ++ (typed v e).breaches) (Some (inside_of t)) none in
      record {
        type = inside_of t;
        found_so = unless_is _ (Some (inside_of t)) all;
        next = refl;
        steps = (
          right_none (asks 40 at (is_indexed_by (index_of (outside_of t)) (typed v e).is)) (typed v e).breaches all,
          λ y. indexed (outside_of t) refl (typed v e).is
              (asked 40 at (is_indexed_by (index_of (outside_of t)) (typed v e).is) (left_none _ (typed v e).breaches all)) (integer_in y),
        );
      }

-- a path goes on from where a step led
pub walked_on : (v : Scope) (t u : DataType) (x : Step) (p : Path) → stepped v (Some t) x ≡ found (Some u) →
    walked v (found (Some t)) (syn.to x p) ≡ walked v (found (Some u)) p
walked_on v t u x p is = ap (λ f. walked v (step_found (found (Some t)) f) p) is

-- one step further
pub leads_on : (us : List Source) (path : List ValueStep) (last : ValueStep) (t u w : DataType) → Leads us path t u → StepsTo us last u w → Leads us (path ++ last ∷ []) t w
leads_on us [] last t u w leads to = (w, subst (λ x. StepsTo us last x w) (sym leads) to, refl)
leads_on us (x ∷ path) last t u w leads to = (leads.0, leads.1, leads_on us path last leads.0 u w leads.2 to)

-- what a path leads from to a graph is no object
object_is : (t : DataType) (o : Outside) → outside_of t ≡ o → is_object t ≡ is_some (object_in o)
object_is t o e = ap (λ x. is_some (object_in x)) e

pub graph_not_object : (us : List Source) (path : List ValueStep) (t u : DataType) → Leads us path t u → outside_of u ≡ types.Within layer.Graph → is_object t ≡ false
graph_not_object us [] t u leads e = object_is t (types.Within layer.Graph) (ap outside_of leads ∙ e)
graph_not_object us (step.Index low index ∷ path) t u leads e = object_is t (types.Within (layer.Array low leads.1.0)) leads.1.1
graph_not_object us (step.Field place ∷ path) t u leads e = object_is t (types.Bare (base.Record leads.1.0)) leads.1.1
graph_not_object us (step.Node name ∷ path) t u leads e = object_is t (types.Within layer.Graph) leads.1.0
