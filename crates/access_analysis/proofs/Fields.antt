-- Which names are those of fields: what hides them, and what is declared.
use Rattle.std.proofs.Common.{◌≡◌, ℕ, Bool, true, false, not, ◌&&◌, ◌||◌, cond, List, [], ◌∷◌, ◌++◌, map, find, Option, Some, refl, sym, ap, ◌∙◌, append_assoc}
use Rattle.std.specs.Prelude.{bytes_eq, flat_map}
use Rattle.std.specs.List.{list_any}
use Rattle.std.specs.Option.{option_map_or}
use Rattle.orca_tree.specs.declared.tree.Name.{Name}
use Rattle.orca_syntax.specs.Syntax.{Kind, Operation, TypedName, Variables}
use Rattle.link_rules.specs.Units.{Source}
use Rattle.type_rules.specs.declared.types.DataType.{DataType}
use Rattle.type_rules.specs.declared.types.Measured.{Measured}
use Rattle.type_rules.specs.declared.names.LocalRole.TheVariants.{ObjectField, Variable}
use Rattle.type_rules.specs.Rules.{Found}
use Rattle.type_rules.specs.Constants.{View}
use Rattle.type_rules.specs.Scopes.{Local, Scope, is_field, locals_of, value_local}
use Rattle.type_rules.specs.Declarations.{field_locals, fields_view, operation_locals, operation_view}
use Rattle.type_rules.specs.Statements.{with_loop}
use Rattle.type_rules.specs.TypePhrases.{data_found}
use Rattle.meaning_rules.specs.Classes.{names_field}
use Rattle.access_analysis.specs.Sites.{are_given, declare, hide}

-- whether the first of these with a name is a field
abbrev first_field : List Local → List ℕ → Bool
first_field ls n = option_map_or (λ l. is_field l.role) (find (λ l. bytes_eq l.name n) ls) false

not_either : (a b c : Bool) → (not (a || b) && c) ≡ (not a && (not b && c))
not_either true b c = refl
not_either false b c = refl

pub either_grouped : (a b c : Bool) → ((a || b) || c) ≡ (a || (b || c))
either_grouped true b c = refl
either_grouped false b c = refl

-- ---- parameters

given : (v : View) (ts : List TypedName) (rest : List Local) (n : List ℕ) →
    first_field (map (value_local v) ts ++ rest) n ≡ (not (are_given ts n) && first_field rest n)
given v [] rest n = refl
given v (t ∷ ts) rest n = by_test (bytes_eq t.name.text n) (given v ts rest n)
  where
    by_test : (b : Bool) → first_field (map (value_local v) ts ++ rest) n ≡ (not (are_given ts n) && first_field rest n) →
        option_map_or (λ l. is_field l.role) (cond b (Some (value_local v t)) (find (λ l. bytes_eq l.name n) (map (value_local v) ts ++ rest))) false
        ≡ (not (b || are_given ts n) && first_field rest n)
    by_test true h = refl
    by_test false h = h

-- ---- variables

abbrev variable : Option DataType → Name → Local
variable k m = record { name = m.text; role = Variable; type = k }

named : (k : Option DataType) (ms : List Name) (rest : List Local) (n : List ℕ) →
    first_field (map (variable k) ms ++ rest) n ≡ (not (list_any (λ m. bytes_eq m.text n) ms) && first_field rest n)
named k [] rest n = refl
named k (m ∷ ms) rest n = by_test (bytes_eq m.text n) (named k ms rest n)
  where
    by_test : (b : Bool) → first_field (map (variable k) ms ++ rest) n ≡ (not (list_any (λ m. bytes_eq m.text n) ms) && first_field rest n) →
        option_map_or (λ l. is_field l.role) (cond b (Some (variable k m)) (find (λ l. bytes_eq l.name n) (map (variable k) ms ++ rest))) false
        ≡ (not (b || list_any (λ m. bytes_eq m.text n) ms) && first_field rest n)
    by_test true h = refl
    by_test false h = h

grouped : (f : Kind → Found Measured) (vs : List Variables) (rest : List Local) (n : List ℕ) →
    first_field (flat_map (locals_of Variable f) vs ++ rest) n ≡ (not (declare vs n) && first_field rest n)
grouped f [] rest n = refl
grouped f (v ∷ vs) rest n =
    ap (λ (ls : List Local). first_field ls n) (append_assoc (locals_of Variable f v) (flat_map (locals_of Variable f) vs) rest)
    ∙ named _ v.names (flat_map (locals_of Variable f) vs ++ rest) n
    ∙ ap (λ (b : Bool). not (list_any (λ m. bytes_eq m.text n) v.names) && b) (grouped f vs rest n)
    ∙ sym (not_either (list_any (λ m. bytes_eq m.text n) v.names) (declare vs n) (first_field rest n))

-- ---- fields

abbrev field : Option DataType → Name → Local
field k m = record { name = m.text; role = ObjectField; type = k }

held : (k : Option DataType) (ms : List Name) (rest : List Local) (n : List ℕ) →
    first_field (map (field k) ms ++ rest) n ≡ (list_any (λ m. bytes_eq m.text n) ms || first_field rest n)
held k [] rest n = refl
held k (m ∷ ms) rest n = by_test (bytes_eq m.text n) (held k ms rest n)
  where
    by_test : (b : Bool) → first_field (map (field k) ms ++ rest) n ≡ (list_any (λ m. bytes_eq m.text n) ms || first_field rest n) →
        option_map_or (λ l. is_field l.role) (cond b (Some (field k m)) (find (λ l. bytes_eq l.name n) (map (field k) ms ++ rest))) false
        ≡ ((b || list_any (λ m. bytes_eq m.text n) ms) || first_field rest n)
    by_test true h = refl
    by_test false h = h

of_fields : (f : Kind → Found Measured) (vs : List Variables) (n : List ℕ) → first_field (flat_map (locals_of ObjectField f) vs) n ≡ declare vs n
of_fields f [] n = refl
of_fields f (v ∷ vs) n =
    held _ v.names (flat_map (locals_of ObjectField f) vs) n ∙ ap (λ (b : Bool). list_any (λ m. bytes_eq m.text n) v.names || b) (of_fields f vs n)

-- ---- scopes

-- in the scope of an operation
pub field_of_operation : (us : List Source) (home : List ℕ) (fs : List Variables) (o : Operation) (n : List ℕ) →
    first_field (operation_locals us home fs o) n ≡ (not (hide [] o n) && declare fs n)
field_of_operation us home fs o n =
    let v = operation_view us home fs o in
    let vars = flat_map (locals_of Variable (data_found v)) o.variables in
    given v o.head.parameters (vars ++ field_locals us home fs) n
    ∙ ap (λ (b : Bool). not (are_given o.head.parameters n) && b)
    (grouped (data_found v) o.variables (field_locals us home fs) n ∙ ap (λ (b : Bool). not (declare o.variables n) && b) (of_fields (data_found (fields_view us home fs)) fs n))
    ∙ sym (not_either (are_given o.head.parameters n) (declare o.variables n) (declare fs n))

-- and in one more loop
pub field_in_loop : (w : Scope) (m n : Name) (loops : List (List ℕ)) (o : Operation) (declared : Bool) →
    names_field w n ≡ (not (hide loops o n.text) && declared) → names_field (with_loop w m) n ≡ (not (hide (m.text ∷ loops) o n.text) && declared)
field_in_loop w m n loops o declared h = by_test (bytes_eq m.text n.text) refl
  where
    by_test : (b : Bool) → bytes_eq m.text n.text ≡ b → names_field (with_loop w m) n ≡ (not (hide (m.text ∷ loops) o n.text) && declared)
    by_test true is = rw is refl
    by_test false is = rw is h
