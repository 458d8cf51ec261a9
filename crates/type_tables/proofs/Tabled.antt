-- Tables by numbers: one entry more, and what they have for a number.
use Rattle.std.proofs.Common.{◌≡◌, ℕ, ◌<◌, ◌+◌, List, [], ◌∷◌, ◌++◌, length, get_or, take, map, Option, None, Some, refl, sym, ap, ◌∙◌}
use Rattle.std.specs.Prelude.{slice_get, option_map}
use Rattle.std.specs.Borrow.{Bor}
use Rattle.std.specs.BTreeMap.{BTreeMap}
use Rattle.std.proofs.lemmas.List.{map-append, take_more}
use Rattle.std.proofs.lemmas.Option.{slice_get-map}
use Rattle.link_rules.specs.Units.{Source}
use Rattle.type_rules.specs.declared.types.DataType.{DataType}
use Rattle.type_rules.specs.declared.signature.Signature.{Signature}
use Rattle.type_rules.specs.TopLevel.{TopName, top_names}
use Rattle.type_rules.specs.Scopes.{operation_of}
use Rattle.type_rules.specs.Expressions.{field_at}
use Rattle.type_tables.specs.Entries.{entry}
use Rattle.type_tables.specs.Tables.{AreFields, AreOperations, AreSignatures, entry_in, entry_of, fields_at, operations_at, or_none, signature_at, signature_in, signature_numbered}

-- one more
pub tabled : {A B C X : Type 0} (view : A → B) (f : B → C) (own : X → C) (xs : List A) (i : ℕ) (x : A) (ys : List X) (y : X) → i < length xs → x ≡ get_or xs i x →
    map own ys ≡ map f (map view (take i xs)) → own y ≡ f (view x) → map own (ys ++ y ∷ []) ≡ map f (map view (take (i + 1) xs))
tabled {A} {B} {C} {X} view f own xs i x ys y lt is before e =
    map-append own ys (y ∷ [])
    ∙ ap (λ (l : List C). l ++ own y ∷ []) before
    ∙ ap (λ (v : C). map f (map view (take i xs)) ++ v ∷ []) e
    ∙ sym (ap (λ (l : List A). map f (map view l)) (take_more xs i x lt ∙ ap (λ (v : A). take i xs ++ v ∷ []) (sym is))
    ∙ ap (map f) (map-append view (take i xs) (x ∷ []))
    ∙ map-append f (map view (take i xs)) (view x ∷ []))

-- ---- signatures

signatures : (us : List Source) (t : Option TopName) → or_none (option_map (signature_at us) t) ≡ signature_numbered us t
signatures us None = refl
signatures us (Some t) = refl

pub signature_found : (us : List Source) (table : List (Option Signature)) (i : ℕ) → AreSignatures us table →
    signature_in table i ≡ signature_numbered us (slice_get (top_names us) i)
signature_found us table i e =
    ap (λ (l : List (Option Signature)). or_none (slice_get l i)) e
    ∙ ap or_none (slice_get-map (signature_at us) (top_names us) i)
    ∙ signatures us (slice_get (top_names us) i)

-- ---- tables by names

abbrev Named : Type 0 → Type 0
Named X = BTreeMap (Bor (List ℕ)) X

abbrev at_name : {X : Type 0} → Option (List ℕ → Option X) → List ℕ → Option X
at_name None n = None
at_name (Some f) n = f n

at_entry : {X : Type 0} (o : Option (Named X)) (n : List ℕ) → entry_of o n ≡ at_name (option_map (λ m. entry m) o) n
at_entry None n = refl
at_entry (Some m) n = refl

entries : {X : Type 0} (tables : List (Named X)) (f : TopName → List ℕ → Option X) (tops : List TopName) (i : ℕ) (n : List ℕ) →
    map (λ m. entry m) tables ≡ map f tops → entry_in tables i n ≡ at_name (option_map f (slice_get tops i)) n
entries {X} tables f tops i n e =
    at_entry (slice_get tables i) n
    ∙ ap (λ (o : Option (List ℕ → Option X)). at_name o n)
    (sym (slice_get-map (λ (m : Named X). entry m) tables i) ∙ ap (λ (l : List (List ℕ → Option X)). slice_get l i) e ∙ slice_get-map f tops i)

fields : (us : List Source) (t : Option TopName) (n : List ℕ) → at_name (option_map (fields_at us) t) n ≡ field_at us n t
fields us None n = refl
fields us (Some t) n = refl

pub field_found : (us : List Source) (tables : List (Named (Option DataType))) (i : ℕ) (n : List ℕ) → AreFields us tables →
    entry_in tables i n ≡ field_at us n (slice_get (top_names us) i)
field_found us tables i n e = entries tables (fields_at us) (top_names us) i n e ∙ fields us (slice_get (top_names us) i) n

operations : (us : List Source) (t : Option TopName) (i : ℕ) (n : List ℕ) → slice_get (top_names us) i ≡ t →
    at_name (option_map (operations_at us) t) n ≡ operation_of us i n
operations us None i n e = rw e refl
operations us (Some t) i n e = rw e refl

pub operation_found : (us : List Source) (tables : List (Named Signature)) (i : ℕ) (n : List ℕ) → AreOperations us tables →
    entry_in tables i n ≡ operation_of us i n
operation_found us tables i n e = entries tables (operations_at us) (top_names us) i n e ∙ operations us (slice_get (top_names us) i) i n refl
