-- What tables have for numbers and names.
use Rattle.std.proofs.Common.{◌≡◌, ℕ, zero, suc, ◌≤◌, List, [], map, length, Option, Some, None, refl, sym, ap, ◌∙◌}
use Rattle.std.specs.Prelude.{slice_get, unwrap_or, option_map, pos}
use Rattle.std.specs.Borrow.{Bor}
use Rattle.std.specs.BTreeMap.{BTreeMap}
use Rattle.std.proofs.lemmas.Option.{slice_get-map, slice_get_past}
use Rattle.link_rules.specs.Units.{Source}
use Rattle.type_rules.specs.declared.types.DataType.{DataType}
use Rattle.type_rules.specs.TopLevel.{TopName, top_names}
use Rattle.type_rules.specs.Constants.{chain_from, chain_within}
use Rattle.value_core.specs.Datum.{Datum}
use Rattle.value_core.specs.Datum as datum
use Rattle.meaning_rules.specs.Designators.{constant}
use Rattle.meaning_rules.specs.Openings.{field_number, field_types, types_in}
use Rattle.meaning_rules.specs.Programs.{op_of}
use Rattle.type_tables.specs.Entries.{entry}
use Rattle.type_tables.specs.Tables.{entry_in, entry_of}
use Rattle.program_tables.specs.declared.records.Record.{Record}
use Rattle.program_tables.specs.Listed.{AreOperationPlaces, AreRecords, field_places, operation_places, record_places, record_types}

-- what two lists have at a number, of which one is that of a view and the other that of a function
read : {T A X : Type 0} (own : T → X) (f : A → X) (ts : List T) (xs : List A) (i : ℕ) → map own ts ≡ map f xs →
    option_map own (slice_get ts i) ≡ option_map f (slice_get xs i)
read {T} {A} {X} own f ts xs i e = sym (slice_get-map own ts i) ∙ ap (λ (l : List X). slice_get l i) e ∙ slice_get-map f xs i

abbrev Places : Type 0
Places = BTreeMap (Bor (List ℕ)) ℕ

abbrev place_in : Option (List ℕ → Option ℕ) → List ℕ → Option ℕ
place_in None n = None
place_in (Some f) n = f n

-- ---- operations

of_entries : (o : Option Places) (n : List ℕ) → entry_of o n ≡ place_in (option_map (λ m. entry m) o) n
of_entries None n = refl
of_entries (Some m) n = refl

ops : (us : List Source) (i : ℕ) (n : List ℕ) (t : Option TopName) → slice_get (top_names us) i ≡ t →
    unwrap_or (place_in (option_map operation_places t) n) zero ≡ (op_of us i n).0
ops us i n None e = rw e refl
ops us i n (Some t) e = rw e refl

pub op_found : (us : List Source) (tables : List Places) (i : ℕ) (n : List ℕ) → AreOperationPlaces us tables →
    unwrap_or (entry_in tables i n) zero ≡ (op_of us i n).0
op_found us tables i n e =
    ap (λ (o : Option ℕ). unwrap_or o zero)
    (of_entries (slice_get tables i) n ∙ ap (λ (o : Option (List ℕ → Option ℕ)). place_in o n) (read (λ (m : Places). entry m) operation_places tables (top_names us) i e))
    ∙ ops us i n (slice_get (top_names us) i) refl

-- ---- records

of_places : (o : Option Record) (n : List ℕ) → record_places o n ≡ place_in (option_map (λ r. entry r.places) o) n
of_places None n = refl
of_places (Some r) n = refl

numbers : (us : List Source) (i : ℕ) (n : List ℕ) (t : Option TopName) → slice_get (top_names us) i ≡ t →
    unwrap_or (place_in (option_map field_places t) n) zero ≡ field_number us i n
numbers us i n None e = rw e refl
numbers us i n (Some t) e = rw e refl

pub place_found : (us : List Source) (rs : List Record) (i : ℕ) (n : List ℕ) → AreRecords us rs →
    unwrap_or (record_places (slice_get rs i) n) zero ≡ field_number us i n
place_found us rs i n are =
    ap (λ (o : Option ℕ). unwrap_or o zero)
    (of_places (slice_get rs i) n ∙ ap (λ (o : Option (List ℕ → Option ℕ)). place_in o n) (read (λ (r : Record). entry r.places) field_places rs (top_names us) i are.places))
    ∙ numbers us i n (slice_get (top_names us) i) refl

abbrev listed : Option (List (Option DataType)) → List (Option DataType)
listed None = []
listed (Some l) = l

of_types : (o : Option Record) → record_types o ≡ listed (option_map (λ r. r.types.items) o)
of_types None = refl
of_types (Some r) = refl

types : (us : List Source) (i : ℕ) (t : Option TopName) → slice_get (top_names us) i ≡ t → listed (option_map (types_in us) t) ≡ field_types us i
types us i None e = rw e refl
types us i (Some t) e = rw e refl

pub types_found : (us : List Source) (rs : List Record) (i : ℕ) → AreRecords us rs → record_types (slice_get rs i) ≡ field_types us i
types_found us rs i are =
    of_types (slice_get rs i)
    ∙ ap listed (read (λ (r : Record). r.types.items) (types_in us) rs (top_names us) i are.types)
    ∙ types us i (slice_get (top_names us) i) refl

-- ---- constants

-- behind the names of the top level there is no constant
within : (us : List Source) (k i : ℕ) → slice_get (top_names us) i ≡ None → constant (chain_within us k i) ≡ datum.int (pos 0)
within us zero i e = refl
within us (suc k) i e = rw e refl

pub no_constant : (us : List Source) (i : ℕ) → length (top_names us) ≤ i → datum.int (pos 0) ≡ constant (chain_from us i)
no_constant us i past = sym (within us (length (top_names us)) i (slice_get_past (top_names us) i past))
