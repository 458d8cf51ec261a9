-- Each table by itself, as the list of what it has by the numbers of the top level.
use Rattle.std.specs.Prelude.{◌≡◌, ℕ, ℤ, pos, List, [], map, filter, length, take, slice_get, position, bytes_eq, unwrap_or, Option, Some, None, option_and_then}
use Rattle.std.specs.Borrow.{Bor}
use Rattle.std.specs.BTreeMap.{BTreeMap}
use Rattle.link_rules.specs.Units.{Source}
use Rattle.type_rules.specs.declared.types.DataType.{DataType}
use Rattle.type_rules.specs.declared.names.Chain.TheVariants.{EndsAt}
use Rattle.type_rules.specs.TopLevel.{TopName, top_names, bears}
use Rattle.type_rules.specs.Constants.{chain_from}
use Rattle.type_rules.specs.Scopes.{heads_in}
use Rattle.value_core.specs.Datum as datum
use Rattle.value_core.specs.Integers.{IsWord}
use Rattle.meaning_rules.specs.Designators.{constant}
use Rattle.meaning_rules.specs.Openings.{field_types, fields_of_what, types_in}
use Rattle.meaning_rules.specs.Programs.{is_specification, op_in, specifications}
use Rattle.type_forms.specs.Seen.{top}
use Rattle.type_tables.specs.Entries.{entry}
use Rattle.program_tables.specs.declared.objects.Kinds.{Kinds}
use Rattle.program_tables.specs.declared.texts.Texts.{Texts}
use Rattle.program_tables.specs.declared.records.Record.{Record}

-- ---- object types and operations

-- the specifications, and how many of them stand before each name
pub record AreKinds (us : List Source) (k : Kinds) : Type 0 where
  pub specifications : map top k.specifications.items ≡ specifications us
  pub before : (i : ℕ) → unwrap_or (slice_get k.before.items i) (length k.specifications.items) ≡
      length (filter is_specification (take i (top_names us)))

-- the place of an operation in a specification
abbrev pub operation_places : TopName → List ℕ → Option ℕ
operation_places t n = option_and_then (op_in n) (heads_in t t.what)

abbrev pub AreOperationPlaces : List Source → List (BTreeMap (Bor (List ℕ)) ℕ) → Type 0
AreOperationPlaces us tables = map (λ m. entry m) tables ≡ map operation_places (top_names us)

-- ---- processes

-- the names of the top level that are listed, with their places by name
pub record Lists (ts : List TopName) (t : Texts) : Type 0 where
  pub processes : map top t.processes.items ≡ ts
  pub places : (n : List ℕ) → entry t.places n ≡ position (bears n) ts

-- ---- constants

-- a constant is a number of 64 bits
abbrev pub AreWords : List Source → Type 0
AreWords us = (i : ℕ) (z : ℤ) → chain_from us i ≡ EndsAt z → IsWord z

abbrev pub AreConstants : List Source → List ℤ → Type 0
AreConstants us values = (i : ℕ) → datum.int (unwrap_or (slice_get values i) (pos 0)) ≡ constant (chain_from us i)

-- ---- records

-- the place of a field
abbrev pub field_places : TopName → List ℕ → Option ℕ
field_places t n = position (λ f. bytes_eq f.name.text n) (fields_of_what t.what)

pub record IsRecord (us : List Source) (t : TopName) (r : Record) : Type 0 where
  pub places : (n : List ℕ) → entry r.places n ≡ field_places t n
  pub types : r.types.items ≡ types_in us t

pub record AreRecords (us : List Source) (rs : List Record) : Type 0 where
  pub places : map (λ r. entry r.places) rs ≡ map field_places (top_names us)
  pub types : map (λ r. r.types.items) rs ≡ map (types_in us) (top_names us)

abbrev pub record_types : Option Record → List (Option DataType)
record_types None = []
record_types (Some r) = r.types.items

abbrev pub record_places : Option Record → List ℕ → Option ℕ
record_places None n = None
record_places (Some r) n = entry r.places n

-- the types of each record's fields, by its number
abbrev pub HaveTypes : List Source → List Record → Type 0
HaveTypes us rs = (i : ℕ) → record_types (slice_get rs i) ≡ field_types us i
