-- What code has of a program by numbers and names: each by the meaning's own definition.
use Rattle.std.specs.Prelude.{◌≡◌, ◌<◌, ◌^◌, ℕ, zero, suc, pos, List, map, length, slice_get, unwrap_or}
use Rattle.link_rules.specs.Units.{Source}
use Rattle.type_rules.specs.Constants.{chain_from}
use Rattle.value_core.specs.Datum as datum
use Rattle.meaning_rules.specs.Designators.{constant}
use Rattle.meaning_rules.specs.Openings.{field_number}
use Rattle.meaning_rules.specs.Programs.{kind_of, op_of, process_texts, specifications, text_of}
use Rattle.type_forms.specs.Seen.{top}
use Rattle.type_tables.specs.Entries.{entry}
use Rattle.type_tables.specs.Tables.{entry_in}
use Rattle.program_tables.specs.declared.tables.CodeTables.{CodeTables}
use Rattle.program_tables.specs.Listed.{AreWords, HaveTypes, record_places}

-- numbers of object types, operations and texts have 16 bits, and constants 64
pub record AreCoded (us : List Source) : Type 0 where
  pub kinds : (i : ℕ) → (kind_of us i).0 < 2 ^ 16
  pub ops : (i : ℕ) (name : List ℕ) → (op_of us i name).0 < 2 ^ 16
  pub texts : (name : List ℕ) → (text_of us name).0 < 2 ^ 16
  pub constants : AreWords us

-- these are the tables of these sources: by the number at the top, or by a name, each has what the meaning says
pub record IsTables (us : List Source) (t : CodeTables) : Type 0 where
  pub coded : AreCoded us
  pub specifications : map top t.kinds.specifications.items ≡ specifications us
  pub kinds : (i : ℕ) → suc (unwrap_or (slice_get t.kinds.before.items i) (length t.kinds.specifications.items)) ≡ (kind_of us i).0
  pub operations : (i : ℕ) (name : List ℕ) → unwrap_or (entry_in t.operations.items i name) zero ≡ (op_of us i name).0
  pub processes : map top t.texts.processes.items ≡ process_texts us
  pub texts : (name : List ℕ) → unwrap_or (entry t.texts.places name) zero ≡ (text_of us name).0
  pub constants : (i : ℕ) → datum.int (unwrap_or (slice_get t.constants.items i) (pos 0)) ≡ constant (chain_from us i)
  pub fields : HaveTypes us t.records.items
  pub places : (i : ℕ) (name : List ℕ) → unwrap_or (record_places (slice_get t.records.items i) name) zero ≡ field_number us i name
