-- That the numbers by which a program goes fit their types: of object types, operations, texts, fields, guards and variables.
use Rattle.std.specs.Prelude.{◌≡◌, ◌<◌, ◌^◌, ℕ, List, ◌∷◌, length, slice_get, Some}
use Rattle.orca_base.specs.declared.ids.KindNo.{KindNo}
use Rattle.orca_syntax.specs.Syntax as syn
use Rattle.orca_syntax.specs.Syntax.{Parameter, Operation, Body, Block}
use Rattle.link_rules.specs.Units.{Source}
use Rattle.type_rules.specs.TopLevel as top
use Rattle.type_rules.specs.TopLevel.{TopName}
use Rattle.meaning_rules.specs.Openings.{record_fields}
use Rattle.meaning_rules.specs.Programs.{ObjectType, kind_of, object_type, op_of, process_scope, process_texts, text_of}

-- the guards of an operation's body
abbrev pub guards_in : Body → ℕ
guards_in (syn.Guarded first others) = length (first ∷ others)
guards_in (syn.Plain ss) = 0

pub record AreNumbers (us : List Source) : Type 0 where
  pub kinds : (i : ℕ) → (kind_of us i).0 < 2 ^ 16
  pub ops : (i : ℕ) (name : List ℕ) → (op_of us i name).0 < 2 ^ 16
  pub texts : (name : List ℕ) → (text_of us name).0 < 2 ^ 16
  pub fields : (i : ℕ) → length (record_fields us i) < 2 ^ 16
  pub guards : (kind : KindNo) (t : ObjectType) (i : ℕ) (o : Operation) → object_type us kind ≡ Some t →
      slice_get t.operations i ≡ Some o → guards_in o.body < 2 ^ 16
  pub variables : (i : ℕ) (t : TopName) (ps : List Parameter) (b : Block) → slice_get (process_texts us) i ≡ Some t →
      t.what ≡ top.Process ps b → length (process_scope us t.defined.by ps b).locals < 2 ^ 32
