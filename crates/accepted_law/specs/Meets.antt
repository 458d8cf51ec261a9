-- That what the rules of typing find by a name, and what the meaning finds by it, are the same: variables, functions, functions of graphs,
-- operations, processes and fields.
use Rattle.std.specs.Prelude.{◌≡◌, ◌⊎◌, ℕ, List, [], ◌∷◌, map, slice_get, Option, Some, None}
use Rattle.orca_tree.specs.declared.tree.Name.{Name}
use Rattle.orca_syntax.specs.Syntax.{Kind, Parameter, Block}
use Rattle.type_rules.specs.declared.signature.Formal.TheVariants.{SomeGraph, NodeOf}
use Rattle.type_rules.specs.declared.signature.Signature.{Signature}
use Rattle.type_rules.specs.declared.types.Base.TheVariants as base
use Rattle.type_rules.specs.declared.types.DataType.{DataType}
use Rattle.type_rules.specs.Types as types
use Rattle.type_rules.specs.TopLevel as top
use Rattle.type_rules.specs.TopLevel.{TopName, top_names}
use Rattle.type_rules.specs.Scopes.{Local, Scope, local, operation_of, signature}
use Rattle.type_rules.specs.Expressions as typing
use Rattle.type_rules.specs.Expressions.{called, field_of, invoked}
use Rattle.type_rules.specs.Statements as statements
use Rattle.type_rules.specs.Statements.{forked}
use Rattle.value_core.specs.Datum.{Datum}
use Rattle.value_core.specs.Fits.{Kinds}
use Rattle.meaning_rules.specs.Calls as calls
use Rattle.meaning_rules.specs.Calls.{callee, object_number}
use Rattle.meaning_rules.specs.Designators.{root_type, slot}
use Rattle.meaning_rules.specs.Fitting.{AreFitting, Fits}
use Rattle.meaning_rules.specs.Openings.{field_number, field_types}
use Rattle.meaning_rules.specs.Programs.{process_texts, text_of}

-- a variable's value stands at its slot, and fits its type
pub record IsHeld (v : Scope) (kinds : Kinds) (frame : List Datum) (n : Name) (l : Local) : Type 0 where
  pub value : Datum
  pub at : slice_get frame (slot v n) ≡ Some value
  pub fits : Fits v.program kinds value l.type

-- what is called is a function of the program, with its signature
pub record IsFunctionCalled (v : Scope) (n : Name) (g : Signature) : Type 0 where
  pub number : ℕ
  pub named : TopName
  pub parameters : List Parameter
  pub result : Option Kind
  pub body : Block
  pub at : slice_get (top_names v.program) number ≡ Some named
  pub what : named.what ≡ top.Function parameters result body
  pub calls : callee v n ≡ calls.AFunction number (map (λ p. p.mode) parameters)
  pub signed : g ≡ signature v.program named.defined.by parameters result body

-- what is forked is a process of the program, with its signature
pub record IsProcessForked (v : Scope) (n : Name) (g : Signature) : Type 0 where
  pub named : TopName
  pub parameters : List Parameter
  pub body : Block
  pub at : slice_get (process_texts v.program) (text_of v.program n.text).0 ≡ Some named
  pub what : named.what ≡ top.Process parameters body
  pub signed : g ≡ signature v.program named.defined.by parameters None body

-- `addnode` is called with a graph, `deletenode` with a node's name and a graph
abbrev pub IsGraphFunctionCalled : Scope → Name → Signature → Type 0
IsGraphFunctionCalled v n g =
    ((callee v n ≡ calls.Adds) × (g.formals ≡ SomeGraph ∷ []))
    ⊎ ((callee v n ≡ calls.Deletes) × (g.formals ≡ NodeOf ∷ SomeGraph ∷ []))

pub record Meets (v : Scope) : Type 0 where
  pub slots : (n : Name) (l : Local) → local v n.text ≡ Some l → slice_get v.locals (slot v n) ≡ Some l
  pub names : (kinds : Kinds) (frame : List Datum) (n : Name) (l : Local) → local v n.text ≡ Some l →
      AreFitting v.program kinds frame v.locals → IsHeld v kinds frame n l
  pub functions : (n : Name) (g : Signature) → called v n ≡ typing.AFunction g → IsFunctionCalled v n g
  pub graphs : (n : Name) (g : Signature) → called v n ≡ typing.AGraphFunction g → IsGraphFunctionCalled v n g
  pub operations : (o m : Name) (g : Signature) → invoked v o m ≡ typing.AnOperation g →
      operation_of v.program (object_number (root_type v o)) m.text ≡ Some g
  pub processes : (n : Name) (g : Signature) → forked v n ≡ statements.AProcess g → IsProcessForked v n g
  pub fields : (i : ℕ) (f : Name) (t : Option DataType) → field_of v f.text (types.Bare (base.Record i)) ≡ Some t →
      slice_get (field_types v.program i) (field_number v.program i f.text) ≡ Some t
