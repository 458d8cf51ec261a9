-- Signatures, fields and operations, as tables by the numbers of the names of the top level.
use Rattle.std.specs.Prelude.{◌≡◌, ℕ, List, map, find, bytes_eq, option_map, slice_get, Option, Some, None}
use Rattle.std.specs.Borrow.{Bor}
use Rattle.std.specs.BTreeMap.{BTreeMap}
use Rattle.orca_syntax.specs.Syntax as syn
use Rattle.orca_syntax.specs.Syntax.{Definition}
use Rattle.link_rules.specs.Units.{Source}
use Rattle.type_rules.specs.declared.types.DataType.{DataType}
use Rattle.type_rules.specs.declared.signature.Signature.{Signature}
use Rattle.type_rules.specs.declared.names.Predeclared.TheVariants as predeclared
use Rattle.type_rules.specs.TopLevel as top
use Rattle.type_rules.specs.TopLevel.{What, TopName, top_names}
use Rattle.type_rules.specs.Constants.{View}
use Rattle.type_rules.specs.TypePhrases.{data_found}
use Rattle.type_rules.specs.Scopes.{heads_in, operation_in, signature, type_of}
use Rattle.type_rules.specs.Expressions.{AGraphFunction, field_of_what, predeclared_function}
use Rattle.type_forms.specs.Forms.{AreTyped}
use Rattle.type_tables.specs.declared.tables.Tables.{Tables}
use Rattle.type_tables.specs.Entries.{entry}

-- the signature of a function or a process
abbrev pub signature_of_what : List Source → TopName → What → Option Signature
signature_of_what us t (top.Function ps r b) = Some (signature us t.defined.by ps r b)
signature_of_what us t (top.Process ps b) = Some (signature us t.defined.by ps None b)
signature_of_what us t _ = None

abbrev pub signature_at : List Source → TopName → Option Signature
signature_at us t = signature_of_what us t t.what

abbrev pub signature_numbered : List Source → Option TopName → Option Signature
signature_numbered us None = None
signature_numbered us (Some t) = signature_at us t

-- the fields of a record, with their types
abbrev pub fields_at : List Source → TopName → List ℕ → Option (Option DataType)
fields_at us t f = field_of_what us t f t.what

-- the field of a definition, in the view of its module
abbrev pub defined_field : View → List ℕ → Definition → Option (Option DataType)
defined_field v f (syn.Record at fields) = option_map (λ d. type_of (data_found v d.kind)) (find (λ d. bytes_eq d.name.text f) fields)
defined_field v f _ = None

-- the operations of a specification, with their signatures
abbrev pub operations_at : List Source → TopName → List ℕ → Option Signature
operations_at us t n = operation_in us n (heads_in t t.what)

abbrev pub AreSignatures : List Source → List (Option Signature) → Type 0
AreSignatures us table = table ≡ map (signature_at us) (top_names us)

abbrev pub AreFields : List Source → List (BTreeMap (Bor (List ℕ)) (Option DataType)) → Type 0
AreFields us tables = map (λ m. entry m) tables ≡ map (fields_at us) (top_names us)

abbrev pub AreOperations : List Source → List (BTreeMap (Bor (List ℕ)) Signature) → Type 0
AreOperations us tables = map (λ m. entry m) tables ≡ map (operations_at us) (top_names us)

abbrev pub or_none : Option (Option Signature) → Option Signature
or_none None = None
or_none (Some s) = s

-- what a table of signatures has for a number
abbrev pub signature_in : List (Option Signature) → ℕ → Option Signature
signature_in table i = or_none (slice_get table i)

abbrev pub entry_of : {X : Type 0} → Option (BTreeMap (Bor (List ℕ)) X) → List ℕ → Option X
entry_of None n = None
entry_of (Some table) n = entry table n

-- what a table of tables by names has for a number and a name
abbrev pub entry_in : {X : Type 0} → List (BTreeMap (Bor (List ℕ)) X) → ℕ → List ℕ → Option X
entry_in tables i n = entry_of (slice_get tables i) n

-- these are the tables of a program
pub record AreTables (us : List Source) (t : Tables) : Type 0 where
  pub typed : AreTyped us t.forms
  pub signatures : AreSignatures us t.signatures.now
  pub fields : AreFields us t.fields.now
  pub operations : AreOperations us t.operations.now
  pub add_node : AGraphFunction t.add_node.now ≡ predeclared_function predeclared.AddNode
  pub delete_node : AGraphFunction t.delete_node.now ≡ predeclared_function predeclared.DeleteNode
