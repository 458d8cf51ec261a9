-- That a read leaves its object as it was.
use Rattle.std.specs.Prelude.{◌≡◌, List, length, slice_get, Some}
use Rattle.orca_base.specs.declared.ids.KindNo.{KindNo}
use Rattle.orca_base.specs.declared.ids.OpNo.{OpNo}
use Rattle.orca_syntax.specs.Syntax.{Operation}
use Rattle.link_rules.specs.Units.{Source}
use Rattle.type_rules.specs.Declarations.{field_locals}
use Rattle.value_core.specs.Datum.{Data, list_of}
use Rattle.value_core.specs.Fits.{KeepsState}
use Rattle.value_core.specs.declared.action.Class.TheVariants.{Reads}
use Rattle.meaning_rules.specs.Programs.{ObjectType, object_type}
use Rattle.meaning_rules.specs.Operations.{tries_of}
use Rattle.meaning_rules.specs.Classes.{class_of}

-- an operation of an object type, with as many arguments as it has parameters, on a state with as many values as the type has fields
pub record IsCall (us : List Source) (kind : KindNo) (op : OpNo) (state args : Data) : Type 0 where
  pub of : ObjectType
  pub operation : Operation
  pub type : object_type us kind ≡ Some of
  pub has : slice_get of.operations op.0 ≡ Some operation
  pub given : length (list_of args) ≡ length operation.head.parameters
  pub values : length (list_of state) ≡ length (field_locals us of.home of.fields)

-- a read leaves the state as it is
abbrev pub ReadsKeep : List Source → Type 0
ReadsKeep us =
    (kind : KindNo) (op : OpNo) (state args : Data) → IsCall us kind op state args → class_of us kind op ≡ Reads →
    KeepsState (tries_of us kind op state args) (λ after. after ≡ state)
