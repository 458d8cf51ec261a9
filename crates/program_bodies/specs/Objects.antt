-- The code of object types and of their operations.
use Rattle.std.specs.Prelude.{◌≡◌, Bool, List, map, is_some, option_map}
use Rattle.orca_syntax.specs.Syntax.{Operation}
use Rattle.orca_syntax.specs.Shown as shown
use Rattle.orca_syntax.specs.Shown.{operation, stmts, variables}
use Rattle.link_rules.specs.Units.{Source}
use Rattle.meaning_rules.specs.Programs.{ObjectType, begin_scope, operation_scope, operation_variables}
use Rattle.program_bodies.specs.declared.implementations.Implemented.{Implemented}
use Rattle.program_bodies.specs.declared.objects.ObjectCode.{ObjectCode}
use Rattle.program_bodies.specs.declared.objects.OperationCode.{OperationCode}
use Rattle.program_bodies.specs.Bodies.{IsBody}
use Rattle.program_bodies.specs.Matching.{Match}

-- an implementation, by reference
abbrev pub object_type_seen : Implemented → ObjectType
object_type_seen i =
    record {
      home = i.home.now;
      fields = map variables i.fields.now;
      operations = map operation i.operations.now;
      begins = option_map (λ ss. stmts ss.items) i.begins.now;
    }

-- the body of an operation is that of its guards too
pub record IsOperationCode (us : List Source) (t : ObjectType) (c : OperationCode) (o : Operation) : Type 0 where
  pub body : (in_guard : Bool) → IsBody c.body (operation_scope us t o in_guard)
  pub variables : c.variables.items ≡ map (λ l. l.type) (operation_variables us t o)
  pub has_result : c.has_result ≡ is_some o.head.result
  pub form : shown.body c.form.now ≡ o.body

pub record IsObjectCode (us : List Source) (c : ObjectCode) (t : ObjectType) : Type 0 where
  pub fields : IsBody c.fields (begin_scope us t)
  pub begins : option_map (λ ss. stmts ss.items) c.begins.now ≡ t.begins
  pub operations : Match (IsOperationCode us t) c.operations.items t.operations
