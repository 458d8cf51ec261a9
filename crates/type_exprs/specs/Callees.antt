-- What is called, by reference.
use Rattle.type_rules.specs.Expressions as rules
use Rattle.type_exprs.specs.declared.calls.FunctionCallee.{FunctionCallee}
use Rattle.type_exprs.specs.declared.calls.FunctionCallee.TheVariants as called
use Rattle.type_exprs.specs.declared.calls.OperationCallee.{OperationCallee}
use Rattle.type_exprs.specs.declared.calls.OperationCallee.TheVariants as invoked
use Rattle.type_exprs.specs.declared.calls.Use.{Use}
use Rattle.type_exprs.specs.declared.calls.Use.TheVariants as use_

abbrev pub called_as : FunctionCallee → rules.Called
called_as called.Unknown = rules.Unknown
called_as called.NoFunction = rules.NoFunction
called_as (called.AFunction s) = rules.AFunction s.now
called_as (called.AGraphFunction s) = rules.AGraphFunction s.now

abbrev pub invoked_as : OperationCallee → rules.Invoked
invoked_as invoked.UnknownObject = rules.UnknownObject
invoked_as invoked.NoObject = rules.NoObject
invoked_as invoked.Untyped = rules.Untyped
invoked_as invoked.NoOperation = rules.NoOperation
invoked_as (invoked.AnOperation s) = rules.AnOperation s.now

abbrev pub used_as : Use → rules.Use
used_as use_.AsValue = rules.AsValue
used_as use_.AsStatement = rules.AsStatement
