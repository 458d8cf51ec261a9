use Rattle.std.proofs.Common.{◌≡◌, List, map, take}
use Rattle.orca_syntax.specs.Syntax.{Operation}
use Rattle.link_rules.specs.Units.{Source}
use Rattle.meaning_rules.specs.Programs.{ObjectType}
use Rattle.code_rules.specs.Bodies.{operation_code}
use Rattle.program_bodies.specs.Codes.{IsCode}
use Rattle.program_bodies.specs.Matching.{Match}
use Rattle.program_bodies.specs.Objects.{IsOperationCode}
use Rattle.emitted_code.specs.Views.{operation_seen}
use Rattle.code_units.proofs.objects.compile_operations.Given as goal

abbrev pub invariant-operations : goal.invariant-operations
invariant-operations l = (us : List Source) (t : ObjectType) (os : List Operation) → IsCode us l.code → Match (IsOperationCode us t) l.operations os →
    map operation_seen l.all.items ≡ map (operation_code us t) (take l.one-index os)
