use Rattle.std.proofs.Common.{List, map, take}
use Rattle.orca_syntax.specs.Shown.{operation}
use Rattle.link_rules.specs.Units.{Source}
use Rattle.type_forms.specs.Forms.{AreTyped}
use Rattle.program_bodies.specs.Matching.{Match}
use Rattle.program_bodies.specs.Objects.{IsOperationCode, object_type_seen}
use Rattle.program_bodies.proofs.objects.operation_codes.Given as goal

abbrev pub invariant-operations : goal.invariant-operations
invariant-operations l = (us : List Source) → AreTyped us l.forms →
    Match (IsOperationCode us (object_type_seen l.of)) l.all.items (map operation (take l.operation-index l.operations))
