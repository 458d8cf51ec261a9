use Rattle.std.proofs.Common.{List, ap, ◌∙◌, map, subst, sym}
use Rattle.code_rules.specs.Machine as machine
use Rattle.code_rules.specs.Bodies.{making_code}
use Rattle.program_bodies.specs.declared.objects.OperationCode.{OperationCode}
use Rattle.program_bodies.specs.Matching.{Match}
use Rattle.program_bodies.specs.Objects.{IsOperationCode}
use Rattle.emitted_code.specs.Views.{operation_seen}
use Rattle.code_units.proofs.objects.compile_object.Goals as goal

abbrev a_type : machine.Body → List machine.OperationCode → machine.TypeCode
a_type making operations = record { making = making; operations = operations }

pub returns : goal.returns
returns c = λ us t code is.
    ap (λ (b : machine.Body). a_type b (map operation_seen c.in_ok-operations.operations.items)) ((c.in_ok-making.ensures {u = tt}) us t code is)
    ∙ ap (a_type (making_code us t)) ((c.in_ok-operations.ensures {u = tt}) us t t.operations code
    (subst (λ (os : List OperationCode). Match (IsOperationCode us t) os t.operations) (sym c.deref.ensures.value) is.operations))
