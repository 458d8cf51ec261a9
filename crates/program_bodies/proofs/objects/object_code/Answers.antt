use Rattle.std.proofs.Common.{refl}
use Rattle.program_bodies.proofs.objects.object_code.Goals as goal

pub returns : goal.returns
returns c = λ us t. record {
  fields = record { home = refl; owner = refl; names = (c.in_ok-names.ensures {u = tt}) us t };
  begins = refl;
  operations = (c.in_ok-operations.ensures {u = tt}) us t;
}
