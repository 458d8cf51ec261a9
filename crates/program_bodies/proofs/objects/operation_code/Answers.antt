use Rattle.std.proofs.Common.{refl, ◌∙◌}
use Rattle.program_bodies.proofs.FirstGiven.{some_mapped}
use Rattle.orca_syntax.specs.Shown.{kind}
use Rattle.program_bodies.proofs.objects.operation_code.Goals as goal

pub returns : goal.returns
returns c = λ us t. record {
  body = λ in_guard. record { home = refl; owner = refl; names = (c.in_ok-names.ensures {u = tt}) us t };
  variables = (c.in_ok-variables.ensures {u = tt}) us t;
  has_result = c.is_some.ensures ∙ some_mapped kind c.args.operation.now.head.result;
  form = refl;
}
