use Rattle.std.proofs.Common.{refl}
use Rattle.std.specs.Fmt.{digits}
use Rattle.meaning_rules.specs.Loops.{loop}
use Rattle.top_tests.proofs.rows.one_cell_law.Goals as goal

pub returns-clause-ended : goal.returns-clause-ended
unfolding loop digits
returns-clause-ended c = record { process = _; exists = refl; ended = refl }

pub returns-clause-legal : goal.returns-clause-legal
unfolding loop digits
returns-clause-legal c = (
  record { process = _; exists = refl; call = refl; next = refl; performed = (refl, refl) },
  (
    record { process = _; exists = refl; call = refl; next = refl; performed = (_, refl, (refl, refl)) },
    (
      record { process = _; exists = refl; call = refl; next = refl; performed = (_, refl, (refl, refl)) },
      (record { process = _; exists = refl; call = refl; next = refl; performed = (_, refl, (refl, refl)) }, tt),
    ),
  ),
)

pub returns-clause-output : goal.returns-clause-output
unfolding loop digits
returns-clause-output c = refl
