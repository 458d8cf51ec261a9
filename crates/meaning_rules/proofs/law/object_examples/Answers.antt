use Rattle.std.proofs.Common.{refl}
use Rattle.std.specs.Fmt.{digits}
use Rattle.meaning_rules.specs.Loops.{loop}
use Rattle.meaning_rules.proofs.law.object_examples.Goals as goal

pub returns-clause-output : goal.returns-clause-output
unfolding loop digits
returns-clause-output c = refl

pub returns-clause-overflow : goal.returns-clause-overflow
unfolding loop digits
returns-clause-overflow c = refl

pub returns-clause-too_long : goal.returns-clause-too_long
unfolding loop digits
returns-clause-too_long c = refl

pub returns-clause-no_return : goal.returns-clause-no_return
unfolding loop digits
returns-clause-no_return c = refl

pub returns-clause-blocked : goal.returns-clause-blocked
unfolding loop digits
returns-clause-blocked c = refl

pub returns-clause-least : goal.returns-clause-least
unfolding loop digits
returns-clause-least c = refl

pub returns-clause-put : goal.returns-clause-put
unfolding loop digits
returns-clause-put c = refl

pub returns-clause-begins : goal.returns-clause-begins
unfolding loop digits
returns-clause-begins c = refl

pub returns-clause-first_guard : goal.returns-clause-first_guard
unfolding loop digits
returns-clause-first_guard c = refl

pub returns-clause-second_guard : goal.returns-clause-second_guard
unfolding loop digits
returns-clause-second_guard c = refl

pub returns-clause-no_guard : goal.returns-clause-no_guard
unfolding loop digits
returns-clause-no_guard c = refl

pub returns-clause-guard_faults : goal.returns-clause-guard_faults
unfolding loop digits
returns-clause-guard_faults c = refl

pub returns-clause-guard_before_a_fault : goal.returns-clause-guard_before_a_fault
unfolding loop digits
returns-clause-guard_before_a_fault c = refl

pub returns-clause-making : goal.returns-clause-making
unfolding loop digits
returns-clause-making c = refl

pub returns-clause-makes_first : goal.returns-clause-makes_first
unfolding loop digits
returns-clause-makes_first c = refl

pub returns-clause-makes_second : goal.returns-clause-makes_second
unfolding loop digits
returns-clause-makes_second c = refl

pub returns-clause-ends_by_a_making : goal.returns-clause-ends_by_a_making
unfolding loop digits
returns-clause-ends_by_a_making c = refl

pub returns-clause-second_type : goal.returns-clause-second_type
unfolding loop digits
returns-clause-second_type c = refl

pub returns-clause-first_type : goal.returns-clause-first_type
unfolding loop digits
returns-clause-first_type c = refl

pub returns-clause-forks : goal.returns-clause-forks
unfolding loop digits
returns-clause-forks c = refl

pub returns-clause-shares : goal.returns-clause-shares
unfolding loop digits
returns-clause-shares c = refl

pub returns-clause-worker : goal.returns-clause-worker
unfolding loop digits
returns-clause-worker c = refl

pub returns-clause-field_handed_back : goal.returns-clause-field_handed_back
unfolding loop digits
returns-clause-field_handed_back c = refl

pub returns-clause-left_early : goal.returns-clause-left_early
unfolding loop digits
returns-clause-left_early c = refl

pub returns-clause-history : goal.returns-clause-history
unfolding loop digits
returns-clause-history c = (
  record { process = _; exists = refl; call = refl; next = refl; performed = (refl, refl) },
  (
    record { process = _; exists = refl; call = refl; next = refl; performed = (_, refl, (refl, refl)) },
    (
      record { process = _; exists = refl; call = refl; next = refl; performed = (_, refl, (refl, refl)) },
      (record { process = _; exists = refl; call = refl; next = refl; performed = (_, refl, (refl, refl)) }, tt),
    ),
  ),
)

pub returns-clause-pool : goal.returns-clause-pool
unfolding loop digits
returns-clause-pool c = (
  record { process = _; exists = refl; call = refl; next = refl; performed = (refl, refl) },
  (
    record { process = _; exists = refl; call = refl; next = refl; performed = (refl, refl) },
    (
      record { process = _; exists = refl; call = refl; next = refl; performed = (refl, refl) },
      (
        record { process = _; exists = refl; call = refl; next = refl; performed = (_, refl, (refl, refl)) },
        (
          record { process = _; exists = refl; call = refl; next = refl; performed = (_, refl, (refl, refl)) },
          (
            record { process = _; exists = refl; call = refl; next = refl; performed = (_, refl, (refl, refl)) },
            (
              record { process = _; exists = refl; call = refl; next = refl; performed = (_, refl, (refl, refl)) },
              (
                record { process = _; exists = refl; call = refl; next = refl; performed = (_, refl, (refl, refl)) },
                (
                  record { process = _; exists = refl; call = refl; next = refl; performed = (_, refl, (refl, refl)) },
                  (
                    record { process = _; exists = refl; call = refl; next = refl; performed = (_, refl, (refl, refl)) },
                    (
                      record { process = _; exists = refl; call = refl; next = refl; performed = (_, refl, (refl, refl)) },
                      (
                        record { process = _; exists = refl; call = refl; next = refl; performed = (_, refl, (refl, refl)) },
                        tt,
                      ),
                    ),
                  ),
                ),
              ),
            ),
          ),
        ),
      ),
    ),
  ),
)

pub returns-clause-waits : goal.returns-clause-waits
unfolding loop digits
returns-clause-waits c =
    record {
      process = _;
      kind = _;
      op = _;
      object = _;
      args = _;
      kept = _;
      exists = refl;
      waits = refl;
      has = refl;
      blocked = refl;
    }
