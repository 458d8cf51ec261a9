use Rattle.std.proofs.Common.{◌≡◌, Some, refl, subst}
use Rattle.std.specs.Prelude.{length, slice_get}
use Rattle.std.specs.Fmt.{digits}
use Rattle.type_rules.specs.Declarations.{field_locals}
use Rattle.code_rules.specs.Example.{a_program}
use Rattle.code_rules.proofs.law.program_example.Goals as goal

some_same : {A : Type 0} {x y : A} → Some x ≡ Some y → x ≡ y
some_same e = cc e

pub returns-clause-starts : goal.returns-clause-starts
returns-clause-starts c = record { of = _; parameters = _; block = _; there = refl; is = refl; given = refl }

pub returns-clause-forked : goal.returns-clause-forked
returns-clause-forked c = record { of = _; parameters = _; block = _; there = refl; is = refl; given = refl }

pub returns-clause-tried : goal.returns-clause-tried
returns-clause-tried c = record {
  given = λ t o type has. subst (λ u. slice_get u.operations 1 ≡ Some o → 0 ≡ length o.head.parameters) (some_same type) (λ has1. subst (λ p. 0 ≡ length p.head.parameters) (some_same has1) refl) has;
  values = λ t o type has. subst (λ u. 1 ≡ length (field_locals a_program u.home u.fields)) (some_same type) refl;
}

pub returns-clause-makes : goal.returns-clause-makes
unfolding digits
returns-clause-makes c = refl

pub returns-clause-puts : goal.returns-clause-puts
unfolding digits
returns-clause-puts c = refl

pub returns-clause-puts_again : goal.returns-clause-puts_again
unfolding digits
returns-clause-puts_again c = refl

pub returns-clause-forks : goal.returns-clause-forks
unfolding digits
returns-clause-forks c = refl

pub returns-clause-takes : goal.returns-clause-takes
unfolding digits
returns-clause-takes c = refl

pub returns-clause-writes : goal.returns-clause-writes
unfolding digits
returns-clause-writes c = refl

pub returns-clause-ends : goal.returns-clause-ends
unfolding digits
returns-clause-ends c = refl

pub returns-clause-faults : goal.returns-clause-faults
unfolding digits
returns-clause-faults c = refl

pub returns-clause-a_turn_less : goal.returns-clause-a_turn_less
unfolding digits
returns-clause-a_turn_less c = refl

pub returns-clause-still_runs : goal.returns-clause-still_runs
unfolding digits
returns-clause-still_runs c = refl

pub returns-clause-producer : goal.returns-clause-producer
unfolding digits
returns-clause-producer c = refl

pub returns-clause-making : goal.returns-clause-making
unfolding digits
returns-clause-making c = refl

pub returns-clause-take : goal.returns-clause-take
unfolding digits
returns-clause-take c = refl

pub returns-clause-blocked : goal.returns-clause-blocked
unfolding digits
returns-clause-blocked c = refl

pub returns-clause-put : goal.returns-clause-put
unfolding digits
returns-clause-put c = refl
