use Rattle.std.proofs.Common.{arith, rules, ◌+◌, ℕ, refl, ap, ◌∙◌}
use Rattle.std.proofs.lemmas.Result.{IfOk-weaker}
use Rattle.emitted_code.specs.Views.{program_seen}
use Rattle.code_rules.specs.Machine.{Tests}
use Rattle.code_rules.specs.Performing.{attempted}
use Rattle.code_steps.specs.Bodies.{config_of, effect_in}
use Rattle.code_runs.specs.Attempts.{attempt_seen}
use Rattle.code_runs.specs.Runs.{ends_with}
use Rattle.code_runs.proofs.Coming.{came_as}
use Rattle.code_runs.proofs.Halting.{begun_try, ended, halts_with, no_test, tested}
use Rattle.code_runs.proofs.attempts.Attempt.run.Goals as goal

pub guards-init : goal.guards-init
guards-init c = record {
  low = omega arith;
  on = λ room. begun_try (program_seen c.args.code.now) (attempt_seen c.args.self) c.args.first c.from-guard.result 10001 (config_of c.in_ok-config.config) (search rules) refl (c.in_ok-config.ensures {u = tt});
}

pub guards-preserved : goal.guards-preserved
guards-preserved c = record {
  low = let next = c.next_guard-guard.ensures.most in let was = c.guards.invariant.low in omega arith;
  on = λ room.
      let code = program_seen c.args.code.now in
      let here = config_of c.guards.config in
      let e = Tests c.in-Tests.truth c.in-Tests.address in
      let halted = halts_with code here (c.from.result + 1) 10001 c.run.new.left e (ap (λ (n : ℕ). n + 1) c.from.ensures) (rw c.in-Tests.is at (c.in_ok-effect.ensures room)) in
      tested code (attempt_seen c.args.self) c.args.first c.guards.guard c.next_guard-guard.result here (config_of c.in_ok-config-in-Tests.config) c.in-Tests.truth c.in-Tests.address 10001 c.run.new.left
      (c.guards.invariant.on room) halted c.next_guard-guard.ensures.next (c.in_ok-config-in-Tests.ensures {u = tt});
}

pub returns-in_default : goal.returns-in_default
returns-in_default c = λ room guards.
    let code = program_seen c.args.code.now in
    let a = attempt_seen c.args.self in
    let here = config_of c.guards.config in
    let d = config_of c.run.new.config in
    let e = effect_in c.in_ok-effect.effect d in
    let halted = halts_with code here (c.from.result + 1) 10001 c.run.new.left e (ap (λ (n : ℕ). n + 1) c.from.ensures) (c.in_ok-effect.ensures room) in
    let j = ended code a c.args.first c.guards.guard here e 10001 c.run.new.left (c.guards.invariant.on room) halted (no_test c.in_ok-effect.effect d c.in_default.not-Tests) in
    IfOk-weaker c.tried.result _ _
    (λ t came. (j.0, came_as (attempted code a c.args.first j.0) (ends_with a c.guards.guard e) t j.1 came))
    (c.tried.ensures (λ x h. guards j.0 x (j.1 ∙ h)))
