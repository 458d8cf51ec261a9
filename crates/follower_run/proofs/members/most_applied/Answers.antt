use Rattle.std.proofs.Common.{◌≡◌, ◌+◌, ◌∙◌, ℕ, suc, ap, arith, length, refl, sym}
use Rattle.world_rules.specs.Worlds.{longest}
use Rattle.follower_run.proofs.Asking.{longest_on, of_greater}
use Rattle.follower_run.proofs.members.most_applied.Goals as goal

pub members-init : goal.members-init
members-init g c = λ w led. refl

pub members-preserved : goal.members-preserved
members-preserved g c = λ w led.
    let m = c.members.member in
    let up : suc m ≡ m + 1 = omega arith in
    longest_on w m c.members.most c.applied_by.result c.greater-most.result (c.members.invariant w led) (sym (c.applied_by.ensures.logged w led)) (of_greater c.members.most c.applied_by.result c.greater-most.result c.greater-most.ensures)
    ∙ ap (λ (n : ℕ). length (longest n w)) up

pub returns : goal.returns
returns g c = λ w led.
    let all : c.members.member ≡ c.args.nodes = omega (arith, c.members.auto.member-end, c.members-test.false) in
    c.members.invariant w led ∙ ap (λ (n : ℕ). length (longest n w)) (all ∙ c.requires)
