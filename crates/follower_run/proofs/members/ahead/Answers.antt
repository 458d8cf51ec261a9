use Rattle.std.proofs.Common.{◌≡◌, ◌<◌, ◌+◌, ◌∙◌, ℕ, suc, IfSome, Option, ap, arith, refl, subst, sym}
use Rattle.join_law.specs.Rounds.{ahead}
use Rattle.follower_run.proofs.Asking.{ahead_on, ahead_still}
use Rattle.follower_run.proofs.members.ahead.Goals as goal
use Rattle.follower_run.proofs.members.ahead.Goals.{then-can_answer, else-can_answer}

pub members-init : goal.members-init
members-init g c = (λ w led. refl, tt)

pub members-preserved : goal.members-preserved
members-preserved g c =
    let f = g.P.OneRun.run.frame in
    let m = c.members.member in
    let up : suc m ≡ m + 1 = omega arith in
    elim c.if-can_answer.branch [
      | then-can_answer b ↦ (
        λ w led. b.found-is ∙ ahead_on f w m c.members.found b.further.result (c.members.invariant.0 w led) (b.further.ensures.further w led) (sym (c.can_answer.ensures w led) ∙ b.if-can_answer.true) ∙ ap (λ (n : ℕ). ahead f w n) up,
        subst (λ (o : Option ℕ). IfSome o (λ n. n < f.settings.nodes)) (sym b.found-is) b.further.ensures.member,
      )
      | else-can_answer b ↦ (
        λ w led. b.found-is ∙ ahead_still f w m c.members.found (c.members.invariant.0 w led) (sym (c.can_answer.ensures w led) ∙ b.if-can_answer.false) ∙ ap (λ (n : ℕ). ahead f w n) up,
        subst (λ (o : Option ℕ). IfSome o (λ n. n < f.settings.nodes)) (sym b.found-is) c.members.invariant.1,
      )
    ]

pub returns-clause-ahead : goal.returns-clause-ahead
returns-clause-ahead g c = λ w led.
    let all : c.members.member ≡ c.args.nodes = omega (arith, c.members.auto.member-end, c.members-test.false) in
    c.members.invariant.0 w led ∙ ap (λ (n : ℕ). ahead g.P.OneRun.run.frame w n) all
