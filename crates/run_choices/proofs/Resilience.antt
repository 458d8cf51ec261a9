-- By cases of whether a member may be lost: what a policy was asked for a run.
use Rattle.std.proofs.Common.{◌≡◌, ◌∙◌, ◌==◌, ◌⊎◌, inl, inr, ℕ, zero, suc, Bool, List, ap, refl, arith}
use Rattle.std.specs.Prelude.{if◌then◌else◌}
use Rattle.std.proofs.Math.Dec.{eqb-suc-zero}
use Rattle.command_line.specs.declared.request.RunOptions.{RunOptions}
use Rattle.link_rules.specs.Units.{Source}
use Rattle.estimate_rules.specs.Estimates.{estimates}
use Rattle.replica_choice.specs.declared.policy.Asked.{Asked}
use Rattle.replica_choice.specs.Asking.{AsksFirst, Rule}
use Rattle.choice_command.proofs.Told.{asked_all}
use Rattle.run_choices.specs.Chosen.{told_by_run}

-- what is chosen by a number that is 0, or isn't
pub then_none : {A : Type 0} (n : ℕ) (a b : A) → n ≡ 0 → (if n == 0 then a else b) ≡ a
then_none zero a b e = refl
then_none (suc n) a b e = absurd (omega (arith, e))

else_some : {A : Type 0} (n k : ℕ) (a b : A) → n ≡ suc k → (if n == 0 then a else b) ≡ b
else_some {A} n k a b e = ap (λ (m : ℕ). if m == 0 then a else b) e ∙ ap (λ (t : Bool). if t then a else b) (eqb-suc-zero k)

-- who asked for a run asked nothing; or asked about each site, where no member may be lost
module _ (rule : Rule) (options : RunOptions) (us : List Source) (old new : List Asked) where
  abbrev WereAsked : Type 0
  WereAsked = (options.group.resilience ≡ 0) × AsksFirst rule options.group.nodes (estimates us) old new

  pub asked_some : new ≡ told_by_run rule old options us → (new ≡ old) ⊎ WereAsked
  asked_some = by options.group.resilience refl
    where
      by : (n : ℕ) → options.group.resilience ≡ n → new ≡ told_by_run rule old options us → (new ≡ old) ⊎ WereAsked
      by zero none is = inr (none, asked_all rule options.group.nodes (estimates us) old new (is ∙ then_none options.group.resilience _ _ none))
      by (suc k) some is = inl (is ∙ else_some options.group.resilience k _ _ some)
