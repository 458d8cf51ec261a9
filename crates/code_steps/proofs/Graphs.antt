-- `addnode` and `deletenode`, as far as their arguments are taken.
use Rattle.std.proofs.Common.{◌≡◌, List, [], Option, Some, None, Vec, Global, true, false, map, subst}
use Rattle.std.specs.Prelude.{MatchOption}
use Rattle.value_core.specs.Datum.{Datum}
use Rattle.meaning_rules.specs.Calls.{Callee, invoked}
use Rattle.meaning_rules.specs.Calls.{Passed as RulePassed}
use Rattle.meaning_rules.specs.Expressions.{result}
use Rattle.frame_variables.specs.declared.steps.Passed.{Passed}
use Rattle.frame_variables.specs.Gives.{passed_of}
use Rattle.code_rules.specs.Instructions.{Shape}
use Rattle.code_rules.specs.Machine.{Config, Stuck, at_state, no_calls, nodes, on_out, pushes}
use Rattle.code_steps.specs.Moves.{holding}
use Rattle.code_steps.specs.Passing.{Takes}

module _ (home : Config) (callee : Callee) (fresh : Datum) (shapes : List Shape) (old st locals : List Datum) (args : List RulePassed) where
  pub changes : Takes shapes old true st args → nodes callee fresh shapes (holding home old locals) ≡
      on_out (invoked no_calls callee fresh args (at_state locals)) (λ x after. pushes (holding home old locals) st (result x) after)
  changes t = t (λ ps stack. on_out (invoked no_calls callee fresh ps (at_state locals)) (λ x after. pushes (holding home old locals) stack (result x) after))

  pub changes_not : Takes shapes old false st args → nodes callee fresh shapes (holding home old locals) ≡ Stuck
  changes_not t = t (λ ps stack. on_out (invoked no_calls callee fresh ps (at_state locals)) (λ x after. pushes (holding home old locals) stack (result x) after))

module _ (found : Option (Vec Passed Global)) (shapes : List Shape) (old new : List Datum)
    (h : MatchOption found (Takes shapes old false new []) (λ q. Takes shapes old true new (map passed_of q.items))) where
  pub no_args : found ≡ None → Takes shapes old false new []
  no_args is = subst (λ o. MatchOption o (Takes shapes old false new []) (λ q. Takes shapes old true new (map passed_of q.items))) is h

  pub has_args : (p : Vec Passed Global) → found ≡ Some p → Takes shapes old true new (map passed_of p.items)
  has_args p is = subst (λ o. MatchOption o (Takes shapes old false new []) (λ q. Takes shapes old true new (map passed_of q.items))) is h
