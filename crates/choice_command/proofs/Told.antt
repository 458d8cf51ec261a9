-- What a policy was asked, where memory lacked before it was asked at all, or behind that.
use Rattle.std.proofs.Common.{◌≡◌, ℕ, List, ◌++◌, length, sym, ap, ◌∙◌, arith}
use Rattle.std.specs.Prelude.{IfOk, Result, Ok, Err}
use Rattle.std.proofs.lemmas.List.{append-nil, take_all}
use Rattle.site_estimates.specs.declared.estimate.Estimate.{Estimate}
use Rattle.replica_choice.specs.declared.policy.Asked.{Asked}
use Rattle.replica_choice.specs.Asking.{AsksFirst, Rule, choices_by, questions}

-- about none
pub asked_none : (rule : Rule) (nodes : ℕ) (es : List Estimate) (told : List Asked) → AsksFirst rule nodes es told told
asked_none rule nodes es told = (0, sym (append-nil told))

-- about all
pub asked_all : (rule : Rule) (nodes : ℕ) (es : List Estimate) (old new : List Asked) → new ≡ old ++ questions nodes es (choices_by rule nodes old es) →
    AsksFirst rule nodes es old new
asked_all rule nodes es old new is = (
  length es,
  is ∙ ap (λ (l : List Estimate). old ++ questions nodes l (choices_by rule nodes old l)) (sym (take_all (length es) es (omega arith))),
)

-- what holds in any case holds of a value
pub if_ok_any : {T E P : Type 0} (r : Result T E) → P → IfOk r (λ x. P)
if_ok_any (Ok x) p = p
if_ok_any (Err e) p = tt
