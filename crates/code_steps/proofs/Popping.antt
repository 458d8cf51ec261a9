-- What is taken from the operands.
use Rattle.std.proofs.Common.{◌≡◌, Option, Some, None, Vec, Global, ℕ, zero, suc, ◌-◌, List, [], ◌∷◌, Bool, true, false, refl, ap, sym, ◌∙◌, arith, subst}
use Rattle.std.specs.Prelude.{◌≢◌, MatchOption}
use Rattle.value_core.specs.Datum.{Datum, list_of}
use Rattle.value_core.specs.declared.value.Parts.{Parts}
use Rattle.frame_variables.specs.declared.steps.Step.{Step}
use Rattle.frame_variables.specs.Gives.{path_of}
use Rattle.value_paths.specs.declared.step.Step.{Step as ValueStep}
use Rattle.code_rules.specs.Instructions.{Mark}
use Rattle.code_rules.specs.Machine.{indices, pops, steps_by}
use Rattle.code_steps.specs.Pops.{Pops, PopsPath}

pub pops_more : (count : ℕ) (x : Datum) (old rest front new values : List Datum) (done : Bool) → count ≢ 0 → old ≡ x ∷ rest →
    Pops (count - 1) rest (x ∷ front) done new values → Pops count old front done new values
pops_more zero x old rest front new values done some is h = absurd (some refl)
pops_more (suc n) x old rest front new values done some is h = λ go.
    let less : n ≡ suc n - 1 = omega arith in
    ap (λ o. pops (suc n) o front go) is ∙ ap (λ k. pops k rest (x ∷ front) go) less ∙ h go

-- where so many were there, the path's steps are by them
pub path_taken : (marks : List Mark) (count : ℕ) (old new values : List Datum) (path : List ValueStep) → count ≡ indices marks →
    Pops count old [] true new values → path ≡ steps_by marks values → PopsPath marks old true new path
path_taken marks count old new values path long h is = λ go.
    ap (λ k. pops k old [] (λ xs rest. go (steps_by marks xs) rest)) (sym long) ∙ h (λ xs rest. go (steps_by marks xs) rest) ∙ ap (λ p. go p new) (sym is)

pub path_lacks : (marks : List Mark) (count : ℕ) (old new : List Datum) (path : List ValueStep) → count ≡ indices marks →
    Pops count old [] false new [] → PopsPath marks old false new path
path_lacks marks count old new path long h = λ go.
    ap (λ k. pops k old [] (λ xs rest. go (steps_by marks xs) rest)) (sym long) ∙ h (λ xs rest. go (steps_by marks xs) rest)

-- what is found after `?`
module _ (found : Option (Vec Step Global)) (marks : List Mark) (old new : List Datum)
    (h : MatchOption found (PopsPath marks old false new []) (λ q. PopsPath marks old true new (path_of q.items))) where
  pub no_path : found ≡ None → PopsPath marks old false new []
  no_path is = subst (λ o. MatchOption o (PopsPath marks old false new []) (λ q. PopsPath marks old true new (path_of q.items))) is h

  pub has_path : (p : Vec Step Global) → found ≡ Some p → PopsPath marks old true new (path_of p.items)
  has_path p is = subst (λ o. MatchOption o (PopsPath marks old false new []) (λ q. PopsPath marks old true new (path_of q.items))) is h

module _ (found : Option Parts) (count : ℕ) (old new : List Datum)
    (h : MatchOption found (Pops count old [] false new []) (λ q. Pops count old [] true new (list_of q))) where
  pub no_values : found ≡ None → Pops count old [] false new []
  no_values is = subst (λ o. MatchOption o (Pops count old [] false new []) (λ q. Pops count old [] true new (list_of q))) is h

  pub has_values : (p : Parts) → found ≡ Some p → Pops count old [] true new (list_of p)
  has_values p is = subst (λ o. MatchOption o (Pops count old [] false new []) (λ q. Pops count old [] true new (list_of q))) is h
