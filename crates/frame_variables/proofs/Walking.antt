-- What is left of a path, from where its front has led.
use Rattle.std.proofs.Common.{◌≡◌, ◌+◌, ◌<◌, ℕ, List, drop, get_or, length, Ok, ap, sym, ◌∙◌, subst}
use Rattle.std.specs.Prelude.{IfOk}
use Rattle.std.proofs.lemmas.List.{drop_more}
use Rattle.value_core.specs.Datum.{Datum}
use Rattle.value_paths.specs.Paths.{and_then, part_at, part_to}
use Rattle.frame_variables.specs.Firm.{IsFirm, IsFirmStep}
use Rattle.frame_variables.specs.Gives.{path_of, step_of}
use Rattle.frame_variables.specs.Ordered.{IsOrdered}
use Rattle.frame_variables.specs.declared.steps.Step.{Step}
use Rattle.frame_variables.proofs.Keeping.{step_ordered}

pub leads_on : (path : List Step) (i : ℕ) (d : Step) (v p w : Datum) → i < length path → part_to (step_of (get_or path i d)) v ≡ Ok p → part_at (path_of (drop i path)) v ≡ part_at (path_of path) w →
    part_at (path_of (drop (i + 1) path)) p ≡ part_at (path_of path) w
leads_on path i d v p w low leads h =
    sym (ap (λ q. and_then q (part_at (path_of (drop (i + 1) path)))) leads) ∙ sym (ap (λ zs. part_at (path_of zs) v) (drop_more path i d low)) ∙ h

pub firm_on : (path : List Step) (i : ℕ) (d : Step) (v p : Datum) → i < length path → IsFirmStep (step_of (get_or path i d)) v → part_to (step_of (get_or path i d)) v ≡ Ok p → IsFirm (path_of (drop (i + 1) path)) p →
    IsFirm (path_of (drop i path)) v
firm_on path i d v p low firm leads rest =
    subst (λ zs. IsFirm (path_of zs) v) (sym (drop_more path i d low)) (firm, subst (λ q. IfOk q (IsFirm (path_of (drop (i + 1) path)))) (sym leads) rest)

pub ordered_on : (path : List Step) (i : ℕ) (d : Step) (v p : Datum) → part_to (step_of (get_or path i d)) v ≡ Ok p → IsOrdered v → IsOrdered p
ordered_on path i d v p leads h = step_ordered (step_of (get_or path i d)) v p h leads
