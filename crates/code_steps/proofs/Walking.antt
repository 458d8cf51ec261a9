-- The steps of a path, put behind others.
use Rattle.std.proofs.Common.{◌≡◌, List, [], ◌++◌, ap, ◌∙◌}
use Rattle.value_core.specs.Datum.{Datum}
use Rattle.value_paths.specs.declared.step.Step.{Step as ValueStep}
use Rattle.code_rules.specs.Instructions.{Mark}
use Rattle.code_rules.specs.Machine.{steps_by}
use Rattle.frame_variables.specs.declared.steps.Step.{Step}
use Rattle.frame_variables.specs.Gives.{path_of}

pub path_made : (none : List Step) (made : List ValueStep) (marks : List Mark) (xs values : List Datum) → none ≡ [] → made ≡ path_of none ++ steps_by marks xs →
    xs ≡ values → made ≡ steps_by marks values
path_made none made marks xs values empty is same = is ∙ ap (λ p. path_of p ++ steps_by marks xs) empty ∙ ap (λ w. steps_by marks w) same
