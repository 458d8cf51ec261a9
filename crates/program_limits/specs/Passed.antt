-- The limit that a program passes: that of parameters first, since it is judged first.
use Rattle.std.specs.Prelude.{◌≡◌, ◌<◌, ◌*◌, true, false, List}
use Rattle.std.specs.List.{list_all, sum_by}
use Rattle.orca_base.specs.declared.limits.TheConstants.{CODE_LENGTH}
use Rattle.link_rules.specs.Units.{Source}
use Rattle.type_rules.specs.TopLevel.{top_names}
use Rattle.accepted_law.specs.Limits.{has_few_parameters, words_in}
use Rattle.program_limits.specs.declared.limits.PassedLimit.{PassedLimit}
use Rattle.program_limits.specs.declared.limits.PassedLimit.TheVariants as limit

abbrev pub Passes : List Source → PassedLimit → Type 0
Passes us limit.Parameters = list_all (λ t. has_few_parameters t.what) (top_names us) ≡ false
Passes us limit.CodeLength =
    (list_all (λ t. has_few_parameters t.what) (top_names us) ≡ true) × (CODE_LENGTH < 20 * sum_by words_in us)
