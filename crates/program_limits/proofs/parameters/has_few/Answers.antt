use Rattle.std.proofs.Common.{ap, sym, ◌∙◌}
use Rattle.type_forms.specs.declared.tops.What.{What}
use Rattle.type_forms.specs.Seen.{what}
use Rattle.accepted_law.specs.Limits.{has_few_parameters}
use Rattle.program_limits.proofs.Few.{few_heads, few_operations}
use Rattle.program_limits.proofs.parameters.has_few.Goals as goal

pub returns-in-Specified : goal.returns-in-Specified
returns-in-Specified c = c.heads_have_few.ensures ∙ few_heads c.in-Specified.heads.now ∙ sym (ap (λ (w : What). has_few_parameters (what w)) c.in-Specified.is)

pub returns-in-Implemented : goal.returns-in-Implemented
returns-in-Implemented c =
    c.operations_have_few.ensures ∙ few_operations c.in-Implemented.operations.now
    ∙ sym (ap (λ (w : What). has_few_parameters (what w)) c.in-Implemented.is)
