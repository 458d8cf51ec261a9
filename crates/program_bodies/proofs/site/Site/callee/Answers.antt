use Rattle.std.proofs.Common.{ap, ◌∙◌}
use Rattle.meaning_rules.specs.Calls.{function_named}
use Rattle.program_bodies.proofs.site.Site.callee.Goals as goal

pub returns : goal.returns
returns c = λ w s. c.function_named.ensures ∙ ap function_named (c.outer.ensures.stands w s)
