use Rattle.std.proofs.Common.{List, Option, ap, ◌∙◌}
use Rattle.std.specs.Prelude.{slice_get}
use Rattle.type_rules.specs.TopLevel.{top_names}
use Rattle.program_bodies.specs.declared.blocks.BlockCode.{BlockCode}
use Rattle.program_bodies.specs.Blocks.{IsBlockCode, function_of}
use Rattle.program_bodies.specs.Matching.{or_none}
use Rattle.program_bodies.proofs.Matched.{got}
use Rattle.program_bodies.proofs.code.Code.function.Goals as goal

pub returns : goal.returns
returns c = λ us is.
    got IsBlockCode (function_of us) c.args.self.now.functions.items (top_names us) c.args.number c.at_number.result is.functions
    (c.at_number.ensures ∙ ap (λ (l : List (Option BlockCode)). or_none (slice_get l c.args.number)) c.deref.ensures.value)
