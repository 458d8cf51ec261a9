use Rattle.std.proofs.Common.{List, Option, ap, ◌∙◌}
use Rattle.std.specs.Prelude.{slice_get}
use Rattle.meaning_rules.specs.Programs.{process_texts}
use Rattle.program_bodies.specs.declared.blocks.BlockCode.{BlockCode}
use Rattle.program_bodies.specs.Blocks.{IsBlockCode, process_of}
use Rattle.program_bodies.specs.Matching.{or_none}
use Rattle.program_bodies.proofs.Matched.{got}
use Rattle.program_bodies.proofs.code.Code.process_at.Goals as goal

pub returns : goal.returns
returns c = λ us is.
    got IsBlockCode (process_of us) c.args.self.now.processes.items (process_texts us) c.args.place c.at_number.result is.processes
    (c.at_number.ensures ∙ ap (λ (l : List (Option BlockCode)). or_none (slice_get l c.args.place)) c.deref.ensures.value)
