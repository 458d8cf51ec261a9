use Rattle.std.proofs.Common.{ℕ, List, Option, ap, ◌∙◌}
use Rattle.std.specs.Prelude.{slice_get}
use Rattle.meaning_rules.specs.Programs.{process_texts}
use Rattle.program_bodies.specs.declared.blocks.BlockCode.{BlockCode}
use Rattle.program_bodies.specs.Blocks.{IsBlockCode, process_of}
use Rattle.program_bodies.specs.Matching.{or_none}
use Rattle.program_bodies.proofs.Matched.{got}
use Rattle.program_bodies.proofs.code.Code.process.Goals as goal

pub returns : goal.returns
returns c = λ us is.
    got IsBlockCode (process_of us) c.args.self.now.processes.items (process_texts us) c.args.text.0 c.at_number.result is.processes
    (c.at_number.ensures
    ∙ ap (λ (l : List (Option BlockCode)). or_none (slice_get l c.from.result)) c.deref.ensures.value
    ∙ ap (λ (k : ℕ). or_none (slice_get c.args.self.now.processes.items k)) c.from.ensures)
