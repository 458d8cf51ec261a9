use Rattle.std.proofs.Common.{ℕ, sym, ap, ◌∙◌}
use Rattle.world_tests.specs.Cells.{next}
use Rattle.world_tests.proofs.Playing.{place_push}
use Rattle.world_tests.proofs.cells.CellsProcessor.reply.Goals as goal

pub returns : goal.returns
returns c = λ text number args replies turns s. (s.0, c.next.ensures ∙ ap (λ (place : ℕ). next place c.args.reply) s.1 ∙ sym (place_push 0 replies c.args.reply), s.2)
