use Rattle.std.proofs.Common.{ℕ, sym, ap, ◌∙◌}
use Rattle.bag_processes.specs.Scripts.{next}
use Rattle.bag_processes.proofs.Playing.{place_push}
use Rattle.bag_processes.proofs.scripts.ScriptsProcessor.reply.Goals as goal

pub returns : goal.returns
returns c = λ text number args replies turns s. (s.0, s.1, c.next.ensures ∙ ap (λ (place : ℕ). next place c.args.reply) s.2 ∙ sym (place_push 0 replies c.args.reply), s.3)
