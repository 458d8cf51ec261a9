use Rattle.std.proofs.Common.{List, ◌++◌, ◌∙◌, ap, map}
use Rattle.std.specs.Prelude.{string_bytes, ℕ}
use Rattle.generated_program.proofs.Loops.{worker_is}
use Rattle.generated_program.proofs.program.add_worker.Goals as goal

pub returns : goal.returns
returns c =
    c.in_ok-add_lines.ensures
    ∙ ap (λ (l : List (List ℕ)). map string_bytes c.args.lines.now.items ++ l)
    (worker_is c.args.rounds c.as_str.result.now (c.as_str.ensures.value ∙ c.in_ok-adding.ensures.ok))
