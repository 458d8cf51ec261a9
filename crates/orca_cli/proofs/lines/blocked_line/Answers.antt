use Rattle.std.proofs.Common.{◌∙◌, ◌++◌, ◌∷◌, [], List, ℕ, ap}
use Rattle.std.specs.Fmt.{decimal}
use Rattle.std.specs.Prelude.{codes}
use Rattle.orca_cli.proofs.LineLemmas.{joined}
use Rattle.orca_cli.proofs.lines.blocked_line.Goals as goal

pub returns : goal.returns
returns c =
    rw (c.in_ok-push.ensures.items, c.in_ok-extend_from_slice.ensures.items, c.into_bytes-line.ensures.value)
    (ap (λ (l : List ℕ). (l ++ c.args.name.now) ++ 10 ∷ []) c.in_ok-format.ensures.ok
    ∙ ap (λ (l : List ℕ). codes "orca: blocked: process " ++ l) (joined (decimal c.args.process) (codes " waits for ") c.args.name.now (10 ∷ [])))
