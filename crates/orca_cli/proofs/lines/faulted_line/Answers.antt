use Rattle.std.proofs.Common.{◌∙◌, ◌++◌, ◌∷◌, [], List, ℕ, ap}
use Rattle.std.specs.Fmt.{decimal}
use Rattle.std.specs.Prelude.{codes}
use Rattle.history_text.specs.Spelling.{fault_name}
use Rattle.orca_cli.proofs.LineLemmas.{joined}
use Rattle.orca_cli.proofs.lines.faulted_line.Goals as goal

pub returns : goal.returns
returns c =
    rw (c.in_ok-push.ensures.items, c.in_ok-extend_from_slice.ensures.items, c.into_bytes-line.ensures.value, c.fault_name.ensures)
    (ap (λ (l : List ℕ). (l ++ fault_name c.args.fault) ++ 10 ∷ []) c.in_ok-format.ensures.ok
    ∙ ap (λ (l : List ℕ). codes "orca: process " ++ l) (joined (decimal c.args.process) (codes " faulted: ") (fault_name c.args.fault) (10 ∷ [])))
