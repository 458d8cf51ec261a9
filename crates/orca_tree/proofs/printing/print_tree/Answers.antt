use Rattle.std.proofs.Common.{◌≡◌, ◌∙◌, sym, subst}
use Rattle.std.specs.Str.{IsUtf8}
use Rattle.orca_tree.specs.Printing.{printed}
use Rattle.orca_tree.proofs.PrintedSound.{printed_text}
use Rattle.orca_tree.proofs.printing.print_tree.Goals as goal

pub returns-clause-sound : goal.returns-clause-sound
returns-clause-sound c sound =
    let same : c.deref.result.now ≡ printed c.args.unit.now = c.deref.ensures.value ∙ c.in_ok-bytes.ensures {u = tt} in
    (c.in_ok-from_utf8_lossy.ensures {u = tt}).ok (subst IsUtf8 (sym same) (printed_text c.args.unit.now sound)) ∙ same
