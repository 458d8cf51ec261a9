use Rattle.std.proofs.Common.{sym, arith}
use Rattle.std.proofs.lemmas.List.{take_rest}
use Rattle.orca_lexer.proofs.Extents.{literal_begins, unclosed_begins}
use Rattle.orca_lexer.proofs.literals.literal_len.Goals as goal

pub returns-in_err-content : goal.returns-in_err-content
returns-in_err-content c =
    let none = rw (take_rest c.args.text.now 1) at c.in_err-content.ensures in
    rw c.from_residual.ensures (unclosed_begins c.args.quote c.args.text.now c.requires.quote c.requires.start (sym none))

pub overflow_add-result : goal.overflow_add-result
overflow_add-result c =
    let found = rw (take_rest c.args.text.now 1) at c.in_ok-content.ensures in
    let begins = literal_begins c.args.quote c.args.text.now c.in_ok-content.content c.requires.quote c.requires.start (sym found) in
    omega (arith, begins.within)

pub returns : goal.returns
returns c =
    let found = rw (take_rest c.args.text.now 1) at c.in_ok-content.ensures in
    literal_begins c.args.quote c.args.text.now c.in_ok-content.content c.requires.quote c.requires.start (sym found)
