use Rattle.std.proofs.lemmas.List.{take_rest}
use Rattle.orca_lexer.proofs.Bytes.{no_front, bad_behind}
use Rattle.orca_lexer.proofs.encoding.bad_byte.Goals as goal

pub begun_len-requires-clause-none : goal.begun_len-requires-clause-none
begun_len-requires-clause-none c = rw (take_rest c.args.text.now c.valid_up_to-valid.result, c.valid_up_to-valid.ensures) (no_front c.args.text.now _ c.in-Err.ensures.cases.1)

pub returns-in-Err : goal.returns-in-Err
returns-in-Err c =
    let first = rw (take_rest c.args.text.now c.valid_up_to-valid.result) at c.begun_len.ensures in
    let valid = rw (← c.valid_up_to-valid.ensures) at c.in-Err.ensures.cases.1 in
    record { none = c.in-Err.ensures.cases.0; first = bad_behind c.args.text.now c.valid_up_to-valid.result _ valid first }
