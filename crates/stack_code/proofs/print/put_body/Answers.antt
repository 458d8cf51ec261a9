use Rattle.std.proofs.Common.{ap, arith, length, length-append}
use Rattle.std.specs.Prelude.{string_bytes}
use Rattle.std.proofs.lemmas.List.{length-map}
use Rattle.stack_code.specs.Packed.{code_in}
use Rattle.stack_code.specs.Views.{instr_in}
use Rattle.stack_code.specs.Printed.{notes_of}
use Rattle.stack_code.specs.Text.{lines_from}
use Rattle.stack_code.proofs.Printing.{lines_long}
use Rattle.stack_code.proofs.print.put_body.Goals as goal

pub returns-clause-counted : goal.returns-clause-counted
returns-clause-counted c =
    let is = code_in c.args.body.now in
    let first = c.args.p.now.first in
    let before = c.args.p.now.texts in
    let same = ap length c.in_ok-texts.ensures.lines in
    let long = length-append (string_bytes c.args.p.now.out) (lines_from (notes_of c.args.notes.now) first 0 before is) in
    let many = length-map c.args.body.now.words.items (instr_in c.args.body.now.longs.items) in
    record {
      lines = omega (arith, same, long, many, lines_long (notes_of c.args.notes.now) first 0 before is, c.len.ensures, c.requires.lines);
      texts = omega (arith, c.in_ok-texts.ensures.few, c.requires.texts, c.len.ensures);
    }
