use Rattle.history_text.specs.Spelling.{line_text}
use Rattle.history_text.proofs.Ascii.{line_ascii}
use Rattle.history_text.proofs.Grown.{all_ascii}
use Rattle.history_text.proofs.printing.print_line.Goals as goal

pub text_of-requires : goal.text_of-requires
text_of-requires c =
    all_ascii c.put_line.new.out.items c.new-out.result.items (line_text c.args.names.now c.args.line.now) c.in_ok-put_line.ensures.put c.new-out.ensures.items
    (line_ascii c.args.names.now c.requires.tables c.args.line.now c.in_ok-put_line.ensures.is)
