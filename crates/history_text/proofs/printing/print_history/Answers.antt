use Rattle.history_text.specs.Spelling.{history_text}
use Rattle.history_text.proofs.Ascii.{history_ascii}
use Rattle.history_text.proofs.Grown.{all_ascii}
use Rattle.history_text.proofs.printing.print_history.Goals as goal

pub text_of-requires : goal.text_of-requires
text_of-requires c =
    all_ascii c.put_lines.new.out.items c.new-out.result.items (history_text c.args.names.now c.args.lines.now) c.in_ok-put_lines.ensures.put c.new-out.ensures.items
    (history_ascii c.args.names.now c.requires.tables c.args.lines.now c.in_ok-put_lines.ensures.are)
