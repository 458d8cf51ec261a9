use Rattle.std.proofs.Common.{◌≡◌, drop, take}
use Rattle.history_text.specs.Sound.{AreLines}
use Rattle.history_text.specs.Spelling.{history_text}
use Rattle.command_output.proofs.Putting.{GrewUpTo}
use Rattle.history_commands.proofs.printing.print_lines.Given as goal

abbrev pub invariant-lines : goal.invariant-lines
invariant-lines g l = record {
  told : GrewUpTo (g.K.Sink.told l.initial.out) (g.K.Sink.told l.out) (history_text l.names l.lines) (history_text l.names (drop l.line-index l.lines));
  are : AreLines l.names (take l.line-index l.lines);
  quiet : g.K.Sink.faults l.out ≡ g.K.Sink.faults l.initial.out;
}
