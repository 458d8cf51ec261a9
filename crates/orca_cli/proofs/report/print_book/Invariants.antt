use Rattle.std.proofs.Common.{◌≡◌, drop}
use Rattle.value_core.specs.History.{output_of}
use Rattle.command_output.proofs.Putting.{GrewUpTo}
use Rattle.orca_cli.proofs.report.print_book.Given as goal

abbrev pub invariant-lines : goal.invariant-lines
invariant-lines g l = record {
  told : GrewUpTo (g.K.Sink.told l.initial.out) (g.K.Sink.told l.out) (output_of l.book) (output_of (drop l.line-index l.book));
  quiet : g.K.Sink.faults l.out ≡ g.K.Sink.faults l.initial.out;
}
