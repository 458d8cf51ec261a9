use Rattle.std.proofs.Common.{◌≡◌, drop}
use Rattle.command_output.proofs.Putting.{GrewUpTo}
use Rattle.world_places.specs.Text.{places_text}
use Rattle.orca_cli.proofs.places.print_all.Given as goal

abbrev pub invariant-lines : goal.invariant-lines
invariant-lines g l = record {
  told : GrewUpTo (g.K.Sink.told l.initial.out) (g.K.Sink.told l.out) (places_text l.book l.notes) (places_text (drop l.at l.book) (drop l.at l.notes));
  quiet : g.K.Sink.faults l.out ≡ g.K.Sink.faults l.initial.out;
}
