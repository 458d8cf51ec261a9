use Rattle.std.proofs.Common.{◌≡◌, drop}
use Rattle.std.specs.List.{flat_map}
use Rattle.std.specs.Prelude.{string_bytes}
use Rattle.command_output.proofs.Putting.{GrewUpTo}
use Rattle.generated_program.specs.Program.{ended}
use Rattle.make_command.proofs.printing.print_lines.Given as goal

abbrev pub invariant-lines : goal.invariant-lines
invariant-lines g l = record {
  told : GrewUpTo (g.K.Sink.told l.initial.out) (g.K.Sink.told l.out) (flat_map (λ s. ended (string_bytes s)) l.lines)
      (flat_map (λ s. ended (string_bytes s)) (drop l.line-index l.lines));
  quiet : g.K.Sink.faults l.out ≡ g.K.Sink.faults l.initial.out;
}
