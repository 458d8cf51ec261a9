use Rattle.std.proofs.Common.{◌≡◌, List, map, take}
use Rattle.link_rules.specs.Units.{Source}
use Rattle.type_forms.specs.Seen.{top}
use Rattle.code_rules.specs.Program.{process_at}
use Rattle.program_bodies.specs.Codes.{IsCode}
use Rattle.emitted_code.specs.Views.{body_seen}
use Rattle.code_units.proofs.program.compile_processes.Given as goal

abbrev pub invariant-processes : goal.invariant-processes
invariant-processes l = (us : List Source) → IsCode us l.code →
    map body_seen l.all.items ≡ map (λ x. process_at us (top x)) (take l.place l.processes)
