use Rattle.std.proofs.Common.{◌≡◌, List, map, take}
use Rattle.std.specs.Prelude.{option_map}
use Rattle.link_rules.specs.Units.{Source}
use Rattle.type_rules.specs.TopLevel.{top_names}
use Rattle.code_rules.specs.Program.{function_at}
use Rattle.program_bodies.specs.Codes.{IsCode}
use Rattle.emitted_code.specs.Views.{body_seen}
use Rattle.code_units.proofs.program.compile_functions.Given as goal

abbrev pub invariant-tops : goal.invariant-tops
invariant-tops l = (us : List Source) → IsCode us l.code → map (option_map body_seen) l.all.items ≡ map (function_at us) (take l.number (top_names us))
