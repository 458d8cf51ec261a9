use Rattle.std.proofs.Common.{◌≡◌, List, map, take}
use Rattle.std.specs.Prelude.{option_map}
use Rattle.link_rules.specs.Units.{Source}
use Rattle.meaning_rules.specs.Programs.{specifications}
use Rattle.code_rules.specs.Program.{type_at}
use Rattle.program_bodies.specs.Codes.{IsCode}
use Rattle.emitted_code.specs.Views.{type_seen}
use Rattle.code_units.proofs.program.compile_types.Given as goal

abbrev pub invariant-specified : goal.invariant-specified
invariant-specified l = (us : List Source) → IsCode us l.code → map (option_map type_seen) l.all.items ≡ map (type_at us) (take l.place (specifications us))
