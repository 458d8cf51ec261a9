-- What code finds by a name, as the meaning has it.
use Rattle.std.specs.Prelude.{map, slice_get, ok_or, Result, Ok}
use Rattle.orca_base.specs.declared.fault.FaultKind.{FaultKind}
use Rattle.orca_base.specs.declared.fault.FaultKind.TheVariants.{IndexOutside}
use Rattle.orca_syntax.specs.Shown.{parameter}
use Rattle.value_core.specs.Datum.{Datum}
use Rattle.value_core.specs.View.{datum_of}
use Rattle.meaning_rules.specs.States.{State}
use Rattle.meaning_rules.specs.Calls as rules
use Rattle.program_bodies.specs.declared.names.Named.{Named}
use Rattle.program_bodies.specs.declared.names.Named.TheVariants as named
use Rattle.program_bodies.specs.declared.callees.Callee.{Callee}
use Rattle.program_bodies.specs.declared.callees.Callee.TheVariants as called

-- the value of a name of the body, by its place in the frame, or of one of the top level
abbrev pub value_at : Named → State → Result Datum FaultKind
value_at (named.Own place) s = ok_or (slice_get s.frame place) IndexOutside
value_at (named.Outer value) s = Ok (datum_of value)

abbrev pub callee_seen : Callee → rules.Callee
callee_seen (called.AFunction number ps) = rules.AFunction number (map (λ p. p.mode) (map parameter ps.now))
callee_seen called.Adds = rules.Adds
callee_seen called.Deletes = rules.Deletes
callee_seen called.NoFunction = rules.NoFunction
