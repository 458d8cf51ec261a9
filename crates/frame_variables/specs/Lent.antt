-- What a call is given, and where it hands its parameters' values back.
use Rattle.std.specs.Prelude.{Option, Some, None}
use Rattle.meaning_rules.specs.Calls.{Passed, Given, Lent}
use Rattle.meaning_rules.specs.Variables.{Target}
use Rattle.value_core.specs.Datum.{Datum}

-- the value that an argument gives
abbrev pub given_by : Passed → Option Datum
given_by (Given x) = Some x
given_by (Lent to) = None

-- the place that an argument lends
abbrev pub place_of : Passed → Option Target
place_of (Given x) = None
place_of (Lent to) = Some to
