-- Cited by private functions alone. What the code keeps of uses by reference, as the definitions see it.
use Rattle.std.specs.Prelude.{List, map}
use Rattle.access_estimates.specs.declared.uses.UseKind.{UseKind}
use Rattle.access_estimates.specs.declared.uses.UseKind.TheVariants as seen
use Rattle.access_estimates.specs.declared.uses.Use.{Use}
use Rattle.estimate_rules.specs.Uses as rules

abbrev pub kind_seen : UseKind → rules.UseKind
kind_seen (seen.Calls operation) = rules.Calls operation.now
kind_seen (seen.Passes to position) = rules.Passes to.now position

abbrev pub use_seen : Use → rules.Use
use_seen u = record { object = u.object.now; times = u.times; kind = kind_seen u.kind }

abbrev pub all_seen : List Use → List rules.Use
all_seen us = map use_seen us
