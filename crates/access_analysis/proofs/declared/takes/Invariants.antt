use Rattle.std.proofs.Common.{◌≡◌, drop, map}
use Rattle.orca_syntax.specs.Shown.{typed_name}
use Rattle.access_analysis.specs.Sites.{are_given}
use Rattle.access_analysis.proofs.declared.takes.Given as goal

abbrev pub invariant-values : goal.invariant-values
invariant-values l = are_given (map typed_name (drop l.value-index l.values)) l.text ≡ are_given (map typed_name l.values) l.text
