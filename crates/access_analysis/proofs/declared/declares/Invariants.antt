use Rattle.std.proofs.Common.{◌≡◌, drop, map}
use Rattle.orca_syntax.specs.Shown.{variables}
use Rattle.access_analysis.specs.Sites.{declare}
use Rattle.access_analysis.proofs.declared.declares.Given as goal

abbrev pub invariant-groups : goal.invariant-groups
invariant-groups l = declare (map variables (drop l.group-index l.groups)) l.text ≡ declare (map variables l.groups) l.text
