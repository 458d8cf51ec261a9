use Rattle.std.proofs.Common.{◌≡◌, drop}
use Rattle.std.specs.List.{list_any}
use Rattle.type_cycles.specs.Leading.{is_marked}
use Rattle.type_cycles.proofs.levels.has_marked.Given as goal

abbrev pub invariant-parts : goal.invariant-parts
invariant-parts l = list_any (is_marked l.marks) (drop l.part-index l.parts) ≡ list_any (is_marked l.marks) l.parts
