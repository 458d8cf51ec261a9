-- None of the acts before is due.
use Rattle.std.proofs.Common.{◌≡◌, List, drop, take}
use Rattle.std.specs.List.{AllByRecursion, position_from}
use Rattle.net_rules.specs.declared.asked.Asked.{Asked}
use Rattle.net_rules.specs.Script.{is_due}
use Rattle.wires.specs.Counts.{AreCounts}
use Rattle.wires.specs.Due.{IsFar}
use Rattle.wires.proofs.progress.look.Given as goal

abbrev pub invariant-acts : goal.invariant-acts
invariant-acts l = (asked : List Asked) → AreCounts asked l.counts →
    (position_from (is_due asked) l.place (drop l.place l.acts) ≡ position_from (is_due asked) 0 l.acts) × AllByRecursion (IsFar asked l.packets) (take l.place l.acts)
