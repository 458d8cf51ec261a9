use Rattle.std.proofs.Common.{◌≡◌, false, sym, subst}
use Rattle.net_rules.specs.declared.line.ScriptLine.{ScriptLine}
use Rattle.net_rules.specs.declared.line.ScriptLine.TheVariants.{Act}
use Rattle.net_rules.specs.Script.{is_due}
use Rattle.wires.specs.Due.{IsFar}
use Rattle.wires.proofs.Distances.{reach_is}
use Rattle.wires.proofs.progress.reach.Goals as goal

pub returns-in-Act : goal.returns-in-Act
returns-in-Act c asked are due =
    let P : ScriptLine → Type 0 = λ line. is_due asked line ≡ false → IsFar asked c.saturating_add.result line in
    let line : ScriptLine = Act c.in-Act.kinds c.in-Act.number c.in-Act.act in
    let far : P line = λ d. reach_is asked c.in-Act.kinds c.in-Act.number c.count.result c.args.counts.now.all c.saturating_sub.result c.saturating_add.result
    (c.count.ensures asked are) are.all d c.saturating_sub.ensures c.saturating_add.ensures in
    subst P (sym c.in-Act.is) far due
