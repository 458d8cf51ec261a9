use Rattle.std.proofs.Common.{List, reverse, ap, subst}
use Rattle.net_rules.specs.declared.line.ScriptLine.{ScriptLine}
use Rattle.net_rules.specs.declared.asked.Asked.{Asked}
use Rattle.wires.specs.Index.{IsIndex}
use Rattle.wires.specs.Progress.{IsProgress}
use Rattle.wires.proofs.Scripted.{loaded}
use Rattle.wires.proofs.script.ScriptWireWire.load.Goals as goal

pub invariant_of-self-2 : goal.invariant_of-self-2
invariant_of-self-2 c =
    let kept = c.self.inside.kept in
    let index = c.in_ok-index.index in
    let P : List ScriptLine → Type 0 = λ ls. IsIndex ls index in
    let Q : List ScriptLine → Type 0 = λ ls. IsProgress ls (reverse c.told.result.now) c.in_ok-progress.progress in
    let R : List Asked → Type 0 = λ ts. IsProgress c.args.script.now (reverse ts) c.in_ok-progress.progress in
    loaded c.args.script.now c.load.new.self.script kept.told c.load.new.self.told c.load.new.self.loaded index c.in_ok-progress.progress
    (ap (λ k. k.script) c.in_ok-load.ensures.ok) (ap (λ k. k.told) c.in_ok-load.ensures.ok) (ap (λ k. k.loaded) c.in_ok-load.ensures.ok)
    (subst P c.lines.ensures c.in_ok-index.ensures) (subst R c.told.ensures.told (subst Q c.lines-2.ensures c.in_ok-progress.ensures))
