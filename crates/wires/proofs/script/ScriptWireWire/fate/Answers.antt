use Rattle.std.proofs.Common.{◌<◌, ◌-◌, ◌^◌, length, reverse, ap, refl, ◌∙◌, arith}
use Rattle.std.proofs.lemmas.List.{length-reverse}
use Rattle.net_rules.specs.declared.asked.Question.{Question}
use Rattle.net_rules.specs.Script.{script_fate}
use Rattle.wires.specs.Wired.{Wired}
use Rattle.wires.proofs.Scripted.{goes_on}
use Rattle.wires.proofs.script.ScriptWireWire.fate.Goals as goal

pub invariant_of-self : goal.invariant_of-self
invariant_of-self c =
    let kept = c.self.inside.kept in
    let few : length (reverse kept.told) < 2 ^ 64 - 1 = omega (arith, length-reverse kept.told, c.note.ensures.fits) in
    let keeps = c.self.invariant in
    let step = c.fate-fate.ensures kept.script (reverse kept.told) _ c.fate-fate.result refl few keeps.0 keeps.1 in
    goes_on kept.script c.note.new.self.script kept.told c.note.new.self.told _ c.self.inside.kept.loaded c.note.new.self.loaded c.self.inside.index c.self.inside.progress c.fate-fate.new.self
    c.note.ensures.script c.note.ensures.told c.note.ensures.since step.0 step.1 keeps

pub returns-clause-by_script : goal.returns-clause-by_script
returns-clause-by_script c =
    let kept = c.self.inside.kept in
    let few : length (reverse kept.told) < 2 ^ 64 - 1 = omega (arith, length-reverse kept.told, c.note.ensures.fits) in
    let keeps = c.self.invariant in
    let question : Question = record { packet = 0; kind = c.args.kind; from = 0; to = 0; length = 0 } in
    (c.fate-fate.ensures kept.script (reverse kept.told) question c.fate-fate.result refl few keeps.0 keeps.1).0 ∙ ap (λ (w : Wired). script_fate w.script (reverse w.told) c.args.kind) c.self.view_is
