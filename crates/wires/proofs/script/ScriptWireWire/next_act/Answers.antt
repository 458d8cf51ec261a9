use Rattle.std.proofs.Common.{reverse, ap, ◌∙◌}
use Rattle.net_rules.specs.Script.{script_act}
use Rattle.wires.specs.Wired.{Wired}
use Rattle.wires.proofs.Scripted.{goes_on}
use Rattle.wires.proofs.script.ScriptWireWire.next_act.Goals as goal

pub invariant_of-self : goal.invariant_of-self
invariant_of-self c =
    let kept = c.self.inside.kept in
    let keeps = c.self.invariant in
    let step = c.act-act.ensures kept.script (reverse kept.told) c.args.event_number c.act-act.result keeps.1 in
    goes_on kept.script c.note.new.self.script kept.told c.note.new.self.told _ c.self.inside.kept.loaded c.note.new.self.loaded c.self.inside.index c.self.inside.progress c.act-act.new.self
    c.note.ensures.script c.note.ensures.told c.note.ensures.since step.0 step.1 keeps

pub returns-clause-by_script : goal.returns-clause-by_script
returns-clause-by_script c =
    let kept = c.self.inside.kept in
    (c.act-act.ensures kept.script (reverse kept.told) c.args.event_number c.act-act.result c.self.invariant.1).0 ∙ ap (λ (w : Wired). script_act w.script (reverse w.told)) c.self.view_is
