use Rattle.std.proofs.Common.{List, OnOk, set, subst}
use Rattle.net_rules.specs.declared.line.ScriptLine.{ScriptLine}
use Rattle.join_command.specs.Wired.{AreLoaded, wires_of}
use Rattle.join_command.proofs.Wiring.{err_both, ok_both, one_loaded, told_same, wires_same}
use Rattle.join_command.proofs.running.load_group.Goals as goal

pub returns-clause-group : goal.returns-clause-group
returns-clause-group g c =
    subst (λ (lines : List ScriptLine). OnOk c.load.result (AreLoaded lines (wires_of g.W.Wire.told g.W.Wire.rule g.W.Wire.loaded c.args.group.now) (wires_of g.W.Wire.told g.W.Wire.rule g.W.Wire.loaded (set c.args.group.now 0 c.load.new.self))))
    c.empty-empty.ensures
    (ok_both c.load.result
    (λ script since. one_loaded g.W.Wire.told g.W.Wire.rule g.W.Wire.loaded c.args.group.now c.index-group-0.result c.load.new.self c.empty-empty.result c.requires script since)
    c.load.ensures.loaded c.load.ensures.since)

pub returns-clause-as_before : goal.returns-clause-as_before
returns-clause-as_before g c =
    err_both c.load.result
    (λ script since. wires_same g.W.Wire.told g.W.Wire.rule g.W.Wire.loaded c.args.group.now c.index-group-0.result c.load.new.self c.requires c.load.ensures.told script since)
    c.load.ensures.unchanged c.load.ensures.as_before

pub returns-clause-told : goal.returns-clause-told
returns-clause-told g c = told_same g.W.Wire.told c.args.group.now c.index-group-0.result c.load.new.self c.requires c.load.ensures.told
