use Rattle.run_loop.proofs.Telling.{kept_at}
use Rattle.orca_answers.proofs.AnswerLemmas.{ok_both}
use Rattle.orca_cli.proofs.HeadlineLemmas.{err_both, loaded_first, wires_kept}
use Rattle.orca_cli.proofs.top.load_first.Goals as goal

pub returns-clause-loaded : goal.returns-clause-loaded
returns-clause-loaded g c =
    ok_both c.load.result
    (λ script since. loaded_first g.W.Wire.told g.W.Wire.rule g.W.Wire.loaded c.args.wires.now c.index-wires-0.result c.load.new.self c.args.script.now c.requires script since)
    c.load.ensures.loaded c.load.ensures.since

pub returns-clause-unchanged : goal.returns-clause-unchanged
returns-clause-unchanged g c =
    err_both c.load.result
    (λ script since. wires_kept g.W.Wire.told g.W.Wire.rule g.W.Wire.loaded c.args.wires.now c.index-wires-0.result c.load.new.self c.load.ensures.told script since)
    c.load.ensures.unchanged c.load.ensures.as_before

pub returns-clause-told : goal.returns-clause-told
returns-clause-told g c = kept_at g.W.Wire.told c.args.wires.now 0 c.index-wires-0.result c.load.new.self c.load.ensures.told
