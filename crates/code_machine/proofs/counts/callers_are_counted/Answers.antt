use Rattle.std.proofs.Common.{take, sym, subst}
use Rattle.std.proofs.lemmas.List.{take_all}
use Rattle.std.proofs.lemmas.List.Elements.{All-more, All-same}
use Rattle.code_steps.specs.declared.config.Caller.{Caller}
use Rattle.code_machine.specs.Counted.{IsCounted}
use Rattle.code_machine.proofs.counts.callers_are_counted.Goals as goal

pub callers-preserved : goal.callers-preserved
callers-preserved c =
    All-more (λ (w : Caller). IsCounted w.frame) c.args.callers.now c.callers.caller-index c.caller-item.result c.callers-test.true c.callers.invariant
    (subst (λ (w : Caller). IsCounted w.frame) c.caller-item.is (c.is_counted.ensures c.if-not-is_counted.false))

pub returns : goal.returns
returns c = λ all.
    All-same (λ (w : Caller). IsCounted w.frame) c.args.callers.now (take c.callers.caller-index c.args.callers.now)
    (sym (take_all c.callers.caller-index c.args.callers.now c.callers-test.false)) c.callers.invariant
