use Rattle.std.proofs.Common.{sym, ap, subst, ◌∙◌}
use Rattle.std.specs.Prelude.{map}
use Rattle.std.proofs.lemmas.Result.{IfOk-weaker}
use Rattle.type_forms.specs.Chains.{AreChains, AreRight, or_round}
use Rattle.type_forms.proofs.Settling.{are_chains, none_right}
use Rattle.type_forms.proofs.chains.chains_of.Goals as goal

pub returns : goal.returns
returns c = λ us x.
    let opening = subst (AreRight us) (sym (c.in_ok-memo.ensures {u = tt})) (none_right us c.count.result (c.count.ensures us x)) in
    let right = c.settle.ensures.right us x (c.settle_these.ensures.right us x opening) in
    let all = are_chains us c.settle.new.memo.items right (c.settle.ensures.stuck us x) in
    IfOk-weaker c.finished.result _ _ (λ v e. subst (AreChains us) (sym (e ∙ ap (map or_round) c.deref-2.ensures.value)) all) c.finished.ensures
