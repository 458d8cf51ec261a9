use Rattle.std.proofs.Common.{◌∙◌, sym, subst}
use Rattle.std.proofs.lemmas.Result.{IfOk-weaker}
use Rattle.type_cycles.specs.Components.{AreRight}
use Rattle.type_cycles.proofs.Ranked.{ranked}
use Rattle.type_cycles.proofs.cycles.holds_themselves.Goals as goal

pub returns-then-are_right : goal.returns-then-are_right
returns-then-are_right c us are =
    let same = c.deref.ensures.value ∙ sym c.deref-then-are_right.ensures.value in
    let right = subst (AreRight c.args.parts.now) same (c.are_right.ensures c.if-are_right.true) in
    IfOk-weaker c.by_rank.result _ _
    (λ v each i. each i ∙ ranked c.args.parts.now c.deref-then-are_right.result.now right us are i) c.by_rank.ensures
