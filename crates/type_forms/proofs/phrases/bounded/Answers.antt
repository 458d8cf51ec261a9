use Rattle.std.proofs.Common.{Bool, cond, subst, sym, ◌∙◌}
use Rattle.std.specs.Prelude.{IfOk}
use Rattle.type_rules.specs.Constants.{bound}
use Rattle.type_rules.specs.TypePhrases.{graph_phrase, ranged_phrase, within_limits}
use Rattle.type_forms.specs.Finding.{Finds}
use Rattle.type_forms.proofs.phrases.bounded.Goals as goal

pub returns-then-is_graph_bound : goal.returns-then-is_graph_bound
returns-then-is_graph_bound c = λ us forms w view e is_e.
    let low = c.args.low.now in
    let high = c.args.high.now in
    subst (λ (b : Bool). IfOk c.graph.result (λ r. Finds r (within_limits c.args.at (cond b (graph_phrase low (bound w low) e) (ranged_phrase low (bound w low) (bound w high) e)))))
    (sym (sym (c.is_graph_bound.ensures us forms.names w view) ∙ c.if-is_graph_bound.true))
    (c.graph.ensures (bound w low) e (c.bound-first.ensures us forms.names forms.constants w view) is_e)

pub returns : goal.returns
returns c = λ us forms w view e is_e.
    let low = c.args.low.now in
    let high = c.args.high.now in
    subst (λ (b : Bool). IfOk c.ranged.result (λ r. Finds r (within_limits c.args.at (cond b (graph_phrase low (bound w low) e) (ranged_phrase low (bound w low) (bound w high) e)))))
    (sym (sym (c.is_graph_bound.ensures us forms.names w view) ∙ c.if-is_graph_bound.false))
    (c.ranged.ensures (bound w low) (bound w high) e (c.bound-first.ensures us forms.names forms.constants w view)
    (c.bound-last.ensures us forms.names forms.constants w view) is_e)
