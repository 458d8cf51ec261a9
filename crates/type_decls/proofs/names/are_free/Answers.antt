use Rattle.std.proofs.Math.ListN.{drop_of_length-le}
use Rattle.std.proofs.Common.{Bool, not, ◌&&◌, ap, ◌∙◌}
use Rattle.std.specs.Borrow.{Bor}
use Rattle.orca_tree.specs.declared.tree.Name.{Name}
use Rattle.type_rules.specs.Order.{least}
use Rattle.type_rules.specs.TopLevel.{sees}
use Rattle.type_rules.specs.Rules.{asks, is_among}
use Rattle.type_decls.proofs.FirstOnes.{shown_further, shown_end}
use Rattle.type_decls.proofs.names.are_free.Goals as goal

pub names-preserved : goal.names-preserved
names-preserved c = λ us ix fs h.
    let x = c.name-item.result.now in
    shown_further (λ (n : Bor Name). n.now) (λ (n : Name). asks 4 n.at (not (sees us c.args.home.now n.text) && not (is_among fs n.text))) c.args.names.now
    c.names.name-index c.name-item.result c.names.first c.asks-own.result c.lesser-first.result _ c.names-test.true c.name-item.is c.lesser-first.ensures
    (c.asks-own.ensures ∙ ap (λ (b : Bool). least (asks 4 x.at b)) (c.is_free.ensures us ix fs h)) (c.names.invariant us ix fs h)

pub returns : goal.returns
returns c = λ us ix fs h.
    shown_end (λ (n : Bor Name). n.now) (λ (n : Name). asks 4 n.at (not (sees us c.args.home.now n.text) && not (is_among fs n.text))) c.args.names.now
    c.names.name-index c.names.first _ (drop_of_length-le c.args.names.now c.names-test.false) (c.names.invariant us ix fs h)
