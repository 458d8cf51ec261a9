use Rattle.std.proofs.Common.{ℕ, ◌+◌, List, drop, map, sym, ap, ◌∙◌}
use Rattle.std.specs.Prelude.{max}
use Rattle.std.proofs.Math.ListN.{drop_of_length-le}
use Rattle.std.proofs.Math.Nat.{max-zero}
use Rattle.orca_tree.specs.declared.tree.Guard.{Guard}
use Rattle.orca_tree.specs.declared.tree.Statement.{Statement}
use Rattle.orca_syntax.specs.Shown.{guard, stmts}
use Rattle.type_forms.proofs.Loops.{rest_is}
use Rattle.code_rules.specs.Bodies.{guards_depth}
use Rattle.code_rules.specs.Phrases.{depth_all}
use Rattle.code_units.proofs.Rows.{max_grouped}
use Rattle.code_units.proofs.depths.depth_of_guards.Goals as goal

pub guards-preserved : goal.guards-preserved
guards-preserved c =
    let i = c.guards.one-index in
    let x = c.one-item.result in
    let rest = guards_depth (map guard (drop (i + 1) c.args.guards.now)) in
    ap (λ (k : ℕ). max k rest)
    (c.larger-most.ensures ∙ ap (λ (k : ℕ). max c.guards.most k)
    ((c.in_ok-own.ensures {u = tt}) ∙ ap (λ (ss : List Statement). depth_all (stmts ss)) c.deref.ensures.value))
    ∙ max_grouped c.guards.most (depth_all (stmts x.body.items)) rest
    ∙ sym (ap (λ (gs : List Guard). max c.guards.most (guards_depth (map guard gs))) (rest_is c.args.guards.now i x c.guards-test.true c.one-item.is))
    ∙ c.guards.invariant

pub returns : goal.returns
returns c =
    sym (max-zero c.guards.most)
    ∙ sym (ap (λ (gs : List Guard). max c.guards.most (guards_depth (map guard gs))) (drop_of_length-le c.args.guards.now c.guards-test.false))
    ∙ c.guards.invariant
