use Rattle.std.proofs.Common.{◌+◌, List, [], ◌∷◌, ◌++◌, map, subst, take, sym, arith}
use Rattle.std.proofs.lemmas.List.{append-nil, take_all}
use Rattle.orca_tree.specs.declared.tree.Name.{Name}
use Rattle.type_rules.specs.Scopes.{Local}
use Rattle.program_bodies.specs.Bodies.{HasLocals}
use Rattle.program_bodies.proofs.Matched.{seen_more}
use Rattle.program_bodies.proofs.OneMore.{grown, same_local}
use Rattle.program_bodies.proofs.bodies.add_names.Goals as goal

pub own-preserved : goal.own-preserved
own-preserved c = λ ls h.
    let f : Name → Local = λ n. record { name = n.text; role = c.args.role; type = c.args.kind.now } in
    let i = c.own.name-index in
    let x = c.name-item.result in
    let before = map f (take i c.args.own.now) in
    grown c.add_name.new.names ls before (f x ∷ []) (map f (take (i + 1) c.args.own.now)) (seen_more f c.args.own.now i x c.own-test.true c.name-item.is)
    (subst (λ (y : Local). HasLocals c.add_name.new.names ((ls ++ before) ++ y ∷ []))
    (same_local c.as_str.result.now x.text c.args.role c.in_ok-kind.kind c.args.kind.now c.as_str.ensures (c.in_ok-kind.ensures {u = tt}))
    ((c.in_ok-add_name.ensures {u = tt}) (ls ++ before) (c.own.invariant ls h)))

pub own-init : goal.own-init
own-init c = λ ls h. subst (λ (l : List Local). HasLocals c.args.names.now l) (sym (append-nil ls)) h

pub returns : goal.returns
returns c = λ ls h.
    subst (λ (ns : List Name). HasLocals c.own.names (ls ++ map (λ n. record { name = n.text; role = c.args.role; type = c.args.kind.now }) ns))
    (take_all c.own.name-index c.args.own.now (omega (arith, c.own-test.false))) (c.own.invariant ls h)
