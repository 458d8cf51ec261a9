use Rattle.std.proofs.Common.{◌+◌, List, [], ◌∷◌, ◌++◌, map, subst, take, sym, arith}
use Rattle.std.proofs.lemmas.List.{append-nil, take_all}
use Rattle.orca_tree.specs.declared.tree.TypedName as tree
use Rattle.orca_syntax.specs.Shown.{typed_name}
use Rattle.type_rules.specs.Scopes.{Local, value_local}
use Rattle.program_bodies.specs.Bodies.{HasLocals}
use Rattle.program_bodies.proofs.OneMore.{grown, same_local, shown_more}
use Rattle.program_bodies.proofs.declared.add_values.Goals as goal

pub values-preserved : goal.values-preserved
values-preserved c = λ us t w v ls h.
    let f = value_local w in
    let ts = c.args.values.now in
    let i = c.values.own-index in
    let x = c.own-item.result in
    let before = map f (map typed_name (take i ts)) in
    grown c.add_name.new.names ls before (f (typed_name x) ∷ []) (map f (map typed_name (take (i + 1) ts)))
    (shown_more typed_name f ts i x c.values-test.true c.own-item.is)
    (subst (λ (y : Local). HasLocals c.add_name.new.names ((ls ++ before) ++ y ∷ []))
    (same_local c.as_str.result.now _ _ c.in_ok-kind.kind _ c.as_str.ensures ((c.in_ok-kind.ensures {u = tt}) us t w v))
    ((c.in_ok-add_name.ensures {u = tt}) (ls ++ before) (c.values.invariant us t w v ls h)))

pub values-init : goal.values-init
values-init c = λ us t w v ls h. subst (λ (l : List Local). HasLocals c.args.names.now l) (sym (append-nil ls)) h

pub returns : goal.returns
returns c = λ us t w v ls h.
    subst (λ (ts : List tree.TypedName). HasLocals c.values.names (ls ++ map (value_local w) (map typed_name ts)))
    (take_all c.values.own-index c.args.values.now (omega (arith, c.values-test.false))) (c.values.invariant us t w v ls h)
