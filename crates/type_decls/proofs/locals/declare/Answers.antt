use Rattle.std.proofs.Common.{◌≡◌, ℕ, ◌+◌, ◌-◌, ◌++◌, drop, map, refl, subst, arith}
use Rattle.orca_tree.specs.declared.tree.Name.{Name}
use Rattle.type_rules.specs.Scopes.{Local}
use Rattle.type_decls.specs.Bodies.{AreLocals}
use Rattle.type_decls.proofs.InFront.{named_in_front, put_as, same_local}
use Rattle.type_decls.proofs.locals.declare.Goals as goal

pub names-preserved : goal.names-preserved
names-preserved c =
    let i = c.names.left - 1 in
    let next : c.names.left ≡ i + 1 = let t = c.names-test.true in omega (arith, t) in
    let f : Name → Local = λ n. record { name = n.text; role = c.args.role; type = c.args.kind.now } in
    let le = c.names.invariant.0 in (
      (let t = c.names-test.true in omega (arith, t, le)),
      (λ ls h. named_in_front f c.args.names.now i c.index-names-left.result c.put.new.locals ls (let t = c.names-test.true in omega (arith, t, le)) c.index-names-left.is
          (put_as c.names.locals c.put.new.locals c.as_str.result.now (record { role = c.args.role; kind = c.in_ok-kind.kind }) (f c.index-names-left.result) _ (c.in_ok-put.ensures {u = tt})
          (same_local _ _ _ _ _ _ c.as_str.ensures refl (c.in_ok-kind.ensures {u = tt}))
          (subst (λ (k : ℕ). AreLocals c.names.locals (map f (drop k c.args.names.now) ++ ls)) next (c.names.invariant.1 ls h)))),
    )
