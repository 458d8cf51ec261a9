use Rattle.std.proofs.Common.{◌+◌, List, [], ◌∷◌, ◌++◌, map, subst, take, ap, ◌∙◌, sym, arith}
use Rattle.std.proofs.lemmas.List.{append-nil, take_all}
use Rattle.orca_tree.specs.declared.tree.Parameter as tree
use Rattle.orca_syntax.specs.Shown.{parameter}
use Rattle.type_rules.specs.declared.names.LocalRole.{LocalRole}
use Rattle.type_rules.specs.Scopes.{Local, parameter_found, parameter_local}
use Rattle.program_bodies.specs.Bodies.{HasLocals}
use Rattle.program_bodies.proofs.OneMore.{called, grown, same_local, shown_more}
use Rattle.program_bodies.proofs.declared.add_parameters.Goals as goal

pub parameters-preserved : goal.parameters-preserved
parameters-preserved c = λ us t w v ls h.
    let f = parameter_local w in
    let ps = c.args.parameters.now in
    let i = c.parameters.own-index in
    let x = c.own-item.result in
    let before = map f (map parameter (take i ps)) in
    grown c.add_name.new.names ls before (f (parameter x) ∷ []) (map f (map parameter (take (i + 1) ps)))
    (shown_more parameter f ps i x c.parameters-test.true c.own-item.is)
    (subst (λ (y : Local). HasLocals c.add_name.new.names ((ls ++ before) ++ y ∷ []))
    (ap (λ (r : LocalRole). called c.as_str.result.now r c.type_of-kind.result) c.role_of-role.ensures
    ∙ same_local c.as_str.result.now _ _ c.type_of-kind.result _ c.as_str.ensures
    (c.type_of-kind.ensures (parameter_found w (parameter x).mode (parameter x).kind) ((c.in_ok-found.ensures {u = tt}) us t w v)))
    ((c.in_ok-add_name.ensures {u = tt}) (ls ++ before) (c.parameters.invariant us t w v ls h)))

pub parameters-init : goal.parameters-init
parameters-init c = λ us t w v ls h. subst (λ (l : List Local). HasLocals c.args.names.now l) (sym (append-nil ls)) h

pub returns : goal.returns
returns c = λ us t w v ls h.
    subst (λ (ps : List tree.Parameter). HasLocals c.parameters.names (ls ++ map (parameter_local w) (map parameter ps)))
    (take_all c.parameters.own-index c.args.parameters.now (omega (arith, c.parameters-test.false))) (c.parameters.invariant us t w v ls h)
