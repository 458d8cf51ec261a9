use Rattle.std.proofs.Common.{◌+◌, List, ◌++◌, Option, map, subst, take, sym, arith}
use Rattle.std.specs.Prelude.{flat_map}
use Rattle.std.proofs.lemmas.List.{append-nil, take_all}
use Rattle.orca_tree.specs.declared.tree.Name.{Name}
use Rattle.orca_tree.specs.declared.tree.Variables as tree
use Rattle.orca_syntax.specs.Shown.{kind, variables}
use Rattle.type_rules.specs.declared.types.DataType.{DataType}
use Rattle.type_rules.specs.Scopes.{Local, locals_of, type_of}
use Rattle.type_decls.specs.Bodies.{variable_found}
use Rattle.program_bodies.specs.Bodies.{HasLocals}
use Rattle.program_bodies.proofs.OneMore.{called, group_more, grown}
use Rattle.program_bodies.proofs.declared.add_variables.Goals as goal

pub groups-preserved : goal.groups-preserved
groups-preserved c = λ us t w v ls h.
    let f = locals_of c.args.role (variable_found c.args.objects w) in
    let gs = c.args.groups.now in
    let i = c.groups.group-index in
    let x = c.group-item.result in
    let before = flat_map f (map variables (take i gs)) in
    grown c.add_names.new.names ls before (f (variables x)) (flat_map f (map variables (take (i + 1) gs)))
    (group_more variables f gs i x c.groups-test.true c.group-item.is)
    (subst (λ (ns : List Name). HasLocals c.add_names.new.names
    ((ls ++ before) ++ map (λ n. called n.text c.args.role (type_of (variable_found c.args.objects w (kind x.kind)))) ns)) c.deref.ensures.value
    (subst (λ (k : Option DataType). HasLocals c.add_names.new.names ((ls ++ before) ++ map (λ n. called n.text c.args.role k) c.deref.result.now))
    ((c.in_ok-kind.ensures {u = tt}) us t w v)
    ((c.in_ok-add_names.ensures {u = tt}) (ls ++ before) (c.groups.invariant us t w v ls h))))

pub groups-init : goal.groups-init
groups-init c = λ us t w v ls h. subst (λ (l : List Local). HasLocals c.args.names.now l) (sym (append-nil ls)) h

pub returns : goal.returns
returns c = λ us t w v ls h.
    subst (λ (gs : List tree.Variables). HasLocals c.groups.names (ls ++ flat_map (locals_of c.args.role (variable_found c.args.objects w)) (map variables gs)))
    (take_all c.groups.group-index c.args.groups.now (omega (arith, c.groups-test.false))) (c.groups.invariant us t w v ls h)
