use Rattle.std.proofs.Common.{ℕ, List, length, map, refl, sym, subst, ap, ◌∙◌}
use Rattle.std.proofs.lemmas.List.{length-map}
use Rattle.orca_tree.specs.declared.tree.Name.{Name}
use Rattle.orca_syntax.specs.Shown.{block, parameter}
use Rattle.type_rules.specs.Rules.{is_among}
use Rattle.type_rules.specs.Scopes.{Local, own_names, texts, view_of}
use Rattle.type_forms.specs.Seen.{lent}
use Rattle.type_decls.specs.Bodies.{AreLocals}
use Rattle.access_estimates.specs.Resolved.{IsRoutine}
use Rattle.access_estimates.proofs.routines.collected.Goals as goal

pub returns : goal.returns
returns c = λ us typed are w program home locals.
    let ps = map parameter c.args.parameters.now in
    let b = block c.args.body.now in
    let seen = ap lent c.deref.ensures.value ∙ c.in_ok-names.ensures {u = tt} in
    let again = ap lent c.deref-2.ensures.value ∙ c.in_ok-names.ensures {u = tt} in
    let v = view_of us c.args.home.now (own_names ps b) in
    let all = (c.in_ok-locals.ensures {u = tt}) us typed v
    (record {
      program = refl;
      home = refl;
      names = λ n. (c.in_ok-set.ensures {u = tt}) n ∙ ap (λ (l : List Name). is_among (texts l) n) seen;
    }) in
    let made = (c.in_ok-named_routine.ensures {u = tt}) us are w program home (subst (λ (ls : List Local). AreLocals c.in_ok-locals.locals ls) (sym locals) all) in
    subst (λ (k : ℕ). IsRoutine us c.in_ok-named_routine.field-0 (record { scope = w; parameters = k; names = own_names ps b; statements = b.statements }))
    (sym (length-map c.args.parameters.now parameter))
    (subst (λ (l : List Name). IsRoutine us c.in_ok-named_routine.field-0 (record { scope = w; parameters = length c.args.parameters.now; names = l; statements = b.statements })) again made)
