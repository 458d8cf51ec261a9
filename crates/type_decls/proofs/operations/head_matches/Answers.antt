use Rattle.std.proofs.Common.{◌||◌, List, refl, ap, ◌∙◌}
use Rattle.orca_tree.specs.declared.tree.Name.{Name}
use Rattle.orca_syntax.specs.Shown.{operation}
use Rattle.type_rules.specs.Rules.{is_among}
use Rattle.type_rules.specs.Scopes.{texts}
use Rattle.type_rules.specs.Declarations.{field_names, is_head_of, operation_names, operation_view}
use Rattle.type_forms.specs.Seen.{has, lent}
use Rattle.type_decls.proofs.Leaving.{entered}
use Rattle.type_decls.proofs.operations.head_matches.Goals as goal

pub returns-clause-matched : goal.returns-clause-matched
returns-clause-matched c = λ us t fs hf hn.
    let o = operation c.args.operation.now in
    let own = ap lent c.deref.ensures.value ∙ c.in_ok-own.ensures {u = tt} in
    let seen = entered c.args.names.now c.enter.new.names (operation_names o) (field_names fs)
    (λ n. (c.in_ok-enter.ensures {u = tt}) n ∙ ap (λ (l : List Name). has c.args.names.now n || is_among (texts l) n) own) hn in
    (c.in_ok-matches.ensures {u = tt}) us t (operation_view us c.args.home.now fs o) (record { program = refl; home = refl; names = seen })
    ∙ ap (is_head_of us (operation_view us c.args.home.now fs o) c.args.specified.home.now o.head)
    c.head_at-head.ensures
