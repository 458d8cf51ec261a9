use Rattle.std.proofs.Common.{List, map, refl, ap, ◌∙◌}
use Rattle.orca_tree.specs.declared.tree.Name.{Name}
use Rattle.orca_syntax.specs.Shown.{block, parameter}
use Rattle.type_rules.specs.Rules.{is_among}
use Rattle.type_rules.specs.Scopes.{own_names, texts, view_of}
use Rattle.type_forms.specs.Seen.{lent}
use Rattle.type_tables.proofs.Calls.{same_signature}
use Rattle.type_tables.proofs.signatures.signature.Goals as goal

pub returns : goal.returns
returns c = λ us t.
    let w = view_of us c.args.home.now (own_names (map parameter c.args.parameters.now) (block c.args.body.now)) in
    let own = ap lent c.deref.ensures.value ∙ c.in_ok-names.ensures {u = tt} in
    same_signature _ _ _ _
    (c.new.ensures ∙ (c.in_ok-formals.ensures {u = tt}) us t w
    (record { program = refl; home = refl; names = λ n. (c.in_ok-set.ensures {u = tt}) n ∙ ap (λ (l : List Name). is_among (texts l) n) own }))
    ((c.in_ok-gives.ensures {u = tt}) us t w
    (record { program = refl; home = refl; names = λ n. (c.in_ok-set.ensures {u = tt}) n ∙ ap (λ (l : List Name). is_among (texts l) n) own }))
