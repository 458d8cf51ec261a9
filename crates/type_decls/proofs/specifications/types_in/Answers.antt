use Rattle.std.proofs.Common.{List, map, refl, ap, ◌∙◌}
use Rattle.orca_tree.specs.declared.tree.Name.{Name}
use Rattle.orca_tree.specs.declared.tree.TypedName as tree
use Rattle.orca_syntax.specs.Shown.{head, typed_name}
use Rattle.type_rules.specs.Order.{least}
use Rattle.type_rules.specs.Rules.{is_among}
use Rattle.type_rules.specs.Scopes.{head_view, texts}
use Rattle.type_rules.specs.Declarations.{result_breaches, values_breaches}
use Rattle.type_forms.specs.Seen.{lent}
use Rattle.type_decls.proofs.FirstOnes.{first_of_two}
use Rattle.type_decls.proofs.specifications.types_in.Goals as goal

pub returns : goal.returns
returns c = λ us t.
    let h = head c.args.head.now in
    let w = head_view us c.args.home.now h in
    let own = ap lent c.deref-2.ensures.value ∙ c.in_ok-names.ensures {u = tt}
    ∙ ap (λ (l : List tree.TypedName). map (λ t. t.name) (map typed_name l)) c.deref.ensures.value in
    first_of_two c.in_ok-given.given c.in_ok-back.back c.lesser.result (values_breaches w h.parameters) (result_breaches w h.result) c.lesser.ensures
    ((c.in_ok-given.ensures {u = tt}) us t w
    (record { program = refl; home = refl; names = λ n. (c.in_ok-set.ensures {u = tt}) n ∙ ap (λ (l : List Name). is_among (texts l) n) own })
    ∙ ap (λ (l : List tree.TypedName). least (values_breaches w (map typed_name l))) c.deref-3.ensures.value)
    ((c.in_ok-back.ensures {u = tt}) us t w
    (record { program = refl; home = refl; names = λ n. (c.in_ok-set.ensures {u = tt}) n ∙ ap (λ (l : List Name). is_among (texts l) n) own }))
