use Rattle.std.proofs.Common.{List, map, refl, ap, ◌∙◌}
use Rattle.orca_tree.specs.declared.tree.Name.{Name}
use Rattle.orca_tree.specs.declared.tree.TypedName as tree
use Rattle.orca_syntax.specs.Shown.{head, typed_name}
use Rattle.type_rules.specs.declared.signature.Formal.TheVariants.{ByValue}
use Rattle.type_rules.specs.Rules.{is_among}
use Rattle.type_rules.specs.TypePhrases.{data_found}
use Rattle.type_rules.specs.Scopes.{head_view, texts, type_of}
use Rattle.type_forms.specs.Seen.{lent}
use Rattle.type_tables.proofs.Calls.{same_signature}
use Rattle.type_tables.proofs.signatures.head_signature.Goals as goal

pub returns : goal.returns
returns c = λ us t.
    let w = head_view us c.args.home.now (head c.args.head.now) in
    let own = ap lent c.deref-2.ensures.value ∙ c.in_ok-names.ensures {u = tt}
    ∙ ap (λ (l : List tree.TypedName). map (λ t. t.name) (map typed_name l)) c.deref.ensures.value in
    same_signature _ _ _ _
    (c.new.ensures ∙ (c.in_ok-formals.ensures {u = tt}) us t w
    (record { program = refl; home = refl; names = λ n. (c.in_ok-set.ensures {u = tt}) n ∙ ap (λ (l : List Name). is_among (texts l) n) own })
    ∙ ap (λ (l : List tree.TypedName). map (λ t. ByValue (type_of (data_found w t.kind))) (map typed_name l)) c.deref-3.ensures.value)
    ((c.in_ok-gives.ensures {u = tt}) us t w
    (record { program = refl; home = refl; names = λ n. (c.in_ok-set.ensures {u = tt}) n ∙ ap (λ (l : List Name). is_among (texts l) n) own }))
