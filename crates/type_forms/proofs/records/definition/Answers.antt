use Rattle.std.proofs.Common.{◌++◌, List, map, subst, sym, ap, ◌∙◌}
use Rattle.orca_tree.specs.declared.tree.Definition.{Definition}
use Rattle.orca_tree.specs.declared.tree.Name.{Name}
use Rattle.orca_tree.specs.declared.tree.TypedName as tree
use Rattle.orca_syntax.specs.Shown as shown
use Rattle.orca_syntax.specs.Shown.{typed_name}
use Rattle.type_rules.specs.declared.types.Measured.{Measured}
use Rattle.type_rules.specs.Order.{least}
use Rattle.type_rules.specs.Rules.{Found, are_new}
use Rattle.type_rules.specs.TypePhrases.{definition, distinct_fields, record_of}
use Rattle.type_forms.specs.Finding.{FirstOf, Finds}
use Rattle.type_forms.specs.Seen.{lent}
use Rattle.type_forms.specs.Measures.{cut_found, declared_in}
use Rattle.type_forms.proofs.Cut.{cut_unless}
use Rattle.type_forms.proofs.records.definition.Goals as goal

pub returns-in_ok-again-in-Record : goal.returns-in_ok-again-in-Record
returns-in_ok-again-in-Record c = λ us f w v.
    let declared = declared_in c.args.forms.types.now in
    let fields = map typed_name c.in-Record.fields.items in
    let r = record_of declared w c.args.number fields in
    let again = are_new (map (λ f. f.name) fields) in
    let found : Finds c.in_ok-found-in-Record.found (cut_found r) =
    subst (λ (l : List tree.TypedName). Finds c.in_ok-found-in-Record.found (cut_found (record_of declared w c.args.number (map typed_name l)))) c.deref.ensures.value
    ((c.in_ok-found-in-Record.ensures {u = tt}) us f w v) in
    let names = ap lent c.deref-in-Record-2.ensures.value ∙ (c.in_ok-names-in-Record.ensures {u = tt})
    ∙ ap (λ (l : List tree.TypedName). map (λ f. f.name) (map typed_name l)) c.deref-in-Record.ensures.value in
    let first : FirstOf c.in_ok-again-in-Record.again again =
    (c.in_ok-again-in-Record.ensures {u = tt}) ∙ ap (λ (l : List Name). least (are_new l)) names in
    subst (λ (d : Definition). Finds c.within_limits.result (definition declared w c.args.number (shown.definition d))) (sym c.in-Record.is)
    (c.within_limits.ensures (distinct_fields fields r)
    (subst (λ (g : Found Measured). Finds c.with.result g) (cut_unless (r.breaches ++ again) r.is) (c.with.ensures (cut_found r) again found first)))
