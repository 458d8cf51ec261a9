use Rattle.std.proofs.Common.{ℕ, List, [], ◌++◌, Option, map, ap, ◌∙◌}
use Rattle.std.specs.Prelude.{flat_map}
use Rattle.orca_tree.specs.declared.tree.Name.{Name}
use Rattle.orca_syntax.specs.Shown.{head}
use Rattle.type_rules.specs.Order.{least}
use Rattle.type_rules.specs.Rules.{are_new}
use Rattle.type_rules.specs.Scopes.{head_view}
use Rattle.type_rules.specs.Declarations.{are_free, lacking, operation_count, result_breaches, values_breaches}
use Rattle.type_forms.specs.Seen.{lent}
use Rattle.type_decls.proofs.FirstOnes.{first_of_two}
use Rattle.type_decls.proofs.specifications.specification_breach.Goals as goal

pub returns : goal.returns
returns c = λ us ctx.
    let m = c.args.home.now in
    let hs = map head c.args.heads.now in
    let news = are_new (map (λ h. h.name) hs) in
    let frees = flat_map (λ h. are_free us m [] (map (λ t. t.name) h.parameters)) hs in
    let types = flat_map (λ h. values_breaches (head_view us m h) h.parameters ++ result_breaches (head_view us m h) h.result) hs in
    let lacks = lacking hs (operation_count us c.args.name.now.text) in
    let count = c.operation_count-count.ensures us ctx.tables.typed.forms.names ∙ ap (operation_count us) c.as_str.ensures in
    let again = c.in_ok-again.ensures {u = tt} ∙ ap (λ (ns : List Name). least (are_new ns)) (ap lent c.deref.ensures.value ∙ c.in_ok-names.ensures {u = tt}) in
    first_of_two c.in_ok-again.again c.lesser-2.result c.lesser-3.result news (frees ++ (types ++ lacks)) c.lesser-3.ensures again
    (first_of_two c.in_ok-free.free c.lesser.result c.lesser-2.result frees (types ++ lacks) c.lesser-2.ensures ((c.in_ok-free.ensures {u = tt}) us ctx)
    (first_of_two c.in_ok-types.types c.lacking.result c.lesser.result types lacks c.lesser.ensures ((c.in_ok-types.ensures {u = tt}) us ctx.tables.typed)
    (c.lacking.ensures ∙ ap (λ (k : Option ℕ). least (lacking hs k)) count)))
