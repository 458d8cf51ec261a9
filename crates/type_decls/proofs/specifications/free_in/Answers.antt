use Rattle.std.proofs.Common.{List, [], map, ap, ◌∙◌}
use Rattle.orca_tree.specs.declared.tree.Name.{Name}
use Rattle.orca_tree.specs.declared.tree.TypedName as tree
use Rattle.orca_syntax.specs.Shown.{typed_name}
use Rattle.type_rules.specs.Order.{least}
use Rattle.type_rules.specs.Declarations.{are_free}
use Rattle.type_forms.specs.Seen.{lent}
use Rattle.type_decls.proofs.specifications.free_in.Goals as goal

pub returns : goal.returns
returns c = λ us ctx.
    c.are_free.ensures us ctx.tables.typed.forms.names [] ctx.none
    ∙ ap (λ (ns : List Name). least (are_free us c.args.home.now [] ns))
    (ap lent c.deref-2.ensures.value ∙ c.in_ok-names.ensures {u = tt} ∙ ap (λ (l : List tree.TypedName). map (λ t. t.name) (map typed_name l)) c.deref.ensures.value)
