use Rattle.std.proofs.Common.{Option, map, sym, ap, ◌∙◌}
use Rattle.std.specs.Prelude.{option_map}
use Rattle.std.specs.Borrow.{Bor}
use Rattle.orca_tree.specs.declared.tree.Head as tree
use Rattle.orca_syntax.specs.Shown.{head}
use Rattle.type_rules.specs.Order.{least}
use Rattle.type_decls.proofs.Rows.{lacks_one, lacks_there}
use Rattle.type_decls.proofs.specifications.lacks.Goals as goal

pub returns-in-Some : goal.returns-in-Some
returns-in-Some c =
    c.breaks.ensures
    ∙ ap least
    (sym (lacks_there (map head c.args.heads.now) c.args.count
    ∙ ap lacks_one (sym c.head_at.ensures ∙ ap (λ (o : Option (Bor tree.Head)). option_map (λ h. head h.now) o) c.in-Some.is)))

pub returns-in-None : goal.returns-in-None
returns-in-None c =
    ap least
    (sym (lacks_there (map head c.args.heads.now) c.args.count
    ∙ ap lacks_one (sym c.head_at.ensures ∙ ap (λ (o : Option (Bor tree.Head)). option_map (λ h. head h.now) o) c.in-None.is)))
