use Rattle.std.proofs.Common.{◌||◌, ◌∙◌}
use Rattle.orca_syntax.specs.Shown.{expr, path}
use Rattle.meaning_rules.specs.Classes.{changes, names_field, path_changes}
use Rattle.access_analysis.proofs.Changing.{or_behind, or_own}
use Rattle.access_analysis.proofs.Fields.{either_grouped}
use Rattle.access_analysis.proofs.statements.assign_changes.Goals as goal

pub returns-then-root : goal.returns-then-root
returns-then-root c = λ w s.
    let root = names_field w c.args.to.now.name in
    let inside = path_changes w (path c.args.to.now.path.items) in
    let own = changes w (expr c.args.value.now) in
    or_own c.root_changes-root.result (root || inside) own c.if-root.true (c.root_changes-root.ensures w s) ∙ either_grouped root inside own

pub returns-else-root : goal.returns-else-root
returns-else-root c = λ w s.
    let root = names_field w c.args.to.now.name in
    let inside = path_changes w (path c.args.to.now.path.items) in
    let own = changes w (expr c.args.value.now) in
    or_behind c.root_changes-root.result c.changes-own.result (root || inside) own c.if-root.false (c.root_changes-root.ensures w s) (c.changes-own.ensures w s)
    ∙ either_grouped root inside own
