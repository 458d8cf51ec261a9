use Rattle.std.proofs.Common.{subst}
use Rattle.std.specs.Prelude.{IfOk}
use Rattle.orca_base.specs.declared.place.Place.{Place}
use Rattle.orca_syntax.specs.Shown.{expr, path}
use Rattle.type_rules.specs.Expressions.{gathering, typed, walked, written_root}
use Rattle.type_rules.specs.Statements.{changes}
use Rattle.type_forms.specs.Finding.{FirstOf}
use Rattle.type_stmts.proofs.changes.change_breach.Goals as goal

pub returns : goal.returns
returns c = λ w s.
    let d = c.args.of.now in
    let e = typed w (expr c.args.element.now) in
    let all = walked w (written_root w 38 d.name) (path d.path.items) in
    subst (λ (p : Place). IfOk c.changes.result (λ o. FirstOf o (changes p e (gathering d.name.at all)))) c.place_of.ensures
    (c.changes.ensures e (gathering d.name.at all) ((c.in_ok-found.ensures {u = tt}) w s) (c.gathering.ensures all ((c.in_ok-all.ensures {u = tt}) w s)))
