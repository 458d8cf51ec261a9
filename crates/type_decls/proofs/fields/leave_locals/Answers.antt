use Rattle.std.proofs.Common.{ℕ, ◌+◌, Bool, cond, ◌||◌, List, Option, drop, sym, ap, ◌∙◌}
use Rattle.std.specs.Prelude.{bytes_eq}
use Rattle.std.specs.Borrow.{Bor}
use Rattle.orca_tree.specs.declared.tree.Name.{Name}
use Rattle.type_rules.specs.Rules.{is_among}
use Rattle.type_rules.specs.Scopes.{texts}
use Rattle.type_exprs.specs.declared.scope.Local.{Local}
use Rattle.type_forms.specs.Seen.{lent}
use Rattle.type_forms.proofs.Loops.{bytes_turned, rest_is}
use Rattle.type_tables.specs.Entries.{entry}
use Rattle.type_decls.proofs.Leaving.{back_step}
use Rattle.type_decls.proofs.fields.leave_locals.Goals as goal

pub own-preserved : goal.own-preserved
own-preserved c = λ n.
    let left = is_among (texts (lent (drop (c.own.name-index + 1) c.args.own.now))) n in
    let f = entry c.args.fields.now n in
    let o = entry c.own.locals n in
    let x = c.name-item.result.now.text in
    ap (λ (b : Option Local). cond left f b) ((c.in_ok-take_local.ensures {u = tt}) n ∙ ap (λ (v : List ℕ). cond (bytes_eq v n) f o) c.as_str.ensures)
    ∙ back_step (bytes_eq x n) left f o
    ∙ ap (λ (b : Bool). cond (b || left) f o) (bytes_turned x n)
    ∙ ap (λ (l : List (Bor Name)). cond (is_among (texts (lent l)) n) f o) (sym (rest_is c.args.own.now c.own.name-index c.name-item.result c.own-test.true c.name-item.is))
    ∙ c.own.invariant n
