use Rattle.std.proofs.Common.{ℕ, ◌+◌, Bool, ◌||◌, List, drop, sym, ap, ◌∙◌}
use Rattle.std.specs.Prelude.{bytes_eq}
use Rattle.std.specs.Borrow.{Bor}
use Rattle.orca_tree.specs.declared.tree.Name.{Name}
use Rattle.type_rules.specs.Rules.{is_among}
use Rattle.type_rules.specs.Scopes.{texts}
use Rattle.type_forms.specs.Seen.{has, lent}
use Rattle.type_forms.proofs.Loops.{bytes_turned, or_turn, rest_is}
use Rattle.type_decls.proofs.fields.enter.Goals as goal

pub own-preserved : goal.own-preserved
own-preserved c = λ n.
    let left = texts (lent (drop (c.own.name-index + 1) c.args.own.now)) in
    ap (λ (b : Bool). b || is_among left n) ((c.in_ok-add.ensures {u = tt}) n ∙ ap (λ (v : List ℕ). bytes_eq v n || has c.own.names n) c.as_str.ensures)
    ∙ or_turn (bytes_eq c.name-item.result.now.text n) (has c.own.names n) (is_among left n)
    ∙ ap (λ (b : Bool). has c.own.names n || (b || is_among left n)) (bytes_turned c.name-item.result.now.text n)
    ∙ ap (λ (l : List (Bor Name)). has c.own.names n || is_among (texts (lent l)) n) (sym (rest_is c.args.own.now c.own.name-index c.name-item.result c.own-test.true c.name-item.is))
    ∙ c.own.invariant n
