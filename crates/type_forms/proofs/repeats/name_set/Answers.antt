use Rattle.std.proofs.Common.{ℕ, ◌+◌, Bool, ◌||◌, List, drop, sym, ap, ◌∙◌}
use Rattle.std.specs.Prelude.{bytes_eq}
use Rattle.std.specs.Borrow.{Bor}
use Rattle.orca_tree.specs.declared.tree.Name.{Name}
use Rattle.type_rules.specs.Rules.{is_among}
use Rattle.type_rules.specs.Scopes.{texts}
use Rattle.type_forms.specs.Seen.{has, lent}
use Rattle.type_forms.proofs.Loops.{bytes_turned, or_turn, rest_is}
use Rattle.type_forms.proofs.repeats.name_set.Goals as goal

pub names-preserved : goal.names-preserved
names-preserved c = λ n.
    let left = texts (lent (drop (c.names.name-index + 1) c.args.names.now)) in
    ap (λ (b : Bool). b || is_among left n) ((c.in_ok-add.ensures {u = tt}) n ∙ ap (λ (v : List ℕ). bytes_eq v n || has c.names.set n) c.as_str.ensures)
    ∙ or_turn (bytes_eq c.name-item.result.now.text n) (has c.names.set n) (is_among left n)
    ∙ ap (λ (b : Bool). has c.names.set n || (b || is_among left n)) (bytes_turned c.name-item.result.now.text n)
    ∙ ap (λ (l : List (Bor Name)). has c.names.set n || is_among (texts (lent l)) n) (sym (rest_is c.args.names.now c.names.name-index c.name-item.result c.names-test.true c.name-item.is))
    ∙ c.names.invariant n
