use Rattle.std.proofs.Common.{ℕ, ◌+◌, List, cond, Some, None, map, drop, find, ap, ◌∙◌}
use Rattle.std.specs.Prelude.{bytes_eq}
use Rattle.orca_tree.specs.declared.tree.Head as tree
use Rattle.orca_syntax.specs.Shown.{head}
use Rattle.type_rules.specs.Scopes.{operation_signature}
use Rattle.type_forms.proofs.Loops.{rest_is}
use Rattle.type_tables.specs.Entries.{entry, or_other}
use Rattle.type_tables.proofs.Noted.{found_step}
use Rattle.type_tables.proofs.tables.operation_table.Goals as goal

pub heads-preserved : goal.heads-preserved
heads-preserved c = λ us t n.
    let x = c.head-item.result in
    found_step (bytes_eq x.name.text n) (entry c.heads.table n) (entry c.note.new.table n) _ c.in_ok-own.own (operation_signature us c.args.home.now) (head x)
    (find (λ h. bytes_eq h.name.text n) (map head (drop (c.heads.head-index + 1) c.args.heads.now)))
    (find (λ h. bytes_eq h.name.text n) (map head (drop c.heads.head-index c.args.heads.now)))
    ((c.in_ok-note.ensures {u = tt}) n ∙ ap (λ (m : List ℕ). or_other (entry c.heads.table n) (cond (bytes_eq m n) (Some c.in_ok-own.own) None)) c.as_str.ensures)
    ((c.in_ok-own.ensures {u = tt}) us t)
    (ap (λ (l : List tree.Head). find (λ h. bytes_eq h.name.text n) (map head l))
    (rest_is c.args.heads.now c.heads.head-index x c.heads-test.true c.head-item.is))
    (c.heads.invariant us t n)
