use Rattle.std.proofs.Common.{ℕ, List, sym, ap, ◌∙◌}
use Rattle.std.specs.Prelude.{bytes_eq, is_some}
use Rattle.std.proofs.lemmas.Map.Text.{btree_map_updates_str}
use Rattle.std.proofs.lemmas.Slice.Eq.{bytes_eq-Decides}
use Rattle.type_tables.specs.Entries.{entry}
use Rattle.type_tables.proofs.Noted.{kept, noted}
use Rattle.type_tables.proofs.entries.note.Goals as goal

pub returns-in_ok-insert : goal.returns-in_ok-insert
returns-in_ok-insert g c = λ n.
    btree_map_updates_str _ c.args.table.now c.insert.new.self _ (c.in_ok-insert.ensures {u = tt}).updates n
    ∙ noted {X = g.row.T.Denot} (bytes_eq c.args.name.now n) (entry c.args.table.now n) c.args.value
    (λ e. ap (λ (v : List ℕ). is_some (entry c.args.table.now v)) (sym ((bytes_eq-Decides c.args.name.now n).0 e)) ∙ sym c.contains_key.ensures ∙ c.if-not-contains_key.true)

pub returns-else-not-contains_key : goal.returns-else-not-contains_key
returns-else-not-contains_key g c = λ n.
    kept {X = g.row.T.Denot} (bytes_eq c.args.name.now n) (entry c.args.table.now n) c.args.value
    (λ e. ap (λ (v : List ℕ). is_some (entry c.args.table.now v)) (sym ((bytes_eq-Decides c.args.name.now n).0 e)) ∙ sym c.contains_key.ensures ∙ c.if-not-contains_key.false)
