use Rattle.std.proofs.Common.{ℕ, List, sym, ap, ◌∙◌}
use Rattle.std.specs.Prelude.{bytes_eq}
use Rattle.std.proofs.lemmas.Map.Text.{btree_map_updates_str}
use Rattle.std.proofs.lemmas.Slice.Eq.{bytes_eq-Decides}
use Rattle.type_forms.specs.Seen.{has}
use Rattle.type_tables.specs.Entries.{entry}
use Rattle.type_decls.proofs.Leaving.{taken_out}
use Rattle.type_decls.proofs.fields.take_name.Goals as goal

pub returns-then-not-holds : goal.returns-then-not-holds
returns-then-not-holds c = λ n.
    taken_out (bytes_eq c.args.name.now n) (has c.args.fields.now n) (entry c.args.names.now n) (entry c.remove.new.self n)
    (btree_map_updates_str _ c.args.names.now c.remove.new.self _ c.remove.ensures.updates n)
    (λ e. ap (λ (v : List ℕ). has c.args.fields.now v) (sym ((bytes_eq-Decides c.args.name.now n).0 e)) ∙ sym c.holds.ensures ∙ c.if-not-holds.true)
