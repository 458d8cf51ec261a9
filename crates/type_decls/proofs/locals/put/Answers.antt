use Rattle.std.proofs.lemmas.Map.Text.{btree_map_updates_str}
use Rattle.type_decls.proofs.locals.put.Goals as goal

pub returns : goal.returns
returns c = λ n. btree_map_updates_str _ c.args.locals.now c.insert.new.self _ (c.in_ok-insert.ensures {u = tt}).updates n
