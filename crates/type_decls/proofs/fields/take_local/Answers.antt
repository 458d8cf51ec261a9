use Rattle.std.proofs.Common.{Option, None, Some, sym, ap, ◌∙◌}
use Rattle.std.specs.Prelude.{option_copied}
use Rattle.std.specs.Borrow.{Bor}
use Rattle.std.proofs.lemmas.Map.Text.{btree_map_updates_str}
use Rattle.type_rules.specs.declared.types.DataType.{DataType}
use Rattle.type_exprs.specs.declared.scope.Local.{Local}
use Rattle.type_tables.specs.Entries.{entry}
use Rattle.type_decls.proofs.Leaving.{given_back, local_of}
use Rattle.type_decls.proofs.fields.take_local.Goals as goal

pub returns-in-None : goal.returns-in-None
returns-in-None c = λ n.
    given_back c.args.name.now n (entry c.args.fields.now) (entry c.args.locals.now n) (entry c.remove.new.self n) None
    (btree_map_updates_str _ c.args.locals.now c.remove.new.self _ c.remove.ensures.updates n)
    (sym c.get.ensures.value ∙ ap (λ (o : Option (Bor Local)). option_copied o) c.in-None.is)

pub returns-in_ok-put-in-Some : goal.returns-in_ok-put-in-Some
returns-in_ok-put-in-Some c = λ n.
    given_back c.args.name.now n (entry c.args.fields.now) (entry c.args.locals.now n) (entry c.put.new.locals n) _ ((c.in_ok-put-in-Some.ensures {u = tt}) n)
    (sym c.get.ensures.value ∙ ap (λ (o : Option (Bor Local)). option_copied o) c.in-Some.is
    ∙ ap (λ (k : Option DataType). Some (local_of c.in-Some.field.now.role k)) (sym (c.in_ok-kind-in-Some.ensures {u = tt})))
