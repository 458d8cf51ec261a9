use Rattle.std.proofs.Common.{length, map, ap, ◌∙◌, sym, arith}
use Rattle.std.specs.Prelude.{insert}
use Rattle.value_core.specs.Datum.{list_of-data_of}
use Rattle.value_core.specs.View.{datum_of}
use Rattle.value_core.proofs.Lists.{list_in, length_in, insert_in}
use Rattle.value_core.proofs.value.Parts.insert.Goals as goal

pub insert-requires : goal.insert-requires
insert-requires c =
    let vs = c.self.inside.items.items in
    omega (arith, c.requires, ap length (list_in vs c.args.self.now c.self.view_is), length_in vs, c.self.inside.items.ok.0)

pub returns-clause-ok : goal.returns-clause-ok
returns-clause-ok c =
    let vs = c.self.inside.items.items in
    let i = c.args.index in
    list_of-data_of (map datum_of c.insert.new.self.items)
    ∙ ap (map datum_of) (c.in_ok-insert.ensures {u = tt}).items
    ∙ insert_in vs i c.args.value
    ∙ ap (λ xs. insert xs i (datum_of c.args.value)) (sym (list_in vs c.args.self.now c.self.view_is))
