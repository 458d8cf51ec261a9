use Rattle.std.proofs.Common.{◌<◌, length, map, ap, ◌∙◌, sym, refl, arith}
use Rattle.std.specs.Prelude.{slice_get, remove, option_map}
use Rattle.std.proofs.lemmas.Option.{slice_get_read}
use Rattle.value_core.specs.Datum.{list_of-data_of}
use Rattle.value_core.specs.View.{datum_of}
use Rattle.value_core.proofs.Lists.{list_in, length_in, get_in, remove_in}
use Rattle.value_core.proofs.value.Parts.remove.Goals as goal

pub remove-requires : goal.remove-requires
remove-requires c =
    let vs = c.self.inside.items.items in
    omega (arith, c.requires, ap length (list_in vs c.args.self.now c.self.view_is), length_in vs, c.self.inside.items.ok.0)

pub returns-clause-new : goal.returns-clause-new
returns-clause-new c =
    let vs = c.self.inside.items.items in
    let i = c.args.index in
    list_of-data_of (map datum_of c.remove.new.self.items)
    ∙ ap (map datum_of) c.remove.ensures.items
    ∙ remove_in vs i
    ∙ ap (λ xs. remove xs i) (sym (list_in vs c.args.self.now c.self.view_is))

pub returns-clause-old : goal.returns-clause-old
returns-clause-old c =
    let vs = c.self.inside.items.items in
    let i = c.args.index in
    let shown = list_in vs c.args.self.now c.self.view_is in
    let here : i < length vs = omega (arith, c.requires, ap length shown, length_in vs) in
    ap (λ xs. slice_get xs i) shown
    ∙ sym (get_in vs i)
    ∙ ap (option_map datum_of) (slice_get_read vs (length vs) i c.remove.result refl here c.remove.ensures.value)
