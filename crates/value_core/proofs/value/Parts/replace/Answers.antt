use Rattle.std.proofs.Common.{◌<◌, Some, length, map, ap, ◌∙◌, sym, refl, arith}
use Rattle.std.specs.Prelude.{slice_get, slice_set, option_map}
use Rattle.std.proofs.lemmas.List.{map-set}
use Rattle.std.proofs.lemmas.Option.{slice_get_read}
use Rattle.value_core.specs.Datum.{list_of-data_of}
use Rattle.value_core.specs.View.{datum_of}
use Rattle.value_core.proofs.Lists.{list_in, length_in, get_in}
use Rattle.value_core.proofs.value.Parts.replace.Goals as goal

pub index_mut-requires : goal.index_mut-requires
index_mut-requires c =
    let vs = c.self.inside.items.items in
    omega (arith, c.requires, ap length (list_in vs c.args.self.now c.self.view_is), length_in vs, c.self.inside.items.ok.0)

pub returns-clause-new : goal.returns-clause-new
returns-clause-new c =
    let vs = c.self.inside.items.items in
    let i = c.args.index in
    let put = c.replace.new.dest in
    list_of-data_of (map datum_of (slice_set vs i put))
    ∙ map-set datum_of vs i put
    ∙ ap (λ v. slice_set (map datum_of vs) i (datum_of v)) c.replace.ensures.after
    ∙ ap (λ xs. slice_set xs i (datum_of c.args.value)) (sym (list_in vs c.args.self.now c.self.view_is))

pub returns-clause-old : goal.returns-clause-old
returns-clause-old c =
    let vs = c.self.inside.items.items in
    let i = c.args.index in
    let shown = list_in vs c.args.self.now c.self.view_is in
    let here : i < length vs = omega (arith, c.requires, ap length shown, length_in vs) in
    ap (λ xs. slice_get xs i) shown
    ∙ sym (get_in vs i)
    ∙ ap (option_map datum_of) (slice_get_read vs (length vs) i c.index_mut.result.now refl here c.index_mut.ensures.value)
    ∙ ap (λ v. Some (datum_of v)) (sym c.replace.ensures.value)
