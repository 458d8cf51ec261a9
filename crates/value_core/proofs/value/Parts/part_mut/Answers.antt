use Rattle.std.proofs.Common.{◌<◌, length, ap, ◌∙◌, sym, refl, arith}
use Rattle.std.specs.Prelude.{slice_get, slice_set, option_map}
use Rattle.std.proofs.lemmas.List.{map-set}
use Rattle.std.proofs.lemmas.Option.{slice_get_read}
use Rattle.value_core.specs.Datum.{data_of}
use Rattle.value_core.specs.View.{datum_of}
use Rattle.value_core.proofs.Lists.{list_in, length_in, get_in}
use Rattle.value_core.proofs.value.Parts.part_mut.Goals as goal

pub index_mut-requires : goal.index_mut-requires
index_mut-requires c =
    let vs = c.self.inside.items.items in
    omega (arith, c.requires, ap length (list_in vs c.args.self.now c.self.view_is), length_in vs, c.self.inside.items.ok.0)

pub returns : goal.returns
returns c =
    let vs = c.self.inside.items.items in
    let i = c.args.index in
    let shown = list_in vs c.args.self.now c.self.view_is in
    let here : i < length vs = omega (arith, c.requires, ap length shown, length_in vs) in (
      (refl, λ w. ap data_of (map-set datum_of vs i w ∙ ap (λ xs. slice_set xs i (datum_of w)) (sym shown))),
      record {
        writes_back = tt;
        value =
            ap (λ xs. slice_get xs i) shown
            ∙ sym (get_in vs i)
            ∙ ap (option_map datum_of) (slice_get_read vs (length vs) i c.index_mut.result.now refl here c.index_mut.ensures.value);
      },
    )
