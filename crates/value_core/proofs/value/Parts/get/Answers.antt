use Rattle.std.proofs.Common.{ap, ◌∙◌, sym}
use Rattle.std.specs.Prelude.{slice_get, option_map}
use Rattle.value_core.specs.View.{datum_of}
use Rattle.value_core.proofs.Lists.{list_in, get_in, found_in}
use Rattle.value_core.proofs.value.Parts.get.Goals as goal

pub returns : goal.returns
returns c =
    let vs = c.self.inside.items.items in
    let i = c.args.index in
    ap (option_map datum_of) (found_in c.deref.result.now i c.get.result c.get.ensures.lookup.3 ∙ ap (λ xs. slice_get xs i) c.deref.ensures.value)
    ∙ get_in vs i
    ∙ ap (λ xs. slice_get xs i) (sym (list_in vs c.args.self.now c.self.view_is))
