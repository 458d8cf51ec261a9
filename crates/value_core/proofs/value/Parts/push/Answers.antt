use Rattle.std.proofs.Common.{◌++◌, ◌∷◌, [], map, ap, ◌∙◌, sym}
use Rattle.value_core.specs.View.{datum_of}
use Rattle.value_core.proofs.Lists.{list_in, push_in}
use Rattle.value_core.specs.Datum.{list_of-data_of}
use Rattle.value_core.proofs.value.Parts.push.Goals as goal

pub returns-clause-ok : goal.returns-clause-ok
returns-clause-ok c =
    let vs = c.self.inside.items.items in
    list_of-data_of (map datum_of c.push.new.self.items) ∙ ap (map datum_of) (c.in_ok-push.ensures {u = tt}).items ∙ push_in vs c.args.value ∙ ap (λ r. r ++ datum_of c.args.value ∷ []) (sym (list_in vs c.args.self.now c.self.view_is))
