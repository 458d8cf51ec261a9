use Rattle.std.proofs.Common.{[], ◌∷◌, ◌++◌, ap, ◌∙◌}
use Rattle.std.specs.Int.{w64}
use Rattle.std.proofs.lemmas.Int.{to_z-of_z}
use Rattle.value_core.specs.Datum as datum
use Rattle.value_core.specs.Datum.{list_of}
use Rattle.value_core.specs.View.{datum_of}
use Rattle.frame_variables.proofs.Pairing.{pair_is}
use Rattle.frame_variables.proofs.graphs.pair_of.Goals as goal

pub returns : goal.returns
returns c =
    let one = (c.in_ok-push.ensures {u = tt}).ok ∙ ap (λ z. list_of c.new-fields.result ++ datum.int z ∷ []) (to_z-of_z w64 c.args.first c.ranges.first) in
    pair_is c.new-fields.result c.push.new.self c.push-2.new.self c.in_ok-new.field-0 (datum.int c.args.first) (datum_of c.args.second)
    c.new-fields.ensures one (c.in_ok-push-2.ensures {u = tt}).ok (c.in_ok-new.ensures {u = tt})
