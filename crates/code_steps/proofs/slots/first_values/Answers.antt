use Rattle.std.proofs.Common.{ap, map, sym, take, ◌∙◌}
use Rattle.std.proofs.lemmas.List.{take-map}
use Rattle.value_core.specs.View.{datum_of}
use Rattle.code_steps.proofs.slots.first_values.Goals as goal

pub returns : goal.returns
returns c =
    ap (map datum_of) c.truncate.ensures.items ∙ sym (take-map datum_of c.args.count c.into_vec-values.result.items) ∙ ap (take c.args.count) (c.into_vec-values.ensures ∙ c.in_ok-into_values.ensures {u = tt})
