use Rattle.std.proofs.Common.{◌≡◌, ◌∙◌, ap}
use Rattle.value_core.specs.Size.{size_of}
use Rattle.value_core.specs.View.{datum_of}
use Rattle.value_ops.specs.Sizes.{told_size}
use Rattle.frame_variables.proofs.Growing.{counted_same, counted_within, told_same}
use Rattle.frame_variables.proofs.sizes.told_by.Goals as goal

pub returns-then-bound-le-VALUE_SIZE-clause-tells : goal.returns-then-bound-le-VALUE_SIZE-clause-tells
returns-then-bound-le-VALUE_SIZE-clause-tells c v is =
    let few = c.if-bound-le-VALUE_SIZE.true in
    told_same c.args.bound (size_of v) few (c.requires v is few)

pub returns-in-Some-clause-within : goal.returns-in-Some-clause-within
returns-in-Some-clause-within c v is =
    let found = (c.in-Some.ensures {u = tt}) ∙ is in
    let same : datum_of c.in-Some.value.now ≡ v = cc in
    counted_within c.size_of.result v (c.size_of.ensures ∙ ap (λ x. told_size (size_of x)) same)

pub returns-in-Some-clause-tells : goal.returns-in-Some-clause-tells
returns-in-Some-clause-tells c v is =
    let found = (c.in-Some.ensures {u = tt}) ∙ is in
    let same : datum_of c.in-Some.value.now ≡ v = cc in
    counted_same c.size_of.result (size_of v) (c.size_of.ensures ∙ ap (λ x. told_size (size_of x)) same)
