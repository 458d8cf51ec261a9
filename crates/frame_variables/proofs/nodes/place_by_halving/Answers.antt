use Rattle.std.proofs.Common.{sym, ◌∙◌, arith}
use Rattle.std.specs.Int.{w64}
use Rattle.std.proofs.lemmas.Int.{to_z-of_z}
use Rattle.frame_variables.proofs.Naming.{halved_named, halved_other, halved_past}
use Rattle.frame_variables.proofs.nodes.place_by_halving.Goals as goal

pub returns-then-is_named : goal.returns-then-is_named
returns-then-is_named c =
    let found = (c.in-Some.ensures {u = tt}).lookup in
    halved_named c.args.name _ c.args.values.now c.count_before-place.result c.in-Some.value.now (to_z-of_z w64 c.args.name c.ranges.name) c.requires.named c.count_before-place.ensures.parted found.3.0 found.1
    (sym c.is_named.ensures ∙ c.if-is_named.true)

pub returns-else-is_named : goal.returns-else-is_named
returns-else-is_named c =
    let found = (c.in-Some.ensures {u = tt}).lookup in
    halved_other c.args.name _ c.args.values.now c.count_before-place.result c.in-Some.value.now (to_z-of_z w64 c.args.name c.ranges.name) c.requires.named c.count_before-place.ensures.within c.count_before-place.ensures.parted c.requires.rising found.3.0 found.1
    (sym c.is_named.ensures ∙ c.if-is_named.false)

pub returns-in-None : goal.returns-in-None
returns-in-None c =
    let gone = (c.in-None.ensures {u = tt}).lookup in
    halved_past c.args.name _ c.args.values.now c.count_before-place.result (to_z-of_z w64 c.args.name c.ranges.name) c.requires.named c.count_before-place.ensures.within c.count_before-place.ensures.parted c.requires.rising (omega (arith, gone))
