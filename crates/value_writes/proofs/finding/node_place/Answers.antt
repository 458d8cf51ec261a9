use Rattle.std.proofs.Common.{◌≡◌, false, ap, ◌∙◌, sym, subst, arith}
use Rattle.std.specs.Int.{cast_unsigned, w64}
use Rattle.std.proofs.lemmas.Int.{to_z-of_z}
use Rattle.value_core.specs.View.{datum_of}
use Rattle.graph_values.specs.Graphs.{is_named, name_in}
use Rattle.graph_values.specs.Places.{Parted}
use Rattle.value_writes.proofs.Names.{other_word, same_word, stands_at, stands_behind, stands_nowhere}
use Rattle.value_writes.proofs.finding.node_place.Goals as goal

pub returns-then-name_of-name : goal.returns-then-name_of-name
returns-then-name_of-name c =
    let found = (c.in-Some.ensures {u = tt}).lookup in
    let same = same_word c.name_of.result c.args.name (record { sfits = c.name_of.type_inv }) c.ranges.name c.if-name_of-name.true in
    let spot = subst (λ z. Parted z c.args.nodes.now c.nodes_before-place.result) (to_z-of_z w64 c.args.name c.ranges.name) c.nodes_before-place.ensures.parted in
    stands_at c.args.name c.args.nodes.now c.nodes_before-place.result c.in-Some.node.now c.requires spot found.3.0 found.1 (sym c.name_of.ensures ∙ same)

pub returns-else-name_of-name : goal.returns-else-name_of-name
returns-else-name_of-name c =
    let found = (c.in-Some.ensures {u = tt}).lookup in
    let spot = subst (λ z. Parted z c.args.nodes.now c.nodes_before-place.result) (to_z-of_z w64 c.args.name c.ranges.name) c.nodes_before-place.ensures.parted in
    let apart : is_named c.args.name (datum_of c.in-Some.node.now) ≡ false =
    other_word (name_in (datum_of c.in-Some.node.now)) c.args.name (λ bits. c.if-name_of-name.false (ap (cast_unsigned w64) c.name_of.ensures ∙ bits)) in
    stands_nowhere c.args.name c.args.nodes.now c.nodes_before-place.result c.in-Some.node.now c.requires spot found.3.0 found.1 apart

pub returns-in-None : goal.returns-in-None
returns-in-None c =
    let gone = (c.in-None.ensures {u = tt}).lookup in
    let spot = subst (λ z. Parted z c.args.nodes.now c.nodes_before-place.result) (to_z-of_z w64 c.args.name c.ranges.name) c.nodes_before-place.ensures.parted in
    stands_behind c.args.name c.args.nodes.now c.nodes_before-place.result c.requires spot (omega (arith, gone))
