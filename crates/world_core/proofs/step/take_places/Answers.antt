use Rattle.std.proofs.Common.{◌≡◌, refl, arith, rules}
use Rattle.std.specs.Vec.Iter.{into_iter_items}
use Rattle.node_core.proofs.Reaching.{empty_left, none_left, some_left}
use Rattle.world_core.proofs.Storing.{taken_first, taken_more, taken_over}
use Rattle.world_core.proofs.step.take_places.Goals as goal

pub members-init : goal.members-init
members-init g c =
    let all : into_iter_items c.into_iter-part-iterator.result ≡ c.args.members.items = search rules in
    taken_first c.args.members.items _ c.args.nodes.now.items all c.requires

pub members-preserved : goal.members-preserved
members-preserved g c =
    let left = (some_left c.next.result c.in-Some.part _ _ c.in-Some.is c.next.ensures.steps).0 in
    taken_more c.args.members.items _ _ c.in-Some.part c.args.nodes.now.items c.members.nodes.items _ left refl c.members.invariant

pub returns : goal.returns
returns g c =
    let over = (none_left c.next.result _ _ c.in-None.is c.next.ensures.steps).0 in
    let whole = c.members.part-iterator.rest.ok.0 in
    taken_over c.args.members.items _ c.args.nodes.now.items c.members.nodes.items (empty_left (into_iter_items c.members.part-iterator) (omega (arith, over, whole))) c.members.invariant
