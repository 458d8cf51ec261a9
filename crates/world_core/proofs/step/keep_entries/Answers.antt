use Rattle.std.proofs.Common.{◌≡◌, arith, rules}
use Rattle.std.specs.Vec.Iter.{into_iter_items}
use Rattle.node_core.proofs.Reaching.{empty_left, none_left, some_left}
use Rattle.world_core.proofs.Storing.{kept_first, kept_more, kept_over, kept_room}
use Rattle.world_core.proofs.step.keep_entries.Goals as goal

pub entries-init : goal.entries-init
entries-init c =
    let all : into_iter_items c.into_iter-entry-iterator.result ≡ c.args.entries.items = search rules in
    kept_first c.args.entries.items _ c.args.ledger.now all

pub push_entry-requires : goal.push_entry-requires
push_entry-requires c =
    let left = (some_left c.next.result c.in-Some.entry _ _ c.in-Some.is c.next.ensures.steps).0 in
    kept_room c.args.entries.items _ _ c.in-Some.entry c.args.ledger.now c.entries.ledger left c.requires c.entries.invariant

pub entries-preserved : goal.entries-preserved
entries-preserved c =
    let left = (some_left c.next.result c.in-Some.entry _ _ c.in-Some.is c.next.ensures.steps).0 in
    kept_more c.args.entries.items _ _ c.in-Some.entry c.args.ledger.now c.entries.ledger _ left c.requires c.push_entry.ensures c.entries.invariant

pub returns : goal.returns
returns c =
    let over = (none_left c.next.result _ _ c.in-None.is c.next.ensures.steps).0 in
    let whole = c.entries.entry-iterator.rest.ok.0 in
    kept_over c.args.entries.items _ c.args.ledger.now c.entries.ledger (empty_left (into_iter_items c.entries.entry-iterator) (omega (arith, over, whole))) c.entries.invariant
