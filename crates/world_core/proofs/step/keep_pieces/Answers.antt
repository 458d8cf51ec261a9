use Rattle.std.proofs.Common.{◌≡◌, arith, rules}
use Rattle.std.specs.Vec.Iter.{into_iter_items}
use Rattle.node_core.proofs.Reaching.{empty_left, none_left, some_left}
use Rattle.world_core.proofs.Storing.{done_first, done_more, done_over, done_room}
use Rattle.world_core.proofs.step.keep_pieces.Goals as goal

pub pieces-init : goal.pieces-init
pieces-init c =
    let all : into_iter_items c.into_iter-piece-iterator.result ≡ c.args.pieces.items = search rules in
    done_first c.args.pieces.items _ c.args.ledger.now all

pub push_piece-requires : goal.push_piece-requires
push_piece-requires c =
    let left = (some_left c.next.result c.in-Some.piece _ _ c.in-Some.is c.next.ensures.steps).0 in
    done_room c.args.pieces.items _ _ c.in-Some.piece c.args.ledger.now c.pieces.ledger left c.requires c.pieces.invariant

pub pieces-preserved : goal.pieces-preserved
pieces-preserved c =
    let left = (some_left c.next.result c.in-Some.piece _ _ c.in-Some.is c.next.ensures.steps).0 in
    done_more c.args.pieces.items _ _ c.in-Some.piece c.args.ledger.now c.pieces.ledger _ left c.requires c.push_piece.ensures c.pieces.invariant

pub returns : goal.returns
returns c =
    let over = (none_left c.next.result _ _ c.in-None.is c.next.ensures.steps).0 in
    let whole = c.pieces.piece-iterator.rest.ok.0 in
    done_over c.args.pieces.items _ c.args.ledger.now c.pieces.ledger (empty_left (into_iter_items c.pieces.piece-iterator) (omega (arith, over, whole))) c.pieces.invariant
