use Rattle.std.proofs.Common.{◌≡◌, ◌∙◌, ◌++◌, ◌∷◌, [], List, ap, sym, arith, rules, append-nil, append_assoc}
use Rattle.std.specs.Vec.Iter.{into_iter_items}
use Rattle.book_law.specs.declared.placing.Placed.{Placed}
use Rattle.node_core.proofs.Reaching.{empty_left, none_left, some_left}
use Rattle.world_parts.proofs.Keeping.{one_more}
use Rattle.world_parts.specs.Recorded.{of_pieces}
use Rattle.world_parts.specs.declared.ledger.Piece.{Piece}
use Rattle.world_parts.specs.declared.ledger.Piece.TheVariants.{One}
use Rattle.world_core.proofs.draft.keep_aside.Goals as goal

pub aside-init : goal.aside-init
aside-init c =
    let all : into_iter_items c.into_iter-placed-iterator.result ≡ c.args.aside.items = search rules in
    ap (λ (l : List Placed). of_pieces c.args.pieces.now.items ++ l) all

pub aside-preserved : goal.aside-preserved
aside-preserved c =
    let left = (some_left c.next.result c.in-Some.placed _ _ c.in-Some.is c.next.ensures.steps).0 in
    ap (λ (l : List Piece). of_pieces l ++ into_iter_items c.next.new.self) c.in_ok-push.ensures.items
    ∙ ap (λ (l : List Placed). l ++ into_iter_items c.next.new.self) (one_more c.aside.pieces.items (One c.in-Some.placed))
    ∙ append_assoc (of_pieces c.aside.pieces.items) (c.in-Some.placed ∷ []) (into_iter_items c.next.new.self)
    ∙ ap (λ (l : List Placed). of_pieces c.aside.pieces.items ++ l) (sym left) ∙ c.aside.invariant

pub returns : goal.returns
returns c =
    let over = (none_left c.next.result _ _ c.in-None.is c.next.ensures.steps).0 in
    let whole = c.aside.placed-iterator.rest.ok.0 in
    let none = empty_left (into_iter_items c.aside.placed-iterator) (omega (arith, over, whole)) in
    sym (append-nil (of_pieces c.aside.pieces.items)) ∙ ap (λ (l : List Placed). of_pieces c.aside.pieces.items ++ l) (sym none) ∙ c.aside.invariant
