use Rattle.std.proofs.Common.{◌≡◌, ◌+◌, ◌∙◌, ◌++◌, List, ap, sym, arith, rules, length, append-nil}
use Rattle.std.specs.Vec.Iter.{into_iter_items}
use Rattle.value_core.specs.declared.action.Line.{Line}
use Rattle.node_core.proofs.Reaching.{empty_left, none_left, some_left}
use Rattle.world_core.specs.Drafting.{lines_behind}
use Rattle.world_core.proofs.Keeping.{lines_next}
use Rattle.world_parts.specs.Recorded.{of_pieces}
use Rattle.world_core.proofs.draft.keep_lines.Goals as goal

pub entries-init : goal.entries-init
entries-init c =
    let all : into_iter_items c.into_iter-lines-iterator.result ≡ c.args.all.items = search rules in
    (ap (λ (l : List (List Line)). of_pieces c.args.pieces.now.items ++ lines_behind c.args.known c.args.applied l) all, ap (λ (l : List (List Line)). c.args.applied + length l) all)

pub overflow_add-place : goal.overflow_add-place
overflow_add-place c =
    let left = (some_left c.next.result c.in-Some.lines _ _ c.in-Some.is c.next.ensures.steps).0 in
    omega (arith, c.entries.invariant.1, ap length left, c.requires)

pub entries-preserved : goal.entries-preserved
entries-preserved c =
    let left = (some_left c.next.result c.in-Some.lines _ _ c.in-Some.is c.next.ensures.steps).0 in (
      lines_next c.args.known c.entries.place _ c.in-Some.lines _ _ (of_pieces c.entries.pieces.items) _ _ (omega arith) left c.entries.invariant.0 c.in_ok-keep_entry.ensures,
      omega (arith, c.entries.invariant.1, ap length left),
    )

pub returns : goal.returns
returns c =
    let over = (none_left c.next.result _ _ c.in-None.is c.next.ensures.steps).0 in
    let whole = c.entries.lines-iterator.rest.ok.0 in
    let none = empty_left (into_iter_items c.entries.lines-iterator) (omega (arith, over, whole)) in
    sym (append-nil (of_pieces c.entries.pieces.items)) ∙ ap (λ (l : List (List Line)). of_pieces c.entries.pieces.items ++ lines_behind c.args.known c.entries.place l) (sym none) ∙ c.entries.invariant.0
