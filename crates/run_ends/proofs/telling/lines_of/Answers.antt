use Rattle.std.proofs.Common.{◌≡◌, ◌∙◌, ◌++◌, ◌∷◌, [], List, map, ap, sym, arith, rules, append-nil, append_assoc}
use Rattle.std.specs.Vec.Iter.{into_iter_items}
use Rattle.value_core.specs.declared.action.Line.{Line}
use Rattle.book_law.specs.declared.placing.Placed.{Placed}
use Rattle.node_core.proofs.Reaching.{empty_left, none_left, some_left}
use Rattle.run_ends.proofs.telling.lines_of.Goals as goal

pub lines-init : goal.lines-init
lines-init c =
    let all : into_iter_items c.into_iter-placed-iterator.result ≡ c.args.performed.items = search rules in
    ap (λ (l : List Line). l ++ map (λ (r : Placed). r.line) (into_iter_items c.into_iter-placed-iterator.result)) c.new-lines.ensures.items ∙ ap (map (λ (r : Placed). r.line)) all

pub lines-preserved : goal.lines-preserved
lines-preserved c =
    let left = (some_left c.next.result c.in-Some.placed _ _ c.in-Some.is c.next.ensures.steps).0 in
    ap (λ (l : List Line). l ++ map (λ (r : Placed). r.line) (into_iter_items c.next.new.self)) (c.in_ok-push.ensures {u = tt}).items ∙ append_assoc c.lines.lines.items (c.in-Some.placed.line ∷ []) (map (λ (r : Placed). r.line) (into_iter_items c.next.new.self))
    ∙ ap (λ (l : List Placed). c.lines.lines.items ++ map (λ (r : Placed). r.line) l) (sym left) ∙ c.lines.invariant

pub returns : goal.returns
returns c =
    let over = (none_left c.next.result _ _ c.in-None.is c.next.ensures.steps).0 in
    let whole = c.lines.placed-iterator.rest.ok.0 in
    let none = empty_left (into_iter_items c.lines.placed-iterator) (omega (arith, over, whole)) in
    sym (append-nil c.lines.lines.items) ∙ ap (λ (l : List Placed). c.lines.lines.items ++ map (λ (r : Placed). r.line) l) (sym none) ∙ c.lines.invariant
