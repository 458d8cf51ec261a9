use Rattle.std.proofs.Common.{◌≡◌, ◌+◌, ◌∙◌, ◌++◌, List, ap, sym, arith, rules, length, append-nil}
use Rattle.std.specs.Vec.Iter.{into_iter_items}
use Rattle.value_core.specs.declared.message.Message.{Message}
use Rattle.node_core.proofs.Reaching.{empty_left, none_left, some_left}
use Rattle.world_core.specs.Drafting.{behind}
use Rattle.world_core.proofs.Keeping.{kept_next}
use Rattle.world_core.proofs.draft.keep_messages.Goals as goal

pub messages-init : goal.messages-init
messages-init c =
    let all : into_iter_items c.into_iter-message-iterator.result ≡ c.args.messages.items = search rules in
    (ap (λ (l : List Message). c.args.entries.now.items ++ behind c.args.known c.args.applied l) all, ap (λ (l : List Message). c.args.applied + length l) all)

pub overflow_add-place : goal.overflow_add-place
overflow_add-place c =
    let left = (some_left c.next.result c.in-Some.message _ _ c.in-Some.is c.next.ensures.steps).0 in
    omega (arith, c.messages.invariant.1, ap length left, c.requires)

pub messages-preserved : goal.messages-preserved
messages-preserved c =
    let left = (some_left c.next.result c.in-Some.message _ _ c.in-Some.is c.next.ensures.steps).0 in (
      kept_next c.args.known c.messages.place _ c.in-Some.message _ _ c.messages.entries.items _ _ (omega arith) left c.messages.invariant.0 c.in_ok-keep_message.ensures,
      omega (arith, c.messages.invariant.1, ap length left),
    )

pub returns : goal.returns
returns c =
    let over = (none_left c.next.result _ _ c.in-None.is c.next.ensures.steps).0 in
    let whole = c.messages.message-iterator.rest.ok.0 in
    let none = empty_left (into_iter_items c.messages.message-iterator) (omega (arith, over, whole)) in
    sym (append-nil c.messages.entries.items) ∙ ap (λ (l : List Message). c.messages.entries.items ++ behind c.args.known c.messages.place l) (sym none) ∙ c.messages.invariant.0
