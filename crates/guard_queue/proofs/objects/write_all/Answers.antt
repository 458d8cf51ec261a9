use Rattle.std.proofs.Common.{◌≡◌, ◌∷◌, ◌∙◌, Some, ap, arith, drop, length, sym}
use Rattle.std.specs.Prelude.{slice_get}
use Rattle.guard_queue.specs.Shown.{shown}
use Rattle.guard_queue.proofs.Ready.{from_suc}
use Rattle.guard_queue.proofs.Writes.{shown_first}
use Rattle.guard_queue.proofs.objects.write_all.Goals as goal

pub writes-preserved : goal.writes-preserved
writes-preserved c =
    let items = c.writes.recent.items in
    let w = c.in-Some.write.now in
    let there : slice_get items 0 ≡ Some w = sym (c.in-Some.ensures.value ∙ ap (λ ws. slice_get ws 0) c.deref.ensures.value) in
    let first : items ≡ w ∷ drop 1 items = from_suc items 0 w there in
    let rest = c.remove.ensures.items in
    let longer = ap length first in
    let shorter = ap length rest in
    let few = c.writes.invariant.1 in (
      ap (shown c.insert.new.self) rest ∙ shown_first c.writes.map c.insert.new.self items (drop 1 items) w c.in_ok-try_clone.field-0 first (c.in_ok-insert.ensures {u = tt}).entries (c.in_ok-try_clone.ensures {u = tt}) ∙ c.writes.invariant.0,
      omega (arith, longer, shorter, few),
    )
