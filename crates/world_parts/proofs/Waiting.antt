-- Who waits in a queue, as the table of standings counts it.
use Rattle.std.proofs.Common.{◌≡◌, ◌≤◌, ◌∙◌, ◌↔◌, ◌==◌, IsTrue, ℕ, zero, suc, Bool, true, false, List, [], ◌∷◌, Some, slice_get, ap, subst, refl, arith, ltb}
use Rattle.std.specs.Bool.{one_answer}
use Rattle.std.proofs.lemmas.Bool.{eqb-true, eqb-false, lt-ltb}
use Rattle.std.proofs.lemmas.Option.{slice_get-get_or}
use Rattle.orca_base.specs.declared.ids.ProcessNo.{ProcessNo}
use Rattle.guard_queue.specs.declared.queue.Suspended.{Suspended}
use Rattle.guard_queue.specs.Waits.{IsWaiting}
use Rattle.book_law.specs.Singles.{waiting}
use Rattle.book_law.proofs.Lists.{in_at, in_waits, one_other, waiting-cons}
use Rattle.world_rules.specs.Standings.{waits_in}

-- a call of the process is one that is counted
counted : (queue : List Suspended) (i : ProcessNo) → IsWaiting queue i → 1 ≤ waiting i.0 queue
counted queue i h =
    let call = h.1 in
    let found : slice_get queue h.0 ≡ Some call = slice_get-get_or queue h.0 call h.2 ∙ ap (λ (c : Suspended). Some c) h.3 in
    subst (λ (j : ProcessNo). 1 ≤ waiting j.0 queue) h.4 (in_waits call queue (in_at call queue h.0 found))

-- and where one is counted there is one
there : (queue : List Suspended) (i : ProcessNo) → 1 ≤ waiting i.0 queue → IsWaiting queue i
there [] i h = absurd (omega (arith, h))
there (call ∷ calls) i h = go (call.process.0 == i.0) refl (there calls i)
  where
    go : (b : Bool) → (call.process.0 == i.0) ≡ b → (1 ≤ waiting i.0 calls → IsWaiting calls i) → IsWaiting (call ∷ calls) i
    go true is rest = (0, call, omega arith, refl, ap (λ (n : ℕ). record { 0 = n }) (eqb-true call.process.0 i.0 is))
    go false is rest =
        let a = waiting-cons i.0 call calls in
        let b = one_other call.process.0 i.0 (eqb-false call.process.0 i.0 is) in
        let k = rest (omega (arith, h, a, b)) in
        (suc k.0, k.1, omega (arith, k.2), k.3, k.4)

some_of : (n : ℕ) → ltb 0 n ≡ true → 1 ≤ n
some_of zero is = absurd (cc is)
some_of (suc n) is = omega arith

-- so who says whether it waits, says what is counted
pub waits_so : (queue : List Suspended) (i : ProcessNo) (b : Bool) → IsTrue b ↔ IsWaiting queue i → b ≡ waits_in i.0 queue
waits_so queue i b h =
    one_answer b (waits_in i.0 queue) (h.0, h.1)
    ((λ is. there queue i (some_of (waiting i.0 queue) is)), (λ k. lt-ltb 0 (waiting i.0 queue) (omega (arith, counted queue i k))))
