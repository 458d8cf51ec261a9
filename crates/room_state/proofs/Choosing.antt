-- The process that is handed out, as the processes are looked through.
use Rattle.std.proofs.Common.{◌≡◌, ◌∙◌, ◌<◌, ◌≤◌, ◌⊎◌, ◌==◌, ◌&&◌, ◌||◌, not, nat_lt, inl, inr, ⊎_elim, ℕ, suc, Bool, true, false, List, Option, Some, None, IfNone, IfSome, ap, sym, subst, refl, arith, if◌then◌else◌}
use Rattle.std.proofs.lemmas.Bool.{and_cases, and_parts, cases_eq, eqb-true, eqb-false, ltb-true, ltb-false, not-true, not-false, or_cases, or_parts, true≢false}
use Rattle.orca_base.specs.declared.ids.ProcessNo.{ProcessNo}
use Rattle.world_rules.specs.Frame.{Frame}
use Rattle.world_rules.specs.Standings.{process_count}
use Rattle.world_rules.specs.Worlds.{World, home_of}
use Rattle.world_parts.specs.Choosing.{is_ready}
use Rattle.world_parts.specs.Seen.{Of, Seen}
use Rattle.room_state.specs.Stated.{IsChosen, NoneReady, goes_before, tasks_of}

-- ---- which of two goes first

goes : (a b x y h : ℕ) → (nat_lt a b || ((a == b) && ((x == h) && not (y == h)))) ≡ true → (a < b) ⊎ ((a ≡ b) × (x ≡ h) × (y ≡ h → ⊥))
goes a b x y h is = ⊎_elim
    (λ (e : nat_lt a b ≡ true). inl (ltb-true a b e))
    (λ (e : ((a == b) && ((x == h) && not (y == h))) ≡ true).
    let p = and_parts (a == b) ((x == h) && not (y == h)) e in
    let q = and_parts (x == h) (not (y == h)) p.1 in
    inr (eqb-true a b p.0, eqb-true x h q.0, eqb-false y h (not-true (y == h) q.1)))
    (or_cases (nat_lt a b) ((a == b) && ((x == h) && not (y == h))) is)

record Stays (a b x y h : ℕ) : Type 0 where
  fewest : b ≤ a
  at_home : a ≡ b → x ≡ h → y ≡ h

stays_home : (a b x y h : ℕ) → ((a == b) && ((x == h) && not (y == h))) ≡ false → a ≡ b → x ≡ h → y ≡ h
stays_home a b x y h fails same at = ⊎_elim
    (λ (e : (a == b) ≡ false). absurd (eqb-false a b e same))
    (λ (e : ((x == h) && not (y == h)) ≡ false).
    ⊎_elim (λ (g : (x == h) ≡ false). absurd (eqb-false x h g at)) (λ (g : not (y == h) ≡ false). eqb-true y h (not-false (y == h) g)) (and_cases (x == h) (not (y == h)) e))
    (and_cases (a == b) ((x == h) && not (y == h)) fails)

stays : (a b x y h : ℕ) → (nat_lt a b || ((a == b) && ((x == h) && not (y == h)))) ≡ false → Stays a b x y h
stays a b x y h is =
    let p = or_parts (nat_lt a b) ((a == b) && ((x == h) && not (y == h))) is in
    record { fewest = ltb-false a b p.0; at_home = stays_home a b x y h p.1 }

-- ---- one process more

module _ {S : Type 0} (f : Frame) (s : Seen S) (tasks : List ℕ) (home : ℕ) where
  module _ (w : World) (n i : ℕ) (c : IsChosen f s w tasks home n i) (ready : is_ready f s w n ≡ true) where
    newer : goes_before f w tasks home n i ≡ true → IsChosen f s w tasks home (suc n) n
    newer is =
        let first = goes (tasks_of tasks n) (tasks_of tasks i) (home_of f w n) (home_of f w i) home is in
        record {
          below = omega arith;
          ready = ready;
          fewest = λ j lt r. ⊎_elim
              (λ (e : j ≡ n). let same = ap (tasks_of tasks) e in omega (arith, same))
              (λ apart. let few = c.fewest j (omega (arith, lt, apart)) r in ⊎_elim (λ less. omega (arith, few, less)) (λ same. let e = same.0 in omega (arith, few, e)) first)
              (cases_eq j n);
          at_home = λ j lt r same at. ⊎_elim
              (λ (e : j ≡ n). subst (λ (k : ℕ). home_of f w k ≡ home) e at)
              (λ apart. let few = c.fewest j (omega (arith, lt, apart)) r in ⊎_elim (λ less. absurd (omega (arith, few, less, same))) (λ both. both.1) first)
              (cases_eq j n);
          lowest = λ j lt r same near. ⊎_elim
              (λ (e : j ≡ n). omega (arith, e))
              (λ apart. let few = c.fewest j (omega (arith, lt, apart)) r in ⊎_elim (λ less. absurd (omega (arith, few, less, same)))
              (λ both. absurd (both.2 (c.at_home j (omega (arith, lt, apart)) r (same ∙ both.0) (near both.1)))) first)
              (cases_eq j n);
        }

    older : goes_before f w tasks home n i ≡ false → IsChosen f s w tasks home (suc n) i
    older fails =
        let kept = stays (tasks_of tasks n) (tasks_of tasks i) (home_of f w n) (home_of f w i) home fails in
        let low = c.below in
        record {
          below = omega (arith, low);
          ready = c.ready;
          fewest = λ j lt r. ⊎_elim
              (λ (e : j ≡ n). let same = ap (tasks_of tasks) e in let few = kept.fewest in omega (arith, same, few))
              (λ apart. c.fewest j (omega (arith, lt, apart)) r)
              (cases_eq j n);
          at_home = λ j lt r same at. ⊎_elim
              (λ (e : j ≡ n). kept.at_home (sym (ap (tasks_of tasks) e) ∙ same) (subst (λ (k : ℕ). home_of f w k ≡ home) e at))
              (λ apart. c.at_home j (omega (arith, lt, apart)) r same at)
              (cases_eq j n);
          lowest = λ j lt r same near. ⊎_elim
              (λ (e : j ≡ n). omega (arith, e, low))
              (λ apart. c.lowest j (omega (arith, lt, apart)) r same near)
              (cases_eq j n);
        }

    pub better : (b : Bool) (process first one : ProcessNo) → process.0 ≡ n → first.0 ≡ i → b ≡ goes_before f w tasks home n i → one ≡ (if b then process else first) → IsChosen f s w tasks home (suc n) one.0
    better true process first one p q is which = subst (λ (k : ℕ). IsChosen f s w tasks home (suc n) k) (sym (ap (λ (o : ProcessNo). o.0) which ∙ p)) (newer (sym is))
    better false process first one p q is which = subst (λ (k : ℕ). IsChosen f s w tasks home (suc n) k) (sym (ap (λ (o : ProcessNo). o.0) which ∙ q)) (older (sym is))

  -- the first that is ready
  pub only : (w : World) (n : ℕ) → ((i : ℕ) → i < n → is_ready f s w i ≡ false) → is_ready f s w n ≡ true → IsChosen f s w tasks home (suc n) n
  only w n none ready = record {
    below = omega arith;
    ready = ready;
    fewest = λ j lt r. ⊎_elim (λ (e : j ≡ n). let same = ap (tasks_of tasks) e in omega (arith, same)) (λ apart. absurd (true≢false (sym r ∙ none j (omega (arith, lt, apart))))) (cases_eq j n);
    at_home = λ j lt r same at. ⊎_elim (λ (e : j ≡ n). subst (λ (k : ℕ). home_of f w k ≡ home) e at) (λ apart. absurd (true≢false (sym r ∙ none j (omega (arith, lt, apart))))) (cases_eq j n);
    lowest = λ j lt r same near. ⊎_elim (λ (e : j ≡ n). omega (arith, e)) (λ apart. absurd (true≢false (sym r ∙ none j (omega (arith, lt, apart))))) (cases_eq j n);
  }

  -- ---- what was found among the processes below this number

  pub record Found (found : Option ProcessNo) (n : ℕ) : Type 0 where
    pub chosen : IfSome found (λ i. Of f s (λ w. IsChosen f s w tasks home n i.0))
    pub none : IfNone found (Of f s (λ w. (i : ℕ) → i < n → is_ready f s w i ≡ false))

  pub found_first : Found None 0
  found_first = record { chosen = tt; none = λ w led i lt. absurd (omega (arith, lt)) }

  found_by : (found : Option ProcessNo) (one process : ProcessNo) → IfSome found (λ i. Of f s (λ w. IsChosen f s w tasks home process.0 i.0))
      → IfNone found (Of f s (λ w. (i : ℕ) → i < process.0 → is_ready f s w i ≡ false)) → Of f s (λ w. is_ready f s w process.0 ≡ true) → (found ≡ None → one ≡ process)
      → ((i : ProcessNo) → found ≡ Some i → Of f s (λ w. one ≡ (if goes_before f w tasks home process.0 i.0 then process else i))) → Of f s (λ w. IsChosen f s w tasks home (suc process.0) one.0)
  found_by None one process chosen none ready first better_one = λ w led.
      subst (λ (k : ProcessNo). IsChosen f s w tasks home (suc process.0) k.0) (sym (first refl)) (only w process.0 (none w led) (ready w led))
  found_by (Some i) one process chosen none ready first better_one = λ w led.
      better w process.0 i.0 (chosen w led) (ready w led) (goes_before f w tasks home process.0 i.0) process i one refl refl refl (better_one i refl w led)

  -- this one is ready
  pub found_ready : (found : Option ProcessNo) (next : ℕ) (one process : ProcessNo) → suc process.0 ≡ next → Found found process.0 → Of f s (λ w. is_ready f s w process.0 ≡ true) → (found ≡ None → one ≡ process)
      → ((i : ProcessNo) → found ≡ Some i → Of f s (λ w. one ≡ (if goes_before f w tasks home process.0 i.0 then process else i))) → Found (Some one) next
  found_ready found next one process e h ready first better_one = record {
    chosen = subst (λ (n : ℕ). Of f s (λ w. IsChosen f s w tasks home n one.0)) e (found_by found one process h.chosen h.none ready first better_one);
    none = tt;
  }

  -- one that isn't ready takes nothing away
  passed : (w : World) (n i : ℕ) → IsChosen f s w tasks home n i → is_ready f s w n ≡ false → IsChosen f s w tasks home (suc n) i
  passed w n i c not_ready =
      let low = c.below in
      record {
        below = omega (arith, low);
        ready = c.ready;
        fewest = λ j lt r. ⊎_elim (λ (e : j ≡ n). absurd (true≢false (sym r ∙ ap (is_ready f s w) e ∙ not_ready))) (λ apart. c.fewest j (omega (arith, lt, apart)) r) (cases_eq j n);
        at_home = λ j lt r same at. ⊎_elim (λ (e : j ≡ n). absurd (true≢false (sym r ∙ ap (is_ready f s w) e ∙ not_ready))) (λ apart. c.at_home j (omega (arith, lt, apart)) r same at) (cases_eq j n);
        lowest = λ j lt r same near. ⊎_elim (λ (e : j ≡ n). absurd (true≢false (sym r ∙ ap (is_ready f s w) e ∙ not_ready))) (λ apart. c.lowest j (omega (arith, lt, apart)) r same near) (cases_eq j n);
      }

  found_still : (found : Option ProcessNo) (n : ℕ) → Found found n → Of f s (λ w. is_ready f s w n ≡ false) → Found found (suc n)
  found_still None n h not_ready = record {
    chosen = tt;
    none = λ w led i lt. ⊎_elim (λ (e : i ≡ n). ap (is_ready f s w) e ∙ not_ready w led) (λ apart. h.none w led i (omega (arith, lt, apart))) (cases_eq i n);
  }
  found_still (Some one) n h not_ready = record { chosen = λ w led. passed w n one.0 (h.chosen w led) (not_ready w led); none = tt }

  pub found_not : (found : Option ProcessNo) (n next : ℕ) → suc n ≡ next → Found found n → Of f s (λ w. is_ready f s w n ≡ false) → Found found next
  found_not found n next e h not_ready = subst (Found found) e (found_still found n h not_ready)

  -- these are all
  pub found_all : (found : Option ProcessNo) (n : ℕ) → Of f s (λ w. n ≡ process_count f w) → Found found n → IfSome found (λ i. Of f s (λ w. IsChosen f s w tasks home (process_count f w) i.0))
  found_all None n all h = tt
  found_all (Some one) n all h = λ w led. subst (λ (k : ℕ). IsChosen f s w tasks home k one.0) (all w led) (h.chosen w led)

  pub found_none : (found : Option ProcessNo) (n : ℕ) → Of f s (λ w. n ≡ process_count f w) → Found found n → IfNone found (Of f s (NoneReady f s))
  found_none None n all h = λ w led i lt. h.none w led i (let most = all w led in omega (arith, lt, most))
  found_none (Some one) n all h = tt
