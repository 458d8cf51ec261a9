-- So a faultless run keeps to the bound, and ends where it may have more events.
use Rattle.std.proofs.Common.{◌≡◌, ◌≤◌, ◌<◌, ◌⊎◌, ◌+◌, ◌*◌, ◌/◌, inl, inr, ⊎_elim, ℕ, zero, suc, List, [], ◌∷◌, length, refl, sym, ap, subst, arith}
use Rattle.orca_base.specs.declared.limits.TheConstants.{BURST_TURNS}
use Rattle.world_rules.specs.declared.event.Step.{Step}
use Rattle.world_rules.specs.declared.standing.Standing.{Standing}
use Rattle.world_rules.specs.declared.standing.Standing.TheVariants.{Limit, OutOfTurns, OutOfEvents, NoGroup, Faulted, Blocked, Finished, Going}
use Rattle.world_rules.specs.Frame.{Frame}
use Rattle.world_rules.specs.Standings.{process_count, standing}
use Rattle.world_rules.specs.Worlds.{World}
use Rattle.world_facts.specs.Logs.{longest_below, longest_log}
use Rattle.world_facts.specs.Rows.{NoneSpent}
use Rattle.world_enough.specs.Bound.{AsksCost, Ends, IsOutOfTurns, all_turns, bound_by, calls_of, most_events}
use Rattle.world_enough.specs.Faultless.{LeadsFaultless}
use Rattle.world_enough.specs.Paid.{IsSpent}
use Rattle.world_enough.proofs.Paying.{Facts, Lore, spent_begun}

longest_most : (n m : ℕ) (w : World) → m < n → length (w.nodes m).member.log ≤ longest_below n w
longest_most zero m w low = absurd (omega (arith, low))
longest_most (suc n) m w low = ⊎_elim
    (λ (o : m < n). let r = longest_most n m w o in omega (arith, r))
    (λ (o : m ≡ n). let e = ap (λ (k : ℕ). length (w.nodes k).member.log) o in omega (arith, e)) (split n m low)
  where
    split : (n m : ℕ) → m < suc n → (m < n) ⊎ (m ≡ n)
    split n m l = grind arith

times : (n a b : ℕ) → a ≤ b → n * (a + 1) ≤ n * (b + 1)
times n a b l = grind arith

more_events : (f : Frame) (w : World) (each : ℕ) → 0 < f.settings.nodes → AsksCost f each → most_events each f w ≤ bound_by (each + 2) f w
more_events f w each some (inl e) = subst (λ (k : ℕ). most_events k f w ≤ bound_by (k + 2) f w) (sym e)
    (two (f.settings.nodes * (length (w.nodes 0).member.log + 1)) (f.settings.nodes * (longest_log f w + 1)) (calls_of f w) (process_count f w) (all_turns f w / BURST_TURNS)
    (times f.settings.nodes (length (w.nodes 0).member.log) (longest_log f w) (longest_most f.settings.nodes 0 w some)))
  where
    two : (a b c p t : ℕ) → a ≤ b → (6 * a + 2 * c) + ((2 * c + p) + t) ≤ (6 * b + (2 + 2) * c) + (t + p)
    two a b c p t h = omega (arith, h)
more_events f w each some (inr e) = subst (λ (k : ℕ). most_events k f w ≤ bound_by (k + 2) f w) (sym e.1)
    (none (f.settings.nodes * (length (w.nodes 0).member.log + 1)) (f.settings.nodes * (longest_log f w + 1)) (calls_of f w) (process_count f w) (all_turns f w / BURST_TURNS)
    (times f.settings.nodes (length (w.nodes 0).member.log) (longest_log f w) (longest_most f.settings.nodes 0 w some)))
  where
    none : (a b c p t : ℕ) → a ≤ b → (6 * a + 0 * c) + ((2 * c + p) + t) ≤ (6 * b + (0 + 2) * c) + (t + p)
    none a b c p t h = omega (arith, h)

not_spent : (f : Frame) (w : World) → Lore f → Facts f w → IsSpent f w → NoneSpent f w → ⊥
not_spent f w lore facts s none =
    let less = none s.number s.process (spent_begun f w lore facts s) s.computes in
    let t = s.turns in
    absurd (omega (arith, less, t))

spent_stands : (f : Frame) (w : World) → Lore f → Facts f w → IsSpent f w → (s : Standing) → standing f w ≡ s → IsOutOfTurns s
spent_stands f w lore facts spent (Limit what number) e = tt
spent_stands f w lore facts spent OutOfTurns e = tt
spent_stands f w lore facts spent OutOfEvents e = not_spent f w lore facts spent ((lore.reads w).says OutOfEvents e).1
spent_stands f w lore facts spent NoGroup e = not_spent f w lore facts spent ((lore.reads w).says NoGroup e).1
spent_stands f w lore facts spent Faulted e = not_spent f w lore facts spent ((lore.reads w).says Faulted e).0.turns
spent_stands f w lore facts spent Blocked e = not_spent f w lore facts spent ((lore.reads w).says Blocked e).0.turns
spent_stands f w lore facts spent Finished e = not_spent f w lore facts spent ((lore.reads w).says Finished e).0.turns
spent_stands f w lore facts spent Going e = not_spent f w lore facts spent ((lore.reads w).says Going e).0.turns

abbrev pub Kept : Frame → World → ℕ → ℕ → Type 0
Kept f w n most = (n ≤ most) ⊎ (IsSpent f w × (n ≤ most + 1))

less : (n a b d : ℕ) → n ≤ a + d → a ≤ b → n ≤ b + d
less n a b d h k = omega (arith, h, k)

pub is_bounded : (f : Frame) (w : World) (n each : ℕ) → Lore f → Facts f w → 0 < f.settings.nodes → AsksCost f each → Kept f w n (most_events each f w) →
    (n ≤ bound_by (each + 2) f w) ⊎ (IsOutOfTurns (standing f w) × (n ≤ bound_by (each + 2) f w + 1))
is_bounded f w n each lore facts some cost (inl h) = inl (through n (most_events each f w) (bound_by (each + 2) f w) h (more_events f w each some cost))
  where
    through : (n a b : ℕ) → n ≤ a → a ≤ b → n ≤ b
    through n a b h k = omega (arith, h, k)
is_bounded f w n each lore facts some cost (inr h) =
    inr (spent_stands f w lore facts h.0 (standing f w) refl, less n (most_events each f w) (bound_by (each + 2) f w) 1 h.1 (more_events f w each some cost))

pub steps_are : (f : Frame) (w v : World) (steps : List Step) → LeadsFaultless f w steps v → v.steps ≡ w.steps + length steps
steps_are f w v [] h = let e = ap (λ (z : World). z.steps) h in omega (arith, e)
steps_are f w v (step ∷ steps) h =
    let e = ap (λ (z : World). z.steps) h.1.after in
    let r = steps_are f h.0 v steps h.3 in
    omega (arith, e, r)

pub ends : (f : Frame) (w : World) (n each : ℕ) → Lore f → Facts f w → 0 < f.settings.nodes → AsksCost f each → (standing f w ≡ NoGroup → ⊥) → w.steps ≡ n → Kept f w n (most_events each f w) →
    bound_by (each + 2) f w < f.settings.events → (s : Standing) → standing f w ≡ s → Ends s
ends f w n each lore facts some cost group same kept few OutOfEvents e =
    let row = (lore.reads w).says OutOfEvents e in
    ⊎_elim
    (λ (o : n ≤ most_events each f w). absurd (clash n (most_events each f w) (bound_by (each + 2) f w) f.settings.events w.steps o (more_events f w each some cost) few row.2 same))
    (λ (o : IsSpent f w × (n ≤ most_events each f w + 1)). not_spent f w lore facts o.0 row.1) kept
  where
    clash : (n a b events steps : ℕ) → n ≤ a → a ≤ b → b < events → events ≤ steps → steps ≡ n → ⊥
    clash n a b events steps h k l g e = absurd (omega (arith, h, k, l, g, e))
ends f w n each lore facts some cost group same kept few NoGroup e = group e
ends f w n each lore facts some cost group same kept few (Limit what number) e = tt
ends f w n each lore facts some cost group same kept few OutOfTurns e = tt
ends f w n each lore facts some cost group same kept few Faulted e = tt
ends f w n each lore facts some cost group same kept few Blocked e = tt
ends f w n each lore facts some cost group same kept few Finished e = tt
ends f w n each lore facts some cost group same kept few Going e = tt
