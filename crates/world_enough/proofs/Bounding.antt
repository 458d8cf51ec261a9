-- The number of bursts and acts.
use Rattle.std.proofs.Common.{◌≡◌, ◌≤◌, ◌<◌, ◌⊎◌, ◌*◌, ◌+◌, ◌/◌, inl, inr, ℕ, suc, List, [], ◌∷◌, length, take, length-take, Some, refl, ap, arith}
use Rattle.orca_base.specs.declared.limits.TheConstants.{BURST_TURNS}
use Rattle.value_core.specs.declared.action.Line.{Line}
use Rattle.value_core.specs.declared.action.Reply.{Reply}
use Rattle.book_law.specs.Events.{lines_by, replies_to}
use Rattle.world_rules.specs.Frame.{Frame}
use Rattle.world_rules.specs.Nodes.{known}
use Rattle.world_rules.specs.Played.{Played}
use Rattle.world_rules.specs.Processes.{processes_in}
use Rattle.world_rules.specs.Standings.{process_count}
use Rattle.world_rules.specs.Worlds.{Book, World, agreed, applied_at, home_of, played_in}
use Rattle.world_law.specs.Lists.{OneList}
use Rattle.world_enough.specs.Bound.{calls_of, most_work, all_turns}
use Rattle.world_enough.specs.Paid.{IsPaid, IsSpent, weight_in}
use Rattle.world_enough.proofs.Paying.{Facts, Lore, counted_in}
use Rattle.world_enough.proofs.Summing.{IsPlayedWell, divided, weight_most}

exists_at : (f : Frame) (w : World) → Lore f → Facts f w → (i : ℕ) (r : Played) → played_in f w i ≡ Some r → i < process_count f w
exists_at f w lore facts i r here =
    let m : ℕ = home_of f w i in
    let low : m < f.settings.nodes = lore.homes w i in
    let known_low = (facts.holds.home m).known_here i r here in
    let one : OneList f w = lore.lists.one w facts.holds.grouped in
    let e : length (known f (w.nodes m)) ≡ length (processes_in f (applied_at w m)) = ap (λ z. length (processes_in f z)) (one.copies m low) in
    let n = counted_in f lore.begins (applied_at w m) (agreed f w) (one.begin m low) in
    omega (arith, known_low, e, n)

length_replies : (lines : List Line) → length (replies_to lines) ≡ length lines
length_replies [] = refl
length_replies (l ∷ lines) = ap suc (length_replies lines)

fewer_replies : (xs : List Reply) (lines : List Line) → xs ≡ take (length xs) (replies_to lines) → length xs ≤ length lines
fewer_replies xs lines e =
    let a = ap length e in
    let b = length-take (length xs) (replies_to lines) in
    let c = length_replies lines in
    omega (arith, a, b, c)

pub played_well : (f : Frame) (w : World) → Lore f → Facts f w →
    ((m i : ℕ) (r : Played) → (w.nodes m).played i ≡ Some r → r.replies ≡ take (length r.replies) (replies_to (lines_by i (Book f w)))) → IsPlayedWell f w
played_well f w lore facts replies = record {
  home = λ m i r here. lore.home.home w m i r facts.holds.grouped facts.holds.home here;
  exists = exists_at f w lore facts;
  replies = λ i r here. fewer_replies r.replies (lines_by i (Book f w)) (replies (home_of f w i) i r here);
}

pub works_most : (f : Frame) (w : World) (n : ℕ) → IsPlayedWell f w → IsPaid f w n → (n ≤ most_work f w) ⊎ (IsSpent f w × (n ≤ most_work f w + 1))
works_most f w n well (inl h) = inl (divided n (2 * calls_of f w + process_count f w) (all_turns f w) (through (weight_in f w) _ _ h (weight_most f w well)))
  where
    through : (x k b : ℕ) → k ≤ x → x ≤ b → k ≤ b
    through x k b one two = omega (arith, one, two)
works_most f w n well (inr h) = inr (h.0, less n (2 * calls_of f w + process_count f w) (all_turns f w) (weight_in f w) h.1 (weight_most f w well))
  where
    less : (k a t x : ℕ) → BURST_TURNS * k ≤ x + BURST_TURNS → x ≤ BURST_TURNS * a + t → k ≤ (a + t / BURST_TURNS) + 1
    less k a t x one two = omega (arith, one, two)
