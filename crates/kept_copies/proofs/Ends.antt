-- The kept ends of processes are the world's.
use Rattle.std.proofs.Common.{◌≡◌, ◌∙◌, ◌<◌, ◌≤◌, ℕ, zero, suc, List, [], ◌∷◌, length, Some, None, ap, sym, refl, arith}
use Rattle.std.specs.Prelude.{slice_get, option_map}
use Rattle.std.proofs.lemmas.List.{length-map}
use Rattle.std.proofs.lemmas.Option.{slice_get-map, slice_get_within}
use Rattle.world_rules.specs.Frame.{Frame}
use Rattle.world_rules.specs.Standings.{process_count}
use Rattle.world_rules.specs.Worlds.{World}
use Rattle.world_facts.specs.Ends as facts
use Rattle.world_facts.specs.Ends.{EndsStand, process_end, process_ends}
use Rattle.run_ends.specs.Telling.{AreProcessEnds, on_process_end}
use Rattle.run_ends.specs.declared.ends.ProcessEnd.{ProcessEnd}

-- what stands below the length, and behind it
pub get_below : {A : Type 0} (xs : List A) (k : ℕ) → k < length xs → (x : A) × (slice_get xs k ≡ Some x)
get_below [] k lt = absurd (omega (arith, lt))
get_below (x ∷ xs) zero lt = (x, refl)
get_below (x ∷ xs) (suc k) lt = get_below xs k (omega (arith, lt))

pub past_end : {A : Type 0} (xs : List A) (k : ℕ) → slice_get xs k ≡ None → length xs ≤ k
past_end [] k e = omega arith
past_end (x ∷ xs) zero e = absurd (cc e)
past_end (x ∷ xs) (suc k) e = let rest = past_end xs k e in omega (arith, rest)

-- the kept end of process i is the world's
pub end_is : (f : Frame) (w : World) (ends : List ProcessEnd) (i : ℕ) (end : ProcessEnd) → AreProcessEnds f w ends → EndsStand f w → slice_get ends i ≡ Some end →
    (i < process_count f w) × (on_process_end end ≡ process_end f w i)
end_is f w ends i end are stand at =
    let here : slice_get (process_ends f w) i ≡ Some (on_process_end end) =
    ap (λ (l : List facts.ProcessEnd). slice_get l i) (sym are) ∙ slice_get-map on_process_end ends i ∙ ap (option_map on_process_end) at in
    let count = stand.processes in
    let within = slice_get_within (process_ends f w) i (on_process_end end) here in
    let lt : i < process_count f w = omega (arith, within, count) in
    (lt, the_some (sym here ∙ stand.process i lt))
  where
    the_some : {A : Type 0} {x y : A} → Some x ≡ Some y → x ≡ y
    the_some e = cc e

-- there are as many
pub count_is : (f : Frame) (w : World) (ends : List ProcessEnd) → AreProcessEnds f w ends → EndsStand f w → length ends ≡ process_count f w
count_is f w ends are stand = sym (length-map ends on_process_end) ∙ ap length are ∙ stand.processes
