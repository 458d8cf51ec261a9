-- How many tasks of each process were handed out.
use Rattle.std.proofs.Common.{◌≡◌, ◌∙◌, ◌<◌, ◌+◌, ◌-◌, ◌^◌, ◌==◌, ⊎_elim, min, ℕ, zero, suc, Bool, true, false, List, [], ◌∷◌, ◌++◌, length, ap, sym, refl, if◌then◌else◌}
use Rattle.std.specs.Prelude.{slice_set}
use Rattle.std.proofs.lemmas.Bool.{cases_eq, eq-eqb, ne_eqb}
use Rattle.std.proofs.lemmas.List.{get_or-set_other, get_or-set_same}
use Rattle.orca_base.specs.declared.ids.ProcessNo.{ProcessNo}
use Rattle.room_state.specs.Stated.{HasCounted, tasks_of}

-- a place more, with none, says nothing new
pub none_more : (tasks : List ℕ) (i : ℕ) → tasks_of (tasks ++ 0 ∷ []) i ≡ tasks_of tasks i
none_more [] zero = refl
none_more [] (suc i) = refl
none_more (n ∷ tasks) zero = refl
none_more (n ∷ tasks) (suc i) = none_more tasks i

if_same : (b : Bool) (x y z : ℕ) → b ≡ true → z ≡ x → z ≡ (if b then x else y)
if_same true x y z e same = same
if_same false x y z e same = absurd (cc e)

if_other : (b : Bool) (x y z : ℕ) → b ≡ false → z ≡ y → z ≡ (if b then x else y)
if_other true x y z e same = absurd (cc e)
if_other false x y z e same = same

-- one more at its place
pub one_more : (process : ProcessNo) (tasks : List ℕ) (more : ℕ) → process.0 < length tasks → more ≡ min (tasks_of tasks process.0 + 1) (2 ^ 32 - 1) → HasCounted process tasks (slice_set tasks process.0 more)
one_more process tasks more lt is = λ i. ⊎_elim
    (λ (e : i ≡ process.0). if_same (i == process.0) (min (tasks_of tasks i + 1) (2 ^ 32 - 1)) (tasks_of tasks i) (tasks_of (slice_set tasks process.0 more) i) (eq-eqb i process.0 e)
    (ap (tasks_of (slice_set tasks process.0 more)) e ∙ get_or-set_same tasks process.0 more 0 lt ∙ is ∙ ap (λ (k : ℕ). min (tasks_of tasks k + 1) (2 ^ 32 - 1)) (sym e)))
    (λ apart. if_other (i == process.0) (min (tasks_of tasks i + 1) (2 ^ 32 - 1)) (tasks_of tasks i) (tasks_of (slice_set tasks process.0 more) i) (ne_eqb i process.0 apart)
    (get_or-set_other tasks process.0 i more 0 apart))
    (cases_eq i process.0)

-- counted after room was made
pub counted_after : (process : ProcessNo) (old roomy new : List ℕ) → ((i : ℕ) → tasks_of roomy i ≡ tasks_of old i) → HasCounted process roomy new → HasCounted process old new
counted_after process old roomy new same counted = λ i. counted i ∙ ap (λ (k : ℕ). if i == process.0 then min (k + 1) (2 ^ 32 - 1) else k) (same i)
