-- What the ends of processes say.
use Rattle.std.proofs.Common.{◌≡◌, ◌<◌, ◌++◌, ⊎_elim, ℕ, zero, suc, Bool, true, false, List, [], ◌∷◌, length, length-append, Option, None, Some, refl, sym, ap, ◌∙◌, arith, subst}
use Rattle.std.specs.Prelude.{slice_get}
use Rattle.std.proofs.lemmas.Bool.{cases_eq}
use Rattle.orca_base.specs.declared.fault.FaultKind.{FaultKind}
use Rattle.orca_base.specs.declared.ids.ProcessNo.{ProcessNo}
use Rattle.value_core.specs.declared.action.Action.{Action}
use Rattle.value_core.specs.declared.action.Action.TheVariants as action
use Rattle.world_rules.specs.Frame.{Frame}
use Rattle.world_rules.specs.Played.{Played, Stage, has_faulted, is_fault, is_over}
use Rattle.world_rules.specs.Played.Stage.{Computing, Acting, Submitted, Reading, Asking, Over}
use Rattle.world_rules.specs.Standings.{process_count}
use Rattle.world_rules.specs.declared.standing.Standing.TheVariants as row
use Rattle.world_rules.specs.Worlds.{World, home_of, played_in}
use Rattle.world_facts.specs.Ends.{AllEndsStand, FinishedRunsEnd, Lives, Stand, end_at, end_crashed, end_living, end_of, end_over, listed, node_end, process_end}
use Rattle.world_facts.specs.Processes.{IsPlayed, StandsAt, is_last}
use Rattle.world_facts.specs.Rows.{AllEnded, AllRest, IsBegun, IsOver, Rests, Row, SomeFaulted}
use Rattle.world_facts.proofs.Processes.{all_stand}
use Rattle.world_facts.proofs.Rows.{all_read}

-- ---- lists by numbers

listed_length : {A : Type 0} (n : ℕ) (each : ℕ → A) → length (listed n each) ≡ n
listed_length zero each = refl
listed_length (suc n) each =
    let e = length-append (listed n each) (each n ∷ []) in
    let k = listed_length n each in
    omega (arith, e, k)

get_left : {A : Type 0} (xs ys : List A) (i : ℕ) → i < length xs → slice_get (xs ++ ys) i ≡ slice_get xs i
get_left [] ys i lt = absurd (omega (arith, lt))
get_left (x ∷ xs) ys zero lt = refl
get_left (x ∷ xs) ys (suc i) lt = get_left xs ys i (omega (arith, lt))

get_end : {A : Type 0} (xs : List A) (y : A) (i : ℕ) → i ≡ length xs → slice_get (xs ++ y ∷ []) i ≡ Some y
get_end [] y zero is = refl
get_end [] y (suc i) is = absurd (omega (arith, is))
get_end (x ∷ xs) y zero is = absurd (omega (arith, is))
get_end (x ∷ xs) y (suc i) is = get_end xs y i (omega (arith, is))

listed_at : {A : Type 0} (n : ℕ) (each : ℕ → A) (i : ℕ) → i < n → slice_get (listed n each) i ≡ Some (each i)
listed_at zero each i lt = absurd (omega (arith, lt))
listed_at (suc n) each i lt =
    let long = listed_length n each in
    ⊎_elim
    (λ (e : i ≡ n). get_end (listed n each) (each n) i (omega (arith, e, long)) ∙ ap (λ k. Some (each k)) (sym e))
    (λ apart. get_left (listed n each) (each n ∷ []) i (omega (arith, lt, apart, long)) ∙ listed_at n each i (omega (arith, lt, apart)))
    (cases_eq i n)

-- ---- who lives

not_busy_over : (act : Action) → end_over act ≡ Stand.Busy → ⊥
not_busy_over (action.Make kind object) e = cc e
not_busy_over (action.Call kind op object args) e = cc e
not_busy_over (action.Fork text args place_on) e = cc e
not_busy_over action.Ended e = cc e
not_busy_over (action.Faulted fault) e = cc e

not_crashed_over : (act : Action) → end_over act ≡ Stand.Crashed → ⊥
not_crashed_over (action.Make kind object) e = cc e
not_crashed_over (action.Call kind op object args) e = cc e
not_crashed_over (action.Fork text args place_on) e = cc e
not_crashed_over action.Ended e = cc e
not_crashed_over (action.Faulted fault) e = cc e

not_busy_crashed : (stage : Stage) → end_crashed stage ≡ Stand.Busy → ⊥
not_busy_crashed Computing e = cc e
not_busy_crashed (Acting act) e = cc e
not_busy_crashed (Submitted act) e = cc e
not_busy_crashed (Reading act) e = cc e
not_busy_crashed (Asking act) e = cc e
not_busy_crashed (Over act) e = not_busy_over act e

not_crashed_living : (stage : Stage) → end_living stage ≡ Stand.Crashed → ⊥
not_crashed_living Computing e = cc e
not_crashed_living (Acting act) e = cc e
not_crashed_living (Submitted act) e = cc e
not_crashed_living (Reading act) e = cc e
not_crashed_living (Asking act) e = cc e
not_crashed_living (Over act) e = not_crashed_over act e

busy_lives : (lives : Bool) (o : Option Played) → end_of lives o ≡ Stand.Busy → lives ≡ true
busy_lives true o e = refl
busy_lives false None e = absurd (cc e)
busy_lives false (Some r) e = absurd (not_busy_crashed r.stage e)

crashed_fell : (lives : Bool) (o : Option Played) → end_of lives o ≡ Stand.Crashed → lives ≡ false
crashed_fell false o e = refl
crashed_fell true None e = absurd (cc e)
crashed_fell true (Some r) e = absurd (not_crashed_living r.stage e)

-- ---- by its stage

fault_over : (act : Action) → is_fault act ≡ true → (fault : FaultKind) × (end_over act ≡ Stand.Faulted fault)
fault_over (action.Make kind object) e = absurd (cc e)
fault_over (action.Call kind op object args) e = absurd (cc e)
fault_over (action.Fork text args place_on) e = absurd (cc e)
fault_over action.Ended e = absurd (cc e)
fault_over (action.Faulted fault) e = (fault, refl)

fault_at : (lives : Bool) (stage : Stage) → has_faulted stage ≡ true → (fault : FaultKind) × (end_at lives stage ≡ Stand.Faulted fault)
fault_at lives Computing e = absurd (cc e)
fault_at lives (Acting act) e = absurd (cc e)
fault_at lives (Submitted act) e = absurd (cc e)
fault_at lives (Reading act) e = absurd (cc e)
fault_at lives (Asking act) e = absurd (cc e)
fault_at true (Over act) e = fault_over act e
fault_at false (Over act) e = fault_over act e

waits_at : (f : Frame) (w : World) (i : ℕ) (stage : Stage) → is_over stage ≡ false → Rests f w i stage →
    (act : Action) × (end_at true stage ≡ Stand.Waits act)
waits_at f w i Computing living rests = absurd rests
waits_at f w i (Acting act) living rests = absurd rests
waits_at f w i (Submitted act) living rests = (act, refl)
waits_at f w i (Reading act) living rests = (act, refl)
waits_at f w i (Asking act) living rests = (act, refl)
waits_at f w i (Over act) living rests = absurd (cc living)

ended_over : (act : Action) → is_last act ≡ true → is_fault act ≡ false → end_over act ≡ Stand.Ended
ended_over (action.Make kind object) last sound = absurd (cc last)
ended_over (action.Call kind op object args) last sound = absurd (cc last)
ended_over (action.Fork text args place_on) last sound = absurd (cc last)
ended_over action.Ended last sound = refl
ended_over (action.Faulted fault) last sound = absurd (cc sound)

ended_at : (f : Frame) (i : ProcessNo) (r : Played) (stage : Stage) → StandsAt f i r stage → is_over stage ≡ true → has_faulted stage ≡ false →
    end_at true stage ≡ Stand.Ended
ended_at f i r Computing stands over sound = absurd (cc over)
ended_at f i r (Acting act) stands over sound = absurd (cc over)
ended_at f i r (Submitted act) stands over sound = absurd (cc over)
ended_at f i r (Reading act) stands over sound = absurd (cc over)
ended_at f i r (Asking act) stands over sound = absurd (cc over)
ended_at f i r (Over act) stands over sound = ended_over act stands.1 sound

-- ---- rows

-- a process that its member began
pub stand_is : (f : Frame) (w : World) (i : ℕ) (r : Played) (lives : Bool) → w.lives (home_of f w i) ≡ lives → played_in f w i ≡ Some r →
    (process_end f w i).stand ≡ end_at lives r.stage
stand_is f w i r lives on here =
    ap (λ b. end_of b (played_in f w i)) on ∙ ap (end_of lives) here

faulted : (f : Frame) (w : World) → SomeFaulted f w →
    (i : ℕ) × (i < process_count f w) × ((fault : FaultKind) × ((process_end f w i).stand ≡ Stand.Faulted fault))
faulted f w some =
    let r : Played = some.1 in
    let k = fault_at (w.lives (home_of f w some.0)) r.stage some.3 in
    (some.0, some.2.exists, (k.0, stand_is f w some.0 r (w.lives (home_of f w some.0)) refl some.2.here ∙ k.1))

-- who isn't over where the run is over
not_ended : (r s : Played) (o : Option Played) → o ≡ Some r → o ≡ Some s → is_over r.stage ≡ true → is_over s.stage ≡ false → ⊥
not_ended r s o one two over left =
    let found : Some r ≡ Some s = sym one ∙ two in
    let same : r ≡ s = cc in
    let e : true ≡ false = sym over ∙ ap (λ (z : Played). is_over z.stage) same ∙ left in
    cc e

resting : (f : Frame) (w : World) (i : ℕ) (r s : Played) → played_in f w i ≡ Some r → played_in f w i ≡ Some s →
    Rests f w i s.stage → Rests f w i r.stage
resting f w i r s one two rests =
    let found : Some r ≡ Some s = sym one ∙ two in
    let same : r ≡ s = cc in
    subst (λ (z : Played). Rests f w i z.stage) (sym same) rests

blocked : (f : Frame) (w : World) → IsOver f w → (i : ℕ) (r : Played) → IsBegun f w i r → w.lives (home_of f w i) ≡ true →
    is_over r.stage ≡ false → (j : ℕ) × Lives f w j × ((act : Action) × ((process_end f w j).stand ≡ Stand.Waits act))
blocked f w over i r begun lives left = ⊎_elim
    (λ (h : AllEnded f w).
    let e = h i begun.exists lives in
    absurd (not_ended e.0 r (played_in f w i) e.1.here begun.here e.2 left))
    (λ (h : AllRest f w).
    let e = h.processes i begun.exists lives in
    let k = waits_at f w i r.stage left (resting f w i r e.0 begun.here e.1.here e.2) in
    (i, (begun.exists, lives), (k.0, stand_is f w i r true lives begun.here ∙ k.1)))
    over

pub ends_stand : AllEndsStand
ends_stand f w =
    let reads = all_read f w in
    record {
      nodes = listed_length f.settings.nodes (node_end w);
      node = λ m low. listed_at f.settings.nodes (node_end w) m low;
      processes = listed_length (process_count f w) (process_end f w);
      process = λ i low. listed_at (process_count f w) (process_end f w) i low;
      busy = λ i e. busy_lives (w.lives (home_of f w i)) (played_in f w i) e;
      crashed = λ i e. crashed_fell (w.lives (home_of f w i)) (played_in f w i) e;
      faulted = λ e.
          let h : Row f w row.Faulted = reads.says row.Faulted e in
          faulted f w h.2;
      blocked = λ e.
          let h : Row f w row.Blocked = reads.says row.Blocked e in
          let one = h.3 in
          blocked f w h.1 one.0 one.1 one.2 one.3 one.4;
    }

pub finished_end : FinishedRunsEnd
finished_end f steps w replays finished i lives =
    let h : Row f w row.Finished = (all_read f w).says row.Finished finished in
    let e = h.2 i lives.0 lives.1 in
    let r : Played = e.0 in
    let played : IsPlayed f (record { 0 = i }) r = (all_stand f steps w replays).each (home_of f w i) (record { 0 = i }) r e.1.here in
    let sound : has_faulted r.stage ≡ false = h.1 i r e.1 in
    stand_is f w i r true lives.1 e.1.here ∙ ended_at f (record { 0 = i }) r r.stage played.stands e.2 sound
