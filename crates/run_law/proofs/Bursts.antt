-- A burst may be computed on what a member's objects were at an earlier place.
use Rattle.std.proofs.Common.{◌≡◌, ◌<◌, ℕ, List, length, refl, sym, ap, ◌∙◌, arith}
use Rattle.std.proofs.lemmas.Option.{slice_get_within}
use Rattle.value_core.specs.declared.message.Message.{Message}
use Rattle.book_law.specs.Book.{copies_at}
use Rattle.world_rules.specs.declared.event.Step.{Step}
use Rattle.world_rules.specs.Frame.{Frame}
use Rattle.world_rules.specs.Processes.{processes_in}
use Rattle.world_rules.specs.Standings.{process_count}
use Rattle.world_rules.specs.Steps.{Replays}
use Rattle.world_rules.specs.Worlds.{World, home_of, singles_in}
use Rattle.world_facts.specs.Rows.{NoneSpent}
use Rattle.world_law.specs.Holds.{Holds}
use Rattle.world_course.specs.Corresponds.{IsOf, Stands}
use Rattle.world_book.specs.Following.{HasCourse}
use Rattle.world_book.specs.Promise.{IsKept}
use Rattle.world_book.proofs.Kept.{stands_for}
use Rattle.node_rules.specs.Conditions.{Fitness}
use Rattle.world_calls.proofs.Bursting.{burst_fits_on}
use Rattle.run_law.specs.Earlier.{BurstsFitEarlier, view_at}
use Rattle.run_law.proofs.Events.{Laws, RunLaws}

pub bursts_earlier : (f : Frame) (fitness : Fitness) → Laws f fitness → (steps : List Step) (w : World) → Replays f steps w → NoneSpent f w → BurstsFitEarlier f fitness w
bursts_earlier f fitness laws steps w replays spent i r here computes n after before =
    burst_fits_on f fitness (singles_in f w) w h.course m i (view_at f (w.nodes m) n) r laws.program st here computes
    (spent i.0 r (record { exists = exists; here = here }) computes) after (let e = holds.grouped.level m in omega (arith, before, e))
    (kept.views m n before ∙ ap (λ (l : List Message). (copies_at (singles_in f w) f.performs l n).objects) (sym h.list))
  where
    m : ℕ
    m = home_of f w i.0

    runs : RunLaws f
    runs = laws.runs

    holds : Holds f w
    holds = runs.holds steps w replays

    kept : IsKept f w
    kept = runs.kept steps w replays

    h : HasCourse f (singles_in f w) w
    h = runs.follows steps w replays (singles_in f w) (λ o lt. refl)

    st : Stands f (singles_in f w) w h.course
    st = stands_for f (singles_in f w) w h

    of : IsOf f h.course m i.0
    of = st.played m i.0 r here

    exists : i.0 < process_count f w
    exists =
        let lt = slice_get_within (processes_in f h.course.list) i.0 of.begun of.there in
        let same : process_count f w ≡ length (processes_in f h.course.list) = ap (λ (l : List Message). length (processes_in f l)) (sym h.list) in
        omega (arith, lt, same)
