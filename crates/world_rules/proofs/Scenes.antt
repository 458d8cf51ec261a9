-- Steps that unfold lead to the world after them; and bursts of processes whose next action takes no turn.
use Rattle.std.specs.Prelude.{◌≡◌, ◌≤◌, ◌<◌, ◌+◌, ◌-◌, ℕ, IsTrue, List, [], ◌∷◌, Some, refl, true}
use Rattle.std.proofs.Common.{arith, inl}
use Rattle.orca_base.specs.declared.ids.ProcessNo.{ProcessNo}
use Rattle.value_core.specs.declared.action.Action.{Action}
use Rattle.value_core.specs.declared.action.Line.{Line}
use Rattle.value_core.specs.declared.meaning.Doing.TheVariants as doing
use Rattle.value_core.specs.declared.processor.Halt.TheVariants as halt
use Rattle.value_core.specs.History.{Objects}
use Rattle.world_rules.specs.Bursts.{Halts, Ran, is_answered, is_end, last_turn, read_line, read_on, reads_on}
use Rattle.world_rules.specs.Frame.{Frame}
use Rattle.world_rules.specs.Played.{Played, halted}
use Rattle.world_rules.specs.Scenes.{Scene, Unfolds, steps_of, world_after}
use Rattle.world_rules.specs.Played.Stage.{Computing}
use Rattle.world_rules.specs.Steps.{IsBurst, Leads, after_step, objects_after}
use Rattle.world_rules.specs.Worlds.{World, home_of, played_in}

-- the first two processes
abbrev pub first : ProcessNo
first = record { 0 = 0 }

abbrev pub second : ProcessNo
second = record { 0 = 1 }

pub leads : (f : Frame) (w : World) (scenes : List Scene) → Unfolds f w scenes → Leads f w (steps_of scenes) (world_after f w scenes)
leads f w [] h = refl
leads f w (scene ∷ scenes) h = (
  after_step f w scene.step scene.given,
  record { given = scene.given; going = h.0; possible = h.1; fates = h.2; after = refl },
  leads f (after_step f w scene.step scene.given) scenes h.3,
)

-- it is at an action before its first turn
pub at_once : (f : Frame) (i : ProcessNo) (r : Played) (last : ℕ) (act : Action) → r.turns ≤ 0 → 0 < r.turns + (last - r.turns) →
    f.computes.doing r.text i r.args r.replies 1 ≡ doing.At act → Halts f i r last 0 (halt.At act)
at_once f i r last act none some next = (0, none, some, (next, inl refl), refl)

-- and there the burst ends
pub ends : (f : Frame) (objects : Objects) (place : ℕ) (i : ProcessNo) (last : ℕ) (r : Played) (act : Action) →
    Halts f i r last 0 (halt.At act) → IsTrue (is_end f objects (halt.At act)) →
    Ran f objects place i last r [] (halted 0 (halt.At act) r)
ends f objects place i last r act halts stops = (halt.At act, 0, halts, stops, refl)

-- or it performs a read, and goes on
pub reads : (f : Frame) (objects : Objects) (place : ℕ) (i : ProcessNo) (last : ℕ) (r : Played) (act : Action)
    (lines : List Line) (end : Played) → Halts f i r last 0 (halt.At act) → IsTrue (is_answered f objects act) →
    Ran f objects place i last (reads_on place 0 (read_line i r act (read_on f.performs objects act)) r) lines end →
    Ran f objects place i last r (read_line i r act (read_on f.performs objects act) ∷ lines) end
reads f objects place i last r act lines end halts answers rest = (act, 0, halts, answers, refl, rest)

-- so a process that stands at its next action checks in a burst without reads
pub checks_in : (f : Frame) (w : World) (i : ProcessNo) (place : ℕ) (start : Played) (act : Action) → played_in f w i.0 ≡ Some start →
    w.lives (home_of f w i.0) ≡ true → start.stage ≡ Computing → start.place ≤ place →
    place ≤ (w.nodes (home_of f w i.0)).member.applied → start.turns ≡ 0 → 0 < f.settings.turns →
    f.computes.doing start.text i start.args start.replies 1 ≡ doing.At act →
    IsTrue (is_end f (objects_after f (w.nodes (home_of f w i.0)) place) (halt.At act)) →
    IsBurst f w i place 0 (record { reads = []; end = halted 0 (halt.At act) start })
checks_in f w i place start act here lives computing after before none some next stops =
    record {
      start = start;
      here = here;
      lives = lives;
      computing = computing;
      after = after;
      before = before;
      ran = ends f _ place i (last_turn f start) start act
          (at_once f i start (last_turn f start) act (omega (arith, none)) (omega (arith, none, some)) next) stops;
      took = omega (arith, none);
    }

-- the objects of its view, and the line of its read on them
abbrev view : Frame → World → ProcessNo → ℕ → Objects
view f w i place = objects_after f (w.nodes (home_of f w i.0)) place

abbrev read_at : Frame → World → ProcessNo → ℕ → Played → Action → Line
read_at f w i place start act = read_line i start act (read_on f.performs (view f w i place) act)

-- or one with one read
pub checks_in_read : (f : Frame) (w : World) (i : ProcessNo) (place : ℕ) (start : Played) (read act : Action) →
    played_in f w i.0 ≡ Some start → w.lives (home_of f w i.0) ≡ true → start.stage ≡ Computing → start.place ≤ place →
    place ≤ (w.nodes (home_of f w i.0)).member.applied → start.turns ≡ 0 → 0 < f.settings.turns →
    f.computes.doing start.text i start.args start.replies 1 ≡ doing.At read → IsTrue (is_answered f (view f w i place) read) →
    f.computes.doing start.text i start.args (reads_on place 0 (read_at f w i place start read) start).replies 1 ≡ doing.At act →
    IsTrue (is_end f (view f w i place) (halt.At act)) →
    IsBurst f w i place 0
    (record {
      reads = read_at f w i place start read ∷ [];
      end = halted 0 (halt.At act) (reads_on place 0 (read_at f w i place start read) start);
    })
checks_in_read f w i place start read act here lives computing after before none some next answers then_next stops =
    let last : ℕ = last_turn f start in
    let u : Played = reads_on place 0 (read_at f w i place start read) start in
    record {
      start = start;
      here = here;
      lives = lives;
      computing = computing;
      after = after;
      before = before;
      ran = reads f (view f w i place) place i last start read [] (halted 0 (halt.At act) u)
          (at_once f i start last read (omega (arith, none)) (omega (arith, none, some)) next) answers
          (ends f (view f w i place) place i last u act (at_once f i u last act (omega arith) (omega (arith, none, some)) then_next) stops);
      took = omega (arith, none);
    }
