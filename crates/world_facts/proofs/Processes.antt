-- What is said of each process stays, in each event of a run.
use Rattle.std.proofs.Common.{◌≡◌, ◌≤◌, ◌+◌, ℕ, List, [], ◌∷◌, refl, sym, ap, ◌∙◌, arith, subst}
use Rattle.orca_base.specs.declared.ids.ProcessNo.{ProcessNo}
use Rattle.value_core.specs.History.{Objects}
use Rattle.value_core.specs.declared.action.Action.{Action}
use Rattle.value_core.specs.declared.action.Action.TheVariants as action
use Rattle.value_core.specs.declared.action.Line.{Line}
use Rattle.value_core.specs.declared.meaning.Doing.TheVariants as doing
use Rattle.value_core.specs.declared.processor.Halt.{Halt}
use Rattle.value_core.specs.declared.processor.Halt.TheVariants as halt
use Rattle.world_rules.specs.Bursts.{Halts, Ran, last_turn, reads_on}
use Rattle.world_rules.specs.Frame.{Frame}
use Rattle.world_rules.specs.Played.{Played, at_action, halted, moves_to}
use Rattle.world_rules.specs.Played.Stage.{Acting, Submitted, Reading, Asking}
use Rattle.world_facts.specs.Processes.{AllStand, DoesNext, IsPlayed, StandsAt}
use Rattle.world_facts.proofs.Held.{Closed, held}

abbrev pub Said : Frame → ℕ → Played → Type 0
Said f i r = IsPlayed f (record { 0 = i }) r

-- what stage it comes to is by its action
comes_to : (f : Frame) (i : ProcessNo) (r : Played) (act : Action) → DoesNext f i r act → StandsAt f i r (at_action act)
comes_to f i r (action.Make kind object) next = (next, refl)
comes_to f i r (action.Call kind op object args) next = (next, refl)
comes_to f i r (action.Fork text args place_on) next = (next, refl)
comes_to f i r action.Ended next = (next, refl)
comes_to f i r (action.Faulted fault) next = (next, refl)

-- a computation up to here
abbrev Budget : Frame → Played → ℕ → Type 0
Budget f r last = (r.turns ≤ last) × (last ≤ f.settings.turns)

budget : (f : Frame) (r : Played) → r.turns ≤ f.settings.turns → Budget f r (last_turn f r)
budget f r few = (omega arith, omega (arith, few))

stops : (f : Frame) (i : ProcessNo) (r : Played) (last used : ℕ) (at_halt : Halt) → Budget f r last → Halts f i r last used at_halt →
    IsPlayed f i (halted used at_halt r)
stops f i r last used (halt.At act) b h =
    let low = b.0 in
    let few = b.1 in
    let under = h.2 in
    let is = h.4 in
    let next : f.computes.doing r.text i r.args r.replies (used + 1) ≡ doing.At act =
    ap (λ n. f.computes.doing r.text i r.args r.replies (n + 1)) (sym is) ∙ h.3.0 in
    record {
      turns = omega (arith, low, few, under, is);
      stands = comes_to f i (halted used (halt.At act) r) act (record { turns = omega (arith, low, few, under, is); next = next });
    }
stops f i r last used halt.Paused b h =
    let low = b.0 in
    let few = b.1 in
    let is = h.1 in
    record { turns = omega (arith, low, few, is); stands = tt }

ran_to : (f : Frame) (objects : Objects) (place : ℕ) (i : ProcessNo) (last : ℕ) (r : Played) (lines : List Line) (end : Played) →
    Budget f r last → Ran f objects place i last r lines end → IsPlayed f i end
ran_to f objects place i last r [] end b ran = subst (IsPlayed f i) (sym ran.4) (stops f i r last ran.1 ran.0 b ran.2)
ran_to f objects place i last r (line ∷ lines) end b ran =
    let halts = ran.2 in
    let low = b.0 in
    let under = halts.2 in
    let is = halts.4 in
    ran_to f objects place i last (reads_on place ran.1 line r) lines end (omega (arith, low, under, is), b.1) ran.5

moved : (f : Frame) (i : ℕ) (r : Played) (act : Action) → Said f i r → r.stage ≡ Acting act →
    Said f i (moves_to (Submitted act) r) × Said f i (moves_to (Reading act) r) × Said f i (moves_to (Asking act) r)
moved f i r act h is =
    let s : StandsAt f (record { 0 = i }) r (Acting act) = subst (StandsAt f (record { 0 = i }) r) is h.stands in
    let next = s.0 in (
      record { turns = h.turns; stands = (record { turns = next.turns; next = next.next }, s.1) },
      record { turns = h.turns; stands = (record { turns = next.turns; next = next.next }, s.1) },
      record { turns = h.turns; stands = (record { turns = next.turns; next = next.next }, s.1) },
    )

closed : (f : Frame) → Closed f (Said f)
closed f = record {
  born = λ i process. record { turns = omega arith; stands = tt };
  replied = λ i place reply r h. record { turns = h.turns; stands = tt };
  moved = moved f;
  ran = λ objects place i r lines end h is ran. ran_to f objects place i (last_turn f r) r lines end (budget f r h.turns) ran;
}

pub all_stand : AllStand
all_stand f steps w replays =
    let h = held f (Said f) (closed f) steps w replays in
    record {
      few = λ m. (h m).0;
      fresh = λ m i r is. ((h m).1 i r is).0;
      each = λ m i r is. ((h m).1 i.0 r is).1;
      blocked = λ m i r act is reads. ((h m).1 i r is).2 tt act reads;
    }
