-- A run from its opening to what is kept of it.
use Rattle.std.proofs.Common.{◌≡◌, ◌∙◌, inl, inr, ℕ, List, [], length, IfSome, Result, Ok, Err, IfOk, OnErr, OnOk, ap, sym, subst, refl}
use Rattle.std.specs.Result.{result_ok}
use Rattle.net_rules.specs.declared.asked.Asked.{Asked}
use Rattle.orca_base.specs.declared.refusal.NoMemory.{NoMemory}
use Rattle.world_rules.specs.declared.settings.Settings.{Settings}
use Rattle.world_rules.specs.declared.standing.Standing.{Standing}
use Rattle.world_rules.specs.declared.event.Step.{Step}
use Rattle.world_rules.specs.Frame.{AreSettings, Frame}
use Rattle.world_rules.specs.Standings as rules
use Rattle.world_rules.specs.Steps.{Replays}
use Rattle.world_rules.specs.Worlds.{Book, World, opening_world, places}
use Rattle.world_book.specs.Promise.{AllStuck, IsKept}
use Rattle.world_enough.specs.Faultless.{LeadsFirst}
use Rattle.world_facts.specs.Logs.{longest_log}
use Rattle.world_parts.specs.Seen.{Of, Seen, tasks_out}
use Rattle.world_places.specs.Explained.{AreItsPlaces}
use Rattle.run_ends.specs.Telling.{AreNodeEnds, AreProcessEnds, EndsMean}
use Rattle.run_ends.specs.declared.ends.RunEnd.{RunEnd}
use Rattle.run_loop.specs.Asked.{AreInTime, HaveToldOn, NoneAskedBehind, WereAskedIn, WereUsedSo, asked_since}
use Rattle.run_loop.specs.Driven.{HasCome, HasStopped, IsDriven, Stepping}
use Rattle.run_loop.specs.Left.{HasRun}
use Rattle.run_loop.proofs.Driving.{all_used, opens, opens_used, used_between, used_stopped, used_up_to}
use Rattle.run_loop.proofs.Telling.{none_since}
use Rattle.run_loop.proofs.Using.{in_time_none}

-- ---- before the first event

pub opens_as : {S : Type 0} (f : Frame) (s : Seen S) (in_use : ℕ) (old new : List (List Asked)) (settings : Settings) → settings ≡ f.settings → s.steps ≡ [] → tasks_out s ≡ 0 → in_use ≡ 0 → new ≡ old
    → settings.wires ≡ length new → AreSettings settings → IsDriven f s in_use old new
opens_as f s in_use old new settings same none idle first told wires ranges =
    subst (λ (k : ℕ). IsDriven f s k old new) (sym first)
    (subst (λ (l : List (List Asked)). IsDriven f s 0 l new) told
    (opens f s new none idle (sym wires ∙ ap (λ (x : Settings). x.wires) same) (subst AreSettings same ranges)))

-- ---- behind the last

-- how it went: the wires were used up to where it stands
pub record HasGone {S : Type 0} (f : Frame) (s : Seen S) (st : Standing) (old new : List (List Asked)) : Type 0 where
  pub world : World
  pub replays : Replays f s.steps world
  pub first : LeadsFirst f (opening_world f) s.steps world
  pub used : WereUsedSo st f s.steps world (asked_since old new)
  pub unused : NoneAskedBehind world.swaps (asked_since old new)
  pub in_time : AreInTime f s.steps (asked_since old new)
  pub told : HaveToldOn old new

-- stepped through so far
pub gone_by : {S : Type 0} (f : Frame) (s : Stepping S) (st : Standing) (old new : List (List Asked)) → HasCome f s old new → Of f s.world (λ w. st ≡ rules.standing f w) → HasGone f s.world st old new
gone_by f s st old new (inl d) stands = record {
  world = d.world;
  replays = d.replays;
  first = d.first;
  used = used_between st f s.world.steps d.world (asked_since old new) d.used;
  unused = subst (λ (k : ℕ). NoneAskedBehind k (asked_since old new)) d.swaps d.unused;
  in_time = d.in_time;
  told = d.told;
}
gone_by f s st old new (inr h) stands = record {
  world = h.world;
  replays = h.replays;
  first = h.first;
  used = used_stopped f s.world old new st h (stands h.world h.replays);
  unused = h.unused;
  in_time = h.in_time;
  told = h.told;
}

-- whatever is kept of it
pub asked_in : {S : Type 0} (f : Frame) (s : Seen S) (st : Standing) (old new : List (List Asked)) → HasGone f s st old new → WereAskedIn f old new
asked_in f s st old new h = record {
  steps = s.steps;
  world = h.world;
  led = h.replays;
  used = used_up_to st f s.steps h.world (asked_since old new) h.used;
  in_time = h.in_time;
}

-- where it didn't begin
pub asked_nothing : (f : Frame) (told : List (List Asked)) → WereAskedIn f told told
asked_nothing f told = record {
  steps = [];
  world = opening_world f;
  led = refl;
  used = all_used f [] (opening_world f) (asked_since told told) (opens_used f told);
  in_time = in_time_none f [] (asked_since told told) (none_since told);
}

-- what is kept of it
pub ran : {S : Type 0} (f : Frame) (s : Seen S) (st : Standing) (old new : List (List Asked)) (r : Result RunEnd NoMemory) → HasGone f s st old new → Of f s (λ w. st ≡ rules.standing f w) → Of f s (AllStuck f)
    → IfOk r (λ end. end.steps.items ≡ s.steps) → Of f s (λ w. IfOk r (λ end. end.book.items ≡ Book f w)) → Of f s (λ w. IfOk r (λ end. end.places.items ≡ places f w)) → Of f s (λ w. AreItsPlaces f w (places f w)) → Of f s (λ w. IfOk r (λ end. end.longest ≡ longest_log f w)) → Of f s (λ w. IfOk r (λ end. AreNodeEnds f w end.nodes.items))
    → Of f s (λ w. IfOk r (λ end. AreProcessEnds f w end.processes.items)) → Of f s (EndsMean f) → Of f s (IsKept f) → IfSome (result_ok r) (HasRun f st old new)
ran f s st old new (Err e) h stands stuck steps book notes its longest nodes processes mean kept = tt
ran f s st old new (Ok end) h stands stuck steps book notes its longest nodes processes mean kept = record {
  world = h.world;
  left = record {
    replays = subst (λ (l : List Step). Replays f l h.world) (sym steps) h.replays;
    stands = stands h.world h.replays;
    book = book h.world h.replays;
    places = notes h.world h.replays;
    its = subst (AreItsPlaces f h.world) (sym (notes h.world h.replays)) (its h.world h.replays);
    longest = longest h.world h.replays;
    nodes = nodes h.world h.replays;
    processes = processes h.world h.replays;
    kept = kept h.world h.replays;
    stuck = stuck h.world h.replays;
    mean = mean h.world h.replays;
  };
  first = subst (λ (l : List Step). LeadsFirst f (opening_world f) l h.world) (sym steps) h.first;
  used = subst (λ (l : List Step). WereUsedSo st f l h.world (asked_since old new)) (sym steps) h.used;
  unused = h.unused;
  in_time = subst (λ (l : List Step). AreInTime f l (asked_since old new)) (sym steps) h.in_time;
}

pub kept_steps : (r : Result RunEnd NoMemory) (steps : List Step) → IfOk r (λ end. end.steps.items ≡ steps) → IfSome (result_ok r) (λ end. end.steps.items ≡ steps)
kept_steps (Err e) steps so = tt
kept_steps (Ok end) steps so = so

-- a run that was driven to its end has come so far
pub has_come : {S T E : Type 0} (f : Frame) (s : Stepping S) (old new : List (List Asked)) (r : Result T E) → OnOk r (IsDriven f s.world s.in_use old new) → OnErr r (HasStopped f s.world old new) → HasCome f s old new
has_come f s old new (Ok x) driven stopped = inl driven
has_come f s old new (Err e) driven stopped = inr stopped
