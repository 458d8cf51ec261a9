-- What a run with a follower leaves is what its clauses say of it.
use Rattle.std.proofs.Common.{◌≡◌, ◌∙◌, ◌⊎◌, inl, inr, ℕ, Bool, true, false, List, [], ◌∷◌, ◌++◌, Option, Some, None, IfSome, Result, Ok, Err, IfOk, ap, sym, subst, refl, arith}
use Rattle.command_line.specs.Asked.{IsJoinWithin}
use Rattle.command_line.specs.declared.request.JoinOptions.{JoinOptions}
use Rattle.net_rules.specs.declared.asked.Asked.{Asked}
use Rattle.net_rules.specs.declared.line.ScriptLine.{ScriptLine}
use Rattle.object_manager.specs.After.{Copied}
use Rattle.value_core.specs.Meaning.{Computes, Performs}
use Rattle.world_facts.specs.Replicated.{AllReplicated}
use Rattle.world_law.specs.Once.{RunsOnce}
use Rattle.world_rules.specs.declared.event.Step.{Step}
use Rattle.world_rules.specs.declared.settings.Settings.{Settings}
use Rattle.world_rules.specs.declared.standing.Standing.{Standing}
use Rattle.world_rules.specs.Frame.{AreSettings, Frame}
use Rattle.world_rules.specs.Steps.{Replays}
use Rattle.world_rules.specs.Worlds.{World, opening_world}
use Rattle.join_law.specs.Moments.{between}
use Rattle.join_law.specs.Promise.{IsFollower}
use Rattle.join_law.specs.Rounds.{opening_rounding}
use Rattle.follower_run.specs.Done.{HasFollowed as FollowedSo, HasFollowedIf, HasJoined}
use Rattle.follower_run.specs.declared.joined.FollowerLeft.{FollowerLeft}
use Rattle.follower_run.specs.declared.joined.Joined.{Joined}
use Rattle.run_loop.specs.Asked.{HaveToldOn, WereAskedIn}
use Rattle.run_loop.specs.Left.{HasRun, run_of}
use Rattle.run_loop.specs.declared.ran.Ran.{Ran}
use Rattle.run_loop.proofs.Ending.{asked_nothing}
use Rattle.run_loop.proofs.Telling.{tells_itself}
use Rattle.join_command.specs.Asked.{follower_line, join_settings, joined_run}
use Rattle.join_command.specs.Joined.{HasBegun, HasFollowed, IsJoinRun, IsKeptEnd, IsMadeOf, WasFollowed}
use Rattle.join_command.specs.Wired.{AreLoaded, OneWire, WasLoaded, Wires}
use Rattle.join_command.specs.declared.ending.FollowerEnd.{FollowerEnd}
use Rattle.join_command.specs.declared.running.JoinRun.{JoinRun}

-- ---- the settings

are_joined : (options : JoinOptions) → IsJoinWithin options → AreSettings (join_settings options)
are_joined options within = record {
  some = within.group.some;
  few = within.group.most;
  resilience = within.group.fewer;
  a_turn = omega arith;
  turns = omega arith;
  an_event = omega arith;
  events = omega arith;
  a_wire = omega arith;
  wires = omega arith;
  single = λ text number e. let no : false ≡ true = e in absurd (cc no);
}

pub ranges : (options : JoinOptions) (settings : Settings) → settings ≡ join_settings options → IsJoinWithin options → AreSettings settings
ranges options settings is within = subst AreSettings (sym is) (are_joined options within)

pub one_wire : (options : JoinOptions) (settings : Settings) (n : ℕ) → settings ≡ join_settings options → n ≡ 1 → settings.wires ≡ n
one_wire options settings n is one = ap (λ (s : Settings). s.wires) is ∙ sym one

pub replicated : (p : Performs) (q : Computes) (options : JoinOptions) (settings : Settings) → settings ≡ join_settings options → AllReplicated (run_of p q settings)
replicated p q options settings is = subst (λ (s : Settings). AllReplicated (run_of p q s)) (sym is) (none (join_settings options) refl)
  where
    none : (s : Settings) → s ≡ join_settings options → AllReplicated (run_of p q s)
    none s e = subst (λ (x : Settings). AllReplicated (run_of p q x)) (sym e) (λ text number. refl)

-- ---- the follower

-- its wire was asked what rounds along some steps ask
nobody_asked : (f : Frame) (start : ℕ) (base told : List Asked) → told ≡ base → WasFollowed f start base told
nobody_asked f start base told same = record {
  steps = [];
  world = opening_world f;
  replays = refl;
  moment = between opening_rounding;
  rounds = record { fates_are = refl; moment = inl (refl, (refl, refl)) };
  asked = same ∙ sym (none base);
}
  where
    none : (xs : List Asked) → xs ++ [] ≡ xs
    none [] = refl
    none (x ∷ xs) = ap (λ (l : List Asked). x ∷ l) (none xs)

was_followed : (f : Frame) (start : ℕ) (base told : List Asked) (ran : Ran) (follower : Option FollowerLeft) → HasFollowedIf f start base told ran follower → WasFollowed f start base told
was_followed f start base told ran None h = nobody_asked f start base told h.1
was_followed f start base told ran (Some left) h =
    let by = h.2 in
    record { steps = h.0; world = by.world; replays = by.replays; moment = by.moment; rounds = by.rounds; asked = by.asked }

pub followed_as : (p : Performs) (q : Computes) (options : JoinOptions) (settings : Settings) (base told : List Asked) (joined : Joined) → settings ≡ join_settings options
    → HasJoined (run_of p q settings) options.at base told joined → WasFollowed (joined_run p q options) options.at base told
followed_as p q options settings base told joined is h =
    subst (λ (s : Settings). WasFollowed (run_of p q s) options.at base told) is (was_followed (run_of p q settings) options.at base told joined.ran joined.follower h)

pub asked_as : (p : Performs) (q : Computes) (options : JoinOptions) (settings : Settings) (before after : List (List Asked)) → settings ≡ join_settings options → WereAskedIn (run_of p q settings) before after
    → WereAskedIn (joined_run p q options) before after
asked_as p q options settings before after is h = subst (λ (s : Settings). WereAskedIn (run_of p q s) before after) is h

-- what is kept of it, along the events that are kept, which lead to one world
has_followed : (f : Frame) (start : ℕ) (base told : List Asked) (steps kept : List Step) (left : FollowerLeft) (end : FollowerEnd) (whole : Bool) (w : World) → ((u v : World) → Replays f kept u → Replays f kept v → u ≡ v) → steps ≡ kept
    → Replays f kept w → FollowedSo f start base told steps left → IsKeptEnd left end → whole ≡ left.whole → HasFollowed f start kept w base told end left.last whole
has_followed f start base told steps kept left end whole w once same replays by is all =
    subst (λ (x : World). HasFollowed f start kept x base told end left.last whole)
    (once by.world w (subst (λ (l : List Step). Replays f l by.world) same by.replays) replays)
    (subst (λ (l : List Step). HasFollowed f start l by.world base told end left.last whole) same (record {
      moment = by.moment;
      rounds = by.rounds;
      asked = by.asked;
      applied = is.applied ∙ ap (λ (c : Copied). c.applied) by.copies;
      states = is.states ∙ by.states;
      copies = is.copies ∙ ap (λ (c : Copied). c.objects) by.copies;
      follower = subst (λ (c : Copied). IsFollower f by.world c) by.copies by.follower;
      last_is = by.last;
      all = λ ended. (by.whole (sym all ∙ ended)).rounds;
      level = λ ended passed m can. let most = (by.whole (sym all ∙ ended)).level passed m can in omega (arith, most, is.applied);
    }))

-- ---- the run

some_is : {A : Type 0} (o : Option A) (x : A) (P : A → Type 0) → o ≡ Some x → IfSome o P → P x
some_is {A} o x P is h = subst (λ (y : Option A). IfSome y P) is h

pub is_join_run : (p : Performs) (q : Computes) (options : JoinOptions) (settings : Settings) (joined : Joined) (r : JoinRun) (before after : List (List Asked)) (base told : List Asked) → settings ≡ join_settings options
    → RunsOnce q → IfSome joined.ran.end (HasRun (run_of p q settings) joined.ran.standing before after) → HaveToldOn before after → HasJoined (run_of p q settings) options.at base told joined
    → IsMadeOf joined r → IsJoinRun (joined_run p q options) options.at r before after base told
is_join_run p q options settings joined r before after base told is once run more followed made =
    let f : Frame = joined_run p q options in
    let ran = joined.ran in
    let run_is : HasRun f r.standing before after r.end =
    subst (λ (s : Standing). HasRun f s before after r.end) (sym made.standing)
    (subst (λ (s : Settings). HasRun (run_of p q s) ran.standing before after r.end) is (some_is ran.end r.end (HasRun (run_of p q settings) ran.standing before after) made.end run)) in
    let so : HasFollowedIf f options.at base told ran (Some made.left) =
    subst (λ (s : Settings). HasFollowedIf (run_of p q s) options.at base told ran (Some made.left)) is
    (subst (λ (o : Option FollowerLeft). HasFollowedIf (run_of p q settings) options.at base told ran o) made.follower followed) in
    let steps : so.0 ≡ r.end.steps.items = sym (some_is ran.end r.end (λ k. k.steps.items ≡ so.0) made.end so.1) in
    record {
      run = run_is;
      told_on = more;
      last = made.left.last;
      followed = has_followed f options.at base told so.0 r.end.steps.items made.left r.follower r.whole run_is.world ((once f refl).replays r.end.steps.items) steps run_is.left.replays so.2 made.kept made.whole;
      line = made.line ∙ ap (λ (n : ℕ). follower_line n made.left.last) (sym made.kept.applied);
    }

pub run_of_joined : {E : Type 0} (p : Performs) (q : Computes) (options : JoinOptions) (settings : Settings) (joined : Joined) (o : Result JoinRun E) (before after : List (List Asked)) (base told : List Asked) → settings ≡ join_settings options
    → RunsOnce q → IfSome joined.ran.end (HasRun (run_of p q settings) joined.ran.standing before after) → HaveToldOn before after → HasJoined (run_of p q settings) options.at base told joined
    → IfOk o (IsMadeOf joined) → IfOk o (λ r. IsJoinRun (joined_run p q options) options.at r before after base told)
run_of_joined p q options settings joined (Ok r) before after base told is once run more followed made = is_join_run p q options settings joined r before after base told is once run more followed made
run_of_joined p q options settings joined (Err e) before after base told is once run more followed made = tt

-- ---- the wires

-- rules and times of loading that stay as the wires were loaded
pub kept_loaded : (lines : List ScriptLine) (old mid new : Wires) → mid.told ≡ old.told → new.rules ≡ mid.rules → new.loaded ≡ mid.loaded → AreLoaded lines old mid → AreLoaded lines old new
kept_loaded lines old mid new told rules since h = record { rules = rules ∙ h.rules; since = since ∙ h.since }

pub own_loaded : (lines : List ScriptLine) (was mid is : OneWire) → is.rule ≡ mid.rule → is.loaded ≡ mid.loaded → WasLoaded lines was mid → WasLoaded lines was is
own_loaded lines was mid is rule since h = record { rule = rule ∙ h.rule; since = since ∙ h.since }

-- a run over wires that were loaded was begun
pub begun_run : (f : Frame) (start : ℕ) (lines : List ScriptLine) (old mid new : Wires) (was loaded is : OneWire) → mid.told ≡ old.told → loaded.told ≡ was.told → new.rules ≡ mid.rules → new.loaded ≡ mid.loaded → is.rule ≡ loaded.rule → is.loaded ≡ loaded.loaded
    → AreLoaded [] old mid → WasLoaded lines was loaded → HaveToldOn mid.told new.told → WereAskedIn f mid.told new.told → WasFollowed f start loaded.told is.told → HasBegun f start lines old new was is
begun_run f start lines old mid new was loaded is told own rules since rule own_since group has more asked followed = inr (record {
  loaded = own_loaded lines was loaded is rule own_since has;
  group = inr (kept_loaded [] old mid new told rules since group);
  told = subst (λ (l : List (List Asked)). HaveToldOn l new.told) told more;
  asked = subst (λ (l : List (List Asked)). WereAskedIn f l new.told) told asked;
  followed = subst (λ (l : List Asked). WasFollowed f start l is.told) own followed;
})

-- where memory lacked before that, the follower's wire may have been loaded
pub begun_failed : (f : Frame) (start : ℕ) (lines : List ScriptLine) (old new : Wires) (was is : OneWire) → new ≡ old → is.told ≡ was.told → (is ≡ was) ⊎ WasLoaded lines was is → HasBegun f start lines old new was is
begun_failed f start lines old new was is same told (inl kept) = inl (same, kept)
begun_failed f start lines old new was is same told (inr loaded) = inr (record {
  loaded = loaded;
  group = inl same;
  told = subst (λ (w : Wires). HaveToldOn old.told w.told) (sym same) (tells_itself old.told);
  asked = subst (λ (w : Wires). WereAskedIn f old.told w.told) (sym same) (asked_nothing f old.told);
  followed = nobody_asked f start was.told is.told told;
})
