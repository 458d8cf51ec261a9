-- Beside the run, event by event, and behind it, round by round.
use Rattle.std.proofs.Common.{◌≡◌, ◌∙◌, ◌<◌, ◌≤◌, ◌+◌, ◌*◌, ◌⊎◌, inl, inr, ℕ, suc, Bool, cond, List, [], ◌∷◌, ◌++◌, length, None, Some, refl, ap, sym, subst, arith}
use Rattle.std.specs.Prelude.{◌%◌}
use Rattle.std.proofs.lemmas.Bool.{le-leb}
use Rattle.net_rules.specs.declared.asked.Asked.{Asked}
use Rattle.net_rules.specs.declared.fate.Fate.{Fate}
use Rattle.object_manager.specs.After.{Copied}
use Rattle.run_loop.proofs.Driving.{leads_on}
use Rattle.run_loop.specs.Driven.{Stepping}
use Rattle.world_parts.specs.Seen.{Of, Seen}
use Rattle.world_rules.specs.declared.event.Step.{Step}
use Rattle.world_rules.specs.declared.standing.Standing.TheVariants.{Going}
use Rattle.world_rules.specs.Frame.{Frame}
use Rattle.world_rules.specs.Standings.{standing}
use Rattle.world_rules.specs.Steps.{Next, Replays}
use Rattle.world_rules.specs.Worlds.{World, opening_world}
use Rattle.join_law.proofs.Behind.{not_below, with_on}
use Rattle.join_law.specs.Moments.{BeginsBehind, BeginsBeside, IsBehind, IsReached, Moment, RoundsWith, WithinRound, between}
use Rattle.join_law.specs.Promise.{BehindEnds, ReachedGoesOn, RoundsGoOn}
use Rattle.join_law.specs.Rounds.{BesideRun, Rounding, ahead, most_rounds, opening_rounding, round, turns}
use Rattle.follower_run.specs.Given.{fates_of}
use Rattle.follower_run.specs.Going.{DoesRound, GoesBy, GoesOn, IsInRound, LeavesOff, MayGoOn}
use Rattle.follower_run.specs.Kept.{IsAt}
use Rattle.follower_run.specs.Travelled.{AfterEvent, Always, Beside, HasArrived, HasTravelled, IsFresh, Stands}
use Rattle.follower_run.specs.declared.rounds.FollowerRounds.{FollowerRounds}
use Rattle.follower_run.proofs.Given.{later_on, none_behind}
use Rattle.follower_run.proofs.Standing.{fresh_at, left_at}

-- ---- whatever the wire answers later

pub always_more : (asked more all : List Asked) (so : List Fate → Type 0) → all ≡ asked ++ more → Always asked so → Always all so
always_more asked more all so is always later = subst so (sym (ap (λ (l : List Asked). fates_of l ++ later) is ∙ later_on asked more later)) (always (fates_of more ++ later))

pub just : (asked : List Asked) (so : List Fate → Type 0) → Always asked so → so (fates_of asked)
just asked so always = subst so (none_behind (fates_of asked)) (always [])

-- ---- a world that is shown is the one that is kept

pub at_same : {S : Type 0} (Q : List Step → Type 0) (s t : Seen S) → s ≡ t → Q t.steps → Q s.steps
at_same {S} Q s t same q = subst (λ (x : Seen S). Q x.steps) (sym same) q

pub at_other : {S : Type 0} (Q : List Step → Type 0) (s t : Seen S) → s ≡ t → Q s.steps → Q t.steps
at_other {S} Q s t same q = subst (λ (x : Seen S). Q x.steps) same q

pub of_same : {S : Type 0} (f : Frame) (P : World → Type 0) (s t : Seen S) → s ≡ t → Of f s P → Of f t P
of_same {S} f P s t same h w led = h w (subst (λ (x : Seen S). Replays f x.steps w) (sym same) led)

-- ---- between two rounds

pub may_go : (f : Frame) (base told : List Asked) (steps : List Step) (s : FollowerRounds) (w : World) (u : Rounding) → Stands f base told steps s w u → MayGoOn f steps told s
may_go f base told steps s w u st = record { world = w; base = base; moment = between u; replays = st.replays; reached = st.reached; at = st.at }

-- nothing comes there
pub none_there : (f : Frame) (base told : List Asked) (steps : List Step) (s : FollowerRounds) (w : World) (u : Rounding) → Stands f base told steps s w u → s.coming.items ≡ []
none_there f base told steps s w u st = st.at.coming

pub opens : (f : Frame) (start : ℕ) (told : List Asked) (steps : List Step) (s : FollowerRounds) → ReachedGoesOn → steps ≡ [] → IsFresh f.settings.nodes s → Beside f start told told steps s
opens f start told steps s law none fresh =
    let on : Beside f start told told [] s = record {
      world = opening_world f;
      rounding = opening_rounding;
      stands = record {
        replays = refl;
        reached = law.opening f;
        at = fresh_at f.settings.nodes told s fresh.number fresh.follower fresh.held fresh.coming fresh.counts.0 fresh.counts.1 fresh.counts.2;
      };
      along = λ later. (refl, refl);
    } in
    subst (λ (l : List Step). Beside f start told told l s) (sym none) on

pub turn_of : (f : Frame) (base told : List Asked) (steps : List Step) (s : FollowerRounds) (w : World) (u : Rounding) → Stands f base told steps s w u → (m : ℕ) → m ≡ s.rounds % s.number → m ≡ u.rounds % f.settings.nodes
turn_of f base told steps s w u st m is = is ∙ ap (λ (n : ℕ). n % s.number) st.at.rounds ∙ ap (λ (n : ℕ). u.rounds % n) st.at.number

-- memory lacked between two rounds
pub between_left : (f : Frame) (start : ℕ) (base told : List Asked) (steps : List Step) (s : FollowerRounds) → Beside f start base told steps s → HasTravelled f start base told steps s
between_left f start base told steps s b = record {
  world = b.world;
  replays = b.stands.replays;
  moment = between b.rounding;
  left = left_at f.settings.nodes base told s (between b.rounding) b.stands.at;
  rounds = record { fates_are = b.stands.at.given; moment = inl (refl, just b.rounding.asked (λ fates. BesideRun f start fates steps b.world b.rounding) b.along) };
}

-- where the run stands as it did
pub left_before : {S : Type 0} (f : Frame) (start : ℕ) (base told : List Asked) (before after : Stepping S) (s : FollowerRounds) → after ≡ before → Beside f start base told before.world.steps s → HasTravelled f start base told after.world.steps s
left_before {S} f start base told before after s same b = subst (λ (x : Stepping S). HasTravelled f start base told x.world.steps s) (sym same) (between_left f start base told before.world.steps s b)

-- ---- an event more

pub happened : (f : Frame) (start : ℕ) (base told : List Asked) (earlier steps : List Step) (s : FollowerRounds) (step : Step) → ReachedGoesOn → Beside f start base told earlier s → steps ≡ earlier ++ step ∷ []
    → ((w : World) → Replays f earlier w → (v : World) × Next f w step v) → AfterEvent f start base told steps s
happened f start base told earlier steps s step law b is next =
    let on = next b.world b.stands.replays in
    record {
      earlier = earlier;
      step = step;
      steps_are = is;
      before = b.world;
      world = on.0;
      rounding = b.rounding;
      stands = record {
        replays = subst (λ (l : List Step). Replays f l on.0) (sym is) (leads_on f (opening_world f) b.world on.0 earlier step b.stands.replays on.1);
        reached = law.step f b.world on.0 step b.rounding b.stands.reached on.1;
        at = b.stands.at;
      };
      along = b.along;
      happens = on.1;
    }

one_longer : (steps : List Step) (step : Step) → length (steps ++ step ∷ []) ≡ suc (length steps)
one_longer [] step = refl
one_longer (s ∷ steps) step = ap (λ (n : ℕ). suc n) (one_longer steps step)

not_yet : (f : Frame) (start n : ℕ) (fates : List Fate) (w : World) (u : Rounding) → n < start → turns f fates start w n u ≡ u
not_yet f start n fates w u lt = ap (λ (b : Bool). cond b (round f fates w (u.rounds % f.settings.nodes) u) u) (not_below n start lt)

by_now : (f : Frame) (start n : ℕ) (fates : List Fate) (w : World) (u : Rounding) → start ≤ n → turns f fates start w n u ≡ round f fates w (u.rounds % f.settings.nodes) u
by_now f start n fates w u le = ap (λ (b : Bool). cond b (round f fates w (u.rounds % f.settings.nodes) u) u) (le-leb start n le)

-- there is no round yet
pub no_round : (f : Frame) (start : ℕ) (base told : List Asked) (steps : List Step) (s : FollowerRounds) → RoundsGoOn → AfterEvent f start base told steps s → length steps < start → Beside f start base told steps s
no_round f start base told steps s law b early =
    let longer = one_longer b.earlier b.step in
    let many = ap (λ (l : List Step). length l) b.steps_are in
    record {
      world = b.world;
      rounding = b.rounding;
      stands = b.stands;
      along = λ later.
          let fates = fates_of b.rounding.asked ++ later in
          subst (λ (l : List Step). BesideRun f start fates l b.world b.rounding) (sym b.steps_are)
          (subst (λ (u : Rounding). BesideRun f start fates (b.earlier ++ b.step ∷ []) b.world u) (not_yet f start (suc (length b.earlier)) fates b.world b.rounding (omega (arith, early, longer, many)))
          (law f start fates b.earlier b.before b.rounding b.step b.world (b.along later) b.happens));
    }

-- the round was done
nothing_comes : (x : Moment) (u : Rounding) → x ≡ between u → x ≡ between x.rounding
nothing_comes x u e = e ∙ ap (λ (y : Moment). between y.rounding) (sym e)

rounded : (f : Frame) (w : World) (m : ℕ) (u : Rounding) (x : Moment) (later : List Fate) → GoesBy (DoesRound f m w) (between u) x → x.rounding ≡ round f (fates_of x.rounding.asked ++ later) w m u
rounded f w m u x later by = ap (λ (y : Moment). y.rounding) (by.goes later)

so_reached : (f : Frame) (w : World) (m : ℕ) (u : Rounding) (x : Moment) → ReachedGoesOn → IsReached f w (between u) → GoesBy (DoesRound f m w) (between u) x → IsReached f w (between x.rounding)
so_reached f w m u x reach r by = subst (λ (y : Rounding). IsReached f w (between y)) (sym (rounded f w m u x [] by)) (reach.rounds f w (fates_of x.rounding.asked ++ []) m u r)

pub did_round : (f : Frame) (start : ℕ) (base told told' : List Asked) (steps : List Step) (s s' : FollowerRounds) (m : ℕ) → RoundsGoOn → ReachedGoesOn → (b : AfterEvent f start base told steps s) → start ≤ length steps → m ≡ b.rounding.rounds % f.settings.nodes
    → GoesOn f steps told s told' s' (DoesRound f m) → Beside f start base told' steps s'
did_round f start base told told' steps s s' m law reach b late turn goes =
    let got = goes b.world base (between b.rounding) b.stands.replays b.stands.at in
    let x = got.0 in
    let y = x.rounding in
    let longer = one_longer b.earlier b.step in
    let many = ap (λ (l : List Step). length l) b.steps_are in
    let at = subst (IsAt f.settings.nodes base told' s') (nothing_comes x (round f (fates_of y.asked ++ []) b.world m b.rounding) (got.1.goes [])) got.2 in
    record {
      world = b.world;
      rounding = y;
      stands = record {
        replays = b.stands.replays;
        reached = so_reached f b.world m b.rounding x reach b.stands.reached got.1;
        at = at;
      };
      along = λ later.
          let fates = fates_of y.asked ++ later in
          let so = always_more b.rounding.asked got.1.more y.asked (λ some. BesideRun f start some b.earlier b.before b.rounding) got.1.grows b.along later in
          let turned : turns f fates start b.world (suc (length b.earlier)) b.rounding ≡ y =
          by_now f start (suc (length b.earlier)) fates b.world b.rounding (omega (arith, late, longer, many))
          ∙ ap (λ (k : ℕ). round f fates b.world k b.rounding) (sym turn)
          ∙ sym (rounded f b.world m b.rounding x later got.1) in
          subst (λ (l : List Step). BesideRun f start fates l b.world y) (sym b.steps_are)
          (subst (λ (u : Rounding). BesideRun f start fates (b.earlier ++ b.step ∷ []) b.world u) turned
          (law f start fates b.earlier b.before b.rounding b.step b.world so b.happens));
    }

-- memory lacked within it
pub in_round : (f : Frame) (start : ℕ) (base told told' : List Asked) (steps : List Step) (s s' : FollowerRounds) (m : ℕ) → (b : AfterEvent f start base told steps s) → start ≤ length steps → m ≡ b.rounding.rounds % f.settings.nodes
    → LeavesOff f steps told s told' s' (IsInRound f m) → HasTravelled f start base told' steps s'
in_round f start base told told' steps s s' m b late turn leaves =
    let got = leaves b.world base (between b.rounding) b.stands.replays b.stands.at in
    let x = got.0 in
    let longer = one_longer b.earlier b.step in
    let many = ap (λ (l : List Step). length l) b.steps_are in
    let begins : BeginsBeside f start (fates_of x.rounding.asked) steps b.world m b.rounding = record {
      earlier = b.earlier;
      last = b.step;
      steps_are = b.steps_are;
      before = b.before;
      along = just x.rounding.asked (λ fates. BesideRun f start fates b.earlier b.before b.rounding)
          (always_more b.rounding.asked got.1.more x.rounding.asked (λ some. BesideRun f start some b.earlier b.before b.rounding) got.1.grows b.along);
      happens = b.happens;
      late = omega (arith, late, longer, many);
      member = turn;
    } in
    record {
      world = b.world;
      replays = b.stands.replays;
      moment = x;
      left = got.2;
      rounds = record {
        fates_are = got.2.given;
        moment = inr (inl (m, b.rounding, begins, just x.rounding.asked (λ fates. WithinRound f fates b.world m b.rounding x) got.1.goes));
      };
    }

-- ---- behind the run

pub record Behind (f : Frame) (start : ℕ) (base told : List Asked) (steps : List Step) (s : FollowerRounds) (m done : ℕ) : Type 0 where
  pub world : World
  pub before : Rounding
  pub rounding : Rounding
  pub stands : Stands f base told steps s world rounding
  pub along : Always rounding.asked (λ fates. BesideRun f start fates steps world before)
  pub with_it : Always rounding.asked (λ fates. RoundsWith f fates world m done before rounding)
  pub member : ahead f world f.settings.nodes ≡ Some m

-- where this member applied so many, and the follower fewer, it is behind
pub is_behind : (f : Frame) (start : ℕ) (base told : List Asked) (steps : List Step) (s : FollowerRounds) (m done last : ℕ) → (b : Behind f start base told steps s m done) → last ≡ (b.world.nodes m).member.applied → s.follower.applied < last → IsBehind b.world m b.rounding
is_behind f start base told steps s m done last b is less = let same = ap (λ (c : Copied). c.applied) b.stands.at.copies in omega (arith, is, less, same)

pub first_behind : (f : Frame) (start : ℕ) (base told : List Asked) (steps : List Step) (s : FollowerRounds) (m : ℕ) → (b : Beside f start base told steps s) → ahead f b.world f.settings.nodes ≡ Some m → Behind f start base told steps s m 0
first_behind f start base told steps s m b member = record {
  world = b.world;
  before = b.rounding;
  rounding = b.rounding;
  stands = b.stands;
  along = b.along;
  with_it = λ later. refl;
  member = member;
}

pub one_behind : (f : Frame) (start : ℕ) (base told told' : List Asked) (steps : List Step) (s s' : FollowerRounds) (m done : ℕ) → ReachedGoesOn → (b : Behind f start base told steps s m done) → IsBehind b.world m b.rounding
    → GoesOn f steps told s told' s' (DoesRound f m) → Behind f start base told' steps s' m (suc done)
one_behind f start base told told' steps s s' m done reach b behind goes =
    let got = goes b.world base (between b.rounding) b.stands.replays b.stands.at in
    let x = got.0 in
    let y = x.rounding in
    let at = subst (IsAt f.settings.nodes base told' s') (nothing_comes x (round f (fates_of y.asked ++ []) b.world m b.rounding) (got.1.goes [])) got.2 in
    record {
      world = b.world;
      before = b.before;
      rounding = y;
      stands = record { replays = b.stands.replays; reached = so_reached f b.world m b.rounding x reach b.stands.reached got.1; at = at };
      along = always_more b.rounding.asked got.1.more y.asked (λ some. BesideRun f start some steps b.world b.before) got.1.grows b.along;
      with_it = λ later.
          let fates = fates_of y.asked ++ later in
          let so = always_more b.rounding.asked got.1.more y.asked (λ some. RoundsWith f some b.world m done b.before b.rounding) got.1.grows b.with_it later in
          subst (RoundsWith f fates b.world m (suc done) b.before) (sym (rounded f b.world m b.rounding x later got.1)) (with_on f fates b.world m done b.before b.rounding so behind);
      member = b.member;
    }

pub behind_left : (f : Frame) (start : ℕ) (base told told' : List Asked) (steps : List Step) (s s' : FollowerRounds) (m done : ℕ) (b : Behind f start base told steps s m done) → IsBehind b.world m b.rounding → done < most_rounds b.world m
    → LeavesOff f steps told s told' s' (IsInRound f m) → HasTravelled f start base told' steps s'
behind_left f start base told told' steps s s' m done b behind few leaves =
    let got = leaves b.world base (between b.rounding) b.stands.replays b.stands.at in
    let x = got.0 in
    let begins : BeginsBehind f start (fates_of x.rounding.asked) steps b.world m done b.rounding = record {
      before = b.before;
      along = just x.rounding.asked (λ fates. BesideRun f start fates steps b.world b.before)
          (always_more b.rounding.asked got.1.more x.rounding.asked (λ some. BesideRun f start some steps b.world b.before) got.1.grows b.along);
      member = b.member;
      few = few;
      rounds = just x.rounding.asked (λ fates. RoundsWith f fates b.world m done b.before b.rounding)
          (always_more b.rounding.asked got.1.more x.rounding.asked (λ some. RoundsWith f some b.world m done b.before b.rounding) got.1.grows b.with_it);
      behind = behind;
    } in
    record {
      world = b.world;
      replays = b.stands.replays;
      moment = x;
      left = got.2;
      rounds = record {
        fates_are = got.2.given;
        moment = inr (inr (inl (m, done, b.rounding, begins, just x.rounding.asked (λ fates. WithinRound f fates b.world m b.rounding x) got.1.goes)));
      };
    }

-- ---- all rounds are done

pub nobody_ahead : (f : Frame) (start : ℕ) (base told : List Asked) (steps : List Step) (s : FollowerRounds) → BehindEnds → (b : Beside f start base told steps s) → ahead f b.world f.settings.nodes ≡ None → (standing f b.world ≡ Going → ⊥)
    → HasArrived f start base told steps s
nobody_ahead f start base told steps s law b nobody over =
    let along = just b.rounding.asked (λ fates. BesideRun f start fates steps b.world b.rounding) b.along in
    record {
      world = b.world;
      replays = b.stands.replays;
      over = over;
      rounding = b.rounding;
      left = left_at f.settings.nodes base told s (between b.rounding) b.stands.at;
      rounds = record {
        before = b.rounding;
        along = along;
        end = law.nobody f start (fates_of b.rounding.asked) steps b.world b.rounding along nobody;
        fates_are = b.stands.at.given;
      };
    }

-- where none are left, or the follower applied as much
pub ends_so : (f : Frame) (start : ℕ) (base told : List Asked) (steps : List Step) (s : FollowerRounds) (m done left last : ℕ) → (b : Behind f start base told steps s m done) → last ≡ (b.world.nodes m).member.applied → done + left ≡ 2 * last + 64
    → (left ≡ 0) ⊎ (last ≤ s.follower.applied) → ((b.world.nodes m).member.applied ≤ b.rounding.copies.applied) ⊎ (done ≡ most_rounds b.world m)
ends_so f start base told steps s m done left last b is all (inl none) = inr (omega (arith, is, all, none))
ends_so f start base told steps s m done left last b is all (inr as_much) = inl (let same = ap (λ (c : Copied). c.applied) b.stands.at.copies in omega (arith, is, as_much, same))

pub arrives : (f : Frame) (start : ℕ) (base told : List Asked) (steps : List Step) (s : FollowerRounds) (m done : ℕ) → BehindEnds → (b : Behind f start base told steps s m done) → done ≤ most_rounds b.world m
    → ((b.world.nodes m).member.applied ≤ b.rounding.copies.applied) ⊎ (done ≡ most_rounds b.world m) → (standing f b.world ≡ Going → ⊥) → HasArrived f start base told steps s
arrives f start base told steps s m done law b le so over = record {
  world = b.world;
  replays = b.stands.replays;
  over = over;
  rounding = b.rounding;
  left = left_at f.settings.nodes base told s (between b.rounding) b.stands.at;
  rounds = record {
    before = b.before;
    along = just b.rounding.asked (λ fates. BesideRun f start fates steps b.world b.before) b.along;
    end = law.some f (fates_of b.rounding.asked) b.world m done b.before b.rounding b.member le (just b.rounding.asked (λ fates. RoundsWith f fates b.world m done b.before b.rounding) b.with_it) so;
    fates_are = b.stands.at.given;
  };
}
