-- From one moment to another, and on.
use Rattle.std.proofs.Common.{◌≡◌, ◌∙◌, ◌⊎◌, inl, inr, ℕ, zero, suc, List, [], ◌++◌, refl, ap, sym, subst}
use Rattle.net_rules.specs.declared.asked.Asked.{Asked}
use Rattle.net_rules.specs.declared.fate.Fate.{Fate}
use Rattle.world_rules.specs.declared.event.Step.{Step}
use Rattle.world_rules.specs.Frame.{Frame}
use Rattle.world_rules.specs.Worlds.{World}
use Rattle.join_law.proofs.Reaching.{next_behind}
use Rattle.join_law.specs.Moments.{IsReached, Moment, moments, next_moment}
use Rattle.join_law.specs.Promise.{ReachedGoesOn}
use Rattle.follower_run.specs.Given.{fates_of}
use Rattle.follower_run.specs.Going.{Change, GoesBy, GoesOn, LeavesAtMost, LeavesOff, MayGoOn, Nexts, RunsOut, RunsTo}
use Rattle.follower_run.specs.Kept.{IsLeftAt}
use Rattle.follower_run.specs.declared.rounds.FollowerRounds.{FollowerRounds}
use Rattle.follower_run.proofs.Given.{behind_both, later_on, none_behind}
use Rattle.follower_run.proofs.Standing.{none_come}

-- ---- whatever is answered later

-- what was so of fewer questions still is
pub goes_later : (change : List Fate → Moment → Moment → Type 0) (v x : Moment) (asked more : List Asked) → GoesBy change v x → asked ≡ x.rounding.asked ++ more → (later : List Fate) → change (fates_of asked ++ later) v x
goes_later change v x asked more by is later =
    subst (λ (fates : List Fate). change fates v x) (sym (ap (λ (l : List Asked). fates_of l ++ later) is ∙ later_on x.rounding.asked more later)) (by.goes (fates_of more ++ later))

pub goes_both : (one other both : List Fate → Moment → Moment → Type 0) (v x y : Moment) → ((fates : List Fate) → one fates v x → other fates x y → both fates v y) → GoesBy one v x → GoesBy other x y → GoesBy both v y
goes_both one other both v x y join by too = record {
  more = by.more ++ too.more;
  grows = too.grows ∙ ap (λ (l : List Asked). l ++ too.more) by.grows ∙ behind_both v.rounding.asked by.more too.more;
  goes = λ later. join (fates_of y.rounding.asked ++ later) (goes_later one v x y.rounding.asked too.more by too.grows later) (too.goes later);
}

pub goes_nowhere : (change : List Fate → Moment → Moment → Type 0) (v : Moment) → ((fates : List Fate) → change fates v v) → GoesBy change v v
goes_nowhere change v is = record { more = []; grows = sym (none_behind v.rounding.asked); goes = λ later. is (fates_of v.rounding.asked ++ later) }

-- where nothing is asked
pub goes_silent : (change : List Fate → Moment → Moment → Type 0) (v x : Moment) → x.rounding.asked ≡ v.rounding.asked → ((fates : List Fate) → change fates v x) → GoesBy change v x
goes_silent change v x same is = record { more = []; grows = same ∙ sym (none_behind v.rounding.asked); goes = λ later. is (fates_of x.rounding.asked ++ later) }

-- the same by another name
pub goes_as : (one other : List Fate → Moment → Moment → Type 0) (v x : Moment) → ((fates : List Fate) → one fates v x → other fates v x) → GoesBy one v x → GoesBy other v x
goes_as one other v x also by = record { more = by.more; grows = by.grows; goes = λ later. also (fates_of x.rounding.asked ++ later) (by.goes later) }

-- ---- calls, one after the other

module _ (f : Frame) (steps : List Step) where
  pub on_both : (told told' told'' : List Asked) (s s' s'' : FollowerRounds) (one other both : Change)
      → ((w : World) (fates : List Fate) (v x y : Moment) → one w fates v x → other w fates x y → both w fates v y)
      → GoesOn f steps told s told' s' one → GoesOn f steps told' s' told'' s'' other → GoesOn f steps told s told'' s'' both
  on_both told told' told'' s s' s'' one other both join first second w base v replays a =
      let x = first w base v replays a in
      let y = second w base x.0 replays x.2 in
      (y.0, goes_both (one w) (other w) (both w) v x.0 y.0 (λ fates so too. join w fates v x.0 y.0 so too) x.1 y.1, y.2)

  pub off_both : (told told' told'' : List Asked) (s s' s'' : FollowerRounds) (one other both : Change)
      → ((w : World) (fates : List Fate) (v x y : Moment) → one w fates v x → other w fates x y → both w fates v y)
      → GoesOn f steps told s told' s' one → LeavesOff f steps told' s' told'' s'' other → LeavesOff f steps told s told'' s'' both
  off_both told told' told'' s s' s'' one other both join first second w base v replays a =
      let x = first w base v replays a in
      let y = second w base x.0 replays x.2 in
      (y.0, goes_both (one w) (other w) (both w) v x.0 y.0 (λ fates so too. join w fates v x.0 y.0 so too) x.1 y.1, y.2)

  pub on_as : (told told' : List Asked) (s s' : FollowerRounds) (one other : Change) → ((w : World) (fates : List Fate) (v x : Moment) → one w fates v x → other w fates v x)
      → GoesOn f steps told s told' s' one → GoesOn f steps told s told' s' other
  on_as told told' s s' one other also first w base v replays a =
      let x = first w base v replays a in
      (x.0, goes_as (one w) (other w) v x.0 (λ fates so. also w fates v x.0 so) x.1, x.2)

  pub off_as : (told told' : List Asked) (s s' : FollowerRounds) (one other : Change) → ((w : World) (fates : List Fate) (v x : Moment) → one w fates v x → other w fates v x)
      → LeavesOff f steps told s told' s' one → LeavesOff f steps told s told' s' other
  off_as told told' s s' one other also first w base v replays a =
      let x = first w base v replays a in
      (x.0, goes_as (one w) (other w) v x.0 (λ fates so. also w fates v x.0 so) x.1, x.2)

  -- ---- until nothing comes any more

  pub runs_first : (told : List Asked) (s : FollowerRounds) → GoesOn f steps told s told s (RunsTo f)
  runs_first told s w base v replays a = (v, goes_nowhere (RunsTo f w) v (λ fates. (0, refl)), a)

  runs_more : (w : World) (fates : List Fate) (v x y : Moment) → RunsTo f w fates v x → Nexts f w fates x y → RunsTo f w fates v y
  runs_more w fates v x y runs next = (suc runs.0, next ∙ ap (next_moment f fates w) runs.1 ∙ next_behind f fates w runs.0 v)

  pub runs_next : (told told' told'' : List Asked) (s s' s'' : FollowerRounds) → GoesOn f steps told s told' s' (RunsTo f) → GoesOn f steps told' s' told'' s'' (Nexts f) → GoesOn f steps told s told'' s'' (RunsTo f)
  runs_next told told' told'' s s' s'' first second = on_both told told' told'' s s' s'' (RunsTo f) (Nexts f) (RunsTo f) runs_more first second

  left_more : (w : World) (base told : List Asked) (s : FollowerRounds) (v x : Moment) → GoesBy (RunsTo f w) v x → IsLeftAt base told s x ⊎ ((y : Moment) × GoesBy (Nexts f w) x y × IsLeftAt base told s y)
      → (y : Moment) × GoesBy (RunsTo f w) v y × IsLeftAt base told s y
  left_more w base told s v x by (inl left) = (x, by, left)
  left_more w base told s v x by (inr more) = (more.0, goes_both (RunsTo f w) (Nexts f w) (RunsTo f w) v x more.0 (λ fates so too. runs_more w fates v x more.0 so too) by more.1, more.2)

  pub runs_left : (told told' told'' : List Asked) (s s' s'' : FollowerRounds) → GoesOn f steps told s told' s' (RunsTo f) → LeavesAtMost f steps told' s' told'' s'' (Nexts f) → LeavesOff f steps told s told'' s'' (RunsTo f)
  runs_left told told' told'' s s' s'' first second w base v replays a =
      let x = first w base v replays a in
      left_more w base told'' s'' v x.0 x.1 (second w base x.0 replays x.2)

  pub runs_out : (told told' : List Asked) (s s' : FollowerRounds) → GoesOn f steps told s told' s' (RunsTo f) → s'.coming.items ≡ [] → GoesOn f steps told s told' s' (RunsOut f)
  runs_out told told' s s' first none w base v replays a =
      let x = first w base v replays a in
      (x.0, goes_as (RunsTo f w) (RunsOut f w) v x.0 (λ fates so. (none_come f.settings.nodes base told' s' x.0 x.2 none, so)) x.1, x.2)

  -- ---- moves lead there

  moments_reach : ReachedGoesOn → (w : World) (fates : List Fate) (n : ℕ) (v : Moment) → IsReached f w v → IsReached f w (moments f fates w n v)
  moments_reach law w fates zero v r = r
  moments_reach law w fates (suc n) v r = moments_reach law w fates n (next_moment f fates w v) (law.next f w fates v r)

  pub may_run : ReachedGoesOn → (told told' : List Asked) (s s' : FollowerRounds) → MayGoOn f steps told s → GoesOn f steps told s told' s' (RunsTo f) → MayGoOn f steps told' s'
  may_run law told told' s s' may first =
      let x = first may.world may.base may.moment may.replays may.at in
      let runs = x.1.goes [] in
      record {
        world = may.world;
        base = may.base;
        moment = x.0;
        replays = may.replays;
        reached = subst (IsReached f may.world) (sym runs.1) (moments_reach law may.world (fates_of x.0.rounding.asked ++ []) runs.0 may.moment may.reached);
        at = x.2;
      }

  nexts_run : (w : World) (fates : List Fate) (v x : Moment) → Nexts f w fates v x → RunsTo f w fates v x
  nexts_run w fates v x next = (1, next)

  pub may_next : ReachedGoesOn → (told told' : List Asked) (s s' : FollowerRounds) → MayGoOn f steps told s → GoesOn f steps told s told' s' (Nexts f) → MayGoOn f steps told' s'
  may_next law told told' s s' may first = may_run law told told' s s' may (on_as told told' s s' (Nexts f) (RunsTo f) nexts_run first)
