-- What is left of a follower's rounds, whether all were done or memory lacked.
use Rattle.std.proofs.Common.{◌≡◌, ◌∙◌, inr, ℕ, true, List, Result, Ok, Err, OnErr, OnOk, refl, ap, sym, subst, arith}
use Rattle.std.specs.Prelude.{is_ok}
use Rattle.net_rules.specs.declared.asked.Asked.{Asked}
use Rattle.object_manager.specs.After.{Copied}
use Rattle.value_core.specs.Meaning.{Computes, Performs}
use Rattle.world_facts.specs.Replicated.{AllReplicated}
use Rattle.world_rules.specs.declared.event.Step.{Step}
use Rattle.world_rules.specs.Frame.{AreSettings, Frame}
use Rattle.world_rules.specs.Steps.{Replays}
use Rattle.world_rules.specs.Worlds.{World}
use Rattle.join_law.proofs.Catching.{aheads}
use Rattle.join_law.proofs.Rounding.{is_member}
use Rattle.join_law.specs.Moments.{RoundsUpTo, between}
use Rattle.join_law.specs.Promise.{IsFollower, MomentsFollow, RoundsCatchUp}
use Rattle.join_law.specs.Rounds.{ahead, can_answer, last_number}
use Rattle.follower_run.specs.Done.{HasFollowed}
use Rattle.follower_run.specs.Given.{fates_of}
use Rattle.follower_run.specs.Travelled.{HasArrived, HasTravelled}
use Rattle.follower_run.specs.declared.joined.FollowerLeft.{FollowerLeft}
use Rattle.follower_run.specs.declared.rounds.FollowerRounds.{FollowerRounds}

-- where a member answers, what is told behind the follower's own number is how much some such member applied
last_is : (f : Frame) (w : World) (m last : ℕ) → can_answer f w m ≡ true → last ≡ last_number f w (ahead f w f.settings.nodes) → (k : ℕ) × (can_answer f w k ≡ true) × (last ≡ (w.nodes k).member.applied)
last_is f w m last can is =
    let by = aheads f w f.settings.nodes in
    let most = by.most m (is_member f w m can) can in
    (most.0, by.answers_too most.0 most.1, is ∙ ap (last_number f w) most.1)

pub followed : {T E : Type 0} (f : Frame) (p : Performs) (q : Computes) → f.performs ≡ p → f.computes ≡ q → AreSettings f.settings → AllReplicated f → MomentsFollow p q → RoundsCatchUp p q
    → (start : ℕ) (base told : List Asked) (steps : List Step) (s : FollowerRounds) (r : Result T E) → OnOk r (HasArrived f start base told steps s) → OnErr r (HasTravelled f start base told steps s)
    → (end : FollowerLeft) → end.follower ≡ s.follower → end.states ≡ s.states → ((w : World) → Replays f steps w → end.last ≡ last_number f w (ahead f w f.settings.nodes)) → end.whole ≡ is_ok r → HasFollowed f start base told steps end
followed f p q performs computes settings replicated moments catches start base told steps s (Ok x) h stopped end follower states last whole =
    let fates = fates_of h.rounding.asked in
    let up : RoundsUpTo f start fates steps h.world (between h.rounding) = record { fates_are = h.left.given; moment = inr (inr (inr (refl, h.rounds))) } in
    let copies : end.follower ≡ h.rounding.copies = follower ∙ h.left.copies in
    record {
      world = h.world;
      replays = h.replays;
      moment = between h.rounding;
      rounds = up;
      asked = h.left.tells;
      copies = copies;
      states = states ∙ h.left.states;
      last = last h.world h.replays;
      follower = subst (λ (c : Copied). IsFollower f h.world c) (sym copies) (moments f performs computes settings replicated start fates steps h.world (between h.rounding) up);
      whole = λ is. record {
        over = h.over;
        rounds = h.rounds;
        caught = λ all m can. let most = catches f performs computes settings replicated start fates steps h.world h.rounding h.rounds all m can in omega (arith, most, ap (λ (c : Copied). c.applied) copies);
        level = λ all m can.
            let by = last_is f h.world m end.last can (last h.world h.replays) in
            let most = catches f performs computes settings replicated start fates steps h.world h.rounding h.rounds all by.0 by.1 in
            omega (arith, most, by.2, ap (λ (c : Copied). c.applied) copies);
      };
    }
followed f p q performs computes settings replicated moments catches start base told steps s (Err e) arrived h end follower states last whole =
    let copies : end.follower ≡ h.moment.rounding.copies = follower ∙ h.left.copies in
    record {
      world = h.world;
      replays = h.replays;
      moment = h.moment;
      rounds = h.rounds;
      asked = h.left.tells;
      copies = copies;
      states = states ∙ h.left.states;
      last = last h.world h.replays;
      follower = subst (λ (c : Copied). IsFollower f h.world c) (sym copies) (moments f performs computes settings replicated start (fates_of h.moment.rounding.asked) steps h.world h.moment h.rounds);
      whole = λ is. absurd (cc (sym is ∙ whole));
    }
