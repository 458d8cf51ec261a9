use Rattle.std.proofs.Common.{◌∙◌, ap, arith, suc, inl, inr, None, Some, refl}
use Rattle.join_law.specs.Moments.{asks_member, next_moment, opens_round}
use Rattle.world_rules.specs.Worlds.{opening_world}
use Rattle.join_law.specs.Rounds.{most_rounds, opening_rounding, releases}
use Rattle.join_law.proofs.Behind.{caught_now, ends_at_once, last_behind, next_behind as behind_next, some_behind}
use Rattle.join_law.proofs.Growing.{along_same, behind_same, within_same}
use Rattle.join_law.proofs.Reaching.{beside_on, first_reached, moment_reached, next_behind, opening_reached, opens_reached, releases_end, round_reached, seek_reached, seeks_end, step_reached}
use Rattle.join_law.proofs.rounds_law.Goals as goal

pub returns : goal.returns
returns c = record {
  reached = λ f start fates steps w v up. moment_reached f start fates steps w v up;
  goes = record {
    opening = λ f. opens_reached f;
    step = λ f w x step u reached next. step_reached f w x step u next reached;
    opens = λ f w u reached. opening_reached f w u reached;
    asks = λ f w fates m u reached. seek_reached f w fates m u reached;
    next = λ f w fates v reached. first_reached f w fates v.rounding v.coming reached;
    rounds = λ f w fates m u reached. round_reached f w fates m u reached;
  };
  steps = λ f start fates steps w u step x along next. beside_on f start fates steps w u step x along next;
  behind = record {
    first = λ f start fates steps w m u along ahead_is behind. record { before = u; along = along; member = ahead_is; few = omega arith; rounds = refl; behind = behind };
    next = λ f start fates steps w m done u b few behind. behind_next f start fates steps w m done u b few behind;
  };
  behind_ends = record {
    nobody = λ f start fates steps w u along nobody. ends_at_once f fates w None u nobody refl;
    none = λ f start fates steps w m u along ahead_is le. ends_at_once f fates w (Some m) u ahead_is (caught_now f fates w m (most_rounds w m) u le);
    last = λ f start fates steps w m done u b so fates_are. last_behind f start fates steps w m done u b so fates_are;
    some = λ f fates w m done before u member le with_it so. some_behind f fates w m done before u member le with_it so;
  };
  answered_behind = λ f start fates more steps w m done u b le. behind_same f start fates more steps w m done u le b;
  answered = λ f start fates more steps w u along le. along_same f fates more start 1 (opening_world f) steps opening_rounding w u le along;
  stay = λ f fates more w m u v within le. within_same f fates more w m u v le within;
  moments = λ f fates w m u v within. (
    suc within.0,
    elim within.1 [
      | inl e ↦ inl (ap (next_moment f fates w) e ∙ next_behind f fates w within.0 (opens_round u))
      | inr e ↦ inr (ap (next_moment f fates w) e ∙ next_behind f fates w within.0 (asks_member f fates m (releases f fates w u)))
    ],
  );
  ends = record {
    released = λ f fates w n u y e. releases_end f fates w n u y e;
    done = λ f fates w m n u y e. seeks_end f fates w m n u y e;
  };
}
