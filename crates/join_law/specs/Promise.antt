-- What is promised of a member that joins late, beside every run without single objects.
use Rattle.std.specs.Prelude.{◌≡◌, ◌≤◌, ◌<◌, ◌⊎◌, ℕ, suc, true, List, [], ◌∷◌, ◌++◌, length, None, Some}
use Rattle.std.specs.List.{AllByRecursion}
use Rattle.value_core.specs.History.{objects_of}
use Rattle.value_core.specs.Meaning.{Computes, Performs}
use Rattle.object_manager.specs.After.{Copied}
use Rattle.book_law.specs.Events.{In}
use Rattle.book_law.specs.Fitness.{ArgsFit}
use Rattle.net_rules.specs.declared.asked.Asked.{Asked}
use Rattle.net_rules.specs.declared.fate.Fate.{Fate}
use Rattle.net_rules.specs.declared.flight.Flight.{Flight}
use Rattle.group_join.specs.declared.packet.JoinPacket.{JoinPacket}
use Rattle.group_join.specs.Following.{AreAfter, MayReceive, TellsList}
use Rattle.world_rules.specs.declared.event.Step.{Step}
use Rattle.world_rules.specs.Frame.{AreSettings, Frame}
use Rattle.world_rules.specs.Worlds.{World, agreed, opening_world}
use Rattle.world_facts.specs.Replicated.{AllReplicated}
use Rattle.world_book.specs.Promise.{book_up_to}
use Rattle.join_law.specs.Followed.{Followed, Joining, Move, opening_joining}
use Rattle.world_rules.specs.Steps.{Next}
use Rattle.join_law.specs.Rounds.{BehindRun, BesideRun, Carried, Rounding, Rounds, ahead, can_answer, has_passed, most_rounds, opening_rounding, releases, round, turns}
use Rattle.join_law.specs.Moments.{BeginsBehind, IsBehind, IsReached, Moment, RoundsUpTo, RoundsWith, WithinRound, asks_member, between, moments, next_moment, opens_round}

-- the follower's copies are those after the first entries of the agreed list, as many as it applied; and so its objects are those that
-- the lines of the book leave whose places are at most that number
pub record IsFollower (f : Frame) (w : World) (c : Copied) : Type 0 where
  pub after : AreAfter f.performs (agreed f w) c
  pub book : c.objects ≡ objects_of f.performs f.computes (book_up_to f w c.applied)

-- `tells`, and each packet that was ever sent tells that list
pub record Follows (f : Frame) (u : Joining) : Type 0 where
  pub follower : IsFollower f u.world u.copies
  pub tells : (packet : JoinPacket) → In packet u.sent → TellsList f.performs (agreed f u.world) packet

-- so it is after every list of moves, and from there on the applied number never falls
abbrev pub AllFollow : Performs → Computes → Type 0
AllFollow p q =
    (f : Frame) → f.performs ≡ p → f.computes ≡ q → AreSettings f.settings → AllReplicated f → (moves : List Move) (u : Joining) →
    Followed f (opening_joining f) moves u → Follows f u

abbrev pub NoneFall : Performs → Computes → Type 0
NoneFall p q =
    (f : Frame) → f.performs ≡ p → f.computes ≡ q → AreSettings f.settings → AllReplicated f → (moves more : List Move) (u v : Joining) →
    Followed f (opening_joining f) moves u → Followed f u more v → u.copies.applied ≤ v.copies.applied

-- and each packet that was ever sent may be received, by that list: each of its entries may be applied in turn, and passes no limit
abbrev pub AllMayReceive : Performs → Computes → ArgsFit → Type 0
AllMayReceive p q fits_args =
    (f : Frame) → f.performs ≡ p → f.computes ≡ q → AreSettings f.settings → AllReplicated f → (moves : List Move) (u : Joining) →
    Followed f (opening_joining f) moves u → (packet : JoinPacket) → In packet u.sent →
    MayReceive fits_args f.performs (agreed f u.world) u.copies packet

-- ---- the command's rounds

-- whatever they reach, also within one round, some moves lead to; by then each packet that is held back or comes was sent
abbrev pub MomentsAreReached : Type 0
MomentsAreReached =
    (f : Frame) (start : ℕ) (fates : List Fate) (steps : List Step) (w : World) (v : Moment) →
    RoundsUpTo f start fates steps w v → IsReached f w v

-- some moves lead to the opening; and from where some lead to others lead on: to the next step of the run, to the beginning of a round,
-- to the Seek of a round, to the next moment, and to the end of a round
pub record ReachedGoesOn : Type 0 where
  pub opening : (f : Frame) → IsReached f (opening_world f) (between opening_rounding)
  pub step : (f : Frame) (w x : World) (step : Step) (u : Rounding) → IsReached f w (between u) → Next f w step x → IsReached f x (between u)
  pub opens : (f : Frame) (w : World) (u : Rounding) → IsReached f w (between u) → IsReached f w (opens_round u)
  pub asks :
      (f : Frame) (w : World) (fates : List Fate) (m : ℕ) (u : Rounding) → IsReached f w (between u) →
      IsReached f w (asks_member f fates m u)
  pub next : (f : Frame) (w : World) (fates : List Fate) (v : Moment) → IsReached f w v → IsReached f w (next_moment f fates w v)
  pub rounds :
      (f : Frame) (w : World) (fates : List Fate) (m : ℕ) (u : Rounding) → IsReached f w (between u) →
      IsReached f w (between (round f fates w m u))

-- so each packet that comes may be received, and the follower is one at each moment
abbrev pub ReachedMayReceive : Performs → Computes → ArgsFit → Type 0
ReachedMayReceive p q fits_args =
    (f : Frame) → f.performs ≡ p → f.computes ≡ q → AreSettings f.settings → AllReplicated f → (w : World) (v : Moment) → IsReached f w v →
    AllByRecursion (λ (one : Flight Carried). MayReceive fits_args f.performs (agreed f w) v.rounding.copies one.packet.packet) v.coming

abbrev pub MomentsFollow : Performs → Computes → Type 0
MomentsFollow p q =
    (f : Frame) → f.performs ≡ p → f.computes ≡ q → AreSettings f.settings → AllReplicated f →
    (start : ℕ) (fates : List Fate) (steps : List Step) (w : World) (v : Moment) → RoundsUpTo f start fates steps w v →
    IsFollower f w v.rounding.copies

-- a step and its round go behind those beside a run
abbrev pub RoundsGoOn : Type 0
RoundsGoOn =
    (f : Frame) (start : ℕ) (fates : List Fate) (steps : List Step) (w : World) (u : Rounding) (step : Step) (x : World) →
    BesideRun f start fates steps w u → Next f w step x →
    BesideRun f start fates (steps ++ step ∷ []) x (turns f fates start x (suc (length steps)) u)

-- behind the run, where a member is ahead and the follower is behind it, the first round begins; after a round the next one begins, where
-- it still is and not all were done
pub record BehindGoesOn : Type 0 where
  pub first :
      (f : Frame) (start : ℕ) (fates : List Fate) (steps : List Step) (w : World) (m : ℕ) (u : Rounding) →
      BesideRun f start fates steps w u → ahead f w f.settings.nodes ≡ Some m → IsBehind w m u → BeginsBehind f start fates steps w m 0 u
  pub next :
      (f : Frame) (start : ℕ) (fates : List Fate) (steps : List Step) (w : World) (m done : ℕ) (u : Rounding) →
      BeginsBehind f start fates steps w m done u → suc done < most_rounds w m → IsBehind w m (round f fates w m u) →
      BeginsBehind f start fates steps w m (suc done) (round f fates w m u)

-- all rounds are done where nobody is ahead, or the follower isn't behind at the run's end; and after a round where it isn't any more, or
-- as many were done as are done at most. `some`, so it is after however many rounds, none among them
pub record BehindEnds : Type 0 where
  pub nobody :
      (f : Frame) (start : ℕ) (fates : List Fate) (steps : List Step) (w : World) (u : Rounding) → BesideRun f start fates steps w u →
      ahead f w f.settings.nodes ≡ None → BehindRun f fates w u u
  pub none :
      (f : Frame) (start : ℕ) (fates : List Fate) (steps : List Step) (w : World) (m : ℕ) (u : Rounding) →
      BesideRun f start fates steps w u → ahead f w f.settings.nodes ≡ Some m → (w.nodes m).member.applied ≤ u.copies.applied →
      BehindRun f fates w u u
  pub last :
      (f : Frame) (start : ℕ) (fates : List Fate) (steps : List Step) (w : World) (m done : ℕ) (u : Rounding) →
      BeginsBehind f start fates steps w m done u →
      ((w.nodes m).member.applied ≤ (round f fates w m u).copies.applied) ⊎ (suc done ≡ most_rounds w m) →
      length fates ≡ length (round f fates w m u).asked → Rounds f start fates steps w (round f fates w m u)
  pub some :
      (f : Frame) (fates : List Fate) (w : World) (m done : ℕ) (before u : Rounding) → ahead f w f.settings.nodes ≡ Some m →
      done ≤ most_rounds w m → RoundsWith f fates w m done before u →
      ((w.nodes m).member.applied ≤ u.copies.applied) ⊎ (done ≡ most_rounds w m) → BehindRun f fates w before u

-- what the wire answers later changes nothing of what stands
abbrev pub RoundsStay : Type 0
RoundsStay =
    (f : Frame) (start : ℕ) (fates more : List Fate) (steps : List Step) (w : World) (u : Rounding) →
    BesideRun f start fates steps w u → length u.asked ≤ length fates → BesideRun f start (fates ++ more) steps w u

abbrev pub BehindStays : Type 0
BehindStays =
    (f : Frame) (start : ℕ) (fates more : List Fate) (steps : List Step) (w : World) (m done : ℕ) (u : Rounding) →
    BeginsBehind f start fates steps w m done u → length u.asked ≤ length fates → BeginsBehind f start (fates ++ more) steps w m done u

abbrev pub MomentsStay : Type 0
MomentsStay =
    (f : Frame) (fates more : List Fate) (w : World) (m : ℕ) (u : Rounding) (v : Moment) →
    WithinRound f fates w m u v → length v.rounding.asked ≤ length fates → WithinRound f (fates ++ more) w m u v

-- a moment goes behind those within a round; where nothing comes any more, what was held back was released, or the round is done
abbrev pub MomentsGoOn : Type 0
MomentsGoOn =
    (f : Frame) (fates : List Fate) (w : World) (m : ℕ) (u : Rounding) (v : Moment) →
    WithinRound f fates w m u v → WithinRound f fates w m u (next_moment f fates w v)

pub record RoundEnds : Type 0 where
  pub released :
      (f : Frame) (fates : List Fate) (w : World) (n : ℕ) (u y : Rounding) →
      moments f fates w n (opens_round u) ≡ between y → y ≡ releases f fates w u
  pub done :
      (f : Frame) (fates : List Fate) (w : World) (m n : ℕ) (u y : Rounding) →
      moments f fates w n (asks_member f fates m (releases f fates w u)) ≡ between y →
      record y { rounds = suc u.rounds } ≡ round f fates w m u

abbrev pub RoundsFollow : Performs → Computes → Type 0
RoundsFollow p q =
    (f : Frame) → f.performs ≡ p → f.computes ≡ q → AreSettings f.settings → AllReplicated f →
    (start : ℕ) (fates : List Fate) (steps : List Step) (w : World) (z : Rounding) → Rounds f start fates steps w z →
    IsFollower f w z.copies

-- where each packet passes, the follower applied in the end at least as much as each living member that isn't outside
abbrev pub RoundsCatchUp : Performs → Computes → Type 0
RoundsCatchUp p q =
    (f : Frame) → f.performs ≡ p → f.computes ≡ q → AreSettings f.settings → AllReplicated f →
    (start : ℕ) (fates : List Fate) (steps : List Step) (w : World) (z : Rounding) → Rounds f start fates steps w z →
    AllByRecursion (λ (one : Asked). has_passed one ≡ true) z.asked → (m : ℕ) → can_answer f w m ≡ true →
    (w.nodes m).member.applied ≤ z.copies.applied
