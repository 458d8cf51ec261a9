-- A round, from its opening to its end.
use Rattle.std.proofs.Common.{◌≡◌, ◌∙◌, ◌⊎◌, inl, inr, ℕ, suc, List, [], ◌++◌, length, refl, ap, sym, subst}
use Rattle.std.specs.List.{filter}
use Rattle.group_join.specs.declared.packet.JoinPacket.TheVariants.{Seek}
use Rattle.net_rules.specs.Flights.{is_ready, ticked}
use Rattle.net_rules.specs.declared.asked.Asked.{Asked}
use Rattle.net_rules.specs.declared.fate.Fate.{Fate}
use Rattle.world_rules.specs.declared.event.Step.{Step}
use Rattle.world_rules.specs.Frame.{Frame}
use Rattle.world_rules.specs.Worlds.{World}
use Rattle.join_law.specs.Moments.{IsReached, Moment, asks_member, between, moments, opens_round, sent_as}
use Rattle.join_law.specs.Promise.{ReachedGoesOn, RoundEnds}
use Rattle.join_law.specs.Rounds.{Rounding, bytes_in, kind_of, releases, round}
use Rattle.follower_run.specs.Given.{fates_of}
use Rattle.follower_run.specs.Going.{Asks, Change, DoesRound, GoesBy, GoesOn, HasSent, HasSentAtMost, IsInRound, LeavesOff, MayGoOn, Opens, RunsOut, RunsTo}
use Rattle.follower_run.specs.Kept.{IsAt, IsLeftAt}
use Rattle.follower_run.specs.Posts.{is_late}
use Rattle.follower_run.specs.declared.rounds.FollowerRounds.{FollowerRounds}
use Rattle.follower_run.proofs.Given.{fate_there}
use Rattle.follower_run.proofs.Going.{goes_as, goes_both, goes_silent, off_both, on_both}
use Rattle.follower_run.proofs.Standing.{counted_at, none_come, opened_at}

-- what was held back was released, and nothing comes
abbrev pub Releases : Frame → Change
Releases f w fates v x = (x.coming ≡ []) × (x.rounding ≡ releases f fates w v.rounding) × RunsTo f w fates (opens_round v.rounding) x

-- and then the member was asked; and nothing comes any more
abbrev pub HasAsked : Frame → ℕ → Change
HasAsked f m w fates v x = x ≡ asks_member f fates m (releases f fates w v.rounding)

abbrev pub HasRound : Frame → ℕ → Change
HasRound f m w fates v x = record x.rounding { rounds = suc v.rounding.rounds } ≡ round f fates w m v.rounding

between_is : (x : Moment) → x.coming ≡ [] → x ≡ between x.rounding
between_is x none = ap (λ cs. record { rounding = x.rounding; coming = cs }) none

module _ (f : Frame) (steps : List Step) (ends : RoundEnds) where
  -- ---- the first half

  pub opens : (told : List Asked) (s s' : FollowerRounds) → s.coming.items ≡ [] → s'.number ≡ s.number → s'.follower ≡ s.follower → s'.states ≡ s.states → s'.rounds ≡ s.rounds → s'.questions ≡ s.questions
      → s'.held.items ≡ filter is_late (ticked s.held.items) → s'.coming.items ≡ s.coming.items ++ filter is_ready (ticked s.held.items) → GoesOn f steps told s told s' Opens
  opens told s s' none number follower states rounds questions held coming w base v replays a = (
    opens_round v.rounding,
    goes_silent (Opens w) v (opens_round v.rounding) refl (λ fates. refl),
    opened_at f.settings.nodes base told s s' v a none number follower states rounds questions held coming,
  )

  pub may_open : ReachedGoesOn → (told : List Asked) (s s' : FollowerRounds) → s.coming.items ≡ [] → MayGoOn f steps told s → GoesOn f steps told s told s' Opens → MayGoOn f steps told s'
  may_open law told s s' none may first =
      let x = first may.world may.base may.moment may.replays may.at in
      let nothing = none_come f.settings.nodes may.base told s may.moment may.at none in
      record {
        world = may.world;
        base = may.base;
        moment = x.0;
        replays = may.replays;
        reached = subst (IsReached f may.world) (sym (x.1.goes [])) (law.opens f may.world may.moment.rounding (subst (IsReached f may.world) (between_is may.moment nothing) may.reached));
        at = x.2;
      }

  releases_on : (w : World) (fates : List Fate) (v x y : Moment) → Opens w fates v x → RunsOut f w fates x y → Releases f w fates v y
  releases_on w fates v x y opened out =
      let runs : RunsTo f w fates (opens_round v.rounding) y = subst (λ (z : Moment). RunsTo f w fates z y) opened out.1 in
      (out.0, ends.released f fates w runs.0 v.rounding y.rounding (sym runs.1 ∙ between_is y out.0), runs)

  pub released : (told told' : List Asked) (s s' s'' : FollowerRounds) → GoesOn f steps told s told s' Opens → GoesOn f steps told s' told' s'' (RunsOut f) → GoesOn f steps told s told' s'' (Releases f)
  released told told' s s' s'' first second = on_both f steps told told told' s s' s'' Opens (RunsOut f) (Releases f) releases_on first second

  -- memory lacked while it was
  first_in : (m : ℕ) (w : World) (fates : List Fate) (v x y : Moment) → Opens w fates v x → RunsTo f w fates x y → IsInRound f m w fates v y
  first_in m w fates v x y opened runs = (runs.0, inl (runs.1 ∙ ap (moments f fates w runs.0) opened))

  pub first_left : (m : ℕ) (told told' : List Asked) (s s' s'' : FollowerRounds) → GoesOn f steps told s told s' Opens → LeavesOff f steps told s' told' s'' (RunsTo f) → LeavesOff f steps told s told' s'' (IsInRound f m)
  first_left m told told' s s' s'' first second = off_both f steps told told told' s s' s'' Opens (RunsTo f) (IsInRound f m) (first_in m) first second

  -- or before
  pub before_left : (m : ℕ) (told : List Asked) (s s' : FollowerRounds) → s'.follower ≡ s.follower → s'.states ≡ s.states → LeavesOff f steps told s told s' (IsInRound f m)
  before_left m told s s' follower states w base v replays a = (
    opens_round v.rounding,
    goes_silent (IsInRound f m w) v (opens_round v.rounding) refl (λ fates. (0, inl refl)),
    record { copies = follower ∙ a.copies; states = states ∙ a.states; tells = a.tells; given = a.given },
  )

  -- ---- the member is asked

  asked_so : (m : ℕ) (w : World) (v x : Moment) (fate : Fate) (later : List Fate) → length (fates_of x.rounding.asked) ≡ length x.rounding.asked
      → sent_as fate f.settings.nodes m (Seek x.rounding.copies.applied) (between x.rounding)
      ≡ asks_member f (fates_of (sent_as fate f.settings.nodes m (Seek x.rounding.copies.applied) (between x.rounding)).rounding.asked ++ later) m x.rounding
  asked_so m w v x fate later given =
      let u = x.rounding in
      let seek = Seek u.copies.applied in
      ap (λ (one : Fate). sent_as one f.settings.nodes m seek (between u))
      (sym (fate_there u.asked (suc (length u.asked)) (kind_of seek) f.settings.nodes m (bytes_in seek) fate later given))

  -- a Seek was sent at a moment at which nothing comes
  sent_asks : (m : ℕ) (w : World) (x : Moment) (fate : Fate) → x.coming ≡ [] → length (fates_of x.rounding.asked) ≡ length x.rounding.asked → (y : Moment)
      → y ≡ sent_as fate f.settings.nodes m (Seek x.rounding.copies.applied) (between x.rounding) → GoesBy (Asks f m w) x y
  sent_asks m w x fate none given y is = record {
    more = _;
    grows = ap (λ (z : Moment). z.rounding.asked) is;
    goes = λ later.
        is ∙ asked_so m w x x fate later given
        ∙ ap (λ (z : Moment). asks_member f (fates_of z.rounding.asked ++ later) m x.rounding) (sym is);
  }

  sent_seek : (number applied m : ℕ) (x : Moment) (fate : Fate) → x.coming ≡ [] → number ≡ f.settings.nodes → applied ≡ x.rounding.copies.applied
      → sent_as fate number m (Seek applied) x ≡ sent_as fate f.settings.nodes m (Seek x.rounding.copies.applied) (between x.rounding)
  sent_seek number applied m x fate none own copies =
      ap (λ (n : ℕ). sent_as fate n m (Seek applied) x) own
      ∙ ap (λ (n : ℕ). sent_as fate f.settings.nodes m (Seek n) x) copies
      ∙ ap (sent_as fate f.settings.nodes m (Seek x.rounding.copies.applied)) (between_is x none)

  asks_then : (m : ℕ) (w : World) (fates : List Fate) (v x y : Moment) → Releases f w fates v x → Asks f m w fates x y → HasAsked f m w fates v y
  asks_then m w fates v x y rel asked = asked ∙ ap (asks_member f fates m) rel.1

  pub asks : (m : ℕ) (told told' told'' : List Asked) (s s' s'' : FollowerRounds) → GoesOn f steps told s told' s' (Releases f) → s'.coming.items ≡ [] → HasSent s'.number m (Seek s'.follower.applied) told' s' told'' s'' → GoesOn f steps told s told'' s'' (HasAsked f m)
  asks m told told' told'' s s' s'' first none sent =
      on_both f steps told told' told'' s s' s'' (Releases f) (Asks f m) (HasAsked f m) (asks_then m) first (λ w base x replays a.
      let got = sent f.settings.nodes base x a in
      let nothing = none_come f.settings.nodes base told' s' x a none in
      let y = sent_as got.0 s'.number m (Seek s'.follower.applied) x in
      (y, sent_asks m w x got.0 nothing a.given y (sent_seek s'.number s'.follower.applied m x got.0 nothing a.number (ap (λ c. c.applied) a.copies)), got.1))

  -- memory lacked before the wire was asked about the Seek, or behind that
  asked_left : (m : ℕ) (w : World) (base told : List Asked) (s : FollowerRounds) (v x : Moment) (number applied : ℕ) → GoesBy (Releases f w) v x → x.coming ≡ [] → number ≡ f.settings.nodes → applied ≡ x.rounding.copies.applied
      → length (fates_of x.rounding.asked) ≡ length x.rounding.asked → IsLeftAt base told s x ⊎ ((fate : Fate) × IsLeftAt base told s (sent_as fate number m (Seek applied) x))
      → (y : Moment) × GoesBy (IsInRound f m w) v y × IsLeftAt base told s y
  asked_left m w base told s v x number applied by none own copies given (inl left) =
      (x, goes_as (Releases f w) (IsInRound f m w) v x (λ fates rel. (rel.2.0, inl rel.2.1)) by, left)
  asked_left m w base told s v x number applied by none own copies given (inr got) =
      let y = sent_as got.0 number m (Seek applied) x in
      let too = sent_asks m w x got.0 none given y (sent_seek number applied m x got.0 none own copies) in
      (y, goes_both (Releases f w) (Asks f m w) (IsInRound f m w) v x y (λ fates rel asked. (0, inr (asked ∙ ap (asks_member f fates m) rel.1))) by too, got.1)

  pub ask_left : (m : ℕ) (told told' told'' : List Asked) (s s' s'' : FollowerRounds) → GoesOn f steps told s told' s' (Releases f) → s'.coming.items ≡ [] → HasSentAtMost s'.number m (Seek s'.follower.applied) told' s' told'' s''
      → LeavesOff f steps told s told'' s'' (IsInRound f m)
  ask_left m told told' told'' s s' s'' first none sent w base v replays a =
      let x = first w base v replays a in
      asked_left m w base told'' s'' v x.0 s'.number s'.follower.applied x.1 (none_come f.settings.nodes base told' s' x.0 x.2 none) x.2.number (ap (λ c. c.applied) x.2.copies) x.2.given (sent f.settings.nodes base x.0 x.2)

  -- ---- the second half

  round_on : (m : ℕ) (w : World) (fates : List Fate) (v x y : Moment) → HasAsked f m w fates v x → RunsOut f w fates x y → HasRound f m w fates v y
  round_on m w fates v x y asked out =
      let runs : RunsTo f w fates (asks_member f fates m (releases f fates w v.rounding)) y = subst (λ (z : Moment). RunsTo f w fates z y) asked out.1 in
      ends.done f fates w m runs.0 v.rounding y.rounding (sym runs.1 ∙ between_is y out.0)

  second_in : (m : ℕ) (w : World) (fates : List Fate) (v x y : Moment) → HasAsked f m w fates v x → RunsTo f w fates x y → IsInRound f m w fates v y
  second_in m w fates v x y asked runs = (runs.0, inr (runs.1 ∙ ap (moments f fates w runs.0) asked))

  pub second_left : (m : ℕ) (told told' told'' : List Asked) (s s' s'' : FollowerRounds) → GoesOn f steps told s told' s' (HasAsked f m) → LeavesOff f steps told' s' told'' s'' (RunsTo f) → LeavesOff f steps told s told'' s'' (IsInRound f m)
  second_left m told told' told'' s s' s'' first second = off_both f steps told told' told'' s s' s'' (HasAsked f m) (RunsTo f) (IsInRound f m) (second_in m) first second

  -- the round is counted, when nothing comes any more
  pub done : (m : ℕ) (told told' told'' : List Asked) (s s' s'' t : FollowerRounds) → GoesOn f steps told s told' s' (HasAsked f m) → GoesOn f steps told' s' told'' s'' (RunsOut f) → s''.coming.items ≡ []
      → t.rounds ≡ suc s.rounds → t.number ≡ s''.number → t.follower ≡ s''.follower → t.states ≡ s''.states → t.questions ≡ s''.questions → t.held.items ≡ s''.held.items → t.coming.items ≡ s''.coming.items
      → GoesOn f steps told s told'' t (DoesRound f m)
  done m told told' told'' s s' s'' t first second none count number follower states questions held coming w base v replays a =
      let got = on_both f steps told told' told'' s s' s'' (HasAsked f m) (RunsOut f) (HasRound f m) (round_on m) first second w base v replays a in
      let y = got.0 in
      let nothing = none_come f.settings.nodes base told'' s'' y got.2 none in
      let z : Rounding = record y.rounding { rounds = suc v.rounding.rounds } in
      let at = counted_at f.settings.nodes base told'' s'' t y.rounding (suc v.rounding.rounds) (subst (IsAt f.settings.nodes base told'' s'') (between_is y nothing) got.2) (count ∙ ap (λ (n : ℕ). suc n) a.rounds) number follower states questions held coming in (
        between z,
        record { more = got.1.more; grows = got.1.grows; goes = λ later. ap between (got.1.goes later) },
        at,
      )

  -- the member is asked where moves lead to
  pub may_ask : ReachedGoesOn → (m : ℕ) (told told' : List Asked) (s s' : FollowerRounds) → s.coming.items ≡ [] → MayGoOn f steps told s → HasSent s.number m (Seek s.follower.applied) told s told' s' → MayGoOn f steps told' s'
  may_ask law m told told' s s' none may sent =
      let x = may.moment in
      let got = sent f.settings.nodes may.base x may.at in
      let nothing = none_come f.settings.nodes may.base told s x may.at none in
      let y = sent_as got.0 s.number m (Seek s.follower.applied) x in
      let by = sent_asks m may.world x got.0 nothing may.at.given y (sent_seek s.number s.follower.applied m x got.0 nothing may.at.number (ap (λ c. c.applied) may.at.copies)) in
      record {
        world = may.world;
        base = may.base;
        moment = y;
        replays = may.replays;
        reached = subst (IsReached f may.world) (sym (by.goes []))
            (law.asks f may.world (fates_of y.rounding.asked ++ []) m x.rounding (subst (IsReached f may.world) (between_is x nothing) may.reached));
        at = got.1;
      }
