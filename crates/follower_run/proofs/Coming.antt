-- Packets come: what each call does is what the next moment is.
use Rattle.std.specs.List.{AllByRecursion as All}
use Rattle.std.proofs.Common.{◌≡◌, ◌∙◌, ◌<◌, ◌^◌, ◌⊎◌, inl, inr, ℕ, suc, Bool, true, false, cond, List, [], ◌∷◌, ◌++◌, length, Option, None, Some, refl, ap, sym, subst, arith}
use Rattle.group_join.specs.Following.{MayApplyAll, MayReceive}
use Rattle.group_join.specs.Seeking.{answer_of}
use Rattle.group_join.specs.Sound.{IsJoin}
use Rattle.group_join.specs.Spelling.{join_spelling}
use Rattle.group_join.specs.declared.packet.JoinPacket.{JoinPacket}
use Rattle.group_join.specs.declared.packet.JoinPacket.TheVariants.{Seek, State, Next as Gives}
use Rattle.net_rules.specs.declared.asked.Asked.{Asked}
use Rattle.net_rules.specs.declared.fate.Fate.{Fate}
use Rattle.net_rules.specs.declared.flight.Flight.{Flight}
use Rattle.object_manager.specs.After.{Copied}
use Rattle.value_core.specs.Meaning.{Computes, Performs}
use Rattle.value_core.specs.declared.message.Message.{Message}
use Rattle.book_law.specs.Fitness.{ArgsFit}
use Rattle.world_facts.specs.Replicated.{AllReplicated}
use Rattle.world_law.specs.Once.{ReplaysOnce}
use Rattle.world_rules.specs.declared.event.Step.{Step}
use Rattle.world_rules.specs.Frame.{AreSettings, Frame}
use Rattle.world_rules.specs.Steps.{Replays}
use Rattle.world_rules.specs.Worlds.{World, agreed}
use Rattle.join_law.specs.Moments.{Moment, answer_sent, first_reaches, is_sent, next_moment, reaches, sent_as}
use Rattle.join_law.specs.Promise.{ReachedMayReceive}
use Rattle.join_law.specs.Rounds.{Carried, bytes_in, can_answer, comes, is_whole, kind_of}
use Rattle.follower_run.specs.Answers.{answer_in}
use Rattle.follower_run.specs.Given.{fates_of}
use Rattle.follower_run.specs.Going.{Change, GoesBy, GoesOn, HasSent, HasSentAtMost, HasTaken, LeavesAtMost, MayGoOn, Nexts, Reaches}
use Rattle.follower_run.specs.Kept.{IsAt, IsLeftAt}
use Rattle.follower_run.specs.Posts.{spelled}
use Rattle.follower_run.specs.declared.rounds.FollowerRounds.{FollowerRounds}
use Rattle.follower_run.proofs.Given.{fate_there}
use Rattle.follower_run.proofs.Going.{goes_nowhere, goes_silent}
use Rattle.follower_run.proofs.Spelled.{Prefixes, few_spelled, read_none, read_whole}
use Rattle.follower_run.proofs.Standing.{HasFirst, none_come}

-- ---- what a member answers

reach_if : (f : Frame) (fates : List Fate) (to : ℕ) (answer : Option JoinPacket) (v : Moment) (b : Bool) → cond b (answer_sent f fates to answer v) v ≡ answer_sent f fates to (cond b answer None) v
reach_if f fates to answer v true = refl
reach_if f fates to answer v false = refl

reach_answer : (f : Frame) (fates : List Fate) (w : World) (to applied : ℕ) (v : Moment) → reaches f fates w to (Seek applied) v ≡ answer_sent f fates to (answer_in f w to applied) v
reach_answer f fates w to applied v = reach_if f fates to (answer_of (w.nodes to).member (w.nodes to).copies applied) v (can_answer f w to)

module _ (f : Frame) (steps : List Step) where
  -- nothing
  pub replies_none : (told : List Asked) (s : FollowerRounds) (to applied : ℕ) → ((w : World) → Replays f steps w → answer_in f w to applied ≡ None) → GoesOn f steps told s told s (Reaches f to (Seek applied))
  replies_none told s to applied none w base v replays a =
      (v, goes_nowhere (Reaches f to (Seek applied) w) v (λ fates. sym (reach_answer f fates w to applied v ∙ ap (λ (o : Option JoinPacket). answer_sent f fates to o v) (none w replays))), a)

  -- a packet, which is sent
  some_sent : (w : World) (to applied number : ℕ) (packet : JoinPacket) (v : Moment) (fate : Fate) → Replays f steps w → answer_in f w to applied ≡ Some packet → number ≡ f.settings.nodes → length (fates_of v.rounding.asked) ≡ length v.rounding.asked
      → GoesBy (Reaches f to (Seek applied) w) v (sent_as fate to number packet v)
  some_sent w to applied number packet v fate replays is own given =
      let u = v.rounding in
      let own_as : sent_as fate to number packet v ≡ sent_as fate to f.settings.nodes packet v = ap (λ (n : ℕ). sent_as fate to n packet v) own in
      record {
        more = _;
        grows = ap (λ (z : Moment). z.rounding.asked) own_as;
        goes = λ later.
            own_as
            ∙ ap (λ (one : Fate). sent_as one to f.settings.nodes packet v) (sym (fate_there u.asked (suc (length u.asked)) (kind_of packet) to f.settings.nodes (bytes_in packet) fate later given))
            ∙ ap (λ (z : Moment). is_sent (fates_of z.rounding.asked ++ later) to f.settings.nodes packet v) (sym own_as)
            ∙ ap (λ (o : Option JoinPacket). answer_sent f (fates_of (sent_as fate to number packet v).rounding.asked ++ later) to o v) (sym is)
            ∙ sym (reach_answer f (fates_of (sent_as fate to number packet v).rounding.asked ++ later) w to applied v);
      }

  pub replies_some : (told told' : List Asked) (s s' : FollowerRounds) (to applied : ℕ) (packet : JoinPacket) → ((w : World) → Replays f steps w → answer_in f w to applied ≡ Some packet) → HasSent to s.number packet told s told' s'
      → GoesOn f steps told s told' s' (Reaches f to (Seek applied))
  replies_some told told' s s' to applied packet is sent w base v replays a =
      let got = sent f.settings.nodes base v a in
      (sent_as got.0 to s.number packet v, some_sent w to applied s.number packet v got.0 replays (is w replays) a.number a.given, got.1)

  sent_left : (w : World) (base told : List Asked) (s : FollowerRounds) (to applied number : ℕ) (packet : JoinPacket) (v : Moment) → Replays f steps w → answer_in f w to applied ≡ Some packet → number ≡ f.settings.nodes → length (fates_of v.rounding.asked) ≡ length v.rounding.asked
      → IsLeftAt base told s v ⊎ ((fate : Fate) × IsLeftAt base told s (sent_as fate to number packet v)) → IsLeftAt base told s v ⊎ ((x : Moment) × GoesBy (Reaches f to (Seek applied) w) v x × IsLeftAt base told s x)
  sent_left w base told s to applied number packet v replays is own given (inl left) = inl left
  sent_left w base told s to applied number packet v replays is own given (inr got) =
      inr (sent_as got.0 to number packet v, some_sent w to applied number packet v got.0 replays is own given, got.1)

  pub replies_left : (told told' : List Asked) (s s' : FollowerRounds) (to applied : ℕ) (packet : JoinPacket) → ((w : World) → Replays f steps w → answer_in f w to applied ≡ Some packet) → HasSentAtMost to s.number packet told s told' s'
      → LeavesAtMost f steps told s told' s' (Reaches f to (Seek applied))
  replies_left told told' s s' to applied packet is sent w base v replays a =
      sent_left w base told' s' to applied s.number packet v replays (is w replays) a.number a.given (sent f.settings.nodes base v a)

  -- memory lacked, and nothing was done
  pub stays_left : (change : Change) (told : List Asked) (s s' : FollowerRounds) → s'.follower ≡ s.follower → s'.states ≡ s.states → LeavesAtMost f steps told s told s' change
  stays_left change told s s' follower states w base v replays a = inl (record { copies = follower ∙ a.copies; states = states ∙ a.states; tells = a.tells; given = a.given })

  -- ---- what is none comes to the follower

  abbrev pub IsTaken : JoinPacket → Type 0
  IsTaken (Seek applied) = ⊥
  IsTaken (State state) = Unit {0}
  IsTaken (Gives number message) = Unit {0}

  takes : (fates : List Fate) (w : World) (to : ℕ) (packet : JoinPacket) (v : Moment) → IsTaken packet → record { rounding = comes f packet v.rounding; coming = v.coming } ≡ reaches f fates w to packet v
  takes fates w to (Seek applied) v so = absurd so
  takes fates w to (State state) v so = refl
  takes fates w to (Gives number message) v so = refl

  pub taken_reaches : (told : List Asked) (s s' : FollowerRounds) (to : ℕ) (packet : JoinPacket) → IsTaken packet → HasTaken f packet s s' → GoesOn f steps told s told s' (Reaches f to packet)
  taken_reaches told s s' to packet so taken w base v replays a = (
    record { rounding = comes f packet v.rounding; coming = v.coming },
    goes_silent (Reaches f to packet w) v (record { rounding = comes f packet v.rounding; coming = v.coming }) refl (λ fates. takes fates w to packet v so),
    taken f.settings.nodes base told v a,
  )

  -- ---- the next one

  -- of whichever moment, the packet that left those that come is the first
  abbrev pub IsFirst : List Asked → FollowerRounds → FollowerRounds → Flight (List ℕ) → Type 0
  IsFirst told s s' one = (base : List Asked) (v : Moment) → IsAt f.settings.nodes base told s v → HasFirst f.settings.nodes base told s' v one

  pub nothing_next : (told : List Asked) (s s' : FollowerRounds) → s.coming.items ≡ [] → s'.coming.items ≡ [] → s'.number ≡ s.number → s'.follower ≡ s.follower → s'.states ≡ s.states → s'.rounds ≡ s.rounds → s'.questions ≡ s.questions
      → s'.held.items ≡ s.held.items → GoesOn f steps told s told s' (Nexts f)
  nothing_next told s s' none still number follower states rounds questions held w base v replays a =
      let nothing = none_come f.settings.nodes base told s v a none in (
        v,
        goes_nowhere (Nexts f w) v (λ fates. ap (λ cs. record { rounding = v.rounding; coming = cs }) nothing ∙ sym (ap (first_reaches f fates w v.rounding) nothing)),
        record {
          number = number ∙ a.number;
          copies = follower ∙ a.copies;
          states = states ∙ a.states;
          rounds = rounds ∙ a.rounds;
          tells = a.tells;
          given = a.given;
          questions = questions ∙ a.questions;
          held = held ∙ a.held;
          below = a.below;
          coming = still ∙ sym none ∙ a.coming;
          held_read = a.held_read;
          coming_read = a.coming_read;
        },
      )

  whole_next : (w : World) (fates : List Fate) (v : Moment) (x : Flight Carried) (xs : List (Flight Carried)) → v.coming ≡ x ∷ xs → is_whole x.packet ≡ true
      → next_moment f fates w v ≡ reaches f fates w x.to x.packet.packet (record { rounding = v.rounding; coming = xs })
  whole_next w fates v x xs come whole =
      let u : Moment = record { rounding = v.rounding; coming = xs } in
      ap (first_reaches f fates w v.rounding) come ∙ ap (λ (b : Bool). cond b (reaches f fates w x.to x.packet.packet u) u) whole

  part_next : (w : World) (fates : List Fate) (v : Moment) (x : Flight Carried) (xs : List (Flight Carried)) → v.coming ≡ x ∷ xs → is_whole x.packet ≡ false → next_moment f fates w v ≡ record { rounding = v.rounding; coming = xs }
  part_next w fates v x xs come part =
      let u : Moment = record { rounding = v.rounding; coming = xs } in
      ap (first_reaches f fates w v.rounding) come ∙ ap (λ (b : Bool). cond b (reaches f fates w x.to x.packet.packet u) u) part

  -- it was cut
  pub lost_next : (told : List Asked) (s s' : FollowerRounds) (one : Flight (List ℕ)) → IsFirst told s s' one → ((packet : JoinPacket) → IsJoin packet → one.packet ≡ join_spelling packet → ⊥) → GoesOn f steps told s told s' (Nexts f)
  lost_next told s s' one first none w base v replays a =
      let h = first base v a in
      let bytes : one.packet ≡ spelled h.first.packet = ap (λ x. x.packet) h.is in
      let part = read_none h.first.packet h.read (λ packet join is. none packet join (bytes ∙ is)) in (
        record { rounding = v.rounding; coming = h.rest },
        goes_silent (Nexts f w) v (record { rounding = v.rounding; coming = h.rest }) refl (λ fates. sym (part_next w fates v h.first h.rest h.come part)),
        h.at,
      )

  -- it was read
  reaches_next : Prefixes → (w : World) (v : Moment) (base told : List Asked) (s' : FollowerRounds) (one : Flight (List ℕ)) (packet : JoinPacket) (h : HasFirst f.settings.nodes base told s' v one) → IsJoin packet → one.packet ≡ join_spelling packet → (fates : List Fate) (x : Moment)
      → x ≡ reaches f fates w one.to packet (record { rounding = v.rounding; coming = h.rest }) → x ≡ next_moment f fates w v
  reaches_next prefixes w v base told s' one packet h join is fates x reached =
      let u : Moment = record { rounding = v.rounding; coming = h.rest } in
      let bytes : one.packet ≡ spelled h.first.packet = ap (λ y. y.packet) h.is in
      let to : one.to ≡ h.first.to = ap (λ y. y.to) h.is in
      let read = read_whole prefixes h.first.packet packet h.read join (sym bytes ∙ is) in
      reached
      ∙ ap (λ (n : ℕ). reaches f fates w n packet u) to
      ∙ ap (λ (p : JoinPacket). reaches f fates w h.first.to p u) read.1
      ∙ sym (whole_next w fates v h.first h.rest h.come read.0)

  pub read_next : Prefixes → (told told' : List Asked) (s s' s'' : FollowerRounds) (one : Flight (List ℕ)) (packet : JoinPacket) → IsFirst told s s' one → IsJoin packet → one.packet ≡ join_spelling packet
      → GoesOn f steps told s' told' s'' (Reaches f one.to packet) → GoesOn f steps told s told' s'' (Nexts f)
  read_next prefixes told told' s s' s'' one packet first join is goes w base v replays a =
      let h = first base v a in
      let got = goes w base (record { rounding = v.rounding; coming = h.rest }) replays h.at in (
        got.0,
        record { more = got.1.more; grows = got.1.grows; goes = λ later. reaches_next prefixes w v base told s' one packet h join is (fates_of got.0.rounding.asked ++ later) got.0 (got.1.goes later) },
        got.2,
      )

  -- memory lacked
  read_so : Prefixes → (w : World) (v : Moment) (base told told' : List Asked) (s' s'' : FollowerRounds) (one : Flight (List ℕ)) (packet : JoinPacket) (h : HasFirst f.settings.nodes base told s' v one) → IsJoin packet → one.packet ≡ join_spelling packet
      → IsLeftAt base told' s'' (record { rounding = v.rounding; coming = h.rest }) ⊎ ((x : Moment) × GoesBy (Reaches f one.to packet w) (record { rounding = v.rounding; coming = h.rest }) x × IsLeftAt base told' s'' x)
      → IsLeftAt base told' s'' v ⊎ ((x : Moment) × GoesBy (Nexts f w) v x × IsLeftAt base told' s'' x)
  read_so prefixes w v base told told' s' s'' one packet h join is (inl left) = inl (record { copies = left.copies; states = left.states; tells = left.tells; given = left.given })
  read_so prefixes w v base told told' s' s'' one packet h join is (inr got) = inr (
    got.0,
    record { more = got.1.more; grows = got.1.grows; goes = λ later. reaches_next prefixes w v base told s' one packet h join is (fates_of got.0.rounding.asked ++ later) got.0 (got.1.goes later) },
    got.2,
  )

  pub read_left : Prefixes → (told told' : List Asked) (s s' s'' : FollowerRounds) (one : Flight (List ℕ)) (packet : JoinPacket) → IsFirst told s s' one → IsJoin packet → one.packet ≡ join_spelling packet
      → LeavesAtMost f steps told s' told' s'' (Reaches f one.to packet) → LeavesAtMost f steps told s told' s'' (Nexts f)
  read_left prefixes told told' s s' s'' one packet first join is goes w base v replays a =
      let h = first base v a in
      read_so prefixes w v base told told' s' s'' one packet h join is (goes w base (record { rounding = v.rounding; coming = h.rest }) replays h.at)

  -- ---- what may come

  -- the packet that came first may be received, and each entry of the list may be applied
  first_may : (fits_args : ArgsFit) (list : List Message) (v : Moment) (x : Flight Carried) (xs : List (Flight Carried)) → v.coming ≡ x ∷ xs
      → (All (λ (one : Flight Carried). MayReceive fits_args f.performs list v.rounding.copies one.packet.packet) v.coming) → MayReceive fits_args f.performs list v.rounding.copies x.packet.packet
  first_may fits_args list v x xs come all = (subst (All (λ (one : Flight Carried). MayReceive fits_args f.performs list v.rounding.copies one.packet.packet)) come all).0

  pub may_come : Prefixes → (p : Performs) (q : Computes) (fits_args : ArgsFit) → ReachedMayReceive p q fits_args → f.performs ≡ p → f.computes ≡ q → AreSettings f.settings → AllReplicated f → (told : List Asked) (s s' : FollowerRounds) (one : Flight (List ℕ)) (packet : JoinPacket)
      → IsFirst told s s' one → IsJoin packet → one.packet ≡ join_spelling packet → (may : MayGoOn f steps told s) → MayReceive fits_args f.performs (agreed f may.world) s'.follower packet
  may_come prefixes p q fits_args law performs computes settings replicated told s s' one packet first join is may =
      let h = first may.base may.moment may.at in
      let bytes : one.packet ≡ spelled h.first.packet = ap (λ x. x.packet) h.is in
      let read = read_whole prefixes h.first.packet packet h.read join (sym bytes ∙ is) in
      subst (λ (c : Copied). MayReceive fits_args f.performs (agreed f may.world) c packet) (sym h.at.copies)
      (subst (λ (p : JoinPacket). MayReceive fits_args f.performs (agreed f may.world) may.moment.rounding.copies p) (sym read.1)
      (first_may fits_args (agreed f may.world) may.moment h.first h.rest h.come (law f performs computes settings replicated may.world may.moment may.reached)))

  -- and so of whichever world these steps lead to each entry may be applied
  pub may_entries : Prefixes → (p : Performs) (q : Computes) (fits_args : ArgsFit) → ReachedMayReceive p q fits_args → f.performs ≡ p → f.computes ≡ q → AreSettings f.settings → AllReplicated f → ReplaysOnce f → (told : List Asked) (s s' : FollowerRounds) (one : Flight (List ℕ)) (packet : JoinPacket)
      → IsFirst told s s' one → IsJoin packet → one.packet ≡ join_spelling packet → MayGoOn f steps told s → (w : World) → Replays f steps w → MayApplyAll fits_args f.performs (agreed f w)
  may_entries prefixes p q fits_args law performs computes settings replicated once told s s' one packet first join is may w replays =
      subst (λ (x : World). MayApplyAll fits_args f.performs (agreed f x)) (once steps may.world w may.replays replays)
      (may_come prefixes p q fits_args law performs computes settings replicated told s s' one packet first join is may).entries

  -- its bytes are few enough to be read
  pub few_come : (told : List Asked) (s s' : FollowerRounds) (one : Flight (List ℕ)) → IsFirst told s s' one → MayGoOn f steps told s → length one.packet < 2 ^ 32
  few_come told s s' one first may =
      let h = first may.base may.moment may.at in
      let few = few_spelled h.first.packet h.read in
      let bytes = ap (λ (x : Flight (List ℕ)). length x.packet) h.is in
      omega (arith, few, bytes)
