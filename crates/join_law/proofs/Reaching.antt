-- Whatever the rounds reach, also within one round, some moves lead to.
use Rattle.std.proofs.Common.{◌≡◌, ◌<◌, ℕ, zero, suc, Bool, true, false, cond, leb, List, [], ◌∷◌, ◌++◌, ◌+◌, length, Option, None, Some, option_map, refl, sym, ap, ◌∙◌, subst, arith, inl, inr}
use Rattle.std.specs.List.{filter}
use Rattle.std.specs.Prelude.{◌%◌}
use Rattle.value_core.specs.declared.message.Message.{Message}
use Rattle.object_manager.specs.After.{Copied}
use Rattle.object_manager.specs.State.{state_of}
use Rattle.book_law.specs.Events.{In}
use Rattle.net_rules.specs.declared.fate.Fate.{Fate}
use Rattle.net_rules.specs.declared.flight.Flight.{Flight}
use Rattle.net_rules.specs.Flights.{is_ready, ticked}
use Rattle.group_rules.specs.Member.{Member}
use Rattle.group_join.specs.declared.packet.JoinPacket.{JoinPacket}
use Rattle.group_join.specs.declared.packet.JoinPacket.TheVariants.{Seek, State, Next as Gives}
use Rattle.group_join.specs.Seeking.{answer_of}
use Rattle.world_rules.specs.declared.event.Step.{Step}
use Rattle.world_rules.specs.Frame.{Frame}
use Rattle.world_rules.specs.Steps.{Next}
use Rattle.world_rules.specs.Worlds.{World, opening_world}
use Rattle.join_law.specs.Followed.{Followed, Joining, Move, Moves, opening_joining}
use Rattle.join_law.specs.Followed.Move.{Happens, Seeks, Responds, Comes}
use Rattle.join_law.specs.Rounds.{Alongside, Carried, Rounding, ahead, arrives, asks, can_answer, catches_up, come_to, comes, due, ends_with, fate_in, is_held, is_whole, opening_rounding, posts_answer, releases, round, seeks, flights_of, still, turns}
use Rattle.join_law.specs.Moments.{BeginsBehind, BeginsBeside, IsReached, Moment, RoundsUpTo, RoundsWith, WithinRound, answer_sent, asks_member, between, first_reaches, moments, next_moment, opens_round, reaches, sent_as}
use Rattle.join_law.proofs.Flying.{AllFly, fly_and, fly_filter, fly_joined, fly_sent, fly_ticked}
use Rattle.join_law.proofs.Rounding.{is_member}

-- each of these packets was sent
abbrev AllSent : List JoinPacket → List (Flight Carried) → Type 0
AllSent packets xs = AllFly (λ packet. In packet packets) xs

-- ---- a move goes behind others

followed_on : (f : Frame) (u v x : Joining) (moves : List Move) (move : Move) → Followed f u moves v → Moves f v move x → Followed f u (moves ++ move ∷ []) x
followed_on f u v x [] move followed one = (x, subst (λ (t : Joining). Moves f t move x) followed one, refl)
followed_on f u v x (m ∷ moves) move followed one = (followed.0, followed.1, followed_on f followed.0 v x moves move followed.2 one)

-- ---- what was sent

more_sent : (packet : JoinPacket) (packets : List JoinPacket) (xs : List (Flight Carried)) → AllSent packets xs → AllSent (packet ∷ packets) xs
more_sent packet packets [] all = tt
more_sent packet packets (x ∷ xs) all = (inr all.0, more_sent packet packets xs all.1)

-- those of the copies of a packet that pass a test
copies_sent : (packets : List JoinPacket) (from to : ℕ) (packet : JoinPacket) (fate : Fate) (test : Flight Carried → Bool) (u : Rounding) → In packet packets →
    AllSent packets (filter test (flights_of from to packet fate u))
copies_sent packets from to packet fate test u is =
    fly_filter (λ one. In one packets) test (flights_of from to packet fate u) (fly_sent (λ one. In one packets) (suc (length u.asked)) from to packet fate is)

-- ---- a packet is sent, and comes

-- a move that sends it
sent_reached : (f : Frame) (w : World) (fate : Fate) (from to : ℕ) (packet : JoinPacket) (v : Moment) (r : IsReached f w v) (move : Move) →
    Moves f (record { world = w; copies = v.rounding.copies; sent = r.sent }) move (record { world = w; copies = v.rounding.copies; sent = packet ∷ r.sent }) →
    IsReached f w (sent_as fate from to packet v)
sent_reached f w fate from to packet v r move one =
    let here : In packet (packet ∷ r.sent) = inl refl in
    record {
      moves = r.moves ++ move ∷ [];
      sent = packet ∷ r.sent;
      followed = followed_on f (opening_joining f) _ _ r.moves move r.followed one;
      held = fly_joined (λ one. In one (packet ∷ r.sent)) (suc (length v.rounding.asked)) (filter is_held (flights_of from to packet fate v.rounding)) v.rounding.held
          (copies_sent (packet ∷ r.sent) from to packet fate is_held v.rounding here) (more_sent packet r.sent v.rounding.held r.held);
      coming = fly_and (λ one. In one (packet ∷ r.sent)) (filter is_ready (flights_of from to packet fate v.rounding)) v.coming
          (copies_sent (packet ∷ r.sent) from to packet fate is_ready v.rounding here) (more_sent packet r.sent v.coming r.coming);
    }

pub seek_reached : (f : Frame) (w : World) (fates : List Fate) (m : ℕ) (u : Rounding) → IsReached f w (between u) → IsReached f w (asks_member f fates m u)
seek_reached f w fates m u r =
    sent_reached f w (fate_in fates (length u.asked)) f.settings.nodes m (Seek u.copies.applied) (between u) r (Seeks u.copies.applied) refl

answer_reached : (f : Frame) (w : World) (fates : List Fate) (m applied : ℕ) (answer : Option JoinPacket) (v : Moment) (r : IsReached f w v) → m < f.settings.nodes → In (Seek applied) r.sent →
    answer_of (w.nodes m).member (w.nodes m).copies applied ≡ answer → IsReached f w (answer_sent f fates m answer v)
answer_reached f w fates m applied None v r lt is e = r
answer_reached f w fates m applied (Some packet) v r lt is e =
    sent_reached f w (fate_in fates (length v.rounding.asked)) m f.settings.nodes packet v r (Responds m applied packet) (lt, is, e, refl)

sought_reached : (f : Frame) (w : World) (fates : List Fate) (m applied : ℕ) (b : Bool) (v : Moment) (r : IsReached f w v) → can_answer f w m ≡ b → In (Seek applied) r.sent →
    IsReached f w (cond b (answer_sent f fates m (answer_of (w.nodes m).member (w.nodes m).copies applied) v) v)
sought_reached f w fates m applied true v r is among = answer_reached f w fates m applied (answer_of (w.nodes m).member (w.nodes m).copies applied) v r (is_member f w m is) among refl
sought_reached f w fates m applied false v r is among = r

come_reached : (f : Frame) (w : World) (packet : JoinPacket) (v : Moment) (r : IsReached f w v) → In packet r.sent →
    IsReached f w (record { rounding = comes f packet v.rounding; coming = v.coming })
come_reached f w packet v r among = record {
  moves = r.moves ++ Comes packet ∷ [];
  sent = r.sent;
  followed = followed_on f (opening_joining f) _ _ r.moves (Comes packet) r.followed (among, refl);
  held = r.held;
  coming = r.coming;
}

reach_reached : (f : Frame) (w : World) (fates : List Fate) (to : ℕ) (packet : JoinPacket) (v : Moment) (r : IsReached f w v) → In packet r.sent → IsReached f w (reaches f fates w to packet v)
reach_reached f w fates to (Seek applied) v r among = sought_reached f w fates to applied (can_answer f w to) v r refl among
reach_reached f w fates to (State state) v r among = come_reached f w (State state) v r among
reach_reached f w fates to (Gives number x) v r among = come_reached f w (Gives number x) v r among

whole_reached : (f : Frame) (w : World) (fates : List Fate) (to : ℕ) (packet : JoinPacket) (b : Bool) (v : Moment) (r : IsReached f w v) → In packet r.sent →
    IsReached f w (cond b (reaches f fates w to packet v) v)
whole_reached f w fates to packet true v r among = reach_reached f w fates to packet v r among
whole_reached f w fates to packet false v r among = r

pub first_reached : (f : Frame) (w : World) (fates : List Fate) (u : Rounding) (coming : List (Flight Carried)) → IsReached f w (record { rounding = u; coming = coming }) →
    IsReached f w (first_reaches f fates w u coming)
first_reached f w fates u [] r = r
first_reached f w fates u (x ∷ xs) r =
    whole_reached f w fates x.to x.packet.packet (is_whole x.packet) (record { rounding = u; coming = xs })
    (record { moves = r.moves; sent = r.sent; followed = r.followed; held = r.held; coming = r.coming.1 }) r.coming.0

moments_reached : (f : Frame) (w : World) (fates : List Fate) (n : ℕ) (v : Moment) → IsReached f w v → IsReached f w (moments f fates w n v)
moments_reached f w fates zero v r = r
moments_reached f w fates (suc n) v r = moments_reached f w fates n (next_moment f fates w v) (first_reached f w fates v.rounding v.coming r)

pub opening_reached : (f : Frame) (w : World) (u : Rounding) → IsReached f w (between u) → IsReached f w (opens_round u)
opening_reached f w u r = record {
  moves = r.moves;
  sent = r.sent;
  followed = r.followed;
  held = fly_filter (λ one. In one r.sent) is_held (ticked u.held) (fly_ticked (λ one. In one r.sent) u.held r.held);
  coming = fly_filter (λ one. In one r.sent) is_ready (ticked u.held) (fly_ticked (λ one. In one r.sent) u.held r.held);
}

-- ---- the moments run out, and then the rounds' functions have what stands

abbrev pub RunsTo : Frame → World → List Fate → Moment → Moment → Type 0
RunsTo f w fates v x = (n : ℕ) × (moments f fates w n v ≡ x)

chain : (f : Frame) (w : World) (fates : List Fate) (n : ℕ) (v x y : Moment) → moments f fates w n v ≡ x → RunsTo f w fates x y → RunsTo f w fates v y
chain f w fates zero v x y e more = subst (λ (s : Moment). RunsTo f w fates s y) (sym e) more
chain f w fates (suc n) v x y e more = let rest = chain f w fates n (next_moment f fates w v) x y e more in (suc rest.0, rest.1)

abbrev pub coming_in : Rounding → List (Flight Carried) → Moment
coming_in u xs = record { rounding = u; coming = xs }

-- what a member answers is no Seek, so that the follower receives it
abbrev Arrives : Frame → List Fate → World → JoinPacket → Type 0
Arrives f fates w packet = (to : ℕ) (v : Moment) → reaches f fates w to packet v ≡ record { rounding = comes f packet v.rounding; coming = v.coming }

answer_if : (f : Frame) (fates : List Fate) (w : World) (state number : JoinPacket) (none purged : Bool) (entry : Option Message) (n : ℕ) (packet : JoinPacket) → Arrives f fates w state →
    cond none None (cond purged (Some state) (option_map (λ (x : Message). Gives n x) entry)) ≡ Some packet → Arrives f fates w packet
answer_if f fates w state number true purged entry n packet so e = absurd (cc e)
answer_if f fates w state number false true entry n packet so e = subst (Arrives f fates w) (some_is state packet e) so
  where
    some_is : (x y : JoinPacket) → Some x ≡ Some y → x ≡ y
    some_is x y e = cc
answer_if f fates w state number false false None n packet so e = absurd (cc e)
answer_if f fates w state number false false (Some x) n packet so e = subst (Arrives f fates w) (some_is (Gives n x) packet e) (λ to v. refl)
  where
    some_is : (x y : JoinPacket) → Some x ≡ Some y → x ≡ y
    some_is x y e = cc

answer_arrives : (f : Frame) (fates : List Fate) (w : World) (member : Member Message) (copies : Copied) (applied : ℕ) (packet : JoinPacket) →
    answer_of member copies applied ≡ Some packet → Arrives f fates w packet
answer_arrives f fates w member copies applied packet e =
    answer_if f fates w (State (state_of copies)) (State (state_of copies)) (leb member.applied applied) (leb (suc applied) member.base) _ (suc applied) packet (λ to v. refl) e

-- what comes first
abbrev FirstOf : Frame → List Fate → World → Flight Carried → List (Flight Carried) → Rounding → Bool → Moment
FirstOf f fates w x rest u b = cond b (reaches f fates w x.to x.packet.packet (coming_in u rest)) (coming_in u rest)

plain_if : (f : Frame) (fates : List Fate) (w : World) (x : Flight Carried) (rest : List (Flight Carried)) (u : Rounding) (b : Bool) → Arrives f fates w x.packet.packet →
    FirstOf f fates w x rest u b ≡ coming_in (cond b (comes f x.packet.packet u) u) rest
plain_if f fates w x rest u true so = so x.to (coming_in u rest)
plain_if f fates w x rest u false so = refl

-- copies of such a packet come one after the other
plain_come : (f : Frame) (fates : List Fate) (w : World) (xs hs : List (Flight Carried)) (u : Rounding) → AllFly (Arrives f fates w) xs →
    moments f fates w (length xs) (coming_in u (xs ++ hs)) ≡ coming_in (come_to (λ to one. comes f one) xs u) hs
plain_come f fates w [] hs u so = refl
plain_come f fates w (x ∷ xs) hs u so =
    ap (moments f fates w (length xs)) (plain_if f fates w x (xs ++ hs) u (is_whole x.packet) so.0)
    ∙ plain_come f fates w xs hs (cond (is_whole x.packet) (comes f x.packet.packet u) u) so.1

answer_runs : (f : Frame) (fates : List Fate) (w : World) (m applied : ℕ) (answer : Option JoinPacket) (u : Rounding) (hs : List (Flight Carried)) →
    answer_of (w.nodes m).member (w.nodes m).copies applied ≡ answer →
    RunsTo f w fates (answer_sent f fates m answer (coming_in u hs)) (coming_in (posts_answer f fates m answer u) hs)
answer_runs f fates w m applied None u hs e = (0, refl)
answer_runs f fates w m applied (Some packet) u hs e =
    let fate = fate_in fates (length u.asked) in
    let all = flights_of m f.settings.nodes packet fate u in (
      length (filter is_ready all),
      plain_come f fates w (filter is_ready all) hs (asks m f.settings.nodes packet fate u)
          (fly_filter (Arrives f fates w) is_ready all
          (fly_sent (Arrives f fates w) (suc (length u.asked)) m f.settings.nodes packet fate (answer_arrives f fates w (w.nodes m).member (w.nodes m).copies applied packet e))),
    )

sought_runs : (f : Frame) (fates : List Fate) (w : World) (m applied : ℕ) (b : Bool) (u : Rounding) (hs : List (Flight Carried)) →
    RunsTo f w fates (cond b (answer_sent f fates m (answer_of (w.nodes m).member (w.nodes m).copies applied) (coming_in u hs)) (coming_in u hs))
    (coming_in (cond b (posts_answer f fates m (answer_of (w.nodes m).member (w.nodes m).copies applied) u) u) hs)
sought_runs f fates w m applied true u hs = answer_runs f fates w m applied (answer_of (w.nodes m).member (w.nodes m).copies applied) u hs refl
sought_runs f fates w m applied false u hs = (0, refl)

reach_runs : (f : Frame) (fates : List Fate) (w : World) (to : ℕ) (packet : JoinPacket) (u : Rounding) (hs : List (Flight Carried)) →
    RunsTo f w fates (reaches f fates w to packet (coming_in u hs)) (coming_in (arrives f fates w to packet u) hs)
reach_runs f fates w to (Seek applied) u hs = sought_runs f fates w to applied (can_answer f w to) u hs
reach_runs f fates w to (State state) u hs = (0, refl)
reach_runs f fates w to (Gives number x) u hs = (0, refl)

first_runs : (f : Frame) (fates : List Fate) (w : World) (x : Flight Carried) (u : Rounding) (xs : List (Flight Carried)) (b : Bool) →
    RunsTo f w fates (FirstOf f fates w x xs u b) (coming_in (cond b (arrives f fates w x.to x.packet.packet u) u) xs)
first_runs f fates w x u xs true = reach_runs f fates w x.to x.packet.packet u xs
first_runs f fates w x u xs false = (0, refl)

pub all_run : (f : Frame) (fates : List Fate) (w : World) (xs : List (Flight Carried)) (u : Rounding) → RunsTo f w fates (coming_in u xs) (between (come_to (arrives f fates w) xs u))
all_run f fates w [] u = (0, refl)
all_run f fates w (x ∷ xs) u =
    let one = first_runs f fates w x u xs (is_whole x.packet) in
    let v = cond (is_whole x.packet) (arrives f fates w x.to x.packet.packet u) u in
    chain f w fates (suc one.0) (coming_in u (x ∷ xs)) (coming_in v xs) (between (come_to (arrives f fates w) xs v)) one.1 (all_run f fates w xs v)

pub none_behind : {A : Type 0} (xs : List A) → xs ++ [] ≡ xs
none_behind [] = refl
none_behind (x ∷ xs) = ap (λ ys. x ∷ ys) (none_behind xs)

pub seek_runs : (f : Frame) (fates : List Fate) (w : World) (m : ℕ) (u : Rounding) → RunsTo f w fates (asks_member f fates m u) (between (seeks f fates w m u))
seek_runs f fates w m u =
    let fate = fate_in fates (length u.asked) in
    let ready = filter is_ready (flights_of f.settings.nodes m (Seek u.copies.applied) fate u) in
    let x = asks f.settings.nodes m (Seek u.copies.applied) fate u in
    let all = all_run f fates w (ready ++ []) x in
    (all.0, all.1 ∙ ap (λ (ys : List (Flight Carried)). between (come_to (arrives f fates w) ys x)) (none_behind ready))

-- ---- rounds

released_reached : (f : Frame) (w : World) (fates : List Fate) (u : Rounding) → IsReached f w (between u) → IsReached f w (between (releases f fates w u))
released_reached f w fates u r =
    let all = all_run f fates w (due u) (record u { held = still u }) in
    subst (IsReached f w) all.1 (moments_reached f w fates all.0 (opens_round u) (opening_reached f w u r))

pub round_reached : (f : Frame) (w : World) (fates : List Fate) (m : ℕ) (u : Rounding) → IsReached f w (between u) → IsReached f w (between (round f fates w m u))
round_reached f w fates m u r =
    let v = releases f fates w u in
    let runs = seek_runs f fates w m v in
    let x = subst (IsReached f w) runs.1 (moments_reached f w fates runs.0 (asks_member f fates m v) (seek_reached f w fates m v (released_reached f w fates u r))) in
    record { moves = x.moves; sent = x.sent; followed = x.followed; held = x.held; coming = x.coming }

within_reached : (f : Frame) (w : World) (fates : List Fate) (m : ℕ) (u : Rounding) (v : Moment) → IsReached f w (between u) → WithinRound f fates w m u v → IsReached f w v
within_reached f w fates m u v r within = elim within.1 [
  | inl e ↦ subst (IsReached f w) (sym e) (moments_reached f w fates within.0 (opens_round u) (opening_reached f w u r))
  | inr e ↦
      let x = releases f fates w u in
      subst (IsReached f w) (sym e) (moments_reached f w fates within.0 (asks_member f fates m x) (seek_reached f w fates m x (released_reached f w fates u r)))
]

-- ---- beside the run

pub step_reached : (f : Frame) (w x : World) (step : Step) (u : Rounding) → Next f w step x → IsReached f w (between u) → IsReached f x (between u)
step_reached f w x step u next r = record {
  moves = r.moves ++ Happens step ∷ [];
  sent = r.sent;
  followed = followed_on f (opening_joining f) _ _ r.moves (Happens step) r.followed (x, next, refl);
  held = r.held;
  coming = r.coming;
}

turned_if : (f : Frame) (w : World) (fates : List Fate) (b : Bool) (u : Rounding) → IsReached f w (between u) → IsReached f w (between (cond b (round f fates w (u.rounds % f.settings.nodes) u) u))
turned_if f w fates true u r = round_reached f w fates (u.rounds % f.settings.nodes) u r
turned_if f w fates false u r = r

along_reached : (f : Frame) (fates : List Fate) (start n : ℕ) (w : World) (steps : List Step) (u : Rounding) (v : World) (z : Rounding) → IsReached f w (between u) →
    Alongside f fates start n w steps u v z → IsReached f v (between z)
along_reached f fates start n w [] u v z r along =
    subst (λ (y : Rounding). IsReached f v (between y)) (sym along.1) (subst (λ (x : World). IsReached f x (between u)) (sym along.0) r)
along_reached f fates start n w (step ∷ steps) u v z r along =
    along_reached f fates start (suc n) along.0 steps (turns f fates start along.0 n u) v z
    (turned_if f along.0 fates (leb start n) u (step_reached f w along.0 step u along.1 r)) along.2

pub opens_reached : (f : Frame) → IsReached f (opening_world f) (between opening_rounding)
opens_reached f = record { moves = []; sent = []; followed = refl; held = tt; coming = tt }

beside_reached : (f : Frame) (start : ℕ) (fates : List Fate) (steps : List Step) (w : World) (u : Rounding) → Alongside f fates start 1 (opening_world f) steps opening_rounding w u → IsReached f w (between u)
beside_reached f start fates steps w u along = along_reached f fates start 1 (opening_world f) steps opening_rounding w u (opens_reached f) along

-- ---- behind it

rounds_reached : (f : Frame) (w : World) (fates : List Fate) (m n : ℕ) (u v : Rounding) → IsReached f w (between u) → RoundsWith f fates w m n u v → IsReached f w (between v)
rounds_reached f w fates m zero u v r with_it = subst (λ (x : Rounding). IsReached f w (between x)) (sym with_it) r
rounds_reached f w fates m (suc n) u v r with_it = rounds_reached f w fates m n (round f fates w m u) v (round_reached f w fates m u r) with_it.1

caught_if : (f : Frame) (w : World) (fates : List Fate) (m n : ℕ) (b : Bool) (u : Rounding) → IsReached f w (between u) → IsReached f w (between (catches_up f fates w m n (round f fates w m u))) →
    IsReached f w (between (cond b u (catches_up f fates w m n (round f fates w m u))))
caught_if f w fates m n true u r more = r
caught_if f w fates m n false u r more = more

caught_reached : (f : Frame) (w : World) (fates : List Fate) (m n : ℕ) (u : Rounding) → IsReached f w (between u) → IsReached f w (between (catches_up f fates w m n u))
caught_reached f w fates m zero u r = r
caught_reached f w fates m (suc n) u r =
    caught_if f w fates m n (leb (w.nodes m).member.applied u.copies.applied) u r (caught_reached f w fates m n (round f fates w m u) (round_reached f w fates m u r))

end_reached : (f : Frame) (w : World) (fates : List Fate) (m : Option ℕ) (u : Rounding) → IsReached f w (between u) → IsReached f w (between (ends_with f fates w m u))
end_reached f w fates None u r = r
end_reached f w fates (Some m) u r = caught_reached f w fates m _ u r

-- ---- any moment

nothing_comes : (f : Frame) (w : World) (v : Moment) → v.coming ≡ [] → IsReached f w (between v.rounding) → IsReached f w v
nothing_comes f w v none r = record { moves = r.moves; sent = r.sent; followed = r.followed; held = r.held; coming = subst (AllSent r.sent) (sym none) tt }

begins_beside : (f : Frame) (start : ℕ) (fates : List Fate) (steps : List Step) (w : World) (m : ℕ) (u : Rounding) → BeginsBeside f start fates steps w m u → IsReached f w (between u)
begins_beside f start fates steps w m u b = step_reached f b.before w b.last u b.happens (beside_reached f start fates b.earlier b.before u b.along)

begins_behind : (f : Frame) (start : ℕ) (fates : List Fate) (steps : List Step) (w : World) (m done : ℕ) (u : Rounding) → BeginsBehind f start fates steps w m done u → IsReached f w (between u)
begins_behind f start fates steps w m done u b = rounds_reached f w fates m done b.before u (beside_reached f start fates steps w b.before b.along) b.rounds

pub moment_reached : (f : Frame) (start : ℕ) (fates : List Fate) (steps : List Step) (w : World) (v : Moment) → RoundsUpTo f start fates steps w v → IsReached f w v
moment_reached f start fates steps w v up = elim up.moment [
  | inl beside ↦ nothing_comes f w v beside.0 (beside_reached f start fates steps w v.rounding beside.1)
  | inr (inl b) ↦ within_reached f w fates b.0 b.1 v (begins_beside f start fates steps w b.0 b.1 b.2) b.3
  | inr (inr (inl b)) ↦ within_reached f w fates b.0 b.2 v (begins_behind f start fates steps w b.0 b.1 b.2 b.3) b.4
  | inr (inr (inr all)) ↦
      let before = beside_reached f start fates steps w all.1.before all.1.along in
      nothing_comes f w v all.0
      (subst (λ (x : Rounding). IsReached f w (between x)) (sym all.1.end) (end_reached f w fates (ahead f w f.settings.nodes) all.1.before before))
]

-- ---- a step and its round go behind

along_on : (f : Frame) (fates : List Fate) (start n : ℕ) (w : World) (steps : List Step) (u : Rounding) (v : World) (z : Rounding) (step : Step) (x : World) →
    Alongside f fates start n w steps u v z → Next f v step x → (k : ℕ) → k ≡ n + length steps → Alongside f fates start n w (steps ++ step ∷ []) u x (turns f fates start x k z)
along_on f fates start n w [] u v z step x along next k is =
    let at : k ≡ n = omega (arith, is) in
    (x, subst (λ (y : World). Next f y step x) along.0 next, (refl, ap (λ (j : ℕ). turns f fates start x j z) at ∙ ap (turns f fates start x n) along.1))
along_on f fates start n w (s ∷ steps) u v z step x along next k is =
    (along.0, along.1, along_on f fates start (suc n) along.0 steps (turns f fates start along.0 n u) v z step x along.2 next k (omega (arith, is)))

pub beside_on : (f : Frame) (start : ℕ) (fates : List Fate) (steps : List Step) (w : World) (u : Rounding) (step : Step) (x : World) →
    Alongside f fates start 1 (opening_world f) steps opening_rounding w u → Next f w step x →
    Alongside f fates start 1 (opening_world f) (steps ++ step ∷ []) opening_rounding x (turns f fates start x (suc (length steps)) u)
beside_on f start fates steps w u step x along next = along_on f fates start 1 (opening_world f) steps opening_rounding w u step x along next (suc (length steps)) (omega arith)

-- ---- where nothing comes any more

still_between : (f : Frame) (fates : List Fate) (w : World) (n : ℕ) (u : Rounding) → moments f fates w n (between u) ≡ between u
still_between f fates w zero u = refl
still_between f fates w (suc n) u = still_between f fates w n u

pub same_end : (f : Frame) (fates : List Fate) (w : World) (n k : ℕ) (v : Moment) (x y : Rounding) → moments f fates w n v ≡ between x → moments f fates w k v ≡ between y → x ≡ y
same_end f fates w zero k v x y e g =
    ap (λ (s : Moment). s.rounding) (sym (still_between f fates w k x) ∙ ap (moments f fates w k) (sym e) ∙ g)
same_end f fates w (suc n) zero v x y e g =
    ap (λ (s : Moment). s.rounding) (sym e ∙ ap (moments f fates w (suc n)) g ∙ still_between f fates w (suc n) y)
same_end f fates w (suc n) (suc k) v x y e g = same_end f fates w n k (next_moment f fates w v) x y e g

pub next_behind : (f : Frame) (fates : List Fate) (w : World) (n : ℕ) (v : Moment) → next_moment f fates w (moments f fates w n v) ≡ moments f fates w (suc n) v
next_behind f fates w zero v = refl
next_behind f fates w (suc n) v = next_behind f fates w n (next_moment f fates w v)

pub releases_end : (f : Frame) (fates : List Fate) (w : World) (n : ℕ) (u y : Rounding) → moments f fates w n (opens_round u) ≡ between y → y ≡ releases f fates w u
releases_end f fates w n u y e =
    let all = all_run f fates w (due u) (record u { held = still u }) in
    same_end f fates w n all.0 (opens_round u) y (releases f fates w u) e all.1

pub seeks_end : (f : Frame) (fates : List Fate) (w : World) (m n : ℕ) (u y : Rounding) → moments f fates w n (asks_member f fates m (releases f fates w u)) ≡ between y →
    record y { rounds = suc u.rounds } ≡ round f fates w m u
seeks_end f fates w m n u y e =
    let runs = seek_runs f fates w m (releases f fates w u) in
    ap (λ (z : Rounding). record z { rounds = suc u.rounds }) (same_end f fates w n runs.0 (asks_member f fates m (releases f fates w u)) y (seeks f fates w m (releases f fates w u)) e runs.1)
