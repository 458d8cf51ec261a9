-- So it is in the command's rounds.
use Rattle.std.proofs.Common.{◌≡◌, ◌≤◌, ◌<◌, ℕ, zero, suc, Bool, true, false, cond, leb, ltb, List, [], ◌∷◌, ◌++◌, length, Option, None, Some, refl, sym, subst, arith}
use Rattle.std.specs.List.{filter}
use Rattle.std.specs.Prelude.{◌%◌, not}
use Rattle.std.proofs.lemmas.Bool.{ltb-true}
use Rattle.value_core.specs.Meaning.{Performs}
use Rattle.value_core.specs.declared.message.Message.{Message}
use Rattle.value_bytes.proofs.Values.{both_hold}
use Rattle.net_rules.specs.declared.fate.Fate.{Fate}
use Rattle.net_rules.specs.declared.flight.Flight.{Flight}
use Rattle.net_rules.specs.Flights.{is_ready, ticked}
use Rattle.group_join.specs.declared.packet.JoinPacket.{JoinPacket}
use Rattle.group_join.specs.declared.packet.JoinPacket.TheVariants.{Seek, State, Next as Gives}
use Rattle.group_join.specs.Seeking.{answer_of}
use Rattle.group_join.specs.Following.{AreAfter, TellsList}
use Rattle.group_join.specs.Laws.{Applied}
use Rattle.group_join.proofs.Telling.{answers_tell, followers, opens_after}
use Rattle.world_rules.specs.declared.event.Step.{Step}
use Rattle.world_rules.specs.Frame.{Frame}
use Rattle.world_rules.specs.Steps.{Replays, lives_in}
use Rattle.world_rules.specs.Worlds.{World, agreed, opening_world}
use Rattle.join_law.specs.Rounds.{Alongside, Carried, Rounding, Rounds, ahead, arrives, asks, can_answer, catches_up, come_to, comes, due, ends_with, fate_in, is_held, is_sought, is_whole, opening_rounding, posts, posts_answer, releases, round, flights_of, still, turns}
use Rattle.join_law.proofs.Flying.{AllFly, fly_filter, fly_joined, fly_sent, fly_ticked}
use Rattle.join_law.proofs.Keeping.{Knows, after_step, leads_on, tells_step}

abbrev AllTell : Performs → List Message → List (Flight Carried) → Type 0
AllTell p list flights = AllFly (TellsList p list) flights

-- the copies are after a beginning of the list, and what is held back tells it
pub record Good (p : Performs) (list : List Message) (u : Rounding) : Type 0 where
  pub after : AreAfter p list u.copies
  pub held : AllTell p list u.held

pub record Goes (p : Performs) (list : List Message) (u v : Rounding) : Type 0 where
  pub good : Good p list v
  pub rises : u.copies.applied ≤ v.copies.applied

abbrev Keeps : Performs → List Message → (Rounding → Rounding) → Type 0
Keeps p list change = (u : Rounding) → Good p list u → Goes p list u (change u)

stays : (p : Performs) (list : List Message) (u : Rounding) → Good p list u → Goes p list u u
stays p list u good = record { good = good; rises = omega arith }

after_both : (p : Performs) (list : List Message) (u v w : Rounding) → Goes p list u v → Goes p list v w → Goes p list u w
after_both p list u v w one other = record { good = other.good; rises = omega (arith, one.rises, other.rises) }

-- ---- a packet is sent, and comes

all_sent : (p : Performs) (list : List Message) (from to : ℕ) (packet : JoinPacket) (fate : Fate) (test : Flight Carried → Bool) (u : Rounding) → TellsList p list packet →
    AllTell p list (filter test (flights_of from to packet fate u))
all_sent p list from to packet fate test u tells =
    fly_filter (TellsList p list) test (flights_of from to packet fate u) (fly_sent (TellsList p list) (suc (length u.asked)) from to packet fate tells)

asked : (p : Performs) (list : List Message) (from to : ℕ) (packet : JoinPacket) (fate : Fate) → TellsList p list packet → Keeps p list (asks from to packet fate)
asked p list from to packet fate tells u good = record {
  good = record {
    after = good.after;
    held = fly_joined (TellsList p list) (suc (length u.asked)) (filter is_held (flights_of from to packet fate u)) u.held (all_sent p list from to packet fate is_held u tells) good.held;
  };
  rises = omega arith;
}

abbrev AllKeep : Performs → List Message → (ℕ → JoinPacket → Rounding → Rounding) → Type 0
AllKeep p list reach = (to : ℕ) (packet : JoinPacket) → TellsList p list packet → Keeps p list (reach to packet)

whole_if : (p : Performs) (list : List Message) (change : Rounding → Rounding) (b : Bool) → Keeps p list change → Keeps p list (λ u. cond b (change u) u)
whole_if p list change true keeps u good = keeps u good
whole_if p list change false keeps u good = stays p list u good

all_came : (p : Performs) (list : List Message) (reach : ℕ → JoinPacket → Rounding → Rounding) (xs : List (Flight Carried)) → AllKeep p list reach → AllTell p list xs → Keeps p list (come_to reach xs)
all_came p list reach [] keep tell u good = stays p list u good
all_came p list reach (x ∷ xs) keep tell u good =
    let one = whole_if p list (reach x.to x.packet.packet) (is_whole x.packet) (keep x.to x.packet.packet tell.0) u good in
    let v = cond (is_whole x.packet) (reach x.to x.packet.packet u) u in
    after_both p list u v (come_to reach xs v) one (all_came p list reach xs keep tell.1 v one.good)

posted : (p : Performs) (list : List Message) (fates : List Fate) (from to : ℕ) (packet : JoinPacket) (reach : ℕ → JoinPacket → Rounding → Rounding) → TellsList p list packet → AllKeep p list reach →
    Keeps p list (posts fates from to packet reach)
posted p list fates from to packet reach tells keep u good =
    let fate = fate_in fates (length u.asked) in
    let one = asked p list from to packet fate tells u good in
    let v = asks from to packet fate u in
    let coming = filter is_ready (flights_of from to packet fate u) in
    after_both p list u v (come_to reach coming v) one (all_came p list reach coming keep (all_sent p list from to packet fate is_ready u tells) v one.good)

came : (f : Frame) (list : List Message) (packet : JoinPacket) → TellsList f.performs list packet → Keeps f.performs list (comes f packet)
came f list packet tells u good =
    let on = followers f.performs list u.copies packet good.after tells in
    record { good = record { after = on.after; held = good.held }; rises = on.rises }

-- ---- a Seek is answered

answered : (f : Frame) (list : List Message) (fates : List Fate) (m : ℕ) (answer : Option JoinPacket) → ((packet : JoinPacket) → answer ≡ Some packet → TellsList f.performs list packet) →
    Keeps f.performs list (posts_answer f fates m answer)
answered f list fates m None tells u good = stays f.performs list u good
answered f list fates m (Some packet) tells u good =
    posted f.performs list fates m f.settings.nodes packet (λ to one. comes f one) (tells packet refl) (λ to one one_tells. came f list one one_tells) u good

-- what the members of a world applied
abbrev pub Members : Frame → World → Type 0
Members f w = (m : ℕ) → m < f.settings.nodes → Applied f.performs (agreed f w) (w.nodes m).member (w.nodes m).copies

pub is_member : (f : Frame) (w : World) (m : ℕ) → can_answer f w m ≡ true → m < f.settings.nodes
is_member f w m is =
    let lives = (both_hold (lives_in f w m) (not (w.nodes m).member.outside) is).0 in
    ltb-true m f.settings.nodes (both_hold (ltb m f.settings.nodes) (w.lives m) lives).0

sought_by : (f : Frame) (w : World) (fates : List Fate) (m applied : ℕ) (b : Bool) → Members f w → can_answer f w m ≡ b →
    Keeps f.performs (agreed f w) (λ u. cond b (posts_answer f fates m (answer_of (w.nodes m).member (w.nodes m).copies applied) u) u)
sought_by f w fates m applied false members is u good = stays f.performs (agreed f w) u good
sought_by f w fates m applied true members is u good =
    answered f (agreed f w) fates m (answer_of (w.nodes m).member (w.nodes m).copies applied)
    (λ packet e. answers_tell f.performs (agreed f w) (w.nodes m).member (w.nodes m).copies applied packet (members m (is_member f w m is)) e) u good

sought : (f : Frame) (w : World) (fates : List Fate) (m applied : ℕ) → Members f w → Keeps f.performs (agreed f w) (is_sought f fates w m applied)
sought f w fates m applied members u good = sought_by f w fates m applied (can_answer f w m) members refl u good

-- ---- a round

arrived : (f : Frame) (w : World) (fates : List Fate) (to : ℕ) (packet : JoinPacket) → Members f w → TellsList f.performs (agreed f w) packet → Keeps f.performs (agreed f w) (arrives f fates w to packet)
arrived f w fates to (Seek applied) members tells u good = sought f w fates to applied members u good
arrived f w fates to (State state) members tells u good = came f (agreed f w) (State state) tells u good
arrived f w fates to (Gives number x) members tells u good = came f (agreed f w) (Gives number x) tells u good

released : (f : Frame) (w : World) (fates : List Fate) → Members f w → Keeps f.performs (agreed f w) (releases f fates w)
released f w fates members u good =
    let p = f.performs in
    let list = agreed f w in
    let nearer = fly_ticked (TellsList p list) u.held good.held in
    let start : Good p list (record u { held = still u }) = record { after = good.after; held = fly_filter (TellsList p list) is_held (ticked u.held) nearer } in
    let more = all_came p list (arrives f fates w) (due u) (λ to packet tells. arrived f w fates to packet members tells)
    (fly_filter (TellsList p list) is_ready (ticked u.held) nearer) (record u { held = still u }) start in
    record { good = more.good; rises = more.rises }

pub round_goes : (f : Frame) (w : World) (fates : List Fate) (m : ℕ) → Members f w → Keeps f.performs (agreed f w) (round f fates w m)
round_goes f w fates m members u good =
    let p = f.performs in
    let list = agreed f w in
    let one = released f w fates members u good in
    let v = releases f fates w u in
    let two = posted p list fates f.settings.nodes m (Seek v.copies.applied) (arrives f fates w) tt (λ to packet tells. arrived f w fates to packet members tells) v one.good in
    record {
      good = record { after = two.good.after; held = two.good.held };
      rises = omega (arith, one.rises, two.rises);
    }

-- ---- beside a run

turned_if : (f : Frame) (w : World) (fates : List Fate) (b : Bool) → Members f w → Keeps f.performs (agreed f w) (λ u. cond b (round f fates w (u.rounds % f.settings.nodes) u) u)
turned_if f w fates true members u good = round_goes f w fates (u.rounds % f.settings.nodes) members u good
turned_if f w fates false members u good = stays f.performs (agreed f w) u good

all_tell_on : (f : Frame) (w v : World) (more : List Message) (xs : List (Flight Carried)) → agreed f v ≡ agreed f w ++ more → AllTell f.performs (agreed f w) xs → AllTell f.performs (agreed f v) xs
all_tell_on f w v more [] grew all = tt
all_tell_on f w v more (x ∷ xs) grew all = (tells_step f w v more x.packet.packet grew all.0, all_tell_on f w v more xs grew all.1)

good_on : (f : Frame) (w v : World) (more : List Message) (u : Rounding) → agreed f v ≡ agreed f w ++ more → Good f.performs (agreed f w) u → Good f.performs (agreed f v) u
good_on f w v more u grew good = record { after = after_step f w v more u.copies grew good.after; held = all_tell_on f w v more u.held grew good.held }

-- where the run and the follower came to
pub record Beside (f : Frame) (steps : List Step) (w : World) (u : Rounding) : Type 0 where
  pub replays : Replays f steps w
  pub good : Good f.performs (agreed f w) u

pub alongside : (f : Frame) → Knows f → (fates : List Fate) (start n : ℕ) (w : World) (steps : List Step) (u : Rounding) (v : World) (z : Rounding) (before : List Step) →
    Beside f before w u → Alongside f fates start n w steps u v z → (all : List Step) × Beside f all v z
alongside f knows fates start n w [] u v z before beside along =
    (before, subst (λ (y : Rounding). Beside f before v y) (sym along.1) (subst (λ (x : World). Beside f before x u) (sym along.0) beside))
alongside f knows fates start n w (step ∷ steps) u v z before beside along =
    let x = along.0 in
    let next = along.1 in
    let grew = knows.grows before w x step beside.replays next in
    let replays = leads_on f (opening_world f) w x before step beside.replays next in
    let turned = turned_if f x fates (leb start n) (knows.members (before ++ step ∷ []) x replays) u (good_on f w x grew.0 u grew.1 beside.good) in
    alongside f knows fates start (suc n) x steps (turns f fates start x n u) v z (before ++ step ∷ []) (record { replays = replays; good = turned.good }) along.2

-- ---- when the run has ended

caught_if : (f : Frame) (w : World) (fates : List Fate) (m n : ℕ) (b : Bool) → Members f w → Keeps f.performs (agreed f w) (catches_up f fates w m n) →
    Keeps f.performs (agreed f w) (λ u. cond b u (catches_up f fates w m n (round f fates w m u)))
caught_if f w fates m n true members keeps u good = stays f.performs (agreed f w) u good
caught_if f w fates m n false members keeps u good =
    let one = round_goes f w fates m members u good in
    after_both f.performs (agreed f w) u (round f fates w m u) (catches_up f fates w m n (round f fates w m u)) one (keeps (round f fates w m u) one.good)

caught : (f : Frame) (w : World) (fates : List Fate) (m n : ℕ) → Members f w → Keeps f.performs (agreed f w) (catches_up f fates w m n)
caught f w fates m zero members u good = stays f.performs (agreed f w) u good
caught f w fates m (suc n) members u good = caught_if f w fates m n (leb (w.nodes m).member.applied u.copies.applied) members (caught f w fates m n members) u good

ended : (f : Frame) (w : World) (fates : List Fate) (m : Option ℕ) → Members f w → Keeps f.performs (agreed f w) (ends_with f fates w m)
ended f w fates None members u good = stays f.performs (agreed f w) u good
ended f w fates (Some m) members u good = caught f w fates m _ members u good

pub opening_beside : (f : Frame) → Beside f [] (opening_world f) opening_rounding
opening_beside f = record { replays = refl; good = record { after = opens_after f.performs (agreed f (opening_world f)); held = tt } }

-- what is so of the rounds' end
pub record Ended (f : Frame) (w : World) (z : Rounding) : Type 0 where
  pub steps : List Step
  pub replays : Replays f steps w
  pub good : Good f.performs (agreed f w) z

pub rounds_end : (f : Frame) → Knows f → (start : ℕ) (fates : List Fate) (steps : List Step) (w : World) (z : Rounding) → Rounds f start fates steps w z → Ended f w z
rounds_end f knows start fates steps w z rounds =
    let came_so = alongside f knows fates start 1 (opening_world f) steps opening_rounding w rounds.before [] (opening_beside f) rounds.along in
    let members = knows.members came_so.0 w came_so.1.replays in
    let goes = ended f w fates (ahead f w f.settings.nodes) members rounds.before came_so.1.good in
    record { steps = came_so.0; replays = came_so.1.replays; good = subst (Good f.performs (agreed f w)) (sym rounds.end) goes.good }
