-- Moments at which what is kept stands, as it changes.
use Rattle.std.proofs.Common.{◌≡◌, ◌∙◌, ◌<◌, ◌+◌, ℕ, suc, Bool, true, false, cond, List, [], ◌∷◌, ◌++◌, length, take, map, refl, ap, sym, subst, arith, append_assoc}
use Rattle.std.specs.List.{filter}
use Rattle.object_manager.specs.After.{Copied, opening_copies}
use Rattle.group_join.specs.Following.{follows}
use Rattle.group_join.specs.Spelling.{join_spelling}
use Rattle.group_join.specs.declared.packet.JoinPacket.{JoinPacket}
use Rattle.net_rules.proofs.Travelling.{below_both, below_copies, below_greater, below_joined, below_ticked}
use Rattle.net_rules.specs.Asked.{packet_asked}
use Rattle.net_rules.specs.Flights.{AreBelow, copies, is_ready, joined, seen, ticked}
use Rattle.net_rules.specs.declared.asked.Asked.{Asked}
use Rattle.net_rules.specs.declared.fate.Fate.{Fate}
use Rattle.net_rules.specs.declared.flight.Flight.{Flight}
use Rattle.world_rules.specs.Frame.{Frame}
use Rattle.join_law.proofs.Flying.{fly_and, fly_filter, fly_joined, fly_sent, fly_ticked}
use Rattle.join_law.specs.Moments.{Moment, between, opens_round, sent_as}
use Rattle.join_law.specs.Rounds.{Carried, Rounding, bytes_in, carried, comes, cut_to, flights_of, is_held, kind_of, opening_rounding, takes_state}
use Rattle.follower_run.specs.Kept.{IsAt, IsLeftAt}
use Rattle.follower_run.specs.Posts.{CanBeRead, is_late, spelled}
use Rattle.follower_run.specs.declared.rounds.FollowerRounds.{FollowerRounds}
use Rattle.follower_run.proofs.Given.{given_more, one_more}
use Rattle.follower_run.proofs.Spelled.{copies_seen, seen_both, seen_held, seen_ready, seen_ticked}

-- ---- numbers

below_if : (number : ℕ) (b : Bool) (x : Flight Carried) (xs : List (Flight Carried)) → x.number < number → AreBelow number xs → AreBelow number (cond b (x ∷ xs) xs)
below_if number true x xs lt all = (lt, all)
below_if number false x xs lt all = all

pub below_filter : (test : Flight Carried → Bool) (number : ℕ) (xs : List (Flight Carried)) → AreBelow number xs → AreBelow number (filter test xs)
below_filter test number [] all = tt
below_filter test number (x ∷ xs) all = below_if number (test x) x (filter test xs) all.0 (below_filter test number xs all.1)

-- ---- where memory lacked

pub left_at : (nodes : ℕ) (base told : List Asked) (s : FollowerRounds) (v : Moment) → IsAt nodes base told s v → IsLeftAt base told s v
left_at nodes base told s v a = record { copies = a.copies; states = a.states; tells = a.tells; given = a.given }

-- whatever became of packets
pub left_as : (base told told' : List Asked) (s s' : FollowerRounds) (v : Moment) → told' ≡ told → s'.follower ≡ s.follower → s'.states ≡ s.states → IsLeftAt base told s v → IsLeftAt base told' s' v
left_as base told told' s s' v same follower states a = record { copies = follower ∙ a.copies; states = states ∙ a.states; tells = same ∙ a.tells; given = a.given }

-- ---- a packet is sent

-- what the wire tells of it
abbrev pub IsAsked : ℕ → ℕ → JoinPacket → ℕ → Fate → List Asked → List Asked → Type 0
IsAsked from to packet number fate told told' = told' ≡ told ++ packet_asked number (kind_of packet) from to (bytes_in packet) fate ∷ []

asked_more : (nodes : ℕ) (base told told' : List Asked) (s : FollowerRounds) (v : Moment) (from to number : ℕ) (packet : JoinPacket) (fate : Fate) → IsAt nodes base told s v → number ≡ suc s.questions
    → IsAsked from to packet number fate told told' → told' ≡ base ++ (sent_as fate from to packet v).rounding.asked
asked_more nodes base told told' s v from to number packet fate a next asked =
    asked
    ∙ ap (λ (n : ℕ). told ++ packet_asked n (kind_of packet) from to (bytes_in packet) fate ∷ []) (next ∙ ap suc a.questions)
    ∙ ap (λ (l : List Asked). l ++ packet_asked (suc (length v.rounding.asked)) (kind_of packet) from to (bytes_in packet) fate ∷ []) a.tells
    ∙ append_assoc base v.rounding.asked (packet_asked (suc (length v.rounding.asked)) (kind_of packet) from to (bytes_in packet) fate ∷ [])

pub left_sent : (nodes : ℕ) (base told told' : List Asked) (s s' : FollowerRounds) (v : Moment) (from to number : ℕ) (packet : JoinPacket) (fate : Fate) → IsAt nodes base told s v → number ≡ suc s.questions
    → IsAsked from to packet number fate told told' → s'.follower ≡ s.follower → s'.states ≡ s.states → IsLeftAt base told' s' (sent_as fate from to packet v)
left_sent nodes base told told' s s' v from to number packet fate a next asked follower states = record {
  copies = follower ∙ a.copies;
  states = states ∙ a.states;
  tells = asked_more nodes base told told' s v from to number packet fate a next asked;
  given = given_more v.rounding.asked (suc (length v.rounding.asked)) (kind_of packet) from to (bytes_in packet) fate a.given;
}

-- what is kept behind it
pub record IsKept (s s' : FollowerRounds) (number from to : ℕ) (packet : JoinPacket) (fate : Fate) : Type 0 where
  pub own : s'.number ≡ s.number
  pub follower : s'.follower ≡ s.follower
  pub states : s'.states ≡ s.states
  pub rounds : s'.rounds ≡ s.rounds
  pub questions : s'.questions ≡ number
  pub held : s'.held.items ≡ s.held.items ++ filter is_late (copies take number from to (join_spelling packet) fate)
  pub coming : s'.coming.items ≡ filter is_ready (copies take number from to (join_spelling packet) fate) ++ s.coming.items

pub sent_at : (nodes : ℕ) (base told told' : List Asked) (s s' : FollowerRounds) (v : Moment) (from to number : ℕ) (packet : JoinPacket) (fate : Fate) → IsAt nodes base told s v → number ≡ suc s.questions
    → CanBeRead packet → IsAsked from to packet number fate told told' → IsKept s s' number from to packet fate → IsAt nodes base told' s' (sent_as fate from to packet v)
sent_at nodes base told told' s s' v from to number packet fate a next read asked kept =
    let u = v.rounding in
    let n = suc (length u.asked) in
    let all = flights_of from to packet fate u in
    let is : number ≡ n = next ∙ ap suc a.questions in
    let many = one_more u.asked (packet_asked n (kind_of packet) from to (bytes_in packet) fate) in
    let joins : joined n (filter is_held all) u.held ≡ u.held ++ filter is_held all = below_joined n (filter is_held all) u.held a.below in
    let reads = fly_sent CanBeRead n from to packet fate read in
    record {
      number = kept.own ∙ a.number;
      copies = kept.follower ∙ a.copies;
      states = kept.states ∙ a.states;
      rounds = kept.rounds ∙ a.rounds;
      tells = asked_more nodes base told told' s v from to number packet fate a next asked;
      given = given_more u.asked n (kind_of packet) from to (bytes_in packet) fate a.given;
      questions = kept.questions ∙ is ∙ sym many;
      held =
          kept.held
          ∙ ap (λ (k : ℕ). s.held.items ++ filter is_late (copies take k from to (join_spelling packet) fate)) is
          ∙ ap (λ (l : List (Flight (List ℕ))). l ++ filter is_late (copies take n from to (join_spelling packet) fate)) a.held
          ∙ ap (λ (l : List (Flight (List ℕ))). map (seen spelled) u.held ++ filter is_late l) (sym (copies_seen n from to packet fate))
          ∙ ap (λ (l : List (Flight (List ℕ))). map (seen spelled) u.held ++ l) (sym (seen_held all))
          ∙ sym (seen_both u.held (filter is_held all))
          ∙ ap (map (seen spelled)) (sym joins);
      below =
          subst (λ (k : ℕ). AreBelow (suc k) (joined n (filter is_held all) u.held)) (sym many)
          (subst (AreBelow (suc n)) (sym joins)
          (below_both (suc n) u.held (filter is_held all) (below_greater n (suc n) u.held (omega arith) a.below)
          (below_filter is_held (suc n) all (below_greater (n + 1) (suc n) all (omega arith) (below_copies cut_to n from to (carried packet) fate)))));
      coming =
          kept.coming
          ∙ ap (λ (k : ℕ). filter is_ready (copies take k from to (join_spelling packet) fate) ++ s.coming.items) is
          ∙ ap (λ (l : List (Flight (List ℕ))). filter is_ready (copies take n from to (join_spelling packet) fate) ++ l) a.coming
          ∙ ap (λ (l : List (Flight (List ℕ))). filter is_ready l ++ map (seen spelled) v.coming) (sym (copies_seen n from to packet fate))
          ∙ ap (λ (l : List (Flight (List ℕ))). l ++ map (seen spelled) v.coming) (sym (seen_ready all))
          ∙ sym (seen_both (filter is_ready all) v.coming);
      held_read = fly_joined CanBeRead n (filter is_held all) u.held (fly_filter CanBeRead is_held all reads) a.held_read;
      coming_read = fly_and CanBeRead (filter is_ready all) v.coming (fly_filter CanBeRead is_ready all reads) a.coming_read;
    }

-- ---- the next packet leaves those that come

none_seen : (xs : List (Flight Carried)) → [] ≡ map (seen spelled) xs → xs ≡ []
none_seen [] e = refl
none_seen (x ∷ xs) e = absurd (cc e)

-- nothing comes
pub none_come : (nodes : ℕ) (base told : List Asked) (s : FollowerRounds) (v : Moment) → IsAt nodes base told s v → s.coming.items ≡ [] → v.coming ≡ []
none_come nodes base told s v a none = none_seen v.coming (sym none ∙ a.coming)

-- the first of those that come, and what comes behind it
pub record HasFirst (nodes : ℕ) (base told : List Asked) (s' : FollowerRounds) (v : Moment) (one : Flight (List ℕ)) : Type 0 where
  pub first : Flight Carried
  pub rest : List (Flight Carried)
  pub come : v.coming ≡ first ∷ rest
  pub is : one ≡ seen spelled first
  pub read : CanBeRead first.packet.packet
  pub at : IsAt nodes base told s' (record { rounding = v.rounding; coming = rest })

first_of : (nodes : ℕ) (base told : List Asked) (s s' : FollowerRounds) (u : Rounding) (xs : List (Flight Carried)) (one : Flight (List ℕ)) (rest : List (Flight (List ℕ))) → IsAt nodes base told s (record { rounding = u; coming = xs })
    → one ∷ rest ≡ map (seen spelled) xs → s'.coming.items ≡ rest → s'.number ≡ s.number → s'.follower ≡ s.follower → s'.states ≡ s.states → s'.rounds ≡ s.rounds → s'.questions ≡ s.questions → s'.held.items ≡ s.held.items
    → HasFirst nodes base told s' (record { rounding = u; coming = xs }) one
first_of nodes base told s s' u [] one rest a e left number follower states rounds questions held = absurd (cc e)
first_of nodes base told s s' u (x ∷ xs) one rest a e left number follower states rounds questions held =
    let same : one ≡ seen spelled x = cc e in
    let more : rest ≡ map (seen spelled) xs = cc e in
    record {
      first = x;
      rest = xs;
      come = refl;
      is = same;
      read = a.coming_read.0;
      at = record {
        number = number ∙ a.number;
        copies = follower ∙ a.copies;
        states = states ∙ a.states;
        rounds = rounds ∙ a.rounds;
        tells = a.tells;
        given = a.given;
        questions = questions ∙ a.questions;
        held = held ∙ a.held;
        below = a.below;
        coming = left ∙ more;
        held_read = a.held_read;
        coming_read = a.coming_read.1;
      };
    }

pub first_comes : (nodes : ℕ) (base told : List Asked) (s s' : FollowerRounds) (v : Moment) (one : Flight (List ℕ)) (rest : List (Flight (List ℕ))) → IsAt nodes base told s v → s.coming.items ≡ one ∷ rest
    → s'.coming.items ≡ rest → s'.number ≡ s.number → s'.follower ≡ s.follower → s'.states ≡ s.states → s'.rounds ≡ s.rounds → s'.questions ≡ s.questions → s'.held.items ≡ s.held.items → HasFirst nodes base told s' v one
first_comes nodes base told s s' v one rest a is left number follower states rounds questions held =
    first_of nodes base told s s' v.rounding v.coming one rest a (sym is ∙ a.coming) left number follower states rounds questions held

-- ---- a packet comes to the follower

pub taken_at : (f : Frame) (nodes : ℕ) (base told : List Asked) (s s' : FollowerRounds) (v : Moment) (packet : JoinPacket) → IsAt nodes base told s v → s'.number ≡ s.number → s'.follower ≡ follows f.performs s.follower packet
    → s'.states ≡ s.states + takes_state s.follower packet → s'.rounds ≡ s.rounds → s'.questions ≡ s.questions → s'.held.items ≡ s.held.items → s'.coming.items ≡ s.coming.items
    → IsAt nodes base told s' (record { rounding = comes f packet v.rounding; coming = v.coming })
taken_at f nodes base told s s' v packet a number follower states rounds questions held coming = record {
  number = number ∙ a.number;
  copies = follower ∙ ap (λ (c : Copied). follows f.performs c packet) a.copies;
  states = states ∙ ap (λ (n : ℕ). n + takes_state s.follower packet) a.states ∙ ap (λ (c : Copied). v.rounding.states + takes_state c packet) a.copies;
  rounds = rounds ∙ a.rounds;
  tells = a.tells;
  given = a.given;
  questions = questions ∙ a.questions;
  held = held ∙ a.held;
  below = a.below;
  coming = coming ∙ a.coming;
  held_read = a.held_read;
  coming_read = a.coming_read;
}

-- ---- a round

-- it is opened where nothing comes
pub opened_at : (nodes : ℕ) (base told : List Asked) (s s' : FollowerRounds) (v : Moment) → IsAt nodes base told s v → s.coming.items ≡ [] → s'.number ≡ s.number → s'.follower ≡ s.follower → s'.states ≡ s.states → s'.rounds ≡ s.rounds
    → s'.questions ≡ s.questions → s'.held.items ≡ filter is_late (ticked s.held.items) → s'.coming.items ≡ s.coming.items ++ filter is_ready (ticked s.held.items) → IsAt nodes base told s' (opens_round v.rounding)
opened_at nodes base told s s' v a none number follower states rounds questions held coming =
    let u = v.rounding in
    let later : ticked s.held.items ≡ map (seen spelled) (ticked u.held) = ap ticked a.held ∙ sym (seen_ticked u.held) in
    record {
      number = number ∙ a.number;
      copies = follower ∙ a.copies;
      states = states ∙ a.states;
      rounds = rounds ∙ a.rounds;
      tells = a.tells;
      given = a.given;
      questions = questions ∙ a.questions;
      held = held ∙ ap (filter is_late) later ∙ sym (seen_held (ticked u.held));
      below = below_filter is_held (suc (length u.asked)) (ticked u.held) (below_ticked (suc (length u.asked)) u.held a.below);
      coming = coming ∙ ap (λ (l : List (Flight (List ℕ))). l ++ filter is_ready (ticked s.held.items)) none ∙ ap (filter is_ready) later ∙ sym (seen_ready (ticked u.held));
      held_read = fly_filter CanBeRead is_held (ticked u.held) (fly_ticked CanBeRead u.held a.held_read);
      coming_read = fly_filter CanBeRead is_ready (ticked u.held) (fly_ticked CanBeRead u.held a.held_read);
    }

-- where the follower and what the wire told are as they were, so it is in a round that is opened, or with another count of rounds
pub opened_left : (base told : List Asked) (s : FollowerRounds) (v : Moment) → IsLeftAt base told s v → IsLeftAt base told s (opens_round v.rounding)
opened_left base told s v a = record { copies = a.copies; states = a.states; tells = a.tells; given = a.given }

pub counted_at : (nodes : ℕ) (base told : List Asked) (s s' : FollowerRounds) (u : Rounding) (n : ℕ) → IsAt nodes base told s (between u) → s'.rounds ≡ n → s'.number ≡ s.number → s'.follower ≡ s.follower → s'.states ≡ s.states → s'.questions ≡ s.questions
    → s'.held.items ≡ s.held.items → s'.coming.items ≡ s.coming.items → IsAt nodes base told s' (between (record u { rounds = n }))
counted_at nodes base told s s' u n a rounds number follower states questions held coming = record {
  number = number ∙ a.number;
  copies = follower ∙ a.copies;
  states = states ∙ a.states;
  rounds = rounds;
  tells = a.tells;
  given = a.given;
  questions = questions ∙ a.questions;
  held = held ∙ a.held;
  below = a.below;
  coming = coming ∙ a.coming;
  held_read = a.held_read;
  coming_read = a.coming_read;
}

-- ---- before the first round

pub fresh_at : (nodes : ℕ) (told : List Asked) (s : FollowerRounds) → s.number ≡ nodes → s.follower ≡ opening_copies → s.held.items ≡ [] → s.coming.items ≡ [] → s.questions ≡ 0 → s.states ≡ 0 → s.rounds ≡ 0
    → IsAt nodes told told s (between opening_rounding)
fresh_at nodes told s number follower held coming questions states rounds = record {
  number = number;
  copies = follower;
  states = states;
  rounds = rounds;
  tells = sym (none told);
  given = refl;
  questions = questions;
  held = held;
  below = tt;
  coming = coming;
  held_read = tt;
  coming_read = tt;
}
  where
    none : (xs : List Asked) → xs ++ [] ≡ xs
    none [] = refl
    none (x ∷ xs) = ap (λ (l : List Asked). x ∷ l) (none xs)
