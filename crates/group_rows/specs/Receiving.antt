-- Single steps, written out: what the other members of an incarnation do: docs/RUNTIME.md, Runs.
use Rattle.std.specs.Prelude.{ℕ, true, Some, [], ◌∷◌, ◌≡◌}
use Rattle.group_packets.specs.declared.packet.Packet.TheVariants as V
use Rattle.group_rules.specs.Member.{Member, opening_member}
use Rattle.group_rules.specs.Member.Kind.{Order, Entry, Accept}
use Rattle.group_rules.specs.Receiver.{keep_body}
use Rattle.group_rules.specs.Steps.{receive, timer, note}
use Rattle.group_rules.specs.Runs.{group, from_to}
use Rattle.group_rules.specs.Windows.{up_to, posts, asks_for_all}

-- ---- a Status counts as a report, of a note or of a tick: the next one comes 64 applied entries later

abbrev pub has_accepted_of : ℕ → Member ℕ
has_accepted_of n = record (opening_member {M = ℕ}) { log = up_to n; accepted = n }

pub record ReportedOnce : Type 0 where
  pub next : (note (group 3 1) 1 65 (note (group 3 1) 1 64 (has_accepted_of 65)).state).acts ≡ []
  pub ticked : (note (group 3 1) 1 100 (timer (group 3 1) 1 (note (group 3 1) 1 60 (has_accepted_of 100)).state).state).acts ≡ []

-- ---- of two bodies of a process the one of the greater call is kept, whichever came first

pub record NewerBody : Type 0 where
  pub newer : (keep_body (group 3 1) 107 (keep_body (group 3 1) 105 opening_member)).bodies 1 ≡ Some 107
  pub older : (keep_body (group 3 1) 105 (keep_body (group 3 1) 107 opening_member)).bodies 1 ≡ Some 107

-- ---- an acknowledger that has the entry, and one more, acknowledges both

pub record AcknowledgesAgain : Type 0 where
  pub whole : posts 3 (receive (group 3 1) 1 0 0 (Entry 1 0 0 7) (record (opening_member {M = ℕ}) { log = 7 ∷ 8 ∷ [] })) ≡
      from_to 1 0 (V.Ack 0 2 0) ∷ []

-- ---- an Accept purges to the stable number that it tells

pub record AcceptPurges : Type 0 where
  pub base : (receive (group 3 1) 1 0 0 (Accept 200 100)
      (record (opening_member {M = ℕ}) { log = up_to 200; accepted = 200; applied = 200 })).state.base ≡ 100

-- ---- an Order without its body accepts nothing

pub record OrderWithoutBody : Type 0 where
  pub accepted : (receive (group 3 1) 1 0 0 (Order 1 1 5 1 0) (record (opening_member {M = ℕ}) { log = 7 ∷ [] })).state.accepted ≡ 0

-- ---- an Order and an Accept of a later incarnation show that the whole log is lacked, as an Entry does; none of them promises that one

pub record LaterIsAnswered : Type 0 where
  pub order : posts 3 (receive (group 3 1) 0 2 5 (Order 1 0 0 0 0) opening_member) ≡ from_to 0 2 (V.Nack 5 0 0 true) ∷ []
  pub accept : posts 3 (receive (group 3 1) 0 2 5 (Accept 0 0) opening_member) ≡ from_to 0 2 (V.Nack 5 0 0 true) ∷ []
  pub promised : asks_for_all.state.promised ≡ 0
