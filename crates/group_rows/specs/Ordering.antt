-- Single steps, written out: what a sequencer orders, and what waits: docs/RUNTIME.md, Runs.
use Rattle.std.specs.Prelude.{ℕ, false, [], ◌∷◌, ◌++◌, ◌≡◌}
use Rattle.group_packets.specs.declared.packet.Packet.TheVariants as V
use Rattle.group_rules.specs.Member.{Member, opening_member}
use Rattle.group_rules.specs.Member.Kind.{Body, Status}
use Rattle.group_rules.specs.Work.{Work}
use Rattle.group_rules.specs.Steps.{submit, receive, note}
use Rattle.group_rules.specs.Runs.{group, from_to}
use Rattle.group_rules.specs.Windows.{up_to, posts, full, is_asked}

-- ---- a note purges, and orders what waits: a member that is alone has a full window, and notes all of it

abbrev pub notes_alone : Work ℕ
notes_alone = note (group 1 0) 0 256 (record full { applied = 0; waiting = record { by_name = false; message = 300 } ∷ [] })

pub record NoteOrders : Type 0 where
  pub base : notes_alone.state.base ≡ 256
  pub log : notes_alone.state.log ≡ up_to 256 ++ 300 ∷ []
  pub accepted : notes_alone.state.accepted ≡ 257
  pub none : notes_alone.state.waiting ≡ []

-- ---- a Request and a Body of member 1 wait; once there is room both are ordered, in order of arrival, each as it came

abbrev pub two_wait : Member ℕ
two_wait = (receive (group 3 0) 0 1 0 (Body 256 400) is_asked.state).state

pub record TwoWait : Type 0 where
  pub ordered : posts 3 (receive (group 3 0) 0 2 0 (Status 256 256) two_wait) ≡ from_to 0 2 (V.Accept 0 256 256) ∷
      from_to 0 1 (V.Entry 0 257 257 256 300) ∷ from_to 0 2 (V.Entry 0 257 257 256 300) ∷
      from_to 0 1 (V.Order 0 258 (record { 0 = 4 }) (record { 0 = 0 }) 258 256) ∷
      from_to 0 2 (V.Order 0 258 (record { 0 = 4 }) (record { 0 = 0 }) 258 256) ∷ []

-- ---- the sequencer's own message waits too

pub record OwnWaits : Type 0 where
  pub waits : (submit (group 3 0) 0 300 full).state.waiting ≡ record { by_name = false; message = 300 } ∷ []

-- ---- pending messages stand in order of process, in whichever order they came

pub record PendingInOrder : Type 0 where
  pub pending : (submit (group 3 1) 1 100 (submit (group 3 1) 1 300 opening_member).state).state.pending ≡ 100 ∷ 300 ∷ []
