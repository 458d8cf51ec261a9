-- Runs computed: three members, of which one acknowledges, and one message of member 1.
use Rattle.std.specs.Prelude.{ℕ, [], ◌∷◌, ◌≡◌}
use Rattle.group_rules.specs.Member.{Letter, Kind}
use Rattle.group_rules.specs.Member.Kind.{Body, Order}
use Rattle.group_rules.specs.Runs.{group}
use Rattle.group_bound.specs.Flow.{Flow, Move, opening_flow, flow}

-- ---- a short message: Request, two Entries, an Ack, two Accepts

abbrev pub short_message : Flow ℕ
short_message = flow (group 3 1) opening_flow (
    Move.Submits 1 100 ∷ Move.Delivers ∷ Move.Delivers ∷ Move.Delivers ∷ Move.Delivers ∷ Move.Delivers ∷ Move.Delivers
    ∷ Move.Notes 0 1 ∷ Move.Notes 1 1 ∷ Move.Notes 2 1 ∷ [])

pub record ShortMessage : Type 0 where
  pub log : (short_message.world.members 2).log ≡ 100 ∷ []
  pub applied : (short_message.world.members 1).applied ≡ 1
  pub queue : short_message.queue ≡ []
  pub delivered : short_message.delivered ≡ 6

-- ---- a long one: it goes as Body to all, and the sequencer answers with Order

abbrev pub letter : ℕ → ℕ → Kind ℕ → Letter ℕ
letter to from kind = record { to = to; packet = record { inc = 0; from = from; kind = kind } }

-- its Body came to the sequencer: a Body and two Orders are on their way
abbrev pub after_body : Flow ℕ
after_body = flow (group 3 1) opening_flow (Move.Submits 1 105 ∷ Move.Delivers ∷ [])

abbrev pub long_message : Flow ℕ
long_message = flow (group 3 1) after_body (
    Move.Delivers ∷ Move.Delivers ∷ Move.Delivers ∷ Move.Delivers ∷ Move.Delivers ∷ Move.Delivers
    ∷ Move.Notes 0 1 ∷ Move.Notes 1 1 ∷ Move.Notes 2 1 ∷ [])

pub record LongMessage : Type 0 where
  pub bodies :
      after_body.queue
      ≡ letter 2 1 (Body 0 105) ∷ letter 1 0 (Order 1 1 5 0 0) ∷ letter 2 0 (Order 1 1 5 0 0) ∷ []
  pub log : (long_message.world.members 2).log ≡ 105 ∷ []
  pub applied : (long_message.world.members 1).applied ≡ 1
  pub queue : long_message.queue ≡ []
  pub delivered : long_message.delivered ≡ 7
