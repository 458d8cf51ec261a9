-- What a faultless run leaves out, and a run for each that breaks the law: letters out of turn, and ticks.
use Rattle.std.specs.Prelude.{ℕ, suc, true, false, List, [], ◌∷◌, ◌++◌, ◌≡◌, ◌+◌, ◌*◌, nat_lt, take, drop, length}
use Rattle.group_rules.specs.Member.Kind.{Nack}
use Rattle.group_rules.specs.Messages.{Group}
use Rattle.group_rules.specs.Runs.{group}
use Rattle.group_rules.specs.Steps.{timer}
use Rattle.group_rules.specs.World.{put}
use Rattle.group_bound.specs.Enough.{entries_of}
use Rattle.group_bound.specs.Flow.{Flow, Move, delivers, flow, moves, onto, opening_flow}
use Rattle.group_bound.specs.Worked.{letter}

-- a move; or the letter with so many in front of it is delivered; or a member's timer runs
pub data AnyMove : Type 0 where
  InTurn : (move : Move ℕ) → AnyMove
  OutOfTurn : (place : ℕ) → AnyMove
  Ticks : (member : ℕ) → AnyMove

-- the one at this place goes to the front
abbrev pub put_first : {A : Type 0} → ℕ → List A → List A
put_first place q = take 1 (drop place q) ++ (take place q ++ drop (suc place) q)

abbrev pub ticks : Group ℕ → Flow ℕ → ℕ → Flow ℕ
ticks g f m =
    let v = timer g m (f.world.members m) in
    record { world = put f.world m f.world.past v; queue = onto f.queue v.acts; delivered = f.delivered; asked = f.asked }

abbrev pub any_move : Group ℕ → Flow ℕ → AnyMove → Flow ℕ
any_move g f (AnyMove.InTurn move) = moves g f move
any_move g f (AnyMove.OutOfTurn place) = delivers g f (put_first place f.queue)
any_move g f (AnyMove.Ticks m) = ticks g f m

abbrev pub any_flow : Group ℕ → Flow ℕ → List AnyMove → Flow ℕ
any_flow g f [] = f
any_flow g f (move ∷ more) = any_flow g (any_move g f move) more

abbrev pub next_letter : AnyMove
next_letter = AnyMove.InTurn Move.Delivers

abbrev pub submitted : ℕ → ℕ → AnyMove
submitted m x = AnyMove.InTurn (Move.Submits m x)

abbrev pub noted : ℕ → ℕ → AnyMove
noted m n = AnyMove.InTurn (Move.Notes m n)

-- ---- each Accept comes to member 2 before its Entry: the first makes it ask for what it lacks, the second doesn't, as it asked already. Then
-- nothing is on its way, and member 2 doesn't know that entry 2 is accepted: a tick is the only thing left

abbrev pub accepts_first : Flow ℕ
accepts_first = any_flow (group 3 1) opening_flow (
    submitted 0 0 ∷ next_letter ∷ AnyMove.OutOfTurn 1 ∷ noted 0 1 ∷ AnyMove.OutOfTurn 2
    ∷ next_letter ∷ next_letter ∷ noted 1 1 ∷ next_letter ∷ next_letter ∷ noted 2 1
    ∷ submitted 0 1 ∷ next_letter ∷ AnyMove.OutOfTurn 1 ∷ noted 0 2 ∷ AnyMove.OutOfTurn 2
    ∷ next_letter ∷ next_letter ∷ noted 1 2 ∷ [])

-- the same in turn
abbrev pub in_turn : Flow ℕ
in_turn = flow (group 3 1) opening_flow (
    Move.Submits 0 0 ∷ Move.Delivers ∷ Move.Delivers ∷ Move.Delivers ∷ Move.Notes 0 1
    ∷ Move.Delivers ∷ Move.Notes 1 1 ∷ Move.Delivers ∷ Move.Notes 2 1
    ∷ Move.Submits 0 1 ∷ Move.Delivers ∷ Move.Delivers ∷ Move.Delivers ∷ Move.Notes 0 2
    ∷ Move.Delivers ∷ Move.Notes 1 2 ∷ Move.Delivers ∷ Move.Notes 2 2 ∷ [])

pub record TurnsAreKept : Type 0 where
  pub right : in_turn.queue ≡ []
  pub applied : (in_turn.world.members 2).applied ≡ 2
  pub wrong : accepts_first.queue ≡ []
  pub entries : entries_of accepts_first ≡ 2
  pub known : (accepts_first.world.members 2).accepted ≡ 1

-- ---- a long message's Order comes to member 2 before its Body, and member 2 asks for the entry

abbrev pub order_first : Flow ℕ
order_first = any_flow (group 3 1) opening_flow (submitted 1 105 ∷ next_letter ∷ AnyMove.OutOfTurn 2 ∷ [])

pub record BodiesComeFirst : Type 0 where
  pub wrong : drop 2 order_first.queue ≡ letter 0 2 (Nack 1 0 false) ∷ []

-- ---- member 1 ticks six times while its Request is on its way, and sends it again each time: for one message and one entry more than
-- 3 * 1 + 4 * (3 * 1) letters are delivered

abbrev pub ticked : Flow ℕ
ticked = any_flow (group 3 1) opening_flow (
    submitted 1 100 ∷ AnyMove.Ticks 1 ∷ AnyMove.Ticks 1 ∷ AnyMove.Ticks 1 ∷ AnyMove.Ticks 1 ∷ AnyMove.Ticks 1 ∷ AnyMove.Ticks 1
    ∷ next_letter ∷ next_letter ∷ next_letter ∷ next_letter ∷ next_letter ∷ next_letter ∷ next_letter
    ∷ next_letter ∷ next_letter ∷ next_letter ∷ next_letter ∷ next_letter ∷ next_letter ∷ next_letter ∷ next_letter ∷ next_letter ∷ [])

pub record NothingTicks : Type 0 where
  pub asked : ticked.asked ≡ 1
  pub entries : entries_of ticked ≡ 1
  pub delivered : nat_lt (3 * ticked.asked + 4 * (3 * entries_of ticked)) ticked.delivered ≡ true
