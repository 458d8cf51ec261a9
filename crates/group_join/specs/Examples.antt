-- Join packets of one run and their bytes, as docs/FORMATS.md shows them: a process makes a cell, assigns 6 and writes it.
use Rattle.std.specs.Prelude.{ℕ, pos, refl, List, [], ◌∷◌}
use Rattle.orca_base.specs.declared.ids.ObjectId.{ObjectId}
use Rattle.value_core.specs.Datum as datum
use Rattle.value_core.specs.History.{Objects, output_kind, output_object}
use Rattle.value_core.specs.declared.action.Action.TheVariants as action
use Rattle.value_core.specs.declared.message.Message.{Message}
use Rattle.group_join.specs.declared.packet.JoinPacket.{JoinPacket}
use Rattle.group_join.specs.declared.packet.JoinPacket.TheVariants.{Seek, State, Next}

-- the follower applied 3 entries
abbrev pub seek : JoinPacket
seek = Seek 3

abbrev pub seek_bytes : List ℕ
seek_bytes = 1 ∷ 0 ∷ 0 ∷ 0 ∷ 0 ∷ 0 ∷ 0 ∷ 0 ∷ 3 ∷ []

-- the first entry makes the cell
abbrev pub cell : ObjectId
cell = record { process = 0; number = 1 }

abbrev pub makes_cell : Message
makes_cell = record {
  process = record { 0 = 0 };
  call = record { 0 = 0 };
  action = action.Make (record { 0 = 1 }) cell;
  performable = refl;
}

abbrev pub next : JoinPacket
next = Next 1 makes_cell

abbrev pub next_bytes : List ℕ
next_bytes =
    3 ∷ 0 ∷ 0 ∷ 0 ∷ 0 ∷ 0 ∷ 0 ∷ 0 ∷ 1
    ∷ 0 ∷ 0 ∷ 0 ∷ 0 ∷ 0 ∷ 0 ∷ 0 ∷ 0 ∷ 0 ∷ 0
    ∷ 1 ∷ 0 ∷ 1 ∷ 0 ∷ 0 ∷ 0 ∷ 0 ∷ 0 ∷ 1 ∷ []

-- and what all 3 entries leave
abbrev pub one_cell : Objects
one_cell =
    (output_object, record { kind = output_kind; state = datum.none })
    ∷ (cell, record { kind = record { 0 = 1 }; state = datum.more (datum.int (pos 6)) datum.none }) ∷ []

abbrev pub state : JoinPacket
state = State (record { applied = 3; processes = 1; objects = one_cell; queue = [] })

abbrev pub state_bytes : List ℕ
state_bytes =
    2 ∷ 0 ∷ 0 ∷ 0 ∷ 0 ∷ 0 ∷ 0 ∷ 0 ∷ 3 ∷ 0 ∷ 1
    ∷ 0 ∷ 0 ∷ 0 ∷ 2
    ∷ 0 ∷ 0 ∷ 0 ∷ 0 ∷ 0 ∷ 0 ∷ 0 ∷ 0 ∷ 0 ∷ 0 ∷ 0 ∷ 0
    ∷ 0 ∷ 0 ∷ 0 ∷ 0 ∷ 0 ∷ 1 ∷ 0 ∷ 1 ∷ 0 ∷ 0 ∷ 0 ∷ 1 ∷ 1 ∷ 0 ∷ 0 ∷ 0 ∷ 0 ∷ 0 ∷ 0 ∷ 0 ∷ 6
    ∷ 0 ∷ 0 ∷ 0 ∷ 0 ∷ []
