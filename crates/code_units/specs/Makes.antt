-- The makings of a process's objects.
use Rattle.std.specs.Prelude.{ℕ, List, Option, option_and_then}
use Rattle.type_rules.specs.declared.types.DataType.{DataType}
use Rattle.type_rules.specs.Types.{object_in, outside_of}
use Rattle.code_rules.specs.Instructions.{Instr}
use Rattle.code_rules.specs.Pieces.{Piece}
use Rattle.emitted_code.specs.Appends.{Appends}

-- the object type that a known type is
abbrev pub known_object : Option DataType → Option ℕ
known_object t = option_and_then (λ t. object_in (outside_of t)) t

-- the first part of a piece has been appended: whoever appends the others has appended it all
abbrev pub IsMade : Piece → Piece → List Instr → List Instr → Type 0
IsMade whole others old now = (new : List Instr) → Appends others now new → Appends whole old new
