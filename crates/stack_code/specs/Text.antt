-- The listing of code (docs/LANGUAGE.md, The listing): one line an instruction, with its number, its mnemonic and its operands. The bodies
-- come one after the other, and one numbering goes over all of them, from 0. In front of a line notes may stand.
use Rattle.std.specs.Prelude.{ℕ, suc, ◌+◌, length, slice_get, List, [], ◌∷◌, ◌++◌, codes, true, false, Option, Some, None}
use Rattle.std.specs.List.{flat_map}
use Rattle.std.specs.Fmt.{decimal, signed_decimal}
use Rattle.orca_tree.specs.declared.tree.Operator.{Operator}
use Rattle.orca_tree.specs.declared.tree.Operator.TheVariants as op
use Rattle.value_core.specs.Datum.{Datum}
use Rattle.value_core.specs.Datum as datum
use Rattle.value_paths.specs.declared.step.Step.{Step as ValueStep}
use Rattle.value_paths.specs.declared.step.Step.TheVariants as step
use Rattle.code_rules.specs.Instructions as rules
use Rattle.code_rules.specs.Instructions.{Instr, Mark, Prefix, Shape}
use Rattle.code_rules.specs.Machine.{Body, OperationCode, TypeCode, Code, count_of}

-- an operand, behind a space
abbrev pub number : ℕ → List ℕ
number n = 32 ∷ decimal n

-- a step of a path: a field's number, `[]` by an index, and `@` by the name of a node
abbrev pub step_text : ValueStep → List ℕ
step_text (step.Field place) = number place
step_text (step.Index low index) = codes " []"
step_text (step.Node name) = codes " @"

abbrev pub mark_text : Mark → List ℕ
mark_text (rules.Fixed s) = step_text s
mark_text (rules.ByIndex low) = codes " []"
mark_text rules.ByName = codes " @"

abbrev pub path_text : List Mark → List ℕ
path_text ms = flat_map mark_text ms

-- a target: its slot, and the path there
abbrev pub target_text : ℕ → List Mark → List ℕ
target_text slot ms = number slot ++ path_text ms

-- what an argument passes: a value, or a target that is lent
abbrev pub shape_text : Shape → List ℕ
shape_text rules.Gives = codes " in"
shape_text (rules.Lends slot ms) = codes " out" ++ target_text slot ms

abbrev pub shapes_text : List Shape → List ℕ
shapes_text ss = flat_map shape_text ss

-- a constant: only those of one word are written out
abbrev pub constant_text : Datum → List ℕ
constant_text (datum.int z) = codes "int " ++ signed_decimal z
constant_text (datum.truth true) = codes "truth true"
constant_text (datum.truth false) = codes "truth false"
constant_text (datum.char c) = codes "char " ++ decimal c
constant_text (datum.enumerated n) = codes "enum " ++ decimal n
constant_text _ = codes "value"

abbrev pub operator_text : Operator → List ℕ
operator_text op.Or = codes "or"
operator_text op.And = codes "and"
operator_text op.Equal = codes "eq"
operator_text op.Different = codes "ne"
operator_text op.Less = codes "lt"
operator_text op.AtMost = codes "le"
operator_text op.Greater = codes "gt"
operator_text op.AtLeast = codes "ge"
operator_text op.In = codes "member"
operator_text op.Join = codes "concat"
operator_text op.Add = codes "add"
operator_text op.Subtract = codes "sub"
operator_text op.Multiply = codes "mul"
operator_text op.Divide = codes "div"
operator_text op.Remainder = codes "rem"

abbrev pub prefix_text : Prefix → List ℕ
prefix_text rules.Not = codes "not"
prefix_text rules.Neg = codes "neg"
prefix_text rules.Size = codes "size"
prefix_text rules.Ord = codes "ord"

-- an instruction of a body that begins at a number of the listing, where so many strings stand in front of it
abbrev pub instr_text : ℕ → ℕ → Instr → List ℕ
instr_text first texts (rules.Push x) = constant_text x
instr_text first texts (rules.Text text) = codes "text" ++ number texts
instr_text first texts (rules.Part x ms) = codes "part " ++ (constant_text x ++ path_text ms)
instr_text first texts (rules.Get slot ms) = codes "get" ++ target_text slot ms
instr_text first texts (rules.Put slot ms) = codes "put" ++ target_text slot ms
instr_text first texts (rules.Insert slot ms) = codes "insert" ++ target_text slot ms
instr_text first texts (rules.Delete slot ms) = codes "delete" ++ target_text slot ms
instr_text first texts (rules.Least slot ms) = codes "least" ++ target_text slot ms
instr_text first texts (rules.Before p) = prefix_text p
instr_text first texts (rules.Apply operator) = operator_text operator
instr_text first texts (rules.And to) = codes "and" ++ number (first + to)
instr_text first texts (rules.Or to) = codes "or" ++ number (first + to)
instr_text first texts rules.Pop = codes "pop"
instr_text first texts rules.Turn = codes "turn"
instr_text first texts rules.Missing = codes "missing"
instr_text first texts rules.End = codes "end"
instr_text first texts (rules.Jump to) = codes "jump" ++ number (first + to)
instr_text first texts (rules.Unless to) = codes "unless" ++ number (first + to)
instr_text first texts (rules.Count slot to) = codes "count" ++ (number slot ++ number (first + to))
instr_text first texts (rules.Upto slot to) = codes "upto" ++ (number slot ++ number (first + to))
instr_text first texts rules.Return = codes "return"
instr_text first texts rules.Result = codes "result"
instr_text first texts (rules.Make kind object slot) = codes "make" ++ (number kind.0 ++ number slot)
instr_text first texts (rules.Invoke kind op slot n) = codes "invoke" ++ (number kind.0 ++ (number op.0 ++ number slot))
instr_text first texts (rules.Line names) = codes "line" ++ number (count_of names)
instr_text first texts (rules.Fork text n) = codes "fork" ++ number text.0
instr_text first texts (rules.ForkOn text n) = codes "forkon" ++ number text.0
instr_text first texts (rules.Call i shapes) = codes "call" ++ (number i ++ shapes_text shapes)
instr_text first texts (rules.AddNode fresh shapes) = codes "addnode" ++ shapes_text shapes
instr_text first texts (rules.DeleteNode shapes) = codes "deletenode" ++ shapes_text shapes
instr_text first texts (rules.Guard to) = codes "guard" ++ number (first + to)
instr_text first texts rules.Blocked = codes "blocked"

-- how many strings stand in front of the next instruction
abbrev pub texts_behind : Instr → ℕ → ℕ
texts_behind (rules.Text text) texts = suc texts
texts_behind _ texts = texts

-- and behind these
abbrev pub texts_in : ℕ → List Instr → ℕ
texts_in texts [] = texts
texts_in texts (i ∷ is) = texts_in (texts_behind i texts) is

-- a line: of the n-th instruction of its body
abbrev pub line_text : ℕ → ℕ → ℕ → Instr → List ℕ
line_text first n texts i = decimal (first + n) ++ 32 ∷ (instr_text first texts i ++ 10 ∷ [])

-- a note: a line of its own
abbrev pub note_text : List ℕ → List ℕ
note_text note = codes "; " ++ (note ++ 10 ∷ [])

abbrev pub notes_in : Option (List (List ℕ)) → List ℕ
notes_in None = []
notes_in (Some notes) = flat_map note_text notes

-- with the notes of its number in front
abbrev pub noted_line : List (List (List ℕ)) → ℕ → ℕ → ℕ → Instr → List ℕ
noted_line notes first n texts i = notes_in (slice_get notes (first + n)) ++ line_text first n texts i

-- the lines of a body from its n-th instruction on
abbrev pub lines_from : List (List (List ℕ)) → ℕ → ℕ → ℕ → List Instr → List ℕ
lines_from notes first n texts [] = []
lines_from notes first n texts (i ∷ is) = noted_line notes first n texts i ++ lines_from notes first (suc n) (texts_behind i texts) is

-- bodies one behind the other, from a number on
abbrev pub bodies_text : List (List (List ℕ)) → ℕ → ℕ → List (List Instr) → List ℕ
bodies_text notes first texts [] = []
bodies_text notes first texts (is ∷ bodies) =
    lines_from notes first 0 texts is ++ bodies_text notes (first + length is) (texts_in texts is) bodies

-- the bodies in their order: of functions, of processes, and of object types, each its making and its operations
abbrev pub body_bodies : Body → List (List Instr)
body_bodies body = body.code ∷ []

abbrev pub function_bodies : Option Body → List (List Instr)
function_bodies None = []
function_bodies (Some body) = body_bodies body

abbrev pub operation_bodies : OperationCode → List (List Instr)
operation_bodies o = body_bodies o.body

abbrev pub object_bodies : TypeCode → List (List Instr)
object_bodies t = body_bodies t.making ++ flat_map operation_bodies t.operations

abbrev pub type_bodies : Option TypeCode → List (List Instr)
type_bodies None = []
type_bodies (Some t) = object_bodies t

abbrev pub bodies_of : Code → List (List Instr)
bodies_of code = flat_map function_bodies code.functions ++ (flat_map body_bodies code.texts ++ flat_map type_bodies code.types)

abbrev pub code_text : Code → List ℕ
code_text code = bodies_text [] 0 0 (bodies_of code)

-- with notes for each line's number
abbrev pub noted_text : List (List (List ℕ)) → Code → List ℕ
noted_text notes code = bodies_text notes 0 0 (bodies_of code)
