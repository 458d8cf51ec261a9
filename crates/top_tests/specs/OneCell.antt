-- The history of examples/one.orca, with a third line that may be another.
use Rattle.std.specs.Prelude.{ℕ, List, [], ◌∷◌, codes}
use Rattle.value_core.specs.declared.action.Action.TheVariants as action
use Rattle.value_core.specs.declared.action.Line.{Line}
use Rattle.value_core.specs.declared.action.Reply.TheVariants as reply
use Rattle.meaning_rules.specs.Runs.{calls_first, first_object, gave, integers, kind, line_of, writes_line}

-- the four lines, where the third has this call number, guard and value
abbrev pub book_of : ℕ → ℕ → ℕ → List Line
book_of call guard value =
    line_of 0 0 (action.Make kind first_object) 0 reply.Done
    ∷ line_of 0 1 (calls_first 1 (integers (6 ∷ []))) 0 reply.Done
    ∷ line_of 0 call (calls_first 0 []) guard (gave value)
    ∷ line_of 0 3 (writes_line (codes "6")) 0 reply.Done ∷ []

-- as they run
abbrev pub book : List Line
book = book_of 2 0 6
