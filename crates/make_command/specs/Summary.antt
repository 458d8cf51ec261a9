-- The line that `make` prints of its run (docs/FORMATS.md, The generated program).
use Rattle.std.specs.Prelude.{ℕ, ◌-◌, List, [], ◌∷◌, ◌++◌, length, take, codes}
use Rattle.std.specs.Fmt.{decimal}
use Rattle.value_core.specs.declared.action.Line.{Line}
use Rattle.value_core.specs.Datum.{Data}
use Rattle.value_core.specs.History.{output_of, string_first}
use Rattle.world_rules.specs.declared.standing.Standing.{Standing}
use Rattle.world_rules.specs.declared.standing.Standing.TheVariants.{Limit, OutOfTurns, OutOfEvents, NoGroup, Faulted, Blocked, Finished, Going}

-- what a call of `WriteLine` writes: the string that is its argument, and a line feed
abbrev pub line_with : Data → List ℕ
line_with args = string_first args ++ 10 ∷ []

-- what a history writes, without the line feed at its end
abbrev pub output_line : List Line → List ℕ
output_line book = take (length (output_of book) - 1) (output_of book)

-- the number of the program, how many processes there were, how many entries the longest log has, and how many lines the history has
abbrev pub counts_text : ℕ → ℕ → ℕ → ℕ → List ℕ
counts_text number processes entries lines =
    codes "make " ++ decimal number ++ (codes ": processes " ++ decimal processes ++ (codes ", entries " ++ decimal entries
    ++ (codes ", lines " ++ decimal lines ++ codes ", output ")))

-- of the program of a number: these counts, and what the history writes
abbrev pub summary_line : ℕ → ℕ → ℕ → List Line → List ℕ
summary_line number processes entries book = counts_text number processes entries (length book) ++ output_line book ++ 10 ∷ []

-- by how the run stands: the summary where it has finished, and else the line of its ending
abbrev pub made_line : Standing → List ℕ → List ℕ → List ℕ
made_line Finished summary ending = summary
made_line (Limit what number) summary ending = ending
made_line OutOfTurns summary ending = ending
made_line OutOfEvents summary ending = ending
made_line NoGroup summary ending = ending
made_line Faulted summary ending = ending
made_line Blocked summary ending = ending
made_line Going summary ending = ending
