-- The lines that the program says where it runs nothing (docs/FORMATS.md, The program).
use Rattle.std.specs.Prelude.{ℕ, List, [], ◌∷◌, ◌++◌, codes}
use Rattle.std.specs.Fmt.{decimal}
use Rattle.fault_scripts.specs.declared.error.ScriptError.{ScriptError}
use Rattle.fault_scripts.specs.declared.error.ScriptError.TheVariants.{BadNumber, UnknownWord}

abbrev pub usage_line : List ℕ
usage_line =
    codes "usage: orca check FILE... | run [OPTIONS] FILE... | code FILE... | choice [--nodes N] FILE... | replay HISTORY FILE... | make [OPTIONS] NUMBER" ++ 10 ∷ []

-- the program in the files is accepted
abbrev pub ok_line : List ℕ
ok_line = codes "ok" ++ 10 ∷ []

-- ---- where a script is none

abbrev pub script_said : ℕ → List ℕ → List ℕ
script_said line said = codes "orca: script line " ++ decimal line ++ (codes ": " ++ said ++ 10 ∷ [])

abbrev pub script_line : ScriptError → List ℕ
script_line (UnknownWord line) = script_said line (codes "unknown word")
script_line (BadNumber line) = script_said line (codes "bad number")
