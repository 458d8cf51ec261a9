-- Command lines, and what each asks for, written out by hand (docs/FORMATS.md, The program).
use Rattle.std.specs.Prelude.{ℕ, true, false, List, [], ◌∷◌, ◌++◌, Option, Some, None, codes}
use Rattle.command_line.specs.Asked.{Asked}
use Rattle.command_line.specs.Asked as ask
use Rattle.command_line.specs.Rules.{word_of}
use Rattle.command_line.specs.declared.request.CommandName.{CommandName}

abbrev pub Words : Type 0
Words = List (List ℕ)

-- check a.orca
abbrev pub check_line : Words
check_line = codes "check" ∷ codes "a.orca" ∷ []

abbrev pub check_asked : Asked
check_asked = ask.check (codes "a.orca" ∷ [])

-- run --nodes 5 a.orca --history b.orca
abbrev pub run_line : Words
run_line = codes "run" ∷ codes "--nodes" ∷ codes "5" ∷ codes "a.orca" ∷ codes "--history" ∷ codes "b.orca" ∷ []

abbrev pub run_asked : Asked
run_asked = ask.run (record {
  group = record { nodes = 5; resilience = 0 };
  workers = 4;
  turns = 1000000;
  events = 1000000;
  history = true;
  explain = false;
}) None (codes "a.orca" ∷ codes "b.orca" ∷ [])

-- code a.orca
abbrev pub code_line : Words
code_line = codes "code" ∷ codes "a.orca" ∷ []

abbrev pub code_asked : Asked
code_asked = ask.code false (codes "a.orca" ∷ [])

-- code --source a.orca
abbrev pub noted_line : Words
noted_line = codes "code" ∷ codes "--source" ∷ codes "a.orca" ∷ []

abbrev pub noted_asked : Asked
noted_asked = ask.code true (codes "a.orca" ∷ [])

-- choice a.orca
abbrev pub choice_line : Words
choice_line = codes "choice" ∷ codes "a.orca" ∷ []

abbrev pub choice_asked : Asked
choice_asked = ask.choice 3 (codes "a.orca" ∷ [])

-- replay h.txt a.orca
abbrev pub replay_line : Words
replay_line = codes "replay" ∷ codes "h.txt" ∷ codes "a.orca" ∷ []

abbrev pub replay_asked : Asked
replay_asked = ask.replay (codes "h.txt") (codes "a.orca" ∷ [])

-- make --lose 20 42
abbrev pub make_line : Words
make_line = codes "make" ∷ codes "--lose" ∷ codes "20" ∷ codes "42" ∷ []

abbrev pub make_asked : Asked
make_asked = ask.make (record { group = record { nodes = 3; resilience = 0 }; workers = 4; lose = 20; source = false }) 42

-- join --at 8 --script s.txt a.orca
abbrev pub join_line : Words
join_line = codes "join" ∷ codes "--at" ∷ codes "8" ∷ codes "--script" ∷ codes "s.txt" ∷ codes "a.orca" ∷ []

abbrev pub join_asked : Asked
join_asked = ask.join (record { group = record { nodes = 3; resilience = 0 }; at = 8 }) (Some (codes "s.txt")) (codes "a.orca" ∷ [])

-- how a command's line begins in the help on all
abbrev pub help_line : CommandName → List ℕ
help_line name = 10 ∷ (codes "  " ++ (word_of name ++ codes " "))

-- how the usage line of a help begins
abbrev pub usage : Option CommandName → List ℕ
usage None = codes "usage: orca COMMAND"
usage (Some name) = codes "usage: orca " ++ word_of name
