-- The program that `make` makes of a number (docs/FORMATS.md, The generated program): so many workers, each of which adds so many
-- numbers to a total that all share, and then puts its own number into a pool, from which the main process takes one for each worker.
use Rattle.std.specs.Prelude.{ℕ, ◌+◌, ◌%◌, List, [], ◌∷◌, ◌++◌, codes}
use Rattle.std.specs.Fmt.{decimal}
use Rattle.std.specs.List.{flat_map}
use Rattle.orca_io.specs.Files.{File}

-- how many workers there are, and how many rounds each goes
abbrev pub workers_of : ℕ → ℕ
workers_of number = 3 + number % 5

abbrev pub rounds_of : ℕ → ℕ
rounds_of number = 100 + number % 100

-- ---- its lines, without their line feeds

abbrev pub total_lines : List (List ℕ)
total_lines =
    codes "object specification Total;"
    ∷ codes "  operation Add(v: integer);"
    ∷ codes "  operation Value(): integer;"
    ∷ codes "end;"
    ∷ codes "object implementation Total;"
    ∷ codes "  x: integer;"
    ∷ codes "  operation Add(v: integer); begin x := x + v; end;"
    ∷ codes "  operation Value(): integer; begin return x; end;"
    ∷ codes "end;" ∷ []

abbrev pub pool_lines : List (List ℕ)
pool_lines =
    codes "object specification Pool;"
    ∷ codes "  operation Put(v: integer);"
    ∷ codes "  operation Take(): integer;"
    ∷ codes "end;"
    ∷ codes "object implementation Pool;"
    ∷ codes "  items: bag of integer;"
    ∷ codes "  operation Put(v: integer); begin insert(v, items); end;"
    ∷ codes "  operation Take(): integer;"
    ∷ codes "  begin guard size(items) > 0 do return from(items); od; end;"
    ∷ codes "end;" ∷ []

abbrev pub worker_lines : ℕ → List (List ℕ)
worker_lines rounds =
    codes "process Worker(t: shared Total; p: shared Pool; j: integer);"
    ∷ codes "  s: integer;"
    ∷ codes "begin"
    ∷ (codes "  for i in 1.." ++ (decimal rounds ++ codes " do t$Add(j * i); s := t$Value(); od;"))
    ∷ codes "  p$Put(j);"
    ∷ codes "end;" ∷ []

abbrev pub main_lines : ℕ → List (List ℕ)
main_lines workers =
    codes "process OrcaMain();"
    ∷ codes "  T: Total; P: Pool; s: integer;"
    ∷ codes "begin"
    ∷ (codes "  for j in 1.." ++ (decimal workers ++ codes " do fork Worker(T, P, j) on j; od;"))
    ∷ (codes "  for j in 1.." ++ (decimal workers ++ codes " do s := P$Take(); od;"))
    ∷ codes "  WriteLine(T$Value());"
    ∷ codes "end;" ∷ []

abbrev pub program_lines : ℕ → List (List ℕ)
program_lines number = total_lines ++ (pool_lines ++ (worker_lines (rounds_of number) ++ main_lines (workers_of number)))

-- ---- its text

-- a line with its line feed, and lines one after the other
abbrev pub ended : List ℕ → List ℕ
ended line = line ++ 10 ∷ []

abbrev pub text_of : List (List ℕ) → List ℕ
text_of lines = flat_map ended lines

unfoldable pub program_text : ℕ → List ℕ
program_text number = text_of (program_lines number)

-- the file as which the front end reads it
abbrev pub program_file : ℕ → File
program_file number = (codes "make", program_text number)
