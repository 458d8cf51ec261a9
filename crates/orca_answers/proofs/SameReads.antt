-- What was read since is one program's texts, and one script's, whether files are told or not.
use Rattle.std.proofs.Common.{◌≡◌, ℕ, List, [], ◌∷◌, ◌++◌, map, Option, Some, None, refl, sym, ap, ◌∙◌}
use Rattle.std.specs.Prelude.{Result, Ok}
use Rattle.net_rules.specs.declared.line.ScriptLine.{ScriptLine}
use Rattle.orca_io.specs.Files.{File}
use Rattle.orca_io.specs.Reading.{FileRead, had}
use Rattle.orca_io.specs.declared.shelf.ShelfFault.{ShelfFault}
use Rattle.command_files.specs.Sources.{Word}
use Rattle.orca_answers.specs.Scripts.{IsScriptOf, script_read}
use Rattle.orca_answers.proofs.FilesOnce.{heads, some_apart, tails}
use Rattle.orca_answers.proofs.ScriptsOnce.{lines_once}

abbrev names_of : List File → List Word
names_of files = map (λ (s : File). s.0) files

abbrev taken : List ℕ → Result (List ℕ) ShelfFault
taken bytes = Ok bytes

taken_once : (x y : List ℕ) → taken x ≡ taken y → x ≡ y
taken_once x y e = cc

-- a file that was read has one text
same_bytes : (s t : File) → had s ≡ had t → s.1 ≡ t.1
same_bytes s t e = taken_once s.1 t.1 (ap (λ (r : FileRead). r.1) e)

-- files of the same names, and what was read behind them
pub read_same : (one two : List File) (first more : List FileRead) → names_of one ≡ names_of two → map had one ++ first ≡ map had two ++ more → (one ≡ two) × (first ≡ more)
read_same [] [] first more e same = (refl, same)
read_same [] (t ∷ two) first more e same = absurd cc
read_same (s ∷ one) [] first more e same = absurd cc
read_same (s ∷ one) (t ∷ two) first more e same =
    let name = heads s.0 t.0 (names_of one) (names_of two) e in
    let text = same_bytes s t (heads (had s) (had t) (map had one ++ first) (map had two ++ more) same) in
    let rest = read_same one two first more (tails s.0 t.0 (names_of one) (names_of two) e) (tails (had s) (had t) (map had one ++ first) (map had two ++ more) same) in
    let files = rest.0 in
    ((λ i. (name i, text i) ∷ files i), rest.1)

-- one script
pub same_lines : (told other : Option (List File)) (script wanted : Option Word) (lines more : List ScriptLine) (h : IsScriptOf told script lines) (k : IsScriptOf other wanted more) → script ≡ wanted
    → script_read told script lines h ≡ script_read other wanted more k → lines ≡ more
same_lines told other None None lines more h k e same = h ∙ sym k
same_lines told other None (Some wanted) lines more h k e same = absurd (some_apart wanted (sym e))
same_lines told other (Some script) None lines more h k e same = absurd (some_apart script e)
same_lines told other (Some script) (Some wanted) lines more h k e same =
    lines_once h.0 k.0 lines more (same_bytes (script, h.0) (wanted, k.0) (heads (had (script, h.0)) (had (wanted, k.0)) [] [] same)) h.2 k.2
