-- Where files are told and no read failed, the script that a file has, or why it has none, is one.
use Rattle.std.proofs.Common.{◌≡◌, ℕ, List, Option, Some, None, refl, sym, ap, ◌∙◌, subst}
use Rattle.std.specs.Prelude.{Result, Ok, Err}
use Rattle.fault_scripts.proofs.ScriptLaws.{again, refused_again}
use Rattle.fault_scripts.specs.Reading.{script_at}
use Rattle.fault_scripts.specs.Says.{IsScript}
use Rattle.fault_scripts.specs.Script.{IsRefusal}
use Rattle.fault_scripts.specs.declared.error.ScriptError.{ScriptError}
use Rattle.net_rules.specs.declared.line.ScriptLine.{ScriptLine}
use Rattle.orca_base.specs.declared.limits.TheConstants.{SCRIPT_BYTES}
use Rattle.orca_io.specs.Files.{File}
use Rattle.orca_io.specs.declared.shelf.ShelfFault.{ShelfFault}
use Rattle.orca_io.specs.declared.shelf.ShelfFault.TheVariants as causes
use Rattle.orca_io.specs.Reading.{FileRead}
use Rattle.command_files.specs.Lines.{absent_line}
use Rattle.command_files.specs.Loaded.{IsAbsent, IsThere, IsTooLong}
use Rattle.command_files.specs.Sources.{IsRead, Word}
use Rattle.command_files.specs.Stopped.{Never}
use Rattle.orca_answers.specs.Scripts.{IsScriptFault, IsScriptOf, script_fault_line, script_status}
use Rattle.orca_answers.specs.declared.script.ScriptFault.{ScriptFault}
use Rattle.orca_answers.specs.declared.script.ScriptFault.TheVariants as scripts
use Rattle.orca_answers.proofs.FilesOnce.{SameEnd, absent_apart, absent_none, long_none, read_apart, same_text}

-- ---- one text

abbrev Answer : Type 0
Answer = Result (List ScriptLine) ScriptError

abbrev says : List ScriptLine → Answer
says lines = Ok lines

abbrev wrong : ScriptError → Answer
wrong error = Err error

ok_same : (x y : List ScriptLine) → says x ≡ says y → x ≡ y
ok_same x y e = cc

err_same : (x y : ScriptError) → wrong x ≡ wrong y → x ≡ y
err_same x y e = cc

ok_err : (x : List ScriptLine) (y : ScriptError) → says x ≡ wrong y → ⊥
ok_err x y e = absurd cc

pub lines_once : (text other : List ℕ) (x y : List ScriptLine) → text ≡ other → IsScript text x → IsScript other y → x ≡ y
lines_once text other x y same is was = ok_same x y (sym (again text x is) ∙ ap script_at same ∙ again other y was)

error_once : (text other : List ℕ) (x y : ScriptError) → text ≡ other → IsRefusal text x → IsRefusal other y → x ≡ y
error_once text other x y same is was = err_same x y (sym (refused_again text x is) ∙ ap script_at same ∙ refused_again other y was)

script_apart : (text other : List ℕ) (x : List ScriptLine) (y : ScriptError) → text ≡ other → IsScript text x → IsRefusal other y → ⊥
script_apart text other x y same is was = ok_err x y (sym (again text x is) ∙ ap script_at same ∙ refused_again other y was)

-- ---- the file

-- why there is no script, whatever was read for it
abbrev pub Unscripted : Option (List File) → (ShelfFault → Word → Type 0) → Word → ScriptFault → Type 0
Unscripted told stopped script (scripts.Absent file) = (file.now ≡ script) × IsAbsent told script × stopped causes.Absent script
Unscripted told stopped script (scripts.TooLong file) = (file.now ≡ script) × IsTooLong told SCRIPT_BYTES script × stopped causes.TooLong script
Unscripted told stopped script (scripts.Failed file) = (file.now ≡ script) × IsThere told script × stopped causes.Failed script
Unscripted told stopped script (scripts.Bad error) = (text : List ℕ) × IsRead told SCRIPT_BYTES (script, text) × IsRefusal text error

pub unscripted_of : (told : Option (List File)) (earlier later : List FileRead) (stopped : ShelfFault → Word → Type 0) (script : Word) (f : ScriptFault) → IsScriptFault told earlier later stopped script f → Unscripted told stopped script f
unscripted_of told earlier later stopped script (scripts.Absent file) h = h
unscripted_of told earlier later stopped script (scripts.TooLong file) h = h
unscripted_of told earlier later stopped script (scripts.Failed file) h = h
unscripted_of told earlier later stopped script (scripts.Bad error) h = (h.0, h.1, h.3)

abbrev file_with : Word → List ℕ → File
file_with script text = (script, text)

same_script : (shelf : List File) (script : Word) (text other : List ℕ) → IsRead (Some shelf) SCRIPT_BYTES (file_with script text) → IsRead (Some shelf) SCRIPT_BYTES (file_with script other) → text ≡ other
same_script shelf script text other read was = same_text shelf SCRIPT_BYTES (file_with script text) (file_with script other) refl read was

script_read : (shelf : List File) (script : Word) (text : List ℕ) (f : ScriptFault) → IsRead (Some shelf) SCRIPT_BYTES (file_with script text) → Unscripted (Some shelf) Never script f → (error : ScriptError) × (f ≡ scripts.Bad error) × IsRefusal text error
script_read shelf script text (scripts.Absent file) read h =
    absurd (read_apart shelf SCRIPT_BYTES (file_with script text) script refl read (absent_none shelf SCRIPT_BYTES script h.1))
script_read shelf script text (scripts.TooLong file) read h =
    absurd (read_apart shelf SCRIPT_BYTES (file_with script text) script refl read (long_none shelf SCRIPT_BYTES script h.1.0 h.1.1 h.1.2))
script_read shelf script text (scripts.Failed file) read h = absurd h.2
script_read shelf script text (scripts.Bad error) read h =
    (error, refl, subst (λ (t : List ℕ). IsRefusal t error) (same_script shelf script h.0 text h.1 read) h.2)

-- of a file that has a wrong line it is the one
bad_once : (shelf : List File) (script : Word) (error : ScriptError) (g : ScriptFault) → Unscripted (Some shelf) Never script (scripts.Bad error) → Unscripted (Some shelf) Never script g → g ≡ scripts.Bad error
bad_once shelf script error g h k =
    let other = script_read shelf script h.0 g h.1 k in
    let same = error_once h.0 h.0 other.0 error refl other.2 h.2 in
    other.1 ∙ ap (λ (e : ScriptError). scripts.Bad e) same

-- there is one reason for which there is no script
pub script_once : (shelf : List File) (script : Word) (f g : ScriptFault) → Unscripted (Some shelf) Never script f → Unscripted (Some shelf) Never script g → SameEnd (script_status f) (script_fault_line f) (script_status g) (script_fault_line g)
script_once shelf script (scripts.Failed file) g h k = absurd h.2
script_once shelf script (scripts.Absent file) (scripts.Failed other) h k = absurd k.2
script_once shelf script (scripts.TooLong file) (scripts.Failed other) h k = absurd k.2
script_once shelf script (scripts.Bad error) g h k =
    let same = bad_once shelf script error g h k in
    (ap script_status (sym same), ap script_fault_line (sym same))
script_once shelf script (scripts.Absent file) (scripts.Bad other) h k =
    let same = bad_once shelf script other (scripts.Absent file) k h in
    (ap script_status same, ap script_fault_line same)
script_once shelf script (scripts.TooLong file) (scripts.Bad other) h k =
    let same = bad_once shelf script other (scripts.TooLong file) k h in
    (ap script_status same, ap script_fault_line same)
script_once shelf script (scripts.Absent file) (scripts.Absent other) h k = (refl, ap absent_line (h.0 ∙ sym k.0))
script_once shelf script (scripts.Absent file) (scripts.TooLong other) h k = absurd (absent_apart shelf script script k.1.0 refl h.1 k.1.1)
script_once shelf script (scripts.TooLong file) (scripts.Absent other) h k = absurd (absent_apart shelf script script h.1.0 refl k.1 h.1.1)
script_once shelf script (scripts.TooLong file) (scripts.TooLong other) h k = (refl, refl)

-- or there is a script
pub script_had : (shelf : List File) (script : Word) (f : ScriptFault) (lines : List ScriptLine) → Unscripted (Some shelf) Never script f → IsScriptOf (Some shelf) (Some script) lines → ⊥
script_had shelf script f lines h has =
    let bad = script_read shelf script has.0 f has.1 h in
    script_apart has.0 has.0 lines bad.0 refl has.2 bad.2

-- which is one
pub script_of_once : (shelf : List File) (script : Option Word) (lines more : List ScriptLine) → IsScriptOf (Some shelf) script lines → IsScriptOf (Some shelf) script more → lines ≡ more
script_of_once shelf None lines more h k = h ∙ sym k
script_of_once shelf (Some script) lines more h k = lines_once h.0 k.0 lines more (same_script shelf script h.0 k.0 h.1 k.1) h.2 k.2

-- where no read failed
pub script_quiet : (told : Option (List File)) (earlier later : List FileRead) (stopped : ShelfFault → Word → Type 0) (never : (file : Word) → stopped causes.Failed file → ⊥) (script : Word) (f : ScriptFault) → IsScriptFault told earlier later stopped script f → IsScriptFault told earlier later Never script f
script_quiet told earlier later stopped never script (scripts.Absent file) h = (h.0, h.1, tt)
script_quiet told earlier later stopped never script (scripts.TooLong file) h = (h.0, h.1, tt)
script_quiet told earlier later stopped never script (scripts.Failed file) h = absurd (never script h.2)
script_quiet told earlier later stopped never script (scripts.Bad error) h = h
