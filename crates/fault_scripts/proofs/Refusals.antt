-- A refusal that is passed on.
use Rattle.std.proofs.Common.{◌≡◌, ℕ, List, Vec, Global}
use Rattle.std.specs.Prelude.{Err}
use Rattle.orca_base.specs.Refusal.{IfBecause, MatchRefusal}
use Rattle.orca_base.specs.declared.refusal.Refusal.{Refusal}
use Rattle.orca_base.specs.declared.refusal.Refusal.TheVariants.{Because, NoMemory}
use Rattle.net_rules.specs.declared.line.ScriptLine.{ScriptLine}
use Rattle.fault_scripts.specs.declared.error.ScriptError.{ScriptError}
use Rattle.fault_scripts.specs.Says.{IsScript}
use Rattle.fault_scripts.specs.Reading.{Answers, script_at}
use Rattle.fault_scripts.specs.Script.{IsRefusal}
use Rattle.fault_scripts.proofs.ScriptLaws.{none, refused, first}

abbrev pub items_of : Vec ScriptLine Global → List ScriptLine
items_of v = v.items

pub passed_only : (P : List ScriptLine → Type 0) (e : Refusal ScriptError) (text : List ℕ) (said : List ScriptLine) →
    Answers items_of (Err e) (script_at text) → IsScript text said → MatchRefusal {T = List ScriptLine} (Err e) P (λ _. ⊥)
passed_only P (Because e) text said is says = none text e said is says
passed_only P NoMemory text said is says = tt

pub passed_none : (e : Refusal ScriptError) (text : List ℕ) →
    Answers items_of (Err e) (script_at text) → IfBecause {T = List ScriptLine} (Err e) (λ _. (said : List ScriptLine) → IsScript text said → ⊥)
passed_none (Because e) text is = λ said says. none text e said is says
passed_none NoMemory text is = tt

pub passed_refused : (e : Refusal ScriptError) (text : List ℕ) →
    Answers items_of (Err e) (script_at text) → IfBecause {T = List ScriptLine} (Err e) (IsRefusal text)
passed_refused (Because e) text is = refused text e is
passed_refused NoMemory text is = tt

pub passed_first : (e : Refusal ScriptError) (text : List ℕ) →
    Answers items_of (Err e) (script_at text) → IfBecause {T = List ScriptLine} (Err e) (λ error. (other : ScriptError) → IsRefusal text other → other ≡ error)
passed_first (Because e) text is = λ other r. first text e other is r
passed_first NoMemory text is = tt
