-- What the words of single lines say, for worked examples.
use Rattle.std.specs.Prelude.{ℕ, false, List, Result}
use Rattle.net_rules.specs.declared.line.ScriptLine.{ScriptLine}
use Rattle.fault_scripts.specs.declared.error.ScriptError.{ScriptError}
use Rattle.fault_scripts.specs.Words.{words_of}
use Rattle.fault_scripts.specs.Reading.{said_at}

-- of this line, which is the first
abbrev pub says : List ℕ → Result ScriptLine ScriptError
says line = said_at false 1 (words_of line)
