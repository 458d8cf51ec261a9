-- The first line for which a text is no script.
use Rattle.std.specs.Prelude.{◌≡◌, ℕ, ◌+◌, List, ◌∷◌, take, drop, Err}
use Rattle.std.specs.List.{list_any}
use Rattle.net_rules.specs.declared.line.ScriptLine.{ScriptLine}
use Rattle.fault_scripts.specs.declared.error.ScriptError.{ScriptError}
use Rattle.fault_scripts.specs.Words.{lines_of}
use Rattle.fault_scripts.specs.Says.{AreSaid, is_seed}
use Rattle.fault_scripts.specs.Reading.{line_at}

-- the lines in front of it say something, and it is wrong behind these: it isn't UTF-8, or its first wrong word from the left is
pub record IsRefusal (text : List ℕ) (error : ScriptError) : Type 0 where
  pub before : ℕ
  pub said : List ScriptLine
  pub fine : AreSaid (take before (lines_of text)) said
  pub line : List ℕ
  pub behind : List (List ℕ)
  pub there : drop before (lines_of text) ≡ line ∷ behind
  pub wrong : line_at (list_any is_seed said) (before + 1) line ≡ Err error
