-- A run: what its members go by, and what its wires had told when it began.
use Rattle.std.specs.Prelude.{List}
use Rattle.net_rules.specs.declared.asked.Asked.{Asked}
use Rattle.net_rules.specs.declared.line.ScriptLine.{ScriptLine}
use Rattle.world_rules.specs.Frame.{Frame}

-- what its program means and its settings; and for each wire what it was asked before, with the answers, and its script
pub record Run : Type 0 where
  pub frame : Frame
  pub told : List (List Asked)
  pub scripts : List (List ScriptLine)
