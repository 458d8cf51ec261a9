-- What wires tell before a run with a follower, and behind it.
use Rattle.std.specs.Prelude.{◌≡◌, ℕ, List, length, map}
use Rattle.net_rules.specs.declared.asked.Asked.{Asked}
use Rattle.net_rules.specs.declared.line.ScriptLine.{ScriptLine}
use Rattle.wires.specs.Wired.{Rule, with_script}

-- one wire: what it was asked, with the answers; its script, and how it answers by one; and how much it was asked before that was loaded
pub record OneWire : Type 0 where
  pub told : List Asked
  pub rule : Rule
  pub loaded : ℕ

abbrev pub wire_of : {W : Type 0} → (W → List Asked) → (W → Rule) → (W → ℕ) → W → OneWire
wire_of told rule loaded wire = record { told = told wire; rule = rule wire; loaded = loaded wire }

-- it was loaded with these lines before it was asked anything more, and answers by scripts as before
pub record WasLoaded (lines : List ScriptLine) (old new : OneWire) : Type 0 where
  pub rule : new.rule ≡ with_script lines old.rule
  pub since : new.loaded ≡ length old.told

-- several, in order; and so it is of each
pub record Wires : Type 0 where
  pub told : List (List Asked)
  pub rules : List Rule
  pub loaded : List ℕ

abbrev pub wires_of : {W : Type 0} → (W → List Asked) → (W → Rule) → (W → ℕ) → List W → Wires
wires_of told rule loaded wires = record { told = map told wires; rules = map rule wires; loaded = map loaded wires }

pub record AreLoaded (lines : List ScriptLine) (old new : Wires) : Type 0 where
  pub rules : new.rules ≡ map (with_script lines) old.rules
  pub since : new.loaded ≡ map (λ (told : List Asked). length told) old.told
