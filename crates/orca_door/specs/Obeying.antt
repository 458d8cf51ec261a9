-- That wires answer by their scripts.
use Rattle.std.specs.Prelude.{◌≡◌, List, [], ◌∷◌, reverse}
use Rattle.net_rules.specs.Answered.{AnsweredBehind}
use Rattle.wires.specs.Wired.{Wired, by_script}

-- since its script was loaded, each answer of the wire is what that says
abbrev pub Obeys : Wired → Type 0
Obeys wire = AnsweredBehind wire.loaded (by_script wire.script) (reverse wire.told)

-- these are two wires that do so
pub record AreTwo (wires : List Wired) : Type 0 where
  pub one : Wired
  pub two : Wired
  pub are : wires ≡ one ∷ two ∷ []
  pub first : Obeys one
  pub second : Obeys two
