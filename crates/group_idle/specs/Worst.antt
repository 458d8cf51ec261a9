-- The longest idle stretch of three members.
use Rattle.std.specs.Prelude.{◌≡◌, ℕ, List}
use Rattle.group_rules.specs.Messages.{Group}
use Rattle.group_idle.specs.Idle.{Begins, Idle, ticks_in}
use Rattle.group_idle.specs.Net.{Move, Net}

-- there is a stretch of so many ticks
pub record Attains {M : Type 0} (g : Group M) (ticks : ℕ) : Type 0 where
  pub net : Net M
  pub begins : Begins g net
  pub list : List (Move M)
  pub idle : Idle g net list
  pub has : ticks_in list ≡ ticks

-- three members, of which one may be lost; each message is a process's only one
abbrev pub three : Group ℕ
three = record { nodes = 3; resilience = 1; process = λ x. x; call = λ x. 1; bytes = λ x. 8 }
