-- What a program means to those who run it: no text, code, copy or packet appears here or in History.antt.
use Rattle.std.specs.Prelude.{ℕ, List}
use Rattle.orca_base.specs.declared.ids.KindNo.{KindNo}
use Rattle.orca_base.specs.declared.ids.OpNo.{OpNo}
use Rattle.orca_base.specs.declared.ids.TextNo.{TextNo}
use Rattle.orca_base.specs.declared.ids.ProcessNo.{ProcessNo}
use Rattle.value_core.specs.Datum.{Data}
use Rattle.value_core.specs.declared.action.Class.{Class}
use Rattle.value_core.specs.declared.action.Reply.{Reply}
use Rattle.value_core.specs.declared.meaning.Making.{Making}
use Rattle.value_core.specs.declared.meaning.Tried.{Tried}
use Rattle.value_core.specs.declared.meaning.Doing.{Doing}

-- what its operations mean: whether one may change its object; what the making of an object gives; what a try of an
-- operation gives, by the object's state and the arguments
pub record Performs : Type 0 where
  pub class_of : KindNo → OpNo → Class
  pub made : KindNo → Making
  pub tries : KindNo → OpNo → Data → Data → Tried

-- what its processes mean: the text that begins; and the next action of a process, by its text, number and arguments,
-- the replies so far, and the turns that it may take
pub record Computes : Type 0 where
  pub main : TextNo
  pub doing : TextNo → ProcessNo → Data → List Reply → ℕ → Doing
