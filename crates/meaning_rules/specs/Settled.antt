-- That more turns change nothing but whether a process is busy.
use Rattle.std.specs.Prelude.{◌≡◌, ℕ, ◌+◌, List}
use Rattle.orca_base.specs.declared.ids.TextNo.{TextNo}
use Rattle.orca_base.specs.declared.ids.ProcessNo.{ProcessNo}
use Rattle.link_rules.specs.Units.{Source}
use Rattle.value_core.specs.Datum.{Data}
use Rattle.value_core.specs.declared.action.Reply.{Reply}
use Rattle.value_core.specs.declared.meaning.Doing.TheVariants.{Busy}
use Rattle.meaning_rules.specs.Processes.{next_doing}

-- what a process does next, once it isn't busy, is the same for every greater number of turns
abbrev pub IsSettled : List Source → Type 0
IsSettled us =
    (text : TextNo) (number : ProcessNo) (args : Data) (replies : List Reply) (n k : ℕ) →
    (next_doing us text number args replies n ≡ Busy → ⊥) →
    next_doing us text number args replies (n + k) ≡ next_doing us text number args replies n
