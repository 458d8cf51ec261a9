-- What a computation with a budget comes to.
use Rattle.std.specs.Prelude.{◌≡◌, ◌⊎◌, ℕ, ◌+◌, ◌<◌, ◌≤◌, List, [], ◌∷◌, ◌++◌}
use Rattle.orca_base.specs.declared.ids.TextNo.{TextNo}
use Rattle.orca_base.specs.declared.ids.ProcessNo.{ProcessNo}
use Rattle.value_core.specs.Datum.{Data}
use Rattle.value_core.specs.Meaning.{Computes}
use Rattle.value_core.specs.declared.action.Action.{Action}
use Rattle.value_core.specs.declared.action.Reply.{Reply}
use Rattle.value_core.specs.declared.meaning.Doing.{Doing}
use Rattle.value_core.specs.declared.meaning.Doing.TheVariants as doing
use Rattle.value_core.specs.declared.processor.Halt.{Halt}
use Rattle.value_core.specs.declared.processor.Halt.TheVariants as halt

-- what is said of a process, by its text, number, arguments, replies and turns
abbrev pub Stands : Type 1
Stands = TextNo → ProcessNo → Data → List Reply → ℕ → Type 0

-- there is a process of which it is said
abbrev pub ForSome : Stands → Type 0
ForSome stands = (text : TextNo) × (number : ProcessNo) × (args : Data) × (replies : List Reply) × (turns : ℕ) ×
    stands text number args replies turns

-- P of each process of which it is said
abbrev pub ForEach : Stands → Stands → Type 0
ForEach stands P = (text : TextNo) (number : ProcessNo) (args : Data) (replies : List Reply) (turns : ℕ) →
    stands text number args replies turns → P text number args replies turns

-- the next action is reached after exactly so many turns: with one more it isn't busy, and with these it is
abbrev pub Reaches : (ℕ → Doing) → ℕ → Doing → Type 0
Reaches next used act = (next (used + 1) ≡ act) × ((used ≡ 0) ⊎ (next used ≡ doing.Busy))

-- from so many turns and with this budget: the next action is reached before the budget's last turn is begun, and the state
-- stands for the turns that this took; or that turn is begun first
abbrev pub Goes : (ℕ → Doing) → (ℕ → Type 0) → ℕ → ℕ → Halt → Type 0
Goes next stands turns budget (halt.At act) = (used : ℕ) × (turns ≤ used) × (used < turns + budget) × Reaches next used (doing.At act) ×
    stands used
Goes next stands turns budget halt.Paused = (next (turns + budget) ≡ doing.Busy) × stands (turns + budget)

-- what a computation with this budget comes to, for the process that its state stands for
abbrev pub GoesOn : Computes → Stands → ℕ → Halt → Stands
GoesOn q stands budget halt text number args replies turns = Goes (q.doing text number args replies)
    (stands text number args replies) turns budget halt

-- the process has one more reply
abbrev pub HasReplied : Reply → Stands → Stands
HasReplied reply stands text number args replies turns = stands text number args (replies ++ reply ∷ []) turns

-- P of the action, where the computation halted at one
abbrev pub IfAt : Halt → (Action → Type 0) → Type 0
IfAt (halt.At act) P = P act
IfAt halt.Paused P = Unit {0}
