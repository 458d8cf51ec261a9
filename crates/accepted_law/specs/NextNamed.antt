-- That what processes do next names what the program has: object types with a specification, and operations with a head there
-- (docs/LANGUAGE.md, Processes).
use Rattle.std.specs.Prelude.{◌≡◌, ◌≤◌, ◌<◌, ℕ, zero, suc, List, length, slice_get, Some}
use Rattle.orca_base.specs.declared.ids.KindNo.{KindNo}
use Rattle.orca_base.specs.declared.ids.ObjectId.{ObjectId}
use Rattle.orca_base.specs.declared.ids.OpNo.{OpNo}
use Rattle.orca_base.specs.declared.ids.ProcessNo.{ProcessNo}
use Rattle.orca_base.specs.declared.ids.TextNo.{TextNo}
use Rattle.orca_syntax.specs.Syntax.{Head}
use Rattle.link_rules.specs.Units.{Source}
use Rattle.type_rules.specs.TopLevel as top
use Rattle.type_rules.specs.TopLevel.{TopName}
use Rattle.value_core.specs.Datum.{Data}
use Rattle.value_core.specs.Fits.{Kinds}
use Rattle.value_core.specs.declared.action.Action.TheVariants as action
use Rattle.value_core.specs.declared.action.Reply.{Reply}
use Rattle.value_core.specs.declared.meaning.Doing.TheVariants as doing
use Rattle.meaning_rules.specs.Fitting.{FitsArgs}
use Rattle.meaning_rules.specs.Processes.{next_doing}
use Rattle.meaning_rules.specs.Programs.{specifications}

-- an object type that is made has the number of a specification, where these are numbered from 1, and isn't the output object's: whatever
-- the arguments of its process, and the replies that it got
abbrev pub MakesKnown : List Source → Type 0
MakesKnown us =
    (text : TextNo) (number : ProcessNo) (args : Data) (replies : List Reply) (turns : ℕ) (kind : KindNo) (object : ObjectId) →
    next_doing us text number args replies turns ≡ doing.At (action.Make kind object) → (1 ≤ kind.0) × (kind.0 ≤ length (specifications us))

-- the specification of this place, from 0, has a head with this number
pub record HeadOf (us : List Source) (place op : ℕ) : Type 0 where
  pub specification : TopName
  pub heads : List Head
  pub at : slice_get (specifications us) place ≡ Some specification
  pub is : specification.what ≡ top.Specified heads
  pub within : op < length heads

-- the output object's type has the operation 0 alone
abbrev pub HasHead : List Source → ℕ → ℕ → Type 0
HasHead us zero op = op ≡ 0
HasHead us (suc k) op = HeadOf us k op

-- arguments fit only operations that have a head
abbrev pub CallsKnown : List Source → Type 0
CallsKnown us = (kinds : Kinds) (kind : KindNo) (op : OpNo) (args : Data) → FitsArgs us kinds kind op args → HasHead us kind.0 op.0
