-- What the program does for its words over its own two wires: the first answers as its script says, which is that of the words where a run
-- is begun; the second lets every packet pass, and gives no act.
use Rattle.std.specs.Prelude.{◌≡◌, ℕ, List, [], ◌∷◌, Option, reverse}
use Rattle.net_rules.specs.Answered.{Answered}
use Rattle.net_rules.specs.declared.asked.Asked.{Asked}
use Rattle.net_rules.specs.declared.line.ScriptLine.{ScriptLine}
use Rattle.orca_io.specs.Files.{File}
use Rattle.orca_io.specs.declared.shelf.ShelfFault.{ShelfFault}
use Rattle.orca_io.specs.Reading.{FileRead}
use Rattle.command_files.specs.Sources.{Word}
use Rattle.replica_choice.specs.declared.policy.Asked.{Asked as Question}
use Rattle.orca_cli.specs.declared.kept.Kept.{Kept}
use Rattle.orca_answers.specs.Choosing.{Chooser}
use Rattle.orca_answers.specs.Endings.{IsAnswer}
use Rattle.orca_cli.specs.Headline.{AreUntouched, IsRunOf, Wires, wires_of}
use Rattle.wires.specs.Wired.{Wired, by_script, plain, scripted}

-- ---- the wires

-- two wires that weren't asked anything, with the empty script
abbrev pub fresh : Wires
fresh = record { told = [] ∷ [] ∷ []; rules = scripted [] ∷ scripted [] ∷ []; loaded = 0 ∷ 0 ∷ [] }

-- what wires tell that answer by scripts
abbrev pub wired : List Wired → Wires
wired wires = wires_of (λ w. w.told) (λ w. scripted w.script) (λ w. w.loaded) wires

-- there are two. All that the first answered is what its script says; the second has no script, let every packet pass, and gave no act
pub record HaveAnswered (wires : Wires) : Type 0 where
  pub first : List Asked
  pub second : List Asked
  pub lines : List ScriptLine
  pub told : wires.told ≡ first ∷ second ∷ []
  pub rules : wires.rules ≡ scripted lines ∷ scripted [] ∷ []
  pub answered : Answered (by_script lines) (reverse first)
  pub passed : Answered plain (reverse second)

-- ---- what is done

-- Nothing is kept: an ending by its cause with its line, or want of memory, over wires that are as they were made, unless memory lacked for
-- the run that the words name; and a policy was asked what that ending says. Or a run was kept, and is the one that the words ask for, of
-- the program whose texts were read, with each object where the policy keeps it, which was asked where no member may be lost. Either way the
-- wires answered so; where a run was begun, the lines of the first are those that the words name (`AreLoaded` of orca_cli)
pub data IsServed (policy : Chooser) (words : List Word) (files : Option (List File)) (earlier later : List FileRead)
    (stopped : ShelfFault → Word → Type 0) (old new : Option (List ℕ)) (status : ℕ) (told : List Question) : Type 0 where
  ended : (after : Wires) → HaveAnswered after → IsAnswer policy words files earlier later stopped old new status told →
      AreUntouched policy words files earlier later status fresh after told →
      IsServed policy words files earlier later stopped old new status told
  ran : (k : Kept) (after : Wires) → HaveAnswered after → IsRunOf policy words files earlier later k status old new fresh after told →
      IsServed policy words files earlier later stopped old new status told
