-- Where words ask for the run of the program that is made of a number, they name one such run; they have no ending without a run, and name no run
-- of files.
use Rattle.std.proofs.Common.{◌≡◌, ℕ, List, [], ◌∷◌, Option, Some, None, option_and_then, refl, sym, ap, ◌∙◌, subst, arith}
use Rattle.net_rules.specs.declared.line.ScriptLine.{ScriptLine}
use Rattle.orca_io.specs.Files.{File}
use Rattle.orca_io.specs.declared.shelf.ShelfFault.{ShelfFault}
use Rattle.orca_io.specs.Reading.{FileRead}
use Rattle.link_rules.specs.Units.{Source}
use Rattle.replica_choice.specs.declared.policy.Asked.{Asked}
use Rattle.orca_front.specs.Sources.{IsAccepted}
use Rattle.command_files.specs.Sources.{Word}
use Rattle.generated_program.specs.Program.{program_file}
use Rattle.make_command.specs.Losses.{losses}
use Rattle.orca_answers.specs.Choosing.{Chooser}
use Rattle.orca_answers.specs.Endings as because
use Rattle.orca_answers.specs.Endings.{IsEnding}
use Rattle.orca_answers.specs.Job.{Deed, checks, chooses, deed_in, files_of, lists, makes, replays, runs, says}
use Rattle.orca_answers.specs.Made.{IsMade}
use Rattle.orca_answers.specs.Named.{IsNamed}
use Rattle.orca_answers.proofs.FilesOnce.{some_apart}
use Rattle.orca_answers.proofs.ProgramsOnce.{same_program}

-- 1 where a program is made of a number and run, with this number and so many losses; and else 0
abbrev is_made : Option Deed → ℕ
is_made None = 0
is_made (Some (says text)) = 0
is_made (Some (checks files)) = 0
is_made (Some (lists what files)) = 0
is_made (Some (chooses nodes files)) = 0
is_made (Some (runs options script files)) = 0
is_made (Some (replays history files)) = 0
is_made (Some (makes options number)) = 1

abbrev number_by : Option Deed → ℕ
number_by None = 0
number_by (Some (says text)) = 0
number_by (Some (checks files)) = 0
number_by (Some (lists what files)) = 0
number_by (Some (chooses nodes files)) = 0
number_by (Some (runs options script files)) = 0
number_by (Some (replays history files)) = 0
number_by (Some (makes options number)) = number

abbrev lost_by : Option Deed → ℕ
lost_by None = 0
lost_by (Some (says text)) = 0
lost_by (Some (checks files)) = 0
lost_by (Some (lists what files)) = 0
lost_by (Some (chooses nodes files)) = 0
lost_by (Some (runs options script files)) = 0
lost_by (Some (replays history files)) = 0
lost_by (Some (makes options number)) = options.lose

pub made_once : (words : List Word) (old new was now : List FileRead) (us vs : List Source) (lines more : List ScriptLine) → IsMade words old new us lines → IsMade words was now vs more → (us ≡ vs) × (lines ≡ more)
made_once words old new was now us vs lines more m n =
    let same : Some (makes m.options m.number) ≡ Some (makes n.options n.number) = sym m.asked ∙ n.asked in
    let number : m.number ≡ n.number = ap number_by same in
    let lost : m.options.lose ≡ n.options.lose = ap lost_by same in (
      same_program (program_file m.number ∷ []) us vs m.accepted (subst (λ (k : ℕ). IsAccepted (program_file k ∷ []) vs) (sym number) n.accepted),
      m.script ∙ ap losses lost ∙ sym n.script,
    )

module _ (words : List Word) (old new : List FileRead) (us : List Source) (lines : List ScriptLine) (m : IsMade words old new us lines) where
  -- nothing else is done for the words
  other : (deed : Option Deed) → is_made deed ≡ 0 → deed_in words ≡ deed → ⊥
  other deed none is = let one : is_made deed ≡ 1 = ap is_made (sym is ∙ m.asked) in absurd (omega (arith, one, none))

  -- no files are read for them
  unread : (files : List Word) → option_and_then files_of (deed_in words) ≡ Some files → ⊥
  unread files has = some_apart files (sym has ∙ ap (option_and_then files_of) m.asked)

  pub made_unended : (policy : Chooser) (told : Option (List File)) (was now : List FileRead) (stopped : ShelfFault → Word → Type 0) (one : ℕ) (a : List ℕ) (asked : List Asked) → IsEnding policy words told was now stopped one a asked → ⊥
  made_unended policy told was now stopped one a asked (because.said text is) = other (Some (says text)) refl is
  made_unended policy told was now stopped one a asked (because.usage is) = other None refl is
  made_unended policy told was now stopped one a asked (because.unread files fault has h) = unread files has
  made_unended policy told was now stopped one a asked (because.unscripted files sources script fault between has read since named h) = unread files has
  made_unended policy told was now stopped one a asked (because.refused files sources fault has read script h) = unread files has
  made_unended policy told was now stopped one a asked (because.accepted files units is h) = other (Some (checks files)) refl is
  made_unended policy told was now stopped one a asked (because.listed what files units text is h listing) = other (Some (lists what files)) refl is
  made_unended policy told was now stopped one a asked (because.chosen nodes files units is h) = other (Some (chooses nodes files)) refl is
  made_unended policy told was now stopped one a asked (because.replayed history files wanted line is h) = other (Some (replays history files)) refl is

  pub made_unnamed : (told : Option (List File)) (was now : List FileRead) (vs : List Source) (more : List ScriptLine) → IsNamed words told was now vs more → ⊥
  made_unnamed told was now vs more named = other (Some (runs named.options named.script named.files)) refl named.asked
