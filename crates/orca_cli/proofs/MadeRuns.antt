-- The run of the program that is made of a number is one that the words ask for.
use Rattle.std.proofs.Common.{◌≡◌, ◌⊎◌, inl, inr, ℕ, List, [], ◌∷◌, Option, Some, refl, subst, sym}
use Rattle.command_line.specs.declared.request.MakeOptions.{MakeOptions}
use Rattle.command_line.specs.declared.request.RunOptions.{RunOptions}
use Rattle.net_rules.specs.declared.line.ScriptLine.{ScriptLine}
use Rattle.orca_io.specs.Files.{File}
use Rattle.orca_io.specs.Reading.{FileRead}
use Rattle.link_rules.specs.Units.{Source}
use Rattle.replica_choice.specs.declared.policy.Asked.{Asked}
use Rattle.accepted_law.specs.Limits.{IsWithinLimits}
use Rattle.orca_front.specs.Sources.{IsAccepted}
use Rattle.command_files.specs.Sources.{Word}
use Rattle.generated_program.specs.Program.{program_file}
use Rattle.make_command.specs.Losses.{losses}
use Rattle.make_command.specs.Runs.{run_options}
use Rattle.orca_answers.specs.Choosing.{Chooser, WasAskedFirst, WasAskedSome}
use Rattle.orca_answers.specs.Job.{deed_in, makes}
use Rattle.orca_answers.specs.Made.{IsMade}
use Rattle.orca_cli.specs.declared.printing.Printing.TheVariants.{Summary}
use Rattle.orca_cli.specs.Made.{IsRunNamed, by_make}

module _ (words : List Word) (told : Option (List File)) (reads : List FileRead) (options : MakeOptions) (number : ℕ) (running : RunOptions) (file : File) (lines : List ScriptLine) (linked units : List Source)
    (asked : deed_in words ≡ Some (makes options number)) (is : file ≡ program_file number) (script : lines ≡ losses options.lose) (runs : running ≡ run_options options) (same : units ≡ linked) (accepted : IsAccepted (file ∷ []) linked) (within : IsWithinLimits units) where
  accepted_so : IsAccepted (program_file number ∷ []) units
  accepted_so = subst (IsAccepted (program_file number ∷ [])) (sym same) (subst (λ (f : File). IsAccepted (f ∷ []) linked) is accepted)

  pub made_named : IsRunNamed words told reads reads units lines running (Summary number)
  made_named =
      subst (λ (o : RunOptions). IsRunNamed words told reads reads units lines o (Summary number)) (sym runs)
      (by_make (record { options = options; number = number; asked = asked; accepted = accepted_so; within = within; script = script; read = refl }))

  -- what the policy was asked for it
  pub made_asked : (policy : Chooser) (new : List Asked) → (new ≡ policy.told) ⊎ ((running.group.resilience ≡ 0) × WasAskedFirst policy running.group.nodes units new) → WasAskedSome policy words told reads reads new
  made_asked policy new (inl kept) = inl kept
  made_asked policy new (inr first) =
      let some = subst (λ (o : RunOptions). (o.group.resilience ≡ 0) × WasAskedFirst policy o.group.nodes units new) runs first in
      inr (inr (record {
        units = units;
        lines = lines;
        made = record { options = options; number = number; asked = asked; accepted = accepted_so; within = within; script = script; read = refl };
        none = some.0;
        first = some.1;
      }))
