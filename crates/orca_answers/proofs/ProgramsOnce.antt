-- Sources are an accepted program within the limits, or there is one reason why not.
use Rattle.std.proofs.Common.{◌≡◌, ◌*◌, List, refl, sym, ap, ◌∙◌, subst, sum_by, true≢false}
use Rattle.orca_base.specs.declared.limits.TheConstants.{CODE_LENGTH}
use Rattle.orca_io.specs.Files.{File}
use Rattle.link_rules.specs.Units.{Source}
use Rattle.accepted_law.specs.Limits.{IsWithinLimits, words_in}
use Rattle.program_limits.specs.Passed.{Passes}
use Rattle.program_limits.specs.declared.limits.PassedLimit.{PassedLimit}
use Rattle.program_limits.specs.declared.limits.PassedLimit.TheVariants as limit
use Rattle.orca_front.specs.Sources.{IsAccepted}
use Rattle.replay_command.specs.Endings.{passed_line}
use Rattle.orca_answers.specs.Programs.{IsProgramFault, program_line, program_status}
use Rattle.orca_answers.specs.declared.program.ProgramFault.{ProgramFault}
use Rattle.orca_answers.specs.declared.program.ProgramFault.TheVariants.{Limited, Refused}
use Rattle.orca_answers.proofs.FilesOnce.{SameEnd, above}
use Rattle.orca_answers.proofs.TextsOnce.{front_apart, front_once, same_units}

-- ---- the limits

pub passes_once : (us vs : List Source) (p q : PassedLimit) → us ≡ vs → Passes us p → Passes vs q → p ≡ q
passes_once us vs p q same is was = by p q is (subst (λ (x : List Source). Passes x q) (sym same) was)
  where
    by : (p q : PassedLimit) → Passes us p → Passes us q → p ≡ q
    by limit.Parameters limit.Parameters h k = refl
    by limit.Parameters limit.CodeLength h k = absurd (true≢false (sym k.0 ∙ h))
    by limit.CodeLength limit.Parameters h k = absurd (true≢false (sym h.0 ∙ k))
    by limit.CodeLength limit.CodeLength h k = refl

pub passes_apart : (us : List Source) (p : PassedLimit) → Passes us p → IsWithinLimits us → ⊥
passes_apart us limit.Parameters h within = true≢false (sym within.parameters ∙ h)
passes_apart us limit.CodeLength h within = above CODE_LENGTH (20 * sum_by words_in us) h.1 within.words

-- ---- the program

pub same_program : (files : List File) (us vs : List Source) → IsAccepted files us → IsAccepted files vs → us ≡ vs
same_program files us vs is was = same_units files us vs is.are was.are

pub program_once : (files : List File) (f g : ProgramFault) → IsProgramFault files f → IsProgramFault files g → SameEnd (program_status f) (program_line f) (program_status g) (program_line g)
program_once files (Refused f) (Refused g) h k = front_once files f g h k
program_once files (Refused f) (Limited q) h k = absurd (front_apart files f k.0 h k.1)
program_once files (Limited p) (Refused g) h k = absurd (front_apart files g h.0 k h.1)
program_once files (Limited p) (Limited q) h k = (refl, ap passed_line (passes_once h.0 k.0 p q (same_program files h.0 k.0 h.1 k.1) h.2 k.2))

pub program_apart : (files : List File) (f : ProgramFault) (us : List Source) → IsProgramFault files f → IsAccepted files us → IsWithinLimits us → ⊥
program_apart files (Refused f) us h accepted within = front_apart files f us h accepted
program_apart files (Limited p) us h accepted within =
    passes_apart us p (subst (λ (x : List Source). Passes x p) (same_program files h.0 us h.1 accepted) h.2) within
