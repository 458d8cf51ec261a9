-- Where files are told and no read failed, `replay` ends in one way.
use Rattle.std.proofs.Common.{◌≡◌, ℕ, List, Option, Some, refl, sym, ap, subst}
use Rattle.orca_io.specs.Files.{File}
use Rattle.orca_io.specs.declared.shelf.ShelfFault.{ShelfFault}
use Rattle.orca_io.specs.declared.shelf.ShelfFault.TheVariants as causes
use Rattle.link_rules.specs.Units.{Source}
use Rattle.accepted_law.specs.Limits.{IsWithinLimits}
use Rattle.meaning_rules.specs.Meanings.{computes_of, performs_of}
use Rattle.orca_front.specs.declared.fault.FrontFault.{FrontFault}
use Rattle.orca_front.specs.Sources.{IsAccepted, IsFault}
use Rattle.program_limits.specs.Passed.{Passes}
use Rattle.program_limits.specs.declared.limits.PassedLimit.{PassedLimit}
use Rattle.history_text.specs.declared.names.Names.{Names}
use Rattle.history_commands.specs.Replays.{IsToldOf, answer_line, answer_status}
use Rattle.history_commands.specs.declared.answer.Answer.{Answer}
use Rattle.program_names.specs.Naming.{AreNamesOf}
use Rattle.command_files.specs.Replays.{HasRead}
use Rattle.command_files.specs.Stopped.{Never}
use Rattle.command_files.specs.Sources.{Word}
use Rattle.replay_command.specs.Endings as replays
use Rattle.replay_command.specs.Endings.{IsReplayEnding, passed_line}
use Rattle.orca_answers.proofs.FilesOnce.{SameEnd, history_apart, history_once, history_quiet, same_history, same_sources}
use Rattle.orca_answers.proofs.NamesOnce.{GiveTables, answer_once}
use Rattle.orca_answers.proofs.ProgramsOnce.{passes_apart, passes_once, same_program}
use Rattle.orca_answers.proofs.TextsOnce.{front_apart, front_once}

-- what is said of a history's text, by the program in these files, which is accepted
record IsJudged (files : List File) (text : List ℕ) (us : List Source) (answer : Answer) : Type 0 where
  accepted : IsAccepted files us
  within : IsWithinLimits us
  names : Names
  are : AreNamesOf us names
  told : IsToldOf (performs_of us) (computes_of us) names text answer

judged_once : GiveTables → (files : List File) (text : List ℕ) (us : List Source) (answer other : Answer) → IsJudged files text us answer → IsJudged files text us other → answer ≡ other
judged_once tables files text us answer other is was =
    answer_once tables files us is.names was.names text answer other is.accepted is.within is.are was.are is.told was.told

module _ (tables : GiveTables) (shelf : List File) (history : Word) (files : List Word) where
  abbrev Had : List File → List ℕ → Type 0
  Had sources text = HasRead (Some shelf) history files sources text

  sources_had : (s t : List File) (text other : List ℕ) → Had s text → Had t other → s ≡ t
  sources_had s t text other read was = same_sources shelf files s t read.0 was.0

  text_had : (s t : List File) (text other : List ℕ) → Had s text → Had t other → text ≡ other
  text_had s t text other read was = same_history shelf history text other read.1 was.1

  accepted_had : (s t : List File) (text other : List ℕ) (us : List Source) → Had s text → Had t other → IsAccepted t us → IsAccepted s us
  accepted_had s t text other us read was is = subst (λ (fs : List File). IsAccepted fs us) (sym (sources_had s t text other read was)) is

  fault_had : (s t : List File) (text other : List ℕ) (f : FrontFault) → Had s text → Had t other → IsFault t f → IsFault s f
  fault_had s t text other f read was h = subst (λ (fs : List File). IsFault fs f) (sym (sources_had s t text other read was)) h

  program_had : (s t : List File) (text other : List ℕ) (us vs : List Source) → Had s text → Had t other → IsAccepted s us → IsAccepted t vs → us ≡ vs
  program_had s t text other us vs read was is are = same_program s us vs is (accepted_had s t text other vs read was are)

  -- texts that are none that is accepted, and texts that are
  refused_apart : (s t : List File) (text other : List ℕ) (f : FrontFault) (us : List Source) → Had s text → Had t other → IsFault s f → IsAccepted t us → ⊥
  refused_apart s t text other f us read was h is = front_apart s f us h (accepted_had s t text other us read was is)

  limited_apart : (s t : List File) (text other : List ℕ) (us vs : List Source) (p : PassedLimit) → Had s text → Had t other → IsAccepted s us → IsAccepted t vs → Passes us p → IsWithinLimits vs → ⊥
  limited_apart s t text other us vs p read was is are passes within =
      passes_apart us p passes (subst IsWithinLimits (sym (program_had s t text other us vs read was is are)) within)

  told_had : (s t : List File) (text other : List ℕ) (us vs : List Source) (answer second : Answer) → Had s text → Had t other → IsJudged s text us answer → IsJudged t other vs second → answer ≡ second
  told_had s t text other us vs answer second read was is are =
      judged_once tables s text us answer second is
      (subst (λ (fs : List File). IsJudged fs text us second) (sym (sources_had s t text other read was))
      (subst (λ (x : List ℕ). IsJudged t x us second) (sym (text_had s t text other read was))
      (subst (λ (x : List Source). IsJudged t other x second) (sym (program_had s t text other us vs read was is.accepted are.accepted)) are)))

  pub replay_once : (one two : ℕ) (a b : List ℕ) → IsReplayEnding (Some shelf) Never history files one a → IsReplayEnding (Some shelf) Never history files two b → SameEnd one a two b
  replay_once one two a b (replays.unread f h) (replays.unread g k) = history_once shelf history files f g h k
  replay_once one two a b (replays.unread f h) (replays.refused t other g was k) = absurd (history_apart shelf history files f t other h was)
  replay_once one two a b (replays.unread f h) (replays.limited t other vs q was k passes) = absurd (history_apart shelf history files f t other h was)
  replay_once one two a b (replays.unread f h) (replays.judged t other vs names second was k within are told) = absurd (history_apart shelf history files f t other h was)
  replay_once one two a b (replays.refused s text f read h) (replays.unread g k) = absurd (history_apart shelf history files g s text k read)
  replay_once one two a b (replays.refused s text f read h) (replays.refused t other g was k) = front_once s f g h (fault_had s t text other g read was k)
  replay_once one two a b (replays.refused s text f read h) (replays.limited t other vs q was k passes) = absurd (refused_apart s t text other f vs read was h k)
  replay_once one two a b (replays.refused s text f read h) (replays.judged t other vs names second was k within are told) = absurd (refused_apart s t text other f vs read was h k)
  replay_once one two a b (replays.limited s text us p read h passes) (replays.unread g k) = absurd (history_apart shelf history files g s text k read)
  replay_once one two a b (replays.limited s text us p read h passes) (replays.refused t other g was k) = absurd (refused_apart t s other text g us was read k h)
  replay_once one two a b (replays.limited s text us p read h passes) (replays.limited t other vs q was k passed) =
      (refl, ap passed_line (passes_once us vs p q (program_had s t text other us vs read was h k) passes passed))
  replay_once one two a b (replays.limited s text us p read h passes) (replays.judged t other vs names second was k within are told) =
      absurd (limited_apart s t text other us vs p read was h k passes within)
  replay_once one two a b (replays.judged s text us names answer read h within are told) (replays.unread g k) = absurd (history_apart shelf history files g s text k read)
  replay_once one two a b (replays.judged s text us names answer read h within are told) (replays.refused t other g was k) = absurd (refused_apart t s other text g us was read k h)
  replay_once one two a b (replays.judged s text us names answer read h within are told) (replays.limited t other vs q was k passed) =
      absurd (limited_apart t s other text vs us q was read k h passed within)
  replay_once one two a b (replays.judged s text us names answer read h within are told) (replays.judged t other vs others second was k inside were said) =
      let same = told_had s t text other us vs answer second read was
      (record { accepted = h; within = within; names = names; are = are; told = told })
      (record { accepted = k; within = inside; names = others; are = were; told = said }) in
      (ap answer_status same, ap answer_line same)

-- where no read failed
pub replay_quiet : (told : Option (List File)) (stopped : ShelfFault → Word → Type 0) (never : (file : Word) → stopped causes.Failed file → ⊥) (history : Word) (files : List Word) (one : ℕ) (a : List ℕ) → IsReplayEnding told stopped history files one a → IsReplayEnding told Never history files one a
replay_quiet told stopped never history files one a (replays.unread f h) = replays.unread f (history_quiet told stopped never history files f h)
replay_quiet told stopped never history files one a (replays.refused s text f read h) = replays.refused s text f read h
replay_quiet told stopped never history files one a (replays.limited s text us p read h passes) = replays.limited s text us p read h passes
replay_quiet told stopped never history files one a (replays.judged s text us names answer read h within are told_so) = replays.judged s text us names answer read h within are told_so
