-- A text has one answer; what is printed is read back; and what may be printed.
use Rattle.std.proofs.Common.{◌≡◌, ◌≢◌, ℕ, List, [], ◌∷◌, Option, Some, None, refl, sym, ap, subst, ◌∙◌, inl, inr}
use Rattle.std.specs.List.{All}
use Rattle.std.specs.Prelude.{Result, Ok, Err, IfOk, OnErr}
use Rattle.std.proofs.lemmas.List.Elements.{All-cons, All-head, All-nil, All-tail}
use Rattle.value_core.specs.declared.action.Line.{Line}
use Rattle.value_core.specs.History.{Legal}
use Rattle.value_core.specs.Meaning.{Performs, Computes}
use Rattle.value_core.specs.Sound.{IsSoundLine}
use Rattle.book_law.specs.Events.{In}
use Rattle.history_check.specs.Verdicts.{IsVerdict}
use Rattle.history_check.specs.declared.verdict.Verdict.{Verdict}
use Rattle.history_check.specs.declared.verdict.Verdict.TheVariants as verdict
use Rattle.history_check.proofs.Agreeing.{one_verdict}
use Rattle.command_output.specs.declared.statuses.TheConstants.{NO_MEMORY, WRITE_FAULT}
use Rattle.command_output.specs.Printed.{Ends, EndsAs, Grew}
use Rattle.history_text.specs.Sound.{AreFirst, AreLines, AreTables, HasNames, IsPrintable}
use Rattle.history_text.specs.declared.names.Names.{Names}
use Rattle.history_text.proofs.Histories.{one_front, whole_front}
use Rattle.history_commands.specs.ReadBack.{ReadsBack}
use Rattle.history_commands.specs.Replays.{IsSaid, IsToldOf, answer_line, answer_status}
use Rattle.history_commands.specs.declared.answer.Answer.{Answer}
use Rattle.history_commands.specs.declared.answer.Answer.TheVariants as said

-- what is said where this is the bad line behind the lines in front, and this the verdict on them
answer_of : Option ℕ → Verdict → Answer
answer_of bad (verdict.Breach number rule) = said.Part number rule
answer_of None verdict.Legal = said.Legal
answer_of (Some number) verdict.Legal = said.Form number

-- so an answer is one of lines, the bad line behind them, and a verdict
record Judged (p : Performs) (q : Computes) (names : Names) (text : List ℕ) (answer : Answer) : Type 0 where
  lines : List Line
  bad : Option ℕ
  verdict : Verdict
  first : AreFirst names text lines bad
  is : IsVerdict p q lines verdict
  told : answer ≡ answer_of bad verdict

judged : (p : Performs) (q : Computes) (names : Names) (text : List ℕ) (answer : Answer) → IsToldOf p q names text answer → Judged p q names text answer
unfolding answer_of
judged p q names text said.Legal (lines, first, legal) = record { lines = lines; bad = None; verdict = verdict.Legal; first = first; is = legal; told = refl }
judged p q names text (said.Form number) (lines, first, legal) = record { lines = lines; bad = Some number; verdict = verdict.Legal; first = first; is = legal; told = refl }
judged p q names text (said.Part number rule) (lines, bad, first, breach) = record { lines = lines; bad = bad; verdict = verdict.Breach number rule; first = first; is = breach; told = refl }

-- two answers to one text are the same
pub one_answer : (p : Performs) (q : Computes) (names : Names) (text : List ℕ) (one two : Answer) → AreTables names → IsToldOf p q names text one → IsToldOf p q names text two → one ≡ two
one_answer p q names text one two tables is are =
    let j = judged p q names text one is in
    let k = judged p q names text two are in
    let front = one_front names tables text j.lines k.lines j.bad k.bad j.first k.first in
    let same = one_verdict p q j.lines j.verdict k.verdict j.is (subst (λ (lines : List Line). IsVerdict p q lines k.verdict) (sym front.0) k.is) in
    j.told ∙ ap (λ (bad : Option ℕ). answer_of bad j.verdict) front.1 ∙ ap (λ (v : Verdict). answer_of k.bad v) same ∙ sym k.told

-- ---- the text of a book

pub reads_back : (p : Performs) (q : Computes) (names : Names) (lines : List Line) → AreLines names lines → Legal p q lines → ReadsBack p q names lines
reads_back p q names lines are legal = record { lines = whole_front names lines are; legal = (lines, whole_front names lines are, legal) }

pub printable : (names : Names) (lines : List Line) → ((line : Line) → In line lines → IsSoundLine line) → All (λ line. HasNames names line.action) lines → All (IsPrintable names) lines
printable names [] sound known = All-nil (IsPrintable names)
printable names (line ∷ lines) sound known =
    All-cons (IsPrintable names) line lines (sound line (inl refl), All-head (λ (l : Line). HasNames names l.action) line lines known)
    (printable names lines (λ l inside. sound l (inr inside)) (All-tail (λ (l : Line). HasNames names l.action) line lines known))

-- ---- what is said

-- it doesn't end with the status of a write fault
pub answer_apart : (answer : Answer) → answer_status answer ≢ WRITE_FAULT
answer_apart said.Legal h = absurd cc
answer_apart (said.Form number) h = absurd cc
answer_apart (said.Part number rule) h = absurd cc

-- the answer's line was printed, or there was no memory for it
pub said_of : {L E : Type 0} (bytes : L → List ℕ) (line : Result L E) (p : Performs) (q : Computes) (names : Names) (text : List ℕ) (old new : Option (List ℕ)) (answer : Answer) (status : ℕ) → IsToldOf p q names text answer →
    IfOk line (λ l. bytes l ≡ answer_line answer) → IfOk line (λ l. Grew old new (Ends (answer_status answer) status (bytes l))) → OnErr line ((status ≡ NO_MEMORY) × (new ≡ old)) → EndsAs (answer_status answer) status → IsSaid p q names text old new status
said_of bytes (Ok l) p q names text old new answer status told is grew silent ends = inl (answer, told, ends, subst (λ (t : List ℕ). Grew old new (Ends (answer_status answer) status t)) is grew)
said_of bytes (Err e) p q names text old new answer status told is grew silent ends = inr silent
