-- A wire that answers by a script, one question on.
use Rattle.std.proofs.Common.{◌≡◌, ℕ, ◌≤◌, List, [], ◌∷◌, ◌++◌, length, reverse, sym, subst, arith}
use Rattle.std.proofs.lemmas.List.{length-reverse}
use Rattle.net_rules.specs.declared.asked.Asked.{Asked}
use Rattle.net_rules.specs.declared.line.ScriptLine.{ScriptLine}
use Rattle.net_rules.specs.Answered.{Answers, AnsweredBehind, IsAnswer}
use Rattle.wires.specs.declared.lines.Index.{Index as Lines}
use Rattle.wires.specs.declared.progress.Progress.{Progress as Kept}
use Rattle.wires.specs.Index.{IsIndex}
use Rattle.wires.specs.Progress.{IsProgress}
use Rattle.wires.specs.Wired.{by_script}
use Rattle.wires.proofs.Told.{latest}

-- what is kept of a script along what was asked
abbrev pub Keeps : List ScriptLine → List Asked → ℕ → Lines → Kept → Type 0
Keeps lines told before index progress = IsIndex lines index × IsProgress lines (reverse told) progress × AnsweredBehind before (by_script lines) (reverse told)

-- one question more, which was answered by it
pub goes_on : (lines after : List ScriptLine) (told now : List Asked) (one : Asked) (before since : ℕ) (index : Lines) (old new : Kept) → after ≡ lines → now ≡ told ++ one ∷ [] → since ≡ before →
    IsAnswer (by_script lines) (reverse told) one → IsProgress lines (one ∷ reverse told) new → Keeps lines told before index old → Keeps after now since index new
goes_on lines after told now one before since index old new same grew still is progress keeps =
    subst (λ (n : ℕ). Keeps after now n index new) (sym still) (subst (λ (ls : List ScriptLine). Keeps ls now before index new) (sym same) (
      keeps.0,
      subst (λ (ts : List Asked). IsProgress lines ts new) (sym (latest told now one grew)) progress,
      subst (λ (ts : List Asked). AnsweredBehind before (by_script lines) ts) (sym (latest told now one grew)) ((λ behind. is), keeps.2),
    ))

-- nothing of what was asked before is by this one
behind_all : (answers : Answers) (first : ℕ) (asked : List Asked) → length asked ≤ first → AnsweredBehind first answers asked
behind_all answers first [] le = tt
behind_all answers first (one ∷ asked) le = ((λ more. absurd (omega arith)), behind_all answers first asked (omega arith))

pub loaded : (lines after : List ScriptLine) (told now : List Asked) (before : ℕ) (index : Lines) (progress : Kept) → after ≡ lines → now ≡ told → before ≡ length told →
    IsIndex lines index → IsProgress lines (reverse told) progress → Keeps after now before index progress
loaded lines after told now before index progress same still len is at =
    subst (λ (ls : List ScriptLine). Keeps ls now before index progress) (sym same)
    (subst (λ (ts : List Asked). Keeps lines ts before index progress) (sym still)
    (is, at, behind_all (by_script lines) before (reverse told) (omega (arith, length-reverse told))))
