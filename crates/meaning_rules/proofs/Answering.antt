-- That replies which fit a process answer its text: what it does next doesn't hang on the turns once it isn't busy.
use Rattle.std.proofs.Common.{ap, sym, ◌∙◌, subst, arith}
use Rattle.std.proofs.lemmas.List.{append_assoc}
use Rattle.std.specs.Prelude.{◌≡◌, ℕ, ◌+◌, List, [], ◌∷◌, ◌++◌}
use Rattle.std.proofs.Common.{append-nil}
use Rattle.orca_base.specs.declared.ids.TextNo.{TextNo}
use Rattle.orca_base.specs.declared.ids.ProcessNo.{ProcessNo}
use Rattle.link_rules.specs.Units.{Source}
use Rattle.value_core.specs.Datum.{Data}
use Rattle.value_core.specs.History.{most_turns}
use Rattle.value_core.specs.Lawful.{FitsAction, RepliesFitFrom, next_of}
use Rattle.value_core.specs.declared.action.Reply.{Reply}
use Rattle.value_core.specs.declared.meaning.Doing.TheVariants as doing
use Rattle.meaning_rules.specs.Processes.{doing_of, next_doing}
use Rattle.meaning_rules.specs.Meanings.{computes_of}
use Rattle.meaning_rules.specs.Fitting.{FitsReply}
use Rattle.meaning_rules.specs.Answers.{RepliesAnswer}
use Rattle.meaning_rules.proofs.Settling.{is_settled}

module _ (us : List Source) (text : TextNo) (number : ProcessNo) (args : Data) where
  -- each reply is one that the action can get in front of it
  pub replied_at : (before xs : List Reply) (answer : Reply) (ys : List Reply) →
      RepliesFitFrom (computes_of us) (FitsReply us) text number args before (xs ++ answer ∷ ys) →
      FitsAction (FitsReply us) (next_of (computes_of us) text number args (before ++ xs)) answer
  replied_at before [] answer ys fits =
      subst (λ rs. FitsAction (FitsReply us) (next_of (computes_of us) text number args rs) answer) (sym (append-nil before)) fits.0
  replied_at before (x ∷ xs) answer ys fits =
      subst (λ rs. FitsAction (FitsReply us) (next_of (computes_of us) text number args rs) answer) (append_assoc before (x ∷ []) xs)
      (replied_at (before ++ x ∷ []) xs answer ys fits.1)

  -- whatever the turns, if these aren't too few
  agree : (replies : List Reply) (m n : ℕ) → (next_doing us text number args replies m ≡ doing.Busy → ⊥) →
      (next_doing us text number args replies n ≡ doing.Busy → ⊥) → next_doing us text number args replies m ≡ next_doing us text number args replies n
  agree replies m n calm settled =
      let both : m + n ≡ n + m = omega arith in
      sym (is_settled us text number args replies m n calm)
      ∙ (ap (next_doing us text number args replies) both ∙ is_settled us text number args replies n m settled)

pub replies_answer : (us : List Source) → RepliesAnswer us
replies_answer us text number args replies turns fit before rest answer act are comes =
    let can : FitsAction (FitsReply us) (next_of (computes_of us) text number args before) answer =
    replied_at us text number args [] before answer rest (subst (λ rs. RepliesFitFrom (computes_of us) (FitsReply us) text number args [] rs) are fit) in
    let is : next_doing us text number args before turns ≡ doing.At act = ap doing_of comes in
    let calm : next_doing us text number args before turns ≡ doing.Busy → ⊥ = λ busy. cc (is, busy) in
    subst (λ d. FitsAction (FitsReply us) d answer)
    (agree us text number args before most_turns turns (λ busy. subst (λ d. FitsAction (FitsReply us) d answer) busy can) calm ∙ is) can
