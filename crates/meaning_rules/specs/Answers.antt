-- Which replies answer an evaluation, where it is made of others, and how those of a process do.
use Rattle.std.proofs.Common.{ap, sym, ◌∙◌, subst}
use Rattle.std.proofs.lemmas.List.{append_assoc}
use Rattle.std.specs.Prelude.{◌≡◌, ℕ, List, [], ◌∷◌, ◌++◌, slice_get}
use Rattle.orca_base.specs.declared.ids.TextNo.{TextNo}
use Rattle.orca_base.specs.declared.ids.ProcessNo.{ProcessNo}
use Rattle.link_rules.specs.Units.{Source}
use Rattle.value_core.specs.Datum.{Data}
use Rattle.value_core.specs.Lawful.{RepliesFit}
use Rattle.value_core.specs.declared.action.Reply.{Reply}
use Rattle.meaning_rules.specs.Programs.{process_texts}
use Rattle.meaning_rules.specs.States.{State, Out, Goes, after}
use Rattle.meaning_rules.specs.Processes.{text_run}
use Rattle.meaning_rules.specs.Meanings.{computes_of}
use Rattle.meaning_rules.specs.Replies.{Fronted, Front}
use Rattle.meaning_rules.specs.Fitting.{FitsReply}
use Rattle.meaning_rules.specs.PhrasesFit.{AreAnswers}

no_split : (before rest : List Reply) (answer : Reply) → [] ≡ before ++ answer ∷ rest → ⊥
no_split [] rest answer is = cc
no_split (r ∷ before) rest answer is = cc

-- where there are none, as in implementations
pub answers_none : {A : Type 0} (us : List Source) (f : State → Out A) (s : State) → s.replies ≡ [] → AreAnswers us f s
answers_none us f s none before rest answer act are comes = absurd (no_split before rest answer (sym none ∙ are))

-- what answers one evaluation and then another answers the first
pub answers_first : {A B : Type 0} (us : List Source) (f : State → Out A) (next : A → State → Out B) (s : State) → AreAnswers us (λ t. after (f t) next) s →
    AreAnswers us f s
answers_first us f next s all before rest answer act are comes = all before rest answer act are (ap (λ o. after o next) comes)

-- and what the first left of it answers the second
pub answers_then : {A B : Type 0} (us : List Source) (f : State → Out A) (next : A → State → Out B) (s s1 : State) (x : A) → Front A f → f s ≡ Goes x s1 →
    AreAnswers us (λ t. after (f t) next) s → AreAnswers us (next x) s1
answers_then us f next s s1 x front goes all before rest answer act are comes =
    let h : Fronted f s (Goes x s1) = subst (λ o. Fronted f s o) goes (front.front s) in
    all (h.0 ++ before) rest answer act (h.1 ∙ (ap (λ rs. h.0 ++ rs) are ∙ sym (append_assoc h.0 before (answer ∷ rest))))
    (ap (λ o. after o next) (h.2 before) ∙ comes)

-- replies that fit a process answer its text, whatever the turns
abbrev pub RepliesAnswer : List Source → Type 0
RepliesAnswer us =
    (text : TextNo) (number : ProcessNo) (args : Data) (replies : List Reply) (turns : ℕ) → RepliesFit (computes_of us) (FitsReply us) text number args replies →
    AreAnswers us (text_run us number args (slice_get (process_texts us) text.0)) (record { frame = []; replies = replies; left = turns })
