-- What an action does to objects is what the program's meaning says.
use Rattle.std.proofs.Common.{◌≡◌, ℕ, Option, Some, None, refl, sym, ap, ◌∙◌, subst}
use Rattle.orca_base.specs.declared.ids.KindNo.{KindNo}
use Rattle.orca_base.specs.declared.ids.OpNo.{OpNo}
use Rattle.orca_base.specs.declared.ids.ObjectId.{ObjectId}
use Rattle.value_core.specs.Datum.{Data}
use Rattle.value_core.specs.declared.action.Action.{Action}
use Rattle.value_core.specs.declared.action.Action.TheVariants as action
use Rattle.value_core.specs.declared.action.Instance.{Instance}
use Rattle.value_core.specs.declared.action.Reply.{Reply}
use Rattle.value_core.specs.declared.action.Reply.TheVariants as answer
use Rattle.value_core.specs.declared.meaning.Making.{Making}
use Rattle.value_core.specs.declared.meaning.Making.TheVariants as making
use Rattle.value_core.specs.declared.meaning.Tried.{Tried}
use Rattle.value_core.specs.declared.meaning.Tried.TheVariants as tried
use Rattle.value_core.specs.Meaning.{Performs}
use Rattle.value_core.specs.History.{Answers, MakingAnswers, Objects, Performed, after_call, after_making, after_try, object_at, objects_after, with_object}
use Rattle.guard_queue.specs.Settles.{tried_by}
use Rattle.book_law.specs.Fitness.{ArgsFit, StateFits}
use Rattle.history_check.specs.Outcomes.{MayTry, kept_at, making_outcome, outcome_of, tried_outcome}
use Rattle.history_check.specs.declared.outcome.Outcome.{Outcome}

-- the action can be performed by this guard and with this reply, by and with no other, and it leaves these objects
pub record IsRight (p : Performs) (objects : Objects) (a : Action) (o : Outcome) : Type 0 where
  pub performed : Performed p objects a o.guard o.reply
  pub only : (guard : ℕ) (reply : Reply) → Performed p objects a guard reply → (guard ≡ o.guard) × (reply ≡ o.reply)
  pub leaves : kept_at objects a o.kept ≡ objects_after p objects a

-- where there is no outcome it can't be performed
abbrev pub IsOutcome : Performs → Objects → Action → Option Outcome → Type 0
IsOutcome p objects a None = (guard : ℕ) (reply : Reply) → Performed p objects a guard reply → ⊥
IsOutcome p objects a (Some o) = IsRight p objects a o

making_right : (p : Performs) (objects : Objects) (kind : KindNo) (object : ObjectId) (m : Making) → p.made kind ≡ m → IsRight p objects (action.Make kind object) (making_outcome kind m)
making_right p objects kind object (making.Made state) is = record {
  performed = (refl, subst (λ (n : Making). MakingAnswers n answer.Done) (sym is) refl);
  only = λ guard reply done. (done.0, subst (λ (n : Making). MakingAnswers n reply) is done.1);
  leaves = sym (ap (after_making objects kind object) is);
}
making_right p objects kind object (making.Broke fault) is = record {
  performed = (refl, subst (λ (n : Making). MakingAnswers n (answer.Broke fault)) (sym is) refl);
  only = λ guard reply done. (done.0, subst (λ (n : Making). MakingAnswers n reply) is done.1);
  leaves = sym (ap (after_making objects kind object) is);
}

module _ (p : Performs) (objects : Objects) (kind : KindNo) (op : OpNo) (object : ObjectId) (args : Data) (kept : Instance) (there : object_at objects object ≡ Some kept) (of_kind : kept.kind ≡ kind) where
  -- whatever performs the call is what its try gives
  answered : (t : Tried) → p.tries kind op kept.state args ≡ t → (guard : ℕ) (reply : Reply) → Performed p objects (action.Call kind op object args) guard reply → Answers t guard reply
  answered t is guard reply done =
      let e : Some done.0 ≡ Some kept = sym done.1 ∙ there in
      let same : done.0 ≡ kept = cc in
      subst (λ (u : Tried). Answers u guard reply) is (subst (λ (k : Instance). Answers (p.tries kind op k.state args) guard reply) same done.2)

  performs : (t : Tried) → p.tries kind op kept.state args ≡ t → (guard : ℕ) (reply : Reply) → Answers t guard reply → Performed p objects (action.Call kind op object args) guard reply
  performs t is guard reply answers = (kept, there, subst (λ (u : Tried). Answers u guard reply) (sym is) answers)

  left : (t : Tried) → p.tries kind op kept.state args ≡ t → objects_after p objects (action.Call kind op object args) ≡ after_try objects object kept t
  left t is = ap (after_call p objects kind op object args) there ∙ ap (after_try objects object kept) is

  call_right : (t : Tried) → p.tries kind op kept.state args ≡ t → IsOutcome p objects (action.Call kind op object args) (tried_outcome kind t)
  call_right tried.Blocked is = λ guard reply done. answered tried.Blocked is guard reply done
  call_right (tried.Did g state r) is = record {
    performed = performs (tried.Did g state r) is g r (refl, refl);
    only = λ guard reply done. answered (tried.Did g state r) is guard reply done;
    leaves = ap (λ (k : KindNo). with_object objects object (record { kind = k; state = state })) (sym of_kind) ∙ sym (left (tried.Did g state r) is);
  }
  call_right (tried.Broke g fault) is = record {
    performed = performs (tried.Broke g fault) is g (answer.Broke fault) (refl, refl);
    only = λ guard reply done. answered (tried.Broke g fault) is guard reply done;
    leaves = sym (left (tried.Broke g fault) is);
  }

  pub tried_right : IsOutcome p objects (action.Call kind op object args) (outcome_of p objects (action.Call kind op object args))
  tried_right = subst (λ (o : Option Instance). IsOutcome p objects (action.Call kind op object args) (tried_outcome kind (tried_by p kind op args o))) (sym there) (call_right (p.tries kind op kept.state args) refl)

pub outcome_right : (p : Performs) (fits_state : StateFits) (fits_args : ArgsFit) (objects : Objects) (a : Action) → MayTry fits_state fits_args objects a → IsOutcome p objects a (outcome_of p objects a)
outcome_right p fits_state fits_args objects (action.Make kind object) may = making_right p objects kind object (p.made kind) refl
outcome_right p fits_state fits_args objects (action.Call kind op object args) may =
    let fits = may.2 in
    tried_right p objects kind op object args fits.kept fits.exists fits.kind
outcome_right p fits_state fits_args objects (action.Fork text args place_on) may = record {
  performed = (refl, refl);
  only = λ guard reply done. done;
  leaves = refl;
}
outcome_right p fits_state fits_args objects action.Ended may = λ guard reply done. done
outcome_right p fits_state fits_args objects (action.Faulted fault) may = λ guard reply done. done
