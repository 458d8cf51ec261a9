-- How many turns an evaluation takes: so many with whatever turns, or it is busy.
use Rattle.std.specs.Prelude.{◌≡◌, ◌≤◌, ℕ, ℤ, ◌+◌, List, Option}
use Rattle.orca_base.specs.declared.ids.TextNo.{TextNo}
use Rattle.orca_base.specs.declared.ids.ProcessNo.{ProcessNo}
use Rattle.orca_tree.specs.declared.tree.Mode.{Mode}
use Rattle.orca_syntax.specs.Syntax.{Expr, Links, Path, Exprs, Stmt, Stmts, Arms}
use Rattle.link_rules.specs.Units.{Source}
use Rattle.type_rules.specs.declared.types.DataType.{DataType}
use Rattle.type_rules.specs.TopLevel.{TopName}
use Rattle.type_rules.specs.Scopes.{Scope, Local}
use Rattle.value_core.specs.Datum.{Datum, Data}
use Rattle.value_core.specs.Goes.{Reaches}
use Rattle.value_core.specs.declared.action.Reply.{Reply}
use Rattle.value_core.specs.declared.meaning.Doing.TheVariants as doing
use Rattle.value_paths.specs.declared.step.Step.{Step as ValueStep}
use Rattle.meaning_rules.specs.States.{State, Out, Goes, Stops, Needs, Faults, Busy}
use Rattle.meaning_rules.specs.Variables.{Target}
use Rattle.meaning_rules.specs.Calls.{Passed}
use Rattle.meaning_rules.specs.Loops.{Flow, while_round, until_round, repeated, count}
use Rattle.meaning_rules.specs.Expressions.{eval, eval_links, eval_path, eval_all, eval_passed, eval_target}
use Rattle.meaning_rules.specs.Statements.{run, run_all, run_arms}
use Rattle.meaning_rules.specs.Functions.{calls}
use Rattle.meaning_rules.specs.Processes.{variables_made, text_run, next_doing}

abbrev pub with_left : ℕ → State → State
with_left n s = record s { left = n }

-- the last turn may not be begun, so that where some are used one is left
abbrev pub IsEnough : ℕ → ℕ → Type 0
IsEnough used left = 1 ≤ used → 1 ≤ left

-- it uses so many turns, with which it gives this by those that are left; with so few or fewer it is busy
pub record Counts {A : Type 0} (f : State → Out A) (s : State) (out : ℕ → Out A) (left : ℕ) : Type 0 where
  pub used : ℕ
  pub all : s.left ≡ used + left
  pub last : IsEnough used left
  pub enough : (n : ℕ) → IsEnough used n → f (with_left (used + n) s) ≡ out n
  pub short : (n : ℕ) → 1 ≤ used → n ≤ used → f (with_left n s) ≡ Stops Busy

abbrev pub CountedTo : {A : Type 0} → (State → Out A) → State → Out A → Type 0
CountedTo f s (Goes x s1) = Counts f s (λ n. Goes x (with_left n s1)) s1.left
CountedTo f s (Stops (Needs action)) = (left : ℕ) × Counts f s (λ n. Stops (Needs action)) left
CountedTo f s (Stops (Faults fault)) = (left : ℕ) × Counts f s (λ n. Stops (Faults fault)) left
CountedTo f s (Stops Busy) = (n : ℕ) → n ≤ s.left → f (with_left n s) ≡ Stops Busy

pub record Counted (A : Type 0) (f : State → Out A) : Type 0 where
  pub counted : (s : State) → CountedTo f s (f s)

-- phrases, whatever levels of calls are left; loops of what does; functions; and processes
pub record CountsTurns (us : List Source) : Type 0 where
  pub values : (levels : ℕ) (v : Scope) (e : Expr) → Counted Datum (eval (calls us levels) v e)
  pub links : (levels : ℕ) (v : Scope) (ls : Links) (left : Datum) → Counted Datum (eval_links (calls us levels) v ls left)
  pub paths : (levels : ℕ) (v : Scope) (t : Option DataType) (p : Path) → Counted (List ValueStep) (eval_path (calls us levels) v t p)
  pub rows : (levels : ℕ) (v : Scope) (es : Exprs) → Counted (List Datum) (eval_all (calls us levels) v es)
  pub passed : (levels : ℕ) (v : Scope) (modes : List Mode) (es : Exprs) → Counted (List Passed) (eval_passed (calls us levels) v modes es)
  pub targets : (levels : ℕ) (v : Scope) (e : Expr) → Counted Target (eval_target (calls us levels) v e)
  pub statement : (levels : ℕ) (v : Scope) (x : Stmt) → Counted Flow (run (calls us levels) v x)
  pub statements : (levels : ℕ) (v : Scope) (ss : Stmts) → Counted Flow (run_all (calls us levels) v ss)
  pub arms : (levels : ℕ) (v : Scope) (as_ : Arms) → Counted Flow (run_arms (calls us levels) v as_)
  pub whiles : (test : State → Out Datum) (body : State → Out Flow) → Counted Datum test → Counted Flow body → Counted Flow (repeated (while_round test body))
  pub untils : (test : State → Out Datum) (body : State → Out Flow) → Counted Datum test → Counted Flow body → Counted Flow (repeated (until_round test body))
  pub counted : (n : ℕ) (i : ℤ) (body : State → Out Flow) → Counted Flow body → Counted Flow (count n i body)
  pub functions : (levels i : ℕ) (given : List Passed) → Counted (Option Datum) (calls us levels i given)
  pub makes : (number : ProcessNo) (ls : List Local) (made : ℕ) → Counted (List Datum) (variables_made us number ls made)
  pub texts : (number : ProcessNo) (args : Data) (text : Option TopName) → Counted Flow (text_run us number args text)

-- ---- processes

-- once it isn't busy, it was reached after so many turns of these
abbrev pub TakesTurns : List Source → Type 0
TakesTurns us =
    (text : TextNo) (number : ProcessNo) (args : Data) (replies : List Reply) (n : ℕ) → (next_doing us text number args replies n ≡ doing.Busy → ⊥) →
    (used : ℕ) × (used ≤ n) × Reaches (next_doing us text number args replies) used (next_doing us text number args replies n)
