-- That replies are used from the front, one by each action, and that what needs none stays so with more.
use Rattle.std.specs.Prelude.{◌≡◌, ℕ, ℤ, List, ◌∷◌, ◌++◌, Option}
use Rattle.orca_base.specs.declared.fault.FaultKind.{FaultKind}
use Rattle.orca_base.specs.declared.ids.TextNo.{TextNo}
use Rattle.orca_base.specs.declared.ids.ProcessNo.{ProcessNo}
use Rattle.orca_tree.specs.declared.tree.Mode.{Mode}
use Rattle.orca_syntax.specs.Syntax.{Expr, Links, Path, Exprs, Stmt, Stmts, Arms}
use Rattle.link_rules.specs.Units.{Source}
use Rattle.type_rules.specs.declared.types.DataType.{DataType}
use Rattle.type_rules.specs.Scopes.{Scope, Local}
use Rattle.value_core.specs.Datum.{Datum, Data}
use Rattle.value_core.specs.declared.action.Action.TheVariants as action
use Rattle.value_core.specs.declared.action.Reply.{Reply}
use Rattle.value_core.specs.declared.action.Reply.TheVariants as reply
use Rattle.value_core.specs.declared.meaning.Doing.{Doing}
use Rattle.value_core.specs.declared.meaning.Doing.TheVariants as doing
use Rattle.value_paths.specs.declared.step.Step.{Step as ValueStep}
use Rattle.meaning_rules.specs.States.{State, Out, Goes, Stops, Needs, Faults, Busy}
use Rattle.meaning_rules.specs.Variables.{Target}
use Rattle.meaning_rules.specs.Calls.{Passed}
use Rattle.meaning_rules.specs.Loops.{Flow, Round, loop, count}
use Rattle.meaning_rules.specs.Expressions.{eval, eval_links, eval_path, eval_all, eval_passed, eval_target}
use Rattle.meaning_rules.specs.Statements.{run, run_all, run_arms}
use Rattle.meaning_rules.specs.Functions.{calls}
use Rattle.meaning_rules.specs.Processes.{variables_made, next_doing}

-- ---- evaluations

abbrev pub with_replies : List Reply → State → State
with_replies replies s = record s { replies = replies }

-- where an evaluation goes on, it used replies from the front, and with these goes on so whatever stands behind them; where it faults or
-- begins the last turn, it does so with more replies behind; where it needs the reply to an action, the first reply behind is that one, so
-- that a fault there is its own
abbrev pub Fronted : {A : Type 0} → (State → Out A) → State → Out A → Type 0
Fronted f s (Goes x s1) =
    (used : List Reply) × (s.replies ≡ used ++ s1.replies)
    × ((rest : List Reply) → f (with_replies (used ++ rest) s) ≡ Goes x (with_replies rest s1))
Fronted f s (Stops (Needs action)) =
    (fault : FaultKind) (rest : List Reply) → f (with_replies (s.replies ++ reply.Broke fault ∷ rest) s) ≡ Stops (Faults fault)
Fronted f s (Stops (Faults fault)) = (rest : List Reply) → f (with_replies (s.replies ++ rest) s) ≡ Stops (Faults fault)
Fronted f s (Stops Busy) = (rest : List Reply) → f (with_replies (s.replies ++ rest) s) ≡ Stops Busy

pub record Front (A : Type 0) (f : State → Out A) : Type 0 where
  pub front : (s : State) → Fronted f s (f s)

-- phrases, whatever levels of calls are left; rounds, where one does; functions; and what a process makes
pub record UsesFront (us : List Source) : Type 0 where
  pub values : (levels : ℕ) (v : Scope) (e : Expr) → Front Datum (eval (calls us levels) v e)
  pub links : (levels : ℕ) (v : Scope) (ls : Links) (left : Datum) → Front Datum (eval_links (calls us levels) v ls left)
  pub paths : (levels : ℕ) (v : Scope) (t : Option DataType) (p : Path) → Front (List ValueStep) (eval_path (calls us levels) v t p)
  pub rows : (levels : ℕ) (v : Scope) (es : Exprs) → Front (List Datum) (eval_all (calls us levels) v es)
  pub passed : (levels : ℕ) (v : Scope) (modes : List Mode) (es : Exprs) → Front (List Passed) (eval_passed (calls us levels) v modes es)
  pub targets : (levels : ℕ) (v : Scope) (e : Expr) → Front Target (eval_target (calls us levels) v e)
  pub statement : (levels : ℕ) (v : Scope) (x : Stmt) → Front Flow (run (calls us levels) v x)
  pub statements : (levels : ℕ) (v : Scope) (ss : Stmts) → Front Flow (run_all (calls us levels) v ss)
  pub arms : (levels : ℕ) (v : Scope) (as_ : Arms) → Front Flow (run_arms (calls us levels) v as_)
  pub rounds : (k : ℕ) (round : State → Out Round) → Front Round round → Front Flow (loop k round)
  pub counted : (n : ℕ) (i : ℤ) (body : State → Out Flow) → Front Flow body → Front Flow (count n i body)
  pub functions : (levels i : ℕ) (given : List Passed) → Front (Option Datum) (calls us levels i given)
  pub makes : (number : ProcessNo) (ls : List Local) (made : ℕ) → Front (List Datum) (variables_made us number ls made)

-- ---- processes

-- it has ended, it has faulted, or it is busy
abbrev pub IsOver : Doing → Type 0
IsOver (doing.At action.Ended) = Unit {0}
IsOver (doing.At (action.Faulted fault)) = Unit {0}
IsOver doing.Busy = Unit {0}
IsOver _ = ⊥

-- and that stays with more replies
abbrev pub StaysOver : List Source → Type 0
StaysOver us =
    (text : TextNo) (number : ProcessNo) (args : Data) (replies more : List Reply) (turns : ℕ) →
    IsOver (next_doing us text number args replies turns) →
    next_doing us text number args (replies ++ more) turns ≡ next_doing us text number args replies turns
