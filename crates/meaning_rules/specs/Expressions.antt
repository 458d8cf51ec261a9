-- Expressions (docs/LANGUAGE.md, Expressions): from the left to the right, by recursion on the syntax.
use Rattle.std.specs.Prelude.{pos, Bool, true, false, not, List, [], ◌∷◌, drop, unwrap_or, Option}
use Rattle.orca_tree.specs.declared.tree.Operator.{Operator}
use Rattle.orca_tree.specs.declared.tree.Mode.{Mode}
use Rattle.orca_syntax.specs.Syntax as syn
use Rattle.orca_syntax.specs.Syntax.{Expr, Links, Step, Path, Exprs}
use Rattle.type_rules.specs.declared.types.DataType.{DataType}
use Rattle.type_rules.specs.Scopes.{Scope}
use Rattle.value_core.specs.Datum.{Datum}
use Rattle.value_core.specs.Datum as datum
use Rattle.value_ops.specs.Integers.{negative_of}
use Rattle.value_ops.specs.Sizes.{number_in, ordinal_of}
use Rattle.value_paths.specs.declared.step.Step.{Step as ValueStep}
use Rattle.meaning_rules.specs.Operators.{integer_in, truth_in, of_integer, decides, applied, fitting}
use Rattle.meaning_rules.specs.States.{State, Out, Goes, after, gives}
use Rattle.meaning_rules.specs.Designators.{root_type, stepped_type, step_to_field, step_by_index}
use Rattle.meaning_rules.specs.Variables.{Target, target, nowhere, load, take}
use Rattle.meaning_rules.specs.Calls.{Calls, Passed, as_passed, first_mode, callee, modes_of, fresh_node, invoked, operate}

-- the right operand is evaluated only where the left one doesn't decide
abbrev pub joined_with : Bool → Operator → Datum → (State → Out Datum) → State → Out Datum
joined_with true operator left right s = Goes left s
joined_with false operator left right s = after (right s) (λ x s1. gives (applied operator left x) s1)

abbrev pub linked : Operator → Datum → (State → Out Datum) → State → Out Datum
linked operator left right s = joined_with (decides operator left) operator left right s

-- the result of a call; no expression has a call without one
abbrev pub result : Option Datum → Datum
result x = unwrap_or x (datum.int (pos 0))

module _ (call : Calls) where
  abbrev mutual
    pub eval : Scope → Expr → State → Out Datum
    eval v (syn.Chain first ls) s = after (eval v first s) (λ x s1. eval_links v ls x s1)
    eval v (syn.Number at value) s = Goes (datum.int value) s
    eval v (syn.Char at code) s = Goes (datum.char code) s
    eval v (syn.Text at text) s = gives (fitting (datum.text text)) s
    eval v (syn.Truth at value) s = Goes (datum.truth value) s
    eval v (syn.Not at e) s = after (eval v e s) (λ x s1. Goes (datum.truth (not (truth_in x))) s1)
    eval v (syn.Negative at e) s = after (eval v e s) (λ x s1. gives (of_integer (negative_of (integer_in x))) s1)
    eval v (syn.Parentheses at e) s = eval v e s
    eval v (syn.From at n p) s = after (eval_path v (root_type v n) p s) (λ path s1. take (target v n path) s1)
    eval v (syn.Size at e) s = after (eval v e s) (λ x s1. Goes (datum.int (pos (number_in x))) s1)
    eval v (syn.Ordinal at e) s = after (eval v e s) (λ x s1. Goes (datum.int (pos (ordinal_of x))) s1)
    eval v (syn.Get n p) s = after (eval_path v (root_type v n) p s) (λ path s1. load v n path s1)
    eval v (Expr.Call n es) s =
        after (eval_passed v (modes_of (callee v n)) es s) (λ ps s1.
        after (invoked call (callee v n) (fresh_node v es) ps s1) (λ x s2. Goes (result x) s2))
    eval v (Expr.Invoke o m es) s =
        after (eval_all v es s) (λ xs s1. after (operate v o m xs s1) (λ x s2. Goes (result x) s2))

    -- operators behind a left operand
    pub eval_links : Scope → Links → Datum → State → Out Datum
    eval_links v syn.no_link left s = Goes left s
    eval_links v (syn.link operator e ls) left s = after (linked operator left (eval v e) s) (λ x s1. eval_links v ls x s1)

    -- the steps of a path behind a type, with its indices evaluated one after the other
    pub eval_path : Scope → Option DataType → Path → State → Out (List ValueStep)
    eval_path v t syn.here s = Goes [] s
    eval_path v t (syn.to x p) s =
        after (eval_step v t x s) (λ step s1. after (eval_path v (stepped_type v t x) p s1) (λ path s2. Goes (step ∷ path) s2))

    pub eval_step : Scope → Option DataType → Step → State → Out ValueStep
    eval_step v t (syn.Field at f) s = Goes (step_to_field v t f) s
    eval_step v t (syn.Index at e) s = after (eval v e s) (λ index s1. Goes (step_by_index t index) s1)

    -- values in a row
    pub eval_all : Scope → Exprs → State → Out (List Datum)
    eval_all v syn.no_expr s = Goes [] s
    eval_all v (syn.expr e es) s = after (eval v e s) (λ x s1. after (eval_all v es s1) (λ xs s2. Goes (x ∷ xs) s2))

    -- arguments in a row, each as its parameter says
    pub eval_passed : Scope → List Mode → Exprs → State → Out (List Passed)
    eval_passed v modes syn.no_expr s = Goes [] s
    eval_passed v modes (syn.expr e es) s =
        after (as_passed (first_mode modes) (eval v e) (eval_target v e) s) (λ x s1.
        after (eval_passed v (drop 1 modes) es s1) (λ xs s2. Goes (x ∷ xs) s2))

    -- the place that a designator leads to
    pub eval_target : Scope → Expr → State → Out Target
    eval_target v (syn.Get n p) s = after (eval_path v (root_type v n) p s) (λ path s1. Goes (target v n path) s1)
    eval_target v _ s = Goes (nowhere v) s
