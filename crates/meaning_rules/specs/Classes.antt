-- Reads and writes (docs/LANGUAGE.md, Reads and writes).
use Rattle.std.specs.Prelude.{Bool, false, ◌||◌, List, [], ◌∷◌, drop, slice_get, if◌then◌else◌, Option, Some, None}
use Rattle.std.specs.Option.{option_map_or}
use Rattle.std.specs.List.{list_any}
use Rattle.orca_base.specs.declared.ids.KindNo.{KindNo}
use Rattle.orca_base.specs.declared.ids.OpNo.{OpNo}
use Rattle.orca_tree.specs.declared.tree.Name.{Name}
use Rattle.orca_tree.specs.declared.tree.Mode.{Mode}
use Rattle.orca_tree.specs.declared.tree.Mode.TheVariants as mode
use Rattle.orca_syntax.specs.Syntax as syn
use Rattle.orca_syntax.specs.Syntax.{Expr, Links, Step, Path, Exprs, Stmt, Stmts, Arm, Arms, Body, Operation}
use Rattle.link_rules.specs.Units.{Source}
use Rattle.type_rules.specs.Scopes.{Scope, local, is_field}
use Rattle.type_rules.specs.Statements.{with_loop}
use Rattle.value_core.specs.declared.action.Class.{Class}
use Rattle.value_core.specs.declared.action.Class.TheVariants.{Reads, Writes}
use Rattle.meaning_rules.specs.Programs.{ObjectType, object_type, operation_scope}
use Rattle.meaning_rules.specs.Calls.{callee, modes_of, first_mode}

-- whether a name is that of a field of the object
abbrev pub names_field : Scope → Name → Bool
names_field v n = option_map_or (λ l. is_field l.role) (local v n.text) false

-- whether the root of an argument is a field that is passed for `out`, or as a graph to be changed
abbrev pub lends_field : Scope → Mode → Expr → Bool
lends_field v mode.Out (syn.Get n p) = names_field v n
lends_field v _ _ = false

-- ---- whether a field is changed: it is the root of an assignment, an `insert`, a `delete`, a `from`, or of an argument for `out`

abbrev mutual
  pub changes : Scope → Expr → Bool
  changes v (syn.Chain first ls) = changes v first || links_change v ls
  changes v (syn.Not at e) = changes v e
  changes v (syn.Negative at e) = changes v e
  changes v (syn.Parentheses at e) = changes v e
  changes v (syn.From at n p) = names_field v n || path_changes v p
  changes v (syn.Size at e) = changes v e
  changes v (syn.Ordinal at e) = changes v e
  changes v (syn.Get n p) = path_changes v p
  changes v (Expr.Call n es) = arguments_change v (modes_of (callee v n)) es
  changes v (Expr.Invoke o m es) = arguments_change v [] es
  changes v _ = false

  pub links_change : Scope → Links → Bool
  links_change v syn.no_link = false
  links_change v (syn.link operator e ls) = changes v e || links_change v ls

  pub path_changes : Scope → Path → Bool
  path_changes v syn.here = false
  path_changes v (syn.to x p) = step_changes v x || path_changes v p

  pub step_changes : Scope → Step → Bool
  step_changes v (syn.Field at f) = false
  step_changes v (syn.Index at e) = changes v e

  pub arguments_change : Scope → List Mode → Exprs → Bool
  arguments_change v modes syn.no_expr = false
  arguments_change v modes (syn.expr e es) = lends_field v (first_mode modes) e || (changes v e || arguments_change v (drop 1 modes) es)

abbrev pub changes_if_any : Scope → Option Expr → Bool
changes_if_any v None = false
changes_if_any v (Some e) = changes v e

abbrev mutual
  pub stmt_changes : Scope → Stmt → Bool
  stmt_changes v (syn.Return at e) = changes_if_any v e
  stmt_changes v (syn.If at as_) = arms_change v as_
  stmt_changes v (syn.While at test ss) = changes v test || stmts_change v ss
  stmt_changes v (syn.For at n low high ss) = changes v low || (changes v high || stmts_change (with_loop v n) ss)
  stmt_changes v (syn.Repeat at ss test) = stmts_change v ss || changes v test
  stmt_changes v (syn.Fork at p es on) = arguments_change v [] es || changes_if_any v on
  stmt_changes v (syn.WriteLine at es) = arguments_change v [] es
  stmt_changes v (syn.Insert at e n p) = changes v e || (names_field v n || path_changes v p)
  stmt_changes v (syn.Delete at e n p) = changes v e || (names_field v n || path_changes v p)
  stmt_changes v (syn.Assign n p e) = names_field v n || (path_changes v p || changes v e)
  stmt_changes v (Stmt.Call n es) = arguments_change v (modes_of (callee v n)) es
  stmt_changes v (Stmt.Invoke o m es) = arguments_change v [] es

  pub stmts_change : Scope → Stmts → Bool
  stmts_change v syn.no_stmt = false
  stmts_change v (syn.stmt x xs) = stmt_changes v x || stmts_change v xs

  pub arms_change : Scope → Arms → Bool
  arms_change v syn.no_arm = false
  arms_change v (syn.arm a as_) = arm_changes v a || arms_change v as_

  pub arm_changes : Scope → Arm → Bool
  arm_changes v (syn.When test ss) = changes v test || stmts_change v ss
  arm_changes v (syn.Otherwise ss) = stmts_change v ss

-- ---- the class of an operation: it is a read where its body changes no field; what `WriteLine` does is a write

-- guards change nothing, as rule 18 of typing says, but count like bodies
abbrev pub body_changes : Scope → Body → Bool
body_changes v (syn.Guarded first others) = list_any (λ g. changes v g.test || stmts_change v g.body) (first ∷ others)
body_changes v (syn.Plain ss) = stmts_change v ss

abbrev pub operation_class : List Source → ObjectType → Operation → Class
operation_class us t o = if body_changes (operation_scope us t o false) o.body then Writes else Reads

abbrev pub type_class : List Source → OpNo → ObjectType → Class
type_class us op t = option_map_or (operation_class us t) (slice_get t.operations op.0) Writes

abbrev pub class_of : List Source → KindNo → OpNo → Class
class_of us kind op = option_map_or (type_class us op) (object_type us kind) Writes
