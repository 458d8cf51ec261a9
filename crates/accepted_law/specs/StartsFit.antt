-- That bodies begin in variables that fit (docs/LANGUAGE.md, Bodies): those of functions, operations, makings and processes.
use Rattle.std.specs.Prelude.{◌≡◌, ℕ, ◌+◌, false, List, [], ◌∷◌, ◌++◌, length, drop, slice_get, Option, Some, None}
use Rattle.std.specs.List.{Contains}
use Rattle.orca_base.specs.declared.ids.KindNo.{KindNo}
use Rattle.orca_base.specs.declared.ids.OpNo.{OpNo}
use Rattle.orca_base.specs.declared.ids.ProcessNo.{ProcessNo}
use Rattle.orca_base.specs.declared.ids.TextNo.{TextNo}
use Rattle.orca_tree.specs.declared.tree.Name.{Name}
use Rattle.orca_syntax.specs.Syntax.{Kind, Parameter, Operation, Block}
use Rattle.link_rules.specs.Units.{Source}
use Rattle.type_rules.specs.TopLevel as top
use Rattle.type_rules.specs.TopLevel.{TopName, top_names}
use Rattle.type_rules.specs.Scopes.{Local, Scope, signature}
use Rattle.type_rules.specs.Statements.{with_loop}
use Rattle.value_core.specs.Datum.{Datum, Data, list_of}
use Rattle.value_core.specs.Fits.{Kinds, ExtendsKinds}
use Rattle.meaning_rules.specs.Accepted.{IsPlain}
use Rattle.meaning_rules.specs.Calls.{Passed}
use Rattle.meaning_rules.specs.Fitting.{AreFitting, FitsArgs, FitsState, FitsText}
use Rattle.meaning_rules.specs.Functions.{opened, own_frame}
use Rattle.meaning_rules.specs.Operations.{operation_start}
use Rattle.meaning_rules.specs.PhrasesFit.{AreGiven}
use Rattle.meaning_rules.specs.Processes.{object_type_of, own_object, variables_made}
use Rattle.meaning_rules.specs.Programs.{ObjectType, begin_scope, function_scope, kind_of, object_type, operation_scope, process_scope, process_texts}
use Rattle.meaning_rules.specs.States.{State, Goes}

-- the objects that a process's variables make are among these, with their types; they are numbered from here on
abbrev pub IsMadeIn : List Source → Kinds → ProcessNo → ℕ → Option ℕ → (ℕ → Type 0) → Type 0
IsMadeIn us kinds number count None others = others count
IsMadeIn us kinds number count (Some i) others = Contains kinds (own_object number count, kind_of us i) × others (count + 1)

abbrev pub AreMadeIn : List Source → Kinds → ProcessNo → List Local → ℕ → Type 0
AreMadeIn us kinds number [] count = Unit {0}
AreMadeIn us kinds number (l ∷ ls) count = IsMadeIn us kinds number count (object_type_of l) (AreMadeIn us kinds number ls)

pub record StartsFit (us : List Source) : Type 0 where
  pub functions : (kinds : Kinds) (ls : List Local) (i : ℕ) (t : TopName) (ps : List Parameter) (r : Option Kind) (b : Block)
      (given : List Passed) → slice_get (top_names us) i ≡ Some t → t.what ≡ top.Function ps r b →
      AreGiven us kinds ls given (signature us t.defined.by ps r b).formals →
      AreFitting us kinds (own_frame us (function_scope us t.defined.by ps r b) given) (function_scope us t.defined.by ps r b).locals
  pub operations : (kinds : Kinds) (kind : KindNo) (op : OpNo) (t : ObjectType) (o : Operation) (state args : Data) →
      object_type us kind ≡ Some t → slice_get t.operations op.0 ≡ Some o → FitsState us kinds kind state →
      FitsArgs us kinds kind op args →
      AreFitting us kinds (operation_start us t o state args).frame (operation_scope us t o false).locals
  pub makings : (kinds : Kinds) (kind : KindNo) (t : ObjectType) → object_type us kind ≡ Some t →
      AreFitting us kinds (opened us (begin_scope us t).locals) (begin_scope us t).locals
  -- once the objects of its variables are made
  pub processes : (kinds more : Kinds) (text : TextNo) (t : TopName) (ps : List Parameter) (b : Block) (number : ProcessNo) (args : Data)
      (s s1 : State) (xs : List Datum) → slice_get (process_texts us) text.0 ≡ Some t → t.what ≡ top.Process ps b →
      FitsText us kinds text args → ExtendsKinds kinds more →
      variables_made us number (drop (length (list_of args)) (process_scope us t.defined.by ps b).locals) 1 s ≡ Goes xs s1 →
      AreMadeIn us more number (drop (length (list_of args)) (process_scope us t.defined.by ps b).locals) 1 →
      AreFitting us more (list_of args ++ xs) (process_scope us t.defined.by ps b).locals
  -- and in a loop the names of a scope are such
  pub loops : (v : Scope) (n : Name) → IsPlain v → IsPlain (with_loop v n)
