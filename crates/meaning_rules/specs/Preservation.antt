-- Preservation, phrase by phrase and for whole programs (PhrasesFit.antt, Accepted.antt).
use Rattle.std.specs.Prelude.{◌≡◌, ℕ, List, [], Some}
use Rattle.orca_base.specs.declared.ids.KindNo.{KindNo}
use Rattle.orca_base.specs.declared.ids.OpNo.{OpNo}
use Rattle.orca_base.specs.declared.ids.TextNo.{TextNo}
use Rattle.orca_base.specs.declared.ids.ProcessNo.{ProcessNo}
use Rattle.orca_syntax.specs.Sound.{IsSoundExpr, IsSoundPath, AreSoundStmts}
use Rattle.orca_syntax.specs.Syntax.{Expr, Path, Stmts}
use Rattle.link_rules.specs.Units.{Source}
use Rattle.type_rules.specs.declared.types.DataType.{DataType}
use Rattle.type_rules.specs.Rules.{found}
use Rattle.type_rules.specs.Scopes.{Scope}
use Rattle.type_rules.specs.Expressions.{typed, walked}
use Rattle.type_rules.specs.Statements.{stmts_breaches}
use Rattle.value_core.specs.Datum.{Datum, Data}
use Rattle.value_core.specs.Datum as datum
use Rattle.value_core.specs.Fits.{Kinds, IfMade, KeepsState, RepliesWell}
use Rattle.value_core.specs.Lawful.{RepliesFit, IsLawful}
use Rattle.value_core.specs.declared.action.Reply.{Reply}
use Rattle.value_paths.specs.declared.step.Step.{Step as ValueStep}
use Rattle.meaning_rules.specs.Programs.{main_text}
use Rattle.meaning_rules.specs.Expressions.{eval, eval_path}
use Rattle.meaning_rules.specs.Loops.{Flow}
use Rattle.meaning_rules.specs.Statements.{run_all}
use Rattle.meaning_rules.specs.Functions.{calls}
use Rattle.meaning_rules.specs.Operations.{tries_of, making_of}
use Rattle.meaning_rules.specs.Meanings.{computes_of}
use Rattle.meaning_rules.specs.Fitting.{Fits, FitsState, FitsArgs, FitsText, FitsReply}
use Rattle.meaning_rules.specs.PathsFit.{Leads}
use Rattle.meaning_rules.specs.PhrasesFit.{Preserves, Returns, CallsFit}

-- ---- phrases, whatever levels of calls are left

-- an expression without a breach gives a value of its type
abbrev pub ValuesFit : Scope → Type 0
ValuesFit v =
    (kinds : Kinds) (levels : ℕ) (e : Expr) → IsSoundExpr e → (typed v e).breaches ≡ [] →
    Preserves v.program kinds v.locals Datum (λ x. Fits v.program kinds x (typed v e).is) (eval (calls v.program levels) v e)

-- a path without a breach leads from its root's type to its own
abbrev pub PathsLead : Scope → Type 0
PathsLead v =
    (kinds : Kinds) (levels : ℕ) (t : DataType) (p : Path) → IsSoundPath p → (walked v (found (Some t)) p).breaches ≡ [] →
    Preserves v.program kinds v.locals (List ValueStep)
    (λ path. (u : DataType) × ((walked v (found (Some t)) p).is ≡ Some u) × Leads v.program path t u)
    (eval_path (calls v.program levels) v (Some t) p)

-- statements without a breach return what their body's result is
abbrev pub StatementsFit : Scope → Type 0
StatementsFit v =
    (kinds : Kinds) (levels : ℕ) (ss : Stmts) → AreSoundStmts ss → stmts_breaches v ss ≡ [] →
    Preserves v.program kinds v.locals Flow (Returns v.program kinds v.result) (run_all (calls v.program levels) v ss)

-- where each name has a type
pub record PhrasesPreserve (v : Scope) : Type 0 where
  pub values : ValuesFit v
  pub paths : PathsLead v
  pub statements : StatementsFit v

-- ---- programs

pub record Preservation (us : List Source) : Type 0 where
  -- functions, at whatever level
  pub functions : (kinds : Kinds) (levels : ℕ) → CallsFit us kinds (calls us levels)
  -- a made state fits; what a try leaves fits again, and what it replies fits
  pub makings : (kinds : Kinds) (kind : KindNo) → IfMade (making_of us kind) (FitsState us kinds kind)
  pub states : (kinds : Kinds) (kind : KindNo) (op : OpNo) (state args : Data) → FitsState us kinds kind state →
      FitsArgs us kinds kind op args →
      KeepsState (tries_of us kind op state args) (FitsState us kinds kind)
  pub replies : (kinds : Kinds) (kind : KindNo) (op : OpNo) (state args : Data) → FitsState us kinds kind state →
      FitsArgs us kinds kind op args →
      RepliesWell (tries_of us kind op state args) (FitsReply us kind op)
  -- processes are lawful, and the first one has no arguments
  pub processes : (kinds : Kinds) (text : TextNo) (number : ProcessNo) (args : Data) (replies : List Reply) → FitsText us kinds text args →
      RepliesFit (computes_of us) (FitsReply us) text number args replies →
      IsLawful (computes_of us) (FitsArgs us) (FitsText us) kinds text number args replies
  pub main : (kinds : Kinds) → FitsText us kinds (main_text us) datum.none
