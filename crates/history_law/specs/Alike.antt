-- What carries a history from one meaning of a program to another: that both mean the same on what fits.
use Rattle.std.specs.Prelude.{◌≡◌, ℕ, List}
use Rattle.orca_base.specs.declared.ids.KindNo.{KindNo}
use Rattle.orca_base.specs.declared.ids.OpNo.{OpNo}
use Rattle.orca_base.specs.declared.ids.ProcessNo.{ProcessNo}
use Rattle.orca_base.specs.declared.ids.TextNo.{TextNo}
use Rattle.value_core.specs.Datum.{Data}
use Rattle.value_core.specs.Fits.{Kinds}
use Rattle.value_core.specs.Lawful.{RepliesFit}
use Rattle.value_core.specs.declared.action.Line.{Line}
use Rattle.value_core.specs.declared.action.Reply.{Reply}
use Rattle.value_core.specs.Meaning.{Performs, Computes}
use Rattle.value_core.specs.History.{Legal, after_lines, opening}
use Rattle.book_law.specs.Fitness.{ArgsFit, ReplyFits, StateFits, TextFits}

-- r and s mean on what fits the same as p and q: makings, tries, and what processes do
pub record MeanAlike (fits_state : StateFits) (fits_args : ArgsFit) (fits_text : TextFits) (fits_reply : ReplyFits) (p r : Performs)
    (q s : Computes) : Type 0 where
  pub main : s.main ≡ q.main
  pub made : (kind : KindNo) → r.made kind ≡ p.made kind
  pub tries :
      (kinds : Kinds) (kind : KindNo) (op : OpNo) (state args : Data) → fits_state kinds kind state → fits_args kinds kind op args →
      r.tries kind op state args ≡ p.tries kind op state args
  pub doing :
      (kinds : Kinds) (text : TextNo) (number : ProcessNo) (args : Data) (replies : List Reply) (n : ℕ) → fits_text kinds text args →
      RepliesFit q fits_reply text number args replies → s.doing text number args replies n ≡ q.doing text number args replies n

-- then each history of the one is one of the other, with the same objects and processes behind it
abbrev pub HistoriesCarry : Performs → Computes → StateFits → ArgsFit → TextFits → ReplyFits → Type 0
HistoriesCarry p q fits_state fits_args fits_text fits_reply =
    (r : Performs) (s : Computes) → MeanAlike fits_state fits_args fits_text fits_reply p r q s → (lines : List Line) → Legal p q lines →
    Legal r s lines × (after_lines r (opening s) lines ≡ after_lines p (opening q) lines)
