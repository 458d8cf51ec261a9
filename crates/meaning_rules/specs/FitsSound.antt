-- What fits is sound: bytes spell it.
use Rattle.std.specs.Prelude.{List}
use Rattle.orca_base.specs.declared.ids.KindNo.{KindNo}
use Rattle.orca_base.specs.declared.ids.OpNo.{OpNo}
use Rattle.orca_base.specs.declared.ids.TextNo.{TextNo}
use Rattle.link_rules.specs.Units.{Source}
use Rattle.value_core.specs.Datum.{Data}
use Rattle.value_core.specs.Fits.{AreNumbered, Kinds}
use Rattle.value_core.specs.Sound.{AreSound, AreSoundArguments, IsSoundReply}
use Rattle.value_core.specs.declared.action.Reply.{Reply}
use Rattle.meaning_rules.specs.Fitting.{FitsState, FitsArgs, FitsText, FitsReply}

pub record FitsSound (us : List Source) : Type 0 where
  pub states : (kinds : Kinds) (kind : KindNo) (state : Data) → FitsState us kinds kind state → AreSound state
  pub arguments : (kinds : Kinds) (kind : KindNo) (op : OpNo) (args : Data) → FitsArgs us kinds kind op args → AreSoundArguments args
  pub texts : (kinds : Kinds) (text : TextNo) (args : Data) → AreNumbered kinds → FitsText us kinds text args → AreSoundArguments args
  pub replies : (kind : KindNo) (op : OpNo) (answer : Reply) → FitsReply us kind op answer → IsSoundReply answer
