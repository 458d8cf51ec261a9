-- What fits goes on fitting as more objects come to be.
use Rattle.std.specs.Prelude.{List}
use Rattle.orca_base.specs.declared.ids.KindNo.{KindNo}
use Rattle.orca_base.specs.declared.ids.OpNo.{OpNo}
use Rattle.orca_base.specs.declared.ids.TextNo.{TextNo}
use Rattle.link_rules.specs.Units.{Source}
use Rattle.value_core.specs.Datum.{Data}
use Rattle.value_core.specs.Fits.{Kinds, ExtendsKinds}
use Rattle.meaning_rules.specs.Fitting.{FitsState, FitsArgs, FitsText}

abbrev pub StatesStay : List Source → Type 0
StatesStay us =
    (kinds more : Kinds) (kind : KindNo) (state : Data) → ExtendsKinds kinds more → FitsState us kinds kind state →
    FitsState us more kind state

abbrev pub ArgumentsStay : List Source → Type 0
ArgumentsStay us =
    (kinds more : Kinds) (kind : KindNo) (op : OpNo) (args : Data) → ExtendsKinds kinds more → FitsArgs us kinds kind op args →
    FitsArgs us more kind op args

abbrev pub TextsStay : List Source → Type 0
TextsStay us =
    (kinds more : Kinds) (text : TextNo) (args : Data) → ExtendsKinds kinds more → FitsText us kinds text args →
    FitsText us more text args
