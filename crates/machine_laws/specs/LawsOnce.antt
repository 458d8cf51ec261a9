-- Of the laws of values there is one proof, so that a machine may keep it.
use Rattle.std.proofs.Common.{refl, false}
use Rattle.std.proofs.Props.{props}
use Rattle.std.specs.Coded.{Coded, code_by}
use Rattle.value_core.specs.Code.{data_code}
use Rattle.value_core.specs.Datum.{Datum, Data}
use Rattle.value_core.specs.Datum as datum
use Rattle.value_core.specs.Sound.{AreWellFormed, IsSound, IsWellFormed}
use Rattle.value_ops.specs.Elements.{IsInOrder}
use Rattle.graph_values.specs.Graphs.{IsGraph}
use Rattle.machine_laws.specs.ValueLaws.{ValueLaws}

abbrev first_in : Data → Datum
first_in datum.none = datum.truth false
first_in (datum.more v w) = v

datum_code : Coded Datum
datum_code = code_by Data data_code (λ v. datum.more v datum.none) first_in (λ v. refl)

in_order_once : (v : Datum) → IsProp (IsInOrder v)
in_order_once (datum.set w) = hlevel props
in_order_once (datum.bag w) = hlevel props
in_order_once (datum.int z) = hlevel
in_order_once (datum.truth b) = hlevel
in_order_once (datum.char c) = hlevel
in_order_once (datum.enumerated n) = hlevel
in_order_once (datum.text t) = hlevel
in_order_once (datum.array w) = hlevel
in_order_once (datum.fields w) = hlevel
in_order_once (datum.object p n) = hlevel

mutual
  well_formed_once : (v : Datum) → IsProp (IsWellFormed v)
  well_formed_once (datum.int z) = hlevel props
  well_formed_once (datum.truth b) = hlevel
  well_formed_once (datum.char c) = hlevel props
  well_formed_once (datum.enumerated n) = hlevel props
  well_formed_once (datum.text t) = hlevel props
  well_formed_once (datum.array w) = let all = all_once w in hlevel (props, all)
  well_formed_once (datum.fields w) = let all = all_once w in hlevel (props, all)
  well_formed_once (datum.set w) = let all = all_once w in hlevel (props, all)
  well_formed_once (datum.bag w) = let all = all_once w in hlevel (props, all)
  well_formed_once (datum.object p n) = hlevel props

  all_once : (w : Data) → IsProp (AreWellFormed w)
  all_once datum.none = hlevel
  all_once (datum.more v w) = let one = well_formed_once v in let all = all_once w in hlevel (one, all)

sound_once : (v : Datum) → IsProp (IsSound v)
sound_once v = let formed = well_formed_once v in hlevel (props, formed)

graph_once : (g : Datum) → IsProp (IsGraph g)
graph_once g = hlevel (props, datum_code)

pub ValueLaws-prop : IsProp ValueLaws
ValueLaws-prop = hlevel (props, in_order_once, sound_once, graph_once)
