-- What a value shows, and that it is what it shows.
use Rattle.std.specs.Prelude.{◌≡◌, List, map, refl}
use Rattle.value_core.specs.Datum.{Datum, Data, data_of}
use Rattle.value_core.specs.Datum as datum
use Rattle.value_core.specs.declared.value.Value.{Value}
use Rattle.value_core.specs.declared.value.Value.TheVariants.{Int, Truth, Char, Enum, Text, Array, Fields, Set, Bag, Object}

abbrev pub datum_of : Value → Datum
datum_of (Int z) = datum.int z
datum_of (Truth b) = datum.truth b
datum_of (Char c) = datum.char c
datum_of (Enum n) = datum.enumerated n
datum_of (Text t) = datum.text t
datum_of (Array w) = datum.array w
datum_of (Fields w) = datum.fields w
datum_of (Set w) = datum.set w
datum_of (Bag w) = datum.bag w
datum_of (Object o) = datum.object o.process o.number

abbrev pub data_in : List Value → Data
data_in vs = data_of (map datum_of vs)

-- the value that shows so
abbrev pub value_of : Datum → Value
value_of (datum.int z) = Int z
value_of (datum.truth b) = Truth b
value_of (datum.char c) = Char c
value_of (datum.enumerated n) = Enum n
value_of (datum.text t) = Text t
value_of (datum.array w) = Array w
value_of (datum.fields w) = Fields w
value_of (datum.set w) = Set w
value_of (datum.bag w) = Bag w
value_of (datum.object p n) = Object (record { process = p; number = n })

pub value_of-datum_of : (v : Value) → value_of (datum_of v) ≡ v
value_of-datum_of (Int z) = refl
value_of-datum_of (Truth b) = refl
value_of-datum_of (Char c) = refl
value_of-datum_of (Enum n) = refl
value_of-datum_of (Text t) = refl
value_of-datum_of (Array w) = refl
value_of-datum_of (Fields w) = refl
value_of-datum_of (Set w) = refl
value_of-datum_of (Bag w) = refl
value_of-datum_of (Object o) = refl

pub datum_of-value_of : (d : Datum) → datum_of (value_of d) ≡ d
datum_of-value_of (datum.int z) = refl
datum_of-value_of (datum.truth b) = refl
datum_of-value_of (datum.char c) = refl
datum_of-value_of (datum.enumerated n) = refl
datum_of-value_of (datum.text t) = refl
datum_of-value_of (datum.array w) = refl
datum_of-value_of (datum.fields w) = refl
datum_of-value_of (datum.set w) = refl
datum_of-value_of (datum.bag w) = refl
datum_of-value_of (datum.object p n) = refl
