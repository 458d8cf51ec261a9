-- Values as clauses see them: pointer-free data.
use Rattle.std.specs.Prelude.{◌≡◌, ℕ, ℤ, Bool, List, [], ◌∷◌, refl}
use Rattle.std.proofs.Common.{ap}

-- a value, and a list of values
mutual
  pub data Datum : Type 0 where
    int : ℤ → Datum
    truth : Bool → Datum
    char : ℕ → Datum
    enumerated : ℕ → Datum
    text : List ℕ → Datum
    array : Data → Datum
    fields : Data → Datum
    set : Data → Datum
    bag : Data → Datum
    object : ℕ → ℕ → Datum

  pub data Data : Type 0 where
    none : Data
    more : Datum → Data → Data

abbrev pub list_of : Data → List Datum
list_of none = []
list_of (more v vs) = v ∷ list_of vs

abbrev pub data_of : List Datum → Data
data_of [] = none
data_of (v ∷ vs) = more v (data_of vs)

pub list_of-data_of : (vs : List Datum) → list_of (data_of vs) ≡ vs
list_of-data_of [] = refl
list_of-data_of (v ∷ vs) = ap (λ r. v ∷ r) (list_of-data_of vs)

pub data_of-list_of : (vs : Data) → data_of (list_of vs) ≡ vs
data_of-list_of none = refl
data_of-list_of (more v vs) = ap (more v) (data_of-list_of vs)
