-- Integers, and that lists of them are sound.
use Rattle.std.specs.Prelude.{◌≡◌, ℤ, ◌≤◌, FitsSigned}
use Rattle.std.specs.List.{All}
use Rattle.std.proofs.Common.{ap, subst, sym, arith, w64}
use Rattle.std.proofs.lemmas.List.Elements.{All-head, All-tail}
use Rattle.value_core.specs.Datum.{Datum, Data, list_of}
use Rattle.value_core.specs.Datum as datum
use Rattle.value_core.specs.Sound.{AreSound, AreWellFormed, IsShort, IsWellFormed, nesting, nesting_of_all}

-- a number of 64 bits
abbrev pub IsWord : ℤ → Type 0
IsWord n = FitsSigned w64 n

-- an integer
abbrev pub IsInteger : Datum → Type 0
IsInteger value = (n : ℤ) × IsWord n × (value ≡ datum.int n)

pub integers_well_formed : (vs : Data) → All IsInteger (list_of vs) → AreWellFormed vs
integers_well_formed datum.none all = tt
integers_well_formed (datum.more v vs) all =
    let first = All-head IsInteger v (list_of vs) all in
    (subst IsWellFormed (sym first.2) first.1, integers_well_formed vs (All-tail IsInteger v (list_of vs) all))

pub integers_nest : (vs : Data) → All IsInteger (list_of vs) → nesting_of_all vs ≤ 1
integers_nest datum.none all = omega arith
integers_nest (datum.more v vs) all =
    let first : nesting v ≡ 1 = ap nesting (All-head IsInteger v (list_of vs) all).2 in
    let rest : nesting_of_all vs ≤ 1 = integers_nest vs (All-tail IsInteger v (list_of vs) all) in
    omega (arith, first, rest)

-- a list of integers is sound where its length fits 32 bits
pub integers_sound : (vs : Data) → All IsInteger (list_of vs) → IsShort (list_of vs) → AreSound vs
integers_sound vs all short =
    let flat : nesting_of_all vs ≤ 1 = integers_nest vs all in
    record { well_formed = integers_well_formed vs all; shallow = omega (arith, flat); short = short }
