use Rattle.std.proofs.Common.{◌≡◌, ℕ, ◌+◌, ◌<◌, ℤ, List, [], ◌∷◌, ◌++◌, length, map, Option, Some, None, refl, sym, ap, subst, ◌∙◌, arith, to_z, of_z, w64}
use Rattle.std.specs.Prelude.{pos, option_map, slice_get, unwrap_or}
use Rattle.std.proofs.lemmas.List.{length-append, length-map, map-append}
use Rattle.std.proofs.lemmas.Option.{get_or_from_slice_get, slice_get-map}
use Rattle.std.proofs.lemmas.Int.{ints}
use Rattle.link_rules.specs.Units.{Source}
use Rattle.type_rules.specs.declared.names.Chain.{Chain}
use Rattle.type_rules.specs.declared.names.Chain.TheVariants.{EndsAt}
use Rattle.type_rules.specs.Constants.{chain_from}
use Rattle.value_core.specs.Datum.{Datum}
use Rattle.value_core.specs.Datum as datum
use Rattle.value_core.specs.Integers.{IsWord}
use Rattle.meaning_rules.specs.Designators.{constant}
use Rattle.type_forms.specs.Chains.{AreChains}
use Rattle.program_tables.specs.Listed.{AreWords}
use Rattle.program_tables.proofs.Listing.{Has, has_more, told}
use Rattle.program_tables.proofs.Reading.{no_constant}
use Rattle.program_tables.proofs.constants.constants_of.Goals as goal

abbrev as_int : ℤ → Datum
as_int z = datum.int z

more : (us : List Source) (chains : List Chain) (xs ys : List ℤ) (z : ℤ) (x : Chain) (k : ℕ) → AreChains us chains → AreWords us → k < length chains →
    x ≡ chain_from us k → ys ≡ xs ++ z ∷ [] → (((w : ℤ) → x ≡ EndsAt w → IsWord w) → as_int z ≡ constant x) →
    (length xs ≡ k) × Has (λ (i : ℕ). constant (chain_from us i)) (map as_int xs) →
    (length ys ≡ k + 1) × Has (λ (i : ℕ). constant (chain_from us i)) (map as_int ys)
more us chains xs ys z x k are words lt from e value before =
    let sum = ap (λ (l : List ℤ). length l) e ∙ length-append xs (z ∷ []) in
    let long = before.0 in
    let seen = length-map xs as_int in (
      omega (arith, sum, long),
      subst (λ (l : List Datum). Has (λ (i : ℕ). constant (chain_from us i)) l) (sym (ap (λ (l : List ℤ). map as_int l) e ∙ map-append as_int xs (z ∷ [])))
          (has_more (λ (i : ℕ). constant (chain_from us i)) (map as_int xs) (as_int z) before.1
          (value (λ w h. words k w (sym from ∙ h)) ∙ ap constant from ∙ ap (λ (i : ℕ). constant (chain_from us i)) (sym (seen ∙ long)))),
    )

again : (c : goal.In_ok-push) → to_z w64 (of_z w64 c.value_of-value.result) ≡ c.value_of-value.result
again c = omega (arith, ints)

pub chains-preserved : goal.chains-preserved
chains-preserved c = λ us are words.
    more us c.args.chains.now c.chains.all.items _ _ _ c.chains.chain-index are words c.chains-test.true
    (get_or_from_slice_get c.args.chains.now c.chains.chain-index (chain_from us c.chains.chain-index) _ (are.each c.chains.chain-index c.chains-test.true))
    (c.in_ok-push.ensures.items ∙ ap (λ (z : ℤ). c.chains.all.items ++ z ∷ []) (again c)) c.value_of-value.ensures (c.chains.invariant us are words)

shown : (o : Option ℤ) → as_int (unwrap_or o (pos 0)) ≡ unwrap_or (option_map as_int o) (as_int (pos 0))
shown None = refl
shown (Some z) = refl

pub returns : goal.returns
returns c = λ us are words i.
    let before = c.chains.invariant us are words in
    let long = before.0 in
    let seen = length-map c.chains.all.items as_int in
    let whole = are.long in
    shown (slice_get c.chains.all.items i)
    ∙ ap (λ (o : Option Datum). unwrap_or o (as_int (pos 0))) (sym (slice_get-map as_int c.chains.all.items i))
    ∙ told (λ (j : ℕ). constant (chain_from us j)) (map as_int c.chains.all.items) (as_int (pos 0)) before.1
    (λ j le. no_constant us j (omega (arith, long, seen, whole, le, c.chains-test.false))) i
