-- Sizes and nesting that are cut off just above the limits.
use Rattle.std.proofs.Common.{◌≡◌, ℕ, ◌+◌, min, Bool, true, false, ◌&&◌, List, [], ◌∷◌, ◌++◌, Option, Some, None, refl, sym, ap, ◌∙◌, arith}
use Rattle.std.specs.Prelude.{nat_le, option_map}
use Rattle.std.proofs.lemmas.Bool.{le-leb, leb-true}
use Rattle.orca_base.specs.declared.place.Place.{Place}
use Rattle.orca_base.specs.declared.limits.TheConstants.{VALUE_NESTING, VALUE_SIZE}
use Rattle.type_rules.specs.declared.breach.Breach.{Breach}
use Rattle.type_rules.specs.declared.types.DataType.{DataType}
use Rattle.type_rules.specs.declared.types.Measured.{Measured}
use Rattle.type_rules.specs.Rules.{asks, fits, unless}
use Rattle.type_rules.specs.TypePhrases.{is_small, within_limits}
use Rattle.link_rules.proofs.Truth.{and_first, and_second}
use Rattle.type_forms.specs.Measures.{cut, cut_found}

pub cut_unless : (bs : List Breach) (x : Option Measured) → unless bs (option_map cut x) ≡ cut_found (unless bs x)
cut_unless [] x = refl
cut_unless (b ∷ bs) x = refl

measured : DataType → ℕ → ℕ → Measured
measured t s n = record { kind = t; size = s; nesting = n }

same_measured : (t : DataType) (s s' n n' : ℕ) → s ≡ s' → n ≡ n' → measured t s n ≡ measured t s' n'
same_measured t s s' n n' e f = ap (λ (v : ℕ). measured t v n) e ∙ ap (measured t s') f

-- what is within the limits isn't cut
small_whole : (m : Measured) → is_small m ≡ true → cut m ≡ m
unfolding measured
small_whole m e =
    let s = leb-true m.size VALUE_SIZE (and_first (nat_le m.size VALUE_SIZE) (nat_le m.nesting VALUE_NESTING) e) in
    let n = leb-true m.nesting VALUE_NESTING (and_second (nat_le m.size VALUE_SIZE) (nat_le m.nesting VALUE_NESTING) e) in
    same_measured m.kind (min m.size 10001) m.size (min m.nesting 17) m.nesting (omega (arith, s)) (omega (arith, n))

same_below : (limit s : ℕ) → nat_le (min s (limit + 1)) limit ≡ nat_le s limit
same_below limit s = by_both (nat_le (min s (limit + 1)) limit) (nat_le s limit) refl refl
  where
    by_both : (p q : Bool) → nat_le (min s (limit + 1)) limit ≡ p → nat_le s limit ≡ q → p ≡ q
    by_both true true e f = refl
    by_both false false e f = refl
    by_both true false e f = let le = leb-true (min s (limit + 1)) limit e in sym (le-leb s limit (omega (arith, le))) ∙ f
    by_both false true e f = let le = leb-true s limit f in sym (sym (le-leb (min s (limit + 1)) limit (omega (arith, le))) ∙ e)

pub small_cut : (m : Measured) → is_small (cut m) ≡ is_small m
small_cut m = ap (λ (b : Bool). b && nat_le (min m.nesting 17) VALUE_NESTING) (same_below 10000 m.size) ∙ ap (λ (b : Bool). nat_le m.size VALUE_SIZE && b) (same_below 16 m.nesting)

-- behind a breach nothing is known
behind : (as_ bs : List Breach) (b : Breach) (x y : Option Measured) → unless (as_ ++ b ∷ bs) x ≡ unless (as_ ++ b ∷ bs) y
behind [] bs b x y = refl
behind (a ∷ as_) bs b x y = refl

pub within_cut : (at : Place) (bs : List Breach) (x : Option Measured) (small : Bool) → small ≡ fits is_small (option_map cut x) →
    unless (bs ++ asks 10 at small) (option_map cut x) ≡ within_limits at (record { is = x; breaches = bs })
within_cut at bs None small e = ap (λ (t : Bool). unless (bs ++ asks 10 at t) None) e
within_cut at bs (Some m) small e =
    ap (λ (t : Bool). unless (bs ++ asks 10 at t) (Some (cut m))) (e ∙ small_cut m) ∙ by_test (is_small m) refl
  where
    by_test : (b : Bool) → is_small m ≡ b → unless (bs ++ asks 10 at (is_small m)) (Some (cut m)) ≡ unless (bs ++ asks 10 at (is_small m)) (Some m)
    by_test true is = ap (λ (v : Measured). unless (bs ++ asks 10 at (is_small m)) (Some v)) (small_whole m is)
    by_test false is =
        ap (λ (t : Bool). unless (bs ++ asks 10 at t) (Some (cut m))) is
        ∙ behind bs [] (record { rule = 10; at = at }) (Some (cut m)) (Some m)
        ∙ sym (ap (λ (t : Bool). unless (bs ++ asks 10 at t) (Some m)) is)
