-- Tables by names, one name more in them.
use Rattle.std.proofs.Common.{◌≡◌, Bool, true, false, cond, Option, None, Some, refl, sym, ap, ◌∙◌}
use Rattle.std.specs.Prelude.{is_some, option_map}
use Rattle.std.proofs.lemmas.Bool.{true≢false}
use Rattle.type_tables.specs.Entries.{or_other}

pub or_other_none : {X : Type 0} (x : Option X) → x ≡ or_other x None
or_other_none None = refl
or_other_none (Some x) = refl

-- a name that had no value
pub noted : {X : Type 0} (same : Bool) (was : Option X) (v : X) → (same ≡ true → is_some was ≡ false) →
    cond same (Some v) was ≡ or_other was (cond same (Some v) None)
noted true None v without = refl
noted true (Some x) v without = absurd (true≢false (without refl))
noted false was v without = or_other_none was

-- a name that has one
pub kept : {X : Type 0} (same : Bool) (was : Option X) (v : X) → (same ≡ true → is_some was ≡ true) → was ≡ or_other was (cond same (Some v) None)
kept true None v has = absurd (true≢false (sym (has refl)))
kept true (Some x) v has = refl
kept false was v has = or_other_none was

-- of two of one name the first is found
pub found_step : {X Y : Type 0} (same : Bool) (old new all : Option Y) (v : Y) (f : X → Y) (x : X) (rest front : Option X) →
    new ≡ or_other old (cond same (Some v) None) → v ≡ f x → front ≡ cond same (Some x) rest → or_other old (option_map f front) ≡ all →
    or_other new (option_map f rest) ≡ all
found_step {X} {Y} same old new all v f x rest front more is next h =
    ap (λ (o : Option Y). or_other o (option_map f rest)) more ∙ same_step same old ∙ ap (λ (o : Option X). or_other old (option_map f o)) (sym next) ∙ h
  where
    same_step : (same : Bool) (old : Option Y) → or_other (or_other old (cond same (Some v) None)) (option_map f rest) ≡ or_other old (option_map f (cond same (Some x) rest))
    same_step same (Some o) = refl
    same_step true None = ap (λ (w : Y). Some w) is
    same_step false None = refl
