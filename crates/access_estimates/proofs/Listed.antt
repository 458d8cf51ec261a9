-- What stands at a position of the top level, and what is known of it as a process.
use Rattle.std.proofs.Common.{◌≡◌, ℕ, ◌<◌, Bool, true, false, cond, List, [], ◌∷◌, ◌++◌, length, get_or, map, Option, Some, None, sym, ap, ◌∙◌}
use Rattle.std.specs.Prelude.{slice_get, option_map, OnOk, Result}
use Rattle.std.specs.Option.{option_map_or}
use Rattle.std.proofs.lemmas.List.{append-nil, map-append}
use Rattle.std.proofs.lemmas.Option.{slice_get-get_or, slice_get-map}
use Rattle.std.proofs.lemmas.Result.{on_ok_weaker}
use Rattle.type_rules.specs.TopLevel.{TopName}
use Rattle.type_forms.specs.declared.tops.Top.{Top}
use Rattle.type_forms.specs.Seen.{top}
use Rattle.program_bodies.specs.Matching.{Both}

pub item_there : (tops : List Top) (names : List TopName) (i : ℕ) (x : Top) → i < length tops → x ≡ get_or tops i x → map top tops ≡ names → slice_get names i ≡ Some (top x)
item_there tops names i x lt is e =
    ap (λ (l : List TopName). slice_get l i) (sym e)
    ∙ slice_get-map top tops i
    ∙ ap (option_map top) (slice_get-get_or tops i x lt ∙ ap (λ (v : Top). Some v) (sym is))

-- ---- a process

-- no process adds nothing
pub adds_none : {A : Type 0} (old own : List A) (p b : Bool) → p ≡ false → p ≡ b → old ≡ old ++ cond b own []
adds_none {A} old own p b e f = sym (append-nil old) ∙ ap (λ (x : Bool). old ++ cond x own []) (sym e ∙ f)

-- and one adds its own list
pub adds_list : {V L : Type 0} (view : V → L) (old new : List V) (v : V) (own : L) (p b : Bool) → p ≡ true → p ≡ b → new ≡ old ++ v ∷ [] → view v ≡ own →
    map view new ≡ map view old ++ cond b (own ∷ []) []
adds_list {V} {L} view old new v own p b e f pushed is =
    ap (map view) pushed
    ∙ map-append view old (v ∷ [])
    ∙ ap (λ (x : L). map view old ++ x ∷ []) is
    ∙ ap (λ (c : Bool). map view old ++ cond c (own ∷ []) []) (sym e ∙ f)

-- and what isn't known neither
pub none_known : {A W : Type 0} (f : W → List A) (o : Option W) (old : List A) (K : Type 0) (R : K → W → Type 0) → Both R None o → old ≡ old ++ option_map_or f o []
none_known f None old K R both = sym (append-nil old)
none_known f (Some w) old K R both = absurd both

pub one_known : {A W E U : Type 0} (f g : W → List A) (o : Option W) (r : Result U E) (old new : List A) (K : Type 0) (own : K) (R : K → W → Type 0) →
    ((w : W) → g w ≡ f w) → Both R (Some own) o → ((w : W) → R own w → OnOk r (new ≡ old ++ g w)) → OnOk r (new ≡ old ++ option_map_or f o [])
one_known f g None r old new K own R same both each = absurd both
one_known {A} f g (Some w) r old new K own R same both each =
    on_ok_weaker {P = new ≡ old ++ g w} {Q = new ≡ old ++ f w} r (λ x. x ∙ ap (λ (l : List A). old ++ l) (same w)) (each w both)
