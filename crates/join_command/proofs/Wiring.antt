-- Wires that are loaded.
use Rattle.std.proofs.Common.{◌≡◌, ◌∙◌, ℕ, List, [], ◌∷◌, get_or, length, map, set, Result, Ok, Err, OnErr, OnOk, ap, arith}
use Rattle.net_rules.specs.declared.asked.Asked.{Asked}
use Rattle.net_rules.specs.declared.line.ScriptLine.{ScriptLine}
use Rattle.wires.specs.Wired.{Rule, with_script}
use Rattle.join_command.specs.Wired.{AreLoaded, OneWire, wires_of}

-- one of one wire
pub one_loaded : {W : Type 0} (told : W → List Asked) (rule : W → Rule) (loaded : W → ℕ) (wires : List W) (first wire : W) (lines : List ScriptLine) → length wires ≡ 1 → rule wire ≡ with_script lines (rule (get_or wires 0 first))
    → loaded wire ≡ length (told (get_or wires 0 first)) → AreLoaded lines (wires_of told rule loaded wires) (wires_of told rule loaded (set wires 0 wire))
one_loaded told rule loaded [] first wire lines one is since = absurd (omega (arith, one))
one_loaded told rule loaded (w ∷ []) first wire lines one is since = record { rules = ap (λ (r : Rule). r ∷ []) is; since = ap (λ (n : ℕ). n ∷ []) since }
one_loaded told rule loaded (w ∷ x ∷ wires) first wire lines one is since = absurd (omega (arith, one))

pub wires_same : {W : Type 0} (told : W → List Asked) (rule : W → Rule) (loaded : W → ℕ) (wires : List W) (first wire : W) → length wires ≡ 1 → told wire ≡ told (get_or wires 0 first) → rule wire ≡ rule (get_or wires 0 first)
    → loaded wire ≡ loaded (get_or wires 0 first) → wires_of told rule loaded (set wires 0 wire) ≡ wires_of told rule loaded wires
wires_same told rule loaded [] first wire one tells is since = absurd (omega (arith, one))
wires_same told rule loaded (w ∷ wires) first wire one tells is since =
    ap (λ (t : List Asked). record { told = t ∷ map told wires; rules = rule wire ∷ map rule wires; loaded = loaded wire ∷ map loaded wires }) tells
    ∙ ap (λ (r : Rule). record { told = told w ∷ map told wires; rules = r ∷ map rule wires; loaded = loaded wire ∷ map loaded wires }) is
    ∙ ap (λ (n : ℕ). record { told = told w ∷ map told wires; rules = rule w ∷ map rule wires; loaded = n ∷ map loaded wires }) since

pub told_same : {W : Type 0} (told : W → List Asked) (wires : List W) (first wire : W) → length wires ≡ 1 → told wire ≡ told (get_or wires 0 first) → map told (set wires 0 wire) ≡ map told wires
told_same told [] first wire one tells = absurd (omega (arith, one))
told_same told (w ∷ wires) first wire one tells = ap (λ (t : List Asked). t ∷ map told wires) tells

pub ok_both : {T E A B C : Type 0} (r : Result T E) → (A → B → C) → OnOk r A → OnOk r B → OnOk r C
ok_both (Ok x) so a b = so a b
ok_both (Err e) so a b = tt

pub err_both : {T E A B C : Type 0} (r : Result T E) → (A → B → C) → OnErr r A → OnErr r B → OnErr r C
err_both (Ok x) so a b = tt
err_both (Err e) so a b = so a b

pub on_ok : {T E : Type 0} (r : Result T E) (P : Type 0) → P → OnOk r P
on_ok (Ok x) P p = p
on_ok (Err e) P p = tt

pub on_err : {T E : Type 0} (r : Result T E) (P : Type 0) → P → OnErr r P
on_err (Ok x) P p = tt
on_err (Err e) P p = p

-- a wire that tells the same, by the same rule, loaded when it was
pub own_was : (was is : OneWire) → is.told ≡ was.told → is.rule ≡ was.rule → is.loaded ≡ was.loaded → is ≡ was
own_was was is told rule since =
    ap (λ (t : List Asked). record { told = t; rule = is.rule; loaded = is.loaded }) told
    ∙ ap (λ (r : Rule). record { told = was.told; rule = r; loaded = is.loaded }) rule
    ∙ ap (λ (n : ℕ). record { told = was.told; rule = was.rule; loaded = n }) since
