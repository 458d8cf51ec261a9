-- The instruction that reads a name.
use Rattle.std.proofs.Common.{◌≡◌, ℕ, List, length, Option, Some, None, sym, ap, ◌∙◌}
use Rattle.std.specs.Prelude.{position, unwrap_or}
use Rattle.orca_tree.specs.declared.tree.Name.{Name}
use Rattle.type_rules.specs.TopLevel.{stands_for}
use Rattle.type_rules.specs.Scopes.{Scope, local}
use Rattle.value_core.specs.Datum.{Datum}
use Rattle.meaning_rules.specs.Designators.{outer_value, slot}
use Rattle.program_bodies.specs.Bodies.{bears}
use Rattle.program_bodies.proofs.Placed.{none_there, one_there, place_or_all}
use Rattle.code_rules.specs.Instructions.{Mark, Get}
use Rattle.code_rules.specs.Layouts.{Layout, spot, top}
use Rattle.code_rules.specs.Phrases.{constant, object_slot, read_as, reading}

pub own_read : (w : Scope) (l : Layout) (n : Name) (ms : List Mark) (k : ℕ) → Some k ≡ position (bears n.text) w.locals → Get (spot l k) ms ≡ reading w l n ms
own_read w l n ms k is =
    let there = one_there (bears n.text) w.locals k (sym is) in
    let place : k ≡ slot w n = ap (λ (o : Option ℕ). unwrap_or o (length w.locals)) is ∙ place_or_all (bears n.text) w.locals in
    ap (λ (j : ℕ). Get (spot l j) ms) place ∙ ap (read_as w l n ms) (sym there.1)

pub outer_read : (w : Scope) (l : Layout) (n : Name) (ms : List Mark) (x : Datum) → None ≡ position (bears n.text) w.locals →
    x ≡ outer_value w.program (stands_for w.program w.home n.text) → constant x ms ≡ reading w l n ms
outer_read w l n ms x none is =
    ap (λ (y : Datum). constant y ms) is ∙ ap (read_as w l n ms) (sym (none_there (bears n.text) w.locals (sym none)))

-- the slot of the object that a name is
pub own_object : (w : Scope) (l : Layout) (n : Name) (k : ℕ) → Some k ≡ position (bears n.text) w.locals → spot l k ≡ object_slot w l n (local w n.text)
own_object w l n k is =
    let there = one_there (bears n.text) w.locals k (sym is) in
    let place : k ≡ slot w n = ap (λ (o : Option ℕ). unwrap_or o (length w.locals)) is ∙ place_or_all (bears n.text) w.locals in
    ap (λ (j : ℕ). spot l j) place ∙ ap (object_slot w l n) (sym there.1)

pub outer_object : (w : Scope) (l : Layout) (n : Name) → None ≡ position (bears n.text) w.locals → top l ≡ object_slot w l n (local w n.text)
outer_object w l n none = ap (object_slot w l n) (sym (none_there (bears n.text) w.locals (sym none)))
