-- The names that a site sees: the variables of loops in front of those of a body.
use Rattle.std.proofs.Common.{◌≡◌, ℕ, ◌+◌, Bool, true, false, ◌||◌, cond, List, [], ◌∷◌, ◌++◌, length, map, find, Option, Some, None, Result, Ok, refl, sym, ap, ◌∙◌}
use Rattle.std.specs.Prelude.{bytes_eq, ok_or, option_map, position, slice_get, unwrap_or}
use Rattle.std.specs.Borrow.{Bor}
use Rattle.std.specs.BTreeMap.{BTreeMap}
use Rattle.std.proofs.lemmas.List.{length-append, length-map}
use Rattle.std.proofs.lemmas.Slice.Eq.{bytes_eq-Decides}
use Rattle.orca_base.specs.declared.fault.FaultKind.{FaultKind}
use Rattle.orca_base.specs.declared.fault.FaultKind.TheVariants.{IndexOutside}
use Rattle.orca_tree.specs.declared.tree.Name.{Name}
use Rattle.type_rules.specs.TopLevel.{or_else, stands_for}
use Rattle.type_rules.specs.Scopes.{Local, Scope}
use Rattle.type_tables.specs.Entries.{entry}
use Rattle.type_exprs.specs.declared.scope.Local as tree
use Rattle.type_exprs.specs.Scoped.{counts, local_as}
use Rattle.type_decls.specs.Bodies.{AreLocals}
use Rattle.value_core.specs.Datum.{Datum}
use Rattle.meaning_rules.specs.Designators.{named_value, outer_value, slot, value_in}
use Rattle.meaning_rules.specs.States.{State}
use Rattle.program_bodies.specs.Bodies.{bears}
use Rattle.program_bodies.specs.Codes.{loop_local}
use Rattle.program_bodies.specs.Sites.{lent_texts}
use Rattle.program_bodies.proofs.Placed.{none_there, one_there, place_or_all, placed_behind, placed_mapped}

-- what a name is
pub seen_local : (loops : List (Bor (List ℕ))) (own : List Local) (counter : tree.Local) (names : BTreeMap (Bor (List ℕ)) tree.Local) (n : List ℕ) →
    local_as n counter ≡ loop_local n → AreLocals names own →
    cond (counts loops n) (Some (local_as n counter)) (option_map (local_as n) (entry names n)) ≡ find (bears n) (map loop_local (lent_texts loops) ++ own)
seen_local [] own counter names n is are = are n
seen_local (k ∷ ks) own counter names n is are = by_test (bytes_eq k.now n) refl (seen_local ks own counter names n is are)
  where
    rest : List Local
    rest = map loop_local (lent_texts ks) ++ own

    by_test : (b : Bool) → bytes_eq k.now n ≡ b →
        cond (counts ks n) (Some (local_as n counter)) (option_map (local_as n) (entry names n)) ≡ find (bears n) rest →
        cond (b || counts ks n) (Some (local_as n counter)) (option_map (local_as n) (entry names n)) ≡ cond b (Some (loop_local k.now)) (find (bears n) rest)
    by_test true same h = ap (λ (l : Local). Some l) (is ∙ ap loop_local (sym ((bytes_eq-Decides k.now n).0 same)))
    by_test false same h = h

-- its place
pub seen_place : (locals : List Local) (loops : List (Bor (List ℕ))) (own : List Local) (n : List ℕ) → locals ≡ map loop_local (lent_texts loops) ++ own →
    or_else (position (λ k. bytes_eq k.now n) loops) (option_map (λ j. j + length loops) (position (bears n) own)) ≡ position (bears n) locals
seen_place locals loops own n e =
    let long : length (map loop_local (lent_texts loops)) ≡ length loops = length-map (lent_texts loops) loop_local ∙ length-map loops (λ (k : Bor (List ℕ)). k.now) in
    ap (λ (o : Option ℕ). or_else o (option_map (λ j. j + length loops) (position (bears n) own)))
    (sym (placed_mapped loop_local (bears n) (lent_texts loops) ∙ placed_mapped (λ (k : Bor (List ℕ)). k.now) (λ (m : List ℕ). bytes_eq m n) loops))
    ∙ ap (λ (k : ℕ). or_else (position (bears n) (map loop_local (lent_texts loops))) (option_map (λ j. j + k) (position (bears n) own))) (sym long)
    ∙ sym (placed_behind (bears n) (map loop_local (lent_texts loops)) own)
    ∙ ap (position (bears n)) (sym e)

-- how many there are
pub seen_count : (locals : List Local) (loops : List (Bor (List ℕ))) (own : List Local) → locals ≡ map loop_local (lent_texts loops) ++ own →
    length loops + length own ≡ length locals
seen_count locals loops own e =
    ap (λ (k : ℕ). k + length own) (sym (length-map (lent_texts loops) loop_local ∙ length-map loops (λ (k : Bor (List ℕ)). k.now)))
    ∙ sym (length-append (map loop_local (lent_texts loops)) own)
    ∙ ap (λ (l : List Local). length l) (sym e)

-- ---- the value of a name

pub own_named : (w : Scope) (n : Name) (s : State) (k : ℕ) → Some k ≡ position (bears n.text) w.locals →
    ok_or (slice_get s.frame k) IndexOutside ≡ named_value w n s
own_named w n s k is =
    let there = one_there (bears n.text) w.locals k (sym is) in
    let place : k ≡ slot w n = ap (λ (o : Option ℕ). unwrap_or o (length w.locals)) is ∙ place_or_all (bears n.text) w.locals in
    ap (λ (j : ℕ). ok_or (slice_get s.frame j) IndexOutside) place ∙ ap (value_in w n s) (sym there.1)

abbrev result_ok : Datum → Result Datum FaultKind
result_ok x = Ok x

pub outer_named : (w : Scope) (n : Name) (s : State) (x : Datum) → None ≡ position (bears n.text) w.locals →
    x ≡ outer_value w.program (stands_for w.program w.home n.text) → result_ok x ≡ named_value w n s
outer_named w n s x none is =
    ap result_ok is ∙ ap (value_in w n s) (sym (none_there (bears n.text) w.locals (sym none)))
