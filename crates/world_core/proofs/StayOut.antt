-- The tasks that are out stay so while a member does its part.
use Rattle.std.proofs.Common.{◌≡◌, ◌≤◌, ◌<◌, ◌∙◌, ⊎_elim, ◌==◌, ◌&&◌, ℕ, Bool, true, false, cond, List, [], Option, Some, None, slice_get, slice_set, get_or, is_some, option_map, map, ap, sym, refl, arith, length}
use Rattle.std.proofs.lemmas.Bool.{cases_eq, cases_lt, eq-eqb, ne_eqb}
use Rattle.std.proofs.lemmas.Option.{slice_get_within}
use Rattle.object_manager.specs.Viewed.{Viewed}
use Rattle.world_rules.specs.Frame.{Frame}
use Rattle.world_rules.specs.Worlds.{World}
use Rattle.node_core.specs.Keeping.{KeepsTasks}
use Rattle.node_core.specs.Pieces.{resident_at}
use Rattle.node_parts.specs.Shown.{Left, Stood}
use Rattle.node_core.specs.declared.node.Node.{Node}
use Rattle.node_parts.specs.declared.resident.Resident.{Resident}
use Rattle.node_parts.specs.declared.resident.Stage.TheVariants.{Computing}
use Rattle.world_parts.proofs.Lists.{map_set}
use Rattle.world_parts.proofs.Outs.{none_past}
use Rattle.world_parts.specs.Seen.{Out}
use Rattle.world_parts.specs.Standing.{IsWorld, Stands, has_out, out_of, outs_of}
use Rattle.world_parts.specs.declared.parts.Parts.{Parts}
use Rattle.world_core.specs.Drafting.{out_in}
use Rattle.world_core.specs.Stepping.{out_as}
use Rattle.world_core.proofs.Handing.{got_else, got_map, got_own, has_at, map_count, out_some}

-- what stands in a list with one changed
pub put_at : {A : Type 0} (d : A) (xs : List A) (k j : ℕ) (x : A) → k < length xs → get_or (slice_set xs k x) j d ≡ cond (j == k) x (get_or xs j d)
put_at {A} d xs k j x lt = ⊎_elim own other (cases_eq j k)
  where
    own : j ≡ k → get_or (slice_set xs k x) j d ≡ cond (j == k) x (get_or xs j d)
    own e = ap (λ (n : ℕ). get_or (slice_set xs k x) n d) e ∙ got_own d xs k x lt ∙ sym (ap (λ (b : Bool). cond b x (get_or xs j d)) (eq-eqb j k e))

    other : (j ≡ k → ⊥) → get_or (slice_set xs k x) j d ≡ cond (j == k) x (get_or xs j d)
    other apart = got_else d xs k j x apart ∙ sym (ap (λ (b : Bool). cond b x (get_or xs j d)) (ne_eqb j k apart))

-- of all members, where one took its place whose tasks are those of another list there
pub outs_kept : {P S : Type 0} (base ns : List (Node P S)) (m : ℕ) (after : Node P S) → m < length ns → ((k i : ℕ) → out_in ns k i ≡ out_in base k i)
    → ((i : ℕ) → out_of (resident_at after i) ≡ out_in base m i) → (k i : ℕ) → out_in (slice_set ns m after) k i ≡ out_in base k i
outs_kept {P} {S} base ns m after lt same own k i =
    ap (λ (l : List (List (Option (Out S)))). get_or (get_or l k []) i None) (map_set outs_of ns m after)
    ∙ ap (λ (l : List (Option (Out S))). get_or l i None) (put_at [] (map outs_of ns) m k (outs_of after) (omega (arith, lt, map_count outs_of ns)))
    ∙ ⊎_elim mine other (cases_eq k m)
  where
    mine : k ≡ m → get_or (cond (k == m) (outs_of after) (get_or (map outs_of ns) k [])) i None ≡ out_in base k i
    mine e =
        ap (λ (b : Bool). get_or (cond b (outs_of after) (get_or (map outs_of ns) k [])) i None) (eq-eqb k m e)
        ∙ has_at after.residents.items i ∙ own i ∙ ap (λ (n : ℕ). out_in base n i) (sym e)

    other : (k ≡ m → ⊥) → get_or (cond (k == m) (outs_of after) (get_or (map outs_of ns) k [])) i None ≡ out_in base k i
    other apart = ap (λ (b : Bool). get_or (cond b (outs_of after) (get_or (map outs_of ns) k [])) i None) (ne_eqb k m apart) ∙ same k i

-- and where one process of it changed
pub outs_put : {P S : Type 0} (ns : List (Node P S)) (home i : ℕ) (r : Resident S) (before after : Node P S) → slice_get ns home ≡ Some before → i < length before.residents.items
    → after.residents.items ≡ slice_set before.residents.items i (Some r) → (m j : ℕ) → out_in (slice_set ns home after) m j ≡ cond ((m == home) && (j == i)) (out_of (Some r)) (out_in ns m j)
outs_put {P} {S} ns home i r before after at lt is m j =
    ap (λ (l : List (List (Option (Out S)))). get_or (get_or l m []) j None) (map_set outs_of ns home after)
    ∙ ap (λ (l : List (Option (Out S))). get_or l j None) (put_at [] (map outs_of ns) home m (outs_of after) (omega (arith, slice_get_within ns home before at, map_count outs_of ns)))
    ∙ ⊎_elim mine other (cases_eq m home)
  where
    inner : m ≡ home → get_or (outs_of before) j None ≡ out_in ns m j
    inner e = sym (ap (λ (l : List (Option (Out S))). get_or l j None) (got_map outs_of ns home before [] at)) ∙ ap (λ (n : ℕ). out_in ns n j) (sym e)

    mine : m ≡ home → get_or (cond (m == home) (outs_of after) (get_or (map outs_of ns) m [])) j None ≡ cond ((m == home) && (j == i)) (out_of (Some r)) (out_in ns m j)
    mine e =
        ap (λ (b : Bool). get_or (cond b (outs_of after) (get_or (map outs_of ns) m [])) j None) (eq-eqb m home e)
        ∙ ap (λ (l : List (Option (Resident S))). get_or (map out_of l) j None) is
        ∙ ap (λ (l : List (Option (Out S))). get_or l j None) (map_set out_of before.residents.items i (Some r))
        ∙ put_at None (outs_of before) i j (out_of (Some r)) (omega (arith, lt, map_count out_of before.residents.items))
        ∙ ap (λ (o : Option (Out S)). cond (j == i) (out_of (Some r)) o) (inner e)
        ∙ sym (ap (λ (b : Bool). cond (b && (j == i)) (out_of (Some r)) (out_in ns m j)) (eq-eqb m home e))

    other : (m ≡ home → ⊥) → get_or (cond (m == home) (outs_of after) (get_or (map outs_of ns) m [])) j None ≡ cond ((m == home) && (j == i)) (out_of (Some r)) (out_in ns m j)
    other apart =
        ap (λ (b : Bool). get_or (cond b (outs_of after) (get_or (map outs_of ns) m [])) j None) (ne_eqb m home apart)
        ∙ sym (ap (λ (b : Bool). cond (b && (j == i)) (out_of (Some r)) (out_in ns m j)) (ne_eqb m home apart))

-- and where none of its tasks is out any more
pub outs_ended : {P S : Type 0} (ns : List (Node P S)) (m : ℕ) (after : Node P S) → m < length ns → ((i : ℕ) → out_of (resident_at after i) ≡ None) → (k i : ℕ)
    → out_in (slice_set ns m after) k i ≡ cond (k == m) None (out_in ns k i)
outs_ended {P} {S} ns m after lt none k i =
    ap (λ (l : List (List (Option (Out S)))). get_or (get_or l k []) i None) (map_set outs_of ns m after)
    ∙ ap (λ (l : List (Option (Out S))). get_or l i None) (put_at [] (map outs_of ns) m k (outs_of after) (omega (arith, lt, map_count outs_of ns)))
    ∙ ⊎_elim mine other (cases_eq k m)
  where
    mine : k ≡ m → get_or (cond (k == m) (outs_of after) (get_or (map outs_of ns) k [])) i None ≡ cond (k == m) None (out_in ns k i)
    mine e =
        ap (λ (b : Bool). get_or (cond b (outs_of after) (get_or (map outs_of ns) k [])) i None) (eq-eqb k m e)
        ∙ has_at after.residents.items i ∙ none i ∙ sym (ap (λ (b : Bool). cond b None (out_in ns k i)) (eq-eqb k m e))

    other : (k ≡ m → ⊥) → get_or (cond (k == m) (outs_of after) (get_or (map outs_of ns) k [])) i None ≡ cond (k == m) None (out_in ns k i)
    other apart =
        ap (λ (b : Bool). get_or (cond b (outs_of after) (get_or (map outs_of ns) k [])) i None) (ne_eqb k m apart)
        ∙ sym (ap (λ (b : Bool). cond b None (out_in ns k i)) (ne_eqb k m apart))

-- a process with no task out
pub out_none : {S : Type 0} (r : Resident S) → r.out ≡ None → out_of (Some r) ≡ None
out_none r e = ap (λ (o : Option Viewed). option_map (λ (view : Viewed). out_as r.state r.calls view) o) e

-- a process with a task out is one that the copies count, and computes
abbrev pub OutComputes : {P S : Type 0} → Node P S → Type 0
OutComputes {P} {S} node =
    (i : ℕ) (r : Resident S) (view : Viewed) → resident_at node i ≡ Some r → r.out ≡ Some view → (i < node.copies.processes) × (r.stage ≡ Computing)

pub out_computes : {P S : Type 0} (stood : Stood S) (left : Left S) (f : Frame) (s : Parts P S) (w : World) → Stands stood left f s → IsWorld stood left f s w → (m : ℕ) (node : Node P S) → slice_get s.nodes.items m ≡ Some node
    → OutComputes node
out_computes stood left f s w h is m node at i r view here out = (below, (is.tasks m i node r view at here out).computing)
  where
    past : node.copies.processes ≤ i → ⊥
    past low = let e : ◌≡◌ {A = Bool} false true = sym (none_past stood left f s h m node at i low) ∙ ap has_out here ∙ ap is_some out in cc e

    below : i < node.copies.processes
    below = ⊎_elim (λ (lt : i < node.copies.processes). lt) (λ (low : node.copies.processes ≤ i). absurd (past low)) (cases_lt i node.copies.processes)

-- where who computes stays, and nobody has one out who hadn't
pub still_out : {P S : Type 0} (before after : Node P S) → KeepsTasks before after → OutComputes before → (i : ℕ) → out_of (resident_at after i) ≡ out_of (resident_at before i)
still_out {P} {S} before after keeps computes i = go (out_of (resident_at after i)) (out_of (resident_at before i)) refl refl
  where
    go : (a b : Option (Out S)) → out_of (resident_at after i) ≡ a → out_of (resident_at before i) ≡ b → out_of (resident_at after i) ≡ out_of (resident_at before i)
    go (Some task) b is was =
        let here = out_some (resident_at after i) task is in
        ap out_of (here.2 ∙ sym (keeps.only i here.0 here.1 here.2 here.3))
    go None (Some task) is was =
        let here = out_some (resident_at before i) task was in
        let knows = computes i here.0 here.1 here.2 here.3 in
        ap out_of (keeps.stay i here.0 knows.0 here.2 knows.1 ∙ sym here.2)
    go None None is was = is ∙ sym was
