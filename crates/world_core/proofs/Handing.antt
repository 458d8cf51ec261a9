-- One process of one member changes, and so may how many tasks are out.
use Rattle.std.proofs.Common.{◌≡◌, ◌<◌, ◌+◌, ◌∙◌, ⊎_elim, ◌==◌, ◌&&◌, ℕ, zero, suc, Bool, cond, List, [], ◌∷◌, Option, Some, None, slice_get, slice_set, slice_index_or, get_or, is_some, option_map, map, ap, sym, refl, arith, length}
use Rattle.std.proofs.lemmas.Bool.{cases_eq, eq-eqb, ne_eqb}
use Rattle.object_manager.specs.Viewed.{Viewed}
use Rattle.group_rules.specs.Sets.{with_at}
use Rattle.node_core.specs.CheckingIn.{HasChanged}
use Rattle.node_core.specs.Pieces.{resident_at}
use Rattle.node_core.specs.declared.node.Node.{Node}
use Rattle.node_parts.specs.declared.resident.Resident.{Resident}
use Rattle.world_parts.specs.Seen.{Out, Seen, all_outs, outs, out_at}
use Rattle.world_parts.proofs.Lists.{map_set, set_length}
use Rattle.world_parts.proofs.Outs.{seen_out}
use Rattle.world_parts.specs.Standing.{has_out, out_of, outs_of, seen_of}
use Rattle.world_parts.specs.declared.parts.Parts.{Parts}
use Rattle.world_core.specs.Drafting.{KeepTasks}
use Rattle.world_core.specs.Stepping.{OutBefore}
use Rattle.world_core.proofs.Adding.{with_other, with_own}

outs_set : {A : Type 0} (bs : List (Option A)) (k : ℕ) (b : Option A) → k < length bs → outs (slice_set bs k b) + cond (is_some (get_or bs k None)) 1 0 ≡ outs bs + cond (is_some b) 1 0
outs_set [] k b lt = absurd (omega (arith, lt))
outs_set (c ∷ bs) zero b lt = omega arith
outs_set (c ∷ bs) (suc k) b lt = let e = outs_set bs k b (omega (arith, lt)) in omega (arith, e)

all_set : {A : Type 0} (bss : List (List (Option A))) (k : ℕ) (bs : List (Option A)) → k < length bss → all_outs (slice_set bss k bs) + outs (get_or bss k []) ≡ all_outs bss + outs bs
all_set [] k bs lt = absurd (omega (arith, lt))
all_set (cs ∷ bss) zero bs lt = omega arith
all_set (cs ∷ bss) (suc k) bs lt = let e = all_set bss k bs (omega (arith, lt)) in omega (arith, e)

pub map_count : {A B : Type 0} (f : A → B) (xs : List A) → length (map f xs) ≡ length xs
map_count f [] = refl
map_count f (x ∷ xs) = ap suc (map_count f xs)

-- lists with the same at each place
same_all : {A : Type 0} (d : A) (xs ys : List A) → length xs ≡ length ys → ((i : ℕ) → get_or xs i d ≡ get_or ys i d) → xs ≡ ys
same_all d [] [] count h = refl
same_all d [] (y ∷ ys) count h = absurd (cc count)
same_all d (x ∷ xs) [] count h = absurd (cc count)
same_all {A} d (x ∷ xs) (y ∷ ys) count h =
    ap (λ (a : A). a ∷ xs) (h 0) ∙ ap (λ (l : List A). y ∷ l) (same_all d xs ys (omega (arith, count)) (λ i. h (suc i)))

pub got_own : {A : Type 0} (d : A) (xs : List A) (k : ℕ) (x : A) → k < length xs → get_or (slice_set xs k x) k d ≡ x
got_own d [] k x lt = absurd (omega (arith, lt))
got_own d (y ∷ xs) zero x lt = refl
got_own d (y ∷ xs) (suc k) x lt = got_own d xs k x (omega (arith, lt))

pub got_else : {A : Type 0} (d : A) (xs : List A) (k j : ℕ) (x : A) → (j ≡ k → ⊥) → get_or (slice_set xs k x) j d ≡ get_or xs j d
got_else d [] k j x apart = refl
got_else d (y ∷ xs) zero zero x apart = absurd (apart refl)
got_else d (y ∷ xs) zero (suc j) x apart = refl
got_else d (y ∷ xs) (suc k) zero x apart = refl
got_else d (y ∷ xs) (suc k) (suc j) x apart = got_else d xs k j x (λ e. apart (ap suc e))

-- ---- at a member

pub residents_set : {P S : Type 0} (i : ℕ) (r : Resident S) (old new : Node P S) → HasChanged i r old new → i < length old.residents.items → new.residents.items ≡ slice_set old.residents.items i (Some r)
residents_set {P} {S} i r old new h lt =
    same_all None new.residents.items (slice_set old.residents.items i (Some r)) (h.places ∙ sym (set_length old.residents.items i (Some r))) each
  where
    each : (j : ℕ) → get_or new.residents.items j None ≡ get_or (slice_set old.residents.items i (Some r)) j None
    each j = ⊎_elim own other (cases_eq j i)
      where
        own : j ≡ i → get_or new.residents.items j None ≡ get_or (slice_set old.residents.items i (Some r)) j None
        own e =
            h.put.put j ∙ ap (with_at (resident_at old) i (Some r)) e ∙ with_own (resident_at old) i (Some r)
            ∙ sym (ap (λ (k : ℕ). get_or (slice_set old.residents.items i (Some r)) k None) e ∙ got_own None old.residents.items i (Some r) lt)

        other : (j ≡ i → ⊥) → get_or new.residents.items j None ≡ get_or (slice_set old.residents.items i (Some r)) j None
        other apart = h.put.put j ∙ with_other (resident_at old) i (Some r) j apart ∙ sym (got_else None old.residents.items i j (Some r) apart)

pub has_at : {S : Type 0} (rs : List (Option (Resident S))) (i : ℕ) → get_or (map out_of rs) i None ≡ out_of (slice_index_or rs i None)
has_at [] i = refl
has_at (r ∷ rs) zero = refl
has_at (r ∷ rs) (suc i) = has_at rs i

pub outs_changed : {P S : Type 0} (i : ℕ) (r : Resident S) (old new : Node P S) → HasChanged i r old new → i < length old.residents.items
    → outs (outs_of new) + cond (has_out (resident_at old i)) 1 0 ≡ outs (outs_of old) + cond (is_some r.out) 1 0
outs_changed {P} {S} i r old new h lt =
    let a = ap (λ (l : List (Option (Resident S))). outs (map out_of l)) (residents_set i r old new h lt) in
    let b = ap outs (map_set out_of old.residents.items i (Some r)) in
    let c = outs_set (outs_of old) i (out_of (Some r)) (omega (arith, lt, map_count out_of old.residents.items)) in
    let d : ◌≡◌ {A = ℕ} (cond (is_some (get_or (outs_of old) i None)) 1 0) (cond (has_out (resident_at old i)) 1 0) =
    ap (λ (x : Bool). cond x 1 0) (ap is_some (has_at old.residents.items i) ∙ seen_out (resident_at old i)) in
    let e : ◌≡◌ {A = ℕ} (cond (is_some (out_of (Some r))) 1 0) (cond (is_some r.out) 1 0) = ap (λ (x : Bool). cond x 1 0) (seen_out (Some r)) in
    omega (arith, a, b, c, d, e)

-- ---- at all of them

pub got_map : {A B : Type 0} (f : A → B) (xs : List A) (k : ℕ) (x : A) (d : B) → slice_get xs k ≡ Some x → get_or (map f xs) k d ≡ f x
got_map f [] k x d is = absurd (cc is)
got_map f (y ∷ xs) zero x d is = let e : y ≡ x = cc in ap f e
got_map f (y ∷ xs) (suc k) x d is = got_map f xs k x d is

pub all_changed : {P S : Type 0} (nodes : List (Node P S)) (m : ℕ) (old new : Node P S) → slice_get nodes m ≡ Some old → m < length nodes
    → all_outs (map outs_of (slice_set nodes m new)) + outs (outs_of old) ≡ all_outs (map outs_of nodes) + outs (outs_of new)
all_changed nodes m old new at lt =
    let a = ap all_outs (map_set outs_of nodes m new) in
    let b = all_set (map outs_of nodes) m (outs_of new) (omega (arith, lt, map_count outs_of nodes)) in
    let c = ap outs (got_map outs_of nodes m old [] at) in
    omega (arith, a, b, c)

-- ---- what is seen of it

-- of a process of a member
pub seen_there : {P S : Type 0} (nodes : List (Node P S)) (m i : ℕ) (node : Node P S) → slice_get nodes m ≡ Some node → get_or (get_or (map outs_of nodes) m []) i None ≡ out_of (resident_at node i)
seen_there {P} {S} nodes m i node at = ap (λ (l : List (Option (Out S))). get_or l i None) (got_map outs_of nodes m node [] at) ∙ has_at node.residents.items i

-- once one process of one member changed
pub puts_out : {P S : Type 0} (s new : Parts P S) (home i : ℕ) (r : Resident S) (before after : Node P S) (task : Option (Out S)) → slice_get s.nodes.items home ≡ Some before → home < length s.nodes.items
    → new.nodes.items ≡ slice_set s.nodes.items home after → HasChanged i r before after → out_of (Some r) ≡ task
    → (m j : ℕ) → out_at (seen_of new) m j ≡ cond ((m == home) && (j == i)) task (out_at (seen_of s) m j)
puts_out {P} {S} s new home i r before after task at lt nodes h is m j =
    ap (λ (l : List (Node P S)). get_or (get_or (map outs_of l) m []) j None) nodes
    ∙ ap (λ (l : List (List (Option (Out S)))). get_or (get_or l m []) j None) (map_set outs_of s.nodes.items home after)
    ∙ ⊎_elim own other (cases_eq m home)
  where
    all : List (List (Option (Out S)))
    all = map outs_of s.nodes.items

    own : m ≡ home → get_or (get_or (slice_set all home (outs_of after)) m []) j None ≡ cond ((m == home) && (j == i)) task (out_at (seen_of s) m j)
    own e =
        ap (λ (k : ℕ). get_or (get_or (slice_set all home (outs_of after)) k []) j None) e
        ∙ ap (λ (l : List (Option (Out S))). get_or l j None) (got_own [] all home (outs_of after) (omega (arith, lt, map_count outs_of s.nodes.items)))
        ∙ has_at after.residents.items j ∙ ap out_of (h.put.put j)
        ∙ ⊎_elim mine else_ (cases_eq j i)
        ∙ sym (ap (λ (b : Bool). cond (b && (j == i)) task (out_at (seen_of s) m j)) (eq-eqb m home e))
      where
        mine : j ≡ i → out_of (with_at (resident_at before) i (Some r) j) ≡ cond (j == i) task (out_at (seen_of s) m j)
        mine d =
            ap (λ (k : ℕ). out_of (with_at (resident_at before) i (Some r) k)) d ∙ ap out_of (with_own (resident_at before) i (Some r)) ∙ is
            ∙ sym (ap (λ (b : Bool). cond b task (out_at (seen_of s) m j)) (eq-eqb j i d))

        else_ : (j ≡ i → ⊥) → out_of (with_at (resident_at before) i (Some r) j) ≡ cond (j == i) task (out_at (seen_of s) m j)
        else_ apart =
            ap out_of (with_other (resident_at before) i (Some r) j apart) ∙ sym (seen_there s.nodes.items home j before at) ∙ sym (ap (λ (k : ℕ). out_at (seen_of s) k j) e)
            ∙ sym (ap (λ (b : Bool). cond b task (out_at (seen_of s) m j)) (ne_eqb j i apart))

    other : (m ≡ home → ⊥) → get_or (get_or (slice_set all home (outs_of after)) m []) j None ≡ cond ((m == home) && (j == i)) task (out_at (seen_of s) m j)
    other apart =
        ap (λ (l : List (Option (Out S))). get_or l j None) (got_else [] all home m (outs_of after) apart)
        ∙ sym (ap (λ (b : Bool). cond (b && (j == i)) task (out_at (seen_of s) m j)) (ne_eqb m home apart))

-- where a task is seen
pub seen_where : {P S : Type 0} (nodes : List (Node P S)) (m i : ℕ) (task : Out S) → get_or (get_or (map outs_of nodes) m []) i None ≡ Some task → (node : Node P S) × (slice_get nodes m ≡ Some node) × (out_of (resident_at node i) ≡ Some task)
seen_where [] m i task h = absurd (cc h)
seen_where (node ∷ nodes) zero i task h = (node, refl, sym (has_at node.residents.items i) ∙ h)
seen_where (node ∷ nodes) (suc m) i task h = seen_where nodes m i task h

pub out_some : {S : Type 0} (o : Option (Resident S)) (task : Out S) → out_of o ≡ Some task → (r : Resident S) × (view : Viewed) × (o ≡ Some r) × (r.out ≡ Some view)
out_some None task h = absurd (cc h)
out_some {S} (Some r) task h = go r.out refl h
  where
    go : (v : Option Viewed) → r.out ≡ v → option_map (λ (view : Viewed). record { start = r.state; calls = r.calls; view = view }) v ≡ Some task → (q : Resident S) × (view : Viewed) × (◌≡◌ {A = Option (Resident S)} (Some r) (Some q)) × (q.out ≡ Some view)
    go None is h = absurd (cc h)
    go (Some view) is h = (r, view, refl, is)

-- no task is out that wasn't, where each process with one is as it was
pub out_before : {P S : Type 0} (s new : Parts P S) → KeepTasks s.nodes.items new.nodes.items → OutBefore (seen_of s) (seen_of new)
out_before {P} {S} s new keeps m i task h =
    let at = seen_where new.nodes.items m i task h in
    let here = out_some (resident_at at.0 i) task at.2 in
    let was = keeps m i at.0 here.0 here.1 at.1 here.2 here.3 in
    seen_there s.nodes.items m i was.0 was.1 ∙ ap out_of (was.2 ∙ sym here.2) ∙ at.2

pub out_same : {S : Type 0} (s new : Seen S) → new ≡ s → OutBefore s new
out_same {S} s new is m i task h = ap (λ (v : Seen S). out_at v m i) (sym is) ∙ h
