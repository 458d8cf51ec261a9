-- An event leaves no more tasks out than there were.
use Rattle.std.proofs.Common.{◌≡◌, ◌≤◌, ◌∙◌, ℕ, zero, suc, Bool, true, false, cond, List, [], ◌∷◌, Option, Some, None, slice_index_or, get_or, is_some, map, ap, sym, refl, arith, length}
use Rattle.object_manager.specs.Viewed.{Viewed}
use Rattle.node_core.specs.Pieces.{resident_at}
use Rattle.node_core.specs.declared.node.Node.{Node}
use Rattle.node_parts.specs.declared.resident.Resident.{Resident}
use Rattle.world_parts.proofs.Outs.{seen_out}
use Rattle.world_parts.specs.Seen.{all_outs, outs}
use Rattle.world_parts.specs.Standing.{has_out, out_of, outs_of}
use Rattle.world_core.specs.Drafting.{KeepTasks}

-- of one that is at each place where the other is, there are no more
no_more : (b c : Bool) → (b ≡ true → c ≡ true) → cond b 1 0 ≤ cond c 1 0
no_more false c h = omega arith
no_more true c h = let e = ap {B = ℕ} (λ (x : Bool). cond x 1 0) (h refl) in omega (arith, e)

outs_fewer : {A : Type 0} (bs cs : List (Option A)) → ((i : ℕ) → is_some (get_or bs i None) ≡ true → is_some (get_or cs i None) ≡ true) → outs bs ≤ outs cs
outs_fewer [] cs h = omega arith
outs_fewer (b ∷ bs) [] h =
    let first = no_more (is_some b) false (h 0) in
    let rest = outs_fewer bs [] (λ i. h (suc i)) in
    omega (arith, first, rest)
outs_fewer (b ∷ bs) (c ∷ cs) h =
    let first = no_more (is_some b) (is_some c) (h 0) in
    let rest = outs_fewer bs cs (λ i. h (suc i)) in
    omega (arith, first, rest)

-- a process with a task out
out_view : {S : Type 0} (o : Option (Resident S)) → has_out o ≡ true → (r : Resident S) × (view : Viewed) × (o ≡ Some r) × (r.out ≡ Some view)
out_view None h = absurd (cc h)
out_view {S} (Some r) h = go r.out refl h
  where
    go : (v : Option Viewed) → r.out ≡ v → is_some v ≡ true → (s : Resident S) × (view : Viewed) × (◌≡◌ {A = Option (Resident S)} (Some r) (Some s)) × (s.out ≡ Some view)
    go None is h = absurd (cc h)
    go (Some view) is h = (r, view, refl, is)

view_out : {S : Type 0} (o : Option (Resident S)) (r : Resident S) (view : Viewed) → o ≡ Some r → r.out ≡ Some view → has_out o ≡ true
view_out o r view is out = ap has_out is ∙ ap is_some out

outs_there : {S : Type 0} (rs : List (Option (Resident S))) (i : ℕ) → is_some (get_or (map out_of rs) i None) ≡ has_out (slice_index_or rs i None)
outs_there [] i = refl
outs_there (r ∷ rs) zero = seen_out r
outs_there (r ∷ rs) (suc i) = outs_there rs i

node_fewer : {P S : Type 0} (old new : Node P S)
    → ((i : ℕ) (r : Resident S) (view : Viewed) → resident_at new i ≡ Some r → r.out ≡ Some view → resident_at old i ≡ Some r) → outs (outs_of new) ≤ outs (outs_of old)
node_fewer {P} {S} old new keeps = outs_fewer (outs_of new) (outs_of old) each
  where
    each : (i : ℕ) → is_some (get_or (outs_of new) i None) ≡ true → is_some (get_or (outs_of old) i None) ≡ true
    each i h =
        let there = out_view (resident_at new i) (sym (outs_there new.residents.items i) ∙ h) in
        let was = keeps i there.0 there.1 there.2 there.3 in
        outs_there old.residents.items i ∙ view_out (resident_at old i) there.0 there.1 was there.3

pub tasks_fewer : {P S : Type 0} (old new : List (Node P S)) → length new ≡ length old → KeepTasks old new → all_outs (map outs_of new) ≤ all_outs (map outs_of old)
tasks_fewer [] [] same h = omega arith
tasks_fewer [] (node ∷ new) same h = absurd (omega (arith, same))
tasks_fewer (before ∷ old) [] same h = absurd (omega (arith, same))
tasks_fewer {P} {S} (before ∷ old) (node ∷ new) same h =
    let first = node_fewer before node here in
    let rest = tasks_fewer old new (omega (arith, same)) (λ m i n r view at there out. h (suc m) i n r view at there out) in
    omega (arith, first, rest)
  where
    here : (i : ℕ) (r : Resident S) (view : Viewed) → resident_at node i ≡ Some r → r.out ≡ Some view → resident_at before i ≡ Some r
    here i r view at out =
        let was = h 0 i node r view refl at out in
        let e : ◌≡◌ {A = Node P S} before was.0 = (let f : ◌≡◌ {A = Option (Node P S)} (Some before) (Some was.0) = was.1 in cc f) in
        ap (λ (n : Node P S). resident_at n i) e ∙ was.2
