-- How many tasks are out.
use Rattle.std.proofs.Common.{◌≡◌, ◌≤◌, ◌<◌, ◌+◌, ◌*◌, ◌^◌, ◌∙◌, ℕ, zero, suc, Bool, true, false, List, [], ◌∷◌, Option, Some, None, is_some, option_map, slice_get, slice_index_or, get_or, take, cond, ap, sym, subst, refl, arith, map, length}
use Rattle.std.proofs.Math.ListN.{get_or-map}
use Rattle.std.proofs.lemmas.List.{take_all}
use Rattle.orca_base.specs.declared.limits.TheConstants.{NODES}
use Rattle.object_manager.specs.After.{Copied}
use Rattle.object_manager.specs.Limits.{most_processes}
use Rattle.world_rules.specs.Frame.{Frame}
use Rattle.world_rules.specs.Played.{Played}
use Rattle.node_core.specs.Pieces.{resident_at}
use Rattle.node_parts.specs.Shown.{IsPlayedIf, Left, Stood}
use Rattle.node_core.specs.declared.node.Node.{Node}
use Rattle.node_parts.specs.declared.resident.Resident.{Resident}
use Rattle.world_parts.specs.Seen.{Out, all_outs, is_out, outs}
use Rattle.world_parts.specs.Standing.{Stands, has_out, out_of, outs_of, seen_of}
use Rattle.world_parts.specs.declared.parts.Parts.{Parts}

-- ---- at a member

-- one process more
pub outs_next : {A : Type 0} (bs : List (Option A)) (k : ℕ) → outs (take (suc k) bs) ≡ outs (take k bs) + cond (is_some (get_or bs k None)) 1 0
outs_next [] zero = refl
outs_next [] (suc k) = refl
outs_next (b ∷ bs) zero = omega arith
outs_next (b ∷ bs) (suc k) = let e = outs_next bs k in omega (arith, e)

-- those behind n have none out
outs_past : {A : Type 0} (bs : List (Option A)) (n : ℕ) → ((i : ℕ) → n ≤ i → is_some (get_or bs i None) ≡ false) → outs (take n bs) ≡ outs bs
outs_past {A} [] n h = ap outs (take_none n)
  where
    take_none : (n : ℕ) → take {A = Option A} n [] ≡ []
    take_none zero = refl
    take_none (suc n) = refl
outs_past (b ∷ bs) zero h =
    let e : ◌≡◌ {A = ℕ} (cond (is_some b) 1 0) 0 = ap (λ (c : Bool). cond c 1 0) (h 0 (omega arith)) in
    let d = outs_past bs zero (λ i low. h (suc i) (omega arith)) in
    omega (arith, e, d)
outs_past (b ∷ bs) (suc n) h = let d = outs_past bs n (λ i low. h (suc i) (omega (arith, low))) in omega (arith, d)

-- it is out where it is seen to be
pub seen_out : {S : Type 0} (o : Option (Resident S)) → is_some (out_of o) ≡ has_out o
seen_out None = refl
seen_out (Some r) = some_mapped _ r.out
  where
    some_mapped : {A B : Type 0} (see : A → B) (o : Option A) → is_some (option_map see o) ≡ is_some o
    some_mapped see None = refl
    some_mapped see (Some x) = refl

out_there_of : {S : Type 0} (rs : List (Option (Resident S))) (i : ℕ) → get_or (map out_of rs) i None ≡ out_of (slice_index_or rs i None)
out_there_of rs i = get_or-map out_of rs i None

out_at : {S : Type 0} (rs : List (Option (Resident S))) (i : ℕ) → is_some (get_or (map out_of rs) i None) ≡ has_out (slice_index_or rs i None)
out_at rs i = ap is_some (out_there_of rs i) ∙ seen_out (slice_index_or rs i None)

-- what the loop over processes knows
pub record Counted {P S : Type 0} (node : Node P S) (k tasks : ℕ) : Type 0 where
  pub outs : tasks ≡ outs (take k (outs_of node))
  pub few : tasks ≤ k

pub counted_first : {P S : Type 0} (node : Node P S) → Counted node 0 0
counted_first node = record { outs = refl; few = omega arith }

pub counted_next : {P S : Type 0} (node : Node P S) (k next tasks one more : ℕ) → suc k ≡ next → Counted node k tasks
    → one ≡ cond (has_out (resident_at node k)) 1 0 → more ≡ tasks + one → Counted node next more
counted_next {P} {S} node k next tasks one more is h so sum =
    let e = outs_next (outs_of node) k in
    let d : cond (is_some (get_or (outs_of node) k None)) 1 0 ≡ one = ap (λ (b : Bool). cond b 1 0) (out_at node.residents.items k) ∙ sym so in
    let few = at_most (has_out (resident_at node k)) in
    subst (λ (n : ℕ). Counted node n more) is (record { outs = omega (arith, h.outs, e, d, sum); few = omega (arith, h.few, so, sum, few) })
  where
    at_most : (b : Bool) → cond b 1 0 ≤ 1
    at_most true = omega arith
    at_most false = omega arith

pub counted_all : {P S : Type 0} (node : Node P S) (k n tasks : ℕ) → k ≡ n → Counted node k tasks
    → ((i : ℕ) → n ≤ i → has_out (resident_at node i) ≡ false) → tasks ≡ outs (outs_of node)
counted_all node k n tasks is h past =
    h.outs ∙ ap (λ (m : ℕ). outs (take m (outs_of node))) is ∙ outs_past (outs_of node) n (λ i low. out_at node.residents.items i ∙ past i low)

-- a member knows no process beyond those that its copies count
pub none_past : {P S : Type 0} (stood : Stood S) (left : Left S) (f : Frame) (s : Parts P S) → Stands stood left f s → (m : ℕ) (node : Node P S)
    → slice_get s.nodes.items m ≡ Some node → (i : ℕ) → node.copies.processes ≤ i → has_out (resident_at node i) ≡ false
none_past {P} {S} stood left f s h m node at i low =
    let there = h.is.nodes m node at in
    let law = h.laws.stand f s.ledger.steps h.world h.is.replays in
    go (resident_at node i) ((h.world.nodes m).played i) refl (there.residents i) (λ r is. omega (arith, law.fresh m i r is, low, ap (λ (c : Copied). c.processes) there.copies))
  where
    go : (o : Option (Resident S)) (p : Option Played) → (h.world.nodes m).played i ≡ p → IsPlayedIf stood left i o p → ((r : Played) → (h.world.nodes m).played i ≡ Some r → ⊥) → has_out o ≡ false
    go None p is so none = refl
    go (Some r) None is so none = absurd so
    go (Some r) (Some q) is so none = absurd (none q is)

-- ---- at all members

all_next : {A : Type 0} (bss : List (List (Option A))) (k : ℕ) → all_outs (take (suc k) bss) ≡ all_outs (take k bss) + outs (get_or bss k [])
all_next [] zero = refl
all_next [] (suc k) = refl
all_next (bs ∷ bss) zero = omega arith
all_next (bs ∷ bss) (suc k) = let e = all_next bss k in omega (arith, e)

got : {A B : Type 0} (f : A → B) (xs : List A) (k : ℕ) (x : A) (d : B) → slice_get xs k ≡ Some x → get_or (map f xs) k d ≡ f x
got f [] k x d is = absurd (cc is)
got f (y ∷ xs) zero x d is = let e : y ≡ x = cc in ap f e
got f (y ∷ xs) (suc k) x d is = got f xs k x d is

-- a task of this process is out where its member says so
pub out_there : {P S : Type 0} (s : Parts P S) (home i : ℕ) (node : Node P S) → Some node ≡ slice_get s.nodes.items home
    → has_out (resident_at node i) ≡ is_out (seen_of s) home i
out_there {P} {S} s home i node at =
    sym (ap (λ (bs : List (Option (Out S))). is_some (get_or bs i None)) (got outs_of s.nodes.items home node [] (sym at)) ∙ out_at node.residents.items i)

-- what the loop over members knows
pub record CountedAll {P S : Type 0} (nodes : List (Node P S)) (k tasks : ℕ) : Type 0 where
  pub outs : tasks ≡ all_outs (take k (map outs_of nodes))
  pub few : tasks ≤ 256 * k

pub all_first : {P S : Type 0} (nodes : List (Node P S)) → CountedAll nodes 0 0
all_first nodes = record { outs = refl; few = omega arith }

pub all_more : {P S : Type 0} (nodes : List (Node P S)) (k next tasks one more : ℕ) (node : Node P S) → suc k ≡ next → CountedAll nodes k tasks
    → slice_get nodes k ≡ Some node → one ≡ outs (outs_of node) → one ≤ most_processes → more ≡ tasks + one → CountedAll nodes next more
all_more nodes k next tasks one more node is h at so few sum =
    let e = all_next (map outs_of nodes) k in
    let d : outs (get_or (map outs_of nodes) k []) ≡ one = ap outs (got outs_of nodes k node [] at) ∙ sym so in
    let most : most_processes ≡ 256 = refl in
    subst (λ (n : ℕ). CountedAll nodes n more) is (record { outs = omega (arith, h.outs, e, d, sum); few = omega (arith, h.few, few, sum, most) })

pub all_over : {P S : Type 0} (nodes : List (Node P S)) (k tasks : ℕ) → length nodes ≤ k → CountedAll nodes k tasks → tasks ≡ all_outs (map outs_of nodes)
all_over {P} {S} nodes k tasks past h =
    h.outs ∙ ap all_outs (take_all k (map outs_of nodes) (omega (arith, past, mapped nodes)))
  where
    mapped : (xs : List (Node P S)) → length (map outs_of xs) ≡ length xs
    mapped [] = refl
    mapped (x ∷ xs) = ap suc (mapped xs)

-- so many tasks have a place in 16 bits
pub fits : (k nodes count tasks one : ℕ) → k < count → count ≡ nodes → nodes ≤ NODES → tasks ≤ 256 * k → one ≤ most_processes → tasks + one < 2 ^ 16
fits k nodes count tasks one lt is few so low =
    let most : most_processes ≡ 256 = refl in
    let members : NODES ≡ 16 = refl in
    omega (arith, lt, is, few, so, low, most, members)
