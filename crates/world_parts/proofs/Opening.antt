-- Before the first event the parts of a run are the opening world.
use Rattle.std.proofs.Common.{◌≡◌, ◌∙◌, ⊎_elim, ℕ, zero, suc, Bool, true, List, [], ◌∷◌, ◌++◌, Option, Some, None, slice_get, slice_index_or, is_some, cond, replicate, ap, sym, subst, refl, arith, map, length}
use Rattle.std.proofs.lemmas.List.{length_push}
use Rattle.book_law.proofs.Lists.{at_push}
use Rattle.book_law.proofs.Sorting.{performed_none}
use Rattle.book_law.specs.Performed.{Performed}
use Rattle.object_manager.specs.Viewed.{Viewed}
use Rattle.value_core.specs.Meaning.{Computes, Performs}
use Rattle.value_core.specs.declared.message.Message.{Message}
use Rattle.world_rules.specs.Frame.{AreSettings, Frame}
use Rattle.world_rules.specs.Nodes.{opening_node}
use Rattle.world_rules.specs.Steps.{Replays}
use Rattle.world_rules.specs.Worlds.{agreed, longer_of, longest, opening_world, singles_in}
use Rattle.node_core.specs.Pieces.{resident_at}
use Rattle.node_parts.specs.Shown.{Left, Stood}
use Rattle.node_core.specs.Stands.{StandsAs}
use Rattle.node_core.specs.declared.node.Node.{Node}
use Rattle.node_parts.specs.declared.resident.Resident.{Resident}
use Rattle.world_parts.proofs.Outs.{seen_out}
use Rattle.world_parts.specs.Opening.{AreOpening}
use Rattle.world_parts.specs.Seen.{all_outs, outs, tasks_out}
use Rattle.world_parts.specs.Standing.{HasNumbers, Laws, Stands, out_of, outs_of, seen_of}
use Rattle.world_parts.specs.declared.parts.Parts.{Parts}

-- ---- laws

-- what is so of all runs of a machine, is so of the run's program, which the machine means
pub laws_of : (p p' : Performs) (q q' : Computes) → p ≡ p' → q ≡ q' → Laws p q → Laws p' q'
laws_of p p' q q' e d laws = subst (λ (r : Performs). Laws r q') e (subst (λ (r : Computes). Laws p r) d laws)

-- ---- no task is out

none_out : {S : Type 0} (rs : List (Option (Resident S))) → ((i : ℕ) (r : Resident S) → slice_index_or rs i None ≡ Some r → r.out ≡ None)
    → outs (map out_of rs) ≡ 0
none_out [] h = refl
none_out (None ∷ rs) h = let e = none_out rs (λ i r is. h (suc i) r is) in omega (arith, e)
none_out (Some r ∷ rs) h =
    let e = none_out rs (λ i q is. h (suc i) q is) in
    let d : ◌≡◌ {A = ℕ} (cond (is_some (out_of (Some r))) 1 0) 0 = ap (λ (b : Bool). cond b 1 0) (seen_out (Some r)) ∙ ap (λ (o : Option Viewed). cond (is_some o) 1 0) (h 0 r refl) in
    omega (arith, e, d)

pub nobody_out : {P S : Type 0} (nodes : List (Node P S)) →
    ((m i : ℕ) (node : Node P S) (r : Resident S) → slice_get nodes m ≡ Some node → resident_at node i ≡ Some r → r.out ≡ None) → all_outs (map outs_of nodes) ≡ 0
nobody_out [] h = refl
nobody_out (node ∷ nodes) h =
    let e = none_out node.residents.items (λ i r is. h 0 i node r refl is) in
    let d = nobody_out nodes (λ m i other r at is. h (suc m) i other r at is) in
    omega (arith, e, d)

-- ---- the members

pub opening_begins : {P S : Type 0} (stood : Stood S) (left : Left S) (f : Frame) → AreOpening {P = P} {S = S} stood left f 0 []
opening_begins {P} {S} stood left f = record { many = refl; each = λ m node is. absurd (cc is); none = λ m i node r is here. absurd (cc is) }

pub opening_more : {P S : Type 0} (stood : Stood S) (left : Left S) (f : Frame) (k next : ℕ) (nodes more : List (Node P S)) (node : Node P S) → suc k ≡ next
    → AreOpening stood left f k nodes → more ≡ nodes ++ node ∷ [] → StandsAs stood left f k node (opening_node f k)
    → ((i : ℕ) (r : Resident S) → resident_at node i ≡ Some r → r.out ≡ None) → AreOpening stood left f next more
opening_more {P} {S} stood left f k next nodes more node one h is stands none =
    subst (AreOpening stood left f next) (sym is) (record {
      many = omega (arith, length_push nodes node, h.many, one);
      each = λ m other at. ⊎_elim (λ old. h.each m other old) (λ new. last m other new) (at_push nodes node m other at);
      none = λ m i other r at here. ⊎_elim (λ old. h.none m i other r old here) (λ new. none i r (ap (λ (n : Node P S). resident_at n i) new.1 ∙ here)) (at_push nodes node m other at);
    })
  where
    last : (m : ℕ) (other : Node P S) → (m ≡ length nodes) × (node ≡ other) → StandsAs stood left f m other (opening_node f m)
    last m other new =
        let e : k ≡ m = omega (arith, new.0, h.many) in
        subst (λ (n : Node P S). StandsAs stood left f m n (opening_node f m)) new.1 (subst (λ (n : ℕ). StandsAs stood left f n node (opening_node f n)) e stands)

-- ---- the world

no_list : (f : Frame) (n : ℕ) → longest n (opening_world f) ≡ []
no_list f zero = refl
no_list f (suc n) = ap (λ (l : List Message). longer_of l []) (no_list f n)

all_true : (n m : ℕ) (b : Bool) → slice_get (replicate n true) m ≡ Some b → b ≡ true
all_true zero m b is = absurd (cc is)
all_true (suc n) zero b is = cc
all_true (suc n) (suc m) b is = all_true n m b is

length_replicated : (n : ℕ) → length (replicate n true) ≡ n
length_replicated zero = refl
length_replicated (suc n) = ap suc (length_replicated n)

-- nothing is recorded
pub record IsUnused {P S : Type 0} (s : Parts P S) : Type 0 where
  pub flights : s.net.flights ≡ []
  pub steps : s.ledger.steps ≡ []
  pub entries : s.ledger.entries ≡ []
  pub performed : s.ledger.performed ≡ []
  pub sent : s.sent ≡ 0
  pub swaps : s.swaps ≡ 0
  pub idle : s.idle ≡ 0

pub tasks_none : {P S : Type 0} (stood : Stood S) (left : Left S) (f : Frame) (s : Parts P S) → AreOpening stood left f f.settings.nodes s.nodes.items → tasks_out (seen_of s) ≡ 0
tasks_none stood left f s h = nobody_out s.nodes.items h.none

pub first_stands : {P S : Type 0} (stood : Stood S) (left : Left S) (f : Frame) (s : Parts P S) → HasNumbers s.numbers f.settings → AreSettings f.settings → Laws f.performs f.computes
    → AreOpening stood left f f.settings.nodes s.nodes.items → s.lives.items ≡ replicate f.settings.nodes true → IsUnused s → Stands stood left f s
first_stands {P} {S} stood left f s numbers settings laws nodes lives unused = record {
  numbers = numbers;
  settings = settings;
  laws = laws;
  world = opening_world f;
  is = record {
    replays = subst (λ steps. Replays f steps (opening_world f)) (sym unused.steps) refl;
    members = nodes.many;
    nodes = nodes.each;
    all = ap length lives ∙ length_replicated f.settings.nodes;
    living = λ m b at. all_true f.settings.nodes m b (ap (λ (l : List Bool). slice_get l m) (sym lives) ∙ at);
    flights = unused.flights;
    read = tt;
    entries = unused.entries ∙ sym (no_list f f.settings.nodes);
    performed = subst (Performed (singles_in f (opening_world f)) f.performs (agreed f (opening_world f)) []) (sym unused.performed)
        (subst (λ (l : List Message). Performed (singles_in f (opening_world f)) f.performs l [] []) (sym (no_list f f.settings.nodes)) (performed_none (singles_in f (opening_world f)) f.performs));
    sent = unused.sent;
    swaps = unused.swaps;
    idle = unused.idle;
    few = omega (arith, unused.sent);
    ticks = omega (arith, unused.idle);
    tasks = λ m i node r view at here out. absurd (none_some (nodes.none m i node r at here) out);
    step_room = omega (arith, tasks_none stood left f s nodes);
    piece_room = omega (arith, tasks_none stood left f s nodes);
  };
}
  where
    none_some : {A : Type 0} {o : Option A} {a : A} → o ≡ None → o ≡ Some a → ⊥
    none_some is isnt = cc
