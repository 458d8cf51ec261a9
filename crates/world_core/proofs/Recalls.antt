-- With no task out the parts of a run stand for the same world.
use Rattle.std.proofs.Common.{◌≡◌, ◌≤◌, ◌<◌, ◌∙◌, ⊎_elim, ℕ, zero, suc, List, [], ◌∷◌, Option, Some, None, slice_get, slice_set, slice_index_or, ap, sym, subst, refl, arith, map, length}
use Rattle.std.proofs.lemmas.Bool.{cases_lt}
use Rattle.std.proofs.lemmas.Option.{slice_get_within}
use Rattle.world_rules.specs.Frame.{Frame}
use Rattle.node_core.specs.CheckingIn.{HasRecalled, recalled}
use Rattle.node_core.specs.Pieces.{resident_at}
use Rattle.node_parts.specs.Shown.{Left, Stood}
use Rattle.node_core.specs.Stands.{StandsAlike}
use Rattle.node_core.specs.declared.node.Node.{Node}
use Rattle.node_parts.specs.declared.resident.Resident.{Resident}
use Rattle.world_parts.proofs.Lists.{got_set, set_length}
use Rattle.world_parts.proofs.Opening.{nobody_out}
use Rattle.world_parts.specs.Seen.{tasks_out}
use Rattle.world_parts.specs.Standing.{IsWorld, Stands, seen_of}
use Rattle.world_parts.specs.declared.parts.Parts.{Parts}
use Rattle.world_core.specs.Recalling.{AreRecalled, IsRecalled}

-- what the loop knows: those before this member are, the others are as they were
pub record RecalledTo {P S : Type 0} (stood : Stood S) (left : Left S) (k : ℕ) (old new : List (Node P S)) : Type 0 where
  pub count : length new ≡ length old
  pub each : (m : ℕ) (after : Node P S) → m < k → slice_get new m ≡ Some after → IsRecalled stood left old m after
  pub others : (m : ℕ) → k ≤ m → slice_get new m ≡ slice_get old m

pub recalled_first : {P S : Type 0} (stood : Stood S) (left : Left S) (nodes : List (Node P S)) → RecalledTo stood left 0 nodes nodes
recalled_first stood left nodes = record { count = refl; each = λ m after lt at. absurd (omega (arith, lt)); others = λ m low. refl }

got_other : {A : Type 0} (xs : List A) (k j : ℕ) (x : A) → (j ≡ k → ⊥) → slice_get (slice_set xs k x) j ≡ slice_get xs j
got_other [] k j x apart = refl
got_other (y ∷ xs) zero zero x apart = absurd (apart refl)
got_other (y ∷ xs) zero (suc j) x apart = refl
got_other (y ∷ xs) (suc k) zero x apart = refl
got_other (y ∷ xs) (suc k) (suc j) x apart = got_other xs k j x (λ e. apart (ap suc e))

pub recalled_next : {P S : Type 0} (stood : Stood S) (left : Left S) (k next : ℕ) (old now new : List (Node P S)) (before after : Node P S) → suc k ≡ next → RecalledTo stood left k old now
    → slice_get now k ≡ Some before → new ≡ slice_set now k after → HasRecalled before after → StandsAlike stood left before after → RecalledTo stood left next old new
recalled_next {P} {S} stood left k next old now new before after one h at is has alike =
    subst (RecalledTo stood left next old) (sym is) (record {
      count = set_length now k after ∙ h.count;
      each = λ m node lt there. ⊎_elim (own m node) (other m node lt) (got_set now k m after node there);
      others = λ m low. got_other now k m after (λ e. absurd (omega (arith, e, low, one))) ∙ h.others m (omega (arith, low, one));
    })
  where
    own : (m : ℕ) (node : Node P S) → (m ≡ k) × (after ≡ node) → IsRecalled stood left old m node
    own m node same =
        subst (λ (n : Node P S). IsRecalled stood left old m n) same.1
        (record { before = before; here = ap (slice_get old) same.0 ∙ sym (h.others k (omega arith)) ∙ at; recalled = has; alike = alike })

    other : (m : ℕ) (node : Node P S) → m < next → (m ≡ k → ⊥) × (slice_get now m ≡ Some node) → IsRecalled stood left old m node
    other m node lt apart = ⊎_elim (λ (low : m < k). h.each m node low apart.1) (λ (ge : k ≤ m). absurd (apart.0 (omega (arith, lt, ge, one)))) (cases_lt m k)

pub recalled_over : {P S : Type 0} (stood : Stood S) (left : Left S) (k : ℕ) (old new : List (Node P S)) → length new ≤ k → RecalledTo stood left k old new → AreRecalled stood left old new
recalled_over stood left k old new past h = record {
  count = h.count;
  each = λ m after at. h.each m after (omega (arith, past, slice_get_within new m after at)) at;
}

-- ---- the run

pub none_there : {P S : Type 0} (before after : Node P S) → HasRecalled before after → (i : ℕ) (r : Resident S) → resident_at after i ≡ Some r → r.out ≡ None
none_there {P} {S} before after h i r at =
    go before.residents.items i (ap (λ (l : List (Option (Resident S))). slice_index_or l i None) (sym h.ended) ∙ at)
  where
    one : (o : Option (Resident S)) → recalled o ≡ Some r → r.out ≡ None
    one None is = absurd (cc is)
    one (Some q) is = let e : record q { out = None } ≡ r = cc in ap (λ (t : Resident S). t.out) (sym e)

    go : (rs : List (Option (Resident S))) (i : ℕ) → slice_index_or (map recalled rs) i None ≡ Some r → r.out ≡ None
    go [] i is = absurd (cc is)
    go (o ∷ rs) zero is = one o is
    go (o ∷ rs) (suc i) is = go rs i is

pub nobody_there : {P S : Type 0} (stood : Stood S) (left : Left S) (old new : List (Node P S)) → AreRecalled stood left old new
    → (m i : ℕ) (node : Node P S) (r : Resident S) → slice_get new m ≡ Some node → resident_at node i ≡ Some r → r.out ≡ None
nobody_there stood left old new h m i node r at here = let is = h.each m node at in none_there is.before node is.recalled i r here

pub recalled_stands : {P S : Type 0} (stood : Stood S) (left : Left S) (f : Frame) (old new : Parts P S) → new ≡ record old { nodes = new.nodes }
    → AreRecalled stood left old.nodes.items new.nodes.items → Stands stood left f old → Stands stood left f new × (tasks_out (seen_of new) ≡ 0)
recalled_stands {P} {S} stood left f old new same h stands =
    (subst (Stands stood left f) (sym same) stand, none)
  where
    nobody : (m i : ℕ) (node : Node P S) (r : Resident S) → slice_get new.nodes.items m ≡ Some node → resident_at node i ≡ Some r → r.out ≡ None
    nobody = nobody_there stood left old.nodes.items new.nodes.items h

    none : tasks_out (seen_of new) ≡ 0
    none = nobody_out new.nodes.items nobody

    clash : {A : Type 0} (o : Option A) (a : A) → o ≡ None → o ≡ Some a → ⊥
    clash None a e d = cc
    clash (Some b) a e d = cc

    is : IsWorld stood left f (record old { nodes = new.nodes }) stands.world
    is = record {
      replays = stands.is.replays;
      all = stands.is.all;
      living = stands.is.living;
      flights = stands.is.flights;
      read = stands.is.read;
      entries = stands.is.entries;
      performed = stands.is.performed;
      sent = stands.is.sent;
      swaps = stands.is.swaps;
      idle = stands.is.idle;
      few = stands.is.few;
      ticks = stands.is.ticks;
      members = h.count ∙ stands.is.members;
      nodes = λ m node at. let r = h.each m node at in r.alike f m (stands.world.nodes m) (stands.is.nodes m r.before r.here);
      tasks = λ m i node r view at here out. absurd (clash r.out view (nobody m i node r at here) out);
      step_room = omega (arith, none);
      piece_room = omega (arith, none);
    }

    stand : Stands stood left f (record old { nodes = new.nodes })
    stand = record { numbers = stands.numbers; settings = stands.settings; laws = stands.laws; world = stands.world; is = is }
