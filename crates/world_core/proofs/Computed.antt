-- A burst that is checked in leaves this.
use Rattle.std.proofs.Common.{◌≡◌, ◌≤◌, ◌<◌, ◌∙◌, ⊎_elim, ◌||◌, ◌==◌, not, ℕ, zero, suc, Bool, false, List, [], ◌∷◌, ◌++◌, take, ap, sym, subst, refl, arith, length, append-nil, append_assoc}
use Rattle.std.proofs.lemmas.Bool.{cases_eq, ne_eqb}
use Rattle.value_core.specs.declared.action.Line.{Line}
use Rattle.value_core.specs.declared.message.Message.{Message}
use Rattle.object_manager.specs.After.{Copied}
use Rattle.book_law.proofs.Sorting.{performed_takes}
use Rattle.book_law.specs.Performed.{Performed, placed}
use Rattle.book_law.specs.declared.placing.Placed.{Placed}
use Rattle.group_rules.specs.Member.{Member}
use Rattle.group_rules.specs.Steps.{is_empty}
use Rattle.orca_base.specs.declared.ids.ProcessNo.{ProcessNo}
use Rattle.world_rules.specs.Frame.{Frame}
use Rattle.world_rules.specs.Mail.{Mail}
use Rattle.world_rules.specs.Nodes as nodes
use Rattle.world_rules.specs.Nodes.{NodeWork, aside_of, does, idle, mails_of}
use Rattle.world_rules.specs.Nodes.Deed.{Performs}
use Rattle.world_rules.specs.Parts.{computes, performs_all}
use Rattle.world_rules.specs.Played.{Played}
use Rattle.world_rules.specs.Processes.{processes_in, singles_of}
use Rattle.world_rules.specs.Steps.{AtWork, Burst, bursts, has_stirred, has_stirred_at, untouched}
use Rattle.world_rules.specs.Worlds.{World, agreed, applied_at, home_of, longer_of, longest, singles_in}
use Rattle.world_parts.specs.Standing.{IsWorld}
use Rattle.world_parts.specs.declared.parts.Parts.{Parts}
use Rattle.node_parts.specs.Shown.{Left, Stood}
use Rattle.world_core.specs.Drafting.{AreOutgoing}
use Rattle.world_core.proofs.Adding.{stays_at, stirred_added, with_other, with_own}
use Rattle.world_core.proofs.Progressing.{still}
use Rattle.world_core.proofs.Stepped.{Leaves}

-- ---- the member

-- reads leave the node, send nothing, and stand beside the list
reads_node : (place : ℕ) (lines : List Line) (v : NodeWork) → (performs_all place lines v).node ≡ v.node
reads_node place [] v = refl
reads_node place (line ∷ lines) v = reads_node place lines (does (Performs (record { place = place; line = line })) v)

reads_mails : (place : ℕ) (lines : List Line) (v : NodeWork) → mails_of (performs_all place lines v).deeds ≡ mails_of v.deeds
reads_mails place [] v = refl
reads_mails place (line ∷ lines) v = reads_mails place lines (does (Performs (record { place = place; line = line })) v)

reads_aside : (place : ℕ) (lines : List Line) (v : NodeWork) → aside_of (performs_all place lines v).deeds ≡ aside_of v.deeds ++ placed place lines
reads_aside place [] v = sym (append-nil (aside_of v.deeds))
reads_aside place (line ∷ lines) v =
    reads_aside place lines (does (Performs (record { place = place; line = line })) v)
    ∙ append_assoc (aside_of v.deeds) (record { place = place; line = line } ∷ []) (placed place lines)

-- so its member and its copies stay
pub computes_member : (i place : ℕ) (lines : List Line) (end : Played) (node : nodes.Node) → (computes i place lines end node).node.member ≡ node.member
computes_member i place lines end node = ap (λ (n : nodes.Node). n.member) (reads_node place lines (idle node))

pub computes_copies : (i place : ℕ) (lines : List Line) (end : Played) (node : nodes.Node) → (computes i place lines end node).node.copies ≡ node.copies
computes_copies i place lines end node = ap (λ (n : nodes.Node). n.copies) (reads_node place lines (idle node))

-- ---- the list

abbrev applied_of : Member Message → List Message
applied_of m = take m.applied m.log

longest_same : (n : ℕ) (w v : World) → ((m : ℕ) → (v.nodes m).member ≡ (w.nodes m).member) → longest n v ≡ longest n w
longest_same zero w v same = refl
longest_same (suc n) w v same =
    ap (λ (l : List Message). longer_of l (applied_at v n)) (longest_same n w v same)
    ∙ ap (λ (member : Member Message). longer_of (longest n w) (applied_of member)) (same n)

-- ---- the world

not_empty : (lines : List Line) (place : ℕ) → not (length lines == 0) ≡ not (is_empty (placed place lines))
not_empty [] place = refl
not_empty (line ∷ lines) place = ap not (ne_eqb (suc (length lines)) 0 (λ e. absurd (omega (arith, e))))

pub burst_leaves : {P S : Type 0} (stood : Stood S) (left : Left S) (f : Frame) (s : Parts P S) (w : World) (i : ProcessNo) (place : ℕ) (burst : Burst) → IsWorld stood left f s w → home_of f w i.0 < f.settings.nodes
    → place ≤ length (agreed f w) → Leaves f s w [] [] (placed place burst.reads) (not (length burst.reads == 0)) (bursts f w i place burst)
burst_leaves stood left f s w i place burst is within low = record {
  letters = subst (λ (mails : List Mail). AreOutgoing f.settings.nodes [] mails) (sym (reads_mails place burst.reads (idle (w.nodes home)))) tt;
  listed = append-nil s.ledger.entries ∙ is.entries ∙ sym list;
  did = subst (λ (l : List Message). Performed (singles_of f (processes_in f l)) f.performs l u.world.aside (s.ledger.performed ++ placed place burst.reads)) (sym list)
      (subst (λ (l : List Placed). Performed (singles_in f w) f.performs (agreed f w) l (s.ledger.performed ++ placed place burst.reads)) (sym (ap (λ (l : List Placed). w.aside ++ l) beside))
      (performed_takes (singles_in f w) f.performs (agreed f w) w.aside s.ledger.performed place burst.reads low is.performed));
  stirs = not_empty burst.reads place ∙ sym (ap (λ (l : List Placed). not (is_empty l)) beside) ∙ sym stirred;
  later = λ m. ⊎_elim (own m) (other m) (cases_eq m home);
}
  where
    home : ℕ
    home = home_of f w i.0

    v : NodeWork
    v = computes i.0 place burst.reads burst.end (w.nodes home)

    u : AtWork
    u = bursts f w i place burst

    beside : aside_of v.deeds ≡ placed place burst.reads
    beside = reads_aside place burst.reads (idle (w.nodes home))

    members : (m : ℕ) → (u.world.nodes m).member ≡ (w.nodes m).member
    members m = ⊎_elim mine others (cases_eq m home)
      where
        mine : m ≡ home → (u.world.nodes m).member ≡ (w.nodes m).member
        mine e =
            subst (λ (k : ℕ). (u.world.nodes k).member ≡ (w.nodes k).member) (sym e)
            (ap (λ (n : nodes.Node). n.member) (with_own w.nodes home v.node) ∙ computes_member i.0 place burst.reads burst.end (w.nodes home))

        others : (m ≡ home → ⊥) → (u.world.nodes m).member ≡ (w.nodes m).member
        others apart = ap (λ (n : nodes.Node). n.member) (with_other w.nodes home v.node m apart)

    list : agreed f u.world ≡ agreed f w
    list = longest_same f.settings.nodes w u.world members

    at_home : has_stirred_at (w.nodes home) v.node ≡ false
    at_home = ap (λ (m : Member Message). has_stirred_at (w.nodes home) (record v.node { member = m })) (computes_member i.0 place burst.reads burst.end (w.nodes home)) ∙ stays_at (w.nodes home)

    stirred : has_stirred f w u.world ≡ not (is_empty (aside_of v.deeds))
    stirred =
        stirred_added f w (untouched w) home v [] within refl (sym (append-nil w.aside))
        ∙ ap (λ (b : Bool). b || (has_stirred_at (w.nodes home) v.node || not (is_empty (aside_of v.deeds)))) (still f w w refl refl)
        ∙ ap (λ (b : Bool). b || not (is_empty (aside_of v.deeds))) at_home

    own : (m : ℕ) → m ≡ home → (w.nodes m).copies.applied ≤ (u.world.nodes m).copies.applied
    own m e =
        subst (λ (k : ℕ). (w.nodes k).copies.applied ≤ (u.world.nodes k).copies.applied) (sym e)
        (omega (arith, ap (λ (n : nodes.Node). n.copies.applied) (with_own w.nodes home v.node), ap (λ (c : Copied). c.applied) (computes_copies i.0 place burst.reads burst.end (w.nodes home))))

    other : (m : ℕ) → (m ≡ home → ⊥) → (w.nodes m).copies.applied ≤ (u.world.nodes m).copies.applied
    other m apart = omega (arith, ap (λ (n : nodes.Node). n.copies.applied) (with_other w.nodes home v.node m apart))
