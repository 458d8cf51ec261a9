-- One process changes: what else corresponds goes on corresponding.
use Rattle.std.proofs.Common.{◌≡◌, ◌≤◌, ◌<◌, ℕ, ◌⊎◌, inl, inr, List, Option, Some, sym, ap, ◌∙◌, subst, length, take}
use Rattle.std.proofs.lemmas.Bool.{cases_eq}
use Rattle.std.specs.Prelude.{slice_get}
use Rattle.value_core.specs.declared.message.Message.{Message}
use Rattle.value_core.specs.Meaning.{Performs, Computes}
use Rattle.group_rules.specs.Sets.{In as IsIn}
use Rattle.object_manager.specs.After.{Copied}
use Rattle.book_law.specs.Passes.{Test}
use Rattle.book_law.specs.Course.{Came, Course}
use Rattle.book_law.specs.Course.Came.{Then}
use Rattle.book_law.specs.Events.{In, Runner}
use Rattle.book_law.specs.Members.{copies_of}
use Rattle.world_rules.specs.Frame.{Frame}
use Rattle.world_rules.specs.Nodes.{Node}
use Rattle.world_rules.specs.Played.{Played}
use Rattle.world_rules.specs.Processes.{Begun, processes_in}
use Rattle.world_rules.specs.Worlds.{World}
use Rattle.world_course.specs.Chain.{Leads}
use Rattle.world_course.specs.Chain.Leads.{Stays, By}
use Rattle.world_course.specs.Corresponds.{Agrees, IsAsked, IsMember, IsOf, Lifts, Stands}
use Rattle.world_course.specs.Processes.{IsProcess, IsRunner, StandsHere}

-- ---- chains

pub leads_on : (single : Test) (p : Performs) (q : Computes) (c d e : Course) → Leads single p q c d → Leads single p q d e → Leads single p q c e
leads_on single p q c d e (Stays w) more = more
leads_on single p q c d e (By w u v next rest) more = By w u e next (leads_on single p q u v e rest more)

pub came_on : (single : Test) (p : Performs) (q : Computes) (c d : Course) → Came single p q c → Leads single p q c d → Came single p q d
came_on single p q c d came (Stays w) = came
came_on single p q c d came (By w u v next rest) = came_on single p q u v (Then w u came next) rest

pub lifts_on : (f : Frame) (single : Test) (c d : Course) (v : World) → Leads single f.performs f.computes c d → Lifts f single d v → Lifts f single c v
lifts_on f single c d v leads l = (l.0, leads_on single f.performs f.computes c d l.0 leads l.1, l.2)

-- ---- what stays of a course, and of a node

-- process i alone changes
pub record OneProcess (f : Frame) (single : Test) (c d : Course) (came : Came single f.performs f.computes c) (later : Came single f.performs f.computes d) (i : ℕ) : Type 0 where
  pub list : d.list ≡ c.list
  pub applied : (m : ℕ) → d.applied m ≡ c.applied m
  pub others : (k : ℕ) → (k ≡ i → ⊥) → d.runners k ≡ c.runners k
  pub copies : (m : ℕ) → copies_of single f.performs f.computes d later m ≡ copies_of single f.performs f.computes c came m

-- the node's copies stay, and what they applied of the log
pub record SameCopies (node more : Node) : Type 0 where
  pub copies : more.copies ≡ node.copies
  pub entries : take node.copies.applied more.member.log ≡ take node.copies.applied node.member.log

pub record NodeWith (node more : Node) (i : ℕ) (r : Played) : Type 0 where
  pub same : SameCopies node more
  pub plays : more.played i ≡ Some r
  pub others : (k : ℕ) → (k ≡ i → ⊥) → more.played k ≡ node.played k

pub asked_on : (single : Test) (c d : Course) (x : Message) → d.asked ≡ c.asked → IsAsked single c x → IsAsked single d x
asked_on single c d x same h = record { among = subst (λ (l : List Message). In x l) (sym same) h.among; shared = h.shared }

same_node : (node more : Node) → more ≡ node → SameCopies node more
same_node node more e = record { copies = ap (λ (n : Node). n.copies) e; entries = ap (λ (n : Node). take node.copies.applied n.member.log) e }

pub member_stays : (f : Frame) (single : Test) (c d : Course) (came : Came single f.performs f.computes c) (later : Came single f.performs f.computes d) (m : ℕ) (node more : Node)
    → d.list ≡ c.list → d.applied m ≡ c.applied m → copies_of single f.performs f.computes d later m ≡ copies_of single f.performs f.computes c came m → SameCopies node more
    → IsMember f single c came m node → IsMember f single d later m more
member_stays f single c d came later m node more list applied copies same h = record {
  applied = applied ∙ h.applied ∙ ap (λ (k : Copied). k.applied) (sym same.copies);
  entries = subst (λ (k : Copied). take k.applied more.member.log ≡ take k.applied d.list) (sym same.copies)
      (same.entries ∙ h.entries ∙ ap (take node.copies.applied) (sym list));
  copies = same.copies ∙ h.copies ∙ sym copies;
}

pub one_begun : (o : Option Begun) (a b : Begun) → o ≡ Some a → o ≡ Some b → a ≡ b
one_begun o a b e g = let h : Some a ≡ Some b = sym e ∙ g in cc

-- the process that changed is this one, at this node
pub record Changed (f : Frame) (w v : World) (c d : Course) (i m : ℕ) : Type 0 where
  pub begun : Begun
  pub played : Played
  pub runner : Runner
  pub there : slice_get (processes_in f c.list) i ≡ Some begun
  pub home : begun.home ≡ m
  pub place : begun.place ≤ (w.nodes m).copies.applied
  pub reaches : played.place ≤ (w.nodes m).copies.applied
  pub node : NodeWith (w.nodes m) (v.nodes m) i played
  pub nodes : (k : ℕ) → (k ≡ m → ⊥) → v.nodes k ≡ w.nodes k
  pub runs : d.runners i ≡ Some runner
  pub member : runner.member ≡ begun.home
  pub is : IsRunner f.computes i played runner

pub one_process : (f : Frame) (single : Test) (w v : World) (c d : Course) (h : Stands f single w c) (later : Came single f.performs f.computes d) (i m : ℕ)
    → OneProcess f single c d h.came later i → Changed f w v c d i m → d.aside ≡ v.aside → ((x : Message) → IsIn x (v.past.submitted x.process.0) → IsAsked single d x)
    → Stands f single v d
one_process f single w v c d h later i m one z aside asked = record {
  came = later;
  test = subst (Agrees f single) (sym one.list) h.test;
  beside = aside;
  asked = asked;
  callers = λ n y is. subst (λ (l : List Message). y.process.0 < length (processes_in f (take n l))) (sym one.list) (h.callers n y (ap (λ (l : List Message). slice_get l n) (sym one.list) ∙ is));
  members = λ k. member_stays f single c d h.came later k (w.nodes k) (v.nodes k) one.list (one.applied k) (one.copies k) (copies_stay k) (h.members k);
  processes = λ j b is. process j b (ap (λ (l : List Message). slice_get (processes_in f l) j) (sym one.list) ∙ is) (cases_eq j i);
  played = λ k j r is. plays k j r is (cases_eq j i) (cases_eq k m);
}
  where
    copies_by : (k : ℕ) → (k ≡ m) ⊎ (k ≡ m → ⊥) → SameCopies (w.nodes k) (v.nodes k)
    copies_by k (inl e) = subst (λ (n : ℕ). SameCopies (w.nodes n) (v.nodes n)) (sym e) z.node.same
    copies_by k (inr apart) = same_node (w.nodes k) (v.nodes k) (z.nodes k apart)

    copies_stay : (k : ℕ) → SameCopies (w.nodes k) (v.nodes k)
    copies_stay k = copies_by k (cases_eq k m)

    applied_at : (k : ℕ) → (v.nodes k).copies.applied ≡ (w.nodes k).copies.applied
    applied_at k = let s = copies_stay k in ap (λ (n : Copied). n.applied) s.copies

    played_by : (k j : ℕ) → (j ≡ i → ⊥) → (k ≡ m) ⊎ (k ≡ m → ⊥) → (v.nodes k).played j ≡ (w.nodes k).played j
    played_by k j apart (inl e) = subst (λ (n : ℕ). (v.nodes n).played j ≡ (w.nodes n).played j) (sym e) (z.node.others j apart)
    played_by k j apart (inr other) = ap (λ (n : Node). n.played j) (z.nodes k other)

    process : (j : ℕ) (b : Begun) → slice_get (processes_in f c.list) j ≡ Some b → (j ≡ i) ⊎ (j ≡ i → ⊥) → IsProcess f.computes j b (d.runners j) (v.nodes b.home)
    process j b is (inl e) =
        let same : z.begun ≡ b = one_begun (slice_get (processes_in f c.list) i) z.begun b z.there (ap (slice_get (processes_in f c.list)) (sym e) ∙ is) in
        subst (λ (n : ℕ). IsProcess f.computes n b (d.runners n) (v.nodes b.home)) (sym e)
        (subst (λ (a : Begun). IsProcess f.computes i a (d.runners i) (v.nodes a.home)) same
        (subst (λ (n : ℕ). IsProcess f.computes i z.begun (d.runners i) (v.nodes n)) (sym z.home)
        (record {
          runner = z.runner;
          runs = z.runs;
          member = z.member;
          stands = subst (λ (o : Option Played). StandsHere f.computes i z.begun z.runner (v.nodes m).copies.applied o) (sym z.node.plays)
              (subst (λ (n : ℕ). z.begun.place ≤ n) (sym (applied_at m)) z.place, subst (λ (n : ℕ). z.played.place ≤ n) (sym (applied_at m)) z.reaches, z.is);
        })))
    process j b is (inr apart) =
        let u = h.processes j b is in
        record {
          runner = u.runner;
          runs = one.others j apart ∙ u.runs;
          member = u.member;
          stands = subst (λ (n : ℕ). StandsHere f.computes j b u.runner n ((v.nodes b.home).played j)) (sym (applied_at b.home))
              (subst (λ (o : Option Played). StandsHere f.computes j b u.runner (w.nodes b.home).copies.applied o) (sym (played_by b.home j apart (cases_eq b.home m))) u.stands);
        }

    moved : (k j : ℕ) → IsOf f c k j → IsOf f d k j
    moved k j o = record { begun = o.begun; there = ap (λ (l : List Message). slice_get (processes_in f l) j) one.list ∙ o.there; home = o.home }

    plays : (k j : ℕ) (r : Played) → (v.nodes k).played j ≡ Some r → (j ≡ i) ⊎ (j ≡ i → ⊥) → (k ≡ m) ⊎ (k ≡ m → ⊥) → IsOf f d k j
    plays k j r is (inl e) (inl g) = moved k j (record { begun = z.begun; there = ap (slice_get (processes_in f c.list)) e ∙ z.there; home = z.home ∙ sym g })
    plays k j r is (inl e) (inr apart) = moved k j (h.played k j r (ap (λ (n : Node). n.played j) (sym (z.nodes k apart)) ∙ is))
    plays k j r is (inr apart) at = moved k j (h.played k j r (sym (played_by k j apart at) ∙ is))

-- and so does who applied the whole list
pub one_reached : (w v : World) (c d : Course) (f : Frame) (i m : ℕ) → Changed f w v c d i m → d.list ≡ c.list → ((k : ℕ) × (length c.list ≤ (w.nodes k).copies.applied)) → (k : ℕ) × (length d.list ≤ (v.nodes k).copies.applied)
one_reached w v c d f i m z list (k, le) = (k, subst (λ (n : ℕ). length d.list ≤ n) (sym (at (cases_eq k m))) (subst (λ (l : List Message). length l ≤ (w.nodes k).copies.applied) (sym list) le))
  where
    at : (k ≡ m) ⊎ (k ≡ m → ⊥) → (v.nodes k).copies.applied ≡ (w.nodes k).copies.applied
    at (inl e) = subst (λ (n : ℕ). (v.nodes n).copies.applied ≡ (w.nodes n).copies.applied) (sym e) (ap (λ (n : Copied). n.applied) z.node.same.copies)
    at (inr apart) = ap (λ (n : Node). n.copies.applied) (z.nodes k apart)
