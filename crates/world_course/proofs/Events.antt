-- What a course doesn't see of an event.
use Rattle.std.proofs.Common.{◌≡◌, ℕ, List, [], ◌∷◌, ◌++◌, refl, sym, ap, ◌∙◌, subst, take, append-nil}
use Rattle.value_core.specs.declared.message.Message.{Message}
use Rattle.net_rules.specs.declared.fate.Fate.{Fate}
use Rattle.group_rules.specs.World.{Past}
use Rattle.group_rules.specs.Member.{Member}
use Rattle.book_law.specs.Passes.{Test}
use Rattle.book_law.specs.Course.{Course}
use Rattle.book_law.specs.declared.placing.Placed.{Placed}
use Rattle.book_law.proofs.Courses.{at_other}
use Rattle.world_rules.specs.Frame.{Frame, group}
use Rattle.world_rules.specs.Mail.{Mail}
use Rattle.world_rules.specs.Nodes.{Node, NodeWork, aside_of, idle, past_after}
use Rattle.world_rules.specs.Steps.{posts, posts_all}
use Rattle.world_rules.specs.Worlds.{World}
use Rattle.world_course.specs.Corresponds.{Corresponds}
use Rattle.world_course.specs.Works.{at_work}
use Rattle.world_course.proofs.Catching.{steps_on}
use Rattle.world_course.proofs.Changing.{SameCopies}
use Rattle.world_course.proofs.Tries.{node_at}

-- ---- what isn't seen

-- a world with the same members, the same past and the same beside the list
pub same_world : (f : Frame) (single : Test) (w v : World) (c : Course) → v.nodes ≡ w.nodes → v.past ≡ w.past → v.aside ≡ w.aside → Corresponds f single w c → Corresponds f single v c
same_world f single w v c nodes past aside h = steps_on f single 0 w v c (record {
  same = record { copies = ap (λ (n : ℕ → Node). (n 0).copies) nodes; entries = ap (λ (n : ℕ → Node). take (w.nodes 0).copies.applied (n 0).member.log) nodes };
  plays = ap (λ (n : ℕ → Node). (n 0).played) nodes;
  nodes = λ k apart. ap (λ (n : ℕ → Node). n k) nodes;
  aside = aside;
  submitted = λ i. ap (λ (p : Past Message). p.submitted i) past;
}) h

-- nothing was done yet
pub idle_on : (f : Frame) (single : Test) (m : ℕ) (w : World) (c : Course) → Corresponds f single w c → Corresponds f single (at_work f m w (idle (w.nodes m))) c
idle_on f single m w c h = steps_on f single m w (at_work f m w (idle (w.nodes m))) c (record {
  same = subst (λ (n : Node). SameCopies (w.nodes m) n) (sym (node_at f m w (idle (w.nodes m)))) (record { copies = refl; entries = refl });
  plays = ap (λ (n : Node). n.played) (node_at f m w (idle (w.nodes m)));
  nodes = λ k apart. at_other w.nodes m (w.nodes m) k apart;
  aside = append-nil w.aside;
  submitted = λ i. refl;
}) h

-- only what waits for its place, and what is sent, changes
pub record OnlySends (f : Frame) (m : ℕ) (v u : NodeWork) : Type 0 where
  pub copies : u.node.copies ≡ v.node.copies
  pub member : u.node.member ≡ v.node.member
  pub plays : u.node.played ≡ v.node.played
  pub aside : aside_of u.deeds ≡ aside_of v.deeds
  pub past : (p : Past Message) → past_after (group f) m u.deeds p ≡ past_after (group f) m v.deeds p

pub only_sends : (f : Frame) (m : ℕ) (v : NodeWork) → OnlySends f m v v
only_sends f m v = record { copies = refl; member = refl; plays = refl; aside = refl; past = λ p. refl }

pub sends_on : (f : Frame) (single : Test) (m : ℕ) (w : World) (c : Course) (v u : NodeWork) → OnlySends f m v u → Corresponds f single (at_work f m w v) c → Corresponds f single (at_work f m w u) c
sends_on f single m w c v u o h = steps_on f single m (at_work f m w v) (at_work f m w u) c (record {
  same = subst (λ (n : Node). SameCopies n ((at_work f m w u).nodes m)) (sym (node_at f m w v))
      (subst (λ (n : Node). SameCopies v.node n) (sym (node_at f m w u)) (record { copies = o.copies; entries = ap (λ (s : Member Message). take v.node.copies.applied s.log) o.member }));
  plays = ap (λ (n : Node). n.played) (node_at f m w u) ∙ o.plays ∙ ap (λ (n : Node). n.played) (sym (node_at f m w v));
  nodes = λ k apart. at_other w.nodes m u.node k apart ∙ sym (at_other w.nodes m v.node k apart);
  aside = ap (λ (l : List Placed). w.aside ++ l) o.aside;
  submitted = λ i. ap (λ (p : Past Message). p.submitted i) (o.past w.past);
}) h

sends_then : (f : Frame) (m : ℕ) (v u t : NodeWork) → OnlySends f m v u → OnlySends f m u t → OnlySends f m v t
sends_then f m v u t one two = record {
  copies = two.copies ∙ one.copies;
  member = two.member ∙ one.member;
  plays = two.plays ∙ one.plays;
  aside = two.aside ∙ one.aside;
  past = λ p. two.past p ∙ one.past p;
}

-- ---- letters are posted

pub posts_keep : (f : Frame) (w : World) (mails : List Mail) (fates : List Fate) → ((posts_all f w mails fates).nodes ≡ w.nodes) × ((posts_all f w mails fates).past ≡ w.past) × ((posts_all f w mails fates).aside ≡ w.aside)
posts_keep f w [] fates = (refl, refl, refl)
posts_keep f w (mail ∷ mails) [] = (refl, refl, refl)
posts_keep f w (mail ∷ mails) (fate ∷ fates) = posts_keep f (posts f w mail fate) mails fates
