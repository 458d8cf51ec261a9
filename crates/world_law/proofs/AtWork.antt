-- The group's world while a node is at work, and the group's events that lead from one such moment to the next.
use Rattle.std.proofs.Common.{◌≡◌, ◌&&◌, ℕ, Bool, true, cond, List, [], ◌∷◌, ◌++◌, map, append_assoc, refl, ap, ◌∙◌}
use Rattle.value_core.specs.declared.message.Message.{Message}
use Rattle.group_rules.specs.Member.{Member}
use Rattle.group_rules.specs.Messages.{Group}
use Rattle.group_rules.specs.Sets.{with_at}
use Rattle.group_rules.specs.Steps.{note, submit, timer}
use Rattle.group_rules.specs.Reset.{coordinate}
use Rattle.group_rules.specs.Work.{Act, Work}
use Rattle.group_rules.specs.World.{Event, GroupWorld, Past, acts_on, after, gnext, may_apply, may_submit, opening, put, remembers, run}
use Rattle.world_rules.specs.Nodes.{Deed, NodeWork, does, idle, joins, past_after}
use Rattle.world_rules.specs.Nodes.Deed.{Acts, Submits}
use Rattle.world_rules.specs.Worlds.{World, group_world}
use Rattle.world_law.proofs.Maps.{at_here, at_self, at_twice}

abbrev pub world_of : (ℕ → Member Message) → (ℕ → Bool) → Past Message → GroupWorld Message
world_of members lives past = record { members = members; lives = lives; past = past }

-- the group's world, where node m of the world is at this work
abbrev pub at_work : Group Message → World → ℕ → NodeWork → GroupWorld Message
at_work g w m v = world_of (with_at (λ x. (w.nodes x).member) m v.node.member) w.lives (past_after g m v.deeds w.past)

pub at_start : (g : Group Message) (w : World) (m : ℕ) → at_work g w m (idle (w.nodes m)) ≡ group_world w
at_start g w m = ap (λ members. world_of members w.lives w.past) (at_self (λ x. (w.nodes x).member) m)

-- where the member and what the group remembers stay, it stays
pub at_still : (g : Group Message) (w : World) (m : ℕ) (v u : NodeWork) → u.node.member ≡ v.node.member →
    past_after g m u.deeds w.past ≡ past_after g m v.deeds w.past → at_work g w m u ≡ at_work g w m v
at_still g w m v u member past =
    ap (λ s. world_of (with_at (λ x. (w.nodes x).member) m s) w.lives (past_after g m u.deeds w.past)) member
    ∙ ap (λ p. world_of (with_at (λ x. (w.nodes x).member) m v.node.member) w.lives p) past

acts_after : (g : Group Message) (m : ℕ) (acts : List (Act Message)) (deeds : List Deed) (p : Past Message) →
    after acts (past_after g m deeds p) ≡ past_after g m (map Acts acts ++ deeds) p
acts_after g m [] deeds p = refl
acts_after g m (act ∷ acts) deeds p = ap (remembers act) (acts_after g m acts deeds p)

-- a step of its member in the group
pub put_is : (g : Group Message) (w : World) (m : ℕ) (v : NodeWork) (work : Work Message) →
    put (at_work g w m v) m (at_work g w m v).past work ≡ at_work g w m (joins work v)
put_is g w m v work =
    ap (λ members. world_of members w.lives (after work.acts (past_after g m v.deeds w.past)))
    (at_twice (λ x. (w.nodes x).member) m v.node.member work.state)
    ∙ ap (λ p. world_of (with_at (λ x. (w.nodes x).member) m work.state) w.lives p) (acts_after g m work.acts v.deeds w.past)

pub row_is : (g : Group Message) (w : World) (m : ℕ) (v : NodeWork) (row : Member Message → Work Message) →
    put (at_work g w m v) m (at_work g w m v).past (row ((at_work g w m v).members m)) ≡ at_work g w m (joins (row v.node.member) v)
row_is g w m v row =
    ap (λ s. put (at_work g w m v) m (at_work g w m v).past (row s)) (at_here (λ x. (w.nodes x).member) m v.node.member)
    ∙ put_is g w m v (row v.node.member)

pub if_true : {A : Type 0} (b : Bool) (x y : A) → b ≡ true → (cond b x y) ≡ x
if_true b x y e = ap (λ c. cond c x y) e

pub both_true : (a b : Bool) → a ≡ true → b ≡ true → (a && b) ≡ true
both_true a b one two = ap (λ z. z && b) one ∙ two

-- ---- the group's events

pub ticked_is : (g : Group Message) (w : World) (m : ℕ) (v : NodeWork) → acts_on g (at_work g w m v) m ≡ true →
    gnext g (at_work g w m v) (Event.Tick m) ≡ at_work g w m (joins (timer g m v.node.member) v)
ticked_is g w m v on = if_true _ _ _ on ∙ row_is g w m v (λ s. timer g m s)

pub coordinated_is : (g : Group Message) (w : World) (m : ℕ) (v : NodeWork) → acts_on g (at_work g w m v) m ≡ true →
    gnext g (at_work g w m v) (Event.Coordinate m) ≡ at_work g w m (joins (coordinate g m v.node.member) v)
coordinated_is g w m v on = if_true _ _ _ on ∙ row_is g w m v (λ s. coordinate g m s)

pub noted_is : (g : Group Message) (w : World) (m n : ℕ) (v : NodeWork) → acts_on g (at_work g w m v) m ≡ true →
    may_apply v.node.member n ≡ true → gnext g (at_work g w m v) (Event.Note m n) ≡ at_work g w m (joins (note g m n v.node.member) v)
noted_is g w m n v on may =
    if_true _ _ _ (both_true _ _ on (ap (λ s. may_apply s n) (at_here (λ x. (w.nodes x).member) m v.node.member) ∙ may))
    ∙ row_is g w m v (λ s. note g m n s)

pub submitted_is : (g : Group Message) (w : World) (m : ℕ) (x : Message) (v : NodeWork) → acts_on g (at_work g w m v) m ≡ true →
    may_submit g (at_work g w m v) m x ≡ true →
    gnext g (at_work g w m v) (Event.Submit m x) ≡ at_work g w m (joins (submit g m x v.node.member) (does (Submits x) v))
submitted_is g w m x v on may = if_true _ _ _ (both_true _ _ on may) ∙ row_is g w m (does (Submits x) v) (λ s. submit g m x s)

-- ---- what the group's events lead to

-- from the opening world, by these events and more
pub record Reached (g : Group Message) (b : List (Event Message)) (w : GroupWorld Message) : Type 0 where
  pub more : List (Event Message)
  pub run : w ≡ run g opening (b ++ more)

one_more : (g : Group Message) (w : GroupWorld Message) (events : List (Event Message)) (event : Event Message) →
    gnext g (run g w events) event ≡ run g w (events ++ event ∷ [])
one_more g w [] event = refl
one_more g w (e ∷ events) event = one_more g (gnext g w e) events event

pub reach : {b : List (Event Message)} (g : Group Message) (w : GroupWorld Message) (event : Event Message) → Reached g b w →
    Reached g b (gnext g w event)
reach {b} g w event r = record {
  more = r.more ++ event ∷ [];
  run = ap (λ z. gnext g z event) r.run ∙ one_more g opening (b ++ r.more) event ∙ ap (run g opening) (append_assoc b r.more (event ∷ []));
}
