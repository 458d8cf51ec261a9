-- A tick of a world in which no member applies more is a tick of the group's net.
use Rattle.std.proofs.Common.{◌≡◌, ◌≤◌, ◌<◌, ◌&&◌, ℕ, zero, suc, Bool, true, false, cond, List, refl, sym, ap, ◌∙◌, arith, subst, nat_lt}
use Rattle.std.proofs.lemmas.Bool.{cond_both, lt-ltb}
use Rattle.value_core.specs.declared.message.Message.{Message}
use Rattle.group_rules.specs.Member.{Letter, Member}
use Rattle.group_rules.specs.Messages.{Group}
use Rattle.group_rules.specs.Steps.{timer}
use Rattle.group_rules.specs.World.{Past, acts_on}
use Rattle.group_idle.specs.Net.{Net, part}
use Rattle.group_idle.specs.Net as net
use Rattle.world_rules.specs.Frame.{Frame, group}
use Rattle.world_rules.specs.Nodes.{Node, NodeWork, idle, joins}
use Rattle.world_rules.specs.Parts.{asks_again, ticks}
use Rattle.world_rules.specs.Steps.{AtWork, after_part, ticks_at, ticks_below, untouched}
use Rattle.world_rules.specs.Worlds.{World, group_world}
use Rattle.world_law.proofs.AtWork.{both_true, if_true}
use Rattle.world_idle.proofs.Catching.{Same, by_still, catches_same, same_on}
use Rattle.world_law.proofs.Maps.{at_both}
use Rattle.world_idle.proofs.Rows.{DoesRow, joins_row, net_at, row_net, row_on}
use Rattle.world_law.proofs.Still.{still_again}

-- ---- one member's

tick_row : (f : Frame) (m : ℕ) (q : Past Message) (node : Node) →
    (ticks f m node).node.member.applied ≡ (timer (group f) m node.member).state.applied → DoesRow (group f) m q q (timer (group f) m node.member) (ticks f m node)
tick_row f m q node quiet =
    let u : NodeWork = joins (timer (group f) m node.member) (idle node) in
    let v : NodeWork = asks_again f m u in
    let s : Same (group f) m u v = by_still (still_again f (group f) m m u) in
    row_on (joins_row (group f) m q (timer (group f) m node.member) (idle node) refl)
    (same_on s (catches_same f m v (quiet ∙ sym (ap (λ (t : Member Message). t.applied) s.member))))

-- ---- all below n

pub record Timed (f : Frame) (w : World) (n : ℕ) (u : AtWork) : Type 0 where
  pub lives : u.world.lives ≡ w.lives
  pub flights : u.world.flights ≡ w.flights
  pub sent : u.world.sent ≡ w.sent
  pub ran : (x : ℕ) → x < n → w.lives x ≡ true → u.world.nodes x ≡ (ticks f x (w.nodes x)).node
  pub rests : (x : ℕ) → n ≤ x → u.world.nodes x ≡ w.nodes x
  pub crashed : (x : ℕ) → w.lives x ≡ false → u.world.nodes x ≡ w.nodes x

not_both : (b : Bool) → b ≡ true → b ≡ false → ⊥
not_both true e d = cc d
not_both false e d = cc e

below_suc : (x m : ℕ) → x < suc m → (x ≡ m → ⊥) → x < m
below_suc x m l ne = let d = ne in grind arith

pub timed : (f : Frame) (w : World) (n : ℕ) → Timed f w n (ticks_below f n (untouched w))
timed f w zero = record { lives = refl; flights = refl; sent = refl; ran = λ x l a. absurd (omega (arith, l)); rests = λ x l. refl; crashed = λ x l. refl }
timed f w (suc m) = go (timed f w m)
  where
    u : AtWork
    u = ticks_below f m (untouched w)

    go : Timed f w m u → Timed f w (suc m) (ticks_at f m u)
    go t = cond_both (u.world.lives m) (after_part f m (ticks f m (u.world.nodes m)) u) u (Timed f w (suc m)) on off
      where
        same : u.world.lives m ≡ w.lives m
        same = ap (λ (l : ℕ → Bool). l m) t.lives

        on : u.world.lives m ≡ true → Timed f w (suc m) (after_part f m (ticks f m (u.world.nodes m)) u)
        on e = record {
          lives = t.lives;
          flights = t.flights;
          sent = t.sent;
          ran = λ x l a. at_both u.world.nodes m (ticks f m (u.world.nodes m)).node x (λ (z : Node). z ≡ (ticks f x (w.nodes x)).node)
              (λ q. ap (λ (z : Node). (ticks f m z).node) (t.rests m (omega arith)) ∙ ap (λ (i : ℕ). (ticks f i (w.nodes i)).node) (sym q))
              (λ ne. t.ran x (below_suc x m l ne) a);
          rests = λ x l. at_both u.world.nodes m (ticks f m (u.world.nodes m)).node x (λ (z : Node). z ≡ w.nodes x)
              (λ q. absurd (omega (arith, q, l))) (λ ne. t.rests x (omega (arith, l)));
          crashed = λ x l. at_both u.world.nodes m (ticks f m (u.world.nodes m)).node x (λ (z : Node). z ≡ w.nodes x)
              (λ q. absurd (not_both (w.lives x) (ap w.lives q ∙ sym same ∙ e) l)) (λ ne. t.crashed x l);
        }

        off : u.world.lives m ≡ false → Timed f w (suc m) u
        off e = record {
          lives = t.lives;
          flights = t.flights;
          sent = t.sent;
          ran = λ x l a. t.ran x (below_suc x m l (λ q. not_both (w.lives x) a (ap w.lives q ∙ sym same ∙ e))) a;
          rests = λ x l. t.rests x (omega (arith, l));
          crashed = t.crashed;
        }

-- ---- the net

pub ticks_net : (f : Frame) (w : World) (flights : List (Letter Message)) (n : ℕ) → n ≤ f.settings.nodes →
    ((x : ℕ) → x < f.settings.nodes → w.lives x ≡ true → (ticks f x (w.nodes x)).node.member.applied ≡ (timer (group f) x (w.nodes x).member).state.applied) →
    net_at flights (ticks_below f n (untouched w)) ≡ net.ticks_below (group f) n (net_at flights (untouched w))
ticks_net f w flights zero few quiet = refl
ticks_net f w flights (suc m) few quiet =
    cond_both (u.world.lives m) (after_part f m (ticks f m (u.world.nodes m)) u) u (λ (z : AtWork). net_at flights z ≡ net.ticks_at g m (net_at flights u)) on off
    ∙ ap (net.ticks_at g m) (ticks_net f w flights m (omega (arith, few)) quiet)
  where
    g : Group Message
    g = group f

    u : AtWork
    u = ticks_below f m (untouched w)

    low : nat_lt m f.settings.nodes ≡ true
    low = lt-ltb m f.settings.nodes (omega (arith, few))

    t : Timed f w m u
    t = timed f w m

    on : u.world.lives m ≡ true → net_at flights (after_part f m (ticks f m (u.world.nodes m)) u) ≡ net.ticks_at g m (net_at flights u)
    on e =
        let lives : w.lives m ≡ true = sym (ap (λ (l : ℕ → Bool). l m) t.lives) ∙ e in
        let here : u.world.nodes m ≡ w.nodes m = t.rests m (omega arith) in
        let q = subst (λ (z : Node). (ticks f m z).node.member.applied ≡ (timer g m z.member).state.applied) (sym here) (quiet m (omega (arith, few)) lives) in
        row_net g f m u.world.past (timer g m (u.world.nodes m).member) (ticks f m (u.world.nodes m)) flights u refl (tick_row f m u.world.past (u.world.nodes m) q)
        ∙ sym (if_true (acts_on g (group_world u.world) m) (part (net_at flights u) m u.world.past (timer g m (u.world.nodes m).member)) (net_at flights u) (both_true _ _ low e))

    off : u.world.lives m ≡ false → net_at flights u ≡ net.ticks_at g m (net_at flights u)
    off e = sym (if_false (nat_lt m f.settings.nodes && u.world.lives m) (part (net_at flights u) m u.world.past (timer g m (u.world.nodes m).member)) (net_at flights u) (and_false (nat_lt m f.settings.nodes) (u.world.lives m) e))
      where
        if_false : {A : Type 0} (b : Bool) (x y : A) → b ≡ false → (cond b x y) ≡ y
        if_false b x y d = ap (λ c. cond c x y) d

        and_false : (a b : Bool) → b ≡ false → (a && b) ≡ false
        and_false true b d = d
        and_false false b d = refl
