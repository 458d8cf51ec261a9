-- An idle stretch has at most N + 5 ticks.
use Rattle.std.proofs.Common.{◌≡◌, ℕ, zero, suc, ◌+◌, ◌*◌, ◌≤◌, ◌<◌, ◌&&◌, not, nat_lt, ⊎_elim, Bool, true, false, List, refl, sym, ap, ◌∙◌, arith, le_refl}
use Rattle.std.proofs.lemmas.Bool.{cond_both, ltb-true, ltb-false, lt-ltb, and_parts}
use Rattle.group_rules.specs.Sets.{count}
use Rattle.group_rules.specs.Messages.{Group}
use Rattle.group_rules.specs.World.{acts_on}
use Rattle.group_idle.specs.Net.{Net, Move}
use Rattle.group_idle.specs.Idle.{Reached, Idle, Begins, IdleLaw, ticks_in}
use Rattle.group_idle.proofs.Parts.{Led}
use Rattle.group_idle.proofs.Stretches.{acting}
use Rattle.group_idle.proofs.Inactive.{no}
use Rattle.group_idle.proofs.Cases.{Found, search, led}
use Rattle.group_idle.proofs.Behind.{behind}
use Rattle.group_idle.proofs.Pending.{steady_walk}

-- where no number below n passes, all are counted that don't
all_counted : (n : ℕ) (f : ℕ → Bool) → ((m : ℕ) → m < n → f m ≡ true) → count n f ≡ n
all_counted zero f h = refl
all_counted (suc n) f h = cond_both (f n) _ _ (λ (c : ℕ). c ≡ suc n) (λ e. ap suc (all_counted n f (λ m l. h m (omega arith)))) (λ e. no (sym (h n (le_refl _)) ∙ e))

-- some member lives
living : {M : Type 0} (g : Group M) (n : Net M) → 2 * g.resilience < g.nodes → count g.nodes (λ m. not (n.world.lives m)) ≤ g.resilience → Found g.nodes (λ x. acts_on g n.world x)
living {M} g n small few = ⊎_elim (λ f. f) (λ none. let c = all_counted g.nodes (λ m. not (n.world.lives m)) (λ m l. ap not (crashed (nat_lt m g.nodes) (n.world.lives m) (lt-ltb m g.nodes l) (none m l))) in absurd (omega arith)) (search g.nodes (λ x. acts_on g n.world x))
  where
    crashed : (b c : Bool) → b ≡ true → (b && c) ≡ false → c ≡ false
    crashed true c e q = q
    crashed false c e q = no (sym e)

only : (b c : Bool) → b ≡ true → (b && c) ≡ false → c ≡ false
only true c e q = q
only false c e q = no (sym e)

one_led : {M : Type 0} (g : Group M) (n : Net M) → 2 * g.resilience < g.nodes → g.nodes ≤ 256 → Reached g n → Begins g n → Led g n → (list : List (Move M)) → Idle g n list → ticks_in list ≤ g.nodes + 5
one_led {M} g n small few real b o list idle = ⊎_elim
    (λ f. let p = and_parts (acts_on g n.world f.number) (nat_lt (n.world.members f.number).accepted (n.world.members o.leader).accepted) f.passes in
    let less = ltb-true (n.world.members f.number).accepted (n.world.members o.leader).accepted p.1 in
    let l = behind M g small n real o.leader f.number o.acts o.leads p.0 (λ e. let c = ap (λ (i : ℕ). (n.world.members i).accepted) e in absurd (omega arith)) (o.each f.number p.0).0 (o.each f.number p.0).1 (b.applied f.number p.0) less list idle in
    let low = f.below in omega arith)
    (λ none. let l = steady_walk g o.leader (n.world.members o.leader).installed (n.world.members o.leader).accepted small few list n (record {
      real = real;
      acts = o.acts;
      leads = o.leads;
      knows = refl;
      crashes = b.crashes;
      each = λ x e. record { active = (o.each x e).0; installed = (o.each x e).1; accepted = ltb-false (n.world.members x).accepted (n.world.members o.leader).accepted (only (acts_on g n.world x) (nat_lt (n.world.members x).accepted (n.world.members o.leader).accepted) e (none x (acting g n x e))); applied = b.applied x e };
    }) idle in let low = acting g n o.leader o.acts in omega arith)
    (search g.nodes (λ x. acts_on g n.world x && nat_lt (n.world.members x).accepted (n.world.members o.leader).accepted))

pub idle : (M : Type 0) → IdleLaw M
idle M g small few n b list i =
    let one = living g n small b.crashes in
    ⊎_elim (λ l. omega arith) (λ o. one_led g n small few b.reached b o list i) (led M g small few n b.reached one.number one.passes list i)
