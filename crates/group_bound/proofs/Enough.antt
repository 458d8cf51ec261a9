-- The laws of faultless runs.
use Rattle.std.proofs.Common.{◌≡◌, ℕ, zero, suc, ◌*◌, ◌≤◌, ◌<◌, ◌==◌, ◌&&◌, ◌||◌, not, min, nat_lt, nat_le, inl, inr, ⊎_elim, Bool, true, false, Option, List, [], ◌∷◌, length, take, refl, sym, ap, ◌∙◌, arith, subst, take_all}
use Rattle.std.proofs.lemmas.Bool.{cond_both, ltb-true, leb-true, and_parts}
use Rattle.group_rules.specs.Sets.{with_at, In}
use Rattle.group_rules.specs.Messages.{Group, stands_in, same_name, all_are}
use Rattle.group_rules.specs.Member.{Letter, Member, Waiting, opening_member, ackers}
use Rattle.group_rules.specs.Work.{Act, Work}
use Rattle.group_rules.specs.Sequencer.{least}
use Rattle.group_rules.specs.Steps.{note, submit, deliver}
use Rattle.group_rules.specs.World.{Past, remembers, after, submitted_past, may_submit, is_at_home}
use Rattle.group_bound.specs.Flow.{onto, Flow, Move, opening_flow, delivers, submits, notes, moves, flow}
use Rattle.group_bound.specs.Enough.{SmoothLaw, QuietLaw, CountLaw}
use Rattle.group_bound.proofs.Views.{Calm, Others, ahead, view}
use Rattle.group_bound.proofs.Leaders.{log_grows}
use Rattle.group_bound.proofs.Arrivals.{Steady}
use Rattle.group_bound.proofs.Quiet.{Settled, settled}
use Rattle.group_bound.proofs.Paying.{Paid, paid_delivered, paid_noted_zero, paid_noted, paid_submitted, paid_bound}
use Rattle.group_bound.proofs.Owing.{fresh_of, lone_of}
use Rattle.group_bound.proofs.Flows.{Good, asked_of, good_delivered, good_noted, good_submitted}

-- ---- the world of a flow

abbrev pub others_of : {M : Type 0} → Flow M → Others M
others_of f = record { members = f.world.members; submitted = f.world.past.submitted }

abbrev pub Fine : {M : Type 0} → Group M → Flow M → Type 0
Fine g f = Good g (others_of f) f.world.past.homes f.queue f.asked

act_submitted : {M : Type 0} (act : Act M) (p : Past M) → ((remembers act p).submitted ≡ p.submitted) × ((remembers act p).homes ≡ p.homes)
act_submitted (Act.Sends letter) p = (refl, refl)
act_submitted (Act.Keeps packet) p = (refl, refl)
act_submitted (Act.Orders k x) p = (refl, refl)
act_submitted (Act.Begins k log answers) p = (refl, refl)

after_submitted : {M : Type 0} (acts : List (Act M)) (p : Past M) → ((after acts p).submitted ≡ p.submitted) × ((after acts p).homes ≡ p.homes)
after_submitted [] p = (refl, refl)
after_submitted (act ∷ acts) p = let a = act_submitted act (after acts p) in let b = after_submitted acts p in (a.0 ∙ b.0, a.1 ∙ b.1)

-- a step leaves what was submitted, and where
good_put : {M : Type 0} (g : Group M) (members : ℕ → Member M) (p : Past M) (m : ℕ) (s : Member M) (acts : List (Act M)) (q : List (Letter M)) (total : ℕ) → Good g (record { members = with_at members m s; submitted = p.submitted }) p.homes q total → Good g (record { members = with_at members m s; submitted = (after acts p).submitted }) (after acts p).homes q total
good_put {M} g members p m s acts q total h =
    let e = after_submitted acts p in
    subst (λ (f : ℕ → List M). Good g (record { members = with_at members m s; submitted = f }) (after acts p).homes q total) (sym e.0)
    (subst (λ (f : ℕ → Option ℕ). Good g (record { members = with_at members m s; submitted = p.submitted }) f q total) (sym e.1) h)

-- ---- each move

fine_delivers : {M : Type 0} (g : Group M) (f : Flow M) (q : List (Letter M)) → 2 * g.resilience < g.nodes → f.queue ≡ q → Fine g f → Fine g (delivers g f q)
fine_delivers g f [] small e h = h
fine_delivers {M} g f (l ∷ q) small e h =
    let v : Work M = deliver g l.to l.packet (f.world.members l.to) in
    good_put g f.world.members f.world.past l.to v.state v.acts (onto q v.acts) f.asked
    (good_delivered g (others_of f) f.world.past.homes l q f.asked l.to refl small (subst (λ (r : List (Letter M)). Good g (others_of f) f.world.past.homes r f.asked) e h))

fine_submits : {M : Type 0} (g : Group M) (f : Flow M) (m : ℕ) (x : M) → 2 * g.resilience < g.nodes → (nat_lt m g.nodes && may_submit g f.world m x) ≡ true → Fine g f → Fine g (submits g f m x)
fine_submits {M} g f m x small may h =
    let v : Work M = submit g m x (f.world.members m) in
    let a = and_parts (nat_lt m g.nodes) (may_submit g f.world m x) may in
    let b = and_parts (is_at_home m (f.world.past.homes (g.process x))) (all_are (λ q. not (g.process q == g.process x)) (f.world.members m).pending && all_are (λ q. nat_lt (g.call q) (g.call x)) (f.world.past.submitted (g.process x))) a.1 in
    let c = and_parts (all_are (λ q. not (g.process q == g.process x)) (f.world.members m).pending) (all_are (λ q. nat_lt (g.call q) (g.call x)) (f.world.past.submitted (g.process x))) b.1 in
    good_put g f.world.members (submitted_past g m x f.world.past) m v.state v.acts (onto f.queue v.acts) (suc f.asked)
    (good_submitted g (others_of f) f.world.past.homes f.queue f.asked m x small (record { there = ltb-true m g.nodes a.0; at_home = b.0; alone = c.0; above = c.1 }) h)

fine_notes : {M : Type 0} (g : Group M) (f : Flow M) (m n : ℕ) → 2 * g.resilience < g.nodes → (nat_lt m g.nodes && (nat_le (f.world.members m).applied n && nat_le n (f.world.members m).accepted)) ≡ true → Fine g f → Fine g (notes g f m n)
fine_notes {M} g f m n small may h =
    let v : Work M = note g m n (f.world.members m) in
    let a = and_parts (nat_lt m g.nodes) (nat_le (f.world.members m).applied n && nat_le n (f.world.members m).accepted) may in
    let b = and_parts (nat_le (f.world.members m).applied n) (nat_le n (f.world.members m).accepted) a.1 in
    good_put g f.world.members f.world.past m v.state v.acts (onto f.queue v.acts) f.asked
    (good_noted g (others_of f) f.world.past.homes f.queue f.asked m n small (ltb-true m g.nodes a.0) (leb-true (f.world.members m).applied n b.0) (leb-true n (f.world.members m).accepted b.1) h)

fine_flow : {M : Type 0} (g : Group M) (f : Flow M) (more : List (Move M)) → 2 * g.resilience < g.nodes → Fine g f → Fine g (flow g f more)
fine_flow g f [] small h = h
fine_flow {M} g f (Move.Submits m x ∷ more) small h = fine_flow g (moves g f (Move.Submits m x)) more small (cond_both (nat_lt m g.nodes && may_submit g f.world m x) (submits g f m x) f (Fine g) (λ e. fine_submits g f m x small e h) (λ e. h))
fine_flow {M} g f (Move.Delivers ∷ more) small h = fine_flow g (moves g f Move.Delivers) more small (fine_delivers g f f.queue small refl h)
fine_flow {M} g f (Move.Notes m n ∷ more) small h = fine_flow g (moves g f (Move.Notes m n)) more small (cond_both (nat_lt m g.nodes && (nat_le (f.world.members m).applied n && nat_le n (f.world.members m).accepted)) (notes g f m n) f (Fine g) (λ e. fine_notes g f m n small e h) (λ e. h))

-- ---- the beginning

least_nothing : (n : ℕ) (f : ℕ → Bool) → least n f (λ x. 0) 0 ≤ 0
least_nothing zero f = omega arith
least_nothing (suc n) f = let i = least_nothing n f in cond_both (f n) (min 0 (least n f (λ x. 0) 0)) (least n f (λ x. 0) 0) (λ a. a ≤ 0) (λ e. omega arith) (λ e. i)

fine_still : {M : Type 0} (g : Group M) → Fine g opening_flow
fine_still {M} g = record {
  steady = record {
    leading = record {
      calm = calm;
      at_once = λ e. refl;
      window = omega arith;
      toward = λ k ne l. record { comes = tt; log = refl; accepted = refl };
      from = λ k ne l. record { heard = 0; is = refl; base = omega arith; tells = tt; reported = omega arith; applied = omega arith; acked = λ e. omega arith; most = omega arith; recent = omega arith };
      usual = tt;
      above = λ a e. absurd e;
      alone = λ i. omega arith;
      bodies = λ k ne l a e. absurd e;
      known = λ k ne l i x e. cc;
    };
    level = λ pos. least_nothing g.nodes (ackers g.nodes g.resilience 0 (λ x. true));
    crowded = inl refl;
    others = λ k ne l. calm;
  };
  owes = record {
    home = λ a e. absurd e;
    known = λ a e. absurd e;
    entry = λ x e. absurd e;
    kept = λ m l x e. absurd e;
    new = λ m l x e. absurd e;
    own = λ x e. absurd e;
  };
  total_is = refl;
}
  where
    calm : Calm (opening_member {M = M})
    calm = record { installed = refl; promised = refl; outside = refl; answered = refl; applied = omega arith; accepted = omega arith; base = omega arith }

pub fine : {M : Type 0} (g : Group M) (more : List (Move M)) → 2 * g.resilience < g.nodes → Fine g (flow g opening_flow more)
fine g more small = fine_flow g opening_flow more small (fine_still g)

-- ---- the laws

calm_of : {M : Type 0} (g : Group M) (w : Others M) (q : List (Letter M)) (m : ℕ) → m < g.nodes → Steady g w q → Calm (w.members m)
calm_of g w q zero l h = h.leading.calm
calm_of g w q (suc m) l h = h.others (suc m) (λ e. absurd (omega arith)) l

shorter : {M : Type 0} (g : Group M) (w : Others M) (q : List (Letter M)) (m : ℕ) → m < g.nodes → Steady g w q → length (w.members m).log ≤ length (w.members 0).log
shorter g w q zero l h = omega arith
shorter g w q (suc m) l h =
    let o = h.leading.toward (suc m) (λ e. absurd (omega arith)) l in
    let a = log_grows g (suc m) (view (w.members (suc m))) q in
    let b : length (ahead g (suc m) (view (w.members (suc m))) q).log ≡ length (w.members 0).log = ap length o.log in
    omega (arith, a, b)

pub smooth : (M : Type 0) → SmoothLaw M
smooth M g small more =
    let f = flow g opening_flow more in
    let h = fine g more small in
    record {
      letters = h.steady.leading.usual;
      installed = λ m l. (calm_of g (others_of f) f.queue m l h.steady).installed;
      promised = λ m l. (calm_of g (others_of f) f.queue m l h.steady).promised;
      outside = λ m l. (calm_of g (others_of f) f.queue m l h.steady).outside;
      logs = λ m l. shorter g (others_of f) f.queue m l h.steady;
    }

-- what stands in a list isn't new to it
seen : {M : Type 0} (g : Group M) (x : M) (l : List M) → In x l → stands_in g x l ≡ true
seen g x [] h = absurd h
seen {M} g x (y ∷ l) (inl e) = rw (both (g.process x) (g.process y) (ap g.process e), both (g.call x) (g.call y) (ap g.call e)) refl
  where
    both : (a b : ℕ) → a ≡ b → (a == b) ≡ true
    both a b e = grind arith
seen {M} g x (y ∷ l) (inr h) = go (same_name g x y) (seen g x l h)
  where
    go : (b : Bool) → stands_in g x l ≡ true → (b || stands_in g x l) ≡ true
    go true e = refl
    go false e = e

none_pends : {M : Type 0} (l : List M) → ((x : M) → In x l → ⊥) → l ≡ []
none_pends [] h = refl
none_pends (x ∷ l) h = absurd (h x (inl refl))

done : {M : Type 0} (g : Group M) (w : Others M) (homes : ℕ → Option ℕ) (q : List (Letter M)) (total : ℕ) → 0 < g.nodes → q ≡ [] → ((m : ℕ) → m < g.nodes → (w.members m).applied ≡ (w.members m).accepted) → Good g w homes q total → Settled g w.members × (total ≡ length (w.members 0).log) × ((m : ℕ) → m < g.nodes → (w.members m).pending ≡ [])
done {M} g w homes q total some empty noted h = subst (λ (r : List (Letter M)). Good g w homes r total → Settled g w.members × (total ≡ length (w.members 0).log) × ((m : ℕ) → m < g.nodes → (w.members m).pending ≡ [])) (sym empty) ends h
  where
    ends : Good g w homes [] total → Settled g w.members × (total ≡ length (w.members 0).log) × ((m : ℕ) → m < g.nodes → (w.members m).pending ≡ [])
    ends h =
        let s = settled g w some h.steady noted in
        let none : length (w.members 0).waiting ≡ 0 = ap length s.waiting in (
          s,
          let t = h.total_is in omega arith,
          λ m l. none_pends (w.members m).pending (λ x i.
              let out = h.owes.new m l x i in
              let there = ⊎_elim (λ (o : (a : Waiting M) × In a (w.members 0).waiting × (x ≡ a.message)). absurd (subst (λ (ws : List (Waiting M)). In o.0 ws) s.waiting o.1)) (λ (o : In x (w.members 0).log). o) (h.owes.kept m l x i) in
              let all : take (w.members m).applied (w.members m).log ≡ (w.members 0).log = ap (λ (n : ℕ). take n (w.members m).log) (s.applied m l) ∙ (ap (λ (z : List M). take (length (w.members 0).log) z) (s.log m l) ∙ take_all (length (w.members 0).log) (w.members 0).log (omega arith)) in
              let c : true ≡ false = sym (seen g x (w.members 0).log there) ∙ (ap (λ (z : List M). stands_in g x z) (sym all) ∙ out) in
              absurd cc),
        )

pub quiet : (M : Type 0) → QuietLaw M
quiet M g small more still_now =
    let f = flow g opening_flow more in
    let d = done g (others_of f) f.world.past.homes f.queue f.asked (omega arith) still_now.empty still_now.noted (fine g more small) in
    record { all = d.1; log = d.0.log; accepted = d.0.accepted; applied = d.0.applied; pending = d.2; waiting = d.0.waiting }

-- ---- the count

abbrev pub Pays : {M : Type 0} → Group M → Flow M → Type 0
Pays g f = Paid g (others_of f) f.queue f.delivered f.asked

paid_put : {M : Type 0} (g : Group M) (members : ℕ → Member M) (subs more : ℕ → List M) (q : List (Letter M)) (d total : ℕ) → Paid g (record { members = members; submitted = subs }) q d total → Paid g (record { members = members; submitted = more }) q d total
paid_put g members subs more q d total p = record { is = p.is }

pays_delivers : {M : Type 0} (g : Group M) (f : Flow M) (q : List (Letter M)) → 2 * g.resilience < g.nodes → f.queue ≡ q → Fine g f → Pays g f → Pays g (delivers g f q)
pays_delivers g f [] small e h p = p
pays_delivers {M} g f (l ∷ q) small e h p =
    let v : Work M = deliver g l.to l.packet (f.world.members l.to) in
    paid_put g (with_at f.world.members l.to v.state) f.world.past.submitted (after v.acts f.world.past).submitted (onto q v.acts) (suc f.delivered) f.asked
    (paid_delivered g (others_of f) l q f.delivered f.asked l.to refl small (subst (λ (r : List (Letter M)). Steady g (others_of f) r) e h.steady) (subst (λ (r : List (Letter M)). Paid g (others_of f) r f.delivered f.asked) e p))

pays_submits : {M : Type 0} (g : Group M) (f : Flow M) (m : ℕ) (x : M) → 2 * g.resilience < g.nodes → (nat_lt m g.nodes && may_submit g f.world m x) ≡ true → Fine g f → Pays g f → Pays g (submits g f m x)
pays_submits {M} g f m x small may h p =
    let v : Work M = submit g m x (f.world.members m) in
    let a = and_parts (nat_lt m g.nodes) (may_submit g f.world m x) may in
    let b = and_parts (is_at_home m (f.world.past.homes (g.process x))) (all_are (λ q. not (g.process q == g.process x)) (f.world.members m).pending && all_are (λ q. nat_lt (g.call q) (g.call x)) (f.world.past.submitted (g.process x))) a.1 in
    let c = and_parts (all_are (λ q. not (g.process q == g.process x)) (f.world.members m).pending) (all_are (λ q. nat_lt (g.call q) (g.call x)) (f.world.past.submitted (g.process x))) b.1 in
    let there = ltb-true m g.nodes a.0 in
    paid_put g (with_at f.world.members m v.state) f.world.past.submitted (after v.acts (submitted_past g m x f.world.past)).submitted (onto f.queue v.acts) f.delivered (suc f.asked)
    (paid_submitted g (others_of f) f.queue m f.delivered f.asked x small there (fresh_of g (others_of f) f.world.past.homes f.queue m x (record { there = there; at_home = b.0; alone = c.0; above = c.1 }) h.owes) (lone_of g (others_of f) f.world.past.homes (asked_of (others_of f) f.queue) m x (record { there = there; at_home = b.0; alone = c.0; above = c.1 }) h.owes) h.steady p)

pays_notes : {M : Type 0} (g : Group M) (f : Flow M) (m n : ℕ) → 2 * g.resilience < g.nodes → m < g.nodes → Fine g f → Pays g f → Pays g (notes g f m n)
pays_notes {M} g f zero n small there h p =
    let v : Work M = note g 0 n (f.world.members 0) in
    paid_put g (with_at f.world.members 0 v.state) f.world.past.submitted (after v.acts f.world.past).submitted (onto f.queue v.acts) f.delivered f.asked (paid_noted_zero g (others_of f) f.queue n f.delivered f.asked small h.steady p)
pays_notes {M} g f (suc k) n small there h p =
    let v : Work M = note g (suc k) n (f.world.members (suc k)) in
    paid_put g (with_at f.world.members (suc k) v.state) f.world.past.submitted (after v.acts f.world.past).submitted (onto f.queue v.acts) f.delivered f.asked (paid_noted g (others_of f) f.queue (suc k) n f.delivered f.asked (λ e. absurd (omega arith)) there h.steady p)

pays_flow : {M : Type 0} (g : Group M) (f : Flow M) (more : List (Move M)) → 2 * g.resilience < g.nodes → Fine g f → Pays g f → Pays g (flow g f more)
pays_flow g f [] small h p = p
pays_flow {M} g f (Move.Submits m x ∷ more) small h p = pays_flow g (moves g f (Move.Submits m x)) more small (cond_both (nat_lt m g.nodes && may_submit g f.world m x) (submits g f m x) f (Fine g) (λ e. fine_submits g f m x small e h) (λ e. h)) (cond_both (nat_lt m g.nodes && may_submit g f.world m x) (submits g f m x) f (Pays g) (λ e. pays_submits g f m x small e h p) (λ e. p))
pays_flow {M} g f (Move.Delivers ∷ more) small h p = pays_flow g (moves g f Move.Delivers) more small (fine_delivers g f f.queue small refl h) (pays_delivers g f f.queue small refl h p)
pays_flow {M} g f (Move.Notes m n ∷ more) small h p = pays_flow g (moves g f (Move.Notes m n)) more small (cond_both (nat_lt m g.nodes && (nat_le (f.world.members m).applied n && nat_le n (f.world.members m).accepted)) (notes g f m n) f (Fine g) (λ e. fine_notes g f m n small e h) (λ e. h)) (cond_both (nat_lt m g.nodes && (nat_le (f.world.members m).applied n && nat_le n (f.world.members m).accepted)) (notes g f m n) f (Pays g) (λ e. pays_notes g f m n small (ltb-true m g.nodes (and_parts (nat_lt m g.nodes) (nat_le (f.world.members m).applied n && nat_le n (f.world.members m).accepted) e).0) h p) (λ e. p))

pub counted : (M : Type 0) → CountLaw M
counted M g small more =
    let f = flow g opening_flow more in
    paid_bound g (others_of f) f.queue f.delivered f.asked (fine g more small).steady (pays_flow g opening_flow more small (fine_still g) (record { is = omega arith }))
