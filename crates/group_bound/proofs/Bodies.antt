-- A long message is submitted at another member than the sequencer: it keeps the body, and sends it to all.
use Rattle.std.proofs.Common.{◌≡◌, ℕ, suc, ◌%◌, ◌≤◌, ◌<◌, ◌==◌, ◌&&◌, not, max, nat_lt, nat_le, ◌⊎◌, inl, inr, ⊎_elim, Bool, true, false, Option, Some, None, List, [], ◌∷◌, ◌++◌, length, refl, sym, ap, ◌∙◌, arith, subst, if◌then◌else◌}
use Rattle.std.proofs.lemmas.Bool.{cond_both, eqb-true, eqb-false, ltb-true, ltb-false}
use Rattle.orca_base.specs.declared.limits.TheConstants.{MESSAGE_BY_REQUEST}
use Rattle.group_rules.specs.Sets.{with_at, In}
use Rattle.group_rules.specs.Messages.{Group, Above}
use Rattle.group_rules.specs.Member.{Kind, Letter, Member, Waiting, leads, is_active}
use Rattle.group_rules.specs.Member.Kind.{Request, Body, Order, Entry, Ack, Accept, Nack, Status, Invite, Join, News}
use Rattle.group_rules.specs.Work.{Work, idle, becomes, tell_below}
use Rattle.group_rules.specs.Receiver.{is_newer, keep_body, request}
use Rattle.group_rules.specs.Steps.{pends, submit}
use Rattle.group_bound.specs.Flow.{onto}
use Rattle.group_bound.specs.Enough.{Usual}
use Rattle.group_bound.proofs.Folds.{fold, Each, letter, below, each_below, state_below}
use Rattle.group_bound.proofs.Views.{View, view, ahead, hop, comes, kept, raised, entered, entered_body, Numbered, Named, Fits, Comes, Tale, tale, told, tell_of, Told, asks, hop_looks, asks_looks, tells_looks, Calm, From, tally, Others, Leading}
use Rattle.group_bound.proofs.Leaders.{every_below, from_same, hop_self}
use Rattle.group_bound.proofs.Ordering.{tally_in}
use Rattle.group_bound.proofs.Replies.{tally_push}
use Rattle.group_bound.proofs.Arrivals.{Steady}
use Rattle.group_bound.proofs.Members.{swap, at_member, not_of, its_tale}
use Rattle.group_bound.proofs.Moves.{steady_other}
use Rattle.group_bound.proofs.Submits.{Fresh, submits, steady_submits, alone_more}
use Rattle.group_bound.proofs.Logs.{in_left, in_push, Twin}

-- ---- a view in which x is kept

-- w is v with x as its process's body
pub record With {M : Type 0} (g : Group M) (x : M) (v w : View M) : Type 0 where
  pub log : w.log ≡ v.log
  pub accepted : w.accepted ≡ v.accepted
  pub here : w.bodies (g.process x) ≡ Some x
  pub there : (i : ℕ) → (i ≡ g.process x → ⊥) → w.bodies i ≡ v.bodies i

-- the body that v keeps of x's process has a lower call
abbrev pub Low : {M : Type 0} → Group M → M → View M → Type 0
Low {M} g x v = (y : M) → v.bodies (g.process x) ≡ Some y → g.call y < g.call x

at_place : {A : Type 0} (f : ℕ → A) (k : ℕ) (v : A) → with_at f k v k ≡ v
at_place f k v = cond_both (k == k) v (f k) (λ x. x ≡ v) (λ e. refl) (λ e. absurd (eqb-false k k e refl))

at_others : {A : Type 0} (f : ℕ → A) (k : ℕ) (v : A) (j : ℕ) → (j ≡ k → ⊥) → with_at f k v j ≡ f j
at_others f k v j ne = cond_both (j == k) v (f j) (λ x. x ≡ f j) (λ e. absurd (ne (eqb-true j k e))) (λ e. refl)

newer_than : {M : Type 0} (g : Group M) (y z : M) (o : Option M) → o ≡ Some z → is_newer g y o ≡ true → g.call z < g.call y
newer_than {M} g y z o e n = ltb-true (g.call z) (g.call y) (subst (λ (p : Option M). is_newer g y p ≡ true) e n)

not_newer : {M : Type 0} (g : Group M) (y : M) (o : Option M) → is_newer g y o ≡ false → (z : M) × (o ≡ Some z) × (g.call y ≤ g.call z)
not_newer g y None e = let c : true ≡ false = e in absurd cc
not_newer g y (Some z) e = (z, refl, ltb-false (g.call z) (g.call y) e)

older : {M : Type 0} (g : Group M) (x y : M) (o : Option M) → o ≡ Some x → g.call y < g.call x → is_newer g y o ≡ false
older {M} g x y o e l = subst (λ (p : Option M). is_newer g y p ≡ false) (sym e) (plain (g.call x) (g.call y) l)
  where
    plain : (a b : ℕ) → b < a → nat_lt a b ≡ false
    plain a b l = grind arith

pub is_new : {M : Type 0} (g : Group M) (x : M) (o : Option M) → ((y : M) → o ≡ Some y → g.call y < g.call x) → is_newer g x o ≡ true
is_new g x None h = refl
is_new g x (Some y) h = plain (g.call y) (g.call x) (h y refl)
  where
    plain : (a b : ℕ) → a < b → nat_lt a b ≡ true
    plain a b l = grind arith

-- the body of a letter, kept or not, is lower too
low_body : {M : Type 0} (g : Group M) (x y : M) (v : View M) → g.process y ≡ g.process x → Low g x (kept g y v) → g.call y < g.call x
low_body {M} g x y v e = cond_both (is_newer g y (v.bodies (g.process y))) (with_at v.bodies (g.process y) (Some y)) v.bodies (λ (f : ℕ → Option M). ((z : M) → f (g.process x) ≡ Some z → g.call z < g.call x) → g.call y < g.call x)
    (λ n h. h y (ap (with_at v.bodies (g.process y) (Some y)) (sym e) ∙ at_place v.bodies (g.process y) (Some y)))
    (λ n h. let o = not_newer g y (v.bodies (g.process y)) n in let l = h o.0 (ap v.bodies (sym e) ∙ o.1) in let m = o.2 in omega arith)

-- bodies kept grow
low_kept : {M : Type 0} (g : Group M) (x y : M) (v : View M) → Low g x (kept g y v) → Low g x v
low_kept {M} g x y v h z e = go (g.process y == g.process x) refl
  where
    go : (b : Bool) → (g.process y == g.process x) ≡ b → g.call z < g.call x
    go true f =
        let same = eqb-true (g.process y) (g.process x) f in
        let l = low_body g x y v same h in
        cond_both (is_newer g y (v.bodies (g.process y))) (with_at v.bodies (g.process y) (Some y)) v.bodies (λ (f : ℕ → Option M). ((z : M) → f (g.process x) ≡ Some z → g.call z < g.call x) → g.call z < g.call x)
        (λ n i. let m = newer_than g y z (v.bodies (g.process y)) (ap v.bodies same ∙ e) n in omega arith)
        (λ n i. i z e) h
    go false f =
        let ne = eqb-false (g.process y) (g.process x) f in
        cond_both (is_newer g y (v.bodies (g.process y))) (with_at v.bodies (g.process y) (Some y)) v.bodies (λ (f : ℕ → Option M). ((z : M) → f (g.process x) ≡ Some z → g.call z < g.call x) → g.call z < g.call x)
        (λ n i. i z (at_others v.bodies (g.process y) (Some y) (g.process x) (λ d. ne (sym d)) ∙ e))
        (λ n i. i z e) h

low_named : {M : Type 0} (g : Group M) (x : M) (v : View M) (number a : ℕ) (o : Option M) → Low g x (raised a (entered_body number o v)) → Low g x v
low_named g x v number a None h = h
low_named g x v number a (Some y) h = h

low_comes : {M : Type 0} (g : Group M) (x : M) (v : View M) (t : Kind M) → Low g x (comes g v t) → Low g x v
low_comes g x v (Request b y) h = h
low_comes g x v (Body b y) h = low_kept g x y v h
low_comes g x v (Order number process call a stable) h = low_named g x v number a (v.bodies process) h
low_comes g x v (Entry number a stable y) h = h
low_comes g x v (Ack n b) h = h
low_comes g x v (Accept a stable) h = h
low_comes g x v (Nack n b whole) h = h
low_comes g x v (Status n b) h = h
low_comes g x v Invite h = h
low_comes g x v (Join report) h = h
low_comes g x v (News a b members log) h = h

pub low_before : {M : Type 0} (g : Group M) (k : ℕ) (x : M) (v : View M) (q : List (Letter M)) → Low g x (ahead g k v q) → Low g x v
low_before g k x v [] h = h
low_before {M} g k x v (l ∷ q) h = cond_both (l.to == k) (comes g v l.packet.kind) v (λ (w : View M). Low g x w → Low g x v) (λ e i. low_comes g x v l.packet.kind i) (λ e i. i) (low_before g k x (hop g k v l) q h)

-- ---- what a letter finds, and leaves, where x is kept

with_kept : {M : Type 0} (g : Group M) (x y : M) (v w : View M) → Low g x (kept g y v) → With g x v w → With g x (kept g y v) (kept g y w)
with_kept {M} g x y v w low h = record { log = h.log; accepted = h.accepted; here = own; there = rest }
  where
    same : (g.process y ≡ g.process x) → is_newer g y (w.bodies (g.process y)) ≡ false
    same e = older g x y (w.bodies (g.process y)) (ap w.bodies e ∙ h.here) (low_body g x y v e low)

    own : (kept g y w).bodies (g.process x) ≡ Some x
    own = cond_both (is_newer g y (w.bodies (g.process y))) (with_at w.bodies (g.process y) (Some y)) w.bodies (λ (f : ℕ → Option M). f (g.process x) ≡ Some x)
        (λ n. at_others w.bodies (g.process y) (Some y) (g.process x) (λ d. let c : true ≡ false = sym n ∙ same (sym d) in absurd cc) ∙ h.here)
        (λ n. h.here)

    both : (i : ℕ) → (i ≡ g.process x → ⊥) → with_at w.bodies (g.process y) (Some y) i ≡ with_at v.bodies (g.process y) (Some y) i
    both i ne = cond_both (i == g.process y) (Some y) (w.bodies i) (λ (o : Option M). o ≡ (if i == g.process y then Some y else v.bodies i)) (λ e. rw e refl) (λ e. rw e (h.there i ne))

    rest : (i : ℕ) → (i ≡ g.process x → ⊥) → (kept g y w).bodies i ≡ (kept g y v).bodies i
    rest i ne = go (g.process y == g.process x) refl
      where
        go : (b : Bool) → (g.process y == g.process x) ≡ b → (kept g y w).bodies i ≡ (kept g y v).bodies i
        go true e =
            let d = eqb-true (g.process y) (g.process x) e in
            let n = same d in
            rw n (cond_both (is_newer g y (v.bodies (g.process y))) (with_at v.bodies (g.process y) (Some y)) v.bodies (λ (f : ℕ → Option M). w.bodies i ≡ f i)
            (λ m. h.there i ne ∙ sym (at_others v.bodies (g.process y) (Some y) i (λ z. ne (z ∙ d))))
            (λ m. h.there i ne))
        go false e =
            let d = eqb-false (g.process y) (g.process x) e in
            let n : is_newer g y (w.bodies (g.process y)) ≡ is_newer g y (v.bodies (g.process y)) = ap (is_newer g y) (h.there (g.process y) d) in
            rw n (cond_both (is_newer g y (v.bodies (g.process y))) (with_at v.bodies (g.process y) (Some y)) v.bodies (λ (f : ℕ → Option M). (if is_newer g y (v.bodies (g.process y)) then with_at w.bodies (g.process y) (Some y) else w.bodies) i ≡ f i)
            (λ m. rw m (both i ne))
            (λ m. rw m (h.there i ne)))

with_entered : {M : Type 0} (g : Group M) (x y : M) (number a : ℕ) (v w : View M) → With g x v w → With g x (raised a (entered number y v)) (raised a (entered number y w))
with_entered {M} g x y number a v w h = record {
  log = ap (λ (z : List M). if number == suc (length z) then z ++ y ∷ [] else z) h.log;
  accepted = ap (λ (n : ℕ). max n a) h.accepted;
  here = h.here;
  there = h.there;
}

numbered_with : {M : Type 0} (v w : View M) (number a stable applied : ℕ) → w.log ≡ v.log → Numbered (length v.log) number a stable applied → Numbered (length w.log) number a stable applied
numbered_with {M} v w number a stable applied e n = subst (λ (m : ℕ). Numbered m number a stable applied) (sym (ap length e)) n

-- a letter that is ordered by name is of another process
named_apart : {M : Type 0} (g : Group M) (x : M) (v : View M) (number process call a stable applied : ℕ) → Named g v number process call a stable applied → ((y : M) → In y (raised a (entered_body number (v.bodies process) v)).log → g.process y ≡ g.process x → Twin g y v.log) → process ≡ g.process x → ⊥
named_apart {M} g x v number process call a stable applied f twins e =
    let t = twins f.body there (f.of ∙ e) in
    let l = f.above t.message t.there (sym t.process ∙ f.of) in
    let c = t.call in let n = f.names in
    absurd (omega arith)
  where
    there : In f.body (raised a (entered_body number (v.bodies process) v)).log
    there = subst (λ (o : Option M). In f.body (raised a (entered_body number o v)).log) (sym f.is)
        (cond_both (number == suc (length v.log)) (v.log ++ f.body ∷ []) v.log (λ (z : List M). In f.body z) (λ t. last f.body v.log) (λ t. absurd (eqb-false number (suc (length v.log)) t f.next)))
      where
        last : (y : M) (l : List M) → In y (l ++ y ∷ [])
        last y [] = inl refl
        last y (z ∷ l) = inr (last y l)

-- what a letter does to both
pub record Both {M : Type 0} (g : Group M) (x : M) (applied : ℕ) (v w : View M) (t : Kind M) : Type 0 where
  pub fits : Fits g applied w t
  pub opening_flow : With g x (comes g v t) (comes g w t)

both_named : {M : Type 0} (g : Group M) (x : M) (applied : ℕ) (v w : View M) (number process call a stable : ℕ) → With g x v w → (process ≡ g.process x → ⊥) → Named g v number process call a stable applied → Both g x applied v w (Order number process call a stable)
both_named {M} g x applied v w number process call a stable h ne f =
    let is : w.bodies process ≡ Some f.body = h.there process ne ∙ f.is in
    record {
      fits = record { body = f.body; is = is; of = f.of; names = f.names; above = λ y i. f.above y (subst (λ (z : List M). In y z) h.log i); next = f.next ∙ ap (λ (z : List M). suc (length z)) (sym h.log); fits = numbered_with v w number a stable applied h.log f.fits };
      opening_flow = subst (λ (o : Option M). With g x (raised a (entered_body number o v)) (raised a (entered_body number (w.bodies process) w))) (sym f.is) (subst (λ (o : Option M). With g x (raised a (entered number f.body v)) (raised a (entered_body number o w))) (sym is) (with_entered g x f.body number a v w h));
    }

both : {M : Type 0} (g : Group M) (x : M) (applied : ℕ) (v w : View M) (t : Kind M) → With g x v w → Low g x (comes g v t) → ((y : M) → In y (comes g v t).log → g.process y ≡ g.process x → Twin g y v.log) → Fits g applied v t → Both g x applied v w t
both g x applied v w (Request b y) h low twins f = absurd f
both g x applied v w (Body b y) h low twins f = record { fits = tt; opening_flow = with_kept g x y v w low h }
both g x applied v w (Order number process call a stable) h low twins f = both_named g x applied v w number process call a stable h (named_apart g x v number process call a stable applied f twins) f
both g x applied v w (Entry number a stable y) h low twins f = record { fits = numbered_with v w number a stable applied h.log f; opening_flow = with_entered g x y number a v w h }
both g x applied v w (Ack n b) h low twins f = absurd f
both {M} g x applied v w (Accept a stable) h low twins f = record { fits = (subst (λ (z : List M). a ≤ length z) (sym h.log) f.0, f.1); opening_flow = record { log = h.log; accepted = ap (λ (n : ℕ). max n a) h.accepted; here = h.here; there = h.there } }
both g x applied v w (Nack n b whole) h low twins f = absurd f
both g x applied v w (Status n b) h low twins f = absurd f
both g x applied v w Invite h low twins f = absurd f
both g x applied v w (Join report) h low twins f = absurd f
both g x applied v w (News a b members log) h low twins f = absurd f

-- what it has stays
in_comes : {M : Type 0} (g : Group M) (v : View M) (t : Kind M) (y : M) → In y v.log → In y (comes g v t).log
in_comes {M} g v t y h = go t
  where
    enters : (number : ℕ) (x : M) → In y (if number == suc (length v.log) then v.log ++ x ∷ [] else v.log)
    enters number x = cond_both (number == suc (length v.log)) (v.log ++ x ∷ []) v.log (λ (l : List M). In y l) (λ e. in_left y x v.log h) (λ e. h)

    by_body : (number : ℕ) (o : Option M) → In y (entered_body number o v).log
    by_body number None = h
    by_body number (Some x) = enters number x

    go : (t : Kind M) → In y (comes g v t).log
    go (Request b x) = h
    go (Body b x) = h
    go (Order number process call a stable) = by_body number (v.bodies process)
    go (Entry number a stable x) = enters number x
    go (Ack m b) = h
    go (Accept a stable) = h
    go (Nack m b whole) = h
    go (Status m b) = h
    go Invite = h
    go (Join report) = h
    go (News a b members log) = h

in_hop : {M : Type 0} (g : Group M) (k : ℕ) (v : View M) (l : Letter M) (y : M) → In y v.log → In y (hop g k v l).log
in_hop {M} g k v l y h = cond_both (l.to == k) (comes g v l.packet.kind) v (λ (w : View M). In y w.log) (λ e. in_comes g v l.packet.kind y h) (λ e. h)

in_aheads : {M : Type 0} (g : Group M) (k : ℕ) (v : View M) (q : List (Letter M)) (y : M) → In y v.log → In y (ahead g k v q).log
in_aheads g k v [] y h = h
in_aheads g k v (l ∷ q) y h = in_aheads g k (hop g k v l) q y (in_hop g k v l y h)

-- k's log has a twin of each entry of the process that it will have: then the letters on their way to it find x's body in place of an older one
pub over : {M : Type 0} (g : Group M) (k : ℕ) (x : M) (applied : ℕ) (v w : View M) (q : List (Letter M)) → With g x v w → Low g x (ahead g k v q) → ((y : M) → In y (ahead g k v q).log → g.process y ≡ g.process x → Twin g y v.log) → Each (hop g k) (Comes g k applied) v q → Each (hop g k) (Comes g k applied) w q × With g x (ahead g k v q) (ahead g k w q)
over g k x applied v w [] h low twins each = (tt, h)
over {M} g k x applied v w (l ∷ q) h low twins each =
    let lower : Low g x (hop g k v l) = low_before g k x (hop g k v l) q low in
    let s = step (l.to == k) refl lower (λ y i e. twins y (in_aheads g k (hop g k v l) q y i) e) in
    let r = over g k x applied (hop g k v l) (hop g k w l) q s.1 low (λ y i e. let t = twins y i e in record { message = t.message; there = in_hop g k v l t.message t.there; process = t.process; call = t.call }) each.1 in
    ((s.0, r.0), r.1)
  where
    step : (b : Bool) → (l.to == k) ≡ b → Low g x (if b then comes g v l.packet.kind else v) → ((y : M) → In y (if b then comes g v l.packet.kind else v).log → g.process y ≡ g.process x → Twin g y v.log) → Comes g k applied w l × With g x (if b then comes g v l.packet.kind else v) (if b then comes g w l.packet.kind else w)
    step true e lower twins = let o = both g x applied v w l.packet.kind h lower twins (each.0 (eqb-true l.to k e)) in (λ to. o.fits, o.opening_flow)
    step false e lower twins = (λ to. absurd (eqb-false l.to k e to), h)

-- ---- the submission

-- its member, once it keeps the body
abbrev pub keeps : {M : Type 0} → Group M → M → Member M → Member M
keeps g x s = record (pends g x s) { bodies = with_at s.bodies (g.process x) (Some x) }

-- what it sends
abbrev pub sends : {M : Type 0} → Group M → ℕ → M → Member M → Work M
sends g k x s = tell_below g.nodes k 0 (Body s.applied x) (record { state = keeps g x s; acts = [] })

-- the message as the sequencer is asked to order it
abbrev pub by_body : {M : Type 0} → M → Waiting M
by_body x = record { by_name = true; message = x }

-- what is known where x is submitted at k: its call is above all that its process submitted, and k's log has a twin of each entry of the process
pub record Lone {M : Type 0} (g : Group M) (w : Others M) (k : ℕ) (x : M) : Type 0 where
  pub above : (y : M) → In y (w.submitted (g.process x)) → g.call y < g.call x
  pub twins : (y : M) → In y (w.members 0).log → g.process y ≡ g.process x → Twin g y (w.members k).log

pub asked_body : {M : Type 0} (g : Group M) (k : ℕ) (x : M) (s : Member M) (ws : List (Waiting M)) (q : List (Letter M)) → (k ≡ 0 → ⊥) → 0 < g.nodes → fold asks ws (onto q (sends g k x s).acts) ≡ fold asks ws q ++ by_body x ∷ []
asked_body {M} g k x s ws q ne some = (below asks 0 asks_looks g.nodes k 0 (Body s.applied x) ws q (record { state = keeps g x s; acts = [] })).told some (λ e. ne (sym e))

sent_low : {M : Type 0} (g : Group M) (w : Others M) (q : List (Letter M)) (k j : ℕ) (x : M) → (j ≡ 0 → ⊥) → j < g.nodes → Lone g w k x → Steady g w q → Low g x (ahead g j (view (w.members j)) q)
sent_low g w q k j x ne there lone h y e = lone.above y (h.leading.known j ne there (g.process x) y e)

-- k itself, and the others
pub record Sees {M : Type 0} (g : Group M) (w : Others M) (q r : List (Letter M)) (x : M) (j : ℕ) (t : Member M) : Type 0 where
  pub comes : Each (hop g j) (Comes g j t.applied) (view t) r
  pub opening_flow : With g x (ahead g j (view (w.members j)) q) (ahead g j (view t) r)

sees_own : {M : Type 0} (g : Group M) (w : Others M) (q : List (Letter M)) (k : ℕ) (x : M) → (k ≡ 0 → ⊥) → k < g.nodes → Lone g w k x → Steady g w q → Sees g w q (onto q (sends g k x (w.members k)).acts) x k (keeps g x (w.members k))
sees_own {M} g w q k x ne there lone h = record {
  comes = each_below (hop g k) (Comes g k s.applied) k (hop_looks g k) (λ a l d e. absurd (d e)) g.nodes k 0 (Body s.applied x) (view t) q u (λ e. tt) o.0;
  opening_flow = subst (λ (v : View M). With g x (ahead g k (view s) q) v) (sym ((below (hop g k) k (hop_looks g k) g.nodes k 0 (Body s.applied x) (view t) q u).self refl)) o.1;
}
  where
    s : Member M
    s = w.members k

    t : Member M
    t = keeps g x s

    u : Work M
    u = record { state = t; acts = [] }

    first : With g x (view s) (view t)
    first = record { log = refl; accepted = refl; here = at_place s.bodies (g.process x) (Some x); there = λ i d. at_others s.bodies (g.process x) (Some x) i d }

    o : Each (hop g k) (Comes g k s.applied) (view t) q × With g x (ahead g k (view s) q) (ahead g k (view t) q)
    o = over g k x s.applied (view s) (view t) q first (sent_low g w q k k x ne there lone h) (λ y i e. lone.twins y (subst (λ (z : List M). In y z) (h.leading.toward k ne there).log i) e) (h.leading.toward k ne there).comes

sees_other : {M : Type 0} (g : Group M) (w : Others M) (q : List (Letter M)) (k j : ℕ) (x : M) → (j ≡ k → ⊥) → (j ≡ 0 → ⊥) → j < g.nodes → Lone g w k x → Steady g w q → Sees g w q (onto q (sends g k x (w.members k)).acts) x j (w.members j)
sees_other {M} g w q k j x d nz there lone h = record {
  comes = each_below (hop g j) (Comes g j (w.members j).applied) j (hop_looks g j) (λ a l n e. absurd (n e)) g.nodes k 0 (Body s.applied x) (view (w.members j)) q u (λ e. tt) (h.leading.toward j nz there).comes;
  opening_flow = subst (λ (v : View M). With g x end v) (sym ((below (hop g j) j (hop_looks g j) g.nodes k 0 (Body s.applied x) (view (w.members j)) q u).told there d ∙ hop_self g j k 0 end (Body s.applied x))) came;
}
  where
    s : Member M
    s = w.members k

    u : Work M
    u = record { state = keeps g x s; acts = [] }

    end : View M
    end = ahead g j (view (w.members j)) q

    came : With g x end (kept g x end)
    came = let n = is_new g x (end.bodies (g.process x)) (sent_low g w q k j x nz there lone h) in record {
      log = refl;
      accepted = refl;
      here = rw n (at_place end.bodies (g.process x) (Some x));
      there = λ i e. rw n (at_others end.bodies (g.process x) (Some x) i e);
    }

sends_from : {M : Type 0} (g : Group M) (w : Others M) (q : List (Letter M)) (k : ℕ) (x : M) → (k ≡ 0 → ⊥) → k < g.nodes → Steady g w q → From g k (w.members 0) (keeps g x (w.members k)) (onto q (sends g k x (w.members k)).acts)
sends_from {M} g w q k x ne there h =
    let e : fold (tell_of g k) start (onto q (sends g k x s).acts) ≡ told g end (Body s.applied x) = (below (tell_of g k) 0 (tells_looks g k) g.nodes k 0 (Body s.applied x) start q u).told (omega arith) (λ z. ne (sym z)) ∙ its_tale g k 0 end (Body s.applied x) in
    record {
      heard = f.heard;
      is = f.is;
      base = f.base;
      tells = each_below (tell_of g k) (Told g k) 0 (tells_looks g k) (λ a l d e0 e1. absurd (d e0)) g.nodes k 0 (Body s.applied x) start q u (λ e0 e1. f.applied) f.tells;
      reported = subst (λ (b : Tale). s.reported ≤ b.heard) (sym e) (let a = f.reported in omega arith);
      applied = subst (λ (b : Tale). b.heard ≤ s.applied) (sym e) (let a = f.applied in omega arith);
      acked = λ a. subst (λ (b : Tale). length s.log ≤ b.acked) (sym e) (f.acked a);
      most = subst (λ (b : Tale). b.acked ≤ length s.log) (sym e) f.most;
      recent = f.recent;
    }
  where
    s : Member M
    s = w.members k

    u : Work M
    u = record { state = keeps g x s; acts = [] }

    f : From g k (w.members 0) s q
    f = h.leading.from k ne there

    start : Tale
    start = tale k (w.members 0) f.heard

    end : Tale
    end = fold (tell_of g k) start q

others_from : {M : Type 0} (g : Group M) (w : Others M) (q : List (Letter M)) (k j : ℕ) (x : M) → (j ≡ k → ⊥) → (j ≡ 0 → ⊥) → (k ≡ 0 → ⊥) → j < g.nodes → Steady g w q → From g j (w.members 0) (w.members j) (onto q (sends g k x (w.members k)).acts)
others_from {M} g w q k j x d nz ne there h = from_same g j (w.members 0) (w.members 0) (w.members j) q (onto q (sends g k x s).acts) refl refl refl
    (λ a e. each_below (tell_of g j) (Told g j) 0 (tells_looks g j) (λ b l n e0 e1. absurd (n e0)) g.nodes k 0 (Body s.applied x) a q u (λ e0 e1. absurd (d (sym e1))) e)
    (λ a. (below (tell_of g j) 0 (tells_looks g j) g.nodes k 0 (Body s.applied x) a q u).told (omega arith) (λ z. ne (sym z)) ∙ not_of g j (letter 0 k 0 (Body s.applied x)) (fold (tell_of g j) a q) (λ e0 e1. d (sym e1)))
    (h.leading.from j nz there)
  where
    s : Member M
    s = w.members k

    u : Work M
    u = record { state = keeps g x s; acts = [] }

pub sends_leading : {M : Type 0} (g : Group M) (w : Others M) (q : List (Letter M)) (k : ℕ) (x : M) → (k ≡ 0 → ⊥) → k < g.nodes → Fresh g w q x → Lone g w k x → Steady g w q → Leading g (swap (submits g w x) k (keeps g x (w.members k))) (w.members 0).waiting (onto q (sends g k x (w.members k)).acts) (idle (w.members 0))
sends_leading {M} g w q k x ne there fresh lone h = record {
  calm = l.calm;
  at_once = l.at_once;
  window = l.window;
  toward = λ j nz n. let o = sees j nz n in record { comes = o.comes; log = o.opening_flow.log ∙ (l.toward j nz n).log; accepted = o.opening_flow.accepted ∙ (l.toward j nz n).accepted };
  from = λ j nz n. at_member w k t j (λ (i : ℕ) (v : Member M). (i ≡ 0 → ⊥) → i < g.nodes → From g i (w.members 0) v r) (λ z m. sends_from g w q k x ne there h) (λ d z m. others_from g w q k j x d z ne m h) nz n;
  usual = every_below (Usual g) g.nodes k 0 (Body s.applied x) q u (λ m n d. record { to = n; other = d; inc = refl; from = there; kind = tt }) l.usual;
  above = λ a e. ⊎_elim (λ (o : In a (fold asks ws q)). l.above a o) (λ (o : a ≡ new). subst (λ (b : Waiting M). Above g (w.members 0).log b.message) (sym o) fresh.above) (old a e);
  alone = λ i. subst (λ (xs : List (Waiting M)). tally g i xs ≤ 1) (sym asked) (let n = tally_push g i (fold asks ws q) new in let m = alone_more g new (fold asks ws q) i (l.alone i) fresh.free in omega arith);
  bodies = λ j nz n a e b. ⊎_elim
      (λ (o : In a (fold asks ws q)). (sees j nz n).opening_flow.there (g.process a.message) (λ d. apart a o d) ∙ l.bodies j nz n a o b)
      (λ (o : a ≡ new). subst (λ (c : Waiting M). (ahead g j (view ((swap w k t).members j)) r).bodies (g.process c.message) ≡ Some c.message) (sym o) (sees j nz n).opening_flow.here) (old a e);
  known = λ j nz n i y e. knows j nz n i y e (i == g.process x) refl;
}
  where
    l : Leading g w (w.members 0).waiting q (idle (w.members 0))
    l = h.leading

    s : Member M
    s = w.members k

    t : Member M
    t = keeps g x s

    u : Work M
    u = record { state = t; acts = [] }

    r : List (Letter M)
    r = onto q (sends g k x s).acts

    ws : List (Waiting M)
    ws = (w.members 0).waiting

    new : Waiting M
    new = by_body x

    asked : fold asks ws r ≡ fold asks ws q ++ new ∷ []
    asked = asked_body g k x s ws q ne (omega arith)

    old : (a : Waiting M) → In a (fold asks ws r) → In a (fold asks ws q) ⊎ (a ≡ new)
    old a e = in_push a new (fold asks ws q) (subst (λ (xs : List (Waiting M)). In a xs) asked e)

    apart : (a : Waiting M) → In a (fold asks ws q) → g.process a.message ≡ g.process x → ⊥
    apart a o d = let m = tally_in g (g.process x) a (fold asks ws q) o d in let z = fresh.free in absurd (omega arith)

    sees : (j : ℕ) → (j ≡ 0 → ⊥) → j < g.nodes → Sees g w q r x j ((swap w k t).members j)
    sees j nz n = at_member w k t j (λ (i : ℕ) (v : Member M). (i ≡ 0 → ⊥) → i < g.nodes → Sees g w q r x i v) (λ z m. sees_own g w q k x ne there lone h) (λ d z m. sees_other g w q k j x d z m lone h) nz n

    knows : (j : ℕ) → (j ≡ 0 → ⊥) → j < g.nodes → (i : ℕ) (y : M) → (ahead g j (view ((swap w k t).members j)) r).bodies i ≡ Some y → (b : Bool) → (i == g.process x) ≡ b → In y ((submits g w x).submitted i)
    knows j nz n i y e true f =
        let d = eqb-true i (g.process x) f in
        let same : Some x ≡ Some y = sym (sees j nz n).opening_flow.here ∙ (ap (ahead g j (view ((swap w k t).members j)) r).bodies (sym d) ∙ e) in
        let is : x ≡ y = cc in
        subst (λ (m : ℕ). In y ((submits g w x).submitted m)) (sym d) (subst (λ (z : List M). In y z) (sym (at_place w.submitted (g.process x) (x ∷ w.submitted (g.process x)))) (inl (sym is)))
    knows j nz n i y e false f =
        let d = eqb-false i (g.process x) f in
        subst (λ (z : List M). In y z) (sym (at_others w.submitted (g.process x) (x ∷ w.submitted (g.process x)) i d)) (l.known j nz n i y (sym ((sees j nz n).opening_flow.there i d) ∙ e))

pub sends_steady : {M : Type 0} (g : Group M) (w : Others M) (q : List (Letter M)) (k : ℕ) (x : M) → (k ≡ 0 → ⊥) → k < g.nodes → Fresh g w q x → Lone g w k x → Steady g w q → Steady g (swap (submits g w x) k (keeps g x (w.members k))) (onto q (sends g k x (w.members k)).acts)
sends_steady {M} g w q k x ne there fresh lone h =
    let c = h.others k ne there in
    steady_other g (submits g w x) k (keeps g x (w.members k)) q _ ne (record { installed = c.installed; promised = c.promised; outside = c.outside; answered = c.answered; applied = c.applied; accepted = c.accepted; base = c.base }) (steady_submits g w x q h) (sends_leading g w q k x ne there fresh lone h)

-- the rules' own step
pub submit_sends : {M : Type 0} (g : Group M) (k : ℕ) (x : M) (s : Member M) → 0 < g.nodes → (k ≡ 0 → ⊥) → nat_le (g.bytes x) MESSAGE_BY_REQUEST ≡ false → Low g x (view s) → Calm s → submit g k x s ≡ sends g k x s
submit_sends {M} g k x s some ne long low c =
    cond_both (is_active t) _ (idle t) (λ (v : Work M). v ≡ sends g k x s)
    (λ a. cond_both (leads g k t) _ (request g k x (idle t)) (λ (v : Work M). v ≡ sends g k x s)
    (λ e. let f : true ≡ false = sym e ∙ follows in cc)
    (λ e. cond_both (nat_le (g.bytes x) MESSAGE_BY_REQUEST) _ (tell_below g.nodes k t.installed (Body s.applied x) (becomes (keep_body g x t) (idle t))) (λ (v : Work M). v ≡ sends g k x s)
    (λ b. let f : true ≡ false = sym b ∙ long in cc)
    (λ b. ap (λ (i : ℕ). tell_below g.nodes k i (Body s.applied x) (becomes (keep_body g x t) (idle t))) c.installed ∙ ap (λ (m : Member M). tell_below g.nodes k 0 (Body s.applied x) (record { state = m; acts = [] })) keep)))
    (λ a. let f : true ≡ false = sym active ∙ a in cc)
  where
    t : Member M
    t = pends g x s

    active : is_active t ≡ true
    active = ap (λ (i : ℕ). (i == s.promised) && not s.outside) c.installed ∙ (ap (λ (p : ℕ). (0 == p) && not s.outside) c.promised ∙ ap (λ (b : Bool). true && not b) c.outside)

    zeroth : s.installed % g.nodes ≡ 0
    zeroth = ap (λ (i : ℕ). i % g.nodes) c.installed ∙ omega arith

    follows : leads g k t ≡ false
    follows = let z : (s.installed % g.nodes == k) ≡ false = let d = zeroth in grind arith in rw (active, z) refl

    keep : keep_body g x t ≡ keeps g x s
    keep = rw (is_new g x (s.bodies (g.process x)) low) refl

pub state_sends : {M : Type 0} (g : Group M) (k : ℕ) (x : M) (s : Member M) → (sends g k x s).state ≡ keeps g x s
state_sends {M} g k x s = state_below g.nodes k 0 (Body s.applied x) (record { state = keeps g x s; acts = [] })

pub low_now : {M : Type 0} (g : Group M) (w : Others M) (q : List (Letter M)) (k : ℕ) (x : M) → (k ≡ 0 → ⊥) → k < g.nodes → Lone g w k x → Steady g w q → Low g x (view (w.members k))
low_now g w q k x ne there lone h = low_before g k x (view (w.members k)) q (sent_low g w q k k x ne there lone h)
