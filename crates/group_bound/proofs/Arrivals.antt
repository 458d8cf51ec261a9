-- A letter reaches the sequencer.
use Rattle.std.proofs.Common.{◌≡◌, ℕ, zero, suc, ◌*◌, ◌%◌, ◌≤◌, ◌<◌, ◌==◌, ◌&&◌, not, max, nat_lt, nat_le, inl, inr, Bool, true, false, Option, Some, None, List, [], ◌∷◌, ◌++◌, length, refl, sym, ap, ◌∙◌, arith, subst}
use Rattle.std.proofs.lemmas.Bool.{cond_both, eqb-true, eqb-false, leb-false, and_parts}
use Rattle.orca_base.specs.declared.limits.TheConstants.{ENTRIES_SENT_AGAIN}
use Rattle.group_rules.specs.Sets.{with_at, entry_at}
use Rattle.group_rules.specs.Messages.{Group, Above}
use Rattle.group_rules.specs.Member.{Kind, Letter, Member, Waiting, stable_of}
use Rattle.group_rules.specs.Member.Kind.{Request, Body, Order, Entry, Ack, Accept, Nack, Status, Invite, Join, News}
use Rattle.group_rules.specs.Work.{Work, idle, becomes, tell_below}
use Rattle.group_rules.specs.Reset.{heeds, listens}
use Rattle.group_rules.specs.Sequencer.{ask, finish, raise, hears, least_acked, accept_acknowledged, take_ack, tell_entry, send_entry, send_entries, take_status}
use Rattle.group_rules.specs.Steps.{hear, at_sequencer, receive, deliver_kind}
use Rattle.group_bound.proofs.Folds.{fold, Each, letter, state_below}
use Rattle.group_bound.proofs.Views.{View, view, ahead, hop, Comes, Tale, tale, told, tell_of, Told, Tells, asking, asks, hop_looks, Calm, From, Others, Leading, Level, Crowded}
use Rattle.group_bound.proofs.Followers.{heeded}
use Rattle.group_bound.proofs.Ordering.{Moved, moved_refl, Run, Ended, Full, run_finish}
use Rattle.group_bound.proofs.Replies.{run_take_status, run_accepts, run_ask}

-- the state of the sequencer once it read the letter: it heard of the sender alone
pub record Reads {M : Type 0} (g : Group M) (s t : Member M) (l : Letter M) : Type 0 where
  pub log : t.log ≡ s.log
  pub accepted : t.accepted ≡ s.accepted
  pub base : t.base ≡ s.base
  pub waiting : t.waiting ≡ s.waiting
  pub pending : t.pending ≡ s.pending
  pub applied : t.applied ≡ s.applied
  pub calm : Calm t
  pub heard : (k : ℕ) → (k ≡ l.packet.from → ⊥) → t.heard k ≡ s.heard k
  pub acked : (k : ℕ) → (k ≡ l.packet.from → ⊥) → t.acked k ≡ s.acked k
  pub its : (n : ℕ) → s.heard l.packet.from ≡ Some n → s.base ≤ n → Tells g (tale l.packet.from s n) l.packet.kind → (h : ℕ) × (t.heard l.packet.from ≡ Some h) × (s.base ≤ h) × (tale l.packet.from t h ≡ told g (tale l.packet.from s n) l.packet.kind)

pub reads_leading : {M : Type 0} (g : Group M) (w : Others M) (q : List (Letter M)) (s t : Member M) (l : Letter M) → l.to ≡ 0 → Reads g s t l → Leading g w s.waiting (l ∷ q) (idle s) → Leading g w (asks s.waiting l) q (idle t)
reads_leading {M} g w q s t l to r h = record {
  calm = r.calm;
  at_once = λ e. let a = h.at_once e in let b = r.accepted in r.accepted ∙ (a ∙ ap length (sym r.log));
  window = let a = h.window in let b : length t.log ≡ length s.log = ap length r.log in let c = r.base in omega arith;
  toward = λ k ne n. let o = h.toward k ne n in record {
    comes = subst (λ (v : View M). Each (hop g k) (Comes g k (w.members k).applied) v q) (opening_flow k ne) o.comes.1;
    log = ap (λ (v : View M). (ahead g k v q).log) (sym (opening_flow k ne)) ∙ (o.log ∙ sym r.log);
    accepted = ap (λ (v : View M). (ahead g k v q).accepted) (sym (opening_flow k ne)) ∙ (o.accepted ∙ sym r.accepted);
  };
  from = λ k ne n. from_of k (k == l.packet.from) refl (h.from k ne n);
  usual = h.usual.1;
  above = λ a e. subst (λ (log : List M). Above g log a.message) (sym r.log) (h.above a e);
  alone = h.alone;
  bodies = λ k ne n a e b. ap (λ (v : View M). (ahead g k v q).bodies (g.process a.message)) (sym (opening_flow k ne)) ∙ h.bodies k ne n a e b;
  known = λ k ne n i x e. h.known k ne n i x (ap (λ (v : View M). (ahead g k v q).bodies i) (opening_flow k ne) ∙ e);
}
  where
    opening_flow : (k : ℕ) → (k ≡ 0 → ⊥) → hop g k (view (w.members k)) l ≡ view (w.members k)
    opening_flow k ne = hop_looks g k (view (w.members k)) l (λ e. ne (sym e ∙ to))

    other : (k : ℕ) → (k ≡ l.packet.from → ⊥) → (a : Tale) → tell_of g k a l ≡ a
    other k ne a = cond_both ((l.to == 0) && (l.packet.from == k)) (told g a l.packet.kind) a (λ x. x ≡ a) (λ e. absurd (ne (sym (eqb-true l.packet.from k (and_parts (l.to == 0) (l.packet.from == k) e).1)))) (λ e. refl)

    its : (a : Tale) → tell_of g l.packet.from a l ≡ told g a l.packet.kind
    its a = cond_both ((l.to == 0) && (l.packet.from == l.packet.from)) (told g a l.packet.kind) a (λ x. x ≡ told g a l.packet.kind) (λ e. refl) (λ e. let b : ((l.to == 0) && (l.packet.from == l.packet.from)) ≡ true = both in let c : true ≡ false = sym b ∙ e in cc)
      where
        both : ((l.to == 0) && (l.packet.from == l.packet.from)) ≡ true
        both = is_both l.to l.packet.from to
          where
            is_both : (n m : ℕ) → n ≡ 0 → ((n == 0) && (m == m)) ≡ true
            is_both n m e = let a : (n == 0) ≡ true = grind arith in let b : (m == m) ≡ true = grind arith in rw (a, b) refl

    at_sender : (k : ℕ) → k ≡ l.packet.from → From g k s (w.members k) (l ∷ q) → From g k t (w.members k) q
    at_sender k e f = subst (λ (j : ℕ). From g j s (w.members j) (l ∷ q) → From g j t (w.members j) q) (sym e) sender f
      where
        sender : From g l.packet.from s (w.members l.packet.from) (l ∷ q) → From g l.packet.from t (w.members l.packet.from) q
        sender f =
            let n = r.its f.heard f.is f.base (f.tells.0 to refl) in
            let start : tell_of g l.packet.from (tale l.packet.from s f.heard) l ≡ tale l.packet.from t n.0 = its (tale l.packet.from s f.heard) ∙ sym n.3 in
            record {
              heard = n.0;
              is = n.1;
              base = let a = n.2 in let b = r.base in omega arith;
              tells = subst (λ (a : Tale). Each (tell_of g l.packet.from) (Told g l.packet.from) a q) start f.tells.1;
              reported = subst (λ (a : Tale). (w.members l.packet.from).reported ≤ (fold (tell_of g l.packet.from) a q).heard) start f.reported;
              applied = subst (λ (a : Tale). (fold (tell_of g l.packet.from) a q).heard ≤ (w.members l.packet.from).applied) start f.applied;
              acked = λ e. subst (λ (a : Tale). length (w.members l.packet.from).log ≤ (fold (tell_of g l.packet.from) a q).acked) start (f.acked e);
              most = subst (λ (a : Tale). (fold (tell_of g l.packet.from) a q).acked ≤ length (w.members l.packet.from).log) start f.most;
              recent = f.recent;
            }

    elsewhere : (k : ℕ) → (k ≡ l.packet.from → ⊥) → From g k s (w.members k) (l ∷ q) → From g k t (w.members k) q
    elsewhere k ne f =
        let start : tell_of g k (tale k s f.heard) l ≡ tale k t f.heard = other k ne (tale k s f.heard) ∙ ap (λ (n : ℕ). record { heard = f.heard; acked = n }) (sym (r.acked k ne)) in
        record {
          heard = f.heard;
          is = r.heard k ne ∙ f.is;
          base = let a = f.base in let b = r.base in omega arith;
          tells = subst (λ (a : Tale). Each (tell_of g k) (Told g k) a q) start f.tells.1;
          reported = subst (λ (a : Tale). (w.members k).reported ≤ (fold (tell_of g k) a q).heard) start f.reported;
          applied = subst (λ (a : Tale). (fold (tell_of g k) a q).heard ≤ (w.members k).applied) start f.applied;
          acked = λ e. subst (λ (a : Tale). length (w.members k).log ≤ (fold (tell_of g k) a q).acked) start (f.acked e);
          most = subst (λ (a : Tale). (fold (tell_of g k) a q).acked ≤ length (w.members k).log) start f.most;
          recent = f.recent;
        }

    from_of : (k : ℕ) (b : Bool) → (k == l.packet.from) ≡ b → From g k s (w.members k) (l ∷ q) → From g k t (w.members k) q
    from_of k true e f = at_sender k (eqb-true k l.packet.from e) f
    from_of k false e f = elsewhere k (eqb-false k l.packet.from e) f

-- ---- reading each kind

listens_none : {M : Type 0} (g : Group M) (k : ℕ) (s : Member M) → 0 < g.nodes → (k ≡ 0 → ⊥) → listens g k 0 s ≡ s
listens_none {M} g k s some other = cond_both ((0 == s.installed) && (k == 0 % g.nodes)) (record s { silent = 0 }) s (λ (t : Member M). t ≡ s)
    (λ e. let z : 0 % g.nodes ≡ 0 = omega arith in absurd (other (eqb-true k (0 % g.nodes) (and_parts (0 == s.installed) (k == 0 % g.nodes) e).1 ∙ z)))
    (λ e. refl)

at_place : {A : Type 0} (f : ℕ → A) (k : ℕ) (v : A) → with_at f k v k ≡ v
at_place f k v = cond_both (k == k) v (f k) (λ x. x ≡ v) (λ e. refl) (λ e. absurd (eqb-false k k e refl))

at_others : {A : Type 0} (f : ℕ → A) (k : ℕ) (v : A) (j : ℕ) → (j ≡ k → ⊥) → with_at f k v j ≡ f j
at_others f k v j ne = cond_both (j == k) v (f j) (λ x. x ≡ f j) (λ e. absurd (ne (eqb-true j k e))) (λ e. refl)

-- the applied number b was heard of k
abbrev pub heard_of : {M : Type 0} → ℕ → ℕ → Member M → Member M
heard_of k b s = record s { heard = with_at s.heard k (raise (s.heard k) b) }

abbrev pub acked_of : {M : Type 0} → ℕ → ℕ → Member M → Member M
acked_of k n s = record s { acked = with_at s.acked k (max (s.acked k) n) }

hears_is : {M : Type 0} (k b : ℕ) (s : Member M) → s.base ≤ b → hears k b s ≡ heard_of k b s
hears_is {M} k b s le = cond_both (nat_le s.base b) (heard_of k b s) s (λ (t : Member M). t ≡ heard_of k b s) (λ e. refl) (λ e. let l = leb-false s.base b e in absurd (omega arith))

reads_heard : {M : Type 0} (g : Group M) (k b : ℕ) (s : Member M) (t : Kind M) → Calm s → ((a : Tale) → told g a t ≡ record { heard = max a.heard b; acked = a.acked }) → Reads g s (heard_of k b s) (letter 0 k 0 t)
reads_heard {M} g k b s t c is = record {
  log = refl;
  accepted = refl;
  base = refl;
  waiting = refl;
  pending = refl;
  applied = refl;
  calm = record { installed = c.installed; promised = c.promised; outside = c.outside; answered = c.answered; applied = c.applied; accepted = c.accepted; base = c.base };
  heard = λ j ne. at_others s.heard k (raise (s.heard k) b) j ne;
  acked = λ j ne. refl;
  its = λ n e le tells. (max n b, at_place s.heard k (raise (s.heard k) b) ∙ ap (λ (o : Option ℕ). raise o b) e, omega arith, sym (is (tale k s n)));
}

reads_acked : {M : Type 0} (g : Group M) (k n b : ℕ) (s : Member M) → Calm s → (g.resilience ≡ 0 → ⊥) → Reads g s (acked_of k n (heard_of k b s)) (letter 0 k 0 (Ack n b))
reads_acked {M} g k n b s c pos = record {
  log = refl;
  accepted = refl;
  base = refl;
  waiting = refl;
  pending = refl;
  applied = refl;
  calm = record { installed = c.installed; promised = c.promised; outside = c.outside; answered = c.answered; applied = c.applied; accepted = c.accepted; base = c.base };
  heard = λ j ne. at_others s.heard k (raise (s.heard k) b) j ne;
  acked = λ j ne. at_others s.acked k (max (s.acked k) n) j ne;
  its = λ h e le tells. (
    max h b,
    at_place s.heard k (raise (s.heard k) b) ∙ ap (λ (o : Option ℕ). raise o b) e,
    omega arith,
    ap (λ (m : ℕ). record { heard = max h b; acked = m }) (at_place s.acked k (max (s.acked k) n)
        ∙ cond_both (g.resilience == 0) (s.acked k) (max (s.acked k) n) (λ m. max (s.acked k) n ≡ m) (λ z. absurd (pos (eqb-true g.resilience 0 z))) (λ z. refl)),
  );
}

-- ---- a letter of incarnation 0, at the sequencer

pub record Steady {M : Type 0} (g : Group M) (w : Others M) (q : List (Letter M)) : Type 0 where
  pub leading : Leading g w (w.members 0).waiting q (idle (w.members 0))
  pub level : Level g (w.members 0)
  pub crowded : Crowded g (w.members 0).waiting (w.members 0)
  pub others : (k : ℕ) → (k ≡ 0 → ⊥) → k < g.nodes → Calm (w.members k)

pub full_of : {M : Type 0} (g : Group M) (ws : List (Waiting M)) (s : Member M) → Crowded g ws s → Full ws s
full_of g ws s (inl e) = inl e
full_of g ws s (inr p) = inr p.0

pub receive_zero : {M : Type 0} (g : Group M) (from : ℕ) (s : Member M) (t : Kind M) (P : Work M → Type 0) → 0 < g.nodes → Calm s → P (finish g 0 (at_sequencer g 0 from t (idle (listens g from 0 s)))) → P (receive g 0 from 0 t s)
receive_zero {M} g from s t P some c h =
    cond_both (not (heeds s 0)) _ _ P
    (λ e. let i : not true ≡ true = ap not (sym (heeded s c)) ∙ e in absurd (let j : false ≡ true = i in cc))
    (λ e. cond_both (0 == s.installed) _ _ P
    (λ f. cond_both (0 % g.nodes == 0) _ _ P
    (λ q. h)
    (λ q. let z : 0 % g.nodes ≡ 0 = omega arith in absurd (eqb-false (0 % g.nodes) 0 q z)))
    (λ f. absurd (eqb-false 0 s.installed f (sym c.installed))))

pub status_state : {M : Type 0} (g : Group M) (k n : ℕ) (u : Work M) → (take_status g 0 k n u).state ≡ u.state
status_state {M} g k n u = cond_both (nat_lt n u.state.base) _ _ (λ (o : Work M). o.state ≡ u.state) (λ e. refl) (λ e. cond_both (nat_lt n (length u.state.log)) _ _ (λ (o : Work M). o.state ≡ u.state) (λ f. entries (suc n) ENTRIES_SENT_AGAIN u) (λ f. refl))
  where
    entry : (number : ℕ) (o : Option M) (v : Work M) → (tell_entry g 0 k number o v).state ≡ v.state
    entry number None v = refl
    entry number (Some x) v = refl

    entries : (number m : ℕ) (v : Work M) → (send_entries g 0 k number m v).state ≡ v.state
    entries number zero v = refl
    entries number (suc m) v = entries (suc number) m (send_entry g 0 k number v) ∙ cond_both (nat_lt v.state.base number) (tell_entry g 0 k number (entry_at v.state.log number) v) v (λ (o : Work M). o.state ≡ v.state) (λ e. entry number (entry_at v.state.log number) v) (λ e. refl)

accept_full : {M : Type 0} (g : Group M) (u : Work M) → Full u.state.waiting u.state → (Full (accept_acknowledged g 0 u).state.waiting (accept_acknowledged g 0 u).state) × ((accept_acknowledged g 0 u).state.waiting ≡ u.state.waiting)
accept_full {M} g u full = cond_both (nat_lt u.state.accepted (least_acked g u.state)) (tell_below g.nodes 0 u.state.installed kind (becomes new u)) u (λ (o : Work M). Full o.state.waiting o.state × (o.state.waiting ≡ u.state.waiting))
    (λ e. subst (λ (t : Member M). Full t.waiting t × (t.waiting ≡ u.state.waiting)) (sym (state_below g.nodes 0 u.state.installed kind (becomes new u))) (full, refl))
    (λ e. (full, refl))
  where
    new : Member M
    new = record u.state { accepted = least_acked g u.state; silent = 0 }

    kind : Kind M
    kind = Accept (least_acked g u.state) (stable_of g 0 new)

-- where the work begins
begins : {M : Type 0} (g : Group M) (w : Others M) (q : List (Letter M)) (k : ℕ) (kind : Kind M) (t : Member M) → Reads g (w.members 0) t (letter 0 k 0 kind) → Level g t → Steady g w (letter 0 k 0 kind ∷ q) → Run g w (asks (w.members 0).waiting (letter 0 k 0 kind)) q (fold asks (w.members 0).waiting (letter 0 k 0 kind ∷ q)) (w.members 0) (idle t)
begins {M} g w q k kind t r level h = record {
  leading = reads_leading g w q (w.members 0) t (letter 0 k 0 kind) refl r h.leading;
  level = level;
  moved = subst (λ (log : List M). Moved (fold asks (w.members 0).waiting (letter 0 k 0 kind ∷ q)) (fold asks (asks (w.members 0).waiting (letter 0 k 0 kind)) q) (w.members 0).log log) (sym r.log) (moved_refl (fold asks (asks (w.members 0).waiting (letter 0 k 0 kind)) q) (w.members 0).log);
  pending = r.pending;
  applied = r.applied;
}

pub arrives : {M : Type 0} (g : Group M) (w : Others M) (q : List (Letter M)) (k : ℕ) (kind : Kind M) → 2 * g.resilience < g.nodes → (k ≡ 0 → ⊥) → k < g.nodes → Steady g w (letter 0 k 0 kind ∷ q) → Ended g w q (fold asks (w.members 0).waiting (letter 0 k 0 kind ∷ q)) (w.members 0) (deliver_kind g 0 k 0 kind (w.members 0))
arrives {M} g w q k kind small other there h = go kind h
  where
    s : Member M
    s = w.members 0

    asked : (t : Kind M) (b : ℕ) (x : Waiting M) → Steady g w (letter 0 k 0 t ∷ q) → ((a : Tale) → told g a t ≡ record { heard = max a.heard b; acked = a.acked }) → asking s.waiting t ≡ s.waiting ++ x ∷ [] → s.base ≤ b → Ended g w q (fold asks s.waiting (letter 0 k 0 t ∷ q)) s (finish g 0 (ask g 0 k x.by_name x.message (hear k b (idle (listens g k 0 s)))))
    asked t b x h is list le =
        let r = begins g w q k t (heard_of k b s) (reads_heard g k b s t h.leading.calm is) h.level h in
        let full = full_of g s.waiting s h.crowded in
        subst (λ (v : Member M). Ended g w q (fold asks s.waiting (letter 0 k 0 t ∷ q)) s (finish g 0 (ask g 0 k x.by_name x.message (hear k b (idle v))))) (sym (listens_none g k s (omega arith) other))
        (subst (λ (v : Member M). Ended g w q (fold asks s.waiting (letter 0 k 0 t ∷ q)) s (finish g 0 (ask g 0 k x.by_name x.message (idle v)))) (sym (hears_is k b s le))
        (let p = run_ask g w q (fold asks s.waiting (letter 0 k 0 t ∷ q)) s (idle (heard_of k b s)) k x small (subst (λ (ws : List (Waiting M)). Run g w ws q (fold asks s.waiting (letter 0 k 0 t ∷ q)) s (idle (heard_of k b s))) list r) full (ask g 0 k x.by_name x.message (idle (heard_of k b s))) refl in
        run_finish g w q (fold asks s.waiting (letter 0 k 0 t ∷ q)) s (ask g 0 k x.by_name x.message (idle (heard_of k b s))) small p.0 p.1))

    above_base : (t : Kind M) (b : ℕ) → Steady g w (letter 0 k 0 t ∷ q) → ((a : Tale) → Tells g a t → a.heard ≤ b) → s.base ≤ b
    above_base t b h f = let o = h.leading.from k other there in let p = f (tale k s o.heard) (o.tells.0 refl refl) in let a = o.base in omega arith

    go : (t : Kind M) → Steady g w (letter 0 k 0 t ∷ q) → Ended g w q (fold asks s.waiting (letter 0 k 0 t ∷ q)) s (deliver_kind g 0 k 0 t s)
    go (Request b x) h = receive_zero g k s (Request b x) (Ended g w q (fold asks s.waiting (letter 0 k 0 (Request b x) ∷ q)) s) (omega arith) h.leading.calm (asked (Request b x) b (record { by_name = false; message = x }) h (λ a. refl) refl (above_base (Request b x) b h (λ a l. l)))
    go (Body b x) h = receive_zero g k s (Body b x) (Ended g w q (fold asks s.waiting (letter 0 k 0 (Body b x) ∷ q)) s) (omega arith) h.leading.calm (asked (Body b x) b (record { by_name = true; message = x }) h (λ a. refl) refl (above_base (Body b x) b h (λ a l. l)))
    go (Order number process call a stable) h = absurd ((h.leading.from k other there).tells.0 refl refl)
    go (Entry number a stable x) h = absurd ((h.leading.from k other there).tells.0 refl refl)
    go (Ack n b) h = receive_zero g k s (Ack n b) (Ended g w q (fold asks s.waiting (letter 0 k 0 (Ack n b) ∷ q)) s) (omega arith) h.leading.calm
        (subst (λ (v : Member M). Ended g w q (fold asks s.waiting (letter 0 k 0 (Ack n b) ∷ q)) s (finish g 0 (take_ack g 0 k n (hear k b (idle v))))) (sym (listens_none g k s (omega arith) other))
        (subst (λ (v : Member M). Ended g w q (fold asks s.waiting (letter 0 k 0 (Ack n b) ∷ q)) s (finish g 0 (take_ack g 0 k n (idle v)))) (sym (hears_is k b s (above_base (Ack n b) b h (λ a l. l))))
        (cond_both (g.resilience == 0) (idle (heard_of k b s)) (accept_acknowledged g 0 (idle (acked_of k n (heard_of k b s)))) (λ (v : Work M). Ended g w q (fold asks s.waiting (letter 0 k 0 (Ack n b) ∷ q)) s (finish g 0 v))
        (λ e. let r = begins g w q k (Ack n b) (heard_of k b s) (reads_heard g k b s (Ack n b) h.leading.calm (λ a. rw e refl)) h.level h in
        run_finish g w q (fold asks s.waiting (letter 0 k 0 (Ack n b) ∷ q)) s (idle (heard_of k b s)) small r (full_of g s.waiting s h.crowded))
        (λ e. let ne = eqb-false g.resilience 0 e in
        let u : Work M = idle (acked_of k n (heard_of k b s)) in
        let l = reads_leading g w q s (acked_of k n (heard_of k b s)) (letter 0 k 0 (Ack n b)) refl (reads_acked g k n b s h.leading.calm ne) h.leading in
        let r = run_accepts g w s.waiting q (fold asks s.waiting (letter 0 k 0 (Ack n b) ∷ q)) s u small (grind arith) l (moved_refl (fold asks s.waiting q) s.log) refl refl in
        let f = accept_full g u (full_of g s.waiting s h.crowded) in
        run_finish g w q (fold asks s.waiting (letter 0 k 0 (Ack n b) ∷ q)) s (accept_acknowledged g 0 u) small (subst (λ (ws : List (Waiting M)). Run g w ws q (fold asks s.waiting (letter 0 k 0 (Ack n b) ∷ q)) s (accept_acknowledged g 0 u)) (sym f.1) r) f.0))))
    go (Accept a stable) h = absurd ((h.leading.from k other there).tells.0 refl refl)
    go (Nack n b whole) h = absurd ((h.leading.from k other there).tells.0 refl refl)
    go (Status n b) h = receive_zero g k s (Status n b) (Ended g w q (fold asks s.waiting (letter 0 k 0 (Status n b) ∷ q)) s) (omega arith) h.leading.calm
        (subst (λ (v : Member M). Ended g w q (fold asks s.waiting (letter 0 k 0 (Status n b) ∷ q)) s (finish g 0 (take_status g 0 k n (hear k b (idle v))))) (sym (listens_none g k s (omega arith) other))
        (subst (λ (v : Member M). Ended g w q (fold asks s.waiting (letter 0 k 0 (Status n b) ∷ q)) s (finish g 0 (take_status g 0 k n (idle v)))) (sym (hears_is k b s (above_base (Status n b) b h (λ a l. l.0))))
        (let u : Work M = idle (heard_of k b s) in
        let r = begins g w q k (Status n b) (heard_of k b s) (reads_heard g k b s (Status n b) h.leading.calm (λ a. refl)) h.level h in
        let o = h.leading.from k other there in
        let p = (o.tells.0 refl refl).1 in
        let a = above_base (Status n b) b h (λ a l. l.0) in
        let v = run_take_status g w s.waiting q (fold asks s.waiting (letter 0 k 0 (Status n b) ∷ q)) s u k n other there (omega arith) r in
        let e = status_state g k n u in
        run_finish g w q (fold asks s.waiting (letter 0 k 0 (Status n b) ∷ q)) s (take_status g 0 k n u) small
        (subst (λ (t : Member M). Run g w t.waiting q (fold asks s.waiting (letter 0 k 0 (Status n b) ∷ q)) s (take_status g 0 k n u)) (sym e) v)
        (subst (λ (t : Member M). Full t.waiting t) (sym e) (full_of g s.waiting s h.crowded)))))
    go Invite h = absurd ((h.leading.from k other there).tells.0 refl refl)
    go (Join report) h = absurd ((h.leading.from k other there).tells.0 refl refl)
    go (News a b members log) h = absurd ((h.leading.from k other there).tells.0 refl refl)
