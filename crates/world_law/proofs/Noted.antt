-- What a note does to its member: it accepts more by messages that waited alone, which then wait no more.
use Rattle.std.proofs.Common.{◌≡◌, ◌==◌, ◌≤◌, ◌⊎◌, ◌-◌, max, min, nat_le, ℕ, zero, suc, Bool, List, [], ◌∷◌, ◌++◌, length, length-append, append_assoc, append-nil, refl, sym, ap, ◌∙◌, arith, subst, inl, inr}
use Rattle.std.proofs.lemmas.Bool.{cond_both}
use Rattle.orca_base.specs.declared.limits.TheConstants.{ENTRIES_BEFORE_PURGE}
use Rattle.value_core.specs.declared.message.Message.{Message}
use Rattle.group_rules.specs.Member.{Kind, Member, Waiting, has_room, leads, stable_of}
use Rattle.group_rules.specs.Messages.{Group, is_repeat}
use Rattle.group_rules.specs.Sequencer.{finish, numbering, order, order_all_waiting, order_waiting, order_while_room, ordered, purge}
use Rattle.group_rules.specs.Receiver.{send_status}
use Rattle.group_rules.specs.Steps.{note, noted, should_report}
use Rattle.group_rules.specs.Work.{Act, Work, becomes, does, idle, tell_below}

-- a later state of the member, of the same incarnation: the log may be longer, and more may be accepted
pub record Grows (s t : Member Message) : Type 0 where
  pub installed : t.installed ≡ s.installed
  pub applied : t.applied ≡ s.applied
  pub log : (more : List Message) × (t.log ≡ s.log ++ more)
  pub logged : s.accepted ≤ length s.log → t.accepted ≤ length t.log
  pub accepted : s.accepted ≤ length s.log → s.accepted ≤ t.accepted

-- so many messages wait at most; and where more is accepted, fewer
pub record Noted (s t : Member Message) (waited : ℕ) : Type 0 where
  pub grows : Grows s t
  pub waits : length t.waiting ≤ waited
  pub accepts : (t.accepted ≡ s.accepted) ⊎ (suc (length t.waiting) ≤ waited)

grows_none : (s : Member Message) → Grows s s
grows_none s = record { installed = refl; applied = refl; log = ([], sym (append-nil s.log)); logged = λ h. h; accepted = λ h. omega arith }

grows_on : (s t u : Member Message) → Grows s t → Grows t u → Grows s u
grows_on s t u one two = record {
  installed = two.installed ∙ one.installed;
  applied = two.applied ∙ one.applied;
  log = (one.log.0 ++ two.log.0, two.log.1 ∙ ap (λ xs. xs ++ two.log.0) one.log.1 ∙ append_assoc s.log one.log.0 two.log.0);
  logged = λ h. two.logged (one.logged h);
  accepted = λ h. let a = one.accepted h in let b = two.accepted (one.logged h) in omega (arith, a, b);
}

-- ---- a message is ordered

told_below : (n m k : ℕ) (kind : Kind Message) (v : Work Message) → (tell_below n m k kind v).state ≡ v.state
told_below zero m k kind v = refl
told_below (suc n) m k kind v = cond_both (n == m) _ _ (λ (u : Work Message). u.state ≡ v.state)
    (λ e. told_below n m k kind v) (λ e. told_below n m k kind v)

grows_ordered : (r : ℕ) (x : Message) (s : Member Message) → Grows s (ordered r x s)
grows_ordered r x s =
    let n = length-append s.log (x ∷ []) in
    record {
      installed = refl;
      applied = refl;
      log = (x ∷ [], refl);
      logged = λ h. cond_both (r == 0) (suc (length s.log)) s.accepted (λ a. a ≤ length (s.log ++ x ∷ [])) (λ e. omega (arith, n)) (λ e. omega (arith, n, h));
      accepted = λ h. cond_both (r == 0) (suc (length s.log)) s.accepted (λ a. s.accepted ≤ a) (λ e. omega (arith, h)) (λ e. omega arith);
    }

grows_order : (g : Group Message) (m : ℕ) (by_name : Bool) (x : Message) (v : Work Message) → Grows v.state (order g m by_name x v).state
grows_order g m by_name x v =
    let s : Member Message = ordered g.resilience x v.state in
    let u : Work Message = does (Act.Orders s.installed x) (becomes s v) in
    subst (Grows v.state)
    (sym (told_below g.nodes m s.installed (numbering g by_name (length s.log) s.accepted (stable_of g m s) x) u))
    (grows_ordered g.resilience x v.state)

grows_waiting : (g : Group Message) (m : ℕ) (w : Waiting Message) (v : Work Message) → Grows v.state (order_waiting g m w v).state
grows_waiting g m w v = cond_both (is_repeat g v.state.log w.message) _ _ (λ (u : Work Message). Grows v.state u.state)
    (λ e. grows_none v.state) (λ e. grows_order g m w.by_name w.message v)

while_room : (g : Group Message) (m : ℕ) (ws : List (Waiting Message)) (v : Work Message) → Noted v.state (order_while_room g m ws v).state (length ws)
while_room g m [] v = record {
  grows = record { installed = refl; applied = refl; log = ([], sym (append-nil v.state.log)); logged = λ h. h; accepted = λ h. omega arith };
  waits = omega arith;
  accepts = inl refl;
}
while_room g m (w ∷ ws) v = cond_both (has_room v.state) _ _ (λ (u : Work Message). Noted v.state u.state (length (w ∷ ws)))
    (λ e.
    let rest = while_room g m ws (order_waiting g m w v) in
    let fewer = rest.waits in
    record {
      grows = grows_on v.state (order_waiting g m w v).state (order_while_room g m ws (order_waiting g m w v)).state (grows_waiting g m w v) rest.grows;
      waits = omega (arith, fewer);
      accepts = inr (omega (arith, fewer));
    })
    (λ e. record {
      grows = record { installed = refl; applied = refl; log = ([], sym (append-nil v.state.log)); logged = λ h. h; accepted = λ h. omega arith };
      waits = omega arith;
      accepts = inl refl;
    })

-- ---- a note

-- states that differ in their base, or in what they reported, grow alike
based : (s t : Member Message) (base waited : ℕ) → Noted (record s { base = base }) t waited → Noted s t waited
based s t base waited h = record {
  grows = record { installed = h.grows.installed; applied = h.grows.applied; log = h.grows.log; logged = h.grows.logged; accepted = h.grows.accepted };
  waits = h.waits;
  accepts = h.accepts;
}

reported : (s t : Member Message) (number waited : ℕ) → Noted (record s { reported = number }) t waited → Noted s t waited
reported s t number waited h = record {
  grows = record { installed = h.grows.installed; applied = h.grows.applied; log = h.grows.log; logged = h.grows.logged; accepted = h.grows.accepted };
  waits = h.waits;
  accepts = h.accepts;
}

purging : (g : Group Message) (m stable : ℕ) (v : Work Message) →
    Noted v.state (order_all_waiting g m (purge stable v)).state (length v.state.waiting)
purging g m stable v =
    let base : ℕ = max v.state.base (min stable v.state.applied) in
    let u : Work Message = record { state = record v.state { base = base }; acts = v.acts } in
    cond_both (nat_le ENTRIES_BEFORE_PURGE (length v.state.log - v.state.base)) (record v.state { base = base }) v.state
    (λ (t : Member Message). Noted v.state (order_while_room g m t.waiting (record { state = t; acts = v.acts })).state (length v.state.waiting))
    (λ e. based v.state (order_while_room g m v.state.waiting u).state base (length v.state.waiting) (while_room g m v.state.waiting u))
    (λ e. while_room g m v.state.waiting v)

finishes : (g : Group Message) (m : ℕ) (v : Work Message) → Noted v.state (finish g m v).state (length v.state.waiting)
finishes g m v = cond_both (leads g m v.state) _ _ (λ (u : Work Message). Noted v.state u.state (length v.state.waiting))
    (λ e. purging g m (stable_of g m v.state) v)
    (λ e. record { grows = grows_none v.state; waits = omega arith; accepts = inl refl })

pub note_noted : (g : Group Message) (m n : ℕ) (s : Member Message) → Noted (noted g n s) (note g m n s).state (length s.waiting)
note_noted g m n s =
    let t : Member Message = noted g n s in
    cond_both (should_report g m n s) (send_status g m (idle t)) (idle t) (λ (u : Work Message). Noted t (finish g m u).state (length s.waiting))
    (λ e. reported t _ t.applied (length s.waiting) (finishes g m (send_status g m (idle t))))
    (λ e. finishes g m (idle t))
