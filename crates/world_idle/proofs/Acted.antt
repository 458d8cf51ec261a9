-- What carrying out an action does to another process's call, to what is held, and to its own Ask.
use Rattle.std.proofs.Common.{◌≡◌, ◌<◌, ◌==◌, ◌⊎◌, inl, inr, ⊎_elim, ℕ, zero, suc, Bool, true, false, Option, Some, None, [], ◌∷◌, length, refl, sym, ap, ◌∙◌, arith, subst}
use Rattle.std.proofs.lemmas.Bool.{cond_both, eqb-false, eqb-true}
use Rattle.orca_base.specs.declared.ids.ObjectId.{ObjectId}
use Rattle.value_core.specs.declared.action.Action.{Action}
use Rattle.value_core.specs.declared.action.Action.TheVariants as action
use Rattle.value_core.specs.declared.action.Class.{Class}
use Rattle.value_core.specs.declared.action.Class.TheVariants.{Reads, Writes}
use Rattle.value_core.specs.declared.message.Message.{Message}
use Rattle.guard_queue.specs.declared.queue.Suspended.{Suspended}
use Rattle.object_manager.specs.State.{message_of}
use Rattle.book_law.specs.Events.{Calls}
use Rattle.group_rules.specs.Steps.{submit}
use Rattle.world_rules.specs.Applying.{tries_read}
use Rattle.world_rules.specs.Frame.{Frame, group}
use Rattle.world_rules.specs.Mail.{Mail}
use Rattle.world_rules.specs.Mail.Errand.{Ask}
use Rattle.world_rules.specs.Nodes.{Node, NodeWork, does, idle, known, mails_of, plays}
use Rattle.world_rules.specs.Nodes.Deed.{Submits}
use Rattle.world_rules.specs.Owners.{performs_call, sends}
use Rattle.world_rules.specs.Parts.{acts_at, acts_by, acts_of, asks, asks_again_at, asks_again_by, asks_again_of, asks_below, asks_owner, calls, calls_as, submits}
use Rattle.world_rules.specs.Played.{Played, Stage, moves_to, next_call}
use Rattle.world_rules.specs.Played.Stage.{Computing, Acting, Submitted, Reading, Asking, Over}
use Rattle.world_rules.specs.Processes.{home_in, owner_in, singles_of}
use Rattle.world_law.proofs.Climbing.{node_below}
use Rattle.world_idle.proofs.Calls.{CallsUpTo, HasCall}
use Rattle.world_law.proofs.Maps.{at_both, at_here}
use Rattle.world_law.proofs.Onwards.{on_call, on_read}
use Rattle.world_idle.proofs.Own.{Even, even, even_joins, even_on, even_read}
use Rattle.world_idle.proofs.Sent.{stayed}
use Rattle.world_idle.proofs.Taking.{AnswerFor, AskFor, Bounded, Has, MailTo, call_bounded, call_held, call_old, has_left, has_right}

asking_now : (r : Played) (act : Action) → r.stage ≡ Asking act → r.stage ≡ Computing → ⊥
asking_now r act e d = let c : Asking act ≡ Computing = sym e ∙ d in cc c

pub record Acted (f : Frame) (m j : ℕ) (n : Node) (first : NodeWork) : Type 0 where
  pub held : first.node.held ≡ n.held
  -- a call of another process
  pub waits :
      (i c h : ℕ) → home_in (known f n) i ≡ h → (m ≡ h → ⊥) → HasCall i c n.copies.waits →
      HasCall i c first.node.copies.waits ⊎ Has (MailTo h (AnswerFor i c)) (mails_of first.deeds)
  pub bound : (i c : ℕ) → (i ≡ j → ⊥) → Bounded i c (idle n) → Bounded i c first
  -- its own Ask
  pub asks :
      (r : Played) (act : Action) (o : ObjectId) → first.node.played j ≡ Some r → r.stage ≡ Asking act → Calls act o → (owner_in (known f n) o ≡ m → ⊥) →
      Has (MailTo (owner_in (known f n) o) (AskFor j (length r.replies))) (mails_of first.deeds) ⊎ (n.played j ≡ Some r)
  -- others asked before
  pub others : (i : ℕ) (r : Played) (act : Action) → (i ≡ j → ⊥) → first.node.played i ≡ Some r → r.stage ≡ Asking act → n.played i ≡ Some r

by_even : (f : Frame) (m j : ℕ) (n : Node) (first : NodeWork) → Even (idle n) first → ((i : ℕ) (r : Played) (act : Action) → first.node.played i ≡ Some r → r.stage ≡ Asking act → n.played i ≡ Some r) → Acted f m j n first
by_even f m j n first e back = record {
  held = e.held;
  waits = λ i c h home other has. inl (subst (HasCall i c) (sym e.waits) has);
  bound = λ i c no b. record { given = λ one q. b.given one (ap (λ g. g i) (sym e.given) ∙ q); waits = subst (CallsUpTo i c) (sym e.waits) b.waits };
  asks = λ r act o here is calls other. inr (back j r act here is);
  others = λ i r act no here is. back i r act here is;
}

acted_idle : (f : Frame) (m j : ℕ) (n : Node) → Acted f m j n (idle n)
acted_idle f m j n = by_even f m j n (idle n) (even (idle n)) (λ i r act here is. here)

never_back : (n : Node) (j : ℕ) (t : Played) (i : ℕ) (r : Played) (act : Action) → ((a : Action) → t.stage ≡ Asking a → ⊥) → (plays j t (idle n)).node.played i ≡ Some r → r.stage ≡ Asking act → n.played i ≡ Some r
never_back n j t i r act never here is = at_both n.played j (Some t) i (λ (o : Option Played). o ≡ Some r → n.played i ≡ Some r)
    (λ e d. let same : t ≡ r = cc in absurd (never act (ap (λ (z : Played). z.stage) same ∙ is))) (λ no d. d) here

even_plays : (n : Node) (j : ℕ) (t : Played) → Even (idle n) (plays j t (idle n))
even_plays n j t = record { waits = refl; held = refl; given = refl; mails = ([], refl) }

acted_submits : (f : Frame) (m j : ℕ) (r0 : Played) (act : Action) (x : Message) (n : Node) → Acted f m j n (submits f m j r0 act x (idle n))
acted_submits f m j r0 act x n =
    let t : Played = moves_to (Submitted act) r0 in
    let u : NodeWork = does (Submits x) (plays j t (idle n)) in
    let first : Even (idle n) u = record { waits = refl; held = refl; given = refl; mails = ([], refl) } in
    by_even f m j n (submits f m j r0 act x (idle n)) (even_on first (even_joins (submit (group f) m x u.node.member) u))
    (λ i r a here is. never_back n j t i r a (λ b e. cc e) here is)

acted_reads : (f : Frame) (m j : ℕ) (r0 : Played) (act : Action) (n : Node) → Acted f m j n (tries_read f j (plays j (moves_to (Reading act) r0) (idle n)))
acted_reads f m j r0 act n =
    let t : Played = moves_to (Reading act) r0 in
    let u : NodeWork = plays j t (idle n) in
    by_even f m j n (tries_read f j u) (even_on (even_plays n j t) (even_read f j u))
    (λ i r a here is. never_back n j t i r a (λ b e. cc e) (stayed u.node.copies.processes i (u.node.played i) ((tries_read f j u).node.played i) r ((on_read f j u).each i) here (asking_now r a is)) is)

acted_as : (f : Frame) (m j : ℕ) (r0 : Played) (call : Suspended) (class : Class) (n : Node) → Acted f m j n (calls_as f m j r0 call class (idle n))
acted_as f m j r0 call Reads n = acted_reads f m j r0 (message_of call).action n
acted_as f m j r0 call Writes n = acted_submits f m j r0 (message_of call).action (message_of call) n

acted_asks : (f : Frame) (m j : ℕ) (r0 : Played) (call : Suspended) (n : Node) → call.process.0 ≡ j → call.call ≡ next_call r0 → Acted f m j n (asks f m j r0 call (idle n))
acted_asks f m j r0 call n process number = cond_both (owner_in (known f n) call.object == m) performed sent (Acted f m j n) mine theirs
  where
    t : Played
    t = moves_to (Asking (message_of call).action) r0

    u : NodeWork
    u = plays j t (idle n)

    performed : NodeWork
    performed = performs_call f m (message_of call) u

    sent : NodeWork
    sent = sends m (owner_in (known f n) call.object) (Ask r0.place (message_of call)) u

    called : (act : Action) (o : ObjectId) → t.stage ≡ Asking act → Calls act o → o ≡ call.object
    called act o e calls = let a : (message_of call).action ≡ act = cc in subst (λ (z : Action). Calls z o → o ≡ call.object) a (λ c. c) calls

    is_it : (r : Played) → u.node.played j ≡ Some r → t ≡ r
    is_it r here = let p : Some t ≡ Some r = sym (at_here n.played j (Some t)) ∙ here in cc

    mine : (owner_in (known f n) call.object == m) ≡ true → Acted f m j n performed
    mine e = record {
      held = call_held f m j 0 (home_in (known f n) j) (known f n) refl (message_of call) u;
      waits = λ i c h home other has. ⊎_elim (λ q. inl q) (λ q. ⊎_elim (λ (x : (m ≡ h → ⊥) × _). inr x.1) (λ x. absurd (other x.0)) q)
          (call_old f m i c h (known f n) home (message_of call) u refl has);
      bound = λ i c no b. call_bounded f m i c (home_in (known f n) i) (known f n) refl (message_of call) u (λ its. absurd (no (sym its ∙ process))) (record { given = b.given; waits = b.waits });
      asks = λ r act o here is calls other.
          let old = stayed u.node.copies.processes j (u.node.played j) (performed.node.played j) r ((on_call f m (message_of call) u).each j) here (asking_now r act is) in
          let at = called act o (ap (λ (z : Played). z.stage) (is_it r old) ∙ is) calls in
          absurd (other (ap (owner_in (known f n)) at ∙ eqb-true (owner_in (known f n) call.object) m e));
      others = λ i r act no here is. at_both n.played j (Some t) i (λ (o : Option Played). o ≡ Some r → n.played i ≡ Some r) (λ q d. absurd (no q)) (λ q d. d)
          (stayed u.node.copies.processes i (u.node.played i) (performed.node.played i) r ((on_call f m (message_of call) u).each i) here (asking_now r act is));
    }

    theirs : (owner_in (known f n) call.object == m) ≡ false → Acted f m j n sent
    theirs e = record {
      held = refl;
      waits = λ i c h home other has. inl has;
      bound = λ i c no b. record { given = b.given; waits = b.waits };
      asks = λ r act o here is calls other.
          let same = is_it r here in
          let at = called act o (ap (λ (z : Played). z.stage) same ∙ is) calls in
          inl (has_right (MailTo (owner_in (known f n) o) (AskFor j (length r.replies))) (mails_of u.deeds) (Mail.Sends u.node.member.installed m (owner_in (known f n) call.object) (Ask r0.place (message_of call)) ∷ [])
          (inl (ap (owner_in (known f n)) (sym at), (process, ap (λ k. k.0) number ∙ ap (λ (z : Played). length z.replies) same))));
      others = λ i r act no here is. at_both n.played j (Some t) i (λ (o : Option Played). o ≡ Some r → n.played i ≡ Some r) (λ q d. absurd (no q)) (λ q d. d) here;
    }

acted_calls : (f : Frame) (m j : ℕ) (r0 : Played) (call : Suspended) (n : Node) → call.process.0 ≡ j → call.call ≡ next_call r0 → Acted f m j n (calls f m j r0 call (idle n))
acted_calls f m j r0 call n process number = cond_both (singles_of f (known f n) call.object) (asks f m j r0 call (idle n)) (calls_as f m j r0 call (f.performs.class_of call.kind call.op) (idle n)) (Acted f m j n)
    (λ e. acted_asks f m j r0 call n process number) (λ e. acted_as f m j r0 call (f.performs.class_of call.kind call.op) n)

acted_by : (f : Frame) (m j : ℕ) (r0 : Played) (act : Action) (n : Node) → Acted f m j n (acts_by f m j r0 act (idle n))
acted_by f m j r0 (action.Make kind object) n = acted_submits f m j r0 (action.Make kind object) _ n
acted_by f m j r0 (action.Call kind op object args) n = acted_calls f m j r0 (record { process = record { 0 = j }; call = next_call r0; kind = kind; op = op; object = object; args = args }) n refl refl
acted_by f m j r0 (action.Fork text args place_on) n = acted_submits f m j r0 (action.Fork text args place_on) _ n
acted_by f m j r0 action.Ended n = acted_idle f m j n
acted_by f m j r0 (action.Faulted fault) n = acted_idle f m j n

acted_at : (f : Frame) (m j : ℕ) (r0 : Played) (stage : Stage) (n : Node) → Acted f m j n (acts_at f m j r0 stage (idle n))
acted_at f m j r0 (Acting act) n = acted_by f m j r0 act n
acted_at f m j r0 Computing n = acted_idle f m j n
acted_at f m j r0 (Submitted act) n = acted_idle f m j n
acted_at f m j r0 (Reading act) n = acted_idle f m j n
acted_at f m j r0 (Asking act) n = acted_idle f m j n
acted_at f m j r0 (Over act) n = acted_idle f m j n

pub acted : (f : Frame) (m j : ℕ) (o : Option Played) (n : Node) → Acted f m j n (acts_of f m j o (idle n))
acted f m j None n = acted_idle f m j n
acted f m j (Some r0) n = acted_at f m j r0 r0.stage n

-- ---- at a tick each Ask goes again

owner_mails : (f : Frame) (m : ℕ) (Q : Mail → Type 0) (r : Played) (call : Suspended) (v : NodeWork) → Has Q (mails_of v.deeds) → Has Q (mails_of (asks_owner f m r call v).deeds)
owner_mails f m Q r call v h = cond_both (owner_in (known f v.node) call.object == m) v _ (λ (u : NodeWork). Has Q (mails_of u.deeds)) (λ e. h) (λ e. has_left Q (mails_of v.deeds) _ h)

by_mails : (f : Frame) (m i : ℕ) (Q : Mail → Type 0) (r : Played) (act : Action) (v : NodeWork) → Has Q (mails_of v.deeds) → Has Q (mails_of (asks_again_by f m i r act v).deeds)
by_mails f m i Q r (action.Call kind op object args) v h = owner_mails f m Q r _ v h
by_mails f m i Q r (action.Make kind object) v h = h
by_mails f m i Q r (action.Fork text args place_on) v h = h
by_mails f m i Q r action.Ended v h = h
by_mails f m i Q r (action.Faulted fault) v h = h

at_mails : (f : Frame) (m i : ℕ) (Q : Mail → Type 0) (r : Played) (stage : Stage) (v : NodeWork) → Has Q (mails_of v.deeds) → Has Q (mails_of (asks_again_at f m i r stage v).deeds)
at_mails f m i Q r (Asking act) v h = by_mails f m i Q r act v h
at_mails f m i Q r Computing v h = h
at_mails f m i Q r (Acting act) v h = h
at_mails f m i Q r (Submitted act) v h = h
at_mails f m i Q r (Reading act) v h = h
at_mails f m i Q r (Over act) v h = h

of_mails_again : (f : Frame) (m i : ℕ) (Q : Mail → Type 0) (o : Option Played) (v : NodeWork) → Has Q (mails_of v.deeds) → Has Q (mails_of (asks_again_of f m i o v).deeds)
of_mails_again f m i Q None v h = h
of_mails_again f m i Q (Some r) v h = at_mails f m i Q r r.stage v h

by_posts : (f : Frame) (m i : ℕ) (r : Played) (act : Action) (o : ObjectId) (v : NodeWork) → Calls act o → (owner_in (known f v.node) o ≡ m → ⊥) → Has (MailTo (owner_in (known f v.node) o) (AskFor i (length r.replies))) (mails_of (asks_again_by f m i r act v).deeds)
by_posts f m i r (action.Call kind op object args) o v calls other =
    cond_both (owner_in (known f v.node) object == m) v _ (λ (u : NodeWork). Has (MailTo (owner_in (known f v.node) o) (AskFor i (length r.replies))) (mails_of u.deeds))
    (λ e. absurd (other (ap (owner_in (known f v.node)) calls ∙ eqb-true (owner_in (known f v.node) object) m e)))
    (λ e. has_right (MailTo (owner_in (known f v.node) o) (AskFor i (length r.replies))) (mails_of v.deeds) _ (inl (ap (owner_in (known f v.node)) (sym calls), (refl, refl))))
by_posts f m i r (action.Make kind object) o v calls other = absurd calls
by_posts f m i r (action.Fork text args place_on) o v calls other = absurd calls
by_posts f m i r action.Ended o v calls other = absurd calls
by_posts f m i r (action.Faulted fault) o v calls other = absurd calls

one_posts : (f : Frame) (m i : ℕ) (r : Played) (act : Action) (o : ObjectId) (p : Option Played) (v : NodeWork) → p ≡ Some r → r.stage ≡ Asking act → Calls act o → (owner_in (known f v.node) o ≡ m → ⊥) →
    Has (MailTo (owner_in (known f v.node) o) (AskFor i (length r.replies))) (mails_of (asks_again_of f m i p v).deeds)
one_posts f m i r act o p v here is calls other = subst (λ (q : Option Played). Has (MailTo (owner_in (known f v.node) o) (AskFor i (length r.replies))) (mails_of (asks_again_of f m i q v).deeds)) (sym here)
    (subst (λ (s : Stage). Has (MailTo (owner_in (known f v.node) o) (AskFor i (length r.replies))) (mails_of (asks_again_at f m i r s v).deeds)) (sym is) (by_posts f m i r act o v calls other))

pub below_posts : (f : Frame) (m n i : ℕ) (r : Played) (act : Action) (o : ObjectId) (v : NodeWork) → i < n → v.node.played i ≡ Some r → r.stage ≡ Asking act → Calls act o → (owner_in (known f v.node) o ≡ m → ⊥) →
    Has (MailTo (owner_in (known f v.node) o) (AskFor i (length r.replies))) (mails_of (asks_below f m n v).deeds)
below_posts f m zero i r act o v low here is calls other = absurd (omega (arith, low))
below_posts f m (suc n) i r act o v low here is calls other = by (i == n) refl (λ l. below_posts f m n i r act o v l here is calls other)
  where
    u : NodeWork
    u = asks_below f m n v

    same : u.node ≡ v.node
    same = node_below f m n v

    Q : Mail → Type 0
    Q = MailTo (owner_in (known f v.node) o) (AskFor i (length r.replies))

    by : (b : Bool) → (i == n) ≡ b → (i < n → Has (MailTo (owner_in (known f v.node) o) (AskFor i (length r.replies))) (mails_of u.deeds)) → Has (MailTo (owner_in (known f v.node) o) (AskFor i (length r.replies))) (mails_of (asks_again_of f m n (u.node.played n) u).deeds)
    by true e rec =
        let at = eqb-true i n e in
        subst (λ (z : Node). Has (MailTo (owner_in (known f z) o) (AskFor i (length r.replies))) (mails_of (asks_again_of f m n (u.node.played n) u).deeds)) same
        (subst (λ (x : ℕ). Has (MailTo (owner_in (known f u.node) o) (AskFor i (length r.replies))) (mails_of (asks_again_of f m x (u.node.played x) u).deeds)) at
        (one_posts f m i r act o (u.node.played i) u (ap (λ (z : Node). z.played i) same ∙ here) is calls (λ q. other (sym (ap (λ (z : Node). owner_in (known f z) o) same) ∙ q))))
    by false e rec = let d = eqb-false i n e in
        of_mails_again f m n (MailTo (owner_in (known f v.node) o) (AskFor i (length r.replies))) (u.node.played n) u (rec (less i n low d))
      where
        less : (a b : ℕ) → a < suc b → (a ≡ b → ⊥) → a < b
        less a b l ne = let q = ne in grind arith
