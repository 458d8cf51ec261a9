-- Asks and Answers at a member that takes those whose place is reached: what becomes of one call of one process.
use Rattle.std.proofs.Common.{◌≡◌, ◌≤◌, ◌<◌, ◌==◌, ◌||◌, ◌⊎◌, inl, inr, ⊎_elim, ℕ, Bool, true, false, Option, Some, None, List, [], ◌∷◌, ◌++◌, length, take, refl, sym, ap, ◌∙◌, arith, subst, nat_lt, nat_le, if◌then◌else◌}
use Rattle.std.proofs.lemmas.Bool.{and_parts, cond_both, eqb-false, eqb-true, leb-false, ltb-false}
use Rattle.orca_base.specs.declared.ids.CallNo.{CallNo}
use Rattle.value_core.specs.declared.action.Action.{Action}
use Rattle.value_core.specs.declared.action.Line.{Line}
use Rattle.value_core.specs.declared.action.Reply.{Reply}
use Rattle.value_core.specs.declared.message.Message.{Message}
use Rattle.guard_queue.specs.declared.queue.Suspended.{Suspended}
use Rattle.object_manager.specs.Singles.{after_single, lines_single}
use Rattle.world_rules.specs.Frame.{Frame, group}
use Rattle.world_rules.specs.Mail.{Errand, Mail, place_of}
use Rattle.world_rules.specs.Mail.Errand.{Ask, Answer}
use Rattle.world_rules.specs.Nodes.{Deed, Given, Node, NodeWork, becomes, changes, does, if_played, known, mails_of, plays}
use Rattle.world_rules.specs.Nodes.Deed.{Performs}
use Rattle.world_rules.specs.Owners.{hands, hands_all, hears_as, hears_of, holds, is_this_call, performs_call, sends_given, takes, takes_asked, takes_call, takes_each, waits_here}
use Rattle.world_rules.specs.Played.{Played, Stage, receives}
use Rattle.world_rules.specs.Played.Stage.{Computing, Acting, Submitted, Reading, Asking, Over}
use Rattle.world_rules.specs.Processes.{Begun, home_in, processes_in}
use Rattle.world_idle.proofs.Calls.{CallsUpTo, HasCall, HasLine, LinesUpTo, taken_new, taken_old, taken_up}
use Rattle.world_law.proofs.Maps.{at_both}
use Rattle.world_law.proofs.Onwards.{AreOnward, on_each, on_hands_all}
use Rattle.world_idle.proofs.Sent.{stayed}
use Rattle.world_law.proofs.Still.{Still, still_hands, still_takes}

-- ---- errands and mails

abbrev pub Has : {A : Type 0} → (A → Type 0) → List A → Type 0
Has P [] = ⊥
Has P (x ∷ xs) = P x ⊎ Has P xs

pub has_left : {A : Type 0} (P : A → Type 0) (xs ys : List A) → Has P xs → Has P (xs ++ ys)
has_left P [] ys h = absurd h
has_left P (x ∷ xs) ys (inl e) = inl e
has_left P (x ∷ xs) ys (inr h) = inr (has_left P xs ys h)

pub has_right : {A : Type 0} (P : A → Type 0) (xs ys : List A) → Has P ys → Has P (xs ++ ys)
has_right P [] ys h = h
has_right P (x ∷ xs) ys h = inr (has_right P xs ys h)

-- the Ask, or the Answer, of this call of process i
abbrev pub AskFor : ℕ → ℕ → Errand → Type 0
AskFor i c (Ask place x) = (x.process.0 ≡ i) × (x.call.0 ≡ c)
AskFor i c (Answer place j call reply) = ⊥

abbrev pub AnswerFor : ℕ → ℕ → Errand → Type 0
AnswerFor i c (Ask place x) = ⊥
AnswerFor i c (Answer place j call reply) = (j.0 ≡ i) × (call.0 ≡ c)

-- no later Ask of it
abbrev pub AskUpTo : ℕ → ℕ → Errand → Type 0
AskUpTo i c (Ask place x) = x.process.0 ≡ i → x.call.0 ≤ c
AskUpTo i c (Answer place j call reply) = Unit {0}

abbrev pub AllUpTo : ℕ → ℕ → List Errand → Type 0
AllUpTo i c [] = Unit {0}
AllUpTo i c (e ∷ es) = AskUpTo i c e × AllUpTo i c es

abbrev pub MailTo : ℕ → (Errand → Type 0) → Mail → Type 0
MailTo to P (Mail.Grouped letter) = ⊥
MailTo to P (Mail.Sends incarnation from k errand) = (k ≡ to) × P errand

-- the process doesn't ask an owner for this call
abbrev pub NotAsking : ℕ → ℕ → (ℕ → Option Played) → Type 0
NotAsking i c played = (r : Played) (act : Action) → played i ≡ Some r → r.stage ≡ Asking act → length r.replies ≡ c → ⊥

pub known_same : (f : Frame) (a b : Node) → a.member ≡ b.member → a.copies.applied ≡ b.copies.applied → known f a ≡ known f b
known_same f a b e d = ap (λ (n : ℕ). processes_in f (take n a.member.log)) d ∙ ap (λ s. processes_in f (take b.copies.applied s.log)) e

if_both : (P : NodeWork → Type 0) (change : Played → Played) (i : ℕ) (o : Option Played) (v : NodeWork) → (o ≡ None → P v) → ((r : Played) → o ≡ Some r → P (plays i (change r) v)) → P (if_played change i o v)
if_both P change i None v none some = none refl
if_both P change i (Some r) v none some = some r refl

still_asking : (s : Stage) (act : Action) → s ≡ Asking act → s ≡ Computing → ⊥
still_asking s act e d = let q : Asking act ≡ Computing = sym e ∙ d in cc q

-- each has a place that isn't reached
abbrev pub AllLate : List Errand → ℕ → Type 0
AllLate [] n = Unit {0}
AllLate (e ∷ es) n = (n < place_of e) × AllLate es n

late_push : (es : List Errand) (e : Errand) (n : ℕ) → AllLate es n → n < place_of e → AllLate (es ++ e ∷ []) n
late_push [] e n h k = (k, tt)
late_push (x ∷ es) e n h k = (h.0, late_push es e n h.1 k)

-- ---- member m, at work

-- what an owner keeps of process i, and what waits at it, is of no later call
pub record Bounded (i c : ℕ) (v : NodeWork) : Type 0 where
  pub given : (one : Given) → v.node.given i ≡ Some one → one.call.0 ≤ c
  pub waits : CallsUpTo i c v.node.copies.waits

module _ (f : Frame) (m i c h : ℕ) (K : List Begun) (home : home_in K i ≡ h) where
  -- its Answer was sent to its process's member; or it is this one, and the process doesn't ask for it
  abbrev pub Served : NodeWork → Type 0
  Served v = ((m ≡ h → ⊥) × Has (MailTo h (AnswerFor i c)) (mails_of v.deeds)) ⊎ ((m ≡ h) × NotAsking i c v.node.played)

  -- or it waits here
  abbrev pub Taken : NodeWork → Type 0
  Taken v = HasCall i c v.node.copies.waits ⊎ Served v

  abbrev pub Knows : NodeWork → Type 0
  Knows v = known f v.node ≡ K

  not_on : (v u : NodeWork) → AreOnward v u → NotAsking i c v.node.played → NotAsking i c u.node.played
  not_on v u on not r act here is n =
      not r act (stayed v.node.copies.processes i (v.node.played i) (u.node.played i) r (on.each i) here (still_asking r.stage act is)) is n

  served_on : (v u : NodeWork) → (Has (MailTo h (AnswerFor i c)) (mails_of v.deeds) → Has (MailTo h (AnswerFor i c)) (mails_of u.deeds)) → AreOnward v u → Served v → Served u
  served_on v u more on (inl sent) = inl (sent.0, more sent.1)
  served_on v u more on (inr (here, not)) = inr (here, not_on v u on not)

  knows_on : (v u : NodeWork) → Still (group f) m v u → Knows v → Knows u
  knows_on v u s k = known_same f u.node v.node s.member s.applied ∙ k

  -- ---- lines are handed on

  hands_mails : (Q : Mail → Type 0) (l : Line) (v : NodeWork) → Has Q (mails_of v.deeds) → Has Q (mails_of (hands f m l v).deeds)
  hands_mails Q l v has =
      let u : NodeWork = does (Performs (record { place = v.node.copies.applied; line = l })) v in
      let to : ℕ = home_in (known f v.node) l.process.0 in
      cond_both (to == m) (changes (receives v.node.copies.applied l.reply) l.process.0 u) _ (λ (z : NodeWork). Has Q (mails_of z.deeds))
      (λ e. if_both (λ z. Has Q (mails_of z.deeds)) (receives v.node.copies.applied l.reply) l.process.0 (u.node.played l.process.0) u (λ n. has) (λ r n. has))
      (λ e. has_left Q (mails_of v.deeds) _ has)

  hands_copies : (l : Line) (v : NodeWork) → (hands f m l v).node.copies ≡ v.node.copies
  hands_copies l v =
      let u : NodeWork = does (Performs (record { place = v.node.copies.applied; line = l })) v in
      let to : ℕ = home_in (known f v.node) l.process.0 in
      cond_both (to == m) (changes (receives v.node.copies.applied l.reply) l.process.0 u) _ (λ (z : NodeWork). z.node.copies ≡ v.node.copies)
      (λ e. if_both (λ z. z.node.copies ≡ v.node.copies) (receives v.node.copies.applied l.reply) l.process.0 (u.node.played l.process.0) u (λ n. refl) (λ r n. refl))
      (λ e. refl)

  hands_held : (l : Line) (v : NodeWork) → (hands f m l v).node.held ≡ v.node.held
  hands_held l v =
      let u : NodeWork = does (Performs (record { place = v.node.copies.applied; line = l })) v in
      let to : ℕ = home_in (known f v.node) l.process.0 in
      cond_both (to == m) (changes (receives v.node.copies.applied l.reply) l.process.0 u) _ (λ (z : NodeWork). z.node.held ≡ v.node.held)
      (λ e. if_both (λ z. z.node.held ≡ v.node.held) (receives v.node.copies.applied l.reply) l.process.0 (u.node.played l.process.0) u (λ n. refl) (λ r n. refl))
      (λ e. refl)

  hands_given : (l : Line) (v : NodeWork) → (l.process.0 ≡ i → l.call.0 ≤ c) → ((one : Given) → v.node.given i ≡ Some one → one.call.0 ≤ c) →
      (one : Given) → (hands f m l v).node.given i ≡ Some one → one.call.0 ≤ c
  hands_given l v low old =
      let u : NodeWork = does (Performs (record { place = v.node.copies.applied; line = l })) v in
      let to : ℕ = home_in (known f v.node) l.process.0 in
      cond_both (to == m) (changes (receives v.node.copies.applied l.reply) l.process.0 u) _ (λ (z : NodeWork). (one : Given) → z.node.given i ≡ Some one → one.call.0 ≤ c)
      (λ e. if_both (λ z. (one : Given) → z.node.given i ≡ Some one → one.call.0 ≤ c) (receives v.node.copies.applied l.reply) l.process.0 (u.node.played l.process.0) u (λ n. old) (λ r n. old))
      (λ e one. at_both v.node.given l.process.0 (Some (record { place = v.node.copies.applied; call = l.call; reply = l.reply })) i (λ (o : Option Given). o ≡ Some one → one.call.0 ≤ c)
      (λ same d. let q : record { place = v.node.copies.applied; call = l.call; reply = l.reply } ≡ one = cc in subst (λ (z : Given). z.call.0 ≤ c) q (low (sym same))) (λ no d. old one d))

  hands_served : (l : Line) (v : NodeWork) → Knows v → l.process.0 ≡ i → l.call.0 ≡ c → Served (hands f m l v)
  hands_served l v knows its number =
      cond_both (to == m) (changes (receives v.node.copies.applied l.reply) l.process.0 u) _ Served
      (λ e. inr (
        sym (eqb-true to m e) ∙ there,
        if_both (λ z. NotAsking i c z.node.played) (receives v.node.copies.applied l.reply) l.process.0 (u.node.played l.process.0) u
            (λ n r act here is d. let q : None ≡ Some r = sym n ∙ ap v.node.played its ∙ here in cc q)
            (λ s n r act here is d. at_both v.node.played l.process.0 (Some (receives v.node.copies.applied l.reply s)) i (λ (o : Option Played). o ≡ Some r → ⊥)
            (λ same q. let p : receives v.node.copies.applied l.reply s ≡ r = cc in still_asking r.stage act is (ap (λ (z : Played). z.stage) (sym p)))
            (λ no q. no (sym its)) here),
      ))
      (λ e. inl ((λ q. eqb-false to m e (there ∙ sym q)), has_right (MailTo h (AnswerFor i c)) (mails_of v.deeds) _ (inl (there, (its, number)))))
    where
      u : NodeWork
      u = does (Performs (record { place = v.node.copies.applied; line = l })) v

      to : ℕ
      to = home_in (known f v.node) l.process.0

      there : to ≡ h
      there = ap (λ (ps : List Begun). home_in ps l.process.0) knows ∙ ap (home_in K) its ∙ home

  all_mails : (Q : Mail → Type 0) (ls : List Line) (v : NodeWork) → Has Q (mails_of v.deeds) → Has Q (mails_of (hands_all f m ls v).deeds)
  all_mails Q [] v has = has
  all_mails Q (l ∷ ls) v has = all_mails Q ls (hands f m l v) (hands_mails Q l v has)

  pub all_copies : (ls : List Line) (v : NodeWork) → (hands_all f m ls v).node.copies ≡ v.node.copies
  all_copies [] v = refl
  all_copies (l ∷ ls) v = all_copies ls (hands f m l v) ∙ hands_copies l v

  all_held : (ls : List Line) (v : NodeWork) → (hands_all f m ls v).node.held ≡ v.node.held
  all_held [] v = refl
  all_held (l ∷ ls) v = all_held ls (hands f m l v) ∙ hands_held l v

  all_given : (ls : List Line) (v : NodeWork) → LinesUpTo i c ls → ((one : Given) → v.node.given i ≡ Some one → one.call.0 ≤ c) →
      (one : Given) → (hands_all f m ls v).node.given i ≡ Some one → one.call.0 ≤ c
  all_given [] v low old = old
  all_given (l ∷ ls) v low old = all_given ls (hands f m l v) low.1 (hands_given l v low.0 old)

  all_served : (ls : List Line) (v : NodeWork) → Knows v → HasLine i c ls → Served (hands_all f m ls v)
  all_served [] v knows has = absurd has
  all_served (l ∷ ls) v knows (inl its) = served_on (hands f m l v) (hands_all f m ls (hands f m l v)) (all_mails (MailTo h (AnswerFor i c)) ls (hands f m l v)) (on_hands_all f m ls (hands f m l v))
      (hands_served l v knows its.0 its.1)
  all_served (l ∷ ls) v knows (inr has) = all_served ls (hands f m l v) (knows_on v (hands f m l v) (still_hands f (group f) m m l v) knows) has

  -- ---- a call is taken

  after : Message → NodeWork → NodeWork
  after x v = becomes (record v.node { copies = after_single f.performs v.node.copies x }) v

  pub call_mails : (Q : Mail → Type 0) (x : Message) (v : NodeWork) → Has Q (mails_of v.deeds) → Has Q (mails_of (performs_call f m x v).deeds)
  call_mails Q x v has = all_mails Q (lines_single f.performs v.node.copies x) (becomes (record v.node { copies = after_single f.performs v.node.copies x }) v) has

  pub call_held : (x : Message) (v : NodeWork) → (performs_call f m x v).node.held ≡ v.node.held
  call_held x v = all_held (lines_single f.performs v.node.copies x) (becomes (record v.node { copies = after_single f.performs v.node.copies x }) v)

  call_taken : (x : Message) (v : NodeWork) → Knows v → HasCall i c (after_single f.performs v.node.copies x).waits ⊎ HasLine i c (lines_single f.performs v.node.copies x) → Taken (performs_call f m x v)
  call_taken x v knows (inl has) =
      let u : NodeWork = becomes (record v.node { copies = after_single f.performs v.node.copies x }) v in
      inl (subst (λ z. HasCall i c z.waits) (sym (all_copies (lines_single f.performs v.node.copies x) u)) has)
  call_taken x v knows (inr has) = inr (all_served (lines_single f.performs v.node.copies x) (becomes (record v.node { copies = after_single f.performs v.node.copies x }) v) knows has)

  pub call_old : (x : Message) (v : NodeWork) → Knows v → HasCall i c v.node.copies.waits → Taken (performs_call f m x v)
  call_old x v knows has = call_taken x v knows (taken_old f.performs i c v.node.copies x has)

  pub call_new : (x : Message) (v : NodeWork) → Knows v → x.process.0 ≡ i → x.call.0 ≡ c → Taken (performs_call f m x v)
  call_new x v knows its number = call_taken x v knows (taken_new f.performs i c v.node.copies x its number)

  pub call_bounded : (x : Message) (v : NodeWork) → (x.process.0 ≡ i → x.call.0 ≤ c) → Bounded i c v → Bounded i c (performs_call f m x v)
  call_bounded x v low b =
      let u : NodeWork = becomes (record v.node { copies = after_single f.performs v.node.copies x }) v in
      let t = taken_up f.performs i c v.node.copies x b.waits low in
      record {
        given = all_given (lines_single f.performs v.node.copies x) u t.1 b.given;
        waits = subst (λ z. CallsUpTo i c z.waits) (sym (all_copies (lines_single f.performs v.node.copies x) u)) t.0;
      }

  waits_has : (x : Message) (calls : List Suspended) → x.process.0 ≡ i → x.call.0 ≡ c → waits_here x calls ≡ true → HasCall i c calls
  waits_has x [] its number e = absurd (cc e)
  waits_has x (call ∷ calls) its number e = by (is_this_call x call) refl e (waits_has x calls its number)
    where
      by : (b : Bool) → is_this_call x call ≡ b → (b || waits_here x calls) ≡ true → (waits_here x calls ≡ true → HasCall i c calls) → HasCall i c (call ∷ calls)
      by true is d more = let a = same_is x call is in inl (sym a.0 ∙ its, sym a.1 ∙ number)
        where
          same_is : (y : Message) (other : Suspended) → is_this_call y other ≡ true → (y.process.0 ≡ other.process.0) × (y.call.0 ≡ other.call.0)
          same_is y other q = let p = and_parts (y.process.0 == other.process.0) (y.call.0 == other.call.0) q in (eqb-true y.process.0 other.process.0 p.0, eqb-true y.call.0 other.call.0 p.1)
      by false is d more = inr (more d)

  -- ---- an Ask or an Answer is taken

  mails_call : (Q : Mail → Type 0) (x : Message) (v : NodeWork) → Has Q (mails_of v.deeds) → Has Q (mails_of (takes_call f m x v).deeds)
  mails_call Q x v has = cond_both (waits_here x v.node.copies.waits) v (performs_call f m x v) (λ (u : NodeWork). Has Q (mails_of u.deeds)) (λ e. has) (λ e. call_mails Q x v has)

  mails_asked : (Q : Mail → Type 0) (x : Message) (o : Option Given) (v : NodeWork) → Has Q (mails_of v.deeds) → Has Q (mails_of (takes_asked f m x o v).deeds)
  mails_asked Q x None v has = mails_call Q x v has
  mails_asked Q x (Some given) v has = cond_both (nat_lt given.call.0 x.call.0) (takes_call f m x v) _ (λ (u : NodeWork). Has Q (mails_of u.deeds)) (λ e. mails_call Q x v has)
      (λ e. cond_both (given.call.0 == x.call.0) (sends_given m (home_in (known f v.node) x.process.0) x.process given v) v (λ (u : NodeWork). Has Q (mails_of u.deeds)) (λ d. has_left Q (mails_of v.deeds) _ has) (λ d. has))

  hears_deeds : (place j : ℕ) (call : CallNo) (reply : Reply) (r : Played) (stage : Stage) (v : NodeWork) → (hears_as place j call reply r stage v).deeds ≡ v.deeds
  hears_deeds place j call reply r (Asking act) v = cond_both (call.0 == length r.replies) (plays j (receives place reply r) v) v (λ (u : NodeWork). u.deeds ≡ v.deeds) (λ e. refl) (λ e. refl)
  hears_deeds place j call reply r Computing v = refl
  hears_deeds place j call reply r (Acting act) v = refl
  hears_deeds place j call reply r (Submitted act) v = refl
  hears_deeds place j call reply r (Reading act) v = refl
  hears_deeds place j call reply r (Over act) v = refl

  heard_deeds : (place j : ℕ) (call : CallNo) (reply : Reply) (o : Option Played) (v : NodeWork) → (hears_of place j call reply o v).deeds ≡ v.deeds
  heard_deeds place j call reply None v = refl
  heard_deeds place j call reply (Some r) v = hears_deeds place j call reply r r.stage v

  takes_mails : (Q : Mail → Type 0) (e : Errand) (v : NodeWork) → Has Q (mails_of v.deeds) → Has Q (mails_of (takes f m e v).deeds)
  takes_mails Q (Ask place x) v has = mails_asked Q x (v.node.given x.process.0) v has
  takes_mails Q (Answer place j call reply) v has = subst (λ (ds : List Deed). Has Q (mails_of ds)) (sym (heard_deeds place j.0 call reply (v.node.played j.0) v)) has

  -- what waits
  asked_old : (x : Message) (o : Option Given) (v : NodeWork) → Knows v → HasCall i c v.node.copies.waits → Taken (takes_asked f m x o v)
  asked_old x None v knows has = cond_both (waits_here x v.node.copies.waits) v (performs_call f m x v) Taken (λ e. inl has) (λ e. call_old x v knows has)
  asked_old x (Some given) v knows has = cond_both (nat_lt given.call.0 x.call.0) (takes_call f m x v) _ Taken
      (λ e. cond_both (waits_here x v.node.copies.waits) v (performs_call f m x v) Taken (λ d. inl has) (λ d. call_old x v knows has))
      (λ e. cond_both (given.call.0 == x.call.0) (sends_given m (home_in (known f v.node) x.process.0) x.process given v) v Taken (λ d. inl has) (λ d. inl has))

  hears_copies : (place j : ℕ) (call : CallNo) (reply : Reply) (r : Played) (stage : Stage) (v : NodeWork) → (hears_as place j call reply r stage v).node.copies ≡ v.node.copies
  hears_copies place j call reply r (Asking act) v = cond_both (call.0 == length r.replies) (plays j (receives place reply r) v) v (λ (u : NodeWork). u.node.copies ≡ v.node.copies) (λ e. refl) (λ e. refl)
  hears_copies place j call reply r Computing v = refl
  hears_copies place j call reply r (Acting act) v = refl
  hears_copies place j call reply r (Submitted act) v = refl
  hears_copies place j call reply r (Reading act) v = refl
  hears_copies place j call reply r (Over act) v = refl

  heard_copies : (place j : ℕ) (call : CallNo) (reply : Reply) (o : Option Played) (v : NodeWork) → (hears_of place j call reply o v).node.copies ≡ v.node.copies
  heard_copies place j call reply None v = refl
  heard_copies place j call reply (Some r) v = hears_copies place j call reply r r.stage v

  takes_old : (e : Errand) (v : NodeWork) → Knows v → HasCall i c v.node.copies.waits → Taken (takes f m e v)
  takes_old (Ask place x) v knows has = asked_old x (v.node.given x.process.0) v knows has
  takes_old (Answer place j call reply) v knows has = inl (subst (λ z. HasCall i c z.waits) (sym (heard_copies place j.0 call reply (v.node.played j.0) v)) has)

  -- its own Ask
  call_now : (x : Message) (v : NodeWork) → Knows v → x.process.0 ≡ i → x.call.0 ≡ c → Taken (takes_call f m x v)
  call_now x v knows its number = cond_both (waits_here x v.node.copies.waits) v (performs_call f m x v) Taken
      (λ e. inl (waits_has x v.node.copies.waits its number e)) (λ e. call_new x v knows its number)

  asked_now : (x : Message) (o : Option Given) (v : NodeWork) → (m ≡ h → ⊥) → v.node.given x.process.0 ≡ o → Knows v → Bounded i c v → x.process.0 ≡ i → x.call.0 ≡ c → Taken (takes_asked f m x o v)
  asked_now x None v other here knows b its number = call_now x v knows its number
  asked_now x (Some given) v other here knows b its number = cond_both (nat_lt given.call.0 x.call.0) (takes_call f m x v) _ Taken (λ e. call_now x v knows its number)
      (λ e. cond_both (given.call.0 == x.call.0) (sends_given m (home_in (known f v.node) x.process.0) x.process given v) v Taken
      (λ d. inr (inl (other, has_right (MailTo h (AnswerFor i c)) (mails_of v.deeds) _ (inl (ap (λ (ps : List Begun). home_in ps x.process.0) knows ∙ ap (home_in K) its ∙ home, (its, eqb-true given.call.0 x.call.0 d ∙ number))))))
      (λ d. let low = b.given given (ap v.node.given (sym its) ∙ here) in let ge = ltb-false given.call.0 x.call.0 e in let ne = eqb-false given.call.0 x.call.0 d in absurd (ne (omega (arith, low, ge, number)))))

  takes_now : (e : Errand) (v : NodeWork) → (m ≡ h → ⊥) → Knows v → Bounded i c v → AskFor i c e → Taken (takes f m e v)
  takes_now (Ask place x) v other knows b is = asked_now x (v.node.given x.process.0) v other refl knows b is.0 is.1
  takes_now (Answer place j call reply) v other knows b is = absurd is

  -- its Answer
  hears_not : (place j : ℕ) (call : CallNo) (reply : Reply) (r : Played) (stage : Stage) (v : NodeWork) → j ≡ i → call.0 ≡ c → v.node.played j ≡ Some r → r.stage ≡ stage →
      NotAsking i c (hears_as place j call reply r stage v).node.played
  hears_not place j call reply r (Asking act) v its number here at = cond_both (call.0 == length r.replies) (plays j (receives place reply r) v) v (λ (u : NodeWork). NotAsking i c u.node.played)
      (λ e s a now is n. at_both v.node.played j (Some (receives place reply r)) i (λ (o : Option Played). o ≡ Some s → ⊥)
      (λ same q. let p : receives place reply r ≡ s = cc in still_asking s.stage a is (ap (λ (z : Played). z.stage) (sym p))) (λ no q. no (sym its)) now)
      (λ e s a now is n. let p : Some r ≡ Some s = sym here ∙ ap v.node.played its ∙ now in let q : r ≡ s = cc in eqb-false call.0 (length r.replies) e (number ∙ sym n ∙ ap (λ (z : Played). length z.replies) (sym q)))
  hears_not place j call reply r Computing v its number here at = λ s a now is n. other place j r Computing v its here at s a now is (λ act e. cc e)
    where
      other : (place j : ℕ) (r : Played) (stage : Stage) (v : NodeWork) → j ≡ i → v.node.played j ≡ Some r → r.stage ≡ stage → (s : Played) (a : Action) → v.node.played i ≡ Some s → s.stage ≡ Asking a → ((act : Action) → stage ≡ Asking act → ⊥) → ⊥
      other place j r stage v its here at s a now is never = let p : Some r ≡ Some s = sym here ∙ ap v.node.played its ∙ now in let q : r ≡ s = cc in never a (sym at ∙ ap (λ (z : Played). z.stage) q ∙ is)
  hears_not place j call reply r (Acting act) v its number here at = λ s a now is n. let p : Some r ≡ Some s = sym here ∙ ap v.node.played its ∙ now in let q : r ≡ s = cc in let e : Acting act ≡ Asking a = sym at ∙ ap (λ (z : Played). z.stage) q ∙ is in cc e
  hears_not place j call reply r (Submitted act) v its number here at = λ s a now is n. let p : Some r ≡ Some s = sym here ∙ ap v.node.played its ∙ now in let q : r ≡ s = cc in let e : Submitted act ≡ Asking a = sym at ∙ ap (λ (z : Played). z.stage) q ∙ is in cc e
  hears_not place j call reply r (Reading act) v its number here at = λ s a now is n. let p : Some r ≡ Some s = sym here ∙ ap v.node.played its ∙ now in let q : r ≡ s = cc in let e : Reading act ≡ Asking a = sym at ∙ ap (λ (z : Played). z.stage) q ∙ is in cc e
  hears_not place j call reply r (Over act) v its number here at = λ s a now is n. let p : Some r ≡ Some s = sym here ∙ ap v.node.played its ∙ now in let q : r ≡ s = cc in let e : Over act ≡ Asking a = sym at ∙ ap (λ (z : Played). z.stage) q ∙ is in cc e

  heard_not : (place j : ℕ) (call : CallNo) (reply : Reply) (o : Option Played) (v : NodeWork) → j ≡ i → call.0 ≡ c → v.node.played j ≡ o → NotAsking i c (hears_of place j call reply o v).node.played
  heard_not place j call reply None v its number here = λ s a now is n. let p : None ≡ Some s = sym here ∙ ap v.node.played its ∙ now in cc p
  heard_not place j call reply (Some r) v its number here = hears_not place j call reply r r.stage v its number here refl

  takes_heard : (e : Errand) (v : NodeWork) → AnswerFor i c e → NotAsking i c (takes f m e v).node.played
  takes_heard (Ask place x) v is = absurd is
  takes_heard (Answer place j call reply) v is = heard_not place j.0 call reply (v.node.played j.0) v is.0 is.1 refl

  -- what is bounded stays so
  bounded_call : (x : Message) (v : NodeWork) → (x.process.0 ≡ i → x.call.0 ≤ c) → Bounded i c v → Bounded i c (takes_call f m x v)
  bounded_call x v low b = cond_both (waits_here x v.node.copies.waits) v (performs_call f m x v) (Bounded i c) (λ e. b) (λ e. call_bounded x v low b)

  bounded_asked : (x : Message) (o : Option Given) (v : NodeWork) → (x.process.0 ≡ i → x.call.0 ≤ c) → Bounded i c v → Bounded i c (takes_asked f m x o v)
  bounded_asked x None v low b = bounded_call x v low b
  bounded_asked x (Some given) v low b = cond_both (nat_lt given.call.0 x.call.0) (takes_call f m x v) _ (Bounded i c) (λ e. bounded_call x v low b)
      (λ e. cond_both (given.call.0 == x.call.0) (sends_given m (home_in (known f v.node) x.process.0) x.process given v) v (Bounded i c) (λ d. record { given = b.given; waits = b.waits }) (λ d. b))

  hears_given : (place j : ℕ) (call : CallNo) (reply : Reply) (r : Played) (stage : Stage) (v : NodeWork) → Bounded i c v → Bounded i c (hears_as place j call reply r stage v)
  hears_given place j call reply r (Asking act) v b = cond_both (call.0 == length r.replies) (plays j (receives place reply r) v) v (Bounded i c) (λ e. record { given = b.given; waits = b.waits }) (λ e. b)
  hears_given place j call reply r Computing v b = b
  hears_given place j call reply r (Acting act) v b = b
  hears_given place j call reply r (Submitted act) v b = b
  hears_given place j call reply r (Reading act) v b = b
  hears_given place j call reply r (Over act) v b = b

  heard_given : (place j : ℕ) (call : CallNo) (reply : Reply) (o : Option Played) (v : NodeWork) → Bounded i c v → Bounded i c (hears_of place j call reply o v)
  heard_given place j call reply None v b = b
  heard_given place j call reply (Some r) v b = hears_given place j call reply r r.stage v b

  takes_bounded : (e : Errand) (v : NodeWork) → AskUpTo i c e → Bounded i c v → Bounded i c (takes f m e v)
  takes_bounded (Ask place x) v low b = bounded_asked x (v.node.given x.process.0) v low b
  takes_bounded (Answer place j call reply) v low b = heard_given place j.0 call reply (v.node.played j.0) v b

  -- ---- what is held

  asked_held : (x : Message) (o : Option Given) (v : NodeWork) → (takes_asked f m x o v).node.held ≡ v.node.held
  asked_held x None v = cond_both (waits_here x v.node.copies.waits) v (performs_call f m x v) (λ (u : NodeWork). u.node.held ≡ v.node.held) (λ e. refl) (λ e. call_held x v)
  asked_held x (Some given) v = cond_both (nat_lt given.call.0 x.call.0) (takes_call f m x v) _ (λ (u : NodeWork). u.node.held ≡ v.node.held)
      (λ e. cond_both (waits_here x v.node.copies.waits) v (performs_call f m x v) (λ (u : NodeWork). u.node.held ≡ v.node.held) (λ d. refl) (λ d. call_held x v))
      (λ e. cond_both (given.call.0 == x.call.0) (sends_given m (home_in (known f v.node) x.process.0) x.process given v) v (λ (u : NodeWork). u.node.held ≡ v.node.held) (λ d. refl) (λ d. refl))

  hears_held : (place j : ℕ) (call : CallNo) (reply : Reply) (r : Played) (stage : Stage) (v : NodeWork) → (hears_as place j call reply r stage v).node.held ≡ v.node.held
  hears_held place j call reply r (Asking act) v = cond_both (call.0 == length r.replies) (plays j (receives place reply r) v) v (λ (u : NodeWork). u.node.held ≡ v.node.held) (λ e. refl) (λ e. refl)
  hears_held place j call reply r Computing v = refl
  hears_held place j call reply r (Acting act) v = refl
  hears_held place j call reply r (Submitted act) v = refl
  hears_held place j call reply r (Reading act) v = refl
  hears_held place j call reply r (Over act) v = refl

  heard_held : (place j : ℕ) (call : CallNo) (reply : Reply) (o : Option Played) (v : NodeWork) → (hears_of place j call reply o v).node.held ≡ v.node.held
  heard_held place j call reply None v = refl
  heard_held place j call reply (Some r) v = hears_held place j call reply r r.stage v

  pub takes_held : (e : Errand) (v : NodeWork) → (takes f m e v).node.held ≡ v.node.held
  takes_held (Ask place x) v = asked_held x (v.node.given x.process.0) v
  takes_held (Answer place j call reply) v = heard_held place j.0 call reply (v.node.played j.0) v

  -- ---- all at hand

  next : Errand → NodeWork → NodeWork
  next e v = if nat_le (place_of e) v.node.copies.applied then takes f m e v else holds e v

  pub each_mails : (Q : Mail → Type 0) (es : List Errand) (v : NodeWork) → Has Q (mails_of v.deeds) → Has Q (mails_of (takes_each f m es v).deeds)
  each_mails Q [] v has = has
  each_mails Q (e ∷ es) v has = each_mails Q es (if nat_le (place_of e) v.node.copies.applied then takes f m e v else holds e v)
      (cond_both (nat_le (place_of e) v.node.copies.applied) (takes f m e v) (holds e v) (λ (u : NodeWork). Has Q (mails_of u.deeds)) (λ d. takes_mails Q e v has) (λ d. has))

  pub each_late : (es : List Errand) (v : NodeWork) → AllLate v.node.held v.node.copies.applied → AllLate (takes_each f m es v).node.held (takes_each f m es v).node.copies.applied
  each_late [] v late = late
  each_late (e ∷ es) v late = each_late es (if nat_le (place_of e) v.node.copies.applied then takes f m e v else holds e v)
      (cond_both (nat_le (place_of e) v.node.copies.applied) (takes f m e v) (holds e v) (λ (u : NodeWork). AllLate u.node.held u.node.copies.applied)
      (λ d. subst (λ n. AllLate (takes f m e v).node.held n) (sym (still_takes f (group f) m m e v).applied) (subst (λ es. AllLate es v.node.copies.applied) (sym (takes_held e v)) late))
      (λ d. late_push v.node.held e v.node.copies.applied late (let g = leb-false (place_of e) v.node.copies.applied d in omega (arith, g))))

  pub each_served : (es : List Errand) (v : NodeWork) → Served v → Served (takes_each f m es v)
  each_served es v served = served_on v (takes_each f m es v) (each_mails (MailTo h (AnswerFor i c)) es v) (on_each f m es v) served

  pub each_taken : (es : List Errand) (v : NodeWork) → Knows v → Taken v → Taken (takes_each f m es v)
  each_taken [] v knows t = t
  each_taken (e ∷ es) v knows (inr served) = inr (each_served (e ∷ es) v served)
  each_taken (e ∷ es) v knows (inl has) =
      let both : Taken u × Knows u = cond_both (nat_le (place_of e) v.node.copies.applied) (takes f m e v) (holds e v) (λ (z : NodeWork). Taken z × Knows z)
      (λ d. (takes_old e v knows has, knows_on v (takes f m e v) (still_takes f (group f) m m e v) knows)) (λ d. (inl has, knows)) in
      each_taken es u both.1 both.0
    where
      u : NodeWork
      u = if nat_le (place_of e) v.node.copies.applied then takes f m e v else holds e v

  -- its Ask, at hand or held
  pub each_asked : (es : List Errand) (v : NodeWork) → (m ≡ h → ⊥) → Knows v → Bounded i c v → AllUpTo i c es → Has (AskFor i c) es ⊎ Has (AskFor i c) v.node.held →
      Has (AskFor i c) (takes_each f m es v).node.held ⊎ Taken (takes_each f m es v)
  each_asked [] v other knows b low (inl has) = absurd has
  each_asked [] v other knows b low (inr has) = inl has
  each_asked (e ∷ es) v other knows b low has =
      ⊎_elim (λ (q : Has (AskFor i c) es ⊎ Has (AskFor i c) u.node.held). each_asked es u other all.1 all.2 low.1 q) (λ (t : Taken u). inr (each_taken es u all.1 t)) all.0
    where
      u : NodeWork
      u = if nat_le (place_of e) v.node.copies.applied then takes f m e v else holds e v

      taken_one : Has (AskFor i c) (e ∷ es) ⊎ Has (AskFor i c) v.node.held → (Has (AskFor i c) es ⊎ Has (AskFor i c) (takes f m e v).node.held) ⊎ Taken (takes f m e v)
      taken_one (inl (inl is)) = inr (takes_now e v other knows b is)
      taken_one (inl (inr more)) = inl (inl more)
      taken_one (inr held) = inl (inr (subst (Has (AskFor i c)) (sym (takes_held e v)) held))

      held_one : Has (AskFor i c) (e ∷ es) ⊎ Has (AskFor i c) v.node.held → (Has (AskFor i c) es ⊎ Has (AskFor i c) (holds e v).node.held) ⊎ Taken (holds e v)
      held_one (inl (inl is)) = inl (inr (has_right (AskFor i c) v.node.held (e ∷ []) (inl is)))
      held_one (inl (inr more)) = inl (inl more)
      held_one (inr held) = inl (inr (has_left (AskFor i c) v.node.held (e ∷ []) held))

      all : ((Has (AskFor i c) es ⊎ Has (AskFor i c) u.node.held) ⊎ Taken u) × Knows u × Bounded i c u
      all = cond_both (nat_le (place_of e) v.node.copies.applied) (takes f m e v) (holds e v) (λ (z : NodeWork). ((Has (AskFor i c) es ⊎ Has (AskFor i c) z.node.held) ⊎ Taken z) × Knows z × Bounded i c z)
          (λ d. (taken_one has, knows_on v (takes f m e v) (still_takes f (group f) m m e v) knows, takes_bounded e v low.0 b))
          (λ d. (held_one has, knows, record { given = b.given; waits = b.waits }))

  -- its Answer, at hand or held
  pub each_heard : (es : List Errand) (v : NodeWork) → m ≡ h → Has (AnswerFor i c) es ⊎ Has (AnswerFor i c) v.node.held →
      Has (AnswerFor i c) (takes_each f m es v).node.held ⊎ Served (takes_each f m es v)
  each_heard [] v here (inl has) = absurd has
  each_heard [] v here (inr has) = inl has
  each_heard (e ∷ es) v here has =
      ⊎_elim (λ (q : Has (AnswerFor i c) es ⊎ Has (AnswerFor i c) u.node.held). each_heard es u here q) (λ (t : Served u). inr (each_served es u t)) all
    where
      u : NodeWork
      u = if nat_le (place_of e) v.node.copies.applied then takes f m e v else holds e v

      taken_one : Has (AnswerFor i c) (e ∷ es) ⊎ Has (AnswerFor i c) v.node.held → (Has (AnswerFor i c) es ⊎ Has (AnswerFor i c) (takes f m e v).node.held) ⊎ Served (takes f m e v)
      taken_one (inl (inl is)) = inr (inr (here, takes_heard e v is))
      taken_one (inl (inr more)) = inl (inl more)
      taken_one (inr held) = inl (inr (subst (Has (AnswerFor i c)) (sym (takes_held e v)) held))

      held_one : Has (AnswerFor i c) (e ∷ es) ⊎ Has (AnswerFor i c) v.node.held → (Has (AnswerFor i c) es ⊎ Has (AnswerFor i c) (holds e v).node.held) ⊎ Served (holds e v)
      held_one (inl (inl is)) = inl (inr (has_right (AnswerFor i c) v.node.held (e ∷ []) (inl is)))
      held_one (inl (inr more)) = inl (inl more)
      held_one (inr held) = inl (inr (has_left (AnswerFor i c) v.node.held (e ∷ []) held))

      all : (Has (AnswerFor i c) es ⊎ Has (AnswerFor i c) u.node.held) ⊎ Served u
      all = cond_both (nat_le (place_of e) v.node.copies.applied) (takes f m e v) (holds e v) (λ (z : NodeWork). (Has (AnswerFor i c) es ⊎ Has (AnswerFor i c) z.node.held) ⊎ Served z)
          (λ d. taken_one has) (λ d. held_one has)
