-- Asks and Answers that are taken.
use Rattle.std.proofs.Common.{◌≡◌, ◌<◌, ◌∷◌, ◌==◌, ◌||◌, ℕ, suc, zero, Bool, true, false, List, [], length, Option, Some, None, refl, sym, ap, ◌∙◌, subst, arith, if◌then◌else◌}
use Rattle.std.proofs.lemmas.Bool.{and_parts, eq-eqb, eqb-true, eqb-false, le-ltb, lt-ltb, ne_eqb}
use Rattle.orca_base.specs.declared.ids.CallNo.{CallNo}
use Rattle.orca_base.specs.declared.ids.ProcessNo.{ProcessNo}
use Rattle.value_core.specs.Lawful.{FitsAction}
use Rattle.value_core.specs.declared.action.Action.{Action}
use Rattle.value_core.specs.declared.action.Reply.{Reply}
use Rattle.value_core.specs.declared.meaning.Doing.TheVariants as doing
use Rattle.value_core.specs.declared.message.Message.{Message}
use Rattle.guard_queue.specs.Waits.{IsWaiting}
use Rattle.guard_queue.specs.declared.queue.Suspended.{Suspended}
use Rattle.object_manager.specs.After.{Copied}
use Rattle.book_law.specs.Fitness.{ReplyFits}
use Rattle.world_rules.specs.Frame.{Frame}
use Rattle.world_rules.specs.Mail.{Errand as mail}
use Rattle.world_rules.specs.Nodes as nodes
use Rattle.world_rules.specs.Nodes.{NodeWork, changes, if_played, plays}
use Rattle.world_rules.specs.Owners.{hears_as, hears_of, is_this_call, performs_call, takes, takes_answer, takes_ask, takes_asked, takes_call, waits_here}
use Rattle.world_rules.specs.Played.{Played, Stage as RulesStage, receives}
use Rattle.node_rules.specs.Conditions.{AreSmall, Fitness, is_later}
use Rattle.node_rules.specs.Handing.{MayHear, MayReceive, waits_with}
use Rattle.node_core.specs.Calls.{MayPerformCall, MayTakeNew, MayTakeNext, asks_as, asks_call, call_given, given_at, gives_kept}
use Rattle.node_core.specs.Pieces.{Becomes, BecomesIn, MayBeHanded, resident_at}
use Rattle.node_parts.specs.Shown.{IsPlayedIf, Left, Stood, on_errand, on_given, on_stage}
use Rattle.node_core.specs.Stands.{IsWork}
use Rattle.node_parts.specs.declared.errand.Errand.{Errand}
use Rattle.node_parts.specs.declared.errand.Errand.TheVariants as errands
use Rattle.node_parts.specs.declared.errand.Given.{Given}
use Rattle.node_parts.specs.declared.resident.Resident.{Resident}
use Rattle.node_parts.specs.declared.resident.Stage.{Stage}
use Rattle.node_parts.specs.declared.resident.Stage.TheVariants as at_stage
use Rattle.node_core.specs.declared.work.Work.{Work}

-- ---- which call was answered last

abbrev given_call : Option nodes.Given → Option CallNo
given_call None = None
given_call (Some given) = Some given.call

same_given : (o : Option Given) → given_call (on_given o) ≡ call_given o
same_given None = refl
same_given (Some given) = refl

some_number : (a b : CallNo) → Some a ≡ Some b → a.0 ≡ b.0
some_number a b is = let e : a ≡ b = cc is in ap (λ (n : CallNo). n.0) e

unanswered : (f : Frame) (m : ℕ) (x : Message) (o : Option nodes.Given) (v : NodeWork) → given_call o ≡ None → takes_asked f m x o v ≡ takes_call f m x v
unanswered f m x None v is = refl
unanswered f m x (Some given) v is = absurd (cc is)

answered_before : (f : Frame) (m : ℕ) (x : Message) (o : Option nodes.Given) (v : NodeWork) (n : CallNo) → given_call o ≡ Some n → n.0 < x.call.0 → takes_asked f m x o v ≡ takes_call f m x v
answered_before f m x None v n is lt = absurd (cc is)
answered_before f m x (Some given) v n is lt =
    let e = some_number given.call n is in
    ap (λ (b : Bool). if b then takes_call f m x v else (if given.call.0 == x.call.0 then gives_kept f m x.process (Some given) v else v))
    (lt-ltb given.call.0 x.call.0 (omega (arith, e, lt)))

answered_now : (f : Frame) (m : ℕ) (x : Message) (o : Option nodes.Given) (v : NodeWork) (n : CallNo) → given_call o ≡ Some n → n.0 ≡ x.call.0
    → takes_asked f m x o v ≡ gives_kept f m x.process o v
answered_now f m x None v n is same = absurd (cc is)
answered_now f m x (Some given) v n is same =
    let e = some_number given.call n is in
    ap (λ (b : Bool). if b then takes_call f m x v else (if given.call.0 == x.call.0 then gives_kept f m x.process (Some given) v else v))
    (le-ltb given.call.0 x.call.0 (omega (arith, e, same)))
    ∙ ap (λ (b : Bool). if b then gives_kept f m x.process (Some given) v else v) (eq-eqb given.call.0 x.call.0 (omega (arith, e, same)))

answered_later : (f : Frame) (m : ℕ) (x : Message) (o : Option nodes.Given) (v : NodeWork) (n : CallNo) → given_call o ≡ Some n → x.call.0 < n.0 → takes_asked f m x o v ≡ v
answered_later f m x None v n is lt = absurd (cc is)
answered_later f m x (Some given) v n is lt =
    let e = some_number given.call n is in
    ap (λ (b : Bool). if b then takes_call f m x v else (if given.call.0 == x.call.0 then gives_kept f m x.process (Some given) v else v))
    (le-ltb given.call.0 x.call.0 (omega (arith, e, lt)))
    ∙ ap (λ (b : Bool). if b then gives_kept f m x.process (Some given) v else v) (ne_eqb given.call.0 x.call.0 (λ same. absurd (omega (arith, e, lt, same))))

later_none : (x : Message) (o : Option nodes.Given) → given_call o ≡ None → is_later x o ≡ true
later_none x None is = refl
later_none x (Some given) is = absurd (cc is)

later_some : (x : Message) (o : Option nodes.Given) (n : CallNo) → given_call o ≡ Some n → n.0 < x.call.0 → is_later x o ≡ true
later_some x None n is lt = absurd (cc is)
later_some x (Some given) n is lt =
    let e = some_number given.call n is in
    lt-ltb given.call.0 x.call.0 (omega (arith, e, lt))

-- ---- an Ask

-- the member's kept Answer is the world's
kept_there : {P S : Type 0} (stood : Stood S) (left : Left S) (f : Frame) (m i : ℕ) (s : Work P S) (v : NodeWork) (o : Option CallNo) → o ≡ call_given (given_at s.node i)
    → IsWork stood left f m s v → given_call (v.node.given i) ≡ o
kept_there stood left f m i s v o is h = ap given_call (sym (h.node.given i)) ∙ same_given (given_at s.node i) ∙ sym is

pub new_none : {P S : Type 0} (stood : Stood S) (left : Left S) (f : Frame) (fitness : Fitness) (x : Message) (s : Work P S) → None ≡ call_given (given_at s.node x.process.0)
    → MayTakeNext stood left f fitness (mail.Ask 0 x) s → MayTakeNew stood left f fitness x s
new_none stood left f fitness x s is (m, v, work, ready, may) = (m, v, work, ready, may (later_none x (v.node.given x.process.0) (kept_there stood left f m x.process.0 s v None is work)))

pub new_some : {P S : Type 0} (stood : Stood S) (left : Left S) (f : Frame) (fitness : Fitness) (x : Message) (s : Work P S) (n : CallNo) → Some n ≡ call_given (given_at s.node x.process.0)
    → n.0 < x.call.0 → MayTakeNext stood left f fitness (mail.Ask 0 x) s → MayTakeNew stood left f fitness x s
new_some stood left f fitness x s n is lt (m, v, work, ready, may) =
    (m, v, work, ready, may (later_some x (v.node.given x.process.0) n (kept_there stood left f m x.process.0 s v (Some n) is work) lt))

pub asked_none : {P S : Type 0} (stood : Stood S) (left : Left S) (f : Frame) (x : Message) (old new : Work P S) → None ≡ call_given (given_at old.node x.process.0)
    → BecomesIn stood left f old new (λ m. takes_call f m x) → BecomesIn stood left f old new (λ m. takes_ask f m x)
asked_none stood left f x old new is becomes m v work =
    subst (λ (w : NodeWork). IsWork stood left f m new w) (sym (unanswered f m x (v.node.given x.process.0) v (kept_there stood left f m x.process.0 old v None is work))) (becomes m v work)

pub asked_before : {P S : Type 0} (stood : Stood S) (left : Left S) (f : Frame) (x : Message) (old new : Work P S) (n : CallNo) → Some n ≡ call_given (given_at old.node x.process.0) → n.0 < x.call.0
    → BecomesIn stood left f old new (λ m. takes_call f m x) → BecomesIn stood left f old new (λ m. takes_ask f m x)
asked_before stood left f x old new n is lt becomes m v work =
    subst (λ (w : NodeWork). IsWork stood left f m new w) (sym (answered_before f m x (v.node.given x.process.0) v n (kept_there stood left f m x.process.0 old v (Some n) is work) lt)) (becomes m v work)

pub asked_again : {P S : Type 0} (stood : Stood S) (left : Left S) (f : Frame) (x : Message) (old new : Work P S) (n : CallNo) → Some n ≡ call_given (given_at old.node x.process.0) → n.0 ≡ x.call.0
    → Becomes stood left old new (λ g m v. gives_kept g m x.process (v.node.given x.process.0) v) → BecomesIn stood left f old new (λ m. takes_ask f m x)
asked_again stood left f x old new n is same becomes m v work =
    subst (λ (w : NodeWork). IsWork stood left f m new w) (sym (answered_now f m x (v.node.given x.process.0) v n (kept_there stood left f m x.process.0 old v (Some n) is work) same)) (becomes f m v work)

pub asked_late : {P S : Type 0} (stood : Stood S) (left : Left S) (f : Frame) (x : Message) (s : Work P S) (n : CallNo) → Some n ≡ call_given (given_at s.node x.process.0) → x.call.0 < n.0
    → BecomesIn stood left f s s (λ m. takes_ask f m x)
asked_late stood left f x s n is lt m v work =
    subst (λ (w : NodeWork). IsWork stood left f m s w) (sym (answered_later f m x (v.node.given x.process.0) v n (kept_there stood left f m x.process.0 s v (Some n) is work) lt)) work

-- ---- a call that waits here

or_here : (a b : Bool) → (a || b) ≡ true → a ≡ false → b ≡ true
or_here true b is apart = absurd (cc apart)
or_here false b is apart = is

-- the first call is this one, or one behind it
waits_first_or : (x : Message) (c : Suspended) (cs : List Suspended) → waits_here x (c ∷ cs) ≡ true → (waits_here x cs ≡ true → IsWaiting cs x.process) → IsWaiting (c ∷ cs) x.process
waits_first_or x c cs is later = go (is_this_call x c) refl
  where
    go : (b : Bool) → is_this_call x c ≡ b → IsWaiting (c ∷ cs) x.process
    go true e =
        let same = eqb-true x.process.0 c.process.0 (and_parts (x.process.0 == c.process.0) (x.call.0 == c.call.0) e).0 in
        (zero, c, omega arith, refl, ap (λ (n : ℕ). record { 0 = n }) (sym same))
    go false e =
        let h = later (or_here (is_this_call x c) (waits_here x cs) is e) in
        let lt = h.2 in
        (suc h.0, h.1, omega (arith, lt), h.3, h.4)

here_waits : (x : Message) (calls : List Suspended) → waits_here x calls ≡ true → IsWaiting calls x.process
here_waits x [] is = absurd (cc is)
here_waits x (c ∷ cs) is = waits_first_or x c cs is (here_waits x cs)

not_here : (x : Message) (calls : List Suspended) → (IsWaiting calls x.process → ⊥) → waits_here x calls ≡ false
not_here x calls apart = go (waits_here x calls) refl
  where
    go : (b : Bool) → waits_here x calls ≡ b → waits_here x calls ≡ false
    go true e = absurd (apart (here_waits x calls e))
    go false e = e

pub waits_on : {P S : Type 0} (stood : Stood S) (left : Left S) (f : Frame) (fitness : Fitness) (x : Message) (s : Work P S) → IsWaiting s.node.copies.waits x.process
    → MayTakeNew stood left f fitness x s → BecomesIn stood left f s s (λ m. takes_call f m x)
waits_on stood left f fitness x s waits (k, w, there, ready, may) m v work =
    subst (λ (u : NodeWork). IsWork stood left f m s u) (ap (λ (b : Bool). if b then v else performs_call f m x v) (sym is)) work
  where
    one : waits_here x s.node.copies.waits ≡ true
    one = ap (λ (c : Copied). waits_here x c.waits) there.node.copies ∙ may.one (subst (λ (c : Copied). IsWaiting c.waits x.process) there.node.copies waits)

    is : waits_here x v.node.copies.waits ≡ true
    is = ap (λ (c : Copied). waits_here x c.waits) (sym work.node.copies) ∙ one

pub may_perform : {P S : Type 0} (stood : Stood S) (left : Left S) (f : Frame) (fitness : Fitness) (x : Message) (s : Work P S) → (IsWaiting s.node.copies.waits x.process → ⊥)
    → MayTakeNew stood left f fitness x s → MayPerformCall stood left f fitness x s
may_perform stood left f fitness x s apart (m, v, work, ready, may) = (
  m,
  v,
  work,
  record {
    fits = ready.fits;
    blocked = ready.blocked;
    small = ready.small;
    may = may.call (ap (λ (c : Copied). waits_here x c.waits) (sym work.node.copies) ∙ not_here x s.node.copies.waits apart);
  },
)

pub call_performed : {P S : Type 0} (stood : Stood S) (left : Left S) (f : Frame) (x : Message) (old new : Work P S) → (IsWaiting old.node.copies.waits x.process → ⊥)
    → BecomesIn stood left f old new (λ m. performs_call f m x) → BecomesIn stood left f old new (λ m. takes_call f m x)
call_performed stood left f x old new apart becomes m v work =
    subst (λ (u : NodeWork). IsWork stood left f m new u)
    (ap (λ (b : Bool). if b then v else performs_call f m x v) (sym (ap (λ (c : Copied). waits_here x c.waits) (sym work.node.copies) ∙ not_here x old.node.copies.waits apart)))
    (becomes m v work)

-- ---- an Answer

other_call : (calls n k : ℕ) → calls ≡ n → (calls == k) ≡ false → (k == n) ≡ false
other_call calls n k is apart = ne_eqb k n (λ same. eqb-false calls k apart (is ∙ sym same))

this_call : (calls n k : ℕ) → calls ≡ n → (calls == k) ≡ true → k ≡ n
this_call calls n k is same = sym (eqb-true calls k same) ∙ is

hears_else : (place i calls : ℕ) (call : CallNo) (reply : Reply) (r : Played) (at : Stage) (v : NodeWork) → calls ≡ length r.replies → asks_as at calls call ≡ false
    → hears_as place i call reply r (on_stage at) v ≡ v
hears_else place i calls call reply r (at_stage.Asking act) v many is =
    ap (λ (b : Bool). if b then plays i (receives place reply r) v else v) (other_call calls (length r.replies) call.0 many is)
hears_else place i calls call reply r at_stage.Computing v many is = refl
hears_else place i calls call reply r (at_stage.Acting act) v many is = refl
hears_else place i calls call reply r (at_stage.Submitted act) v many is = refl
hears_else place i calls call reply r (at_stage.Reading act) v many is = refl
hears_else place i calls call reply r (at_stage.Over act) v many is = refl

-- where its process asks another call, or none, nothing changes
hears_none : {S : Type 0} (stood : Stood S) (left : Left S) (place i : ℕ) (call : CallNo) (reply : Reply) (o : Option (Resident S)) (p : Option Played) (v : NodeWork)
    → IsPlayedIf stood left i o p → asks_call o call ≡ false → hears_of place i call reply p v ≡ v
hears_none stood left place i call reply None None v is none = refl
hears_none stood left place i call reply None (Some r) v is none = absurd is
hears_none stood left place i call reply (Some s) None v is none = absurd is
hears_none stood left place i call reply (Some s) (Some r) v is none =
    ap (λ (at : RulesStage). hears_as place i call reply r at v) (sym is.stage) ∙ hears_else place i s.calls call reply r s.stage v is.calls none

hears_this : (place i calls : ℕ) (call : CallNo) (reply : Reply) (r : Played) (at : Stage) (v : NodeWork) → calls ≡ length r.replies → asks_as at calls call ≡ true
    → hears_as place i call reply r (on_stage at) v ≡ plays i (receives place reply r) v
hears_this place i calls call reply r (at_stage.Asking act) v many is =
    ap (λ (b : Bool). if b then plays i (receives place reply r) v else v) (eq-eqb call.0 (length r.replies) (this_call calls (length r.replies) call.0 many is))
hears_this place i calls call reply r at_stage.Computing v many is = absurd (cc is)
hears_this place i calls call reply r (at_stage.Acting act) v many is = absurd (cc is)
hears_this place i calls call reply r (at_stage.Submitted act) v many is = absurd (cc is)
hears_this place i calls call reply r (at_stage.Reading act) v many is = absurd (cc is)
hears_this place i calls call reply r (at_stage.Over act) v many is = absurd (cc is)

-- where it asks this one, it receives the reply
hears_some : {S : Type 0} (stood : Stood S) (left : Left S) (place i : ℕ) (call : CallNo) (reply : Reply) (o : Option (Resident S)) (p : Option Played) (v : NodeWork)
    → IsPlayedIf stood left i o p → asks_call o call ≡ true → hears_of place i call reply p v ≡ if_played (receives place reply) i p v
hears_some stood left place i call reply None p v is asks = absurd (cc asks)
hears_some stood left place i call reply (Some s) None v is asks = absurd is
hears_some stood left place i call reply (Some s) (Some r) v is asks =
    ap (λ (at : RulesStage). hears_as place i call reply r at v) (sym is.stage) ∙ hears_this place i s.calls call reply r s.stage v is.calls asks

-- and it may be handed that
gets_this : (fits_reply : ReplyFits) (calls : ℕ) (call : CallNo) (reply : Reply) (r : Played) (at : Stage) → on_stage at ≡ r.stage → calls ≡ length r.replies → asks_as at calls call ≡ true
    → ((act : Action) → r.stage ≡ RulesStage.Asking act → call.0 ≡ length r.replies → FitsAction fits_reply (doing.At act) reply) → (act : Action) × MayReceive fits_reply r act reply
gets_this fits_reply calls call reply r (at_stage.Asking act) here many is may =
    (act, record { waits = ap waits_with (sym here); fits = may act (sym here) (this_call calls (length r.replies) call.0 many is) })
gets_this fits_reply calls call reply r at_stage.Computing here many is may = absurd (cc is)
gets_this fits_reply calls call reply r (at_stage.Acting act) here many is may = absurd (cc is)
gets_this fits_reply calls call reply r (at_stage.Submitted act) here many is may = absurd (cc is)
gets_this fits_reply calls call reply r (at_stage.Reading act) here many is may = absurd (cc is)
gets_this fits_reply calls call reply r (at_stage.Over act) here many is may = absurd (cc is)

gets : {S : Type 0} (stood : Stood S) (left : Left S) (fits_reply : ReplyFits) (i : ProcessNo) (call : CallNo) (reply : Reply) (node : nodes.Node) (o : Option (Resident S)) (p : Option Played)
    → node.played i.0 ≡ p → IsPlayedIf stood left i.0 o p → AreSmall node → MayHear fits_reply node i call reply → asks_call o call ≡ true → MayBeHanded stood left fits_reply i.0 reply o
gets stood left fits_reply i call reply node None p there is small may asks = absurd (cc asks)
gets stood left fits_reply i call reply node (Some s) None there is small may asks = absurd is
gets stood left fits_reply i call reply node (Some s) (Some r) there is small may asks =
    let can = gets_this fits_reply s.calls call reply r s.stage is.stage is.calls asks (λ act stage number. may r act there stage number) in
    record { number = i.0; played = r; act = can.0; is = is; may = can.1; small = small.calls i.0 r there }

pub may_hear : {P S : Type 0} (stood : Stood S) (left : Left S) (f : Frame) (fitness : Fitness) (i : ProcessNo) (call : CallNo) (reply : Reply) (s : Work P S)
    → asks_call (resident_at s.node i.0) call ≡ true → MayTakeNext stood left f fitness (mail.Answer 0 i call reply) s → MayBeHanded stood left fitness.reply i.0 reply (resident_at s.node i.0)
may_hear stood left f fitness i call reply s asks (m, v, work, ready, may) =
    gets stood left fitness.reply i call reply v.node (resident_at s.node i.0) (v.node.played i.0) refl (work.node.residents i.0) ready.small may asks

pub heard_none : {P S : Type 0} (stood : Stood S) (left : Left S) (f : Frame) (place : ℕ) (i : ProcessNo) (call : CallNo) (reply : Reply) (s : Work P S)
    → asks_call (resident_at s.node i.0) call ≡ false → BecomesIn stood left f s s (λ m. takes_answer place i call reply)
heard_none stood left f place i call reply s none m v work =
    subst (λ (w : NodeWork). IsWork stood left f m s w)
    (sym (hears_none stood left place i.0 call reply (resident_at s.node i.0) (v.node.played i.0) v (work.node.residents i.0) none)) work

pub heard_some : {P S : Type 0} (stood : Stood S) (left : Left S) (f : Frame) (place : ℕ) (i : ProcessNo) (call : CallNo) (reply : Reply) (old new : Work P S)
    → asks_call (resident_at old.node i.0) call ≡ true → Becomes stood left old new (λ g m. changes (receives place reply) i.0)
    → BecomesIn stood left f old new (λ m. takes_answer place i call reply)
heard_some stood left f place i call reply old new asks becomes m v work =
    subst (λ (w : NodeWork). IsWork stood left f m new w)
    (sym (hears_some stood left place i.0 call reply (resident_at old.node i.0) (v.node.played i.0) v (work.node.residents i.0) asks)) (becomes f m v work)

-- ---- either

pub take_ask_may : {P S : Type 0} (stood : Stood S) (left : Left S) (f : Frame) (fitness : Fitness) (errand : Errand) (place : ℕ) (x y : Message) (s : Work P S)
    → errand ≡ errands.Ask place x → y ≡ x → MayTakeNext stood left f fitness (on_errand errand) s → MayTakeNext stood left f fitness (mail.Ask 0 y) s
take_ask_may {P} {S} stood left f fitness errand place x y s is same may =
    subst (λ (z : Message). MayTakeNext stood left f fitness (mail.Ask 0 z) s) (sym same)
    (any_place (subst (λ (e : Errand). MayTakeNext stood left f fitness (on_errand e) s) is may))
  where
    any_place : MayTakeNext stood left f fitness (mail.Ask place x) s → MayTakeNext stood left f fitness (mail.Ask 0 x) s
    any_place (m, v, work, ready, asked) = (m, v, work, ready, asked)

pub ask_taken : {P S : Type 0} (stood : Stood S) (left : Left S) (f : Frame) (errand : Errand) (place : ℕ) (x y : Message) (old new : Work P S)
    → errand ≡ errands.Ask place x → y ≡ x → BecomesIn stood left f old new (λ m. takes_ask f m y) → BecomesIn stood left f old new (λ m. takes f m (on_errand errand))
ask_taken stood left f errand place x y old new is same becomes =
    subst (λ (e : Errand). BecomesIn stood left f old new (λ m. takes f m (on_errand e))) (sym is)
    (subst (λ (z : Message). BecomesIn stood left f old new (λ m. takes_ask f m z)) same becomes)

pub take_answer_may : {P S : Type 0} (stood : Stood S) (left : Left S) (f : Frame) (fitness : Fitness) (errand : Errand) (place : ℕ) (i : ProcessNo) (call : CallNo) (reply : Reply) (s : Work P S)
    → errand ≡ errands.Answer place i call reply → MayTakeNext stood left f fitness (on_errand errand) s → MayTakeNext stood left f fitness (mail.Answer 0 i call reply) s
take_answer_may {P} {S} stood left f fitness errand place i call reply s is may = any_place (subst (λ (e : Errand). MayTakeNext stood left f fitness (on_errand e) s) is may)
  where
    any_place : MayTakeNext stood left f fitness (mail.Answer place i call reply) s → MayTakeNext stood left f fitness (mail.Answer 0 i call reply) s
    any_place (m, v, work, ready, heard) = (m, v, work, ready, heard)

pub answer_taken : {P S : Type 0} (stood : Stood S) (left : Left S) (f : Frame) (errand : Errand) (place : ℕ) (i : ProcessNo) (call : CallNo) (reply : Reply) (old new : Work P S)
    → errand ≡ errands.Answer place i call reply → BecomesIn stood left f old new (λ m. takes_answer place i call reply)
    → BecomesIn stood left f old new (λ m. takes f m (on_errand errand))
answer_taken stood left f errand place i call reply old new is becomes =
    subst (λ (e : Errand). BecomesIn stood left f old new (λ m. takes f m (on_errand e))) (sym is) becomes
