-- A call that an owner took waits on its copy, or was performed: so an owner that knows what it performed knows what it took.
use Rattle.std.proofs.Common.{◌≡◌, ◌⊎◌, inl, inr, ⊎_elim, ℕ, zero, suc, true, false, Option, Some, None, List, [], ◌∷◌, ◌++◌, length, refl, sym, ap, ◌∙◌, subst}
use Rattle.std.specs.Prelude.{slice_get, slice_set, remove}
use Rattle.std.proofs.lemmas.Bool.{cases_eq}
use Rattle.orca_base.specs.declared.ids.ProcessNo.{ProcessNo}
use Rattle.orca_base.specs.declared.ids.CallNo.{CallNo}
use Rattle.value_core.specs.declared.action.Line.{Line}
use Rattle.value_core.specs.declared.message.Message.{Message}
use Rattle.value_core.specs.declared.action.Action.{Action}
use Rattle.value_core.specs.declared.action.Action.TheVariants as action
use Rattle.value_core.specs.declared.meaning.Tried.{Tried}
use Rattle.value_core.specs.declared.meaning.Tried.TheVariants as tried
use Rattle.value_core.specs.Meaning.{Performs, Computes}
use Rattle.value_core.specs.History.{Process, forked}
use Rattle.guard_queue.specs.declared.queue.Suspended.{Suspended}
use Rattle.guard_queue.specs.Settles.{Settling, answered, behind, next_ready, performed, settle_up_to, settled, settled_from, stepped, tried_in}
use Rattle.guard_queue.proofs.Behind.{settled_behind}
use Rattle.object_manager.specs.After.{Copied, called}
use Rattle.object_manager.specs.Singles.{after_single, side}
use Rattle.book_law.specs.Book.{Placed}
use Rattle.book_law.specs.Passes.{Test}
use Rattle.book_law.specs.Performed.{placed}
use Rattle.object_manager.specs.State.{message_of}
use Rattle.book_law.specs.Singles.{Single, after_on, alone, lines_on, singles_by}
use Rattle.book_law.specs.Promise.{EnteredStands, IsTaken}
use Rattle.book_law.specs.Course.{Came, Course, Next}
use Rattle.book_law.specs.Course.Next.{Submits, Orders, Forks, Applies, Reads_at, Takes_call, Hears_answer}
use Rattle.book_law.specs.Course.Came.{Opens, Then}
use Rattle.book_law.specs.Events.{Calls, In}
use Rattle.book_law.proofs.Lists.{in_end, in_left, in_push}
use Rattle.book_law.proofs.Objects.{in_first, in_second}
use Rattle.book_law.proofs.Processes.{get_left, set_other, set_same}
use Rattle.book_law.proofs.Courses.{EnteredFrom, came_sound}
use Rattle.orca_base.specs.declared.ids.ObjectId.{ObjectId}

-- a line of this call is among these
abbrev IsAmong : Suspended → List Line → Type 0
IsAmong call lines = (l : Line) × In l lines × (l.process ≡ call.process) × (l.call ≡ call.call) × (l.action ≡ action.Call call.kind call.op call.object call.args)

abbrev Rests : Suspended → Settling → Type 0
Rests call s = In call s.queue ⊎ IsAmong call s.lines

removed : (queue : List Suspended) (at : ℕ) (c call : Suspended) → slice_get queue at ≡ Some c → In call queue → In call (remove queue at) ⊎ (call ≡ c)
removed [] at c call is h = absurd h
removed (x ∷ queue) zero c call is (inl e) = let f : x ≡ c = cc in inr (e ∙ f)
removed (x ∷ queue) zero c call is (inr h) = inl h
removed (x ∷ queue) (suc at) c call is (inl e) = inl (inl e)
removed (x ∷ queue) (suc at) c call is (inr h) = ⊎_elim (λ u. inl (inr u)) (λ u. inr u) (removed queue at c call is h)

performed_rests : (p : Performs) (s : Settling) (at : ℕ) (o : Option Suspended) (call : Suspended) → slice_get s.queue at ≡ o → Rests call s → Rests call (performed p s at o)
performed_rests p s at None call is h = h
performed_rests p s at (Some c) call is (inl h) = ⊎_elim
    (λ u. inl u)
    (λ u. inr (answered c (tried_in p s.objects c), in_end (answered c (tried_in p s.objects c)) s.lines, ap (λ (z : Suspended). z.process) (sym u), ap (λ (z : Suspended). z.call) (sym u), ap (λ (z : Suspended). action.Call z.kind z.op z.object z.args) (sym u)))
    (removed s.queue at c call is h)
performed_rests p s at (Some c) call is (inr h) = inr (h.0, in_left h.0 (answered c (tried_in p s.objects c)) s.lines h.1, h.2, h.3, h.4)

stepped_rests : (p : Performs) (s : Settling) (o : Option ℕ) (call : Suspended) → Rests call s → Rests call (stepped p s o)
stepped_rests p s None call h = h
stepped_rests p s (Some at) call h = performed_rests p s at (slice_get s.queue at) call refl h

settled_rests : (p : Performs) (n : ℕ) (s : Settling) (call : Suspended) → Rests call s → Rests call (settle_up_to p n s)
settled_rests p zero s call h = h
settled_rests p (suc n) s call h = settled_rests p n (stepped p s (next_ready p s.objects s.queue)) call (stepped_rests p s (next_ready p s.objects s.queue) call h)

called_rests : (c : Copied) (call : Suspended) (t : Tried) → Rests call (called c call t)
called_rests c call tried.Blocked = inl (in_end call c.queue)
called_rests c call (tried.Did guard state reply) = inr (answered call (tried.Did guard state reply), inl refl, refl, refl, refl)
called_rests c call (tried.Broke guard fault) = inr (answered call (tried.Broke guard fault), inl refl, refl, refl, refl)

others_rest : (c : Copied) (call other : Suspended) (t : Tried) → In other c.queue → Rests other (called c call t)
others_rest c call other tried.Blocked h = inl (in_left other call c.queue h)
others_rest c call other (tried.Did guard state reply) h = inl h
others_rest c call other (tried.Broke guard fault) h = inl h

-- the call on the copy alone, before the queue settles and after
abbrev tried_first : Performs → Single → Suspended → Settling
tried_first p x call = called (side (alone x)) call (tried_in p (side (alone x)).objects call)

abbrev leaves : Performs → Single → Suspended → Settling
leaves p x call = record { objects = (after_single p (alone x) (message_of call)).own; queue = (after_single p (alone x) (message_of call)).waits; lines = lines_on p x call }

on_rests : (p : Performs) (x : Single) (call other : Suspended) → Rests other (tried_first p x call) → Rests other (leaves p x call)
on_rests p x call other h =
    let s = tried_first p x call in
    let whole : settled_from p s ≡ behind s.lines (settled p s.objects s.queue) = settled_behind p s.objects s.queue s.lines (settled_from p s) refl in
    subst (λ (t : Settling). Rests other t) whole (settled_rests p (length s.queue) s other h)

-- ---- every run

abbrev pub AllTaken : Test → Course → Type 0
AllTaken single w = (call : Suspended) → In (message_of call) w.entered → single call.object ≡ true → IsTaken w.owned w.aside call

pub placed_in : (n : ℕ) (l : Line) (lines : List Line) → In l lines → In (record { place = n; line = l }) (placed n lines)
placed_in n l [] h = h
placed_in n l (k ∷ lines) (inl e) = inl (ap (λ (x : Line). record { place = n; line = x }) e)
placed_in n l (k ∷ lines) (inr h) = inr (placed_in n l lines h)

-- the call of a message
abbrev call_by : ProcessNo → CallNo → Suspended → Action → Suspended
call_by process call none (action.Call kind op object args) = record { process = process; call = call; kind = kind; op = op; object = object; args = args }
call_by process call none (action.Make kind object) = none
call_by process call none (action.Fork text args place_on) = none
call_by process call none action.Ended = none
call_by process call none (action.Faulted fault) = none

same_call : (a b : Suspended) → message_of a ≡ message_of b → a ≡ b
same_call a b e = ap (λ (m : Message). call_by m.process m.call a m.action) e

no_born : (call : Suspended) (x : Message) (born : Process) → forked x.action ≡ born ∷ [] → message_of call ≡ x → ⊥
no_born call x born forks e = let f : [] ≡ born ∷ [] = ap (λ (m : Message). forked m.action) e ∙ forks in absurd (cc f)

more_owned : (owned new : List Single) (aside : List Placed) (call : Suspended) → IsTaken owned aside call → IsTaken (owned ++ new) aside call
more_owned owned new aside call (inl h) = inl (h.0, h.1, get_left owned new h.0 h.1 h.2, h.3, h.4)
more_owned owned new aside call (inr h) = inr h

more_reads : (owned : List Single) (aside more : List Placed) (call : Suspended) → IsTaken owned aside call → IsTaken owned (aside ++ more) call
more_reads owned aside more call (inl h) = inl h
more_reads owned aside more call (inr h) = inr (h.0, in_first h.0 aside more h.1, h.2, h.3, h.4)

-- what rests after a call on copy i was taken
taken_set : (p : Performs) (owned : List Single) (aside : List Placed) (n i : ℕ) (x : Single) (call other : Suspended) → slice_get owned i ≡ Some x → x.object ≡ other.object → Rests other (leaves p x call) → IsTaken (slice_set owned i (after_on p x call)) (aside ++ placed n (lines_on p x call)) other
taken_set p owned aside n i x call other is its (inl h) = inl (i, after_on p x call, set_same owned i x (after_on p x call) is, its, h)
taken_set p owned aside n i x call other is its (inr h) = inr (record { place = n; line = h.0 }, in_second (record { place = n; line = h.0 }) aside (placed n (lines_on p x call)) (placed_in n h.0 (lines_on p x call) h.1), h.2, h.3, h.4)

taken_others : (p : Performs) (owned : List Single) (aside : List Placed) (n i : ℕ) (x : Single) (call other : Suspended) → slice_get owned i ≡ Some x → IsTaken owned aside other → IsTaken (slice_set owned i (after_on p x call)) (aside ++ placed n (lines_on p x call)) other
taken_others p owned aside n i x call other is (inl h) = ⊎_elim
    (λ (e : i ≡ h.0).
    let f : Some x ≡ Some h.1 = sym is ∙ ap (slice_get owned) e ∙ h.2 in
    let g : h.1 ≡ x = cc in
    taken_set p owned aside n i x call other is (ap (λ (z : Single). z.object) (sym g) ∙ h.3) (on_rests p x call other (others_rest (side (alone x)) call other (tried_in p (side (alone x)).objects call) (subst (λ (z : Single). In other z.queue) g h.4))))
    (λ apart. inl (h.0, h.1, set_other owned i h.0 (after_on p x call) apart ∙ h.2, h.3, h.4))
    (cases_eq i h.0)
taken_others p owned aside n i x call other is (inr h) = inr (h.0, in_first h.0 aside (placed n (lines_on p x call)) h.1, h.2, h.3, h.4)

next_taken : (single : Test) (p : Performs) (q : Computes) (w v : Course) → Next single p q w v → AllTaken single w → AllTaken single v
next_taken single p q w v (Submits j x m here free asks e) all = subst (λ (u : Course). AllTaken single u) (sym e) all
next_taken single p q w v (Orders x r here was new may plain e) all = subst (λ (u : Course). AllTaken single u) (sym e) (λ call h is. ⊎_elim
    (λ u. more_owned w.owned (singles_by single p r.member (suc (length w.list)) x.action) w.aside call (all call u is))
    (λ u. let f : single call.object ≡ false = may.shared call.object (subst (λ (m : Message). Calls m.action call.object) u refl) in let g : true ≡ false = sym is ∙ f in absurd (cc g))
    (in_push (message_of call) x w.entered h))
next_taken single p q w v (Forks x born member was new forks e) all = subst (λ (u : Course). AllTaken single u) (sym e) (λ call h is. ⊎_elim (λ u. all call u is) (λ u. absurd (no_born call x born forks u)) (in_push (message_of call) x w.entered h))
next_taken single p q w v (Applies m y is e) all = subst (λ (u : Course). AllTaken single u) (sym e) all
next_taken single p q w v (Reads_at j x n line here h e) all = subst (λ (u : Course). AllTaken single u) (sym e) (λ call g is. more_reads w.owned w.aside (record { place = n; line = line } ∷ []) call (all call g is))
next_taken single p q w v (Takes_call i x r call t e) all = subst (λ (u : Course). AllTaken single u) (sym e) (λ other h is. ⊎_elim
    (λ u. taken_others p w.owned w.aside (w.applied x.owner) i x call other t.copy (all other u is))
    (λ u. taken_set p w.owned w.aside (w.applied x.owner) i x call other t.copy (sym (ap (λ (z : Suspended). z.object) (same_call other call u) ∙ t.object)) (on_rests p x call other (subst (λ (z : Suspended). Rests z (tried_first p x call)) (sym (same_call other call u)) (called_rests (side (alone x)) call (tried_in p (side (alone x)).objects call)))))
    (in_push (message_of other) (message_of call) w.entered h))
next_taken single p q w v (Hears_answer j x r here has le e) all = subst (λ (u : Course). AllTaken single u) (sym e) all

pub all_taken : (single : Test) (p : Performs) (q : Computes) (w : Course) → Came single p q w → AllTaken single w
all_taken single p q w (Opens member shared) = λ call h is. absurd h
all_taken single p q w (Then u v came next) = next_taken single p q u v next (all_taken single p q u came)

-- ---- what entered

pub entered_from : (single : Test) (p : Performs) (q : Computes) (w : Course) → Came single p q w → EnteredFrom single w
entered_from single p q w came = let s = came_sound single p q w came in s.from

-- so a message that calls no single object and isn't in the list hasn't entered
pub not_entered : (single : Test) (p : Performs) (q : Computes) (w : Course) (x : Message) → Came single p q w → ((o : ObjectId) → Calls x.action o → single o ≡ false) → (In x w.list → ⊥) → In x w.entered → ⊥
not_entered single p q w x came shared new h = ⊎_elim (λ u. new u)
    (λ u. let f : single u.0.object ≡ false = shared u.0.object (subst (λ (m : Message). Calls m.action u.0.object) (sym u.1) refl) in let g : true ≡ false = sym u.2 ∙ f in absurd (cc g))
    (entered_from single p q w came x h)

-- a message that entered is in the list, or it is a call that waits on a single copy or was performed on it
pub entered_stands : EnteredStands
entered_stands single p q w came m h = ⊎_elim (λ u. inl u)
    (λ u. inr (u.0, u.1, u.2, all_taken single p q w came u.0 (subst (λ (z : Message). In z w.entered) u.1 h) u.2))
    (entered_from single p q w came m h)
