-- What an entry does continues a history: its message's line, then those of the suspended calls.
use Rattle.std.proofs.Common.{◌≡◌, ◌⊎◌, inl, inr, ℕ, zero, suc, ◌+◌, ◌≤◌, ◌==◌, ⊎_elim, Bool, true, false, not, if◌then◌else◌, Option, Some, None, List, [], ◌∷◌, ◌++◌, length, refl, sym, ap, ◌∙◌, arith, subst}
use Rattle.std.specs.Prelude.{IsTrue, slice_get}
use Rattle.std.proofs.lemmas.Bool.{eqb-true}
use Rattle.std.proofs.lemmas.List.{length-append}
use Rattle.orca_base.specs.declared.ids.KindNo.{KindNo}
use Rattle.orca_base.specs.declared.ids.OpNo.{OpNo}
use Rattle.orca_base.specs.declared.ids.ObjectId.{ObjectId}
use Rattle.orca_base.specs.declared.ids.ProcessNo.{ProcessNo}
use Rattle.orca_base.specs.declared.ids.CallNo.{CallNo}
use Rattle.value_core.specs.Datum.{Data}
use Rattle.value_core.specs.declared.action.Instance.{Instance}
use Rattle.value_core.specs.declared.action.Line.{Line}
use Rattle.value_core.specs.declared.message.Message.{Message}
use Rattle.value_core.specs.declared.action.Action.{Action}
use Rattle.value_core.specs.declared.action.Action.TheVariants as action
use Rattle.value_core.specs.declared.action.Reply.TheVariants as answer
use Rattle.value_core.specs.declared.meaning.Making.{Making}
use Rattle.value_core.specs.declared.meaning.Making.TheVariants as making
use Rattle.value_core.specs.declared.meaning.Doing.TheVariants as doing
use Rattle.value_core.specs.declared.meaning.Tried.{Tried}
use Rattle.value_core.specs.declared.meaning.Tried.TheVariants as tried
use Rattle.value_core.specs.Performable.{is_performable}
use Rattle.value_core.specs.Meaning.{Performs, Computes}
use Rattle.value_core.specs.History.{Answers, Configuration, LegalFrom, MakingAnswers, Objects, Performed, Process, after_call, after_line, after_lines, after_making, forked, most_turns, object_at, objects_after}
use Rattle.value_core.proofs.HistoryLemmas.{LegalFrom-push, after_lines-push}
use Rattle.guard_queue.specs.declared.queue.Suspended.{Suspended}
use Rattle.guard_queue.specs.Settles.{Settling, answered, behind, guard_of, is_blocked, is_ready, next_ready, objects_if, objects_with, performed, reply_of, settle_up_to, settled, settled_from, stepped, taken, tried_by, tried_in}
use Rattle.guard_queue.proofs.Behind.{settled_behind}
use Rattle.object_manager.specs.After.{Copied, acted, acted_by, after as after_applied, as_call, called, line_of, lines_after as lines_applied, making_reply}
use Rattle.object_manager.specs.Singles.{after_passed}
use Rattle.book_law.specs.Passes.{Test, after, is_passed, lines_after}
use Rattle.book_law.specs.Singles.{waiting}
use Rattle.book_law.specs.Events.{Calls, In, lines_by}
use Rattle.book_law.proofs.Kept.{AllNext, AllOn, IsNext}
use Rattle.book_law.proofs.Objects.{agree, performed_on, spared}
use Rattle.book_law.proofs.Lists.{found, in_at, in_push, in_remove, in_waits, lines_by-append, one, others_apart, waiting-push, waiting-remove}
use Rattle.book_law.proofs.Processes.{after_length, after_other}

-- ---- a call can be performed where it isn't blocked

answers : (t : Tried) → is_blocked t ≡ false → Answers t (guard_of t) (reply_of t)
answers tried.Blocked e = absurd (cc e)
answers (tried.Did guard state reply) e = (refl, refl)
answers (tried.Broke guard fault) e = (refl, refl)

can_by : (p : Performs) (objects : Objects) (call : Suspended) (o : Option Instance) → object_at objects call.object ≡ o → is_blocked (tried_by p call.kind call.op call.args o) ≡ false
    → (kept : Instance) × (object_at objects call.object ≡ Some kept) × Answers (p.tries call.kind call.op kept.state call.args) (guard_of (tried_by p call.kind call.op call.args o)) (reply_of (tried_by p call.kind call.op call.args o))
can_by p objects call None is e = absurd (cc e)
can_by p objects call (Some kept) is e = (kept, is, answers (p.tries call.kind call.op kept.state call.args) e)

can : (p : Performs) (objects : Objects) (call : Suspended) → is_blocked (tried_in p objects call) ≡ false
    → Performed p objects (action.Call call.kind call.op call.object call.args) (guard_of (tried_in p objects call)) (reply_of (tried_in p objects call))
can p objects call e = can_by p objects call (object_at objects call.object) refl e

same_objects : (p : Performs) (objects : Objects) (call : Suspended) (o : Option Instance)
    → after_call p objects call.kind call.op call.object call.args o ≡ objects_if objects call (tried_by p call.kind call.op call.args o) o
same_objects p objects call None = refl
same_objects p objects call (Some kept) = refl

-- ---- calls stay next where another process has a line

next_after : (p : Performs) (q : Computes) (c : Configuration) (line : Line) (call : Suspended) → (line.process.0 ≡ call.process.0 → ⊥) → IsNext q c call → IsNext q (after_line p c line) call
next_after p q c line call apart n = record { process = n.process; exists = after_other p c line call.process.0 n.process apart n.exists; number = n.number; next = n.next }

-- ---- settling continues a history

-- an action calls one of these objects
abbrev pub OnSeen : (ObjectId → Type 0) → Action → Type 0
OnSeen sees a = (o : ObjectId) × Calls a o × sees o

-- the lines so far continue c, and the queue and these objects are what they leave; each line is of this action, or calls one of
-- these objects
pub record Going (p : Performs) (q : Computes) (sees : ObjectId → Type 0) (a : Action) (c : Configuration) (number : ℕ) (s : Settling) : Type 0 where
  pub legal : LegalFrom p q c s.lines
  pub objects : (o : ObjectId) → sees o → object_at (after_lines p c s.lines).objects o ≡ object_at s.objects o
  pub count : length (after_lines p c s.lines).processes ≡ number
  pub next : AllNext q (after_lines p c s.lines) s.queue
  pub on : AllOn sees s.queue
  pub once : (j : ℕ) → waiting j s.queue ≤ 1
  pub each : (l : Line) → In l s.lines → (l.action ≡ a) ⊎ OnSeen sees l.action

not_true : (b : Bool) → not b ≡ true → b ≡ false
not_true true e = absurd (cc e)
not_true false e = refl

taken_goes : (p : Performs) (q : Computes) (sees : ObjectId → Type 0) (a : Action) (c : Configuration) (number : ℕ) (s : Settling) (at : ℕ) (call : Suspended) → slice_get s.queue at ≡ Some call → is_blocked (tried_in p s.objects call) ≡ false
    → Going p q sees a c number s → Going p q sees a c number (taken s at (tried_in p s.objects call) (Some call))
taken_goes p q sees a c number s at call is free g =
    let n = g.next call (in_at call s.queue at is) in
    record {
      legal = LegalFrom-push p q c s.lines line g.legal (record { process = n.process; exists = n.exists; call = n.number; next = n.next; performed = can_here });
      objects = λ o see. ap (λ (d : Configuration). object_at d.objects o) push ∙ agree p d.objects s.objects line.action o (g.objects o see) ∙ ap (λ (x : Objects). object_at x o) (same_objects p s.objects call (object_at s.objects call.object));
      count = ap (λ (d : Configuration). length d.processes) push ∙ (let e = after_length p d line in let u : length (after_line p d line).processes ≡ length d.processes = omega (arith, e) in u) ∙ g.count;
      next = λ other h.
          let apart = others_apart s.queue at call other is (g.once call.process.0) h in
          subst (λ (e : Configuration). IsNext q e other) (sym push) (next_after p q d line other apart (g.next other (in_remove other s.queue at h)));
      on = λ other h. g.on other (in_remove other s.queue at h);
      once = λ j. let a = waiting-remove j s.queue at call is in let b = g.once j in omega (arith, a, b);
      each = λ l h. ⊎_elim (λ u. g.each l u) (λ u. inr (subst (λ (k : Line). OnSeen sees k.action) (sym u) (call.object, refl, g.on call (in_at call s.queue at is)))) (in_push l line s.lines h);
    }
  where
    line : Line
    line = answered call (tried_in p s.objects call)

    d : Configuration
    d = after_lines p c s.lines

    push : after_lines p c (s.lines ++ line ∷ []) ≡ after_line p d line
    push = after_lines-push p c s.lines line

    can_here : Performed p d.objects (action.Call call.kind call.op call.object call.args) (guard_of (tried_in p s.objects call)) (reply_of (tried_in p s.objects call))
    can_here = performed_on p s.objects d.objects (action.Call call.kind call.op call.object call.args) (guard_of (tried_in p s.objects call)) (reply_of (tried_in p s.objects call))
        (λ o calls. sym (g.objects o (subst sees (sym calls) (g.on call (in_at call s.queue at is))))) (can p s.objects call free)

stepped_goes : (p : Performs) (q : Computes) (sees : ObjectId → Type 0) (a : Action) (c : Configuration) (number : ℕ) (s : Settling) (o : Option ℕ) → next_ready p s.objects s.queue ≡ o → Going p q sees a c number s → Going p q sees a c number (stepped p s o)
stepped_goes p q sees a c number s None is g = g
stepped_goes p q sees a c number s (Some at) is g =
    let f = found (is_ready p s.objects) at s.queue is in
    subst (λ (o : Option Suspended). Going p q sees a c number (performed p s at o)) (sym f.1)
    (taken_goes p q sees a c number s at f.0 f.1 (not_true (is_blocked (tried_in p s.objects f.0)) f.2) g)

pub settled_goes : (p : Performs) (q : Computes) (sees : ObjectId → Type 0) (a : Action) (c : Configuration) (number n : ℕ) (s : Settling) → Going p q sees a c number s → Going p q sees a c number (settle_up_to p n s)
settled_goes p q sees a c number zero s g = g
settled_goes p q sees a c number (suc n) s g = settled_goes p q sees a c number n (stepped p s (next_ready p s.objects s.queue)) (stepped_goes p q sees a c number s (next_ready p s.objects s.queue) refl g)

-- ---- a call waits, or has a line

-- the calls of a process that wait, and its lines
abbrev pub held : ℕ → Settling → ℕ
held j s = waiting j s.queue + length (lines_by j s.lines)

one_line : (j : ℕ) (line : Line) → length (lines_by j (line ∷ [])) ≡ one line.process.0 j
one_line j line = go (line.process.0 == j)
  where
    go : (b : Bool) → length (if b then line ∷ [] else []) ≡ (if b then 1 else 0)
    go true = refl
    go false = refl

length_push : (j : ℕ) (lines : List Line) (line : Line) → length (lines_by j (lines ++ line ∷ [])) ≡ length (lines_by j lines) + one line.process.0 j
length_push j lines line =
    ap (λ (ls : List Line). length ls) (lines_by-append j lines (line ∷ [])) ∙ length-append (lines_by j lines) (lines_by j (line ∷ []))
    ∙ ap (λ n. length (lines_by j lines) + n) (one_line j line)

performed_holds : (p : Performs) (j : ℕ) (s : Settling) (at : ℕ) (o : Option Suspended) → slice_get s.queue at ≡ o → held j (performed p s at o) ≡ held j s
performed_holds p j s at None is = refl
performed_holds p j s at (Some call) is =
    let a = waiting-remove j s.queue at call is in
    let b = length_push j s.lines (answered call (tried_in p s.objects call)) in
    omega (arith, a, b)

stepped_holds : (p : Performs) (j : ℕ) (s : Settling) (o : Option ℕ) → held j (stepped p s o) ≡ held j s
stepped_holds p j s None = refl
stepped_holds p j s (Some at) = performed_holds p j s at (slice_get s.queue at) refl

settled_holds : (p : Performs) (j n : ℕ) (s : Settling) → held j (settle_up_to p n s) ≡ held j s
settled_holds p j zero s = refl
settled_holds p j (suc n) s = settled_holds p j n (stepped p s (next_ready p s.objects s.queue)) ∙ stepped_holds p j s (next_ready p s.objects s.queue)

-- ---- the message itself

-- the message is the next action of a process that doesn't wait, and the copies are c's, at these objects; it calls none but these
pub record Comes (p : Performs) (q : Computes) (sees : ObjectId → Type 0) (c : Configuration) (copies : Copied) (x : Message) : Type 0 where
  pub process : Process
  pub exists : slice_get c.processes x.process.0 ≡ Some process
  pub call : x.call.0 ≡ length process.replies
  pub doing : q.doing process.text x.process process.args process.replies most_turns ≡ doing.At x.action
  pub waits : waiting x.process.0 copies.queue ≡ 0
  pub calls : (o : ObjectId) → Calls x.action o → sees o
  pub objects : (o : ObjectId) → sees o → object_at c.objects o ≡ object_at copies.objects o
  pub count : length c.processes ≡ copies.processes
  pub next : AllNext q c copies.queue
  pub on : AllOn sees copies.queue
  pub once : (j : ℕ) → waiting j copies.queue ≤ 1

abbrev made : ProcessNo → CallNo → (a : Action) → IsTrue (is_performable a) → Message
made process call a ok = record { process = process; call = call; action = a; performable = ok }

-- one line of the sender, and the queue as it was
line_goes : (p : Performs) (q : Computes) (sees : ObjectId → Type 0) (c : Configuration) (copies : Copied) (x : Message) (line : Line) (objects : Objects) → line.process ≡ x.process → line.call ≡ x.call → line.action ≡ x.action → Performed p copies.objects line.action line.guard line.reply
    → ((o : ObjectId) → sees o → object_at (objects_after p copies.objects line.action) o ≡ object_at objects o) → Comes p q sees c copies x → Going p q sees x.action c (copies.processes + length (forked x.action)) (record { objects = objects; queue = copies.queue; lines = line ∷ [] })
line_goes p q sees c copies x line objects by call action_is done leaves k =
    record {
      legal = (
        record {
          process = k.process;
          exists = ap (λ (n : ProcessNo). slice_get c.processes n.0) by ∙ k.exists;
          call = ap (λ (n : CallNo). n.0) call ∙ k.call;
          next = ap (λ (n : ProcessNo). q.doing k.process.text n k.process.args k.process.replies most_turns) by ∙ k.doing ∙ ap (λ (a : Action). doing.At a) (sym action_is);
          performed = performed_on p copies.objects c.objects line.action line.guard line.reply (λ o calls. sym (k.objects o (k.calls o (subst (λ (a : Action). Calls a o) action_is calls)))) done;
        },
        tt,
      );
      objects = λ o see. agree p c.objects copies.objects line.action o (k.objects o see) ∙ leaves o see;
      count = after_length p c line ∙ ap (λ n. n + length (forked line.action)) k.count ∙ ap (λ (a : Action). copies.processes + length (forked a)) action_is;
      next = λ other h. next_after p q c line other (λ (e : line.process.0 ≡ other.process.0).
          let w = in_waits other copies.queue h in
          let f : waiting other.process.0 copies.queue ≡ 0 = ap (λ n. waiting n copies.queue) (sym e ∙ ap (λ (n : ProcessNo). n.0) by) ∙ k.waits in
          absurd (omega (arith, w, f))) (k.next other h);
      on = k.on;
      once = k.once;
      each = λ l h. ⊎_elim (λ u. inl (ap (λ (z : Line). z.action) u ∙ action_is)) (λ u. absurd u) h;
    }

making_answers : (m : Making) → MakingAnswers m (making_reply m)
making_answers (making.Made state) = refl
making_answers (making.Broke fault) = refl

called_goes : (p : Performs) (q : Computes) (sees : ObjectId → Type 0) (c : Configuration) (copies : Copied) (process : ProcessNo) (call : CallNo) (kind : KindNo) (op : OpNo) (object : ObjectId) (args : Data) (ok : IsTrue true) (t : Tried)
    → tried_in p copies.objects (as_call (made process call (action.Call kind op object args) ok) kind op object args) ≡ t
    → Comes p q sees c copies (made process call (action.Call kind op object args) ok)
    → Going p q sees (action.Call kind op object args) c (copies.processes + 0) (called copies (as_call (made process call (action.Call kind op object args) ok) kind op object args) t)
called_goes p q sees c copies process call kind op object args ok tried.Blocked is k =
    record {
      legal = tt;
      objects = k.objects;
      count = k.count ∙ (let e : copies.processes ≡ copies.processes + 0 = omega arith in e);
      next = λ other h. ⊎_elim (λ u. k.next other u)
          (λ u. subst (λ (s : Suspended). IsNext q c s) (sym u) (record { process = k.process; exists = k.exists; number = k.call; next = k.doing }))
          (in_push other (as_call (made process call (action.Call kind op object args) ok) kind op object args) copies.queue h);
      on = λ other h. ⊎_elim (λ u. k.on other u) (λ u. k.calls other.object (ap (λ (s : Suspended). s.object) u)) (in_push other (as_call (made process call (action.Call kind op object args) ok) kind op object args) copies.queue h);
      each = λ l h. absurd h;
      once = λ j. let a = waiting-push j copies.queue (as_call (made process call (action.Call kind op object args) ok) kind op object args) in
          joined j (process.0 == j) refl a;
    }
  where
    joined : (j : ℕ) (b : Bool) → (process.0 == j) ≡ b → waiting j (copies.queue ++ as_call (made process call (action.Call kind op object args) ok) kind op object args ∷ []) ≡ waiting j copies.queue + (if b then 1 else 0)
        → waiting j (copies.queue ++ as_call (made process call (action.Call kind op object args) ok) kind op object args ∷ []) ≤ 1
    joined j true e a =
        let w : waiting j copies.queue ≡ 0 = ap (λ n. waiting n copies.queue) (sym (eqb-true process.0 j e)) ∙ k.waits in
        omega (arith, a, w)
    joined j false e a = let w = k.once j in omega (arith, a, w)
called_goes p q sees c copies process call kind op object args ok (tried.Did guard state reply) is k =
    let s = as_call (made process call (action.Call kind op object args) ok) kind op object args in
    let free : is_blocked (tried_in p copies.objects s) ≡ false = ap is_blocked is in
    let done = can p copies.objects s free in
    line_goes p q sees c copies (made process call (action.Call kind op object args) ok) (answered s (tried.Did guard state reply)) (objects_with copies.objects s (tried.Did guard state reply)) refl refl refl
    (subst (λ (t : Tried). Performed p copies.objects (action.Call kind op object args) (guard_of t) (reply_of t)) is done)
    (λ o see. ap (λ (x : Objects). object_at x o) (same_objects p copies.objects s (object_at copies.objects object) ∙ ap (λ (t : Tried). objects_with copies.objects s t) is)) k
called_goes p q sees c copies process call kind op object args ok (tried.Broke guard fault) is k =
    let s = as_call (made process call (action.Call kind op object args) ok) kind op object args in
    let free : is_blocked (tried_in p copies.objects s) ≡ false = ap is_blocked is in
    let done = can p copies.objects s free in
    line_goes p q sees c copies (made process call (action.Call kind op object args) ok) (answered s (tried.Broke guard fault)) (objects_with copies.objects s (tried.Broke guard fault)) refl refl refl
    (subst (λ (t : Tried). Performed p copies.objects (action.Call kind op object args) (guard_of t) (reply_of t)) is done)
    (λ o see. ap (λ (x : Objects). object_at x o) (same_objects p copies.objects s (object_at copies.objects object) ∙ ap (λ (t : Tried). objects_with copies.objects s t) is)) k

acted_goes : (p : Performs) (q : Computes) (sees : ObjectId → Type 0) (c : Configuration) (copies : Copied) (process : ProcessNo) (call : CallNo) (a : Action) (ok : IsTrue (is_performable a)) → Comes p q sees c copies (made process call a ok)
    → Going p q sees a c (copies.processes + length (forked a)) (acted_by p copies (made process call a ok) a)
acted_goes p q sees c copies process call (action.Make kind object) ok k =
    line_goes p q sees c copies (made process call (action.Make kind object) ok) (line_of (made process call (action.Make kind object) ok) (making_reply (p.made kind))) (after_making copies.objects kind object (p.made kind)) refl refl refl
    (refl, making_answers (p.made kind)) (λ o see. refl) k
acted_goes p q sees c copies process call (action.Call kind op object args) ok k =
    called_goes p q sees c copies process call kind op object args ok (tried_in p copies.objects (as_call (made process call (action.Call kind op object args) ok) kind op object args)) refl k
acted_goes p q sees c copies process call (action.Fork text args place_on) ok k =
    line_goes p q sees c copies (made process call (action.Fork text args place_on) ok) (line_of (made process call (action.Fork text args place_on) ok) answer.Done) copies.objects refl refl refl (refl, refl) (λ o see. refl) k
acted_goes p q sees c copies process call action.Ended ok k = absurd (cc ok)
acted_goes p q sees c copies process call (action.Faulted fault) ok k = absurd (cc ok)

-- it waits, or has a line
one_more : (j : ℕ) (queue : List Suspended) (objects : Objects) (line : Line) → held j (record { objects = objects; queue = queue; lines = line ∷ [] }) ≡ waiting j queue + one line.process.0 j
one_more j queue objects line = ap (λ n. waiting j queue + n) (one_line j line)

called_holds : (j : ℕ) (copies : Copied) (s : Suspended) (t : Tried) → held j (called copies s t) ≡ waiting j copies.queue + one s.process.0 j
called_holds j copies s tried.Blocked = let a = waiting-push j copies.queue s in omega (arith, a)
called_holds j copies s (tried.Did guard state reply) = one_more j copies.queue copies.objects (answered s (tried.Did guard state reply))
called_holds j copies s (tried.Broke guard fault) = one_more j copies.queue copies.objects (answered s (tried.Broke guard fault))

acted_holds : (p : Performs) (j : ℕ) (copies : Copied) (x : Message) (a : Action) → IsTrue (is_performable a) → held j (acted_by p copies x a) ≡ waiting j copies.queue + one x.process.0 j
acted_holds p j copies x (action.Make kind object) ok = one_more j copies.queue copies.objects (line_of x (making_reply (p.made kind)))
acted_holds p j copies x (action.Call kind op object args) ok = called_holds j copies (as_call x kind op object args) (tried_in p copies.objects (as_call x kind op object args))
acted_holds p j copies x (action.Fork text args place_on) ok = one_more j copies.queue copies.objects (line_of x answer.Done)
acted_holds p j copies x action.Ended ok = absurd (cc ok)
acted_holds p j copies x (action.Faulted fault) ok = absurd (cc ok)

-- ---- the whole entry

-- the entry's lines continue c, the copies after it are what they leave, and each process's calls wait or have a line
pub record Ran (p : Performs) (q : Computes) (sees : ObjectId → Type 0) (c : Configuration) (copies : Copied) (x : Message) (number : ℕ) (t : Settling) : Type 0 where
  pub going : Going p q sees x.action c number t
  pub holds : (j : ℕ) → held j t ≡ waiting j copies.queue + one x.process.0 j

pub ran : (p : Performs) (q : Computes) (sees : ObjectId → Type 0) (c : Configuration) (copies : Copied) (x : Message) → Comes p q sees c copies x
    → Ran p q sees c copies x (copies.processes + length (forked x.action)) (record { objects = (after_applied p copies x).objects; queue = (after_applied p copies x).queue; lines = lines_applied p copies x })
ran p q sees c copies x k =
    let s = acted p copies x in
    let whole : settled_from p s ≡ behind s.lines (settled p s.objects s.queue) = settled_behind p s.objects s.queue s.lines (settled_from p s) refl in
    let g : Going p q sees x.action c (copies.processes + length (forked x.action)) s = acted_goes p q sees c copies x.process x.call x.action x.performable k in
    record {
      going = subst (λ (t : Settling). Going p q sees x.action c (copies.processes + length (forked x.action)) t) whole (settled_goes p q sees x.action c (copies.processes + length (forked x.action)) (length s.queue) s g);
      holds = λ j. ap (λ (t : Settling). held j t) (sym whole) ∙ settled_holds p j (length s.queue) s ∙ acted_holds p j copies x x.action x.performable;
    }

-- ---- with single objects

-- what an entry leaves of the replicated objects, and its lines
abbrev pub of_entry : Test → Performs → Copied → Message → Settling
of_entry single p c x = record { objects = (after single p c x).objects; queue = (after single p c x).queue; lines = lines_after single p c x }

abbrev pub Entered : Test → Performs → Computes → Configuration → Copied → Message → Type 0
Entered single p q c copies x = Ran p q (λ o. single o ≡ false) c copies x (copies.processes + length (forked x.action)) (of_entry single p copies x)

-- a make of a single object leaves the replicated ones
abbrev passing : Performs → Copied → Message → Settling
passing p c x = record { objects = (after_passed p false c x).objects; queue = (after_passed p false c x).queue; lines = (acted p c x).lines }

passed_goes : (single : Test) (p : Performs) (q : Computes) (c : Configuration) (copies : Copied) (process : ProcessNo) (call : CallNo) (a : Action) (ok : IsTrue (is_performable a)) → is_passed single a ≡ true → Comes p q (λ o. single o ≡ false) c copies (made process call a ok)
    → Going p q (λ o. single o ≡ false) a c (copies.processes + length (forked a)) (passing p copies (made process call a ok))
passed_goes single p q c copies process call (action.Make kind object) ok is k =
    line_goes p q (λ o. single o ≡ false) c copies (made process call (action.Make kind object) ok) (line_of (made process call (action.Make kind object) ok) (making_reply (p.made kind))) copies.objects refl refl refl
    (refl, making_answers (p.made kind))
    (λ o see. spared p copies.objects (action.Make kind object) o (λ h. ⊎_elim (λ u. u) (λ (e : o ≡ object). let f : true ≡ false = sym is ∙ ap single (sym e) ∙ see in absurd (cc f)) h)) k
passed_goes single p q c copies process call (action.Call kind op object args) ok is k = absurd (cc is)
passed_goes single p q c copies process call (action.Fork text args place_on) ok is k = absurd (cc is)
passed_goes single p q c copies process call action.Ended ok is k = absurd (cc is)
passed_goes single p q c copies process call (action.Faulted fault) ok is k = absurd (cc is)

passed_holds : (single : Test) (p : Performs) (j : ℕ) (copies : Copied) (process : ProcessNo) (call : CallNo) (a : Action) (ok : IsTrue (is_performable a)) → is_passed single a ≡ true → held j (passing p copies (made process call a ok)) ≡ waiting j copies.queue + one process.0 j
passed_holds single p j copies process call (action.Make kind object) ok is = one_more j copies.queue copies.objects (line_of (made process call (action.Make kind object) ok) (making_reply (p.made kind)))
passed_holds single p j copies process call (action.Call kind op object args) ok is = absurd (cc is)
passed_holds single p j copies process call (action.Fork text args place_on) ok is = absurd (cc is)
passed_holds single p j copies process call action.Ended ok is = absurd (cc is)
passed_holds single p j copies process call (action.Faulted fault) ok is = absurd (cc is)

pub entered : (single : Test) (p : Performs) (q : Computes) (c : Configuration) (copies : Copied) (x : Message) → Comes p q (λ o. single o ≡ false) c copies x → Entered single p q c copies x
entered single p q c copies x k = go (is_passed single x.action) refl
  where
    go : (b : Bool) → is_passed single x.action ≡ b → Ran p q (λ o. single o ≡ false) c copies x (copies.processes + length (forked x.action))
        (record { objects = (if b then after_passed p false copies x else after_applied p copies x).objects; queue = (if b then after_passed p false copies x else after_applied p copies x).queue; lines = if b then (acted p copies x).lines else lines_applied p copies x })
    go true is = record { going = passed_goes single p q c copies x.process x.call x.action x.performable is k; holds = λ j. passed_holds single p j copies x.process x.call x.action x.performable is }
    go false is = ran p q (λ o. single o ≡ false) c copies x k
