-- A process that has no message out waits for nothing: each message of it in the list is among what its member applied.
use Rattle.std.proofs.Common.{◌≡◌, ◌==◌, ◌<◌, ◌≤◌, ◌+◌, inl, inr, ⊎_elim, ℕ, zero, suc, Bool, true, false, if◌then◌else◌, Option, Some, None, List, [], ◌∷◌, ◌++◌, length, take, drop, append-nil, refl, sym, ap, ◌∙◌, arith, subst}
use Rattle.std.specs.Prelude.{IsTrue, slice_get}
use Rattle.std.proofs.lemmas.List.{length-append, take-append-drop}
use Rattle.orca_base.specs.declared.ids.ObjectId.{ObjectId}
use Rattle.value_core.specs.declared.action.Action.{Action}
use Rattle.value_core.specs.declared.action.Action.TheVariants as action
use Rattle.value_core.specs.declared.action.Line.{Line}
use Rattle.value_core.specs.declared.action.Reply.TheVariants as answer
use Rattle.value_core.specs.declared.meaning.Tried.{Tried}
use Rattle.value_core.specs.declared.meaning.Tried.TheVariants as tried
use Rattle.value_core.specs.declared.message.Message.{Message}
use Rattle.value_core.specs.History.{Objects}
use Rattle.value_core.specs.Meaning.{Performs, Computes}
use Rattle.value_core.specs.Performable.{is_performable}
use Rattle.guard_queue.specs.declared.queue.Suspended.{Suspended}
use Rattle.guard_queue.specs.Settles.{Settling, answered, behind as lines_behind, next_ready, performed, settle_up_to, settled, settled_from, stepped, tried_in}
use Rattle.guard_queue.proofs.Behind.{settled_behind}
use Rattle.object_manager.specs.After.{Copied, acted, acted_by, after as after_applied, as_call, called, line_of, lines_after as lines_applied, making_reply, opening_copies}
use Rattle.object_manager.specs.Singles.{after_passed}
use Rattle.book_law.specs.Book.{behind, book_from, copies_at}
use Rattle.book_law.specs.Course.{Came, Course}
use Rattle.book_law.specs.Events.{Calls, In, Runner, lines_by}
use Rattle.book_law.specs.Passes.{Test, after, after_all, is_passed, lines_after}
use Rattle.book_law.specs.Singles.{waiting, waits}
use Rattle.book_law.proofs.Books.{after_all-append}
use Rattle.book_law.proofs.Courses.{came_sound}
use Rattle.book_law.proofs.Lists.{lines_by-append, one, one_same, waiting-push, waiting-remove}
use Rattle.book_law.proofs.Objects.{in_append}
use Rattle.book_law.proofs.Stages.{not_both, some_same, stage_free}

-- ---- an entry is answered or waits

-- the calls of a process that wait, and its lines
abbrev held : ℕ → Settling → ℕ
held j s = waiting j s.queue + length (lines_by j s.lines)

one_line : (j : ℕ) (line : Line) → length (lines_by j (line ∷ [])) ≡ one line.process.0 j
one_line j line = go (line.process.0 == j)
  where
    go : (b : Bool) → length (if b then line ∷ [] else []) ≡ (if b then 1 else 0)
    go true = refl
    go false = refl

length_push : (j : ℕ) (lines : List Line) (line : Line) → length (lines_by j (lines ++ line ∷ [])) ≡ length (lines_by j lines) + one line.process.0 j
length_push j lines line =
    ap (λ (ls : List Line). length ls) (lines_by-append j lines (line ∷ [])) ∙ length-append (lines_by j lines) (lines_by j (line ∷ []))
    ∙ ap (λ n. length (lines_by j lines) + n) (one_line j line)

performed_holds : (p : Performs) (j : ℕ) (s : Settling) (at : ℕ) (o : Option Suspended) → slice_get s.queue at ≡ o → held j (performed p s at o) ≡ held j s
performed_holds p j s at None is = refl
performed_holds p j s at (Some call) is =
    let a = waiting-remove j s.queue at call is in
    let b = length_push j s.lines (answered call (tried_in p s.objects call)) in
    omega (arith, a, b)

stepped_holds : (p : Performs) (j : ℕ) (s : Settling) (o : Option ℕ) → held j (stepped p s o) ≡ held j s
stepped_holds p j s None = refl
stepped_holds p j s (Some at) = performed_holds p j s at (slice_get s.queue at) refl

settled_holds : (p : Performs) (j n : ℕ) (s : Settling) → held j (settle_up_to p n s) ≡ held j s
settled_holds p j zero s = refl
settled_holds p j (suc n) s = settled_holds p j n (stepped p s (next_ready p s.objects s.queue)) ∙ stepped_holds p j s (next_ready p s.objects s.queue)

one_more : (j : ℕ) (queue : List Suspended) (objects : Objects) (line : Line) → held j (record { objects = objects; queue = queue; lines = line ∷ [] }) ≡ waiting j queue + one line.process.0 j
one_more j queue objects line = ap (λ n. waiting j queue + n) (one_line j line)

called_holds : (j : ℕ) (copies : Copied) (s : Suspended) (t : Tried) → held j (called copies s t) ≡ waiting j copies.queue + one s.process.0 j
called_holds j copies s tried.Blocked = let a = waiting-push j copies.queue s in omega (arith, a)
called_holds j copies s (tried.Did guard state reply) = one_more j copies.queue copies.objects (answered s (tried.Did guard state reply))
called_holds j copies s (tried.Broke guard fault) = one_more j copies.queue copies.objects (answered s (tried.Broke guard fault))

acted_holds : (p : Performs) (j : ℕ) (copies : Copied) (x : Message) (a : Action) → IsTrue (is_performable a) → held j (acted_by p copies x a) ≡ waiting j copies.queue + one x.process.0 j
acted_holds p j copies x (action.Make kind object) ok = one_more j copies.queue copies.objects (line_of x (making_reply (p.made kind)))
acted_holds p j copies x (action.Call kind op object args) ok = called_holds j copies (as_call x kind op object args) (tried_in p copies.objects (as_call x kind op object args))
acted_holds p j copies x (action.Fork text args place_on) ok = one_more j copies.queue copies.objects (line_of x answer.Done)
acted_holds p j copies x action.Ended ok = absurd (cc ok)
acted_holds p j copies x (action.Faulted fault) ok = absurd (cc ok)

applied_holds : (p : Performs) (j : ℕ) (c : Copied) (x : Message) → waiting j (after_applied p c x).queue + length (lines_by j (lines_applied p c x)) ≡ waiting j c.queue + one x.process.0 j
applied_holds p j c x =
    let s : Settling = acted p c x in
    let whole : settled_from p s ≡ lines_behind s.lines (settled p s.objects s.queue) = settled_behind p s.objects s.queue s.lines (settled_from p s) refl in
    ap (λ (t : Settling). held j t) (sym whole) ∙ settled_holds p j (length s.queue) s ∙ acted_holds p j c x x.action x.performable

-- a make of a single object leaves the queue
passed_queue : (single : Test) (p : Performs) (c : Copied) (x : Message) (a : Action) → is_passed single a ≡ true → (acted_by p c x a).queue ≡ c.queue
passed_queue single p c x (action.Make kind object) is = refl
passed_queue single p c x (action.Call kind op object args) is = absurd (cc is)
passed_queue single p c x (action.Fork text args place_on) is = refl
passed_queue single p c x action.Ended is = refl
passed_queue single p c x (action.Faulted fault) is = refl

entry_holds : (single : Test) (p : Performs) (j : ℕ) (c : Copied) (x : Message) → waiting j (after single p c x).queue + length (lines_by j (lines_after single p c x)) ≡ waiting j c.queue + one x.process.0 j
entry_holds single p j c x = go (is_passed single x.action) refl
  where
    go : (b : Bool) → is_passed single x.action ≡ b → waiting j (if b then after_passed p false c x else after_applied p c x).queue + length (lines_by j (if b then (acted p c x).lines else lines_applied p c x)) ≡ waiting j c.queue + one x.process.0 j
    go true e =
        let h = acted_holds p j c x x.action x.performable in
        let same : waiting j (acted p c x).queue ≡ waiting j c.queue = ap (λ (q : List Suspended). waiting j q) (passed_queue single p c x x.action e) in
        omega (arith, h, same)
    go false e = applied_holds p j c x

-- ---- so are entries

-- the entries of a process
abbrev entries_by : ℕ → List Message → ℕ
entries_by j [] = 0
entries_by j (x ∷ xs) = one x.process.0 j + entries_by j xs

entries_hold : (single : Test) (p : Performs) (j : ℕ) (c : Copied) (xs : List Message) → waiting j (after_all single p c xs).queue + length (lines_by j (book_from single p c xs [])) ≡ waiting j c.queue + entries_by j xs
entries_hold single p j c [] = refl
entries_hold single p j c (x ∷ xs) =
    let ls : List Line = lines_after single p c x in
    let rest : List Line = book_from single p (after single p c x) xs [] in
    let a = entry_holds single p j c x in
    let b = entries_hold single p j (after single p c x) xs in
    let d = ap (λ (l : List Line). length l) (lines_by-append j (ls ++ []) rest) ∙ length-append (lines_by j (ls ++ [])) (lines_by j rest) in
    let e = ap (λ (l : List Line). length (lines_by j l)) (append-nil ls) in
    omega (arith, a, b, d, e)

some_entry : (y : Message) (xs : List Message) → In y xs → 1 ≤ entries_by y.process.0 xs
some_entry y [] h = absurd h
some_entry y (x ∷ xs) (inl e) = let a = one_same x.process.0 y.process.0 (ap (λ (z : Message). z.process.0) (sym e)) in omega (arith, a)
some_entry y (x ∷ xs) (inr h) = let a = some_entry y xs h in omega (arith, a)

-- where nothing of a process waits at the end, and it has no line behind a place, it has no entry behind it
none_entered : (single : Test) (p : Performs) (list : List Message) (n : ℕ) (y : Message) → waiting y.process.0 (after_all single p opening_copies list).queue ≡ 0 →
    lines_by y.process.0 (behind single p list [] n) ≡ [] → In y (drop n list) → ⊥
none_entered single p list n y idle unseen h =
    let all = entries_hold single p y.process.0 (copies_at single p list n) (drop n list) in
    let whole = ap (λ (c : Copied). waiting y.process.0 c.queue) (sym (after_all-append single p opening_copies (take n list) (drop n list)) ∙ ap (after_all single p opening_copies) (take-append-drop n list)) in
    let some = some_entry y (drop n list) h in
    let no = ap (λ (l : List Line). length l) unseen in
    omega (arith, all, whole, some, no, idle)

-- ---- a process without a message

pub free_applied : (single : Test) (p : Performs) (q : Computes) (c : Course) → Came single p q c → (x : Runner) (y : Message) → c.runners y.process.0 ≡ Some x →
    x.message ≡ None → In y c.list → In y (take (c.applied x.member) c.list)
free_applied single p q c came x y here free listed =
    let sound = came_sound single p q c came in
    let k = sound.kept in
    let s = k.stands y.process.0 x here in
    let rest = stage_free c.entered x.message x.answer (waiting y.process.0 (after_all single p opening_copies c.list).queue + waits y.process.0 c.owned) s.awaited free s.stage in
    let idle = rest.0 in
    ⊎_elim (λ h. h)
    (λ h. absurd (none_entered single p c.list (c.applied x.member) y (omega (arith, idle)) (s.unseen ∙ rest.1) h))
    (in_append y (take (c.applied x.member) c.list) (drop (c.applied x.member) c.list)
    (subst (λ (l : List Message). In y l) (sym (take-append-drop (c.applied x.member) c.list)) listed))

-- it was asked, it entered, and it stands in the list
pub free_listed : (single : Test) (p : Performs) (q : Computes) (c : Course) → Came single p q c → (x : Runner) (y : Message) → c.runners y.process.0 ≡ Some x →
    x.message ≡ None → In y c.asked → ((o : ObjectId) → Calls y.action o → single o ≡ false) → In y c.list × (y.call.0 < length x.replies)
free_listed single p q c came x y here free asked shared =
    let sound = came_sound single p q c came in
    let k = sound.kept in
    let s = k.stands y.process.0 x here in
    let entered : In y c.entered = ⊎_elim (λ h. h)
    (λ r. let same : r.0 ≡ x = some_same (c.runners y.process.0) r.0 x r.1 here in
    absurd (not_both x.message y free (ap (λ (z : Runner). z.message) (sym same) ∙ r.2))) (sound.accounted y asked) in (
      ⊎_elim (λ h. h)
          (λ u. let e : false ≡ true = sym (shared u.0.object (subst (λ (m : Message). Calls m.action u.0.object) (sym u.1) refl)) ∙ u.2 in absurd (cc e))
          (sound.from y entered),
      ⊎_elim (λ lt. lt) (λ e. absurd (not_both x.message y free e)) (s.earlier y entered refl),
    )
