-- How many objects the book has: those that the copies hold, and those that were counted as single.
use Rattle.std.proofs.Common.{◌≡◌, ℕ, zero, suc, ◌+◌, ◌≤◌, ◌==◌, inl, inr, ⊎_elim, Bool, true, false, cond, Option, Some, None, List, [], ◌∷◌, ◌++◌, length, take, refl, sym, ap, ◌∙◌, arith, subst, append_assoc, if◌then◌else◌}
use Rattle.std.specs.Prelude.{is_some, slice_get}
use Rattle.std.proofs.lemmas.List.{length-append}
use Rattle.std.specs.FinMap.Entries.{length-put}
use Rattle.orca_base.specs.declared.ids.KindNo.{KindNo}
use Rattle.orca_base.specs.declared.ids.ObjectId.{ObjectId}
use Rattle.orca_base.specs.declared.ids.ProcessNo.{ProcessNo}
use Rattle.orca_base.specs.declared.ids.CallNo.{CallNo}
use Rattle.std.specs.Prelude.{IsTrue}
use Rattle.value_core.specs.Performable.{is_performable}
use Rattle.value_core.specs.Datum.{Data}
use Rattle.value_core.specs.Fits.{Kinds}
use Rattle.value_core.specs.declared.action.Instance.{Instance}
use Rattle.value_core.specs.declared.action.Line.{Line}
use Rattle.value_core.specs.declared.action.Action.{Action}
use Rattle.value_core.specs.declared.action.Action.TheVariants as action
use Rattle.value_core.specs.declared.meaning.Making.{Making}
use Rattle.value_core.specs.declared.meaning.Making.TheVariants as making
use Rattle.value_core.specs.declared.meaning.Tried.{Tried}
use Rattle.value_core.specs.declared.meaning.Tried.TheVariants as tried
use Rattle.value_core.specs.declared.message.Message.{Message}
use Rattle.value_core.specs.Meaning.{Performs, Computes}
use Rattle.value_core.specs.History.{Configuration, Objects, after_call, after_line, after_lines, after_making, after_try, object_at, object_cmp, objects_after, objects_of, opening, with_object}
use Rattle.guard_queue.specs.declared.queue.Suspended.{Suspended}
use Rattle.guard_queue.specs.Settles.{Settling, answered, next_ready, objects_if, performed, settle_up_to, stepped, tried_in}
use Rattle.guard_queue.specs.Shown.{Rises}
use Rattle.guard_queue.proofs.Lookups.{found, object_total, placed}
use Rattle.object_manager.specs.After.{Copied, acted, acted_by, after as after_applied, as_call, called, lines_after as lines_applied, making_reply, line_of, opening_copies}
use Rattle.object_manager.specs.Singles.{after_passed, side}
use Rattle.object_manager.specs.State.{message_of}
use Rattle.book_law.specs.Passes.{Test, after, after_all, is_passed, lines_after}
use Rattle.book_law.specs.Performed.{placed as at_place}
use Rattle.book_law.specs.Singles.{Single, alone, lines_on}
use Rattle.book_law.specs.Book.{Placed, aside_at, book, copies_at, up_to}
use Rattle.book_law.specs.Course.{Came, Course, Next}
use Rattle.book_law.specs.Course.Next.{Submits, Orders, Forks, Applies, Reads_at, Takes_call, Hears_answer}
use Rattle.book_law.specs.Course.Came.{Opens, Then}
use Rattle.book_law.specs.Events.{In}
use Rattle.book_law.specs.Counts.{ObjectsCounted}
use Rattle.book_law.proofs.Kept.{Kept}
use Rattle.book_law.proofs.Books.{book-append, copies_push, take_at}
use Rattle.book_law.proofs.Courses.{came_sound}
use Rattle.book_law.proofs.Lists.{in_push}
use Rattle.book_law.proofs.Makers.{makes_have_copies}
use Rattle.book_law.proofs.Objects.{in_append}
use Rattle.book_law.proofs.Ordered.{ordered_acted, ordered_making, ordered_stepped, ordered_try, copies_in_order}
use Rattle.book_law.proofs.Owned.{counted_by, counted_of, entry_counts}
use Rattle.book_law.proofs.Processes.{after_lines-append}
use Rattle.book_law.proofs.Replying.{in_placed}

-- ---- what a change of one object does to their number

length_with : (objects : Objects) (k : ObjectId) (v : Instance) → Rises objects → length (with_object objects k v) ≡ cond (is_some (object_at objects k)) (length objects) (length objects + 1)
length_with objects k v h =
    ap (λ (es : Objects). length es) (sym (placed objects k v)) ∙ length-put object_cmp object_total k v objects h ∙ ap (λ (o : Option Instance). cond (is_some o) (length objects) (length objects + 1)) (found objects k)

length_there : (objects : Objects) (k : ObjectId) (v kept : Instance) → Rises objects → object_at objects k ≡ Some kept → length (with_object objects k v) ≡ length objects
length_there objects k v kept h is = length_with objects k v h ∙ ap (λ (o : Option Instance). cond (is_some o) (length objects) (length objects + 1)) is

length_new : (objects : Objects) (k : ObjectId) (v : Instance) → Rises objects → object_at objects k ≡ None → length (with_object objects k v) ≡ length objects + 1
length_new objects k v h is = length_with objects k v h ∙ ap (λ (o : Option Instance). cond (is_some o) (length objects) (length objects + 1)) is

length_try : (objects : Objects) (k : ObjectId) (kept : Instance) (t : Tried) → Rises objects → object_at objects k ≡ Some kept → length (after_try objects k kept t) ≡ length objects
length_try objects k kept tried.Blocked h is = refl
length_try objects k kept (tried.Did guard state reply) h is = length_there objects k (record { kind = kept.kind; state = state }) kept h is
length_try objects k kept (tried.Broke guard fault) h is = refl

length_if : (objects : Objects) (call : Suspended) (t : Tried) (o : Option Instance) → Rises objects → object_at objects call.object ≡ o → length (objects_if objects call t o) ≡ length objects
length_if objects call t None h is = refl
length_if objects call t (Some kept) h is = length_try objects call.object kept t h is

-- ---- lines that make nothing

abbrev pub Neutral : Action → Type 0
Neutral (action.Make kind object) = ⊥
Neutral (action.Call kind op object args) = Unit {0}
Neutral (action.Fork text args place_on) = Unit {0}
Neutral action.Ended = Unit {0}
Neutral (action.Faulted fault) = Unit {0}

abbrev pub AllNeutral : List Line → Type 0
AllNeutral lines = (l : Line) → In l lines → Neutral l.action

ordered_after : (p : Performs) (objects : Objects) (a : Action) → Rises objects → Rises (objects_after p objects a)
ordered_after p objects (action.Make kind object) h = ordered_making objects kind object (p.made kind) h
ordered_after p objects (action.Call kind op object args) h = go (object_at objects object)
  where
    go : (o : Option Instance) → Rises (after_call p objects kind op object args o)
    go None = h
    go (Some kept) = ordered_try objects object kept (p.tries kind op kept.state args) h
ordered_after p objects (action.Fork text args place_on) h = h
ordered_after p objects action.Ended h = h
ordered_after p objects (action.Faulted fault) h = h

ordered_lines : (p : Performs) (c : Configuration) (lines : List Line) → Rises c.objects → Rises (after_lines p c lines).objects
ordered_lines p c [] h = h
ordered_lines p c (l ∷ lines) h = ordered_lines p (after_line p c l) lines (ordered_after p c.objects l.action h)

length_after : (p : Performs) (objects : Objects) (a : Action) → Neutral a → Rises objects → length (objects_after p objects a) ≡ length objects
length_after p objects (action.Make kind object) n h = absurd n
length_after p objects (action.Call kind op object args) n h = go (object_at objects object) refl
  where
    go : (o : Option Instance) → object_at objects object ≡ o → length (after_call p objects kind op object args o) ≡ length objects
    go None is = refl
    go (Some kept) is = length_try objects object kept (p.tries kind op kept.state args) h is
length_after p objects (action.Fork text args place_on) n h = refl
length_after p objects action.Ended n h = refl
length_after p objects (action.Faulted fault) n h = refl

length_lines : (p : Performs) (c : Configuration) (lines : List Line) → AllNeutral lines → Rises c.objects → length (after_lines p c lines).objects ≡ length c.objects
length_lines p c [] all h = refl
length_lines p c (l ∷ lines) all h =
    length_lines p (after_line p c l) lines (λ k u. all k (inr u)) (ordered_after p c.objects l.action h) ∙ length_after p c.objects l.action (all l (inl refl)) h

-- ---- as the queue settles

performed_neutral : (p : Performs) (s : Settling) (at : ℕ) (o : Option Suspended) → AllNeutral s.lines → AllNeutral (performed p s at o).lines
performed_neutral p s at None all = all
performed_neutral p s at (Some call) all = λ l h. ⊎_elim (λ u. all l u) (λ u. subst (λ (k : Line). Neutral k.action) (sym u) tt) (in_push l (answered call (tried_in p s.objects call)) s.lines h)

stepped_neutral : (p : Performs) (s : Settling) (o : Option ℕ) → AllNeutral s.lines → AllNeutral (stepped p s o).lines
stepped_neutral p s None all = all
stepped_neutral p s (Some at) all = performed_neutral p s at (slice_get s.queue at) all

pub settled_neutral : (p : Performs) (n : ℕ) (s : Settling) → AllNeutral s.lines → AllNeutral (settle_up_to p n s).lines
settled_neutral p zero s all = all
settled_neutral p (suc n) s all = settled_neutral p n (stepped p s (next_ready p s.objects s.queue)) (stepped_neutral p s (next_ready p s.objects s.queue) all)

length_performed : (p : Performs) (s : Settling) (at : ℕ) (o : Option Suspended) → Rises s.objects → length (performed p s at o).objects ≡ length s.objects
length_performed p s at None h = refl
length_performed p s at (Some call) h = length_if s.objects call (tried_in p s.objects call) (object_at s.objects call.object) h refl

length_stepped : (p : Performs) (s : Settling) (o : Option ℕ) → Rises s.objects → length (stepped p s o).objects ≡ length s.objects
length_stepped p s None h = refl
length_stepped p s (Some at) h = length_performed p s at (slice_get s.queue at) h

length_settled : (p : Performs) (n : ℕ) (s : Settling) → Rises s.objects → length (settle_up_to p n s).objects ≡ length s.objects
length_settled p zero s h = refl
length_settled p (suc n) s h =
    length_settled p n (stepped p s (next_ready p s.objects s.queue)) (ordered_stepped p s (next_ready p s.objects s.queue) h) ∙ length_stepped p s (next_ready p s.objects s.queue) h

called_neutral : (c : Copied) (call : Suspended) (t : Tried) → AllNeutral (called c call t).lines
called_neutral c call tried.Blocked l h = absurd h
called_neutral c call (tried.Did guard state reply) l h = ⊎_elim (λ u. subst (λ (k : Line). Neutral k.action) (sym u) tt) (λ u. absurd u) h
called_neutral c call (tried.Broke guard fault) l h = ⊎_elim (λ u. subst (λ (k : Line). Neutral k.action) (sym u) tt) (λ u. absurd u) h

length_called : (c : Copied) (call : Suspended) (t : Tried) → Rises c.objects → length (called c call t).objects ≡ length c.objects
length_called c call tried.Blocked h = refl
length_called c call (tried.Did guard state reply) h = length_if c.objects call (tried.Did guard state reply) (object_at c.objects call.object) h refl
length_called c call (tried.Broke guard fault) h = length_if c.objects call (tried.Broke guard fault) (object_at c.objects call.object) h refl

abbrev pub made : ProcessNo → CallNo → (a : Action) → IsTrue (is_performable a) → Message
made process call a ok = record { process = process; call = call; action = a; performable = ok }

-- what an action does that makes nothing
acted_neutral : (p : Performs) (c : Copied) (process : ProcessNo) (call : CallNo) (a : Action) (ok : IsTrue (is_performable a)) → Neutral a → AllNeutral (acted_by p c (made process call a ok) a).lines
acted_neutral p c process call (action.Make kind object) ok n = absurd n
acted_neutral p c process call (action.Call kind op object args) ok n = called_neutral c (as_call (made process call (action.Call kind op object args) ok) kind op object args) (tried_in p c.objects (as_call (made process call (action.Call kind op object args) ok) kind op object args))
acted_neutral p c process call (action.Fork text args place_on) ok n = λ l h. ⊎_elim (λ u. subst (λ (k : Line). Neutral k.action) (sym u) tt) (λ u. absurd u) h
acted_neutral p c process call action.Ended ok n = λ l h. absurd h
acted_neutral p c process call (action.Faulted fault) ok n = λ l h. absurd h

length_acted : (p : Performs) (c : Copied) (x : Message) (a : Action) → Neutral a → Rises c.objects → length (acted_by p c x a).objects ≡ length c.objects
length_acted p c x (action.Make kind object) n h = absurd n
length_acted p c x (action.Call kind op object args) n h = length_called c (as_call x kind op object args) (tried_in p c.objects (as_call x kind op object args)) h
length_acted p c x (action.Fork text args place_on) n h = refl
length_acted p c x action.Ended n h = refl
length_acted p c x (action.Faulted fault) n h = refl

pub both_neutral : (xs ys : List Line) → AllNeutral xs → AllNeutral ys → AllNeutral (xs ++ ys)
both_neutral xs ys one two l h = ⊎_elim (λ u. one l u) (λ u. two l u) (in_append l xs ys h)

-- the lines of an entry, or of a call on a single copy, that makes nothing
pub applied_neutral : (p : Performs) (c : Copied) (x : Message) → Neutral x.action → AllNeutral (lines_applied p c x)
applied_neutral p c x n =
    let s = acted p c x in
    both_neutral s.lines (settle_up_to p (length s.queue) (record { objects = s.objects; queue = s.queue; lines = [] })).lines (acted_neutral p c x.process x.call x.action x.performable n)
    (settled_neutral p (length s.queue) (record { objects = s.objects; queue = s.queue; lines = [] }) (λ l h. absurd h))

-- ---- an entry

-- what an entry asks of the objects that the copies, and the book, have: a single object that it makes is new, and a replicated one is in
-- both or in none
abbrev Meets : Test → Performs → Objects → Objects → Action → Type 0
Meets single p objects copies (action.Make kind object) =
    (single object ≡ true → (state : Data) → p.made kind ≡ making.Made state → object_at objects object ≡ None) × (single object ≡ false → object_at objects object ≡ object_at copies object)
Meets single p objects copies (action.Call kind op object args) = Unit {0}
Meets single p objects copies (action.Fork text args place_on) = Unit {0}
Meets single p objects copies action.Ended = Unit {0}
Meets single p objects copies (action.Faulted fault) = Unit {0}

-- the numbers stay in step, and no replicated object goes
record InStep (before : ℕ) (objects copies : Objects) (singles : Kinds) : Type 0 where
  equal : length objects ≡ length copies + length singles
  more : before ≤ length copies

make_passed : (p : Performs) (objects copies : Objects) (singles : Kinds) (kind : KindNo) (object : ObjectId) (m : Making) → Rises objects → ((state : Data) → m ≡ making.Made state → object_at objects object ≡ None) → length objects ≡ length copies + length singles
    → length (after_making objects kind object m) ≡ length copies + length (singles ++ counted_of object kind m)
make_passed p objects copies singles kind object (making.Made state) h new e =
    let a = length_new objects object (record { kind = kind; state = state }) h (new state refl) in
    let b = length-append singles ((object, kind) ∷ []) in
    omega (arith, a, b, e)
make_passed p objects copies singles kind object (making.Broke fault) h new e = let b = length-append singles [] in omega (arith, b, e)

make_applied : (objects copies : Objects) (n : ℕ) (kind : KindNo) (object : ObjectId) (m : Making) → Rises objects → Rises copies → object_at objects object ≡ object_at copies object → length objects ≡ length copies + n
    → (length (after_making objects kind object m) ≡ length (after_making copies kind object m) + n) × (length copies ≤ length (after_making copies kind object m))
make_applied objects copies n kind object (making.Made state) h g same e = go (object_at copies object) refl
  where
    go : (o : Option Instance) → object_at copies object ≡ o → (length (with_object objects object (record { kind = kind; state = state })) ≡ length (with_object copies object (record { kind = kind; state = state })) + n) × (length copies ≤ length (with_object copies object (record { kind = kind; state = state })))
    go None is =
        let a = length_new objects object (record { kind = kind; state = state }) h (same ∙ is) in
        let b = length_new copies object (record { kind = kind; state = state }) g is in
        (omega (arith, a, b, e), omega (arith, b))
    go (Some kept) is =
        let a = length_there objects object (record { kind = kind; state = state }) kept h (same ∙ is) in
        let b = length_there copies object (record { kind = kind; state = state }) kept g is in
        (omega (arith, a, b, e), omega (arith, b))
make_applied objects copies n kind object (making.Broke fault) h g same e = (e, omega arith)

-- an entry that makes nothing
neutral_entry : (single : Test) (p : Performs) (c : Configuration) (copies : Copied) (x : Message) → Neutral x.action → is_passed single x.action ≡ false → counted_by single p x.action ≡ [] → Rises c.objects → Rises copies.objects → length c.objects ≡ length copies.objects + length copies.singles
    → InStep (length copies.objects) (after_lines p c (lines_after single p copies x)).objects (after single p copies x).objects (after single p copies x).singles
neutral_entry single p c copies x n applied none h g e =
    let s = acted p copies x in
    let start : Settling = record { objects = s.objects; queue = s.queue; lines = [] } in
    let lines : lines_after single p copies x ≡ lines_applied p copies x = ap (λ b. if b then (acted p copies x).lines else lines_applied p copies x) applied in
    let objects : (after single p copies x).objects ≡ (after_applied p copies x).objects = ap (λ b. (if b then after_passed p false copies x else after_applied p copies x).objects) applied in
    let a = ap (λ (ls : List Line). length (after_lines p c ls).objects) lines ∙ length_lines p c (lines_applied p copies x) (applied_neutral p copies x n) h in
    let b = ap (λ (es : Objects). length es) objects ∙ length_settled p (length s.queue) start (ordered_acted p copies x x.action g) ∙ length_acted p copies x x.action n g in
    let d = ap (λ (ks : Kinds). length ks) (entry_counts single p copies x ∙ ap (λ (ks : Kinds). copies.singles ++ ks) none) in
    let f = length-append copies.singles [] in
    record { equal = omega (arith, a, b, d, e, f); more = omega (arith, b) }

entry_in_step : (single : Test) (p : Performs) (c : Configuration) (copies : Copied) (process : ProcessNo) (call : CallNo) (a : Action) (ok : IsTrue (is_performable a)) → Rises c.objects → Rises copies.objects → Meets single p c.objects copies.objects a
    → length c.objects ≡ length copies.objects + length copies.singles
    → InStep (length copies.objects) (after_lines p c (lines_after single p copies (made process call a ok))).objects (after single p copies (made process call a ok)).objects (after single p copies (made process call a ok)).singles
entry_in_step single p c copies process call (action.Make kind object) ok h g meets e = go (single object) refl
  where
    x : Message
    x = made process call (action.Make kind object) ok

    s : Settling
    s = acted p copies x

    start : Settling
    start = record { objects = s.objects; queue = s.queue; lines = [] }

    more : List Line
    more = (settle_up_to p (length s.queue) start).lines

    go : (b : Bool) → single object ≡ b → InStep (length copies.objects) (after_lines p c (lines_after single p copies x)).objects (after single p copies x).objects (after single p copies x).singles
    go true is =
        let lines : lines_after single p copies x ≡ line_of x (making_reply (p.made kind)) ∷ [] = ap (λ b. if b then (acted p copies x).lines else lines_applied p copies x) is in
        let objects : (after single p copies x).objects ≡ copies.objects = ap (λ b. (if b then after_passed p false copies x else after_applied p copies x).objects) is in
        let counts : (after single p copies x).singles ≡ copies.singles ++ counted_of object kind (p.made kind) =
        entry_counts single p copies x ∙ ap (λ b. copies.singles ++ (if b then counted_of object kind (p.made kind) else [])) is in
        let a = ap (λ (ls : List Line). length (after_lines p c ls).objects) lines in
        let b = ap (λ (es : Objects). length es) objects in
        let d = ap (λ (ks : Kinds). length ks) counts in
        let f = make_passed p c.objects copies.objects copies.singles kind object (p.made kind) h (meets.0 is) e in
        record { equal = omega (arith, a, b, d, f); more = omega (arith, b) }
    go false is =
        let lines : lines_after single p copies x ≡ line_of x (making_reply (p.made kind)) ∷ more = ap (λ b. if b then (acted p copies x).lines else lines_applied p copies x) is in
        let objects : (after single p copies x).objects ≡ (after_applied p copies x).objects = ap (λ b. (if b then after_passed p false copies x else after_applied p copies x).objects) is in
        let counts : (after single p copies x).singles ≡ copies.singles ++ [] = entry_counts single p copies x ∙ ap (λ b. copies.singles ++ (if b then counted_of object kind (p.made kind) else [])) is in
        let made_it = after_line p c (line_of x (making_reply (p.made kind))) in
        let a = ap (λ (ls : List Line). length (after_lines p c ls).objects) lines ∙ length_lines p made_it more (settled_neutral p (length s.queue) start (λ l u. absurd u)) (ordered_making c.objects kind object (p.made kind) h) in
        let b = ap (λ (es : Objects). length es) objects ∙ length_settled p (length s.queue) start (ordered_making copies.objects kind object (p.made kind) g) in
        let d = ap (λ (ks : Kinds). length ks) counts in
        let f = length-append copies.singles [] in
        let m = make_applied c.objects copies.objects (length copies.singles) kind object (p.made kind) h g (meets.1 is) e in
        let m0 = m.0 in
        let m1 = m.1 in
        record { equal = omega (arith, a, b, d, f, m0); more = omega (arith, b, m1) }
entry_in_step single p c copies process call (action.Call kind op object args) ok h g meets e = neutral_entry single p c copies (made process call (action.Call kind op object args) ok) tt refl refl h g e
entry_in_step single p c copies process call (action.Fork text args place_on) ok h g meets e = neutral_entry single p c copies (made process call (action.Fork text args place_on) ok) tt refl refl h g e
entry_in_step single p c copies process call action.Ended ok h g meets e = absurd (cc ok)
entry_in_step single p c copies process call (action.Faulted fault) ok h g meets e = absurd (cc ok)

-- ---- beside the list

abbrev AllBeside : List Placed → Type 0
AllBeside aside = (r : Placed) → In r aside → Neutral r.line.action

at_from : (n : ℕ) (l : Line) (aside : List Placed) → In l (aside_at n aside) → (r : Placed) × In r aside × (r.line ≡ l)
at_from n l [] h = absurd h
at_from n l (r ∷ aside) h = go (r.place == n) (at_from n l aside) h
  where
    go : (b : Bool) → (In l (aside_at n aside) → (s : Placed) × In s aside × (s.line ≡ l)) → In l (if b then r.line ∷ aside_at n aside else aside_at n aside) → (s : Placed) × In s (r ∷ aside) × (s.line ≡ l)
    go true ih (inl e) = (r, inl refl, sym e)
    go true ih (inr u) = let v = ih u in (v.0, inr v.1, v.2)
    go false ih u = let v = ih u in (v.0, inr v.1, v.2)

pub aside_neutral : (n : ℕ) (aside : List Placed) → AllBeside aside → AllNeutral (aside_at n aside)
aside_neutral n aside all l h = let u = at_from n l aside h in subst (λ (k : Line). Neutral k.action) u.2 (all u.0 u.1)

next_beside : (single : Test) (p : Performs) (q : Computes) (w v : Course) → Next single p q w v → AllBeside w.aside → AllBeside v.aside
next_beside single p q w v (Submits j x m here free asks e) all = subst (λ (u : Course). AllBeside u.aside) (sym e) all
next_beside single p q w v (Orders x r here was new may plain e) all = subst (λ (u : Course). AllBeside u.aside) (sym e) all
next_beside single p q w v (Forks x born member was new forks e) all = subst (λ (u : Course). AllBeside u.aside) (sym e) all
next_beside single p q w v (Applies m y is e) all = subst (λ (u : Course). AllBeside u.aside) (sym e) all
next_beside single p q w v (Reads_at j x n line here h e) all = subst (λ (u : Course). AllBeside u.aside) (sym e) (λ r inside. ⊎_elim
    (λ u. all r u)
    (λ u. let i = h.is_read in subst (λ (s : Placed). Neutral s.line.action) (sym u) (subst Neutral (sym i.is) tt))
    (in_push r (record { place = n; line = line }) w.aside inside))
next_beside single p q w v (Takes_call i x r call t e) all = subst (λ (u : Course). AllBeside u.aside) (sym e) (λ s inside. ⊎_elim
    (λ u. all s u)
    (λ u. let a = in_placed (w.applied x.owner) s (lines_on p x call) u in applied_neutral p (side (alone x)) (message_of call) tt s.line a.1)
    (in_append s w.aside (at_place (w.applied x.owner) (lines_on p x call)) inside))
next_beside single p q w v (Hears_answer j x r here has le e) all = subst (λ (u : Course). AllBeside u.aside) (sym e) all

pub all_beside : (single : Test) (p : Performs) (q : Computes) (w : Course) → Came single p q w → AllBeside w.aside
all_beside single p q w (Opens member shared) = λ r h. absurd h
all_beside single p q w (Then u v came next) = next_beside single p q u v next (all_beside single p q u came)

-- ---- every run

meets_at : (single : Test) (p : Performs) (q : Computes) (w : Course) (n : ℕ) (y : Message) (a : Action) → y.action ≡ a → Came single p q w → slice_get w.list n ≡ Some y → Meets single p (objects_of p q (up_to single p w.list w.aside n)) (copies_at single p w.list n).objects a
meets_at single p q w n y (action.Make kind object) e came is =
    (λ of_test state m. new of_test state m (object_at (objects_of p q (up_to single p w.list w.aside n)) object) refl, λ replicated. let f = k.follows n in f.objects object replicated)
  where
    k : Kept single p q w.list w.aside w.owned w.entered w.applied w.runners
    k = let sound = came_sound single p q w came in sound.kept

    new : single object ≡ true → (state : Data) → p.made kind ≡ making.Made state → (o : Option Instance) → object_at (objects_of p q (up_to single p w.list w.aside n)) object ≡ o → object_at (objects_of p q (up_to single p w.list w.aside n)) object ≡ None
    new of_test state m None f = f
    new of_test state m (Some kept) f =
        let u = k.known n object kept of_test f in
        let v = makes_have_copies single p q w came n y kind object state is e of_test m in
        let same = k.distinct u.0 v.at u.1 v.copy u.2 v.there (u.3 ∙ sym v.object) in
        let one : Some u.1 ≡ Some v.copy = sym u.2 ∙ ap (slice_get w.owned) same ∙ v.there in
        let copy : u.1 ≡ v.copy = cc one in
        let place = ap (λ (s : Single). s.place) copy in
        let late = v.place in
        let early = u.4 in
        absurd (omega (arith, place, late, early))
meets_at single p q w n y (action.Call kind op object args) e came is = tt
meets_at single p q w n y (action.Fork text args place_on) e came is = tt
meets_at single p q w n y action.Ended e came is = tt
meets_at single p q w n y (action.Faulted fault) e came is = tt

pub take_none : {A : Type 0} (xs : List A) (m : ℕ) → slice_get xs m ≡ None → take (suc m) xs ≡ take m xs
take_none [] zero none = refl
take_none [] (suc m) none = refl
take_none (x ∷ xs) zero none = absurd (cc none)
take_none {A} (x ∷ xs) (suc m) none = ap (λ (r : List A). x ∷ r) (take_none xs m none)

record Counted (single : Test) (p : Performs) (q : Computes) (ms : List Message) (aside : List Placed) : Type 0 where
  equal : length (objects_of p q (book single p ms aside)) ≡ length (after_all single p opening_copies ms).objects + length (after_all single p opening_copies ms).singles
  some : 1 ≤ length (after_all single p opening_copies ms).objects

counted_at : (single : Test) (p : Performs) (q : Computes) (w : Course) (n : ℕ) → Came single p q w → Counted single p q (take n w.list) w.aside
counted_at single p q w zero came =
    let a = length_lines p (opening q) (aside_at 0 w.aside ++ []) (both_neutral (aside_at 0 w.aside) [] (aside_neutral 0 w.aside (all_beside single p q w came)) (λ l h. absurd h)) tt in
    record { equal = a; some = omega arith }
counted_at single p q w (suc n) came = go (counted_at single p q w n came) (slice_get w.list n) refl
  where
    copies : Copied
    copies = copies_at single p w.list n

    c : Configuration
    c = after_lines p (opening q) (up_to single p w.list w.aside n)

    in_order : Rises c.objects
    in_order = ordered_lines p (opening q) (up_to single p w.list w.aside n) tt

    go : Counted single p q (take n w.list) w.aside → (x : Option Message) → slice_get w.list n ≡ x → Counted single p q (take (suc n) w.list) w.aside
    go ih None is = subst (λ (ms : List Message). Counted single p q ms w.aside) (sym (take_none w.list n is)) ih
    go ih (Some y) is = subst (λ (ms : List Message). Counted single p q ms w.aside) (sym (take_at w.list n y is)) (record { equal = equal; some = some })
      where
        lines : List Line
        lines = lines_after single p copies y

        beside : List Line
        beside = aside_at (copies.applied + 1) w.aside

        step : InStep (length copies.objects) (after_lines p c lines).objects (after single p copies y).objects (after single p copies y).singles
        step = entry_in_step single p c copies y.process y.call y.action y.performable in_order (copies_in_order single p w.list n) (meets_at single p q w n y y.action refl came is) ih.equal

        grows : after_all single p opening_copies (take n w.list ++ y ∷ []) ≡ after single p copies y
        grows = copies_push single p (take n w.list) y

        whole : after_lines p (opening q) (book single p (take n w.list ++ y ∷ []) w.aside) ≡ after_lines p (after_lines p c lines) (beside ++ [])
        whole = ap (after_lines p (opening q)) (book-append single p (take n w.list) (y ∷ []) w.aside ∙ ap (λ (ls : List Line). up_to single p w.list w.aside n ++ ls) (append_assoc lines beside []))
            ∙ after_lines-append p (opening q) (up_to single p w.list w.aside n) (lines ++ (beside ++ [])) ∙ after_lines-append p c lines (beside ++ [])

        equal : length (objects_of p q (book single p (take n w.list ++ y ∷ []) w.aside)) ≡ length (after_all single p opening_copies (take n w.list ++ y ∷ [])).objects + length (after_all single p opening_copies (take n w.list ++ y ∷ [])).singles
        equal =
            let a = ap (λ (d : Configuration). length d.objects) whole in
            let b = length_lines p (after_lines p c lines) (beside ++ []) (both_neutral beside [] (aside_neutral (copies.applied + 1) w.aside (all_beside single p q w came)) (λ l h. absurd h)) (ordered_lines p c lines in_order) in
            let d = step.equal in
            let e = ap (λ (z : Copied). length z.objects + length z.singles) grows in
            omega (arith, a, b, d, e)

        some : 1 ≤ length (after_all single p opening_copies (take n w.list ++ y ∷ [])).objects
        some = let a = step.more in let b = ih.some in let e = ap (λ (z : Copied). length z.objects) grows in omega (arith, a, b, e)

pub objects_counted : ObjectsCounted
objects_counted single p q w came n = let h = counted_at single p q w n came in let a = h.equal in let b = h.some in omega (arith, a, b)
