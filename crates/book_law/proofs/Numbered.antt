-- The ids of the objects that entries made: of processes that the list has, and with numbers up to how many entries it has.
use Rattle.std.proofs.Common.{◌≡◌, ℕ, zero, suc, ◌+◌, ◌≤◌, inl, inr, ⊎_elim, Bool, true, false, Option, Some, None, List, [], ◌∷◌, ◌++◌, length, take, refl, sym, ap, ◌∙◌, arith, subst, append_assoc, if◌then◌else◌}
use Rattle.std.specs.Prelude.{IsTrue, slice_get}
use Rattle.std.specs.List.{Contains}
use Rattle.std.proofs.lemmas.List.{length-append}
use Rattle.std.proofs.lemmas.List.Elements.{Contains-append_cases}
use Rattle.std.proofs.lemmas.Option.{slice_get_within}
use Rattle.orca_base.specs.declared.ids.KindNo.{KindNo}
use Rattle.orca_base.specs.declared.ids.ObjectId.{ObjectId}
use Rattle.orca_base.specs.declared.ids.ProcessNo.{ProcessNo}
use Rattle.orca_base.specs.declared.ids.CallNo.{CallNo}
use Rattle.value_core.specs.Datum as datum
use Rattle.value_core.specs.Performable.{is_performable}
use Rattle.value_core.specs.Lawful.{made_by, own_objects}
use Rattle.value_core.specs.declared.action.Instance.{Instance}
use Rattle.value_core.specs.declared.action.Line.{Line}
use Rattle.value_core.specs.declared.action.Action.{Action}
use Rattle.value_core.specs.declared.action.Action.TheVariants as action
use Rattle.value_core.specs.declared.action.Reply.{Reply}
use Rattle.value_core.specs.declared.action.Reply.TheVariants as answer
use Rattle.value_core.specs.declared.meaning.Doing.{Doing}
use Rattle.value_core.specs.declared.meaning.Doing.TheVariants as doing
use Rattle.value_core.specs.declared.message.Message.{Message}
use Rattle.value_core.specs.Meaning.{Performs, Computes}
use Rattle.value_core.specs.History.{Configuration, IsStep, LegalFrom, Process, after_line, after_lines, forked, object_at, opening}
use Rattle.guard_queue.specs.Fitting.{kinds_of}
use Rattle.guard_queue.specs.Settles.{settle_up_to}
use Rattle.object_manager.specs.After.{Copied, acted, lines_after as lines_applied, making_reply, line_of}
use Rattle.object_manager.specs.Singles.{kinds_at}
use Rattle.book_law.specs.Passes.{Test, lines_after}
use Rattle.book_law.specs.Singles.{Single}
use Rattle.book_law.specs.Book.{aside_at, behind, book, copies_at, up_to}
use Rattle.book_law.specs.Course.{Came, Course}
use Rattle.book_law.specs.Events.{In}
use Rattle.book_law.specs.Fitness.{ArgsFit, ReplyFits, StateFits, TextFits}
use Rattle.book_law.specs.Machines.{IsNumbered}
use Rattle.book_law.proofs.Apart.{singles_apart}
use Rattle.book_law.proofs.Books.{book-append, copies_more, cut, take_at, up_to_all}
use Rattle.book_law.proofs.Calls.{came_output, fits_at}
use Rattle.book_law.proofs.Counting.{AllNeutral, Neutral, all_beside, applied_neutral, aside_neutral, both_neutral, made, settled_neutral, take_none}
use Rattle.book_law.proofs.Courses.{came_sound}
use Rattle.book_law.proofs.Fits.{Fit, IsMade, Laws}
use Rattle.book_law.proofs.Fitting.{has_kind}
use Rattle.book_law.proofs.Kept.{Kept}
use Rattle.book_law.proofs.Ordered.{copies_in_order}
use Rattle.book_law.proofs.Processes.{after_cases, after_lines-append, forked_fresh, legal_left, legal_right, with_reply}
use Rattle.book_law.proofs.Shared.{copies_shared}
use Rattle.book_law.proofs.Typed.{kind_found, own-push}

-- ---- how many objects a process made

abbrev made_so_far : Computes → ℕ → Process → ℕ
made_so_far q j x = length (own_objects q x.text (record { 0 = j }) x.args x.replies)

-- each process made at most so many
abbrev OwnWithin : Computes → ℕ → Configuration → Type 0
OwnWithin q most c = (j : ℕ) (x : Process) → slice_get c.processes j ≡ Some x → made_so_far q j x ≤ most

-- one line makes one object at most, and none where it is no make
made_few : (a : Action) (reply : Reply) → length (made_by (doing.At a) reply) ≤ 1
made_few (action.Make kind object) answer.Done = omega arith
made_few (action.Make kind object) (answer.Gave value) = omega arith
made_few (action.Make kind object) (answer.Broke fault) = omega arith
made_few (action.Call kind op object args) reply = omega arith
made_few (action.Fork text args place_on) reply = omega arith
made_few action.Ended reply = omega arith
made_few (action.Faulted fault) reply = omega arith

made_none : (a : Action) (reply : Reply) → Neutral a → length (made_by (doing.At a) reply) ≤ 0
made_none (action.Make kind object) reply n = absurd n
made_none (action.Call kind op object args) reply n = omega arith
made_none (action.Fork text args place_on) reply n = omega arith
made_none action.Ended reply n = omega arith
made_none (action.Faulted fault) reply n = omega arith

own_step : (p : Performs) (q : Computes) (c : Configuration) (line : Line) (most added : ℕ) → IsStep p q c line → length (made_by (doing.At line.action) line.reply) ≤ added → OwnWithin q most c → OwnWithin q (most + added) (after_line p c line)
own_step p q c line most added s few h j y is = ⊎_elim (λ u. mine u.0 u.1) (λ u. ⊎_elim (λ v. let r = h j y v.1 in omega (arith, r)) born u) (after_cases p c line j s.process y s.exists is)
  where
    mine : line.process.0 ≡ j → y ≡ with_reply s.process line.reply → made_so_far q j y ≤ most + added
    mine by e =
        let had = own_objects q s.process.text line.process s.process.args s.process.replies in
        let new = made_by (doing.At line.action) line.reply in
        let before = h line.process.0 s.process s.exists in
        let grew = ap (λ ks. length ks) (own-push q s.process.text line.process s.process.args [] s.process.replies line.reply ∙ ap (λ (d : Doing). had ++ made_by d line.reply) s.next) in
        let long = length-append had new in
        let same : made_so_far q j y ≡ made_so_far q line.process.0 (with_reply s.process line.reply) = ap (made_so_far q j) e ∙ ap (λ (n : ℕ). made_so_far q n (with_reply s.process line.reply)) (sym by) in
        omega (arith, before, grew, long, same, few)

    born : In y (forked line.action) → made_so_far q j y ≤ most + added
    born u =
        let none = ap (λ (rs : List Reply). length (own_objects q y.text (record { 0 = j }) y.args rs)) (forked_fresh line.action y u) in
        omega (arith, none)

neutral_lines : (p : Performs) (q : Computes) (c : Configuration) (lines : List Line) (most : ℕ) → LegalFrom p q c lines → AllNeutral lines → OwnWithin q most c → OwnWithin q most (after_lines p c lines)
neutral_lines p q c [] most legal all h = h
neutral_lines p q c (l ∷ lines) most legal all h =
    let one = own_step p q c l most 0 legal.0 (made_none l.action l.reply (all l (inl refl))) h in
    neutral_lines p q (after_line p c l) lines most legal.1 (λ k u. all k (inr u)) (λ j y is. let r = one j y is in omega (arith, r))

one_made : (p : Performs) (q : Computes) (c : Configuration) (l : Line) (lines : List Line) (most : ℕ) → LegalFrom p q c (l ∷ lines) → AllNeutral lines → OwnWithin q most c → OwnWithin q (suc most) (after_lines p c (l ∷ lines))
one_made p q c l lines most legal all h =
    let one = own_step p q c l most 1 legal.0 (made_few l.action l.reply) h in
    neutral_lines p q (after_line p c l) lines (suc most) legal.1 all (λ j y is. let r = one j y is in omega (arith, r))

-- an entry makes one at most
more_within : (q : Computes) (most : ℕ) (c : Configuration) → OwnWithin q most c → OwnWithin q (suc most) c
more_within q most c h j x is = let r = h j x is in omega (arith, r)

entry_within : (single : Test) (p : Performs) (q : Computes) (c : Configuration) (copies : Copied) (process : ProcessNo) (call : CallNo) (a : Action) (ok : IsTrue (is_performable a)) (most : ℕ) → LegalFrom p q c (lines_after single p copies (made process call a ok)) → OwnWithin q most c
    → OwnWithin q (suc most) (after_lines p c (lines_after single p copies (made process call a ok)))
entry_within single p q c copies process call (action.Make kind object) ok most legal h = go (single object) legal
  where
    x : Message
    x = made process call (action.Make kind object) ok

    line : Line
    line = line_of x (making_reply (p.made kind))

    rest : List Line
    rest = let s = acted p copies x in (settle_up_to p (length s.queue) (record { objects = s.objects; queue = s.queue; lines = [] })).lines

    go : (b : Bool) → LegalFrom p q c (if b then (acted p copies x).lines else lines_applied p copies x) → OwnWithin q (suc most) (after_lines p c (if b then (acted p copies x).lines else lines_applied p copies x))
    go true legal_one = one_made p q c line [] most legal_one (λ l u. absurd u) h
    go false legal_all =
        let s = acted p copies x in
        one_made p q c line rest most legal_all (settled_neutral p (length s.queue) (record { objects = s.objects; queue = s.queue; lines = [] }) (λ l u. absurd u)) h
entry_within single p q c copies process call (action.Call kind op object args) ok most legal h =
    let x = made process call (action.Call kind op object args) ok in
    let lines = lines_applied p copies x in
    more_within q most (after_lines p c lines) (neutral_lines p q c lines most legal (applied_neutral p copies x tt) h)
entry_within single p q c copies process call (action.Fork text args place_on) ok most legal h =
    let x = made process call (action.Fork text args place_on) ok in
    let lines = lines_applied p copies x in
    more_within q most (after_lines p c lines) (neutral_lines p q c lines most legal (applied_neutral p copies x tt) h)
entry_within single p q c copies process call action.Ended ok most legal h = absurd (cc ok)
entry_within single p q c copies process call (action.Faulted fault) ok most legal h = absurd (cc ok)

opening_within : (q : Computes) → OwnWithin q 0 (opening q)
opening_within q zero x is =
    let g : record { text = q.main; args = datum.none; replies = [] } ≡ x = cc is in
    let none = ap (made_so_far q 0) (sym g) in
    omega (arith, none)
opening_within q (suc j) x is = absurd (cc is)

legal_at : (single : Test) (p : Performs) (q : Computes) (w : Course) (n : ℕ) → Came single p q w → LegalFrom p q (opening q) (up_to single p w.list w.aside n)
legal_at single p q w n came =
    let sound = came_sound single p q w came in
    let k = sound.kept in
    legal_left p q (opening q) (up_to single p w.list w.aside n) (behind single p w.list w.aside n) (subst (λ (ls : List Line). LegalFrom p q (opening q) ls) (cut single p w.list w.aside n) k.legal)

-- after as many entries as any each process made at most so many objects
own_within : (single : Test) (p : Performs) (q : Computes) (w : Course) (n : ℕ) → Came single p q w → OwnWithin q n (after_lines p (opening q) (up_to single p w.list w.aside n))
own_within single p q w zero came =
    neutral_lines p q (opening q) (aside_at 0 w.aside ++ []) 0 (legal_at single p q w 0 came) (both_neutral (aside_at 0 w.aside) [] (aside_neutral 0 w.aside (all_beside single p q w came)) (λ l u. absurd u)) (opening_within q)
own_within single p q w (suc n) came = go (own_within single p q w n came) (slice_get w.list n) refl
  where
    copies : Copied
    copies = copies_at single p w.list n

    before : List Line
    before = up_to single p w.list w.aside n

    c : Configuration
    c = after_lines p (opening q) before

    go : OwnWithin q n c → (x : Option Message) → slice_get w.list n ≡ x → OwnWithin q (suc n) (after_lines p (opening q) (up_to single p w.list w.aside (suc n)))
    go ih None is = subst (λ (ms : List Message). OwnWithin q (suc n) (after_lines p (opening q) (book single p ms w.aside))) (sym (take_none w.list n is)) (more_within q n c ih)
    go ih (Some y) is = subst (λ (ls : List Line). OwnWithin q (suc n) (after_lines p (opening q) ls)) (sym whole) (subst (λ (d : Configuration). OwnWithin q (suc n) d) (sym after) last)
      where
        lines : List Line
        lines = lines_after single p copies y

        beside : List Line
        beside = aside_at (copies.applied + 1) w.aside

        whole : up_to single p w.list w.aside (suc n) ≡ before ++ (lines ++ (beside ++ []))
        whole = ap (λ (ms : List Message). book single p ms w.aside) (take_at w.list n y is)
            ∙ (book-append single p (take n w.list) (y ∷ []) w.aside ∙ ap (λ (ls : List Line). before ++ ls) (append_assoc lines beside []))

        legal : LegalFrom p q c (lines ++ (beside ++ []))
        legal = legal_right p q (opening q) before (lines ++ (beside ++ [])) (subst (λ (ls : List Line). LegalFrom p q (opening q) ls) whole (legal_at single p q w (suc n) came))

        after : after_lines p (opening q) (before ++ (lines ++ (beside ++ []))) ≡ after_lines p (after_lines p c lines) (beside ++ [])
        after = after_lines-append p (opening q) before (lines ++ (beside ++ [])) ∙ after_lines-append p c lines (beside ++ [])

        entered : OwnWithin q (suc n) (after_lines p c lines)
        entered = entry_within single p q c copies y.process y.call y.action y.performable n (legal_left p q c lines (beside ++ []) legal) ih

        last : OwnWithin q (suc n) (after_lines p (after_lines p c lines) (beside ++ []))
        last = neutral_lines p q (after_lines p c lines) (beside ++ []) (suc n) (legal_right p q c lines (beside ++ []) legal) (both_neutral beside [] (aside_neutral (copies.applied + 1) w.aside (all_beside single p q w came)) (λ l u. absurd u)) entered

-- ---- so each object that exists is numbered

pub numbered : (single : Test) (p : Performs) (q : Computes) (fits_state : StateFits) (fits_args : ArgsFit) (fits_text : TextFits) (fits_reply : ReplyFits) (w : Course) → Laws p q fits_state fits_args fits_text fits_reply → Came single p q w
    → (n : ℕ) (entry : ObjectId × KindNo) → n ≤ length w.list → Contains (kinds_at (copies_at single p w.list n)) entry → IsNumbered single p w entry.0
numbered single p q fits_state fits_args fits_text fits_reply w laws came n entry le inside = ⊎_elim shared alone (Contains-append_cases (kinds_of copies.objects) copies.singles entry inside)
  where
    k : Kept single p q w.list w.aside w.owned w.entered w.applied w.runners
    k = let sound = came_sound single p q w came in sound.kept

    o : ObjectId
    o = entry.0

    copies : Copied
    copies = copies_at single p w.list n

    -- it exists after a place of the book
    exists : (m : ℕ) (kept : Instance) → m ≤ length w.list → object_at (after_lines p (opening q) (up_to single p w.list w.aside m)).objects o ≡ Some kept → IsNumbered single p w o
    exists m kept short is = by (f.made o kept is)
      where
        c : Configuration
        c = after_lines p (opening q) (up_to single p w.list w.aside m)

        f : Fit q fits_state fits_text fits_reply c
        f = fits_at single p q fits_state fits_args fits_text fits_reply w.list w.aside m laws k.legal

        by : IsMade q c o → IsNumbered single p w o
        by (inl e) =
            let first = copies_more single p w.list 0 (length w.list) (omega arith) in
            let process = ap (λ (y : ObjectId). y.process) e in
            let number = ap (λ (y : ObjectId). y.number) e in
            record { process = omega (arith, first, process); number = omega (arith, number) }
        by (inr (x, at, few)) =
            let g = k.follows m in
            let count = g.processes in
            let there = slice_get_within c.processes o.process x at in
            let grows = copies_more single p w.list m (length w.list) short in
            let own = own_within single p q w m came o.process x at in
            record { process = omega (arith, count, there, grows); number = omega (arith, few, own, short) }

    shared : Contains (kinds_of copies.objects) entry → IsNumbered single p w o
    shared h = go (single o) refl
      where
        there : (kept : Instance) × (object_at copies.objects o ≡ Some kept) × (kept.kind ≡ entry.1)
        there = has_kind (object_at copies.objects o) entry.1 (kind_found copies.objects o entry.1 (copies_in_order single p w.list n) h)

        go : (b : Bool) → single o ≡ b → IsNumbered single p w o
        go true e = absurd (let none : None ≡ Some there.0 = sym (copies_shared single p w.list n (came_output single p q w came) o e) ∙ there.1 in cc none)
        go false e = let g = k.follows n in exists n there.0 le (g.objects o e ∙ there.1)

    alone : Contains copies.singles entry → IsNumbered single p w o
    alone h =
        let apart = singles_apart single p q w came in
        let one = (apart.counted n o).0 (h.0, entry, h.1, h.2, refl) in
        let x : Single = one.1 in
        let owns = k.owns one.0 x one.2 in
        exists (length w.list) x.kept (omega arith)
        (ap (λ (ls : List Line). object_at (after_lines p (opening q) ls).objects o) (up_to_all single p w.list w.aside (length w.list) (omega arith))
        ∙ ap (object_at (after_lines p (opening q) (book single p w.list w.aside)).objects) (sym one.3) ∙ owns.state)
