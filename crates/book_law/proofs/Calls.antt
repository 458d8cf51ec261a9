-- What the calls on copies ask is met in every run of a lawful program.
use Rattle.std.proofs.Common.{◌≡◌, ℕ, ◌+◌, ◌≤◌, ◌<◌, ◌⊎◌, inl, inr, ⊎_elim, Bool, true, false, Option, Some, None, List, [], ◌∷◌, ◌++◌, length, take, refl, sym, ap, ◌∙◌, arith, subst}
use Rattle.std.specs.Prelude.{slice_get}
use Rattle.std.specs.List.{Contains}
use Rattle.std.proofs.lemmas.Bool.{cases_lt}
use Rattle.std.proofs.lemmas.List.{length_push, take-append-le, take_all}
use Rattle.std.proofs.lemmas.List.Elements.{Contains-append_left, Contains-append_right}
use Rattle.std.proofs.lemmas.Option.{slice_get_within}
use Rattle.orca_base.specs.declared.ids.KindNo.{KindNo}
use Rattle.orca_base.specs.declared.ids.OpNo.{OpNo}
use Rattle.orca_base.specs.declared.ids.ProcessNo.{ProcessNo}
use Rattle.orca_base.specs.declared.ids.ObjectId.{ObjectId}
use Rattle.value_core.specs.Datum.{Data}
use Rattle.value_core.specs.Fits.{ExtendsKinds, Kinds}
use Rattle.value_core.specs.Lawful.{IsLawfulDoing}
use Rattle.value_core.specs.declared.action.Class.TheVariants.{Reads}
use Rattle.value_core.specs.declared.action.Instance.{Instance}
use Rattle.value_core.specs.declared.action.Line.{Line}
use Rattle.value_core.specs.declared.message.Message.{Message}
use Rattle.value_core.specs.declared.action.Action.{Action}
use Rattle.value_core.specs.declared.action.Action.TheVariants as action
use Rattle.value_core.specs.declared.meaning.Doing.{Doing}
use Rattle.value_core.specs.declared.meaning.Doing.TheVariants as doing
use Rattle.value_core.specs.Meaning.{Performs, Computes}
use Rattle.value_core.specs.History.{Answers, Configuration, LegalFrom, Objects, Process, after_line, after_lines, most_turns, object_at, opening, output_object}
use Rattle.guard_queue.specs.declared.queue.Suspended.{Suspended}
use Rattle.guard_queue.specs.Fitting.{OperationFits, kind_at, kind_in, kinds_of}
use Rattle.object_manager.specs.After.{Copied, opening_copies}
use Rattle.book_law.specs.Passes.{Test, after_all, counted}
use Rattle.book_law.specs.Book.{Placed, behind, book, copies_at, up_to}
use Rattle.book_law.specs.Course.{Came, Course, Next, forking, ordered}
use Rattle.book_law.specs.Course.Next.{Submits, Orders, Forks, Applies as Hears, Reads_at, Takes_call, Hears_answer}
use Rattle.book_law.specs.Course.Came.{Opens, Then}
use Rattle.object_manager.specs.Applies.{Applies}
use Rattle.object_manager.specs.Singles.{IsCounted}
use Rattle.book_law.specs.Fitness.{ArgsFit, Callable, IsOut, MayCall, StateFits}
use Rattle.book_law.proofs.Fits.{AllApply, AllQueued, AllStatesFit, Fit, Laws, MayApply, MayRead, ReplyFits, TextFits, kinds_at}
use Rattle.book_law.specs.Singles.{Single, waiting, waits}
use Rattle.book_law.specs.Events.{Calls, In, IsRead, Makes, Runner}
use Rattle.book_law.proofs.Kept.{IsNext, Kept, Stands}
use Rattle.book_law.proofs.Lists.{at_push, in_at, in_waits}
use Rattle.book_law.proofs.Books.{copies_all, cut, up_to_all}
use Rattle.book_law.proofs.Courses.{came_sound, fresh_of, has_out, next_keeps, pending}
use Rattle.book_law.proofs.Entries.{Enters, as_received, comes, follows_all, fork_may}
use Rattle.book_law.proofs.Fitting.{acts, has_kind, history_fits, known, opening_fits, step_fits, unmade}
use Rattle.book_law.proofs.Ordered.{copies_in_order, is_read}
use Rattle.book_law.proofs.Owned.{contains_map, waits_at}
use Rattle.book_law.proofs.Objects.{spared_lines}
use Rattle.book_law.proofs.Processes.{after_lines-append, legal_left, legal_right}
use Rattle.book_law.proofs.Reading.{at_place}
use Rattle.book_law.proofs.Resting.{not_entered}
use Rattle.book_law.proofs.Shared.{copies_shared}
use Rattle.book_law.proofs.Stages.{stage_free, stage_new, stage_waits}
use Rattle.book_law.proofs.Typed.{kind_contained, kind_found}

-- all fits after each place of the book
pub fits_at : (single : Test) (p : Performs) (q : Computes) (fits_state : StateFits) (fits_args : ArgsFit) (fits_text : TextFits) (fits_reply : ReplyFits) (list : List Message) (aside : List Placed) (n : ℕ) → Laws p q fits_state fits_args fits_text fits_reply
    → LegalFrom p q (opening q) (book single p list aside) → Fit q fits_state fits_text fits_reply (after_lines p (opening q) (up_to single p list aside n))
fits_at single p q fits_state fits_args fits_text fits_reply list aside n laws legal =
    history_fits p q fits_state fits_args fits_text fits_reply (opening q) (up_to single p list aside n) laws
    (legal_left p q (opening q) (up_to single p list aside n) (behind single p list aside n) (subst (λ (ls : List Line). LegalFrom p q (opening q) ls) (cut single p list aside n) legal))
    (opening_fits p q fits_state fits_args fits_text fits_reply laws)

pub lawful_at : (p : Performs) (q : Computes) (fits_state : StateFits) (fits_args : ArgsFit) (fits_text : TextFits) (fits_reply : ReplyFits) (c : Configuration) (number : ProcessNo) (x : Process) (a : Action) → Laws p q fits_state fits_args fits_text fits_reply
    → Fit q fits_state fits_text fits_reply c → slice_get c.processes number.0 ≡ Some x → q.doing x.text number x.args x.replies most_turns ≡ doing.At a → IsLawfulDoing q fits_args fits_text (kinds_of c.objects) x.text number x.args x.replies (doing.At a)
lawful_at p q fits_state fits_args fits_text fits_reply c number x a laws f here next =
    let g = f.processes number x here in
    subst (λ (d : Doing). IsLawfulDoing q fits_args fits_text (kinds_of c.objects) x.text number x.args x.replies d) next (laws.lawful (kinds_of c.objects) x.text number x.args x.replies g.text g.replies)

-- an object keeps its type
pub kind_stays : (p : Performs) (q : Computes) (fits_state : StateFits) (fits_args : ArgsFit) (fits_text : TextFits) (fits_reply : ReplyFits) (c : Configuration) (lines : List Line) (o : ObjectId) (kind : KindNo) → Laws p q fits_state fits_args fits_text fits_reply
    → LegalFrom p q c lines → Fit q fits_state fits_text fits_reply c → kind_at c.objects o ≡ Some kind → kind_at (after_lines p c lines).objects o ≡ Some kind
kind_stays p q fits_state fits_args fits_text fits_reply c [] o kind laws legal f is = is
kind_stays p q fits_state fits_args fits_text fits_reply c (l ∷ lines) o kind laws legal f is =
    let s = legal.0 in
    let a = acts p q fits_state fits_args fits_text fits_reply c l.process s.process l.action l.guard l.reply laws f s.exists (lawful_at p q fits_state fits_args fits_text fits_reply c l.process s.process l.action laws f s.exists s.next) s.performed in
    let g = a.grown in
    kind_stays p q fits_state fits_args fits_text fits_reply (after_line p c l) lines o kind laws legal.1 (step_fits p q fits_state fits_args fits_text fits_reply c l laws f s) (g.stays o kind is)

-- a call that a process makes next names an object that is there, and its arguments fit among more
record Called (fits_args : ArgsFit) (c : Configuration) (kinds : Kinds) (kind : KindNo) (op : OpNo) (object : ObjectId) (args : Data) : Type 0 where
  kept : Instance
  exists : object_at c.objects object ≡ Some kept
  of_kind : kept.kind ≡ kind
  fits : fits_args kinds kind op args

may_call : (p : Performs) (q : Computes) (fits_state : StateFits) (fits_args : ArgsFit) (fits_text : TextFits) (fits_reply : ReplyFits) (c : Configuration) (kinds : Kinds) (number : ProcessNo) (x : Process) (kind : KindNo) (op : OpNo) (object : ObjectId) (args : Data)
    → Fit q fits_state fits_text fits_reply c → ExtendsKinds (kinds_of c.objects) kinds → slice_get c.processes number.0 ≡ Some x → IsLawfulDoing q fits_args fits_text (kinds_of c.objects) x.text number x.args x.replies (doing.At (action.Call kind op object args)) → Called fits_args c kinds kind op object args
may_call p q fits_state fits_args fits_text fits_reply c kinds number x kind op object args f covers here lawful =
    let g = f.processes number x here in
    let there = has_kind (object_at c.objects object) kind (known q fits_state fits_text fits_reply c number x object kind f g lawful.0) in
    record { kept = there.0; exists = there.1; of_kind = there.2; fits = lawful.1 kinds (covers, λ entry h. covers entry (kind_contained c.objects entry.0 entry.1 (g.own entry.0 entry.1 h))) }

-- ---- the types of all objects

-- each object of the book up to a place is among the copies of that place, or counted as single
pub covers : (single : Test) (p : Performs) (q : Computes) (fits_state : StateFits) (fits_args : ArgsFit) (fits_text : TextFits) (fits_reply : ReplyFits) (list : List Message) (aside : List Placed) (owned : List Single) (seen : List Message) (applied : ℕ → ℕ) (runners : ℕ → Option Runner) (n : ℕ) → Laws p q fits_state fits_args fits_text fits_reply
    → Kept single p q list aside owned seen applied runners → ExtendsKinds (kinds_of (after_lines p (opening q) (up_to single p list aside n)).objects) (kinds_at single p list n)
covers single p q fits_state fits_args fits_text fits_reply list aside owned seen applied runners n laws k entry h = go (single o) refl
  where
    o : ObjectId
    o = entry.0

    c : Configuration
    c = after_lines p (opening q) (up_to single p list aside n)

    copies : Objects
    copies = (copies_at single p list n).objects

    f : Fit q fits_state fits_text fits_reply (after_lines p (opening q) (up_to single p list aside n))
    f = fits_at single p q fits_state fits_args fits_text fits_reply list aside n laws k.legal

    is : kind_at c.objects o ≡ Some entry.1
    is = kind_found c.objects o entry.1 f.order h

    go : (b : Bool) → single o ≡ b → Contains (kinds_at single p list n) entry
    go false e =
        let g = k.follows n in
        Contains-append_left (kinds_of copies) (counted single p (take n list)) entry (kind_contained copies o entry.1 (ap kind_in (sym (g.objects o e)) ∙ is))
    go true e =
        let there = has_kind (object_at c.objects o) entry.1 is in
        let x = k.known n o there.0 e there.1 in
        let v = k.owns x.0 x.1 x.2 in
        let stays = kind_stays p q fits_state fits_args fits_text fits_reply c (behind single p list aside n) o entry.1 laws
        (legal_right p q (opening q) (up_to single p list aside n) (behind single p list aside n) (subst (λ (ls : List Line). LegalFrom p q (opening q) ls) (cut single p list aside n) k.legal)) f is in
        let last : kind_at (after_lines p (opening q) (book single p list aside)).objects o ≡ Some entry.1 =
        ap (λ (d : Configuration). kind_at d.objects o) (ap (after_lines p (opening q)) (cut single p list aside n) ∙ after_lines-append p (opening q) (up_to single p list aside n) (behind single p list aside n)) ∙ stays in
        let same : Some x.1.kept.kind ≡ Some entry.1 = sym (ap (λ (i : ObjectId). kind_at (after_lines p (opening q) (book single p list aside)).objects i) (sym x.3) ∙ ap kind_in v.state) ∙ last in
        let kind : x.1.kept.kind ≡ entry.1 = cc in
        Contains-append_right (kinds_of copies) (counted single p (take n list)) entry
        (subst (λ (y : ObjectId × KindNo). Contains (counted single p (take n list)) y) (ap (λ (i : ObjectId). (i, x.1.kept.kind)) x.3 ∙ ap (λ (kd : KindNo). (o, kd)) kind) (v.listed n x.4))

-- the states of the copies fit
states_at : (single : Test) (p : Performs) (q : Computes) (fits_state : StateFits) (fits_args : ArgsFit) (fits_text : TextFits) (fits_reply : ReplyFits) (list : List Message) (aside : List Placed) (owned : List Single) (seen : List Message) (applied : ℕ → ℕ) (runners : ℕ → Option Runner) (n : ℕ) → Laws p q fits_state fits_args fits_text fits_reply → single output_object ≡ false
    → Kept single p q list aside owned seen applied runners → AllStatesFit fits_state (kinds_at single p list n) (copies_at single p list n).objects
states_at single p q fits_state fits_args fits_text fits_reply list aside owned seen applied runners n laws output k o kept is = go (single o) refl
  where
    c : Configuration
    c = after_lines p (opening q) (up_to single p list aside n)

    f : Fit q fits_state fits_text fits_reply (after_lines p (opening q) (up_to single p list aside n))
    f = fits_at single p q fits_state fits_args fits_text fits_reply list aside n laws k.legal

    go : (b : Bool) → single o ≡ b → fits_state (kinds_at single p list n) kept.kind kept.state
    go false e =
        let g = k.follows n in
        laws.state_stays_fit (kinds_of c.objects) (kinds_at single p list n) kept.kind kept.state (covers single p q fits_state fits_args fits_text fits_reply list aside owned seen applied runners n laws k) (f.states o kept (g.objects o e ∙ is))
    go true e = let h : None ≡ Some kept = sym (copies_shared single p list n output o e) ∙ is in absurd (cc h)

-- ---- what may be called

-- a process whose message hasn't entered, or waits, stands at each place from its own on
may_at : (single : Test) (p : Performs) (q : Computes) (fits_state : StateFits) (fits_args : ArgsFit) (fits_text : TextFits) (fits_reply : ReplyFits) (list : List Message) (aside : List Placed) (owned : List Single) (seen : List Message) (applied : ℕ → ℕ) (runners : ℕ → Option Runner) (number : ProcessNo) (x : Runner) (n : ℕ) (kind : KindNo) (op : OpNo) (object : ObjectId) (args : Data)
    → Laws p q fits_state fits_args fits_text fits_reply → Kept single p q list aside owned seen applied runners → (s : Stands single p q list aside owned seen (applied x.member) number.0 x) → x.answer ≡ None → s.awaited ≡ [] → x.place ≤ n
    → q.doing x.text number x.args x.replies most_turns ≡ doing.At (action.Call kind op object args) → Called fits_args (after_lines p (opening q) (up_to single p list aside n)) (kinds_at single p list n) kind op object args
may_at single p q fits_state fits_args fits_text fits_reply list aside owned seen applied runners number x n kind op object args laws k s told none le next =
    let c = after_lines p (opening q) (up_to single p list aside n) in
    let f = fits_at single p q fits_state fits_args fits_text fits_reply list aside n laws k.legal in
    let at = at_place single p q list aside owned seen applied runners number.0 x n s told none le k in
    let process : Process = record { text = x.text; args = x.args; replies = x.replies } in
    may_call p q fits_state fits_args fits_text fits_reply c (kinds_at single p list n) number process kind op object args f (covers single p q fits_state fits_args fits_text fits_reply list aside owned seen applied runners n laws k) at
    (lawful_at p q fits_state fits_args fits_text fits_reply c number process (action.Call kind op object args) laws f at next)

-- the single copy of an object that is called is there
on_single : (single : Test) (p : Performs) (q : Computes) (fits_state : StateFits) (fits_args : ArgsFit) (fits_text : TextFits) (fits_reply : ReplyFits) (list : List Message) (aside : List Placed) (owned : List Single) (seen : List Message) (applied : ℕ → ℕ) (runners : ℕ → Option Runner) (n : ℕ) (kind : KindNo) (op : OpNo) (object : ObjectId) (args : Data)
    → Laws p q fits_state fits_args fits_text fits_reply → Kept single p q list aside owned seen applied runners → single object ≡ true → Called fits_args (after_lines p (opening q) (up_to single p list aside n)) (kinds_at single p list n) kind op object args → MayCall fits_args (kinds_at single p list n) owned n kind op object args
on_single single p q fits_state fits_args fits_text fits_reply list aside owned seen applied runners n kind op object args laws k is m =
    let c = after_lines p (opening q) (up_to single p list aside n) in
    let f = fits_at single p q fits_state fits_args fits_text fits_reply list aside n laws k.legal in
    let x = k.known n object m.kept is m.exists in
    let v = k.owns x.0 x.1 x.2 in
    let stays = kind_stays p q fits_state fits_args fits_text fits_reply c (behind single p list aside n) object kind laws
    (legal_right p q (opening q) (up_to single p list aside n) (behind single p list aside n) (subst (λ (ls : List Line). LegalFrom p q (opening q) ls) (cut single p list aside n) k.legal)) f (ap kind_in m.exists ∙ ap (λ (kd : KindNo). Some kd) m.of_kind) in
    let last : kind_at (after_lines p (opening q) (book single p list aside)).objects object ≡ Some kind =
    ap (λ (d : Configuration). kind_at d.objects object) (ap (after_lines p (opening q)) (cut single p list aside n) ∙ after_lines-append p (opening q) (up_to single p list aside n) (behind single p list aside n)) ∙ stays in
    let same : Some x.1.kept.kind ≡ Some kind = sym (ap (λ (i : ObjectId). kind_at (after_lines p (opening q) (book single p list aside)).objects i) (sym x.3) ∙ ap kind_in v.state) ∙ last in
    record { at = x.0; copy = x.1; there = x.2; is = x.3; place = x.4; of_kind = cc; fits = m.fits }

-- what is counted as single is there
uncounted : (single : Test) (p : Performs) (q : Computes) (list : List Message) (aside : List Placed) (owned : List Single) (seen : List Message) (applied : ℕ → ℕ) (runners : ℕ → Option Runner) (object : ObjectId) (kind : KindNo)
    → Kept single p q list aside owned seen applied runners → object_at (after_lines p (opening q) (book single p list aside)).objects object ≡ None → Contains (counted single p list) (object, kind) → ⊥
uncounted single p q list aside owned seen applied runners object kind k none h =
    let u = contains_map (λ (x : Single). (x.object, x.kept.kind)) owned (object, kind) (subst (λ (ks : Kinds). Contains ks (object, kind)) (sym k.counts) h) in
    let v = k.owns u.0 u.1 u.2 in
    let e : u.1.object ≡ object = ap (λ (y : ObjectId × KindNo). y.0) u.3 in
    let f : None ≡ Some u.1.kept = sym none ∙ ap (object_at (after_lines p (opening q) (book single p list aside)).objects) (sym e) ∙ v.state in
    absurd (cc f)

-- a message that comes may be applied
applies_by : (single : Test) (p : Performs) (q : Computes) (fits_state : StateFits) (fits_args : ArgsFit) (fits_text : TextFits) (fits_reply : ReplyFits) (list : List Message) (aside : List Placed) (owned : List Single) (seen : List Message) (applied : ℕ → ℕ) (runners : ℕ → Option Runner) (number : ProcessNo) (x : Process) (a : Action) → Laws p q fits_state fits_args fits_text fits_reply → single output_object ≡ false
    → Kept single p q list aside owned seen applied runners → ((o : ObjectId) → Calls a o → single o ≡ false) → slice_get (after_lines p (opening q) (book single p list aside)).processes number.0 ≡ Some x
    → IsLawfulDoing q fits_args fits_text (kinds_of (after_lines p (opening q) (book single p list aside)).objects) x.text number x.args x.replies (doing.At a) → MayApply fits_args (kinds_at single p list (length list)) (counted single p list) (after_all single p opening_copies list) a
applies_by single p q fits_state fits_args fits_text fits_reply list aside owned seen applied runners number x (action.Make kind object) laws output k shared here lawful =
    let c = after_lines p (opening q) (book single p list aside) in
    let f = history_fits p q fits_state fits_args fits_text fits_reply (opening q) (book single p list aside) laws k.legal (opening_fits p q fits_state fits_args fits_text fits_reply laws) in
    let none = unmade q c number x object f.made here lawful.0 lawful.1 in (
      absent (single object) refl none,
      λ kd h. uncounted single p q list aside owned seen applied runners object kd k none h,
    )
  where
    c : Configuration
    c = after_lines p (opening q) (book single p list aside)

    absent : (b : Bool) → single object ≡ b → object_at c.objects object ≡ None → object_at (after_all single p opening_copies list).objects object ≡ None
    absent false e none = let f = follows_all single p q list aside owned seen applied runners k in sym (f.objects object e) ∙ none
    absent true e none = sym (ap (λ (d : Copied). object_at d.objects object) (copies_all single p list)) ∙ copies_shared single p list (length list) output object e
applies_by single p q fits_state fits_args fits_text fits_reply list aside owned seen applied runners number x (action.Call kind op object args) laws output k shared here lawful =
    let c = after_lines p (opening q) (book single p list aside) in
    let f = history_fits p q fits_state fits_args fits_text fits_reply (opening q) (book single p list aside) laws k.legal (opening_fits p q fits_state fits_args fits_text fits_reply laws) in
    let g = follows_all single p q list aside owned seen applied runners k in
    let m = may_call p q fits_state fits_args fits_text fits_reply c (kinds_at single p list (length list)) number x kind op object args f
    (subst (λ (ls : List Line). ExtendsKinds (kinds_of (after_lines p (opening q) ls).objects) (kinds_at single p list (length list))) (up_to_all single p list aside (length list) (omega arith))
    (covers single p q fits_state fits_args fits_text fits_reply list aside owned seen applied runners (length list) laws k)) here lawful in
    record { kept = m.kept; exists = sym (g.objects object (shared object refl)) ∙ m.exists; kind = m.of_kind; args = m.fits }
applies_by single p q fits_state fits_args fits_text fits_reply list aside owned seen applied runners number x (action.Fork text args place_on) laws output k shared here lawful = tt
applies_by single p q fits_state fits_args fits_text fits_reply list aside owned seen applied runners number x action.Ended laws output k shared here lawful = tt
applies_by single p q fits_state fits_args fits_text fits_reply list aside owned seen applied runners number x (action.Faulted fault) laws output k shared here lawful = tt

-- the next message of the list may be applied to the copies behind it
pub applies_next : (single : Test) (p : Performs) (q : Computes) (fits_state : StateFits) (fits_args : ArgsFit) (fits_text : TextFits) (fits_reply : ReplyFits) (list : List Message) (aside : List Placed) (owned : List Single) (seen : List Message) (applied : ℕ → ℕ) (runners : ℕ → Option Runner) (x : Message) (r : Runner) → Laws p q fits_state fits_args fits_text fits_reply → single output_object ≡ false
    → Enters single p list owned seen runners x r → Kept single p q list aside owned seen applied runners → MayApply fits_args (kinds_at single p list (length list)) (counted single p list) (after_all single p opening_copies list) x.action
applies_next single p q fits_state fits_args fits_text fits_reply list aside owned seen applied runners x r laws output h k =
    let c = after_lines p (opening q) (book single p list aside) in
    let s = comes single p q list aside owned seen applied runners x r h k in
    let f = history_fits p q fits_state fits_args fits_text fits_reply (opening q) (book single p list aside) laws k.legal (opening_fits p q fits_state fits_args fits_text fits_reply laws) in
    applies_by single p q fits_state fits_args fits_text fits_reply list aside owned seen applied runners x.process s.process x.action laws output k s.calls s.exists
    (lawful_at p q fits_state fits_args fits_text fits_reply c x.process s.process x.action laws f s.exists s.doing)

-- the list grows by a message that may be applied
pub all_apply-push : (single : Test) (p : Performs) (fits_args : ArgsFit) (list : List Message) (x : Message) → MayApply fits_args (kinds_at single p list (length list)) (counted single p list) (after_all single p opening_copies list) x.action → AllApply single p fits_args list → AllApply single p fits_args (list ++ x ∷ [])
all_apply-push single p fits_args list x now all n y is = go (at_push list x n y is)
  where
    longer : List Message
    longer = list ++ x ∷ []

    same : (m : ℕ) → m ≤ length list → (z : Message) → MayApply fits_args (kinds_at single p list m) (counted single p (take m list)) (copies_at single p list m) z.action → MayApply fits_args (kinds_at single p longer m) (counted single p (take m longer)) (copies_at single p longer m) z.action
    same m le z h = subst (λ (ms : List Message). MayApply fits_args (kinds_of (after_all single p opening_copies ms).objects ++ counted single p ms) (counted single p ms) (after_all single p opening_copies ms) z.action) (sym (take-append-le m list (x ∷ []) le)) h

    go : (slice_get list n ≡ Some y) ⊎ ((n ≡ length list) × (x ≡ y)) → MayApply fits_args (kinds_at single p longer n) (counted single p (take n longer)) (copies_at single p longer n) y.action
    go (inl u) = let lt = slice_get_within list n y u in same n (omega (arith, lt)) y (all n y u)
    go (inr u) =
        subst (λ (z : Message). MayApply fits_args (kinds_at single p longer n) (counted single p (take n longer)) (copies_at single p longer n) z.action) u.1
        (subst (λ (m : ℕ). MayApply fits_args (kinds_at single p longer m) (counted single p (take m longer)) (copies_at single p longer m) x.action) (sym u.0)
        (same (length list) (omega arith) x
        (subst (λ (ms : List Message). MayApply fits_args (kinds_at single p list (length list)) (counted single p ms) (after_all single p opening_copies ms) x.action) (sym (take_all (length list) list (omega arith))) now)))

-- what a read answers, where the operation is a read that isn't blocked, is a read's line
pub read_line : (single : Test) (p : Performs) (q : Computes) (fits_state : StateFits) (fits_args : ArgsFit) (fits_text : TextFits) (fits_reply : ReplyFits) (list : List Message) (n : ℕ) (kind : KindNo) (op : OpNo) (object : ObjectId) (args : Data) (line : Line) → Laws p q fits_state fits_args fits_text fits_reply → single object ≡ false
    → (m : MayRead fits_state fits_args (kinds_at single p list n) (copies_at single p list n).objects kind op object args) → p.class_of kind op ≡ Reads → line.action ≡ action.Call kind op object args → (kept : Instance) → object_at (copies_at single p list n).objects object ≡ Some kept → Answers (p.tries kind op kept.state args) line.guard line.reply
    → IsRead single p (copies_at single p list n).objects line
read_line single p q fits_state fits_args fits_text fits_reply list n kind op object args line laws shared m aside is kept there answers =
    let objects = (copies_at single p list n).objects in
    let kinds = kinds_at single p list n in
    let o = m.operation in
    let same : o.kept ≡ kept = (let g : Some o.kept ≡ Some kept = sym o.exists ∙ there in cc) in
    let of_kind : kept.kind ≡ kind = ap (λ (y : Instance). y.kind) (sym same) ∙ o.kind in
    is_read single p objects kind op object args kept line (copies_in_order single p list n) shared is there answers
    (laws.reads_keep kinds kind op kept.state args aside (subst (λ (k : KindNo). fits_state kinds k kept.state) of_kind (m.states object kept there)) o.args)

-- ---- every run

pub came_output : (single : Test) (p : Performs) (q : Computes) (w : Course) → Came single p q w → single output_object ≡ false
came_output single p q w (Opens member shared) = shared
came_output single p q w (Then u v came next) = came_output single p q u came

next_applies : (single : Test) (p : Performs) (q : Computes) (fits_state : StateFits) (fits_args : ArgsFit) (fits_text : TextFits) (fits_reply : ReplyFits) (w v : Course) → Laws p q fits_state fits_args fits_text fits_reply → Came single p q w → Next single p q w v → AllApply single p fits_args w.list → AllApply single p fits_args v.list
next_applies single p q fits_state fits_args fits_text fits_reply w v laws came (Submits j x m here free asks e) all = subst (λ (u : Course). AllApply single p fits_args u.list) (sym e) all
next_applies single p q fits_state fits_args fits_text fits_reply w v laws came (Orders x r here was new may plain e) all =
    let s = came_sound single p q w came in
    let fresh = fresh_of single p q w x s may new in
    subst (λ (u : Course). AllApply single p fits_args u.list) (sym e) (all_apply-push single p fits_args w.list x (applies_next single p q fits_state fits_args fits_text fits_reply w.list w.aside w.owned w.entered w.applied w.runners x r laws (came_output single p q w came) (record { runner = here; out = has_out single p q w x r s here was fresh; new = fresh; may = may }) s.kept) all)
next_applies single p q fits_state fits_args fits_text fits_reply w v laws came (Forks x born member was new forks e) all =
    let s = came_sound single p q w came in
    let fresh = fresh_of single p q w x s (fork_may single w.owned x.action born forks) new in
    let h = pending w.entered w.runners w.asked x s.accounted was fresh in
    subst (λ (u : Course). AllApply single p fits_args u.list) (sym e) (all_apply-push single p fits_args w.list x (applies_next single p q fits_state fits_args fits_text fits_reply w.list w.aside w.owned w.entered w.applied w.runners x h.0 laws (came_output single p q w came) (record { runner = h.1; out = h.2; new = fresh; may = fork_may single w.owned x.action born forks }) s.kept) all)
next_applies single p q fits_state fits_args fits_text fits_reply w v laws came (Hears m y is e) all = subst (λ (u : Course). AllApply single p fits_args u.list) (sym e) all
next_applies single p q fits_state fits_args fits_text fits_reply w v laws came (Reads_at j x n line here h e) all = subst (λ (u : Course). AllApply single p fits_args u.list) (sym e) all
next_applies single p q fits_state fits_args fits_text fits_reply w v laws came (Takes_call i x r call t e) all = subst (λ (u : Course). AllApply single p fits_args u.list) (sym e) all
next_applies single p q fits_state fits_args fits_text fits_reply w v laws came (Hears_answer j x r here has le e) all = subst (λ (u : Course). AllApply single p fits_args u.list) (sym e) all

all_apply : (single : Test) (p : Performs) (q : Computes) (fits_state : StateFits) (fits_args : ArgsFit) (fits_text : TextFits) (fits_reply : ReplyFits) (w : Course) → Laws p q fits_state fits_args fits_text fits_reply → Came single p q w → AllApply single p fits_args w.list
all_apply single p q fits_state fits_args fits_text fits_reply w laws (Opens member shared) = λ n y is. absurd (cc is)
all_apply single p q fits_state fits_args fits_text fits_reply w laws (Then u v came next) =
    next_applies single p q fits_state fits_args fits_text fits_reply u v laws came next (all_apply single p q fits_state fits_args fits_text fits_reply u laws came)

-- ---- suspended calls on replicated objects

-- each call that the copies behind this list suspend fits
abbrev pub Queued : Test → Performs → ArgsFit → List Message → Type 0
Queued single p fits_args list = (call : Suspended) → In call (after_all single p opening_copies list).queue
    → OperationFits fits_args (kinds_of (after_all single p opening_copies list).objects ++ counted single p list) (after_all single p opening_copies list).objects call.kind call.op call.object call.args

pub queued_now : (single : Test) (p : Performs) (q : Computes) (fits_state : StateFits) (fits_args : ArgsFit) (fits_text : TextFits) (fits_reply : ReplyFits) (list : List Message) (aside : List Placed) (owned : List Single) (seen : List Message) (applied : ℕ → ℕ) (runners : ℕ → Option Runner) → Laws p q fits_state fits_args fits_text fits_reply
    → Kept single p q list aside owned seen applied runners → Queued single p fits_args list
queued_now single p q fits_state fits_args fits_text fits_reply list aside owned seen applied runners laws k call inside =
    let c = after_lines p (opening q) (book single p list aside) in
    let n = k.next call inside in
    let f = history_fits p q fits_state fits_args fits_text fits_reply (opening q) (book single p list aside) laws k.legal (opening_fits p q fits_state fits_args fits_text fits_reply laws) in
    let g = follows_all single p q list aside owned seen applied runners k in
    let all : ExtendsKinds (kinds_of c.objects) (kinds_of (after_all single p opening_copies list).objects ++ counted single p list) =
    subst (λ (ms : List Message). ExtendsKinds (kinds_of c.objects) (kinds_of (after_all single p opening_copies ms).objects ++ counted single p ms)) (take_all (length list) list (omega arith))
    (subst (λ (ls : List Line). ExtendsKinds (kinds_of (after_lines p (opening q) ls).objects) (kinds_at single p list (length list))) (up_to_all single p list aside (length list) (omega arith))
    (covers single p q fits_state fits_args fits_text fits_reply list aside owned seen applied runners (length list) laws k)) in
    let m = may_call p q fits_state fits_args fits_text fits_reply c (kinds_of (after_all single p opening_copies list).objects ++ counted single p list) call.process n.process call.kind call.op call.object call.args f all n.exists
    (lawful_at p q fits_state fits_args fits_text fits_reply c call.process n.process (action.Call call.kind call.op call.object call.args) laws f n.exists n.next) in
    record { kept = m.kept; exists = sym (g.objects call.object (k.shared call inside)) ∙ m.exists; kind = m.of_kind; args = m.fits }

queued_push : (single : Test) (p : Performs) (fits_args : ArgsFit) (list : List Message) (x : Message) → Queued single p fits_args (list ++ x ∷ []) → AllQueued single p fits_args list → AllQueued single p fits_args (list ++ x ∷ [])
queued_push single p fits_args list x now all n = ⊎_elim
    (λ (lt : length list < n). subst (λ (ms : List Message). Queued single p fits_args ms) (sym (take_all n (list ++ x ∷ []) (let m = length_push list x in omega (arith, m, lt)))) now)
    (λ (le : n ≤ length list). subst (λ (ms : List Message). Queued single p fits_args ms) (sym (take-append-le n list (x ∷ []) le)) (all n))
    (cases_lt (length list) n)

next_queued : (single : Test) (p : Performs) (q : Computes) (fits_state : StateFits) (fits_args : ArgsFit) (fits_text : TextFits) (fits_reply : ReplyFits) (w v : Course) → Laws p q fits_state fits_args fits_text fits_reply → Came single p q w → Next single p q w v → AllQueued single p fits_args w.list → AllQueued single p fits_args v.list
next_queued single p q fits_state fits_args fits_text fits_reply w v laws came (Submits j x m here free asks e) all = subst (λ (u : Course). AllQueued single p fits_args u.list) (sym e) all
next_queued single p q fits_state fits_args fits_text fits_reply w v laws came (Orders x r here was new may plain e) all =
    let u = ordered single p w x r.member in
    let s = next_keeps single p q w u (Orders x r here was new may plain refl) (came_sound single p q w came) in
    subst (λ (u : Course). AllQueued single p fits_args u.list) (sym e) (queued_push single p fits_args w.list x (queued_now single p q fits_state fits_args fits_text fits_reply u.list u.aside u.owned u.entered u.applied u.runners laws s.kept) all)
next_queued single p q fits_state fits_args fits_text fits_reply w v laws came (Forks x born member was new forks e) all =
    let u = forking single p w x born member in
    let s = next_keeps single p q w u (Forks x born member was new forks refl) (came_sound single p q w came) in
    subst (λ (u : Course). AllQueued single p fits_args u.list) (sym e) (queued_push single p fits_args w.list x (queued_now single p q fits_state fits_args fits_text fits_reply u.list u.aside u.owned u.entered u.applied u.runners laws s.kept) all)
next_queued single p q fits_state fits_args fits_text fits_reply w v laws came (Hears m y is e) all = subst (λ (u : Course). AllQueued single p fits_args u.list) (sym e) all
next_queued single p q fits_state fits_args fits_text fits_reply w v laws came (Reads_at j x n line here h e) all = subst (λ (u : Course). AllQueued single p fits_args u.list) (sym e) all
next_queued single p q fits_state fits_args fits_text fits_reply w v laws came (Takes_call i x r call t e) all = subst (λ (u : Course). AllQueued single p fits_args u.list) (sym e) all
next_queued single p q fits_state fits_args fits_text fits_reply w v laws came (Hears_answer j x r here has le e) all = subst (λ (u : Course). AllQueued single p fits_args u.list) (sym e) all

all_queued : (single : Test) (p : Performs) (q : Computes) (fits_state : StateFits) (fits_args : ArgsFit) (fits_text : TextFits) (fits_reply : ReplyFits) (w : Course) → Laws p q fits_state fits_args fits_text fits_reply → Came single p q w → AllQueued single p fits_args w.list
all_queued single p q fits_state fits_args fits_text fits_reply w laws (Opens member shared) = λ n. subst (λ (ms : List Message). Queued single p fits_args ms) (sym (take_all n [] (omega arith))) (λ call h. absurd h)
all_queued single p q fits_state fits_args fits_text fits_reply w laws (Then u v came next) =
    next_queued single p q fits_state fits_args fits_text fits_reply u v laws came next (all_queued single p q fits_state fits_args fits_text fits_reply u laws came)

-- a process whose message hasn't entered received all
out_idle : (single : Test) (p : Performs) (q : Computes) (list : List Message) (aside : List Placed) (owned : List Single) (seen : List Message) (a j : ℕ) (x : Runner) → (s : Stands single p q list aside owned seen a j x) → IsOut seen x → (s.awaited ≡ []) × (x.answer ≡ None)
out_idle single p q list aside owned seen a j x s (inl free) = let n = stage_free seen x.message x.answer (waiting j (after_all single p opening_copies list).queue + waits j owned) s.awaited free s.stage in (n.1, n.2)
out_idle single p q list aside owned seen a j x s (inr m) = let n = stage_new seen m.0 x.message x.answer (waiting j (after_all single p opening_copies list).queue + waits j owned) s.awaited m.1 m.2 s.stage in (n.1, n.2)

never_made : (p : Performs) (q : Computes) (fits_state : StateFits) (fits_args : ArgsFit) (fits_text : TextFits) (fits_reply : ReplyFits) (c : Configuration) (number : ProcessNo) (x : Process) (a : Action) (o : ObjectId) → Fit q fits_state fits_text fits_reply c → slice_get c.processes number.0 ≡ Some x
    → IsLawfulDoing q fits_args fits_text (kinds_of c.objects) x.text number x.args x.replies (doing.At a) → Makes a o → object_at c.objects o ≡ None
never_made p q fits_state fits_args fits_text fits_reply c number x (action.Make kind object) o f here lawful e = ap (object_at c.objects) e ∙ unmade q c number x object f.made here lawful.0 lawful.1
never_made p q fits_state fits_args fits_text fits_reply c number x (action.Call kind op object args) o f here lawful e = absurd e
never_made p q fits_state fits_args fits_text fits_reply c number x (action.Fork text args place_on) o f here lawful e = absurd e
never_made p q fits_state fits_args fits_text fits_reply c number x action.Ended o f here lawful e = absurd e
never_made p q fits_state fits_args fits_text fits_reply c number x (action.Faulted fault) o f here lawful e = absurd e

-- a make calls nothing
makes_only : (a : Action) (o z : ObjectId) → Makes a o → Calls a z → ⊥
makes_only (action.Make kind object) o z makes calls = calls
makes_only (action.Call kind op object args) o z makes calls = makes
makes_only (action.Fork text args place_on) o z makes calls = makes
makes_only action.Ended o z makes calls = makes
makes_only (action.Faulted fault) o z makes calls = makes

-- what isn't among the counted ones by any type wasn't counted
not_counted : (singles : Kinds) (object : ObjectId) → ((kind : KindNo) → Contains singles (object, kind) → ⊥) → IsCounted singles object → ⊥
not_counted singles object apart (k, one, lt, is, e) = apart one.1 (subst (λ (o : ObjectId). Contains singles (o, one.1)) e (k, lt, is))

applies_at : (fits_args : ArgsFit) (c : Copied) (a : Action) → MayApply fits_args (kinds_of c.objects ++ c.singles) c.singles c a → Applies fits_args c a
applies_at fits_args c (action.Make kind object) h = (h.0, not_counted c.singles object h.1)
applies_at fits_args c (action.Call kind op object args) h = h
applies_at fits_args c (action.Fork text args place_on) h = h
applies_at fits_args c action.Ended h = h
applies_at fits_args c (action.Faulted fault) h = h

pub every_call : (single : Test) (p : Performs) (q : Computes) (fits_state : StateFits) (fits_args : ArgsFit) (fits_text : TextFits) (fits_reply : ReplyFits) (w : Course) → Laws p q fits_state fits_args fits_text fits_reply → Came single p q w → Callable single p q fits_state fits_args w
every_call single p q fits_state fits_args fits_text fits_reply w laws came = record {
  entries = λ n y is. applies_at fits_args (copies_at single p w.list n) y.action (all_apply single p q fits_state fits_args fits_text fits_reply w laws came n y is);
  shared = λ n. record {
    states = states_at single p q fits_state fits_args fits_text fits_reply w.list w.aside w.owned w.entered w.applied w.runners n laws output k;
    calls = λ at call is. all_queued single p q fits_state fits_args fits_text fits_reply w laws came n call (in_at call (copies_at single p w.list n).queue at is);
  };
  singles = λ i x is le.
      let o = k.owns i x is in
      let n = w.applied x.owner in
      let c = after_lines p (opening q) (up_to single p w.list w.aside n) in
      let f = fits_at single p q fits_state fits_args fits_text fits_reply w.list w.aside n laws k.legal in
      let there : object_at c.objects x.object ≡ Some x.kept = sym (spared_lines p c (behind single p w.list w.aside n) x.object (o.last n le (omega arith)))
      ∙ ap (λ (d : Configuration). object_at d.objects x.object) (sym (after_lines-append p (opening q) (up_to single p w.list w.aside n) (behind single p w.list w.aside n)) ∙ ap (after_lines p (opening q)) (sym (cut single p w.list w.aside n))) ∙ o.state in
      laws.state_stays_fit (kinds_of c.objects) (kinds_at single p w.list n) x.kept.kind x.kept.state (covers single p q fits_state fits_args fits_text fits_reply w.list w.aside w.owned w.entered w.applied w.runners n laws k) (f.states x.object x.kept there);
  suspended = λ i x call is inside.
      let o = k.owns i x is in
      let r = o.ready call inside in
      let st = k.stands call.process.0 r.0 r.1 in
      let w1 = in_waits call x.queue inside in
      let at = waits_at call.process.0 w.owned i x is in
      let n = stage_waits w.entered r.0.message r.0.answer (waiting call.process.0 (after_all single p opening_copies w.list).queue + waits call.process.0 w.owned) st.awaited (omega (arith, w1, at)) st.stage in
      let next = o.next call inside in
      on_single single p q fits_state fits_args fits_text fits_reply w.list w.aside w.owned w.entered w.applied w.runners (w.applied x.owner) call.kind call.op call.object call.args laws k (ap single (o.its call inside) ∙ o.is)
      (may_at single p q fits_state fits_args fits_text fits_reply w.list w.aside w.owned w.entered w.applied w.runners call.process r.0 (w.applied x.owner) call.kind call.op call.object call.args laws k st n.1 n.0 r.2 (waits_doing call r.0 st n.1 n.0 next));
  reads = λ number x n kind op object args at free shared. let m = may_read number x n kind op object args at.here free at.place shared at.next in (kinds_at single p w.list n, m.states, m.operation);
  lines = λ number x n kind op object args line at free shared class_is h. read_line single p q fits_state fits_args fits_text fits_reply w.list n kind op object args line laws shared
      (may_read number x n kind op object args at.here free at.place shared at.next) class_is h.is h.kept h.there h.answers;
  calls = λ number x n kind op object args at out is.
      let st = k.stands number.0 x at.here in
      let i = out_idle single p q w.list w.aside w.owned w.entered (w.applied x.member) number.0 x st out in
      on_single single p q fits_state fits_args fits_text fits_reply w.list w.aside w.owned w.entered w.applied w.runners n kind op object args laws k is
      (may_at single p q fits_state fits_args fits_text fits_reply w.list w.aside w.owned w.entered w.applied w.runners number x n kind op object args laws k st i.1 i.0 at.place at.next);
  unmade = λ x o was fresh makes i y is same.
      let sound = came_sound single p q w came in
      let new = not_entered single p q w x came (λ z calls. absurd (makes_only x.action o z makes calls)) fresh in
      let sent = pending w.entered w.runners w.asked x sound.accounted was new in
      let r = sent.0 in
      let here : w.runners x.process.0 ≡ Some r = sent.1 in
      let out : r.message ≡ Some x = sent.2 in
      let st = k.stands x.process.0 r here in
      let n = stage_new w.entered x r.message r.answer (waiting x.process.0 (after_all single p opening_copies w.list).queue + waits x.process.0 w.owned) st.awaited out new st.stage in
      let a = st.asks x out in
      let v = k.owns i y is in
      let c = after_lines p (opening q) (book single p w.list w.aside) in
      let f = history_fits p q fits_state fits_args fits_text fits_reply (opening q) (book single p w.list w.aside) laws k.legal (opening_fits p q fits_state fits_args fits_text fits_reply laws) in
      let at : slice_get c.processes x.process.0 ≡ Some (record { text = r.text; args = r.args; replies = r.replies }) = st.process ∙ ap (λ (z : Process). Some z) (as_received r st.awaited n.2 n.1) in
      let lawful = lawful_at p q fits_state fits_args fits_text fits_reply c x.process (record { text = r.text; args = r.args; replies = r.replies }) x.action laws f at a.next in
      let none = never_made p q fits_state fits_args fits_text fits_reply c x.process (record { text = r.text; args = r.args; replies = r.replies }) x.action o f at lawful makes in
      let g : None ≡ Some y.kept = sym none ∙ ap (object_at c.objects) (sym same) ∙ v.state in
      absurd (cc g);
}
  where
    k : Kept single p q w.list w.aside w.owned w.entered w.applied w.runners
    k = let s = came_sound single p q w came in s.kept

    output : single output_object ≡ false
    output = came_output single p q w came

    may_read : (number : ProcessNo) (x : Runner) (n : ℕ) (kind : KindNo) (op : OpNo) (object : ObjectId) (args : Data) → w.runners number.0 ≡ Some x → x.message ≡ None → x.place ≤ n → single object ≡ false
        → q.doing x.text number x.args x.replies most_turns ≡ doing.At (action.Call kind op object args) → MayRead fits_state fits_args (kinds_at single p w.list n) (copies_at single p w.list n).objects kind op object args
    may_read number x n kind op object args here free le shared next =
        let st = k.stands number.0 x here in
        let i = out_idle single p q w.list w.aside w.owned w.entered (w.applied x.member) number.0 x st (inl free) in
        let m = may_at single p q fits_state fits_args fits_text fits_reply w.list w.aside w.owned w.entered w.applied w.runners number x n kind op object args laws k st i.1 i.0 le next in
        let g = k.follows n in
        record {
          states = states_at single p q fits_state fits_args fits_text fits_reply w.list w.aside w.owned w.entered w.applied w.runners n laws output k;
          operation = record { kept = m.kept; exists = sym (g.objects object shared) ∙ m.exists; kind = m.of_kind; args = m.fits };
        }

    waits_doing : (call : Suspended) (r : Runner) → (st : Stands single p q w.list w.aside w.owned w.entered (w.applied r.member) call.process.0 r) → r.answer ≡ None → st.awaited ≡ [] → IsNext q (after_lines p (opening q) (book single p w.list w.aside)) call
        → q.doing r.text call.process r.args r.replies most_turns ≡ doing.At (action.Call call.kind call.op call.object call.args)
    waits_doing call r st told none next =
        let e : Some next.process ≡ Some (record { text = r.text; args = r.args; replies = r.replies }) = sym next.exists ∙ st.process ∙ ap (λ (z : Process). Some z) (as_received r st.awaited told none) in
        let f : next.process ≡ record { text = r.text; args = r.args; replies = r.replies } = cc in
        ap (λ (z : Process). q.doing z.text call.process z.args z.replies most_turns) (sym f) ∙ next.next
