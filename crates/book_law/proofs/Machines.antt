-- What processes hold, what they submit, and what was performed, fits.
use Rattle.std.proofs.Common.{◌≡◌, ℕ, ◌+◌, ◌≤◌, ◌<◌, ◌⊎◌, inl, inr, ⊎_elim, Option, Some, None, List, [], ◌∷◌, ◌++◌, length, drop, take, refl, sym, ap, ◌∙◌, arith, subst, append-nil, append_assoc, if◌then◌else◌}
use Rattle.std.specs.Prelude.{slice_get}
use Rattle.std.specs.List.{Contains}
use Rattle.std.proofs.lemmas.Bool.{cases_eq, cases_lt, eq-eqb, ne_eqb}
use Rattle.std.proofs.lemmas.List.{length-append, length-map, take-append-drop}
use Rattle.std.proofs.lemmas.List.Elements.{Contains-append_left}
use Rattle.orca_base.specs.declared.ids.TextNo.{TextNo}
use Rattle.orca_base.specs.declared.ids.ProcessNo.{ProcessNo}
use Rattle.orca_base.specs.declared.ids.ObjectId.{ObjectId}
use Rattle.value_core.specs.Datum.{Data}
use Rattle.value_core.specs.Fits.{ExtendsKinds, Kinds}
use Rattle.value_core.specs.Lawful.{FitsAction, IsLawfulDoing, KnowsIn, RepliesFitFrom, made_by, next_of, own_from, own_objects}
use Rattle.value_core.specs.declared.action.Line.{Line}
use Rattle.value_core.specs.declared.action.Action.{Action}
use Rattle.value_core.specs.declared.action.Action.TheVariants as action
use Rattle.value_core.specs.declared.action.Reply.{Reply}
use Rattle.value_core.specs.declared.message.Message.{Message}
use Rattle.value_core.specs.declared.meaning.Doing.{Doing}
use Rattle.value_core.specs.declared.meaning.Doing.TheVariants as doing
use Rattle.value_core.specs.Meaning.{Performs, Computes}
use Rattle.value_core.specs.History.{Configuration, LegalFrom, Process, after_line, after_lines, most_turns, opening}
use Rattle.guard_queue.specs.Fitting.{kinds_of}
use Rattle.object_manager.specs.After.{Copied, opening_copies}
use Rattle.book_law.specs.Passes.{Test, after, after_all, lines_after}
use Rattle.book_law.specs.Singles.{Single, waiting, waits}
use Rattle.book_law.specs.Book.{Placed, aside_at, behind, book, book_from, copies_at, up_to}
use Rattle.book_law.specs.Course.{Came, Course, Next}
use Rattle.book_law.specs.Course.Next.{Submits, Orders, Forks, Applies, Reads_at, Takes_call, Hears_answer}
use Rattle.book_law.specs.Course.Came.{Opens, Then}
use Rattle.book_law.specs.Events.{In, Makes, Runner, lines_by, replies_to}
use Rattle.book_law.specs.Fitness.{ArgsFit, ReplyFits, StateFits, TextFits}
use Rattle.book_law.specs.Machines.{ActionFits, AllFit, MachineFits}
use Rattle.book_law.proofs.Kept.{AnswerStands, Kept, Stands, answer_at, answer_lines, as_process}
use Rattle.book_law.proofs.Asked.{entered_asked}
use Rattle.book_law.proofs.Books.{applied_all, behind_all, behind_cut, copies_applied, copies_keep, copies_more, cut, none_later, up_to_all}
use Rattle.book_law.proofs.Calls.{covers, fits_at, kind_stays, lawful_at}
use Rattle.book_law.proofs.Courses.{came_sound}
use Rattle.book_law.proofs.Entries.{as_received}
use Rattle.book_law.proofs.Fits.{Fit, Laws, ProcessFits as Fitted, kinds_at}
use Rattle.book_law.proofs.Fitting.{acts, history_fits, knows, opening_fits, step_fits}
use Rattle.book_law.proofs.Law.{entries_only}
use Rattle.book_law.proofs.Lists.{append_none_left, append_none_right, in_at, lines_by-append}
use Rattle.book_law.proofs.Makers.{copies_made}
use Rattle.book_law.proofs.Numbered.{numbered}
use Rattle.book_law.proofs.Processes.{after_lines-append, get_some, replies_after}
use Rattle.book_law.proofs.Stages.{stage_free, stage_told}
use Rattle.book_law.proofs.Typed.{kind_contained, kind_found}

-- ---- the first replies

fit_first : (q : Computes) (fits_reply : ReplyFits) (text : TextNo) (number : ProcessNo) (args : Data) (before xs ys : List Reply) → RepliesFitFrom q fits_reply text number args before (xs ++ ys) → RepliesFitFrom q fits_reply text number args before xs
fit_first q fits_reply text number args before [] ys h = tt
fit_first q fits_reply text number args before (r ∷ xs) ys h = (h.0, fit_first q fits_reply text number args (before ++ r ∷ []) xs ys h.1)

own-append : (q : Computes) (text : TextNo) (number : ProcessNo) (args : Data) (before xs ys : List Reply) → own_from q text number args before (xs ++ ys) ≡ own_from q text number args before xs ++ own_from q text number args (before ++ xs) ys
own-append q text number args before [] ys = ap (λ (rs : List Reply). own_from q text number args rs ys) (sym (append-nil before))
own-append q text number args before (r ∷ xs) ys =
    let here = made_by (next_of q text number args before) r in
    let rest = own_from q text number args (before ++ r ∷ []) xs in
    ap (λ (ks : Kinds). here ++ ks) (own-append q text number args (before ++ r ∷ []) xs ys ∙ ap (λ (rs : List Reply). rest ++ own_from q text number args rs ys) (append_assoc before (r ∷ []) xs))
    ∙ sym (append_assoc here rest (own_from q text number args (before ++ r ∷ xs) ys))

first_of : {A : Type 0} (xs ys zs ws : List A) → xs ++ ys ≡ zs ++ ws → length ys ≤ length ws → (more : List A) × (xs ≡ zs ++ more)
first_of xs ys [] ws e le = (xs, refl)
first_of {A} [] ys (z ∷ zs) ws e le = absurd (let f = ap (λ (l : List A). length l) e in let g = length-append zs ws in omega (arith, f, g, le))
first_of {A} (x ∷ xs) ys (z ∷ zs) ws e le =
    let head : x ≡ z = cc e in
    let tail : xs ++ ys ≡ zs ++ ws = cc e in
    let r = first_of xs ys zs ws tail le in
    (r.0, ap (λ (y : A). y ∷ xs) head ∙ ap (λ (l : List A). z ∷ l) r.1)

-- ---- a process at each place from its own on

-- the lines of a process that an answer is on the way to: that answer's, where its place is behind
pub told_behind : (single : Test) (p : Performs) (j : ℕ) (c : Copied) (xs : List Message) (aside : List Placed) (r : Placed) → lines_by j (book_from single p c xs []) ≡ [] → ((k : ℕ) → c.applied < k → lines_by j (aside_at k aside) ≡ answer_at k (Some r)) → r.place ≤ c.applied + length xs
    → ((r.place ≤ c.applied) × (lines_by j (book_from single p c xs aside) ≡ [])) ⊎ ((c.applied < r.place) × (lines_by j (book_from single p c xs aside) ≡ r.line ∷ []))
told_behind single p j c [] aside r none quiet le = inl (omega (arith, le), refl)
told_behind single p j c (x ∷ xs) aside r none quiet le = ⊎_elim
    (λ u. ⊎_elim
    (λ (e : r.place ≡ c.applied + 1). inr (omega (arith, e), whole ∙ ap (λ b. (if b then r.line ∷ [] else []) ++ lines_by j more) (eq-eqb r.place (c.applied + 1) e) ∙ ap (λ (ls : List Line). r.line ∷ ls) u.1))
    (λ apart. inl (let a = u.0 in omega (arith, a, apart), whole ∙ ap (λ b. (if b then r.line ∷ [] else []) ++ lines_by j more) (ne_eqb r.place (c.applied + 1) apart) ∙ u.1))
    (cases_eq r.place (c.applied + 1)))
    (λ u. inr (let a = u.0 in omega (arith, a), whole ∙ ap (λ b. (if b then r.line ∷ [] else []) ++ lines_by j more) (ne_eqb r.place (c.applied + 1) (λ (e : r.place ≡ c.applied + 1). let a = u.0 in omega (arith, a, e))) ∙ u.1))
    (told_behind single p j (after single p c x) xs aside r later (λ k lt. quiet k (omega arith)) (omega (arith, le)))
  where
    here : List Line
    here = lines_after single p c x

    rest : List Line
    rest = book_from single p (after single p c x) xs []

    more : List Line
    more = book_from single p (after single p c x) xs aside

    two : lines_by j (here ++ []) ++ lines_by j rest ≡ []
    two = sym (lines_by-append j (here ++ []) rest) ∙ none

    later : lines_by j rest ≡ []
    later = append_none_right (lines_by j (here ++ [])) (lines_by j rest) two

    one : lines_by j here ≡ []
    one = ap (lines_by j) (sym (append-nil here)) ∙ append_none_left (lines_by j (here ++ [])) (lines_by j rest) two

    whole : lines_by j (book_from single p c (x ∷ xs) aside) ≡ answer_at (c.applied + 1) (Some r) ++ lines_by j more
    whole =
        let new = aside_at (c.applied + 1) aside in
        lines_by-append j (here ++ new) more
        ∙ ap (λ (ls : List Line). ls ++ lines_by j more) (lines_by-append j here new ∙ ap (λ (ls : List Line). ls ++ lines_by j new) one ∙ quiet (c.applied + 1) (omega arith))

pub within : (single : Test) (p : Performs) (list : List Message) (n : ℕ) → (copies_at single p list n).applied + length (drop n list) ≡ length list
within single p list n =
    let a = applied_all single p opening_copies (take n list) in
    let b = length-append (take n list) (drop n list) in
    let c = ap (λ (ms : List Message). length ms) (take-append-drop n list) in
    omega (arith, a, b, c)

-- behind a place from its own on a process has no more lines than it lacks
few_behind : (single : Test) (p : Performs) (q : Computes) (list : List Message) (aside : List Placed) (owned : List Single) (seen : List Message) (a j : ℕ) (x : Runner) (n : ℕ) → (s : Stands single p q list aside owned seen a j x) → x.place ≤ n
    → length (lines_by j (behind single p list aside n)) ≤ length (answer_lines x.answer) + length s.awaited
few_behind single p q list aside owned seen a j x n s le = ⊎_elim
    (λ (lt : length list < n). let e = ap (λ (ls : List Line). length (lines_by j ls)) (behind_all single p list aside n (omega (arith, lt))) in omega (arith, e))
    (λ (short : n ≤ length list). go short x.answer refl)
    (cases_lt (length list) n)
  where
    c : Copied
    c = copies_at single p list n

    go : n ≤ length list → (o : Option Placed) → x.answer ≡ o → length (lines_by j (behind single p list aside n)) ≤ length (answer_lines x.answer) + length s.awaited
    go short None e =
        let at = copies_applied single p list n short in
        let same = ap (λ (ls : List Line). length ls) (entries_only single p j c (drop n list) aside (λ k lt. s.quiet k (inl (omega (arith, lt, at, le))) ∙ ap (answer_at k) e)) in
        let f = behind_cut single p list [] x.place n le in
        let parts = ap (λ (ls : List Line). length ls) (sym s.since ∙ ap (lines_by j) f ∙ lines_by-append j (behind single p (take n list) [] x.place) (behind single p list [] n)) in
        let sum = length-append (lines_by j (behind single p (take n list) [] x.place)) (lines_by j (behind single p list [] n)) in
        omega (arith, same, parts, sum)
    go short (Some r) e =
        let at = copies_applied single p list n short in
        let d = stage_told seen x.message x.answer (waiting j (after_all single p opening_copies list).queue + waits j owned) s.awaited r e s.stage in
        let places : AnswerStands x.place (length list) (Some r) = subst (λ (o : Option Placed). AnswerStands x.place (length list) o) e s.answer in
        let none = none_later single p j list [] x.place n le (s.since ∙ d.1) in
        let w = within single p list n in
        let most = places.1 in
        let one = ap (λ (o : Option Placed). length (answer_lines o)) e in
        ⊎_elim
        (λ u. let f = ap (λ (ls : List Line). length ls) u.1 in omega (arith, f))
        (λ u. let f = ap (λ (ls : List Line). length ls) u.1 in omega (arith, f, one))
        (told_behind single p j c (drop n list) aside r none (λ k lt. s.quiet k (inl (omega (arith, lt, at, le))) ∙ ap (answer_at k) e) (omega (arith, w, most)))

-- the process there received at least what it did
record At (q : Computes) (processes : List Process) (j : ℕ) (x : Runner) : Type 0 where
  process : Process
  exists : slice_get processes j ≡ Some process
  text : process.text ≡ x.text
  args : process.args ≡ x.args
  more : List Reply
  replies : process.replies ≡ x.replies ++ more

process_at : (single : Test) (p : Performs) (q : Computes) (list : List Message) (aside : List Placed) (owned : List Single) (seen : List Message) (applied : ℕ → ℕ) (runners : ℕ → Option Runner) (a j : ℕ) (x : Runner) (n : ℕ) → Kept single p q list aside owned seen applied runners → Stands single p q list aside owned seen a j x → x.place ≤ n
    → At q (after_lines p (opening q) (up_to single p list aside n)).processes j x
process_at single p q list aside owned seen applied runners a j x n k s le =
    record { process = own.0; exists = own.1; text = ap (λ (y : Process). y.text) same; args = ap (λ (y : Process). y.args) same; more = first.0; replies = first.1 }
  where
    c : Configuration
    c = after_lines p (opening q) (up_to single p list aside n)

    later : List Line
    later = behind single p list aside n

    own : (y : Process) × (slice_get c.processes j ≡ Some y)
    own =
        let f = k.follows n in
        let count = f.processes in
        let there = s.there in
        let grows = copies_more single p list x.place n le in
        get_some c.processes j (omega (arith, count, there, grows))

    ended : Process
    ended = record { text = own.0.text; args = own.0.args; replies = own.0.replies ++ replies_to (lines_by j later) }

    same : ended ≡ as_process x s.awaited
    same =
        let e : Some ended ≡ Some (as_process x s.awaited) = sym (replies_after p c later j own.0 own.1)
        ∙ ap (λ (d : Configuration). slice_get d.processes j) (sym (after_lines-append p (opening q) (up_to single p list aside n) later) ∙ ap (after_lines p (opening q)) (sym (cut single p list aside n))) ∙ s.process in
        cc e

    first : (more : List Reply) × (own.0.replies ≡ x.replies ++ more)
    first =
        let lacks = replies_to (answer_lines x.answer) ++ replies_to s.awaited in
        let few = few_behind single p q list aside owned seen a j x n s le in
        let d = length-map (lines_by j later) (λ (l : Line). l.reply) in
        let e = length-map s.awaited (λ (l : Line). l.reply) in
        let f = length-map (answer_lines x.answer) (λ (l : Line). l.reply) in
        let g = length-append (replies_to (answer_lines x.answer)) (replies_to s.awaited) in
        first_of own.0.replies (replies_to (lines_by j later)) x.replies lacks
        (ap (λ (y : Process). y.replies) same ∙ append_assoc x.replies (replies_to (answer_lines x.answer)) (replies_to s.awaited)) (omega (arith, few, d, e, f, g))

-- so it fits
machine_fits : (single : Test) (p : Performs) (q : Computes) (fits_state : StateFits) (fits_args : ArgsFit) (fits_text : TextFits) (fits_reply : ReplyFits) (list : List Message) (aside : List Placed) (owned : List Single) (seen : List Message) (applied : ℕ → ℕ) (runners : ℕ → Option Runner) (number : ProcessNo) (x : Runner) (n a : ℕ) → Laws p q fits_state fits_args fits_text fits_reply
    → Kept single p q list aside owned seen applied runners → Stands single p q list aside owned seen a number.0 x → x.place ≤ n → MachineFits q fits_text fits_reply (kinds_at single p list n) number x
machine_fits single p q fits_state fits_args fits_text fits_reply list aside owned seen applied runners number x n a laws k s le = record {
  text = laws.text_stays_fit (kinds_of c.objects) (kinds_at single p list n) x.text x.args over
      (subst (λ (t : TextNo). fits_text (kinds_of c.objects) t x.args) at.text (subst (λ (d : Data). fits_text (kinds_of c.objects) at.process.text d) at.args g.text));
  replies = fit_first q fits_reply x.text number x.args [] x.replies at.more
      (subst (λ (rs : List Reply). RepliesFitFrom q fits_reply x.text number x.args [] rs) at.replies
      (subst (λ (t : TextNo). RepliesFitFrom q fits_reply t number x.args [] at.process.replies) at.text (subst (λ (d : Data). RepliesFitFrom q fits_reply at.process.text number d [] at.process.replies) at.args g.replies)));
  own = λ entry h. over entry (kind_contained c.objects entry.0 entry.1 (g.own entry.0 entry.1 (subst (λ (ks : Kinds). Contains ks entry) (sym made)
      (Contains-append_left (own_objects q x.text number x.args x.replies) (own_from q x.text number x.args x.replies at.more) entry h))));
}
  where
    c : Configuration
    c = after_lines p (opening q) (up_to single p list aside n)

    f : Fit q fits_state fits_text fits_reply c
    f = fits_at single p q fits_state fits_args fits_text fits_reply list aside n laws k.legal

    at : At q c.processes number.0 x
    at = process_at single p q list aside owned seen applied runners a number.0 x n k s le

    g : Fitted q fits_text fits_reply c.objects number at.process
    g = f.processes number at.process at.exists

    over : ExtendsKinds (kinds_of c.objects) (kinds_at single p list n)
    over = covers single p q fits_state fits_args fits_text fits_reply list aside owned seen applied runners n laws k

    made : own_objects q at.process.text number at.process.args at.process.replies ≡ own_objects q x.text number x.args x.replies ++ own_from q x.text number x.args x.replies at.more
    made = ap (λ (t : TextNo). own_objects q t number at.process.args at.process.replies) at.text ∙ ap (λ (d : Data). own_objects q x.text number d at.process.replies) at.args
        ∙ ap (λ (rs : List Reply). own_objects q x.text number x.args rs) at.replies ∙ own-append q x.text number x.args [] x.replies at.more

-- ---- actions

acts_fit : (q : Computes) (fits_args : ArgsFit) (fits_text : TextFits) (kinds more : Kinds) (text : TextNo) (number : ProcessNo) (args : Data) (replies : List Reply) (a : Action) → KnowsIn q kinds text number args replies more → IsLawfulDoing q fits_args fits_text kinds text number args replies (doing.At a)
    → ActionFits fits_args fits_text more a
acts_fit q fits_args fits_text kinds more text number args replies (action.Make kind object) in_more lawful = tt
acts_fit q fits_args fits_text kinds more text number args replies (action.Call kind op object given) in_more lawful = lawful.1 more in_more
acts_fit q fits_args fits_text kinds more text number args replies (action.Fork process given place_on) in_more lawful = lawful.1 more in_more
acts_fit q fits_args fits_text kinds more text number args replies action.Ended in_more lawful = tt
acts_fit q fits_args fits_text kinds more text number args replies (action.Faulted fault) in_more lawful = tt

-- what a process knows is among more types
knows_more : (q : Computes) (fits_text : TextFits) (fits_reply : ReplyFits) (c : Configuration) (more : Kinds) (number : ProcessNo) (x : Process) → ExtendsKinds (kinds_of c.objects) more → Fitted q fits_text fits_reply c.objects number x → KnowsIn q (kinds_of c.objects) x.text number x.args x.replies more
knows_more q fits_text fits_reply c more number x covers g =
    let own = knows q fits_text fits_reply c.objects number x g in
    (covers, λ entry h. covers entry (own.1 entry h))

makes_own : (q : Computes) (fits_args : ArgsFit) (fits_text : TextFits) (kinds : Kinds) (text : TextNo) (number : ProcessNo) (args : Data) (replies : List Reply) (a : Action) (o : ObjectId) → IsLawfulDoing q fits_args fits_text kinds text number args replies (doing.At a) → Makes a o
    → (o.process ≡ number.0) × (o.number ≡ length (own_objects q text number args replies) + 1)
makes_own q fits_args fits_text kinds text number args replies (action.Make kind object) o lawful is = (ap (λ (y : ObjectId). y.process) is ∙ lawful.0, ap (λ (y : ObjectId). y.number) is ∙ lawful.1)
makes_own q fits_args fits_text kinds text number args replies (action.Call kind op object given) o lawful is = absurd is
makes_own q fits_args fits_text kinds text number args replies (action.Fork process given place_on) o lawful is = absurd is
makes_own q fits_args fits_text kinds text number args replies action.Ended o lawful is = absurd is
makes_own q fits_args fits_text kinds text number args replies (action.Faulted fault) o lawful is = absurd is

-- each line of a history fits, over types that have those of its end
lines_fit : (p : Performs) (q : Computes) (fits_state : StateFits) (fits_args : ArgsFit) (fits_text : TextFits) (fits_reply : ReplyFits) (more : Kinds) (c : Configuration) (lines : List Line) (l : Line) → Laws p q fits_state fits_args fits_text fits_reply → LegalFrom p q c lines → Fit q fits_state fits_text fits_reply c
    → ExtendsKinds (kinds_of (after_lines p c lines).objects) more → In l lines → ActionFits fits_args fits_text more l.action × FitsAction fits_reply (doing.At l.action) l.reply
lines_fit p q fits_state fits_args fits_text fits_reply more c [] l laws legal f covers h = absurd h
lines_fit p q fits_state fits_args fits_text fits_reply more c (k ∷ lines) l laws legal f covers (inl e) =
    let s = legal.0 in
    let lawful = lawful_at p q fits_state fits_args fits_text fits_reply c k.process s.process k.action laws f s.exists s.next in
    let did = acts p q fits_state fits_args fits_text fits_reply c k.process s.process k.action k.guard k.reply laws f s.exists lawful s.performed in
    let now : ExtendsKinds (kinds_of c.objects) more = λ entry u. covers entry (kind_contained (after_lines p c (k ∷ lines)).objects entry.0 entry.1
    (kind_stays p q fits_state fits_args fits_text fits_reply c (k ∷ lines) entry.0 entry.1 laws legal f (kind_found c.objects entry.0 entry.1 f.order u))) in
    subst (λ (z : Line). ActionFits fits_args fits_text more z.action × FitsAction fits_reply (doing.At z.action) z.reply) (sym e)
    (acts_fit q fits_args fits_text (kinds_of c.objects) more s.process.text k.process s.process.args s.process.replies k.action (knows_more q fits_text fits_reply c more k.process s.process now (f.processes k.process s.process s.exists)) lawful, did.replied)
lines_fit p q fits_state fits_args fits_text fits_reply more c (k ∷ lines) l laws legal f covers (inr h) =
    lines_fit p q fits_state fits_args fits_text fits_reply more (after_line p c k) lines l laws legal.1 (step_fits p q fits_state fits_args fits_text fits_reply c k laws f legal.0) covers h

-- the types after the whole book are among those after all entries
book_covers : (single : Test) (p : Performs) (q : Computes) (fits_state : StateFits) (fits_args : ArgsFit) (fits_text : TextFits) (fits_reply : ReplyFits) (list : List Message) (aside : List Placed) (owned : List Single) (seen : List Message) (applied : ℕ → ℕ) (runners : ℕ → Option Runner) → Laws p q fits_state fits_args fits_text fits_reply
    → Kept single p q list aside owned seen applied runners → ExtendsKinds (kinds_of (after_lines p (opening q) (book single p list aside)).objects) (kinds_at single p list (length list))
book_covers single p q fits_state fits_args fits_text fits_reply list aside owned seen applied runners laws k =
    subst (λ (ls : List Line). ExtendsKinds (kinds_of (after_lines p (opening q) ls).objects) (kinds_at single p list (length list))) (up_to_all single p list aside (length list) (omega arith))
    (covers single p q fits_state fits_args fits_text fits_reply list aside owned seen applied runners (length list) laws k)

-- ---- messages

record AskedFits (single : Test) (p : Performs) (fits_args : ArgsFit) (fits_text : TextFits) (list : List Message) (m : Message) : Type 0 where
  place : ℕ
  within : place ≤ length list
  fits : ActionFits fits_args fits_text (kinds_at single p list place) m.action
  makes : (o : ObjectId) → Makes m.action o → o.process ≡ m.process.0

abbrev AllAsked : Test → Performs → ArgsFit → TextFits → Course → Type 0
AllAsked single p fits_args fits_text w = (m : Message) → In m w.asked → AskedFits single p fits_args fits_text w.list m

-- so it stays where the list grows
asked_push : (single : Test) (p : Performs) (fits_args : ArgsFit) (fits_text : TextFits) (list : List Message) (x m : Message) → AskedFits single p fits_args fits_text list m → AskedFits single p fits_args fits_text (list ++ x ∷ []) m
asked_push single p fits_args fits_text list x m h =
    let within = h.within in
    let long = length-append list (x ∷ []) in
    record {
      place = h.place;
      within = omega (arith, within, long);
      fits = subst (λ (c : Copied). ActionFits fits_args fits_text (kinds_of c.objects ++ c.singles) m.action) (sym (copies_keep single p list x h.place h.within)) h.fits;
      makes = h.makes;
    }

next_asked : (single : Test) (p : Performs) (q : Computes) (fits_state : StateFits) (fits_args : ArgsFit) (fits_text : TextFits) (fits_reply : ReplyFits) (w v : Course) → Laws p q fits_state fits_args fits_text fits_reply → Next single p q w v → Came single p q w → AllAsked single p fits_args fits_text w → AllAsked single p fits_args fits_text v
next_asked single p q fits_state fits_args fits_text fits_reply w v laws (Submits j x m here free asks e) came all = subst (λ (u : Course). AllAsked single p fits_args fits_text u) (sym e)
    (λ n h. ⊎_elim (λ u. subst (λ (z : Message). AskedFits single p fits_args fits_text w.list z) (sym u) new) (λ u. all n u) h)
  where
    k : Kept single p q w.list w.aside w.owned w.entered w.applied w.runners
    k = let sound = came_sound single p q w came in sound.kept

    c : Configuration
    c = after_lines p (opening q) (book single p w.list w.aside)

    now : Process
    now = record { text = x.text; args = x.args; replies = x.replies }

    at : slice_get c.processes m.process.0 ≡ Some now
    at =
        let s = k.stands j x here in
        let idle = stage_free w.entered x.message x.answer (waiting j (after_all single p opening_copies w.list).queue + waits j w.owned) s.awaited free s.stage in
        ap (slice_get c.processes) asks.process ∙ s.process ∙ ap (λ (y : Process). Some y) (as_received x s.awaited idle.2 idle.1)

    f : Fit q fits_state fits_text fits_reply c
    f = history_fits p q fits_state fits_args fits_text fits_reply (opening q) (book single p w.list w.aside) laws k.legal (opening_fits p q fits_state fits_args fits_text fits_reply laws)

    lawful : IsLawfulDoing q fits_args fits_text (kinds_of c.objects) x.text m.process x.args x.replies (doing.At m.action)
    lawful = lawful_at p q fits_state fits_args fits_text fits_reply c m.process now m.action laws f at asks.next

    more : Kinds
    more = kinds_at single p w.list (length w.list)

    new : AskedFits single p fits_args fits_text w.list m
    new = record {
      place = length w.list;
      within = omega arith;
      fits = acts_fit q fits_args fits_text (kinds_of c.objects) more x.text m.process x.args x.replies m.action
          (knows_more q fits_text fits_reply c more m.process now (book_covers single p q fits_state fits_args fits_text fits_reply w.list w.aside w.owned w.entered w.applied w.runners laws k) (f.processes m.process now at)) lawful;
      makes = λ o is. (makes_own q fits_args fits_text (kinds_of c.objects) x.text m.process x.args x.replies m.action o lawful is).0;
    }
next_asked single p q fits_state fits_args fits_text fits_reply w v laws (Orders x r here was new may plain e) came all = subst (λ (u : Course). AllAsked single p fits_args fits_text u) (sym e) (λ m h. asked_push single p fits_args fits_text w.list x m (all m h))
next_asked single p q fits_state fits_args fits_text fits_reply w v laws (Forks x born member was new forks e) came all = subst (λ (u : Course). AllAsked single p fits_args fits_text u) (sym e) (λ m h. asked_push single p fits_args fits_text w.list x m (all m h))
next_asked single p q fits_state fits_args fits_text fits_reply w v laws (Applies m y is e) came all = subst (λ (u : Course). AllAsked single p fits_args fits_text u) (sym e) all
next_asked single p q fits_state fits_args fits_text fits_reply w v laws (Reads_at j x n line here h e) came all = subst (λ (u : Course). AllAsked single p fits_args fits_text u) (sym e) all
next_asked single p q fits_state fits_args fits_text fits_reply w v laws (Takes_call i x r call t e) came all = subst (λ (u : Course). AllAsked single p fits_args fits_text u) (sym e) all
next_asked single p q fits_state fits_args fits_text fits_reply w v laws (Hears_answer j x r here has le e) came all = subst (λ (u : Course). AllAsked single p fits_args fits_text u) (sym e) all

all_asked : (single : Test) (p : Performs) (q : Computes) (fits_state : StateFits) (fits_args : ArgsFit) (fits_text : TextFits) (fits_reply : ReplyFits) (w : Course) → Laws p q fits_state fits_args fits_text fits_reply → Came single p q w → AllAsked single p fits_args fits_text w
all_asked single p q fits_state fits_args fits_text fits_reply w laws (Opens member shared) = λ m h. absurd h
all_asked single p q fits_state fits_args fits_text fits_reply w laws (Then u v came next) = next_asked single p q fits_state fits_args fits_text fits_reply u v laws next came (all_asked single p q fits_state fits_args fits_text fits_reply u laws came)

-- ---- every run

pub all_fit : (single : Test) (p : Performs) (q : Computes) (fits_state : StateFits) (fits_args : ArgsFit) (fits_text : TextFits) (fits_reply : ReplyFits) (w : Course) → Laws p q fits_state fits_args fits_text fits_reply → Came single p q w → AllFit single p q fits_args fits_text fits_reply w
all_fit single p q fits_state fits_args fits_text fits_reply w laws came = record {
  processes = machines;
  asked = λ m h. let u = asks m h in (u.place, u.within, u.fits);
  performed = λ l h.
      let more = kinds_at single p w.list (length w.list) in
      let covered = book_covers single p q fits_state fits_args fits_text fits_reply w.list w.aside w.owned w.entered w.applied w.runners laws k in
      let u = lines_fit p q fits_state fits_args fits_text fits_reply more (opening q) (book single p w.list w.aside) l laws k.legal (opening_fits p q fits_state fits_args fits_text fits_reply laws) covered h in
      (length w.list, omega arith, u.0, u.1);
  makes = λ m o h is. let u = asks m h in u.makes o is;
  numbers = λ number x m o here out is.
      let s = k.stands number.0 x here in
      let a = s.asks m out in
      let g = machines number x x.place here (omega arith) in
      let kinds = kinds_at single p w.list x.place in
      let same : m.process ≡ number = ap (λ (n : ℕ). record { 0 = n }) a.process in
      let next : q.doing x.text number x.args x.replies most_turns ≡ doing.At m.action = ap (λ (n : ProcessNo). q.doing x.text n x.args x.replies most_turns) (sym same) ∙ a.next in
      let lawful = subst (λ (d : Doing). IsLawfulDoing q fits_args fits_text kinds x.text number x.args x.replies d) next (laws.lawful kinds x.text number x.args x.replies g.text g.replies) in
      (makes_own q fits_args fits_text kinds x.text number x.args x.replies m.action o lawful is).1;
  objects = numbered single p q fits_state fits_args fits_text fits_reply w laws came;
  owners = λ i s there.
      let h = copies_made single p q w came i s there in
      let were = entered_asked single p q w came in
      let u = asks h.entry (were.entered h.entry (were.listed h.entry (in_at h.entry w.list h.before h.there))) in
      let its : Makes h.entry.action s.object = subst (λ (a : Action). Makes a s.object) (sym h.makes) refl in
      (h.runner, ap w.runners (u.makes s.object its) ∙ h.process, h.owner);
}
  where
    k : Kept single p q w.list w.aside w.owned w.entered w.applied w.runners
    k = let sound = came_sound single p q w came in sound.kept

    machines : (number : ProcessNo) (x : Runner) (n : ℕ) → w.runners number.0 ≡ Some x → x.place ≤ n → MachineFits q fits_text fits_reply (kinds_at single p w.list n) number x
    machines number x n here le = machine_fits single p q fits_state fits_args fits_text fits_reply w.list w.aside w.owned w.entered w.applied w.runners number x n (w.applied x.member) laws k (k.stands number.0 x here) le

    asks : (m : Message) → In m w.asked → AskedFits single p fits_args fits_text w.list m
    asks m h = all_asked single p q fits_state fits_args fits_text fits_reply w laws came m h
