-- Lines put in behind their place: the book stays legal, and the copies and the other processes stay what it leaves.
use Rattle.std.proofs.Common.{◌≡◌, ℕ, ◌≤◌, ◌<◌, ◌⊎◌, inl, inr, ⊎_elim, true, false, Some, List, [], ◌∷◌, ◌++◌, length, take, refl, sym, ap, ◌∙◌, arith, subst, append-nil}
use Rattle.std.specs.Prelude.{slice_get}
use Rattle.std.proofs.lemmas.Bool.{cases_lt}
use Rattle.std.proofs.lemmas.List.{length-take-le, take_all}
use Rattle.orca_base.specs.declared.ids.ObjectId.{ObjectId}
use Rattle.value_core.specs.declared.action.Line.{Line}
use Rattle.value_core.specs.declared.message.Message.{Message}
use Rattle.value_core.specs.declared.action.Reply.{Reply}
use Rattle.value_core.specs.declared.action.Action.{Action}
use Rattle.value_core.specs.declared.action.Action.TheVariants as action
use Rattle.value_core.specs.Meaning.{Performs, Computes}
use Rattle.value_core.specs.History.{Configuration, LegalFrom, Process, after_line, after_lines, forked, object_at, opening}
use Rattle.guard_queue.specs.declared.queue.Suspended.{Suspended}
use Rattle.book_law.specs.Book.{Placed, behind, book, copies_at, up_to}
use Rattle.book_law.specs.Passes.{Test}
use Rattle.book_law.specs.Performed.{placed}
use Rattle.book_law.specs.Events.{Calls, In, Makes, lines_by, replies_to}
use Rattle.book_law.specs.Promise.{Follows}
use Rattle.book_law.proofs.Kept.{Spares, IsKept, IsNext}
use Rattle.book_law.proofs.Beside.{Away, Beside, beside_after, beside_legal}
use Rattle.book_law.proofs.Books.{behind_cut, book_inserts, cut, up_to_less, up_to_later}
use Rattle.book_law.specs.Singles.{Single}
use Rattle.value_core.specs.declared.action.Instance.{Instance}
use Rattle.book_law.proofs.Lists.{lines_by-append, lines_by-none}
use Rattle.book_law.proofs.Objects.{in_first}
use Rattle.book_law.proofs.Processes.{after_length, after_lines-append, after_same, get_some, legal-append, legal_left, legal_right, replies_after}

-- ---- calls

pub calls_forks : (a : Action) (o : ObjectId) → Calls a o → forked a ≡ []
calls_forks (action.Call kind op object args) o h = refl
calls_forks (action.Make kind object) o h = absurd h
calls_forks (action.Fork text args place_on) o h = absurd h
calls_forks action.Ended o h = absurd h
calls_forks (action.Faulted fault) o h = absurd h

pub calls_one : (a : Action) (o k : ObjectId) → Calls a o → Calls a k → o ≡ k
calls_one (action.Call kind op object args) o k h g = h ∙ sym g
calls_one (action.Make kind object) o k h g = absurd h
calls_one (action.Fork text args place_on) o k h g = absurd h
calls_one action.Ended o k h g = absurd h
calls_one (action.Faulted fault) o k h g = absurd h

pub calls_no_make : (a : Action) (o k : ObjectId) → Calls a o → Makes a k → ⊥
calls_no_make (action.Call kind op object args) o k h g = g
calls_no_make (action.Make kind object) o k h g = h
calls_no_make (action.Fork text args place_on) o k h g = h
calls_no_make action.Ended o k h g = h
calls_no_make (action.Faulted fault) o k h g = h

-- lines that are calls of one object
abbrev pub AllCall : ObjectId → List Line → Type 0
AllCall o lines = (l : Line) → In l lines → Calls l.action o

pub all_call_spare : (o k : ObjectId) (lines : List Line) → AllCall o lines → (k ≡ o → ⊥) → Spares k lines
all_call_spare o k lines all apart l h t = ⊎_elim (λ u. apart (calls_one l.action k o u (all l h))) (λ u. calls_no_make l.action o k (all l h) u) t

-- such lines leave who has none of them, and the number of processes
pub calls_same : (p : Performs) (c : Configuration) (o : ObjectId) (lines : List Line) (k : ℕ) → AllCall o lines → lines_by k lines ≡ [] → slice_get (after_lines p c lines).processes k ≡ slice_get c.processes k
calls_same p c o [] k all none = refl
calls_same p c o (l ∷ lines) k all none =
    let n = lines_by-none k l lines none in
    calls_same p (after_line p c l) o lines k (λ x h. all x (inr h)) n.1 ∙ after_same p c l k (calls_forks l.action o (all l (inl refl))) n.0

pub calls_count : (p : Performs) (c : Configuration) (o : ObjectId) (lines : List Line) → AllCall o lines → length (after_lines p c lines).processes ≡ length c.processes
calls_count p c o [] all = refl
calls_count p c o (l ∷ lines) all =
    let e = after_length p c l in
    let f = ap (λ (ps : List Process). length ps) (calls_forks l.action o (all l (inl refl))) in
    let g = calls_count p (after_line p c l) o lines (λ x h. all x (inr h)) in
    omega (arith, e, f, g)

-- who is there and has none of the lines stands behind them as before them
pub through : (p : Performs) (c : Configuration) (lines : List Line) (j : ℕ) → j < length c.processes → lines_by j lines ≡ [] → slice_get (after_lines p c lines).processes j ≡ slice_get c.processes j
through p c lines j lt none =
    let own = get_some c.processes j lt in
    replies_after p c lines j own.0 own.1
    ∙ ap (λ (ls : List Line). Some (record { text = own.0.text; args = own.0.args; replies = own.0.replies ++ replies_to ls })) none
    ∙ ap (λ (rs : List Reply). Some (record { text = own.0.text; args = own.0.args; replies = rs })) (append-nil own.0.replies)
    ∙ sym own.1

-- a call is next wherever its process stands the same
pub next_same : (q : Computes) (c d : Configuration) (call : Suspended) → slice_get d.processes call.process.0 ≡ slice_get c.processes call.process.0 → IsNext q c call → IsNext q d call
next_same q c d call same n = record { process = n.process; exists = same ∙ n.exists; number = n.number; next = n.next }

-- ---- putting in

-- lines of one place that may be put in behind it
pub record Inserts (single : Test) (p : Performs) (q : Computes) (list : List Message) (aside : List Placed) (n : ℕ) (lines : List Line) (but : ObjectId → Type 0) (who : ℕ → Type 0) : Type 0 where
  pub within : n ≤ length list
  pub legal : LegalFrom p q (after_lines p (opening q) (up_to single p list aside n)) lines
  pub beside : Beside but who (after_lines p (opening q) (up_to single p list aside n)) (after_lines p (after_lines p (opening q) (up_to single p list aside n)) lines)
  pub away : Away but who (behind single p list aside n)

pub inserts_legal : (single : Test) (p : Performs) (q : Computes) (list : List Message) (aside : List Placed) (n : ℕ) (lines : List Line) (but : ObjectId → Type 0) (who : ℕ → Type 0) → Inserts single p q list aside n lines but who
    → LegalFrom p q (opening q) (book single p list aside) → LegalFrom p q (opening q) (book single p list (aside ++ placed n lines))
inserts_legal single p q list aside n lines but who i legal =
    let before = up_to single p list aside n in
    let later = behind single p list aside n in
    let c = after_lines p (opening q) before in
    let was = subst (λ (ls : List Line). LegalFrom p q (opening q) ls) (cut single p list aside n) legal in
    let one = legal_left p q (opening q) before later was in
    let two = legal_right p q (opening q) before later was in
    let three = beside_legal p q but who c (after_lines p c lines) later i.away i.beside two in
    subst (λ (ls : List Line). LegalFrom p q (opening q) ls) (sym (book_inserts single p list aside n lines i.within))
    (legal-append p q (opening q) before (lines ++ later) one (legal-append p q c lines later i.legal three))

-- a cut further on
further : (single : Test) (p : Performs) (q : Computes) (list : List Message) (aside : List Placed) (n : ℕ) (lines : List Line) (but : ObjectId → Type 0) (who : ℕ → Type 0) → Inserts single p q list aside n lines but who → (ls : List Line) → Away but who ls
    → Beside but who (after_lines p (opening q) (up_to single p list aside n ++ ls)) (after_lines p (opening q) (up_to single p list aside n ++ (lines ++ ls)))
further single p q list aside n lines but who i ls away =
    let before = up_to single p list aside n in
    let c = after_lines p (opening q) before in
    subst (λ (e : Configuration). Beside but who e (after_lines p (opening q) (before ++ (lines ++ ls)))) (sym (after_lines-append p (opening q) before ls))
    (subst (λ (e : Configuration). Beside but who (after_lines p c ls) e) (sym (after_lines-append p (opening q) before (lines ++ ls) ∙ after_lines-append p c lines ls)) (beside_after p but who c (after_lines p c lines) ls away i.beside))

taken_long : (list : List Message) (n m : ℕ) → n ≤ length list → n ≤ m → n ≤ length (take m list)
taken_long list n m within le = ⊎_elim
    (λ (lt : length list < m). let e = take_all m list (omega (arith, lt)) in let g = ap (λ (l : List Message). length l) e in omega (arith, g, within))
    (λ (short : m ≤ length list). let e = length-take-le m list short in omega (arith, e))
    (cases_lt (length list) m)

pub inserts_at : (single : Test) (p : Performs) (q : Computes) (list : List Message) (aside : List Placed) (n : ℕ) (lines : List Line) (but : ObjectId → Type 0) (who : ℕ → Type 0) → Inserts single p q list aside n lines but who → (m : ℕ) → n ≤ m
    → Beside but who (after_lines p (opening q) (up_to single p list aside m)) (after_lines p (opening q) (up_to single p list (aside ++ placed n lines) m))
inserts_at single p q list aside n lines but who i m le =
    let before = up_to single p list aside n in
    let mid = behind single p (take m list) aside n in
    let same = up_to_less single p list aside n m le in
    let old : up_to single p list aside m ≡ before ++ mid = cut single p (take m list) aside n ∙ ap (λ (ls : List Line). ls ++ mid) same in
    let new : up_to single p list (aside ++ placed n lines) m ≡ before ++ (lines ++ mid) = book_inserts single p (take m list) aside n lines (taken_long list n m i.within le) ∙ ap (λ (ls : List Line). ls ++ (lines ++ mid)) same in
    let away : Away but who mid = λ l h. i.away l (subst (λ (ls : List Line). In l ls) (sym (behind_cut single p list aside n m le)) (in_first l mid (behind single p list aside m) h)) in
    let b = further single p q list aside n lines but who i mid away in
    subst (λ (ls : List Line). Beside but who (after_lines p (opening q) ls) (after_lines p (opening q) (up_to single p list (aside ++ placed n lines) m))) (sym old)
    (subst (λ (ls : List Line). Beside but who (after_lines p (opening q) (before ++ mid)) (after_lines p (opening q) ls)) (sym new) b)

-- the whole book
pub inserts_whole : (single : Test) (p : Performs) (q : Computes) (list : List Message) (aside : List Placed) (n : ℕ) (lines : List Line) (but : ObjectId → Type 0) (who : ℕ → Type 0) → Inserts single p q list aside n lines but who
    → Beside but who (after_lines p (opening q) (book single p list aside)) (after_lines p (opening q) (book single p list (aside ++ placed n lines)))
inserts_whole single p q list aside n lines but who i =
    let before = up_to single p list aside n in
    let later = behind single p list aside n in
    let b = further single p q list aside n lines but who i later i.away in
    subst (λ (ls : List Line). Beside but who (after_lines p (opening q) ls) (after_lines p (opening q) (book single p list (aside ++ placed n lines)))) (sym (cut single p list aside n))
    (subst (λ (ls : List Line). Beside but who (after_lines p (opening q) (before ++ later)) (after_lines p (opening q) ls)) (sym (book_inserts single p list aside n lines i.within)) b)

-- the copies of the replicated objects stay, where only single ones change
pub inserts_follows : (single : Test) (p : Performs) (q : Computes) (list : List Message) (aside : List Placed) (n : ℕ) (lines : List Line) (but : ObjectId → Type 0) (who : ℕ → Type 0) → Inserts single p q list aside n lines but who
    → ((o : ObjectId) → but o → single o ≡ true) → ((m : ℕ) → Follows single p q (up_to single p list aside m) (copies_at single p list m)) → (m : ℕ) → Follows single p q (up_to single p list (aside ++ placed n lines) m) (copies_at single p list m)
inserts_follows single p q list aside n lines but who i only follows m = ⊎_elim
    (λ (lt : m < n). subst (λ (ls : List Line). Follows single p q ls (copies_at single p list m)) (sym (up_to_later single p list aside n m lines lt i.within)) (follows m))
    (λ (le : n ≤ m).
    let b = inserts_at single p q list aside n lines but who i m le in
    let f = follows m in
    record {
      objects = λ o shared. b.objects o (λ (h : but o). let e : true ≡ false = sym (only o h) ∙ shared in absurd (cc e)) ∙ f.objects o shared;
      processes = b.count ∙ f.processes;
    })
    (cases_lt m n)

-- a process that has lines put in, and none behind them
pub inserted_process : (single : Test) (p : Performs) (q : Computes) (list : List Message) (aside : List Placed) (n : ℕ) (lines : List Line) (j : ℕ) (own : Process) → n ≤ length list
    → slice_get (after_lines p (opening q) (up_to single p list aside n)).processes j ≡ Some own → lines_by j (behind single p list aside n) ≡ []
    → slice_get (after_lines p (opening q) (book single p list (aside ++ placed n lines))).processes j ≡ Some (record { text = own.text; args = own.args; replies = own.replies ++ replies_to (lines_by j lines) })
inserted_process single p q list aside n lines j own le at none =
    let before = up_to single p list aside n in
    let later = behind single p list aside n in
    let c = after_lines p (opening q) before in
    ap (λ (d : Configuration). slice_get d.processes j) (ap (after_lines p (opening q)) (book_inserts single p list aside n lines le) ∙ after_lines-append p (opening q) before (lines ++ later))
    ∙ replies_after p c (lines ++ later) j own at
    ∙ ap (λ (ls : List Line). Some (record { text = own.text; args = own.args; replies = own.replies ++ replies_to ls })) (lines_by-append j lines later ∙ ap (λ (ls : List Line). lines_by j lines ++ ls) none ∙ append-nil (lines_by j lines))

-- what is known of single copies stays, where only known objects change
pub inserts_known : (single : Test) (p : Performs) (q : Computes) (list : List Message) (aside : List Placed) (n : ℕ) (lines : List Line) (but : ObjectId → Type 0) (who : ℕ → Type 0) (owned : List Single) → Inserts single p q list aside n lines but who
    → ((o : ObjectId) → but o ⊎ (but o → ⊥)) → ((o : ObjectId) (m : ℕ) → n ≤ m → but o → IsKept owned m o)
    → ((m : ℕ) (o : ObjectId) (kept : Instance) → single o ≡ true → object_at (after_lines p (opening q) (up_to single p list aside m)).objects o ≡ Some kept → IsKept owned m o)
    → (m : ℕ) (o : ObjectId) (kept : Instance) → single o ≡ true → object_at (after_lines p (opening q) (up_to single p list (aside ++ placed n lines) m)).objects o ≡ Some kept → IsKept owned m o
inserts_known single p q list aside n lines but who owned i decide here known m o kept is u = ⊎_elim
    (λ (lt : m < n). known m o kept is (ap (λ (ls : List Line). object_at (after_lines p (opening q) ls).objects o) (sym (up_to_later single p list aside n m lines lt i.within)) ∙ u))
    (λ (le : n ≤ m). ⊎_elim (here o m le) (λ apart. let b = inserts_at single p q list aside n lines but who i m le in known m o kept is (sym (b.objects o apart) ∙ u)) (decide o))
    (cases_lt m n)
