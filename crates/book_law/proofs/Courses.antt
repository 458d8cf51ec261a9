-- Every run keeps `Kept`.
use Rattle.std.proofs.Common.{◌≡◌, ℕ, suc, ◌+◌, ◌==◌, ◌⊎◌, inl, inr, ⊎_elim, Bool, true, false, Option, Some, None, List, [], ◌∷◌, ◌++◌, length, refl, sym, ap, ◌∙◌, subst, if◌then◌else◌}
use Rattle.std.specs.Prelude.{slice_get, option_map}
use Rattle.std.proofs.lemmas.Bool.{cases_eq, eq-eqb, eqb-true, ne_eqb}
use Rattle.value_core.specs.Datum as datum
use Rattle.value_core.specs.declared.action.Line.{Line}
use Rattle.value_core.specs.declared.message.Message.{Message}
use Rattle.value_core.specs.Meaning.{Performs, Computes}
use Rattle.object_manager.specs.After.{opening_copies}
use Rattle.orca_base.specs.declared.ids.ObjectId.{ObjectId}
use Rattle.guard_queue.specs.declared.queue.Suspended.{Suspended}
use Rattle.book_law.specs.Passes.{Test, after_all, lines_after}
use Rattle.object_manager.specs.State.{message_of}
use Rattle.book_law.specs.Singles.{lines_on, waiting, waits}
use Rattle.book_law.specs.Book.{behind, copies_at}
use Rattle.book_law.specs.Course.{Came, Course, MayOrder, Next, applying, taking, with_at}
use Rattle.book_law.specs.Course.Next.{Submits, Orders, Forks, Applies, Reads_at, Takes_call, Hears_answer}
use Rattle.book_law.specs.Course.Came.{Opens, Then}
use Rattle.book_law.proofs.Kept.{Promised, Accounted, Kept, Stands}
use Rattle.book_law.specs.Events.{Calls, In, Runner, answering, asking, handed, lines_by, newborn, told, took}
use Rattle.book_law.proofs.Lists.{in_end, in_left, in_push}
use Rattle.book_law.proofs.Stages.{not_both, stage_listed, stage_told}
use Rattle.book_law.proofs.Entries.{appended, fork_may, forked_entry, no_number}
use Rattle.book_law.proofs.Hearing.{answers, applies, heard}
use Rattle.book_law.proofs.Reading.{read}
use Rattle.book_law.proofs.Taking.{takes}
use Rattle.book_law.proofs.Submits.{opened, submits}
use Rattle.book_law.proofs.Law.{book_is_legal}

pub at_own : {A : Type 0} (f : ℕ → A) (k : ℕ) (v : A) → with_at f k v k ≡ v
at_own f k v = ap (λ b. if b then v else f k) (eq-eqb k k refl)

pub at_other : {A : Type 0} (f : ℕ → A) (k : ℕ) (v : A) (x : ℕ) → (x ≡ k → ⊥) → with_at f k v x ≡ f x
at_other f k v x apart = ap (λ b. if b then v else f x) (ne_eqb x k apart)

-- ---- what entered

-- a message is a call on a single object
abbrev pub IsSingleCall : Test → Message → Type 0
IsSingleCall single m = (call : Suspended) × (m ≡ message_of call) × (single call.object ≡ true)

abbrev pub EnteredFrom : Test → Course → Type 0
EnteredFrom single w = (m : Message) → In m w.entered → In m w.list ⊎ IsSingleCall single m

pushed_from : (single : Test) (list entered : List Message) (x : Message) → ((m : Message) → In m entered → In m list ⊎ IsSingleCall single m) → (m : Message) → In m (entered ++ x ∷ []) → In m (list ++ x ∷ []) ⊎ IsSingleCall single m
pushed_from single list entered x all m h = ⊎_elim
    (λ u. ⊎_elim (λ v. inl (in_left m x list v)) (λ v. inr v) (all m u))
    (λ u. inl (subst (λ (z : Message). In z (list ++ x ∷ [])) (sym u) (in_end x list)))
    (in_push m x entered h)

abbrev NewIn : List Message → Message → Type 0
NewIn list x = In x list → ⊥

-- so a message that calls no single object and isn't in the list hasn't entered
fresh_from : (single : Test) (list entered : List Message) (x : Message) → ((m : Message) → In m entered → In m list ⊎ IsSingleCall single m) → ((o : ObjectId) → Calls x.action o → single o ≡ false) → NewIn list x → NewIn entered x
fresh_from single list entered x all shared new h = ⊎_elim (λ u. new u)
    (λ u. let f : single u.0.object ≡ false = shared u.0.object (subst (λ (m : Message). Calls m.action u.0.object) (sym u.1) refl) in let g : true ≡ false = sym u.2 ∙ f in absurd (cc g))
    (all x h)

-- what a run keeps
pub record Sound (single : Test) (p : Performs) (q : Computes) (w : Course) : Type 0 where
  pub kept : Kept single p q w.list w.aside w.owned w.entered w.applied w.runners
  pub accounted : Accounted w.entered w.runners w.asked
  pub from : EnteredFrom single w

-- a message that was submitted and hasn't entered is the one that its process has out
pub pending : (list : List Message) (runners : ℕ → Option Runner) (asked : List Message) (x : Message) → Accounted list runners asked → In x asked → (In x list → ⊥) → (r : Runner) × (runners x.process.0 ≡ Some r) × (r.message ≡ Some x)
pending list runners asked x all was new = ⊎_elim (λ h. absurd (new h)) (λ r. r) (all x was)

-- who has a message out stays where another process changes
other_has : (runners : ℕ → Option Runner) (k : ℕ) (v : Option Runner) (m : Message) → (m.process.0 ≡ k → ⊥) → ((x : Runner) × (runners m.process.0 ≡ Some x) × (x.message ≡ Some m)) → (x : Runner) × (with_at runners k v m.process.0 ≡ Some x) × (x.message ≡ Some m)
other_has runners k v m apart h = (h.0, at_other runners k v m.process.0 apart ∙ h.1, h.2)

pub one_of : (o : Option Runner) (x y : Runner) → o ≡ Some x → o ≡ Some y → x ≡ y
one_of o x y e f = let g : Some x ≡ Some y = sym e ∙ f in cc

-- a process without a message has none out
free_apart : (runners : ℕ → Option Runner) (j : ℕ) (x : Runner) (m : Message) → runners j ≡ Some x → x.message ≡ None → ((y : Runner) × (runners m.process.0 ≡ Some y) × (y.message ≡ Some m)) → m.process.0 ≡ j → ⊥
free_apart runners j x m here free h e =
    let f = one_of (runners j) x h.0 here (ap runners (sym e) ∙ h.1) in
    not_both x.message m free (ap (λ (y : Runner). y.message) f ∙ h.2)

accounted_submits : (list : List Message) (runners : ℕ → Option Runner) (asked : List Message) (j : ℕ) (x : Runner) (m : Message) → runners j ≡ Some x → x.message ≡ None → m.process.0 ≡ j → Accounted list runners asked → Accounted list (with_at runners j (Some (asking m x))) (m ∷ asked)
accounted_submits list runners asked j x m here free own all n (inl e) =
    inr (asking m x, ap (λ (y : Message). with_at runners j (Some (asking m x)) y.process.0) e ∙ ap (with_at runners j (Some (asking m x))) own ∙ at_own runners j (Some (asking m x)), ap (λ (y : Message). Some y) (sym e))
accounted_submits list runners asked j x m here free own all n (inr h) =
    ⊎_elim (λ u. inl u) (λ u. inr (other_has runners j (Some (asking m x)) n (free_apart runners j x n here free u) u)) (all n h)

accounted_orders : (list : List Message) (runners : ℕ → Option Runner) (asked : List Message) (x : Message) → Accounted list runners asked → Accounted (list ++ x ∷ []) runners asked
accounted_orders list runners asked x all n h = ⊎_elim (λ u. inl (in_left n x list u)) (λ u. inr u) (all n h)

accounted_applies : (single : Test) (p : Performs) (q : Computes) (w : Course) (m : ℕ) (y : Message) → slice_get w.list (w.applied m) ≡ Some y → Kept single p q w.list w.aside w.owned w.entered w.applied w.runners → Accounted w.entered w.runners w.asked
    → Accounted w.entered (applying single p w m y).runners w.asked
accounted_applies single p q w m y is k all n h = ⊎_elim (λ u. inl u) (λ u. out u.0 u.1 u.2 (u.0.member == m) refl (lines_by n.process.0 lines) refl) (all n h)
  where
    lines : List Line
    lines = lines_after single p (copies_at single p w.list (w.applied m)) y

    out : (x : Runner) → w.runners n.process.0 ≡ Some x → x.message ≡ Some n → (b : Bool) → (x.member == m) ≡ b → (ls : List Line) → lines_by n.process.0 lines ≡ ls
        → In n w.entered ⊎ ((z : Runner) × ((applying single p w m y).runners n.process.0 ≡ Some z) × (z.message ≡ Some n))
    out x here has false e ls f =
        inr (x, ap (option_map (handed m (suc (w.applied m)) lines n.process.0)) here ∙ ap (λ b. Some (if b then took (suc (w.applied m)) (lines_by n.process.0 lines) x else x)) e, has)
    out x here has true e [] f =
        inr (x, ap (option_map (handed m (suc (w.applied m)) lines n.process.0)) here ∙ ap (λ b. Some (if b then took (suc (w.applied m)) (lines_by n.process.0 lines) x else x)) e ∙ ap (λ (l : List Line). Some (took (suc (w.applied m)) l x)) f, has)
    out x here has true e (l ∷ ls) f =
        let s : Stands single p q w.list w.aside w.owned w.entered (w.applied m) n.process.0 x = subst (λ (i : ℕ). Stands single p q w.list w.aside w.owned w.entered (w.applied i) n.process.0 x) (eqb-true x.member m e) (k.stands n.process.0 x here) in
        let g = heard single p q w.list w.aside w.owned w.entered (w.applied m) n.process.0 x y is s in
        inl (stage_listed w.entered n x.message x.answer (waiting n.process.0 (after_all single p opening_copies w.list).queue + waits n.process.0 w.owned) s.awaited l (ls ++ lines_by n.process.0 (behind single p w.list [] (suc (w.applied m)))) (g ∙ ap (λ (r : List Line). r ++ lines_by n.process.0 (behind single p w.list [] (suc (w.applied m)))) f) has s.stage)

accounted_reads : (list : List Message) (runners : ℕ → Option Runner) (asked : List Message) (j : ℕ) (x v : Runner) → runners j ≡ Some x → x.message ≡ None → Accounted list runners asked → Accounted list (with_at runners j (Some v)) asked
accounted_reads list runners asked j x v here free all n h =
    ⊎_elim (λ u. inl u) (λ u. inr (other_has runners j (Some v) n (free_apart runners j x n here free u) u)) (all n h)

-- an answer changes nothing of whose message is out
accounted_takes : (entered : List Message) (runners : ℕ → Option Runner) (asked : List Message) (m : Message) (place : ℕ) (lines : List Line) → Accounted entered runners asked → Accounted (entered ++ m ∷ []) (λ j. option_map (answering place (lines_by j lines)) (runners j)) asked
accounted_takes entered runners asked m place lines all n h = ⊎_elim (λ u. inl (in_left n m entered u)) (λ u. inr (out u.0 u.1 u.2 (lines_by n.process.0 lines))) (all n h)
  where
    has : (x : Runner) → x.message ≡ Some n → (ls : List Line) → (answering place ls x).message ≡ Some n
    has x e [] = e
    has x e (l ∷ ls) = e

    out : (x : Runner) → runners n.process.0 ≡ Some x → x.message ≡ Some n → (ls : List Line) → (z : Runner) × (option_map (answering place (lines_by n.process.0 lines)) (runners n.process.0) ≡ Some z) × (z.message ≡ Some n)
    out x here e ls = (answering place (lines_by n.process.0 lines) x, ap (option_map (answering place (lines_by n.process.0 lines))) here, has x e (lines_by n.process.0 lines))

-- whose answer is heard, its message entered
accounted_hears : (entered : List Message) (runners : ℕ → Option Runner) (asked : List Message) (j : ℕ) (x v : Runner) (m : Message) → runners j ≡ Some x → x.message ≡ Some m → In m entered → Accounted entered runners asked → Accounted entered (with_at runners j (Some v)) asked
accounted_hears entered runners asked j x v m here out there all n h = ⊎_elim (λ u. inl u) (λ u. go u (cases_eq n.process.0 j)) (all n h)
  where
    go : ((z : Runner) × (runners n.process.0 ≡ Some z) × (z.message ≡ Some n)) → (n.process.0 ≡ j) ⊎ (n.process.0 ≡ j → ⊥) → In n entered ⊎ ((z : Runner) × (with_at runners j (Some v) n.process.0 ≡ Some z) × (z.message ≡ Some n))
    go u (inl e) =
        let f = one_of (runners j) x u.0 here (ap runners (sym e) ∙ u.1) in
        let g : Some m ≡ Some n = sym out ∙ ap (λ (z : Runner). z.message) f ∙ u.2 in
        let i : m ≡ n = cc in
        inl (subst (λ (z : Message). In z entered) i there)
    go u (inr apart) = inr (other_has runners j (Some v) n apart u)

-- the next entry hasn't entered, and its process has it out
pub fresh_of : (single : Test) (p : Performs) (q : Computes) (w : Course) (x : Message) → Sound single p q w → MayOrder single w.owned x.action → NewIn w.list x → NewIn w.entered x
fresh_of single p q w x s may new = fresh_from single w.list w.entered x s.from may.shared new

pub has_out : (single : Test) (p : Performs) (q : Computes) (w : Course) (x : Message) (r : Runner) → Sound single p q w → w.runners x.process.0 ≡ Some r → In x w.asked → NewIn w.entered x → r.message ≡ Some x
has_out single p q w x r s here was new =
    let h = pending w.entered w.runners w.asked x s.accounted was new in
    ap (λ (y : Runner). y.message) (one_of (w.runners x.process.0) r h.0 here h.1) ∙ h.2

pub next_keeps : (single : Test) (p : Performs) (q : Computes) (w v : Course) → Next single p q w v → Sound single p q w → Sound single p q v
next_keeps single p q w v (Submits j x m here free asks e) s =
    subst (λ (u : Course). Sound single p q u) (sym e) (record {
      kept = submits single p q w.list w.aside w.owned w.entered w.applied w.runners (with_at w.runners j (Some (asking m x))) j x m here free asks (at_own w.runners j (Some (asking m x))) (at_other w.runners j (Some (asking m x))) s.kept;
      accounted = accounted_submits w.entered w.runners w.asked j x m here free asks.process s.accounted;
      from = s.from;
    })
next_keeps single p q w v (Orders x r here was new may plain e) s =
    let fresh = fresh_of single p q w x s may new in
    subst (λ (u : Course). Sound single p q u) (sym e) (record {
      kept = appended single p q w.list w.aside w.owned w.entered w.applied w.runners x r r.member (record { runner = here; out = has_out single p q w x r s here was fresh; new = fresh; may = may }) s.kept;
      accounted = accounted_orders w.entered w.runners w.asked x s.accounted;
      from = pushed_from single w.list w.entered x s.from;
    })
next_keeps single p q w v (Forks x born member was new forks e) s =
    let fresh = fresh_of single p q w x s (fork_may single w.owned x.action born forks) new in
    let h = pending w.entered w.runners w.asked x s.accounted was fresh in
    let number = (after_all single p opening_copies w.list).processes in
    let child = Some (newborn member born.text born.args (suc (length w.list))) in
    subst (λ (u : Course). Sound single p q u) (sym e) (record {
      kept = forked_entry single p q w.list w.aside w.owned w.entered w.applied w.runners (with_at w.runners number child) x h.0 born member h.1 h.2 fresh forks (at_own w.runners number child) (at_other w.runners number child) s.kept;
      accounted = λ n g. ⊎_elim (λ u. inl (in_left n x w.entered u)) (λ u. inr (other_has w.runners number child n (λ (f : n.process.0 ≡ number). no_number single p q w.list w.aside w.owned w.entered w.applied w.runners u.0 s.kept (ap w.runners (sym f) ∙ u.1)) u)) (s.accounted n g);
      from = pushed_from single w.list w.entered x s.from;
    })
next_keeps single p q w v (Applies m y is e) s =
    subst (λ (u : Course). Sound single p q u) (sym e) (record {
      kept = applies single p q w.list w.aside w.owned w.entered w.applied (applying single p w m y).applied w.runners (applying single p w m y).runners m y is (at_own w.applied m (suc (w.applied m))) (at_other w.applied m (suc (w.applied m))) (λ j. refl) s.kept;
      accounted = accounted_applies single p q w m y is s.kept s.accounted;
      from = s.from;
    })
next_keeps single p q w v (Reads_at j x n line here h e) s =
    subst (λ (u : Course). Sound single p q u) (sym e) (record {
      kept = read single p q w.list w.aside w.owned w.entered w.applied w.runners (with_at w.runners j (Some (told n line x))) j x n line here h (at_own w.runners j (Some (told n line x))) (at_other w.runners j (Some (told n line x))) s.kept;
      accounted = accounted_reads w.entered w.runners w.asked j x (told n line x) here h.free s.accounted;
      from = s.from;
    })
next_keeps single p q w v (Takes_call i x r call t e) s =
    subst (λ (u : Course). Sound single p q u) (sym e) (record {
      kept = let took_it = takes single p q w.list w.aside w.owned w.entered w.applied w.runners (taking p w i x call).runners i x r call t (λ j. refl) s.kept in took_it.kept;
      accounted = accounted_takes w.entered w.runners w.asked (message_of call) (w.applied x.owner) (lines_on p x call) s.accounted;
      from = let k = s.kept in let o = k.owns i x t.copy in (λ m h. ⊎_elim (λ u. s.from m u) (λ u. inr (call, u, ap single t.object ∙ o.is)) (in_push m (message_of call) w.entered h));
    })
next_keeps single p q w v (Hears_answer j x r here has le e) s =
    let k = s.kept in
    let st = k.stands j x here in
    let d = stage_told w.entered x.message x.answer (waiting j (after_all single p opening_copies w.list).queue + waits j w.owned) st.awaited r has st.stage in
    subst (λ (u : Course). Sound single p q u) (sym e) (record {
      kept = answers single p q w.list w.aside w.owned w.entered w.applied w.runners (with_at w.runners j (Some (told r.place r.line x))) j x r here has le (at_own w.runners j (Some (told r.place r.line x))) (at_other w.runners j (Some (told r.place r.line x))) s.kept;
      accounted = accounted_hears w.entered w.runners w.asked j x (told r.place r.line x) d.2.0 here d.2.1 d.2.2 s.accounted;
      from = s.from;
    })

pub came_sound : (single : Test) (p : Performs) (q : Computes) (w : Course) → Came single p q w → Sound single p q w
came_sound single p q w (Opens member shared) = record {
  kept = opened single p q (with_at (λ (j : ℕ). None) 0 (Some (newborn member q.main datum.none 0))) member shared (at_own (λ (j : ℕ). None) 0 (Some (newborn member q.main datum.none 0))) (at_other (λ (j : ℕ). None) 0 (Some (newborn member q.main datum.none 0)));
  accounted = λ m h. absurd h;
  from = λ m h. absurd h;
}
came_sound single p q w (Then u v came next) = next_keeps single p q u v next (came_sound single p q u came)

pub every_run : (single : Test) (p : Performs) (q : Computes) (w : Course) → Came single p q w → Promised single p q w.list w.aside w.owned w.applied w.runners
every_run single p q w came = let s = came_sound single p q w came in book_is_legal single p q w.list w.aside w.owned w.entered w.applied w.runners s.kept
