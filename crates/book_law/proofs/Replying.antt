-- What an entry or a single copy has for a process is the reply to the message that it has out, and an answer on the way is the one
-- line beside the list that its process lacks.
use Rattle.std.proofs.Common.{◌≡◌, ℕ, suc, ◌+◌, ◌≤◌, ◌<◌, ◌==◌, inl, inr, ⊎_elim, Bool, true, false, Option, Some, None, List, [], ◌∷◌, ◌++◌, length, drop, refl, sym, ap, ◌∙◌, arith, subst, append-nil, if◌then◌else◌}
use Rattle.std.specs.Prelude.{slice_get}
use Rattle.std.proofs.lemmas.Bool.{cases_eq, eq-eqb, eqb-true}
use Rattle.std.proofs.lemmas.List.{length_push}
use Rattle.std.proofs.lemmas.Option.{slice_get_within}
use Rattle.orca_base.specs.declared.ids.ProcessNo.{ProcessNo}
use Rattle.orca_base.specs.declared.ids.CallNo.{CallNo}
use Rattle.value_core.specs.Datum as datum
use Rattle.value_core.specs.declared.action.Line.{Line}
use Rattle.value_core.specs.declared.action.Reply.{Reply}
use Rattle.value_core.specs.declared.message.Message.{Message}
use Rattle.value_core.specs.Meaning.{Performs, Computes}
use Rattle.value_core.specs.History.{Configuration, LegalFrom, after_lines, opening}
use Rattle.object_manager.specs.After.{opening_copies}
use Rattle.book_law.specs.Passes.{Test, after_all, lines_after}
use Rattle.book_law.specs.Performed.{placed}
use Rattle.book_law.specs.Singles.{Single, lines_on, waiting, waits}
use Rattle.book_law.specs.Book.{Placed, aside_at, behind, copies_at, up_to}
use Rattle.book_law.specs.Course.{Came, Course, Next, taking, with_at}
use Rattle.book_law.specs.Course.Next.{Submits, Orders, Forks, Applies, Reads_at, Takes_call, Hears_answer}
use Rattle.book_law.specs.Course.Came.{Opens, Then}
use Rattle.book_law.specs.Events.{In, Runner, answering, asking, handed, lines_by, newborn, replies_to, told, took}
use Rattle.book_law.specs.Replies.{AnswersStand, IsReplyTo, RunsHandOne}
use Rattle.book_law.proofs.Kept.{AnswerStands, Kept, Stage, Stands, answer_at, answer_lines}
use Rattle.book_law.proofs.Kept.Stage.{Free, Sent, Waits, Ran, Told}
use Rattle.book_law.proofs.Books.{by_none, copies_applied, cut}
use Rattle.book_law.proofs.Courses.{at_other, at_own, came_sound}
use Rattle.book_law.proofs.Hearing.{heard, mapped}
use Rattle.book_law.proofs.Law.{entries_only}
use Rattle.book_law.proofs.Lists.{in_push, lines_by-own}
use Rattle.book_law.proofs.Objects.{in_append, in_first, in_second}
use Rattle.book_law.proofs.Processes.{after_lines-append, legal_right}
use Rattle.book_law.proofs.Resting.{placed_in}
use Rattle.book_law.proofs.Sole.{IsOf, is_of, sole}
use Rattle.book_law.proofs.Stages.{not_both, stage_free, stage_ran}
use Rattle.book_law.proofs.Taking.{takes}

-- ---- one line, of the message

-- who awaits a line has a message out
stage_out : (entered : List Message) (message : Option Message) (answer : Option Placed) (w : ℕ) (awaited : List Line) (l : Line) (ls : List Line) → awaited ≡ l ∷ ls → Stage entered message answer w awaited → (m : Message) × (message ≡ Some m)
stage_out entered message answer w awaited l ls is (Free e a w0 a0) = absurd (let f : [] ≡ l ∷ ls = sym a0 ∙ is in cc f)
stage_out entered message answer w awaited l ls is (Sent m e a out w0 a0) = (m, e)
stage_out entered message answer w awaited l ls is (Waits m e a there w1 a0) = (m, e)
stage_out entered message answer w awaited l ls is (Ran m line e a there w0 a1) = (m, e)
stage_out entered message answer w awaited l ls is (Told m r e a there w0 a0) = (m, e)

entry_hands : (single : Test) (p : Performs) (q : Computes) (list : List Message) (aside : List Placed) (owned : List Single) (entered : List Message) (applied : ℕ → ℕ) (runners : ℕ → Option Runner) (a j : ℕ) (x : Runner) (y : Message) → Kept single p q list aside owned entered applied runners → Stands single p q list aside owned entered a j x → slice_get list a ≡ Some y
    → (ls : List Line) → lines_by j (lines_after single p (copies_at single p list a) y) ≡ ls → IsReplyTo x ls
entry_hands single p q list aside owned entered applied runners a j x y k s is [] e = tt
entry_hands single p q list aside owned entered applied runners a j x y k s is (l ∷ ls) e = (nothing, m.0, m.1, of.process, of.call, of.action)
  where
    rest : List Line
    rest = lines_by j (behind single p list [] (suc a))

    awaits : s.awaited ≡ l ∷ (ls ++ rest)
    awaits = heard single p q list aside owned entered a j x y is s ∙ ap (λ (r : List Line). r ++ rest) e

    done : (waiting j (after_all single p opening_copies list).queue + waits j owned ≡ 0) × (ls ++ rest ≡ []) × (x.answer ≡ None)
    done = stage_ran entered x.message x.answer (waiting j (after_all single p opening_copies list).queue + waits j owned) s.awaited l (ls ++ rest) awaits s.stage

    nothing : ls ≡ []
    nothing = first ls rest done.1
      where
        first : {A : Type 0} (xs ys : List A) → xs ++ ys ≡ [] → xs ≡ []
        first [] ys f = refl
        first (z ∷ xs) ys f = absurd (cc f)

    m : (m : Message) × (x.message ≡ Some m)
    m = stage_out entered x.message x.answer (waiting j (after_all single p opening_copies list).queue + waits j owned) s.awaited l (ls ++ rest) awaits s.stage

    alone : s.awaited ≡ l ∷ []
    alone = awaits ∙ ap (λ (r : List Line). l ∷ r) done.1

    le : a ≤ length list
    le = let lt = slice_get_within list a y is in omega (arith, lt)

    unseen : lines_by j (behind single p list aside a) ≡ l ∷ []
    unseen =
        let f = copies_applied single p list a le in
        entries_only single p j (copies_at single p list a) (drop a list) aside (λ i lt. s.quiet i (inr (omega (arith, lt, f))) ∙ ap (answer_at i) done.2) ∙ s.unseen ∙ alone

    c : Configuration
    c = after_lines p (opening q) (up_to single p list aside a)

    legal : LegalFrom p q c (behind single p list aside a)
    legal = legal_right p q (opening q) (up_to single p list aside a) (behind single p list aside a) (subst (λ (r : List Line). LegalFrom p q (opening q) r) (cut single p list aside a) k.legal)

    whole : slice_get (after_lines p c (behind single p list aside a)).processes j ≡ Some (record { text = x.text; args = x.args; replies = x.replies ++ l.reply ∷ [] })
    whole = ap (λ (d : Configuration). slice_get d.processes j) (sym (after_lines-append p (opening q) (up_to single p list aside a) (behind single p list aside a)) ∙ ap (after_lines p (opening q)) (sym (cut single p list aside a))) ∙ s.process
        ∙ ap (λ (o : Option Placed). Some (record { text = x.text; args = x.args; replies = (x.replies ++ replies_to (answer_lines o)) ++ replies_to s.awaited })) done.2
        ∙ ap (λ (rs : List Reply). Some (record { text = x.text; args = x.args; replies = rs ++ replies_to s.awaited })) (append-nil x.replies)
        ∙ ap (λ (r : List Line). Some (record { text = x.text; args = x.args; replies = x.replies ++ replies_to r })) alone

    of : IsOf m.0 l
    of = is_of q j x m.0 l (s.asks m.0 m.1) (sole p q c (behind single p list aside a) j l (record { text = x.text; args = x.args; replies = x.replies ++ l.reply ∷ [] }) x.replies legal unseen whole refl)

pub hand_one : RunsHandOne
hand_one single p q w came =
    let sound = came_sound single p q w came in
    let k = sound.kept in
    record {
      entry = λ j x y here is. entry_hands single p q w.list w.aside w.owned w.entered w.applied w.runners (w.applied x.member) j x y k (k.stands j x here) is (lines_by j (lines_after single p (copies_at single p w.list (w.applied x.member)) y)) refl;
      on_copy = λ i s r call t j x here.
          let did = takes single p q w.list w.aside w.owned w.entered w.applied w.runners (taking p w i s call).runners i s r call t (λ n. refl) k in
          did.replies j x here;
    }

-- ---- lists

by_in : (j : ℕ) (l : Line) (lines : List Line) → In l lines → l.process.0 ≡ j → In l (lines_by j lines)
by_in j l [] h own = h
by_in j l (k ∷ lines) (inl e) own = subst (λ (ls : List Line). In l ls) (sym (lines_by-own j k lines (ap (λ (z : Line). z.process.0) (sym e) ∙ own))) (inl e)
by_in j l (k ∷ lines) (inr h) own = go (k.process.0 == j) (by_in j l lines h own)
  where
    go : (b : Bool) → In l (lines_by j lines) → In l (if b then k ∷ lines_by j lines else lines_by j lines)
    go true u = inr u
    go false u = u

in_by : (j : ℕ) (l : Line) (lines : List Line) → In l (lines_by j lines) → In l lines
in_by j l [] h = h
in_by j l (k ∷ lines) h = go (k.process.0 == j) (in_by j l lines) h
  where
    go : (b : Bool) → (In l (lines_by j lines) → In l lines) → In l (if b then k ∷ lines_by j lines else lines_by j lines) → In l (k ∷ lines)
    go true ih (inl e) = inl e
    go true ih (inr u) = inr (ih u)
    go false ih u = inr (ih u)

pub in_aside : (r : Placed) (aside : List Placed) → In r aside → In r.line (aside_at r.place aside)
in_aside r [] h = h
in_aside r (s ∷ aside) (inl e) = subst (λ (z : Placed). In r.line (aside_at z.place (s ∷ aside))) (sym e) (go (s.place == s.place) (eq-eqb s.place s.place refl))
  where
    go : (b : Bool) → b ≡ true → In r.line (if b then s.line ∷ aside_at s.place aside else aside_at s.place aside)
    go true f = inl (ap (λ (z : Placed). z.line) e)
    go false f = absurd (cc f)
in_aside r (s ∷ aside) (inr h) = go (s.place == r.place) (in_aside r aside h)
  where
    go : (b : Bool) → In r.line (aside_at r.place aside) → In r.line (if b then s.line ∷ aside_at r.place aside else aside_at r.place aside)
    go true u = inr u
    go false u = u

pub in_placed : (n : ℕ) (r : Placed) (lines : List Line) → In r (placed n lines) → (r ≡ record { place = n; line = r.line }) × In r.line lines
in_placed n r [] h = absurd h
in_placed n r (l ∷ lines) (inl e) = (e ∙ ap (λ (z : Placed). record { place = n; line = z.line }) (sym e), inl (ap (λ (z : Placed). z.line) e))
in_placed n r (l ∷ lines) (inr h) = let u = in_placed n r lines h in (u.0, inr u.1)

-- ---- answers

-- as `IsAnswerTo`, but for the places
record IsTold (aside : List Placed) (j : ℕ) (x : Runner) (r : Placed) : Type 0 where
  there : In r aside
  process : r.line.process.0 ≡ j
  call : r.line.call.0 ≡ length x.replies
  message : Message
  out : x.message ≡ Some message
  action : r.line.action ≡ message.action

record Answers (aside : List Placed) (j : ℕ) (x : Runner) : Type 0 where
  is : (r : Placed) → x.answer ≡ Some r → IsTold aside j x r
  only : (r : Placed) → In r aside → r.line.process.0 ≡ j → length x.replies ≤ r.line.call.0 → x.answer ≡ Some r

abbrev AllAnswers : List Placed → (ℕ → Option Runner) → Type 0
AllAnswers aside runners = (j : ℕ) (x : Runner) → runners j ≡ Some x → Answers aside j x

-- others' operations change nothing
grown : (aside more : List Placed) (j : ℕ) (x : Runner) → ((r : Placed) → In r more → r.line.process.0 ≡ j → ⊥) → Answers aside j x → Answers (aside ++ more) j x
grown aside more j x apart h = record {
  is = λ r e. let u = h.is r e in record { there = in_first r aside more u.there; process = u.process; call = u.call; message = u.message; out = u.out; action = u.action };
  only = λ r inside own le. ⊎_elim (λ u. h.only r u own le) (λ u. absurd (apart r u own)) (in_append r aside more inside);
}

set_answers : (aside : List Placed) (f : ℕ → Option Runner) (k : ℕ) (v : Runner) → ((j : ℕ) (x : Runner) → (j ≡ k → ⊥) → f j ≡ Some x → Answers aside j x) → Answers aside k v → AllAnswers aside (with_at f k (Some v))
set_answers aside f k v others own j x here = ⊎_elim
    (λ (e : j ≡ k).
    let g : Some v ≡ Some x = sym (at_own f k (Some v)) ∙ ap (with_at f k (Some v)) (sym e) ∙ here in
    let h : v ≡ x = cc in
    subst (λ (n : ℕ). Answers aside n x) (sym e) (subst (λ (z : Runner). Answers aside k z) h own))
    (λ apart. others j x apart (sym (at_other f k (Some v) j apart) ∙ here))
    (cases_eq j k)

-- a process that has received one more
told_answers : (aside : List Placed) (j n : ℕ) (l : Line) (x : Runner) → ((r : Placed) → In r aside → r.line.process.0 ≡ j → length x.replies < r.line.call.0 → ⊥) → Answers aside j (told n l x)
told_answers aside j n l x none = record {
  is = λ r e. absurd (cc e);
  only = λ r inside own le. let m = length_push x.replies l.reply in absurd (none r inside own (omega (arith, m, le)));
}

next_answers : (single : Test) (p : Performs) (q : Computes) (w v : Course) → Next single p q w v → Came single p q w → AllAnswers w.aside w.runners → AllAnswers v.aside v.runners
next_answers single p q w v (Submits j x m here free asks e) came all = subst (λ (u : Course). AllAnswers u.aside u.runners) (sym e)
    (set_answers w.aside w.runners j (asking m x) (λ i y apart there. all i y there) (record {
      is = λ r is. absurd (not_both x.answer r none is);
      only = λ r inside own le. let h = all j x here in h.only r inside own le;
    }))
  where
    none : x.answer ≡ None
    none =
        let sound = came_sound single p q w came in
        let k = sound.kept in
        let s = k.stands j x here in
        let i = stage_free w.entered x.message x.answer (waiting j (after_all single p opening_copies w.list).queue + waits j w.owned) s.awaited free s.stage in
        i.2
next_answers single p q w v (Orders x r here was new may plain e) came all = subst (λ (u : Course). AllAnswers u.aside u.runners) (sym e) all
next_answers single p q w v (Forks x born member was new forks e) came all =
    let number = (after_all single p opening_copies w.list).processes in
    let sound = came_sound single p q w came in
    let k = sound.kept in
    subst (λ (u : Course). AllAnswers u.aside u.runners) (sym e)
    (set_answers w.aside w.runners number (newborn member born.text born.args (suc (length w.list))) (λ i y apart there. all i y there) (record {
      is = λ r is. absurd (cc is);
      only = λ r inside own le. absurd (by_none number r.line (aside_at r.place w.aside) (k.unborn number r.place (omega arith)) (in_aside r w.aside inside) own);
    }))
next_answers single p q w v (Applies m y is e) came all = subst (λ (u : Course). AllAnswers u.aside u.runners) (sym e) (λ j z there.
    let f = mapped (handed m (suc (w.applied m)) lines j) (w.runners j) z there in
    subst (λ (x : Runner). Answers w.aside j x) (sym f.2) (go j f.0 f.1 (f.0.member == m) refl (lines_by j lines) refl))
  where
    lines : List Line
    lines = lines_after single p (copies_at single p w.list (w.applied m)) y

    go : (j : ℕ) (x : Runner) → w.runners j ≡ Some x → (b : Bool) → (x.member == m) ≡ b → (ls : List Line) → lines_by j lines ≡ ls → Answers w.aside j (if b then took (suc (w.applied m)) (lines_by j lines) x else x)
    go j x here false at ls f = all j x here
    go j x here true at [] f = subst (λ (ls : List Line). Answers w.aside j (took (suc (w.applied m)) ls x)) (sym f) (all j x here)
    go j x here true at (l ∷ ls) f =
        let sound = came_sound single p q w came in
        let k = sound.kept in
        let s : Stands single p q w.list w.aside w.owned w.entered (w.applied m) j x = subst (λ (i : ℕ). Stands single p q w.list w.aside w.owned w.entered (w.applied i) j x) (eqb-true x.member m at) (k.stands j x here) in
        let rest = lines_by j (behind single p w.list [] (suc (w.applied m))) in
        let g = heard single p q w.list w.aside w.owned w.entered (w.applied m) j x y is s ∙ ap (λ (r : List Line). r ++ rest) f in
        let d = stage_ran w.entered x.message x.answer (waiting j (after_all single p opening_copies w.list).queue + waits j w.owned) s.awaited l (ls ++ rest) g s.stage in
        let h = all j x here in
        subst (λ (rs : List Line). Answers w.aside j (took (suc (w.applied m)) rs x)) (sym f)
        (told_answers w.aside j (suc (w.applied m)) l x (λ r inside own lt. not_both x.answer r d.2 (h.only r inside own (omega (arith, lt)))))
next_answers single p q w v (Reads_at j x n line here h e) came all = subst (λ (u : Course). AllAnswers u.aside u.runners) (sym e)
    (set_answers (w.aside ++ record { place = n; line = line } ∷ []) w.runners j (told n line x)
    (λ i y apart there. grown w.aside (record { place = n; line = line } ∷ []) i y (λ r inside own. ⊎_elim (λ u. apart (sym own ∙ ap (λ (z : Placed). z.line.process.0) u ∙ h.process)) (λ u. u) inside) (all i y there))
    (told_answers (w.aside ++ record { place = n; line = line } ∷ []) j n line x (λ r inside own lt. ⊎_elim
    (λ u. let a = all j x here in not_both x.answer r none (a.only r u own (omega (arith, lt))))
    (λ u. let f = ap (λ (z : Placed). z.line.call.0) u in let g = h.call in omega (arith, lt, f, g))
    (in_push r (record { place = n; line = line }) w.aside inside))))
  where
    none : x.answer ≡ None
    none =
        let sound = came_sound single p q w came in
        let k = sound.kept in
        let s = k.stands j x here in
        let i = stage_free w.entered x.message x.answer (waiting j (after_all single p opening_copies w.list).queue + waits j w.owned) s.awaited h.free s.stage in
        i.2
next_answers single p q w v (Takes_call i x r call t e) came all = subst (λ (u : Course). AllAnswers u.aside u.runners) (sym e) (λ j z there.
    let f = mapped (answering n (lines_by j lines)) (w.runners j) z there in
    subst (λ (y : Runner). Answers (w.aside ++ placed n lines) j y) (sym f.2)
    (subst (λ (ls : List Line). Answers (w.aside ++ placed n lines) j (answering n ls f.0)) refl (go j f.0 f.1 (lines_by j lines) refl)))
  where
    n : ℕ
    n = w.applied x.owner

    lines : List Line
    lines = lines_on p x call

    go : (j : ℕ) (z : Runner) → w.runners j ≡ Some z → (ls : List Line) → lines_by j lines ≡ ls → Answers (w.aside ++ placed n lines) j (answering n ls z)
    go j z here [] f = grown w.aside (placed n lines) j z (λ s inside own. let u = in_placed n s lines inside in by_none j s.line lines f u.1 own) (all j z here)
    go j z here (l ∷ ls) f =
        let sound = came_sound single p q w came in
        let k = sound.kept in
        let st = k.stands j z here in
        let did = takes single p q w.list w.aside w.owned w.entered w.applied w.runners (taking p w i x call).runners i x r call t (λ m. refl) k in
        let none : z.answer ≡ None = did.idle j z here l ls f in
        let of : IsReplyTo z (l ∷ ls) = subst (λ (rs : List Line). IsReplyTo z rs) f (did.replies j z here) in
        let asks = st.asks of.1 of.2 in
        let inside : In l lines = in_by j l lines (subst (λ (rs : List Line). In l rs) (sym f) (inl refl)) in
        let h = all j z here in
        record {
          is = λ s e.
              let g : record { place = n; line = l } ≡ s = cc e in
              subst (λ (y : Placed). IsTold (w.aside ++ placed n lines) j (answering n (l ∷ ls) z) y) g (record {
                there = in_second (record { place = n; line = l }) w.aside (placed n lines) (placed_in n l lines inside);
                process = ap (λ (y : ProcessNo). y.0) of.3 ∙ asks.process;
                call = ap (λ (y : CallNo). y.0) of.4 ∙ asks.call;
                message = of.1;
                out = of.2;
                action = of.5;
              });
          only = λ s within own le. ⊎_elim
              (λ u. absurd (not_both z.answer s none (h.only s u own le)))
              (λ u.
              let a = in_placed n s lines u in
              let b : In s.line (l ∷ []) = subst (λ (rs : List Line). In s.line rs) (f ∙ ap (λ (rs : List Line). l ∷ rs) of.0) (by_in j s.line lines a.1 own) in
              let d : s.line ≡ l = ⊎_elim (λ y. y) (λ y. absurd y) b in
              ap (λ (y : Line). Some (record { place = n; line = y })) (sym d) ∙ ap (λ (y : Placed). Some y) (sym a.0))
              (in_append s w.aside (placed n lines) within);
        }
next_answers single p q w v (Hears_answer j x r here has le e) came all =
    let h = all j x here in
    let is = h.is r has in
    subst (λ (u : Course). AllAnswers u.aside u.runners) (sym e)
    (set_answers w.aside w.runners j (told r.place r.line x) (λ i y apart there. all i y there)
    (told_answers w.aside j r.place r.line x (λ s inside own lt.
    let f : Some r ≡ Some s = sym has ∙ h.only s inside own (omega (arith, lt)) in
    let g : r ≡ s = cc in
    let a = ap (λ (y : Placed). y.line.call.0) g in
    let b = is.call in
    omega (arith, a, b, lt))))

all_answers : (single : Test) (p : Performs) (q : Computes) (w : Course) → Came single p q w → AllAnswers w.aside w.runners
all_answers single p q w (Opens member shared) = set_answers [] (λ j. None) 0 (newborn member q.main datum.none 0) (λ j x apart there. absurd (cc there)) (record { is = λ r e. absurd (cc e); only = λ r inside own le. absurd inside })
all_answers single p q w (Then u v came next) = next_answers single p q u v next came (all_answers single p q u came)

pub answers_stand : AnswersStand
answers_stand single p q w came j x here =
    let sound = came_sound single p q w came in
    let k = sound.kept in
    let s = k.stands j x here in
    let h = all_answers single p q w came j x here in
    record {
      is = λ r e.
          let u = h.is r e in
          let places : AnswerStands x.place (length w.list) (Some r) = subst (λ (o : Option Placed). AnswerStands x.place (length w.list) o) e s.answer in
          record { there = u.there; process = u.process; call = u.call; message = u.message; out = u.out; action = u.action; place = places.0 };
      only = h.only;
    }
