-- What entered was submitted, and so was what a process has out.
use Rattle.std.proofs.Common.{◌≡◌, ℕ, suc, ◌==◌, inl, inr, ⊎_elim, Bool, true, false, Option, Some, None, List, [], ◌∷◌, ◌++◌, length, sym, ap, ◌∙◌, subst, if◌then◌else◌}
use Rattle.std.specs.Prelude.{option_map}
use Rattle.std.proofs.lemmas.Bool.{cases_eq}
use Rattle.value_core.specs.Datum as datum
use Rattle.value_core.specs.declared.action.Line.{Line}
use Rattle.value_core.specs.declared.message.Message.{Message}
use Rattle.value_core.specs.Meaning.{Performs, Computes}
use Rattle.object_manager.specs.After.{opening_copies}
use Rattle.object_manager.specs.State.{message_of}
use Rattle.book_law.specs.Passes.{Test, after_all, lines_after}
use Rattle.book_law.specs.Singles.{lines_on}
use Rattle.book_law.specs.Book.{copies_at}
use Rattle.book_law.specs.Course.{Course, Next, with_at}
use Rattle.book_law.specs.Course.Next.{Submits, Orders, Forks, Applies, Reads_at, Takes_call, Hears_answer}
use Rattle.book_law.specs.Course.Came.{Opens, Then}
use Rattle.book_law.specs.Events.{In, Runner, answering, asking, handed, lines_by, newborn, told, took}
use Rattle.book_law.specs.Promise.{EnteredAsked, WereAsked}
use Rattle.book_law.proofs.Courses.{at_other, at_own}
use Rattle.book_law.proofs.Hearing.{mapped}
use Rattle.book_law.proofs.Lists.{in_end, in_left, in_push}

abbrev Out : (ℕ → Option Runner) → List Message → Type 0
Out runners asked = (j : ℕ) (x : Runner) (m : Message) → runners j ≡ Some x → x.message ≡ Some m → In m asked

-- what one process has out, where the others have what they had
set_out : (f : ℕ → Option Runner) (asked : List Message) (k : ℕ) (v : Runner) → ((m : Message) → v.message ≡ Some m → In m asked) → Out f asked → Out (with_at f k (Some v)) asked
set_out f asked k v own all j x m here out = ⊎_elim
    (λ (e : j ≡ k).
    let g : Some v ≡ Some x = sym (at_own f k (Some v)) ∙ ap (with_at f k (Some v)) (sym e) ∙ here in
    let h : v ≡ x = cc in
    own m (ap (λ (z : Runner). z.message) h ∙ out))
    (λ apart. all j x m (sym (at_other f k (Some v) j apart) ∙ here) out)
    (cases_eq j k)

map_out : (f : ℕ → Option Runner) (g : ℕ → Runner → Runner) (asked : List Message) → ((j : ℕ) (x : Runner) (m : Message) → (g j x).message ≡ Some m → x.message ≡ Some m) → Out f asked → Out (λ j. option_map (g j) (f j)) asked
map_out f g asked keeps all j z m here out = let u = mapped (g j) (f j) z here in all j u.0 m u.1 (keeps j u.0 m (ap (λ (y : Runner). y.message) (sym u.2) ∙ out))

took_out : (place : ℕ) (lines : List Line) (x : Runner) (m : Message) → (took place lines x).message ≡ Some m → x.message ≡ Some m
took_out place [] x m e = e
took_out place (l ∷ lines) x m e = absurd (cc e)

handed_out : (n place : ℕ) (lines : List Line) (j : ℕ) (x : Runner) (m : Message) → (handed n place lines j x).message ≡ Some m → x.message ≡ Some m
handed_out n place lines j x m = go (x.member == n)
  where
    go : (b : Bool) → (if b then took place (lines_by j lines) x else x).message ≡ Some m → x.message ≡ Some m
    go true e = took_out place (lines_by j lines) x m e
    go false e = e

answering_out : (place : ℕ) (lines : List Line) (x : Runner) (m : Message) → (answering place lines x).message ≡ Some m → x.message ≡ Some m
answering_out place [] x m e = e
answering_out place (l ∷ lines) x m e = e

-- an entry enters
both_push : (list entered asked : List Message) (x : Message) → In x asked → ((y : Message) → In y list → In y entered) → ((m : Message) → In m entered → In m asked)
    → ((y : Message) → In y (list ++ x ∷ []) → In y (entered ++ x ∷ [])) × ((m : Message) → In m (entered ++ x ∷ []) → In m asked)
both_push list entered asked x was listed all = (
  λ y h. ⊎_elim (λ u. in_left y x entered (listed y u)) (λ u. subst (λ (z : Message). In z (entered ++ x ∷ [])) (sym u) (in_end x entered)) (in_push y x list h),
  λ m h. ⊎_elim (λ u. all m u) (λ u. subst (λ (z : Message). In z asked) (sym u) was) (in_push m x entered h),
)

next_asked : (single : Test) (p : Performs) (q : Computes) (w v : Course) → Next single p q w v → WereAsked w → WereAsked v
next_asked single p q w v (Submits j x m here free asks e) a = subst (λ (u : Course). WereAsked u) (sym e) (record {
  listed = a.listed;
  entered = λ n h. inr (a.entered n h);
  out = set_out w.runners (m ∷ w.asked) j (asking m x) (λ n is. let f : m ≡ n = cc is in inl (sym f)) (λ i y n there has. inr (a.out i y n there has));
})
next_asked single p q w v (Orders x r here was new may plain e) a =
    let both = both_push w.list w.entered w.asked x was a.listed a.entered in
    subst (λ (u : Course). WereAsked u) (sym e) (record { listed = both.0; entered = both.1; out = a.out })
next_asked single p q w v (Forks x born member was new forks e) a =
    let both = both_push w.list w.entered w.asked x was a.listed a.entered in
    subst (λ (u : Course). WereAsked u) (sym e) (record {
      listed = both.0;
      entered = both.1;
      out = set_out w.runners w.asked (after_all single p opening_copies w.list).processes (newborn member born.text born.args (suc (length w.list))) (λ n is. absurd (cc is)) a.out;
    })
next_asked single p q w v (Applies m y is e) a = subst (λ (u : Course). WereAsked u) (sym e) (record {
  listed = a.listed;
  entered = a.entered;
  out = map_out w.runners (λ j. handed m (suc (w.applied m)) (lines_after single p (copies_at single p w.list (w.applied m)) y) j) w.asked
      (λ j x n h. handed_out m (suc (w.applied m)) (lines_after single p (copies_at single p w.list (w.applied m)) y) j x n h) a.out;
})
next_asked single p q w v (Reads_at j x n line here h e) a = subst (λ (u : Course). WereAsked u) (sym e) (record {
  listed = a.listed;
  entered = a.entered;
  out = set_out w.runners w.asked j (told n line x) (λ m is. absurd (cc is)) a.out;
})
next_asked single p q w v (Takes_call i x r call t e) a = subst (λ (u : Course). WereAsked u) (sym e) (record {
  listed = λ y h. in_left y (message_of call) w.entered (a.listed y h);
  entered = λ m h. ⊎_elim (λ u. a.entered m u) (λ u. subst (λ (z : Message). In z w.asked) (sym u) (a.out call.process.0 r (message_of call) t.runner t.out)) (in_push m (message_of call) w.entered h);
  out = map_out w.runners (λ j. answering (w.applied x.owner) (lines_by j (lines_on p x call))) w.asked (λ j z m h. answering_out (w.applied x.owner) (lines_by j (lines_on p x call)) z m h) a.out;
})
next_asked single p q w v (Hears_answer j x r here has le e) a = subst (λ (u : Course). WereAsked u) (sym e) (record {
  listed = a.listed;
  entered = a.entered;
  out = set_out w.runners w.asked j (told r.place r.line x) (λ m is. absurd (cc is)) a.out;
})

pub entered_asked : EnteredAsked
entered_asked single p q w (Opens member shared) = record {
  listed = λ y h. h;
  entered = λ m h. h;
  out = set_out (λ j. None) [] 0 (newborn member q.main datum.none 0) (λ m is. absurd (cc is)) (λ j x m here out. absurd (cc here));
}
entered_asked single p q w (Then u v came next) = next_asked single p q u v next (entered_asked single p q u came)
