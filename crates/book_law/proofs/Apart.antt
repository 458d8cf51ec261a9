-- Copies of the list keep no single object; single copies are of single objects, one each; and those are counted.
use Rattle.std.proofs.Common.{◌≡◌, ⊎_elim, ℕ, zero, suc, ◌<◌, true, false, Option, Some, None, List, [], ◌∷◌, ◌++◌, length, map, take, refl, sym, ap, ◌∙◌, arith, subst}
use Rattle.std.specs.Prelude.{get_or, slice_get}
use Rattle.std.proofs.lemmas.Option.{slice_get_within}
use Rattle.orca_base.specs.declared.ids.KindNo.{KindNo}
use Rattle.orca_base.specs.declared.ids.ObjectId.{ObjectId}
use Rattle.value_core.specs.Datum.{Data}
use Rattle.value_core.specs.Fits.{Kinds}
use Rattle.value_core.specs.declared.action.Action.{Action}
use Rattle.value_core.specs.declared.action.Action.TheVariants as action
use Rattle.value_core.specs.declared.meaning.Making.TheVariants as making
use Rattle.value_core.specs.declared.message.Message.{Message}
use Rattle.value_core.specs.Meaning.{Performs, Computes}
use Rattle.value_core.specs.History.{Process, forked}
use Rattle.object_manager.specs.Singles.{IsCounted}
use Rattle.book_law.specs.Passes.{Test, counted}
use Rattle.book_law.specs.Singles.{Single}
use Rattle.book_law.specs.Apart.{SinglesApart}
use Rattle.book_law.specs.Course.{Came, Course, Next}
use Rattle.book_law.specs.Course.Next.{Submits, Orders, Forks, Applies, Reads_at, Takes_call, Hears_answer}
use Rattle.book_law.specs.Course.Came.{Opens, Then}
use Rattle.book_law.specs.Events.{Calls, In}
use Rattle.book_law.proofs.Kept.{IsKept}
use Rattle.book_law.proofs.Books.{take_at}
use Rattle.book_law.proofs.Calls.{came_output}
use Rattle.book_law.proofs.Courses.{came_sound}
use Rattle.book_law.proofs.Lists.{in_push}
use Rattle.book_law.proofs.Makers.{at_split, fresh_by, makes_have_copies}
use Rattle.book_law.proofs.Owned.{added, added_counts, counted_by, counted_push, shown}
use Rattle.book_law.proofs.Shared.{copies_shared}

-- ---- what is counted has its copy

-- what an entry counts it makes
record Counts (single : Test) (p : Performs) (a : Action) (o : ObjectId) : Type 0 where
  kind : KindNo
  state : Data
  makes : a ≡ action.Make kind o
  is : single o ≡ true
  made : p.made kind ≡ making.Made state

entry_makes : (single : Test) (p : Performs) (a : Action) (k : ℕ) (one : ObjectId × KindNo) → slice_get (counted_by single p a) k ≡ Some one → Counts single p a one.0
entry_makes single p a k one there = ⊎_elim
    (λ none. let e : counted_by single p a ≡ [] = sym (added_counts single p 0 0 a) ∙ ap (map shown) none in
    let f : slice_get [] k ≡ Some one = ap (λ (ks : Kinds). slice_get ks k) (sym e) ∙ there in
    absurd (cc f))
    (λ u. let s = u.2 in
    let f = fresh_by single p 0 0 a 0 u.0 (ap (λ (ss : List Single). slice_get ss 0) u.1) in
    let whole : slice_get ((u.0.object, u.0.kept.kind) ∷ []) k ≡ Some one = ap (λ (ks : Kinds). slice_get ks k) (sym s.counts) ∙ there in
    let g : u.0.object ≡ one.0 = only (u.0.object, u.0.kept.kind) k one whole in
    subst (λ (o : ObjectId). Counts single p a o) g (record { kind = u.0.kept.kind; state = u.0.kept.state; makes = f.makes; is = s.is; made = s.made }))
    (added single p 0 0 a)
  where
    only : (x : ObjectId × KindNo) (k : ℕ) (y : ObjectId × KindNo) → slice_get (x ∷ []) k ≡ Some y → x.0 ≡ y.0
    only x zero y is = let e : x ≡ y = cc in ap (λ (z : ObjectId × KindNo). z.0) e
    only x (suc k) y is = absurd (cc is)

got : {A : Type 0} (xs : List A) (k : ℕ) (x : A) → k < length xs → get_or xs k x ≡ x → slice_get xs k ≡ Some x
got [] k x lt is = absurd (omega (arith, lt))
got {A} (y ∷ xs) zero x lt is = ap (λ (z : A). Some z) is
got (y ∷ xs) (suc k) x lt is = got xs k x (omega (arith, lt)) is

got_or : {A : Type 0} (xs : List A) (k : ℕ) (x : A) → slice_get xs k ≡ Some x → get_or xs k x ≡ x
got_or [] k x is = absurd (cc is)
got_or (y ∷ xs) zero x is = cc is
got_or (y ∷ xs) (suc k) x is = got_or xs k x is

none_counted : (o : ObjectId) → IsCounted [] o → ⊥
none_counted o (k, one, lt, is, e) = absurd (omega arith)

counted_kept : (single : Test) (p : Performs) (q : Computes) (w : Course) (o : ObjectId) (n : ℕ) → Came single p q w → IsCounted (counted single p (take n w.list)) o → IsKept w.owned n o
counted_kept single p q w o zero came h = absurd (none_counted o h)
counted_kept single p q w o (suc n) came h = go (counted_kept single p q w o n came) (slice_get w.list n) refl
  where
    later : IsKept w.owned n o → IsKept w.owned (suc n) o
    later u = (u.0, u.1, u.2, u.3, let le = u.4 in omega (arith, le))

    go : (IsCounted (counted single p (take n w.list)) o → IsKept w.owned n o) → (x : Option Message) → slice_get w.list n ≡ x → IsKept w.owned (suc n) o
    go before None e = later (before (subst (λ (ms : List Message). IsCounted (counted single p ms) o) (shorter w.list n e) h))
      where
        shorter : {A : Type 0} (xs : List A) (m : ℕ) → slice_get xs m ≡ None → take (suc m) xs ≡ take m xs
        shorter [] zero none = refl
        shorter [] (suc m) none = refl
        shorter (x ∷ xs) zero none = absurd (cc none)
        shorter {A} (x ∷ xs) (suc m) none = ap (λ (r : List A). x ∷ r) (shorter xs m none)
    go before (Some y) e =
        let whole : counted single p (take (suc n) w.list) ≡ counted single p (take n w.list) ++ counted_by single p y.action = ap (counted single p) (take_at w.list n y e) ∙ counted_push single p (take n w.list) y in
        let is : slice_get (counted single p (take n w.list) ++ counted_by single p y.action) h.0 ≡ Some h.1 = ap (λ (ks : Kinds). slice_get ks h.0) (sym whole) ∙ got (counted single p (take (suc n) w.list)) h.0 h.1 h.2 h.3 in
        ⊎_elim
        (λ u. later (before (h.0, h.1, slice_get_within (counted single p (take n w.list)) h.0 h.1 u, got_or (counted single p (take n w.list)) h.0 h.1 u, h.4)))
        (λ u.
        let c : Counts single p y.action h.1.0 = entry_makes single p y.action u.0 h.1 u.1 in
        let v = makes_have_copies single p q w came n y c.kind h.1.0 c.state e c.makes c.is c.made in
        (v.at, v.copy, v.there, v.object ∙ h.4, let at = v.place in omega (arith, at)))
        (at_split (counted single p (take n w.list)) (counted_by single p y.action) h.0 h.1 is)

-- ---- no entry calls a single object

abbrev Unlisted : Test → List Message → Type 0
Unlisted single list = (y : Message) (o : ObjectId) → In y list → Calls y.action o → single o ≡ false

unlisted_push : (single : Test) (list : List Message) (x : Message) → ((o : ObjectId) → Calls x.action o → single o ≡ false) → Unlisted single list → Unlisted single (list ++ x ∷ [])
unlisted_push single list x new all y o h calls = ⊎_elim (λ u. all y o u calls) (λ u. new o (subst (λ (m : Message). Calls m.action o) u calls)) (in_push y x list h)

fork_calls : (a : Action) (born : Process) (o : ObjectId) → forked a ≡ born ∷ [] → Calls a o → ⊥
fork_calls (action.Make kind object) born o forks calls = calls
fork_calls (action.Call kind op object args) born o forks calls = cc forks
fork_calls (action.Fork text args place_on) born o forks calls = calls
fork_calls action.Ended born o forks calls = calls
fork_calls (action.Faulted fault) born o forks calls = calls

next_unlisted : (single : Test) (p : Performs) (q : Computes) (w v : Course) → Next single p q w v → Unlisted single w.list → Unlisted single v.list
next_unlisted single p q w v (Submits j x m here free asks e) all = subst (λ (u : Course). Unlisted single u.list) (sym e) all
next_unlisted single p q w v (Orders x r here was new may plain e) all = subst (λ (u : Course). Unlisted single u.list) (sym e) (unlisted_push single w.list x may.shared all)
next_unlisted single p q w v (Forks x born member was new forks e) all =
    subst (λ (u : Course). Unlisted single u.list) (sym e) (unlisted_push single w.list x (λ o calls. absurd (fork_calls x.action born o forks calls)) all)
next_unlisted single p q w v (Applies m y is e) all = subst (λ (u : Course). Unlisted single u.list) (sym e) all
next_unlisted single p q w v (Reads_at j x n line here h e) all = subst (λ (u : Course). Unlisted single u.list) (sym e) all
next_unlisted single p q w v (Takes_call i x r call t e) all = subst (λ (u : Course). Unlisted single u.list) (sym e) all
next_unlisted single p q w v (Hears_answer j x r here has le e) all = subst (λ (u : Course). Unlisted single u.list) (sym e) all

all_unlisted : (single : Test) (p : Performs) (q : Computes) (w : Course) → Came single p q w → Unlisted single w.list
all_unlisted single p q w (Opens member shared) = λ y o h calls. absurd h
all_unlisted single p q w (Then u v came next) = next_unlisted single p q u v next (all_unlisted single p q u came)

pub singles_apart : SinglesApart
singles_apart single p q w came =
    let sound = came_sound single p q w came in
    let k = sound.kept in
    record {
      shared = λ n o is. copies_shared single p w.list n (came_output single p q w came) o is;
      of_test = λ i x there. let o = k.owns i x there in o.is;
      once = k.distinct;
      counted = λ n o. (
        λ h. counted_kept single p q w o n came h,
        λ h. let x = h.1 in
            let v = k.owns h.0 x h.2 in
            let c = v.listed n h.4 in
            (c.0, (x.object, x.kept.kind), c.1, c.2, h.3),
      );
      unlisted = all_unlisted single p q w came;
    }
