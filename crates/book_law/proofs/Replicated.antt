-- Which objects are single counts only where they are made; and where none is, the copies are as without single ones.
use Rattle.std.proofs.Common.{◌≡◌, ℕ, zero, suc, ◌+◌, inl, inr, Bool, true, false, cond, Option, Some, None, List, [], ◌∷◌, ◌++◌, length, take, refl, sym, subst, ap, ◌∙◌, arith, if◌then◌else◌}
use Rattle.std.specs.Prelude.{T}
use Rattle.std.specs.declared.cmp.Ordering.{Ordering}
use Rattle.std.specs.declared.cmp.Ordering.TheVariants.{Less, Equal, Greater}
use Rattle.std.specs.Ordering.{is_eq, is_lt, ordering_reverse}
use Rattle.std.specs.Cmp.{tied_itself}
use Rattle.std.specs.FinMap.Entries.{below_all, is_sorted}
use Rattle.orca_base.specs.declared.ids.ObjectId.{ObjectId}
use Rattle.value_core.specs.declared.action.Instance.{Instance}
use Rattle.value_core.specs.declared.action.Line.{Line}
use Rattle.value_core.specs.declared.message.Message.{Message}
use Rattle.value_core.specs.declared.action.Action.{Action}
use Rattle.value_core.specs.declared.action.Action.TheVariants as action
use Rattle.value_core.specs.Meaning.{Performs, Computes}
use Rattle.value_core.specs.History.{Configuration, Objects, after_call, after_line, after_lines, forked, object_at, object_cmp, objects_after, objects_of, opening}
use Rattle.guard_queue.proofs.Lookups.{exact_objects, object_total}
use Rattle.object_manager.specs.After.{Copied, acted, after as after_applied, after_all as all_plain, lines_after as lines_applied, opening_copies}
use Rattle.object_manager.specs.Singles.{after_passed}
use Rattle.guard_queue.specs.Shown.{Rises}
use Rattle.book_law.specs.Passes.{Test, after, after_all, counted, entry, is_passed, lines_after}
use Rattle.book_law.specs.Book.{Placed, book, book_from, copies_at, aside_at, up_to}
use Rattle.book_law.specs.Replicated.{SameMakes, TestsAgree, all_replicated}
use Rattle.book_law.specs.Events.{In, Makes}
use Rattle.book_law.specs.Promise.{Follows}
use Rattle.book_law.proofs.Ordered.{absent, copies_in_order, is_less, left, ordered_making, ordered_try, right}
use Rattle.book_law.proofs.Typed.{is_equal}

-- ---- an entry passes, or is applied

no_fork : (single : Test) (a : Action) (n : ℕ) → is_passed single a ≡ true → n + length (forked a) ≡ n
no_fork single (action.Make kind object) n is = omega arith
no_fork single (action.Call kind op object args) n is = absurd (cc is)
no_fork single (action.Fork text args place_on) n is = absurd (cc is)
no_fork single action.Ended n is = absurd (cc is)
no_fork single (action.Faulted fault) n is = absurd (cc is)

pub entries_stand : (single : Test) (p : Performs) (c : Copied) (x : Message) → after single p c x ≡ entry single p c x
entries_stand single p c x = go (is_passed single x.action) refl
  where
    go : (b : Bool) → is_passed single x.action ≡ b
        → record (if b then after_passed p false c x else after_applied p c x) { processes = c.processes + length (forked x.action); applied = c.applied + 1 } ≡ (if b then after_passed p false c x else after_applied p c x)
    go true is = ap (λ (n : ℕ). record (after_passed p false c x) { processes = n; applied = c.applied + 1 }) (no_fork single x.action c.processes is)
    go false is = refl

-- ---- two tests that agree on what is made

same_passed : (one two : Test) (a : Action) → ((o : ObjectId) → Makes a o → one o ≡ two o) → is_passed one a ≡ is_passed two a
same_passed one two (action.Make kind object) same = same object refl
same_passed one two (action.Call kind op object args) same = refl
same_passed one two (action.Fork text args place_on) same = refl
same_passed one two action.Ended same = refl
same_passed one two (action.Faulted fault) same = refl

same_entry : (one two : Test) (p : Performs) (c : Copied) (x : Message) → ((o : ObjectId) → Makes x.action o → one o ≡ two o) → entry one p c x ≡ entry two p c x
same_entry one two p c x same = ap (λ b. if b then after_passed p false c x else after_applied p c x) (same_passed one two x.action same)

same_after : (one two : Test) (p : Performs) (c : Copied) (x : Message) → ((o : ObjectId) → Makes x.action o → one o ≡ two o) → after one p c x ≡ after two p c x
same_after one two p c x same = ap (λ (d : Copied). record d { processes = c.processes + length (forked x.action); applied = c.applied + 1 }) (same_entry one two p c x same)

same_lines : (one two : Test) (p : Performs) (c : Copied) (x : Message) → ((o : ObjectId) → Makes x.action o → one o ≡ two o) → lines_after one p c x ≡ lines_after two p c x
same_lines one two p c x same = ap (λ b. if b then (acted p c x).lines else lines_applied p c x) (same_passed one two x.action same)

pub same_copies : (one two : Test) (p : Performs) (c : Copied) (list : List Message) → SameMakes one two list → after_all one p c list ≡ after_all two p c list
same_copies one two p c [] same = refl
same_copies one two p c (x ∷ list) same =
    ap (λ (d : Copied). after_all one p d list) (same_after one two p c x (same x (inl refl))) ∙ same_copies one two p (after two p c x) list (λ y h. same y (inr h))

pub same_counts : (one two : Test) (p : Performs) (list : List Message) → SameMakes one two list → counted one p list ≡ counted two p list
same_counts one two p list same = ap (λ (c : Copied). c.singles) (same_copies one two p opening_copies list same)

same_from : (one two : Test) (p : Performs) (c : Copied) (list : List Message) (aside : List Placed) → SameMakes one two list → book_from one p c list aside ≡ book_from two p c list aside
same_from one two p c [] aside same = refl
same_from one two p c (x ∷ list) aside same =
    ap (λ (ls : List Line). (ls ++ aside_at (c.applied + 1) aside) ++ book_from one p (after one p c x) list aside) (same_lines one two p c x (same x (inl refl)))
    ∙ ap (λ (d : Copied). (lines_after two p c x ++ aside_at (c.applied + 1) aside) ++ book_from one p d list aside) (same_after one two p c x (same x (inl refl)))
    ∙ ap (λ (ls : List Line). (lines_after two p c x ++ aside_at (c.applied + 1) aside) ++ ls) (same_from one two p (after two p c x) list aside (λ y h. same y (inr h)))

pub same_book : (one two : Test) (p : Performs) (list : List Message) (aside : List Placed) → SameMakes one two list → book one p list aside ≡ book two p list aside
same_book one two p list aside same = ap (λ (ls : List Line). aside_at 0 aside ++ ls) (same_from one two p opening_copies list aside same)

-- ---- no single object

none_passed : (a : Action) → is_passed all_replicated a ≡ false
none_passed (action.Make kind object) = refl
none_passed (action.Call kind op object args) = refl
none_passed (action.Fork text args place_on) = refl
none_passed action.Ended = refl
none_passed (action.Faulted fault) = refl

plain_entry : (p : Performs) (c : Copied) (x : Message) → entry all_replicated p c x ≡ after_applied p c x
plain_entry p c x = ap (λ b. if b then after_passed p false c x else after_applied p c x) (none_passed x.action)

-- the copies and the lines are those of object_manager
pub plain_after : (p : Performs) (c : Copied) (x : Message) → after all_replicated p c x ≡ after_applied p c x
plain_after p c x = entries_stand all_replicated p c x ∙ plain_entry p c x

pub plain_lines : (p : Performs) (c : Copied) (x : Message) → lines_after all_replicated p c x ≡ lines_applied p c x
plain_lines p c x = ap (λ b. if b then (acted p c x).lines else lines_applied p c x) (none_passed x.action)

pub plain_all : (p : Performs) (c : Copied) (list : List Message) → after_all all_replicated p c list ≡ all_plain p c list
plain_all p c [] = refl
plain_all p c (x ∷ list) = ap (λ (d : Copied). after_all all_replicated p d list) (plain_after p c x) ∙ plain_all p (after_applied p c x) list

-- ---- maps in order that have the same everywhere are the same

head_there : (e : ObjectId × Instance) (es : Objects) → object_at (e ∷ es) e.0 ≡ Some e.1
head_there e es = ap (λ o. cond (is_eq o) (Some e.1) (object_at es e.0)) (tied_itself object_total e.0)

-- the first of a map in order isn't among the others
absent_self : (x : ObjectId) (es : Objects) → T (below_all object_cmp x es) → object_at es x ≡ None
absent_self x [] h = refl
absent_self x (e ∷ es) h =
    ap (λ o. cond (is_eq o) (Some e.1) (object_at es x)) (is_less (object_cmp x e.0) (left (is_lt (object_cmp x e.0)) (below_all object_cmp x es) h))
    ∙ absent_self x es (right (is_lt (object_cmp x e.0)) (below_all object_cmp x es) h)

-- an id below the first isn't there
absent_below : (k : ObjectId) (e : ObjectId × Instance) (es : Objects) → object_cmp k e.0 ≡ Less → Rises (e ∷ es) → object_at (e ∷ es) k ≡ None
absent_below k e es lt h = ap (λ o. cond (is_eq o) (Some e.1) (object_at es k)) lt ∙ absent k e.0 es lt (left (below_all object_cmp e.0 es) (is_sorted object_cmp es) h)

-- the others have the same, where the first are the same
others_same : (e : ObjectId × Instance) (v : Instance) (xs ys : Objects) → Rises (e ∷ xs) → Rises ((e.0, v) ∷ ys) → ((o : ObjectId) → object_at (e ∷ xs) o ≡ object_at ((e.0, v) ∷ ys) o) → (o : ObjectId) → object_at xs o ≡ object_at ys o
others_same e v xs ys h g same o = go (is_eq (object_cmp o e.0)) refl
  where
    go : (b : Bool) → is_eq (object_cmp o e.0) ≡ b → object_at xs o ≡ object_at ys o
    go false is = sym (ap (λ b. cond b (Some e.1) (object_at xs o)) is) ∙ same o ∙ ap (λ b. cond b (Some v) (object_at ys o)) is
    go true is =
        let f : o ≡ e.0 = exact_objects o e.0 (is_equal (object_cmp o e.0) is) in
        ap (object_at xs) f ∙ absent_self e.0 xs (left (below_all object_cmp e.0 xs) (is_sorted object_cmp xs) h)
        ∙ sym (ap (object_at ys) f ∙ absent_self e.0 ys (left (below_all object_cmp e.0 ys) (is_sorted object_cmp ys) g))

pub same_maps : (xs ys : Objects) → Rises xs → Rises ys → ((o : ObjectId) → object_at xs o ≡ object_at ys o) → xs ≡ ys
same_maps [] [] h g same = refl
same_maps [] (y ∷ ys) h g same = let f : None ≡ Some y.1 = same y.0 ∙ head_there y ys in absurd (cc f)
same_maps (x ∷ xs) [] h g same = let f : None ≡ Some x.1 = sym (same x.0) ∙ head_there x xs in absurd (cc f)
same_maps (x ∷ xs) (y ∷ ys) h g same = go (object_cmp x.0 y.0) refl
    (same_maps xs ys (right (below_all object_cmp x.0 xs) (is_sorted object_cmp xs) h) (right (below_all object_cmp y.0 ys) (is_sorted object_cmp ys) g))
  where
    go : (r : Ordering) → object_cmp x.0 y.0 ≡ r → (((o : ObjectId) → object_at xs o ≡ object_at ys o) → xs ≡ ys) → x ∷ xs ≡ y ∷ ys
    go Less is ih = let f : None ≡ Some x.1 = sym (absent_below x.0 y ys is g) ∙ sym (same x.0) ∙ head_there x xs in absurd (cc f)
    go Equal is ih =
        let f : x.0 ≡ y.0 = exact_objects x.0 y.0 is in
        let v : Some x.1 ≡ Some y.1 = sym (head_there x xs) ∙ same x.0 ∙ ap (object_at (y ∷ ys)) f ∙ head_there y ys in
        let w : x.1 ≡ y.1 = cc in
        let g1 : Rises ((x.0, y.1) ∷ ys) = subst (λ (o : ObjectId). Rises ((o, y.1) ∷ ys)) (sym f) g in
        let s1 : (o : ObjectId) → object_at (x ∷ xs) o ≡ object_at ((x.0, y.1) ∷ ys) o = subst (λ (i : ObjectId). (o : ObjectId) → object_at (x ∷ xs) o ≡ object_at ((i, y.1) ∷ ys) o) (sym f) same in
        let t : xs ≡ ys = ih (others_same x y.1 xs ys h g1 s1) in
        ap (λ (i : ObjectId). (i, x.1) ∷ xs) f ∙ ap (λ (k : Instance). (y.0, k) ∷ xs) w ∙ ap (λ (r : Objects). y ∷ r) t
    go Greater is ih =
        let o = object_total in
        let lt : object_cmp y.0 x.0 ≡ Less = o.antisymm y.0 x.0 ∙ ap ordering_reverse is in
        let f : None ≡ Some y.1 = sym (absent_below y.0 x xs lt h) ∙ same y.0 ∙ head_there y ys in absurd (cc f)

-- ---- the objects of a history are in order

ordered_line : (p : Performs) (objects : Objects) (a : Action) → Rises objects → Rises (objects_after p objects a)
ordered_line p objects (action.Make kind object) h = ordered_making objects kind object (p.made kind) h
ordered_line p objects (action.Call kind op object args) h = go (object_at objects object)
  where
    go : (was : Option Instance) → Rises (after_call p objects kind op object args was)
    go None = h
    go (Some kept) = ordered_try objects object kept (p.tries kind op kept.state args) h
ordered_line p objects (action.Fork text args place_on) h = h
ordered_line p objects action.Ended h = h
ordered_line p objects (action.Faulted fault) h = h

pub ordered_lines : (p : Performs) (c : Configuration) (lines : List Line) → Rises c.objects → Rises (after_lines p c lines).objects
ordered_lines p c [] h = h
ordered_lines p c (l ∷ lines) h = ordered_lines p (after_line p c l) lines (ordered_line p c.objects l.action h)

-- where no object is single, the objects of the book up to a place are a member's that applied so many entries
pub plain_copies : (p : Performs) (q : Computes) (list : List Message) (aside : List Placed) (n : ℕ) → Follows all_replicated p q (up_to all_replicated p list aside n) (copies_at all_replicated p list n)
    → objects_of p q (up_to all_replicated p list aside n) ≡ (all_plain p opening_copies (take n list)).objects
plain_copies p q list aside n f =
    same_maps (objects_of p q (up_to all_replicated p list aside n)) (copies_at all_replicated p list n).objects (ordered_lines p (opening q) (up_to all_replicated p list aside n) tt) (copies_in_order all_replicated p list n) (λ o. f.objects o refl)
    ∙ ap (λ (c : Copied). c.objects) (plain_all p opening_copies (take n list))

-- ---- tests that agree

in_take : (n : ℕ) (x : Message) (list : List Message) → In x (take n list) → In x list
in_take zero x list h = absurd h
in_take (suc n) x [] h = absurd h
in_take (suc n) x (y ∷ list) (inl e) = inl e
in_take (suc n) x (y ∷ list) (inr h) = inr (in_take n x list h)

pub tests_agree : TestsAgree
tests_agree one two p list same = record {
  copies = λ n. same_copies one two p opening_copies (take n list) (λ x h. same x (in_take n x list h));
  book = λ aside. same_book one two p list aside same;
}
