-- The processes that entries begin, and so what is single: more entries change nothing of those that are there.
use Rattle.std.proofs.Common.{◌≡◌, ◌≤◌, ◌<◌, ◌+◌, ℕ, zero, suc, inl, inr, List, [], ◌∷◌, ◌++◌, Option, Some, refl, sym, ap, ◌∙◌, subst, arith, length, take, drop, length-append}
use Rattle.std.proofs.lemmas.List.{take-append-drop, take-take}
use Rattle.std.specs.Prelude.{slice_get}
use Rattle.orca_base.specs.declared.ids.ObjectId.{ObjectId}
use Rattle.value_core.specs.declared.message.Message.{Message}
use Rattle.book_law.specs.Passes.{Test, after_all}
use Rattle.book_law.specs.Book.{copies_at}
use Rattle.object_manager.specs.After.{opening_copies}
use Rattle.book_law.specs.Course.{Course}
use Rattle.book_law.specs.Events.{In, Makes}
use Rattle.book_law.specs.Fitness.{ArgsFit}
use Rattle.book_law.specs.Machines.{AllFit}
use Rattle.book_law.proofs.Asked.{entered_asked}
use Rattle.book_law.proofs.Fits.{ReplyFits, TextFits}
use Rattle.book_law.proofs.Lists.{in_at}
use Rattle.book_law.proofs.Processes.{get_left, get_some}
use Rattle.book_law.proofs.Replicated.{same_copies}
use Rattle.world_rules.specs.Frame.{Frame}
use Rattle.world_rules.specs.Nodes.{known}
use Rattle.world_rules.specs.Processes.{Begun, begun_by, home_in, processes_from, processes_in, single_by, singles_of, with_entry, first_process}
use Rattle.world_rules.specs.Worlds.{World}
use Rattle.world_course.specs.Corresponds.{Agrees, IsMember, Stands}

-- ---- processes

pub left_same : {A : Type 0} (xs ys : List A) (k : ℕ) → k < length xs → slice_get (xs ++ ys) k ≡ slice_get xs k
left_same xs ys k lt = let u = get_some xs k lt in get_left xs ys k u.0 u.1 ∙ sym u.1

-- those that are there stay
pub get_from : (f : Frame) (ps : List Begun) (n : ℕ) (xs : List Message) (k : ℕ) → k < length ps → slice_get (processes_from f ps n xs) k ≡ slice_get ps k
get_from f ps n [] k lt = refl
get_from f ps n (x ∷ xs) k lt =
    let born : List Begun = begun_by f.settings.nodes (home_in ps x.process.0) (suc n) x.action in
    let e : length (ps ++ born) ≡ length ps + length born = length-append ps born in
    get_from f (ps ++ born) (suc n) xs k (omega (arith, e, lt)) ∙ left_same ps born k lt

pub length_from : (f : Frame) (ps : List Begun) (n : ℕ) (xs : List Message) → length ps ≤ length (processes_from f ps n xs)
length_from f ps n [] = omega arith
length_from f ps n (x ∷ xs) =
    let born : List Begun = begun_by f.settings.nodes (home_in ps x.process.0) (suc n) x.action in
    let e : length (ps ++ born) ≡ length ps + length born = length-append ps born in
    let r = length_from f (ps ++ born) (suc n) xs in
    omega (arith, e, r)

pub from_append : (f : Frame) (ps : List Begun) (n : ℕ) (xs ys : List Message) → processes_from f ps n (xs ++ ys) ≡ processes_from f (processes_from f ps n xs) (n + length xs) ys
from_append f ps n [] ys = ap (λ (k : ℕ). processes_from f ps k ys) (omega arith)
from_append f ps n (x ∷ xs) ys =
    from_append f (with_entry f ps (suc n) x) (suc n) xs ys
    ∙ ap (λ (k : ℕ). processes_from f (processes_from f (with_entry f ps (suc n) x) (suc n) xs) k ys) (omega arith)

-- the entries up to a place are those of a longer list
parts : (list : List Message) (n m : ℕ) → n ≤ m → take m list ≡ take n list ++ drop n (take m list)
parts list n m le = sym (take-append-drop n (take m list)) ∙ ap (λ (l : List Message). l ++ drop n (take m list)) (take-take n m list le)

pub earlier_same : (f : Frame) (list : List Message) (n m k : ℕ) → n ≤ m → k < length (processes_in f (take n list)) → slice_get (processes_in f (take m list)) k ≡ slice_get (processes_in f (take n list)) k
earlier_same f list n m k le lt =
    ap (λ (l : List Message). slice_get (processes_in f l) k) (parts list n m le)
    ∙ ap (λ (ps : List Begun). slice_get ps k) (from_append f (first_process f ∷ []) 0 (take n list) (drop n (take m list)))
    ∙ get_from f (processes_in f (take n list)) (0 + length (take n list)) (drop n (take m list)) k lt

pub earlier_fewer : (f : Frame) (list : List Message) (n m : ℕ) → n ≤ m → length (processes_in f (take n list)) ≤ length (processes_in f (take m list))
earlier_fewer f list n m le =
    let r = length_from f (processes_in f (take n list)) (0 + length (take n list)) (drop n (take m list)) in
    let e : processes_in f (take m list) ≡ processes_from f (processes_in f (take n list)) (0 + length (take n list)) (drop n (take m list)) =
    ap (processes_in f) (parts list n m le) ∙ from_append f (first_process f ∷ []) 0 (take n list) (drop n (take m list)) in
    subst (λ (ps : List Begun). length (processes_in f (take n list)) ≤ length ps) (sym e) r

pub whole_same : (f : Frame) (list : List Message) (n k : ℕ) → k < length (processes_in f (take n list)) → slice_get (processes_in f list) k ≡ slice_get (processes_in f (take n list)) k
whole_same f list n k lt =
    ap (λ (l : List Message). slice_get (processes_in f l) k) (sym (take-append-drop n list))
    ∙ ap (λ (ps : List Begun). slice_get ps k) (from_append f (first_process f ∷ []) 0 (take n list) (drop n list))
    ∙ get_from f (processes_in f (take n list)) (0 + length (take n list)) (drop n list) k lt

pub whole_fewer : (f : Frame) (list : List Message) (n : ℕ) → length (processes_in f (take n list)) ≤ length (processes_in f list)
whole_fewer f list n =
    let r = length_from f (processes_in f (take n list)) (0 + length (take n list)) (drop n list) in
    let e : processes_in f list ≡ processes_from f (processes_in f (take n list)) (0 + length (take n list)) (drop n list) =
    ap (processes_in f) (sym (take-append-drop n list)) ∙ from_append f (first_process f ∷ []) 0 (take n list) (drop n list) in
    subst (λ (ps : List Begun). length (processes_in f (take n list)) ≤ length ps) (sym e) r

-- ---- tests

-- the test that a member knows agrees with the run's on objects of processes that it knows
pub known_agrees : (f : Frame) (single : Test) (list : List Message) (n : ℕ) → Agrees f single list → (o : ObjectId) → o.process < length (processes_in f (take n list)) → singles_of f (processes_in f (take n list)) o ≡ single o
known_agrees f single list n agrees o lt =
    let le = whole_fewer f list n in
    ap (λ (b : Option Begun). single_by f b o.number) (sym (whole_same f list n o.process lt)) ∙ sym (agrees o (omega (arith, lt, le)))

pub in_take : (x : Message) (n : ℕ) (list : List Message) → In x (take n list) → (k : ℕ) × (k < n) × (slice_get list k ≡ Some x)
in_take x zero list h = absurd h
in_take x (suc n) [] h = absurd h
in_take x (suc n) (y ∷ list) (inl e) = (0, omega arith, ap (λ (z : Message). Some z) (sym e))
in_take x (suc n) (y ∷ list) (inr h) = let u = in_take x n list h in let lt = u.1 in (suc u.0, omega (arith, lt), u.2)

-- who made an object is known where its make was applied
pub maker_known : (f : Frame) (single : Test) (w : World) (c : Course) (fits_args : ArgsFit) (fits_text : TextFits) (fits_reply : ReplyFits) (h : Stands f single w c)
    → AllFit single f.performs f.computes fits_args fits_text fits_reply c → (n a : ℕ) → n ≤ a → (x : Message) (o : ObjectId) → In x (take n c.list) → Makes x.action o
    → o.process < length (processes_in f (take a c.list))
maker_known f single w c fits_args fits_text fits_reply h fit n a le x o is makes =
    let u = in_take x n c.list is in
    let asks = entered_asked single f.performs f.computes c h.came in
    let e : o.process ≡ x.process.0 = fit.makes x o (asks.entered x (asks.listed x (in_at x c.list u.0 u.2))) makes in
    let lt = h.callers u.0 x u.2 in
    let early = u.1 in
    let more = earlier_fewer f c.list u.0 a (omega (arith, early, le)) in
    omega (arith, e, lt, more)

-- so what a member knows at its number gives the same copies at each place up to there
pub views_same : (f : Frame) (single : Test) (w : World) (c : Course) (fits_args : ArgsFit) (fits_text : TextFits) (fits_reply : ReplyFits) (h : Stands f single w c)
    → AllFit single f.performs f.computes fits_args fits_text fits_reply c → (m n : ℕ) → n ≤ (w.nodes m).copies.applied
    → copies_at (singles_of f (known f (w.nodes m))) f.performs (w.nodes m).member.log n ≡ copies_at single f.performs c.list n
views_same f single w c fits_args fits_text fits_reply h fit m n le =
    ap (λ (l : List Message). copies_at (singles_of f (processes_in f l)) f.performs (w.nodes m).member.log n) here.entries
    ∙ ap (after_all (singles_of f (processes_in f (take a c.list))) f.performs opening_copies) shorter
    ∙ same_copies (singles_of f (processes_in f (take a c.list))) single f.performs opening_copies (take n c.list)
    (λ x is o makes. known_agrees f single c.list a h.test o (maker_known f single w c fits_args fits_text fits_reply h fit n a le x o is makes))
  where
    a : ℕ
    a = (w.nodes m).copies.applied

    here : IsMember f single c h.came m (w.nodes m)
    here = h.members m

    shorter : take n (w.nodes m).member.log ≡ take n c.list
    shorter = sym (take-take n a (w.nodes m).member.log le) ∙ ap (take n) here.entries ∙ take-take n a c.list le
