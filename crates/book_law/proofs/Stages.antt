-- Where the message of a process stands, as the list grows, as its member applies, and as owners take calls.
use Rattle.std.proofs.Common.{◌≡◌, ℕ, ◌+◌, ◌≤◌, ◌⊎◌, inl, inr, ⊎_elim, Option, Some, None, List, [], ◌∷◌, ◌++◌, length, refl, sym, ap, ◌∙◌, arith, subst, append-nil}
use Rattle.std.proofs.lemmas.Bool.{cases_eq}
use Rattle.value_core.specs.declared.action.Line.{Line}
use Rattle.value_core.specs.declared.message.Message.{Message}
use Rattle.book_law.specs.Book.{Placed}
use Rattle.book_law.specs.Events.{In}
use Rattle.book_law.proofs.Kept.{answer_lines, Stage}
use Rattle.book_law.proofs.Kept.Stage.{Free, Sent, Waits, Ran, Told}
use Rattle.book_law.proofs.Lists.{in_end, in_left, in_push, one, one_other, one_same}

pub none_left : (w : ℕ) (ls : List Line) → w + length ls ≡ 0 → (w ≡ 0) × (ls ≡ [])
none_left w [] e = (omega (arith, e), refl)
none_left w (l ∷ ls) e = absurd (omega (arith, e))

pub one_left : (w : ℕ) (ls : List Line) → w + length ls ≡ 1 → ((w ≡ 1) × (ls ≡ [])) ⊎ ((w ≡ 0) × ((l : Line) × (ls ≡ l ∷ [])))
one_left w [] e = inl (omega (arith, e), refl)
one_left w (l ∷ []) e = inr (omega (arith, e), (l, refl))
one_left w (l ∷ k ∷ ls) e = absurd (omega (arith, e))

pub some_same : {A : Type 0} (o : Option A) (x y : A) → o ≡ Some x → o ≡ Some y → x ≡ y
some_same o x y e f = let g : Some x ≡ Some y = sym e ∙ f in cc

pub not_both : {A : Type 0} (o : Option A) (x : A) → o ≡ None → o ≡ Some x → ⊥
not_both o x e f = let g : None ≡ Some x = sym e ∙ f in cc

-- the message that enters is another's, where a process's own has entered
other_new : (entered : List Message) (x m : Message) (j : ℕ) (message : Option Message) → (x.process.0 ≡ j → message ≡ Some x) → (In x entered → ⊥) → message ≡ Some m → In m entered → x.process.0 ≡ j → ⊥
other_new entered x m j message own new is there f = new (subst (λ (y : Message). In y entered) (some_same message m x is (own f)) there)

-- a message that hasn't entered hasn't where another's enters
still_out : (entered : List Message) (x m : Message) (j : ℕ) → (x.process.0 ≡ j → ⊥) → m.process.0 ≡ j → (In m entered → ⊥) → In m (entered ++ x ∷ []) → ⊥
still_out entered x m j apart its out h = ⊎_elim (λ u. out u) (λ u. apart (ap (λ (y : Message). y.process.0) (sym u) ∙ its)) (in_push m x entered h)

-- a message of process i is ordered; process j has these lines at its entry
pub stage_push : (entered : List Message) (x : Message) (j : ℕ) (message : Option Message) (answer : Option Placed) (w v : ℕ) (awaited ls : List Line) → (x.process.0 ≡ j → message ≡ Some x) → ((m : Message) → message ≡ Some m → m.process.0 ≡ j) → (In x entered → ⊥) → v + length ls ≡ w + one x.process.0 j
    → Stage entered message answer w awaited → Stage (entered ++ x ∷ []) message answer v (awaited ++ ls)
stage_push entered x j message answer w v awaited ls own its new e (Free none a w0 a0) =
    let apart : x.process.0 ≡ j → ⊥ = λ (f : x.process.0 ≡ j). not_both message x none (own f) in
    let u = one_other x.process.0 j apart in
    let n = none_left v ls (omega (arith, e, w0, u)) in
    Free none a n.0 (ap (λ (z : List Line). z ++ ls) a0 ∙ n.1)
stage_push entered x j message answer w v awaited ls own its new e (Sent m is a out w0 a0) = ⊎_elim mine other (cases_eq x.process.0 j)
  where
    mine : x.process.0 ≡ j → Stage (entered ++ x ∷ []) message answer v (awaited ++ ls)
    mine f =
        let u = one_same x.process.0 j f in
        ⊎_elim (λ n. Waits x (own f) a (in_end x entered) n.0 (ap (λ (z : List Line). z ++ ls) a0 ∙ n.1))
        (λ n. Ran x n.1.0 (own f) a (in_end x entered) n.0 (ap (λ (z : List Line). z ++ ls) a0 ∙ n.1.1))
        (one_left v ls (omega (arith, e, w0, u)))

    other : (x.process.0 ≡ j → ⊥) → Stage (entered ++ x ∷ []) message answer v (awaited ++ ls)
    other apart =
        let u = one_other x.process.0 j apart in
        let n = none_left v ls (omega (arith, e, w0, u)) in
        Sent m is a (still_out entered x m j apart (its m is) out) n.0 (ap (λ (z : List Line). z ++ ls) a0 ∙ n.1)
stage_push entered x j message answer w v awaited ls own its new e (Waits m is a there w1 a0) =
    let u = one_other x.process.0 j (other_new entered x m j message own new is there) in
    ⊎_elim (λ n. Waits m is a (in_left m x entered there) n.0 (ap (λ (z : List Line). z ++ ls) a0 ∙ n.1))
    (λ n. Ran m n.1.0 is a (in_left m x entered there) n.0 (ap (λ (z : List Line). z ++ ls) a0 ∙ n.1.1))
    (one_left v ls (omega (arith, e, w1, u)))
stage_push entered x j message answer w v awaited ls own its new e (Ran m line is a there w0 a1) =
    let u = one_other x.process.0 j (other_new entered x m j message own new is there) in
    let n = none_left v ls (omega (arith, e, w0, u)) in
    Ran m line is a (in_left m x entered there) n.0 (ap (λ (l : List Line). awaited ++ l) n.1 ∙ append-nil awaited ∙ a1)
stage_push entered x j message answer w v awaited ls own its new e (Told m r is a there w0 a0) =
    let u = one_other x.process.0 j (other_new entered x m j message own new is there) in
    let n = none_left v ls (omega (arith, e, w0, u)) in
    Told m r is a (in_left m x entered there) n.0 (ap (λ (z : List Line). z ++ ls) a0 ∙ n.1)

-- an owner takes a message of process i; process j has none of the lines
pub stage_none : (entered : List Message) (x : Message) (j : ℕ) (message : Option Message) (answer : Option Placed) (w v : ℕ) (awaited : List Line) → (x.process.0 ≡ j → message ≡ Some x) → ((m : Message) → message ≡ Some m → m.process.0 ≡ j) → (In x entered → ⊥) → v ≡ w + one x.process.0 j
    → Stage entered message answer w awaited → Stage (entered ++ x ∷ []) message answer v awaited
stage_none entered x j message answer w v awaited own its new e s =
    subst (λ (z : List Line). Stage (entered ++ x ∷ []) message answer v z) (append-nil awaited) (stage_push entered x j message answer w v awaited [] own its new (omega (arith, e)) s)

-- or it has one: then it was told of its own message, and it alone
pub stage_line : (entered : List Message) (x : Message) (j : ℕ) (message : Option Message) (answer : Option Placed) (w v : ℕ) (awaited : List Line) (n : ℕ) (l : Line) (ls : List Line) → (x.process.0 ≡ j → message ≡ Some x) → ((m : Message) → message ≡ Some m → m.process.0 ≡ j) → (In x entered → ⊥) → v + length (l ∷ ls) ≡ w + one x.process.0 j
    → Stage entered message answer w awaited → (ls ≡ []) × (answer ≡ None) × (awaited ≡ []) × Stage (entered ++ x ∷ []) message (Some (record { place = n; line = l })) v awaited
stage_line entered x j message answer w v awaited n l ls own its new e (Free none a w0 a0) =
    let u = one_other x.process.0 j (λ (f : x.process.0 ≡ j). not_both message x none (own f)) in
    absurd (omega (arith, e, w0, u))
stage_line entered x j message answer w v awaited n l ls own its new e (Sent m is a out w0 a0) = ⊎_elim mine other (cases_eq x.process.0 j)
  where
    mine : x.process.0 ≡ j → (ls ≡ []) × (answer ≡ None) × (awaited ≡ []) × Stage (entered ++ x ∷ []) message (Some (record { place = n; line = l })) v awaited
    mine f =
        let u = one_same x.process.0 j f in
        let k = none_left v ls (omega (arith, e, w0, u)) in
        (k.1, a, a0, Told x (record { place = n; line = l }) (own f) refl (in_end x entered) k.0 a0)

    other : (x.process.0 ≡ j → ⊥) → (ls ≡ []) × (answer ≡ None) × (awaited ≡ []) × Stage (entered ++ x ∷ []) message (Some (record { place = n; line = l })) v awaited
    other apart = let u = one_other x.process.0 j apart in absurd (omega (arith, e, w0, u))
stage_line entered x j message answer w v awaited n l ls own its new e (Waits m is a there w1 a0) =
    let u = one_other x.process.0 j (other_new entered x m j message own new is there) in
    let k = none_left v ls (omega (arith, e, w1, u)) in
    (k.1, a, a0, Told m (record { place = n; line = l }) is refl (in_left m x entered there) k.0 a0)
stage_line entered x j message answer w v awaited n l ls own its new e (Ran m line is a there w0 a1) =
    let u = one_other x.process.0 j (other_new entered x m j message own new is there) in
    absurd (omega (arith, e, w0, u))
stage_line entered x j message answer w v awaited n l ls own its new e (Told m r is a there w0 a0) =
    let u = one_other x.process.0 j (other_new entered x m j message own new is there) in
    absurd (omega (arith, e, w0, u))

-- a process whose message hasn't entered waits nowhere, and has received all
pub stage_new : (entered : List Message) (x : Message) (message : Option Message) (answer : Option Placed) (w : ℕ) (awaited : List Line) → message ≡ Some x → (In x entered → ⊥) → Stage entered message answer w awaited → (w ≡ 0) × (awaited ≡ []) × (answer ≡ None)
stage_new entered x message answer w awaited is new (Free none a w0 a0) = (w0, a0, a)
stage_new entered x message answer w awaited is new (Sent m e a out w0 a0) = (w0, a0, a)
stage_new entered x message answer w awaited is new (Waits m e a there w1 a0) = absurd (new (subst (λ (y : Message). In y entered) (some_same message m x e is) there))
stage_new entered x message answer w awaited is new (Ran m line e a there w0 a1) = absurd (new (subst (λ (y : Message). In y entered) (some_same message m x e is) there))
stage_new entered x message answer w awaited is new (Told m r e a there w0 a0) = absurd (new (subst (λ (y : Message). In y entered) (some_same message m x e is) there))

-- a process without a message
pub stage_free : (entered : List Message) (message : Option Message) (answer : Option Placed) (w : ℕ) (awaited : List Line) → message ≡ None → Stage entered message answer w awaited → (w ≡ 0) × (awaited ≡ []) × (answer ≡ None)
stage_free entered message answer w awaited none (Free e a w0 a0) = (w0, a0, a)
stage_free entered message answer w awaited none (Sent m e a out w0 a0) = absurd (not_both message m none e)
stage_free entered message answer w awaited none (Waits m e a there w1 a0) = absurd (not_both message m none e)
stage_free entered message answer w awaited none (Ran m line e a there w0 a1) = absurd (not_both message m none e)
stage_free entered message answer w awaited none (Told m r e a there w0 a0) = absurd (not_both message m none e)

-- a process that awaits a line awaits it alone
pub stage_ran : (entered : List Message) (message : Option Message) (answer : Option Placed) (w : ℕ) (awaited : List Line) (l : Line) (ls : List Line) → awaited ≡ l ∷ ls → Stage entered message answer w awaited → (w ≡ 0) × (ls ≡ []) × (answer ≡ None)
stage_ran entered message answer w awaited l ls is (Free e a w0 a0) = absurd (let f : [] ≡ l ∷ ls = sym a0 ∙ is in cc f)
stage_ran entered message answer w awaited l ls is (Sent m e a out w0 a0) = absurd (let f : [] ≡ l ∷ ls = sym a0 ∙ is in cc f)
stage_ran entered message answer w awaited l ls is (Waits m e a there w1 a0) = absurd (let f : [] ≡ l ∷ ls = sym a0 ∙ is in cc f)
stage_ran entered message answer w awaited l ls is (Ran m line e a there w0 a1) = (w0, let f : l ∷ ls ≡ line ∷ [] = sym is ∙ a1 in cc, a)
stage_ran entered message answer w awaited l ls is (Told m r e a there w0 a0) = absurd (let f : [] ≡ l ∷ ls = sym a0 ∙ is in cc f)

-- at most one line
pub stage_few : (entered : List Message) (message : Option Message) (answer : Option Placed) (w : ℕ) (awaited : List Line) → Stage entered message answer w awaited → length (answer_lines answer) + length awaited ≤ 1
stage_few entered message answer w awaited (Free e a w0 a0) = let f = ap (λ (l : List Line). length l) a0 in let g = ap (λ (o : Option Placed). length (answer_lines o)) a in omega (arith, f, g)
stage_few entered message answer w awaited (Sent m e a out w0 a0) = let f = ap (λ (l : List Line). length l) a0 in let g = ap (λ (o : Option Placed). length (answer_lines o)) a in omega (arith, f, g)
stage_few entered message answer w awaited (Waits m e a there w1 a0) = let f = ap (λ (l : List Line). length l) a0 in let g = ap (λ (o : Option Placed). length (answer_lines o)) a in omega (arith, f, g)
stage_few entered message answer w awaited (Ran m line e a there w0 a1) = let f = ap (λ (l : List Line). length l) a1 in let g = ap (λ (o : Option Placed). length (answer_lines o)) a in omega (arith, f, g)
stage_few entered message answer w awaited (Told m r e a there w0 a0) = let f = ap (λ (l : List Line). length l) a0 in let g = ap (λ (o : Option Placed). length (answer_lines o)) a in omega (arith, f, g)

-- what a process awaits was done by a message that entered
pub stage_listed : (entered : List Message) (m : Message) (message : Option Message) (answer : Option Placed) (w : ℕ) (awaited : List Line) (l : Line) (ls : List Line) → awaited ≡ l ∷ ls → message ≡ Some m → Stage entered message answer w awaited → In m entered
stage_listed entered m message answer w awaited l ls is own (Free e a w0 a0) = absurd (let f : [] ≡ l ∷ ls = sym a0 ∙ is in cc f)
stage_listed entered m message answer w awaited l ls is own (Sent o e a out w0 a0) = absurd (let f : [] ≡ l ∷ ls = sym a0 ∙ is in cc f)
stage_listed entered m message answer w awaited l ls is own (Waits o e a there w1 a0) = absurd (let f : [] ≡ l ∷ ls = sym a0 ∙ is in cc f)
stage_listed entered m message answer w awaited l ls is own (Ran o line e a there w0 a1) = subst (λ (y : Message). In y entered) (some_same message o m e own) there
stage_listed entered m message answer w awaited l ls is own (Told o r e a there w0 a0) = absurd (let f : [] ≡ l ∷ ls = sym a0 ∙ is in cc f)

-- an answer is to a message that entered
pub stage_told : (entered : List Message) (message : Option Message) (answer : Option Placed) (w : ℕ) (awaited : List Line) (r : Placed) → answer ≡ Some r → Stage entered message answer w awaited → (w ≡ 0) × (awaited ≡ []) × ((m : Message) × (message ≡ Some m) × In m entered)
stage_told entered message answer w awaited r is (Free e a w0 a0) = absurd (not_both answer r a is)
stage_told entered message answer w awaited r is (Sent o e a out w0 a0) = absurd (not_both answer r a is)
stage_told entered message answer w awaited r is (Waits o e a there w1 a0) = absurd (not_both answer r a is)
stage_told entered message answer w awaited r is (Ran o line e a there w0 a1) = absurd (not_both answer r a is)
stage_told entered message answer w awaited r is (Told o s e a there w0 a0) = (w0, a0, (o, e, there))

-- who waits has received all
pub stage_waits : (entered : List Message) (message : Option Message) (answer : Option Placed) (w : ℕ) (awaited : List Line) → 1 ≤ w → Stage entered message answer w awaited → (awaited ≡ []) × (answer ≡ None)
stage_waits entered message answer w awaited le (Free e a w0 a0) = absurd (omega (arith, le, w0))
stage_waits entered message answer w awaited le (Sent o e a out w0 a0) = absurd (omega (arith, le, w0))
stage_waits entered message answer w awaited le (Waits o e a there w1 a0) = (a0, a)
stage_waits entered message answer w awaited le (Ran o line e a there w0 a1) = absurd (omega (arith, le, w0))
stage_waits entered message answer w awaited le (Told o s e a there w0 a0) = absurd (omega (arith, le, w0))
