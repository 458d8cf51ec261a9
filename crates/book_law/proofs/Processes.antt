-- The processes after a line, and after lines.
use Rattle.std.proofs.Common.{◌⊎◌, ◌≡◌, ℕ, zero, suc, ◌+◌, ◌≤◌, ◌<◌, ◌==◌, inl, inr, Bool, true, false, Option, Some, None, List, [], ◌∷◌, ◌++◌, length, refl, sym, ap, ◌∙◌, arith, subst, append-nil, append_assoc}
use Rattle.std.specs.Prelude.{slice_get, slice_set}
use Rattle.std.proofs.lemmas.Bool.{eqb-true, eqb-false}
use Rattle.std.proofs.lemmas.List.{length-set, length-append}
use Rattle.std.proofs.lemmas.Option.{slice_get_within}
use Rattle.value_core.specs.declared.action.Line.{Line}
use Rattle.value_core.specs.declared.action.Reply.{Reply}
use Rattle.value_core.specs.declared.action.Action.{Action}
use Rattle.value_core.specs.declared.action.Action.TheVariants as action
use Rattle.value_core.specs.Meaning.{Performs, Computes}
use Rattle.value_core.specs.History.{Configuration, LegalFrom, Process, after_line, after_lines, forked, replied}
use Rattle.book_law.specs.Events.{In, lines_by, replies_to}
use Rattle.book_law.proofs.Lists.{lines_by-other, lines_by-own}

-- ---- lists

pub set_same : {A : Type 0} (xs : List A) (i : ℕ) (x y : A) → slice_get xs i ≡ Some x → slice_get (slice_set xs i y) i ≡ Some y
set_same [] i x y e = absurd (cc e)
set_same (z ∷ xs) zero x y e = refl
set_same (z ∷ xs) (suc i) x y e = set_same xs i x y e

pub set_other : {A : Type 0} (xs : List A) (i k : ℕ) (y : A) → (i ≡ k → ⊥) → slice_get (slice_set xs i y) k ≡ slice_get xs k
set_other [] i k y apart = refl
set_other (z ∷ xs) zero zero y apart = absurd (apart refl)
set_other (z ∷ xs) zero (suc k) y apart = refl
set_other (z ∷ xs) (suc i) zero y apart = refl
set_other (z ∷ xs) (suc i) (suc k) y apart = set_other xs i k y (λ e. apart (ap suc e))

pub get_left : {A : Type 0} (xs ys : List A) (k : ℕ) (x : A) → slice_get xs k ≡ Some x → slice_get (xs ++ ys) k ≡ Some x
get_left [] ys k x e = absurd (cc e)
get_left (z ∷ xs) ys zero x e = e
get_left (z ∷ xs) ys (suc k) x e = get_left xs ys k x e

get_pair : {A : Type 0} (xs ys zs : List A) (k : ℕ) → length xs ≡ length ys → slice_get xs k ≡ slice_get ys k → slice_get (xs ++ zs) k ≡ slice_get (ys ++ zs) k
get_pair [] [] zs k l e = refl
get_pair [] (y ∷ ys) zs k l e = absurd (omega (arith, l))
get_pair (x ∷ xs) [] zs k l e = absurd (omega (arith, l))
get_pair (x ∷ xs) (y ∷ ys) zs zero l e = e
get_pair (x ∷ xs) (y ∷ ys) zs (suc k) l e = get_pair xs ys zs k (omega (arith, l)) e

pub get_end : {A : Type 0} (xs : List A) (y : A) → slice_get (xs ++ y ∷ []) (length xs) ≡ Some y
get_end [] y = refl
get_end (x ∷ xs) y = get_end xs y

pub get_some : {A : Type 0} (xs : List A) (k : ℕ) → k < length xs → (x : A) × (slice_get xs k ≡ Some x)
get_some [] k h = absurd (omega arith)
get_some (x ∷ xs) zero h = (x, refl)
get_some (x ∷ xs) (suc k) h = get_some xs k (omega arith)

-- ---- one line

abbrev pub with_reply : Process → Reply → Process
with_reply x r = record { text = x.text; args = x.args; replies = x.replies ++ r ∷ [] }

replied_length : (ps : List Process) (n : ℕ) (r : Reply) (o : Option Process) → length (replied ps n r o) ≡ length ps
replied_length ps n r None = refl
replied_length ps n r (Some x) = length-set ps n (with_reply x r)

pub replied_other : (ps : List Process) (n : ℕ) (r : Reply) (k : ℕ) (o : Option Process) → (n ≡ k → ⊥) → slice_get (replied ps n r o) k ≡ slice_get ps k
replied_other ps n r k None apart = refl
replied_other ps n r k (Some x) apart = set_other ps n k (with_reply x r) apart

replied_own : (ps : List Process) (n : ℕ) (r : Reply) (x : Process) → slice_get ps n ≡ Some x → slice_get (replied ps n r (slice_get ps n)) n ≡ Some (with_reply x r)
replied_own ps n r x e = subst (λ (o : Option Process). slice_get (replied ps n r o) n ≡ Some (with_reply x r)) (sym e) (set_same ps n x (with_reply x r) e)

pub after_length : (p : Performs) (c : Configuration) (line : Line) → length (after_line p c line).processes ≡ length c.processes + length (forked line.action)
after_length p c line =
    length-append (replied c.processes line.process.0 line.reply (slice_get c.processes line.process.0)) (forked line.action)
    ∙ ap (λ n. n + length (forked line.action)) (replied_length c.processes line.process.0 line.reply (slice_get c.processes line.process.0))

pub after_own : (p : Performs) (c : Configuration) (line : Line) (x : Process) → slice_get c.processes line.process.0 ≡ Some x → slice_get (after_line p c line).processes line.process.0 ≡ Some (with_reply x line.reply)
after_own p c line x e = get_left (replied c.processes line.process.0 line.reply (slice_get c.processes line.process.0)) (forked line.action) line.process.0 (with_reply x line.reply) (replied_own c.processes line.process.0 line.reply x e)

pub after_other : (p : Performs) (c : Configuration) (line : Line) (k : ℕ) (x : Process) → (line.process.0 ≡ k → ⊥) → slice_get c.processes k ≡ Some x → slice_get (after_line p c line).processes k ≡ Some x
after_other p c line k x apart e =
    get_left (replied c.processes line.process.0 line.reply (slice_get c.processes line.process.0)) (forked line.action) k x
    (replied_other c.processes line.process.0 line.reply k (slice_get c.processes line.process.0) apart ∙ e)

-- a process that a fork adds
pub after_fork : (p : Performs) (c : Configuration) (line : Line) (x : Process) → forked line.action ≡ x ∷ [] → slice_get (after_line p c line).processes (length c.processes) ≡ Some x
after_fork p c line x e =
    let o = slice_get c.processes line.process.0 in
    let ps = replied c.processes line.process.0 line.reply o in
    let at : slice_get (ps ++ x ∷ []) (length ps) ≡ Some x = get_end ps x in
    let len : length ps ≡ length c.processes = replied_length c.processes line.process.0 line.reply o in
    subst (λ (fs : List Process). slice_get (ps ++ fs) (length c.processes) ≡ Some x) (sym e) (subst (λ (n : ℕ). slice_get (ps ++ x ∷ []) n ≡ Some x) len at)

-- the others are as they were where none is added
pub after_same : (p : Performs) (c : Configuration) (line : Line) (k : ℕ) → forked line.action ≡ [] → (line.process.0 ≡ k → ⊥) → slice_get (after_line p c line).processes k ≡ slice_get c.processes k
after_same p c line k none apart =
    let ps = replied c.processes line.process.0 line.reply (slice_get c.processes line.process.0) in
    ap (λ (fs : List Process). slice_get (ps ++ fs) k) none ∙ ap (λ (xs : List Process). slice_get xs k) (append-nil ps)
    ∙ replied_other c.processes line.process.0 line.reply k (slice_get c.processes line.process.0) apart

-- the same processes but one, before and after another's line
pub after_pair : (p : Performs) (c d : Configuration) (line : Line) (k : ℕ) → length d.processes ≡ length c.processes → slice_get d.processes line.process.0 ≡ slice_get c.processes line.process.0 → slice_get d.processes k ≡ slice_get c.processes k
    → slice_get (after_line p d line).processes k ≡ slice_get (after_line p c line).processes k
after_pair p c d line k len own same =
    get_pair (replied d.processes line.process.0 line.reply (slice_get d.processes line.process.0)) (replied c.processes line.process.0 line.reply (slice_get c.processes line.process.0)) (forked line.action) k
    (replied_length d.processes line.process.0 line.reply (slice_get d.processes line.process.0) ∙ len ∙ sym (replied_length c.processes line.process.0 line.reply (slice_get c.processes line.process.0)))
    (go (slice_get c.processes line.process.0) refl (line.process.0 == k) refl)
  where
    go : (o : Option Process) → slice_get c.processes line.process.0 ≡ o → (b : Bool) → (line.process.0 == k) ≡ b
        → slice_get (replied d.processes line.process.0 line.reply (slice_get d.processes line.process.0)) k ≡ slice_get (replied c.processes line.process.0 line.reply (slice_get c.processes line.process.0)) k
    go o is false e =
        replied_other d.processes line.process.0 line.reply k (slice_get d.processes line.process.0) (eqb-false line.process.0 k e) ∙ same
        ∙ sym (replied_other c.processes line.process.0 line.reply k (slice_get c.processes line.process.0) (eqb-false line.process.0 k e))
    go None is true e =
        ap (λ (u : Option Process). slice_get (replied d.processes line.process.0 line.reply u) k) (own ∙ is) ∙ same
        ∙ sym (ap (λ (u : Option Process). slice_get (replied c.processes line.process.0 line.reply u) k) is)
    go (Some x) is true e =
        let f = eqb-true line.process.0 k e in
        subst (λ (n : ℕ). slice_get (replied d.processes line.process.0 line.reply (slice_get d.processes line.process.0)) n ≡ slice_get (replied c.processes line.process.0 line.reply (slice_get c.processes line.process.0)) n) f
        (replied_own d.processes line.process.0 line.reply x (own ∙ is) ∙ sym (replied_own c.processes line.process.0 line.reply x is))

-- ---- lines

pub grown : (p : Performs) (c : Configuration) (lines : List Line) → length c.processes ≤ length (after_lines p c lines).processes
grown p c [] = omega arith
grown p c (l ∷ lines) = let a = after_length p c l in let b = grown p (after_line p c l) lines in omega (arith, a, b)

-- what a process received in lines
pub replies_after : (p : Performs) (c : Configuration) (lines : List Line) (j : ℕ) (x : Process) → slice_get c.processes j ≡ Some x
    → slice_get (after_lines p c lines).processes j ≡ Some (record { text = x.text; args = x.args; replies = x.replies ++ replies_to (lines_by j lines) })
replies_after p c [] j x e = e ∙ ap (λ (rs : List Reply). Some (record { text = x.text; args = x.args; replies = rs })) (sym (append-nil x.replies))
replies_after p c (l ∷ lines) j x e = go (l.process.0 == j) refl (replies_after p (after_line p c l) lines j)
  where
    go : (b : Bool) → (l.process.0 == j) ≡ b
        → ((y : Process) → slice_get (after_line p c l).processes j ≡ Some y → slice_get (after_lines p (after_line p c l) lines).processes j ≡ Some (record { text = y.text; args = y.args; replies = y.replies ++ replies_to (lines_by j lines) }))
        → slice_get (after_lines p (after_line p c l) lines).processes j ≡ Some (record { text = x.text; args = x.args; replies = x.replies ++ replies_to (lines_by j (l ∷ lines)) })
    go true is ih =
        let f = eqb-true l.process.0 j is in
        let own : slice_get (after_line p c l).processes j ≡ Some (with_reply x l.reply) = subst (λ (n : ℕ). slice_get (after_line p c l).processes n ≡ Some (with_reply x l.reply)) f (after_own p c l x (ap (slice_get c.processes) f ∙ e)) in
        ih (with_reply x l.reply) own
        ∙ ap (λ (rs : List Reply). Some (record { text = x.text; args = x.args; replies = rs })) (append_assoc x.replies (l.reply ∷ []) (replies_to (lines_by j lines)) ∙ ap (λ (ls : List Line). x.replies ++ replies_to ls) (sym (lines_by-own j l lines f)))
    go false is ih =
        let f = eqb-false l.process.0 j is in
        ih x (after_other p c l j x f e)
        ∙ ap (λ (ls : List Line). Some (record { text = x.text; args = x.args; replies = x.replies ++ replies_to ls })) (sym (lines_by-other j l lines f))

-- who doesn't exist yet has no lines
pub none_yet : (p : Performs) (q : Computes) (c : Configuration) (lines : List Line) (j : ℕ) → LegalFrom p q c lines → length (after_lines p c lines).processes ≤ j → lines_by j lines ≡ []
none_yet p q c [] j legal le = refl
none_yet p q c (l ∷ lines) j legal le =
    let a = slice_get_within c.processes l.process.0 legal.0.process legal.0.exists in
    let b = grown p c (l ∷ lines) in
    let apart : l.process.0 ≡ j → ⊥ = λ (e : l.process.0 ≡ j). omega (arith, a, b, le, e) in
    lines_by-other j l lines apart ∙ none_yet p q (after_line p c l) lines j legal.1 le

-- ---- histories in two parts

pub after_lines-append : (p : Performs) (c : Configuration) (xs ys : List Line) → after_lines p c (xs ++ ys) ≡ after_lines p (after_lines p c xs) ys
after_lines-append p c [] ys = refl
after_lines-append p c (x ∷ xs) ys = after_lines-append p (after_line p c x) xs ys

pub legal-append : (p : Performs) (q : Computes) (c : Configuration) (xs ys : List Line) → LegalFrom p q c xs → LegalFrom p q (after_lines p c xs) ys → LegalFrom p q c (xs ++ ys)
legal-append p q c [] ys one two = two
legal-append p q c (x ∷ xs) ys one two = (one.0, legal-append p q (after_line p c x) xs ys one.1 two)

pub legal_left : (p : Performs) (q : Computes) (c : Configuration) (xs ys : List Line) → LegalFrom p q c (xs ++ ys) → LegalFrom p q c xs
legal_left p q c [] ys legal = tt
legal_left p q c (x ∷ xs) ys legal = (legal.0, legal_left p q (after_line p c x) xs ys legal.1)

pub legal_right : (p : Performs) (q : Computes) (c : Configuration) (xs ys : List Line) → LegalFrom p q c (xs ++ ys) → LegalFrom p q (after_lines p c xs) ys
legal_right p q c [] ys legal = legal
legal_right p q c (x ∷ xs) ys legal = legal_right p q (after_line p c x) xs ys legal.1

-- ---- a process that comes to be among lines

pub get_new : {A : Type 0} (xs ys : List A) (k : ℕ) (z : A) → slice_get xs k ≡ None → slice_get (xs ++ ys) k ≡ Some z → In z ys
get_new [] ys k z none is = get_in ys k z is
  where
    get_in : {A : Type 0} (ys : List A) (k : ℕ) (z : A) → slice_get ys k ≡ Some z → In z ys
    get_in [] k z is = absurd (cc is)
    get_in (y ∷ ys) zero z is = let e : z ≡ y = cc in inl e
    get_in (y ∷ ys) (suc k) z is = inr (get_in ys k z is)
get_new (x ∷ xs) ys zero z none is = absurd (cc none)
get_new (x ∷ xs) ys (suc k) z none is = get_new xs ys k z none is

pub forked_fresh : (a : Action) (z : Process) → In z (forked a) → z.replies ≡ []
forked_fresh (action.Fork text args place_on) z (inl e) = ap (λ (y : Process). y.replies) e
forked_fresh (action.Fork text args place_on) z (inr h) = absurd h
forked_fresh (action.Make kind object) z h = absurd h
forked_fresh (action.Call kind op object args) z h = absurd h
forked_fresh action.Ended z h = absurd h
forked_fresh (action.Faulted fault) z h = absurd h

-- it received what its lines say
pub born_among : (p : Performs) (q : Computes) (c : Configuration) (lines : List Line) (j : ℕ) (y : Process) → LegalFrom p q c lines → slice_get c.processes j ≡ None → slice_get (after_lines p c lines).processes j ≡ Some y → y.replies ≡ replies_to (lines_by j lines)
born_among p q c [] j y legal none is = absurd (let e : None ≡ Some y = sym none ∙ is in cc e)
born_among p q c (l ∷ lines) j y legal none is =
    go (slice_get (after_line p c l).processes j) refl (λ e. born_among p q (after_line p c l) lines j y legal.1 e is)
  where
    apart : l.process.0 ≡ j → ⊥
    apart e = let f : None ≡ Some legal.0.process = sym none ∙ ap (slice_get c.processes) (sym e) ∙ legal.0.exists in absurd (cc f)

    go : (o : Option Process) → slice_get (after_line p c l).processes j ≡ o → (slice_get (after_line p c l).processes j ≡ None → y.replies ≡ replies_to (lines_by j lines)) → y.replies ≡ replies_to (lines_by j (l ∷ lines))
    go None e ih = ih e ∙ ap replies_to (sym (lines_by-other j l lines apart))
    go (Some z) e ih =
        let o = slice_get c.processes l.process.0 in
        let ps = replied c.processes l.process.0 l.reply o in
        let before : slice_get ps j ≡ None = replied_other c.processes l.process.0 l.reply j o apart ∙ none in
        let fresh = forked_fresh l.action z (get_new ps (forked l.action) j z before e) in
        let after = replies_after p (after_line p c l) lines j z e in
        let same : Some y ≡ Some (record { text = z.text; args = z.args; replies = z.replies ++ replies_to (lines_by j lines) }) = sym is ∙ after in
        let one : y ≡ record { text = z.text; args = z.args; replies = z.replies ++ replies_to (lines_by j lines) } = cc in
        ap (λ (u : Process). u.replies) one ∙ ap (λ (rs : List Reply). rs ++ replies_to (lines_by j lines)) fresh ∙ ap replies_to (sym (lines_by-other j l lines apart))

-- whose process is there after a line: the line's, an old one, or one that the line forked
pub after_cases : (p : Performs) (c : Configuration) (line : Line) (k : ℕ) (x y : Process) → slice_get c.processes line.process.0 ≡ Some x → slice_get (after_line p c line).processes k ≡ Some y
    → ((line.process.0 ≡ k) × (y ≡ with_reply x line.reply)) ⊎ (((line.process.0 ≡ k → ⊥) × (slice_get c.processes k ≡ Some y)) ⊎ In y (forked line.action))
after_cases p c line k x y own is = go (line.process.0 == k) refl (slice_get c.processes k) refl
  where
    go : (b : Bool) → (line.process.0 == k) ≡ b → (o : Option Process) → slice_get c.processes k ≡ o → ((line.process.0 ≡ k) × (y ≡ with_reply x line.reply)) ⊎ (((line.process.0 ≡ k → ⊥) × (slice_get c.processes k ≡ Some y)) ⊎ In y (forked line.action))
    go true e o f =
        let g = eqb-true line.process.0 k e in
        let h : slice_get (after_line p c line).processes k ≡ Some (with_reply x line.reply) = ap (slice_get (after_line p c line).processes) (sym g) ∙ after_own p c line x own in
        let i : Some y ≡ Some (with_reply x line.reply) = sym is ∙ h in
        inl (g, cc i)
    go false e (Some z) f =
        let g = eqb-false line.process.0 k e in
        let i : Some y ≡ Some z = sym is ∙ after_other p c line k z g f in
        let j : z ≡ y = cc in
        inr (inl (g, f ∙ ap (λ (u : Process). Some u) j))
    go false e None f =
        let g = eqb-false line.process.0 k e in
        let o = slice_get c.processes line.process.0 in
        inr (inr (get_new (replied c.processes line.process.0 line.reply o) (forked line.action) k y (replied_other c.processes line.process.0 line.reply k o g ∙ f) is))
