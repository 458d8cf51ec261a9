-- How pieces are appended: one behind the other, and with a jump whose place is known later.
use Rattle.std.proofs.Common.{Result, Ok, Err, ◌≡◌, subst, ℕ, suc, ◌+◌, true, List, [], ◌∷◌, ◌++◌, length, set, refl, sym, ◌<◌, ap, ◌∙◌, arith, append_assoc}
use Rattle.std.specs.Prelude.{OnOk}
use Rattle.std.proofs.lemmas.List.{append-nil, length-append, length-set, set-append_left}
use Rattle.std.proofs.Math.Seq.{set-append_seam}
use Rattle.orca_tree.specs.declared.tree.Operator.{Operator}
use Rattle.code_rules.specs.Instructions.{Instr, Count, Jump, Turn, Unless, Upto}
use Rattle.code_rules.specs.Pieces.{short_instr, Piece, empty, one, seq, link_piece, loop_piece, repeat_piece, while_piece}
use Rattle.emitted_code.specs.Appends.{Appends}
use Rattle.code_exprs.specs.Jumps.{IsArm, aimed, closing}

-- what follows from what was appended, unless memory was wanting
pub on_ok : {A E : Type 0} (r : Result A E) (P Q : Type 0) → (P → Q) → OnOk r P → OnOk r Q
on_ok (Ok x) P Q f h = f h
on_ok (Err e) P Q f h = tt

-- the same piece by another word
pub same : {A E : Type 0} (r : Result A E) (p q : Piece) (a b : List Instr) → p ≡ q → OnOk r (Appends p a b) → OnOk r (Appends q a b)
same r p q a b e h = subst (λ (k : Piece). OnOk r (Appends k a b)) e h

pub nothing : (a : List Instr) → Appends empty a a
nothing a = record { is = sym (append-nil a) }

pub then : (p q : Piece) (a b c : List Instr) → Appends p a b → Appends q b c → Appends (seq p q) a c
then p q a b c x y = record {
  is = y.is
      ∙ ap (λ (o : List Instr). o ++ q (length o)) x.is
      ∙ append_assoc a (p (length a)) (q (length (a ++ p (length a))))
      ∙ ap (λ (k : ℕ). a ++ (p (length a) ++ q k)) (length-append a (p (length a)));
}

-- and what comes last may want memory
pub then_ok : {A E : Type 0} (r : Result A E) (p q whole : Piece) (a b c : List Instr) → seq p q ≡ whole → Appends p a b → OnOk r (Appends q b c) → OnOk r (Appends whole a c)
then_ok r p q whole a b c e x h = same r (seq p q) whole a c e (on_ok r (Appends q b c) (Appends (seq p q) a c) (λ y. then p q a b c x y) h)

-- three pieces, grouped from the right
pub turned : (p q r : Piece) (a b : List Instr) → Appends (seq (seq p q) r) a b → Appends (seq p (seq q r)) a b
turned p q r a b x =
    let n = length a in
    let m = n + length (p n) in
    let place : n + length (p n ++ q m) ≡ m + length (q m) = omega (arith, length-append (p n) (q m)) in
    record { is = x.is ∙ ap (λ (o : List Instr). a ++ o) (append_assoc (p n) (q m) (r (n + length (p n ++ q m))) ∙ ap (λ (k : ℕ). p n ++ (q m ++ r k)) place) }

pub turned_ok : {A E : Type 0} (t : Result A E) (p q r whole : Piece) (a b c : List Instr) → seq p (seq q r) ≡ whole → Appends (seq p q) a b → OnOk t (Appends r b c) →
    OnOk t (Appends whole a c)
turned_ok t p q r whole a b c e x h =
    same t (seq p (seq q r)) whole a c e (on_ok t (Appends r b c) (Appends (seq p (seq q r)) a c) (λ y. turned p q r a c (then (seq p q) r a b c x y)) h)

pub long : (p : Piece) (a b : List Instr) → Appends p a b → length b ≡ length a + length (p (length a))
long p a b x = ap (λ (o : List Instr). length o) x.is ∙ length-append a (p (length a))

-- an instruction takes the place of the first one of what was appended
pub patched : (h : Instr) (i : ℕ → Instr) (rest : Piece) (a b : List Instr) (j : Instr) → Appends (seq (one h) rest) a b → j ≡ i (length a) →
    Appends (λ pc. i pc ∷ rest (pc + 1)) a (set b (length a) j)
patched h i rest a b j x is = record {
  is = ap (λ (o : List Instr). set o (length a) j) x.is
      ∙ set-append_seam a h (rest (length a + 1)) j
      ∙ ap (λ (k : Instr). a ++ k ∷ rest (length a + 1)) is;
}

-- `or` and `and`
pub short_made : (op : Operator) (h : Instr) (right : Piece) (a b c d : List Instr) (at end : ℕ) → Appends (one h) a b → Appends right b c →
    at ≡ length a → end ≡ length c → d ≡ set c at (short_instr op end) → Appends (link_piece true op right) a d
short_made op h right a b c d at end x y here there is =
    let both = then (one h) right a b c x y in
    let far : length c ≡ length a + suc (length (right (length a + 1))) = long (seq (one h) right) a c both in
    let goal : end ≡ length a + 1 + length (right (length a + 1)) = omega (arith, far, there) in
    let made = patched h (λ pc. short_instr op (pc + 1 + length (right (pc + 1)))) right a c (short_instr op end) both (ap (λ (k : ℕ). short_instr op k) goal) in
    record { is = is ∙ ap (λ (k : ℕ). set c k (short_instr op end)) here ∙ made.is }

-- the end of a loop
pub closed : (h : Instr) (a b c d : List Instr) (back at to : ℕ) → Appends (one h) a b → Appends (one (Jump back)) b c →
    at ≡ length a → to ≡ length c → d ≡ set c at (Unless to) → Appends (closing back) a d
closed h a b c d back at to x y here there is =
    let both = then (one h) (one (Jump back)) a b c x y in
    let far : length c ≡ length a + 2 = long (seq (one h) (one (Jump back))) a c both in
    let goal : to ≡ length a + 1 + 1 = omega (arith, far, there) in
    let made = patched h (λ pc. Unless (pc + 1 + 1)) (one (Jump back)) a c (Unless to) both (ap (λ (k : ℕ). Unless k) goal) in
    record { is = is ∙ ap (λ (k : ℕ). set c k (Unless to)) here ∙ made.is }

-- `while`
pub while_made : (test body : Piece) (h : Instr) (a b c d e f g : List Instr) (at back ask : ℕ) → at ≡ length a → Appends (one h) a b → back ≡ length b →
    Appends (one Turn) b c → Appends body c d → ask ≡ length d → Appends test d e → Appends (closing back) e f → g ≡ set f at (Jump ask) →
    Appends (while_piece test body) a g
while_made test body h a b c d e f g at back ask here x1 again x2 x3 there x4 x5 is =
    let lb : length b ≡ length a + 1 = long (one h) a b x1 in
    let lc : length c ≡ length b + 1 = long (one Turn) b c x2 in
    let begins : length c ≡ length a + 1 + 1 = omega (arith, lb, lc) in
    let goal : ask ≡ length a + 1 + 1 + length (body (length a + 1 + 1)) = there ∙ long body c d x3 ∙ ap (λ (k : ℕ). k + length (body k)) begins in
    let last = closing (length a + 1) in
    let x6 : Appends last e f = subst (λ (k : ℕ). Appends (closing k) e f) (again ∙ lb) x5 in
    let whole = then (one h) (seq (one Turn) (seq body (seq test last))) a b f x1 (then (one Turn) (seq body (seq test last)) b c f x2
    (then body (seq test last) c d f x3 (then test last d e f x4 x6))) in
    let made = patched h (λ pc. Jump (pc + 1 + 1 + length (body (pc + 1 + 1)))) (seq (one Turn) (seq body (seq test last))) a f (Jump ask) whole (ap (λ (k : ℕ). Jump k) goal) in
    record { is = is ∙ ap (λ (k : ℕ). set f k (Jump ask)) here ∙ made.is }

-- `repeat`
pub repeat_made : (body test : Piece) (a b c d e : List Instr) (at : ℕ) → at ≡ length a → Appends (one Turn) a b → Appends body b c → Appends test c d →
    Appends (one (Unless at)) d e → Appends (repeat_piece body test) a e
repeat_made body test a b c d e at here x1 x2 x3 x4 =
    let last = one (Unless (length a)) in
    let x5 : Appends last d e = subst (λ (k : ℕ). Appends (one (Unless k)) d e) here x4 in
    record { is = (then (one Turn) (seq body (seq test last)) a b e x1 (then body (seq test last) b c e x2 (then test last c d e x3 x5))).is }

-- `for`, behind its bounds
pub loop_made : (slot : ℕ) (body : Piece) (h : Instr) (a b c d e f : List Instr) (at back to : ℕ) → at ≡ length a → Appends (one h) a b → back ≡ length b →
    Appends (one Turn) b c → Appends body c d → Appends (one (Upto slot back)) d e → to ≡ length e → f ≡ set e at (Count slot to) →
    Appends (loop_piece slot body) a f
loop_made slot body h a b c d e f at back to here x1 again x2 x3 x4 there is =
    let lb : length b ≡ length a + 1 = long (one h) a b x1 in
    let lc : length c ≡ length b + 1 = long (one Turn) b c x2 in
    let begins : length c ≡ length a + 1 + 1 = omega (arith, lb, lc) in
    let le : length e ≡ length d + 1 = long (one (Upto slot back)) d e x4 in
    let goal : to ≡ length a + 1 + 1 + length (body (length a + 1 + 1)) + 1 =
    there ∙ le ∙ ap (λ (k : ℕ). k + 1) (long body c d x3 ∙ ap (λ (k : ℕ). k + length (body k)) begins) in
    let last = one (Upto slot (length a + 1)) in
    let x5 : Appends last d e = subst (λ (k : ℕ). Appends (one (Upto slot k)) d e) (again ∙ lb) x4 in
    let whole = then (one h) (seq (one Turn) (seq body last)) a b e x1 (then (one Turn) (seq body last) b c e x2 (then body last c d e x3 x5)) in
    let made = patched h (λ pc. Count slot (pc + 1 + 1 + length (body (pc + 1 + 1)) + 1)) (seq (one Turn) (seq body last)) a e (Count slot to) whole (ap (λ (k : ℕ). Count slot k) goal) in
    record { is = is ∙ ap (λ (k : ℕ). set e k (Count slot to)) here ∙ made.is }

-- an instruction, a piece and another one
behind : (i : ℕ → Instr) (p q : Piece) (a b c : List Instr) → Appends (λ pc. i pc ∷ p (pc + 1)) a b → Appends q b c → Appends (λ pc. i pc ∷ seq p q (pc + 1)) a c
behind i p q a b c x y =
    let n = length a in
    let place : n + suc (length (p (n + 1))) ≡ n + 1 + length (p (n + 1)) = omega arith in
    record { is = (then (λ pc. i pc ∷ p (pc + 1)) q a b c x y).is ∙ ap (λ (k : ℕ). a ++ i n ∷ (p (n + 1) ++ q k)) place }

-- an arm with its test
pub arm_made : (test body : Piece) (h k : Instr) (a b c d e f : List Instr) (at hole to : ℕ) → Appends test a b → at ≡ length b → Appends (one h) b c → Appends body c d →
    hole ≡ length d → Appends (one k) d e → to ≡ length e → f ≡ set e at (Unless to) → IsArm test body a f hole
arm_made test body h k a b c d e f at hole to x1 here x2 x3 there x4 end is rest new x5 =
    let u = Unless to in
    let n = length b in
    let both = then (one h) body b c d x2 x3 in
    let ld : length d ≡ n + suc (length (body (n + 1))) = long (seq (one h) body) b d both in
    let le : length e ≡ length d + 1 = long (one k) d e x4 in
    let goal : to ≡ n + 1 + length (body (n + 1)) + 1 = omega (arith, ld, le, end) in
    let begun = set d n u in
    let first = patched h (λ pc. Unless (pc + 1 + length (body (pc + 1)) + 1)) body b d u both (ap (λ (j : ℕ). Unless j) goal) in
    let small : n < length d = omega (arith, ld) in
    let left : Appends (one k) begun f = record {
      is = is
          ∙ ap (λ (j : ℕ). set e j u) here
          ∙ ap (λ (o : List Instr). set o n u) x4.is
          ∙ set-append_left d (k ∷ []) n u small;
    } in
    let last = then (one k) rest begun f new left x5 in
    let ln : length new ≡ length begun + suc (length (rest (length begun + 1))) = long (seq (one k) rest) begun new last in
    let goal2 : length new ≡ length begun + 1 + length (rest (length begun + 1)) = omega (arith, ln) in
    let jump : Piece = λ pc. Jump (pc + 1 + length (rest (pc + 1))) ∷ rest (pc + 1) in
    let tail = patched k (λ pc. Jump (pc + 1 + length (rest (pc + 1)))) rest begun new (Jump (length new)) last (ap (λ (j : ℕ). Jump j) goal2) in
    let all = set new (length begun) (Jump (length new)) in
    let whole = then test (λ pc. Unless (pc + 1 + length (body (pc + 1)) + 1) ∷ seq body jump (pc + 1)) a b all x1
    (behind (λ pc. Unless (pc + 1 + length (body (pc + 1)) + 1)) body jump b begun all first tail) in
    record { is = ap (λ (j : ℕ). set new j (Jump (length new))) (there ∙ sym (length-set d n u)) ∙ whole.is }

-- one hole more, the last
pub one_hole : (holes : List ℕ) (hole to : ℕ) (code : List Instr) → aimed (holes ++ hole ∷ []) to code ≡ aimed holes to (set code hole (Jump to))
one_hole [] hole to code = refl
one_hole (k ∷ ks) hole to code = ap (λ (o : List Instr). set o k (Jump to)) (one_hole ks hole to code)
