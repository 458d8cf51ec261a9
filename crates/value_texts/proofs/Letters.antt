-- Single bytes and words.
use Rattle.std.proofs.Common.{◌≡◌, ℕ, ◌+◌, ◌<◌, ◌≤◌, Bool, true, false, cond, eqb, List, [], ◌∷◌, ◌++◌, length, get_or, drop, Option, Some, None, refl, sym, ap, ◌∙◌, arith}
use Rattle.std.proofs.lemmas.Bool.{eqb-true}
use Rattle.std.proofs.lemmas.Bool.Decides.{nat_tests}
use Rattle.std.proofs.lemmas.List.{drop_all, drop_more}
use Rattle.value_texts.specs.Reading.{◌>>=◌, begins, sign_at, word_at}
use Rattle.value_texts.proofs.Steps.{bind_some, bound, guarded}

pub itself : (c : ℕ) → eqb c c ≡ true
itself c = grind (arith, nat_tests)

pub sign_takes : (sign : ℕ) (text rest : List ℕ) → sign_at sign text ≡ Some rest → text ≡ sign ∷ rest
unfolding sign_at
sign_takes sign [] rest e = absurd cc
sign_takes sign (c ∷ text) rest e =
    let g = guarded (eqb c sign) text rest e in
    ap (λ (b : ℕ). b ∷ text) (eqb-true c sign g.0) ∙ ap (λ (t : List ℕ). sign ∷ t) g.1

pub sign_again : (sign : ℕ) (rest : List ℕ) → sign_at sign (sign ∷ rest) ≡ Some rest
unfolding sign_at
sign_again sign rest = ap (λ (b : Bool). cond b (Some rest) None) (itself sign)

pub word_takes : (word text rest : List ℕ) → word_at word text ≡ Some rest → text ≡ word ++ rest
unfolding word_at
word_takes [] text rest e = cc
word_takes (c ∷ word) text rest e =
    let b = bind_some (sign_at c text) (λ r. word_at word r) rest e in
    sign_takes c text b.0 b.1 ∙ ap (λ (t : List ℕ). c ∷ t) (word_takes word b.0 rest b.2)

pub word_again : (word rest : List ℕ) → word_at word (word ++ rest) ≡ Some rest
unfolding word_at
word_again [] rest = refl
word_again (c ∷ word) rest =
    bound (sign_at c (c ∷ (word ++ rest))) (λ r. word_at word r) (word ++ rest) (sign_again c (word ++ rest)) ∙ word_again word rest

-- ---- the loop over a word

word_step : (word : List ℕ) (i : ℕ) (text : List ℕ) → i < length word → word_at (drop i word) text ≡ (sign_at (get_or word i 0) text >>= λ rest. word_at (drop (i + 1) word) rest)
unfolding word_at
word_step word i text lt = ap (λ (w : List ℕ). word_at w text) (drop_more word i 0 lt)

after_sign : (c : ℕ) (text : List ℕ) → begins c text ≡ true → sign_at c text ≡ Some (drop 1 text)
unfolding sign_at
after_sign c [] h = absurd cc
after_sign c (d ∷ text) h = ap (λ (b : Bool). cond b (Some text) None) h

no_sign : (c : ℕ) (text : List ℕ) → begins c text ≡ false → sign_at c text ≡ None
unfolding sign_at
no_sign c [] h = refl
no_sign c (d ∷ text) h = ap (λ (b : Bool). cond b (Some text) None) h

pub word_stops : (word : List ℕ) (i : ℕ) (text : List ℕ) (total : Option (List ℕ)) → i < length word → begins (get_or word i 0) text ≡ false → word_at (drop i word) text ≡ total → None ≡ total
word_stops word i text total lt h so_far =
    sym (word_step word i text lt ∙ ap (λ r. r >>= λ rest. word_at (drop (i + 1) word) rest) (no_sign (get_or word i 0) text h)) ∙ so_far

pub word_goes_on : (word : List ℕ) (i : ℕ) (text : List ℕ) (total : Option (List ℕ)) → i < length word → begins (get_or word i 0) text ≡ true → word_at (drop i word) text ≡ total → word_at (drop (i + 1) word) (drop 1 text) ≡ total
word_goes_on word i text total lt h so_far =
    sym (word_step word i text lt ∙ ap (λ r. r >>= λ rest. word_at (drop (i + 1) word) rest) (after_sign (get_or word i 0) text h)) ∙ so_far

pub word_done : (word : List ℕ) (i : ℕ) (text : List ℕ) (total : Option (List ℕ)) → length word ≤ i → word_at (drop i word) text ≡ total → Some text ≡ total
unfolding word_at
word_done word i text total le so_far = sym (ap (λ (w : List ℕ). word_at w text) (drop_all i word le)) ∙ so_far
