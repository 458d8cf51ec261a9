-- What wires told, as one of them tells more.
use Rattle.std.proofs.Common.{◌≡◌, ◌∙◌, ◌<◌, ⊎_elim, ℕ, List, [], ◌∷◌, ◌++◌, drop, get_or, length, map, set, zero, suc, ap, sym, subst, refl, arith, append_assoc}
use Rattle.std.specs.Prelude.{slice_index_or}
use Rattle.std.proofs.Math.Seq.{drop-append_seam}
use Rattle.std.proofs.lemmas.Bool.{cases_eq}
use Rattle.std.proofs.lemmas.List.{get_or-set_other, get_or-set_same, length-map, length-set}
use Rattle.net_rules.specs.declared.asked.Asked.{Asked}
use Rattle.run_loop.specs.Asked.{HaveToldOn, asked_since}
use Rattle.run_loop.specs.Driven.{told_more}

pub told_here : (wire : ℕ) (more : List Asked) (told : List (List Asked)) → wire < length told → slice_index_or (told_more wire more told) wire [] ≡ slice_index_or told wire [] ++ more
told_here wire more told lt = get_or-set_same told wire (slice_index_or told wire [] ++ more) [] lt

pub told_other : (wire other : ℕ) (more : List Asked) (told : List (List Asked)) → (other ≡ wire → ⊥) → slice_index_or (told_more wire more told) other [] ≡ slice_index_or told other []
told_other wire other more told apart = get_or-set_other told wire other (slice_index_or told wire [] ++ more) [] apart

-- the wire was asked that since, and no other anything
pub since_here : (old told : List (List Asked)) (wire : ℕ) (more : List Asked) → HaveToldOn old told → wire < length told → asked_since old (told_more wire more told) wire ≡ asked_since old told wire ++ more
since_here old told wire more h lt =
    let first = slice_index_or old wire [] in
    let since = asked_since old told wire in
    ap (drop (length first)) (told_here wire more told lt ∙ ap (λ (l : List Asked). l ++ more) (h.each wire) ∙ append_assoc first since more)
    ∙ drop-append_seam first (since ++ more)

pub since_other : (old told : List (List Asked)) (wire other : ℕ) (more : List Asked) → (other ≡ wire → ⊥) → asked_since old (told_more wire more told) other ≡ asked_since old told other
since_other old told wire other more apart = ap (drop (length (slice_index_or old other []))) (told_other wire other more told apart)

-- so they go on telling what they told before
pub tells_on : (old told : List (List Asked)) (wire : ℕ) (more : List Asked) → HaveToldOn old told → wire < length told → HaveToldOn old (told_more wire more told)
tells_on old told wire more h lt = record {
  count = length-set told wire (slice_index_or told wire [] ++ more) ∙ h.count;
  each = λ other. ⊎_elim (same other) (apart other) (cases_eq other wire);
}
  where
    same : (other : ℕ) → other ≡ wire → slice_index_or (told_more wire more told) other [] ≡ slice_index_or old other [] ++ asked_since old (told_more wire more told) other
    same other e = subst (λ n. slice_index_or (told_more wire more told) n [] ≡ slice_index_or old n [] ++ asked_since old (told_more wire more told) n) (sym e)
        (told_here wire more told lt ∙ ap (λ (l : List Asked). l ++ more) (h.each wire) ∙ append_assoc (slice_index_or old wire []) (asked_since old told wire) more
        ∙ ap (λ (l : List Asked). slice_index_or old wire [] ++ l) (sym (since_here old told wire more h lt)))

    apart : (other : ℕ) → (other ≡ wire → ⊥) → slice_index_or (told_more wire more told) other [] ≡ slice_index_or old other [] ++ asked_since old (told_more wire more told) other
    apart other ne = told_other wire other more told ne ∙ h.each other ∙ ap (λ (l : List Asked). slice_index_or old other [] ++ l) (sym (since_other old told wire other more ne))

-- before the run they were asked nothing since
pub none_since : (told : List (List Asked)) (wire : ℕ) → asked_since told told wire ≡ []
none_since told wire = drop_all (slice_index_or told wire [])
  where
    drop_all : (xs : List Asked) → drop (length xs) xs ≡ []
    drop_all [] = refl
    drop_all (x ∷ xs) = drop_all xs

pub tells_itself : (told : List (List Asked)) → HaveToldOn told told
tells_itself told = record {
  count = refl;
  each = λ wire. sym (ap (λ (l : List Asked). slice_index_or told wire [] ++ l) (none_since told wire) ∙ none (slice_index_or told wire []));
}
  where
    none : (xs : List Asked) → xs ++ [] ≡ xs
    none [] = refl
    none (x ∷ xs) = ap (λ (l : List Asked). x ∷ l) (none xs)

-- what is told further is told on
past : (first more all : List Asked) → all ≡ first ++ more → all ≡ first ++ drop (length first) all
past first more all e = e ∙ ap (λ (l : List Asked). first ++ l) (sym (ap (drop (length first)) e ∙ drop-append_seam first more))

pub tells_further : (old mid new : List (List Asked)) → HaveToldOn old mid → HaveToldOn mid new → HaveToldOn old new
tells_further old mid new h k = record {
  count = k.count ∙ h.count;
  each = λ wire.
      let first = slice_index_or old wire [] in
      let before = asked_since old mid wire in
      let since = asked_since mid new wire in
      past first (before ++ since) (slice_index_or new wire [])
      (k.each wire ∙ ap (λ (l : List Asked). l ++ since) (h.each wire) ∙ append_assoc first before since);
}

-- ---- a wire in the list

-- one that tells more, at its place
pub told_set : {W : Type 0} (told : W → List Asked) (wires : List W) (at : ℕ) (wire first : W) (more : List Asked) → at < length wires → told wire ≡ told (get_or wires at first) ++ more → map told (set wires at wire) ≡ told_more at more (map told wires)
told_set told [] at wire first more lt h = absurd (omega (arith, lt))
told_set told (w ∷ wires) zero wire first more lt h = ap (λ (l : List Asked). l ∷ map told wires) h
told_set told (w ∷ wires) (suc at) wire first more lt h = ap (λ (l : List (List Asked)). told w ∷ l) (told_set told wires at wire first more (omega (arith, lt)) h)

-- what it tells is what the list has there
pub told_at : {W : Type 0} (told : W → List Asked) (wires : List W) (at : ℕ) (first : W) → at < length wires → told (get_or wires at first) ≡ slice_index_or (map told wires) at []
told_at told [] at first lt = absurd (omega (arith, lt))
told_at told (w ∷ wires) zero first lt = refl
told_at told (w ∷ wires) (suc at) first lt = told_at told wires at first (omega (arith, lt))

-- and put there again
pub put_at : {W A : Type 0} (says : W → A) (wires : List W) (at : ℕ) (wire : W) → map says (set wires at wire) ≡ set (map says wires) at (says wire)
put_at says [] at wire = refl
put_at says (w ∷ wires) zero wire = refl
put_at says (w ∷ wires) (suc at) wire = ap (λ l. says w ∷ l) (put_at says wires at wire)

-- one that tells the same, at its place
pub kept_at : {W A : Type 0} (says : W → A) (wires : List W) (at : ℕ) (first wire : W) → says wire ≡ says (get_or wires at first) → map says (set wires at wire) ≡ map says wires
kept_at says [] at first wire same = refl
kept_at says (x ∷ wires) zero first wire same = ap (λ a. a ∷ map says wires) same
kept_at says (x ∷ wires) (suc at) first wire same = ap (λ l. says x ∷ l) (kept_at says wires at first wire same)

-- so wires tell on where one of them tells more, or the same
pub tells_more : {W : Type 0} (told : W → List Asked) (wires : List W) (at : ℕ) (first wire : W) (more : List Asked) → at < length wires → told wire ≡ told (get_or wires at first) ++ more → HaveToldOn (map told wires) (map told (set wires at wire))
tells_more told wires at first wire more lt h =
    let many = length-map wires told in
    subst (HaveToldOn (map told wires)) (sym (told_set told wires at wire first more lt h))
    (tells_on (map told wires) (map told wires) at more (tells_itself (map told wires)) (omega (arith, lt, many)))

pub tells_same : {W : Type 0} (told : W → List Asked) (wires : List W) (at : ℕ) (first wire : W) → told wire ≡ told (get_or wires at first) → HaveToldOn (map told wires) (map told (set wires at wire))
tells_same told wires at first wire same =
    subst (HaveToldOn (map told wires)) (sym (kept_at told wires at first wire same)) (tells_itself (map told wires))
