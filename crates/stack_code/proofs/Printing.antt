-- Lists of texts, and the lines of a body.
use Rattle.std.proofs.Common.{◌≡◌, ℕ, suc, ◌+◌, ◌<◌, ◌≤◌, List, [], ◌∷◌, ◌++◌, length, map, drop, refl, sym, ap, ◌∙◌, append_assoc, arith, length-append}
use Rattle.std.proofs.Common.{get_or}
use Rattle.std.specs.Prelude.{slice_get}
use Rattle.std.proofs.lemmas.List.{drop_more}
use Rattle.std.proofs.lemmas.List.Concat.{flat_map-cons}
use Rattle.std.specs.List.{flat_map}
use Rattle.std.specs.Fmt.{decimal}
use Rattle.code_rules.specs.Instructions as rules
use Rattle.stack_code.specs.Text.{instr_text, line_text, lines_from, noted_line, notes_in, texts_behind, texts_in, bodies_text}

pub flat_map_map : {A B C : Type 0} (f : B → List C) (g : A → B) (xs : List A) → flat_map (λ x. f (g x)) xs ≡ flat_map f (map g xs)
flat_map_map f g [] = refl
flat_map_map f g (x ∷ xs) = ap (λ l. f (g x) ++ l) (flat_map_map f g xs)

-- one more line of a body
pub one_line : {A : Type 0} (notes : List (List (List ℕ))) (f : A → rules.Instr) (rest : List A) (x : A) (first n t t1 : ℕ) (out out1 whole : List ℕ) → out ++ lines_from notes first n t (map f (x ∷ rest)) ≡ whole → out1 ≡ out ++ noted_line notes first n t (f x) → texts_behind (f x) t ≡ t1 → out1 ++ lines_from notes first (suc n) t1 (map f rest) ≡ whole
one_line notes f rest x first n t t1 out out1 whole all put behind =
    ap (λ l. l ++ lines_from notes first (suc n) t1 (map f rest)) put
    ∙ append_assoc out (noted_line notes first n t (f x)) (lines_from notes first (suc n) t1 (map f rest))
    ∙ ap (λ k. out ++ (noted_line notes first n t (f x) ++ lines_from notes first (suc n) k (map f rest))) (sym behind)
    ∙ all

-- a body has as many bytes as lines, at least
pub lines_long : (notes : List (List (List ℕ))) (first n t : ℕ) (is : List rules.Instr) → length is ≤ length (lines_from notes first n t is)
lines_long notes first n t [] = omega arith
lines_long notes first n t (i ∷ is) =
    omega (arith, lines_long notes first (suc n) (texts_behind i t) is, length-append (noted_line notes first n t i) (lines_from notes first (suc n) (texts_behind i t) is), length-append (notes_in (slice_get notes (first + n))) (line_text first n t i), length-append (decimal (first + n)) (32 ∷ (instr_text first t i ++ 10 ∷ [])))

pub one_body : (notes : List (List (List ℕ))) (out out1 : List ℕ) (first t t1 : ℕ) (is : List rules.Instr) (rest : List (List rules.Instr)) → out1 ≡ out ++ lines_from notes first 0 t is → t1 ≡ texts_in t is → out1 ++ bodies_text notes (first + length is) t1 rest ≡ out ++ bodies_text notes first t (is ∷ rest)
one_body notes out out1 first t t1 is rest put texts =
    ap (λ l. l ++ bodies_text notes (first + length is) t1 rest) put
    ∙ append_assoc out (lines_from notes first 0 t is) (bodies_text notes (first + length is) t1 rest)
    ∙ ap (λ k. out ++ (lines_from notes first 0 t is ++ bodies_text notes (first + length is) k rest)) texts

-- one more of a list of parts, each of which has bodies
pub one_more : {A : Type 0} (notes : List (List (List ℕ))) (g : A → List (List rules.Instr)) (xs : List A) (i : ℕ) (d : A) (rest : List (List rules.Instr)) (out out1 whole : List ℕ) (first first1 t t1 : ℕ) → i < length xs → ((r : List (List rules.Instr)) → out1 ++ bodies_text notes first1 t1 r ≡ out ++ bodies_text notes first t (g (get_or xs i d) ++ r)) → out ++ bodies_text notes first t (flat_map g (drop i xs) ++ rest) ≡ whole → out1 ++ bodies_text notes first1 t1 (flat_map g (drop (i + 1) xs) ++ rest) ≡ whole
one_more notes g xs i d rest out out1 whole first first1 t t1 lt put so_far =
    let x = get_or xs i d in
    let tail = drop (i + 1) xs in
    put (flat_map g tail ++ rest)
    ∙ ap (λ b. out ++ bodies_text notes first t b) (sym (append_assoc (g x) (flat_map g tail) rest))
    ∙ ap (λ b. out ++ bodies_text notes first t (b ++ rest)) (sym (flat_map-cons g x tail))
    ∙ ap (λ l. out ++ bodies_text notes first t (flat_map g l ++ rest)) (sym (drop_more xs i d lt))
    ∙ so_far

-- one more text of a list
pub one_put : {A : Type 0} (f : A → List ℕ) (xs : List A) (i : ℕ) (d : A) (out out1 whole : List ℕ) → i < length xs → out1 ≡ out ++ f (get_or xs i d) → out ++ flat_map f (drop i xs) ≡ whole → out1 ++ flat_map f (drop (i + 1) xs) ≡ whole
one_put f xs i d out out1 whole lt put so_far =
    let x = get_or xs i d in
    let rest = drop (i + 1) xs in
    ap (λ t. t ++ flat_map f rest) put
    ∙ append_assoc out (f x) (flat_map f rest)
    ∙ ap (λ t. out ++ t) (sym (flat_map-cons f x rest))
    ∙ ap (λ l. out ++ flat_map f l) (sym (drop_more xs i d lt))
    ∙ so_far
