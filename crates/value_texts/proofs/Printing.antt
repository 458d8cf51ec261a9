-- Parts that are printed so far, and those that are left.
use Rattle.std.proofs.Common.{◌≡◌, ℕ, zero, suc, ◌+◌, ◌<◌, ◌≤◌, cond, eqb, false, List, [], ◌∷◌, ◌++◌, All, length, map, drop, get_or, refl, sym, ap, subst, ◌∙◌, append_assoc, arith}
use Rattle.std.specs.List.{AllByRecursion}
use Rattle.std.proofs.lemmas.Bool.Decides.{nat_tests}
use Rattle.std.proofs.lemmas.List.{append-nil, drop_all, drop_more}
use Rattle.std.proofs.lemmas.List.Elements.{All-from_recursion}
use Rattle.value_core.specs.Datum.{Datum, Data, data_of, data_of-list_of, list_of}
use Rattle.value_core.specs.Datum as datum
use Rattle.value_core.specs.Sound.{nesting, nesting_of_all}
use Rattle.value_core.specs.View.{datum_of}
use Rattle.value_core.specs.declared.value.Value.{Value}
use Rattle.value_texts.specs.Spelling.{more_text, parts_text, value_text}

-- the text of the parts from this place on
abbrev pub left_text : ℕ → List Value → List ℕ
left_text zero items = parts_text (data_of (map datum_of items))
left_text (suc place) items = more_text (data_of (map datum_of items))

pub all_left : (items : List Value) (w : Data) → map datum_of items ≡ list_of w → left_text 0 items ≡ parts_text w
all_left items w is = ap (λ (vs : List Datum). parts_text (data_of vs)) is ∙ ap parts_text (data_of-list_of w)

-- the space in front of a part
abbrev space : ℕ → List ℕ
space place = cond (eqb place 0) [] (32 ∷ [])

left_first : (place : ℕ) (v : Value) (items : List Value) → left_text place (v ∷ items) ≡ space place ++ (value_text (datum_of v) ++ left_text (place + 1) items)
left_first zero v items = refl
left_first (suc place) v items =
    let e : suc place + 1 ≡ suc (place + 1) = omega arith in
    let apart : eqb (suc place) 0 ≡ false = grind (arith, nat_tests) in
    rw (e, apart) refl

-- one part more
pub left_more : (items : List Value) (place : ℕ) (v : Value) (out spaced now total : List ℕ) → place < length items → get_or items place v ≡ v → out ++ left_text place (drop place items) ≡ total →
    spaced ≡ out ++ space place → now ≡ spaced ++ value_text (datum_of v) → now ++ left_text (place + 1) (drop (place + 1) items) ≡ total
left_more items place v out spaced now total lt is so_far first second =
    let rest = drop (place + 1) items in
    let at : drop place items ≡ v ∷ rest = drop_more items place v lt ∙ ap (λ (u : Value). u ∷ rest) is in
    let text : left_text place (drop place items) ≡ space place ++ (value_text (datum_of v) ++ left_text (place + 1) rest) = ap (left_text place) at ∙ left_first place v rest in
    let grown : now ≡ (out ++ space place) ++ value_text (datum_of v) = second ∙ ap (λ (t : List ℕ). t ++ value_text (datum_of v)) first in
    ap (λ (t : List ℕ). t ++ left_text (place + 1) rest) grown
    ∙ append_assoc (out ++ space place) (value_text (datum_of v)) (left_text (place + 1) rest)
    ∙ append_assoc out (space place) (value_text (datum_of v) ++ left_text (place + 1) rest)
    ∙ ap (λ (t : List ℕ). out ++ t) (sym text)
    ∙ so_far

-- at the end nothing is left
pub none_left : (place : ℕ) → left_text place [] ≡ []
none_left zero = refl
none_left (suc place) = refl

pub left_none : (items : List Value) (place : ℕ) (out total : List ℕ) → length items ≤ place → out ++ left_text place (drop place items) ≡ total → out ≡ total
left_none items place out total le so_far =
    let past : drop place items ≡ [] = drop_all place items le in
    sym (ap (λ (t : List ℕ). out ++ t) (ap (left_text place) past ∙ none_left place) ∙ append-nil out) ∙ so_far

shallow_all : (levels : ℕ) (w : Data) → nesting_of_all w ≤ levels → AllByRecursion (λ v. nesting v ≤ levels) (list_of w)
shallow_all levels datum.none shallow = tt
shallow_all levels (datum.more v w) shallow = (omega (arith, shallow), shallow_all levels w (omega (arith, shallow)))

each_in : (levels : ℕ) (items : List Value) → AllByRecursion (λ v. nesting v ≤ levels) (map datum_of items) → AllByRecursion (λ v. nesting (datum_of v) ≤ levels) items
each_in levels [] each = tt
each_in levels (v ∷ items) each = (each.0, each_in levels items each.1)

-- each part may be printed
pub parts_shallow : (levels : ℕ) (items : List Value) (w : Data) → map datum_of items ≡ list_of w → nesting_of_all w ≤ levels → All (λ v. nesting (datum_of v) ≤ levels) items
parts_shallow levels items w is shallow =
    All-from_recursion (λ v. nesting (datum_of v) ≤ levels) items (each_in levels items (subst (λ (vs : List Datum). AllByRecursion (λ v. nesting v ≤ levels) vs) (sym is) (shallow_all levels w shallow)))

pub begun : (old : List ℕ) (opens : ℕ) (now : List ℕ) (items : List Value) (w : Data) → now ≡ old ++ opens ∷ [] → map datum_of items ≡ list_of w → now ++ left_text 0 items ≡ old ++ opens ∷ parts_text w
begun old opens now items w first is =
    ap (λ (t : List ℕ). t ++ left_text 0 items) first ∙ append_assoc old (opens ∷ []) (left_text 0 items) ∙ ap (λ (t : List ℕ). old ++ opens ∷ t) (all_left items w is)
