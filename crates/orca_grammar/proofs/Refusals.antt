-- Tokens are a unit, or end it with which no unit goes on, or nest too deep; and it is one of these, at one place.
use Rattle.std.proofs.Common.{◌≡◌, ◌<◌, ◌≤◌, List, [], ◌∷◌, ◌++◌, Some, None, length, refl, sym, ap, ◌∙◌, subst, inl, inr, arith, append_assoc, length-append}
use Rattle.std.proofs.str.Laws.{order}
use Rattle.orca_base.specs.declared.limits.TheConstants.{NESTING}
use Rattle.orca_lexer.specs.declared.token.Token.{Token}
use Rattle.orca_grammar.specs.Forms.{Mark, first_deep}
use Rattle.orca_grammar.specs.Grammar.{Begins, IsText, IsTooNested, IsUnexpected}

-- ---- two cuts of one list

-- what stands behind the shorter front begins what the longer one has more
behind_in : {A : Type 0} (a b c d : List A) (t : A) → a ++ b ≡ c ++ t ∷ d → length c < length a → (more : List A) × (a ≡ c ++ t ∷ more)
behind_in [] b c d t e less = absurd (omega (arith, less))
behind_in (x ∷ a) b [] d t e less = let same : x ≡ t = cc in (a, ap (λ y. y ∷ a) same)
behind_in (x ∷ a) b (y ∷ c) d t e less =
    let tails : a ++ b ≡ c ++ t ∷ d = cc in
    let heads : x ≡ y = cc in
    let deeper = behind_in a b c d t tails (omega (arith, less)) in
    (deeper.0, ap (λ z. z ∷ a) heads ∙ ap (λ l. y ∷ l) deeper.1)

front_in : {A : Type 0} (a b c d : List A) (u t : A) → a ++ u ∷ b ≡ c ++ t ∷ d → length a ≤ length c → (more : List A) × (c ++ t ∷ [] ≡ (a ++ u ∷ []) ++ more)
front_in [] b [] d u t e less = let same : t ≡ u = cc in ([], ap (λ y. y ∷ []) same)
front_in [] b (y ∷ c) d u t e less = let same : y ≡ u = cc in (c ++ t ∷ [], ap (λ z. z ∷ (c ++ t ∷ [])) same)
front_in (x ∷ a) b [] d u t e less = absurd (omega (arith, less))
front_in (x ∷ a) b (y ∷ c) d u t e less =
    let tails : a ++ u ∷ b ≡ c ++ t ∷ d = cc in
    let heads : y ≡ x = cc in
    let deeper = front_in a b c d u t tails (omega (arith, less)) in
    (deeper.0, ap (λ z. z ∷ (c ++ t ∷ [])) heads ∙ ap (λ l. x ∷ l) deeper.1)

-- behind fronts of one length stands the same
same_behind : {A : Type 0} (a b x y : List A) → a ++ x ≡ b ++ y → length a ≡ length b → x ≡ y
same_behind [] [] x y e long = e
same_behind [] (v ∷ b) x y e long = absurd (omega (arith, long))
same_behind (u ∷ a) [] x y e long = absurd (omega (arith, long))
same_behind (u ∷ a) (v ∷ b) x y e long = let tails : a ++ x ≡ b ++ y = cc in same_behind a b x y tails (omega (arith, long))

-- ---- some unit begins with each front of what one begins with

begins_front : (a b whole : List Token) → Begins whole → whole ≡ a ++ b → Begins a
begins_front a b whole begins is = record {
  marks = begins.marks;
  rest = b ++ begins.rest;
  text = subst (IsText begins.marks) (ap (λ l. l ++ begins.rest) is ∙ append_assoc a b begins.rest) begins.text;
}

-- ---- no unit goes on with one token alone

no_later : (tokens front found : List Token) → IsUnexpected tokens front found → (later left : List Token) → IsUnexpected tokens later left → length front < length later → ⊥
no_later tokens front [] u later left v less =
    omega (arith, less, ap length (sym u.splits ∙ v.splits), length-append front [], length-append later left)
no_later tokens front (f ∷ found) u later left v less =
    let more = behind_in later left front found f (sym v.splits ∙ u.splits) less in
    u.goes_no_further f found refl (begins_front (front ++ f ∷ []) more.0 later v.begins (more.1 ∙ sym (append_assoc front (f ∷ []) more.0)))

pub unexpected_once : (tokens front found : List Token) → IsUnexpected tokens front found → (other left : List Token) → IsUnexpected tokens other left → found ≡ left
unexpected_once tokens front found u other left v = elim (order (length front) (length other)) [
  | inl less ↦ absurd (no_later tokens front found u other left v less)
  | inr more ↦ elim (order (length other) (length front)) [
    | inl less ↦ absurd (no_later tokens other left v front found u less)
    | inr less ↦ same_behind front other found left (sym u.splits ∙ v.splits) (omega (arith, more, less))
  ]
]

-- ---- one token alone is the first that nests too deep

no_deeper : (tokens front rest : List Token) (t : Token) → IsTooNested tokens front t rest → (later left : List Token) (u : Token) → IsTooNested tokens later u left → length front < length later → ⊥
no_deeper tokens front rest t d later left u e less =
    let more = behind_in later (u ∷ left) front rest t (sym e.splits ∙ d.splits) less in
    let b = e.begins in
    let split : (later ++ u ∷ []) ++ b.rest ≡ later ++ u ∷ b.rest = append_assoc later (u ∷ []) b.rest in
    let at_later : first_deep b.marks NESTING ≡ Some (length later) = e.deep b.marks b.rest (subst (IsText b.marks) split b.text) in
    let whole : (later ++ u ∷ []) ++ b.rest ≡ front ++ t ∷ (more.0 ++ u ∷ b.rest) =
    split ∙ ap (λ l. l ++ u ∷ b.rest) more.1 ∙ append_assoc front (t ∷ more.0) (u ∷ b.rest) in
    let at_front : first_deep b.marks NESTING ≡ Some (length front) = d.deep b.marks (more.0 ++ u ∷ b.rest) (subst (IsText b.marks) whole b.text) in
    let same : length front ≡ length later = cc in
    omega (arith, same, less)

pub too_nested_once : (tokens front rest : List Token) (t : Token) → IsTooNested tokens front t rest → (other left : List Token) (u : Token) → IsTooNested tokens other u left → t ∷ rest ≡ u ∷ left
too_nested_once tokens front rest t d other left u e = elim (order (length front) (length other)) [
  | inl less ↦ absurd (no_deeper tokens front rest t d other left u e less)
  | inr more ↦ elim (order (length other) (length front)) [
    | inl less ↦ absurd (no_deeper tokens other left u e front rest t d less)
    | inr less ↦ same_behind front other (t ∷ rest) (u ∷ left) (sym d.splits ∙ e.splits) (omega (arith, more, less))
  ]
]

-- ---- never both

-- tokens that are no unit, by the first with which none goes on, don't nest too deep before it
deep_before : (tokens front found : List Token) → IsUnexpected tokens front found → (deep_front rest : List Token) (t : Token) → IsTooNested tokens deep_front t rest → length deep_front < length front → ⊥
deep_before tokens front found u deep_front rest t d less =
    let more = behind_in front found deep_front rest t (sym u.splits ∙ d.splits) less in
    let b = u.begins in
    let whole : IsText b.marks (deep_front ++ t ∷ (more.0 ++ b.rest)) =
    subst (IsText b.marks) (ap (λ l. l ++ b.rest) more.1 ∙ append_assoc deep_front (t ∷ more.0) b.rest) b.text in
    let late = u.nests b.marks b.rest b.text (length deep_front) (d.deep b.marks (more.0 ++ b.rest) whole) in
    omega (arith, late, less)

deep_behind : (tokens front found : List Token) → IsUnexpected tokens front found → (deep_front rest : List Token) (t : Token) → IsTooNested tokens deep_front t rest → length front ≤ length deep_front → ⊥
deep_behind tokens front [] u deep_front rest t d less =
    omega (arith, less, ap length (sym u.splits ∙ d.splits), length-append front [], length-append deep_front (t ∷ rest))
deep_behind tokens front (f ∷ found) u deep_front rest t d less =
    let more = front_in front found deep_front rest f t (sym u.splits ∙ d.splits) less in
    u.goes_no_further f found refl (begins_front (front ++ f ∷ []) more.0 (deep_front ++ t ∷ []) d.begins more.1)

pub not_both : (tokens front found : List Token) → IsUnexpected tokens front found → (deep_front rest : List Token) (t : Token) → IsTooNested tokens deep_front t rest → ⊥
not_both tokens front found u deep_front rest t d = elim (order (length deep_front) (length front)) [
  | inl less ↦ deep_before tokens front found u deep_front rest t d less
  | inr more ↦ deep_behind tokens front found u deep_front rest t d more
]

-- ---- a unit has no refusal

pub unexpected_none : (tokens front found : List Token) (ms : List Mark) → IsUnexpected tokens front found → IsText ms tokens → ⊥
unexpected_none tokens front [] ms u text = u.ends refl ms text
unexpected_none tokens front (t ∷ rest) ms u text = u.goes_no_further t rest refl (record {
  marks = ms;
  rest = rest;
  text = subst (IsText ms) (u.splits ∙ sym (append_assoc front (t ∷ []) rest)) text;
})

pub too_nested_none : (tokens front rest : List Token) (t : Token) (ms : List Mark) → IsTooNested tokens front t rest → IsText ms tokens → first_deep ms NESTING ≡ None → ⊥
too_nested_none tokens front rest t ms d text fits =
    let deep : first_deep ms NESTING ≡ Some (length front) = d.deep ms rest (subst (IsText ms) d.splits text) in
    absurd (cc (fits, deep))
