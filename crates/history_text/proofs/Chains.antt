-- One part after the other: what is read is spelled so, and what is spelled so is read.
use Rattle.std.proofs.Common.{◌≡◌, ℕ, List, [], ◌∷◌, ◌++◌, length, Some, sym, ap, subst, ◌∙◌, append_assoc, arith}
use Rattle.std.proofs.lemmas.List.{length-append}
use Rattle.value_texts.specs.Reading.{◌>>=◌, Reads, sign_at, word_at}
use Rattle.value_texts.proofs.Steps.{bind_some, some_is}
use Rattle.value_texts.proofs.Items.{Fits}
use Rattle.value_texts.proofs.Letters.{sign_takes, word_takes}

-- what is read is spelled so, and is such a thing
abbrev pub Spells : {A : Type 0} → (List ℕ → Reads A) → (A → List ℕ) → (A → Type 0) → Type 0
Spells {A} read spell P = (text : List ℕ) (x : A × List ℕ) → Fits text → read text ≡ Some x → (text ≡ spell x.0 ++ x.1) × P x.0

-- what is read behind this front is spelled so with it
abbrev pub Behind : {B : Type 0} → List ℕ → (List ℕ → Reads B) → (B → List ℕ) → (B → Type 0) → Type 0
Behind {B} front read spell P = (text : List ℕ) (y : B × List ℕ) → Fits text → read text ≡ Some y → (front ++ text ≡ spell y.0 ++ y.1) × P y.0

fits_behind : (front text rest : List ℕ) → text ≡ front ++ rest → Fits text → Fits rest
fits_behind front text rest is fits = omega (arith, ap length is, length-append front rest, fits)

-- one more part
pub field : {A B : Type 0} (front : List ℕ) (read : List ℕ → Reads A) (a : A → List ℕ) (Q : A → Type 0) (more : A × List ℕ → Reads B) (spell : B → List ℕ) (P : B → Type 0) →
    Spells read a Q → ((x : A) → Q x → Behind (front ++ a x) (λ rest. more (x, rest)) spell P) → Behind front (λ text. read text >>= more) spell P
field front read a Q more spell P one others text y fits e =
    let b = bind_some (read text) more y e in
    let t = one text b.0 fits b.1 in
    let u = others b.0.0 t.1 b.0.1 y (fits_behind (a b.0.0) text b.0.1 t.0 fits) b.2 in
    (ap (λ (w : List ℕ). front ++ w) t.0 ∙ sym (append_assoc front (a b.0.0) b.0.1) ∙ u.0, u.1)

-- one byte more
pub mark : {B : Type 0} (front : List ℕ) (sign : ℕ) (more : List ℕ → Reads B) (spell : B → List ℕ) (P : B → Type 0) →
    Behind (front ++ sign ∷ []) more spell P → Behind front (λ text. sign_at sign text >>= more) spell P
mark front sign more spell P others text y fits e =
    let b = bind_some (sign_at sign text) more y e in
    let t = sign_takes sign text b.0 b.1 in
    let u = others b.0 y (fits_behind (sign ∷ []) text b.0 t fits) b.2 in
    (ap (λ (w : List ℕ). front ++ w) t ∙ sym (append_assoc front (sign ∷ []) b.0) ∙ u.0, u.1)

-- one word more
pub spoken : {B : Type 0} (front word : List ℕ) (more : List ℕ → Reads B) (spell : B → List ℕ) (P : B → Type 0) →
    Behind (front ++ word) more spell P → Behind front (λ text. word_at word text >>= more) spell P
spoken front word more spell P others text y fits e =
    let b = bind_some (word_at word text) more y e in
    let t = word_takes word text b.0 b.1 in
    let u = others b.0 y (fits_behind word text b.0 t fits) b.2 in
    (ap (λ (w : List ℕ). front ++ w) t ∙ sym (append_assoc front word b.0) ∙ u.0, u.1)

-- no more parts
pub done : {B : Type 0} (front : List ℕ) (y : B) (spell : B → List ℕ) (P : B → Type 0) → spell y ≡ front → P y → Behind front (λ rest. Some (y, rest)) spell P
done {B} front y spell P same holds text z fits e =
    subst (λ (w : B × List ℕ). (front ++ text ≡ spell w.0 ++ w.1) × P w.0) (some_is (y, text) z e) (ap (λ (w : List ℕ). w ++ text) (sym same), holds)

-- three parts with a byte between two of them
pub three : (a b c : List ℕ) (first second : ℕ) → (((a ++ first ∷ []) ++ b) ++ second ∷ []) ++ c ≡ a ++ first ∷ (b ++ second ∷ c)
three a b c first second = append_assoc ((a ++ first ∷ []) ++ b) (second ∷ []) c ∙ append_assoc (a ++ first ∷ []) b (second ∷ c) ∙ append_assoc a (first ∷ []) (b ++ second ∷ c)

-- two parts with a byte between them, and a word and a part behind
pub worded : (a b word c : List ℕ) (first : ℕ) → (((a ++ first ∷ []) ++ b) ++ word) ++ c ≡ a ++ first ∷ (b ++ (word ++ c))
worded a b word c first = append_assoc ((a ++ first ∷ []) ++ b) word c ∙ append_assoc (a ++ first ∷ []) b (word ++ c) ∙ append_assoc a (first ∷ []) (b ++ (word ++ c))
