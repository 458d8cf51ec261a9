-- One field after the other: what is read is spelled so.
use Rattle.std.proofs.Common.{◌≡◌, ℕ, List, ◌++◌, Ok, sym, ap, subst, ◌∙◌, append_assoc}
use Rattle.value_bytes.specs.Reading.{◌>>=◌, Reads}
use Rattle.value_bytes.proofs.Fields.{IsBytes, bind_ok, ok_is, Takes}
use Rattle.value_bytes.proofs.Items.{Spells}

-- what is read behind this text is spelled so with it, and is such a thing
abbrev pub Behind : {B : Type 0} → List ℕ → (List ℕ → Reads B) → (B → List ℕ) → (B → Type 0) → Type 0
Behind {B} text read spell P = (bytes : List ℕ) (y : B × List ℕ) → IsBytes bytes → read bytes ≡ Ok y → Takes (text ++ bytes) (spell y.0) y.1 × P y.0

-- one more field
pub field : {A B : Type 0} (text : List ℕ) (read : List ℕ → Reads A) (a : A → List ℕ) (Q : A → Type 0) (more : A × List ℕ → Reads B) (spell : B → List ℕ) (P : B → Type 0) →
    Spells read a Q → ((x : A) → Q x → Behind (text ++ a x) (λ rest. more (x, rest)) spell P) → Behind text (λ bytes. read bytes >>= more) spell P
field text read a Q more spell P one others bytes y fits e =
    let b = bind_ok (read bytes) more y e in
    let t = one bytes b.0 fits b.1 in
    let u = others b.0.0 t.1 b.0.1 y t.0.rest_fits b.2 in
    (record { parts = ap (λ (w : List ℕ). text ++ w) t.0.parts ∙ sym (append_assoc text (a b.0.0) b.0.1) ∙ u.0.parts; rest_fits = u.0.rest_fits }, u.1)

-- no more fields
pub done : {B : Type 0} (text : List ℕ) (y : B) (spell : B → List ℕ) (P : B → Type 0) → spell y ≡ text → P y → Behind text (λ rest. Ok (y, rest)) spell P
done {B} text y spell P same holds bytes z fits e =
    subst (λ (w : B × List ℕ). Takes (text ++ bytes) (spell w.0) w.1 × P w.0) (ok_is (y, bytes) z e)
    (record { parts = ap (λ (w : List ℕ). w ++ bytes) (sym same); rest_fits = fits }, holds)

-- one last field
pub finish : {A : Type 0} (text : List ℕ) (read : List ℕ → Reads A) (a : A → List ℕ) (Q : A → Type 0) (spell : A → List ℕ) (P : A → Type 0) →
    Spells read a Q → ((x : A) → Q x → (spell x ≡ text ++ a x) × P x) → Behind text read spell P
finish text read a Q spell P one is bytes y fits e =
    let t = one bytes y fits e in
    let u = is y.0 t.1 in
    (record { parts = ap (λ (w : List ℕ). text ++ w) t.0.parts ∙ sym (append_assoc text (a y.0) y.1) ∙ ap (λ (w : List ℕ). w ++ y.1) (sym u.0); rest_fits = t.0.rest_fits }, u.1)

-- what is spelled so is read, whatever follows
abbrev pub Again : {X : Type 0} → (List ℕ → Reads X) → List ℕ → X → Type 0
Again read text x = (rest : List ℕ) → read (text ++ rest) ≡ Ok (x, rest)
