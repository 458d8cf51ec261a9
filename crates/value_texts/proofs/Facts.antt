-- What is found in a text.
use Rattle.std.proofs.Common.{◌≡◌, eqb, false, ℕ, ◌<◌, List, [], ◌∷◌, ◌++◌, length, Result, Ok, Err, Some, None, sym, ap, subst, ◌∙◌, arith}
use Rattle.std.specs.Prelude.{IfOk}
use Rattle.std.specs.List.{AllByRecursion}
use Rattle.std.specs.Str.{IsAscii}
use Rattle.std.proofs.lemmas.List.{append-nil}
use Rattle.std.proofs.lemmas.List.Elements.{All-from_recursion}
use Rattle.std.proofs.lemmas.Str.Ascii.{IsAscii-from_all}
use Rattle.orca_base.specs.Refusal.{MatchRefusal}
use Rattle.orca_base.specs.declared.limits.TheConstants.{VALUE_NESTING}
use Rattle.orca_base.specs.declared.refusal.Refusal.{Refusal}
use Rattle.orca_base.specs.declared.refusal.Refusal.TheVariants.{Because, NoMemory}
use Rattle.value_core.specs.Datum.{Data, Datum, data_of, data_of-list_of, list_of}
use Rattle.value_core.specs.Sound.{AreSound, IsCode, IsSound}
use Rattle.value_core.specs.View.{datum_of}
use Rattle.value_core.specs.declared.value.Value.{Value}
use Rattle.value_texts.specs.declared.fault.Misspelled.{Misspelled}
use Rattle.value_texts.specs.Spelling.{BeginsWithNoDigit, parts_text, value_text}
use Rattle.value_texts.specs.Reading.{Gives, character_at, until_at, value_at, values_at}
use Rattle.value_texts.proofs.Steps.{some_is}
use Rattle.value_texts.proofs.Items.{Fits}
use Rattle.value_texts.proofs.Values.{text_codes, values_again, values_read, values_take}

pub read_sound : (text : List ℕ) (x : Datum × List ℕ) → Fits text → value_at VALUE_NESTING text ≡ Some x → IsSound x.0 × (text ≡ value_text x.0 ++ x.1)
read_sound text x fits e =
    let t = (values_read VALUE_NESTING).takes text x fits e in
    (record { well_formed = t.1.0; shallow = t.1.1 }, t.0)

pub read_again : (v : Datum) (behind : List ℕ) → IsSound v → BeginsWithNoDigit behind → value_at VALUE_NESTING (value_text v ++ behind) ≡ Some (v, behind)
read_again v behind sound ends = (values_read VALUE_NESTING).again v behind (sound.well_formed, sound.shallow) ends

pub one_value : (v w : Datum) (behind more : List ℕ) → IsSound v → IsSound w → BeginsWithNoDigit behind → BeginsWithNoDigit more → value_text v ++ behind ≡ value_text w ++ more → (v ≡ w) × (behind ≡ more)
one_value v w behind more sound other ends stops same =
    let e : (v, behind) ≡ (w, more) = some_is (v, behind) (w, more) (sym (read_again v behind sound ends) ∙ ap (value_at VALUE_NESTING) same ∙ read_again w more other stops) in
    (ap (λ (p : Datum × List ℕ). p.0) e, ap (λ (p : Datum × List ℕ). p.1) e)

pub one_text : (v w : Datum) → IsSound v → IsSound w → value_text v ≡ value_text w → v ≡ w
one_text v w sound other same = (one_value v w [] [] sound other tt tt (ap (λ (t : List ℕ). t ++ []) same)).0

-- what a call found
pub is_found : {R : Type 0} (now : R → List ℕ) (text : List ℕ) (r : Result (Value × R) (Refusal Misspelled)) → Fits text → Gives (λ x. (datum_of x.0, now x.1)) r (value_at VALUE_NESTING text) →
    IfOk r (λ x. IsSound (datum_of x.0) × (text ≡ value_text (datum_of x.0) ++ now x.1))
is_found now text (Ok x) fits given = read_sound text (datum_of x.0, now x.1) fits given
is_found now text (Err e) fits given = tt

none_is : {A : Type 0} (x : A) → None ≡ Some x → ⊥
none_is x e = cc

pub is_only : {R : Type 0} (now : R → List ℕ) (text : List ℕ) (r : Result (Value × R) (Refusal Misspelled)) → Gives (λ x. (datum_of x.0, now x.1)) r (value_at VALUE_NESTING text) →
    (v : Datum) (behind : List ℕ) → IsSound v → BeginsWithNoDigit behind → text ≡ value_text v ++ behind → MatchRefusal r (λ x. (datum_of x.0 ≡ v) × (now x.1 ≡ behind)) (λ cause. ⊥)
is_only now text (Ok x) given v behind sound ends is =
    let e = some_is (datum_of x.0, now x.1) (v, behind) (sym given ∙ ap (value_at VALUE_NESTING) is ∙ read_again v behind sound ends) in
    (ap (λ (p : Datum × List ℕ). p.0) e, ap (λ (p : Datum × List ℕ). p.1) e)
is_only now text (Err (Because f)) given v behind sound ends is = none_is (v, behind) (sym given ∙ ap (value_at VALUE_NESTING) is ∙ read_again v behind sound ends)
is_only now text (Err NoMemory) given v behind sound ends is = tt

sound_again : (w : Data) → AreSound (data_of (list_of w)) → AreSound w
sound_again w h = subst AreSound (data_of-list_of w) h

pub are_found : {R : Type 0} (now : R → List ℕ) (text : List ℕ) (r : Result (Data × R) (Refusal Misspelled)) → Fits text → Gives (λ x. (list_of x.0, now x.1)) r (values_at text) →
    IfOk r (λ x. AreSound x.0 × (text ≡ 40 ∷ (parts_text x.0 ++ 41 ∷ now x.1)))
are_found now text (Ok x) fits given =
    let t = values_take text (list_of x.0, now x.1) fits given in
    (sound_again x.0 t.1, t.0 ∙ ap (λ (w : Data). 40 ∷ (parts_text w ++ 41 ∷ now x.1)) (data_of-list_of x.0))
are_found now text (Err e) fits given = tt

same_data : (v w : Data) → list_of v ≡ list_of w → v ≡ w
same_data v w h = sym (data_of-list_of v) ∙ ap data_of h ∙ data_of-list_of w

pub are_only : {R : Type 0} (now : R → List ℕ) (text : List ℕ) (r : Result (Data × R) (Refusal Misspelled)) → Gives (λ x. (list_of x.0, now x.1)) r (values_at text) →
    (values : Data) (behind : List ℕ) → AreSound values → text ≡ 40 ∷ (parts_text values ++ 41 ∷ behind) → MatchRefusal r (λ x. (x.0 ≡ values) × (now x.1 ≡ behind)) (λ cause. ⊥)
are_only now text (Ok x) given values behind sound is =
    let e = some_is (list_of x.0, now x.1) (list_of values, behind) (sym given ∙ ap values_at is ∙ values_again values behind sound) in
    (same_data x.0 values (ap (λ (p : List Datum × List ℕ). p.0) e), ap (λ (p : List Datum × List ℕ). p.1) e)
are_only now text (Err (Because f)) given values behind sound is = none_is (list_of values, behind) (sym given ∙ ap values_at is ∙ values_again values behind sound)
are_only now text (Err NoMemory) given values behind sound is = tt

-- what a whole text spells
pub whole_found : {R : Type 0} (now : R → List ℕ) (text : List ℕ) (x : Value × R) → now x.1 ≡ [] → IsSound (datum_of x.0) × (text ≡ value_text (datum_of x.0) ++ now x.1) → IsSound (datum_of x.0) × (text ≡ value_text (datum_of x.0))
whole_found now text x none found = (found.0, found.1 ∙ ap (λ (t : List ℕ). value_text (datum_of x.0) ++ t) none ∙ append-nil (value_text (datum_of x.0)))

small : (t : List ℕ) → AllByRecursion IsCode t → AllByRecursion (λ b. b < 128) t
small [] each = tt
small (c ∷ t) each = (omega (arith, each.0), small t each.1)

-- the characters of a string that is read are ASCII
pub chars_ascii : (text : List ℕ) (x : List ℕ × List ℕ) → until_at (λ last. character_at) 34 (length text) None text ≡ Some x → IsAscii x.0
chars_ascii text x e = IsAscii-from_all x.0 (All-from_recursion (λ b. b < 128) x.0 (small x.0 (text_codes text x e)))

pub not_empty : (rest : List ℕ) → rest ≡ [] → eqb (length rest) 0 ≡ false → ⊥
not_empty [] is h = cc
not_empty (c ∷ rest) is h = cc
