-- How long spellings are, that they differ as values do, and what is found at a place.
use Rattle.std.proofs.Common.{◌≡◌, ℕ, ◌+◌, ◌-◌, ◌^◌, ◌<◌, ◌≤◌, List, [], ◌∷◌, ◌++◌, All, length, map, take, drop, Result, Ok, Err, refl, sym, ap, subst, ◌∙◌, arith}
use Rattle.std.specs.Prelude.{IfOk}
use Rattle.std.specs.List.{AllByRecursion, flat_map}
use Rattle.std.specs.Str.{IsAscii}
use Rattle.std.specs.Int.{w32, to_be_bytes}
use Rattle.std.proofs.lemmas.List.{take_at, take-append-drop, length-append, length-drop}
use Rattle.std.proofs.lemmas.List.Concat.{flat_map-cons}
use Rattle.std.proofs.lemmas.List.Elements.{All-from_recursion}
use Rattle.std.proofs.lemmas.Str.Ascii.{IsAscii-from_all}
use Rattle.orca_base.specs.Refusal.{IfBecause, MatchRefusal}
use Rattle.orca_base.specs.declared.limits.TheConstants.{VALUE_NESTING}
use Rattle.orca_base.specs.declared.refusal.Refusal.{Refusal}
use Rattle.orca_base.specs.declared.refusal.Refusal.TheVariants.{Because, NoMemory}
use Rattle.value_core.specs.Datum.{Datum, Data, list_of}
use Rattle.value_core.specs.Datum as datum
use Rattle.value_core.specs.Lengths.{value_length, values_length}
use Rattle.value_core.specs.Sound.{AreWellFormed, IsCode, IsSound, nesting_of_all}
use Rattle.value_core.specs.View.{datum_of}
use Rattle.value_core.specs.declared.value.Value.{Value}
use Rattle.value_bytes.specs.declared.fault.ValueError.{ValueError}
use Rattle.value_bytes.specs.Spelling.{counted, spelling, spellings}
use Rattle.value_bytes.specs.Standing.{StandsAt}
use Rattle.value_bytes.specs.Reading.{◌>>=◌, Gives, number_at, chars_at, found_at, value_at}
use Rattle.value_bytes.proofs.Fields.{IsBytes, IsBytes-drop, bind_ok, ok_is, wide32, number_takes}
use Rattle.value_bytes.proofs.Values.{Is, chars_take, formed_all, value_takes, value_again}

-- ---- lengths

counted_length : (n : ℕ) (bytes : List ℕ) → length (counted n bytes) ≡ length bytes + 4
counted_length n bytes = omega (arith, length-append (to_be_bytes w32 n) bytes)

mutual
  pub spelled_length : (v : Datum) → length (spelling v) ≡ value_length v
  spelled_length (datum.int z) = refl
  spelled_length (datum.truth b) = refl
  spelled_length (datum.char c) = refl
  spelled_length (datum.enumerated n) = refl
  spelled_length (datum.text t) = omega (arith, counted_length (length t) t)
  spelled_length (datum.array w) = omega (arith, counted_length (length (list_of w)) (spellings w), spelled_lengths w)
  spelled_length (datum.fields w) = omega (arith, counted_length (length (list_of w)) (spellings w), spelled_lengths w)
  spelled_length (datum.set w) = omega (arith, counted_length (length (list_of w)) (spellings w), spelled_lengths w)
  spelled_length (datum.bag w) = omega (arith, counted_length (length (list_of w)) (spellings w), spelled_lengths w)
  spelled_length (datum.object p n) = refl

  pub spelled_lengths : (w : Data) → length (spellings w) ≡ values_length w
  spelled_lengths datum.none = refl
  spelled_lengths (datum.more v w) = omega (arith, length-append (spelling v) (spellings w), spelled_length v, spelled_lengths w)

some_bytes : (v : Datum) → 0 < value_length v
some_bytes (datum.int z) = omega arith
some_bytes (datum.truth b) = omega arith
some_bytes (datum.char c) = omega arith
some_bytes (datum.enumerated n) = omega arith
some_bytes (datum.text t) = omega arith
some_bytes (datum.array w) = omega arith
some_bytes (datum.fields w) = omega arith
some_bytes (datum.set w) = omega arith
some_bytes (datum.bag w) = omega arith
some_bytes (datum.object p n) = omega arith

-- ---- no spelling is a prefix of another

pub one_value : (v w : Datum) (behind more : List ℕ) → IsSound v → IsSound w → spelling v ++ behind ≡ spelling w ++ more → (v ≡ w) × (behind ≡ more)
one_value v w behind more sound other same =
    let e : (v, behind) ≡ (w, more) =
    ok_is (v, behind) (w, more)
    (sym (value_again 0 VALUE_NESTING v behind (sound.well_formed, sound.shallow)) ∙ ap (value_at 0 VALUE_NESTING) same ∙ value_again 0 VALUE_NESTING w more (other.well_formed, other.shallow)) in
    (ap (λ (p : Datum × List ℕ). p.0) e, ap (λ (p : Datum × List ℕ). p.1) e)

-- ---- what is read from the front

pub read_sound : (end : ℕ) (bytes : List ℕ) (x : Datum × List ℕ) → IsBytes bytes → value_at end VALUE_NESTING bytes ≡ Ok x → IsSound x.0 × (bytes ≡ spelling x.0 ++ x.1)
read_sound end bytes x fits e =
    let t = value_takes end VALUE_NESTING bytes x fits e in
    (record { well_formed = t.1.0; shallow = t.1.1 }, t.0.parts)

pub read_again : (end : ℕ) (v : Datum) (behind : List ℕ) → IsSound v → value_at end VALUE_NESTING (spelling v ++ behind) ≡ Ok (v, behind)
read_again end v behind sound = value_again end VALUE_NESTING v behind (sound.well_formed, sound.shallow)

-- ---- what is found at a place

found_takes : (bytes : List ℕ) (at : ℕ) (x : Datum × ℕ) → IsBytes bytes → found_at bytes at ≡ Ok x → IsSound x.0 × StandsAt bytes at x.1 x.0
unfolding found_at
found_takes bytes at x fits e =
    let b = bind_ok (value_at (length bytes) VALUE_NESTING (drop at bytes)) (λ x. Ok (x.0, length bytes - length x.1)) x e in
    let v = b.0.0 in
    let t = value_takes (length bytes) VALUE_NESTING (drop at bytes) b.0 (IsBytes-drop at bytes fits) b.1 in
    let long : length (drop at bytes) ≡ length (spelling v) + length b.0.1 = ap length t.0.parts ∙ length-append (spelling v) b.0.1 in
    let end = length bytes - length b.0.1 in
    let many : end - at ≡ length (spelling v) = omega (arith, long, length-drop at bytes, spelled_length v, some_bytes v) in
    let text : take (end - at) (drop at bytes) ≡ spelling v = ap (take (end - at)) t.0.parts ∙ take_at (spelling v) b.0.1 (end - at) (sym many) in
    subst (λ (y : Datum × ℕ). IsSound y.0 × StandsAt bytes at y.1 y.0) (ok_is (v, end) x b.2)
    (record { well_formed = t.1.0; shallow = t.1.1 }, record { behind = omega (arith, long, length-drop at bytes, spelled_length v, some_bytes v); within = omega arith; spelled = text })

found_again : (bytes : List ℕ) (at end : ℕ) (v : Datum) → IsSound v → StandsAt bytes at end v → found_at bytes at ≡ Ok (v, end)
unfolding found_at
found_again bytes at end v sound stands =
    let rest = drop (end - at) (drop at bytes) in
    let parts : drop at bytes ≡ spelling v ++ rest = sym (take-append-drop (end - at) (drop at bytes)) ∙ ap (λ (s : List ℕ). s ++ rest) stands.spelled in
    let again = ap (value_at (length bytes) VALUE_NESTING) parts ∙ value_again (length bytes) VALUE_NESTING v rest (sound.well_formed, sound.shallow) in
    let left : length bytes - length rest ≡ end = omega (arith, length-drop (end - at) (drop at bytes), length-drop at bytes, stands.behind, stands.within) in
    ap (λ r. r >>= λ x. Ok (x.0, length bytes - length x.1)) again ∙ ap (λ (k : ℕ). Ok (v, k)) left

abbrev seen : Value × ℕ → Datum × ℕ
seen x = (datum_of x.0, x.1)

pub is_found : (bytes : List ℕ) (at : ℕ) (r : Result (Value × ℕ) (Refusal ValueError)) → IsBytes bytes → Gives seen r (found_at bytes at) → IfOk r (λ x. IsSound (datum_of x.0) × StandsAt bytes at x.1 (datum_of x.0))
is_found bytes at (Ok x) fits given = found_takes bytes at (seen x) fits given
is_found bytes at (Err e) fits given = tt

not_both : {A : Type 0} (x : A) (f : ValueError) (r : Result A ValueError) → r ≡ Ok x → r ≡ Err f → ⊥
not_both x f r e h = absurd cc

pub is_only : (bytes : List ℕ) (at : ℕ) (r : Result (Value × ℕ) (Refusal ValueError)) → Gives seen r (found_at bytes at) → (v : Datum) (end : ℕ) → IsSound v → StandsAt bytes at end v →
    MatchRefusal r (λ x. (datum_of x.0 ≡ v) × (x.1 ≡ end)) (λ fault. ⊥)
is_only bytes at (Ok x) given v end sound stands =
    let e = ok_is (seen x) (v, end) (sym given ∙ found_again bytes at end v sound stands) in
    (ap (λ (p : Datum × ℕ). p.0) e, ap (λ (p : Datum × ℕ). p.1) e)
is_only bytes at (Err (Because f)) given v end sound stands = not_both (v, end) f (found_at bytes at) (found_again bytes at end v sound stands) given
is_only bytes at (Err NoMemory) given v end sound stands = tt

bind_err : {A B : Type 0} (r : Result A ValueError) (g : A → B) (f : ValueError) → (r >>= λ x. Ok (g x)) ≡ Err f → r ≡ Err f
bind_err (Ok x) g f e = absurd cc
bind_err (Err d) g f e = cc

pub is_refused : (bytes : List ℕ) (at : ℕ) (r : Result (Value × ℕ) (Refusal ValueError)) → Gives seen r (found_at bytes at) → IfBecause r (λ fault. value_at (length bytes) VALUE_NESTING (drop at bytes) ≡ Err fault)
unfolding found_at
is_refused bytes at (Ok x) given = tt
is_refused bytes at (Err (Because f)) given = bind_err (value_at (length bytes) VALUE_NESTING (drop at bytes)) (λ x. (x.0, length bytes - length x.1)) f given
is_refused bytes at (Err NoMemory) given = tt

-- ---- for the loops

small : (t : List ℕ) → AllByRecursion IsCode t → AllByRecursion (λ b. b < 128) t
small [] each = tt
small (c ∷ t) each = (omega (arith, each.0), small t each.1)

-- the chars of a text that is read are ASCII
pub chars_ascii : (end : ℕ) (bytes : List ℕ) (n : ℕ × List ℕ) (x : List ℕ × List ℕ) → IsBytes bytes → number_at w32 end bytes ≡ Ok n → chars_at end n.0 n.1 ≡ Ok x → IsAscii x.0
chars_ascii end bytes n x fits counts e =
    let t = number_takes w32 (2 ^ 32) wide32 end bytes n fits counts in
    let u = chars_take end n.0 n.1 x t.0.rest_fits e in
    IsAscii-from_all x.0 (All-from_recursion (λ b. b < 128) x.0 (small x.0 u.each))

flat_spellings : (w : Data) → flat_map spelling (list_of w) ≡ spellings w
flat_spellings datum.none = refl
flat_spellings (datum.more v w) = flat_map-cons spelling v (list_of w) ∙ ap (λ (r : List ℕ). spelling v ++ r) (flat_spellings w)

each_in : (levels : ℕ) (items : List Value) → AllByRecursion (Is levels) (map datum_of items) → AllByRecursion (λ v. Is levels (datum_of v)) items
each_in levels [] each = tt
each_in levels (v ∷ items) each = (each.0, each_in levels items each.1)

-- each part of a list that may be written may be written
pub parts_are : (levels : ℕ) (items : List Value) (w : Data) → map datum_of items ≡ list_of w → AreWellFormed w → nesting_of_all w ≤ levels → All (λ v. Is levels (datum_of v)) items
parts_are levels items w is formed shallow =
    All-from_recursion (λ v. Is levels (datum_of v)) items (each_in levels items (subst (λ (vs : List Datum). AllByRecursion (Is levels) vs) (sym is) (formed_all levels w formed shallow)))

-- all parts are written
pub all_written : (items : List Value) (w : Data) → map datum_of items ≡ list_of w → flat_map spelling (map datum_of items) ≡ spellings w
all_written items w is = ap (λ (vs : List Datum). flat_map spelling vs) is ∙ flat_spellings w
