-- The fields of messages and replies: what is read is spelled so, and what is spelled so is read.
use Rattle.std.proofs.Common.{◌≡◌, ℕ, ℤ, zero, suc, ◌-◌, ◌^◌, ◌≤◌, cond, eqb, leb, List, [], ◌∷◌, ◌++◌, ◌⊎◌, length, Option, Some, None, Ok, refl, sym, ap, subst, ◌∙◌, append_assoc, arith, inl, inr}
use Rattle.std.proofs.Math.Facts.{to_z-of_z, of_z-to_z, sfits_to_z, Fits-of_z}
use Rattle.std.specs.Prelude.{◌&&◌}
use Rattle.std.specs.List.{AllByRecursion}
use Rattle.std.specs.Int.{w16, w32, w64, cast_signed, cast_unsigned}
use Rattle.std.proofs.lemmas.Bool.{leb-true}
use Rattle.orca_base.specs.declared.ids.ObjectId.{ObjectId}
use Rattle.orca_base.specs.declared.limits.TheConstants.{VALUE_NESTING}
use Rattle.value_core.specs.Datum.{Datum, Data, list_of, data_of, list_of-data_of, data_of-list_of}
use Rattle.value_core.specs.Sound.{AreSoundArguments}
use Rattle.value_bytes.specs.declared.fault.ValueError.TheVariants.{NotCanonical}
use Rattle.value_bytes.specs.Spelling.{spelling, spellings}
use Rattle.value_bytes.specs.Reading.{Reads, number_at, byte_at, items_at, value_at}
use Rattle.value_bytes.proofs.Fields.{IsBytes-rest, guard_held, Takes, wide16, wide32, wide64, number_takes, number_again, byte_takes, byte_again}
use Rattle.value_bytes.proofs.Items.{Follow, joined, Spells, Respells, items_take, items_again}
use Rattle.value_bytes.proofs.Values.{Is, one, both_hold, joined-data, all_formed, formed_all, value_takes, value_again}
use Rattle.packet_bytes.specs.Reading.{any, choice_at, object_at, named_at, place_at, arguments_at}
use Rattle.packet_bytes.specs.Sound.{Fits2, Fits4, Fits8, ObjectFits, PlaceFits}
use Rattle.packet_bytes.specs.Spelling.{two, four, eight, object_spelling, place_spelling, arguments_spelling}
use Rattle.packet_bytes.proofs.Chains.{Behind, field, done, Again}

-- ---- numbers and bytes

pub two_takes : (end : ℕ) → Spells (number_at w16 end) two Fits2
unfolding two
two_takes end bytes x fits e = number_takes w16 (2 ^ 16) wide16 end bytes x fits e

pub four_takes : (end : ℕ) → Spells (number_at w32 end) four Fits4
unfolding four
four_takes end bytes x fits e = number_takes w32 (2 ^ 32) wide32 end bytes x fits e

pub eight_takes : (end : ℕ) → Spells (number_at w64 end) eight Fits8
unfolding eight
eight_takes end bytes x fits e = number_takes w64 (2 ^ 64) wide64 end bytes x fits e

pub byte_taken : (limit end : ℕ) → Spells (byte_at limit end) one (λ b. b ≤ limit)
byte_taken limit end bytes x fits e = byte_takes limit end bytes x fits e

pub two_again : (end n : ℕ) → Fits2 n → Again (number_at w16 end) (two n) n
unfolding two
two_again end n lt rest = number_again w16 (2 ^ 16) wide16 end n rest lt

pub four_again : (end n : ℕ) → Fits4 n → Again (number_at w32 end) (four n) n
unfolding four
four_again end n lt rest = number_again w32 (2 ^ 32) wide32 end n rest lt

pub eight_again : (end n : ℕ) → Fits8 n → Again (number_at w64 end) (eight n) n
unfolding eight
eight_again end n lt rest = number_again w64 (2 ^ 64) wide64 end n rest lt

-- ---- a byte from 1 to 3

abbrev pub IsChoice : ℕ → Type 0
IsChoice b = (b ≡ 1) ⊎ ((b ≡ 2) ⊎ (b ≡ 3))

choices : (b : ℕ) → 1 ≤ b → b ≤ 3 → IsChoice b
choices zero low high = absurd (omega (arith, low))
choices (suc zero) low high = inl refl
choices (suc (suc zero)) low high = inr (inl refl)
choices (suc (suc (suc zero))) low high = inr (inr refl)
choices (suc (suc (suc (suc b)))) low high = absurd (omega (arith, high))

pub choice_takes : (end : ℕ) → Spells (choice_at end) one IsChoice
unfolding choice_at
choice_takes end [] x fits e = absurd cc
choice_takes end (b ∷ bytes) x fits e =
    let g = guard_held (leb 1 b && leb b 3) (NotCanonical (end - length (b ∷ bytes))) (b, bytes) x e in
    let h = both_hold (leb 1 b) (leb b 3) g.0 in
    subst (λ (y : ℕ × List ℕ). Takes (b ∷ bytes) (one y.0) y.1 × IsChoice y.0) g.1
    (record { parts = refl; rest_fits = IsBytes-rest b bytes fits }, choices b (leb-true 1 b h.0) (leb-true b 3 h.1))

-- ---- an object's name, and the member that a fork names

pub object_takes : (end : ℕ) → Spells (object_at end) object_spelling ObjectFits
unfolding object_at object_spelling
object_takes end =
    field [] (number_at w16 end) two Fits2 _ _ _ (two_takes end) (λ process small.
    field (two process) (number_at w32 end) four Fits4 _ _ _ (four_takes end) (λ number fits.
    done (two process ++ four number) (record { process = process; number = number }) _ _ refl (small, fits)))

pub object_again : (end : ℕ) (object : ObjectId) → ObjectFits object → Again (object_at end) (object_spelling object) object
unfolding object_at object_spelling
object_again end object fits rest = simp (append_assoc, two_again end object.process fits.0, four_again end object.number fits.1) refl

named_takes : (end : ℕ) → Behind (one 1) (named_at end) place_spelling PlaceFits
unfolding named_at place_spelling
named_takes end =
    field (one 1) (number_at w64 end) eight Fits8 _ _ _ (eight_takes end) (λ n fits.
    done (one 1 ++ eight n) (Some (cast_signed w64 n)) _ _ (ap (λ (k : ℕ). 1 ∷ eight k) (of_z-to_z {w = w64} (record { fits = fits }))) (sfits_to_z {w = w64} (record { fits = fits })))

place_by : (end b : ℕ) → b ≤ 1 → Behind (one b) (λ rest. cond (eqb b 0) (Ok (None, rest)) (named_at end rest)) place_spelling PlaceFits
unfolding place_spelling
place_by end zero le = done (one 0) None _ _ refl tt
place_by end (suc zero) le = named_takes end
place_by end (suc (suc b)) le = absurd (omega (arith, le))

pub place_takes : (end : ℕ) → Spells (place_at end) place_spelling PlaceFits
unfolding place_at
place_takes end = field [] (byte_at 1 end) one (λ b. b ≤ 1) _ _ _ (byte_taken 1 end) (λ b le. place_by end b le)

pub place_again : (end : ℕ) (place : Option ℤ) → PlaceFits place → Again (place_at end) (place_spelling place) place
unfolding place_at named_at place_spelling
place_again end None fits rest = rw (byte_again 1 end 0 rest (omega arith)) refl
place_again end (Some z) fits rest =
    rw (byte_again 1 end 1 (eight (cast_unsigned w64 z) ++ rest) (omega arith), eight_again end (cast_unsigned w64 z) (Fits-of_z {w = w64} fits).fits rest)
    (ap (λ (k : ℤ). Ok (Some k, rest)) (to_z-of_z {w = w64} fits))

-- ---- arguments

any_follows : {X : Type 0} (last : Option X) (xs : List X) → Follow any last xs
any_follows last [] = tt
any_follows last (x ∷ xs) = (refl, any_follows (Some x) xs)

-- so many items
abbrev pub AreSome : {X : Type 0} → (X → Type 0) → ℕ → List X → Type 0
AreSome P n xs = (length xs ≡ n) × AllByRecursion P xs

pub some_take : {X : Type 0} (read : List ℕ → Reads X) (spell : X → List ℕ) (P : X → Type 0) (end n : ℕ) → Spells read spell P → Spells (items_at read any end n None) (joined spell) (AreSome P n)
some_take read spell P end n one bytes x fits e =
    let r = items_take read spell P any end one n None bytes x fits e in (r.takes, (r.many, r.each))

pub some_again : {X : Type 0} (read : List ℕ → Reads X) (spell : X → List ℕ) (P : X → Type 0) (end : ℕ) → Respells read spell P → (xs : List X) → AllByRecursion P xs →
    Again (items_at read any end (length xs) None) (joined spell xs) xs
some_again read spell P end again xs each rest = items_again read spell P any end again xs None rest each (any_follows None xs)

pub arguments_takes : (end : ℕ) → Spells (arguments_at end) arguments_spelling AreSoundArguments
unfolding arguments_at arguments_spelling
arguments_takes end =
    field [] (byte_at 255 end) one (λ b. b ≤ 255) _ _ _ (byte_taken 255 end) (λ n few.
    field (one n) (items_at (value_at end VALUE_NESTING) any end n None) (joined spelling) (AreSome (Is VALUE_NESTING) n) _ _ _
    (some_take (value_at end VALUE_NESTING) spelling (Is VALUE_NESTING) end n (value_takes end VALUE_NESTING)) (λ vs are.
    let back : list_of (data_of vs) ≡ vs = list_of-data_of vs in
    let formed = all_formed VALUE_NESTING (data_of vs) (subst (λ (l : List Datum). AllByRecursion (Is VALUE_NESTING) l) (sym back) are.1) in
    let many : length (list_of (data_of vs)) ≡ n = ap length back ∙ are.0 in
    let text : spellings (data_of vs) ≡ joined spelling vs = sym (joined-data (data_of vs)) ∙ ap (joined spelling) back in
    done (one n ++ joined spelling vs) (data_of vs) _ _ (ap (λ (k : ℕ). k ∷ spellings (data_of vs)) many ∙ ap (λ (t : List ℕ). n ∷ t) text)
    (record { values = record { well_formed = formed.0; shallow = formed.1; short = omega (arith, many, few) }; few = omega (arith, many, few) })))

pub arguments_again : (end : ℕ) (w : Data) → AreSoundArguments w → Again (arguments_at end) (arguments_spelling w) w
unfolding arguments_at arguments_spelling
arguments_again end w sound rest =
    let n = length (list_of w) in
    let items : items_at (value_at end VALUE_NESTING) any end n None (spellings w ++ rest) ≡ Ok (list_of w, rest) =
    ap (λ (s : List ℕ). items_at (value_at end VALUE_NESTING) any end n None (s ++ rest)) (sym (joined-data w))
    ∙ some_again (value_at end VALUE_NESTING) spelling (Is VALUE_NESTING) end (value_again end VALUE_NESTING) (list_of w) (formed_all VALUE_NESTING w sound.values.well_formed sound.values.shallow) rest in
    rw (byte_again 255 end n (spellings w ++ rest) sound.few, items) (ap (λ (d : Data). Ok (d, rest)) (data_of-list_of w))
