-- Reading a value from the front of a list of bytes, with the first fault from the left (docs/LANGUAGE.md, Values). `end` is the number
-- of bytes given, so that the first byte of `bytes` has the place `end - length bytes`.
use Rattle.std.specs.Prelude.{◌≡◌, ℕ, zero, suc, ◌-◌, Bool, true, not, ◌&&◌, List, [], ◌∷◌, length, take, drop, Option, Some, None, Result, Ok, Err, nat_lt, nat_le, slice_get, ◌==◌, if◌then◌else◌}
use Rattle.std.specs.Ordering.{is_lt}
use Rattle.std.specs.Int.{Width, w16, w32, w64, byte_len, cast_signed, from_be_bytes}
use Rattle.orca_base.specs.declared.limits.TheConstants.{VALUE_NESTING}
use Rattle.orca_base.specs.declared.refusal.Refusal.{Refusal}
use Rattle.orca_base.specs.declared.refusal.Refusal.TheVariants.{Because, NoMemory}
use Rattle.value_core.specs.Datum.{Datum, Data, data_of}
use Rattle.value_core.specs.Datum as datum
use Rattle.value_core.specs.Order.{datum_cmp}
use Rattle.value_bytes.specs.declared.fault.ValueError.{ValueError}
use Rattle.value_bytes.specs.declared.fault.ValueError.TheVariants.{Short, BadTag, NotCanonical}

-- something and the bytes after it, or the fault
abbrev pub Reads : Type 0 → Type 0
Reads X = Result (X × List ℕ) ValueError

infixl 10 ◌>>=◌
abbrev pub ◌>>=◌ : {A B : Type 0} → Result A ValueError → (A → Result B ValueError) → Result B ValueError
(Ok x) >>= f = f x
(Err e) >>= f = Err e

-- a number of so many bytes
abbrev pub number_at : Width → ℕ → List ℕ → Reads ℕ
number_at w end bytes =
    if nat_lt (length bytes) (byte_len w) then Err (Short end)
    else Ok (from_be_bytes w (take (byte_len w) bytes), drop (byte_len w) bytes)

-- a byte that is no greater than the limit
unfoldable pub byte_at : ℕ → ℕ → List ℕ → Reads ℕ
byte_at limit end [] = Err (Short end)
byte_at limit end (b ∷ rest) = if nat_lt limit b then Err (NotCanonical (end - length (b ∷ rest))) else Ok (b, rest)

-- an item that may follow the one before it, where there is one
unfoldable pub item_at : {X : Type 0} → (List ℕ → Reads X) → (Option X → X → Bool) → ℕ → Option X → List ℕ → Reads X
item_at read follows end last bytes = do
  item ← read bytes
  if follows last item.0 then Ok item else Err (NotCanonical (end - length bytes))

-- so many items, one after the other
unfoldable pub items_at : {X : Type 0} → (List ℕ → Reads X) → (Option X → X → Bool) → ℕ → ℕ → Option X → List ℕ → Reads (List X)
items_at read follows end zero last bytes = Ok ([], bytes)
items_at read follows end (suc n) last bytes = do
  first ← item_at read follows end last bytes
  others ← items_at read follows end n (Some first.0) first.1
  Ok (first.0 ∷ others.0, others.1)

-- the last, where there is one
abbrev pub last_of : {X : Type 0} → List X → Option X
last_of xs = slice_get xs (length xs - 1)

-- a set rises, a bag never falls, and in an array or a record any part may follow
abbrev pub may_follow : ℕ → Option Datum → Datum → Bool
may_follow tag None w = true
may_follow tag (Some v) w = if tag == 8 then is_lt (datum_cmp v w) else (if tag == 9 then not (is_lt (datum_cmp w v)) else true)

-- the list with this tag
abbrev pub with_tag : ℕ → Data → Datum
with_tag tag w = if tag == 6 then datum.array w else (if tag == 7 then datum.fields w else (if tag == 8 then datum.set w else datum.bag w))

-- 8 bytes in two's complement
unfoldable pub int_at : ℕ → List ℕ → Reads Datum
int_at end bytes = number_at w64 end bytes >>= λ n. Ok (datum.int (cast_signed w64 n.0), n.1)

-- a byte, 0 or 1
unfoldable pub truth_at : ℕ → List ℕ → Reads Datum
truth_at end bytes = byte_at 1 end bytes >>= λ b. Ok (datum.truth (b.0 == 1), b.1)

-- a byte, at most 127
unfoldable pub char_at : ℕ → List ℕ → Reads Datum
char_at end bytes = byte_at 127 end bytes >>= λ c. Ok (datum.char c.0, c.1)

-- 2 bytes
unfoldable pub enumerated_at : ℕ → List ℕ → Reads Datum
enumerated_at end bytes = number_at w16 end bytes >>= λ n. Ok (datum.enumerated n.0, n.1)

-- so many chars, each of which may follow any
abbrev pub chars_at : ℕ → ℕ → List ℕ → Reads (List ℕ)
chars_at end n bytes = items_at (byte_at 127 end) (λ last c. true) end n None bytes

-- 4 bytes of length, and a byte for each char
unfoldable pub text_at : ℕ → List ℕ → Reads Datum
text_at end bytes = do
  n ← number_at w32 end bytes
  chars ← chars_at end n.0 n.1
  Ok (datum.text chars.0, chars.1)

-- 2 bytes of process, and 4 of number
unfoldable pub object_at : ℕ → List ℕ → Reads Datum
object_at end bytes = do
  p ← number_at w16 end bytes
  n ← number_at w32 end p.1
  Ok (datum.object p.0 n.0, n.1)

-- 4 bytes of count, and the parts in order, where each is read so
unfoldable pub list_at : (List ℕ → Reads Datum) → ℕ → ℕ → List ℕ → Reads Datum
list_at read tag end bytes = do
  n ← number_at w32 end bytes
  parts ← items_at read (may_follow tag) end n.0 None n.1
  Ok (with_tag tag (data_of parts.0), parts.1)

-- what stands behind a tag, where the parts are read so
unfoldable pub content_at : (List ℕ → Reads Datum) → ℕ → ℕ → List ℕ → Reads Datum
content_at read tag end bytes =
    if tag == 1 then int_at end bytes
    else (if tag == 2 then truth_at end bytes
    else (if tag == 3 then char_at end bytes
    else (if tag == 4 then enumerated_at end bytes
    else (if tag == 5 then text_at end bytes
    else (if tag == 10 then object_at end bytes
    else list_at read tag end bytes)))))

-- a tag, from 1 to 10
unfoldable pub tag_at : ℕ → List ℕ → Reads ℕ
tag_at end [] = Err (Short end)
tag_at end (tag ∷ rest) = if nat_le 1 tag && nat_le tag 10 then Ok (tag, rest) else Err (BadTag (end - length (tag ∷ rest)))

-- a value, where values may nest so many levels more; a tag where no level is left is one too deep
unfoldable pub value_at : ℕ → ℕ → List ℕ → Reads Datum
value_at end zero bytes = tag_at end bytes >>= λ tag. Err (NotCanonical (end - length bytes))
value_at end (suc levels) bytes = tag_at end bytes >>= λ tag. content_at (value_at end levels) tag.0 end tag.1

-- the value at a place, and the place behind it
unfoldable pub found_at : List ℕ → ℕ → Result (Datum × ℕ) ValueError
found_at bytes at = value_at (length bytes) VALUE_NESTING (drop at bytes) >>= λ x. Ok (x.0, length bytes - length x.1)

-- what a function returned, seen by view, is what reading gives, unless memory ran out
abbrev pub Fails : {Y : Type 0} → Refusal ValueError → Result Y ValueError → Type 0
Fails (Because fault) read = read ≡ Err fault
Fails NoMemory read = Unit {0}

abbrev pub Gives : {X Y : Type 0} → (X → Y) → Result X (Refusal ValueError) → Result Y ValueError → Type 0
Gives view (Ok x) read = read ≡ Ok (view x)
Gives view (Err e) read = Fails e read
