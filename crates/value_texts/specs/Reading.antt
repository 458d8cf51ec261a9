-- Reading a value from the front of a text.
use Rattle.std.specs.Prelude.{◌≡◌, ℕ, zero, suc, pos, negsuc, ℤ, false, ◌+◌, ◌-◌, ◌*◌, ◌^◌, Bool, true, not, ◌&&◌, ◌||◌, List, [], ◌∷◌, length, take, drop, get_or, slice_get, codes, Option, Some, None, Result, Ok, Err, nat_lt, nat_le, ◌==◌, if◌then◌else◌}
use Rattle.std.specs.Char.{is_ascii_digit}
use Rattle.std.specs.List.{prefix_len}
use Rattle.std.specs.Ordering.{is_lt}
use Rattle.std.specs.Str.Parse.{digits_value}
use Rattle.orca_base.specs.declared.ids.ObjectId.{ObjectId}
use Rattle.orca_base.specs.declared.limits.TheConstants.{VALUE_NESTING}
use Rattle.orca_base.specs.declared.refusal.Refusal.{Refusal}
use Rattle.orca_base.specs.declared.refusal.Refusal.TheVariants.{Because, NoMemory}
use Rattle.value_core.specs.Datum.{Datum, Data, data_of}
use Rattle.value_core.specs.Datum as datum
use Rattle.value_core.specs.Order.{datum_cmp}
use Rattle.value_texts.specs.Spelling.{is_plain}
use Rattle.value_texts.specs.declared.brackets.Brackets.{Brackets}
use Rattle.value_texts.specs.declared.brackets.Brackets.TheVariants.{Square, Round, Curly, Pointed}
use Rattle.value_texts.specs.declared.fault.Misspelled.{Misspelled}

-- something and the text behind it, or none
abbrev pub Reads : Type 0 → Type 0
Reads X = Option (X × List ℕ)

infixl 10 ◌>>=◌
abbrev pub ◌>>=◌ : {A B : Type 0} → Option A → (A → Option B) → Option B
(Some x) >>= f = f x
None >>= f = None

-- what a function returned, seen by view, is what reading gives, unless memory ran out
abbrev pub Fails : {Y : Type 0} → Refusal Misspelled → Option Y → Type 0
Fails (Because cause) read = read ≡ None
Fails NoMemory read = Unit {0}

abbrev pub Gives : {X Y : Type 0} → (X → Y) → Result X (Refusal Misspelled) → Option Y → Type 0
Gives view (Ok x) read = read ≡ Some (view x)
Gives view (Err e) read = Fails e read

-- ---- words and numbers

-- the last, where there is one
abbrev pub last_of : {X : Type 0} → List X → Option X
last_of xs = slice_get xs (length xs - 1)

-- whether this byte begins the text
abbrev pub begins : ℕ → List ℕ → Bool
begins sign [] = false
begins sign (c ∷ text) = c == sign

-- the text behind this byte
unfoldable pub sign_at : ℕ → List ℕ → Option (List ℕ)
sign_at sign [] = None
sign_at sign (c ∷ text) = if c == sign then Some text else None

-- the text behind these bytes
unfoldable pub word_at : List ℕ → List ℕ → Option (List ℕ)
word_at [] text = Some text
word_at (c ∷ word) text = sign_at c text >>= λ rest. word_at word rest

-- a 0 in front of other digits
abbrev pub has_leading_zero : List ℕ → Bool
has_leading_zero digits = nat_lt 1 (length digits) && (get_or digits 0 0 == 48)

-- the number of 64 bits that digits write without leading zeros
unfoldable pub numeral_of : List ℕ → Option ℕ
numeral_of digits =
    if has_leading_zero digits then None
    else (if nat_lt 0 (length digits) && nat_lt (digits_value 10 digits) (2 ^ 64) then Some (digits_value 10 digits) else None)

-- the number that all digits in front write
unfoldable pub natural_at : List ℕ → Reads ℕ
natural_at text =
    numeral_of (take (prefix_len is_ascii_digit text) text) >>= λ n. Some (n, drop (prefix_len is_ascii_digit text) text)

-- the same, where it is below the limit
unfoldable pub natural_below : ℕ → List ℕ → Reads ℕ
natural_below limit text = natural_at text >>= λ n. if nat_lt n.0 limit then Some n else None

-- ---- values that have no parts

-- not below 0
unfoldable pub whole_at : List ℕ → Reads ℤ
whole_at text = natural_below (2 ^ 63) text >>= λ n. Some (pos n.0, n.1)

-- below 0, behind its sign
unfoldable pub negative_at : List ℕ → Reads ℤ
negative_at text = natural_at text >>= λ n. if nat_lt 0 n.0 && nat_le n.0 (2 ^ 63) then Some (negsuc (n.0 - 1), n.1) else None

-- an integer of 64 bits
unfoldable pub integer_at : List ℕ → Reads ℤ
integer_at text = if begins 45 text then negative_at (drop 1 text) else whole_at text

unfoldable pub int_at : List ℕ → Reads Datum
int_at text = integer_at text >>= λ z. Some (datum.int z.0, z.1)

unfoldable pub truth_at : Bool → List ℕ → List ℕ → Reads Datum
truth_at truth word text = word_at word text >>= λ rest. Some (datum.truth truth, rest)

unfoldable pub char_at : List ℕ → Reads Datum
char_at text = natural_below 128 text >>= λ n. Some (datum.char n.0, n.1)

unfoldable pub enumerated_at : List ℕ → Reads Datum
enumerated_at text = natural_below (2 ^ 16) text >>= λ n. Some (datum.enumerated n.0, n.1)

-- the process and the number of an object
unfoldable pub object_id_at : List ℕ → Reads ObjectId
object_id_at text = do
  p ← natural_below (2 ^ 16) text
  rest ← sign_at 46 p.1
  n ← natural_below (2 ^ 32) rest
  Some (record { process = p.0; number = n.0 }, n.1)

unfoldable pub object_at : List ℕ → Reads Datum
object_at text = object_id_at text >>= λ o. Some (datum.object o.0.process o.0.number, o.1)

-- ---- items up to a closing byte

-- one after the other, in at most so many turns; what an item may be rests on the one before it
unfoldable pub until_at : {X : Type 0} → (Option X → List ℕ → Reads X) → ℕ → ℕ → Option X → List ℕ → Reads (List X)
until_at item closing zero last text = None
until_at item closing (suc turns) last text =
    if begins closing text then Some ([], drop 1 text)
    else (item last text >>= λ first. until_at item closing turns (Some first.0) first.1 >>= λ others. Some (first.0 ∷ others.0, others.1))

-- the value of a hexadecimal digit in lower case
unfoldable pub hex_value : ℕ → Option ℕ
hex_value c = if nat_le 48 c && nat_le c 57 then Some (c - 48) else (if nat_le 97 c && nat_le c 102 then Some (c - 87) else None)

-- whether a character is written by its code
abbrev pub is_coded : ℕ → Bool
is_coded c = (nat_lt c 32 && not (c == 10) && not (c == 9)) || c == 127

-- a code of two digits
unfoldable pub code_at : List ℕ → Reads ℕ
code_at [] = None
code_at (high ∷ []) = None
code_at (high ∷ low ∷ text) = do
  h ← hex_value high
  l ← hex_value low
  if is_coded (16 * h + l) then Some (16 * h + l, text) else None

-- what stands behind a backslash
unfoldable pub escape_at : List ℕ → Reads ℕ
escape_at [] = None
escape_at (c ∷ text) =
    if c == 110 then Some (10, text)
    else (if c == 116 then Some (9, text)
    else (if c == 92 || c == 34 then Some (c, text)
    else (if c == 120 then code_at text else None)))

-- a character of a string
unfoldable pub character_at : List ℕ → Reads ℕ
character_at [] = None
character_at (c ∷ text) = if c == 92 then escape_at text else (if is_plain c then Some (c, text) else None)

unfoldable pub text_at : List ℕ → Reads Datum
text_at text = until_at (λ last. character_at) 34 (length text) None text >>= λ chars. Some (datum.text chars.0, chars.1)

-- ---- values with parts

-- the brackets that a byte opens, and the byte that closes them
unfoldable pub opened_by : ℕ → Option Brackets
opened_by c = if c == 91 then Some Square else (if c == 40 then Some Round else (if c == 123 then Some Curly else (if c == 60 then Some Pointed else None)))

abbrev pub closing : Brackets → ℕ
closing Square = 93
closing Round = 41
closing Curly = 125
closing Pointed = 62

-- what stands in them
abbrev pub within : Brackets → Data → Datum
within Square w = datum.array w
within Round w = datum.fields w
within Curly w = datum.set w
within Pointed w = datum.bag w

-- a set rises, a bag never falls, and in an array or a record any part may follow
abbrev pub may_follow : Brackets → Datum → Datum → Bool
may_follow Curly v w = is_lt (datum_cmp v w)
may_follow Pointed v w = not (is_lt (datum_cmp w v))
may_follow Square v w = true
may_follow Round v w = true

-- a part, behind a space where it isn't the first
unfoldable pub part_at : (List ℕ → Reads Datum) → Brackets → Option Datum → List ℕ → Reads Datum
part_at read brackets None text = read text
part_at read brackets (Some v) text = sign_at 32 text >>= λ rest. read rest >>= λ w. if may_follow brackets v w.0 then Some w else None

unfoldable pub list_at : (List ℕ → Reads Datum) → Brackets → List ℕ → Reads Datum
list_at read brackets text = until_at (part_at read brackets) (closing brackets) (length text) None text >>= λ parts. Some (within brackets (data_of parts.0), parts.1)

-- a list, or else an integer
unfoldable pub opened_at : (List ℕ → Reads Datum) → Option Brackets → List ℕ → Reads Datum
opened_at read (Some brackets) text = list_at read brackets (drop 1 text)
opened_at read None text = int_at text

-- a value by its first byte
unfoldable pub content_at : (List ℕ → Reads Datum) → ℕ → List ℕ → Reads Datum
content_at read first text =
    if first == 99 then char_at (drop 1 text)
    else (if first == 101 then enumerated_at (drop 1 text)
    else (if first == 111 then object_at (drop 1 text)
    else (if first == 34 then text_at (drop 1 text)
    else (if first == 116 then truth_at true (codes "true") text
    else (if first == 102 then truth_at false (codes "false") text
    else opened_at read (opened_by first) text)))))

unfoldable pub first_at : (List ℕ → Reads Datum) → List ℕ → Reads Datum
first_at read [] = None
first_at read (first ∷ text) = content_at read first (first ∷ text)

-- a value, where values may nest so many levels more
unfoldable pub value_at : ℕ → List ℕ → Reads Datum
value_at zero text = None
value_at (suc levels) text = first_at (value_at levels) text

-- values in round brackets
unfoldable pub values_at : List ℕ → Reads (List Datum)
values_at text = sign_at 40 text >>= λ rest. until_at (part_at (value_at VALUE_NESTING) Round) 41 (length rest) None rest
