-- Reading a line's words from the left, with the first word that is wrong or missing.
use Rattle.std.specs.Prelude.{◌≡◌, ℕ, ◌+◌, Bool, false, not, ◌||◌, List, [], ◌∷◌, Option, Some, None, Result, Ok, Err, if◌then◌else◌}
use Rattle.std.specs.List.{cons_option}
use Rattle.std.specs.Str.{is_utf8}
use Rattle.orca_base.specs.declared.refusal.Refusal.{Refusal}
use Rattle.orca_base.specs.declared.refusal.Refusal.TheVariants.{Because, NoMemory}
use Rattle.net_rules.specs.declared.fate.Fate.TheVariants as fate
use Rattle.net_rules.specs.declared.fate.Fate.{Fate as PacketFate}
use Rattle.net_rules.specs.declared.fate.WireAct.TheVariants as act
use Rattle.net_rules.specs.declared.line.Kinds.{Kinds}
use Rattle.net_rules.specs.declared.line.Which.{Which}
use Rattle.net_rules.specs.declared.line.ScriptLine.{ScriptLine}
use Rattle.net_rules.specs.declared.line.ScriptLine.TheVariants.{Fate, Act, Seed}
use Rattle.fault_scripts.specs.declared.error.ScriptError.{ScriptError}
use Rattle.fault_scripts.specs.declared.error.ScriptError.TheVariants.{UnknownWord, BadNumber}
use Rattle.fault_scripts.specs.declared.words.Verb.{Verb}
use Rattle.fault_scripts.specs.declared.words.Verb.TheVariants as verb
use Rattle.fault_scripts.specs.Words.{lines_of, words_of, verb_of, kinds_of, which_of, packet_number, member_number, number_32, seed_number, percentage}
use Rattle.fault_scripts.specs.Says.{speaks, is_seed}

-- something and the words behind it, or the error
abbrev pub Reads : Type 0 → Type 0
Reads X = Result (X × List (List ℕ)) ScriptError

infixl 10 ◌>>=◌
abbrev pub ◌>>=◌ : {A B : Type 0} → Result A ScriptError → (A → Result B ScriptError) → Result B ScriptError
(Ok x) >>= f = f x
(Err e) >>= f = Err e

-- what a word stands for, where it stands for anything
abbrev pub meant : {X : Type 0} → ScriptError → Option X → List (List ℕ) → Reads X
meant error None words = Err error
meant error (Some x) words = Ok (x, words)

-- what the next word stands for; the error where it is wrong or missing
unfoldable pub next : {X : Type 0} → (List ℕ → Option X) → ScriptError → List (List ℕ) → Reads X
next read error [] = Err error
next read error (word ∷ words) = meant error (read word) words

-- no word is left
unfoldable pub over : ℕ → List (List ℕ) → Result (Unit {0}) ScriptError
over number [] = Ok tt
over number (word ∷ words) = Err (UnknownWord number)

-- kinds, and which packets of these
unfoldable pub packets_at : ℕ → List (List ℕ) → Reads (Kinds × Which)
packets_at number words = do
  kinds ← next kinds_of (UnknownWord number) words
  which ← next which_of (BadNumber number) kinds.1
  Ok ((kinds.0, which.0), which.1)

-- kinds, and how many packets of these
unfoldable pub count_at : ℕ → List (List ℕ) → Reads (Kinds × ℕ)
count_at number words = do
  kinds ← next kinds_of (UnknownWord number) words
  count ← next packet_number (BadNumber number) kinds.1
  Ok ((kinds.0, count.0), count.1)

-- behind `drop` and `twice`
unfoldable pub fate_line : ℕ → PacketFate → List (List ℕ) → Result ScriptLine ScriptError
fate_line number said words = do
  packets ← packets_at number words
  end ← over number packets.1
  Ok (Fate packets.0.0 packets.0.1 said)

-- behind `hold` and `cut`: which packets, and a number
unfoldable pub sized_at : ℕ → List (List ℕ) → Result (Kinds × Which × ℕ) ScriptError
sized_at number words = do
  packets ← packets_at number words
  size ← next number_32 (BadNumber number) packets.1
  end ← over number size.1
  Ok (packets.0.0, packets.0.1, size.0)

-- behind `crash` and `suspect`: a member, and how many packets
unfoldable pub member_at : ℕ → List (List ℕ) → Result (ℕ × Kinds × ℕ) ScriptError
member_at number words = do
  node ← next member_number (BadNumber number) words
  count ← count_at number node.1
  end ← over number count.1
  Ok (node.0, count.0.0, count.0.1)

-- behind `swap`
unfoldable pub swap_line : ℕ → List (List ℕ) → Result ScriptLine ScriptError
swap_line number words = do
  count ← count_at number words
  end ← over number count.1
  Ok (Act count.0.0 count.0.1 act.Swap)

-- behind `seed`
unfoldable pub seed_line : ℕ → List (List ℕ) → Result ScriptLine ScriptError
seed_line number words = do
  seed ← next seed_number (BadNumber number) words
  percent ← next percentage (BadNumber number) seed.1
  end ← over number percent.1
  Ok (Seed seed.0 percent.0)

-- behind a verb. Where a line of random words stands already, `seed` begins no line
abbrev pub behind_verb : Bool → ℕ → Verb → List (List ℕ) → Result ScriptLine ScriptError
behind_verb seeded number verb.Drop words = fate_line number fate.Drop words
behind_verb seeded number verb.Twice words = fate_line number fate.Twice words
behind_verb seeded number verb.Hold words = sized_at number words >>= λ x. Ok (Fate x.0 x.1 (fate.Hold x.2))
behind_verb seeded number verb.Cut words = sized_at number words >>= λ x. Ok (Fate x.0 x.1 (fate.Cut x.2))
behind_verb seeded number verb.Crash words = member_at number words >>= λ x. Ok (Act x.1 x.2 (act.Crash x.0))
behind_verb seeded number verb.Suspect words = member_at number words >>= λ x. Ok (Act x.1 x.2 (act.Suspect x.0))
behind_verb seeded number verb.Swap words = swap_line number words
behind_verb seeded number verb.Seed words = if seeded then Err (UnknownWord number) else seed_line number words

-- what a line's words say
unfoldable pub said_at : Bool → ℕ → List (List ℕ) → Result ScriptLine ScriptError
said_at seeded number words = do
  first ← next verb_of (UnknownWord number) words
  behind_verb seeded number first.0 first.1

-- what the line of this number says, if anything
unfoldable pub line_at : Bool → ℕ → List ℕ → Result (Option ScriptLine) ScriptError
line_at seeded number line =
    if not (is_utf8 line) then Err (UnknownWord number)
    else (if speaks line then (said_at seeded number (words_of line) >>= λ said. Ok (Some said)) else Ok None)

-- whether a line of random words stands by then
abbrev pub seeded_by : Bool → Option ScriptLine → Bool
seeded_by seeded None = seeded
seeded_by seeded (Some said) = seeded || is_seed said

-- what lines say that come from this number on, or the first error
unfoldable pub lines_at : Bool → ℕ → List (List ℕ) → Result (List ScriptLine) ScriptError
lines_at seeded number [] = Ok []
lines_at seeded number (line ∷ lines) = do
  first ← line_at seeded number line
  others ← lines_at (seeded_by seeded first) (number + 1) lines
  Ok (cons_option first others)

-- what a text says, or its first error
unfoldable pub script_at : List ℕ → Result (List ScriptLine) ScriptError
script_at text = lines_at false 1 (lines_of text)

-- what a function returned, seen by this, is what reading gives
abbrev pub Gives : {X Y : Type 0} → (X → Y) → Result X ScriptError → Result Y ScriptError → Type 0
Gives view (Ok x) read = read ≡ Ok (view x)
Gives view (Err error) read = read ≡ Err error

-- the same, unless memory ran out
abbrev pub Answers : {X Y : Type 0} → (X → Y) → Result X (Refusal ScriptError) → Result Y ScriptError → Type 0
Answers view (Ok x) read = read ≡ Ok (view x)
Answers view (Err (Because cause)) read = read ≡ Err cause
Answers view (Err NoMemory) read = Unit {0}
