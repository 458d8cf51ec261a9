-- What lines say: each form of a line, word by word (docs/RUNTIME.md, Fault scripts).
use Rattle.std.specs.Prelude.{◌≡◌, ℕ, ◌≤◌, Bool, true, false, not, ◌==◌, List, [], ◌∷◌, Some, count_by}
use Rattle.std.specs.List.{AllByRecursion, filter}
use Rattle.std.specs.Str.{IsUtf8}
use Rattle.net_rules.specs.declared.fate.Fate.TheVariants.{Pass, Drop, Twice, Hold, Cut}
use Rattle.net_rules.specs.declared.fate.WireAct.TheVariants.{Crash, Suspect, Swap}
use Rattle.net_rules.specs.declared.line.Kinds.{Kinds}
use Rattle.net_rules.specs.declared.line.Which.{Which}
use Rattle.net_rules.specs.declared.line.ScriptLine.{ScriptLine}
use Rattle.net_rules.specs.declared.line.ScriptLine.TheVariants.{Fate, Act, Seed}
use Rattle.fault_scripts.specs.declared.words.Verb.{Verb}
use Rattle.fault_scripts.specs.declared.words.Verb.TheVariants as verb
use Rattle.fault_scripts.specs.Words.{lines_of, words_of, verb_of, kinds_of, which_of, packet_number, member_number, number_32, seed_number, percentage}

-- a verb, kinds, and which packets of these; then come these words
abbrev pub SaysFate : Verb → Kinds → Which → List (List ℕ) → List (List ℕ) → Type 0
SaysFate v kinds which more words = (w k n : List ℕ) × (words ≡ w ∷ k ∷ n ∷ more) ×
    (verb_of w ≡ Some v) × (kinds_of k ≡ Some kinds) × (which_of n ≡ Some which)

-- the same, and behind it a number
abbrev pub SaysFateWith : Verb → Kinds → Which → ℕ → List (List ℕ) → Type 0
SaysFateWith v kinds which number words = (m : List ℕ) × SaysFate v kinds which (m ∷ []) words × (number_32 m ≡ Some number)

-- a verb, a member, kinds, and how many packets of these
abbrev pub SaysOfMember : Verb → ℕ → Kinds → ℕ → List (List ℕ) → Type 0
SaysOfMember v node kinds number words = (w m k n : List ℕ) × (words ≡ w ∷ m ∷ k ∷ n ∷ []) ×
    (verb_of w ≡ Some v) × (member_number m ≡ Some node) × (kinds_of k ≡ Some kinds) × (packet_number n ≡ Some number)

-- `swap`, kinds, and how many packets of these
abbrev pub SaysSwap : Kinds → ℕ → List (List ℕ) → Type 0
SaysSwap kinds number words = (w k n : List ℕ) × (words ≡ w ∷ k ∷ n ∷ []) ×
    (verb_of w ≡ Some verb.Swap) × (kinds_of k ≡ Some kinds) × (packet_number n ≡ Some number)

-- `seed`, a seed, and a percentage
abbrev pub SaysSeed : ℕ → ℕ → List (List ℕ) → Type 0
SaysSeed seed percent words = (w s p : List ℕ) × (words ≡ w ∷ s ∷ p ∷ []) ×
    (verb_of w ≡ Some verb.Seed) × (seed_number s ≡ Some seed) × (percentage p ≡ Some percent)

-- these words say this
abbrev pub Says : List (List ℕ) → ScriptLine → Type 0
Says words (Fate kinds which Pass) = ⊥
Says words (Fate kinds which Drop) = SaysFate verb.Drop kinds which [] words
Says words (Fate kinds which Twice) = SaysFate verb.Twice kinds which [] words
Says words (Fate kinds which (Hold ticks)) = SaysFateWith verb.Hold kinds which ticks words
Says words (Fate kinds which (Cut length)) = SaysFateWith verb.Cut kinds which length words
Says words (Act kinds number (Crash node)) = SaysOfMember verb.Crash node kinds number words
Says words (Act kinds number (Suspect node)) = SaysOfMember verb.Suspect node kinds number words
Says words (Act kinds number Swap) = SaysSwap kinds number words
Says words (Seed seed percent) = SaysSeed seed percent words

-- the line says something: it isn't empty, and doesn't begin with `#`
abbrev pub speaks : List ℕ → Bool
speaks [] = false
speaks (c ∷ cs) = not (c == 35)

-- the lines say these, one each
abbrev pub SayAll : List (List ℕ) → List ScriptLine → Type 0
SayAll [] [] = Unit {0}
SayAll [] (one ∷ said) = ⊥
SayAll (line ∷ lines) [] = ⊥
SayAll (line ∷ lines) (one ∷ said) = Says (words_of line) one × SayAll lines said

-- a line of random words
abbrev pub is_seed : ScriptLine → Bool
is_seed (Fate kinds which fate) = false
is_seed (Act kinds number act) = false
is_seed (Seed seed percent) = true

-- lines say these: each is UTF-8, those that say something say them, one after the other, and one is a seed at most
pub record AreSaid (lines : List (List ℕ)) (said : List ScriptLine) : Type 0 where
  pub utf8 : AllByRecursion IsUtf8 lines
  pub each : SayAll (filter speaks lines) said
  pub seeds : count_by is_seed said ≤ 1

-- a text is a script that says these
abbrev pub IsScript : List ℕ → List ScriptLine → Type 0
IsScript text said = AreSaid (lines_of text) said
