-- The lines of a text, the words of a line, and what single words stand for: docs/RUNTIME.md, Fault scripts.
use Rattle.std.specs.Prelude.{ℕ, ◌-◌, ◌^◌, ◌&&◌, ◌==◌, nat_lt, nat_le, List, [], ◌∷◌, length, Option, Some, None, codes, option_and_then, if◌then◌else◌}
use Rattle.std.specs.Char.{is_ascii_digit}
use Rattle.std.specs.List.{filter, list_all, slice_split}
use Rattle.std.specs.Option.{option_map}
use Rattle.std.specs.Str.{bytes_eq}
use Rattle.std.specs.Str.Parse.{digits_value}
use Rattle.group_packets.specs.declared.packet.PacketKind.TheVariants.{Request, Body, Order, Entry, Ack, Accept, Nack, Status, Invite, Join, Result, Ask, Answer}
use Rattle.net_rules.specs.declared.line.Kinds.{Kinds}
use Rattle.net_rules.specs.declared.line.Kinds.TheVariants.{Any, Only}
use Rattle.net_rules.specs.declared.line.Which.{Which}
use Rattle.net_rules.specs.declared.line.Which.TheVariants.{All, Nth}
use Rattle.fault_scripts.specs.declared.words.Verb.{Verb}
use Rattle.fault_scripts.specs.declared.words.Verb.TheVariants as verb

-- the lines of a text: what stands between its line feeds
abbrev pub lines_of : List ℕ → List (List ℕ)
lines_of text = slice_split (λ c. c == 10) text

-- the words of a line: what stands between its spaces, where anything does
abbrev pub words_of : List ℕ → List (List ℕ)
words_of line = filter (λ word. nat_lt 0 (length word)) (slice_split (λ c. c == 32) line)

-- what a word stands for in a table
abbrev pub entry_of : {X : Type 0} → List (List ℕ × X) → List ℕ → Option X
entry_of [] word = None
entry_of (e ∷ es) word = if bytes_eq e.0 word then Some e.1 else entry_of es word

-- the words that lines begin with
abbrev pub verbs : List (List ℕ × Verb)
verbs =
    (codes "drop", verb.Drop) ∷
    (codes "twice", verb.Twice) ∷
    (codes "hold", verb.Hold) ∷
    (codes "cut", verb.Cut) ∷
    (codes "crash", verb.Crash) ∷
    (codes "suspect", verb.Suspect) ∷
    (codes "swap", verb.Swap) ∷
    (codes "seed", verb.Seed) ∷ []

unfoldable pub verb_of : List ℕ → Option Verb
verb_of word = entry_of verbs word

-- the words for kinds of packets
abbrev pub kind_words : List (List ℕ × Kinds)
kind_words =
    (codes "request", Only Request) ∷
    (codes "body", Only Body) ∷
    (codes "order", Only Order) ∷
    (codes "entry", Only Entry) ∷
    (codes "ack", Only Ack) ∷
    (codes "accept", Only Accept) ∷
    (codes "nack", Only Nack) ∷
    (codes "status", Only Status) ∷
    (codes "invite", Only Invite) ∷
    (codes "join", Only Join) ∷
    (codes "result", Only Result) ∷
    (codes "ask", Only Ask) ∷
    (codes "answer", Only Answer) ∷
    (codes "any", Any) ∷ []

unfoldable pub kinds_of : List ℕ → Option Kinds
kinds_of word = entry_of kind_words word

-- the number that 1 to 19 decimal digits write
unfoldable pub number_of : List ℕ → Option ℕ
number_of word =
    if nat_lt 0 (length word) && nat_le (length word) 19 && list_all is_ascii_digit word then Some (digits_value 10 word) else None

-- the same, where it is in the range
unfoldable pub number_in : ℕ → ℕ → List ℕ → Option ℕ
number_in least most word = option_and_then (λ n. if nat_le least n && nat_le n most then Some n else None) (number_of word)

-- a packet's number among those of its kinds: at least 1, and of 19 digits at most
abbrev pub GREATEST : ℕ
GREATEST = 9999999999999999999

abbrev pub packet_number : List ℕ → Option ℕ
packet_number word = number_in 1 GREATEST word

-- which packets: all, or the one with a number
unfoldable pub which_of : List ℕ → Option Which
which_of word = if bytes_eq (codes "all") word then Some All else option_map Nth (packet_number word)

-- a member, ticks, a length, a seed, a percentage
abbrev pub member_number : List ℕ → Option ℕ
member_number word = number_in 0 15 word

abbrev pub number_32 : List ℕ → Option ℕ
number_32 word = number_in 0 (2 ^ 32 - 1) word

abbrev pub seed_number : List ℕ → Option ℕ
seed_number word = number_in 0 (2 ^ 63 - 1) word

abbrev pub percentage : List ℕ → Option ℕ
percentage word = number_in 0 100 word
