-- How long spellings are.
use Rattle.std.proofs.Common.{◌≡◌, ℕ, ℤ, ◌+◌, List, [], ◌∷◌, Option, None, Some, length, map, refl, sym, ap, ◌∙◌, arith}
use Rattle.std.specs.Prelude.{sum}
use Rattle.std.specs.List.{flat_map}
use Rattle.std.proofs.lemmas.List.{length-append}
use Rattle.std.proofs.lemmas.List.Sums.{sum_by-cons}
use Rattle.orca_base.specs.declared.ids.ObjectId.{ObjectId}
use Rattle.value_core.specs.Datum.{Data}
use Rattle.value_core.specs.Lengths.{action_length, answer_length, message_length, place_length, told_length, values_length}
use Rattle.value_core.specs.View.{datum_of}
use Rattle.value_core.specs.declared.action.Action.{Action}
use Rattle.value_core.specs.declared.action.Action.TheVariants as action
use Rattle.value_core.specs.declared.action.Reply.{Reply}
use Rattle.value_core.specs.declared.action.Reply.TheVariants as answer
use Rattle.value_core.specs.declared.message.Message.{Message}
use Rattle.value_bytes.proofs.Facts.{spelled_length, spelled_lengths}
use Rattle.group_packets.specs.Packet.{packet_bytes, stopped}
use Rattle.group_packets.specs.declared.packet.Packet.{Packet}
use Rattle.group_packets.specs.declared.packet.Packet.TheVariants as packet
use Rattle.packet_bytes.specs.Spelling.{two, four, eight, object_spelling, place_spelling, arguments_spelling, action_spelling, message_spelling, messages_spelling, members_spelling, reply_spelling, packet_spelling}

two_long : (n : ℕ) → length (two n) ≡ 2
unfolding two
two_long n = refl

four_long : (n : ℕ) → length (four n) ≡ 4
unfolding four
four_long n = refl

eight_long : (n : ℕ) → length (eight n) ≡ 8
unfolding eight
eight_long n = refl

object_long : (object : ObjectId) → length (object_spelling object) ≡ 6
unfolding object_spelling
object_long object = simp (length-append, two_long, four_long) refl

place_long : (place : Option ℤ) → length (place_spelling place) ≡ place_length place
unfolding place_spelling
place_long None = refl
place_long (Some z) = simp eight_long refl

arguments_long : (w : Data) → length (arguments_spelling w) ≡ values_length w + 1
unfolding arguments_spelling
arguments_long w = omega (arith, spelled_lengths w)

action_long : (a : Action) → length (action_spelling a) ≡ action_length a
action_long (action.Make kind object) = simp (length-append, two_long, object_long) refl
action_long (action.Call kind op object args) = simp (length-append, two_long, object_long, arguments_long) (omega arith)
action_long (action.Fork text args place) = simp (length-append, two_long, place_long, arguments_long) (omega arith)
action_long action.Ended = refl
action_long (action.Faulted fault) = refl

pub message_long : (m : Message) → length (message_spelling m) ≡ message_length m
unfolding message_spelling
message_long m = simp (length-append, two_long, eight_long, action_long) (omega arith)

reply_long : (r : Reply) → length (reply_spelling r) ≡ answer_length r
unfolding reply_spelling
reply_long answer.Done = refl
reply_long (answer.Gave v) = omega (arith, spelled_length (datum_of v))
reply_long (answer.Broke fault) = refl

all_long : (ms : List Message) → length (flat_map message_spelling ms) ≡ sum (map message_length ms)
all_long [] = refl
all_long (m ∷ ms) =
    omega (arith, length-append (message_spelling m) (flat_map message_spelling ms), message_long m, all_long ms, sum_by-cons (λ (n : ℕ). n) (message_length m) (map message_length ms))

messages_long : (ms : List Message) → length (messages_spelling ms) ≡ 4 + sum (map message_length ms)
unfolding messages_spelling
messages_long ms = omega (arith, length-append (four (length ms)) (flat_map message_spelling ms), four_long (length ms), all_long ms)

members_long : (ms : List ℕ) → length (members_spelling ms) ≡ 1 + length ms
unfolding members_spelling
members_long ms = omega arith

pub packet_long : (p : Packet Message Reply) → length (packet_spelling p) ≡ packet_bytes message_length answer_length p
packet_long (packet.Request i applied m) = simp (length-append, eight_long, message_long) (omega arith)
packet_long (packet.Body i applied m) = simp (length-append, eight_long, message_long) (omega arith)
packet_long (packet.Order i number process call accepted stable) = simp (length-append, two_long, eight_long) refl
packet_long (packet.Entry i number accepted stable m) = simp (length-append, eight_long, message_long) (omega arith)
packet_long (packet.Ack i long applied) = simp (length-append, eight_long) refl
packet_long (packet.Accept i accepted stable) = simp (length-append, eight_long) refl
packet_long (packet.Nack i first applied whole) = simp (length-append, eight_long) refl
packet_long (packet.Status i long applied) = simp (length-append, eight_long) refl
packet_long (packet.Invite i) = simp eight_long refl
packet_long (packet.Join join) = simp (length-append, eight_long, messages_long) (omega arith)
packet_long (packet.Result news) = simp (length-append, eight_long, members_long, messages_long) (omega arith)
packet_long (packet.Ask i place m) = simp (length-append, eight_long, message_long) (omega arith)
packet_long (packet.Answer i place process call r) = simp (length-append, two_long, eight_long, reply_long) (omega arith)

-- ---- as 32 bits tell it

one_told : (k n : ℕ) → stopped (k + n) ≡ stopped (k + told_length n)
one_told k n = omega arith

all_told : (k : ℕ) (ms : List Message) → stopped (k + sum (map message_length ms)) ≡ stopped (k + sum (map (λ m. told_length (message_length m)) ms))
all_told k [] = refl
all_told k (m ∷ ms) =
    let n = message_length m in
    let rest = sum (map message_length ms) in
    let told = sum (map (λ (m : Message). told_length (message_length m)) ms) in
    let first : stopped (k + (n + rest)) ≡ stopped ((k + told_length n) + rest) = omega arith in
    let others : stopped ((k + told_length n) + rest) ≡ stopped ((k + told_length n) + told) = all_told (k + told_length n) ms in
    let last : (k + told_length n) + told ≡ k + (told_length n + told) = omega arith in
    ap (λ (s : ℕ). stopped (k + s)) (sum_by-cons (λ (x : ℕ). x) n (map message_length ms)) ∙ first ∙ others ∙ ap stopped last
    ∙ ap (λ (s : ℕ). stopped (k + s)) (sym (sum_by-cons (λ (x : ℕ). x) (told_length n) (map (λ (m : Message). told_length (message_length m)) ms)))

-- the bytes of a packet, where messages and replies have theirs as 32 bits tell it
abbrev bytes_told : Packet Message Reply → ℕ
bytes_told p = packet_bytes (λ m. told_length (message_length m)) (λ r. told_length (answer_length r)) p

bytes_as_told : (p : Packet Message Reply) → stopped (packet_bytes message_length answer_length p) ≡ stopped (bytes_told p)
bytes_as_told (packet.Request i applied m) = one_told 17 (message_length m)
bytes_as_told (packet.Body i applied m) = one_told 17 (message_length m)
bytes_as_told (packet.Order i number process call accepted stable) = refl
bytes_as_told (packet.Entry i number accepted stable m) = one_told 33 (message_length m)
bytes_as_told (packet.Ack i long applied) = refl
bytes_as_told (packet.Accept i accepted stable) = refl
bytes_as_told (packet.Nack i first applied whole) = refl
bytes_as_told (packet.Status i long applied) = refl
bytes_as_told (packet.Invite i) = refl
bytes_as_told (packet.Join join) = all_told 45 join.messages
bytes_as_told (packet.Result news) = all_told (26 + length news.members + 4) news.messages
bytes_as_told (packet.Ask i place m) = one_told 17 (message_length m)
bytes_as_told (packet.Answer i place process call r) = one_told 27 (answer_length r)

pub packet_told : (p : Packet Message Reply) → stopped (length (packet_spelling p)) ≡ stopped (bytes_told p)
packet_told p = ap stopped (packet_long p) ∙ bytes_as_told p
