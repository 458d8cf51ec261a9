-- Packets: what is read is sound and spelled so, and what is sound and spelled so is read.
use Rattle.std.proofs.Common.{◌≡◌, ℕ, zero, suc, ◌+◌, ◌<◌, ◌≤◌, Bool, true, false, cond, eqb, leb, List, [], ◌∷◌, ◌++◌, length, get_or, Option, Some, None, Ok, Err, refl, sym, ap, subst, ◌∙◌, append_assoc, arith, inl, inr}
use Rattle.std.specs.Prelude.{◌&&◌}
use Rattle.std.specs.List.{AllByRecursion}
use Rattle.std.specs.List.Sorted.{IsStrictlyIncreasing}
use Rattle.std.specs.Int.{w16, w64}
use Rattle.std.proofs.lemmas.Bool.{ltb-true, lt-ltb, leb-true}
use Rattle.std.proofs.lemmas.List.Elements.{All-from_recursion, recursion_from_All}
use Rattle.orca_base.specs.declared.ids.ProcessNo.{ProcessNo}
use Rattle.orca_base.specs.declared.ids.CallNo.{CallNo}
use Rattle.orca_base.specs.declared.limits.TheConstants.{NODES}
use Rattle.value_core.specs.Sound.{IsSoundReply}
use Rattle.value_core.specs.declared.action.Reply.{Reply}
use Rattle.value_core.specs.declared.message.Message.{Message}
use Rattle.value_bytes.specs.declared.fault.ValueError.TheVariants as fault
use Rattle.value_bytes.specs.Reading.{Reads, number_at, byte_at, items_at}
use Rattle.value_bytes.proofs.Fields.{IsBytes-rest, byte_again}
use Rattle.value_bytes.proofs.Items.{Follow, joined, Spells, items_take, items_again}
use Rattle.value_bytes.proofs.Values.{one, joined-chars, one_bit, chosen, both_hold}
use Rattle.group_packets.specs.Sound.{AreMembers, AreSoundEntries}
use Rattle.group_packets.specs.declared.packet.Packet.{Packet}
use Rattle.group_packets.specs.declared.packet.Join.{Join}
use Rattle.group_packets.specs.declared.packet.News.{News}
use Rattle.group_packets.specs.declared.packet.Packet.TheVariants as packet
use Rattle.packet_bytes.specs.Reading.{members_at, rises, message_at, messages_at, reply_at, request_at, body_at, order_at, entry_at, ack_at, accept_at, nack_at, status_at, join_at, result_at, ask_at, answer_at, fields_at, content_at}
use Rattle.packet_bytes.specs.Sound.{Fits2, Fits8, IsMessage, IsPacket}
use Rattle.packet_bytes.specs.Spelling.{two, eight, message_spelling, messages_spelling, members_spelling, reply_spelling, truth_byte, packet_spelling}
use Rattle.packet_bytes.proofs.Chains.{Behind, field, done, Again}
use Rattle.packet_bytes.proofs.Pieces.{two_takes, eight_takes, byte_taken, two_again, eight_again}
use Rattle.packet_bytes.proofs.MessageLaws.{message_takes, message_again, messages_takes, messages_again, reply_takes, reply_again}

-- ---- members

increasing : (last : Option ℕ) (ms : List ℕ) → Follow rises last ms → IsStrictlyIncreasing ms
increasing last [] follow k lt = absurd (omega (arith, lt))
increasing last (m ∷ []) follow k lt = absurd (omega (arith, lt))
increasing last (m ∷ n ∷ ms) follow zero lt = ltb-true m n follow.1.0
increasing last (m ∷ n ∷ ms) follow (suc k) lt =
    let e : suc k + 1 ≡ suc (k + 1) = omega arith in
    rw e (increasing (Some m) (n ∷ ms) follow.1 k (omega (arith, lt)))

one_on : (k : ℕ) → suc k + 1 ≡ suc (k + 1)
one_on k = omega arith

tail_increasing : (m : ℕ) (ms : List ℕ) → IsStrictlyIncreasing (m ∷ ms) → IsStrictlyIncreasing ms
tail_increasing m ms up k lt = subst (λ (i : ℕ). get_or (m ∷ ms) (suc k) 0 < get_or (m ∷ ms) i 0) (one_on k) (up (suc k) (omega (arith, lt)))

follows_after : (m : ℕ) (ms : List ℕ) → IsStrictlyIncreasing (m ∷ ms) → Follow rises (Some m) ms
follows_after m [] up = tt
follows_after m (n ∷ ms) up = (lt-ltb m n (up 0 (omega arith)), follows_after n ms (tail_increasing m (n ∷ ms) up))

follows : (ms : List ℕ) → IsStrictlyIncreasing ms → Follow rises None ms
follows [] up = tt
follows (m ∷ ms) up = (refl, follows_after m ms up)

at_most : (ms : List ℕ) → AllByRecursion (λ b. b ≤ 15) ms → AllByRecursion (λ m. m < NODES) ms
at_most [] each = tt
at_most (m ∷ ms) each = (omega (arith, each.0), at_most ms each.1)

below : (ms : List ℕ) → AllByRecursion (λ m. m < NODES) ms → AllByRecursion (λ b. b ≤ 15) ms
below [] each = tt
below (m ∷ ms) each = (omega (arith, each.0), below ms each.1)

-- members that rise from here on are few
few_after : (m : ℕ) (ms : List ℕ) → m ≤ 15 → Follow rises (Some m) ms → AllByRecursion (λ b. b ≤ 15) ms → m + length ms ≤ 15
few_after m [] le follow each = omega (arith, le)
few_after m (n ∷ ms) le follow each = omega (arith, ltb-true m n follow.0, few_after n ms each.0 follow.1 each.1)

few : (ms : List ℕ) → Follow rises None ms → AllByRecursion (λ b. b ≤ 15) ms → length ms ≤ 16
few [] follow each = omega arith
few (m ∷ ms) follow each = omega (arith, few_after m ms each.0 follow.1 each.1)

pub few_members : (ms : List ℕ) → AreMembers ms → length ms ≤ 16
few_members ms are = few ms (follows ms are.0) (below ms (recursion_from_All (λ m. m < NODES) ms are.1))

pub members_takes : (end : ℕ) → Spells (members_at end) members_spelling AreMembers
unfolding members_at members_spelling
members_takes end =
    field [] (byte_at 255 end) one (λ b. b ≤ 255) _ _ _ (byte_taken 255 end) (λ n le bytes x fits e.
    let r = items_take (byte_at 15 end) one (λ b. b ≤ 15) rises end (byte_taken 15 end) n None bytes x fits e in
    let text : length x.0 ∷ x.0 ≡ n ∷ joined one x.0 = ap (λ (k : ℕ). k ∷ x.0) r.many ∙ ap (λ (t : List ℕ). n ∷ t) (sym (joined-chars x.0)) in (
      record { parts = ap (λ (t : List ℕ). n ∷ t) r.takes.parts ∙ ap (λ (t : List ℕ). t ++ x.1) (sym text); rest_fits = r.takes.rest_fits },
      (increasing None x.0 r.follow, All-from_recursion (λ m. m < NODES) x.0 (at_most x.0 r.each)),
    ))

pub members_again : (end : ℕ) (ms : List ℕ) → AreMembers ms → Again (members_at end) (members_spelling ms) ms
unfolding members_at members_spelling
members_again end ms are rest =
    let each = below ms (recursion_from_All (λ m. m < NODES) ms are.1) in
    let items : items_at (byte_at 15 end) rises end (length ms) None (ms ++ rest) ≡ Ok (ms, rest) =
    ap (λ (s : List ℕ). items_at (byte_at 15 end) rises end (length ms) None (s ++ rest)) (sym (joined-chars ms))
    ∙ items_again (byte_at 15 end) one (λ b. b ≤ 15) rises end (λ b more le. byte_again 15 end b more le) ms None rest each (follows ms are.0) in
    rw (byte_again 255 end (length ms) (ms ++ rest) (omega (arith, few_members ms are)), items) refl

-- ---- each kind that is read

abbrev head : ℕ → ℕ → List ℕ
head tag incarnation = tag ∷ eight incarnation

-- what is read behind the incarnation of a packet with this tag
abbrev Kind : ℕ → (ℕ → ℕ → List ℕ → Reads (Packet Message Reply)) → Type 0
Kind tag read = (end incarnation : ℕ) → Fits8 incarnation → Behind (head tag incarnation) (read end incarnation) packet_spelling IsPacket

request_takes : Kind 1 request_at
unfolding request_at
request_takes end i is =
    field (head 1 i) (number_at w64 end) eight Fits8 _ _ _ (eight_takes end) (λ applied a.
    field (head 1 i ++ eight applied) (message_at end) message_spelling IsMessage _ _ _ (message_takes end) (λ m sound.
    done ((head 1 i ++ eight applied) ++ message_spelling m) (packet.Request i applied m) _ _ refl (record { sound = sound; fits = (is, a) })))

body_takes : Kind 2 body_at
unfolding body_at
body_takes end i is =
    field (head 2 i) (number_at w64 end) eight Fits8 _ _ _ (eight_takes end) (λ applied a.
    field (head 2 i ++ eight applied) (message_at end) message_spelling IsMessage _ _ _ (message_takes end) (λ m sound.
    done ((head 2 i ++ eight applied) ++ message_spelling m) (packet.Body i applied m) _ _ refl (record { sound = sound; fits = (is, a) })))

order_takes : Kind 3 order_at
unfolding order_at
order_takes end i is =
    field (head 3 i) (number_at w64 end) eight Fits8 _ _ _ (eight_takes end) (λ number n.
    field (head 3 i ++ eight number) (number_at w16 end) two Fits2 _ _ _ (two_takes end) (λ process p.
    field ((head 3 i ++ eight number) ++ two process) (number_at w64 end) eight Fits8 _ _ _ (eight_takes end) (λ call c.
    field (((head 3 i ++ eight number) ++ two process) ++ eight call) (number_at w64 end) eight Fits8 _ _ _ (eight_takes end) (λ accepted a.
    field ((((head 3 i ++ eight number) ++ two process) ++ eight call) ++ eight accepted) (number_at w64 end) eight Fits8 _ _ _ (eight_takes end) (λ stable s.
    done (((((head 3 i ++ eight number) ++ two process) ++ eight call) ++ eight accepted) ++ eight stable) (packet.Order i number (record { 0 = process }) (record { 0 = call }) accepted stable) _ _ refl
    (record { sound = tt; fits = (is, n, p, c, a, s) }))))))

entry_takes : Kind 4 entry_at
unfolding entry_at
entry_takes end i is =
    field (head 4 i) (number_at w64 end) eight Fits8 _ _ _ (eight_takes end) (λ number n.
    field (head 4 i ++ eight number) (number_at w64 end) eight Fits8 _ _ _ (eight_takes end) (λ accepted a.
    field ((head 4 i ++ eight number) ++ eight accepted) (number_at w64 end) eight Fits8 _ _ _ (eight_takes end) (λ stable s.
    field (((head 4 i ++ eight number) ++ eight accepted) ++ eight stable) (message_at end) message_spelling IsMessage _ _ _ (message_takes end) (λ m sound.
    done ((((head 4 i ++ eight number) ++ eight accepted) ++ eight stable) ++ message_spelling m) (packet.Entry i number accepted stable m) _ _ refl (record { sound = sound; fits = (is, n, a, s) })))))

ack_takes : Kind 5 ack_at
unfolding ack_at
ack_takes end i is =
    field (head 5 i) (number_at w64 end) eight Fits8 _ _ _ (eight_takes end) (λ long l.
    field (head 5 i ++ eight long) (number_at w64 end) eight Fits8 _ _ _ (eight_takes end) (λ applied a.
    done ((head 5 i ++ eight long) ++ eight applied) (packet.Ack i long applied) _ _ refl (record { sound = tt; fits = (is, l, a) })))

accept_takes : Kind 6 accept_at
unfolding accept_at
accept_takes end i is =
    field (head 6 i) (number_at w64 end) eight Fits8 _ _ _ (eight_takes end) (λ accepted a.
    field (head 6 i ++ eight accepted) (number_at w64 end) eight Fits8 _ _ _ (eight_takes end) (λ stable s.
    done ((head 6 i ++ eight accepted) ++ eight stable) (packet.Accept i accepted stable) _ _ refl (record { sound = tt; fits = (is, a, s) })))

nack_takes : Kind 7 nack_at
unfolding nack_at
nack_takes end i is =
    field (head 7 i) (number_at w64 end) eight Fits8 _ _ _ (eight_takes end) (λ first f.
    field (head 7 i ++ eight first) (number_at w64 end) eight Fits8 _ _ _ (eight_takes end) (λ applied a.
    field ((head 7 i ++ eight first) ++ eight applied) (byte_at 1 end) one (λ b. b ≤ 1) _ _ _ (byte_taken 1 end) (λ whole le.
    done (((head 7 i ++ eight first) ++ eight applied) ++ one whole) (packet.Nack i first applied (eqb whole 1)) _ _
    (ap (λ (b : ℕ). ((head 7 i ++ eight first) ++ eight applied) ++ one b) (one_bit whole le)) (record { sound = tt; fits = (is, f, a) }))))

status_takes : Kind 8 status_at
unfolding status_at
status_takes end i is =
    field (head 8 i) (number_at w64 end) eight Fits8 _ _ _ (eight_takes end) (λ long l.
    field (head 8 i ++ eight long) (number_at w64 end) eight Fits8 _ _ _ (eight_takes end) (λ applied a.
    done ((head 8 i ++ eight long) ++ eight applied) (packet.Status i long applied) _ _ refl (record { sound = tt; fits = (is, l, a) })))

invite_takes : Kind 9 (λ end incarnation bytes. Ok (packet.Invite incarnation, bytes))
invite_takes end i is = done (head 9 i) (packet.Invite i) _ _ refl (record { sound = tt; fits = is })

join_takes : Kind 10 join_at
unfolding join_at
join_takes end i is =
    field (head 10 i) (number_at w64 end) eight Fits8 _ _ _ (eight_takes end) (λ installed n.
    field (head 10 i ++ eight installed) (number_at w64 end) eight Fits8 _ _ _ (eight_takes end) (λ accepted a.
    field ((head 10 i ++ eight installed) ++ eight accepted) (number_at w64 end) eight Fits8 _ _ _ (eight_takes end) (λ applied p.
    field (((head 10 i ++ eight installed) ++ eight accepted) ++ eight applied) (number_at w64 end) eight Fits8 _ _ _ (eight_takes end) (λ base b.
    field ((((head 10 i ++ eight installed) ++ eight accepted) ++ eight applied) ++ eight base) (messages_at end) messages_spelling (AreSoundEntries IsMessage) _ _ _ (messages_takes end) (λ ms sound.
    done (((((head 10 i ++ eight installed) ++ eight accepted) ++ eight applied) ++ eight base) ++ messages_spelling ms)
    (packet.Join (record { incarnation = i; installed = installed; accepted = accepted; applied = applied; base = base; messages = ms })) _ _ refl (record { sound = sound; fits = (is, n, a, p, b) }))))))

result_takes : Kind 11 result_at
unfolding result_at
result_takes end i is =
    field (head 11 i) (number_at w64 end) eight Fits8 _ _ _ (eight_takes end) (λ accepted a.
    field (head 11 i ++ eight accepted) (number_at w64 end) eight Fits8 _ _ _ (eight_takes end) (λ base b.
    field ((head 11 i ++ eight accepted) ++ eight base) (members_at end) members_spelling AreMembers _ _ _ (members_takes end) (λ members are.
    field (((head 11 i ++ eight accepted) ++ eight base) ++ members_spelling members) (messages_at end) messages_spelling (AreSoundEntries IsMessage) _ _ _ (messages_takes end) (λ ms sound.
    done ((((head 11 i ++ eight accepted) ++ eight base) ++ members_spelling members) ++ messages_spelling ms)
    (packet.Result (record { incarnation = i; accepted = accepted; base = base; members = members; messages = ms })) _ _ refl (record { sound = (sound, are); fits = (is, a, b) })))))

ask_takes : Kind 12 ask_at
unfolding ask_at
ask_takes end i is =
    field (head 12 i) (number_at w64 end) eight Fits8 _ _ _ (eight_takes end) (λ place p.
    field (head 12 i ++ eight place) (message_at end) message_spelling IsMessage _ _ _ (message_takes end) (λ m sound.
    done ((head 12 i ++ eight place) ++ message_spelling m) (packet.Ask i place m) _ _ refl (record { sound = sound; fits = (is, p) })))

answer_takes : Kind 13 answer_at
unfolding answer_at
answer_takes end i is =
    field (head 13 i) (number_at w64 end) eight Fits8 _ _ _ (eight_takes end) (λ place l.
    field (head 13 i ++ eight place) (number_at w16 end) two Fits2 _ _ _ (two_takes end) (λ process p.
    field ((head 13 i ++ eight place) ++ two process) (number_at w64 end) eight Fits8 _ _ _ (eight_takes end) (λ call c.
    field (((head 13 i ++ eight place) ++ two process) ++ eight call) (reply_at end) reply_spelling IsSoundReply _ _ _ (reply_takes end) (λ r sound.
    done ((((head 13 i ++ eight place) ++ two process) ++ eight call) ++ reply_spelling r) (packet.Answer i place (record { 0 = process }) (record { 0 = call }) r) _ _ refl
    (record { sound = sound; fits = (is, l, p, c) })))))

-- ---- the kinds by their tags

fields_takes : (tag : ℕ) → 1 ≤ tag → tag ≤ 13 → Kind tag (fields_at tag)
unfolding fields_at
fields_takes zero low high = absurd (omega (arith, low))
fields_takes (suc zero) low high = request_takes
fields_takes (suc (suc zero)) low high = body_takes
fields_takes (suc (suc (suc zero))) low high = order_takes
fields_takes (suc (suc (suc (suc zero)))) low high = entry_takes
fields_takes (suc (suc (suc (suc (suc zero))))) low high = ack_takes
fields_takes (suc (suc (suc (suc (suc (suc zero)))))) low high = accept_takes
fields_takes (suc (suc (suc (suc (suc (suc (suc zero))))))) low high = nack_takes
fields_takes (suc (suc (suc (suc (suc (suc (suc (suc zero)))))))) low high = status_takes
fields_takes (suc (suc (suc (suc (suc (suc (suc (suc (suc zero))))))))) low high = invite_takes
fields_takes (suc (suc (suc (suc (suc (suc (suc (suc (suc (suc zero)))))))))) low high = join_takes
fields_takes (suc (suc (suc (suc (suc (suc (suc (suc (suc (suc (suc zero))))))))))) low high = result_takes
fields_takes (suc (suc (suc (suc (suc (suc (suc (suc (suc (suc (suc (suc zero)))))))))))) low high = ask_takes
fields_takes (suc (suc (suc (suc (suc (suc (suc (suc (suc (suc (suc (suc (suc zero))))))))))))) low high = answer_takes
fields_takes (suc (suc (suc (suc (suc (suc (suc (suc (suc (suc (suc (suc (suc (suc tag)))))))))))))) low high = absurd (omega (arith, high))

-- a packet from the front of these bytes
unfoldable pub front_at : ℕ → List ℕ → Reads (Packet Message Reply)
front_at end [] = Err (fault.Short end)
front_at end (tag ∷ rest) = cond (leb 1 tag && leb tag 13) (content_at tag end rest) (Err (fault.BadTag 0))

content_takes : (tag end : ℕ) → 1 ≤ tag → tag ≤ 13 → Behind (one tag) (content_at tag end) packet_spelling IsPacket
unfolding content_at
content_takes tag end low high =
    field (one tag) (number_at w64 end) eight Fits8 _ _ _ (eight_takes end) (λ i is. fields_takes tag low high end i is)

pub front_takes : (end : ℕ) → Spells (front_at end) packet_spelling IsPacket
unfolding front_at
front_takes end [] x fits e = absurd cc
front_takes end (tag ∷ bytes) x fits e =
    elim (chosen (leb 1 tag && leb tag 13) (content_at tag end bytes) (Err (fault.BadTag 0)) (Ok x) e) [
      | inl c ↦
          let h = both_hold (leb 1 tag) (leb tag 13) c.0 in
          content_takes tag end (leb-true 1 tag h.0) (leb-true tag 13 h.1) bytes x (IsBytes-rest tag bytes fits) c.1
      | inr d ↦ absurd (cc d.1)
    ]

-- ---- each kind that is spelled

truth_back : (b : Bool) → (truth_byte b ≤ 1) × (eqb (truth_byte b) 1 ≡ b)
truth_back true = (omega arith, refl)
truth_back false = (omega arith, refl)

request_again : (end : ℕ) (i : ℕ) (applied : ℕ) (m : Message) → IsPacket (packet.Request i applied m) → Again (content_at 1 end) (((eight i) ++ eight applied) ++ message_spelling m) (packet.Request i applied m)
unfolding content_at fields_at request_at
request_again end i applied m is rest = simp (append_assoc, eight_again end i is.fits.0, eight_again end applied is.fits.1, message_again end m is.sound) refl

body_again : (end : ℕ) (i : ℕ) (applied : ℕ) (m : Message) → IsPacket (packet.Body i applied m) → Again (content_at 2 end) (((eight i) ++ eight applied) ++ message_spelling m) (packet.Body i applied m)
unfolding content_at fields_at body_at
body_again end i applied m is rest = simp (append_assoc, eight_again end i is.fits.0, eight_again end applied is.fits.1, message_again end m is.sound) refl

order_again : (end : ℕ) (i : ℕ) (number : ℕ) (process : ProcessNo) (call : CallNo) (accepted : ℕ) (stable : ℕ) → IsPacket (packet.Order i number process call accepted stable) → Again (content_at 3 end) ((((((eight i) ++ eight number) ++ two process.0) ++ eight call.0) ++ eight accepted) ++ eight stable) (packet.Order i number process call accepted stable)
unfolding content_at fields_at order_at
order_again end i number process call accepted stable is rest = simp (append_assoc, eight_again end i is.fits.0, eight_again end number is.fits.1, two_again end process.0 is.fits.2, eight_again end call.0 is.fits.3, eight_again end accepted is.fits.4, eight_again end stable is.fits.5) refl

entry_again : (end : ℕ) (i : ℕ) (number : ℕ) (accepted : ℕ) (stable : ℕ) (m : Message) → IsPacket (packet.Entry i number accepted stable m) → Again (content_at 4 end) (((((eight i) ++ eight number) ++ eight accepted) ++ eight stable) ++ message_spelling m) (packet.Entry i number accepted stable m)
unfolding content_at fields_at entry_at
entry_again end i number accepted stable m is rest = simp (append_assoc, eight_again end i is.fits.0, eight_again end number is.fits.1, eight_again end accepted is.fits.2, eight_again end stable is.fits.3, message_again end m is.sound) refl

ack_again : (end : ℕ) (i : ℕ) (long : ℕ) (applied : ℕ) → IsPacket (packet.Ack i long applied) → Again (content_at 5 end) (((eight i) ++ eight long) ++ eight applied) (packet.Ack i long applied)
unfolding content_at fields_at ack_at
ack_again end i long applied is rest = simp (append_assoc, eight_again end i is.fits.0, eight_again end long is.fits.1, eight_again end applied is.fits.2) refl

accept_again : (end : ℕ) (i : ℕ) (accepted : ℕ) (stable : ℕ) → IsPacket (packet.Accept i accepted stable) → Again (content_at 6 end) (((eight i) ++ eight accepted) ++ eight stable) (packet.Accept i accepted stable)
unfolding content_at fields_at accept_at
accept_again end i accepted stable is rest = simp (append_assoc, eight_again end i is.fits.0, eight_again end accepted is.fits.1, eight_again end stable is.fits.2) refl

nack_again : (end : ℕ) (i : ℕ) (first : ℕ) (applied : ℕ) (whole : Bool) → IsPacket (packet.Nack i first applied whole) → Again (content_at 7 end) ((((eight i) ++ eight first) ++ eight applied) ++ one (truth_byte whole)) (packet.Nack i first applied whole)
unfolding content_at fields_at nack_at
nack_again end i first applied whole is rest = simp (append_assoc, eight_again end i is.fits.0, eight_again end first is.fits.1, eight_again end applied is.fits.2, byte_again 1 end (truth_byte whole) rest (truth_back whole).0) (ap (λ (w : Bool). Ok (packet.Nack i first applied w, rest)) (truth_back whole).1)

status_again : (end : ℕ) (i : ℕ) (long : ℕ) (applied : ℕ) → IsPacket (packet.Status i long applied) → Again (content_at 8 end) (((eight i) ++ eight long) ++ eight applied) (packet.Status i long applied)
unfolding content_at fields_at status_at
status_again end i long applied is rest = simp (append_assoc, eight_again end i is.fits.0, eight_again end long is.fits.1, eight_again end applied is.fits.2) refl

invite_again : (end : ℕ) (i : ℕ) → IsPacket (packet.Invite i) → Again (content_at 9 end) (eight i) (packet.Invite i)
unfolding content_at fields_at
invite_again end i is rest = rw (eight_again end i is.fits rest) refl

join_again : (end : ℕ) (join : Join Message Reply) → IsPacket (packet.Join join) → Again (content_at 10 end) ((((((eight join.incarnation) ++ eight join.installed) ++ eight join.accepted) ++ eight join.applied) ++ eight join.base) ++ messages_spelling join.messages) (packet.Join join)
unfolding content_at fields_at join_at
join_again end join is rest = simp (append_assoc, eight_again end join.incarnation is.fits.0, eight_again end join.installed is.fits.1, eight_again end join.accepted is.fits.2, eight_again end join.applied is.fits.3, eight_again end join.base is.fits.4, messages_again end join.messages is.sound) refl

result_again : (end : ℕ) (news : News Message Reply) → IsPacket (packet.Result news) → Again (content_at 11 end) (((((eight news.incarnation) ++ eight news.accepted) ++ eight news.base) ++ members_spelling news.members) ++ messages_spelling news.messages) (packet.Result news)
unfolding content_at fields_at result_at
result_again end news is rest = simp (append_assoc, eight_again end news.incarnation is.fits.0, eight_again end news.accepted is.fits.1, eight_again end news.base is.fits.2, members_again end news.members is.sound.1, messages_again end news.messages is.sound.0) refl

ask_again : (end : ℕ) (i : ℕ) (place : ℕ) (m : Message) → IsPacket (packet.Ask i place m) → Again (content_at 12 end) (((eight i) ++ eight place) ++ message_spelling m) (packet.Ask i place m)
unfolding content_at fields_at ask_at
ask_again end i place m is rest = simp (append_assoc, eight_again end i is.fits.0, eight_again end place is.fits.1, message_again end m is.sound) refl

answer_again : (end : ℕ) (i : ℕ) (place : ℕ) (process : ProcessNo) (call : CallNo) (r : Reply) → IsPacket (packet.Answer i place process call r) → Again (content_at 13 end) (((((eight i) ++ eight place) ++ two process.0) ++ eight call.0) ++ reply_spelling r) (packet.Answer i place process call r)
unfolding content_at fields_at answer_at
answer_again end i place process call r is rest = simp (append_assoc, eight_again end i is.fits.0, eight_again end place is.fits.1, two_again end process.0 is.fits.2, eight_again end call.0 is.fits.3, reply_again end r is.sound) refl

pub front_again : (end : ℕ) (p : Packet Message Reply) → IsPacket p → Again (front_at end) (packet_spelling p) p
unfolding front_at
front_again end (packet.Request i applied m) is rest = request_again end i applied m is rest
front_again end (packet.Body i applied m) is rest = body_again end i applied m is rest
front_again end (packet.Order i number process call accepted stable) is rest = order_again end i number process call accepted stable is rest
front_again end (packet.Entry i number accepted stable m) is rest = entry_again end i number accepted stable m is rest
front_again end (packet.Ack i long applied) is rest = ack_again end i long applied is rest
front_again end (packet.Accept i accepted stable) is rest = accept_again end i accepted stable is rest
front_again end (packet.Nack i first applied whole) is rest = nack_again end i first applied whole is rest
front_again end (packet.Status i long applied) is rest = status_again end i long applied is rest
front_again end (packet.Invite i) is rest = invite_again end i is rest
front_again end (packet.Join join) is rest = join_again end join is rest
front_again end (packet.Result news) is rest = result_again end news is rest
front_again end (packet.Ask i place m) is rest = ask_again end i place m is rest
front_again end (packet.Answer i place process call r) is rest = answer_again end i place process call r is rest
