-- What travels: its messages were submitted, its lists are short, its members rise.
use Rattle.std.proofs.Common.{◌≡◌, ℕ, zero, suc, ◌+◌, ◌≤◌, ◌<◌, inl, inr, Bool, Some, List, [], ◌∷◌, ◌++◌, length, take, drop, refl, sym, arith, le_refl, le_trans, All}
use Rattle.std.specs.List.{AllPairs}
use Rattle.std.proofs.lemmas.Bool.{cond_both}
use Rattle.std.proofs.lemmas.List.{length-drop}
use Rattle.std.proofs.lemmas.List.Elements.{All-nil, All-cons, All-push, All-get_or, All-weaker}
use Rattle.std.proofs.lemmas.List.Quantifiers.{all_pairs_push}
use Rattle.orca_base.specs.declared.limits.TheConstants.{NODES, WINDOW}
use Rattle.group_packets.specs.declared.packet.Packet as P
use Rattle.group_packets.specs.declared.packet.Packet.TheVariants as V
use Rattle.group_packets.specs.Sound.{AreSoundEntries, AreMembers, IsSoundPacket}
use Rattle.group_rules.specs.Sets.{In, Same, entry_at}
use Rattle.group_rules.specs.Messages.{Group}
use Rattle.group_rules.specs.Member.{Kind, Packet}
use Rattle.group_rules.specs.Member.Kind.{Request, Body, Order, Entry, Ack, Accept, Nack, Status, Invite, Join, News}
use Rattle.group_rules.specs.OnWire.{members_below, on_wire}
use Rattle.group_rules.specs.World.{GroupWorld, Sent, IsUp, list_of}
use Rattle.group_law.proofs.Core.{Tells, Counts}
use Rattle.group_law.proofs.Logs.{in_take, in_same, in_drop}
use Rattle.group_law.proofs.Turns.{Due}
use Rattle.group_law.proofs.Ready.{Inv}
use Rattle.group_law.proofs.Law.{reached}
use Rattle.group_law.specs.SoundPackets.{IsSubmitted, IsReply, SoundLaw}

all_in : {A : Type 0} (P : A → Type 0) (xs : List A) → ((x : A) → In x xs → P x) → All P xs
all_in P [] h = All-nil P
all_in P (x ∷ xs) h = All-cons P x xs (h x (inl refl)) (all_in P xs (λ y t. h y (inr t)))

in_whole : {A : Type 0} (x : A) (xs : List A) → In x xs → In x (take (length xs) xs)
in_whole x [] t = absurd t
in_whole x (y ∷ xs) (inl e) = inl e
in_whole x (y ∷ xs) (inr t) = inr (in_whole x xs t)

entry_in : {A : Type 0} (x : A) (xs : List A) (n : ℕ) → entry_at xs n ≡ Some x → In x xs
entry_in x xs zero e = cc
entry_in x [] (suc n) e = cc
entry_in {A} x (y ∷ xs) (suc zero) e = let q : y ≡ x = cc in inl (sym q)
entry_in {A} x (y ∷ xs) (suc (suc n)) e = inr (entry_in x xs (suc n) e)

-- ---- members

members_low : (n : ℕ) (f : ℕ → Bool) → All (λ x. x < n) (members_below n f)
members_low n f = below n n (le_refl n)
  where
    below : (m n : ℕ) → m ≤ n → All (λ x. x < n) (members_below m f)
    below zero n le = All-nil (λ x. x < n)
    below (suc m) n le = cond_both (f m) (members_below m f ++ m ∷ []) (members_below m f) (λ l. All (λ x. x < n) l) (λ e. All-push (λ x. x < n) (members_below m f) m (below m n (omega arith)) (omega arith)) (λ e. below m n (omega arith))

members_rise : (n : ℕ) (f : ℕ → Bool) → AllPairs (λ x y. x < y) (members_below n f)
members_rise zero f = λ i j d l k. absurd (omega arith)
members_rise (suc n) f = cond_both (f n) (members_below n f ++ n ∷ []) (members_below n f) (λ l. AllPairs (λ x y. x < y) l) (λ e. all_pairs_push (λ x y. x < y) (members_below n f) n (members_rise n f) (λ k d l. All-get_or (λ x. x < n) (members_below n f) k d l (members_low n f))) (λ e. members_rise n f)

are_members : (n : ℕ) (f : ℕ → Bool) → n ≤ NODES → AreMembers (members_below n f)
are_members n f le = (λ k l. members_rise n f k (k + 1) 0 (omega arith) l, λ k d l. le_trans (members_low n f k d l) le)

-- ---- packets

pub sound_packets : {M : Type 0} (R : Type 0) {g : Group M} {w : GroupWorld M} → g.nodes ≤ NODES → Inv g w → (q : Packet M) → Sent w.past.letters q → IsSoundPacket {R = R} (IsSubmitted g w) IsReply (on_wire g.nodes q.inc q.kind)
sound_packets {M} R {g} {w} few h q sent = go q.inc q.from q.kind (h.sound.tells q sent) (h.counts q sent) (h.rows.asked q sent)
  where
    entries : (k base : ℕ) (log : List M) → IsUp w.past k → Same (length log) log (list_of w.past k) → length log ≤ base + WINDOW → AreSoundEntries (IsSubmitted g w) (drop base log)
    entries k base log up same fits = (all_in (IsSubmitted g w) (drop base log) (λ x t. h.rows.listed k x up (in_take x (length log) _ (in_same x (length log) log _ same (in_whole x log (in_drop x base log t))))), let l = length-drop base log in omega arith)

    go : (k y : ℕ) (t : Kind M) → Tells g.nodes g.resilience w.past k y t → Counts g.nodes g.resilience w.past k t → Due g w.past k t → IsSoundPacket {R = R} (IsSubmitted g w) IsReply (on_wire g.nodes k t)
    go k y (Request a x) tells counts due = due.submitted
    go k y (Body a x) tells counts due = due.submitted
    go k y (Order n i c a b) tells counts due = tt
    go k y (Entry n a b x) tells counts due = h.rows.listed k x tells.0 (entry_in x (list_of w.past k) n tells.1)
    go k y (Ack n a) tells counts due = tt
    go k y (Accept a b) tells counts due = tt
    go k y (Nack n a whole) tells counts due = tt
    go k y (Status n a) tells counts due = tt
    go k y Invite tells counts due = tt
    go k y (Join j) tells counts due = entries j.installed j.base j.log tells.up tells.log counts.window
    go k y (News a b members log) tells counts due = (entries k b log tells.up tells.log counts.window, are_members g.nodes members few)

pub sound_law : (M R : Type 0) → SoundLaw M R
sound_law M R g small few events q sent = sound_packets R few (reached g small events) q sent

-- what is sound by one measure is so by a weaker one
pub sound_weaker : {B R : Type 0} (S S' : B → Type 0) (T T' : R → Type 0) → ((x : B) → S x → S' x) → ((y : R) → T y → T' y) → (q : P.Packet B R) → IsSoundPacket S T q → IsSoundPacket S' T' q
sound_weaker S S' T T' s t (V.Request k applied x) h = s x h
sound_weaker S S' T T' s t (V.Body k applied x) h = s x h
sound_weaker S S' T T' s t (V.Order k number process call accepted stable) h = h
sound_weaker S S' T T' s t (V.Entry k number accepted stable x) h = s x h
sound_weaker S S' T T' s t (V.Ack k count applied) h = h
sound_weaker S S' T T' s t (V.Accept k accepted stable) h = h
sound_weaker S S' T T' s t (V.Nack k first applied whole) h = h
sound_weaker S S' T T' s t (V.Status k count applied) h = h
sound_weaker S S' T T' s t (V.Invite k) h = h
sound_weaker S S' T T' s t (V.Join join) h = (All-weaker S S' s join.messages h.0, h.1)
sound_weaker S S' T T' s t (V.Result news) h = ((All-weaker S S' s news.messages h.0.0, h.0.1), h.1)
sound_weaker S S' T T' s t (V.Ask k place x) h = s x h
sound_weaker S S' T T' s t (V.Answer k place process call reply) h = t reply h
