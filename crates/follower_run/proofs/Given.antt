-- The fates that a wire gave: each is the one in the list at its packet's number, whatever the wire answers later.
use Rattle.std.proofs.Common.{◌≡◌, ◌∙◌, ℕ, zero, suc, List, [], ◌∷◌, ◌++◌, length, refl, ap, sym, arith}
use Rattle.group_packets.specs.declared.packet.PacketKind.{PacketKind}
use Rattle.net_rules.specs.Asked.{packet_asked}
use Rattle.net_rules.specs.declared.asked.Asked.{Asked}
use Rattle.net_rules.specs.declared.asked.Asked.TheVariants as asked
use Rattle.net_rules.specs.declared.fate.Fate.{Fate}
use Rattle.join_law.specs.Rounds.{fate_in}
use Rattle.follower_run.specs.Given.{fates_of}

pub fates_both : (xs ys : List Asked) → fates_of (xs ++ ys) ≡ fates_of xs ++ fates_of ys
fates_both [] ys = refl
fates_both (asked.Packet question fate ∷ xs) ys = ap (λ (l : List Fate). fate ∷ l) (fates_both xs ys)
fates_both (asked.Act number act ∷ xs) ys = fates_both xs ys

pub behind_both : {A : Type 0} (xs ys zs : List A) → (xs ++ ys) ++ zs ≡ xs ++ (ys ++ zs)
behind_both [] ys zs = refl
behind_both (x ∷ xs) ys zs = ap (λ l. x ∷ l) (behind_both xs ys zs)

pub none_behind : {A : Type 0} (xs : List A) → xs ++ [] ≡ xs
none_behind [] = refl
none_behind (x ∷ xs) = ap (λ l. x ∷ l) (none_behind xs)

pub one_more : {A : Type 0} (xs : List A) (x : A) → length (xs ++ x ∷ []) ≡ suc (length xs)
one_more [] x = refl
one_more (y ∷ xs) x = ap (λ (n : ℕ). suc n) (one_more xs x)

-- ---- one packet more

pub given_more : (xs : List Asked) (number : ℕ) (kind : PacketKind) (from to bytes : ℕ) (fate : Fate) → length (fates_of xs) ≡ length xs
    → length (fates_of (xs ++ packet_asked number kind from to bytes fate ∷ [])) ≡ length (xs ++ packet_asked number kind from to bytes fate ∷ [])
given_more xs number kind from to bytes fate given =
    let one = packet_asked number kind from to bytes fate in
    let is : length (fates_of (xs ++ one ∷ [])) ≡ suc (length (fates_of xs)) = ap (λ (l : List Fate). length l) (fates_both xs (one ∷ [])) ∙ one_more (fates_of xs) fate in
    let many = one_more xs one in
    omega (arith, is, many, given)

there : (xs : List Fate) (fate : Fate) (later : List Fate) (n : ℕ) → n ≡ length xs → fate_in ((xs ++ fate ∷ []) ++ later) n ≡ fate
there [] fate later zero is = refl
there [] fate later (suc n) is = absurd (omega (arith, is))
there (x ∷ xs) fate later zero is = absurd (omega (arith, is))
there (x ∷ xs) fate later (suc n) is = there xs fate later n (omega (arith, is))

pub fate_there : (xs : List Asked) (number : ℕ) (kind : PacketKind) (from to bytes : ℕ) (fate : Fate) (later : List Fate) → length (fates_of xs) ≡ length xs
    → fate_in (fates_of (xs ++ packet_asked number kind from to bytes fate ∷ []) ++ later) (length xs) ≡ fate
fate_there xs number kind from to bytes fate later given =
    ap (λ (l : List Fate). fate_in (l ++ later) (length xs)) (fates_both xs (packet_asked number kind from to bytes fate ∷ []))
    ∙ there (fates_of xs) fate later (length xs) (sym given)

-- what is so whatever comes later is so of what was asked more
pub later_on : (xs more : List Asked) (later : List Fate) → fates_of (xs ++ more) ++ later ≡ fates_of xs ++ (fates_of more ++ later)
later_on xs more later = ap (λ (l : List Fate). l ++ later) (fates_both xs more) ∙ behind_both (fates_of xs) (fates_of more) later
