-- Letters and their numbers, and packets as they travel.
use Rattle.std.proofs.Common.{◌≡◌, ℕ, ◌<◌, ◌==◌, ◌⊎◌, inl, inr, ⊎_elim, Bool, true, false, Some, List, [], ◌∷◌, ◌++◌, length, refl, sym, ap, ◌∙◌, arith, append_assoc, if◌then◌else◌}
use Rattle.std.proofs.lemmas.Bool.{cond_both, eqb-true, eqb-false}
use Rattle.std.proofs.lemmas.List.{append-nil, map_push}
use Rattle.group_rules.specs.Sets.{In}
use Rattle.group_rules.specs.Member.{Letter}
use Rattle.group_rules.specs.Member.Kind.{Request, Body, Order, Entry, Ack, Accept, Nack, Status, Invite, Join, News}
use Rattle.group_rules.specs.World.{after, letter_number, NumberedLaw, PacketsLaw}
use Rattle.group_rules.specs.Work.{Act, letters_of}
use Rattle.group_rules.specs.OnWire.{Posted, post_of, posted, posts_of, AppendedLaw, LettersLaw, PostedLaw, ReceivedLaw, SentLaw}

-- ---- letters and their numbers

-- its number among these
pub record NumberOf {M : Type 0} (letters : List (Letter M)) (letter : Letter M) : Type 0 where
  pub which : ℕ
  pub below : which < length letters
  pub is : letter_number letters which ≡ Some letter

pub number_of : {M : Type 0} (letters : List (Letter M)) (letter : Letter M) → In letter letters → NumberOf letters letter
number_of [] l t = absurd t
number_of {M} (y ∷ ls) l (inl e) = record { which = length ls; below = omega arith; is = cond_both (length ls == length ls) (Some y) (letter_number ls (length ls)) (λ o. o ≡ Some l) (λ f. ap Some (sym e)) (λ f. absurd (eqb-false (length ls) (length ls) f refl)) }
number_of {M} (y ∷ ls) l (inr t) =
    let o = number_of ls l t in
    let below = o.below in
    record { which = o.which; below = omega arith; is = cond_both (length ls == o.which) (Some y) (letter_number ls o.which) (λ v. v ≡ Some l) (λ f. let e = eqb-true (length ls) o.which f in absurd (omega arith)) (λ f. o.is) }

pub numbered_in : {M : Type 0} (letters : List (Letter M)) (which : ℕ) (letter : Letter M) → letter_number letters which ≡ Some letter → In letter letters
numbered_in [] n l e = cc
numbered_in {M} (y ∷ ls) n l e = go (length ls == n) (λ f. numbered_in ls n l f) e
  where
    go : (b : Bool) → (letter_number ls n ≡ Some l → In l ls) → (if b then Some y else letter_number ls n) ≡ Some l → (l ≡ y) ⊎ In l ls
    go true ih f = let same : l ≡ y = cc in inl same
    go false ih f = inr (ih f)

pub numbered_law : (M : Type 0) → NumberedLaw M
numbered_law M letters = record { number = λ l t. let o = number_of letters l t in (o.which, o.below, o.is); sent = λ n l e. numbered_in letters n l e }

pub packets_law : (M : Type 0) → PacketsLaw M
packets_law M [] l t = absurd t
packets_law M (y ∷ ls) l t = ⊎_elim (λ e. inl (ap (λ (o : Letter M). o.packet) e)) (λ u. inr (packets_law M ls l u)) t

-- ---- posts

in_end : {A : Type 0} (x : A) (xs : List A) (y : A) → In x (xs ++ y ∷ []) → In x xs ⊎ (x ≡ y)
in_end x [] y t = ⊎_elim (λ e. inr e) (λ u. absurd u) t
in_end x (z ∷ xs) y t = ⊎_elim (λ e. inl (inl e)) (λ u. ⊎_elim (λ v. inl (inr v)) (λ v. inr v) (in_end x xs y u)) t

-- a letter of these that is so posted
pub record Sends {M R : Type 0} (N : ℕ) (letters : List (Letter M)) (post : Posted M R) : Type 0 where
  pub letter : Letter M
  pub sent : In letter letters
  pub other : letter.to ≡ letter.packet.from → ⊥
  pub is : post ≡ post_of N letter

pub posted_in : {M R : Type 0} (N : ℕ) (letters : List (Letter M)) (post : Posted M R) → In post (posted N letters) → Sends N letters post
posted_in N [] p = λ t. absurd t
posted_in {M} {R} N (y ∷ ls) p =
    cond_both (y.to == y.packet.from) (posted N ls) (posted N ls ++ post_of N y ∷ []) (λ (l : List (Posted M R)). In p l → Sends N (y ∷ ls) p)
    (λ e t. more (posted_in N ls p t)) (λ e t. ⊎_elim (λ u. more (posted_in N ls p u)) (λ u. record { letter = y; sent = inl refl; other = eqb-false y.to y.packet.from e; is = u }) (in_end p (posted N ls) (post_of N y) t))
  where
    more : Sends N ls p → Sends N (y ∷ ls) p
    more o = record { letter = o.letter; sent = inr o.sent; other = o.other; is = o.is }

pub posted_law : (M R : Type 0) → PostedLaw M R
posted_law M R N letters post t = let o = posted_in N letters post t in let n = number_of letters o.letter o.sent in record { which = n.which; letter = o.letter; number = n.is; other = o.other; is = o.is }

-- ---- what a step posts

pub appended_law : (M R : Type 0) → AppendedLaw M R
appended_law M R N [] p t = sym (append-nil (posted N p.letters))
appended_law M R N (Act.Sends letter ∷ acts) p t =
    cond_both (letter.to == letter.packet.from) (posted N (after acts p).letters) (posted N (after acts p).letters ++ post_of N letter ∷ []) (λ (l : List (Posted M R)). l ≡ posted N p.letters ++ (posts_of N acts ++ post_of N letter ∷ []))
    (λ e. absurd (t.0 (eqb-true letter.to letter.packet.from e)))
    (λ e. ap (λ (l : List (Posted M R)). l ++ post_of N letter ∷ []) (appended_law M R N acts p t.1) ∙ append_assoc (posted N p.letters) (posts_of N acts) (post_of N letter ∷ []))
appended_law M R N (Act.Keeps packet ∷ acts) p t =
    cond_both (packet.from == packet.from) (posted N (after acts p).letters) _ (λ (l : List (Posted M R)). l ≡ posted N p.letters ++ posts_of N acts)
    (λ e. appended_law M R N acts p t) (λ e. absurd (eqb-false packet.from packet.from e refl))
appended_law M R N (Act.Orders k x ∷ acts) p t = appended_law M R N acts p t
appended_law M R N (Act.Begins k log answers ∷ acts) p t = appended_law M R N acts p t

pub letters_law : (M R : Type 0) → LettersLaw M R
letters_law M R N [] = refl
letters_law M R N (Act.Sends letter ∷ acts) = ap (λ (l : List (Posted M R)). l ++ post_of N letter ∷ []) (letters_law M R N acts) ∙ sym (map_push (post_of N) (letters_of acts) letter)
letters_law M R N (Act.Keeps packet ∷ acts) = letters_law M R N acts
letters_law M R N (Act.Orders k x ∷ acts) = letters_law M R N acts
letters_law M R N (Act.Begins k log answers ∷ acts) = letters_law M R N acts

pub sent_law : (M : Type 0) → SentLaw M
sent_law M [] p letter t = absurd t
sent_law M (Act.Sends l ∷ acts) p letter t = ⊎_elim (λ u. inr (sent_law M acts p letter u)) (λ e. inl e) (in_end letter (letters_of acts) l t)
sent_law M (Act.Keeps packet ∷ acts) p letter t = inr (sent_law M acts p letter t)
sent_law M (Act.Orders k x ∷ acts) p letter t = sent_law M acts p letter t
sent_law M (Act.Begins k log answers ∷ acts) p letter t = sent_law M acts p letter t

-- ---- what is received

pub received_law : (M R : Type 0) → ReceivedLaw M R
received_law M R g m from k (Request a x) s h = refl
received_law M R g m from k (Body a x) s h = refl
received_law M R g m from k (Order n i c a b) s h = refl
received_law M R g m from k (Entry n a b x) s h = refl
received_law M R g m from k (Ack n a) s h = refl
received_law M R g m from k (Accept a b) s h = refl
received_law M R g m from k (Nack n a whole) s h = refl
received_law M R g m from k (Status n a) s h = refl
received_law M R g m from k Invite s h = absurd h
received_law M R g m from k (Join j) s h = absurd h
received_law M R g m from k (News a b members log) s h = absurd h
