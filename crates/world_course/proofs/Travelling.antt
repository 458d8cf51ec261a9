-- Packets: what is in flight after letters were posted, one was delivered, or time passed.
use Rattle.std.proofs.Common.{◌≡◌, nat_lt, ℕ, suc, ◌⊎◌, inl, inr, ⊎_elim, Bool, true, false, cond, List, [], ◌∷◌, ◌++◌, Some, refl, sym, subst, if◌then◌else◌}
use Rattle.std.specs.List.{find}
use Rattle.net_rules.specs.declared.fate.Fate.{Fate}
use Rattle.net_rules.specs.declared.fate.Fate.TheVariants as fate
use Rattle.net_rules.specs.declared.flight.Flight.{Flight}
use Rattle.net_rules.specs.Flights.{copies, is_ready_copy, joined, ready_copy, ticked, without}
use Rattle.net_rules.specs.Script.{without_first}
use Rattle.book_law.specs.Events.{In}
use Rattle.book_law.proofs.Objects.{in_append}
use Rattle.world_rules.specs.Frame.{Frame}
use Rattle.world_rules.specs.Mail.{Carried, Mail, carried, cut_to, posted}
use Rattle.world_rules.specs.Steps.{posts, posts_all}
use Rattle.world_rules.specs.Worlds.{World}

-- each letter in flight is so
abbrev pub AllFly : (Mail → Type 0) → List (Flight Carried) → Type 0
AllFly P flights = (flight : Flight Carried) → In flight flights → P flight.packet.mail

in_without : {A : Type 0} (t : A → Bool) (x : A) (xs : List A) → In x (without_first t xs) → In x xs
in_without t x [] h = h
in_without t x (y ∷ xs) h = go (t y) h (in_without t x xs)
  where
    go : (b : Bool) → In x (if b then xs else y ∷ without_first t xs) → (In x (without_first t xs) → In x xs) → In x (y ∷ xs)
    go true h more = inr h
    go false (inl e) more = inl e
    go false (inr h) more = inr (more h)

found_in : {A : Type 0} (t : A → Bool) (x : A) (xs : List A) → find t xs ≡ Some x → In x xs
found_in t x [] is = absurd (cc is)
found_in t x (y ∷ xs) is = go (t y) is (found_in t x xs)
  where
    go : (b : Bool) → cond b (Some y) (find t xs) ≡ Some x → (find t xs ≡ Some x → In x xs) → In x (y ∷ xs)
    go true is more = let e : y ≡ x = cc in inl (sym e)
    go false is more = inr (more is)

-- one that is ready, and the others
pub ready_flies : (P : Mail → Type 0) (packet copy : ℕ) (flights : List (Flight Carried)) (flight : Flight Carried) → AllFly P flights → ready_copy packet copy flights ≡ Some flight → P flight.packet.mail
ready_flies P packet copy flights flight all is = all flight (found_in (is_ready_copy packet copy) flight flights is)

pub without_flies : (P : Mail → Type 0) (packet copy : ℕ) (flights : List (Flight Carried)) → AllFly P flights → AllFly P (without packet copy flights)
without_flies P packet copy flights all x is = all x (in_without _ x flights is)

-- held packets wait one tick less
pub ticked_fly : (P : Mail → Type 0) (flights : List (Flight Carried)) → AllFly P flights → AllFly P (ticked flights)
ticked_fly P [] all x is = absurd is
ticked_fly P (y ∷ flights) all x (inl e) = subst (λ (z : Flight Carried). P z.packet.mail) (sym e) (all y (inl refl))
ticked_fly P (y ∷ flights) all x (inr h) = ticked_fly P flights (λ z is. all z (inr is)) x h

-- ---- letters are posted

copies_fly : (P : Mail → Type 0) (number from to : ℕ) (mail : Mail) (one : Fate) → P mail → AllFly P (copies cut_to number from to (carried mail) one)
copies_fly P number from to mail fate.Pass is x (inl e) = subst (λ (z : Flight Carried). P z.packet.mail) (sym e) is
copies_fly P number from to mail fate.Pass is x (inr none) = absurd none
copies_fly P number from to mail fate.Drop is x none = absurd none
copies_fly P number from to mail fate.Twice is x (inl e) = subst (λ (z : Flight Carried). P z.packet.mail) (sym e) is
copies_fly P number from to mail fate.Twice is x (inr (inl e)) = subst (λ (z : Flight Carried). P z.packet.mail) (sym e) is
copies_fly P number from to mail fate.Twice is x (inr (inr none)) = absurd none
copies_fly P number from to mail (fate.Hold ticks) is x (inl e) = subst (λ (z : Flight Carried). P z.packet.mail) (sym e) is
copies_fly P number from to mail (fate.Hold ticks) is x (inr none) = absurd none
copies_fly P number from to mail (fate.Cut length) is x (inl e) = subst (λ (z : Flight Carried). P z.packet.mail) (sym e) is
copies_fly P number from to mail (fate.Cut length) is x (inr none) = absurd none

joined_in : (number : ℕ) (new flights : List (Flight Carried)) (x : Flight Carried) → In x (joined number new flights) → In x new ⊎ In x flights
joined_in number new [] x h = inl h
joined_in number new (y ∷ flights) x h = go (nat_lt y.number number) h (joined_in number new flights x)
  where
    go : (b : Bool) → In x (if b then y ∷ joined number new flights else new ++ y ∷ flights) → (In x (joined number new flights) → In x new ⊎ In x flights) → In x new ⊎ In x (y ∷ flights)
    go true (inl e) more = inr (inl e)
    go true (inr h) more = ⊎_elim (λ u. inl u) (λ u. inr (inr u)) (more h)
    go false h more = in_append x new (y ∷ flights) h

post_flies : (P : Mail → Type 0) (f : Frame) (w : World) (mail : Mail) (one : Fate) → AllFly P w.flights → P mail → AllFly P (posts f w mail one).flights
post_flies P f w mail one all is x h = ⊎_elim
    (λ new. copies_fly P (suc w.sent) (posted f.settings.nodes mail).from (posted f.settings.nodes mail).to mail one is x new)
    (λ old. all x old)
    (joined_in (suc w.sent) (copies cut_to (suc w.sent) (posted f.settings.nodes mail).from (posted f.settings.nodes mail).to (carried mail) one) w.flights x h)

pub posts_fly : (P : Mail → Type 0) (f : Frame) (w : World) (mails : List Mail) (fates : List Fate) → AllFly P w.flights → ((mail : Mail) → In mail mails → P mail) → AllFly P (posts_all f w mails fates).flights
posts_fly P f w [] fates all stand = all
posts_fly P f w (mail ∷ mails) [] all stand = all
posts_fly P f w (mail ∷ mails) (one ∷ fates) all stand =
    posts_fly P f (posts f w mail one) mails fates (post_flies P f w mail one all (stand mail (inl refl))) (λ m is. stand m (inr is))
