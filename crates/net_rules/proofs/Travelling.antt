-- Facts of packets in flight: where numbers rise, a packet joins the others at their end; and what travels may be seen another way.
use Rattle.std.proofs.Common.{◌≡◌, ℕ, ◌+◌, ◌≤◌, Bool, true, false, ◌||◌, not, ◌==◌, List, [], ◌∷◌, ◌++◌, Option, Some, None, option_map, map, refl, ap, ◌∙◌, arith, if◌then◌else◌, ltb}
use Rattle.std.proofs.lemmas.Bool.{lt-ltb, ne_eqb}
use Rattle.std.specs.List.{find, list_any}
use Rattle.net_rules.specs.declared.fate.Fate.{Fate}
use Rattle.net_rules.specs.declared.fate.Fate.TheVariants as fate
use Rattle.net_rules.specs.declared.flight.Flight.{Flight}
use Rattle.net_rules.specs.Flights.{AreBelow, copies, first_ready, flight, is_ready, is_ready_copy, joined, nearer, ready_copy, seen, some_held, ticked, travels, without}
use Rattle.net_rules.specs.Script.{without_first}

module _ {X : Type 0} where
  -- no copy of a packet travels whose number is greater than all
  pub below_apart : (number : ℕ) (fs : List (Flight X)) → AreBelow number fs → travels number fs ≡ false
  below_apart number [] h = refl
  below_apart number (f ∷ fs) h =
      let other : (f.number == number) ≡ false = ne_eqb f.number number (λ e. omega (arith, e, h.0)) in
      rw other (below_apart number fs h.1)

  -- it joins them at their end
  pub below_joined : (number : ℕ) (new fs : List (Flight X)) → AreBelow number fs → joined number new fs ≡ fs ++ new
  below_joined number new [] h = refl
  below_joined number new (f ∷ fs) h =
      let goes : ltb f.number number ≡ true = lt-ltb f.number number h.0 in
      rw goes (ap (λ xs. f ∷ xs) (below_joined number new fs h.1))

  pub below_greater : (number more : ℕ) (fs : List (Flight X)) → number ≤ more → AreBelow number fs → AreBelow more fs
  below_greater number more [] le h = tt
  below_greater number more (f ∷ fs) le h = (omega (arith, h.0), below_greater number more fs le h.1)

  pub below_both : (number : ℕ) (fs gs : List (Flight X)) → AreBelow number fs → AreBelow number gs → AreBelow number (fs ++ gs)
  below_both number [] gs h k = k
  below_both number (f ∷ fs) gs h k = (h.0, below_both number fs gs h.1 k)

  pub below_copies : (cut : ℕ → X → X) (number from to : ℕ) (packet : X) (f : Fate) → AreBelow (number + 1) (copies cut number from to packet f)
  below_copies cut number from to packet fate.Pass = (omega arith, tt)
  below_copies cut number from to packet fate.Drop = tt
  below_copies cut number from to packet fate.Twice = (omega arith, (omega arith, tt))
  below_copies cut number from to packet (fate.Hold ticks) = (omega arith, tt)
  below_copies cut number from to packet (fate.Cut n) = (omega arith, tt)

  below_at : (number : ℕ) (new fs : List (Flight X)) → AreBelow number new → AreBelow number fs → (n : ℕ) → AreBelow number (joined n new fs)
  below_at number new [] h k n = h
  below_at number new (f ∷ fs) h k n =
      elim (ltb f.number n) as (λ b. AreBelow number (if b then f ∷ joined n new fs else new ++ f ∷ fs))
      [ true ↦ (k.0, below_at number new fs h k.1 n) | false ↦ below_both number new (f ∷ fs) h k ]

  -- then all are below the next number
  pub below_sent : (cut : ℕ → X → X) (number from to : ℕ) (packet : X) (f : Fate) (fs : List (Flight X)) → AreBelow number fs →
      AreBelow (number + 1) (joined number (copies cut number from to packet f) fs)
  below_sent cut number from to packet f fs h =
      below_at (number + 1) (copies cut number from to packet f) fs (below_copies cut number from to packet f) (below_greater number (number + 1) fs (omega arith) h) number

  below_left : (p : Flight X → Bool) (number : ℕ) (fs : List (Flight X)) → AreBelow number fs → AreBelow number (without_first p fs)
  below_left p number [] h = tt
  below_left p number (f ∷ fs) h =
      elim (p f) as (λ b. AreBelow number (if b then fs else f ∷ without_first p fs)) [ true ↦ h.1 | false ↦ (h.0, below_left p number fs h.1) ]

  pub below_without : (number n copy : ℕ) (fs : List (Flight X)) → AreBelow number fs → AreBelow number (without n copy fs)
  below_without number n copy fs h = below_left (is_ready_copy n copy) number fs h

  pub below_ticked : (number : ℕ) (fs : List (Flight X)) → AreBelow number fs → AreBelow number (ticked fs)
  below_ticked number [] h = tt
  below_ticked number (f ∷ fs) h = (h.0, below_ticked number fs h.1)

module _ {X Y : Type 0} (view : X → Y) where
  seen_both : (fs gs : List (Flight X)) → map (seen view) (fs ++ gs) ≡ map (seen view) fs ++ map (seen view) gs
  seen_both [] gs = refl
  seen_both (f ∷ fs) gs = ap (λ xs. seen view f ∷ xs) (seen_both fs gs)

  pub seen_joined : (number : ℕ) (new fs : List (Flight X)) → map (seen view) (joined number new fs) ≡ joined number (map (seen view) new) (map (seen view) fs)
  seen_joined number new [] = refl
  seen_joined number new (f ∷ fs) =
      elim (ltb f.number number) as
      (λ b. map (seen view) (if b then f ∷ joined number new fs else new ++ f ∷ fs) ≡
      (if b then seen view f ∷ joined number (map (seen view) new) (map (seen view) fs) else map (seen view) new ++ seen view f ∷ map (seen view) fs))
      [ true ↦ ap (λ xs. seen view f ∷ xs) (seen_joined number new fs) | false ↦ seen_both new (f ∷ fs) ]

  -- a fate makes the same copies of what is seen, where the view of what is cut is the view, cut
  pub seen_copies : (cut : ℕ → X → X) (cut' : ℕ → Y → Y) → ((n : ℕ) (x : X) → view (cut n x) ≡ cut' n (view x)) →
      (number from to : ℕ) (packet : X) (f : Fate) → map (seen view) (copies cut number from to packet f) ≡ copies cut' number from to (view packet) f
  seen_copies cut cut' h number from to packet fate.Pass = refl
  seen_copies cut cut' h number from to packet fate.Drop = refl
  seen_copies cut cut' h number from to packet fate.Twice = refl
  seen_copies cut cut' h number from to packet (fate.Hold ticks) = refl
  seen_copies cut cut' h number from to packet (fate.Cut n) = ap (λ y. flight number 0 from to 0 y ∷ []) (h n packet)

  seen_found : (p : Flight X → Bool) (q : Flight Y → Bool) → ((f : Flight X) → q (seen view f) ≡ p f) → (fs : List (Flight X)) →
      find q (map (seen view) fs) ≡ option_map (seen view) (find p fs)
  seen_found p q h [] = refl
  seen_found p q h (f ∷ fs) =
      rw (h f)
      (elim (p f) as
      (λ b. (if b then Some (seen view f) else find q (map (seen view) fs)) ≡ option_map (seen view) (if b then Some f else find p fs))
      [ true ↦ refl | false ↦ seen_found p q h fs ])

  pub seen_ready_copy : (number copy : ℕ) (fs : List (Flight X)) → ready_copy number copy (map (seen view) fs) ≡ option_map (seen view) (ready_copy number copy fs)
  seen_ready_copy number copy fs = seen_found (is_ready_copy number copy) (is_ready_copy number copy) (λ f. refl) fs

  seen_name : (o : Option (Flight X)) → option_map {U = ℕ × ℕ} (λ (g : Flight Y). (g.number, g.copy)) (option_map (seen view) o) ≡
      option_map {U = ℕ × ℕ} (λ (f : Flight X). (f.number, f.copy)) o
  seen_name None = refl
  seen_name (Some f) = refl

  pub seen_first_ready : (fs : List (Flight X)) → first_ready (map (seen view) fs) ≡ first_ready fs
  seen_first_ready fs =
      ap (λ o. option_map {U = ℕ × ℕ} (λ (g : Flight Y). (g.number, g.copy)) o) (seen_found is_ready is_ready (λ f. refl) fs) ∙ seen_name (find is_ready fs)

  seen_any : (p : Flight X → Bool) (q : Flight Y → Bool) → ((f : Flight X) → q (seen view f) ≡ p f) → (fs : List (Flight X)) →
      list_any q (map (seen view) fs) ≡ list_any p fs
  seen_any p q h [] = refl
  seen_any p q h (f ∷ fs) = rw (h f) (ap (λ b. p f || b) (seen_any p q h fs))

  pub seen_some_held : (fs : List (Flight X)) → some_held (map (seen view) fs) ≡ some_held fs
  seen_some_held fs = seen_any (λ (f : Flight X). not (is_ready f)) (λ (g : Flight Y). not (is_ready g)) (λ f. refl) fs

  pub seen_travels : (number : ℕ) (fs : List (Flight X)) → travels number (map (seen view) fs) ≡ travels number fs
  seen_travels number fs = seen_any (λ (f : Flight X). f.number == number) (λ (g : Flight Y). g.number == number) (λ f. refl) fs

  pub seen_without : (number copy : ℕ) (fs : List (Flight X)) → map (seen view) (without number copy fs) ≡ without number copy (map (seen view) fs)
  seen_without number copy [] = refl
  seen_without number copy (f ∷ fs) =
      elim (is_ready_copy number copy f) as
      (λ b. map (seen view) (if b then fs else f ∷ without number copy fs) ≡ (if b then map (seen view) fs else seen view f ∷ without number copy (map (seen view) fs)))
      [ true ↦ refl | false ↦ ap (λ xs. seen view f ∷ xs) (seen_without number copy fs) ]

  pub seen_ticked : (fs : List (Flight X)) → map (seen view) (ticked fs) ≡ ticked (map (seen view) fs)
  seen_ticked [] = refl
  seen_ticked (f ∷ fs) = ap (λ xs. seen view (nearer f) ∷ xs) (seen_ticked fs)
