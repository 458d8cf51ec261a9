-- The cases of an idle stretch.
use Rattle.std.proofs.Common.{◌≡◌, ℕ, zero, suc, ◌+◌, ◌%◌, ◌≤◌, ◌<◌, ◌==◌, ◌&&◌, not, nat_lt, ◌⊎◌, inl, inr, ⊎_elim, Bool, true, false, List, [], ◌∷◌, refl, sym, ap, ◌∙◌, arith, subst}
use Rattle.std.proofs.lemmas.Bool.{eqb-true, eqb-false, eq-eqb, ltb-true, ltb-false, and_parts, not-true}
use Rattle.group_rules.specs.Messages.{Group}
use Rattle.group_rules.specs.Member.{Member, is_active, leads}
use Rattle.group_rules.specs.World.{GroupWorld, acts_on}
use Rattle.group_law.proofs.Ready.{Inv}
use Rattle.group_law.proofs.Law.{reached}
use Rattle.group_idle.specs.Net.{Net, Move}
use Rattle.group_idle.specs.Idle.{Idle, ticks_in}
use Rattle.group_idle.proofs.Parts.{Led, LedLaw}
use Rattle.group_idle.proofs.Stretches.{acting}
use Rattle.group_idle.proofs.Inactive.{no, inactive}
use Rattle.group_idle.proofs.Deserted.{deserted}
use Rattle.group_idle.proofs.Following.{follows_same}
use Rattle.group_idle.proofs.Two.{two}

-- a number below n that passes, or none
pub record Found (n : ℕ) (f : ℕ → Bool) : Type 0 where
  pub number : ℕ
  pub below : number < n
  pub passes : f number ≡ true

pub search : (n : ℕ) (f : ℕ → Bool) → Found n f ⊎ ((m : ℕ) → m < n → f m ≡ false)
search zero f = inr (λ m l. absurd (omega arith))
search (suc n) f = ⊎_elim (λ a. inl (record { number = a.number; below = let l = a.below in omega arith; passes = a.passes })) (λ a. by (f n) refl a) (search n f)
  where
    by : (b : Bool) → f n ≡ b → ((m : ℕ) → m < n → f m ≡ false) → Found (suc n) f ⊎ ((m : ℕ) → m < suc n → f m ≡ false)
    by true e a = inl (record { number = n; below = omega arith; passes = e })
    by false e a = inr (λ m l. at m l (m == n) refl)
      where
        at : (m : ℕ) → m < suc n → (b : Bool) → (m == n) ≡ b → f m ≡ false
        at m l true q = ap f (eqb-true m n q) ∙ e
        at m l false q = let d = eqb-false m n q in a m (grind arith)

-- of the members that pass the one with the greatest number
record Greatest (n : ℕ) (f : ℕ → Bool) (v : ℕ → ℕ) : Type 0 where
  number : ℕ
  passes : f number ≡ true
  greatest : (m : ℕ) → m < n → f m ≡ true → v m ≤ v number

greatest_of : (n : ℕ) (f : ℕ → Bool) (v : ℕ → ℕ) (one : ℕ) → f one ≡ true → Greatest n f v
greatest_of zero f v one e = record { number = one; passes = e; greatest = λ m l q. absurd (omega arith) }
greatest_of (suc n) f v one e = go (greatest_of n f v one e)
  where
    last : (m : ℕ) → m < suc n → (m ≡ n) ⊎ (m < n)
    last m l = by (m == n) refl
      where
        by : (b : Bool) → (m == n) ≡ b → (m ≡ n) ⊎ (m < n)
        by true q = inl (eqb-true m n q)
        by false q = let d = eqb-false m n q in inr (grind arith)

    go : Greatest n f v → Greatest (suc n) f v
    go a = by (f n && nat_lt (v a.number) (v n)) refl
      where
        by : (b : Bool) → (f n && nat_lt (v a.number) (v n)) ≡ b → Greatest (suc n) f v
        by true q = let d = and_parts (f n) (nat_lt (v a.number) (v n)) q in let l = ltb-true (v a.number) (v n) d.1 in
            record { number = n; passes = d.0; greatest = λ m o p. ⊎_elim (λ i. let w = ap v i in omega arith) (λ i. let w = a.greatest m i p in omega arith) (last m o) }
        by false q = record { number = a.number; passes = a.passes; greatest = λ m o p. ⊎_elim (λ i. let w = ap v i in let z = least (f n) (ap f (sym i) ∙ p) q in omega arith) (λ i. a.greatest m i p) (last m o) }
          where
            least : (c : Bool) → c ≡ true → (c && nat_lt (v a.number) (v n)) ≡ false → v n ≤ v a.number
            least true r h = ltb-false (v a.number) (v n) h
            least false r h = no (sym r)

-- a living member that isn't active promised a later incarnation
later : {M : Type 0} (s : Member M) → s.outside ≡ false → s.installed ≤ s.promised → is_active s ≡ false → s.installed < s.promised
later s alive le e = by (s.installed == s.promised) refl
  where
    by : (b : Bool) → (s.installed == s.promised) ≡ b → s.installed < s.promised
    by true q = no (sym (ap (λ (b : Bool). b && not s.outside) q ∙ ap not alive) ∙ e)
    by false q = let d = eqb-false s.installed s.promised q in grind arith

other : (b c : Bool) → b ≡ true → (b && not c) ≡ false → c ≡ true
other true true e q = refl
other true false e q = no q
other false c e q = no (sym e)

split : {M : Type 0} (g : Group M) (n : Net M) → g.nodes ≤ 256 → Inv g n.world → (m : ℕ) → acts_on g n.world m ≡ true → (list : List (Move M)) → Idle g n list → ((x : ℕ) → x < g.nodes → (n.world.members x).outside ≡ false) → (ticks_in list ≤ g.nodes + 4) ⊎ Led g n
split {M} g n few h m acts list idle inside = ⊎_elim
    (λ a. inl (let p = and_parts (acts_on g n.world a.number) (not (is_active (n.world.members a.number))) a.passes in
    let l = inactive M g few n a.number p.0 (later (n.world.members a.number) (inside a.number a.below) (h.fits a.number).stands.promised (not-true (is_active (n.world.members a.number)) p.1)) list idle in let b = a.below in omega arith))
    (λ active. ⊎_elim
    (λ a. inl (let p = and_parts (acts_on g n.world a.number) (not (acts_on g n.world ((n.world.members a.number).installed % g.nodes))) a.passes in
    let l = deserted M g few n a.number p.0 (other (acts_on g n.world a.number) (is_active (n.world.members a.number)) p.0 (active a.number a.below)) (not-true (acts_on g n.world ((n.world.members a.number).installed % g.nodes)) p.1) list idle in let b = a.below in omega arith))
    (λ led. one active led (greatest_of g.nodes (λ x. acts_on g n.world x) (λ x. (n.world.members x).installed) m acts))
    (search g.nodes (λ x. acts_on g n.world x && not (acts_on g n.world ((n.world.members x).installed % g.nodes)))))
    (search g.nodes (λ x. acts_on g n.world x && not (is_active (n.world.members x))))
  where
    one : ((x : ℕ) → x < g.nodes → (acts_on g n.world x && not (is_active (n.world.members x))) ≡ false) → ((x : ℕ) → x < g.nodes → (acts_on g n.world x && not (acts_on g n.world ((n.world.members x).installed % g.nodes))) ≡ false)
        → Greatest g.nodes (λ x. acts_on g n.world x) (λ x. (n.world.members x).installed) → (ticks_in list ≤ g.nodes + 4) ⊎ Led g n
    one active led top = ⊎_elim
        (λ a. inl (let p = and_parts (acts_on g n.world a.number) (nat_lt (n.world.members a.number).installed (n.world.members s).installed) a.passes in
        let q = follows_same (n.world.members a.number) (act a.number p.0) in
        let l = ltb-true (n.world.members a.number).installed (n.world.members s).installed p.1 in
        let t = two M g n s a.number lives leading p.0 (omega arith) (omega arith) list idle in let b = a.below in omega arith))
        (λ none. inr (record { leader = s; acts = lives; leads = leading; each = λ x e. (act x e, let low = acting g n x e in let u = top.greatest x low e in let v = ltb-false (n.world.members x).installed (n.world.members s).installed (both (acts_on g n.world x) (nat_lt (n.world.members x).installed (n.world.members s).installed) e (none x low)) in let w = same in omega arith) }))
        (search g.nodes (λ x. acts_on g n.world x && nat_lt (n.world.members x).installed (n.world.members s).installed))
      where
        k : ℕ
        k = (n.world.members top.number).installed

        s : ℕ
        s = k % g.nodes

        act : (x : ℕ) → acts_on g n.world x ≡ true → is_active (n.world.members x) ≡ true
        act x e = other (acts_on g n.world x) (is_active (n.world.members x)) e (active x (acting g n x e))

        lives : acts_on g n.world s ≡ true
        lives = other (acts_on g n.world top.number) (acts_on g n.world s) top.passes (led top.number (acting g n top.number top.passes))

        same : (n.world.members s).installed ≡ k
        same = let a = (h.fits s).bounds.leads k (h.fits top.number).stands.up refl in let b = top.greatest s (acting g n s lives) lives in omega arith

        leading : leads g s (n.world.members s) ≡ true
        leading = ap (λ (b : Bool). b && ((n.world.members s).installed % g.nodes == s)) (act s lives) ∙ eq-eqb _ _ (ap (λ (i : ℕ). i % g.nodes) same)

        both : (b c : Bool) → b ≡ true → (b && c) ≡ false → c ≡ false
        both true c e q = q
        both false c e q = no (sym e)

pub led : (M : Type 0) → LedLaw M
led M g small few n r m acts [] idle = inl (omega arith)
led M g small few n r m acts (move ∷ more) idle = split g n few (subst (λ (w : GroupWorld M). Inv g w) (sym r.is) (reached g small r.events)) m acts (move ∷ more) idle (λ x low. (idle.1 x low).inside)
