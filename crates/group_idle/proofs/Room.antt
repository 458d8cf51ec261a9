-- The next entry fits into the window of a member that is behind.
use Rattle.std.proofs.Common.{◌≡◌, ℕ, zero, suc, ◌+◌, ◌-◌, ◌%◌, ◌≤◌, ◌<◌, ◌==◌, min, max, nat_le, true, false, Option, Some, None, length, refl, sym, arith, subst}
use Rattle.std.proofs.lemmas.Bool.{cond_both, eqb-false, leb-true, leb-false, lt-ltb}
use Rattle.orca_base.specs.declared.limits.TheConstants.{WINDOW, ENTRIES_BEFORE_PURGE}
use Rattle.group_rules.specs.Messages.{Group}
use Rattle.group_rules.specs.Member.{Report, Member, has_room, purged, lesser, least_heard, stable_of}
use Rattle.group_rules.specs.World.{GroupWorld, run, opening}
use Rattle.group_rules.specs.Agree.{Kept}
use Rattle.group_law.specs.Told.{Purges}
use Rattle.group_law.proofs.Law.{reached}
use Rattle.group_law.proofs.Tally.{purges_law}
use Rattle.group_idle.proofs.Parts.{RoomLaw}

-- what is at most the own number, and at most what was heard of each other member, is at most the least
pub at_most_least : (n m : ℕ) (heard : ℕ → Option ℕ) (own b : ℕ) → b ≤ own → ((x v : ℕ) → x < n → (x ≡ m → ⊥) → heard x ≡ Some v → b ≤ v) → b ≤ least_heard n m heard own
at_most_least zero m heard own b le each = le
at_most_least (suc n) m heard own b le each = go (at_most_least n m heard own b le (λ x v l other e. each x v (omega arith) other e))
  where
    one : b ≤ least_heard n m heard own → (o : Option ℕ) → heard n ≡ o → (n ≡ m → ⊥) → b ≤ lesser o (least_heard n m heard own)
    one rest None e other = rest
    one rest (Some h) e other = let a = each n h (omega arith) other e in omega arith

    go : b ≤ least_heard n m heard own → b ≤ least_heard (suc n) m heard own
    go rest = cond_both (n == m) _ _ (λ v. b ≤ v) (λ e. rest) (λ e. one rest (heard n) refl (eqb-false n m e))

-- a sequencer's base is at most the one that its incarnation began with, or the stable number that it tells
pub base_within : {M : Type 0} {g : Group M} {w : GroupWorld M} (m : ℕ) (kept : Report M) → Purges g w → m ≡ (w.members m).installed % g.nodes → Kept g.nodes (w.past.insts (w.members m).installed).answers kept → (w.members m).base ≤ (w.members m).applied → (w.members m).base ≤ max kept.base (stable_of g m (w.members m))
base_within {M} {g} {w} m kept p here is own = by (nat_le (w.members m).base kept.base) refl
  where
    by : (b : _) → nat_le (w.members m).base kept.base ≡ b → (w.members m).base ≤ max kept.base (stable_of g m (w.members m))
    by true e = let l = leb-true (w.members m).base kept.base e in omega arith
    by false e =
        let l = leb-false (w.members m).base kept.base e in
        let s = at_most_least g.nodes m (w.members m).heard (w.members m).applied (w.members m).base own (λ x v le other h. let a = p.heard m x v kept here le other h is in omega arith) in
        omega arith

pub fits : {M : Type 0} (t : Member M) (b0 base stable top : ℕ) → b0 ≤ t.base → base ≤ max b0 stable → top ≤ base + WINDOW → length t.log < top → t.applied ≡ length t.log → has_room (purged t stable) ≡ true
fits {M} t b0 base stable top above within window less applied = cond_both (nat_le ENTRIES_BEFORE_PURGE (length t.log - t.base)) (record t { base = max t.base (min stable t.applied) }) t (λ s. has_room s ≡ true)
    (λ e. lt-ltb _ _ (omega arith))
    (λ e. let l = leb-false ENTRIES_BEFORE_PURGE (length t.log - t.base) e in lt-ltb _ _ (omega arith))

pub room : (M : Type 0) → RoomLaw M
room M g small events m x low lx here same less applied =
    let p = purges_law M g small events in
    let h = reached g small events in
    let kept = p.kept ((run g opening events).members m).installed (h.fits m).stands.up in
    let above = (p.base x).above kept.0 (subst (λ (i : ℕ). Kept g.nodes (((run g opening events).past.insts i).answers) kept.0) (sym same) kept.1) in
    fits ((run g opening events).members x) kept.0.base ((run g opening events).members m).base (stable_of g m ((run g opening events).members m)) (length ((run g opening events).members m).log) above
    (base_within m kept.0 p here kept.1 (h.holds m).base) (h.holds m).window less applied
