-- What the run with the wrong purge comes to, each fact by computation.
use Rattle.std.proofs.Common.{ℕ, zero, suc, ◌≡◌, ◌≤◌, ◌&&◌, Bool, true, false, refl, sym, ◌∙◌, arith, lit<}
use Rattle.std.proofs.lemmas.Bool.{cond_both}
use Rattle.orca_base.specs.declared.limits.TheConstants.{ENTRIES_BEFORE_PURGE}
use Rattle.group_rules.specs.Messages.{Group}
use Rattle.group_rules.specs.Steps.{note}
use Rattle.group_rules.specs.Runs.{group}
use Rattle.group_rules.specs.World.{GroupWorld, answered_of, acts_on, may_apply, put, gnext}
use Rattle.group_rules.specs.World.Event.{Note}
use Rattle.group_law.specs.Told.{Purges}
use Rattle.group_law.specs.WrongPurge.{ordered_alone, noted_rightly, noted_by, note_to_own_applied}

noted_if : (g : Group ℕ) (w : GroupWorld ℕ) (m n : ℕ) → (acts_on g w m && may_apply (w.members m) n) ≡ true → gnext g w (Note m n) ≡ put w m w.past (note g m n (w.members m))
noted_if g w m n e = cond_both (acts_on g w m && may_apply (w.members m) n) (put w m w.past (note g m n (w.members m))) w (λ v. v ≡ put w m w.past (note g m n (w.members m))) (λ f. refl) (λ f. absurd (no (acts_on g w m && may_apply (w.members m) n) e f))
  where
    no : (b : Bool) → b ≡ true → b ≡ false → ⊥
    no b e f = cc

may_note : (acts_on (group 3 0) ordered_alone 0 && may_apply (ordered_alone.members 0) ENTRIES_BEFORE_PURGE) ≡ true
may_note = refl

pub event_right : noted_rightly ≡ noted_by note
event_right = noted_if (group 3 0) ordered_alone 0 ENTRIES_BEFORE_PURGE may_note

pub base_right : (noted_rightly.members 0).base ≡ 0
base_right = refl

pub base_wrong : ((noted_by note_to_own_applied).members 0).base ≡ ENTRIES_BEFORE_PURGE
base_wrong = refl

stands_wrong : ((noted_by note_to_own_applied).members 0).installed ≡ 0
stands_wrong = refl

stands_other : ((noted_by note_to_own_applied).members 2).installed ≡ 0
stands_other = refl

applied_other : ((noted_by note_to_own_applied).members 2).applied ≡ 0
applied_other = refl

answered_other : (k : ℕ) → k ≡ 0 → answered_of (noted_by note_to_own_applied).past k 2 ≡ true
answered_other zero e = refl
answered_other (suc k) e = cc

not_spared : (base applied : ℕ) → base ≡ ENTRIES_BEFORE_PURGE → applied ≡ 0 → base ≤ applied → ⊥
not_spared base applied b a h = omega arith

pub breaks : Purges (group 3 0) (noted_by note_to_own_applied) → ⊥
breaks p = not_spared _ _ base_wrong applied_other (p.spared 2 0 (lit< tt) (stands_wrong ∙ sym stands_other) (answered_other _ stands_other))
