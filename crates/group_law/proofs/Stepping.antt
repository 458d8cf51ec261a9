-- What a step does to what members applied.
use Rattle.std.proofs.Common.{◌≡◌, ℕ, ◌*◌, ◌<◌, ◌&&◌, nat_lt, Bool, true, false, refl, sym, ap, ◌∙◌, arith, subst}
use Rattle.std.proofs.lemmas.Bool.{cond_both, ltb-true, and_parts}
use Rattle.group_rules.specs.Messages.{Group}
use Rattle.group_rules.specs.Member.{Member}
use Rattle.group_rules.specs.Work.{Work}
use Rattle.group_rules.specs.Steps.{note}
use Rattle.group_rules.specs.World.{Past, GroupWorld, Event, put, acts_on, may_apply, gnext}
use Rattle.group_law.proofs.Lists.{same_less}
use Rattle.group_law.proofs.Grows.{at_both}
use Rattle.group_law.proofs.Ready.{Inv}
use Rattle.group_law.proofs.Events.{happened}
use Rattle.group_law.proofs.Law.{reached}
use Rattle.group_law.proofs.Steps.{grows_at}
use Rattle.group_law.proofs.Later.{lasting}
use Rattle.group_law.proofs.Walk.{Came, nothing, Any, Keeper, walk_note}
use Rattle.group_law.proofs.Course.{Course, walk_event}
use Rattle.group_law.proofs.Forth.{forward_at}
use Rattle.group_law.specs.Agreed.{StepKeeps, StepsLaw}

-- work of a member that applied so much
abbrev Applies : {M : Type 0} → ℕ → Work M → Type 0
Applies n u = u.state.applied ≡ n

keeps_applied : {M : Type 0} (g : Group M) (m n : ℕ) (c : Came) → m < g.nodes → Keeper g m c Any (Unit {0}) (λ (u : Work M). Applies n u)
keeps_applied g m n c low = record {
  low = low;
  tells = λ u k to t goes way o says h. h;
  turns = λ u t how h. how.applied ∙ h;
  orders = λ u x here h. h;
  leaving = λ u l h. h;
  promising = λ u k le is other h. h;
}

-- unless the event is its note
abbrev Unnoted : {M : Type 0} → Event M → ℕ → Type 0
Unnoted event m = (n : ℕ) → event ≡ Event.Note m n → ⊥

abbrev Goes : {M : Type 0} → Event M → GroupWorld M → ℕ → Past M → Work M → Type 0
Goes event w m p u = Unnoted event m → Applies (w.members m).applied u

keeps_unnoted : {M : Type 0} (g : Group M) (w : GroupWorld M) (event : Event M) (m : ℕ) (p : Past M) (c : Came) → m < g.nodes → Keeper g m c Any (Unit {0}) (Goes event w m p)
keeps_unnoted g w event m p c low = record {
  low = low;
  tells = λ u k to t goes way o says h none. h none;
  turns = λ u t how h none. how.applied ∙ h none;
  orders = λ u x here h none. h none;
  leaving = λ u l h none. h none;
  promising = λ u k le is other h none. h none;
}

unnoted_course : {M : Type 0} {g : Group M} {w : GroupWorld M} (event : Event M) → Course g w event (Goes event w)
unnoted_course {M} {g} {w} event = record {
  alone = λ m p low. keeps_unnoted g w event m p _ low;
  came = λ m q low sent goes. keeps_unnoted g w event m w.past _ low;
  rests = λ m low none. refl;
  submits = λ m x low is can none. refl;
  notes = λ m n low is above le none. absurd (none n is);
  keeping = λ m k from j low sent o is. (λ none. refl, λ u b e h best many base none. h none);
  coordinates = λ m s low when is h. (λ none. h none, λ u b e d best many base none. d none);
  tells = λ m k from a b members log low sent above le base none. refl;
}

unnoted_at : {M : Type 0} {g : Group M} {w : GroupWorld M} (event : Event M) → 2 * g.resilience < g.nodes → Inv g w → (x : ℕ) → Unnoted event x → ((gnext g w event).members x).applied ≡ (w.members x).applied
unnoted_at {M} {g} {w} event small h = walk_event (Goes event w) (λ (v : GroupWorld M). (x : ℕ) → Unnoted event x → (v.members x).applied ≡ (w.members x).applied) event small h (unnoted_course event)
    (λ m p u low d x none. at_both w.members m u.state x (λ (t : Member M). t.applied ≡ (w.members x).applied) (λ e. d (λ n q. none n (q ∙ ap (λ i. Event.Note i n) (sym e))) ∙ ap (λ i. (w.members i).applied) (sym e)) (λ e. refl))
    (λ lives x none. refl) (λ x none. refl)

noted_at : {M : Type 0} (g : Group M) (w : GroupWorld M) (m n : ℕ) → acts_on g w m ≡ true → may_apply (w.members m) n ≡ true → ((gnext g w (Event.Note m n)).members m).applied ≡ n
noted_at {M} g w m n acts may =
    cond_both (acts_on g w m && may_apply (w.members m) n) (put w m w.past (note g m n (w.members m))) w (λ (v : GroupWorld M). (v.members m).applied ≡ n)
    (λ e. at_both w.members m (note g m n (w.members m)).state m (λ (t : Member M). t.applied ≡ n) (λ f. is) (λ f. absurd (f refl)))
    (λ e. absurd (both (acts_on g w m) (may_apply (w.members m) n) acts may e))
  where
    low : m < g.nodes
    low = ltb-true m g.nodes (and_parts (nat_lt m g.nodes) (w.lives m) acts).0

    is : Applies n (note g m n (w.members m))
    is = walk_note (keeps_applied g m n nothing low) tt tt n (w.members m) refl

    both : (a b : Bool) → a ≡ true → b ≡ true → (a && b) ≡ false → ⊥
    both true true e f = λ q. cc
    both true false e f = λ q. cc
    both false b e f = λ q. cc

pub step_keeps : {M : Type 0} {g : Group M} {w : GroupWorld M} (event : Event M) → 2 * g.resilience < g.nodes → Inv g w → StepKeeps g w event
step_keeps {M} {g} {w} event small h = record {
  applied = λ m none. unnoted_at event small h m none;
  noted = λ m n is acts may. subst (λ (e : Event M). ((gnext g w e).members m).applied ≡ n) (sym is) (noted_at g w m n acts may);
  refused = λ m n is may. subst (λ (e : Event M). gnext g w e ≡ w) (sym is) (cond_both (acts_on g w m && may_apply (w.members m) n) (put w m w.past (note g m n (w.members m))) w (λ (v : GroupWorld M). v ≡ w) (λ e. absurd (both e may)) (λ e. refl));
  entries = λ m.
      let v = lasting small (grows_at event small h).grows h (happened event small h) in
      let a = (h.holds m).applied in
      let b = (forward_at event small h m).accepted in
      same_less _ _ _ _ (omega arith) (v.members m m);
}
  where
    both : {a : Bool} → a ≡ true → a ≡ false → ⊥
    both {a} e f = let q : true ≡ false = sym e ∙ f in cc

pub steps_law : (M : Type 0) → StepsLaw M
steps_law M g small events event = step_keeps event small (reached g small events)
