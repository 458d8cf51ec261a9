-- A coordinator that gathers keeps its own answer.
use Rattle.std.proofs.Common.{◌≡◌, ℕ, ◌*◌, ◌%◌, ◌<◌, true, Option, Some, is_some, List, [], ◌∷◌, refl, sym, ap, ◌∙◌, arith, subst}
use Rattle.group_rules.specs.Messages.{Group}
use Rattle.group_rules.specs.Member.{Report, Member, nobody, report_of}
use Rattle.group_rules.specs.Work.{Work}
use Rattle.group_rules.specs.World.{GroupWorld, Event, gnext, run, opening}
use Rattle.group_law.proofs.Grows.{at_both}
use Rattle.group_law.proofs.Ready.{Inv}
use Rattle.group_law.proofs.Events.{happened}
use Rattle.group_law.proofs.Walk.{Came, Any, Keeper}
use Rattle.group_law.proofs.Course.{Course, walk_event}

abbrev pub Own : {M : Type 0} → Group M → ℕ → Member M → Type 0
Own g m s = s.installed < s.promised → m ≡ s.promised % g.nodes → is_some (s.answers m) ≡ true

keeps_own : {M : Type 0} (g : Group M) (m : ℕ) (c : Came) → m < g.nodes → Keeper g m c Any (Unit {0}) (λ (u : Work M). Own g m u.state)
keeps_own {M} g m c low = record {
  low = low;
  tells = λ u k to t goes way o says h. h;
  turns = λ u t how h l here. subst (λ (f : ℕ → Option (Report M)). is_some (f m) ≡ true) (sym how.answers) (h (let a = how.installed in let b = how.promised in omega arith) (here ∙ ap (λ i. i % g.nodes) how.promised));
  orders = λ u x here h. h;
  leaving = λ u l h. h;
  promising = λ u k le is other h l here. absurd (other here);
}

own_course : {M : Type 0} {g : Group M} {w : GroupWorld M} (event : Event M) → ((m : ℕ) → Own g m (w.members m)) → Course g w event (λ m p u. Own g m u.state)
own_course {M} {g} {w} event t = record {
  alone = λ m p low. keeps_own g m _ low;
  came = λ m q low sent goes. keeps_own g m _ low;
  rests = λ m low. t m;
  submits = λ m x low is can. t m;
  notes = λ m n low is above le. t m;
  keeping = λ m k from j low sent o is. (λ l here. at_both (w.members m).answers from (Some j) m (λ a. is_some a ≡ true) (λ e. refl) (λ e. t m l here), λ u b e d best many base l here. absurd (omega arith));
  coordinates = λ m s low when is h. (λ l here. at_both nobody m (Some (report_of s)) m (λ a. is_some a ≡ true) (λ e. refl) (λ e. absurd (e refl)), λ u b e d best many base l here. absurd (omega arith));
  tells = λ m k from a b members log low sent above le base l here. absurd (omega arith);
}

own_at : {M : Type 0} {g : Group M} {w : GroupWorld M} (event : Event M) → 2 * g.resilience < g.nodes → Inv g w → ((m : ℕ) → Own g m (w.members m)) → (m : ℕ) → Own g m ((gnext g w event).members m)
own_at {M} {g} {w} event small h t = walk_event (λ m p u. Own g m u.state) (λ (v : GroupWorld M). (x : ℕ) → Own g x (v.members x)) event small h (own_course event t)
    (λ m p u low d x. at_both w.members m u.state x (λ s. Own g x s) (λ e. rw e d) (λ e. t x)) (λ lives. t) t

pub own_runs : {M : Type 0} {g : Group M} (w : GroupWorld M) (es : List (Event M)) → 2 * g.resilience < g.nodes → Inv g w → ((m : ℕ) → Own g m (w.members m)) → (m : ℕ) → Own g m ((run g w es).members m)
own_runs w [] small h t = t
own_runs {M} {g} w (e ∷ es) small h t = own_runs (gnext g w e) es small (happened e small h) (own_at e small h t)

pub own_opened : {M : Type 0} (g : Group M) (m : ℕ) → Own {M = M} g m (opening.members m)
own_opened g m l here = absurd (omega arith)
