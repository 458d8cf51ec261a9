-- What a coordinator does with the answers that it keeps.
use Rattle.std.proofs.Common.{◌≡◌, ℕ, ◌-◌, ◌*◌, ◌%◌, ◌<◌, ◌≤◌, map, nat_le, true, false, Option, Some, None, List, [], length, drop, refl, sym, ap, subst, ◌∙◌, arith, length-drop, All}
use Rattle.orca_base.specs.declared.ids.MessageId.{MessageId}
use Rattle.group_packets.specs.declared.packet.Join.{Join}
use Rattle.group_packets.specs.declared.packet.News.{News}
use Rattle.group_rules.specs.Sets.{count}
use Rattle.group_rules.specs.Messages.{Group, group_of}
use Rattle.group_rules.specs.Member.{Member as RulesMember, Report, leaves}
use Rattle.group_rules.specs.OnWire.{members_below, on_join}
use Rattle.group_rules.specs.Reset.{applied_of, begin, best, gave, install, most_accepted, take_over}
use Rattle.group_rules.specs.Work.{Work}
use Rattle.group_member.specs.declared.member.Member.{Member}
use Rattle.group_member.specs.declared.sends.Letter.{Letter}
use Rattle.group_member.specs.AtWork.{AtWork}
use Rattle.group_member.specs.Installs.{CanInstall, Carried}
use Rattle.group_member.specs.StandsFor.{Follows, StandsFor, Tells}
use Rattle.group_member.specs.TakesOver.{InstallsOver, heard_in}
use Rattle.group_member.proofs.Rows.{held_then, held_else}
use Rattle.group_reset.specs.declared.outcome.Joined.{Joined}
use Rattle.group_reset.specs.declared.outcome.Joined.TheVariants.{Waiting, GaveUp, Installed}
use Rattle.group_reset.specs.Choice.{applied_with, best_by, extent_of, gave_by, most_by}
use Rattle.group_rules.specs.Reset.{CanGather, CanTake}
use Rattle.group_reset.specs.Concludes.{CanConclude, Concludes, IsNewsOf, gathered, taken}
use Rattle.group_reset.proofs.Choosing.{Travels, all_based, best_based, best_same, counts_as, gave_as, heard_as, members_as, members_low, most_own, most_reaches, most_same, none_best, travels, whole_extent, IsBased}

within : (m n : ℕ) → m ≤ n → nat_le m n ≡ true
within m n l = grind arith

beyond : (m n : ℕ) → n < m → nat_le m n ≡ false
beyond m n l = grind arith

-- ---- the answers, by the rules

pub count_same : {B R : Type 0} {g : Group B} {which : ℕ} {s : Member B R} {m : RulesMember B} → StandsFor g which s m → count g.nodes (gave m.answers) ≡ count s.config.nodes (gave_by s.answers.items)
count_same {g = g} {s = s} {m} h = counts_as g.nodes (gave m.answers) (gave_by s.answers.items) (gave_as m.promised m.answers s.answers.items h.answers) ∙ ap (λ (n : ℕ). count n (gave_by s.answers.items)) (sym h.nodes)

pub chosen : {B R : Type 0} {g : Group B} {which : ℕ} {s : Member B R} {m : RulesMember B} (kept : Join B R) → StandsFor g which s m → best_by s.config.nodes s.answers.items ≡ Some kept → Travels m.promised (best g.nodes m.answers) kept
chosen {B} {R} {g} {which} {s} {m} kept h e =
    travels m.promised (best g.nodes m.answers) kept (best_same m.promised g.nodes m.answers s.answers.items h.answers (all_based h) ∙ (ap (λ (n : ℕ). best_by n s.answers.items) (sym h.nodes) ∙ e))

pub chosen_based : {B R : Type 0} {g : Group B} {which : ℕ} {s : Member B R} {m : RulesMember B} (report : Report B) → StandsFor g which s m → best g.nodes m.answers ≡ Some report → report.base ≤ length report.log
chosen_based {B} {g = g} {m = m} report h e = subst (λ (o : Option (Report B)). IsBased o) e (best_based g.nodes m.answers (all_based h))

pub most_as : {B R : Type 0} {g : Group B} {which : ℕ} {s : Member B R} {m : RulesMember B} → StandsFor g which s m → most_accepted g.nodes m.answers m.accepted ≡ most_by s.config.nodes s.answers.items s.accepted
most_as {g = g} {s = s} {m} h =
    most_same m.promised g.nodes m.accepted m.answers s.answers.items h.answers ∙ (ap (λ (n : ℕ). most_by n s.answers.items m.accepted) (sym h.nodes) ∙ ap (λ (n : ℕ). most_by s.config.nodes s.answers.items n) h.accepted)

pub enough_same : {B R : Type 0} {g : Group B} {which : ℕ} {s : Member B R} {m : RulesMember B} → StandsFor g which s m → s.config.nodes - s.config.resilience ≤ count s.config.nodes (gave_by s.answers.items) → g.nodes - g.resilience ≤ count g.nodes (gave m.answers)
enough_same h many =
    let c = count_same h in
    let n = h.nodes in
    let r = h.resilience in
    omega arith

-- what the rules' member can take the code can install
pub can_conclude : {B R : Type 0} {g : Group B} {which : ℕ} (s : Member B R) (m : RulesMember B) → s.promised % s.config.nodes ≡ s.me → StandsFor g which s m → CanGather g m → CanConclude s
can_conclude {B} {R} {g} {which} s m here h can = record {
  here = here;
  reaches = λ many kept e low.
      let t = chosen kept h e in
      let c = takes many kept e low in
      let a = most_as h in
      let l = most_reaches g.nodes m.accepted (length t.report.log) m.answers c.own c.reported in
      let x : extent_of (on_join {R = R} m.promised t.report) ≡ length t.report.log = whole_extent R m.promised t.report (chosen_based t.report h t.is) in
      let y : extent_of (on_join {M = B} {R = R} m.promised t.report) ≡ extent_of kept = ap (λ (j : Join B R). extent_of j) t.carries in
      omega arith;
  fits = λ many kept e low.
      let t = chosen kept h e in
      let c = takes many kept e low in
      let w = c.window in
      let d = length-drop t.report.base t.report.log in
      let y : length (drop t.report.base t.report.log) ≡ length kept.messages = ap (λ (j : Join B R). length j.messages) t.carries in
      omega arith;
}
  where
    takes : s.config.nodes - s.config.resilience ≤ count s.config.nodes (gave_by s.answers.items) → (kept : Join B R) → (e : best_by s.config.nodes s.answers.items ≡ Some kept) → kept.base ≤ s.applied → CanTake m (chosen kept h e).report
    takes many kept e low =
        let t = chosen kept h e in
        let b : t.report.base ≡ kept.base = ap (λ (j : Join B R). j.base) t.carries in
        let a = h.applied in
        can (enough_same h many) t.report t.is (omega arith)

-- ---- it waits

pub waits_row : {B R : Type 0} (name : B → MessageId) (bytes : B → ℕ) (s : Member B R) (sends : List (Letter B R)) (have need : ℕ) → sends ≡ [] → have ≡ count s.config.nodes (gave_by s.answers.items) → need ≡ s.config.nodes - s.config.resilience → have < need → Concludes name bytes s s sends
waits_row {B} {R} name bytes s sends have need none is wants few = λ N r which v h can.
    let c = count_same h.state in
    let n = h.state.nodes in
    let e = h.state.resilience in
    held_else (AtWork (group_of name bytes N r) which s sends) (nat_le (N - r) (count N (gave v.state.answers))) _ _ (beyond (N - r) (count N (gave v.state.answers)) (omega arith)) (subst (λ (l : List (Letter B R)). AtWork (group_of name bytes N r) which s l v) (sym none) h)

pub waits_outcome : {B R : Type 0} (name : B → MessageId) (bytes : B → ℕ) (s : Member B R) (have need : ℕ) → have ≡ count s.config.nodes (gave_by s.answers.items) → need ≡ s.config.nodes - s.config.resilience → have < need → Tells name bytes s (λ g which m. Waiting have need ≡ gathered g m)
waits_outcome {B} {R} name bytes s have need is wants few = λ N r which m h.
    let c = count_same h in
    let n = h.nodes in
    let e = h.resilience in
    let p : have ≡ count N (gave m.answers) = is ∙ sym c in
    let q : need ≡ N - r = omega arith in
    held_else (λ (o : Joined). Waiting have need ≡ o) (nat_le (N - r) (count N (gave m.answers))) _ _ (beyond (N - r) (count N (gave m.answers)) (omega arith)) (rw (p, q) refl)

-- ---- it gives up

pub leaves_row : {B R : Type 0} (name : B → MessageId) (bytes : B → ℕ) (s t : Member B R) (sends : List (Letter B R)) (kept : Join B R) → sends ≡ [] → s.config.nodes - s.config.resilience ≤ count s.config.nodes (gave_by s.answers.items) → best_by s.config.nodes s.answers.items ≡ Some kept → s.applied < kept.base
    → Follows name bytes s t (λ g which. leaves) → Concludes name bytes s t sends
leaves_row {B} {R} name bytes s t sends kept none many e above f = λ N r which v h can.
    let k = chosen kept h.state e in
    let b : k.report.base ≡ kept.base = ap (λ (j : Join B R). j.base) k.carries in
    let a = h.state.applied in
    held_then (AtWork (group_of name bytes N r) which t sends) (nat_le (N - r) (count N (gave v.state.answers))) _ _ (within (N - r) (count N (gave v.state.answers)) (enough_same h.state many))
    (subst (λ (o : Option (Report B)). AtWork (group_of name bytes N r) which t sends (install (group_of name bytes N r) which o v)) (sym k.is)
    (held_else (AtWork (group_of name bytes N r) which t sends) (nat_le k.report.base v.state.applied) _ _ (beyond k.report.base v.state.applied (omega arith)) (record { state = f N r which v.state h.state; sends = none ∙ h.sends })))

pub leaves_outcome : {B R : Type 0} (name : B → MessageId) (bytes : B → ℕ) (s : Member B R) (kept : Join B R) (applied : ℕ) → applied ≡ s.applied → s.config.nodes - s.config.resilience ≤ count s.config.nodes (gave_by s.answers.items) → best_by s.config.nodes s.answers.items ≡ Some kept → applied < kept.base
    → Tells name bytes s (λ g which m. GaveUp kept.base applied ≡ gathered g m)
leaves_outcome {B} {R} name bytes s kept applied its many e above = λ N r which m h.
    let k = chosen kept h e in
    let b : k.report.base ≡ kept.base = ap (λ (j : Join B R). j.base) k.carries in
    let a = h.applied in
    held_then (λ (o : Joined). GaveUp kept.base applied ≡ o) (nat_le (N - r) (count N (gave m.answers))) _ _ (within (N - r) (count N (gave m.answers)) (enough_same h many))
    (subst (λ (o : Option (Report B)). GaveUp kept.base applied ≡ taken o m.applied) (sym k.is)
    (held_else (λ (o : Joined). GaveUp kept.base applied ≡ o) (nat_le k.report.base m.applied) _ _ (beyond k.report.base m.applied (omega arith)) (rw (b, a, its) refl)))

-- ---- it installs

pub installs_outcome : {B R : Type 0} (name : B → MessageId) (bytes : B → ℕ) (s : Member B R) (kept : Join B R) → s.config.nodes - s.config.resilience ≤ count s.config.nodes (gave_by s.answers.items) → best_by s.config.nodes s.answers.items ≡ Some kept → kept.base ≤ s.applied
    → Tells name bytes s (λ g which m. Installed ≡ gathered g m)
installs_outcome {B} {R} name bytes s kept many e low = λ N r which m h.
    let k = chosen kept h e in
    let b : k.report.base ≡ kept.base = ap (λ (j : Join B R). j.base) k.carries in
    let a = h.applied in
    held_then (λ (o : Joined). Installed ≡ o) (nat_le (N - r) (count N (gave m.answers))) _ _ (within (N - r) (count N (gave m.answers)) (enough_same h many))
    (subst (λ (o : Option (Report B)). Installed ≡ taken o m.applied) (sym k.is)
    (held_then (λ (o : Joined). Installed ≡ o) (nat_le k.report.base m.applied) _ _ (within k.report.base m.applied (omega arith)) refl))

pub can_install : {B R : Type 0} (s : Member B R) (kept : Join B R) (most : ℕ) (news : News B R) → IsNewsOf s kept most news → most ≡ most_by s.config.nodes s.answers.items s.accepted → CanConclude s → s.config.nodes - s.config.resilience ≤ count s.config.nodes (gave_by s.answers.items) → best_by s.config.nodes s.answers.items ≡ Some kept → kept.base ≤ s.applied → CanInstall s news
can_install {B} {R} s kept most news made is can many e low =
    let a = made.accepted in
    let b = made.base in
    let l : length news.messages ≡ length kept.messages = ap (λ (xs : List B). length xs) made.messages in
    let own = most_own s.config.nodes s.accepted s.answers.items in
    let x = can.reaches many kept e low in
    let f = can.fits many kept e low in
    record {
      begins = omega arith;
      reaches = omega arith;
      accepted = omega arith;
      fits = omega arith;
      members = subst (λ (xs : List ℕ). All (λ x. x < s.config.nodes) xs) (sym made.members) (members_low s.config.nodes s.config.nodes (gave_by s.answers.items) (omega arith));
    }

pub installs_row : {B R : Type 0} (name : B → MessageId) (bytes : B → ℕ) (s t : Member B R) (kept : Join B R) (most : ℕ) (news : News B R) (heard : List (ℕ × ℕ)) (sends : List (Letter B R)) → IsNewsOf s kept most news → most ≡ most_by s.config.nodes s.answers.items s.accepted → heard ≡ map applied_with s.answers.items → s.config.nodes - s.config.resilience ≤ count s.config.nodes (gave_by s.answers.items)
    → best_by s.config.nodes s.answers.items ≡ Some kept → kept.base ≤ s.applied → InstallsOver name bytes news heard s t sends → Concludes name bytes s t sends
installs_row {B} {R} name bytes s t kept most news heard sends made is told many e low d = λ N r which v h can.
    let k = chosen kept h.state e in
    let b : k.report.base ≡ kept.base = ap (λ (j : Join B R). j.base) k.carries in
    let a = h.state.applied in
    held_then (AtWork (group_of name bytes N r) which t sends) (nat_le (N - r) (count N (gave v.state.answers))) _ _ (within (N - r) (count N (gave v.state.answers)) (enough_same h.state many))
    (subst (λ (o : Option (Report B)). AtWork (group_of name bytes N r) which t sends (install (group_of name bytes N r) which o v)) (sym k.is)
    (held_then (AtWork (group_of name bytes N r) which t sends) (nat_le k.report.base v.state.applied) _ _ (within k.report.base v.state.applied (omega arith))
    (begun N r which v h k (can (enough_same h.state many) k.report k.is (omega arith)))))
  where
    begun : (N r which : ℕ) (v : Work B) → AtWork (group_of name bytes N r) which s [] v → (k : Travels v.state.promised (best N v.state.answers) kept) → CanTake v.state k.report → AtWork (group_of name bytes N r) which t sends (begin (group_of name bytes N r) which k.report v)
    begun N r which v h k c =
        subst (λ (n : ℕ). AtWork (group_of name bytes N r) which t sends (take_over (group_of name bytes N r) which n (most_accepted N v.state.answers v.state.accepted) k.report.base (gave v.state.answers) k.report.log (λ x. applied_of (v.state.answers x)) v.state.answers v)) (made.incarnation ∙ sym h.state.promised)
        (subst (λ (n : ℕ). AtWork (group_of name bytes N r) which t sends (take_over (group_of name bytes N r) which news.incarnation n k.report.base (gave v.state.answers) k.report.log (λ x. applied_of (v.state.answers x)) v.state.answers v)) (made.accepted ∙ (is ∙ sym (most_as h.state)))
        (subst (λ (n : ℕ). AtWork (group_of name bytes N r) which t sends (take_over (group_of name bytes N r) which news.incarnation news.accepted n (gave v.state.answers) k.report.log (λ x. applied_of (v.state.answers x)) v.state.answers v)) base
        (d N r which v (gave v.state.answers) k.report.log (λ x. applied_of (v.state.answers x)) v.state.answers h carried (λ x l. heard_as v.state.promised v.state.answers s.answers.items h.state.answers x ∙ ap (heard_in x) (sym told)))))
      where
        base : news.base ≡ k.report.base
        base = made.base ∙ sym (ap (λ (j : Join B R). j.base) k.carries)

        carried : Carried N news (gave v.state.answers) k.report.log v.state
        carried = record {
          members = members_as N (gave v.state.answers) (gave_by s.answers.items) (gave_as v.state.promised v.state.answers s.answers.items h.state.answers) ∙ (ap (λ (n : ℕ). members_below n (gave_by s.answers.items)) (sym h.state.nodes) ∙ sym made.members);
          messages = ap (λ (n : ℕ). drop n k.report.log) base ∙ (ap (λ (j : Join B R). j.messages) k.carries ∙ sym made.messages);
          base = let l = chosen_based k.report h.state k.is in omega arith;
          applied = c.applied;
        }

-- the coordinator's install reaches what it accepted
pub most_reached : {B R : Type 0} (s : Member B R) (kept : Join B R) (most : ℕ) (news : News B R) → IsNewsOf s kept most news → most ≡ most_by s.config.nodes s.answers.items s.accepted → s.accepted ≤ news.accepted
most_reached s kept most news made is =
    let a = made.accepted in
    let own = most_own s.config.nodes s.accepted s.answers.items in
    omega arith

pub here_still : {B R : Type 0} (s : Member B R) (kept : Join B R) (most : ℕ) (news : News B R) → IsNewsOf s kept most news → CanConclude s → news.incarnation % s.config.nodes ≡ s.me
here_still s kept most news made can = rw made.incarnation can.here

-- enough answered, so there is one
pub some_kept : {B R : Type 0} (s : Member B R) (have need : ℕ) → have ≡ count s.config.nodes (gave_by s.answers.items) → need ≡ s.config.nodes - s.config.resilience → need ≤ have → 2 * s.config.resilience < s.config.nodes → best_by s.config.nodes s.answers.items ≡ None → ⊥
some_kept s have need is wants many few e = let z = none_best s.config.nodes s.answers.items e in omega arith
