-- Whose task is out, after each kind of change.
use Rattle.std.proofs.Common.{◌≡◌, ◌≤◌, ◌<◌, ◌==◌, ◌∷◌, ℕ, zero, suc, Bool, true, false, List, [], Vec, Option, Some, None, refl, sym, ap, ◌∙◌, subst, arith, slice_index_or, if◌then◌else◌}
use Rattle.std.proofs.lemmas.Bool.{eqb-true}
use Rattle.std.specs.declared.alloc.Global.{Global}
use Rattle.orca_base.specs.declared.ids.ObjectId.{ObjectId}
use Rattle.value_core.specs.Meaning.{Performs}
use Rattle.value_core.specs.declared.action.Action.{Action}
use Rattle.value_core.specs.declared.action.Reply.{Reply}
use Rattle.value_core.specs.declared.message.Message.{Message}
use Rattle.group_rules.specs.Sets.{with_at}
use Rattle.object_manager.specs.After.{Copied, after as after_applied}
use Rattle.object_manager.specs.Singles.{after_passed}
use Rattle.object_manager.specs.State.{message_of}
use Rattle.object_manager.specs.Viewed.{Viewed}
use Rattle.book_law.specs.Fitness.{ReplyFits}
use Rattle.book_law.specs.Passes.{Test, is_passed}
use Rattle.book_law.specs.Members.{after_entry}
use Rattle.guard_queue.specs.declared.settling.Answered.{Answered}
use Rattle.group_member.specs.declared.member.Member.{Member}
use Rattle.world_rules.specs.Frame.{Frame}
use Rattle.world_rules.specs.Nodes.{known}
use Rattle.world_rules.specs.Played.{Played, Stage as stage}
use Rattle.world_rules.specs.Processes.{home_in, singles_of}
use Rattle.node_rules.specs.Conditions.{Fitness}
use Rattle.node_rules.specs.Handing.{waits_with}
use Rattle.node_core.specs.Calls.{HasKept, HasMoved, MayAsk, MayReadFirst}
use Rattle.node_core.specs.Entries.{HasTaken, Refused}
use Rattle.node_core.specs.Events.{acting_as, acting_at}
use Rattle.node_core.specs.Keeping.{IsCopy, KeepsBelow, KeepsTasks}
use Rattle.node_core.specs.Pieces.{HasPut, IsSomewhere, MayBeHanded, resident_at}
use Rattle.node_parts.specs.Shown.{IsPlayedIf, Left, Stood, on_stage}
use Rattle.node_parts.specs.declared.errand.Given.{Given}
use Rattle.node_core.specs.declared.node.Known.{Known}
use Rattle.node_core.specs.declared.node.Node.{Node}
use Rattle.node_parts.specs.declared.resident.Resident.{Resident}
use Rattle.node_parts.specs.declared.resident.Stage.{Stage}
use Rattle.node_parts.specs.declared.resident.Stage.TheVariants as at_stage
use Rattle.node_core.specs.declared.work.Work.{Work}
use Rattle.node_core.proofs.NextEntry.{HasTakenIn, knows}

some_same : {A : Type 0} (x y : A) → Some x ≡ Some y → x ≡ y
some_same x y is = cc is

none_some : {A : Type 0} (x : A) → None ≡ Some x → ⊥
none_some x is = cc is

-- ---- one after the other

pub keeps_below : {P S : Type 0} (number more : ℕ) (a b c : Node P S) → number ≤ more → KeepsBelow number a b → KeepsBelow more b c → KeepsBelow number a c
keeps_below number more a b c within first second =
    let one = first.more in
    let two = second.more in
    record {
      only = λ i s view is out. first.only i s view (second.only i s view is out) out;
      stay = λ i s below is computing. second.stay i s (omega (arith, below, within)) (first.stay i s below is computing) computing;
      more = omega (arith, one, two);
    }

pub keeps_on : {P S : Type 0} (a b c : Node P S) → KeepsTasks a b → KeepsTasks b c → KeepsTasks a c
keeps_on a b c first second = keeps_below a.copies.processes b.copies.processes a b c first.more first second

-- ---- no process changes

pub keeps_parts : {P S : Type 0} (number : ℕ) (old new : Node P S) → new.residents.items ≡ old.residents.items → old.copies.processes ≤ new.copies.processes → KeepsBelow number old new
keeps_parts {P} {S} number old new residents more = record {
  only = λ i s view is out. sym (ap (λ (l : List (Option (Resident S))). slice_index_or l i None) residents) ∙ is;
  stay = λ i s below is computing. ap (λ (l : List (Option (Resident S))). slice_index_or l i None) residents ∙ is;
  more = more;
}

pub keeps_none : {P S : Type 0} (number : ℕ) (s : Node P S) → KeepsBelow number s s
keeps_none number s = keeps_parts number s s refl (omega arith)

pub keeps_same : {P S : Type 0} (number : ℕ) (old new : Node P S) → new ≡ old → KeepsBelow number old new
keeps_same {P} {S} number old new same = subst (λ (n : Node P S). KeepsBelow number old n) (sym same) (keeps_none number old)

pub keeps_still : {P S : Type 0} (number : ℕ) (old new : Node P S) → new.residents.items ≡ old.residents.items → new.copies.processes ≡ old.copies.processes → KeepsBelow number old new
keeps_still number old new residents counted = keeps_parts number old new residents (omega (arith, counted))

pub keeps_copy : {P S : Type 0} (old new : Node P S) → IsCopy old new → KeepsTasks old new
keeps_copy old new is = keeps_still old.copies.processes old new is.residents (ap (λ (c : Copied). c.processes) is.copies)

pub keeps_member : {P S : Type 0} (old new : Node P S) (member : Member Message Reply) → new ≡ record old { member = member } → KeepsTasks old new
keeps_member {P} {S} old new member is =
    keeps_still old.copies.processes old new (ap (λ (n : Node P S). n.residents.items) is) (ap (λ (n : Node P S). n.copies.processes) is)

pub keeps_known : {P S : Type 0} (old new : Node P S) → new ≡ record old { known = new.known } → KeepsTasks old new
keeps_known {P} {S} old new is = keeps_still old.copies.processes old new (ap (λ (n : Node P S). n.residents.items) is) (ap (λ (n : Node P S). n.copies.processes) is)

pub keeps_copies : {P S : Type 0} (old new : Node P S) → new ≡ record old { copies = new.copies } → old.copies.processes ≤ new.copies.processes → KeepsTasks old new
keeps_copies {P} {S} old new is more = keeps_parts old.copies.processes old new (ap (λ (n : Node P S). n.residents.items) is) more

pub keeps_given : {P S : Type 0} (process : ℕ) (g : Given) (old new : Work P S) → HasKept process g old new → KeepsTasks old.node new.node
keeps_given {P} {S} process g old new has =
    keeps_still old.node.copies.processes old.node new.node (ap (λ (w : Work P S). w.node.residents.items) has.others) (ap (λ (w : Work P S). w.node.copies.processes) has.others)

-- ---- a process changes, which has no task out then

put_only : {S : Type 0} (olds : ℕ → Option (Resident S)) (k i : ℕ) (b s : Resident S) (view : Viewed) → b.out ≡ None → with_at olds k (Some b) i ≡ Some s → s.out ≡ Some view → olds i ≡ Some s
put_only {S} olds k i b s view none is out = go (i == k) is
  where
    go : (t : Bool) → (if t then Some b else olds i) ≡ Some s → olds i ≡ Some s
    go true here = absurd (none_some view (sym none ∙ ap (λ (r : Resident S). r.out) (some_same b s here) ∙ out))
    go false there = there

put_stay : {S : Type 0} (olds : ℕ → Option (Resident S)) (k i : ℕ) (b s : Resident S) → (i ≡ k → ⊥) → olds i ≡ Some s → with_at olds k (Some b) i ≡ Some s
put_stay {S} olds k i b s other is = go (i == k) refl
  where
    go : (t : Bool) → (i == k) ≡ t → (if t then Some b else olds i) ≡ Some s
    go true e = absurd (other (eqb-true i k e))
    go false e = is

pub keeps_put : {P S : Type 0} (number k : ℕ) (b : Resident S) (old new : Node P S) → HasPut k b old new → b.out ≡ None
    → ((s : Resident S) → k < number → resident_at old k ≡ Some s → s.stage ≡ at_stage.Computing → ⊥) → KeepsBelow number old new
keeps_put {P} {S} number k b old new put none waits =
    let counted : new.copies.processes ≡ old.copies.processes = ap (λ (n : Node P S). n.copies.processes) put.others in
    record {
      only = λ i s view is out. put_only (resident_at old) k i b s view none (sym (put.put i) ∙ is) out;
      stay = λ i s below is computing.
          put.put i ∙ put_stay (resident_at old) k i b s
          (λ same. waits s (subst (λ (n : ℕ). n < number) same below) (subst (λ (n : ℕ). resident_at old n ≡ Some s) same is) computing) is;
      more = omega (arith, counted);
    }

pub keeps_moved : {P S : Type 0} (k : ℕ) (to : Stage) (o : Option (Resident S)) (old new : Node P S) → HasMoved k to o old new → o ≡ resident_at old k
    → ((s : Resident S) → o ≡ Some s → s.stage ≡ at_stage.Computing → ⊥) → KeepsTasks old new
keeps_moved k to None old new has is waits = keeps_same old.copies.processes old new has
keeps_moved k to (Some r) old new has is waits =
    keeps_put old.copies.processes k (record r { stage = to; out = None }) old new has refl (λ s below at computing. waits s (is ∙ at) computing)

-- ---- who waits doesn't compute

stage_waits : (at : Stage) (r : Played) (act : Action) → on_stage at ≡ r.stage → waits_with r.stage ≡ Some act → at ≡ at_stage.Computing → ⊥
stage_waits at r act is waits computing = none_some act (ap waits_with (sym (ap on_stage computing) ∙ is) ∙ waits)

pub handed_waits : {S : Type 0} (stood : Stood S) (left : Left S) (fits : ReplyFits) (k : ℕ) (reply : Reply) (o : Option (Resident S)) (s : Resident S) → MayBeHanded stood left fits k reply o
    → o ≡ Some s → s.stage ≡ at_stage.Computing → ⊥
handed_waits stood left fits k reply None s may is computing = none_some s is
handed_waits stood left fits k reply (Some r) s may is computing =
    stage_waits r.stage may.played may.act may.is.stage may.may.waits (ap (λ (x : Resident _). x.stage) (some_same r s is) ∙ computing)

pub acting_waits : {S : Type 0} (k : ℕ) (o : Option (Resident S)) (s : Resident S) (x : Message) → acting_at k o ≡ Some x → o ≡ Some s → s.stage ≡ at_stage.Computing → ⊥
acting_waits {S} k o s x acts is computing = none_some x (sym (ap (acting_at k) is ∙ computes) ∙ acts)
  where
    computes : acting_at k (Some s) ≡ None
    computes = ap (λ (at : Stage). acting_as k s.calls at) computing

at_waits : (at : Stage) (r : Played) (act : Action) → on_stage at ≡ r.stage → r.stage ≡ stage.Acting act → at ≡ at_stage.Computing → ⊥
at_waits at r act is acts computing = apart act (sym (ap on_stage computing) ∙ is ∙ acts)
  where
    apart : (a : Action) → stage.Computing ≡ stage.Acting a → ⊥
    apart a same = cc same

played_waits : {S : Type 0} (stood : Stood S) (left : Left S) (k : ℕ) (o : Option (Resident S)) (p : Option Played) (r : Played) (act : Action) (s : Resident S) → IsPlayedIf stood left k o p
    → p ≡ Some r → r.stage ≡ stage.Acting act → o ≡ Some s → s.stage ≡ at_stage.Computing → ⊥
played_waits stood left k None p r act s here is acts at computing = none_some s at
played_waits stood left k (Some q) None r act s here is acts at computing = absurd here
played_waits stood left k (Some q) (Some t) r act s here is acts at computing =
    at_waits q.stage t act here.stage (ap (λ (x : Played). x.stage) (some_same t r is) ∙ acts) (ap (λ (x : Resident _). x.stage) (some_same q s at) ∙ computing)

pub reading_waits : {P S : Type 0} (stood : Stood S) (left : Left S) (f : Frame) (fitness : Fitness) (k : ℕ) (act : Action) (w : Work P S) (s : Resident S)
    → MayReadFirst stood left f fitness k act w → resident_at w.node k ≡ Some s → s.stage ≡ at_stage.Computing → ⊥
reading_waits stood left f fitness k act w s may =
    played_waits stood left k (resident_at w.node k) (may.work.node.played k) may.played act s (may.is.node.residents k) may.here may.stage

pub asking_waits : {P S : Type 0} (stood : Stood S) (left : Left S) (f : Frame) (fitness : Fitness) (k : ℕ) (object : ObjectId) (x : Message) (w : Work P S) (s : Resident S)
    → MayAsk stood left f fitness k object x w → resident_at w.node k ≡ Some s → s.stage ≡ at_stage.Computing → ⊥
asking_waits stood left f fitness k object x w s may =
    played_waits stood left k (resident_at w.node k) (may.work.node.played k) may.played (message_of may.call).action s (may.is.node.residents k) may.here may.calls.stage

-- ---- the next entry

entry_grows : (single : Test) (p : Performs) (c : Copied) (x : Message) (keeps : Bool) → c.processes ≤ (after_entry single p c x keeps).processes
entry_grows single p c x keeps = go (is_passed single x.action)
  where
    go : (b : Bool) → c.processes ≤ (if b then after_passed p keeps c x else after_applied p c x).processes
    go true = omega arith
    go false = omega arith

-- the copies take it
pub keeps_taken : {P S : Type 0} (stood : Stood S) (left : Left S) (f : Frame) (fitness : Fitness) (p : Performs) (old mid new : Work P S) (x : Message) (lines : List Answered) (born : List Known)
    → IsSomewhere stood left f fitness old → HasTakenIn f p old mid new x lines born → KeepsTasks old.node mid.node
keeps_taken stood left f fitness p old mid new x lines born (m, hand, u, at) taken =
    let processes = known f u.work.node in
    let keeps = home_in processes x.process.0 == old.node.member.me in
    let is = ap (λ (c : Copied). c.processes) (taken.took.copies f processes (knows stood left f m old.node u.work.node at.work.node)) in
    let grows = entry_grows (singles_of f processes) p old.node.copies x keeps in
    keeps_copies old.node mid.node taken.node (omega (arith, is, grows))

-- or refuse it
pub keeps_refused : {P S : Type 0} (p : Performs) (old new : Node P S) (x : Message) (taken : Option (Vec Answered Global)) → HasTaken p old new x taken → taken ≡ None
    → new ≡ record old { copies = new.copies } → KeepsTasks old new
keeps_refused {P} {S} p old new x taken has none is =
    let refused : Refused p old new x = subst (λ (o : Option (Vec Answered Global)). HasTaken p old new x o) none has in
    keeps_still old.copies.processes old new (ap (λ (n : Node P S). n.residents.items) is) (ap (λ (c : Copied). c.processes) refused.copies)

-- its process, which is a new one, begins between what keeps them
pub keeps_next : {P S : Type 0} (number : ℕ) (old before after new : Node P S) → number ≡ old.copies.processes → KeepsTasks old before → KeepsBelow number before after → KeepsTasks after new
    → KeepsTasks old new
keeps_next number old before after new is first second third =
    let grows = first.more in
    let still = second.more in
    keeps_below old.copies.processes after.copies.processes old after new (omega (arith, grows, still))
    (keeps_below old.copies.processes number old before after (omega (arith, is)) first second) third

-- ---- at the start

-- one process alone has no task out
pub opened_none : {S : Type 0} (l : List (Option (Resident S))) (b : Resident S) → l ≡ Some b ∷ [] → b.out ≡ None → (i : ℕ) (s : Resident S) → slice_index_or l i None ≡ Some s → s.out ≡ None
opened_none {S} l b is none i s at = go i (sym (ap (λ (o : List (Option (Resident S))). slice_index_or o i None) is) ∙ at)
  where
    go : (n : ℕ) → slice_index_or (Some b ∷ []) n None ≡ Some s → s.out ≡ None
    go zero here = sym (ap (λ (r : Resident S). r.out) (some_same b s here)) ∙ none
    go (suc n) there = absurd (none_some s there)

-- nor does any where there is none
pub empty_none : {S : Type 0} (l : List (Option (Resident S))) → l ≡ [] → (i : ℕ) (s : Resident S) → slice_index_or l i None ≡ Some s → s.out ≡ None
empty_none {S} l is i s at = absurd (none_some s (sym (ap (λ (o : List (Option (Resident S))). slice_index_or o i None) is) ∙ at))
