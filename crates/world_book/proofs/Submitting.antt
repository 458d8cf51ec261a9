-- A process at an action that wasn't carried out may submit it, where the world stands for a course.
use Rattle.std.proofs.Common.{◌≡◌, ◌<◌, ◌*◌, inl, inr, ⊎_elim, ℕ, Bool, true, not, Option, Some, None, List, [], ◌∷◌, length, take, refl, sym, ap, ◌∙◌, arith, subst}
use Rattle.std.specs.Prelude.{slice_get}
use Rattle.std.proofs.lemmas.Bool.{cases_eq, eq-eqb, lt-ltb, ne_eqb}
use Rattle.value_core.specs.declared.action.Action.{Action}
use Rattle.value_core.specs.declared.action.Reply.{Reply}
use Rattle.value_core.specs.declared.message.Message.{Message}
use Rattle.book_law.specs.Course.{Course}
use Rattle.book_law.specs.Events.{Runner}
use Rattle.book_law.specs.Events.{In as InBook}
use Rattle.book_law.specs.Passes.{Test}
use Rattle.group_rules.specs.Messages.{all_are}
use Rattle.group_rules.specs.Sets.{In}
use Rattle.group_rules.specs.World.{is_at_home}
use Rattle.group_law.specs.Messages.{Messages, MessagesLaw}
use Rattle.world_rules.specs.Frame.{Frame, group}
use Rattle.world_rules.specs.Played.{Played, Stage}
use Rattle.world_rules.specs.Played.Stage.{Acting}
use Rattle.world_rules.specs.Processes.{Begun}
use Rattle.world_rules.specs.Worlds.{World, group_world, home_of}
use Rattle.world_law.specs.Grouped.{Grouped, MaySubmit}
use Rattle.world_law.proofs.AtWork.{both_true}
use Rattle.world_course.specs.Corresponds.{IsOf, Stands}
use Rattle.world_course.specs.Processes.{IsRunner, StageStands, StandsHere}
use Rattle.world_book.proofs.Homes.{AtHome, Plays}
use Rattle.world_book.proofs.Waiting.{free_applied, free_listed}

-- ---- lists

pub in_group : {A : Type 0} (x : A) (xs : List A) → InBook x xs → In x xs
in_group x [] h = absurd h
in_group x (y ∷ xs) (inl e) = inl e
in_group x (y ∷ xs) (inr h) = inr (in_group x xs h)

all_true : {A : Type 0} (f : A → Bool) (xs : List A) → ((x : A) → In x xs → f x ≡ true) → all_are f xs ≡ true
all_true f [] h = refl
all_true f (x ∷ xs) h = both_true (f x) (all_are f xs) (h x (inl refl)) (all_true f xs (λ y is. h y (inr is)))

same_begun : (o : Option Begun) (a b : Begun) → o ≡ Some a → o ≡ Some b → a ≡ b
same_begun o a b one two = let e : Some a ≡ Some b = sym one ∙ two in cc

-- ---- the course's process

-- process i is this one of the course, which runs at this member
pub record IsRun (f : Frame) (c : Course) (m i : ℕ) (r : Played) : Type 0 where
  pub runner : Runner
  pub runs : c.runners i ≡ Some runner
  pub member : runner.member ≡ m
  pub is : IsRunner f.computes i r runner

pub run_of : (f : Frame) (single : Test) (w : World) (c : Course) (m i : ℕ) (r : Played) → Stands f single w c → (w.nodes m).played i ≡ Some r → IsRun f c m i r
run_of f single w c m i r st here =
    let of : IsOf f c m i = st.played m i r here in
    let p = st.processes i of.begun of.there in
    let stands : StandsHere f.computes i of.begun p.runner (w.nodes m).copies.applied ((w.nodes m).played i) =
    subst (λ (h : ℕ). StandsHere f.computes i of.begun p.runner (w.nodes h).copies.applied ((w.nodes h).played i)) of.home p.stands in
    let known : StandsHere f.computes i of.begun p.runner (w.nodes m).copies.applied (Some r) =
    subst (λ (o : Option Played). StandsHere f.computes i of.begun p.runner (w.nodes m).copies.applied o) here stands in
    record { runner = p.runner; runs = p.runs; member = p.member ∙ of.home; is = known.2 }

-- what its member applied is the course's
pub applied_is : (f : Frame) (single : Test) (w : World) (c : Course) (m : ℕ) → Stands f single w c → (w.nodes m).member.applied ≡ (w.nodes m).copies.applied →
    take (c.applied m) c.list ≡ take (w.nodes m).member.applied (w.nodes m).member.log
applied_is f single w c m st level =
    let mem = st.members m in
    ap (λ n. take n c.list) mem.applied ∙ sym mem.entries ∙ ap (λ n. take n (w.nodes m).member.log) (sym level)

-- ---- it may submit

-- what process i submitted, while it has no message out: its member applied it, and it has the reply
record IsDone (w : World) (m : ℕ) (replies : List Reply) (y : Message) : Type 0 where
  applied : In y (take (w.nodes m).member.applied (w.nodes m).member.log)
  call : y.call.0 < length replies

done : (f : Frame) (single : Test) (w : World) (c : Course) (m i : ℕ) (r : Played) (act : Action) → Stands f single w c →
    (w.nodes m).member.applied ≡ (w.nodes m).copies.applied → (w.nodes m).played i ≡ Some r → r.stage ≡ Acting act →
    (y : Message) → y.process.0 ≡ i → In y (w.past.submitted i) → IsDone w m r.replies y
done f single w c m i r act st level here acting y of was =
    let one : IsRun f c m i r = run_of f single w c m i r st here in
    let x : Runner = one.runner in
    let is = one.is in
    let stage : StageStands f.computes i x (Acting act) = subst (λ (s : Stage). StageStands f.computes i x s) acting is.stage in
    let runs : c.runners y.process.0 ≡ Some x = ap c.runners of ∙ one.runs in
    let asked = st.asked y (subst (λ (j : ℕ). In y (w.past.submitted j)) (sym of) was) in
    let listed = free_listed single f.performs f.computes c st.came x y runs stage.0 asked.among asked.shared in
    let applied = free_applied single f.performs f.computes c st.came x y runs stage.0 listed.0 in
    record {
      applied = in_group y _ (subst (λ (l : List Message). InBook y l) (ap (λ n. take (c.applied n) c.list) one.member ∙ applied_is f single w c m st level) applied);
      call = subst (λ (l : List Reply). y.call.0 < length l) is.replies listed.1;
    }

at_home : (f : Frame) (single : Test) (w : World) (c : Course) (m i : ℕ) → Stands f single w c → AtHome w → IsOf f c m i → is_at_home m (w.past.homes i) ≡ true
at_home f single w c m i st homes of = go (w.past.homes i) refl
  where
    go : (o : Option ℕ) → w.past.homes i ≡ o → is_at_home m o ≡ true
    go None e = refl
    go (Some k) e =
        let plays : Plays w k i = homes i k e in
        let other : IsOf f c k i = st.played k i plays.0 plays.1 in
        let same : of.begun ≡ other.begun = same_begun (slice_get _ i) of.begun other.begun of.there other.there in
        eq-eqb k m (sym other.home ∙ ap (λ (b : Begun). b.home) (sym same) ∙ of.home)

pub may : (law : MessagesLaw Message) (f : Frame) (single : Test) → 2 * (group f).resilience < (group f).nodes → (w : World) (c : Course) → Stands f single w c →
    Grouped f w → AtHome w → (i : ℕ) → MaySubmit f w i
may law f single small w c st grouped homes i r act here acting x of number =
    both_true _ _ (subst (λ (j : ℕ). is_at_home m (w.past.homes j) ≡ true) (sym of) (at_home f single w c m i st homes (st.played m i r here)))
    (both_true _ _
    (all_true _ (w.nodes m).member.pending (λ y h. ⊎_elim
    (λ (e : y.process.0 ≡ x.process.0).
    let was : In y (w.past.submitted y.process.0) = messages.pending m y h in
    let all = all_done y (e ∙ of) (subst (λ (j : ℕ). In y (w.past.submitted j)) (e ∙ of) was) in
    absurd (messages.exclusive m y h all.applied))
    (λ apart. ap not (ne_eqb y.process.0 x.process.0 apart))
    (cases_eq y.process.0 x.process.0)))
    (all_true _ (w.past.submitted x.process.0) (λ y h.
    let was : In y (w.past.submitted i) = subst (λ (j : ℕ). In y (w.past.submitted j)) of h in
    let all = all_done y (messages.own i y was) was in
    let low = all.call in
    lt-ltb y.call.0 x.call.0 (omega (arith, low, number)))))
  where
    m : ℕ
    m = home_of f w i

    messages : Messages (group f) (group_world w)
    messages = subst (Messages (group f)) (sym grouped.run) (law (group f) small grouped.events)

    all_done : (y : Message) → y.process.0 ≡ i → In y (w.past.submitted i) → IsDone w m r.replies y
    all_done y its was = done f single w c m i r act st (grouped.level m) here acting y its was
