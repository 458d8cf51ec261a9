-- That the network was used, as a wire is asked once more, and as a step more is done.
use Rattle.std.proofs.Common.{◌≡◌, ◌∙◌, ◌≤◌, ◌⊎◌, ⊎_elim, inl, inr, ◌==◌, ℕ, zero, suc, Bool, true, false, if◌then◌else◌, List, [], ◌∷◌, ◌++◌, length, length-append, map, Option, Some, None, ap, sym, subst, refl, arith, append-nil}
use Rattle.std.specs.Prelude.{slice_get}
use Rattle.std.specs.List.{AllByRecursion as Each}
use Rattle.std.proofs.Math.Seq.{take-length}
use Rattle.std.proofs.lemmas.Bool.{cases_eq, eq-eqb, ne_eqb}
use Rattle.std.proofs.lemmas.List.{take-append-le}
use Rattle.std.proofs.lemmas.Option.{slice_get_within}
use Rattle.group_law.proofs.Lists.{get_push}
use Rattle.group_rules.specs.Sets.{In, entry_at}
use Rattle.net_rules.specs.declared.asked.Asked.{Asked}
use Rattle.net_rules.specs.declared.asked.Asked.TheVariants.{Act, Packet}
use Rattle.net_rules.specs.declared.fate.WireAct.{WireAct}
use Rattle.world_rules.specs.declared.event.Step.{Step}
use Rattle.world_rules.specs.Acts.{AreAccounted, IsAccounted, WereUsed, acts_in, swaps_in as swaps_before, before, event_of, is_burst, last_answer, or_later, packets_in, wire_before}
use Rattle.world_rules.specs.declared.standing.Standing.TheVariants.{Going}
use Rattle.world_rules.specs.Frame.{Frame}
use Rattle.world_rules.specs.Standings.{standing}
use Rattle.world_rules.specs.Steps.{Replays, asked_of}
use Rattle.world_rules.specs.Worlds.{Told, World}
use Rattle.world_core.specs.Stepping.{told_so}
use Rattle.run_loop.specs.Asked.{AreBelow, AreInTime, IsInTime}

-- ---- lists

pub packets_append : (xs ys : List Asked) → packets_in (xs ++ ys) ≡ packets_in xs ++ packets_in ys
packets_append [] ys = refl
packets_append (Packet question fate ∷ xs) ys = ap (λ (l : List Asked). Packet question fate ∷ l) (packets_append xs ys)
packets_append (Act number answer ∷ xs) ys = packets_append xs ys

pub acts_append : (xs ys : List Asked) → acts_in (xs ++ ys) ≡ acts_in xs ++ acts_in ys
acts_append [] ys = refl
acts_append (Packet question fate ∷ xs) ys = acts_append xs ys
acts_append (Act number answer ∷ xs) ys = ap (λ (l : List (ℕ × Option WireAct)). (number, answer) ∷ l) (acts_append xs ys)

asked_if : (b : Bool) (x : Asked) (xs ys zs : List Asked) → zs ≡ xs ++ ys → (if b then x ∷ zs else zs) ≡ (if b then x ∷ xs else xs) ++ ys
asked_if true x xs ys zs h = ap (λ (l : List Asked). x ∷ l) h
asked_if false x xs ys zs h = h

pub asked_append : (wire : ℕ) (xs ys : List Told) → asked_of wire (xs ++ ys) ≡ asked_of wire xs ++ asked_of wire ys
asked_append wire [] ys = refl
asked_append wire (x ∷ xs) ys = asked_if (x.wire == wire) (told_so x) (asked_of wire xs) (asked_of wire ys) (asked_of wire (xs ++ ys)) (asked_append wire xs ys)

-- questions that were all put to one wire
asked_own : (b : Bool) (x : Asked) (xs ys : List Asked) → b ≡ true → xs ≡ ys → (if b then x ∷ xs else xs) ≡ x ∷ ys
asked_own b x xs ys is h = ap (λ (c : Bool). if c then x ∷ xs else xs) is ∙ ap (λ (l : List Asked). x ∷ l) h

pub asked_here : (wire : ℕ) (more : List Told) → Each (λ (one : Told). one.wire ≡ wire) more → asked_of wire more ≡ map told_so more
asked_here wire [] h = refl
asked_here wire (x ∷ more) h = asked_own (x.wire == wire) (told_so x) (asked_of wire more) (map told_so more) (eq-eqb x.wire wire h.0) (asked_here wire more h.1)

asked_not : (b : Bool) (x : Asked) (xs : List Asked) → b ≡ false → xs ≡ [] → (if b then x ∷ xs else xs) ≡ []
asked_not b x xs is h = ap (λ (c : Bool). if c then x ∷ xs else xs) is ∙ h

pub asked_elsewhere : (wire other : ℕ) (more : List Told) → Each (λ (one : Told). one.wire ≡ wire) more → (other ≡ wire → ⊥) → asked_of other more ≡ []
asked_elsewhere wire other [] h apart = refl
asked_elsewhere wire other (x ∷ more) h apart = asked_not (x.wire == other) (told_so x) (asked_of other more) (ne_eqb x.wire other (λ same. apart (sym same ∙ h.0))) (asked_elsewhere wire other more h.1 apart)

-- they are about packets alone
pub packets_told : (more : List Told) → packets_in (map told_so more) ≡ map told_so more
packets_told [] = refl
packets_told (x ∷ more) = ap (λ (l : List Asked). told_so x ∷ l) (packets_told more)

pub no_acts_told : (more : List Told) → acts_in (map told_so more) ≡ []
no_acts_told [] = refl
no_acts_told (x ∷ more) = no_acts_told more

in_left : {A : Type 0} (x : A) (xs ys : List A) → In x xs → In x (xs ++ ys)
in_left x [] ys h = absurd h
in_left x (y ∷ xs) ys (inl e) = inl e
in_left x (y ∷ xs) ys (inr h) = inr (in_left x xs ys h)

pub in_end : {A : Type 0} (x : A) (xs : List A) → In x (xs ++ x ∷ [])
in_end x [] = inl refl
in_end x (y ∷ xs) = inr (in_end x xs)

-- a later answer counts; one to another question doesn't
pub last_found : (n : ℕ) (xs ys : List (ℕ × Option WireAct)) (answer : Option WireAct) → last_answer n ys ≡ Some answer → last_answer n (xs ++ ys) ≡ Some answer
last_found n [] ys answer h = h
last_found n (x ∷ xs) ys answer h = ap (or_later n x.0 x.1) (last_found n xs ys answer h)

pub last_kept : (n : ℕ) (xs ys : List (ℕ × Option WireAct)) → last_answer n ys ≡ None → last_answer n (xs ++ ys) ≡ last_answer n xs
last_kept n [] ys h = h
last_kept n (x ∷ xs) ys h = ap (or_later n x.0 x.1) (last_kept n xs ys h)

-- ---- numbers

pub below_append : (n : ℕ) (xs ys : List (ℕ × Option WireAct)) → AreBelow n xs → AreBelow n ys → AreBelow n (xs ++ ys)
below_append n [] ys h k = k
below_append n (x ∷ xs) ys h k = (h.0, below_append n xs ys h.1 k)

pub below_more : (n m : ℕ) (xs : List (ℕ × Option WireAct)) → n ≤ m → AreBelow n xs → AreBelow m xs
below_more n m [] low h = h
below_more n m (x ∷ xs) low h = let first = h.0 in (omega (arith, low, first), below_more n m xs low h.1)

-- ---- a question in what a wire was asked

not_empty : {A : Type 0} (xs ys : List A) (x : A) → [] ≡ xs ++ x ∷ ys → ⊥
not_empty [] ys x e = cc e
not_empty (y ∷ xs) ys x e = cc e

-- with one question more, it is that one or an earlier one
split_last : (xs front back : List Asked) (last one : Asked) → xs ++ last ∷ [] ≡ front ++ one ∷ back → ((rest : List Asked) × (xs ≡ front ++ one ∷ rest)) ⊎ ((front ≡ xs) × (one ≡ last))
split_last [] [] back last one e = let same : last ≡ one = cc e in inr (refl, sym same)
split_last [] (y ∷ front) back last one e = absurd (not_empty front back one (cc e))
split_last (x ∷ xs) [] back last one e = let same : x ≡ one = cc e in inl (xs, ap (λ (z : Asked). z ∷ xs) same)
split_last (x ∷ xs) (y ∷ front) back last one e =
    let head : x ≡ y = cc e in
    let tail : xs ++ last ∷ [] ≡ front ++ one ∷ back = cc e in
    ⊎_elim
    (λ (h : (rest : List Asked) × (xs ≡ front ++ one ∷ rest)). inl (h.0, ap (λ (z : Asked). z ∷ xs) head ∙ ap (λ (l : List Asked). y ∷ l) h.1))
    (λ (h : (front ≡ xs) × (one ≡ last)). inr (ap (λ (l : List Asked). y ∷ l) h.0 ∙ ap (λ (z : Asked). z ∷ xs) (sym head), h.1))
    (split_last xs front back last one tail)

-- with packets more, it is an earlier one
split_packets : (xs more front back : List Asked) (n : ℕ) (answer : Option WireAct) → acts_in more ≡ [] → xs ++ more ≡ front ++ Act n answer ∷ back → (rest : List Asked) × (xs ≡ front ++ Act n answer ∷ rest)
split_packets [] more front back n answer none e =
    absurd (not_empty (acts_in front) (acts_in back) (n, answer) (sym none ∙ ap acts_in e ∙ acts_append front (Act n answer ∷ back)))
split_packets (x ∷ xs) more [] back n answer none e = let same : x ≡ Act n answer = cc e in (xs, ap (λ (z : Asked). z ∷ xs) same)
split_packets (x ∷ xs) more (y ∷ front) back n answer none e =
    let head : x ≡ y = cc e in
    let tail : xs ++ more ≡ front ++ Act n answer ∷ back = cc e in
    let h = split_packets xs more front back n answer none tail in
    (h.0, ap (λ (z : Asked). z ∷ xs) head ∙ ap (λ (l : List Asked). y ∷ l) h.1)

-- ---- one step more

-- an event is the same, or it is the new one
pub step_within : (steps : List Step) (n : ℕ) (step : Step) → entry_at steps n ≡ Some step → n ≤ length steps
step_within steps zero step e = absurd (cc e)
step_within steps (suc n) step e = slice_get_within steps n step e

get_front : (steps : List Step) (last step : Step) (n : ℕ) → slice_get (steps ++ last ∷ []) n ≡ Some step → (slice_get steps n ≡ Some step) ⊎ ((n ≡ length steps) × (step ≡ last))
get_front [] last step zero e = inr (refl, cc e)
get_front [] last step (suc n) e = absurd (cc e)
get_front (s ∷ steps) last step zero e = inl e
get_front (s ∷ steps) last step (suc n) e = ⊎_elim (λ h. inl h) (λ (h : (n ≡ length steps) × (step ≡ last)). inr (ap suc h.0, h.1)) (get_front steps last step n e)

pub step_cases : (steps : List Step) (last step : Step) (n : ℕ) → entry_at (steps ++ last ∷ []) n ≡ Some step → (entry_at steps n ≡ Some step) ⊎ ((n ≡ suc (length steps)) × (step ≡ last))
step_cases steps last step zero e = absurd (cc e)
step_cases steps last step (suc n) e = ⊎_elim (λ h. inl h) (λ (h : (n ≡ length steps) × (step ≡ last)). inr (ap suc h.0, h.1)) (get_front steps last step n e)

get_left : (steps : List Step) (last step : Step) (n : ℕ) → slice_get steps n ≡ Some step → slice_get (steps ++ last ∷ []) n ≡ Some step
get_left [] last step n e = absurd (cc e)
get_left (s ∷ steps) last step zero e = e
get_left (s ∷ steps) last step (suc n) e = get_left steps last step n e

pub step_stays : (steps : List Step) (last step : Step) (n : ℕ) → entry_at steps n ≡ Some step → entry_at (steps ++ last ∷ []) n ≡ Some step
step_stays steps last step zero e = absurd (cc e)
step_stays steps last step (suc n) e = get_left steps last step n e

pub step_last : (steps : List Step) (last : Step) → entry_at (steps ++ last ∷ []) (suc (length steps)) ≡ Some last
step_last steps last = get_push steps last

-- the steps before it stay those that they were
pub before_stays : (steps : List Step) (last : Step) (n : ℕ) → n ≤ suc (length steps) → before n (steps ++ last ∷ []) ≡ before n steps
before_stays steps last zero low = refl
before_stays steps last (suc n) low = take-append-le n steps (last ∷ []) (omega (arith, low))

pub before_next : (steps : List Step) → before (suc (length steps)) steps ≡ steps
before_next steps = take-length steps

-- what a question led to stays
accounted_stays : (f : Frame) (steps : List Step) (last : Step) (n : ℕ) (answer : Option WireAct) → n ≤ suc (length steps) → IsAccounted f steps n answer → IsAccounted f (steps ++ last ∷ []) n answer
accounted_stays f steps last n None low h = h
accounted_stays f steps last n (Some act) low (inl h) = inl (h.0, step_stays steps last h.0 n h.1, h.2)
accounted_stays f steps last n (Some act) low (inr h) = inr (h.0, subst (λ (l : List Step). Replays f l h.0) (sym (before_stays steps last n low)) h.1, h.2)

pub all_accounted : (f : Frame) (steps : List Step) (last : Step) (xs : List (ℕ × Option WireAct)) → AreBelow (suc (suc (length steps))) xs → AreAccounted f steps xs → AreAccounted f (steps ++ last ∷ []) xs
all_accounted f steps last [] low h = h
all_accounted f steps last (x ∷ xs) low h = let first = low.0 in (accounted_stays f steps last x.0 x.1 (omega (arith, first)) h.0, all_accounted f steps last xs low.1 h.1)

accounted_append : (f : Frame) (steps : List Step) (xs ys : List (ℕ × Option WireAct)) → AreAccounted f steps xs → AreAccounted f steps ys → AreAccounted f steps (xs ++ ys)
accounted_append f steps [] ys h k = k
accounted_append f steps (x ∷ xs) ys h k = (h.0, accounted_append f steps xs ys h.1 k)

-- a question that was in time stays so
in_time_more : (f : Frame) (steps : List Step) (last : Step) (wire n : ℕ) (earlier : List Asked) → IsInTime f steps wire n earlier → IsInTime f (steps ++ last ∷ []) wire n earlier
in_time_more f steps last wire n earlier h = record {
  first = h.first;
  next = let low = h.next in let longer = length-append steps (last ∷ []) in omega (arith, low, longer);
  in_use = h.in_use ∙ ap swaps_before (sym (before_stays steps last n h.next));
  world = h.world;
  led = subst (λ (l : List Step). Replays f l h.world) (sym (before_stays steps last n h.next)) h.led;
  going = h.going;
  packets = h.packets;
  acts = h.acts;
}

-- where nothing was asked, nothing was asked too early or too late
pub in_time_none : (f : Frame) (steps : List Step) (asked : ℕ → List Asked) → ((wire : ℕ) → asked wire ≡ []) → AreInTime f steps asked
in_time_none f steps asked none = record { each = λ wire n answer earlier later e. absurd (not_empty earlier later (Act n answer) (sym (none wire) ∙ e)) }

-- the network was used, but for whether what wires gave is accounted for
pub record IsUsed (f : Frame) (steps : List Step) (w : World) (asked : ℕ → List Asked) : Type 0 where
  pub packets : (wire : ℕ) → packets_in (asked wire) ≡ asked_of wire w.told
  pub acts :
      (n : ℕ) (step : Step) → entry_at steps n ≡ Some step → is_burst step.event ≡ false →
      (answer : Option WireAct) × In (n, answer) (acts_in (asked (wire_before n steps)))
  pub caused :
      (n : ℕ) (step : Step) (act : WireAct) → entry_at steps n ≡ Some step → step.event ≡ event_of act →
      last_answer n (acts_in (asked (wire_before n steps))) ≡ Some (Some act)

pub is_used : (f : Frame) (steps : List Step) (w : World) (asked : ℕ → List Asked) → WereUsed f steps w asked → IsUsed f steps w asked
is_used f steps w asked used = record { packets = used.packets; acts = used.acts; caused = used.caused }

-- ---- asked once more about an act

-- the wire was asked about an act before the next event, and no other anything
pub record AskedAct (wire n : ℕ) (answer : Option WireAct) (a b : ℕ → List Asked) : Type 0 where
  pub here : b wire ≡ a wire ++ Act n answer ∷ []
  pub others : (other : ℕ) → (other ≡ wire → ⊥) → b other ≡ a other

other_answer : (n m : ℕ) (answer : Option WireAct) → (m ≡ n → ⊥) → last_answer n ((m, answer) ∷ []) ≡ None
other_answer n m answer apart = ap (λ (b : Bool). if b then Some answer else None) (ne_eqb m n apart)

own_answer : (n : ℕ) (answer : Option WireAct) → last_answer n ((n, answer) ∷ []) ≡ Some answer
own_answer n answer = ap (λ (b : Bool). if b then Some answer else None) (eq-eqb n n refl)

module _ (wire n : ℕ) (answer : Option WireAct) (a b : ℕ → List Asked) (asked : AskedAct wire n answer a b) where
  pub acts_here : acts_in (b wire) ≡ acts_in (a wire) ++ (n, answer) ∷ []
  acts_here = ap acts_in asked.here ∙ acts_append (a wire) (Act n answer ∷ [])

  packets_same : (other : ℕ) → packets_in (b other) ≡ packets_in (a other)
  packets_same other = ⊎_elim
      (λ (e : other ≡ wire). subst (λ k. packets_in (b k) ≡ packets_in (a k)) (sym e) (ap packets_in asked.here ∙ packets_append (a wire) (Act n answer ∷ []) ∙ append-nil (packets_in (a wire))))
      (λ apart. ap packets_in (asked.others other apart))
      (cases_eq other wire)

  acts_kept : (other m : ℕ) (given : Option WireAct) → In (m, given) (acts_in (a other)) → In (m, given) (acts_in (b other))
  acts_kept other m given h = ⊎_elim
      (λ (e : other ≡ wire). subst (λ k. In (m, given) (acts_in (a k)) → In (m, given) (acts_in (b k))) (sym e)
      (λ (h : In (m, given) (acts_in (a wire))). subst (In (m, given)) (sym acts_here) (in_left (m, given) (acts_in (a wire)) ((n, answer) ∷ []) h)) h)
      (λ apart. subst (λ (l : List Asked). In (m, given) (acts_in l)) (sym (asked.others other apart)) h)
      (cases_eq other wire)

  answers_kept : (other m : ℕ) → (n ≡ m → ⊥) → last_answer m (acts_in (b other)) ≡ last_answer m (acts_in (a other))
  answers_kept other m new = ⊎_elim
      (λ (e : other ≡ wire). subst (λ k. last_answer m (acts_in (b k)) ≡ last_answer m (acts_in (a k))) (sym e)
      (ap (last_answer m) acts_here ∙ last_kept m (acts_in (a wire)) ((n, answer) ∷ []) (other_answer m n answer new)))
      (λ apart. ap (λ (l : List Asked). last_answer m (acts_in l)) (asked.others other apart))
      (cases_eq other wire)

  pub answer_is : last_answer n (acts_in (b wire)) ≡ Some answer
  answer_is = ap (last_answer n) acts_here ∙ last_found n (acts_in (a wire)) ((n, answer) ∷ []) answer (own_answer n answer)

  pub asked_is : In (n, answer) (acts_in (b wire))
  asked_is = subst (In (n, answer)) (sym acts_here) (in_end (n, answer) (acts_in (a wire)))

  pub numbers_asked : ((other : ℕ) → AreBelow n (acts_in (a other))) → (other : ℕ) → AreBelow (suc n) (acts_in (b other))
  numbers_asked h other = ⊎_elim
      (λ (e : other ≡ wire). subst (λ k. AreBelow (suc n) (acts_in (b k))) (sym e)
      (subst (AreBelow (suc n)) (sym acts_here) (below_append (suc n) (acts_in (a wire)) ((n, answer) ∷ []) (low wire) (omega arith, tt))))
      (λ apart. subst (λ (l : List Asked). AreBelow (suc n) (acts_in l)) (sym (asked.others other apart)) (low other))
      (cases_eq other wire)
    where
      low : (other : ℕ) → AreBelow (suc n) (acts_in (a other))
      low other = below_more n (suc n) (acts_in (a other)) (omega arith) (h other)

  -- it was in time, where it was the next event's and the wire was in use, and all others as before
  pub in_time_asked : (f : Frame) (steps : List Step) (w : World) → n ≡ suc (length steps) → wire ≡ wire_before n steps → Replays f steps w → standing f w ≡ Going → packets_in (a wire) ≡ asked_of wire w.told → AreBelow n (acts_in (a wire))
      → AreInTime f steps a → AreInTime f steps b
  in_time_asked f steps w next in_use led going packets acts before_it = record {
    each = λ other m given earlier later e. ⊎_elim (here other m given earlier later e) (λ apart. before_it.each other m given earlier later (sym (asked.others other apart) ∙ e)) (cases_eq other wire);
  }
    where
      all : before n steps ≡ steps
      all = ap (λ k. before k steps) next ∙ before_next steps

      own : IsInTime f steps wire n (a wire)
      own = record {
        first = omega (arith, next);
        next = omega (arith, next);
        in_use = in_use;
        world = w;
        led = subst (λ (l : List Step). Replays f l w) (sym all) led;
        going = going;
        packets = packets;
        acts = acts;
      }

      number_in : Asked → ℕ
      number_in (Act number answer) = number
      number_in (Packet question fate) = 0

      here : (other m : ℕ) (given : Option WireAct) (earlier later : List Asked) → b other ≡ earlier ++ Act m given ∷ later → other ≡ wire → IsInTime f steps other m earlier
      here other m given earlier later e same = subst (λ k. IsInTime f steps k m earlier) (sym same)
          (⊎_elim
          (λ (h : (rest : List Asked) × (a wire ≡ earlier ++ Act m given ∷ rest)). before_it.each wire m given earlier h.0 h.1)
          (λ (h : (earlier ≡ a wire) × (Act m given ≡ Act n answer)).
          subst (λ k. IsInTime f steps wire k earlier) (sym (ap number_in h.1)) (subst (IsInTime f steps wire n) (sym h.0) own))
          (split_last (a wire) earlier later (Act n answer) (Act m given) (sym asked.here ∙ ap b (sym same) ∙ e)))

  -- the network was used still
  pub still_used : (f : Frame) (steps : List Step) (w : World) → n ≡ suc (length steps) → WereUsed f steps w a → IsUsed f steps w b
  still_used f steps w next used = record {
    packets = λ other. packets_same other ∙ used.packets other;
    acts = λ m step there plain. let h = used.acts m step there plain in (h.0, acts_kept (wire_before m steps) m h.0 h.1);
    caused = λ m step act there is.
        let low = step_within steps m step there in
        answers_kept (wire_before m steps) m (λ e. absurd (omega (arith, e, low, next))) ∙ used.caused m step act there is;
  }

  -- what wires gave is accounted for where that is
  pub given_asked : (f : Frame) (steps : List Step) → ((other : ℕ) → AreAccounted f steps (acts_in (a other))) → IsAccounted f steps n answer → (other : ℕ) → AreAccounted f steps (acts_in (b other))
  given_asked f steps given fine other = ⊎_elim
      (λ (e : other ≡ wire). subst (λ k. AreAccounted f steps (acts_in (b k))) (sym e)
      (subst (AreAccounted f steps) (sym acts_here) (accounted_append f steps (acts_in (a wire)) ((n, answer) ∷ []) (given wire) (fine, tt))))
      (λ apart. subst (λ (l : List Asked). AreAccounted f steps (acts_in l)) (sym (asked.others other apart)) (given other))
      (cases_eq other wire)

  pub used_asked : (f : Frame) (steps : List Step) (w : World) → n ≡ suc (length steps) → WereUsed f steps w a → IsAccounted f steps n answer → WereUsed f steps w b
  used_asked f steps w next used fine =
      let still = still_used f steps w next used in
      record { packets = still.packets; acts = still.acts; caused = still.caused; given = given_asked f steps used.given fine }

-- ---- after a step

-- the wire was asked about the packets that the step sent, and no other anything
pub record AskedPackets (wire : ℕ) (more : List Told) (a b : ℕ → List Asked) : Type 0 where
  pub wires : Each (λ (one : Told). one.wire ≡ wire) more
  pub here : b wire ≡ a wire ++ map told_so more
  pub others : (other : ℕ) → (other ≡ wire → ⊥) → b other ≡ a other

module _ (wire : ℕ) (more : List Told) (a b : ℕ → List Asked) (asked : AskedPackets wire more a b) where
  pub acts_same : (other : ℕ) → acts_in (b other) ≡ acts_in (a other)
  acts_same other = ⊎_elim
      (λ (e : other ≡ wire). subst (λ k. acts_in (b k) ≡ acts_in (a k)) (sym e)
      (ap acts_in asked.here ∙ acts_append (a wire) (map told_so more) ∙ ap (λ (l : List (ℕ × Option WireAct)). acts_in (a wire) ++ l) (no_acts_told more) ∙ append-nil (acts_in (a wire))))
      (λ apart. ap acts_in (asked.others other apart))
      (cases_eq other wire)

  -- questions about acts stay in time
  pub in_time_stepped : (f : Frame) (steps : List Step) (step : Step) → AreInTime f steps a → AreInTime f (steps ++ step ∷ []) b
  in_time_stepped f steps step before_it = record {
    each = λ other m given earlier later e.
        in_time_more f steps step other m earlier
        (⊎_elim (here other m given earlier later e) (λ apart. before_it.each other m given earlier later (sym (asked.others other apart) ∙ e)) (cases_eq other wire));
  }
    where
      here : (other m : ℕ) (given : Option WireAct) (earlier later : List Asked) → b other ≡ earlier ++ Act m given ∷ later → other ≡ wire → IsInTime f steps other m earlier
      here other m given earlier later e same =
          let h = split_packets (a wire) (map told_so more) earlier later m given (no_acts_told more) (sym asked.here ∙ ap b (sym same) ∙ e) in
          subst (λ k. IsInTime f steps k m earlier) (sym same) (before_it.each wire m given earlier h.0 h.1)

  packets_more : (told : List Told) (other : ℕ) → packets_in (a other) ≡ asked_of other told → packets_in (b other) ≡ asked_of other (told ++ more)
  packets_more told other h = ⊎_elim
      (λ (e : other ≡ wire). subst (λ k. packets_in (a k) ≡ asked_of k told → packets_in (b k) ≡ asked_of k (told ++ more)) (sym e)
      (λ (h : packets_in (a wire) ≡ asked_of wire told).
      ap packets_in asked.here ∙ packets_append (a wire) (map told_so more)
      ∙ ap (λ (l : List Asked). packets_in (a wire) ++ l) (packets_told more ∙ sym (asked_here wire more asked.wires))
      ∙ ap (λ (l : List Asked). l ++ asked_of wire more) h ∙ sym (asked_append wire told more)) h)
      (λ apart. ap packets_in (asked.others other apart) ∙ h ∙ sym (append-nil (asked_of other told))
      ∙ ap (λ (l : List Asked). asked_of other told ++ l) (sym (asked_elsewhere wire other more asked.wires apart)) ∙ sym (asked_append other told more))
      (cases_eq other wire)

  -- the network was used still: before a step that is no burst the wire in use was asked about an act, and a step that a wire gave is its
  -- last answer there
  pub used_stepped : (f : Frame) (steps : List Step) (w v : World) (step : Step) → IsUsed f steps w a → v.told ≡ w.told ++ more → ((other : ℕ) → AreAccounted f (steps ++ step ∷ []) (acts_in (a other)))
      → (is_burst step.event ≡ false → (answer : Option WireAct) × In (suc (length steps), answer) (acts_in (a (wire_before (suc (length steps)) (steps ++ step ∷ [])))))
      → ((act : WireAct) → step.event ≡ event_of act → last_answer (suc (length steps)) (acts_in (a (wire_before (suc (length steps)) (steps ++ step ∷ [])))) ≡ Some (Some act))
      → WereUsed f (steps ++ step ∷ []) v b
  used_stepped f steps w v step used told given new caused = record {
    packets = λ other. packets_more w.told other (used.packets other) ∙ ap (asked_of other) (sym told);
    acts = λ m s there plain. ⊎_elim (old_act m s plain) (new_act m s plain) (step_cases steps step s m there);
    caused = λ m s act there is. ⊎_elim (old_cause m s act is) (new_cause m s act is) (step_cases steps step s m there);
    given = λ other. subst (AreAccounted f (steps ++ step ∷ [])) (sym (acts_same other)) (given other);
  }
    where
      all : List Step
      all = steps ++ step ∷ []

      stays : (m : ℕ) (s : Step) → entry_at steps m ≡ Some s → wire_before m all ≡ wire_before m steps
      stays m s there = let within = step_within steps m s there in ap swaps_before (before_stays steps step m (omega (arith, within)))

      old_act : (m : ℕ) (s : Step) → is_burst s.event ≡ false → entry_at steps m ≡ Some s → (answer : Option WireAct) × In (m, answer) (acts_in (b (wire_before m all)))
      old_act m s plain there = let h = used.acts m s there plain in (
        h.0,
        subst (λ k. In (m, h.0) (acts_in (b k))) (sym (stays m s there)) (subst (In (m, h.0)) (sym (acts_same (wire_before m steps))) h.1),
      )

      new_act : (m : ℕ) (s : Step) → is_burst s.event ≡ false → (m ≡ suc (length steps)) × (s ≡ step) → (answer : Option WireAct) × In (m, answer) (acts_in (b (wire_before m all)))
      new_act m s plain is =
          let h = new (ap (λ (t : Step). is_burst t.event) (sym is.1) ∙ plain) in
          subst (λ k. (answer : Option WireAct) × In (k, answer) (acts_in (b (wire_before k all)))) (sym is.0)
          (h.0, subst (In (suc (length steps), h.0)) (sym (acts_same (wire_before (suc (length steps)) all))) h.1)

      old_cause : (m : ℕ) (s : Step) (act : WireAct) → s.event ≡ event_of act → entry_at steps m ≡ Some s → last_answer m (acts_in (b (wire_before m all))) ≡ Some (Some act)
      old_cause m s act is there =
          ap (last_answer m) (acts_same (wire_before m all)) ∙ ap (λ k. last_answer m (acts_in (a k))) (stays m s there) ∙ used.caused m s act there is

      new_cause : (m : ℕ) (s : Step) (act : WireAct) → s.event ≡ event_of act → (m ≡ suc (length steps)) × (s ≡ step) → last_answer m (acts_in (b (wire_before m all))) ≡ Some (Some act)
      new_cause m s act is same =
          subst (λ k. last_answer k (acts_in (b (wire_before k all))) ≡ Some (Some act)) (sym same.0)
          (ap (last_answer (suc (length steps))) (acts_same (wire_before (suc (length steps)) all)) ∙ caused act (ap (λ (t : Step). t.event) (sym same.1) ∙ is))
