-- What evaluations preserve, from what they are made of.
use Rattle.std.proofs.Common.{refl, ap, sym, ◌∙◌, subst, arith}
use Rattle.std.specs.Prelude.{◌≡◌, ◌<◌, ℕ, zero, suc, ℤ, pos, ◌+ℤ◌, List, [], ◌∷◌, ◌++◌, drop, slice_get, slice_set, Option, Some, None, Result, Ok, Err, IfOk}
use Rattle.std.proofs.lemmas.List.{append_assoc}
use Rattle.std.proofs.lemmas.Int.{ints}
use Rattle.orca_base.specs.declared.fault.FaultKind.{FaultKind}
use Rattle.link_rules.specs.Units.{Source}
use Rattle.type_rules.specs.declared.types.DataType.{DataType}
use Rattle.type_rules.specs.Scopes.{Local}
use Rattle.value_core.specs.Datum.{Datum}
use Rattle.value_core.specs.Datum as datum
use Rattle.value_core.specs.Fits.{Kinds}
use Rattle.value_core.specs.Lawful.{FitsAction}
use Rattle.value_core.specs.View.{datum_of}
use Rattle.value_core.specs.declared.action.Action.{Action}
use Rattle.value_core.specs.declared.action.Reply.{Reply}
use Rattle.value_core.specs.declared.action.Reply.TheVariants as reply
use Rattle.value_core.specs.declared.meaning.Doing.TheVariants as doing
use Rattle.meaning_rules.specs.States.{State, Out, Goes, Stops, Needs, Faults, Busy, after, gives, begun, turn, replied, act}
use Rattle.meaning_rules.specs.Variables.{stored}
use Rattle.meaning_rules.specs.Loops.{Flow, On, Back, Round, Over, Again, Leave, go_on, loop, repeated, next_round, with_name, without_name, counted_round, count}
use Rattle.meaning_rules.specs.Replies.{with_replies, Fronted, Front}
use Rattle.meaning_rules.specs.Fitting.{Fits, AreFitting, FitsReply}
use Rattle.meaning_rules.specs.PhrasesFit.{AreAnswers, FitsNeed, Leaves, Preserves}
use Rattle.meaning_rules.proofs.Fronts.{fronts}

abbrev pub Any : {A : Type 0} → A → Type 0
Any x = Unit {0}

-- what a reply gives
abbrev pub Answered : (Option Datum → Type 0) → Reply → Type 0
Answered P reply.Done = P None
Answered P (reply.Gave value) = P (Some (datum_of value))
Answered P (reply.Broke fault) = Unit {0}

module _ (us : List Source) (kinds : Kinds) where
  -- ---- one evaluation and then another

  -- what answers both answers the first, and what the first left answers the second
  pub first_answers : {A B : Type 0} (f : State → Out A) (next : A → State → Out B) (s : State) → AreAnswers us (λ t. after (f t) next) s → AreAnswers us f s
  first_answers f next s all before rest answer need are comes = all before rest answer need are (ap (λ o. after o next) comes)

  pub then_answers : {A B : Type 0} (f : State → Out A) (next : A → State → Out B) (s s1 : State) (x : A) (used : List Reply) → s.replies ≡ used ++ s1.replies →
      ((rest : List Reply) → f (with_replies (used ++ rest) s) ≡ Goes x (with_replies rest s1)) →
      AreAnswers us (λ t. after (f t) next) s → AreAnswers us (next x) s1
  then_answers f next s s1 x used are goes all before rest answer need is comes =
      all (used ++ before) rest answer need
      (are ∙ (ap (λ rs. used ++ rs) is ∙ sym (append_assoc used before (answer ∷ rest))))
      (ap (λ o. after o next) (goes before) ∙ comes)

  pub after_preserves : {A B : Type 0} (ls ms : List Local) (P : A → Type 0) (Q : B → Type 0) (f : State → Out A) (next : A → State → Out B) (s : State) →
      (o : Out A) → Fronted f s o → Leaves us kinds ls P o → AreAnswers us (λ t. after (f t) next) s →
      ((x : A) (s1 : State) → AreFitting us kinds s1.frame ls → P x → AreAnswers us (next x) s1 → Leaves us kinds ms Q (next x s1)) →
      Leaves us kinds ms Q (after o next)
  after_preserves ls ms P Q f next s (Goes x s1) front h all others = others x s1 h.0 h.1 (then_answers f next s s1 x front.0 front.1 front.2 all)
  after_preserves ls ms P Q f next s (Stops (Needs need)) front h all others = h
  after_preserves ls ms P Q f next s (Stops (Faults fault)) front h all others = tt
  after_preserves ls ms P Q f next s (Stops Busy) front h all others = tt

  pub then_preserves : {A B : Type 0} (ls : List Local) (P : A → Type 0) (Q : B → Type 0) (f : State → Out A) (next : A → State → Out B) →
      Front A f → Preserves us kinds ls A P f → ((x : A) → P x → Preserves us kinds ls B Q (next x)) → Preserves us kinds ls B Q (λ s. after (f s) next)
  then_preserves ls P Q f next front first others = record {
    preserves = λ s fits all.
        after_preserves ls ls P Q f next s (f s) (front.front s) (first.preserves s fits (first_answers f next s all)) all
        (λ x s1 fits1 holds answers. (others x holds).preserves s1 fits1 answers);
  }

  weaker_leaves : {A : Type 0} (ls : List Local) (P Q : A → Type 0) → ((x : A) → P x → Q x) → (o : Out A) → Leaves us kinds ls P o → Leaves us kinds ls Q o
  weaker_leaves ls P Q f (Goes x s) h = (h.0, f x h.1)
  weaker_leaves ls P Q f (Stops (Needs need)) h = h
  weaker_leaves ls P Q f (Stops (Faults fault)) h = tt
  weaker_leaves ls P Q f (Stops Busy) h = tt

  pub weaker_preserves : {A : Type 0} (ls : List Local) (P Q : A → Type 0) (f : State → Out A) → ((x : A) → P x → Q x) → Preserves us kinds ls A P f →
      Preserves us kinds ls A Q f
  weaker_preserves ls P Q f weaker h = record { preserves = λ s fits all. weaker_leaves ls P Q weaker (f s) (h.preserves s fits all) }

  -- ---- results, faults and turns

  pub goes_preserves : {A : Type 0} (ls : List Local) (P : A → Type 0) (x : A) → P x → Preserves us kinds ls A P (λ s. Goes x s)
  goes_preserves ls P x holds = record { preserves = λ s fits all. (fits, holds) }

  pub faults_preserves : {A : Type 0} (ls : List Local) (P : A → Type 0) (fault : FaultKind) → Preserves us kinds ls A P (λ s. Stops (Faults fault))
  faults_preserves ls P fault = record { preserves = λ s fits all. tt }

  gives_leaves : {A : Type 0} (ls : List Local) (P : A → Type 0) (s : State) (r : Result A FaultKind) → AreFitting us kinds s.frame ls → IfOk r P →
      Leaves us kinds ls P (gives r s)
  gives_leaves ls P s (Ok x) fits holds = (fits, holds)
  gives_leaves ls P s (Err fault) fits holds = tt

  pub gives_preserves : {A : Type 0} (ls : List Local) (P : A → Type 0) (r : State → Result A FaultKind) →
      ((s : State) → AreFitting us kinds s.frame ls → IfOk (r s) P) → Preserves us kinds ls A P (λ s. gives (r s) s)
  gives_preserves ls P r holds = record { preserves = λ s fits all. gives_leaves ls P s (r s) fits (holds s fits) }

  begun_leaves : (ls : List Local) (n : ℕ) (s : State) → AreFitting us kinds s.frame ls → Leaves us kinds ls Any (begun n s)
  begun_leaves ls zero s fits = tt
  begun_leaves ls (suc zero) s fits = tt
  begun_leaves ls (suc (suc n)) s fits = (fits, tt)

  pub turn_preserves : (ls : List Local) → Preserves us kinds ls (Unit {0}) Any turn
  turn_preserves ls = record { preserves = λ s fits all. begun_leaves ls s.left s fits }

  -- ---- actions

  act_leaves : (ls : List Local) (P : Option Datum → Type 0) (need : Action) (frame : List Datum) (left : ℕ) (replies : List Reply) →
      AreFitting us kinds frame ls → FitsNeed us kinds need →
      ((answer : Reply) (rest : List Reply) → replies ≡ answer ∷ rest → Answered P answer) →
      Leaves us kinds ls P (replied need (record { frame = frame; replies = replies; left = left }) replies)
  act_leaves ls P need frame left [] fits needs gives_all = needs
  act_leaves ls P need frame left (reply.Done ∷ replies) fits needs gives_all = (fits, gives_all reply.Done replies refl)
  act_leaves ls P need frame left (reply.Gave value ∷ replies) fits needs gives_all = (fits, gives_all (reply.Gave value) replies refl)
  act_leaves ls P need frame left (reply.Broke fault ∷ replies) fits needs gives_all = tt

  pub act_preserves : (ls : List Local) (P : Option Datum → Type 0) (need : List Datum → Action) →
      ((frame : List Datum) → AreFitting us kinds frame ls → FitsNeed us kinds (need frame)) →
      ((frame : List Datum) → AreFitting us kinds frame ls → (answer : Reply) → FitsAction (FitsReply us) (doing.At (need frame)) answer → Answered P answer) →
      Preserves us kinds ls (Option Datum) P (λ s. act (need s.frame) s)
  act_preserves ls P need needs answers = record {
    preserves = λ s fits all.
        act_leaves ls P (need s.frame) s.frame s.left s.replies fits (needs s.frame fits)
        (λ answer rest is. answers s.frame fits answer (all [] rest answer (need s.frame) is refl));
  }

  -- ---- variables

  pub frame_set : (frame : List Datum) (ls : List Local) (place : ℕ) (l : Local) (whole : Datum) → AreFitting us kinds frame ls → slice_get ls place ≡ Some l →
      Fits us kinds whole l.type → AreFitting us kinds (slice_set frame place whole) ls
  frame_set [] [] place l whole fits at one = tt
  frame_set [] (m ∷ ls) place l whole fits at one = absurd fits
  frame_set (v ∷ vs) [] place l whole fits at one = absurd fits
  frame_set (v ∷ vs) (m ∷ ls) zero l whole fits at one = (subst (λ x. Fits us kinds whole x) (ap (type_in m) (sym at)) one, fits.1)
    where
      type_in : Local → Option Local → Option DataType
      type_in m None = m.type
      type_in m (Some x) = x.type
  frame_set (v ∷ vs) (m ∷ ls) (suc place) l whole fits at one = (fits.0, frame_set vs ls place l whole fits.1 at one)

  pub frame_at : (frame : List Datum) (ls : List Local) (place : ℕ) (l : Local) → AreFitting us kinds frame ls → slice_get ls place ≡ Some l →
      (w : Datum) × (slice_get frame place ≡ Some w) × Fits us kinds w l.type
  frame_at [] [] place l fits at = absurd cc
  frame_at [] (m ∷ ls) place l fits at = absurd fits
  frame_at (v ∷ vs) [] place l fits at = absurd fits
  frame_at (v ∷ vs) (m ∷ ls) zero l fits at = (v, refl, subst (λ x. Fits us kinds v x) (ap (type_in m) at) fits.0)
    where
      type_in : Local → Option Local → Option DataType
      type_in m None = m.type
      type_in m (Some x) = x.type
  frame_at (v ∷ vs) (m ∷ ls) (suc place) l fits at = frame_at vs ls place l fits.1 at

  pub stored_preserves : (ls : List Local) (place : ℕ) (l : Local) (whole : Datum) → slice_get ls place ≡ Some l → Fits us kinds whole l.type →
      Preserves us kinds ls (Unit {0}) Any (λ s. Goes tt (stored place whole s))
  stored_preserves ls place l whole at one = record { preserves = λ s fits all. (frame_set s.frame ls place l whole fits at one, tt) }

  -- ---- loops

  module _ (ls : List Local) (Q : Flow → Type 0) (on : Q On) where
    pub go_on_preserves : (flow : Flow) (next : State → Out Flow) → Q flow → Preserves us kinds ls Flow Q next → Preserves us kinds ls Flow Q (λ s. go_on flow s next)
    go_on_preserves On next holds h = h
    go_on_preserves (Back x) next holds h = goes_preserves ls Q (Back x) holds

    -- what a round leaves
    abbrev pub Rounds : Round → Type 0
    Rounds Over = Unit {0}
    Rounds Again = Unit {0}
    Rounds (Leave x) = Q (Back x)

    next_preserves : (r : Round) (rounds : State → Out Flow) → Rounds r → Preserves us kinds ls Flow Q rounds → Preserves us kinds ls Flow Q (λ s. next_round r s rounds)
    next_preserves Over rounds holds h = goes_preserves ls Q On on
    next_preserves Again rounds holds h = h
    next_preserves (Leave x) rounds holds h = goes_preserves ls Q (Back x) holds

    module _ (round : State → Out Round) (front : Front Round round) (h : Preserves us kinds ls Round Rounds round) where
      loop_preserves : (n : ℕ) → Preserves us kinds ls Flow Q (loop n round)
      unfolding loop
      loop_preserves zero = record { preserves = λ s fits all. tt }
      loop_preserves (suc n) =
          then_preserves ls Rounds Q round (λ r s1. next_round r s1 (loop n round)) front h (λ r holds. next_preserves r (loop n round) holds (loop_preserves n))

      pub repeated_preserves : Preserves us kinds ls Flow Q (repeated round)
      repeated_preserves = record { preserves = λ s fits all. (loop_preserves (suc s.left)).preserves s fits all }

    -- ---- counting

    -- a body that sees one name more
    module _ (l : Local) (body : State → Out Flow) (front : Front Flow body) (h : Preserves us kinds (l ∷ ls) Flow Q body) where
      without : (frame : List Datum) → AreFitting us kinds frame (l ∷ ls) → AreFitting us kinds (drop 1 frame) ls
      without [] fits = absurd fits
      without (v ∷ vs) fits = fits.1

      inside : State → Out Flow
      inside s = after (body s) (λ flow s2. Goes flow (without_name s2))

      inside_leaves : (o : Out Flow) → Leaves us kinds (l ∷ ls) Q o → Leaves us kinds ls Q (after o (λ flow s2. Goes flow (without_name s2)))
      inside_leaves (Goes flow s) left = (without s.frame left.0, left.1)
      inside_leaves (Stops (Needs need)) left = left
      inside_leaves (Stops (Faults fault)) left = tt
      inside_leaves (Stops Busy) left = tt

      -- the numbers of so many rounds fit the variable
      abbrev pub AreWords : ℕ → ℤ → Type 0
      AreWords n i = (k : ℕ) → k < n → Fits us kinds (datum.int (i +ℤ pos k)) l.type

      counted_preserves : (i : ℤ) → Fits us kinds (datum.int i) l.type → Preserves us kinds ls Flow Q (counted_round i body)
      counted_preserves i one =
          then_preserves ls Any Q turn _ fronts.turns (turn_preserves ls) (λ x holds. record {
            preserves = λ s fits all.
                inside_leaves (body (with_name (datum.int i) s))
                (h.preserves (with_name (datum.int i) s) (one, fits) (λ before rest answer need is comes.
                all before rest answer need is (ap (λ o. after o (λ flow s2. Goes flow (without_name s2))) comes)));
          })

      counted_front : (i : ℤ) → Front Flow (counted_round i body)
      counted_front i =
          fronts.then _ _ _ _ fronts.turns (λ x.
          fronts.framed Flow (λ frame s. after (body s) (λ flow s2. Goes flow (without_name s2))) (λ frame. datum.int i ∷ frame) (λ frame.
          fronts.then _ _ _ _ front (λ flow. fronts.framed Flow (λ frame s. Goes flow s) (λ frame. drop 1 frame) (λ frame. fronts.goes Flow flow))))

      pub count_preserves : (n : ℕ) (i : ℤ) → AreWords n i → Preserves us kinds ls Flow Q (count n i body)
      count_preserves zero i words = goes_preserves ls Q On on
      count_preserves (suc n) i words =
          let first : i +ℤ pos 0 ≡ i = omega (arith, ints) in
          then_preserves ls Q Q (counted_round i body) _ (counted_front i)
          (counted_preserves i (subst (λ z. Fits us kinds (datum.int z) l.type) first (words 0 (omega arith)))) (λ flow holds.
          go_on_preserves flow (count n (i +ℤ pos 1) body) holds (count_preserves n (i +ℤ pos 1) (λ k less.
          let shifted : i +ℤ pos (suc k) ≡ (i +ℤ pos 1) +ℤ pos k = omega (arith, ints) in
          subst (λ z. Fits us kinds (datum.int z) l.type) shifted (words (suc k) (omega (arith, less))))))
