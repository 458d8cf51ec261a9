-- A member applies what is due, and notes that, until there is nothing more.
use Rattle.std.proofs.Common.{◌≡◌, ◌≤◌, ◌<◌, ◌+◌, ◌-◌, ◌^◌, ◌++◌, ◌∷◌, ◌⊎◌, inl, inr, ℕ, zero, suc, Bool, true, false, List, [], length, take, drop, slice_get, Some, None, append_assoc, refl, sym, ap, ◌∙◌, subst, arith, if◌then◌else◌}
use Rattle.std.proofs.lemmas.Bool.{cases_lt}
use Rattle.value_core.specs.declared.action.Reply.{Reply}
use Rattle.value_core.specs.declared.message.Message.{Message}
use Rattle.object_manager.specs.After.{Copied}
use Rattle.group_rules.specs.Member.{Member, Waiting}
use Rattle.group_member.specs.Laws.{LengthLaw}
use Rattle.world_rules.specs.Applying.{applies, applies_all, applies_each, applies_one, due_entries, notes, passes_limit, round, rounds}
use Rattle.world_rules.specs.Frame.{Frame}
use Rattle.world_rules.specs.Nodes as nodes
use Rattle.world_rules.specs.Nodes.{NodeWork, entries_of}
use Rattle.node_rules.specs.Conditions.{Fitness}
use Rattle.node_rules.specs.Moments.{IsDue, Moment, works}
use Rattle.node_rules.specs.Moments.Walks.{Stays}
use Rattle.node_rules.proofs.Ending.{catching_up_ends}
use Rattle.node_rules.proofs.Walking.{due_rest, one_more}
use Rattle.node_core.specs.Entries.{AppliesNext, Gathers}
use Rattle.node_core.specs.Pieces.{GoesOn, IsSomewhere}
use Rattle.node_parts.specs.Shown.{Left, Stood}
use Rattle.node_core.specs.Stands.{IsAt}
use Rattle.node_parts.specs.declared.errand.Errand.{Errand}
use Rattle.node_core.specs.declared.work.Work.{Work}
use Rattle.node_core.proofs.Gathering.{entries_more}
use Rattle.node_core.proofs.NextEntry.{due_there}
use Rattle.node_core.proofs.Noting.{noted_else}

-- ---- in the world

take_there : {A : Type 0} (a n : ℕ) (xs : List A) (x : A) → n < a → slice_get xs n ≡ Some x → drop n (take a xs) ≡ x ∷ drop (suc n) (take a xs)
take_there a n [] x lt at = absurd (cc at)
take_there zero n (y ∷ ys) x lt at = absurd (omega (arith, lt))
take_there {A} (suc a) zero (y ∷ ys) x lt at = (let e : y ≡ x = cc at in ap (λ (z : A). z ∷ take a ys) e)
take_there (suc a) (suc n) (y ∷ ys) x lt at = take_there a n ys x (omega (arith, lt)) at

take_past : {A : Type 0} (a n : ℕ) (xs : List A) → a ≤ n → drop n (take a xs) ≡ []
take_past zero zero xs le = refl
take_past zero (suc n) xs le = refl
take_past (suc a) zero xs le = absurd (omega (arith, le))
take_past (suc a) (suc n) [] le = refl
take_past (suc a) (suc n) (y ∷ ys) le = take_past a n ys (omega (arith, le))

due_is : (node : nodes.Node) (x : Message) → IsDue node x → due_entries node ≡ x ∷ drop (suc node.copies.applied) (take node.member.accepted node.member.log)
due_is node x due = take_there node.member.accepted node.copies.applied node.member.log x due.accepted due.there

each_first : (f : Frame) (m : ℕ) (v : NodeWork) (x : Message) (xs : List Message) → passes_limit f v.node x ≡ false → applies_each f m (x ∷ xs) v ≡ applies_each f m xs (applies_one f m x v)
each_first f m v x xs within = ap (λ (b : Bool). if b then v else applies_each f m xs (applies_one f m x v)) within

-- where it passes no limit, the rest is applied behind it
pub applies_on : (f : Frame) (m : ℕ) (v : NodeWork) (x : Message) → IsDue v.node x → passes_limit f v.node x ≡ false → applies f m (applies_one f m x v) ≡ applies f m v
applies_on f m v x due within =
    let rest : List Message = drop (suc v.node.copies.applied) (take v.node.member.accepted v.node.member.log) in
    let is = due_is v.node x due in
    ap (λ (xs : List Message). applies_each f m xs (applies_one f m x v)) (sym (due_rest v (applies_one f m x v) x rest (one_more f m x v) (sym is)))
    ∙ sym (each_first f m v x rest within) ∙ ap (λ (xs : List Message). applies_each f m xs v) (sym is)

-- where it passes one, none is applied
pub applies_stops : (f : Frame) (m : ℕ) (v : NodeWork) (x : Message) → IsDue v.node x → passes_limit f v.node x ≡ true → applies f m v ≡ v
applies_stops f m v x due limit =
    let rest : List Message = drop (suc v.node.copies.applied) (take v.node.member.accepted v.node.member.log) in
    ap (λ (xs : List Message). applies_each f m xs v) (due_is v.node x due)
    ∙ ap (λ (b : Bool). if b then v else applies_each f m rest (applies_one f m x v)) limit

-- nor where none is due
pub applies_done : (f : Frame) (m : ℕ) (v : NodeWork) → v.node.member.accepted ≤ v.node.copies.applied → applies f m v ≡ v
applies_done f m v le = ap (λ (xs : List Message). applies_each f m xs v) (take_past v.node.member.accepted v.node.copies.applied v.node.member.log le)

-- the member stays in its group
member_each : (f : Frame) (m : ℕ) (xs : List Message) (v : NodeWork) → (applies_each f m xs v).node.member ≡ v.node.member
member_each f m [] v = refl
member_each f m (x ∷ xs) v = go (passes_limit f v.node x) (member_each f m xs (applies_one f m x v) ∙ (one_more f m x v).member)
  where
    go : (b : Bool) → (applies_each f m xs (applies_one f m x v)).node.member ≡ v.node.member → (if b then v else applies_each f m xs (applies_one f m x v)).node.member ≡ v.node.member
    go true rest = refl
    go false rest = rest

pub member_applies : (f : Frame) (m : ℕ) (v : NodeWork) → (applies f m v).node.member ≡ v.node.member
member_applies f m v = member_each f m (due_entries v.node) v

each_rests : (f : Frame) (m : ℕ) (xs : List Message) (v : NodeWork) → xs ≡ due_entries v.node → applies f m (applies_each f m xs v) ≡ applies_each f m xs v
each_rests f m [] v is = ap (λ (xs : List Message). applies_each f m xs v) (sym is)
each_rests f m (x ∷ xs) v is = go (passes_limit f v.node x) refl (each_rests f m xs (applies_one f m x v) (due_rest v (applies_one f m x v) x xs (one_more f m x v) is))
  where
    u : NodeWork
    u = applies_one f m x v

    go : (b : Bool) → passes_limit f v.node x ≡ b → applies f m (applies_each f m xs u) ≡ applies_each f m xs u
        → applies f m (if b then v else applies_each f m xs u) ≡ (if b then v else applies_each f m xs u)
    go false within rest = rest
    go true limit rest =
        ap (λ (l : List Message). applies_each f m l v) (sym is)
        ∙ ap (λ (b : Bool). if b then v else applies_each f m xs (applies_one f m x v)) limit

-- what applied what is due has none that is
applies_rests : (f : Frame) (m : ℕ) (v : NodeWork) → applies f m (applies f m v) ≡ applies f m v
applies_rests f m v = each_rests f m (due_entries v.node) v refl

-- ---- rounds

-- after so many of them
abbrev pub times : Frame → ℕ → ℕ → NodeWork → NodeWork
times f m zero v = v
times f m (suc n) v = round f m (times f m n v)

first_round : (f : Frame) (m n : ℕ) (v : NodeWork) → times f m n (round f m v) ≡ round f m (times f m n v)
first_round f m zero v = refl
first_round f m (suc n) v = ap (round f m) (first_round f m n v)

rounds_times : (f : Frame) (m : ℕ) (ws : List (Waiting Message)) (v : NodeWork) → rounds f m ws v ≡ times f m (suc (length ws)) v
rounds_times f m [] v = refl
rounds_times f m (w ∷ ws) v = rounds_times f m ws (round f m v) ∙ first_round f m (suc (length ws)) v

-- where a round does nothing, no more do
ends_at : (f : Frame) (m n j k : ℕ) (v : NodeWork) → round f m (times f m n v) ≡ times f m n v → n + j ≡ k → times f m k v ≡ times f m n v
ends_at f m n zero k v end is = ap (λ (i : ℕ). times f m i v) (let e : k ≡ n = omega (arith, is) in e)
ends_at f m n (suc j) zero v end is = absurd (omega (arith, is))
ends_at f m n (suc j) (suc k) v end is = ap (round f m) (ends_at f m n j k v end (omega (arith, is))) ∙ end

-- so it is the same wherever that is
same_end : (f : Frame) (m n k : ℕ) (v : NodeWork) → round f m (times f m n v) ≡ times f m n v → round f m (times f m k v) ≡ times f m k v → times f m n v ≡ times f m k v
same_end f m n k v one other = go (cases_lt n k)
  where
    go : (n < k) ⊎ (k ≤ n) → times f m n v ≡ times f m k v
    go (inl lt) = sym (ends_at f m n (k - n) k v one (omega (arith, lt)))
    go (inr le) = ends_at f m k (n - k) n v other (omega (arith, le))

-- where nothing is to be noted, all was applied
pub rounds_done : (f : Frame) (m n : ℕ) (v : NodeWork) → notes f m (applies f m (times f m n v)) ≡ applies f m (times f m n v) → applies f m (times f m n v) ≡ applies_all f m v
rounds_done f m n v none =
    let ws : List (Waiting Message) = v.node.member.waiting in
    let all = rounds_times f m ws v in
    let ends : round f m (times f m (suc (length ws)) v) ≡ times f m (suc (length ws)) v = ap (round f m) (sym all) ∙ catching_up_ends f m v ∙ all in
    let still : round f m (times f m (suc n) v) ≡ times f m (suc n) v =
    ap (λ (w : NodeWork). round f m w) none ∙ ap (notes f m) (applies_rests f m (times f m n v)) in
    sym none ∙ same_end f m (suc n) (suc (length ws)) v still ends ∙ sym all

-- ---- at work, entry by entry

-- what it has applied so far leads to all that it may
pub record AppliedSoFar {P S : Type 0} (stood : Stood S) (left : Left S) (f : Frame) (fitness : Fitness) (m : ℕ) (s : Work P S) (hand : List Errand) (u : Moment) (from now : List Message) : Type 0 where
  pub work : NodeWork
  pub at_work : IsAt stood left f fitness m s hand (works work u)
  pub rest : applies f m work ≡ applies f m u.work
  pub told : (first : List Message) → first ++ from ≡ entries_of u.work.node → first ++ now ≡ entries_of work.node

abbrev pub SoFar : {P S : Type 0} → Stood S → Left S → Frame → Fitness → Work P S → Work P S → List Message → List Message → Type 0
SoFar stood left f fitness start s from now =
    (m : ℕ) (hand : List Errand) (u : Moment) → IsAt stood left f fitness m start hand u → AppliedSoFar stood left f fitness m s hand u from now

pub so_far : {P S : Type 0} (stood : Stood S) (left : Left S) (f : Frame) (fitness : Fitness) (s : Work P S) (from : List Message) → SoFar stood left f fitness s s from from
so_far stood left f fitness s from m hand u at = record { work = u.work; at_work = at; rest = refl; told = λ first is. is }

-- it is somewhere
pub somewhere_far : {P S : Type 0} (stood : Stood S) (left : Left S) (f : Frame) (fitness : Fitness) (start s : Work P S) (from now : List Message) → IsSomewhere stood left f fitness start → SoFar stood left f fitness start s from now
    → IsSomewhere stood left f fitness s
somewhere_far stood left f fitness start s from now (m, hand, u, at) far = (let here = far m hand u at in (m, hand, works here.work u, here.at_work))

-- one entry more
pub far_more : {P S : Type 0} (stood : Stood S) (left : Left S) (f : Frame) (fitness : Fitness) (start old new : Work P S) (from now next : List Message) (y : Message) → LengthLaw Message Reply
    → SoFar stood left f fitness start old from now → old.node.copies.applied < old.node.member.accepted → AppliesNext stood left f fitness old new (Some y) → next ≡ now ++ y ∷ []
    → SoFar stood left f fitness start new from next
far_more stood left f fitness start old new from now next y law far lt goes joins m hand u at =
    let here = far m hand u at in
    let due = due_there stood left f fitness m old hand (works here.work u) law here.at_work lt in
    let done = goes m hand (works here.work u) due.0 here.at_work due.1 in
    record {
      work = applies_one f m due.0 here.work;
      at_work = done.2;
      rest = applies_on f m here.work due.0 due.1 done.1 ∙ here.rest;
      told = λ first is.
          ap (λ (l : List Message). first ++ l) joins ∙ sym (append_assoc first now (y ∷ []))
          ∙ ap (λ (l : List Message). l ++ y ∷ []) (here.told first is)
          ∙ ap (λ (x : Message). entries_of here.work.node ++ x ∷ []) done.0
          ∙ entries_more f m due.0 here.work due.1;
    }

-- fewer are left
pub far_smaller : {P S : Type 0} (stood : Stood S) (left : Left S) (f : Frame) (fitness : Fitness) (start old new : Work P S) (from now : List Message) (y : Message) → LengthLaw Message Reply → IsSomewhere stood left f fitness start
    → SoFar stood left f fitness start old from now → old.node.copies.applied < old.node.member.accepted → AppliesNext stood left f fitness old new (Some y)
    → new.node.member.accepted - new.node.copies.applied < old.node.member.accepted - old.node.copies.applied
far_smaller stood left f fitness start old new from now y law (m, hand, u, at) far lt next =
    let here = far m hand u at in
    let due = due_there stood left f fitness m old hand (works here.work u) law here.at_work lt in
    let done = next m hand (works here.work u) due.0 here.at_work due.1 in
    let one = one_more f m due.0 here.work in
    let applied = one.applied in
    let stays = ap (λ (s : Member Message). s.accepted) one.member in
    let before = here.at_work.work.node.member.accepted in
    let after = done.2.work.node.member.accepted in
    let copied = ap (λ (c : Copied). c.applied) here.at_work.work.node.copies in
    let copied_after = ap (λ (c : Copied). c.applied) done.2.work.node.copies in
    omega (arith, applied, stays, before, after, copied, copied_after, lt)

-- the next one passes a limit
pub far_stops : {P S : Type 0} (stood : Stood S) (left : Left S) (f : Frame) (fitness : Fitness) (start old new : Work P S) (from now : List Message) → LengthLaw Message Reply
    → SoFar stood left f fitness start old from now → old.node.copies.applied < old.node.member.accepted → AppliesNext stood left f fitness old new None → GoesOn stood left f fitness start new (applies f)
far_stops stood left f fitness start old new from now law far lt next m hand u at =
    let here = far m hand u at in
    let due = due_there stood left f fitness m old hand (works here.work u) law here.at_work lt in
    let done = next m hand (works here.work u) due.0 here.at_work due.1 in
    subst (λ (w : NodeWork). IsAt stood left f fitness m new hand (works w u)) (sym (applies_stops f m here.work due.0 due.1 done.0) ∙ here.rest) done.1

pub told_stops : {P S : Type 0} (stood : Stood S) (left : Left S) (f : Frame) (fitness : Fitness) (start old new : Work P S) (from now : List Message) → LengthLaw Message Reply
    → SoFar stood left f fitness start old from now → old.node.copies.applied < old.node.member.accepted → AppliesNext stood left f fitness old new None → Gathers stood left f fitness start from now (applies f)
told_stops stood left f fitness start old new from now law far lt next m hand u first at is =
    let here = far m hand u at in
    let due = due_there stood left f fitness m old hand (works here.work u) law here.at_work lt in
    let done = next m hand (works here.work u) due.0 here.at_work due.1 in
    here.told first is ∙ ap (λ (w : NodeWork). entries_of w.node) (sym (applies_stops f m here.work due.0 due.1 done.0) ∙ here.rest)

-- or none is left
all_applied : {P S : Type 0} (stood : Stood S) (left : Left S) (f : Frame) (fitness : Fitness) (m : ℕ) (s : Work P S) (hand : List Errand) (u : Moment) (from now : List Message)
    → s.node.member.accepted ≤ s.node.copies.applied → (here : AppliedSoFar stood left f fitness m s hand u from now) → here.work ≡ applies f m u.work
all_applied stood left f fitness m s hand u from now le here =
    let accepted = here.at_work.work.node.member.accepted in
    let copied = ap (λ (c : Copied). c.applied) here.at_work.work.node.copies in
    sym (applies_done f m here.work (omega (arith, accepted, copied, le))) ∙ here.rest

pub far_done : {P S : Type 0} (stood : Stood S) (left : Left S) (f : Frame) (fitness : Fitness) (start s : Work P S) (from now : List Message) → SoFar stood left f fitness start s from now
    → s.node.member.accepted ≤ s.node.copies.applied → GoesOn stood left f fitness start s (applies f)
far_done stood left f fitness start s from now far le m hand u at =
    let here = far m hand u at in
    subst (λ (w : NodeWork). IsAt stood left f fitness m s hand (works w u)) (all_applied stood left f fitness m s hand u from now le here) here.at_work

pub told_done : {P S : Type 0} (stood : Stood S) (left : Left S) (f : Frame) (fitness : Fitness) (start s : Work P S) (from now : List Message) → SoFar stood left f fitness start s from now
    → s.node.member.accepted ≤ s.node.copies.applied → Gathers stood left f fitness start from now (applies f)
told_done stood left f fitness start s from now far le m hand u first at is =
    let here = far m hand u at in
    here.told first is ∙ ap (λ (w : NodeWork). entries_of w.node) (all_applied stood left f fitness m s hand u from now le here)

-- ---- at work, round by round

-- it applied what was due after some rounds
pub record RoundsSoFar {P S : Type 0} (stood : Stood S) (left : Left S) (f : Frame) (fitness : Fitness) (m : ℕ) (s : Work P S) (hand : List Errand) (u : Moment) (from now : List Message) : Type 0 where
  pub count : ℕ
  pub at_work : IsAt stood left f fitness m s hand (works (applies f m (times f m count u.work)) u)
  pub told : (first : List Message) → first ++ from ≡ entries_of u.work.node → first ++ now ≡ entries_of (applies f m (times f m count u.work)).node

abbrev pub InRounds : {P S : Type 0} → Stood S → Left S → Frame → Fitness → Work P S → Work P S → List Message → List Message → Type 0
InRounds stood left f fitness start s from now =
    (m : ℕ) (hand : List Errand) (u : Moment) → IsAt stood left f fitness m start hand u → RoundsSoFar stood left f fitness m s hand u from now

pub first_applied : {P S : Type 0} (stood : Stood S) (left : Left S) (f : Frame) (fitness : Fitness) (start s : Work P S) (from now : List Message) → GoesOn stood left f fitness start s (applies f)
    → Gathers stood left f fitness start from now (applies f) → InRounds stood left f fitness start s from now
first_applied stood left f fitness start s from now goes gathers m hand u at = record { count = 0; at_work = goes m hand u at; told = λ first is. gathers m hand u first at is }

pub somewhere_goes : {P S : Type 0} (stood : Stood S) (left : Left S) (f : Frame) (fitness : Fitness) (old new : Work P S) (piece : ℕ → NodeWork → NodeWork)
    → IsSomewhere stood left f fitness old → GoesOn stood left f fitness old new piece → IsSomewhere stood left f fitness new
somewhere_goes stood left f fitness old new piece (m, hand, u, at) goes = (m, hand, works (piece m u.work) u, goes m hand u at)

pub somewhere_rounds : {P S : Type 0} (stood : Stood S) (left : Left S) (f : Frame) (fitness : Fitness) (start s : Work P S) (from now : List Message) → IsSomewhere stood left f fitness start → InRounds stood left f fitness start s from now
    → IsSomewhere stood left f fitness s
somewhere_rounds stood left f fitness start s from now (m, hand, u, at) far =
    (let here = far m hand u at in (m, hand, works (applies f m (times f m here.count u.work)) u, here.at_work))

pub rounds_more : {P S : Type 0} (stood : Stood S) (left : Left S) (f : Frame) (fitness : Fitness) (start old mid new : Work P S) (from now next : List Message) → InRounds stood left f fitness start old from now
    → GoesOn stood left f fitness old mid (notes f) → GoesOn stood left f fitness mid new (applies f) → Gathers stood left f fitness mid now next (applies f)
    → InRounds stood left f fitness start new from next
rounds_more stood left f fitness start old mid new from now next far note more gathers m hand u at =
    let here = far m hand u at in
    let w : NodeWork = applies f m (times f m here.count u.work) in
    let noted = note m hand (works w u) here.at_work in
    record {
      count = suc here.count;
      at_work = more m hand (works (notes f m w) u) noted;
      told = λ first is. gathers m hand (works (notes f m w) u) first noted (here.told first is ∙ sym (here.at_work.fits (works w u) (Stays (works w u))).kept);
    }

-- more was noted, and no more is than fits a number
pub rounds_smaller : {P S : Type 0} (stood : Stood S) (left : Left S) (f : Frame) (fitness : Fitness) (start old mid new : Work P S) (from now : List Message) → IsSomewhere stood left f fitness start
    → InRounds stood left f fitness start old from now → GoesOn stood left f fitness old mid (notes f) → GoesOn stood left f fitness mid new (applies f)
    → old.node.member.applied < old.node.copies.applied → old.node.copies.applied ≤ mid.node.member.applied
    → 2 ^ 62 - new.node.member.applied < 2 ^ 62 - old.node.member.applied
rounds_smaller stood left f fitness start old mid new from now (m, hand, u, at) far note more lt noted =
    let here = far m hand u at in
    let w : NodeWork = applies f m (times f m here.count u.work) in
    let middle = note m hand (works w u) here.at_work in
    let after = more m hand (works (notes f m w) u) middle in
    let stays = ap (λ (s : Member Message). s.applied) (member_applies f m (notes f m w)) in
    let before = here.at_work.work.node.member.member.small in
    let one = middle.work.node.member.applied in
    let two = after.work.node.member.applied in
    omega (arith, stays, before, one, two, lt, noted)

-- nothing is to be noted any more
all_noted : {P S : Type 0} (stood : Stood S) (left : Left S) (f : Frame) (fitness : Fitness) (m : ℕ) (s : Work P S) (hand : List Errand) (u : Moment) (from now : List Message)
    → s.node.copies.applied ≤ s.node.member.applied → (here : RoundsSoFar stood left f fitness m s hand u from now) → applies f m (times f m here.count u.work) ≡ applies_all f m u.work
all_noted stood left f fitness m s hand u from now le here =
    let w : NodeWork = applies f m (times f m here.count u.work) in
    let applied = here.at_work.work.node.member.applied in
    let copied = ap (λ (c : Copied). c.applied) here.at_work.work.node.copies in
    rounds_done f m here.count u.work (noted_else f m w (omega (arith, applied, copied, le)))

pub rounds_over : {P S : Type 0} (stood : Stood S) (left : Left S) (f : Frame) (fitness : Fitness) (start s : Work P S) (from now : List Message) → InRounds stood left f fitness start s from now
    → s.node.copies.applied ≤ s.node.member.applied → GoesOn stood left f fitness start s (applies_all f)
rounds_over stood left f fitness start s from now far le m hand u at =
    let here = far m hand u at in
    subst (λ (x : NodeWork). IsAt stood left f fitness m s hand (works x u)) (all_noted stood left f fitness m s hand u from now le here) here.at_work

pub told_over : {P S : Type 0} (stood : Stood S) (left : Left S) (f : Frame) (fitness : Fitness) (start s : Work P S) (from now : List Message) → InRounds stood left f fitness start s from now
    → s.node.copies.applied ≤ s.node.member.applied → Gathers stood left f fitness start from now (applies_all f)
told_over stood left f fitness start s from now far le m hand u first at is =
    let here = far m hand u at in
    here.told first is ∙ ap (λ (w : NodeWork). entries_of w.node) (all_noted stood left f fitness m s hand u from now le here)
