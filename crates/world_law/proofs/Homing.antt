-- Each process is at its home, along a run.
use Rattle.std.proofs.Common.{◌≡◌, ◌==◌, ◌+◌, ◌≤◌, ◌<◌, ◌*◌, ℕ, zero, suc, List, [], ◌∷◌, ◌++◌, append_assoc, append-nil, length, length-append, take, drop, Option, None, Some, refl, sym, ap, ◌∙◌, arith, subst, nat_lt}
use Rattle.std.proofs.lemmas.Bool.{cond_both, eqb-true}
use Rattle.std.proofs.lemmas.List.{length-take, take-append-drop}
use Rattle.value_core.specs.declared.action.Action.{Action}
use Rattle.value_core.specs.declared.action.Action.TheVariants as action
use Rattle.value_core.specs.declared.action.Class.{Class}
use Rattle.value_core.specs.declared.action.Class.TheVariants.{Reads, Writes}
use Rattle.value_core.specs.declared.action.Line.{Line}
use Rattle.value_core.specs.declared.message.Message.{Message}
use Rattle.guard_queue.specs.declared.queue.Suspended.{Suspended}
use Rattle.book_law.specs.Passes.{lines_after}
use Rattle.group_law.specs.Agreed.{AgreedLaw}
use Rattle.group_rules.specs.Member.{Member, Waiting, nobody}
use Rattle.group_rules.specs.Sets.{Begins}
use Rattle.group_rules.specs.World.{Event}
use Rattle.world_rules.specs.declared.event.Step.{Step}
use Rattle.world_rules.specs.Applying.{answers, applies, applies_all, applies_each, applies_one, begins, copies_take, due_entries, notes, passes_limit, round, rounds, tries_reads}
use Rattle.world_rules.specs.Frame.{Frame, group}
use Rattle.world_rules.specs.Mail.{Mail, receiver_of}
use Rattle.world_rules.specs.Nodes.{Node, NodeWork, entries_of, idle, known, opening_node}
use Rattle.world_rules.specs.Owners.{takes_reached}
use Rattle.world_rules.specs.Parts.{acts_at, acts_by, acts_of, calls_as, catches_up, computes, receives_mail}
use Rattle.world_rules.specs.Played.{Played, Stage, newborn, next_call}
use Rattle.world_rules.specs.Played.Stage.{Computing, Acting, Submitted, Reading, Asking, Over}
use Rattle.world_rules.specs.Processes.{Begun, begun_by, first_process, home_in, processes_from, processes_in, singles_of, with_entry}
use Rattle.world_rules.specs.Steps.{AtWork, Next, happens}
use Rattle.world_rules.specs.Worlds.{World, agreed, applied_at, home_of}
use Rattle.world_law.specs.Gives.{AreNotes, Gives, came, timed}
use Rattle.world_law.specs.Grouped.{Come, Grouped}
use Rattle.world_law.specs.Grouped.{Submits as MayAll}
use Rattle.world_law.specs.Homes.{AreHome, IsHome, StepsHome}
use Rattle.world_law.specs.Lists.{OneList}
use Rattle.world_law.specs.Moments.{Lives}
use Rattle.world_law.proofs.Ages.{born_many, burst_later, count_begins, counts, goes_acts, goes_joins, goes_mail, goes_notes, posted_nodes}
use Rattle.world_law.proofs.Applied.{applied_exactly, applied_one}
use Rattle.world_law.proofs.AtWork.{coordinated_is, ticked_is}
use Rattle.world_law.proofs.Gives.{from_start, gives, kept_acts, start}
use Rattle.world_law.proofs.Going.{Goes, goes_again, goes_answers, goes_on, goes_reached, goes_reads}
use Rattle.world_law.proofs.Grouping.{Laws}
use Rattle.world_law.proofs.Homes.{known_low}
use Rattle.world_law.proofs.Lists.{one_list}
use Rattle.world_law.proofs.Maps.{at_both}
use Rattle.world_law.proofs.Moments.{MoreLaws, kept_by, kept_delivers}
use Rattle.world_law.proofs.Still.{still_again, still_arrives, still_asks, still_reached, still_reading}
use Rattle.world_law.proofs.Walking.{Allowed, Start, Walks, begun, good_begun, performed_node, walk_event}

-- ---- lists

take_front : {A : Type 0} (k n : ℕ) (xs : List A) → k ≤ n → take k (take n xs) ≡ take k xs
take_front zero n xs le = refl
take_front (suc k) zero xs le = absurd (omega (arith, le))
take_front (suc k) (suc n) [] le = refl
take_front (suc k) (suc n) (x ∷ xs) le = ap (λ ys. x ∷ ys) (take_front k n xs (omega (arith, le)))

-- what stands at a place: the front up to it is one longer, and the rest one shorter
record Split {A : Type 0} (a : ℕ) (ys : List A) (x : A) (xs : List A) : Type 0 where
  front : take (suc a) ys ≡ take a ys ++ x ∷ []
  rest : drop (suc a) ys ≡ xs
  less : a < length ys

split_at : {A : Type 0} (a : ℕ) (ys : List A) (x : A) (xs : List A) → drop a ys ≡ x ∷ xs → Split a ys x xs
split_at zero [] x xs e = absurd (cc e)
split_at zero (y ∷ ys) x xs e =
    let first : y ≡ x = cc e in
    let second : ys ≡ xs = cc e in
    record { front = ap (λ z. z ∷ []) first; rest = second; less = omega arith }
split_at (suc a) [] x xs e = absurd (cc e)
split_at (suc a) (y ∷ ys) x xs e =
    let s = split_at a ys x xs e in
    let less = s.less in
    record { front = ap (λ zs. y ∷ zs) s.front; rest = s.rest; less = omega (arith, less) }

-- ---- processes of more entries

home_front : (xs ys : List Begun) (i : ℕ) → i < length xs → home_in (xs ++ ys) i ≡ home_in xs i
home_front [] ys i less = absurd (omega (arith, less))
home_front (x ∷ xs) ys zero less = refl
home_front (x ∷ xs) ys (suc i) less = home_front xs ys i (omega (arith, less))

home_end : (xs : List Begun) (one : Begun) → home_in (xs ++ one ∷ []) (length xs) ≡ one.home
home_end [] one = refl
home_end (x ∷ xs) one = home_end xs one

from_more : (f : Frame) (processes : List Begun) (n : ℕ) (xs : List Message) (x : Message) →
    processes_from f processes n (xs ++ x ∷ []) ≡ with_entry f (processes_from f processes n xs) (suc (n + length xs)) x
from_more f processes n [] x = ap (λ k. with_entry f processes (suc k) x) (omega arith)
from_more f processes n (y ∷ xs) x =
    from_more f (with_entry f processes (suc n) y) (suc n) xs x
    ∙ ap (λ k. with_entry f (processes_from f (with_entry f processes (suc n) y) (suc n) xs) (suc k) x) (omega arith)

-- what longer lists begin is what shorter ones do, and more
from_front : (f : Frame) (processes : List Begun) (n : ℕ) (xs : List Message) → (more : List Begun) × (processes_from f processes n xs ≡ processes ++ more)
from_front f processes n [] = ([], sym (append-nil processes))
from_front f processes n (x ∷ xs) =
    let born : List Begun = begun_by f.settings.nodes (home_in processes x.process.0) (suc n) x.action in
    let rest = from_front f (with_entry f processes (suc n) x) (suc n) xs in
    (born ++ rest.0, rest.1 ∙ append_assoc processes born rest.0)

from_append : (f : Frame) (processes : List Begun) (n : ℕ) (xs ys : List Message) →
    processes_from f processes n (xs ++ ys) ≡ processes_from f (processes_from f processes n xs) (n + length xs) ys
from_append f processes n [] ys = ap (λ k. processes_from f processes k ys) (omega arith)
from_append f processes n (x ∷ xs) ys =
    from_append f (with_entry f processes (suc n) x) (suc n) xs ys
    ∙ ap (λ k. processes_from f (processes_from f (with_entry f processes (suc n) x) (suc n) xs) k ys) (omega arith)

in_front : (f : Frame) (xs ys : List Message) → (more : List Begun) × (processes_in f (xs ++ ys) ≡ processes_in f xs ++ more)
in_front f xs ys =
    let rest = from_front f (processes_in f xs) (0 + length xs) ys in
    (rest.0, from_append f (first_process f ∷ []) 0 xs ys ∙ rest.1)

-- ---- a node at work

record HomedOf (m : ℕ) (here : List Begun) (played : ℕ → Option Played) (count : ℕ) : Type 0 where
  known_here : (i : ℕ) (r : Played) → played i ≡ Some r → i < length here
  home : (i : ℕ) (r : Played) → played i ≡ Some r → home_in here i ≡ m
  counted : count ≡ length here

abbrev Homed : Frame → ℕ → NodeWork → Type 0
Homed f m v = HomedOf m (known f v.node) v.node.played v.node.copies.processes

-- who is here was here
was_here : (v u : NodeWork) → Goes v u → (i : ℕ) (t : Played) → u.node.played i ≡ Some t → (r : Played) × (v.node.played i ≡ Some r)
was_here v u goes i t found = by (v.node.played i) refl
  where
    by : (o : Option Played) → v.node.played i ≡ o → (r : Played) × (v.node.played i ≡ Some r)
    by None e = let wrong : None ≡ Some t = sym (goes.none i e) ∙ found in absurd (cc wrong)
    by (Some r) e = (r, e)

homed_goes : (f : Frame) (m : ℕ) (v u : NodeWork) → Goes v u → entries_of u.node ≡ entries_of v.node → Homed f m v → Homed f m u
homed_goes f m v u goes same h =
    subst (λ xs. HomedOf m (processes_in f xs) u.node.played u.node.copies.processes) (sym same) (record {
      known_here = λ i t found. let a = was_here v u goes i t found in h.known_here i a.0 a.1;
      home = λ i t found. let a = was_here v u goes i t found in h.home i a.0 a.1;
      counted = goes.count ∙ h.counted;
    })

-- ---- one entry

-- the processes known before, and those that the entry begins
begins_homed : (m i : ℕ) (here : List Begun) (born : List Begun) (v : NodeWork) → length born ≤ 1 → i ≡ length here →
    ((j : ℕ) (r : Played) → v.node.played j ≡ Some r → (j < length here) × (home_in here j ≡ m)) →
    (j : ℕ) (r : Played) → (begins m i born v).node.played j ≡ Some r → (j < length (here ++ born)) × (home_in (here ++ born) j ≡ m)
begins_homed m i here [] v few is h j r found =
    let a = h j r found in
    subst (λ xs. (j < length xs) × (home_in xs j ≡ m)) (sym (append-nil here)) a
begins_homed m i here (one ∷ two ∷ rest) v few is h j r found = absurd (omega (arith, few))
begins_homed m i here (one ∷ []) v few is h j r found =
    let n = length-append here (one ∷ []) in
    let on : (begins m i (one ∷ []) v).node.played j ≡ Some r → (j < length (here ++ one ∷ [])) × (home_in (here ++ one ∷ []) j ≡ m) =
    cond_both (one.home == m) _ _ (λ (u : NodeWork). u.node.played j ≡ Some r → (j < length (here ++ one ∷ [])) × (home_in (here ++ one ∷ []) j ≡ m))
    (λ e. at_both v.node.played i (Some (newborn one)) j
    (λ z. z ≡ Some r → (j < length (here ++ one ∷ [])) × (home_in (here ++ one ∷ []) j ≡ m))
    (λ own found. (omega (arith, own, is, n), ap (home_in (here ++ one ∷ [])) (own ∙ is) ∙ home_end here one ∙ eqb-true one.home m e))
    (λ no found. let a = h j r found in let less = a.0 in (omega (arith, less, n), home_front here (one ∷ []) j less ∙ a.1)))
    (λ e found. let a = h j r found in let less = a.0 in (omega (arith, less, n), home_front here (one ∷ []) j less ∙ a.1)) in
    on found

born_few : (nodes parent place : ℕ) (act : Action) → length (begun_by nodes parent place act) ≤ 1
born_few nodes parent place (action.Fork text args place_on) = omega arith
born_few nodes parent place (action.Make kind object) = omega arith
born_few nodes parent place (action.Call kind op object args) = omega arith
born_few nodes parent place action.Ended = omega arith
born_few nodes parent place (action.Faulted fault) = omega arith

homed_one : (f : Frame) (m : ℕ) (x : Message) (v : NodeWork) → entries_of (applies_one f m x v).node ≡ entries_of v.node ++ x ∷ [] →
    length (entries_of v.node) ≡ v.node.copies.applied → Homed f m v → Homed f m (applies_one f m x v)
homed_one f m x v grows many h =
    let ps : List Begun = known f v.node in
    let count : ℕ = v.node.copies.processes in
    let place : ℕ = suc v.node.copies.applied in
    let taken : NodeWork = copies_take f m ps x v in
    let lines : List Line = lines_after (singles_of f ps) f.performs v.node.copies x in
    let told : NodeWork = answers place lines taken in
    let born : List Begun = begun_by f.settings.nodes (home_in ps x.process.0) place x.action in
    let u : NodeWork = begins m count born told in
    let end : NodeWork = tries_reads f u.node.copies.processes u in
    let goes : Goes taken told = goes_answers place lines taken in
    let reads : Goes u end = goes_reads f u.node.copies.processes u in
    let known_now : known f end.node ≡ ps ++ born =
    ap (processes_in f) grows ∙ from_more f (first_process f ∷ []) 0 (entries_of v.node) x
    ∙ ap (λ k. with_entry f ps (suc k) x) (many_is many) in
    let here : (j : ℕ) (r : Played) → told.node.played j ≡ Some r → (j < length ps) × (home_in ps j ≡ m) = λ j r found.
    let a = was_here taken told goes j r found in
    (h.known_here j a.0 a.1, h.home j a.0 a.1) in
    let now : (j : ℕ) (r : Played) → u.node.played j ≡ Some r → (j < length (ps ++ born)) × (home_in (ps ++ born) j ≡ m) =
    begins_homed m count ps born told (born_few f.settings.nodes (home_in ps x.process.0) place x.action) h.counted here in
    let new = counts (singles_of f ps) f.performs v.node.copies x (home_in ps x.process.0 == m) in
    let many_born = born_many f.settings.nodes (home_in ps x.process.0) place x.action in
    let stays = reads.count in
    let begun_count = count_begins m count born told in
    let told_count = goes.count in
    let before = h.counted in
    let longer = length-append ps born in
    subst (λ xs. HomedOf m xs end.node.played end.node.copies.processes) (sym known_now) (record {
      known_here = λ j r found. let a = was_here u end reads j r found in (now j a.0 a.1).0;
      home = λ j r found. let a = was_here u end reads j r found in (now j a.0 a.1).1;
      counted = omega (arith, stays, begun_count, told_count, new, many_born, before, longer);
    })
  where
    many_is : {n k : ℕ} → n ≡ k → 0 + n ≡ k
    many_is e = omega (arith, e)

homed_each : (f : Frame) (m : ℕ) (xs : List Message) (v : NodeWork) → due_entries v.node ≡ xs → Homed f m v → Homed f m (applies_each f m xs v)
homed_each f m [] v due h = h
homed_each f m (x ∷ xs) v due h = cond_both (passes_limit f v.node x) _ _ (Homed f m) (λ e. h)
    (λ e.
    let s : Member Message = v.node.member in
    let a : ℕ = v.node.copies.applied in
    let u : NodeWork = applies_one f m x v in
    let one : Split a (take s.accepted s.log) x xs = split_at a (take s.accepted s.log) x xs due in
    let member : u.node.member ≡ s = (applied_one f (group f) m m x v).member in
    let applied : u.node.copies.applied ≡ suc a = applied_exactly f m x v ∙ omega arith in
    let less = one.less in
    let within = length-take s.accepted s.log in
    let front : take a (take s.accepted s.log) ≡ take a s.log = take_front a s.accepted s.log (omega (arith, less, within)) in
    let more : take (suc a) (take s.accepted s.log) ≡ take (suc a) s.log = take_front (suc a) s.accepted s.log (omega (arith, less, within)) in
    let grows : entries_of u.node ≡ entries_of v.node ++ x ∷ [] =
    ap (λ (z : Member Message). take u.node.copies.applied z.log) member ∙ ap (λ n. take n s.log) applied ∙ sym more ∙ one.front
    ∙ ap (λ ys. ys ++ x ∷ []) front in
    let long = length-take a s.log in
    let many : length (take a s.log) ≡ a = omega (arith, long, less, within) in
    let rest : due_entries u.node ≡ xs =
    ap (λ (z : Member Message). drop u.node.copies.applied (take z.accepted z.log)) member ∙ ap (λ n. drop n (take s.accepted s.log)) applied ∙ one.rest in
    homed_each f m xs u rest (homed_one f m x v grows many h))

-- ---- a member catches up

applied_notes : (f : Frame) (m : ℕ) (v : NodeWork) → (notes f m v).node.copies.applied ≡ v.node.copies.applied
applied_notes f m v = cond_both (nat_lt v.node.member.applied v.node.copies.applied) _ _
    (λ (u : NodeWork). u.node.copies.applied ≡ v.node.copies.applied) (λ e. refl) (λ e. refl)

homed_round : (f : Frame) (m : ℕ) (v : NodeWork) →
    take (applies f m v).node.copies.applied (round f m v).node.member.log ≡ entries_of (applies f m v).node → Homed f m v → Homed f m (round f m v)
homed_round f m v kept h =
    let u : NodeWork = applies f m v in
    homed_goes f m u (round f m v) (goes_notes f m u)
    (ap (λ n. take n (round f m v).node.member.log) (applied_notes f m u) ∙ kept)
    (homed_each f m (due_entries v.node) v refl h)

homed_rounds : (f : Frame) (m : ℕ) (w : World) (waiting : List (Waiting Message)) (v : NodeWork) → AreNotes f m w waiting v → Homed f m v →
    Homed f m (rounds f m waiting v)
homed_rounds f m w [] v steps h = homed_round f m v steps.entries h
homed_rounds f m w (one ∷ more) v steps h = homed_rounds f m w more (round f m v) steps.1 (homed_round f m v steps.0.entries h)

homed_up : (f : Frame) (m : ℕ) (w : World) (v : NodeWork) → Gives f m w v → Homed f m v → Homed f m (catches_up f m v)
homed_up f m w v given h =
    let u : NodeWork = applies_all f m v in
    let s = still_reached f (group f) m m u in
    homed_goes f m u (takes_reached f m u) (goes_reached f m u)
    (ap (λ (z : Member Message). take (takes_reached f m u).node.copies.applied z.log) s.member ∙ ap (λ n. take n u.node.member.log) s.applied)
    (homed_rounds f m w v.node.member.waiting v given.notes h)

-- ---- how a part begins

applied_as : (f : Frame) (m i : ℕ) (r : Played) (call : Suspended) (class : Class) (v : NodeWork) →
    (calls_as f m i r call class v).node.copies.applied ≡ v.node.copies.applied
applied_as f m i r call Reads v = (still_reading f (group f) m i r _ v).applied
applied_as f m i r call Writes v = refl

applied_by : (f : Frame) (m i : ℕ) (r : Played) (act : Action) (v : NodeWork) → (acts_by f m i r act v).node.copies.applied ≡ v.node.copies.applied
applied_by f m i r (action.Make kind object) v = refl
applied_by f m i r (action.Call kind op object args) v =
    let call : Suspended = record { process = record { 0 = i }; call = next_call r; kind = kind; op = op; object = object; args = args } in
    cond_both (singles_of f (known f v.node) call.object) _ _ (λ (u : NodeWork). u.node.copies.applied ≡ v.node.copies.applied)
    (λ e. (still_asks f (group f) m m i r call v).applied) (λ e. applied_as f m i r call (f.performs.class_of call.kind call.op) v)
applied_by f m i r (action.Fork text args place_on) v = refl
applied_by f m i r action.Ended v = refl
applied_by f m i r (action.Faulted fault) v = refl

applied_stage : (f : Frame) (m i : ℕ) (r : Played) (stage : Stage) (v : NodeWork) → (acts_at f m i r stage v).node.copies.applied ≡ v.node.copies.applied
applied_stage f m i r (Acting act) v = applied_by f m i r act v
applied_stage f m i r Computing v = refl
applied_stage f m i r (Submitted act) v = refl
applied_stage f m i r (Reading act) v = refl
applied_stage f m i r (Asking act) v = refl
applied_stage f m i r (Over act) v = refl

applied_acts : (f : Frame) (m i : ℕ) (o : Option Played) (v : NodeWork) → (acts_of f m i o v).node.copies.applied ≡ v.node.copies.applied
applied_acts f m i None v = refl
applied_acts f m i (Some r) v = applied_stage f m i r r.stage v

applied_mail : (f : Frame) (m : ℕ) (mail : Mail) (v : NodeWork) → (receives_mail f m mail v).node.copies.applied ≡ v.node.copies.applied
applied_mail f m (Mail.Grouped letter) v = refl
applied_mail f m (Mail.Sends incarnation from to errand) v = (still_arrives (group f) m errand v).applied

applied_begun : (f : Frame) (w : World) (m : ℕ) (start : Start) → (begun f w m start).node.copies.applied ≡ (w.nodes m).copies.applied
applied_begun f w m (Start.Acted i) = applied_acts f m i ((w.nodes m).played i) (idle (w.nodes m))
applied_begun f w m (Start.Came mail) = applied_mail f m mail (idle (w.nodes m))
applied_begun f w m Start.Timed = (still_again f (group f) m m (timed f m w)).applied
applied_begun f w m Start.Coordinated = refl

goes_begun : (f : Frame) (w : World) (m : ℕ) (start : Start) → Goes (idle (w.nodes m)) (begun f w m start)
goes_begun f w m (Start.Acted i) = goes_acts f m i ((w.nodes m).played i) (idle (w.nodes m)) refl
goes_begun f w m (Start.Came mail) = goes_mail f m mail (idle (w.nodes m))
goes_begun f w m Start.Timed = goes_on (goes_joins _ (idle (w.nodes m))) (goes_again f m (timed f m w))
goes_begun f w m Start.Coordinated = goes_joins _ (idle (w.nodes m))

kept_mail : (more : MoreLaws) (f : Frame) → 2 * (group f).resilience < (group f).nodes → (w : World) (mail : Mail) → Lives f w (receiver_of mail) → Grouped f w →
    Come w.past.letters mail →
    take (w.nodes (receiver_of mail)).copies.applied (came f (receiver_of mail) mail w).node.member.log
    ≡ take (w.nodes (receiver_of mail)).copies.applied (w.nodes (receiver_of mail)).member.log
kept_mail more f small w (Mail.Grouped letter) on grouped come =
    kept_delivers more f small w (idle (w.nodes letter.to)) letter on come (start more f small w letter.to grouped)
kept_mail more f small w (Mail.Sends incarnation from to errand) on grouped come =
    ap (λ (z : Member Message). take (w.nodes to).copies.applied z.log) (still_arrives (group f) to errand (idle (w.nodes to))).member

kept_begun : (more : MoreLaws) (f : Frame) → 2 * (group f).resilience < (group f).nodes → (w : World) (m : ℕ) (start : Start) → Lives f w m → Grouped f w →
    Allowed f w m start → take (w.nodes m).copies.applied (begun f w m start).node.member.log ≡ entries_of (w.nodes m)
kept_begun more f small w m (Start.Acted i) on grouped may =
    kept_acts more f small w m i ((w.nodes m).played i) grouped on (λ r act here stands x process call. may r act here stands x process call)
kept_begun more f small w m (Start.Came mail) on grouped may =
    subst (λ k. take (w.nodes k).copies.applied (came f k mail w).node.member.log ≡ entries_of (w.nodes k)) (sym may.0)
    (kept_mail more f small w mail (subst (Lives f w) may.0 on) grouped may.1)
kept_begun more f small w m Start.Timed on grouped may =
    ap (λ (z : Member Message). take (w.nodes m).copies.applied z.log) (still_again f (group f) m m (timed f m w)).member
    ∙ kept_by more f small w m (idle (w.nodes m)) (timed f m w) (Event.Tick m) (start more f small w m grouped) (ticked_is (group f) w m (idle (w.nodes m)) on)
kept_begun more f small w m Start.Coordinated on grouped may =
    kept_by more f small w m (idle (w.nodes m)) (begun f w m Start.Coordinated) (Event.Coordinate m) (start more f small w m grouped)
    (coordinated_is (group f) w m (idle (w.nodes m)) on)

-- ---- a run

homed : (f : Frame) (m : ℕ) (node : Node) → IsHome f m node → Homed f m (idle node)
homed f m node h = record { known_here = h.known_here; home = h.home; counted = h.counted }

is_home : (f : Frame) (m : ℕ) (v : NodeWork) → Homed f m v → IsHome f m v.node
is_home f m v h = record { known_here = h.known_here; home = h.home; counted = h.counted }

home_walks : (more : MoreLaws) (f : Frame) → 2 * (group f).resilience < (group f).nodes → Walks f (λ s c u. AreHome f u.world) (λ s c u. AreHome f u.world)
home_walks more f small = record {
  weaken = λ s t c d u most rest h. h;
  ends = λ s c u h. h;
  burst = λ w i place turns burst s c grouped is h k.
      let m : ℕ = home_of f w i.0 in
      let v : NodeWork = computes i.0 place burst.reads burst.end (w.nodes m) in
      let kept = performed_node place burst.reads (idle (w.nodes m)) in
      at_both w.nodes m v.node k (IsHome f k)
      (λ e. subst (λ j. IsHome f j v.node) (sym e)
      (is_home f m v (homed_goes f m (idle (w.nodes m)) v (burst_later f w i place turns burst is) (ap entries_of kept) (homed f m (w.nodes m) (h m)))))
      (λ no. h k);
  taken = λ w number copy s c h. h;
  waited = λ w s c h. h;
  crashed = λ w m s c h. h;
  swapped = λ w s c h. h;
  part = λ start u m s c grouped on may h k.
      let w : World = u.world in
      let v : NodeWork = begun f w m start in
      let kept = kept_begun more f small w m start on grouped may in
      let entries : entries_of v.node ≡ entries_of (w.nodes m) = ap (λ n. take n v.node.member.log) (applied_begun f w m start) ∙ kept in
      let given : Gives f m w v = gives more f small w m v grouped on kept
      (from_start f grouped.events w m v (good_begun more.laws f w m start small on grouped may)) in
      at_both w.nodes m (catches_up f m v).node k (IsHome f k)
      (λ e. subst (λ j. IsHome f j (catches_up f m v).node) (sym e)
      (is_home f m (catches_up f m v) (homed_up f m w v given
      (homed_goes f m (idle (w.nodes m)) v (goes_begun f w m start) entries (homed f m (w.nodes m) (h m))))))
      (λ no. h k);
}

step_home : (more : MoreLaws) (f : Frame) → 2 * (group f).resilience < (group f).nodes → (w v : World) (step : Step) → Next f w step v →
    MayAll f w step.event → Grouped f w → AreHome f w → AreHome f v
step_home more f small w v step next submit grouped h =
    let u : AtWork = happens f w step.event next.given in
    let up : AreHome f u.world =
    walk_event more.laws f (λ s c z. AreHome f z.world) (λ s c z. AreHome f z.world) small (home_walks more f small) w step.event next.given 0 0 grouped
    next.possible submit h in
    subst (AreHome f) (sym next.after) (λ m. subst (λ n. IsHome f m (n m)) (sym (posted_nodes f u.mails step.fates u.world)) (up m))

-- ---- one home

pub home_is : (laws : Laws) (law : AgreedLaw Message) (f : Frame) → 2 * (group f).resilience < (group f).nodes → (w : World) (m i : ℕ) (r : Played) → Grouped f w →
    AreHome f w → (w.nodes m).played i ≡ Some r → home_of f w i ≡ m
home_is laws law f small w m i r grouped h found =
    let node : Node = w.nodes m in
    let own : home_in (known f node) i ≡ m = (h m).home i r found in
    let within = known_low f (entries_of node) i (omega (arith, small)) in
    let low : m < f.settings.nodes = omega (arith, own, within) in
    let one : OneList f w = one_list law f small w grouped in
    let begin : Begins (applied_at w m) (agreed f w) = one.begin m low in
    let n : ℕ = length (applied_at w m) in
    let whole : take n (applied_at w m) ≡ applied_at w m = take_all (applied_at w m) in
    let front : take n (agreed f w) ≡ entries_of node = sym begin.is ∙ whole ∙ sym (one.copies m low) in
    let parts : agreed f w ≡ entries_of node ++ drop n (agreed f w) =
    sym (take-append-drop n (agreed f w)) ∙ ap (λ xs. xs ++ drop n (agreed f w)) front in
    let more = in_front f (entries_of node) (drop n (agreed f w)) in
    ap (λ xs. home_in xs i) (ap (processes_in f) parts ∙ more.1) ∙ home_front (known f node) more.0 i ((h m).known_here i r found) ∙ own
  where
    take_all : {A : Type 0} (xs : List A) → take (length xs) xs ≡ xs
    take_all [] = refl
    take_all (x ∷ xs) = ap (λ ys. x ∷ ys) (take_all xs)

opening_home : (f : Frame) (m : ℕ) → IsHome f m (opening_node f m)
opening_home f zero = record {
  known_here = λ i r. at_both nobody 0 (Some (newborn (first_process f))) i (λ z. z ≡ Some r → i < 1) (λ e found. omega (arith, e)) (λ no found. absurd (cc found));
  home = λ i r. at_both nobody 0 (Some (newborn (first_process f))) i (λ z. z ≡ Some r → home_in (first_process f ∷ []) i ≡ 0)
      (λ e found. ap (home_in (first_process f ∷ [])) e) (λ no found. absurd (cc found));
  counted = refl;
}
opening_home f (suc m) = record { known_here = λ i r found. absurd (cc found); home = λ i r found. absurd (cc found); counted = refl }

pub steps_home : (more : MoreLaws) (law : AgreedLaw Message) (f : Frame) → 2 * (group f).resilience < (group f).nodes → StepsHome f
steps_home more law f small = record {
  opening = opening_home f;
  step = step_home more f small;
  home = home_is more.laws law f small;
  once = λ w m k i r s grouped h one two.
      sym (home_is more.laws law f small w m i r grouped h one) ∙ home_is more.laws law f small w k i s grouped h two;
}
