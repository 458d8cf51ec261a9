-- Tasks at a node: they are handed out, checked in and recalled.
use Rattle.std.proofs.Common.{◌≡◌, ◌<◌, ◌+◌, ◌++◌, ◌∷◌, ◌==◌, ℕ, zero, suc, Bool, true, false, List, [], length, length-append, is_some, map, take, drop, set, get_or, slice_index_or, Option, Some, None, refl, sym, ap, ◌∙◌, subst, arith, if◌then◌else◌}
use Rattle.std.proofs.lemmas.Bool.{eqb-true}
use Rattle.std.specs.Prelude.{IsTrue}
use Rattle.orca_base.specs.declared.ids.KindNo.{KindNo}
use Rattle.orca_base.specs.declared.ids.OpNo.{OpNo}
use Rattle.orca_base.specs.declared.ids.ProcessNo.{ProcessNo}
use Rattle.value_core.specs.Datum.{Data, list_of}
use Rattle.value_core.specs.Datum as datum
use Rattle.value_core.specs.Fits.{Kinds}
use Rattle.value_core.specs.History.{Objects}
use Rattle.value_core.specs.declared.action.Line.{Line}
use Rattle.object_manager.specs.After.{opening_copies}
use Rattle.object_manager.specs.Viewed.{Viewed}
use Rattle.group_member.specs.StandsFor.{StandsFor}
use Rattle.group_rules.specs.Member.{opening_member}
use Rattle.group_rules.specs.Messages.{group_of}
use Rattle.group_rules.specs.Sets.{with_at}
use Rattle.world_rules.specs.Bursts.{Ran, last_turn, reads_on}
use Rattle.world_rules.specs.Frame.{Frame, bytes_of, group, name_of}
use Rattle.world_rules.specs.Nodes as nodes
use Rattle.world_rules.specs.Nodes.{NodeWork, idle, opening_node, opening_processes}
use Rattle.world_rules.specs.Parts.{computes, performs_all}
use Rattle.world_rules.specs.Played.{Played, Stage as played, newborn}
use Rattle.world_rules.specs.Processes.{first_process}
use Rattle.node_rules.specs.Conditions.{Fitness}
use Rattle.node_core.specs.AtOnce.{HasBurst}
use Rattle.node_core.specs.CheckingIn.{BecomesComputed, HasChanged, HasCheckedIn, HasRecalled, IsOutFor, MayHandOut, after_burst, recalled}
use Rattle.node_core.specs.Pieces.{resident_at}
use Rattle.node_parts.specs.Shown.{IsPlayed, IsPlayedIf, Left, Stood, on_errand, on_given, on_stage}
use Rattle.node_core.specs.Stands.{StandsAlike, StandsAs}
use Rattle.node_core.specs.Tasks.{Computed, HasRun, MayRun, Tasked}
use Rattle.node_parts.specs.declared.errand.Errand.{Errand}
use Rattle.node_parts.specs.declared.errand.Given.{Given}
use Rattle.node_core.specs.declared.node.Node.{Node}
use Rattle.node_parts.specs.declared.resident.Resident.{Resident}
use Rattle.node_parts.specs.declared.resident.Stage.{Stage}
use Rattle.node_parts.specs.declared.resident.Stage.TheVariants as at_stage
use Rattle.node_core.specs.declared.task.CheckedIn.{CheckedIn}
use Rattle.node_core.proofs.Working.{some_here, stands_put}

some_same : {A : Type 0} (x y : A) → Some x ≡ Some y → x ≡ y
some_same x y is = cc is

-- ---- lists

-- what is there has a place
pub within_of : {A : Type 0} (xs : List (Option A)) (i : ℕ) (x : A) → slice_index_or xs i None ≡ Some x → i < length xs
within_of [] i x is = absurd (cc is)
within_of (o ∷ xs) zero x is = omega arith
within_of (o ∷ xs) (suc i) x is = let less = within_of xs i x is in omega (arith, less)

-- one more of a list that is changed place by place
wrote : {X : Type 0} (f : X → X) (xs : List X) (i : ℕ) (d : X) → i < length xs →
    set (map f (take i xs) ++ drop i xs) i (f (get_or (map f (take i xs) ++ drop i xs) i d)) ≡ map f (take (suc i) xs) ++ drop (suc i) xs
wrote f [] i d lt = absurd (omega arith)
wrote f (x ∷ xs) zero d lt = refl
wrote f (x ∷ xs) (suc i) d lt = ap (λ ys. f x ∷ ys) (wrote f xs i d (omega arith))

pub one_recalled : {S : Type 0} (row first : List (Option (Resident S))) (i : ℕ) (d now : Option (Resident S)) → row ≡ map recalled (take i first) ++ drop i first → i < length first →
    now ≡ recalled (get_or row i d) → set row i now ≡ map recalled (take (i + 1) first) ++ drop (i + 1) first
one_recalled row first i d now e lt is =
    let more : i + 1 ≡ suc i = omega arith in
    rw (is, more, e) (wrote recalled first i d lt)

-- ---- out

computing : (s : Stage) → on_stage s ≡ played.Computing → s ≡ at_stage.Computing
computing at_stage.Computing is = refl
computing (at_stage.Acting act) is = absurd (cc is)
computing (at_stage.Submitted act) is = absurd (cc is)
computing (at_stage.Reading act) is = absurd (cc is)
computing (at_stage.Asking act) is = absurd (cc is)
computing (at_stage.Over act) is = absurd (cc is)

-- whoever may be handed out is here
is_there : {S : Type 0} (stood : Stood S) (left : Left S) (i : ℕ) (o : Option (Resident S)) (p : Option Played) (r : Played) → IsPlayedIf stood left i o p → p ≡ Some r → IsTrue (is_some o)
is_there stood left i None None r is at = absurd (cc at)
is_there stood left i None (Some q) r is at = absurd is
is_there stood left i (Some s) p r is at = refl

pub out_here : {P S : Type 0} (stood : Stood S) (left : Left S) (f : Frame) (fitness : Fitness) (i : ProcessNo) (view : Viewed) (budget : ℕ) (s : Node P S)
    → MayHandOut stood left f fitness i view budget s → IsTrue (is_some (resident_at s i.0))
out_here stood left f fitness i view budget s may =
    is_there stood left i.0 (resident_at s i.0) (may.node.played i.0) may.played (may.stands.residents i.0) may.here

played_here : {P S : Type 0} (stood : Stood S) (left : Left S) (f : Frame) (m : ℕ) (i : ℕ) (s : Node P S) (v : nodes.Node) (a : Resident S) (r : Played)
    → StandsAs stood left f m s v → resident_at s i ≡ Some a → v.played i ≡ Some r → IsPlayed stood left i a r
played_here stood left f m i s v a r stands at is =
    let here = some_here stood left i (resident_at s i) a (v.played i) at (stands.residents i) in
    subst (λ (p : Played). IsPlayed stood left i a p) (some_same here.0 r (sym here.1 ∙ is)) here.2

-- it computes, and the task may be run
pub out_computing : {P S : Type 0} (stood : Stood S) (left : Left S) (f : Frame) (fitness : Fitness) (i : ProcessNo) (view : Viewed) (budget : ℕ) (s : Node P S) (a : Resident S)
    → MayHandOut stood left f fitness i view budget s → resident_at s i.0 ≡ Some a → a.stage ≡ at_stage.Computing
out_computing stood left f fitness i view budget s a may at =
    let is = played_here stood left f may.member i.0 s may.node a may.played may.stands at may.here in
    computing a.stage (is.stage ∙ may.fits.computing)

pub out_runs : {P S : Type 0} (stood : Stood S) (left : Left S) (f : Frame) (fitness : Fitness) (i : ProcessNo) (view : Viewed) (budget : ℕ) (s : Node P S) (a : Resident S) (start : S)
    → MayHandOut stood left f fitness i view budget s → resident_at s i.0 ≡ Some a → start ≡ a.state
    → MayRun stood f fitness (record { process = i; start = start; calls = a.calls; view = view; budget = budget })
out_runs {P} {S} stood left f fitness i view budget s a start may at same =
    let is = played_here stood left f may.member i.0 s may.node a may.played may.stands at may.here in
    record {
      played = may.played;
      is = record {
        state = subst (λ (x : S). stood x may.played.text i may.played.args may.played.replies may.played.turns) (sym same) is.state;
        replies = is.calls;
      };
      fits = may.fits;
      turns = may.turns;
    }

-- with a task out it stands for the same
out_is : {S : Type 0} (stood : Stood S) (left : Left S) (i : ℕ) (a : Resident S) (view : Viewed) (p : Option Played) → IsPlayedIf stood left i (Some a) p
    → IsPlayedIf stood left i (Some (record a { out = Some view })) p
out_is stood left i a view None is = is
out_is stood left i a view (Some r) is = record { state = is.state; halts = is.halts; turns = is.turns; place = is.place; calls = is.calls; stage = is.stage }

pub out_alike : {P S : Type 0} (stood : Stood S) (left : Left S) (k : ℕ) (a : Resident S) (view : Viewed) (old new : Node P S) → resident_at old k ≡ Some a
    → HasChanged k (record a { out = Some view }) old new → StandsAlike stood left old new
out_alike {P} {S} stood left k a view old new at changed f m v stands = record {
  member = subst (λ (n : Node P S). StandsFor (group f) m n.member v.member) (sym changed.put.others) stands.member;
  copies = ap (λ (n : Node P S). n.copies) changed.put.others ∙ stands.copies;
  known = ap (λ (n : Node P S). n.known.items) changed.put.others ∙ stands.known;
  residents = λ i. subst (λ (o : Option (Resident S)). IsPlayedIf stood left i o (v.played i)) (sym (changed.put.put i)) (go i (i == k) refl);
  held = ap (λ (n : Node P S). map on_errand n.held.items) changed.put.others ∙ stands.held;
  given = λ i. ap (λ (n : Node P S). on_given (slice_index_or n.given.items i None)) changed.put.others ∙ stands.given i;
  choices = ap (λ (n : Node P S). n.choices) changed.put.others ∙ stands.choices;
}
  where
    go : (i : ℕ) (t : Bool) → (i == k) ≡ t → IsPlayedIf stood left i (if t then Some (record a { out = Some view }) else resident_at old i) (v.played i)
    go i true e = out_is stood left i a view (v.played i)
        (subst (λ (o : Option (Resident S)). IsPlayedIf stood left i o (v.played i)) (ap (resident_at old) (eqb-true i k e) ∙ at) (stands.residents i))
    go i false e = stands.residents i

-- over an equal view it is the same
pub handed_over : {S : Type 0} (s a : Resident S) (copied view : Viewed) → a ≡ record s { out = Some copied } → copied ≡ view → a ≡ record s { out = Some view }
handed_over {S} s a copied view is same = is ∙ ap (λ (v : Viewed). let out : Resident S = record s { out = Some v } in out) same

-- a task may be run by any machine by which the same fits
pub runs_by : {S : Type 0} (stood : Stood S) (f : Frame) (one other : Fitness) (task : Tasked S)
    → ((kinds : Kinds) (kind : KindNo) (state : Data) → one.state kinds kind state → other.state kinds kind state)
    → ((kinds : Kinds) (kind : KindNo) (op : OpNo) (args : Data) → one.args kinds kind op args → other.args kinds kind op args)
    → MayRun stood f one task → MayRun stood f other task
runs_by stood f one other task states args may = record {
  played = may.played;
  is = may.is;
  fits = record {
    computing = may.fits.computing;
    place = may.fits.place;
    some = may.fits.some;
    turns = may.fits.turns;
    reads = λ u on used kind op object given halts there class.
        let h = may.fits.reads u on used kind op object given halts there class in (
          h.0,
          λ which kept at. states h.0 kept.kind kept.state (h.1 which kept at),
          record { kept = h.2.kept; exists = h.2.exists; kind = h.2.kind; args = args h.0 kind op given h.2.args },
        );
  };
  turns = may.turns;
}

-- ---- back in

-- whoever's task is out is here
pub back_here : {S : Type 0} (done : Computed S) (o : Option (Resident S)) → IsOutFor done o → IsTrue (is_some o)
back_here done (Some s) is = refl
back_here done None is = absurd is

pub back_is : {S : Type 0} (done : Computed S) (o : Option (Resident S)) (s : Resident S) → IsOutFor done o → o ≡ Some s → IsOutFor done (Some s)
back_is done o s is at = subst (IsOutFor done) at is

if_more : {A : Type 0} (n : ℕ) (x y : A) → (if suc n == 0 then x else y) ≡ y
if_more n x y = go (suc n == 0) refl
  where
    go : (t : Bool) → (suc n == 0) ≡ t → (if t then x else y) ≡ y
    go true e = let zero_is = eqb-true (suc n) 0 e in absurd (omega (arith, zero_is))
    go false e = refl

if_both : {A : Type 0} (t : Bool) (x : A) → (if t then x else x) ≡ x
if_both true x = refl
if_both false x = refl

-- where it stands at the end, and how many replies it has
ran_place : (f : Frame) (objects : Objects) (place : ℕ) (i : ProcessNo) (last : ℕ) (r : Played) (lines : List Line) (ended : Played) → Ran f objects place i last r lines ended
    → ended.place ≡ (if length lines == 0 then r.place else place)
ran_place f objects place i last r [] ended ran = ap (λ (p : Played). p.place) ran.4
ran_place f objects place i last r (line ∷ lines) ended ran =
    ran_place f objects place i last (reads_on place ran.1 line r) lines ended ran.5 ∙ if_both (length lines == 0) place ∙ sym (if_more (length lines) r.place place)

ran_calls : (f : Frame) (objects : Objects) (place : ℕ) (i : ProcessNo) (last : ℕ) (r : Played) (lines : List Line) (ended : Played) → Ran f objects place i last r lines ended
    → length ended.replies ≡ length r.replies + length lines
ran_calls f objects place i last r [] ended ran = let same = ap (λ (p : Played). length p.replies) ran.4 in omega (arith, same)
ran_calls f objects place i last r (line ∷ lines) ended ran =
    let more = ran_calls f objects place i last (reads_on place ran.1 line r) lines ended ran.5 in
    let told : length (r.replies ++ line.reply ∷ []) ≡ length r.replies + 1 = length-append r.replies (line.reply ∷ []) in
    omega (arith, more, told)

-- lines that are performed beside the list leave the node as it is
performed_all : (place : ℕ) (lines : List Line) (v : NodeWork) → (performs_all place lines v).node ≡ v.node
performed_all place [] v = refl
performed_all place (line ∷ lines) v = performed_all place lines (nodes.does (nodes.Deed.Performs (record { place = place; line = line })) v)

computed_node : (i place : ℕ) (lines : List Line) (ended : Played) (v : nodes.Node) → (computes i place lines ended v).node ≡ record v { played = with_at v.played i (Some ended) }
computed_node i place lines ended v = ap (λ (n : nodes.Node). record n { played = with_at n.played i (Some ended) }) (performed_all place lines (idle v))

pub becomes_computed : {P S : Type 0} (stood : Stood S) (left : Left S) (f : Frame) (done : Computed S) (old new : Node P S) (a : Resident S)
    → HasRun stood left f done → resident_at old done.process.0 ≡ Some a → a.state ≡ done.start → a.calls ≡ done.calls → HasChanged done.process.0 (after_burst done a) old new
    → BecomesComputed stood left f done old new
becomes_computed {P} {S} stood left f done old new a run at state calls changed m v r stands here =
    let is = played_here stood left f m done.process.0 old v a r stands at here in
    let ran = run r (record {
      state = subst (λ (x : S). stood x r.text done.process r.args r.replies r.turns) state is.state;
      replies = sym calls ∙ is.calls;
    }) in
    let ended = ran.0 in
    let end = ran.1 in
    let more = ran_calls f done.view.objects done.view.place done.process (last_turn f r) r done.reads ended end.ran in
    let was = is.calls in
    let now : IsPlayed stood left done.process.0 (after_burst done a) ended = record {
      state = end.state;
      halts = end.halts;
      turns = end.turns;
      place = ap (λ (n : ℕ). if length done.reads == 0 then n else done.view.place) is.place ∙ sym (ran_place f done.view.objects done.view.place done.process (last_turn f r) r done.reads ended end.ran);
      calls = omega (arith, more, was);
      stage = end.stage;
    } in (
      ended,
      end,
      subst (λ (n : nodes.Node). StandsAs stood left f m new n) (sym (computed_node done.process.0 done.view.place done.reads ended v))
          (stands_put stood left f m done.process.0 (after_burst done a) ended old new v changed.put now stands),
    )

after_is : {S : Type 0} (done : Computed S) (s after : Resident S) (place reads : ℕ)
    → after ≡ record { state = done.end; turns = done.turns; place = (if reads == 0 then s.place else place); calls = s.calls + reads; stage = done.stage; out = None }
    → place ≡ done.view.place → reads ≡ length done.reads → after ≡ after_burst done s
after_is {S} done s after place reads is at many =
    is ∙ ap (λ (n : ℕ). let a : Resident S = record { state = done.end; turns = done.turns; place = (if reads == 0 then s.place else n); calls = s.calls + reads; stage = done.stage; out = None } in a) at
    ∙ ap (λ (n : ℕ). let a : Resident S = record { state = done.end; turns = done.turns; place = (if n == 0 then s.place else done.view.place); calls = s.calls + n; stage = done.stage; out = None } in a) many

pub taken_in : {P S : Type 0} (stood : Stood S) (left : Left S) (f : Frame) (done : Computed S) (old new : Node P S) (s after : Resident S) (checked : CheckedIn) (reads : ℕ)
    → HasRun stood left f done → IsOutFor done (resident_at old done.process.0) → resident_at old done.process.0 ≡ Some s
    → after ≡ record { state = done.end; turns = done.turns; place = (if reads == 0 then s.place else checked.place); calls = s.calls + reads; stage = done.stage; out = None }
    → checked.place ≡ done.view.place → reads ≡ length done.reads → checked.reads.items ≡ done.reads → HasChanged done.process.0 after old new
    → HasCheckedIn stood left f done checked old new
taken_in {P} {S} stood left f done old new s after checked reads run out here is at many same changed =
    let out_is = back_is done (resident_at old done.process.0) s out here in
    let now = subst (λ (a : Resident S). HasChanged done.process.0 a old new) (after_is done s after checked.place reads is at many) changed in
    record {
      place = at;
      reads = same;
      resident = s;
      here = here;
      out = out_is;
      changed = now;
      becomes = becomes_computed stood left f done old new s run here out_is.1 out_is.2 now;
    }

-- ---- at once

pub at_once : {P S : Type 0} (stood : Stood S) (left : Left S) (f : Frame) (done : Computed S) (old new : Node P S) (s after : Resident S) (checked : CheckedIn) (reads : ℕ)
    → HasRun stood left f done → resident_at old done.process.0 ≡ Some s → s.state ≡ done.start → s.calls ≡ done.calls
    → after ≡ record { state = done.end; turns = done.turns; place = (if reads == 0 then s.place else checked.place); calls = s.calls + reads; stage = done.stage; out = None }
    → checked.place ≡ done.view.place → reads ≡ length done.reads → checked.reads.items ≡ done.reads → HasChanged done.process.0 after old new
    → HasBurst stood left f done.process done.view checked done.turns old new
at_once {P} {S} stood left f done old new s after checked reads run here start calls is at many same changed =
    let now = subst (λ (a : Resident S). HasChanged done.process.0 a old new) (after_is done s after checked.place reads is at many) changed in
    record {
      resident = s;
      here = here;
      done = done;
      process = refl;
      start = sym start;
      calls = sym calls;
      seen = refl;
      took = refl;
      place = at;
      reads = same;
      changed = now;
      becomes = becomes_computed stood left f done old new s run here start calls now;
    }

-- ---- recalled

recalled_at : {S : Type 0} (xs : List (Option (Resident S))) (i : ℕ) → slice_index_or (map recalled xs) i None ≡ recalled (slice_index_or xs i None)
recalled_at [] i = refl
recalled_at (x ∷ xs) zero = refl
recalled_at (x ∷ xs) (suc i) = recalled_at xs i

recalled_is : {S : Type 0} (stood : Stood S) (left : Left S) (i : ℕ) (o : Option (Resident S)) (p : Option Played) → IsPlayedIf stood left i o p → IsPlayedIf stood left i (recalled o) p
recalled_is stood left i None None is = tt
recalled_is stood left i None (Some r) is = is
recalled_is stood left i (Some s) None is = is
recalled_is stood left i (Some s) (Some r) is = record { state = is.state; halts = is.halts; turns = is.turns; place = is.place; calls = is.calls; stage = is.stage }

pub recalled_alike : {P S : Type 0} (stood : Stood S) (left : Left S) (old new : Node P S) → HasRecalled old new → StandsAlike stood left old new
recalled_alike {P} {S} stood left old new h f m v stands = record {
  member = subst (λ (n : Node P S). StandsFor (group f) m n.member v.member) (sym h.others) stands.member;
  copies = ap (λ (n : Node P S). n.copies) h.others ∙ stands.copies;
  known = ap (λ (n : Node P S). n.known.items) h.others ∙ stands.known;
  residents = λ i. subst (λ (o : Option (Resident S)). IsPlayedIf stood left i o (v.played i))
      (sym (ap (λ (xs : List (Option (Resident S))). slice_index_or xs i None) h.ended ∙ recalled_at old.residents.items i))
      (recalled_is stood left i (resident_at old i) (v.played i) (stands.residents i));
  held = ap (λ (n : Node P S). map on_errand n.held.items) h.others ∙ stands.held;
  given = λ i. ap (λ (n : Node P S). on_given (slice_index_or n.given.items i None)) h.others ∙ stands.given i;
  choices = ap (λ (n : Node P S). n.choices) h.others ∙ stands.choices;
}

-- ---- at the opening

-- no process is at another member than the first
pub opens_away : {S : Type 0} (stood : Stood S) (left : Left S) (f : Frame) (me i : ℕ) (xs : List (Option (Resident S))) → (me ≡ 0 → ⊥) → xs ≡ []
    → IsPlayedIf stood left i (slice_index_or xs i None) (opening_processes f me i)
opens_away stood left f zero i xs other none = absurd (other refl)
opens_away {S} stood left f (suc m) i xs other none = subst (λ (l : List (Option (Resident S))). IsPlayedIf stood left i (slice_index_or l i None) None) (sym none) tt

-- process 0 is there, in this state
pub opens_here : {S : Type 0} (stood : Stood S) (left : Left S) (f : Frame) (me i : ℕ) (state : S) (a : Resident S) (xs : List (Option (Resident S))) → me ≡ 0
    → a ≡ record { state = state; turns = 0; place = 0; calls = 0; stage = at_stage.Computing; out = None } → xs ≡ Some a ∷ []
    → stood state f.computes.main (record { 0 = 0 }) datum.none [] 0 → IsPlayedIf stood left i (slice_index_or xs i None) (opening_processes f me i)
opens_here {S} stood left f me i state a xs first is one stands =
    subst (λ (n : ℕ). IsPlayedIf stood left i (slice_index_or xs i None) (opening_processes f n i)) (sym first)
    (subst (λ (l : List (Option (Resident S))). IsPlayedIf stood left i (slice_index_or l i None) (opening_processes f 0 i)) (sym one) (go i (i == 0) refl))
  where
    born : IsPlayed stood left 0 a (newborn (first_process f))
    born = record {
      state = subst (λ (x : Resident S). stood x.state f.computes.main (record { 0 = 0 }) datum.none [] 0) (sym is) stands;
      halts = tt;
      turns = ap (λ (x : Resident S). x.turns) is;
      place = ap (λ (x : Resident S). x.place) is;
      calls = ap (λ (x : Resident S). x.calls) is;
      stage = ap (λ (x : Resident S). on_stage x.stage) is;
    }

    go : (k : ℕ) (t : Bool) → (k == 0) ≡ t → IsPlayedIf stood left k (slice_index_or (Some a ∷ []) k None) (if t then Some (newborn (first_process f)) else None)
    go zero true e = born
    go zero false e = absurd (cc e)
    go (suc k) true e = let zero_is = eqb-true (suc k) 0 e in absurd (omega (arith, zero_is))
    go (suc k) false e = tt

-- an empty list of arguments is none
pub no_values : (d : Data) → list_of d ≡ [] → d ≡ datum.none
no_values datum.none is = refl
no_values (datum.more v vs) is = absurd (cc is)

-- with these parts it is the run's member before the first event
pub opens : {P S : Type 0} (stood : Stood S) (left : Left S) (f : Frame) (me members losses : ℕ) (s : Node P S)
    → StandsFor (group_of name_of bytes_of members losses) me s.member opening_member → members ≡ f.settings.nodes → losses ≡ f.settings.resilience
    → s.copies ≡ opening_copies → s.known.items ≡ record { text = f.computes.main; home = 0 } ∷ []
    → ((i : ℕ) → IsPlayedIf stood left i (slice_index_or s.residents.items i None) (opening_processes f me i)) → s.held.items ≡ [] → s.given.items ≡ []
    → s.choices ≡ f.settings.choices → StandsAs stood left f me s (opening_node f me)
opens {P} {S} stood left f me members losses s member as_many may_lose copies known residents held given choices = record {
  member = subst (λ (n : ℕ). StandsFor (group_of name_of bytes_of n f.settings.resilience) me s.member opening_member) as_many
      (subst (λ (n : ℕ). StandsFor (group_of name_of bytes_of members n) me s.member opening_member) may_lose member);
  copies = copies;
  known = known;
  residents = residents;
  held = ap (λ (l : List Errand). map on_errand l) held;
  given = λ i. ap (λ (l : List (Option Given)). on_given (slice_index_or l i None)) given;
  choices = choices;
}
