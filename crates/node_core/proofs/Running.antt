-- A burst as it is computed: the reads so far, one more, and the end.
use Rattle.std.proofs.Common.{◌≡◌, ◌≤◌, ◌<◌, ◌+◌, ◌-◌, ◌++◌, ◌∷◌, ℕ, not, List, [], length, append-nil, length-append, Option, Some, None, is_some, refl, sym, ap, ◌∙◌, subst, arith}
use Rattle.std.proofs.lemmas.List.{append_assoc}
use Rattle.std.specs.Prelude.{IsTrue, min}
use Rattle.orca_base.specs.declared.limits.TheConstants.{BURST_TURNS}
use Rattle.orca_base.specs.declared.ids.KindNo.{KindNo}
use Rattle.orca_base.specs.declared.ids.OpNo.{OpNo}
use Rattle.orca_base.specs.declared.ids.ObjectId.{ObjectId}
use Rattle.orca_base.specs.declared.ids.ProcessNo.{ProcessNo}
use Rattle.orca_base.specs.declared.ids.TextNo.{TextNo}
use Rattle.value_core.specs.Datum.{Data}
use Rattle.value_core.specs.Fits.{RepliesWell}
use Rattle.value_core.specs.Goes.{ForEach, GoesOn, IfAt, Reaches}
use Rattle.value_core.specs.History.{Objects, most_turns, object_at}
use Rattle.value_core.specs.Lawful.{FitsAction}
use Rattle.value_core.specs.Meaning.{Computes, Performs}
use Rattle.value_core.specs.declared.action.Action.{Action}
use Rattle.value_core.specs.declared.action.Action.TheVariants as action
use Rattle.value_core.specs.declared.action.Class.{Class}
use Rattle.value_core.specs.declared.action.Class.TheVariants.{Reads, Writes}
use Rattle.value_core.specs.declared.action.Instance.{Instance}
use Rattle.value_core.specs.declared.action.Line.{Line}
use Rattle.value_core.specs.declared.action.Reply.{Reply}
use Rattle.value_core.specs.declared.meaning.Doing.TheVariants as doing
use Rattle.value_core.specs.declared.meaning.Tried.{Tried}
use Rattle.value_core.specs.declared.meaning.Tried.TheVariants as tried
use Rattle.value_core.specs.declared.processor.Halt.{Halt}
use Rattle.value_core.specs.declared.processor.Halt.TheVariants as halt
use Rattle.guard_queue.specs.Settles.{guard_of, is_blocked, reply_of, tried_by, tried_on}
use Rattle.object_manager.specs.Viewed.{ReadFits, Viewed}
use Rattle.world_rules.specs.Bursts.{Halts, Ran, if_reads, last_turn, read_line, read_on, reads_on}
use Rattle.world_rules.specs.Frame.{Frame}
use Rattle.world_rules.specs.Played.{Played, at_action, halted, stage_at}
use Rattle.node_rules.specs.Bursting.{ReadsOn}
use Rattle.node_rules.specs.Bursting.ReadsOn.{Stays, Then}
use Rattle.node_rules.specs.Conditions.{Fitness}
use Rattle.node_parts.specs.Shown.{Left, LeftAt, Stood, on_stage}
use Rattle.node_core.specs.Tasks.{Computed, HasRun, IsCame, IsStart, MayAnswer, MayRun, Tasked}
use Rattle.node_parts.specs.declared.resident.Stage.{Stage}
use Rattle.node_core.specs.declared.task.Came.{Came}
use Rattle.node_core.specs.declared.task.Came.TheVariants as came
use Rattle.node_core.proofs.Reading.{RepliesFit}

-- ---- so far

-- from r on the process came to u by these reads, and stands in this state: what comes after u, comes after r
pub record HasCome {S : Type 0} (stood : Stood S) (f : Frame) (i : ProcessNo) (view : Viewed) (last call : ℕ) (state : S) (reads : List Line) (r u : Played) : Type 0 where
  pub is : stood state u.text i u.args u.replies u.turns
  pub number : call ≡ length u.replies
  pub turns : r.turns ≤ u.turns
  pub some : u.turns < last
  pub on : (w : Played) → ReadsOn f i view last u w → ReadsOn f i view last r w
  pub leads : (rest : List Line) (ended : Played) → Ran f view.objects view.place i last u rest ended → Ran f view.objects view.place i last r (reads ++ rest) ended

-- so did whichever process the start stands for
pub record InBurst {S : Type 0} (stood : Stood S) (f : Frame) (task : Tasked S) (last call : ℕ) (state : S) (reads : List Line) : Type 0 where
  pub until : (r : Played) → IsStart stood task.process task.start task.calls r → last ≡ r.turns + task.budget
  pub each : (r : Played) → IsStart stood task.process task.start task.calls r → (u : Played) × HasCome stood f task.process task.view last call state reads r u
  pub counted : call ≡ task.calls + length reads

pub burst_begins : {S : Type 0} (stood : Stood S) (f : Frame) (fitness : Fitness) (task : Tasked S) (last : ℕ) (state : S) (reads : List Line)
    → MayRun stood f fitness task → ((r : Played) → IsStart stood task.process task.start task.calls r → last ≡ r.turns + task.budget)
    → state ≡ task.start → reads ≡ [] → InBurst stood f task last task.calls state reads
burst_begins {S} stood f fitness task last state reads may until same none =
    let some = may.fits.some in
    let turns = may.turns in
    let budget : 0 < task.budget = omega (arith, some, turns) in
    let counted = ap (λ (l : List Line). length l) none in
    record {
      until = until;
      each = λ r is. (
        r,
        record {
          is = subst (λ (s : S). stood s r.text task.process r.args r.replies r.turns) (sym same) is.state;
          number = is.replies;
          turns = omega arith;
          some = (let e = until r is in omega (arith, e, budget));
          on = λ w on. on;
          leads = λ rest ended ran. subst (λ (l : List Line). Ran f task.view.objects task.view.place task.process last r (l ++ rest) ended) (sym none) ran;
        },
      );
      counted = omega (arith, counted);
    }

-- ---- how many turns are left

-- where the state stands for so many turns, the budget has some left, and they are within what a process may take
pub record IsWithin (budget last now : ℕ) : Type 0 where
  pub some : now < last
  pub enough : last ≤ now + budget
  pub most : last ≤ most_turns

pub within : {S : Type 0} (stood : Stood S) (f : Frame) (fitness : Fitness) (task : Tasked S) (last call now : ℕ) (state : S) (reads : List Line)
    → MayRun stood f fitness task → InBurst stood f task last call state reads
    → ((text : TextNo) (number : ProcessNo) (args : Data) (replies : List Reply) (turns : ℕ) → stood state text number args replies turns → now ≡ turns)
    → IsWithin task.budget last now
within stood f fitness task last call now state reads may burst of =
    let here = burst.each may.played may.is in
    let until = burst.until may.played may.is in
    let turns = here.1.turns in
    let some = here.1.some in
    let is = of here.0.text task.process here.0.args here.0.replies here.0.turns here.1.is in
    let may_turns = may.turns in
    let most = may.fits.turns in
    record { some = omega (arith, some, is); enough = omega (arith, until, turns, is); most = omega (arith, until, may_turns, most) }

-- ---- at a halt

-- a computation from a state that stands for u comes to a halt of u, with the turns for which the state stands then
halts_at : {S : Type 0} (stood stands : Stood S) (q : Computes) (f : Frame) (i : ProcessNo) (u : Played) (after : S) (budget last : ℕ) (at_halt : Halt) → q ≡ f.computes
    → ((text : TextNo) (number : ProcessNo) (args : Data) (replies : List Reply) (turns : ℕ) → stands after text number args replies turns → stood after text number args replies turns)
    → u.turns < last → budget ≡ last - u.turns → GoesOn q (stands after) budget at_halt u.text i u.args u.replies u.turns
    → (used : ℕ) × Halts f i u last used at_halt × stood after u.text i u.args u.replies used × (u.turns ≤ used)
halts_at stood stands q f i u after budget last (halt.At act) is tie lt less (used, le, below, reaches, at) =
    let under : used < u.turns + (last - u.turns) = omega (arith, below, less) in (
      used,
      (used, le, under, subst (λ (c : Computes). Reaches (c.doing u.text i u.args u.replies) used (doing.At act)) is reaches, refl),
      tie u.text i u.args u.replies used at,
      le,
    )
halts_at stood stands q f i u after budget last halt.Paused is tie lt less (busy, at) = (
  u.turns + budget,
  (
    subst (λ (c : Computes). c.doing u.text i u.args u.replies (u.turns + (last - u.turns)) ≡ doing.Busy) is
        (subst (λ (n : ℕ). q.doing u.text i u.args u.replies (u.turns + n) ≡ doing.Busy) less busy),
    ap (λ (n : ℕ). u.turns + n) (sym less),
  ),
  tie u.text i u.args u.replies (u.turns + budget) at,
  omega arith,
)

-- of whichever process the state stands for, the computation comes to this halt
abbrev pub ComesTo : {S : Type 0} → Stood S → Frame → ProcessNo → ℕ → S → S → Halt → Type 0
ComesTo stood f i last state after at_halt =
    (u : Played) → stood state u.text i u.args u.replies u.turns → u.turns < last →
    (used : ℕ) × Halts f i u last used at_halt × stood after u.text i u.args u.replies used × (u.turns ≤ used)

pub comes_to : {S : Type 0} (stood stands : Stood S) (q : Computes) (f : Frame) (i : ProcessNo) (budget last now : ℕ) (state after : S) (at_halt : Halt) → q ≡ f.computes
    → ((s : S) (text : TextNo) (number : ProcessNo) (args : Data) (replies : List Reply) (turns : ℕ) → stands s text number args replies turns → stood s text number args replies turns)
    → ((s : S) (text : TextNo) (number : ProcessNo) (args : Data) (replies : List Reply) (turns : ℕ) → stood s text number args replies turns → stands s text number args replies turns)
    → ((text : TextNo) (number : ProcessNo) (args : Data) (replies : List Reply) (turns : ℕ) → stands state text number args replies turns → now ≡ turns)
    → budget ≡ last - now → ForEach (stands state) (GoesOn q (stands after) budget at_halt) → ComesTo stood f i last state after at_halt
comes_to stood stands q f i budget last now state after at_halt is tie back of less goes u at lt =
    let there = back state u.text i u.args u.replies u.turns at in
    halts_at stood stands q f i u after budget last at_halt is (tie after) lt (less ∙ ap (λ (n : ℕ). last - n) (of u.text i u.args u.replies u.turns there))
    (goes u.text i u.args u.replies u.turns there)

-- ---- a read

-- where the halt is at a read of one of the view's objects, that may be tried
answer_may : {S : Type 0} (stood : Stood S) (f : Frame) (fitness : Fitness) (task : Tasked S) (last call : ℕ) (state after : S) (reads : List Line) (p : Performs) (act : Action)
    → p ≡ f.performs → MayRun stood f fitness task → InBurst stood f task last call state reads → ComesTo stood f task.process last state after (halt.At act)
    → MayAnswer p fitness.state fitness.args task.view.objects act
answer_may stood f fitness task last call state after reads p (action.Call kind op object given) is may burst comes = λ there class.
    let here = burst.each may.played may.is in
    let until = burst.until may.played may.is ∙ may.turns in
    let came_to = comes here.0 here.1.is here.1.some in
    may.fits.reads here.0 (subst (λ (n : ℕ). ReadsOn f task.process task.view n may.played here.0) until (here.1.on here.0 (Stays here.0))) came_to.0 kind op object given
    (subst (λ (n : ℕ). Halts f task.process here.0 n came_to.0 (halt.At (action.Call kind op object given))) until came_to.1) there
    (sym (ap (λ (q : Performs). q.class_of kind op) is) ∙ class)
answer_may stood f fitness task last call state after reads p (action.Make kind object) is may burst comes = tt
answer_may stood f fitness task last call state after reads p (action.Fork text given place_on) is may burst comes = tt
answer_may stood f fitness task last call state after reads p action.Ended is may burst comes = tt
answer_may stood f fitness task last call state after reads p (action.Faulted fault) is may burst comes = tt

pub halted_may : {S : Type 0} (stood : Stood S) (f : Frame) (fitness : Fitness) (task : Tasked S) (last call : ℕ) (state after : S) (reads : List Line) (p : Performs) (at_halt : Halt)
    → p ≡ f.performs → MayRun stood f fitness task → InBurst stood f task last call state reads → ComesTo stood f task.process last state after at_halt
    → IfAt at_halt (MayAnswer p fitness.state fitness.args task.view.objects)
halted_may stood f fitness task last call state after reads p (halt.At act) is may burst comes = answer_may stood f fitness task last call state after reads p act is may burst comes
halted_may stood f fitness task last call state after reads p halt.Paused is may burst comes = tt

-- the reply of what isn't blocked fits
said_well : (t : Tried) (P : Reply → Type 0) → RepliesWell t P → IsTrue (not (is_blocked t)) → P (reply_of t)
said_well tried.Blocked P h is = absurd (cc is)
said_well (tried.Did guard state reply) P h is = h
said_well (tried.Broke guard fault) P h is = h

some_same : {A : Type 0} (x y : A) → Some x ≡ Some y → x ≡ y
some_same x y is = cc is

kept_fits : (p : Performs) (fitness : Fitness) → RepliesFit p fitness.state fitness.args fitness.reply → (objects : Objects) (kind : KindNo) (op : OpNo) (object : ObjectId) (given : Data) (o : Option Instance)
    → object_at objects object ≡ o → (IsTrue (is_some o) → ReadFits fitness.state fitness.args objects kind op object given)
    → IsTrue (not (is_blocked (tried_by p kind op given o))) → fitness.reply kind op (reply_of (tried_by p kind op given o))
kept_fits p fitness law objects kind op object given None there may is = absurd (cc is)
kept_fits p fitness law objects kind op object given (Some kept) there may is =
    let read = may refl in
    let kinds = read.0 in
    let fits = read.2 in
    let same : fits.kept ≡ kept = some_same fits.kept kept (sym fits.exists ∙ there) in
    said_well (p.tries kind op kept.state given) (fitness.reply kind op)
    (law kinds kind op kept.state given (subst (λ (k : KindNo). fitness.state kinds k kept.state) (sym (ap (λ (x : Instance). x.kind) same) ∙ fits.kind) (read.1 object kept there)) fits.args) is

class_fits : (p : Performs) (fitness : Fitness) → RepliesFit p fitness.state fitness.args fitness.reply → (objects : Objects) (kind : KindNo) (op : OpNo) (object : ObjectId) (given : Data) (c : Class)
    → (IsTrue (is_some (object_at objects object)) → c ≡ Reads → ReadFits fitness.state fitness.args objects kind op object given)
    → IsTrue (not (is_blocked (if_reads c (tried_on p objects kind op object given)))) → fitness.reply kind op (reply_of (if_reads c (tried_on p objects kind op object given)))
class_fits p fitness law objects kind op object given Reads may is = kept_fits p fitness law objects kind op object given (object_at objects object) refl (λ there. may there refl) is
class_fits p fitness law objects kind op object given Writes may is = absurd (cc is)

pub answer_fits : (p : Performs) (fitness : Fitness) → RepliesFit p fitness.state fitness.args fitness.reply → (objects : Objects) (act : Action) → MayAnswer p fitness.state fitness.args objects act
    → IsTrue (not (is_blocked (read_on p objects act))) → FitsAction fitness.reply (doing.At act) (reply_of (read_on p objects act))
answer_fits p fitness law objects (action.Call kind op object given) may is = class_fits p fitness law objects kind op object given (p.class_of kind op) may is
answer_fits p fitness law objects (action.Make kind object) may is = absurd (cc is)
answer_fits p fitness law objects (action.Fork text given place_on) may is = absurd (cc is)
answer_fits p fitness law objects action.Ended may is = absurd (cc is)
answer_fits p fitness law objects (action.Faulted fault) may is = absurd (cc is)

-- what is asked of whoever hands the read's reply to the halted state
pub record MayBeTold {S : Type 0} (stands : Stood S) (rests : S → Action → Type 0) (fitness : Fitness) (state : S) (reply : Reply) : Type 0 where
  pub some : (text : TextNo) × (number : ProcessNo) × (args : Data) × (replies : List Reply) × (turns : ℕ) × stands state text number args replies turns
  pub fits : (act : Action) × rests state act × FitsAction fitness.reply (doing.At act) reply

pub read_told : {S : Type 0} (stood stands : Stood S) (rests : S → Action → Type 0) (f : Frame) (fitness : Fitness) (task : Tasked S) (last call : ℕ) (state after : S) (reads : List Line)
    (p : Performs) (at_halt : Halt) (line : Line) (reply : Reply)
    → RepliesFit p fitness.state fitness.args fitness.reply
    → ((text : TextNo) (number : ProcessNo) (args : Data) (replies : List Reply) (turns : ℕ) → stood after text number args replies turns → stands after text number args replies turns)
    → p ≡ f.performs → MayRun stood f fitness task → InBurst stood f task last call state reads → ComesTo stood f task.process last state after at_halt → IfAt at_halt (rests after)
    → IsCame (record f { performs = p }) task.view.objects task.process (record { 0 = call }) at_halt (came.Read line) → reply ≡ line.reply
    → MayBeTold stands rests fitness after reply
read_told {S} stood stands rests f fitness task last call state after reads p at_halt line reply law back is may burst comes left came_so same =
    let act = came_so.0 in
    let at = came_so.1 in
    let answered = came_so.2 in
    let line_is = came_so.3 in
    let here = burst.each may.played may.is in
    let came_to = comes here.0 here.1.is here.1.some in
    let comes_at = subst (λ (h : Halt). ComesTo stood f task.process last state after h) at comes in
    record {
      some = (here.0.text, task.process, here.0.args, here.0.replies, came_to.0, back here.0.text task.process here.0.args here.0.replies came_to.0 came_to.2);
      fits = (
        act,
        subst (λ (h : Halt). IfAt h (rests after)) at left,
        subst (λ (x : Reply). FitsAction fitness.reply (doing.At act) x) (sym (same ∙ ap (λ (l : Line). l.reply) line_is))
            (answer_fits p fitness law task.view.objects act (answer_may stood f fitness task last call state after reads p act is may burst comes_at) answered),
      );
    }

-- the frame by what a machine performs is the run's
came_by : (f : Frame) (p : Performs) (objects : Objects) (i : ProcessNo) (call : ℕ) (at_halt : Halt) (c : Came) → p ≡ f.performs
    → IsCame (record f { performs = p }) objects i (record { 0 = call }) at_halt c → IsCame f objects i (record { 0 = call }) at_halt c
came_by f p objects i call at_halt c is h = subst (λ (q : Performs). IsCame (record f { performs = q }) objects i (record { 0 = call }) at_halt c) is h

-- one read more
pub read_more : {S : Type 0} (stood : Stood S) (f : Frame) (task : Tasked S) (last call next : ℕ) (state after new : S) (reads more : List Line) (p : Performs) (at_halt : Halt) (line : Line) (reply : Reply)
    → p ≡ f.performs → InBurst stood f task last call state reads → ComesTo stood f task.process last state after at_halt
    → IsCame (record f { performs = p }) task.view.objects task.process (record { 0 = call }) at_halt (came.Read line)
    → ((text : TextNo) (number : ProcessNo) (args : Data) (replies : List Reply) (turns : ℕ) → stood after text number args replies turns → stood new text number args (replies ++ reply ∷ []) turns)
    → reply ≡ line.reply → more ≡ reads ++ line ∷ [] → next ≡ call + 1 → InBurst stood f task last next new more
read_more {S} stood f task last call next state after new reads more p at_halt line reply is burst comes came_so told same grown number =
    let so = came_by f p task.view.objects task.process call at_halt (came.Read line) is came_so in
    let act = so.0 in
    let at = so.1 in
    let answered = so.2 in
    let line_is = so.3 in
    let longer : length more ≡ length reads + 1 = ap (λ (l : List Line). length l) grown ∙ length-append reads (line ∷ []) in
    let was = burst.counted in
    record {
      until = burst.until;
      each = λ r start.
          let here = burst.each r start in
          let u = here.0 in
          let come = here.1 in
          let came_to = comes u come.is come.some in
          let used = came_to.0 in
          let halts : Halts f task.process u last used (halt.At act) = subst (λ (h : Halt). Halts f task.process u last used h) at came_to.1 in
          let read : line ≡ read_line task.process u act (read_on f.performs task.view.objects act) =
          line_is ∙ ap (λ (n : ℕ). record { process = task.process; call = record { 0 = n }; action = act; guard = guard_of (read_on f.performs task.view.objects act); reply = reply_of (read_on f.performs task.view.objects act) }) come.number in
          let below = halts.2 in
          let exact = halts.4 in
          let some = come.some in
          let turns = come.turns in
          let grows = came_to.3 in
          let counted = come.number in
          let told_more = length-append u.replies (line.reply ∷ []) in (
            reads_on task.view.place used line u,
            record {
              is = subst (λ (x : Reply). stood new u.text task.process u.args (u.replies ++ x ∷ []) used) same (told u.text task.process u.args u.replies used came_to.2);
              number = number ∙ ap (λ (n : ℕ). n + 1) counted ∙ sym told_more;
              turns = omega (arith, turns, grows);
              some = omega (arith, below, exact, some);
              on = λ w rest. come.on w (Then u (reads_on task.view.place used line u) w
                  (record { act = act; used = used; halts = halts; answered = answered; is = ap (λ (l : Line). reads_on task.view.place used l u) read }) rest);
              leads = λ rest ended ran. subst (λ (l : List Line). Ran f task.view.objects task.view.place task.process last r l ended)
                  (sym (append_assoc reads (line ∷ []) rest) ∙ ap (λ (l : List Line). l ++ rest) (sym grown))
                  (come.leads (line ∷ rest) ended (act, used, halts, answered, read, ran));
            },
          );
      counted = omega (arith, number, was, longer);
    }

-- ---- the end

left_at : {S : Type 0} (left : Left S) (state : S) (act : Action) → left state act → LeftAt left state (at_action act)
left_at left state (action.Make kind object) h = h
left_at left state (action.Call kind op object given) h = h
left_at left state (action.Fork text given place_on) h = h
left_at left state action.Ended h = tt
left_at left state (action.Faulted fault) h = tt

left_halted : {S : Type 0} (left : Left S) (state : S) (at_halt : Halt) → IfAt at_halt (left state) → LeftAt left state (stage_at at_halt)
left_halted left state (halt.At act) h = left_at left state act h
left_halted left state halt.Paused h = tt

-- what is so of each action is so of that at which it halts
pub halted_by : (at_halt : Halt) (P Q : Action → Type 0) → ((act : Action) → P act → Q act) → IfAt at_halt P → IfAt at_halt Q
halted_by (halt.At act) P Q f h = f act h
halted_by halt.Paused P Q f h = tt

-- it halts by the last turn
halts_most : (f : Frame) (i : ProcessNo) (u : Played) (last used : ℕ) (at_halt : Halt) → u.turns < last → Halts f i u last used at_halt → used ≤ last
halts_most f i u last used (halt.At act) some halts = (let below = halts.2 in let exact = halts.4 in omega (arith, some, below, exact))
halts_most f i u last used halt.Paused some halts = (let exact = halts.1 in omega (arith, some, exact))

pub burst_ends : {S : Type 0} (stood : Stood S) (left : Left S) (f : Frame) (fitness : Fitness) (task : Tasked S) (done : Computed S) (last call : ℕ) (state : S) (p : Performs) (at_halt : Halt) (stage : Stage)
    → p ≡ f.performs → MayRun stood f fitness task → InBurst stood f task last call state done.reads → ComesTo stood f task.process last state done.end at_halt → IfAt at_halt (left done.end)
    → IsCame (record f { performs = p }) task.view.objects task.process (record { 0 = call }) at_halt (came.End stage)
    → ((text : TextNo) (number : ProcessNo) (args : Data) (replies : List Reply) (turns : ℕ) → stood done.end text number args replies turns → done.turns ≡ turns)
    → done.process ≡ task.process → done.start ≡ task.start → done.calls ≡ task.calls → done.view ≡ task.view → done.stage ≡ stage
    → HasRun stood left f done
burst_ends {S} stood left f fitness task done last call state p at_halt stage is may burst comes at came_so of process start calls view stage_is r begun =
    let so = came_by f p task.view.objects task.process call at_halt (came.End stage) is came_so in
    let ends = so.0 in
    let shown = so.1 in
    let here_is : IsStart stood task.process task.start task.calls r = record {
      state = subst (λ (k : ProcessNo). stood task.start r.text k r.args r.replies r.turns) process (subst (λ (s : S). stood s r.text done.process r.args r.replies r.turns) start begun.state);
      replies = sym calls ∙ begun.replies;
    } in
    let here = burst.each r here_is in
    let u = here.0 in
    let come = here.1 in
    let came_to = comes u come.is come.some in
    let used = came_to.0 in
    let begun_by = come.turns in
    let grows = came_to.3 in
    let most = halts_most f task.process u last used at_halt come.some came_to.1 in
    let until = burst.until r here_is in
    let first = burst.until may.played may.is in
    let may_turns = may.turns in
    let same : r.turns ≡ may.played.turns = omega (arith, until, first) in
    let last_is : last ≡ last_turn f r = first ∙ may_turns ∙ ap (λ (n : ℕ). n + min BURST_TURNS (f.settings.turns - n)) (sym same) in
    let ran : Ran f task.view.objects task.view.place task.process last r done.reads (halted used at_halt u) =
    subst (λ (l : List Line). Ran f task.view.objects task.view.place task.process last r l (halted used at_halt u)) (append-nil done.reads)
    (come.leads [] (halted used at_halt u) (at_halt, used, came_to.1, ends, refl)) in (
      halted used at_halt u,
      record {
        ran = subst (λ (n : ℕ). Ran f done.view.objects done.view.place done.process n r done.reads (halted used at_halt u)) last_is
            (subst (λ (v : Viewed). Ran f v.objects v.place done.process last r done.reads (halted used at_halt u)) (sym view)
            (subst (λ (k : ProcessNo). Ran f task.view.objects task.view.place k last r done.reads (halted used at_halt u)) (sym process) ran));
        state = subst (λ (k : ProcessNo). stood done.end u.text k u.args u.replies used) (sym process) came_to.2;
        halts = left_halted left done.end at_halt at;
        turns = of u.text task.process u.args u.replies used came_to.2;
        least = omega (arith, begun_by, grows);
        most = omega (arith, most, last_is);
        stage = ap on_stage stage_is ∙ shown;
      },
    )
