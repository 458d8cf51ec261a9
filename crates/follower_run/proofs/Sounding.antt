-- What members answer may be written, and what asking them needs is so.
use Rattle.std.proofs.Common.{◌≡◌, ◌∙◌, ◌<◌, inl, inr, ℕ, zero, suc, Bool, true, false, cond, leb, List, [], ◌∷◌, map, take, Option, None, Some, option_map, slice_get, refl, ap, sym, subst, arith}
use Rattle.std.specs.Prelude.{T}
use Rattle.std.specs.Cmp.{tied_itself}
use Rattle.std.specs.FinMap.Entries.{below_all, is_sorted}
use Rattle.std.specs.List.{AllByRecursion}
use Rattle.std.specs.Ordering.{is_eq, is_lt, ordering_reverse}
use Rattle.std.specs.declared.cmp.Ordering.{Ordering}
use Rattle.std.specs.declared.cmp.Ordering.TheVariants.{Less, Equal, Greater}
use Rattle.std.proofs.lemmas.Bool.{leb-false}
use Rattle.std.proofs.lemmas.List.Elements.{All-from_recursion}
use Rattle.orca_base.specs.declared.ids.KindNo.{KindNo}
use Rattle.orca_base.specs.declared.ids.ObjectId.{ObjectId}
use Rattle.orca_base.specs.declared.ids.OpNo.{OpNo}
use Rattle.value_core.specs.Datum.{Data}
use Rattle.value_core.specs.Fits.{Kinds}
use Rattle.value_core.specs.History.{Objects, object_at, object_cmp}
use Rattle.value_core.specs.Meaning.{Computes, Performs}
use Rattle.value_core.specs.Sound.{AreSound, AreSoundArguments, IsSoundMessage}
use Rattle.value_core.specs.declared.action.Instance.{Instance}
use Rattle.value_core.specs.declared.message.Message.{Message}
use Rattle.guard_queue.proofs.Lookups.{exact_objects, object_total}
use Rattle.guard_queue.specs.Fitting.{CallFits}
use Rattle.guard_queue.specs.Shown.{Rises}
use Rattle.guard_queue.specs.declared.queue.Suspended.{Suspended}
use Rattle.object_manager.proofs.Sending.{state_fits}
use Rattle.object_manager.specs.After.{Copied, opening_copies}
use Rattle.object_manager.specs.Applies.{CopiesBlocked, CopiesFit}
use Rattle.object_manager.specs.Laws.{EntryGoesOn}
use Rattle.object_manager.specs.State.{message_of, state_of}
use Rattle.book_law.proofs.Ordered.{is_less, left, right}
use Rattle.book_law.specs.Fitness.{ArgsFit, StateFits}
use Rattle.group_join.proofs.Afterward.{plain_after}
use Rattle.group_join.proofs.Reached.{Stand, stands}
use Rattle.group_join.specs.Following.{copies_after}
use Rattle.group_join.specs.Seeking.{entry_behind}
use Rattle.group_join.specs.Sound.{IsSoundJoin, IsSoundObject}
use Rattle.group_join.specs.declared.packet.JoinPacket.{JoinPacket}
use Rattle.group_join.specs.declared.packet.JoinPacket.TheVariants.{State, Next}
use Rattle.group_law.specs.Agreed.{applied_entries}
use Rattle.group_law.specs.Messages.{Messages, MessagesLaw}
use Rattle.group_rules.specs.Member.{Member}
use Rattle.group_rules.specs.Sets.{In, entry_at}
use Rattle.world_book.specs.Holding.{RunsHold}
use Rattle.world_book.specs.Promise.{RunsAreKept}
use Rattle.world_book.specs.Sounding.{RunsSound}
use Rattle.world_rules.specs.Frame.{group}
use Rattle.world_rules.specs.Worlds.{agreed, group_world, processes_of, singles_in}
use Rattle.join_law.proofs.Plain.{all_entries, none_single}
use Rattle.follower_run.specs.Answers.{HasShortQueue, MembersAnswer}

-- ---- objects in order, and calls that are suspended

-- an object behind the first is found as among those behind it
behind_by : (e x : ObjectId × Instance) (es : Objects) (k : ObjectId) (v : Instance) → T (below_all object_cmp e.0 (x ∷ es)) → (object_at es k ≡ Some v → object_cmp e.0 k ≡ Less) → (o : Ordering) → object_cmp k x.0 ≡ o → cond (is_eq o) (Some x.1) (object_at es k) ≡ Some v → object_cmp e.0 k ≡ Less
behind_by e x es k v below later Equal same is =
    let f : k ≡ x.0 = exact_objects k x.0 same in
    ap (object_cmp e.0) f ∙ is_less (object_cmp e.0 x.0) (left (is_lt (object_cmp e.0 x.0)) (below_all object_cmp e.0 es) below)
behind_by e x es k v below later Less other is = later is
behind_by e x es k v below later Greater other is = later is

found_behind : (e : ObjectId × Instance) (es : Objects) (k : ObjectId) (v : Instance) → T (below_all object_cmp e.0 es) → object_at es k ≡ Some v → object_cmp e.0 k ≡ Less
found_behind e [] k v below is = absurd (cc is)
found_behind e (x ∷ es) k v below is =
    behind_by e x es k v below (found_behind e es k v (right (is_lt (object_cmp e.0 x.0)) (below_all object_cmp e.0 es) below)) (object_cmp k x.0) refl is

still_found : (e : ObjectId × Instance) (es : Objects) (k : ObjectId) (v : Instance) → T (below_all object_cmp e.0 es) → object_at es k ≡ Some v → object_at (e ∷ es) k ≡ Some v
still_found e es k v below is =
    let above : object_cmp k e.0 ≡ Greater = object_total.antisymm k e.0 ∙ ap ordering_reverse (found_behind e es k v below is) in
    ap (λ (o : Ordering). cond (is_eq o) (Some e.1) (object_at es k)) above ∙ is

objects_sound : (es : Objects) → Rises es → ((k : ObjectId) (kept : Instance) → object_at es k ≡ Some kept → AreSound kept.state) → AllByRecursion IsSoundObject es
objects_sound [] rises sound = tt
objects_sound (e ∷ es) rises sound =
    let below = left (below_all object_cmp e.0 es) (is_sorted object_cmp es) rises in (
      sound e.0 e.1 (ap (λ (o : Ordering). cond (is_eq o) (Some e.1) (object_at es e.0)) (tied_itself object_total e.0)),
      objects_sound es (right (below_all object_cmp e.0 es) (is_sorted object_cmp es) rises) (λ k kept is. sound k kept (still_found e es k kept below is)),
    )

calls_sound : (fits_args : ArgsFit) → ((kinds : Kinds) (kind : KindNo) (op : OpNo) (args : Data) → fits_args kinds kind op args → AreSoundArguments args) → (kinds : Kinds) (objects : Objects) (queue : List Suspended)
    → ((at : ℕ) (call : Suspended) → slice_get queue at ≡ Some call → CallFits fits_args kinds objects call) → AllByRecursion IsSoundMessage (map message_of queue)
calls_sound fits_args sound kinds objects [] fit = tt
calls_sound fits_args sound kinds objects (call ∷ queue) fit = (
  record { action = sound kinds call.kind call.op call.args (fit 0 call refl).args; performable = refl },
  calls_sound fits_args sound kinds objects queue (λ at other is. fit (suc at) other is),
)

-- a state of copies that stand is sound, where its queue is short
state_sound : (p : Performs) (fits_state : StateFits) (fits_args : ArgsFit) → ((kinds : Kinds) (kind : KindNo) (state : Data) → fits_state kinds kind state → AreSound state)
    → ((kinds : Kinds) (kind : KindNo) (op : OpNo) (args : Data) → fits_args kinds kind op args → AreSoundArguments args) → (c : Copied) → Stand fits_state fits_args p c → c.singles ≡ [] → HasShortQueue (State (state_of c)) → IsSoundJoin (State (state_of c))
state_sound p fits_state fits_args states args c stand none short =
    let few = (state_fits c stand.whole none).few in
    record {
      objects = (
        All-from_recursion IsSoundObject c.objects (objects_sound c.objects stand.whole.rises (λ k kept is. states _ kept.kind kept.state (stand.fits.shared.states k kept is))),
        omega (arith, few),
      );
      queue = (All-from_recursion IsSoundMessage (map message_of c.queue) (calls_sound fits_args args _ c.objects c.queue stand.fits.shared.calls), short);
    }

-- ---- entries

there_in : {A : Type 0} (xs : List A) (n k : ℕ) (x : A) → slice_get xs n ≡ Some x → n < k → In x (take k xs)
there_in [] n k x is lt = absurd (cc is)
there_in (y ∷ xs) n zero x is lt = absurd (omega (arith, lt))
there_in (y ∷ xs) zero (suc k) x is lt = let f : y ≡ x = cc is in inl (sym f)
there_in (y ∷ xs) (suc n) (suc k) x is lt = inr (there_in xs n k x is (omega (arith, lt)))

option_some : (applied : ℕ) (o : Option Message) (packet : JoinPacket) → option_map (λ (x : Message). Next (suc applied) x) o ≡ Some packet → (x : Message) × (o ≡ Some x) × (packet ≡ Next (suc applied) x)
option_some applied None packet is = absurd (cc is)
option_some applied (Some x) packet is = let f : Next (suc applied) x ≡ packet = cc is in (x, refl, sym f)

answer_if : (member : Member Message) (applied : ℕ) (state packet : JoinPacket) → HasShortQueue packet → (HasShortQueue state → IsSoundJoin state) → ((x : Message) → In x (applied_entries member) → IsSoundMessage x) → (none purged : Bool) → leb member.applied applied ≡ none
    → cond none None (cond purged (Some state) (entry_behind member applied)) ≡ Some packet → IsSoundJoin packet
answer_if member applied state packet short states entries true purged upto is = absurd (cc is)
answer_if member applied state packet short states entries false true upto is =
    let f : state ≡ packet = cc is in
    subst IsSoundJoin f (states (subst HasShortQueue (sym f) short))
answer_if member applied state packet short states entries false false upto is =
    let found = option_some applied (entry_at member.log (suc applied)) packet is in
    let low = leb-false member.applied applied upto in
    subst IsSoundJoin (sym found.2) (entries found.0 (there_in member.log applied member.applied found.0 found.1 (omega (arith, low))))

-- ---- of each run

pub record Laws (p : Performs) (q : Computes) (fits_state : StateFits) (fits_args : ArgsFit) : Type 0 where
  pub messages : MessagesLaw Message
  pub kept : RunsAreKept p q
  pub holds : RunsHold p q
  pub sound : RunsSound p q
  pub opening : CopiesFit fits_state fits_args opening_copies
  pub quiet : CopiesBlocked p opening_copies
  pub entry : EntryGoesOn fits_state fits_args p
  pub states : (kinds : Kinds) (kind : KindNo) (state : Data) → fits_state kinds kind state → AreSound state
  pub args : (kinds : Kinds) (kind : KindNo) (op : OpNo) (args : Data) → fits_args kinds kind op args → AreSoundArguments args

-- copies that are, but for single objects, others that stand and count none
same_state : (p : Performs) (fits_state : StateFits) (fits_args : ArgsFit) → ((kinds : Kinds) (kind : KindNo) (state : Data) → fits_state kinds kind state → AreSound state)
    → ((kinds : Kinds) (kind : KindNo) (op : OpNo) (args : Data) → fits_args kinds kind op args → AreSoundArguments args) → (c d : Copied) → state_of c ≡ state_of d → Stand fits_state fits_args p d → d.singles ≡ [] → HasShortQueue (State (state_of c)) → IsSoundJoin (State (state_of c))
same_state p fits_state fits_args states args c d same stand none short =
    subst (λ s. IsSoundJoin (State s)) (sym same) (state_sound p fits_state fits_args states args d stand none (subst (λ s. HasShortQueue (State s)) same short))

pub members_answer : (p : Performs) (q : Computes) (fits_state : StateFits) (fits_args : ArgsFit) → Laws p q fits_state fits_args → MembersAnswer p q fits_args
members_answer p q fits_state fits_args laws f performs computes settings replicated steps w replays m =
    let holds = laws.holds f performs computes settings steps w replays in
    let kept = laws.kept f performs computes settings steps w replays in
    let sound = laws.sound f performs computes settings steps w replays in
    let messages : Messages (group f) (group_world w) = subst (Messages (group f)) (sym holds.grouped.run) (laws.messages (group f) settings.resilience holds.grouped.events) in
    let single = singles_in f w in
    let list = agreed f w in
    let a = (w.nodes m).member.applied in
    let entries = all_entries single (none_single f replicated (processes_of f w)) f.performs opening_copies (take a list) in
    let plain = plain_after f.performs list a in
    record {
      level = sym (holds.grouped.level m);
      plain = ap (λ (c : Copied). c.singles) (kept.shared m) ∙ ap (λ (c : Copied). c.singles) entries ∙ plain.singles;
      sound = λ may applied packet is short.
          let standing : Stand fits_state fits_args f.performs (copies_after f.performs list a) =
          stands fits_state fits_args f.performs laws.opening (subst (λ (r : Performs). CopiesBlocked r opening_copies) (sym performs) laws.quiet) (subst (λ (r : Performs). EntryGoesOn fits_state fits_args r) (sym performs) laws.entry) list may a in
          answer_if (w.nodes m).member applied (State (state_of (w.nodes m).copies)) packet short
          (same_state f.performs fits_state fits_args laws.states laws.args (w.nodes m).copies (copies_after f.performs list a) (ap state_of (kept.shared m) ∙ ap state_of entries) standing plain.singles)
          (λ x among. sound.said.submitted x.process.0 x (messages.applied m x among))
          (leb a applied) (leb (suc applied) (w.nodes m).member.base) refl is;
    }
