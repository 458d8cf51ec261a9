-- A member tries the read of one of its processes.
use Rattle.std.proofs.Common.{◌≡◌, ◌<◌, ◌^◌, ℕ, Bool, false, length, Option, Some, None, refl, sym, ap, ◌∙◌, subst, if◌then◌else◌}
use Rattle.orca_base.specs.declared.ids.KindNo.{KindNo}
use Rattle.orca_base.specs.declared.ids.OpNo.{OpNo}
use Rattle.orca_base.specs.declared.ids.ObjectId.{ObjectId}
use Rattle.value_core.specs.Datum.{Data}
use Rattle.value_core.specs.Fits.{Kinds, RepliesWell}
use Rattle.value_core.specs.History.{Objects}
use Rattle.value_core.specs.Lawful.{FitsAction}
use Rattle.value_core.specs.Meaning.{Performs}
use Rattle.value_core.specs.declared.action.Action.{Action}
use Rattle.value_core.specs.declared.action.Action.TheVariants as action
use Rattle.value_core.specs.declared.action.Class.{Class}
use Rattle.value_core.specs.declared.action.Class.TheVariants.{Reads, Writes}
use Rattle.value_core.specs.declared.action.Instance.{Instance}
use Rattle.value_core.specs.declared.action.Line.{Line}
use Rattle.value_core.specs.declared.action.Reply.{Reply}
use Rattle.value_core.specs.declared.meaning.Doing.TheVariants as doing
use Rattle.value_core.specs.declared.meaning.Tried.{Tried}
use Rattle.value_core.specs.declared.meaning.Tried.TheVariants as tried
use Rattle.guard_queue.specs.Settles.{guard_of, is_blocked, reply_of, tried_by, tried_on}
use Rattle.object_manager.specs.Viewed.{ReadFits}
use Rattle.book_law.specs.Fitness.{ArgsFit, ReplyFits, StateFits}
use Rattle.world_rules.specs.Applying.{performs_read, tries_as, tries_of}
use Rattle.world_rules.specs.Bursts.{if_reads, read_line, read_on}
use Rattle.world_rules.specs.Frame.{Frame}
use Rattle.world_rules.specs.Nodes.{Deed, NodeWork, does, if_played}
use Rattle.world_rules.specs.Played.{Played, Stage as RulesStage, receives}
use Rattle.world_rules.specs.Played.Stage.{Reading}
use Rattle.node_rules.specs.Handing.{MayReceive, waits_with}
use Rattle.node_core.specs.Pieces.{MayBeHanded, MayRead, MayReadAs, MayReadAt, line_as, line_if, line_read}
use Rattle.node_parts.specs.Shown.{IsPlayedIf, Left, Stood, on_stage}
use Rattle.node_parts.specs.declared.resident.Resident.{Resident}
use Rattle.node_parts.specs.declared.resident.Stage.{Stage}
use Rattle.node_parts.specs.declared.resident.Stage.TheVariants as at_stage

-- ---- it may be tried

-- what a read of a process at this stage asks

abbrev pub Asked : StateFits → ArgsFit → Objects → RulesStage → Type 0
Asked state args objects at = (kind : KindNo) (op : OpNo) (object : ObjectId) (given : Data) → at ≡ Reading (action.Call kind op object given) →
    ReadFits state args objects kind op object given

may_act : (state : StateFits) (args : ArgsFit) (objects : Objects) (act : Action) → Asked state args objects (Reading act) → MayRead state args objects act
may_act state args objects (action.Call kind op object given) h = h kind op object given refl
may_act state args objects (action.Make kind object) h = tt
may_act state args objects (action.Fork text given place_on) h = tt
may_act state args objects action.Ended h = tt
may_act state args objects (action.Faulted fault) h = tt

may_as : (state : StateFits) (args : ArgsFit) (objects : Objects) (at : Stage) → Asked state args objects (on_stage at) → MayReadAs state args objects at
may_as state args objects at_stage.Computing h = tt
may_as state args objects (at_stage.Acting act) h = tt
may_as state args objects (at_stage.Submitted act) h = tt
may_as state args objects (at_stage.Reading act) h = may_act state args objects act h
may_as state args objects (at_stage.Asking act) h = tt
may_as state args objects (at_stage.Over act) h = tt

pub may_read_at : {S : Type 0} (stood : Stood S) (left : Left S) (state : StateFits) (args : ArgsFit) (objects : Objects) (i : ℕ) (o : Option (Resident S)) (p : Option Played)
    → IsPlayedIf stood left i o p → ((r : Played) → p ≡ Some r → Asked state args objects r.stage) → MayReadAt state args objects o
may_read_at stood left state args objects i None p is h = tt
may_read_at stood left state args objects i (Some s) None is h = absurd is
may_read_at stood left state args objects i (Some s) (Some r) is h =
    may_as state args objects s.stage (λ kind op object given e. h r refl kind op object given (sym is.stage ∙ e))

-- ---- its reply fits

reply_fits : (t : Tried) (P : Reply → Type 0) → RepliesWell t P → is_blocked t ≡ false → P (reply_of t)
reply_fits tried.Blocked P h is = absurd (cc is)
reply_fits (tried.Did guard state reply) P h is = h
reply_fits (tried.Broke guard fault) P h is = h

-- what a machine's replies are
abbrev pub RepliesFit : Performs → StateFits → ArgsFit → ReplyFits → Type 0
RepliesFit p state args replies = (kinds : Kinds) (kind : KindNo) (op : OpNo) (was given : Data) → state kinds kind was → args kinds kind op given →
    RepliesWell (p.tries kind op was given) (replies kind op)

replies_on : (p : Performs) (state : StateFits) (args : ArgsFit) (replies : ReplyFits) → RepliesFit p state args replies
    → (objects : Objects) (kind : KindNo) (op : OpNo) (object : ObjectId) (given : Data) → ReadFits state args objects kind op object given
    → RepliesWell (tried_on p objects kind op object given) (replies kind op)
replies_on p state args replies law objects kind op object given (kinds, states, fits) =
    subst (λ (o : Option Instance). RepliesWell (tried_by p kind op given o) (replies kind op)) (sym fits.exists)
    (law kinds kind op fits.kept.state given (subst (λ (k : KindNo). state kinds k fits.kept.state) fits.kind (states object fits.kept fits.exists)) fits.args)

replies_if : (c : Class) (t : Tried) (P : Reply → Type 0) → RepliesWell t P → RepliesWell (if_reads c t) P
replies_if Reads t P h = h
replies_if Writes t P h = tt

some_line : {S : Type 0} (i : ℕ) (s : Resident S) (act : Action) (t : Tried) (line : Line) → line_if i s act t ≡ Some line
    → (is_blocked t ≡ false) × (record { process = record { 0 = i }; call = record { 0 = s.calls }; action = act; guard = guard_of t; reply = reply_of t } ≡ line)
some_line i s act tried.Blocked line is = absurd (cc is)
some_line i s act (tried.Did guard state reply) line is = (refl, cc is)
some_line i s act (tried.Broke guard fault) line is = (refl, cc is)

act_fits : {S : Type 0} (p : Performs) (state : StateFits) (args : ArgsFit) (replies : ReplyFits) → RepliesFit p state args replies
    → (objects : Objects) (i : ℕ) (s : Resident S) (act : Action) (line : Line) → MayRead state args objects act → line_if i s act (read_on p objects act) ≡ Some line
    → FitsAction replies (doing.At act) line.reply
act_fits p state args replies law objects i s (action.Call kind op object given) line may is =
    let t = if_reads (p.class_of kind op) (tried_on p objects kind op object given) in
    let found = some_line i s (action.Call kind op object given) t line is in
    subst (replies kind op) (ap (λ (l : Line). l.reply) found.1)
    (reply_fits t (replies kind op) (replies_if (p.class_of kind op) (tried_on p objects kind op object given) (replies kind op)
    (replies_on p state args replies law objects kind op object given may)) found.0)
act_fits p state args replies law objects i s (action.Make kind object) line may is = absurd (cc is)
act_fits p state args replies law objects i s (action.Fork text given place_on) line may is = absurd (cc is)
act_fits p state args replies law objects i s action.Ended line may is = absurd (cc is)
act_fits p state args replies law objects i s (action.Faulted fault) line may is = absurd (cc is)

received_as : {S : Type 0} (p : Performs) (state : StateFits) (args : ArgsFit) (replies : ReplyFits) → RepliesFit p state args replies
    → (objects : Objects) (i : ℕ) (s : Resident S) (at : Stage) (r : Played) (line : Line) → on_stage at ≡ r.stage → MayReadAs state args objects at
    → line_as p objects i s at ≡ Some line → (act : Action) × MayReceive replies r act line.reply
received_as p state args replies law objects i s at_stage.Computing r line e may is = absurd (cc is)
received_as p state args replies law objects i s (at_stage.Acting act) r line e may is = absurd (cc is)
received_as p state args replies law objects i s (at_stage.Submitted act) r line e may is = absurd (cc is)
received_as p state args replies law objects i s (at_stage.Reading act) r line e may is =
    (act, record { waits = ap waits_with (sym e); fits = act_fits p state args replies law objects i s act line may is })
received_as p state args replies law objects i s (at_stage.Asking act) r line e may is = absurd (cc is)
received_as p state args replies law objects i s (at_stage.Over act) r line e may is = absurd (cc is)

pub may_be_handed : {S : Type 0} (stood : Stood S) (left : Left S) (p : Performs) (state : StateFits) (args : ArgsFit) (replies : ReplyFits)
    → RepliesFit p state args replies → (objects : Objects) (i : ℕ) (o : Option (Resident S)) (q : Option Played) (line : Line) → IsPlayedIf stood left i o q
    → ((r : Played) → q ≡ Some r → length r.replies < 2 ^ 62) → MayReadAt state args objects o → line_read p objects i o ≡ Some line
    → MayBeHanded stood left replies i line.reply o
may_be_handed stood left p state args replies law objects i None q line is small may found = tt
may_be_handed stood left p state args replies law objects i (Some s) None line is small may found = absurd is
may_be_handed stood left p state args replies law objects i (Some s) (Some r) line is small may found =
    let gets = received_as p state args replies law objects i s s.stage r line is.stage may found in
    record { number = i; played = r; act = gets.0; is = is; may = gets.1; small = small r refl }

-- ---- it is the rules'

none_if : {S : Type 0} (i : ℕ) (s : Resident S) (r : Played) (act : Action) (t : Tried) (v : NodeWork) → line_if i s act t ≡ None → performs_read i r act t v ≡ v
none_if i s r act tried.Blocked v is = refl
none_if i s r act (tried.Did guard state reply) v is = absurd (cc is)
none_if i s r act (tried.Broke guard fault) v is = absurd (cc is)

none_as : {S : Type 0} (f : Frame) (i : ℕ) (s : Resident S) (r : Played) (at : Stage) (v : NodeWork)
    → line_as f.performs v.node.copies.objects i s at ≡ None → tries_as f i r (on_stage at) v ≡ v
none_as f i s r at_stage.Computing v is = refl
none_as f i s r (at_stage.Acting act) v is = refl
none_as f i s r (at_stage.Submitted act) v is = refl
none_as f i s r (at_stage.Reading act) v is = none_if i s r act (read_on f.performs v.node.copies.objects act) v is
none_as f i s r (at_stage.Asking act) v is = refl
none_as f i s r (at_stage.Over act) v is = refl

-- where no line comes of it, nothing changes
pub reads_none : {S : Type 0} (stood : Stood S) (left : Left S) (f : Frame) (i : ℕ) (o : Option (Resident S)) (p : Option Played) (v : NodeWork)
    → IsPlayedIf stood left i o p → line_read f.performs v.node.copies.objects i o ≡ None → tries_of f i p v ≡ v
reads_none stood left f i None None v is none = refl
reads_none stood left f i None (Some r) v is none = absurd is
reads_none stood left f i (Some s) None v is none = absurd is
reads_none stood left f i (Some s) (Some r) v is none =
    ap (λ (at : RulesStage). tries_as f i r at v) (sym is.stage) ∙ none_as f i s r s.stage v none

-- what is performed beside the list at this number of entries, and handed to process i
abbrev pub handed : ℕ → Option Played → Line → NodeWork → NodeWork
handed i p line v =
    if_played (receives v.node.copies.applied line.reply) i p (does (Deed.Performs (record { place = v.node.copies.applied; line = line })) v)

some_if : {S : Type 0} (i : ℕ) (s : Resident S) (r : Played) (act : Action) (t : Tried) (line : Line) (v : NodeWork) → s.calls ≡ length r.replies
    → line_if i s act t ≡ Some line → performs_read i r act t v ≡ handed i (Some r) line v
some_if i s r act t line v calls is =
    let found = some_line i s act t line is in
    ap (λ (b : Bool). if b then v else handed i (Some r) (read_line (record { 0 = i }) r act t) v) found.0
    ∙ ap (λ (l : Line). handed i (Some r) l v)
    (ap (λ (n : ℕ). record { process = record { 0 = i }; call = record { 0 = n }; action = act; guard = guard_of t; reply = reply_of t }) (sym calls) ∙ found.1)

some_as : {S : Type 0} (f : Frame) (i : ℕ) (s : Resident S) (r : Played) (at : Stage) (line : Line) (v : NodeWork) → s.calls ≡ length r.replies
    → line_as f.performs v.node.copies.objects i s at ≡ Some line → tries_as f i r (on_stage at) v ≡ handed i (Some r) line v
some_as f i s r at_stage.Computing line v calls is = absurd (cc is)
some_as f i s r (at_stage.Acting act) line v calls is = absurd (cc is)
some_as f i s r (at_stage.Submitted act) line v calls is = absurd (cc is)
some_as f i s r (at_stage.Reading act) line v calls is = some_if i s r act (read_on f.performs v.node.copies.objects act) line v calls is
some_as f i s r (at_stage.Asking act) line v calls is = absurd (cc is)
some_as f i s r (at_stage.Over act) line v calls is = absurd (cc is)

-- where a line comes of it, that is performed and handed on
pub reads_some : {S : Type 0} (stood : Stood S) (left : Left S) (f : Frame) (i : ℕ) (o : Option (Resident S)) (p : Option Played) (line : Line) (v : NodeWork)
    → IsPlayedIf stood left i o p → line_read f.performs v.node.copies.objects i o ≡ Some line → tries_of f i p v ≡ handed i p line v
reads_some stood left f i None p line v is found = absurd (cc found)
reads_some stood left f i (Some s) None line v is found = absurd is
reads_some stood left f i (Some s) (Some r) line v is found =
    ap (λ (at : RulesStage). tries_as f i r at v) (sym is.stage) ∙ some_as f i s r s.stage line v is.calls found
