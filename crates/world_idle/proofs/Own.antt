-- In every run, whose call is on a single object of its own member has it waiting there.
use Rattle.std.proofs.Common.{◌≡◌, ◌==◌, inl, ⊎_elim, ℕ, zero, suc, Bool, Option, Some, None, List, [], ◌∷◌, ◌++◌, length, map, append_assoc, append-nil, refl, sym, ap, ◌∙◌, subst, nat_lt}
use Rattle.std.proofs.lemmas.Bool.{cond_both}
use Rattle.value_core.specs.Meaning.{Performs as Meant}
use Rattle.value_core.specs.declared.action.Action.{Action}
use Rattle.value_core.specs.declared.action.Action.TheVariants as action
use Rattle.value_core.specs.declared.action.Line.{Line}
use Rattle.value_core.specs.declared.meaning.Tried.{Tried}
use Rattle.value_core.specs.declared.message.Message.{Message}
use Rattle.guard_queue.specs.Settles.{is_blocked}
use Rattle.guard_queue.specs.declared.queue.Suspended.{Suspended}
use Rattle.object_manager.specs.After.{Copied}
use Rattle.object_manager.specs.State.{message_of}
use Rattle.book_law.specs.Members.{after_entry}
use Rattle.book_law.specs.Passes.{Test, is_passed, lines_after}
use Rattle.group_rules.specs.Member.{Waiting}
use Rattle.group_rules.specs.Steps.{note}
use Rattle.world_rules.specs.Applying.{answers, applies, applies_all, applies_each, applies_one, begins, copies_take, due_entries, passes_limit, performs_read, round, rounds, tries_as, tries_of, tries_read, tries_reads}
use Rattle.world_rules.specs.Frame.{Frame, group}
use Rattle.world_rules.specs.Mail.{Mail}
use Rattle.world_rules.specs.Mail.Errand.{Ask}
use Rattle.group_rules.specs.Work.{Act, Work}
use Rattle.world_rules.specs.Nodes.{Deed, NodeWork, becomes, changes, if_played, joins, known, mails_of}
use Rattle.world_rules.specs.Nodes.Deed.{Acts}
use Rattle.world_rules.specs.Owners.{sends, takes_each, takes_reached}
use Rattle.world_rules.specs.Parts.{asks_again, asks_again_at, asks_again_by, asks_again_of, asks_below, asks_owner, catches_up}
use Rattle.world_rules.specs.Played.{Played, Stage, receives}
use Rattle.world_rules.specs.Played.Stage.{Computing, Acting, Submitted, Reading, Asking, Over}
use Rattle.world_rules.specs.Processes.{Begun, begun_by, home_in, owner_in, singles_of}
use Rattle.world_idle.proofs.Calls.{HasCall}
use Rattle.world_law.proofs.Still.{Still, still_reached}
use Rattle.world_idle.proofs.Taking.{Has, each_taken, has_left, known_same}

-- ---- what leaves the calls that wait, and what is held

pub record Even (v u : NodeWork) : Type 0 where
  pub waits : u.node.copies.waits ≡ v.node.copies.waits
  pub held : u.node.held ≡ v.node.held
  pub given : u.node.given ≡ v.node.given
  pub mails : (more : List Mail) × (mails_of u.deeds ≡ mails_of v.deeds ++ more)

pub even : (v : NodeWork) → Even v v
even v = record { waits = refl; held = refl; given = refl; mails = ([], sym (append-nil (mails_of v.deeds))) }

pub even_on : {v u t : NodeWork} → Even v u → Even u t → Even v t
even_on {v} one two = record { waits = two.waits ∙ one.waits; held = two.held ∙ one.held; given = two.given ∙ one.given; mails = (one.mails.0 ++ two.mails.0, two.mails.1 ∙ ap (λ z. z ++ two.mails.0) one.mails.1 ∙ append_assoc (mails_of v.deeds) one.mails.0 two.mails.0) }

even_if : (change : Played → Played) (i : ℕ) (o : Option Played) (v : NodeWork) → Even v (if_played change i o v)
even_if change i None v = even v
even_if change i (Some r) v = record { waits = refl; held = refl; given = refl; mails = ([], sym (append-nil (mails_of v.deeds))) }

even_performs : (i : ℕ) (r : Played) (act : Action) (t : Tried) (v : NodeWork) → Even v (performs_read i r act t v)
even_performs i r act t v = cond_both (is_blocked t) _ _ (Even v) (λ e. even v) (λ e. record { waits = refl; held = refl; given = refl; mails = ([], sym (append-nil (mails_of v.deeds))) })

even_as : (f : Frame) (i : ℕ) (r : Played) (stage : Stage) (v : NodeWork) → Even v (tries_as f i r stage v)
even_as f i r (Reading act) v = even_performs i r act _ v
even_as f i r Computing v = even v
even_as f i r (Acting act) v = even v
even_as f i r (Submitted act) v = even v
even_as f i r (Asking act) v = even v
even_as f i r (Over act) v = even v

even_tries : (f : Frame) (i : ℕ) (o : Option Played) (v : NodeWork) → Even v (tries_of f i o v)
even_tries f i None v = even v
even_tries f i (Some r) v = even_as f i r r.stage v

pub even_read : (f : Frame) (i : ℕ) (v : NodeWork) → Even v (tries_read f i v)
even_read f i v = even_tries f i (v.node.played i) v

even_reads : (f : Frame) (n : ℕ) (v : NodeWork) → Even v (tries_reads f n v)
even_reads f zero v = even v
even_reads f (suc i) v = even_on (even_reads f i v) (even_read f i (tries_reads f i v))

even_answers : (place : ℕ) (lines : List Line) (v : NodeWork) → Even v (answers place lines v)
even_answers place [] v = even v
even_answers place (l ∷ ls) v = even_on (even_if (receives place l.reply) l.process.0 (v.node.played l.process.0) v) (even_answers place ls (changes (receives place l.reply) l.process.0 v))

even_begins : (m i : ℕ) (processes : List Begun) (v : NodeWork) → Even v (begins m i processes v)
even_begins m i [] v = even v
even_begins m i (process ∷ processes) v = cond_both (process.home == m) _ _ (Even v) (λ e. record { waits = refl; held = refl; given = refl; mails = ([], sym (append-nil (mails_of v.deeds))) }) (λ e. even v)

waits_entry : (single : Test) (p : Meant) (c : Copied) (x : Message) (keeps : Bool) → (after_entry single p c x keeps).waits ≡ c.waits
waits_entry single p c x keeps = cond_both (is_passed single x.action) _ _ (λ (z : Copied). z.waits ≡ c.waits) (λ e. refl) (λ e. refl)

even_one : (f : Frame) (m : ℕ) (x : Message) (v : NodeWork) → Even v (applies_one f m x v)
even_one f m x v =
    let ps : List Begun = known f v.node in
    let place : ℕ = suc v.node.copies.applied in
    let taken : NodeWork = copies_take f m ps x v in
    let lines : List Line = lines_after (singles_of f ps) f.performs v.node.copies x in
    let told : NodeWork = answers place lines taken in
    let born : List Begun = begun_by f.settings.nodes (home_in ps x.process.0) place x.action in
    let u : NodeWork = begins m v.node.copies.processes born told in
    let first : Even v taken = record { waits = waits_entry (singles_of f ps) f.performs v.node.copies x (home_in ps x.process.0 == m); held = refl; given = refl; mails = ([], sym (append-nil (mails_of v.deeds))) } in
    even_on first (even_on (even_answers place lines taken) (even_on (even_begins m v.node.copies.processes born told) (even_reads f u.node.copies.processes u)))

even_each : (f : Frame) (m : ℕ) (xs : List Message) (v : NodeWork) → Even v (applies_each f m xs v)
even_each f m [] v = even v
even_each f m (x ∷ xs) v = cond_both (passes_limit f v.node x) _ _ (Even v) (λ e. even v) (λ e. even_on (even_one f m x v) (even_each f m xs (applies_one f m x v)))

acts_mails : (acts : List (Act Message)) (deeds : List Deed) → (more : List Mail) × (mails_of (map Acts acts ++ deeds) ≡ mails_of deeds ++ more)
acts_mails [] deeds = ([], sym (append-nil (mails_of deeds)))
acts_mails (Act.Sends letter ∷ acts) deeds = let r = acts_mails acts deeds in
    (r.0 ++ Mail.Grouped letter ∷ [], ap (λ z. z ++ Mail.Grouped letter ∷ []) r.1 ∙ append_assoc (mails_of deeds) r.0 (Mail.Grouped letter ∷ []))
acts_mails (Act.Keeps packet ∷ acts) deeds = acts_mails acts deeds
acts_mails (Act.Orders k x ∷ acts) deeds = acts_mails acts deeds
acts_mails (Act.Begins k log answers ∷ acts) deeds = acts_mails acts deeds

pub even_joins : (work : Work Message) (v : NodeWork) → Even v (joins work v)
even_joins work v = record { waits = refl; held = refl; given = refl; mails = acts_mails work.acts v.deeds }

pub even_mails : (v u : NodeWork) → Even v u → (Q : Mail → Type 0) → Has Q (mails_of v.deeds) → Has Q (mails_of u.deeds)
even_mails v u e Q h = subst (Has Q) (sym e.mails.1) (has_left Q (mails_of v.deeds) e.mails.0 h)

even_round : (f : Frame) (m : ℕ) (v : NodeWork) → Even v (round f m v)
even_round f m v =
    let u : NodeWork = applies f m v in
    even_on (even_each f m (due_entries v.node) v)
    (cond_both (nat_lt u.node.member.applied u.node.copies.applied) (joins (note (group f) m u.node.copies.applied u.node.member) u) u (Even u) (λ e. even_joins (note (group f) m u.node.copies.applied u.node.member) u) (λ e. even u))

pub even_rounds : (f : Frame) (m : ℕ) (ws : List (Waiting Message)) (v : NodeWork) → Even v (rounds f m ws v)
even_rounds f m [] v = even_round f m v
even_rounds f m (one ∷ more) v = even_on (even_round f m v) (even_rounds f m more (round f m v))

even_owner : (f : Frame) (k : ℕ) (r : Played) (call : Suspended) (v : NodeWork) → Even v (asks_owner f k r call v)
even_owner f k r call v = cond_both (owner_in (known f v.node) call.object == k) v (sends k (owner_in (known f v.node) call.object) (Ask r.place (message_of call)) v) (Even v) (λ e. even v) (λ e. record { waits = refl; held = refl; given = refl; mails = (_, refl) })

even_by : (f : Frame) (k i : ℕ) (r : Played) (act : Action) (v : NodeWork) → Even v (asks_again_by f k i r act v)
even_by f k i r (action.Call kind op object args) v = even_owner f k r _ v
even_by f k i r (action.Make kind object) v = even v
even_by f k i r (action.Fork text args place_on) v = even v
even_by f k i r action.Ended v = even v
even_by f k i r (action.Faulted fault) v = even v

even_at : (f : Frame) (k i : ℕ) (r : Played) (stage : Stage) (v : NodeWork) → Even v (asks_again_at f k i r stage v)
even_at f k i r (Asking act) v = even_by f k i r act v
even_at f k i r Computing v = even v
even_at f k i r (Acting act) v = even v
even_at f k i r (Submitted act) v = even v
even_at f k i r (Reading act) v = even v
even_at f k i r (Over act) v = even v

even_of : (f : Frame) (k i : ℕ) (o : Option Played) (v : NodeWork) → Even v (asks_again_of f k i o v)
even_of f k i None v = even v
even_of f k i (Some r) v = even_at f k i r r.stage v

even_below : (f : Frame) (k n : ℕ) (v : NodeWork) → Even v (asks_below f k n v)
even_below f k zero v = even v
even_below f k (suc i) v = even_on (even_below f k i v) (even_of f k i ((asks_below f k i v).node.played i) (asks_below f k i v))

pub even_again : (f : Frame) (k : ℕ) (v : NodeWork) → Even v (asks_again f k v)
even_again f k v = cond_both v.node.member.outside _ _ (Even v) (λ e. even v) (λ e. even_below f k v.node.copies.processes v)

-- ---- member m catches up: the call of process i that waits at it stays, or the process asks no more

pub own_caught : (f : Frame) (m i c : ℕ) (first : NodeWork) (r : Played) (act : Action) → home_in (known f (catches_up f m first).node) i ≡ m → (catches_up f m first).node.played i ≡ Some r → r.stage ≡ Asking act → length r.replies ≡ c →
    HasCall i c first.node.copies.waits → HasCall i c (catches_up f m first).node.copies.waits
own_caught f m i c first r act home here is n has = cond_both u.node.member.outside u there (λ (z : NodeWork). z.node.member ≡ u.node.member → z.node.copies.applied ≡ u.node.copies.applied → home_in (known f z.node) i ≡ m → z.node.played i ≡ Some r → HasCall i c z.node.copies.waits)
    (λ e a b k p. before) (λ e a b k p. taken a b k p) s.member s.applied home here
  where
    u : NodeWork
    u = applies_all f m first

    there : NodeWork
    there = takes_each f m u.node.held (becomes (record u.node { held = [] }) u)

    s : Still (group f) m u (takes_reached f m u)
    s = still_reached f (group f) m m u

    before : HasCall i c u.node.copies.waits
    before = subst (HasCall i c) (sym (even_rounds f m first.node.member.waiting first).waits) has

    taken : there.node.member ≡ u.node.member → there.node.copies.applied ≡ u.node.copies.applied → home_in (known f there.node) i ≡ m → there.node.played i ≡ Some r → HasCall i c there.node.copies.waits
    taken a b k p =
        ⊎_elim (λ h. h) (λ q. ⊎_elim (λ (x : (m ≡ m → ⊥) × _). absurd (x.0 refl)) (λ x. absurd (x.1 r act p is n)) q)
        (each_taken f m i c m (known f there.node) k u.node.held (becomes (record u.node { held = [] }) u) (known_same f u.node there.node (sym a) (sym b)) (inl before))
