-- The owner of a single copy takes a call: what is kept stays kept.
use Rattle.std.proofs.Common.{inl, inr, ◌⊎◌, ◌≡◌, ℕ, suc, ◌+◌, ◌≤◌, ◌<◌, ◌-◌, ◌==◌, ⊎_elim, Bool, true, false, Option, Some, None, List, [], ◌∷◌, ◌++◌, length, take, refl, sym, ap, ◌∙◌, arith, subst, append-nil, if◌then◌else◌}
use Rattle.std.specs.Prelude.{slice_get, slice_set, option_map}
use Rattle.std.proofs.lemmas.Bool.{cases_eq, cases_lt, eq-eqb, eqb-true, ne_eqb}
use Rattle.std.proofs.lemmas.Option.{slice_get_within}
use Rattle.orca_base.specs.declared.ids.KindNo.{KindNo}
use Rattle.orca_base.specs.declared.ids.ObjectId.{ObjectId}
use Rattle.value_core.specs.declared.action.Instance.{Instance}
use Rattle.value_core.specs.declared.action.Line.{Line}
use Rattle.value_core.specs.declared.message.Message.{Message}
use Rattle.value_core.specs.declared.action.Reply.{Reply}
use Rattle.value_core.specs.declared.action.Action.{Action}
use Rattle.value_core.specs.declared.action.Action.TheVariants as action
use Rattle.value_core.specs.declared.meaning.Tried.{Tried}
use Rattle.value_core.specs.declared.meaning.Tried.TheVariants as tried
use Rattle.value_core.specs.Meaning.{Performs, Computes}
use Rattle.value_core.specs.History.{Configuration, Objects, after_call, after_line, after_lines, after_try, object_at, objects_after, opening}
use Rattle.guard_queue.specs.declared.queue.Suspended.{Suspended}
use Rattle.guard_queue.specs.Settles.{Settling}
use Rattle.object_manager.specs.After.{Copied, opening_copies}
use Rattle.object_manager.specs.Singles.{after_single, side}
use Rattle.std.specs.List.{Contains}
use Rattle.book_law.specs.Passes.{Test, after_all, counted}
use Rattle.book_law.specs.Performed.{placed}
use Rattle.object_manager.specs.State.{message_of}
use Rattle.book_law.specs.Singles.{Single, after_on, alone, kept_or, lines_on, waiting, waits}
use Rattle.book_law.specs.Book.{Placed, behind, book, aside_at, up_to}
use Rattle.book_law.specs.Events.{Calls, In, Runner, Takes, answering, lines_by, replies_to}
use Rattle.book_law.specs.Replies.{IsReplyTo}
use Rattle.book_law.proofs.Kept.{Spares, IsKept, Kept, Owns, Stands, answer_at}
use Rattle.book_law.proofs.Lists.{in_push, in_waits, lines_by-append, one, one_other, one_same}
use Rattle.book_law.proofs.Processes.{after_lines-append, replies_after, set_other, set_same}
use Rattle.book_law.proofs.Settling.{Comes, Going, Ran, ran}
use Rattle.book_law.proofs.Beside.{Beside}
use Rattle.book_law.proofs.Books.{behind_all, behind_earlier, behind_in, book_inserts, by_none, copies_most, cut, placed_by, placed_here, placed_there}
use Rattle.book_law.proofs.Entries.{follows_all, nobody_waits}
use Rattle.book_law.proofs.Hearing.{mapped}
use Rattle.book_law.proofs.Inserting.{AllCall, Inserts, all_call_spare, calls_count, calls_same, inserted_process, inserts_follows, inserts_known, inserts_legal, inserts_whole, next_same, through}
use Rattle.book_law.proofs.Objects.{same_id, spared_lines}
use Rattle.book_law.proofs.Owned.{map_set, waits_at, waits_set, waits_two}
use Rattle.book_law.proofs.Reading.{at_place, none_behind}
use Rattle.book_law.proofs.Sole.{is_of, sole}
use Rattle.book_law.proofs.Stages.{none_left, stage_line, stage_new, stage_none, stage_told, stage_waits}
use Rattle.book_law.proofs.Typed.{at_itself}

-- ---- an object that is there stays there, by its type

tried_kind : (objects : Objects) (k : ObjectId) (kept : Instance) (t : Tried) → object_at objects k ≡ Some kept → (after : Instance) × (object_at (after_try objects k kept t) k ≡ Some after) × (after.kind ≡ kept.kind)
tried_kind objects k kept tried.Blocked is = (kept, is, refl)
tried_kind objects k kept (tried.Did guard state reply) is = (record { kind = kept.kind; state = state }, at_itself objects k (record { kind = kept.kind; state = state }), refl)
tried_kind objects k kept (tried.Broke guard fault) is = (kept, is, refl)

call_kind : (p : Performs) (objects : Objects) (a : Action) (o : ObjectId) (kept : Instance) → Calls a o → object_at objects o ≡ Some kept → (after : Instance) × (object_at (objects_after p objects a) o ≡ Some after) × (after.kind ≡ kept.kind)
call_kind p objects (action.Call kind op object args) o kept e is =
    let there : object_at objects object ≡ Some kept = ap (object_at objects) (sym e) ∙ is in
    let t = tried_kind objects object kept (p.tries kind op kept.state args) there in
    (t.0, ap (object_at (after_call p objects kind op object args (object_at objects object))) e ∙ ap (λ (was : Option Instance). object_at (after_call p objects kind op object args was) object) there ∙ t.1, t.2)
call_kind p objects (action.Make kind object) o kept e is = absurd e
call_kind p objects (action.Fork text args place_on) o kept e is = absurd e
call_kind p objects action.Ended o kept e is = absurd e
call_kind p objects (action.Faulted fault) o kept e is = absurd e

lines_kind : (p : Performs) (c : Configuration) (o : ObjectId) (lines : List Line) (kept : Instance) → AllCall o lines → object_at c.objects o ≡ Some kept → (after : Instance) × (object_at (after_lines p c lines).objects o ≡ Some after) × (after.kind ≡ kept.kind)
lines_kind p c o [] kept all is = (kept, is, refl)
lines_kind p c o (l ∷ lines) kept all is =
    let a = call_kind p c.objects l.action o kept (all l (inl refl)) is in
    let b = lines_kind p (after_line p c l) o lines a.0 (λ x h. all x (inr h)) a.1 in
    (b.0, b.1, b.2 ∙ a.2)

-- who waits has a call
pub call_of : (j : ℕ) (queue : List Suspended) → 1 ≤ waiting j queue → (call : Suspended) × In call queue × (call.process.0 ≡ j)
call_of j [] le = absurd (omega (arith, le))
call_of j (call ∷ queue) le = go (call.process.0 == j) refl le (call_of j queue)
  where
    go : (b : Bool) → (call.process.0 == j) ≡ b → 1 ≤ (if b then suc (waiting j queue) else waiting j queue) → (1 ≤ waiting j queue → (c : Suspended) × In c queue × (c.process.0 ≡ j)) → (c : Suspended) × In c (call ∷ queue) × (c.process.0 ≡ j)
    go true is e ih = (call, inl refl, eqb-true call.process.0 j is)
    go false is e ih = let h = ih e in (h.0, inr h.1, h.2)

-- what stands in a list where one was set
pub set_cases : {A : Type 0} (xs : List A) (i k : ℕ) (x y z : A) → slice_get xs i ≡ Some x → slice_get (slice_set xs i y) k ≡ Some z → ((k ≡ i) × (y ≡ z)) ⊎ ((i ≡ k → ⊥) × (slice_get xs k ≡ Some z))
set_cases xs i k x y z is there = ⊎_elim
    (λ (e : i ≡ k). let a = set_same xs i x y is in let f : Some y ≡ Some z = sym a ∙ ap (slice_get (slice_set xs i y)) e ∙ there in inl (sym e, cc))
    (λ apart. inr (apart, sym (set_other xs i k y apart) ∙ there)) (cases_eq i k)

-- a process that has a line among those that a call lets run: it stands before them, and received all
pub record Asker (single : Test) (p : Performs) (q : Computes) (list : List Message) (aside : List Placed) (owned : List Single) (seen : List Message) (applied : ℕ → ℕ) (runners : ℕ → Option Runner) (n j : ℕ) : Type 0 where
  pub runner : Runner
  pub here : runners j ≡ Some runner
  pub stands : Stands single p q list aside owned seen (applied runner.member) j runner
  pub after : runner.place ≤ n
  pub told : runner.answer ≡ None
  pub none : stands.awaited ≡ []

-- where a process has a line, no answer was on the way to it
abbrev Unanswered : Runner → List Line → Type 0
Unanswered z [] = Unit {0}
Unanswered z (l ∷ ls) = z.answer ≡ None

-- what is kept, and what each process has of the call's lines
pub record Took (single : Test) (p : Performs) (q : Computes) (list : List Message) (aside : List Placed) (owned : List Single) (seen : List Message) (applied : ℕ → ℕ) (runners more : ℕ → Option Runner) (i : ℕ) (x : Single) (call : Suspended) : Type 0 where
  pub kept : Kept single p q list (aside ++ placed (applied x.owner) (lines_on p x call)) (slice_set owned i (after_on p x call)) (seen ++ message_of call ∷ []) applied more
  pub replies : (j : ℕ) (z : Runner) → runners j ≡ Some z → IsReplyTo z (lines_by j (lines_on p x call))
  pub idle : (j : ℕ) (z : Runner) → runners j ≡ Some z → (l : Line) (ls : List Line) → lines_by j (lines_on p x call) ≡ l ∷ ls → z.answer ≡ None

pub takes : (single : Test) (p : Performs) (q : Computes) (list : List Message) (aside : List Placed) (owned : List Single) (seen : List Message) (applied : ℕ → ℕ) (runners more : ℕ → Option Runner) (i : ℕ) (x : Single) (r : Runner) (call : Suspended) → Takes owned seen applied runners i x r call
    → ((j : ℕ) → more j ≡ option_map (answering (applied x.owner) (lines_by j (lines_on p x call))) (runners j))
    → Kept single p q list aside owned seen applied runners
    → Took single p q list aside owned seen applied runners more i x call
takes single p q list aside owned seen applied runners more i x r call t hands k = record {
  kept = still_kept;
  replies = λ j z here. (reply j z here (lines_by j lines) refl).0;
  idle = λ j z here l ls some. (reply j z here (l ∷ ls) some).1;
}
  where
    n : ℕ
    n = applied x.owner

    lines : List Line
    lines = lines_on p x call

    set : Single
    set = after_on p x call

    copies : Copied
    copies = after_all single p opening_copies list

    but : ObjectId → Type 0
    but z = z ≡ x.object

    who : ℕ → Type 0
    who j = lines_by j lines ≡ [] → ⊥

    within : n ≤ length list
    within = k.within x.owner

    c : Configuration
    c = after_lines p (opening q) (up_to single p list aside n)

    end : Configuration
    end = after_lines p (opening q) (book single p list aside)

    new_end : Configuration
    new_end = after_lines p (opening q) (book single p list (aside ++ placed n lines))

    later : List Line
    later = behind single p list aside n

    ended : end ≡ after_lines p c later
    ended = ap (after_lines p (opening q)) (cut single p list aside n) ∙ after_lines-append p (opening q) (up_to single p list aside n) later

    o : Owns single p q list aside runners (applied x.owner) x
    o = k.owns i x t.copy

    s : Stands single p q list aside owned seen (applied r.member) call.process.0 r
    s = k.stands call.process.0 r t.runner

    idle : (waiting call.process.0 copies.queue + waits call.process.0 owned ≡ 0) × (s.awaited ≡ []) × (r.answer ≡ None)
    idle = stage_new seen (message_of call) r.message r.answer (waiting call.process.0 copies.queue + waits call.process.0 owned) s.awaited t.out t.new s.stage

    -- ---- who asks

    sender : Asker single p q list aside owned seen applied runners n call.process.0
    sender = record { runner = r; here = t.runner; stands = s; after = t.after; told = idle.2; none = idle.1 }

    suspended : (j : ℕ) → 1 ≤ waiting j x.queue → Asker single p q list aside owned seen applied runners n j
    suspended j le =
        let a = call_of j x.queue le in
        let z = o.ready a.0 a.1 in
        let here : runners j ≡ Some z.0 = ap runners (sym a.2) ∙ z.1 in
        let st = k.stands j z.0 here in
        let at = waits_at j owned i x t.copy in
        let w = stage_waits seen z.0.message z.0.answer (waiting j copies.queue + waits j owned) st.awaited (omega (arith, le, at)) st.stage in
        record { runner = z.0; here = here; stands = st; after = z.2; told = w.1; none = w.0 }

    asker : (j : ℕ) → 1 ≤ waiting j x.queue + one call.process.0 j → Asker single p q list aside owned seen applied runners n j
    asker j le = ⊎_elim
        (λ (e : call.process.0 ≡ j). subst (λ (m : ℕ). Asker single p q list aside owned seen applied runners n m) e sender)
        (λ apart. let u = one_other call.process.0 j apart in suspended j (omega (arith, le, u)))
        (cases_eq call.process.0 j)

    quiet : (j : ℕ) → Asker single p q list aside owned seen applied runners n j → lines_by j later ≡ []
    quiet j a = none_behind single p q list aside owned seen (applied a.runner.member) j a.runner n a.stands a.told a.none a.after

    here_now : (j : ℕ) → (a : Asker single p q list aside owned seen applied runners n j) → slice_get c.processes j ≡ Some (record { text = a.runner.text; args = a.runner.args; replies = a.runner.replies })
    here_now j a = at_place single p q list aside owned seen applied runners j a.runner n a.stands a.told a.none a.after k

    -- where an asker stands, it stands at the end
    across : (j : ℕ) → Asker single p q list aside owned seen applied runners n j → (d : Configuration) → slice_get d.processes j ≡ slice_get d.processes j → slice_get c.processes j ≡ slice_get end.processes j
    across j a d e =
        let own = here_now j a in
        let lt = slice_get_within c.processes j (record { text = a.runner.text; args = a.runner.args; replies = a.runner.replies }) own in
        sym (ap (λ (d : Configuration). slice_get d.processes j) ended ∙ through p c later j lt (quiet j a))

    -- ---- the call and what it lets run

    sees : ObjectId → Type 0
    sees z = z ≡ x.object

    here_objects : Copied
    here_objects = record (side (alone x)) { processes = length c.processes }

    leaves : Settling
    leaves = record { objects = (after_single p (alone x) (message_of call)).own; queue = (after_single p (alone x) (message_of call)).waits; lines = lines_on p x call }

    spares : Spares x.object later
    spares = o.last n t.kept (omega arith)

    there : object_at c.objects x.object ≡ Some x.kept
    there = sym (ap (λ (d : Configuration). object_at d.objects x.object) ended ∙ spared_lines p c later x.object spares) ∙ o.state

    comes : Comes p q sees c here_objects (message_of call)
    comes =
        let a = s.asks (message_of call) t.out in
        record {
          process = record { text = r.text; args = r.args; replies = r.replies };
          exists = here_now call.process.0 sender;
          call = a.call;
          doing = a.next;
          waits = let at = waits_at call.process.0 owned i x t.copy in let z = idle.0 in omega (arith, at, z);
          calls = λ z u. u ∙ t.object;
          objects = λ z see. ap (object_at c.objects) see ∙ there ∙ sym (ap (object_at (alone x).own) see ∙ at_itself [] x.object x.kept);
          count = refl;
          next = λ other u. next_same q end c other (let w = in_waits other x.queue u in across other.process.0 (suspended other.process.0 w) c refl) (o.next other u);
          on = o.its;
          once = λ j. let at = waits_at j owned i x t.copy in let u = k.once j in omega (arith, at, u);
        }

    did : Ran p q sees c here_objects (message_of call) (length c.processes + 0) leaves
    did = ran p q sees c here_objects (message_of call) comes

    going : Going p q sees (action.Call call.kind call.op call.object call.args) c (length c.processes + 0) leaves
    going = did.going

    all_call : AllCall x.object lines
    all_call l u = ⊎_elim
        (λ (e : l.action ≡ action.Call call.kind call.op call.object call.args). subst (λ (a : Action). Calls a x.object) (sym e) (sym t.object))
        (λ v. subst (λ (z : ObjectId). Calls l.action z) v.2 v.1)
        (going.each l u)

    lacks : (j : ℕ) → (call.process.0 ≡ j → ⊥) → waiting j x.queue ≡ 0 → lines_by j lines ≡ []
    lacks j apart none =
        let h = did.holds j in
        let u = one_other call.process.0 j apart in
        (none_left (waiting j set.queue) (lines_by j lines) (omega (arith, h, u, none))).1

    not_sender : (j : ℕ) → 1 ≤ waiting j copies.queue + waits j owned → call.process.0 ≡ j → ⊥
    not_sender j le e =
        let z = idle.0 in
        let f : waiting j copies.queue + waits j owned ≡ 0 = subst (λ (m : ℕ). waiting m copies.queue + waits m owned ≡ 0) e z in
        omega (arith, le, f)

    lacks_late : (j : ℕ) → copies.processes ≤ j → lines_by j lines ≡ []
    lacks_late j le =
        let a = s.there in
        let b = copies_most single p list r.place in
        let f = k.follows (length list) in
        lacks j (λ (e : call.process.0 ≡ j). omega (arith, a, b, le, e)) (nobody_waits q end x.queue j (let g = end_count in omega (arith, g, le)) o.next)
      where
        end_count : length end.processes ≡ copies.processes
        end_count = let f = follows_all single p q list aside owned seen applied runners k in f.processes

    has_lines : (j : ℕ) → (lines_by j lines ≡ [] → ⊥) → 1 ≤ waiting j x.queue + one call.process.0 j
    has_lines j some = ⊎_elim
        (λ (lt : 0 < waiting j x.queue + one call.process.0 j). omega (arith, lt))
        (λ (le : waiting j x.queue + one call.process.0 j ≤ 0). let h = did.holds j in absurd (some (none_left (waiting j set.queue) (lines_by j lines) (omega (arith, h, le))).1))
        (cases_lt 0 (waiting j x.queue + one call.process.0 j))

    no_lines : (j : ℕ) (ls : List Line) → lines_by j lines ≡ ls → (who j → ⊥) → lines_by j lines ≡ []
    no_lines j [] e apart = e
    no_lines j (l ∷ ls) e apart = absurd (apart (λ none. let f : [] ≡ l ∷ ls = sym none ∙ e in cc f))

    inserts : Inserts single p q list aside n lines but who
    inserts = record {
      within = within;
      legal = going.legal;
      beside = record {
        objects = λ z apart. spared_lines p c lines z (all_call_spare x.object z lines all_call apart);
        count = calls_count p c x.object lines all_call;
        others = λ j apart. calls_same p c x.object lines j all_call (no_lines j (lines_by j lines) refl apart);
      };
      away = λ l u. (λ some. by_none l.process.0 l later (quiet l.process.0 (asker l.process.0 (has_lines l.process.0 some))) u refl, λ z v is. spares l u (inl (subst (λ (w : ObjectId). Calls l.action w) is v)));
    }

    whole : Beside but who (after_lines p (opening q) (book single p list aside)) (after_lines p (opening q) (book single p list (aside ++ placed n lines)))
    whole = inserts_whole single p q list aside n lines but who inserts

    -- ---- the copy after it

    kept : (after : Instance) × (object_at (after_lines p c lines).objects x.object ≡ Some after) × (after.kind ≡ x.kept.kind)
    kept = lines_kind p c x.object lines x.kept all_call there

    kept_is : set.kept ≡ kept.0
    kept_is = ap (λ (z : Option Instance). kept_or z x.kept) (sym (going.objects x.object refl) ∙ kept.1)

    new_ended : new_end ≡ after_lines p (after_lines p c lines) later
    new_ended = ap (after_lines p (opening q)) (book_inserts single p list aside n lines within) ∙ after_lines-append p (opening q) (up_to single p list aside n) (lines ++ later) ∙ after_lines-append p c lines later

    once : (j : ℕ) → waiting j copies.queue + waits j (slice_set owned i set) ≤ 1
    once j =
        let a = waits_set j owned i x set t.copy in
        let h = did.holds j in
        ⊎_elim
        (λ (e : call.process.0 ≡ j).
        let z = idle.0 in
        let f : waiting j copies.queue + waits j owned ≡ 0 = subst (λ (m : ℕ). waiting m copies.queue + waits m owned ≡ 0) e z in
        let u = one_same call.process.0 j e in
        omega (arith, a, h, f, u))
        (λ apart. let u = one_other call.process.0 j apart in let w = k.once j in omega (arith, a, h, u, w))
        (cases_eq call.process.0 j)

    still : (m : ℕ) (z : ObjectId) → IsKept owned m z → IsKept (slice_set owned i set) m z
    still m z h = ⊎_elim
        (λ (e : i ≡ h.0).
        let f : Some x ≡ Some h.1 = sym t.copy ∙ ap (slice_get owned) e ∙ h.2 in
        let g : x ≡ h.1 = cc in
        (i, set, set_same owned i x set t.copy, ap (λ (w : Single). w.object) g ∙ h.3, let a = ap (λ (w : Single). w.place) g in let b = h.4 in omega (arith, a, b)))
        (λ apart. (h.0, h.1, set_other owned i h.0 set apart ∙ h.2, h.3, h.4))
        (cases_eq i h.0)

    -- a call that still waits: its process has no line
    waits_on : (other : Suspended) → In other set.queue → lines_by other.process.0 lines ≡ []
    waits_on other u =
        let j = other.process.0 in
        let w = in_waits other set.queue u in
        let h = did.holds j in
        let a = waits_set j owned i x set t.copy in
        let m = once j in
        let b = k.once j in
        let at = waits_at j owned i x t.copy in
        ⊎_elim
        (λ (e : call.process.0 ≡ j).
        let z = idle.0 in
        let f : waiting j copies.queue + waits j owned ≡ 0 = subst (λ (m : ℕ). waiting m copies.queue + waits m owned ≡ 0) e z in
        let v = one_same call.process.0 j e in
        (none_left (waiting j set.queue - 1) (lines_by j lines) (omega (arith, w, h, at, f, v))).1)
        (λ apart. let v = one_other call.process.0 j apart in (none_left (waiting j set.queue - 1) (lines_by j lines) (omega (arith, w, h, at, b, v))).1)
        (cases_eq call.process.0 j)

    still_asks : (other : Suspended) → In other set.queue → Asker single p q list aside owned seen applied runners n other.process.0
    still_asks other u =
        let w = in_waits other set.queue u in
        let h = did.holds other.process.0 in
        asker other.process.0 (omega (arith, w, h))

    -- who has no line stays as it was
    unchanged : (j : ℕ) (z : Runner) → runners j ≡ Some z → lines_by j lines ≡ [] → more j ≡ Some z
    unchanged j z here none = hands j ∙ ap (option_map (answering n (lines_by j lines))) here ∙ ap (λ (ls : List Line). Some (answering n ls z)) none

    mine : Owns single p q list (aside ++ placed n lines) more (applied set.owner) set
    mine = record {
      is = o.is;
      state = ap (λ (d : Configuration). object_at d.objects x.object) new_ended ∙ spared_lines p (after_lines p c lines) later x.object spares ∙ kept.1 ∙ ap (λ (z : Instance). Some z) (sym kept_is);
      next = λ other u.
          let j = other.process.0 in
          let a = still_asks other u in
          let g = going.next other u in
          let lt = slice_get_within (after_lines p c lines).processes j g.process g.exists in
          next_same q (after_lines p c lines) new_end other (ap (λ (d : Configuration). slice_get d.processes j) new_ended ∙ through p (after_lines p c lines) later j lt (quiet j a)) g;
      its = going.on;
      place = o.place;
      last = λ m after reached. ⊎_elim
          (λ (lt : length list < m). subst (λ (ls : List Line). Spares x.object ls) (sym (behind_all single p list (aside ++ placed n lines) m (omega (arith, lt)))) (λ l u v. u))
          (λ (le : m ≤ length list). subst (λ (ls : List Line). Spares x.object ls) (sym (behind_earlier single p list aside n m lines reached le)) (o.last m after reached))
          (cases_lt (length list) m);
      ready = λ other u. let a = still_asks other u in (a.runner, unchanged other.process.0 a.runner a.here (waits_on other u), a.after);
      unused = λ lt. absurd (let a = t.kept in omega (arith, a, lt));
      listed = λ m after. subst (λ (kd : KindNo). Contains (counted single p (take m list)) (x.object, kd)) (sym (ap (λ (z : Instance). z.kind) kept_is ∙ kept.2)) (o.listed m after);
    }

    others : (a : ℕ) (y : Single) → (i ≡ a → ⊥) → slice_get owned a ≡ Some y → Owns single p q list (aside ++ placed n lines) more (applied y.owner) y
    others a y apart is =
        let v = k.owns a y is in
        let away : y.object ≡ x.object → ⊥ = λ (e : y.object ≡ x.object). apart (sym (k.distinct a i y x is t.copy e)) in
        let lacking : (other : Suspended) → In other y.queue → lines_by other.process.0 lines ≡ [] = λ other u.
        (let j = other.process.0 in
        let w = in_waits other y.queue u in
        let two = waits_two j owned i a x y t.copy is apart in
        let b = k.once j in
        let at = waits_at j owned a y is in
        lacks j (not_sender j (omega (arith, w, at))) (omega (arith, w, two, b))) in
        record {
          is = v.is;
          state = whole.objects y.object away ∙ v.state;
          next = λ other u. next_same q end new_end other (whole.others other.process.0 (λ w. w (lacking other u))) (v.next other u);
          its = v.its;
          place = v.place;
          last = λ m after reached l u w. ⊎_elim (λ z. v.last m after reached l z w) (λ z. all_call_spare x.object y.object lines all_call away l z w) (behind_in single p list aside n m lines l u);
          ready = λ other u. let z = v.ready other u in (z.0, unchanged other.process.0 z.0 z.1 (lacking other u), z.2);
          unused = v.unused;
          listed = v.listed;
        }

    -- ---- the processes

    own : (j : ℕ) (z : Runner) → runners j ≡ Some z → call.process.0 ≡ j → z.message ≡ Some (message_of call)
    own j z here e =
        let f : Some r ≡ Some z = sym t.runner ∙ ap runners e ∙ here in
        let g : r ≡ z = cc in
        subst (λ (w : Runner). w.message ≡ Some (message_of call)) g t.out

    earlier : (j : ℕ) (z : Runner) → runners j ≡ Some z → (y : Message) → In y (seen ++ message_of call ∷ []) → y.process.0 ≡ j → (y.call.0 < length z.replies) ⊎ (z.message ≡ Some y)
    earlier j z here y u f =
        let st = k.stands j z here in
        ⊎_elim (λ v. st.earlier y v f) (λ v. inr (own j z here (ap (λ (w : Message). w.process.0) (sym v) ∙ f) ∙ ap (λ (w : Message). Some w) (sym v))) (in_push y (message_of call) seen u)

    after_it : (j : ℕ) (z : Runner) → runners j ≡ Some z → 1 ≤ waiting j x.queue + one call.process.0 j → z.place ≤ n
    after_it j z here le =
        let a = asker j le in
        let f : Some a.runner ≡ Some z = sym a.here ∙ here in
        let g : a.runner ≡ z = cc in
        let h = a.after in
        let e = ap (λ (w : Runner). w.place) g in
        omega (arith, h, e)

    stand : (j : ℕ) (z : Runner) → runners j ≡ Some z → (ls : List Line) → lines_by j lines ≡ ls → Stands single p q list (aside ++ placed n lines) (slice_set owned i set) (seen ++ message_of call ∷ []) (applied (answering n ls z).member) j (answering n ls z)
    stand j z here [] none =
        let st = k.stands j z here in
        record {
          awaited = st.awaited;
          process = whole.others j (λ u. u none) ∙ st.process;
          since = st.since;
          unseen = st.unseen;
          quiet = λ m lt. placed_by j n m aside lines none ∙ st.quiet m lt;
          answer = st.answer;
          there = st.there;
          early = st.early;
          asks = st.asks;
          earlier = earlier j z here;
          stage = stage_none seen (message_of call) j z.message z.answer (waiting j copies.queue + waits j owned) (waiting j copies.queue + waits j (slice_set owned i set)) st.awaited (own j z here) (λ m f. let a = st.asks m f in a.process) t.new
              (let a = waits_set j owned i x set t.copy in let h = did.holds j in let e = ap (λ (l : List Line). length l) none in omega (arith, a, h, e)) st.stage;
        }
    stand j z here (l ∷ ls) some =
        let st = k.stands j z here in
        let a = waits_set j owned i x set t.copy in
        let h = did.holds j in
        let e = ap (λ (l : List Line). length l) some in
        let g = stage_line seen (message_of call) j z.message z.answer (waiting j copies.queue + waits j owned) (waiting j copies.queue + waits j (slice_set owned i set)) st.awaited n l ls (own j z here) (λ m f. let a = st.asks m f in a.process) t.new (omega (arith, a, h, e)) st.stage in
        let le = after_it j z here (has_lines j (λ none. let f : [] ≡ l ∷ ls = sym none ∙ some in cc f)) in
        let now : slice_get c.processes j ≡ Some (record { text = z.text; args = z.args; replies = z.replies }) = at_place single p q list aside owned seen applied runners j z n st g.1 g.2 le k in
        record {
          awaited = st.awaited;
          process = inserted_process single p q list aside n lines j (record { text = z.text; args = z.args; replies = z.replies }) within now (none_behind single p q list aside owned seen (applied z.member) j z n st g.1 g.2 le)
              ∙ ap (λ (rs : List Line). Some (record { text = z.text; args = z.args; replies = z.replies ++ replies_to rs })) (some ∙ ap (λ (rs : List Line). l ∷ rs) g.0)
              ∙ ap (λ (rs : List Reply). Some (record { text = z.text; args = z.args; replies = rs })) (sym (append-nil (z.replies ++ l.reply ∷ [])))
              ∙ ap (λ (rs : List Line). Some (record { text = z.text; args = z.args; replies = (z.replies ++ l.reply ∷ []) ++ replies_to rs })) (sym g.2);
          since = st.since;
          unseen = st.unseen;
          quiet = λ m lt. ⊎_elim
              (λ (f : n ≡ m). subst (λ (w : ℕ). lines_by j (aside_at w (aside ++ placed n lines)) ≡ (if n == w then l ∷ [] else [])) f
              (ap (lines_by j) (placed_here n aside lines) ∙ lines_by-append j (aside_at n aside) lines
              ∙ ap (λ (rs : List Line). rs ++ lines_by j lines) (subst (λ (w : ℕ). lines_by j (aside_at w aside) ≡ []) (sym f) (st.quiet m lt ∙ ap (answer_at m) g.1)) ∙ some ∙ ap (λ (rs : List Line). l ∷ rs) g.0
              ∙ sym (ap (λ b. if b then l ∷ [] else []) (eq-eqb n n refl))))
              (λ apart. ap (lines_by j) (placed_there n m aside lines apart) ∙ st.quiet m lt ∙ ap (answer_at m) g.1 ∙ sym (ap (λ b. if b then l ∷ [] else []) (ne_eqb n m apart)))
              (cases_eq n m);
          answer = (le, within);
          there = st.there;
          early = st.early;
          asks = λ m f. let u = st.asks m f in record { process = u.process; call = u.call; next = u.next };
          earlier = earlier j z here;
          stage = g.3;
        }

    still_kept : Kept single p q list (aside ++ placed n lines) (slice_set owned i set) (seen ++ message_of call ∷ []) applied more
    still_kept = record {
      legal = inserts_legal single p q list aside n lines but who inserts k.legal;
      follows = inserts_follows single p q list aside n lines but who inserts (λ z u. ap single u ∙ o.is) k.follows;
      next = λ other inside.
          let w = in_waits other copies.queue inside in
          let once = k.once other.process.0 in
          let at = waits_at other.process.0 owned i x t.copy in
          next_same q end new_end other (whole.others other.process.0 (λ u. u (lacks other.process.0 (not_sender other.process.0 (omega (arith, w))) (omega (arith, w, once, at))))) (k.next other inside);
      shared = k.shared;
      once = once;
      within = k.within;
      held = λ m lt. placed_there n m aside lines (λ (e : n ≡ m). absurd (let f = within in omega (arith, f, e, lt))) ∙ k.held m lt;
      unborn = λ j m le. placed_by j n m aside lines (lacks_late j le) ∙ k.unborn j m le;
      listed = λ y u. ⊎_elim (λ v. k.listed y v) (λ v. let f = ap (λ (z : Message). z.process.0) v in let a = s.there in let b = copies_most single p list r.place in omega (arith, f, a, b)) (in_push y (message_of call) seen u);
      counts = map_set (λ (y : Single). (y.object, y.kept.kind)) owned i x set t.copy (ap (λ (kd : KindNo). (x.object, kd)) (ap (λ (z : Instance). z.kind) kept_is ∙ kept.2)) ∙ k.counts;
      distinct = λ a b y z is there same. ⊎_elim
          (λ u. ⊎_elim (λ v. u.0 ∙ sym v.0) (λ v. u.0 ∙ k.distinct i b x z t.copy v.1 (ap (λ (w : Single). w.object) u.1 ∙ same)) (set_cases owned i b x set z t.copy there))
          (λ u. ⊎_elim (λ v. k.distinct a i y x u.1 t.copy (same ∙ sym (ap (λ (w : Single). w.object) v.1)) ∙ sym v.0) (λ v. k.distinct a b y z u.1 v.1 same) (set_cases owned i b x set z t.copy there))
          (set_cases owned i a x set y t.copy is);
      known = λ m z kd is u. still m z (inserts_known single p q list aside n lines but who owned inserts (λ z. same_id z x.object) (λ z m le u. (i, x, t.copy, sym u, let a = t.kept in omega (arith, a, le))) k.known m z kd is u);
      owns = λ a y is. ⊎_elim (λ u. subst (λ (z : Single). Owns single p q list (aside ++ placed n lines) more (applied z.owner) z) u.1 mine) (λ u. others a y u.0 u.1) (set_cases owned i a x set y t.copy is);
      stands = λ j z there. let f = mapped (answering n (lines_by j lines)) (runners j) z (sym (hands j) ∙ there) in
          subst (λ (w : Runner). Stands single p q list (aside ++ placed n lines) (slice_set owned i set) (seen ++ message_of call ∷ []) (applied w.member) j w) (sym f.2) (stand j f.0 f.1 (lines_by j lines) refl);
    }

    -- its line is of its message
    reply : (j : ℕ) (z : Runner) → runners j ≡ Some z → (ls : List Line) → lines_by j lines ≡ ls → IsReplyTo z ls × (Unanswered z ls)
    reply j z here [] none = (tt, tt)
    reply j z here (l ∷ ls) some =
        let st = k.stands j z here in
        let a = waits_set j owned i x set t.copy in
        let h = did.holds j in
        let e = ap (λ (rs : List Line). length rs) some in
        let g = stage_line seen (message_of call) j z.message z.answer (waiting j copies.queue + waits j owned) (waiting j copies.queue + waits j (slice_set owned i set)) st.awaited n l ls (own j z here) (λ m f. let a = st.asks m f in a.process) t.new (omega (arith, a, h, e)) st.stage in
        let le = after_it j z here (has_lines j (λ none. let f : [] ≡ l ∷ ls = sym none ∙ some in cc f)) in
        let now : slice_get c.processes j ≡ Some (record { text = z.text; args = z.args; replies = z.replies }) = at_place single p q list aside owned seen applied runners j z n st g.1 g.2 le k in
        let one : lines_by j lines ≡ l ∷ [] = some ∙ ap (λ (rs : List Line). l ∷ rs) g.0 in
        let after : slice_get (after_lines p c lines).processes j ≡ Some (record { text = z.text; args = z.args; replies = z.replies ++ l.reply ∷ [] }) =
        replies_after p c lines j (record { text = z.text; args = z.args; replies = z.replies }) now ∙ ap (λ (rs : List Line). Some (record { text = z.text; args = z.args; replies = z.replies ++ replies_to rs })) one in
        let acts = sole p q c lines j l (record { text = z.text; args = z.args; replies = z.replies ++ l.reply ∷ [] }) z.replies going.legal one after refl in
        let told = stage_told (seen ++ message_of call ∷ []) z.message (Some (record { place = n; line = l })) (waiting j copies.queue + waits j (slice_set owned i set)) st.awaited (record { place = n; line = l }) refl g.3 in
        let m = told.2.0 in
        let of = is_of q j z m l (st.asks m told.2.1) acts in
        ((g.0, m, told.2.1, of.process, of.call, of.action), g.1)
