-- A history of a lawful program keeps what fits.
use Rattle.std.proofs.Common.{◌≡◌, ℕ, zero, suc, ◌+◌, ◌≤◌, ◌⊎◌, inl, inr, ⊎_elim, Option, Some, None, List, [], ◌∷◌, ◌++◌, length, refl, sym, ap, ◌∙◌, arith, subst}
use Rattle.std.specs.Prelude.{slice_get}
use Rattle.std.specs.List.{Contains}
use Rattle.std.proofs.lemmas.Bool.{cases_eq}
use Rattle.std.proofs.lemmas.List.{length-append}
use Rattle.std.proofs.lemmas.List.Elements.{Contains-append_cases}
use Rattle.orca_base.specs.declared.ids.KindNo.{KindNo}
use Rattle.orca_base.specs.declared.ids.OpNo.{OpNo}
use Rattle.orca_base.specs.declared.ids.TextNo.{TextNo}
use Rattle.orca_base.specs.declared.ids.ProcessNo.{ProcessNo}
use Rattle.orca_base.specs.declared.ids.ObjectId.{ObjectId}
use Rattle.value_core.specs.Datum.{Data}
use Rattle.value_core.specs.Datum as datum
use Rattle.value_core.specs.Fits.{ExtendsKinds, IfMade, KeepsState, Kinds, RepliesWell}
use Rattle.value_core.specs.Lawful.{FitsAction, IsKnownObject, IsLawfulDoing, KnowsIn, RepliesFit, made_by, own_objects, replied_fit}
use Rattle.value_core.specs.Lawful.IsKnownObject.{output, own, argument}
use Rattle.value_core.specs.declared.action.Instance.{Instance}
use Rattle.value_core.specs.declared.action.Line.{Line}
use Rattle.value_core.specs.declared.action.Action.{Action}
use Rattle.value_core.specs.declared.action.Action.TheVariants as action
use Rattle.value_core.specs.declared.action.Reply.{Reply}
use Rattle.value_core.specs.declared.action.Reply.TheVariants as answer
use Rattle.value_core.specs.declared.meaning.Making.{Making}
use Rattle.value_core.specs.declared.meaning.Making.TheVariants as making
use Rattle.value_core.specs.declared.meaning.Tried.{Tried}
use Rattle.value_core.specs.declared.meaning.Tried.TheVariants as tried
use Rattle.value_core.specs.declared.meaning.Doing.{Doing}
use Rattle.value_core.specs.declared.meaning.Doing.TheVariants as doing
use Rattle.value_core.specs.Meaning.{Performs, Computes}
use Rattle.value_core.specs.History.{Answers, Configuration, IsStep, LegalFrom, MakingAnswers, Objects, Performed, Process, after_call, after_line, after_lines, after_making, after_try, forked, object_at, objects_after, opening, output_kind, output_object, with_object}
use Rattle.guard_queue.specs.Fitting.{kind_at, kind_in, kinds_of}
use Rattle.guard_queue.proofs.KindsStay.{kinds_extend}
use Rattle.guard_queue.specs.Shown.{Rises}
use Rattle.book_law.specs.Fitness.{ArgsFit, StateFits}
use Rattle.book_law.proofs.Fits.{Fit, IsMade, Laws, ProcessFits, ReplyFits, TextFits}
use Rattle.book_law.specs.Events.{In}
use Rattle.book_law.proofs.Ordered.{ordered_with}
use Rattle.book_law.proofs.Processes.{after_cases, after_other, after_own, forked_fresh, with_reply}
use Rattle.book_law.proofs.Typed.{at_itself, at_with, kind_contained, kind_found, own-push}

some_kept : (o : Option Instance) (x y : Instance) → o ≡ Some x → o ≡ Some y → x ≡ y
some_kept o x y e f = let g : Some x ≡ Some y = sym e ∙ f in cc

-- an object whose type is known is there
pub has_kind : (o : Option Instance) (kind : KindNo) → kind_in o ≡ Some kind → (kept : Instance) × (o ≡ Some kept) × (kept.kind ≡ kind)
has_kind None kind e = absurd (cc e)
has_kind (Some kept) kind e = (kept, refl, let f : kept.kind ≡ kind = cc in f)

-- ---- the objects after an action

pub record Grown (fits_state : StateFits) (objects after : Objects) (added : Kinds) : Type 0 where
  pub order : Rises after
  pub extends : ExtendsKinds (kinds_of objects) (kinds_of after)
  pub stays : (o : ObjectId) (kind : KindNo) → kind_at objects o ≡ Some kind → kind_at after o ≡ Some kind
  pub states : (o : ObjectId) (kept : Instance) → object_at after o ≡ Some kept → fits_state (kinds_of after) kept.kind kept.state
  pub there : (o : ObjectId) (kind : KindNo) → Contains added (o, kind) → kind_at after o ≡ Some kind
  pub from : (o : ObjectId) (kept : Instance) → object_at after o ≡ Some kept → ((old : Instance) × (object_at objects o ≡ Some old)) ⊎ Contains added (o, kept.kind)

no_element : {A : Type 0} (x : A) → Contains [] x → ⊥
no_element x (at, lt, is) = absurd (omega arith)

grown_same : (fits_state : StateFits) (objects : Objects) → Rises objects → ((o : ObjectId) (kept : Instance) → object_at objects o ≡ Some kept → fits_state (kinds_of objects) kept.kind kept.state) → Grown fits_state objects objects []
grown_same fits_state objects order states = record {
  order = order;
  extends = λ entry h. h;
  stays = λ o kind h. h;
  states = states;
  there = λ o kind h. absurd (no_element (o, kind) h);
  from = λ o kept h. inl (kept, h);
}

grown_put : (fits_state : StateFits) (objects : Objects) (object : ObjectId) (v : Instance) (added : Kinds) → Rises objects
    → ((kinds more : Kinds) (kind : KindNo) (state : Data) → ExtendsKinds kinds more → fits_state kinds kind state → fits_state more kind state)
    → ((o : ObjectId) (kept : Instance) → object_at objects o ≡ Some kept → fits_state (kinds_of objects) kept.kind kept.state)
    → ((old : Instance) → object_at objects object ≡ Some old → v.kind ≡ old.kind) → fits_state (kinds_of objects) v.kind v.state
    → ((o : ObjectId) (kind : KindNo) → Contains added (o, kind) → (o ≡ object) × (kind ≡ v.kind))
    → ((old : Instance) × (object_at objects object ≡ Some old)) ⊎ Contains added (object, v.kind)
    → Grown fits_state objects (with_object objects object v) added
grown_put fits_state objects object v added order stay states same fits only new = record {
  order = ordered_with objects object v order;
  extends = extends;
  stays = λ o kind h. ⊎_elim
      (λ u. let k = has_kind (object_at objects o) kind h in ap kind_in u.1 ∙ ap (λ (x : KindNo). Some x) (same k.0 (ap (object_at objects) (sym u.0) ∙ k.1) ∙ k.2))
      (λ u. ap kind_in u ∙ h) (at_with objects object v o);
  states = λ o kept h. ⊎_elim
      (λ u. subst (λ (w : Instance). fits_state (kinds_of (with_object objects object v)) w.kind w.state) (some_kept (object_at (with_object objects object v) o) v kept u.1 h) (stay (kinds_of objects) (kinds_of (with_object objects object v)) v.kind v.state extends fits))
      (λ u. stay (kinds_of objects) (kinds_of (with_object objects object v)) kept.kind kept.state extends (states o kept (sym u ∙ h))) (at_with objects object v o);
  there = λ o kind h. let f = only o kind h in ap (λ (x : ObjectId). kind_at (with_object objects object v) x) f.0 ∙ ap kind_in (at_itself objects object v) ∙ ap (λ (x : KindNo). Some x) (sym f.1);
  from = λ o kept h. ⊎_elim
      (λ u. ⊎_elim (λ w. inl (w.0, ap (object_at objects) u.0 ∙ w.1))
      (λ w. inr (subst (λ (y : ObjectId × KindNo). Contains added y) (ap (λ (x : ObjectId). (x, v.kind)) (sym u.0) ∙ ap (λ (y : Instance). (o, y.kind)) (some_kept (object_at (with_object objects object v) o) v kept u.1 h)) w)) new)
      (λ u. inl (kept, sym u ∙ h)) (at_with objects object v o);
}
  where
    extends : ExtendsKinds (kinds_of objects) (kinds_of (with_object objects object v))
    extends = kinds_extend objects object v same

one_element : {A : Type 0} (x y : A) → Contains (x ∷ []) y → x ≡ y
one_element x y (zero, lt, is) = is
one_element x y (suc at, lt, is) = absurd (omega arith)

its_element : {A : Type 0} (x : A) → Contains (x ∷ []) x
its_element x = (0, omega arith, refl)

-- ---- an action of a process that fits

pub record Acted (p : Performs) (q : Computes) (fits_state : StateFits) (fits_text : TextFits) (fits_reply : ReplyFits) (c : Configuration) (number : ProcessNo) (x : Process) (a : Action) (reply : Reply) : Type 0 where
  pub grown : Grown fits_state c.objects (objects_after p c.objects a) (made_by (doing.At a) reply)
  pub replied : FitsAction fits_reply (doing.At a) reply
  pub numbers : (o : ObjectId) (kind : KindNo) → Contains (made_by (doing.At a) reply) (o, kind) → (o.process ≡ number.0) × (o.number ≡ length (own_objects q x.text number x.args x.replies) + 1)
  pub born : (y : Process) → In y (forked a) → fits_text (kinds_of (objects_after p c.objects a)) y.text y.args

-- what a process knows is there, by its type
pub known : (q : Computes) (fits_state : StateFits) (fits_text : TextFits) (fits_reply : ReplyFits) (c : Configuration) (number : ProcessNo) (x : Process) (object : ObjectId) (kind : KindNo) → Fit q fits_state fits_text fits_reply c → ProcessFits q fits_text fits_reply c.objects number x
    → IsKnownObject q (kinds_of c.objects) x.text number x.args x.replies object kind → kind_at c.objects object ≡ Some kind
known q fits_state fits_text fits_reply c number x object kind f g output = f.output
known q fits_state fits_text fits_reply c number x object kind f g (own o k h) = g.own o k h
known q fits_state fits_text fits_reply c number x object kind f g (argument o k is h) = kind_found c.objects o k f.order h

pub knows : (q : Computes) (fits_text : TextFits) (fits_reply : ReplyFits) (objects : Objects) (number : ProcessNo) (x : Process) → ProcessFits q fits_text fits_reply objects number x → KnowsIn q (kinds_of objects) x.text number x.args x.replies (kinds_of objects)
knows q fits_text fits_reply objects number x g = (λ entry h. h, λ entry h. kind_contained objects entry.0 entry.1 (g.own entry.0 entry.1 h))

-- an object that a process would make next isn't there
pub unmade : (q : Computes) (c : Configuration) (number : ProcessNo) (x : Process) (object : ObjectId) → ((o : ObjectId) (kept : Instance) → object_at c.objects o ≡ Some kept → IsMade q c o) → slice_get c.processes number.0 ≡ Some x
    → object.process ≡ number.0 → object.number ≡ length (own_objects q x.text number x.args x.replies) + 1 → object_at c.objects object ≡ None
unmade q c number x object made here by is = go (object_at c.objects object) refl
  where
    absent : IsMade q c object → ⊥
    absent (inl z) = let number = ap (λ (y : ObjectId). y.number) z in absurd (omega (arith, number, is))
    absent (inr m) =
        let e : Some m.0 ≡ Some x = sym m.1 ∙ ap (slice_get c.processes) by ∙ here in
        let f : m.0 ≡ x = cc in
        let g : length (own_objects q m.0.text (record { 0 = object.process }) m.0.args m.0.replies) ≡ length (own_objects q x.text number x.args x.replies) =
        ap (λ (y : Process). length (own_objects q y.text (record { 0 = object.process }) y.args y.replies)) f ∙ ap (λ (n : ℕ). length (own_objects q x.text (record { 0 = n }) x.args x.replies)) by in
        let h = m.2 in
        absurd (omega (arith, g, h, is))

    go : (o : Option Instance) → object_at c.objects object ≡ o → object_at c.objects object ≡ None
    go None e = e
    go (Some kept) e = absurd (absent (made object kept e))

making_acts : (p : Performs) (q : Computes) (fits_state : StateFits) (fits_args : ArgsFit) (fits_text : TextFits) (fits_reply : ReplyFits) (c : Configuration) (number : ProcessNo) (x : Process) (kind : KindNo) (object : ObjectId) (m : Making) (reply : Reply) → p.made kind ≡ m
    → Laws p q fits_state fits_args fits_text fits_reply → Fit q fits_state fits_text fits_reply c → slice_get c.processes number.0 ≡ Some x → object.process ≡ number.0 → object.number ≡ length (own_objects q x.text number x.args x.replies) + 1 → MakingAnswers m reply
    → Grown fits_state c.objects (after_making c.objects kind object m) (made_by (doing.At (action.Make kind object)) reply) × FitsAction fits_reply (doing.At (action.Make kind object)) reply
    × ((o : ObjectId) (k : KindNo) → Contains (made_by (doing.At (action.Make kind object)) reply) (o, k) → (o.process ≡ number.0) × (o.number ≡ length (own_objects q x.text number x.args x.replies) + 1))
making_acts p q fits_state fits_args fits_text fits_reply c number x kind object (making.Made state) answer.Done m laws f here by is e =
    let none = unmade q c number x object f.made here by is in (
      grown_put fits_state c.objects object (record { kind = kind; state = state }) ((object, kind) ∷ []) f.order laws.state_stays_fit f.states
          (λ old h. absurd (let g : None ≡ Some old = sym none ∙ h in cc g))
          (subst (λ (n : Making). IfMade n (fits_state (kinds_of c.objects) kind)) m (laws.made_fits (kinds_of c.objects) kind))
          (λ o k h. let g = one_element (object, kind) (o, k) h in (ap (λ (y : ObjectId × KindNo). y.0) (sym g), ap (λ (y : ObjectId × KindNo). y.1) (sym g)))
          (inr (its_element (object, kind))),
      tt,
      λ o k h. let g = one_element (object, kind) (o, k) h in let u : object ≡ o = ap (λ (y : ObjectId × KindNo). y.0) g in (ap (λ (y : ObjectId). y.process) (sym u) ∙ by, ap (λ (y : ObjectId). y.number) (sym u) ∙ is),
    )
making_acts p q fits_state fits_args fits_text fits_reply c number x kind object (making.Made state) (answer.Gave value) m laws f here by is e = absurd (cc e)
making_acts p q fits_state fits_args fits_text fits_reply c number x kind object (making.Made state) (answer.Broke fault) m laws f here by is e = absurd (cc e)
making_acts p q fits_state fits_args fits_text fits_reply c number x kind object (making.Broke fault) answer.Done m laws f here by is e = absurd (cc e)
making_acts p q fits_state fits_args fits_text fits_reply c number x kind object (making.Broke fault) (answer.Gave value) m laws f here by is e = absurd (cc e)
making_acts p q fits_state fits_args fits_text fits_reply c number x kind object (making.Broke fault) (answer.Broke other) m laws f here by is e =
    (grown_same fits_state c.objects f.order f.states, tt, λ o k h. absurd (no_element (o, k) h))

-- what a try of a fitting call answers fits, and leaves
call_replied : (fits_reply : ReplyFits) (kind : KindNo) (op : OpNo) (t : Tried) (guard : ℕ) (reply : Reply) → RepliesWell t (fits_reply kind op) → Answers t guard reply → fits_reply kind op reply
call_replied fits_reply kind op tried.Blocked guard reply well e = absurd e
call_replied fits_reply kind op (tried.Did g state r) guard reply well e = subst (fits_reply kind op) (sym e.1) well
call_replied fits_reply kind op (tried.Broke g fault) guard reply well e = subst (fits_reply kind op) (sym e.1) well

call_grown : (fits_state : StateFits) (objects : Objects) (object : ObjectId) (kept : Instance) (t : Tried) → Rises objects
    → ((kinds more : Kinds) (kind : KindNo) (state : Data) → ExtendsKinds kinds more → fits_state kinds kind state → fits_state more kind state)
    → ((o : ObjectId) (kept : Instance) → object_at objects o ≡ Some kept → fits_state (kinds_of objects) kept.kind kept.state)
    → object_at objects object ≡ Some kept → KeepsState t (fits_state (kinds_of objects) kept.kind) → Grown fits_state objects (after_try objects object kept t) []
call_grown fits_state objects object kept tried.Blocked order stay states is keeps = grown_same fits_state objects order states
call_grown fits_state objects object kept (tried.Did guard state reply) order stay states is keeps =
    grown_put fits_state objects object (record { kind = kept.kind; state = state }) [] order stay states (λ old h. ap (λ (k : Instance). k.kind) (some_kept (object_at objects object) kept old is h)) keeps (λ o k h. absurd (no_element (o, k) h)) (inl (kept, is))
call_grown fits_state objects object kept (tried.Broke guard fault) order stay states is keeps = grown_same fits_state objects order states

-- a process that fits acts lawfully
pub acts : (p : Performs) (q : Computes) (fits_state : StateFits) (fits_args : ArgsFit) (fits_text : TextFits) (fits_reply : ReplyFits) (c : Configuration) (number : ProcessNo) (x : Process) (a : Action) (guard : ℕ) (reply : Reply) → Laws p q fits_state fits_args fits_text fits_reply
    → Fit q fits_state fits_text fits_reply c → slice_get c.processes number.0 ≡ Some x → IsLawfulDoing q fits_args fits_text (kinds_of c.objects) x.text number x.args x.replies (doing.At a) → Performed p c.objects a guard reply
    → Acted p q fits_state fits_text fits_reply c number x a reply
acts p q fits_state fits_args fits_text fits_reply c number x (action.Make kind object) guard reply laws f here lawful done =
    let m = making_acts p q fits_state fits_args fits_text fits_reply c number x kind object (p.made kind) reply refl laws f here lawful.0 lawful.1 done.1 in
    record { grown = m.0; replied = m.1; numbers = m.2; born = λ y h. absurd h }
acts p q fits_state fits_args fits_text fits_reply c number x (action.Call kind op object args) guard reply laws f here lawful done =
    let g = f.processes number x here in
    let there = known q fits_state fits_text fits_reply c number x object kind f g lawful.0 in
    let kept = done.0 in
    let of_kind : kept.kind ≡ kind = (let k = has_kind (object_at c.objects object) kind there in ap (λ (y : Instance). y.kind) (some_kept (object_at c.objects object) kept k.0 done.1 k.1) ∙ k.2) in
    let state : fits_state (kinds_of c.objects) kind kept.state = subst (λ (k : KindNo). fits_state (kinds_of c.objects) k kept.state) of_kind (f.states object kept done.1) in
    let given = lawful.1 (kinds_of c.objects) (knows q fits_text fits_reply c.objects number x g) in
    record {
      grown = subst (λ (o : Option Instance). Grown fits_state c.objects (after_call p c.objects kind op object args o) []) (sym done.1)
          (call_grown fits_state c.objects object kept (p.tries kind op kept.state args) f.order laws.state_stays_fit f.states done.1
          (subst (λ (k : KindNo). KeepsState (p.tries kind op kept.state args) (fits_state (kinds_of c.objects) k)) (sym of_kind) (laws.keeps_fit (kinds_of c.objects) kind op kept.state args state given)));
      replied = call_replied fits_reply kind op (p.tries kind op kept.state args) guard reply (laws.replies_fit (kinds_of c.objects) kind op kept.state args state given) done.2;
      numbers = λ o k h. absurd (no_element (o, k) h);
      born = λ y h. absurd h;
    }
acts p q fits_state fits_args fits_text fits_reply c number x (action.Fork text args place_on) guard reply laws f here lawful done =
    let g = f.processes number x here in
    record {
      grown = grown_same fits_state c.objects f.order f.states;
      replied = done.1;
      numbers = λ o k h. absurd (no_element (o, k) h);
      born = λ y h. ⊎_elim (λ e. subst (λ (z : Process). fits_text (kinds_of c.objects) z.text z.args) (sym e) (lawful.1 (kinds_of c.objects) (knows q fits_text fits_reply c.objects number x g))) (λ u. absurd u) h;
    }
acts p q fits_state fits_args fits_text fits_reply c number x action.Ended guard reply laws f here lawful done = absurd done
acts p q fits_state fits_args fits_text fits_reply c number x (action.Faulted fault) guard reply laws f here lawful done = absurd done

-- ---- a line

carried : (q : Computes) (fits_state : StateFits) (fits_text : TextFits) (fits_reply : ReplyFits) (objects after : Objects) (added : Kinds) (number : ProcessNo) (x : Process)
    → ((kinds more : Kinds) (text : TextNo) (args : Data) → ExtendsKinds kinds more → fits_text kinds text args → fits_text more text args)
    → Grown fits_state objects after added → ProcessFits q fits_text fits_reply objects number x → ProcessFits q fits_text fits_reply after number x
carried q fits_state fits_text fits_reply objects after added number x stay g h = record {
  text = stay (kinds_of objects) (kinds_of after) x.text x.args g.extends h.text;
  replies = h.replies;
  own = λ o kind u. g.stays o kind (h.own o kind u);
}

made_at : (q : Computes) (c : Configuration) (k : ℕ) (x : Process) (o : ObjectId) → k ≡ o.process → slice_get c.processes k ≡ Some x → o.number ≤ length (own_objects q x.text (record { 0 = k }) x.args x.replies) → IsMade q c o
made_at q c k x o e is le = inr (x, ap (slice_get c.processes) (sym e) ∙ is, subst (λ (n : ℕ). o.number ≤ length (own_objects q x.text (record { 0 = n }) x.args x.replies)) e le)

pub step_fits : (p : Performs) (q : Computes) (fits_state : StateFits) (fits_args : ArgsFit) (fits_text : TextFits) (fits_reply : ReplyFits) (c : Configuration) (line : Line) → Laws p q fits_state fits_args fits_text fits_reply
    → Fit q fits_state fits_text fits_reply c → IsStep p q c line → Fit q fits_state fits_text fits_reply (after_line p c line)
step_fits p q fits_state fits_args fits_text fits_reply c line laws f s = record {
  order = a.grown.order;
  output = a.grown.stays output_object output_kind f.output;
  states = a.grown.states;
  made = λ o kept h. ⊎_elim (λ u. old o (f.made o u.0 u.1)) (λ u. new o kept.kind u) (a.grown.from o kept h);
  processes = λ n y h. ⊎_elim (λ u. its n y u.0 u.1)
      (λ v. ⊎_elim (λ u. carried q fits_state fits_text fits_reply c.objects after added n y laws.text_stays_fit a.grown (f.processes n y u.1)) (λ u. forks n y u) v)
      (after_cases p c line n.0 s.process y s.exists h);
}
  where
    x : Process
    x = s.process

    fits : ProcessFits q fits_text fits_reply c.objects line.process s.process
    fits = f.processes line.process s.process s.exists

    lawful : IsLawfulDoing q fits_args fits_text (kinds_of c.objects) s.process.text line.process s.process.args s.process.replies (doing.At line.action)
    lawful = subst (λ (d : Doing). IsLawfulDoing q fits_args fits_text (kinds_of c.objects) s.process.text line.process s.process.args s.process.replies d) s.next
        (laws.lawful (kinds_of c.objects) s.process.text line.process s.process.args s.process.replies fits.text fits.replies)

    a : Acted p q fits_state fits_text fits_reply c line.process s.process line.action line.reply
    a = acts p q fits_state fits_args fits_text fits_reply c line.process s.process line.action line.guard line.reply laws f s.exists lawful s.performed

    after : Objects
    after = objects_after p c.objects line.action

    added : Kinds
    added = made_by (doing.At line.action) line.reply

    had : Kinds
    had = own_objects q s.process.text line.process s.process.args s.process.replies

    grew : own_objects q s.process.text line.process s.process.args (s.process.replies ++ line.reply ∷ []) ≡ had ++ added
    grew = own-push q s.process.text line.process s.process.args [] s.process.replies line.reply ∙ ap (λ (d : Doing). had ++ made_by d line.reply) s.next

    long : length (own_objects q s.process.text line.process s.process.args (s.process.replies ++ line.reply ∷ [])) ≡ length had + length added
    long = ap (λ (ks : Kinds). length ks) grew ∙ length-append had added

    -- the line's process
    mine : ProcessFits q fits_text fits_reply after line.process (with_reply s.process line.reply)
    mine = record {
      text = laws.text_stays_fit (kinds_of c.objects) (kinds_of after) s.process.text s.process.args a.grown.extends fits.text;
      replies = replied_fit q fits_reply s.process.text line.process s.process.args s.process.replies line.reply fits.replies (subst (λ (d : Doing). FitsAction fits_reply d line.reply) (sym s.next) a.replied);
      own = λ o kind h. ⊎_elim (λ u. a.grown.stays o kind (fits.own o kind u)) (λ u. a.grown.there o kind u) (Contains-append_cases had added (o, kind) (subst (λ (ks : Kinds). Contains ks (o, kind)) grew h));
    }

    its : (n : ProcessNo) (y : Process) → line.process.0 ≡ n.0 → y ≡ with_reply s.process line.reply → ProcessFits q fits_text fits_reply after n y
    its n y e is =
        subst (λ (z : Process). ProcessFits q fits_text fits_reply after n z) (sym is) (subst (λ (k : ℕ). ProcessFits q fits_text fits_reply after (record { 0 = k }) (with_reply s.process line.reply)) e mine)

    -- a new one
    forks : (n : ProcessNo) (y : Process) → In y (forked line.action) → ProcessFits q fits_text fits_reply after n y
    forks n y h =
        let none = forked_fresh line.action y h in
        record {
          text = a.born y h;
          replies = subst (λ (rs : List Reply). RepliesFit q fits_reply y.text n y.args rs) (sym none) tt;
          own = λ o kind u. absurd (no_element (o, kind) (subst (λ (rs : List Reply). Contains (own_objects q y.text n y.args rs) (o, kind)) none u));
        }

    -- who made an object
    old : (o : ObjectId) → IsMade q c o → IsMade q (after_line p c line) o
    old o (inl z) = inl z
    old o (inr m) = ⊎_elim
        (λ (e : line.process.0 ≡ o.process).
        let g : Some m.0 ≡ Some s.process = sym m.1 ∙ ap (slice_get c.processes) (sym e) ∙ s.exists in
        let h : m.0 ≡ s.process = cc in
        let n = m.2 in
        let i : length (own_objects q m.0.text (record { 0 = o.process }) m.0.args m.0.replies) ≡ length had =
        ap (λ (y : Process). length (own_objects q y.text (record { 0 = o.process }) y.args y.replies)) h ∙ ap (λ (k : ℕ). length (own_objects q s.process.text (record { 0 = k }) s.process.args s.process.replies)) (sym e) in
        made_at q (after_line p c line) line.process.0 (with_reply s.process line.reply) o e (after_own p c line s.process s.exists) (omega (arith, n, i, long)))
        (λ apart. inr (m.0, after_other p c line o.process m.0 apart m.1, m.2))
        (cases_eq line.process.0 o.process)

    new : (o : ObjectId) (kind : KindNo) → Contains added (o, kind) → IsMade q (after_line p c line) o
    new o kind h =
        let n = a.numbers o kind h in
        let some = h.1 in
        let is : o.number ≡ length had + 1 = n.1 in
        made_at q (after_line p c line) line.process.0 (with_reply s.process line.reply) o (sym n.0) (after_own p c line s.process s.exists) (omega (arith, is, some, long))

-- a history
pub history_fits : (p : Performs) (q : Computes) (fits_state : StateFits) (fits_args : ArgsFit) (fits_text : TextFits) (fits_reply : ReplyFits) (c : Configuration) (lines : List Line) → Laws p q fits_state fits_args fits_text fits_reply
    → LegalFrom p q c lines → Fit q fits_state fits_text fits_reply c → Fit q fits_state fits_text fits_reply (after_lines p c lines)
history_fits p q fits_state fits_args fits_text fits_reply c [] laws legal f = f
history_fits p q fits_state fits_args fits_text fits_reply c (l ∷ lines) laws legal f =
    history_fits p q fits_state fits_args fits_text fits_reply (after_line p c l) lines laws legal.1 (step_fits p q fits_state fits_args fits_text fits_reply c l laws f legal.0)

-- the opening
pub opening_fits : (p : Performs) (q : Computes) (fits_state : StateFits) (fits_args : ArgsFit) (fits_text : TextFits) (fits_reply : ReplyFits) → Laws p q fits_state fits_args fits_text fits_reply → Fit q fits_state fits_text fits_reply (opening q)
opening_fits p q fits_state fits_args fits_text fits_reply laws = record {
  order = tt;
  output = refl;
  states = λ o kept h. first o kept (at_with [] output_object (record { kind = output_kind; state = datum.none }) o) h;
  made = λ o kept h. made o kept (at_with [] output_object (record { kind = output_kind; state = datum.none }) o) h;
  processes = λ n x h. process n x n.0 refl h;
}
  where
    begin : Objects
    begin = (output_object, record { kind = output_kind; state = datum.none }) ∷ []

    first : (o : ObjectId) (kept : Instance) → ((o ≡ output_object) × (object_at begin o ≡ Some (record { kind = output_kind; state = datum.none }))) ⊎ (object_at begin o ≡ None) → object_at begin o ≡ Some kept → fits_state (kinds_of begin) kept.kind kept.state
    first o kept (inl u) h = subst (λ (k : Instance). fits_state (kinds_of begin) k.kind k.state) (some_kept (object_at begin o) (record { kind = output_kind; state = datum.none }) kept u.1 h) (laws.output_fits (kinds_of begin))
    first o kept (inr u) h = absurd (let g : None ≡ Some kept = sym u ∙ h in cc g)

    made : (o : ObjectId) (kept : Instance) → ((o ≡ output_object) × (object_at begin o ≡ Some (record { kind = output_kind; state = datum.none }))) ⊎ (object_at begin o ≡ None) → object_at begin o ≡ Some kept → IsMade q (opening q) o
    made o kept (inl u) h = inl u.0
    made o kept (inr u) h = absurd (let g : None ≡ Some kept = sym u ∙ h in cc g)

    process : (n : ProcessNo) (x : Process) (k : ℕ) → n.0 ≡ k → slice_get (opening q).processes k ≡ Some x → ProcessFits q fits_text fits_reply begin n x
    process n x zero e h =
        let g : record { text = q.main; args = datum.none; replies = [] } ≡ x = cc in
        subst (λ (y : Process). ProcessFits q fits_text fits_reply begin n y) g (record { text = laws.main_fits (kinds_of begin); replies = tt; own = λ o kind u. absurd (no_element (o, kind) u) })
    process n x (suc k) e h = absurd (cc h)
