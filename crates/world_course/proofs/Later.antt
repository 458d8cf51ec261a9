-- An Ask or Answer that stands for a course stands for each course that comes from it.
use Rattle.std.proofs.Common.{◌≡◌, ◌<◌, ◌==◌, ℕ, suc, ◌⊎◌, inl, inr, ⊎_elim, Bool, true, false, List, [], ◌∷◌, ◌++◌, Option, Some, None, refl, sym, ap, ◌∙◌, subst, arith, length, if◌then◌else◌}
use Rattle.std.proofs.lemmas.Bool.{cases_eq}
use Rattle.std.specs.Prelude.{option_map, slice_get}
use Rattle.value_core.specs.declared.action.Line.{Line}
use Rattle.value_core.specs.declared.message.Message.{Message}
use Rattle.value_core.specs.Meaning.{Performs, Computes}
use Rattle.object_manager.specs.After.{opening_copies}
use Rattle.book_law.specs.Passes.{Test, after_all, lines_after}
use Rattle.book_law.specs.Book.{copies_at}
use Rattle.book_law.specs.declared.placing.Placed.{Placed}
use Rattle.book_law.specs.Course.{Came, Course, Next, applying, forking, hearing, ordered, reading, submitted, taking, with_at}
use Rattle.book_law.specs.Course.Next.{Submits, Orders, Forks, Applies, Reads_at, Takes_call, Hears_answer}
use Rattle.book_law.specs.Course.Came.{Then}
use Rattle.book_law.specs.Events.{Asks, In, Runner, answering, asking, handed, lines_by, newborn, told, took}
use Rattle.book_law.specs.Performed.{placed}
use Rattle.book_law.specs.Singles.{lines_on}
use Rattle.book_law.proofs.Courses.{at_other, at_own, came_sound, one_of}
use Rattle.book_law.proofs.Processes.{get_left}
use Rattle.book_law.proofs.Running.{asked_stands}
use Rattle.world_rules.specs.Frame.{Frame}
use Rattle.world_rules.specs.Mail.{Errand}
use Rattle.world_rules.specs.Mail.Errand.{Ask, Answer}
use Rattle.world_rules.specs.Processes.{Begun, begun_by, home_in, processes_in}
use Rattle.world_course.specs.Chain.{Leads}
use Rattle.world_course.specs.Chain.Leads.{Stays, By}
use Rattle.world_course.specs.Corresponds.{IsOf}
use Rattle.world_course.specs.Errands.{ErrandStands}
use Rattle.world_course.proofs.Listing.{processes_push}

-- what was asked and performed stays, a process stays at its home, and who has an old message out had it out, at the same place
pub record Later (f : Frame) (c d : Course) : Type 0 where
  pub homes : (m j : ℕ) → IsOf f c m j → IsOf f d m j
  pub asked : (x : Message) → In x c.asked → In x d.asked
  pub aside : (r : Placed) → In r c.aside → In r d.aside
  pub out : (x : Message) (r : Runner) → In x c.asked → d.runners x.process.0 ≡ Some r → r.message ≡ Some x →
      (s : Runner) × (c.runners x.process.0 ≡ Some s) × (s.message ≡ Some x) × (r.place ≡ s.place)

pub later_self : (f : Frame) (c : Course) → Later f c c
later_self f c = record { homes = λ m j o. o; asked = λ x h. h; aside = λ r h. h; out = λ x r was here has. (r, here, has, refl) }

pub later_on : (f : Frame) (c d e : Course) → Later f c d → Later f d e → Later f c e
later_on f c d e one two = record {
  homes = λ m j o. two.homes m j (one.homes m j o);
  asked = λ x h. two.asked x (one.asked x h);
  aside = λ r h. two.aside r (one.aside r h);
  out = λ x r was here has.
      let u = two.out x r (one.asked x was) here has in
      let v = one.out x u.0 was u.1 u.2 in
      (v.0, v.1, v.2, u.3 ∙ v.3);
}

in_front : {A : Type 0} (x : A) (xs ys : List A) → In x xs → In x (xs ++ ys)
in_front x [] ys h = absurd h
in_front x (y ∷ xs) ys (inl e) = inl e
in_front x (y ∷ xs) ys (inr h) = inr (in_front x xs ys h)

-- a process stays at its home where the list grows
homes_grow : (f : Frame) (c d : Course) (x : Message) → d.list ≡ c.list ++ x ∷ [] → (m j : ℕ) → IsOf f c m j → IsOf f d m j
homes_grow f c d x list m j o = record {
  begun = o.begun;
  there = ap (λ (l : List Message). slice_get (processes_in f l) j) list ∙ ap (λ (ps : List Begun). slice_get ps j) (processes_push f c.list x)
      ∙ get_left (processes_in f c.list) (begun_by f.settings.nodes (home_in (processes_in f c.list) x.process.0) (suc (length c.list)) x.action) j o.begun o.there;
  home = o.home;
}

homes_same : (f : Frame) (c d : Course) → d.list ≡ c.list → (m j : ℕ) → IsOf f c m j → IsOf f d m j
homes_same f c d list m j o = record { begun = o.begun; there = ap (λ (l : List Message). slice_get (processes_in f l) j) list ∙ o.there; home = o.home }

none_out : (r : Runner) (x : Message) → r.message ≡ None → r.message ≡ Some x → ⊥
none_out r x none some = let e : None ≡ Some x = sym none ∙ some in absurd (cc e)

-- process k becomes this runner, which has no message out that was asked
one_out : (c : Course) (runners : ℕ → Option Runner) (k : ℕ) (y : Runner) (x : Message) (r : Runner) → ((n : ℕ) → (n ≡ k → ⊥) → runners n ≡ c.runners n) → runners k ≡ Some y → (x.process.0 ≡ k → y.message ≡ Some x → ⊥)
    → runners x.process.0 ≡ Some r → r.message ≡ Some x → (s : Runner) × (c.runners x.process.0 ≡ Some s) × (s.message ≡ Some x) × (r.place ≡ s.place)
one_out c runners k y x r others at never here has = go (cases_eq x.process.0 k)
  where
    go : (x.process.0 ≡ k) ⊎ (x.process.0 ≡ k → ⊥) → (s : Runner) × (c.runners x.process.0 ≡ Some s) × (s.message ≡ Some x) × (r.place ≡ s.place)
    go (inl e) = absurd (never e (ap (λ (z : Runner). z.message) (one_of (runners k) y r at (ap runners (sym e) ∙ here)) ∙ has))
    go (inr apart) = (r, sym (others x.process.0 apart) ∙ here, has, refl)

-- a message that was submitted before isn't the next one of a process without a message
pub submitted_new : (single : Test) (p : Performs) (q : Computes) (c : Course) (j : ℕ) (y : Runner) (m x : Message) → Came single p q c → c.runners j ≡ Some y → y.message ≡ None → Asks q j y m → In x c.asked → m ≡ x → ⊥
submitted_new single p q c j y m x came here free asks was same = ⊎_elim entered out (asked_stands single p q c came x was)
  where
    at : x.process.0 ≡ j
    at = ap (λ (z : Message). z.process.0) (sym same) ∙ asks.process

    entered : In x c.entered → ⊥
    entered is =
        let s = came_sound single p q c came in
        let k = s.kept in
        let u = k.stands j y here in
        ⊎_elim
        (λ (lt : x.call.0 < length y.replies). let e : m.call.0 ≡ length y.replies = asks.call in let g : m.call.0 ≡ x.call.0 = ap (λ (z : Message). z.call.0) same in omega (arith, lt, e, g))
        (λ (out : y.message ≡ Some x). none_out y x free out)
        (u.earlier x is at)

    out : ((r : Runner) × (c.runners x.process.0 ≡ Some r) × (r.message ≡ Some x)) → ⊥
    out (r, is, has) = none_out y x free (ap (λ (z : Runner). z.message) (one_of (c.runners j) y r here (ap c.runners (sym at) ∙ is)) ∙ has)

-- each event leaves a later course
pub next_later : (f : Frame) (single : Test) (c d : Course) → Came single f.performs f.computes c → Next single f.performs f.computes c d → Later f c d
next_later f single c d came (Submits j y m here free asks is) = subst (Later f c) (sym is) (record {
  homes = homes_same f c (submitted c j y m) refl;
  asked = λ x h. inr h;
  aside = λ r h. h;
  out = λ x r was at has. one_out c (with_at c.runners j (Some (asking m y))) j (asking m y) x r (λ n apart. at_other c.runners j (Some (asking m y)) n apart) (at_own c.runners j (Some (asking m y)))
      (λ e out. let g : Some m ≡ Some x = out in let h : m ≡ x = cc in submitted_new single f.performs f.computes c j y m x came here free asks was h) at has;
})
next_later f single c d came (Orders x r here was new may plain is) = subst (Later f c) (sym is) (record {
  homes = homes_grow f c (ordered single f.performs c x r.member) x refl;
  asked = λ y h. h;
  aside = λ y h. h;
  out = λ y s among at has. (s, at, has, refl);
})
next_later f single c d came (Forks x born member was new forks is) = subst (Later f c) (sym is) (record {
  homes = homes_grow f c (forking single f.performs c x born member) x refl;
  asked = λ y h. h;
  aside = λ y h. h;
  out = λ y r among at has. one_out c (forking single f.performs c x born member).runners count fresh y r (λ n apart. at_other c.runners count (Some fresh) n apart) (at_own c.runners count (Some fresh)) (λ e out. none_out fresh y refl out) at has;
})
  where
    count : ℕ
    count = (after_all single f.performs opening_copies c.list).processes

    fresh : Runner
    fresh = newborn member born.text born.args (suc (length c.list))
next_later f single c d came (Applies m y here is) = subst (Later f c) (sym is) (record {
  homes = homes_same f c (applying single f.performs c m y) refl;
  asked = λ x h. h;
  aside = λ r h. h;
  out = λ x r was at has. by x r (c.runners x.process.0) refl at has;
})
  where
    lines : List Line
    lines = lines_after single f.performs (copies_at single f.performs c.list (c.applied m)) y

    kept : (x : Message) (r s : Runner) (b : Bool) (ls : List Line) → Some (if b then took (suc (c.applied m)) ls s else s) ≡ Some r → r.message ≡ Some x → (s.message ≡ Some x) × (r.place ≡ s.place)
    kept x r s false ls e has = let g : s ≡ r = cc in (ap (λ (z : Runner). z.message) g ∙ has, ap (λ (z : Runner). z.place) (sym g))
    kept x r s true [] e has = let g : s ≡ r = cc in (ap (λ (z : Runner). z.message) g ∙ has, ap (λ (z : Runner). z.place) (sym g))
    kept x r s true (l ∷ ls) e has = let g : told (suc (c.applied m)) l s ≡ r = cc in absurd (none_out r x (ap (λ (z : Runner). z.message) (sym g)) has)

    by : (x : Message) (r : Runner) (o : Option Runner) → c.runners x.process.0 ≡ o → option_map (handed m (suc (c.applied m)) lines x.process.0) (c.runners x.process.0) ≡ Some r → r.message ≡ Some x
        → (s : Runner) × (c.runners x.process.0 ≡ Some s) × (s.message ≡ Some x) × (r.place ≡ s.place)
    by x r None at now has = let e : None ≡ Some r = sym (ap (option_map (handed m (suc (c.applied m)) lines x.process.0)) at) ∙ now in absurd (cc e)
    by x r (Some s) at now has =
        let k = kept x r s (s.member == m) (lines_by x.process.0 lines) (sym (ap (option_map (handed m (suc (c.applied m)) lines x.process.0)) at) ∙ now) has in
        (s, at, k.0, k.1)
next_later f single c d came (Reads_at j y n line here reads is) = subst (Later f c) (sym is) (record {
  homes = homes_same f c (reading c j y n line) refl;
  asked = λ x h. h;
  aside = λ r h. in_front r c.aside (record { place = n; line = line } ∷ []) h;
  out = λ x r was at has. one_out c (with_at c.runners j (Some (told n line y))) j (told n line y) x r (λ k apart. at_other c.runners j (Some (told n line y)) k apart) (at_own c.runners j (Some (told n line y))) (λ e out. none_out (told n line y) x refl out) at has;
})
next_later f single c d came (Takes_call i y r call takes is) = subst (Later f c) (sym is) (record {
  homes = homes_same f c (taking f.performs c i y call) refl;
  asked = λ x h. h;
  aside = λ z h. in_front z c.aside (placed (c.applied y.owner) lines) h;
  out = λ x z was at has. by x z (c.runners x.process.0) refl at has;
})
  where
    lines : List Line
    lines = lines_on f.performs y call

    kept : (x : Message) (z s : Runner) (ls : List Line) → Some (answering (c.applied y.owner) ls s) ≡ Some z → z.message ≡ Some x → (s.message ≡ Some x) × (z.place ≡ s.place)
    kept x z s [] e has = let g : s ≡ z = cc in (ap (λ (k : Runner). k.message) g ∙ has, ap (λ (k : Runner). k.place) (sym g))
    kept x z s (l ∷ ls) e has = let g : answering (c.applied y.owner) (l ∷ ls) s ≡ z = cc in (ap (λ (k : Runner). k.message) g ∙ has, ap (λ (k : Runner). k.place) (sym g))

    by : (x : Message) (z : Runner) (o : Option Runner) → c.runners x.process.0 ≡ o → option_map (answering (c.applied y.owner) (lines_by x.process.0 lines)) (c.runners x.process.0) ≡ Some z → z.message ≡ Some x
        → (s : Runner) × (c.runners x.process.0 ≡ Some s) × (s.message ≡ Some x) × (z.place ≡ s.place)
    by x z None at now has = let e : None ≡ Some z = sym (ap (option_map (answering (c.applied y.owner) (lines_by x.process.0 lines))) at) ∙ now in absurd (cc e)
    by x z (Some s) at now has =
        let k = kept x z s (lines_by x.process.0 lines) (sym (ap (option_map (answering (c.applied y.owner) (lines_by x.process.0 lines))) at) ∙ now) has in
        (s, at, k.0, k.1)
next_later f single c d came (Hears_answer j y r here has_answer reached is) = subst (Later f c) (sym is) (record {
  homes = homes_same f c (hearing c j y r) refl;
  asked = λ x h. h;
  aside = λ z h. h;
  out = λ x z was at has. one_out c (with_at c.runners j (Some (told r.place r.line y))) j (told r.place r.line y) x z (λ k apart. at_other c.runners j (Some (told r.place r.line y)) k apart) (at_own c.runners j (Some (told r.place r.line y))) (λ e out. none_out (told r.place r.line y) x refl out) at has;
})

pub leads_later : (f : Frame) (single : Test) (c d : Course) → Came single f.performs f.computes c → Leads single f.performs f.computes c d → Later f c d
leads_later f single c d came (Stays w) = later_self f c
leads_later f single c d came (By w u v next rest) = later_on f c u d (next_later f single c u came next) (leads_later f single u d (Then c u came next) rest)

-- so each errand goes on standing
pub errand_later : (f : Frame) (single : Test) (c d : Course) (m : ℕ) (e : Errand) → Later f c d → ErrandStands f single c m e → ErrandStands f single d m e
errand_later f single c d m (Ask place x) l a = record {
  call = a.call;
  is = a.is;
  among = l.asked x a.among;
  alone = a.alone;
  owner = l.homes m a.call.object.process a.owner;
  elsewhere = let e = a.elsewhere in record { home = e.home; of = l.homes e.home x.process.0 e.of; other = e.other };
  covers = λ r here has. let u = l.out x r a.among here has in let le = a.covers u.0 u.1 u.2 in let e = u.3 in omega (arith, le, e);
}
errand_later f single c d m (Answer place i call reply) l a = record { line = a.line; there = l.aside a.line a.there; place = a.place; process = a.process; call = a.call; reply = a.reply }
