-- A member applies its next entry, and its processes receive what the entry has for them: what is kept stays kept.
use Rattle.std.proofs.Common.{inl, inr, ◌⊎◌, ◌+◌, ◌≡◌, ℕ, suc, ◌≤◌, ◌<◌, ◌==◌, ⊎_elim, Bool, true, false, Option, Some, None, List, [], ◌∷◌, ◌++◌, length, refl, sym, ap, ◌∙◌, arith, subst, append-nil, if◌then◌else◌}
use Rattle.std.specs.Prelude.{slice_get, option_map}
use Rattle.std.proofs.lemmas.Bool.{cases_eq, cases_lt, eqb-true, eqb-false, ne_eqb}
use Rattle.std.proofs.lemmas.List.{length_push}
use Rattle.std.proofs.lemmas.Option.{slice_get_within}
use Rattle.value_core.specs.declared.action.Line.{Line}
use Rattle.value_core.specs.declared.message.Message.{Message}
use Rattle.value_core.specs.declared.action.Reply.{Reply}
use Rattle.value_core.specs.Meaning.{Performs, Computes}
use Rattle.object_manager.specs.After.{opening_copies}
use Rattle.guard_queue.specs.declared.queue.Suspended.{Suspended}
use Rattle.book_law.specs.Passes.{Test, after_all, lines_after}
use Rattle.book_law.specs.Book.{Placed, behind, copies_at}
use Rattle.book_law.specs.Singles.{Single, waiting, waits}
use Rattle.book_law.specs.Events.{In, Runner, handed, lines_by, replies_to, told, took}
use Rattle.book_law.proofs.Kept.{answer_lines, AnswerStands, Kept, Reached, Stands, answer_at}
use Rattle.book_law.proofs.Kept.Stage.{Free}
use Rattle.book_law.proofs.Lists.{append_none_left, append_none_right, in_waits, lines_by-append}
use Rattle.book_law.proofs.Books.{behind_next, copies_more, none_later}
use Rattle.book_law.proofs.Stages.{stage_ran, stage_told, stage_waits}
use Rattle.book_law.proofs.Owned.{waits_at}

pub mapped : {A B : Type 0} (f : A → B) (o : Option A) (y : B) → option_map f o ≡ Some y → (x : A) × (o ≡ Some x) × (y ≡ f x)
mapped f None y e = absurd (cc e)
mapped f (Some x) y e = (x, refl, let g : y ≡ f x = cc in g)

-- behind the place that the member had applied come the entry's lines of a process, and then what is behind the entry
pub heard : (single : Test) (p : Performs) (q : Computes) (list : List Message) (aside : List Placed) (owned : List Single) (seen : List Message) (a j : ℕ) (x : Runner) (y : Message) → slice_get list a ≡ Some y → (s : Stands single p q list aside owned seen a j x) → s.awaited ≡ lines_by j (lines_after single p (copies_at single p list a) y) ++ lines_by j (behind single p list [] (suc a))
heard single p q list aside owned seen a j x y is s =
    let lines = lines_after single p (copies_at single p list a) y in
    let le = slice_get_within list a y is in
    sym s.unseen ∙ ap (lines_by j) (behind_next single p list [] a y is (omega (arith, le)))
    ∙ lines_by-append j (lines ++ []) (behind single p list [] (suc a))
    ∙ ap (λ (ls : List Line). lines_by j ls ++ lines_by j (behind single p list [] (suc a))) (append-nil lines)

hears : (single : Test) (p : Performs) (q : Computes) (list : List Message) (aside : List Placed) (owned : List Single) (seen : List Message) (a j : ℕ) (x : Runner) (y : Message) → slice_get list a ≡ Some y → (s : Stands single p q list aside owned seen a j x) → (ls : List Line)
    → s.awaited ≡ ls ++ lines_by j (behind single p list [] (suc a)) → Stands single p q list aside owned seen (suc a) j (took (suc a) ls x)
hears single p q list aside owned seen a j x y is s [] e = record {
  awaited = s.awaited;
  process = s.process;
  since = s.since;
  unseen = sym e;
  there = s.there;
  early = s.early;
  quiet = λ n lt. s.quiet n (⊎_elim (λ u. inl u) (λ u. inr (omega arith)) lt);
  answer = s.answer;
  asks = s.asks;
  earlier = s.earlier;
  stage = s.stage;
}
hears single p q list aside owned seen a j x y is s (l ∷ ls) e = record {
  awaited = [];
  process = s.process ∙ ap (λ (rs : List Reply). Some (record { text = x.text; args = x.args; replies = rs })) same;
  quiet = λ n lt. s.quiet n (inr (let u : suc a < n = ⊎_elim (λ v. v) (λ v. v) lt in omega (arith, u))) ∙ ap (answer_at n) done.2;
  answer = tt;
  since = gone;
  unseen = gone;
  there = ⊎_elim later earlier (cases_lt (suc a) x.place);
  early = let le = slice_get_within list a y is in omega (arith, le);
  asks = λ m f. absurd (cc f);
  earlier = λ z h f. let n = length_push x.replies l.reply in inl (⊎_elim (λ u. omega (arith, n, u)) (λ u. let g = s.asks z u in let i = g.call in omega (arith, n, i)) (s.earlier z h f));
  stage = Free refl refl done.0 refl;
}
  where
    done : (waiting j (after_all single p opening_copies list).queue + waits j owned ≡ 0) × (ls ++ lines_by j (behind single p list [] (suc a)) ≡ []) × (x.answer ≡ None)
    done = stage_ran seen x.message x.answer (waiting j (after_all single p opening_copies list).queue + waits j owned) s.awaited l (ls ++ lines_by j (behind single p list [] (suc a))) e s.stage

    gone : lines_by j (behind single p list [] (suc a)) ≡ []
    gone = append_none_right ls (lines_by j (behind single p list [] (suc a))) done.1

    awaits : s.awaited ≡ l ∷ []
    awaits = e ∙ ap (λ (r : List Line). l ∷ r) done.1

    same : (x.replies ++ replies_to (answer_lines x.answer)) ++ replies_to s.awaited ≡ ((x.replies ++ l.reply ∷ []) ++ []) ++ []
    same =
        ap (λ (r : List Line). (x.replies ++ replies_to (answer_lines x.answer)) ++ replies_to r) awaits
        ∙ ap (λ (o : Option Placed). (x.replies ++ replies_to (answer_lines o)) ++ l.reply ∷ []) done.2
        ∙ ap (λ (rs : List Reply). rs ++ l.reply ∷ []) (append-nil x.replies)
        ∙ sym (append-nil (x.replies ++ l.reply ∷ [])) ∙ sym (append-nil ((x.replies ++ l.reply ∷ []) ++ []))

    -- a process that is at a later place awaits nothing before it
    later : suc a < x.place → j < (copies_at single p list (suc a)).processes
    later lt =
        let n = none_later single p j list [] (suc a) x.place (omega arith) gone in
        let f : [] ≡ l ∷ [] = sym n ∙ s.since ∙ awaits in
        absurd (cc f)

    earlier : x.place ≤ suc a → j < (copies_at single p list (suc a)).processes
    earlier le = let m = copies_more single p list x.place (suc a) le in let u = s.there in omega (arith, m, u)

-- member m applies its next entry
pub applies : (single : Test) (p : Performs) (q : Computes) (list : List Message) (aside : List Placed) (owned : List Single) (seen : List Message) (applied later : ℕ → ℕ) (runners more : ℕ → Option Runner) (m : ℕ) (y : Message) → slice_get list (applied m) ≡ Some y
    → later m ≡ suc (applied m) → ((i : ℕ) → (i ≡ m → ⊥) → later i ≡ applied i)
    → ((j : ℕ) → more j ≡ option_map (handed m (suc (applied m)) (lines_after single p (copies_at single p list (applied m)) y) j) (runners j))
    → Kept single p q list aside owned seen applied runners → Kept single p q list aside owned seen later more
applies single p q list aside owned seen applied later runners more m y is next rest hands k = record {
  legal = k.legal;
  follows = k.follows;
  next = k.next;
  shared = k.shared;
  once = k.once;
  within = λ i. ⊎_elim (λ (e : i ≡ m). subst (λ (n : ℕ). later n ≤ length list) (sym e) (let le = slice_get_within list (applied m) y is in omega (arith, le, next)))
      (λ apart. let f = k.within i in let g = rest i apart in omega (arith, f, g)) (cases_eq i m);
  held = k.held;
  unborn = k.unborn;
  listed = k.listed;
  counts = k.counts;
  distinct = k.distinct;
  known = k.known;
  owns = λ i x there. let o = k.owns i x there in let le = on x.owner in record {
    is = o.is;
    state = o.state;
    next = o.next;
    its = o.its;
    place = o.place;
    last = λ n after reached. o.last n after (omega (arith, le, reached));
    ready = λ call u. let r = o.ready call u in ready call i x there u r.0 r.1 (let a = r.2 in omega (arith, a, le));
    unused = λ lt. o.unused (omega (arith, le, lt));
    listed = o.listed;
  };
  stands = λ j z there.
      let f = mapped (handed m (suc (applied m)) lines j) (runners j) z (sym (hands j) ∙ there) in
      subst (λ (w : Runner). Stands single p q list aside owned seen (later w.member) j w) (sym f.2) (one j f.0 (k.stands j f.0 f.1) (f.0.member == m) refl);
}
  where
    lines : List Line
    lines = lines_after single p (copies_at single p list (applied m)) y

    on : (i : ℕ) → applied i ≤ later i
    on i = ⊎_elim (λ (e : i ≡ m). subst (λ (n : ℕ). applied n ≤ later n) (sym e) (omega (arith, next))) (λ apart. let g = rest i apart in omega (arith, g)) (cases_eq i m)

    -- who waits on a single copy has no line of the entry
    ready : (call : Suspended) (i : ℕ) (x : Single) → slice_get owned i ≡ Some x → In call x.queue → (r : Runner) → runners call.process.0 ≡ Some r → r.place ≤ later x.owner → Reached more (later x.owner) call.process.0
    ready call i x there inside r here le = go (r.member == m) refl
      where
        j : ℕ
        j = call.process.0

        to : handed m (suc (applied m)) lines j r ≡ r → Reached more (later x.owner) call.process.0
        to e = (r, hands j ∙ ap (option_map (handed m (suc (applied m)) lines j)) here ∙ ap (λ (z : Runner). Some z) e, le)

        go : (b : Bool) → (r.member == m) ≡ b → Reached more (later x.owner) call.process.0
        go false e = to (ap (λ b. if b then took (suc (applied m)) (lines_by j lines) r else r) e)
        go true e =
            let s : Stands single p q list aside owned seen (applied m) j r = subst (λ (n : ℕ). Stands single p q list aside owned seen (applied n) j r) (eqb-true r.member m e) (k.stands j r here) in
            let w = in_waits call x.queue inside in
            let at = waits_at j owned i x there in
            let n = stage_waits seen r.message r.answer (waiting j (after_all single p opening_copies list).queue + waits j owned) s.awaited (omega (arith, w, at)) s.stage in
            let a = append_none_left (lines_by j lines) (lines_by j (behind single p list [] (suc (applied m)))) (sym (heard single p q list aside owned seen (applied m) j r y is s) ∙ n.0) in
            to (ap (λ b. if b then took (suc (applied m)) (lines_by j lines) r else r) e ∙ ap (λ (ls : List Line). took (suc (applied m)) ls r) a)

    own : (j : ℕ) (x : Runner) → (ls : List Line) → Stands single p q list aside owned seen (suc (applied m)) j (took (suc (applied m)) ls x) → x.member ≡ m → Stands single p q list aside owned seen (later (took (suc (applied m)) ls x).member) j (took (suc (applied m)) ls x)
    own j x [] s e = subst (λ (n : ℕ). Stands single p q list aside owned seen n j x) (sym (ap later e ∙ next)) s
    own j x (l ∷ ls) s e = subst (λ (n : ℕ). Stands single p q list aside owned seen n j (took (suc (applied m)) (l ∷ ls) x)) (sym (ap later e ∙ next)) s

    one : (j : ℕ) (x : Runner) → Stands single p q list aside owned seen (applied x.member) j x → (b : Bool) → (x.member == m) ≡ b
        → Stands single p q list aside owned seen (later (if b then took (suc (applied m)) (lines_by j lines) x else x).member) j (if b then took (suc (applied m)) (lines_by j lines) x else x)
    one j x s true e =
        let f = eqb-true x.member m e in
        let t : Stands single p q list aside owned seen (applied m) j x = subst (λ (n : ℕ). Stands single p q list aside owned seen (applied n) j x) f s in
        own j x (lines_by j lines) (hears single p q list aside owned seen (applied m) j x y is t (lines_by j lines) (heard single p q list aside owned seen (applied m) j x y is t)) f
    one j x s false e = subst (λ (n : ℕ). Stands single p q list aside owned seen n j x) (sym (rest x.member (eqb-false x.member m e))) s

-- one process alone changes, and no more is done
pub changes : (single : Test) (p : Performs) (q : Computes) (list : List Message) (aside : List Placed) (owned : List Single) (seen : List Message) (applied : ℕ → ℕ) (runners more : ℕ → Option Runner) (j : ℕ) (x z : Runner) → runners j ≡ Some x → more j ≡ Some z → ((i : ℕ) → (i ≡ j → ⊥) → more i ≡ runners i)
    → ((z.place ≡ x.place) ⊎ (waits j owned ≡ 0)) → Stands single p q list aside owned seen (applied z.member) j z → Kept single p q list aside owned seen applied runners → Kept single p q list aside owned seen applied more
changes single p q list aside owned seen applied runners more j x z here now rest where_to s k = record {
  legal = k.legal;
  follows = k.follows;
  next = k.next;
  shared = k.shared;
  once = k.once;
  within = k.within;
  held = k.held;
  unborn = k.unborn;
  listed = k.listed;
  counts = k.counts;
  distinct = k.distinct;
  known = k.known;
  owns = λ i y there. let o = k.owns i y there in record {
    is = o.is;
    state = o.state;
    next = o.next;
    its = o.its;
    place = o.place;
    last = o.last;
    ready = λ call u. let r = o.ready call u in ⊎_elim
        (λ (e : call.process.0 ≡ j). (
          z,
          ap more e ∙ now,
          ⊎_elim
              (λ (f : z.place ≡ x.place). let g : Some r.0 ≡ Some x = sym r.1 ∙ ap runners e ∙ here in let h : r.0 ≡ x = cc in let i = ap (λ (w : Runner). w.place) h in let a = r.2 in omega (arith, f, i, a))
              (λ none. let w = in_waits call y.queue u in let at = waits_at call.process.0 owned i y there in let f : waits call.process.0 owned ≡ 0 = ap (λ n. waits n owned) e ∙ none in absurd (omega (arith, w, at, f))) where_to,
        ))
        (λ apart. (r.0, rest call.process.0 apart ∙ r.1, r.2))
        (cases_eq call.process.0 j);
    unused = o.unused;
    listed = o.listed;
  };
  stands = λ i y there. ⊎_elim (own i y there) (λ apart. k.stands i y (sym (rest i apart) ∙ there)) (cases_eq i j);
}
  where
    own : (i : ℕ) (y : Runner) → more i ≡ Some y → i ≡ j → Stands single p q list aside owned seen (applied y.member) i y
    own i y there is =
        let g : Some z ≡ Some y = sym now ∙ ap more (sym is) ∙ there in
        let h : z ≡ y = cc in
        subst (λ (w : Runner). Stands single p q list aside owned seen (applied w.member) i w) h (subst (λ (n : ℕ). Stands single p q list aside owned seen (applied z.member) n z) (sym is) s)

-- a process receives the answer of a single copy, once its member applied as many entries as the answer's place says
pub answers : (single : Test) (p : Performs) (q : Computes) (list : List Message) (aside : List Placed) (owned : List Single) (seen : List Message) (applied : ℕ → ℕ) (runners more : ℕ → Option Runner) (j : ℕ) (x : Runner) (r : Placed) → runners j ≡ Some x → x.answer ≡ Some r → r.place ≤ applied x.member
    → more j ≡ Some (told r.place r.line x) → ((i : ℕ) → (i ≡ j → ⊥) → more i ≡ runners i) → Kept single p q list aside owned seen applied runners → Kept single p q list aside owned seen applied more
answers single p q list aside owned seen applied runners more j x r here has reached now rest k =
    changes single p q list aside owned seen applied runners more j x (told r.place r.line x) here now rest (inr (let w = done.0 in let e : waits j owned ≡ 0 = omega (arith, w) in e)) new k
  where
    s : Stands single p q list aside owned seen (applied x.member) j x
    s = k.stands j x here

    done : (waiting j (after_all single p opening_copies list).queue + waits j owned ≡ 0) × (s.awaited ≡ []) × ((m : Message) × (x.message ≡ Some m) × In m seen)
    done = stage_told seen x.message x.answer (waiting j (after_all single p opening_copies list).queue + waits j owned) s.awaited r has s.stage

    stands : (x.place ≤ r.place) × (r.place ≤ length list)
    stands = subst (λ (o : Option Placed). AnswerStands x.place (length list) o) has s.answer

    gone : lines_by j (behind single p list [] r.place) ≡ []
    gone = none_later single p j list [] x.place r.place stands.0 (s.since ∙ done.1)

    new : Stands single p q list aside owned seen (applied x.member) j (told r.place r.line x)
    new = record {
      awaited = [];
      process = s.process
          ∙ ap (λ (o : Option Placed). Some (record { text = x.text; args = x.args; replies = (x.replies ++ replies_to (answer_lines o)) ++ replies_to s.awaited })) has
          ∙ ap (λ (ls : List Line). Some (record { text = x.text; args = x.args; replies = (x.replies ++ r.line.reply ∷ []) ++ replies_to ls })) done.1
          ∙ ap (λ (rs : List Reply). Some (record { text = x.text; args = x.args; replies = rs ++ [] })) (sym (append-nil (x.replies ++ r.line.reply ∷ [])));
      since = gone;
      unseen = s.unseen ∙ done.1;
      quiet = λ n lt. s.quiet n (⊎_elim (λ u. let a = stands.0 in inl (omega (arith, u, a))) (λ u. inr u) lt) ∙ ap (answer_at n) has
          ∙ ap (λ b. if b then r.line ∷ [] else []) (ne_eqb r.place n (λ (e : r.place ≡ n). ⊎_elim (λ u. omega (arith, u, e)) (λ u. omega (arith, u, e, reached)) lt));
      answer = tt;
      there = let a = s.there in let b = copies_more single p list x.place r.place stands.0 in omega (arith, a, b);
      early = stands.1;
      asks = λ m e. absurd (cc e);
      earlier = λ z u f. let n = length_push x.replies r.line.reply in inl (⊎_elim (λ v. omega (arith, n, v)) (λ v. let g = s.asks z v in let i = g.call in omega (arith, n, i)) (s.earlier z u f));
      stage = Free refl refl done.0 refl;
    }
