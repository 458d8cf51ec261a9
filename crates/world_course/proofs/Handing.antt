-- What an owner performs is handed on: in the course each of its own processes hears it at once, and in the world it receives the reply.
use Rattle.std.proofs.Common.{◌≡◌, ◌≤◌, ◌==◌, ℕ, ◌⊎◌, inl, inr, Bool, true, false, List, [], ◌∷◌, ◌++◌, Option, Some, None, refl, sym, ap, ◌∙◌, subst, append_assoc, append-nil, take, if◌then◌else◌}
use Rattle.std.proofs.lemmas.Bool.{cases_eq, eq-eqb, ne_eqb, eqb-true}
use Rattle.std.specs.Prelude.{option_map}
use Rattle.value_core.specs.declared.action.Line.{Line}
use Rattle.value_core.specs.declared.message.Message.{Message}
use Rattle.group_rules.specs.Sets.{with_at}
use Rattle.group_rules.specs.World.{Past}
use Rattle.object_manager.specs.After.{Copied}
use Rattle.group_rules.specs.Member.{Member}
use Rattle.book_law.specs.Passes.{Test}
use Rattle.book_law.specs.declared.placing.Placed.{Placed}
use Rattle.book_law.specs.Course.{Came, Course, Next, hearing}
use Rattle.book_law.specs.Course.Next.{Hears_answer}
use Rattle.book_law.specs.Course.Came.{Then}
use Rattle.book_law.specs.Events.{In, Runner, lines_by, told, took}
use Rattle.book_law.specs.Members.{copies_of}
use Rattle.book_law.specs.Performed.{placed}
use Rattle.book_law.proofs.Books.{by_none}
use Rattle.book_law.proofs.Courses.{at_other, at_own}
use Rattle.world_rules.specs.Frame.{Frame, group}
use Rattle.world_rules.specs.Nodes.{Given, NodeWork, aside_of, becomes, changes, does, if_played, known, past_after}
use Rattle.world_rules.specs.Nodes.Deed.{Performs}
use Rattle.world_rules.specs.Owners.{hands, hands_all, sends_given}
use Rattle.world_rules.specs.Played.{Played, receives}
use Rattle.world_rules.specs.Processes.{Begun, home_in, processes_in}
use Rattle.world_course.specs.Chain.{Leads}
use Rattle.world_course.specs.Chain.Leads.{Stays, By}
use Rattle.world_course.proofs.Applied.{received}
use Rattle.world_course.proofs.Working.{changed_if}

-- ---- in the course

-- of a process at this place, by its lines, where it is here
abbrev pub heard : ℕ → Bool → List Line → Runner → Runner
heard n here lines x = if here then took n lines x else x

-- each process that is here hears its line
pub record HeardBy (f : Frame) (single : Test) (c : Course) (came : Came single f.performs f.computes c) (n : ℕ) (here : ℕ → Bool) (lines : List Line) : Type 0 where
  pub course : Course
  pub leads : Leads single f.performs f.computes c course
  pub later : Came single f.performs f.computes course
  pub list : course.list ≡ c.list
  pub aside : course.aside ≡ c.aside
  pub asked : course.asked ≡ c.asked
  pub applied : (m : ℕ) → course.applied m ≡ c.applied m
  pub copies : (m : ℕ) → copies_of single f.performs f.computes course later m ≡ copies_of single f.performs f.computes c came m
  pub runners : (j : ℕ) → course.runners j ≡ option_map (heard n (here j) (lines_by j lines)) (c.runners j)

-- the answer of such a line is on its way, and may be heard
pub record MayHear (c : Course) (n : ℕ) (l : Line) : Type 0 where
  pub runner : Runner
  pub runs : c.runners l.process.0 ≡ Some runner
  pub answer : runner.answer ≡ Some (record { place = n; line = l })
  pub reached : n ≤ c.applied runner.member

-- no process has two of these lines
abbrev pub OneEach : List Line → Type 0
OneEach lines = (j : ℕ) (l : Line) (ls : List Line) → lines_by j lines ≡ l ∷ ls → ls ≡ []

heard_none : (n : ℕ) (here : Bool) (o : Option Runner) → option_map (heard n here []) o ≡ o
heard_none n true None = refl
heard_none n false None = refl
heard_none n true (Some x) = refl
heard_none n false (Some x) = refl

-- the other lines are no line of this process
pub rest_none : (l : Line) (ls : List Line) → OneEach (l ∷ ls) → lines_by l.process.0 ls ≡ []
rest_none l ls one = one l.process.0 l (lines_by l.process.0 ls) (ap (λ b. if b then l ∷ lines_by l.process.0 ls else lines_by l.process.0 ls) (eq-eqb l.process.0 l.process.0 refl))

pub rest_each : (l : Line) (ls : List Line) → OneEach (l ∷ ls) → OneEach ls
rest_each l ls one j k ks is = go (cases_eq l.process.0 j)
  where
    go : (l.process.0 ≡ j) ⊎ (l.process.0 ≡ j → ⊥) → ks ≡ []
    go (inl e) = let none = rest_none l ls one in let g : k ∷ ks ≡ [] = sym is ∙ ap (λ n. lines_by n ls) (sym e) ∙ none in absurd (cc g)
    go (inr apart) = one j k ks (ap (λ b. if b then l ∷ lines_by j ls else lines_by j ls) (ne_eqb l.process.0 j apart) ∙ is)

pub hear_all : (f : Frame) (single : Test) (c : Course) (came : Came single f.performs f.computes c) (n : ℕ) (here : ℕ → Bool) (lines : List Line) → OneEach lines
    → ((l : Line) → In l lines → here l.process.0 ≡ true → MayHear c n l) → HeardBy f single c came n here lines
hear_all f single c came n here [] one may = record {
  course = c;
  leads = Stays c;
  later = came;
  list = refl;
  aside = refl;
  asked = refl;
  applied = λ m. refl;
  copies = λ m. refl;
  runners = λ j. sym (heard_none n (here j) (c.runners j));
}
hear_all f single c came n here (l ∷ ls) one may =
    go (here l.process.0) refl (λ d later ready. hear_all f single d later n here ls (rest_each l ls one) ready)
  where
    none : lines_by l.process.0 ls ≡ []
    none = rest_none l ls one

    -- a later line is another process's
    other : (k : Line) → In k ls → k.process.0 ≡ l.process.0 → ⊥
    other k is e = by_none l.process.0 k ls none is e

    by_process : (j : ℕ) → (l.process.0 ≡ j → ⊥) → lines_by j (l ∷ ls) ≡ lines_by j ls
    by_process j apart = ap (λ b. if b then l ∷ lines_by j ls else lines_by j ls) (ne_eqb l.process.0 j apart)

    own_line : lines_by l.process.0 (l ∷ ls) ≡ l ∷ []
    own_line = ap (λ b. if b then l ∷ lines_by l.process.0 ls else lines_by l.process.0 ls) (eq-eqb l.process.0 l.process.0 refl) ∙ ap (λ (k : List Line). l ∷ k) none

    go : (b : Bool) → here l.process.0 ≡ b
        → ((d : Course) (later : Came single f.performs f.computes d) → ((k : Line) → In k ls → here k.process.0 ≡ true → MayHear d n k) → HeardBy f single d later n here ls)
        → HeardBy f single c came n here (l ∷ ls)
    go false is more =
        let u = more c came (λ k among at. may k (inr among) at) in
        record {
          course = u.course;
          leads = u.leads;
          later = u.later;
          list = u.list;
          aside = u.aside;
          asked = u.asked;
          applied = u.applied;
          copies = u.copies;
          runners = λ j. u.runners j ∙ skipped j (cases_eq l.process.0 j);
        }
      where
        skipped : (j : ℕ) → (l.process.0 ≡ j) ⊎ (l.process.0 ≡ j → ⊥) → option_map (heard n (here j) (lines_by j ls)) (c.runners j) ≡ option_map (heard n (here j) (lines_by j (l ∷ ls))) (c.runners j)
        skipped j (inl e) =
            let off : here j ≡ false = ap here (sym e) ∙ is in
            ap (λ b. option_map (heard n b (lines_by j ls)) (c.runners j)) off ∙ sym (ap (λ b. option_map (heard n b (lines_by j (l ∷ ls))) (c.runners j)) off)
        skipped j (inr apart) = ap (λ (k : List Line). option_map (heard n (here j) k) (c.runners j)) (sym (by_process j apart))
    go true is more =
        let z = may l (inl refl) is in
        let r : Placed = record { place = n; line = l } in
        let d : Course = hearing c l.process.0 z.runner r in
        let step : Next single f.performs f.computes c d = Hears_answer l.process.0 z.runner r z.runs z.answer z.reached refl in
        let u = more d (Then c d came step) (λ k among at. let y = may k (inr among) at in
        record { runner = y.runner; runs = at_other c.runners l.process.0 (Some (told n l z.runner)) k.process.0 (other k among) ∙ y.runs; answer = y.answer; reached = y.reached }) in
        record {
          course = u.course;
          leads = By c d u.course step u.leads;
          later = u.later;
          list = u.list;
          aside = u.aside;
          asked = u.asked;
          applied = u.applied;
          copies = u.copies;
          runners = λ j. u.runners j ∙ told_so z.runner z.runs j (cases_eq l.process.0 j);
        }
      where
        told_so : (x : Runner) → c.runners l.process.0 ≡ Some x → (j : ℕ) → (l.process.0 ≡ j) ⊎ (l.process.0 ≡ j → ⊥)
            → option_map (heard n (here j) (lines_by j ls)) ((hearing c l.process.0 x (record { place = n; line = l })).runners j) ≡ option_map (heard n (here j) (lines_by j (l ∷ ls))) (c.runners j)
        told_so x runs j (inl e) = subst (λ (k : ℕ). option_map (heard n (here k) (lines_by k ls)) ((hearing c l.process.0 x (record { place = n; line = l })).runners k) ≡ option_map (heard n (here k) (lines_by k (l ∷ ls))) (c.runners k)) e
            (ap (λ (k : List Line). option_map (heard n (here l.process.0) k) ((hearing c l.process.0 x (record { place = n; line = l })).runners l.process.0)) none
            ∙ heard_none n (here l.process.0) ((hearing c l.process.0 x (record { place = n; line = l })).runners l.process.0)
            ∙ at_own c.runners l.process.0 (Some (told n l x))
            ∙ sym (ap (λ (k : List Line). option_map (heard n (here l.process.0) k) (c.runners l.process.0)) own_line
            ∙ ap (λ b. option_map (heard n b (l ∷ [])) (c.runners l.process.0)) is
            ∙ ap (option_map (heard n true (l ∷ []))) runs))
        told_so x runs j (inr apart) =
            ap (option_map (heard n (here j) (lines_by j ls))) (at_other c.runners l.process.0 (Some (told n l x)) j (λ e. apart (sym e)))
            ∙ ap (λ (k : List Line). option_map (heard n (here j) k) (c.runners j)) (sym (by_process j apart))

-- ---- in the world

-- what is left of a work that hands lines on, where the owner knows these processes and applied n entries
pub record HandsOn (f : Frame) (m n : ℕ) (processes : List Begun) (lines : List Line) (v u : NodeWork) : Type 0 where
  pub copies : u.node.copies ≡ v.node.copies
  pub member : u.node.member ≡ v.node.member
  pub plays : (j : ℕ) → u.node.played j ≡ (if home_in processes j == m then option_map (received n (lines_by j lines)) (v.node.played j) else v.node.played j)
  pub aside : aside_of u.deeds ≡ aside_of v.deeds ++ placed n lines
  pub past : (p : Past Message) → past_after (group f) m u.deeds p ≡ past_after (group f) m v.deeds p

received_none : (n : ℕ) (b : Bool) (o : Option Played) → o ≡ (if b then option_map (received n []) o else o)
received_none n true None = refl
received_none n true (Some r) = refl
received_none n false o = refl

-- one line, at whichever member
record OneHanded (f : Frame) (m n : ℕ) (here : Bool) (l : Line) (v u : NodeWork) : Type 0 where
  copies : u.node.copies ≡ v.node.copies
  member : u.node.member ≡ v.node.member
  plays : (j : ℕ) → u.node.played j ≡ (if here then (if l.process.0 == j then option_map (receives n l.reply) (v.node.played j) else v.node.played j) else v.node.played j)
  aside : aside_of u.deeds ≡ aside_of v.deeds ++ record { place = n; line = l } ∷ []
  past : (p : Past Message) → past_after (group f) m u.deeds p ≡ past_after (group f) m v.deeds p

-- the work with a reply sent away, and kept
abbrev pub away : ℕ → ℕ → ℕ → Line → NodeWork → NodeWork
away m home n l t =
    (let given : Given = record { place = n; call = l.call; reply = l.reply } in
    sends_given m home l.process given (becomes (record t.node { given = with_at t.node.given l.process.0 (Some given) }) t))

-- the work with a line performed
abbrev pub performing : ℕ → Line → NodeWork → NodeWork
performing n l v = does (Performs (record { place = n; line = l })) v

handed_if : (f : Frame) (m n : ℕ) (l : Line) (v : NodeWork) (o : Option Played) → v.node.played l.process.0 ≡ o → OneHanded f m n true l v (if_played (receives n l.reply) l.process.0 o (performing n l v))
handed_if f m n l v None is = record { copies = refl; member = refl; plays = λ j. changed_if (receives n l.reply) l.process.0 None (performing n l v) j is; aside = refl; past = λ p. refl }
handed_if f m n l v (Some r) is = record { copies = refl; member = refl; plays = λ j. changed_if (receives n l.reply) l.process.0 (Some r) (performing n l v) j is; aside = refl; past = λ p. refl }

handed_by : (f : Frame) (m home n : ℕ) (l : Line) (v : NodeWork) (b : Bool) → OneHanded f m n b l v (if b then changes (receives n l.reply) l.process.0 (performing n l v) else away m home n l (performing n l v))
handed_by f m home n l v true = handed_if f m n l v (v.node.played l.process.0) refl
handed_by f m home n l v false = record { copies = refl; member = refl; plays = λ j. refl; aside = refl; past = λ p. refl }

handed_one : (f : Frame) (m n : ℕ) (processes : List Begun) (l : Line) (v : NodeWork) → known f v.node ≡ processes → v.node.copies.applied ≡ n → OneHanded f m n (home_in processes l.process.0 == m) l v (hands f m l v)
handed_one f m n processes l v knows applied =
    subst (λ (k : ℕ). OneHanded f m k (home_in processes l.process.0 == m) l v (hands f m l v)) applied
    (subst (λ (ps : List Begun). OneHanded f m v.node.copies.applied (home_in ps l.process.0 == m) l v (hands f m l v)) knows
    (handed_by f m (home_in (known f v.node) l.process.0) v.node.copies.applied l v (home_in (known f v.node) l.process.0 == m)))

-- lines, one after the other
pub hands_on : (f : Frame) (m n : ℕ) (processes : List Begun) (lines : List Line) (v : NodeWork) → known f v.node ≡ processes → v.node.copies.applied ≡ n → HandsOn f m n processes lines v (hands_all f m lines v)
hands_on f m n processes [] v knows applied = record {
  copies = refl;
  member = refl;
  plays = λ j. received_none n (home_in processes j == m) (v.node.played j);
  aside = sym (append-nil (aside_of v.deeds));
  past = λ p. refl;
}
hands_on f m n processes (l ∷ ls) v knows applied =
    let u : NodeWork = hands f m l v in
    let one = handed_one f m n processes l v knows applied in
    let knows_on : known f u.node ≡ processes =
    ap (λ (k : Copied). processes_in f (take k.applied u.node.member.log)) one.copies ∙ ap (λ (s : Member Message). processes_in f (take v.node.copies.applied s.log)) one.member ∙ knows in
    let rest = hands_on f m n processes ls u knows_on (ap (λ (k : Copied). k.applied) one.copies ∙ applied) in
    record {
      copies = rest.copies ∙ one.copies;
      member = rest.member ∙ one.member;
      plays = λ j. rest.plays j ∙ ap (λ (o : Option Played). if home_in processes j == m then option_map (received n (lines_by j ls)) o else o) (one.plays j) ∙ by_tests (home_in processes j == m) (home_in processes l.process.0 == m) (l.process.0 == j) (v.node.played j) (lines_by j ls) (λ e. ap (λ (k : ℕ). home_in processes k == m) (eqb-true l.process.0 j e));
      aside = rest.aside ∙ ap (λ (a : List Placed). a ++ placed n ls) one.aside ∙ append_assoc (aside_of v.deeds) (record { place = n; line = l } ∷ []) (placed n ls);
      past = λ p. rest.past p ∙ one.past p;
    }
  where
    twice : (o : Option Played) (ls : List Line) → option_map (received n ls) (option_map (receives n l.reply) o) ≡ option_map (received n (l ∷ ls)) o
    twice None ls = refl
    twice (Some r) ls = refl

    -- by the tests of the process's home, of the line's, and of whether it is the line's process
    by_tests : (h g mine : Bool) (o : Option Played) (rest : List Line) → (mine ≡ true → g ≡ h)
        → (if h then option_map (received n rest) (if g then (if mine then option_map (receives n l.reply) o else o) else o) else (if g then (if mine then option_map (receives n l.reply) o else o) else o))
        ≡ (if h then option_map (received n (if mine then l ∷ rest else rest)) o else o)
    by_tests true true true o rest same = twice o rest
    by_tests true true false o rest same = refl
    by_tests true false true o rest same = let e : false ≡ true = same refl in absurd (cc e)
    by_tests true false false o rest same = refl
    by_tests false true true o rest same = let e : true ≡ false = same refl in absurd (cc e)
    by_tests false true false o rest same = refl
    by_tests false false true o rest same = refl
    by_tests false false false o rest same = refl
