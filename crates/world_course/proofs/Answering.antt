-- What an owner performs for processes elsewhere is sent to them as Answers, which it keeps.
use Rattle.std.proofs.Common.{◌≡◌, ◌==◌, ℕ, ◌⊎◌, inl, inr, ⊎_elim, Bool, true, false, List, [], ◌∷◌, Option, Some, None, refl, sym, ap, ◌∙◌, subst, take, if◌then◌else◌}
use Rattle.std.proofs.lemmas.Bool.{cases_eq}
use Rattle.value_core.specs.declared.action.Line.{Line}
use Rattle.value_core.specs.declared.message.Message.{Message}
use Rattle.group_rules.specs.Member.{Member}
use Rattle.group_rules.specs.Sets.{with_at}
use Rattle.object_manager.specs.After.{Copied}
use Rattle.book_law.specs.Events.{In}
use Rattle.book_law.proofs.Books.{by_none}
use Rattle.book_law.proofs.Courses.{at_other, at_own}
use Rattle.book_law.proofs.Lists.{in_push}
use Rattle.world_rules.specs.Frame.{Frame}
use Rattle.world_rules.specs.Mail.{Errand, Mail}
use Rattle.world_rules.specs.Nodes.{Given, NodeWork, changes, if_played, known, mails_of}
use Rattle.world_rules.specs.Owners.{hands, hands_all}
use Rattle.world_rules.specs.Played.{Played, receives}
use Rattle.world_rules.specs.Processes.{Begun, home_in, processes_in}
use Rattle.world_course.proofs.Handing.{HandsOn, OneEach, away, hands_on, performing, rest_each, rest_none}

-- the Answer to a line that an owner performed at this place
abbrev pub answer_to : ℕ → Line → Given
answer_to n l = record { place = n; call = l.call; reply = l.reply }

-- the letter is the Answer to one of these lines
pub record IsSent (n : ℕ) (lines : List Line) (mail : Mail) : Type 0 where
  pub line : Line
  pub among : In line lines
  pub incarnation : ℕ
  pub from : ℕ
  pub to : ℕ
  pub is : mail ≡ Mail.Sends incarnation from to (Errand.Answer n line.process line.call line.reply)

-- what is kept for process j is the Answer to one of these lines
pub record IsSet (n : ℕ) (lines : List Line) (j : ℕ) (kept : Option Given) : Type 0 where
  pub line : Line
  pub among : In line lines
  pub process : line.process.0 ≡ j
  pub is : kept ≡ Some (answer_to n line)

-- what is left of a work that hands lines on, where the owner knows these processes and applied n entries
pub record HandsAway (m n : ℕ) (processes : List Begun) (lines : List Line) (v u : NodeWork) : Type 0 where
  pub held : u.node.held ≡ v.node.held
  pub mails : (mail : Mail) → In mail (mails_of u.deeds) → In mail (mails_of v.deeds) ⊎ IsSent n lines mail
  pub given : (j : ℕ) → (u.node.given j ≡ v.node.given j) ⊎ IsSet n lines j (u.node.given j)
  pub had : OneEach lines → (l : Line) → In l lines → (home_in processes l.process.0 == m) ≡ false → u.node.given l.process.0 ≡ Some (answer_to n l)

-- one line
record OneAway (n : ℕ) (here : Bool) (l : Line) (v u : NodeWork) : Type 0 where
  held : u.node.held ≡ v.node.held
  mails : (mail : Mail) → In mail (mails_of u.deeds) → In mail (mails_of v.deeds) ⊎ IsSent n (l ∷ []) mail
  given : (j : ℕ) → (u.node.given j ≡ v.node.given j) ⊎ IsSet n (l ∷ []) j (u.node.given j)
  had : here ≡ false → u.node.given l.process.0 ≡ Some (answer_to n l)

away_if : (n : ℕ) (l : Line) (v : NodeWork) (o : Option Played) → OneAway n true l v (if_played (receives n l.reply) l.process.0 o (performing n l v))
away_if n l v None = record { held = refl; mails = λ mail is. inl is; given = λ j. inl refl; had = λ e. absurd (cc e) }
away_if n l v (Some r) = record { held = refl; mails = λ mail is. inl is; given = λ j. inl refl; had = λ e. absurd (cc e) }

away_by : (m home n : ℕ) (l : Line) (v : NodeWork) (b : Bool) → OneAway n b l v (if b then changes (receives n l.reply) l.process.0 (performing n l v) else away m home n l (performing n l v))
away_by m home n l v true = away_if n l v (v.node.played l.process.0)
away_by m home n l v false = record {
  held = refl;
  mails = λ mail is. ⊎_elim (λ old. inl old)
      (λ (e : mail ≡ Mail.Sends v.node.member.installed m home (Errand.Answer n l.process l.call l.reply)).
      inr (record { line = l; among = inl refl; incarnation = v.node.member.installed; from = m; to = home; is = e }))
      (in_push mail (Mail.Sends v.node.member.installed m home (Errand.Answer n l.process l.call l.reply)) (mails_of v.deeds) is);
  given = λ j. ⊎_elim
      (λ (e : j ≡ l.process.0). inr (record {
        line = l;
        among = inl refl;
        process = sym e;
        is = ap (with_at v.node.given l.process.0 (Some (answer_to n l))) e ∙ at_own v.node.given l.process.0 (Some (answer_to n l));
      }))
      (λ apart. inl (at_other v.node.given l.process.0 (Some (answer_to n l)) j apart))
      (cases_eq j l.process.0);
  had = λ e. at_own v.node.given l.process.0 (Some (answer_to n l));
}

away_one : (f : Frame) (m n : ℕ) (processes : List Begun) (l : Line) (v : NodeWork) → known f v.node ≡ processes → v.node.copies.applied ≡ n → OneAway n (home_in processes l.process.0 == m) l v (hands f m l v)
away_one f m n processes l v knows applied =
    subst (λ (k : ℕ). OneAway k (home_in processes l.process.0 == m) l v (hands f m l v)) applied
    (subst (λ (ps : List Begun). OneAway v.node.copies.applied (home_in ps l.process.0 == m) l v (hands f m l v)) knows
    (away_by m (home_in (known f v.node) l.process.0) v.node.copies.applied l v (home_in (known f v.node) l.process.0 == m)))

only_one : (l a : Line) (ls : List Line) → In a (l ∷ []) → In a (l ∷ ls)
only_one l a ls (inl e) = inl e
only_one l a ls (inr none) = absurd none

more_sent : (n : ℕ) (l : Line) (ls : List Line) (mail : Mail) → IsSent n (l ∷ []) mail → IsSent n (l ∷ ls) mail
more_sent n l ls mail s = record { line = s.line; among = only_one l s.line ls s.among; incarnation = s.incarnation; from = s.from; to = s.to; is = s.is }

rest_sent : (n : ℕ) (l : Line) (ls : List Line) (mail : Mail) → IsSent n ls mail → IsSent n (l ∷ ls) mail
rest_sent n l ls mail s = record { line = s.line; among = inr s.among; incarnation = s.incarnation; from = s.from; to = s.to; is = s.is }

-- the first line is handed on, and then the others
hands_more : (f : Frame) (m n : ℕ) (processes : List Begun) (l : Line) (ls : List Line) (v u t : NodeWork) → OneAway n (home_in processes l.process.0 == m) l v u → HandsAway m n processes ls u t → HandsAway m n processes (l ∷ ls) v t
hands_more f m n processes l ls v u t one rest = record {
  held = rest.held ∙ one.held;
  mails = λ mail is. ⊎_elim (λ old. ⊎_elim (λ first. inl first) (λ sent. inr (more_sent n l ls mail sent)) (one.mails mail old)) (λ sent. inr (rest_sent n l ls mail sent)) (rest.mails mail is);
  given = λ j. ⊎_elim
      (λ same. ⊎_elim (λ old. inl (same ∙ old)) (λ set. inr (record { line = set.line; among = only_one l set.line ls set.among; process = set.process; is = same ∙ set.is })) (one.given j))
      (λ set. inr (record { line = set.line; among = inr set.among; process = set.process; is = set.is }))
      (rest.given j);
  had = kept;
}
  where
    -- no later line is of the first one's process
    kept : OneEach (l ∷ ls) → (a : Line) → In a (l ∷ ls) → (home_in processes a.process.0 == m) ≡ false → t.node.given a.process.0 ≡ Some (answer_to n a)
    kept each a (inr is) elsewhere = rest.had (rest_each l ls each) a is elsewhere
    kept each a (inl e) elsewhere = ⊎_elim
        (λ stays. stays ∙ subst (λ (k : Line). u.node.given k.process.0 ≡ Some (answer_to n k)) (sym e) (one.had (subst (λ (k : Line). (home_in processes k.process.0 == m) ≡ false) e elsewhere)))
        (λ set. absurd (by_none l.process.0 set.line ls (rest_none l ls each) set.among (set.process ∙ ap (λ (k : Line). k.process.0) e)))
        (rest.given a.process.0)

pub hands_away : (f : Frame) (m n : ℕ) (processes : List Begun) (lines : List Line) (v : NodeWork) → known f v.node ≡ processes → v.node.copies.applied ≡ n → HandsAway m n processes lines v (hands_all f m lines v)
hands_away f m n processes [] v knows applied = record { held = refl; mails = λ mail is. inl is; given = λ j. inl refl; had = λ each l is. absurd is }
hands_away f m n processes (l ∷ ls) v knows applied =
    let u : NodeWork = hands f m l v in
    let same : HandsOn f m n processes (l ∷ []) v u = hands_on f m n processes (l ∷ []) v knows applied in
    let knows_on : known f u.node ≡ processes =
    ap (λ (k : Copied). processes_in f (take k.applied u.node.member.log)) same.copies ∙ ap (λ (s : Member Message). processes_in f (take v.node.copies.applied s.log)) same.member ∙ knows in
    hands_more f m n processes l ls v u (hands_all f m ls u) (away_one f m n processes l v knows applied)
    (hands_away f m n processes ls u knows_on (ap (λ (k : Copied). k.applied) same.copies ∙ applied))
