-- A line that may come next, taken: what is kept stands for the configuration behind it.
use Rattle.std.proofs.Common.{◌≡◌, ℕ, ◌+◌, ◌<◌, ◌≤◌, ⊎_elim, Option, None, Some, List, [], ◌∷◌, ◌++◌, length, sym, ap, ◌∙◌, arith, subst}
use Rattle.std.specs.Prelude.{slice_get, slice_set}
use Rattle.std.proofs.lemmas.Bool.{cases_eq, cases_lt}
use Rattle.std.proofs.lemmas.List.{length-append, length-set}
use Rattle.value_core.specs.declared.action.Line.{Line}
use Rattle.value_core.specs.declared.action.Reply.{Reply}
use Rattle.value_core.specs.Meaning.{Performs, Computes}
use Rattle.value_core.specs.History.{Configuration, IsStep, Process, after_line, after_lines, forked, objects_after, opening}
use Rattle.value_core.proofs.HistoryLemmas.{LegalFrom-push, after_lines-push}
use Rattle.book_law.proofs.Processes.{after_cases, after_fork, after_length, after_other, after_own, forked_fresh, get_end, get_left, get_some, set_other, set_same, with_reply}
use Rattle.history_check.specs.Players.{ArePlayed, Begins, Follows, IsPlayer, Stood, most_kept}
use Rattle.history_check.specs.declared.player.Player.{Player}
use Rattle.history_check.specs.declared.replayed.Replayed.{Replayed}
use Rattle.history_check.proofs.Playing.{Begun, begins_cases}

-- where a place is that is not of the first list it is the last
at_end : {A : Type 0} (xs : List A) (x : A) (k : ℕ) → length xs ≤ k → k < length (xs ++ x ∷ []) → length xs ≡ k
at_end xs x k le lt = let e = length-append xs (x ∷ []) in omega (arith, le, lt, e)

same_process : (o : Option Process) (x y : Process) → o ≡ Some x → o ≡ Some y → x ≡ y
same_process o x y e f = let g : Some x ≡ Some y = sym e ∙ f in cc

module _ (S : Type 0) (stands : Stood S) (p : Performs) (c : Configuration) (line : Line) (x : Process) (exists : slice_get c.processes line.process.0 ≡ Some x) (most : ℕ) (old new : List (Option (Player S))) (played : ArePlayed stands old c.processes most) (here : line.process.0 < length old)
    (player : Player S) (own : IsPlayer stands line.process.0 player (with_reply x line.reply)) (begins : Begins stands line.action (slice_set (slice_set old line.process.0 None) line.process.0 (Some player)) new) where
  abbrev mid : List (Option (Player S))
  mid = slice_set (slice_set old line.process.0 None) line.process.0 (Some player)

  long : length mid ≡ length old
  long = length-set (slice_set old line.process.0 None) line.process.0 (Some player) ∙ length-set old line.process.0 None

  its_place : slice_get mid line.process.0 ≡ Some (Some player)
  its_place =
      let first = get_some old line.process.0 here in
      set_same (slice_set old line.process.0 None) line.process.0 None (Some player) (set_same old line.process.0 first.0 None first.1)

  other_place : (j : ℕ) → (line.process.0 ≡ j → ⊥) → slice_get mid j ≡ slice_get old j
  other_place j apart = set_other (slice_set old line.process.0 None) line.process.0 j (Some player) apart ∙ set_other old line.process.0 j None apart

  -- the first processes
  first : (j : ℕ) (y : Process) → j < length old → slice_get (after_line p c line).processes j ≡ Some y → (player : Player S) × (slice_get mid j ≡ Some (Some player)) × IsPlayer stands j player y
  first j y lt is = ⊎_elim
      (λ (e : line.process.0 ≡ j).
      let same = same_process (slice_get (after_line p c line).processes j) y (with_reply x line.reply) is (ap (slice_get (after_line p c line).processes) (sym e) ∙ after_own p c line x exists) in
      (player, ap (slice_get mid) (sym e) ∙ its_place, subst (λ (z : Process). IsPlayer stands j player z) (sym same) (subst (λ (k : ℕ). IsPlayer stands k player (with_reply x line.reply)) e own)))
      (λ apart.
      let within = played.kept in
      let before = get_some c.processes j (omega (arith, lt, within)) in
      let same = same_process (slice_get (after_line p c line).processes j) y before.0 is (after_other p c line j before.0 apart before.1) in
      let kept = played.each j before.0 lt before.1 in
      (kept.0, other_place j apart ∙ kept.1, subst (λ (z : Process). IsPlayer stands j kept.0 z) (sym same) kept.2))
      (cases_eq line.process.0 j)

  few : (j : ℕ) (y : Process) → slice_get (after_line p c line).processes j ≡ Some y → length y.replies ≤ most + 1
  few j y is = ⊎_elim
      (λ u.
      let before = played.few line.process.0 x exists in
      let more = length-append x.replies (line.reply ∷ []) in
      let same = ap (λ (z : Process). length z.replies) u.1 in
      omega (arith, before, more, same))
      (λ v. ⊎_elim
      (λ u. let before = played.few j y u.1 in omega (arith, before))
      (λ u. let none = ap (λ (rs : List Reply). length rs) (forked_fresh line.action y u) in omega (arith, none)) v)
      (after_cases p c line j x y exists is)

  -- nobody comes, or one who isn't kept
  stays : new ≡ mid → (length c.processes ≤ length (after_line p c line).processes) → (length old < most_kept → length (after_line p c line).processes ≤ length old) → ArePlayed stands new (after_line p c line).processes (most + 1)
  stays is grows all = subst (λ (ps : List (Option (Player S))). ArePlayed stands ps (after_line p c line).processes (most + 1)) (sym is) (record {
    kept = (let k = played.kept in omega (arith, k, long, grows));
    within = (let w = played.within in omega (arith, w, long));
    all = λ lt. (let a = all (omega (arith, lt, long)) in omega (arith, a, long));
    each = λ j y lt there. first j y (omega (arith, lt, long)) there;
    few = few;
  })

  comes : (z : Process) → forked line.action ≡ z ∷ [] → Begun stands mid new z → ArePlayed stands new (after_line p c line).processes (most + 1)
  comes z forks b = subst (λ (ps : List (Option (Player S))). ArePlayed stands ps (after_line p c line).processes (most + 1)) (sym b.behind) (record {
    kept = (let k = played.kept in omega (arith, k, long, longer, sum, one));
    within = (let e = b.early in omega (arith, e, longer));
    all = λ lt. omega (arith, count, long, longer, sum, one);
    each = each;
    few = few;
  })
    where
      one : length (forked line.action) ≡ 1
      one = ap (λ (zs : List Process). length zs) forks

      sum : length (after_line p c line).processes ≡ length c.processes + length (forked line.action)
      sum = after_length p c line

      longer : length (mid ++ Some b.player ∷ []) ≡ length mid + 1
      longer = length-append mid (Some b.player ∷ [])

      count : length old ≡ length c.processes
      count = let k = played.kept in let e = b.early in let a = played.all (omega (arith, e, long)) in omega (arith, a, k)

      each : (j : ℕ) (y : Process) → j < length (mid ++ Some b.player ∷ []) → slice_get (after_line p c line).processes j ≡ Some y → (player : Player S) × (slice_get (mid ++ Some b.player ∷ []) j ≡ Some (Some player)) × IsPlayer stands j player y
      each j y lt is = ⊎_elim
          (λ (early : j < length mid). let f = first j y (omega (arith, early, long)) is in (f.0, get_left mid (Some b.player ∷ []) j (Some f.0) f.1, f.2))
          (λ (late : length mid ≤ j).
          let at : length mid ≡ j = at_end mid (Some b.player) j late lt in
          let there : length c.processes ≡ j = omega (arith, at, long, count) in
          let same = same_process (slice_get (after_line p c line).processes j) y z is (ap (slice_get (after_line p c line).processes) (sym there) ∙ after_fork p c line z forks) in
          let n = b.newborn in
          let none = ap (λ (rs : List Reply). length rs) b.none in
          let begun : IsPlayer stands (length mid) b.player z = record {
            turns = 0;
            state = subst (λ (rs : List Reply). stands b.player.state z.text (record { 0 = length mid }) z.args rs 0) (sym b.none) n.state;
            some = omega arith;
            calls = n.calls ∙ sym none;
          } in
          (b.player, ap (slice_get (mid ++ Some b.player ∷ [])) (sym at) ∙ get_end mid (Some b.player), subst (λ (w : Process). IsPlayer stands j b.player w) (sym same) (subst (λ (k : ℕ). IsPlayer stands k b.player z) at begun)))
          (cases_lt j (length mid))

  pub plays_on : ArePlayed stands new (after_line p c line).processes (most + 1)
  plays_on = ⊎_elim
      (λ u.
      let none = ap (λ (zs : List Process). length zs) u.1 in
      let sum = after_length p c line in
      stays u.0 (omega (arith, sum)) (λ lt. let a = played.all lt in omega (arith, a, sum, none)))
      (λ u. ⊎_elim
      (λ v.
      let full = v.1 in
      let sum = after_length p c line in
      stays v.0 (omega (arith, sum)) (λ lt. absurd (omega (arith, lt, full, long))))
      (λ b. comes u.0 u.1 b) u.2)
      (begins_cases S stands line.action mid new begins)

-- ---- all that is kept

pub follows_more : (S : Type 0) (stands : Stood S) (p : Performs) (q : Computes) (lines : List Line) (line : Line) (old new : Replayed S) → Follows p q stands old lines → IsStep p q (after_lines p (opening q) lines) line → new.objects ≡ objects_after p (after_lines p (opening q) lines).objects line.action
    → ArePlayed stands new.players.items (after_line p (after_lines p (opening q) lines) line).processes (length lines + 1) → Follows p q stands new (lines ++ line ∷ [])
follows_more S stands p q lines line old new f s objects players =
    let later = after_lines-push p (opening q) lines line in
    let long = length-append lines (line ∷ []) in
    record {
      legal = LegalFrom-push p q (opening q) lines line f.legal s;
      objects = objects ∙ ap (λ (c : Configuration). c.objects) (sym later);
      players = subst (λ (c : Configuration). ArePlayed stands new.players.items c.processes (length (lines ++ line ∷ []))) (sym later)
          (subst (λ (n : ℕ). ArePlayed stands new.players.items (after_line p (after_lines p (opening q) lines) line).processes n) (sym long) players);
    }
