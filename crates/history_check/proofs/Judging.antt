-- What a step finds of a line, part by part.
use Rattle.std.proofs.Common.{◌≡◌, ℕ, zero, suc, ◌++◌, ◌<◌, ◌≤◌, ◌^◌, ⊎_elim, Option, Some, None, List, [], ◌∷◌, length, refl, sym, ap, ◌∙◌, arith, subst}
use Rattle.std.specs.Prelude.{Err, slice_get, slice_index_or, slice_set}
use Rattle.std.proofs.lemmas.Bool.{cases_lt}
use Rattle.std.proofs.lemmas.List.{get_or_past, length-append}
use Rattle.std.proofs.lemmas.Option.{slice_get_within}
use Rattle.value_core.specs.Goes.{ForSome}
use Rattle.value_core.specs.Lawful.{FitsAction, next_of}
use Rattle.value_core.specs.declared.action.Action.{Action}
use Rattle.value_core.specs.declared.action.Action.TheVariants as action
use Rattle.value_core.specs.declared.action.Line.{Line}
use Rattle.value_core.specs.declared.action.Reply.{Reply}
use Rattle.value_core.specs.declared.meaning.Doing.TheVariants as doing
use Rattle.value_core.specs.Meaning.{Performs, Computes}
use Rattle.value_core.specs.History.{Configuration, IsStep, Objects, Performed, Process, after_lines, forked, most_turns, objects_of, opening}
use Rattle.value_core.proofs.HistoryLemmas.{LegalFrom-push, after_lines-push}
use Rattle.guard_queue.specs.Fitting.{kinds_of}
use Rattle.object_manager.specs.Viewed.{ReadFits}
use Rattle.book_law.specs.Fitness.{ArgsFit, ReplyFits, StateFits, TextFits}
use Rattle.book_law.proofs.Processes.{after_fork, get_some, with_reply}
use Rattle.history_law.specs.Fitness.{FitsAfter, HistoriesFit}
use Rattle.history_check.specs.Outcomes.{IsJudged, MayTry, kept_at, outcome_of}
use Rattle.history_check.specs.Players.{ComesTo, Follows, HasTurns, IsNext, IsPlayer, Left, MayBegin, MayTake, Plays, Stood, most_kept}
use Rattle.history_check.specs.Verdicts.{Breaks, IsActionOf, IsLineOf}
use Rattle.history_check.specs.declared.outcome.Outcome.{Outcome}
use Rattle.history_check.specs.declared.player.Player.{Player}
use Rattle.history_check.specs.declared.replayed.Replayed.{Replayed}
use Rattle.history_check.specs.declared.verdict.BreachRule.{BreachRule}
use Rattle.history_check.specs.declared.verdict.BreachRule.TheVariants as part
use Rattle.history_check.proofs.Performing.{IsOutcome, IsRight, outcome_right}
use Rattle.history_check.proofs.Taking.{follows_more, plays_on}

slot_here : {A : Type 0} (xs : List (Option A)) (i : ℕ) (x : Option A) → slice_get xs i ≡ Some x → slice_index_or xs i None ≡ x
slot_here [] i x is = absurd (cc is)
slot_here (y ∷ xs) zero x is = let e : y ≡ x = cc in e
slot_here (y ∷ xs) (suc i) x is = slot_here xs i x is

same_process : (o : Option Process) (x y : Process) → o ≡ Some x → o ≡ Some y → x ≡ y
same_process o x y e f = let g : Some x ≡ Some y = sym e ∙ f in cc

-- a process is kept, and is this one
pub record IsFound {S : Type 0} (stands : Stood S) (c : Configuration) (line : Line) (players : List (Option (Player S))) (player : Player S) : Type 0 where
  pub process : Process
  pub exists : slice_get c.processes line.process.0 ≡ Some process
  pub is : IsPlayer stands line.process.0 player process
  pub place : line.process.0 < length players

module _ (S : Type 0) (stands : Stood S) (left : Left S) (p : Performs) (q : Computes) (fits_state : StateFits) (fits_args : ArgsFit) (fits_text : TextFits) (fits_reply : ReplyFits) (lines : List Line) (line : Line) (r : Replayed S) (f : Follows p q stands r lines) where
  abbrev c : Configuration
  c = after_lines p (opening q) lines

  -- who isn't kept isn't there
  pub no_process : line.process.0 < most_kept → slice_index_or r.players.items line.process.0 None ≡ None → Breaks p q c line part.Process
  no_process small none (x, there) = ⊎_elim
      (λ (lt : line.process.0 < length r.players.items).
      let k = f.players.each line.process.0 x lt there in
      let e : None ≡ Some k.0 = sym none ∙ slot_here r.players.items line.process.0 (Some k.0) k.1 in
      cc e)
      (λ (le : length r.players.items ≤ line.process.0).
      let within = slice_get_within c.processes line.process.0 x there in
      let all = f.players.all (omega (arith, le, small)) in
      omega (arith, le, within, all))
      (cases_lt line.process.0 (length r.players.items))

  -- who is kept is there
  pub found : (player : Player S) → slice_index_or r.players.items line.process.0 None ≡ Some player → IsFound stands c line r.players.items player
  found player is = ⊎_elim
      (λ (lt : line.process.0 < length r.players.items).
      let within = f.players.kept in
      let x = get_some c.processes line.process.0 (omega (arith, lt, within)) in
      let k = f.players.each line.process.0 x.0 lt x.1 in
      let e : Some k.0 ≡ Some player = sym (slot_here r.players.items line.process.0 (Some k.0) k.1) ∙ is in
      let same : k.0 ≡ player = cc in
      record { process = x.0; exists = x.1; is = subst (λ (y : Player S). IsPlayer stands line.process.0 y x.0) same k.2; place = lt })
      (λ (le : length r.players.items ≤ line.process.0).
      absurd (let e : None ≡ Some player = sym (get_or_past r.players.items line.process.0 None le) ∙ is in cc e))
      (cases_lt line.process.0 (length r.players.items))

  module _ (player : Player S) (k : IsFound stands c line r.players.items player) where
    abbrev x : Process
    x = k.process

    -- of the next line of a process it says the number
    pub other_call : (player.calls ≡ line.call.0 → ⊥) → Breaks p q c line part.Call
    other_call apart = (
      (x, k.exists),
      λ h.
          let l = h.1 in
          let same = ap (λ (y : Process). length y.replies) (same_process (slice_get c.processes line.process.0) h.0 x l.exists k.exists) in
          let calls = k.is.calls in
          let call = l.call in
          let e : player.calls ≡ line.call.0 = omega (arith, calls, same, call) in
          apart e,
    )

    pub has_turns : HasTurns (stands player.state)
    has_turns = let i = k.is in (x.text, line.process, x.args, x.replies, i.turns, (i.state, i.some))

    module _ (call : player.calls ≡ line.call.0) where
      its : IsLineOf c line x
      its = let calls = k.is.calls in record { exists = k.exists; call = omega (arith, calls, call) }

      pub no_action : ComesTo q stands player.state line.action None → Breaks p q c line part.Action
      no_action comes = (
        (x, its),
        λ h.
            let a = h.1 in
            let i = k.is in
            let there = a.its in
            let same = same_process (slice_get c.processes line.process.0) h.0 x there.exists k.exists in
            comes x.text line.process x.args x.replies i.turns i.state
            (subst (λ (y : Process). next_of q y.text line.process y.args y.replies ≡ doing.At line.action) same a.next, a.performable),
      )

      module _ (at : S) (comes : ComesTo q stands player.state line.action (Some at)) where
        come : IsNext q x.text line.process x.args x.replies line.action × (used : ℕ) × (used < most_turns) × stands at x.text line.process x.args x.replies used
        come = let i = k.is in comes x.text line.process x.args x.replies i.turns i.state

        act : IsActionOf q c line x
        act = let n = come.0 in record { its = its; next = n.0; performable = n.1 }

        pub stands_there : ForSome (stands at)
        stands_there = (x.text, line.process, x.args, x.replies, come.1, come.3)

        pub may_try : FitsAfter p q fits_state fits_args fits_text fits_reply lines → MayTry fits_state fits_args r.objects line.action
        may_try fits = by_action line.action act.next
          where
            by_action : (a : Action) → next_of q x.text line.process x.args x.replies ≡ doing.At a → MayTry fits_state fits_args r.objects a
            by_action (action.Make kind object) next = tt
            by_action (action.Call kind op object args) next = subst (λ (os : Objects). ReadFits fits_state fits_args os kind op object args) (sym f.objects) (fits.calls line.process x kind op object args k.exists next)
            by_action (action.Fork text args place_on) next = tt
            by_action action.Ended next = tt
            by_action (action.Faulted fault) next = tt

        module _ (fits : FitsAfter p q fits_state fits_args fits_text fits_reply lines) where
          right : IsOutcome p c.objects line.action (outcome_of p c.objects line.action)
          right = outcome_right p fits_state fits_args c.objects line.action (subst (λ (os : Objects). MayTry fits_state fits_args os line.action) f.objects (may_try fits))

          is_right : (o : Outcome) → Some o ≡ outcome_of p r.objects line.action → IsRight p c.objects line.action o
          is_right o is = subst (λ (u : Option Outcome). IsOutcome p c.objects line.action u) (ap (λ (os : Objects). outcome_of p os line.action) (sym f.objects) ∙ sym is) right

          -- whoever performs the line is this process at this action
          pub no_guard : (outcome : Option Outcome) → outcome ≡ outcome_of p r.objects line.action → IsJudged outcome line (Err part.Guard) → Breaks p q c line part.Guard
          no_guard outcome is judged = ((x, act), λ h. by_outcome outcome is judged (h.2).0 (h.2).1)
            where
              by_outcome : (u : Option Outcome) → u ≡ outcome_of p r.objects line.action → IsJudged u line (Err part.Guard) → (reply : Reply) → Performed p c.objects line.action line.guard reply → ⊥
              by_outcome None e j reply done = subst (λ (u : Option Outcome). IsOutcome p c.objects line.action u) (ap (λ (os : Objects). outcome_of p os line.action) (sym f.objects) ∙ sym e) right line.guard reply done
              by_outcome (Some o) e j reply done = let w = is_right o e in let only = w.only line.guard reply done in j o refl (sym only.0)

          pub no_reply : (outcome : Option Outcome) → outcome ≡ outcome_of p r.objects line.action → IsJudged outcome line (Err part.Reply) → Breaks p q c line part.Reply
          no_reply outcome is judged =
              let w = is_right judged.0 (sym judged.1 ∙ is) in
              ((x, act, (judged.0.reply, subst (λ (g : ℕ). Performed p c.objects line.action g judged.0.reply) judged.2 w.performed)), λ h. judged.3 (let only = w.only line.guard line.reply h.2 in sym only.1))

          pub differs : (outcome : Option Outcome) → outcome ≡ outcome_of p r.objects line.action → (rule : BreachRule) → IsJudged outcome line (Err rule) → Breaks p q c line rule
          differs outcome is part.Process judged = absurd judged
          differs outcome is part.Call judged = absurd judged
          differs outcome is part.Action judged = absurd judged
          differs outcome is part.Guard judged = no_guard outcome is judged
          differs outcome is part.Reply judged = no_reply outcome is judged

          module _ (o : Outcome) (is : Some o ≡ outcome_of p r.objects line.action) (guard : o.guard ≡ line.guard) (reply : o.reply ≡ line.reply) where
            pub step : IsStep p q c line
            step = record {
              process = x;
              exists = k.exists;
              call = its.call;
              next = act.next;
              performed = subst (λ (u : Reply). Performed p c.objects line.action line.guard u) reply (subst (λ (g : ℕ). Performed p c.objects line.action g o.reply) guard (let w = is_right o is in w.performed));
            }

            legal_more : Follows p q stands r lines → HistoriesFit p q fits_state fits_args fits_text fits_reply → FitsAfter p q fits_state fits_args fits_text fits_reply (lines ++ line ∷ [])
            legal_more g law = law (lines ++ line ∷ []) (LegalFrom-push p q (opening q) lines line g.legal step)

            -- a fork's process is there after the line, and so its arguments fit
            begins : HistoriesFit p q fits_state fits_args fits_text fits_reply → MayBegin fits_text line.action
            begins law = by_action line.action refl
              where
                after : FitsAfter p q fits_state fits_args fits_text fits_reply (lines ++ line ∷ [])
                after = legal_more f law

                born : (y : Process) → forked line.action ≡ y ∷ [] → fits_text (kinds_of (objects_of p q (lines ++ line ∷ []))) y.text y.args
                born y is_y = after.texts (record { 0 = length c.processes }) y (ap (λ (d : Configuration). slice_get d.processes (length c.processes)) (after_lines-push p (opening q) lines line) ∙ after_fork p c line y is_y)

                by_action : (a : Action) → line.action ≡ a → MayBegin fits_text a
                by_action (action.Make kind object) e = tt
                by_action (action.Call kind op object args) e = tt
                by_action (action.Fork text args place_on) e = (kinds_of (objects_of p q (lines ++ line ∷ [])), born (record { text = text; args = args; replies = [] }) (ap forked e))
                by_action action.Ended e = tt
                by_action (action.Faulted fault) e = tt

            pub may_take : HistoriesFit p q fits_state fits_args fits_text fits_reply → length lines < 2 ^ 32 → (mid : Replayed S) → length mid.players.items ≡ length r.players.items → left at line.action → MayTake stands left fits_text fits_reply mid line at o.reply
            may_take law short mid long halted = record {
              place = (let lt = k.place in omega (arith, lt, long));
              calls = (let few = f.players.few line.process.0 x k.exists in let calls = k.is.calls in omega (arith, short, few, calls, call));
              some = stands_there;
              at = halted;
              fits = subst (λ (u : Reply). FitsAction fits_reply (doing.At line.action) u) (sym reply) (fits.answers line step);
              begins = begins law;
            }

            -- the line is taken
            pub taken : (new : Replayed S) → new.objects ≡ kept_at r.objects line.action o.kept → Plays stands line at o.reply (slice_set r.players.items line.process.0 None) new.players.items → Follows p q stands new (lines ++ line ∷ [])
            taken new objects plays =
                let w = is_right o is in
                let n = come in
                let own : IsPlayer stands line.process.0 plays.player (with_reply x line.reply) = record {
                  turns = n.1;
                  state = subst (λ (u : Reply). stands plays.player.state x.text line.process x.args (x.replies ++ u ∷ []) n.1) reply (plays.state_after x.text line.process x.args x.replies n.1 n.3);
                  some = n.2;
                  calls = (let more = length-append x.replies (line.reply ∷ []) in let calls = k.is.calls in let counted = plays.calls in omega (arith, more, calls, counted, call));
                } in
                follows_more S stands p q lines line r new f step (objects ∙ ap (λ (os : Objects). kept_at os line.action o.kept) f.objects ∙ w.leaves)
                (plays_on S stands p c line x k.exists (length lines) r.players.items new.players.items f.players k.place plays.player own plays.begins)
