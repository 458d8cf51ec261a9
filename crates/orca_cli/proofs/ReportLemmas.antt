-- What is told of a run: its status, and what was printed.
use Rattle.std.proofs.Common.{◌≡◌, ◌≢◌, ℕ, zero, suc, ◌+◌, ◌==◌, ◌<◌, ◌≤◌, Bool, true, false, List, [], ◌∷◌, ◌++◌, length, get_or, drop, add-one, drop-cons, Option, Some, None, refl, sym, ap, ◌∙◌, subst, inl, inr, arith, append_assoc}
use Rattle.std.specs.Prelude.{Result, Ok, Err, OnOk, if◌then◌else◌}
use Rattle.std.proofs.lemmas.List.{append-nil}
use Rattle.orca_io.specs.declared.sink.SinkFault.{SinkFault}
use Rattle.orca_io.specs.declared.sink.SinkFault.TheVariants as faults
use Rattle.orca_io.specs.Sinks.{Puts}
use Rattle.world_rules.specs.declared.standing.Standing.{Standing}
use Rattle.world_rules.specs.declared.standing.Standing.TheVariants.{Limit, OutOfTurns, OutOfEvents, NoGroup, Faulted, Blocked, Finished, Going}
use Rattle.run_ends.specs.declared.ends.ProcessEnd.{ProcessEnd}
use Rattle.command_output.specs.declared.statuses.TheConstants.{NO_MEMORY, WRITE_FAULT}
use Rattle.command_output.specs.Printed.{Ends, EndsAs, Grew, HasStopped, WroteOf}
use Rattle.value_core.specs.declared.action.Line.{Line}
use Rattle.history_text.specs.Spelling.{history_text}
use Rattle.history_text.specs.declared.names.Names.{Names}
use Rattle.orca_cli.specs.Said.{first_of, or_later}
use Rattle.orca_cli.specs.Standings.{history_said, run_status, spent_of, standing_status, write_status}
use Rattle.command_output.proofs.Putting.{GrewUpTo, grew_all, grew_fault, grew_front, grew_put}

-- ---- of a status that is wanted

write_ends : (wanted : ℕ) (printed : Result Unit SinkFault) → EndsAs wanted (write_status wanted printed)
write_ends wanted (Ok u) = inl refl
write_ends wanted (Err faults.Failed) = inr (inl refl)
write_ends wanted (Err faults.NoMemory) = inr (inr refl)

write_printed : (wanted : ℕ) (printed : Result Unit SinkFault) (old new : Option (List ℕ)) (text : List ℕ) → Grew old new (WroteOf printed text) → Grew old new (Ends wanted (write_status wanted printed) text)
write_printed wanted printed None new text grew = grew
write_printed wanted printed (Some old) None text grew = grew
write_printed wanted (Ok u) (Some old) (Some new) text grew = (grew.0, grew.1, inl (refl, grew.2))
write_printed wanted (Err faults.Failed) (Some old) (Some new) text grew = (grew.0, grew.1, inr (inl refl, grew.2))
write_printed wanted (Err faults.NoMemory) (Some old) (Some new) text grew = (grew.0, grew.1, inr (inr refl, grew.2))

write_failed : (wanted : ℕ) (printed : Result Unit SinkFault) → wanted ≢ WRITE_FAULT → write_status wanted printed ≡ WRITE_FAULT → printed ≡ Err faults.Failed
write_failed wanted (Ok u) apart ten = absurd (apart ten)
write_failed wanted (Err faults.Failed) apart ten = refl
write_failed wanted (Err faults.NoMemory) apart ten = absurd (omega (arith, ten))

write_quiet : (wanted : ℕ) (printed : Result Unit SinkFault) (old new : ℕ) → OnOk printed (new ≡ old) → old < new → HasStopped (write_status wanted printed)
write_quiet wanted (Ok u) old new quiet rose = absurd (omega (arith, quiet, rose))
write_quiet wanted (Err faults.Failed) old new quiet rose = inl refl
write_quiet wanted (Err faults.NoMemory) old new quiet rose = inr refl

-- where memory lacked in the run the status says so, whatever was written
lacked_printed : (printed : Result Unit SinkFault) (old new : Option (List ℕ)) (text : List ℕ) → Grew old new (WroteOf printed text) → Grew old new (Ends NO_MEMORY NO_MEMORY text)
lacked_printed printed None new text grew = grew
lacked_printed printed (Some old) None text grew = grew
lacked_printed (Ok u) (Some old) (Some new) text grew = (grew.0, grew.1, inl (refl, grew.2))
lacked_printed (Err fault) (Some old) (Some new) text grew = (grew.0, grew.1, inr (inr refl, grew.2))

-- ---- by how the run stands

pub status_ends : (s : Standing) (printed : Result Unit SinkFault) → EndsAs (standing_status s) (run_status s printed)
status_ends Going printed = inl refl
status_ends (Limit what number) printed = write_ends _ printed
status_ends OutOfTurns printed = write_ends _ printed
status_ends OutOfEvents printed = write_ends _ printed
status_ends NoGroup printed = write_ends _ printed
status_ends Faulted printed = write_ends _ printed
status_ends Blocked printed = write_ends _ printed
status_ends Finished printed = write_ends _ printed

pub status_lacked : (s : Standing) (printed : Result Unit SinkFault) → s ≡ Going → run_status s printed ≡ NO_MEMORY
status_lacked s printed e = ap (λ (t : Standing). run_status t printed) e

pub status_printed : (s : Standing) (printed : Result Unit SinkFault) (old new : Option (List ℕ)) (text : List ℕ) → Grew old new (WroteOf printed text) → Grew old new (Ends (standing_status s) (run_status s printed) text)
status_printed Going printed old new text grew = lacked_printed printed old new text grew
status_printed (Limit what number) printed old new text grew = write_printed _ printed old new text grew
status_printed OutOfTurns printed old new text grew = write_printed _ printed old new text grew
status_printed OutOfEvents printed old new text grew = write_printed _ printed old new text grew
status_printed NoGroup printed old new text grew = write_printed _ printed old new text grew
status_printed Faulted printed old new text grew = write_printed _ printed old new text grew
status_printed Blocked printed old new text grew = write_printed _ printed old new text grew
status_printed Finished printed old new text grew = write_printed _ printed old new text grew

pub status_failed : (s : Standing) (printed : Result Unit SinkFault) → run_status s printed ≡ WRITE_FAULT → printed ≡ Err faults.Failed
status_failed Going printed ten = absurd (cc ten)
status_failed (Limit what number) printed ten = write_failed _ printed (λ e. cc e) ten
status_failed OutOfTurns printed ten = write_failed _ printed (λ e. cc e) ten
status_failed OutOfEvents printed ten = write_failed _ printed (λ e. cc e) ten
status_failed NoGroup printed ten = write_failed _ printed (λ e. cc e) ten
status_failed Faulted printed ten = write_failed _ printed (λ e. cc e) ten
status_failed Blocked printed ten = write_failed _ printed (λ e. cc e) ten
status_failed Finished printed ten = write_failed _ printed (λ e. cc e) ten

pub status_quiet : (s : Standing) (printed : Result Unit SinkFault) (old new : ℕ) → OnOk printed (new ≡ old) → old < new → HasStopped (run_status s printed)
status_quiet Going printed old new quiet rose = inr refl
status_quiet (Limit what number) printed old new quiet rose = write_quiet _ printed old new quiet rose
status_quiet OutOfTurns printed old new quiet rose = write_quiet _ printed old new quiet rose
status_quiet OutOfEvents printed old new quiet rose = write_quiet _ printed old new quiet rose
status_quiet NoGroup printed old new quiet rose = write_quiet _ printed old new quiet rose
status_quiet Faulted printed old new quiet rose = write_quiet _ printed old new quiet rose
status_quiet Blocked printed old new quiet rose = write_quiet _ printed old new quiet rose
status_quiet Finished printed old new quiet rose = write_quiet _ printed old new quiet rose

-- ---- the lowest process of which there is something to say, as they are gone through

drop_past : {A : Type 0} (xs : List A) (n : ℕ) → length xs ≤ n → drop n xs ≡ []
drop_past [] zero low = refl
drop_past [] (suc n) low = refl
drop_past (x ∷ xs) zero low = absurd (omega (arith, low))
drop_past (x ∷ xs) (suc n) low = drop_past xs n (omega (arith, low))

module _ {A : Type 0} (says : ProcessEnd → Option A) (ends : List ProcessEnd) (n : ℕ) where
  -- what is left from a place on begins with what stands there
  first_here : (e : ProcessEnd) → n < length ends → e ≡ get_or ends n e → first_of says n (drop n ends) ≡ or_later n (says e) (first_of says (suc n) (drop (suc n) ends))
  first_here e lt is = ap (first_of says n) (drop-cons ends n e lt) ∙ ap (λ (x : ProcessEnd). or_later n (says x) (first_of says (suc n) (drop (suc n) ends))) (sym is)

  -- of this one there is nothing to say
  pub first_passed : (e : ProcessEnd) → n < length ends → e ≡ get_or ends n e → says e ≡ None → first_of says n (drop n ends) ≡ first_of says 0 ends → first_of says (n + 1) (drop (n + 1) ends) ≡ first_of says 0 ends
  first_passed e lt is none so_far =
      subst (λ (k : ℕ). first_of says k (drop k ends) ≡ first_of says 0 ends) (sym (add-one n))
      (sym (first_here e lt is ∙ ap (λ (o : Option A). or_later n o (first_of says (suc n) (drop (suc n) ends))) none) ∙ so_far)

  -- of this one there is
  pub first_found : (e : ProcessEnd) (x : A) → n < length ends → e ≡ get_or ends n e → says e ≡ Some x → first_of says n (drop n ends) ≡ first_of says 0 ends → Some (n, x) ≡ first_of says 0 ends
  first_found e x lt is some so_far =
      sym (first_here e lt is ∙ ap (λ (o : Option A). or_later n o (first_of says (suc n) (drop (suc n) ends))) some) ∙ so_far

  -- of none there is
  pub first_none : length ends ≤ n → first_of says n (drop n ends) ≡ first_of says 0 ends → None ≡ first_of says 0 ends
  first_none past so_far = sym (ap (first_of says n) (drop_past ends n past)) ∙ so_far

pub spent_not : (turns : ℕ) (e : ProcessEnd) → (e.turns == turns) ≡ false → spent_of turns e ≡ None
spent_not turns e is = ap (λ (b : Bool). if b then Some tt else None) is

pub spent_is : (turns : ℕ) (e : ProcessEnd) → (e.turns == turns) ≡ true → spent_of turns e ≡ Some tt
spent_is turns e is = ap (λ (b : Bool). if b then Some tt else None) is

-- ---- a text, and a line behind it

-- the text was written, so what is left is the line
pub left_line : (old now : Option (List ℕ)) (text line : List ℕ) → Grew old now (WroteOf (Ok tt) text) → GrewUpTo old now (text ++ line) line
left_line None now text line grew = grew
left_line (Some old) None text line grew = grew
left_line (Some old) (Some now) text line grew = (grew.0, grew.1, ap (λ (l : List ℕ). l ++ line) (sym grew.2))

-- a front of the text is one of both
pub front_of_both : (old now : Option (List ℕ)) (text line : List ℕ) (fault : SinkFault) → Grew old now (WroteOf (Err fault) text) → Grew old now (WroteOf (Err fault) (text ++ line))
front_of_both None now text line fault grew = grew
front_of_both (Some old) None text line fault grew = grew
front_of_both (Some old) (Some now) text line fault grew =
    let rest = grew.2 in (grew.0, grew.1, (rest.0 ++ line, ap (λ (l : List ℕ). l ++ line) rest.1 ∙ append_assoc grew.0 rest.0 line))

-- the line was put behind it, or not whole
pub line_behind : (old now new : Option (List ℕ)) (text line : List ℕ) (put : Result Unit SinkFault) → Grew old now (WroteOf (Ok tt) text) → Puts now new line put → Grew old new (WroteOf put (text ++ line))
line_behind old now new text line (Ok u) grew puts =
    grew_all old new (text ++ line) [] refl (grew_put old now new (text ++ line) line [] (ended old now text line (left_line old now text line grew)) puts)
  where
    ended : (old now : Option (List ℕ)) (text line : List ℕ) → GrewUpTo old now (text ++ line) line → GrewUpTo old now (text ++ line) (line ++ [])
    ended old now text line h = subst (GrewUpTo old now (text ++ line)) (sym (append-nil line)) h
line_behind old now new text line (Err fault) grew puts =
    grew_fault old now new (text ++ line) line [] fault (subst (GrewUpTo old now (text ++ line)) (sym (append-nil line)) (left_line old now text line grew)) puts

-- there was no memory for the line
pub no_line : (old now : Option (List ℕ)) (text line : List ℕ) (fault : SinkFault) → Grew old now (WroteOf (Ok tt) text) → Grew old now (WroteOf (Err fault) (text ++ line))
no_line old now text line fault grew = grew_front old now (text ++ line) line fault (left_line old now text line grew)

-- a text, and another behind it, of which so much was written
pub text_behind : (old now new : Option (List ℕ)) (text behind : List ℕ) (put : Result Unit SinkFault) → Grew old now (WroteOf (Ok tt) text) → Grew now new (WroteOf put behind) → Grew old new (WroteOf put (text ++ behind))
text_behind None now new text behind put grew more = subst (λ (o : Option (List ℕ)). Grew o new (WroteOf put behind)) grew more
text_behind (Some old) None new text behind put grew more = absurd grew
text_behind (Some old) (Some now) None text behind put grew more = absurd more
text_behind (Some old) (Some now) (Some new) text behind (Ok u) grew more = (
  grew.0 ++ more.0,
  more.1 ∙ ap (λ (l : List ℕ). l ++ more.0) grew.1 ∙ append_assoc old grew.0 more.0,
  ap (λ (l : List ℕ). l ++ more.0) grew.2 ∙ ap (λ (l : List ℕ). text ++ l) more.2,
)
text_behind (Some old) (Some now) (Some new) text behind (Err fault) grew more =
    let rest = more.2 in (
      grew.0 ++ more.0,
      more.1 ∙ ap (λ (l : List ℕ). l ++ more.0) grew.1 ∙ append_assoc old grew.0 more.0,
      (
        rest.0,
        ap (λ (l : List ℕ). l ++ behind) (sym grew.2) ∙ ap (λ (l : List ℕ). grew.0 ++ l) rest.1 ∙ sym (append_assoc grew.0 more.0 rest.0),
      ),
    )

-- ---- the history

-- it isn't asked for
pub said_none : (told : Option (List ℕ)) (asked : Bool) (names : Names) (book : List Line) → asked ≡ false → Grew told told (WroteOf (Ok tt) (history_said asked names book))
said_none None asked names book not = refl
said_none (Some old) asked names book not = ([], sym (append-nil old), ap (λ (b : Bool). history_said b names book) (sym not))

-- it is
pub said_all : (old new : Option (List ℕ)) (asked : Bool) (names : Names) (book : List Line) (put : Result Unit SinkFault) → asked ≡ true → Grew old new (WroteOf put (history_text names book)) → Grew old new (WroteOf put (history_said asked names book))
said_all old new asked names book put is grew = subst (λ (b : Bool). Grew old new (WroteOf put (history_said b names book))) (sym is) grew
