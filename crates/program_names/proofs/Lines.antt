-- Each line of each history of a program has its names, and so has each call that comes next: what is made has a specification, what is
-- called has a head there, and what is forked is a process.
use Rattle.std.proofs.Common.{◌<◌, refl, sym, ap, ◌∙◌, subst, arith}
use Rattle.std.specs.Prelude.{◌≡◌, ℕ, ℤ, zero, suc, List, [], ◌∷◌, ◌++◌, length, map, slice_get, Option, Some, None, option_map}
use Rattle.std.specs.List.{AllByRecursion}
use Rattle.std.proofs.lemmas.List.{append_assoc, length-map}
use Rattle.std.proofs.lemmas.List.Elements.{All-from_recursion}
use Rattle.std.proofs.lemmas.Option.{slice_get-map, slice_get_within}
use Rattle.orca_base.specs.declared.ids.KindNo.{KindNo}
use Rattle.orca_base.specs.declared.ids.ObjectId.{ObjectId}
use Rattle.orca_base.specs.declared.ids.OpNo.{OpNo}
use Rattle.orca_base.specs.declared.ids.ProcessNo.{ProcessNo}
use Rattle.orca_base.specs.declared.ids.TextNo.{TextNo}
use Rattle.link_rules.specs.Units.{Source}
use Rattle.type_rules.specs.TopLevel.{TopName}
use Rattle.value_core.specs.Datum.{Data}
use Rattle.value_core.specs.Fits.{Kinds}
use Rattle.value_core.specs.History.{IsStep, Legal, Process, after_lines, forked, most_turns, opening, processes_of, replied}
use Rattle.value_core.specs.Lawful.{next_of}
use Rattle.value_core.specs.Meaning.{Computes, Performs}
use Rattle.value_core.specs.declared.action.Action.{Action}
use Rattle.value_core.specs.declared.action.Action.TheVariants as action
use Rattle.value_core.specs.declared.action.Line.{Line}
use Rattle.value_core.specs.declared.meaning.Doing.TheVariants as doing
use Rattle.book_law.proofs.Fits.{Laws}
use Rattle.book_law.proofs.Processes.{after_lines-append, legal_left, legal_right}
use Rattle.history_law.specs.Fitness.{FitsAfter}
use Rattle.history_law.proofs.Fits.{fits_after}
use Rattle.history_text.specs.Sound.{HasNames}
use Rattle.history_text.specs.Spelling.{operation_names}
use Rattle.history_text.specs.declared.names.Names.{Names}
use Rattle.meaning_rules.specs.Fitting.{FitsArgs, FitsReply, FitsState, FitsText, FitsTop}
use Rattle.meaning_rules.specs.Meanings.{computes_of, performs_of}
use Rattle.meaning_rules.specs.Programs.{process_texts, specifications}
use Rattle.accepted_law.specs.NextNamed.{CallsKnown, HasHead, HeadOf, MakesKnown}
use Rattle.program_names.specs.Naming.{AreNamesOf, CallsNamed, HistoriesNamed, head_names, name_text, operation_texts}
use Rattle.program_names.proofs.AreTables.{listed, operations_listed}

-- what stands last in a list
last_at : {X : Type 0} (xs : List X) (x : X) → slice_get (xs ++ x ∷ []) (length xs) ≡ Some x
last_at [] x = refl
last_at (y ∷ xs) x = last_at xs x

module _ (us : List Source) (names : Names) (are : AreNamesOf us names) where
  abbrev p : Performs
  p = performs_of us

  abbrev q : Computes
  q = computes_of us

  -- ---- which names there are

  kinds_there : length names.kinds.items ≡ suc (length (specifications us))
  kinds_there = ap length are.kinds ∙ ap suc (length-map (specifications us) name_text)

  -- a head has its name in the list of its type
  head_there : (k op : ℕ) → HeadOf us k op → op < length (operation_names names (suc k))
  head_there k op h =
      let at : slice_get (map operation_texts (specifications us)) k ≡ Some (map (λ g. g.name.text) h.heads) =
      slice_get-map operation_texts (specifications us) k ∙ (ap (option_map operation_texts) h.at ∙ ap (λ w. Some (head_names w)) h.is) in
      let are_heads : operation_names names (suc k) ≡ map (λ g. g.name.text) h.heads = operations_listed names _ are.operations (suc k) ∙ ap listed at in
      let long : length (operation_names names (suc k)) ≡ length h.heads = ap length are_heads ∙ length-map h.heads (λ g. g.name.text) in
      let within = h.within in
      omega (arith, long, within)

  called : (kind : KindNo) (op : OpNo) (k : ℕ) → kind.0 ≡ k → HasHead us k op.0 → (kind.0 < length names.kinds.items) × (op.0 < length (operation_names names kind.0))
  called kind op zero is none =
      let there = kinds_there in
      let one : length (operation_names names kind.0) ≡ 1 = ap (λ n. length (operation_names names n)) is ∙ ap length (operations_listed names _ are.operations 0) in (
        omega (arith, is, there),
        omega (arith, one, none),
      )
  called kind op (suc k) is h =
      let there = kinds_there in
      let at = h.at in
      let within = slice_get_within (specifications us) k h.specification at in (
        omega (arith, is, there, within),
        subst (λ n. op.0 < length (operation_names names n)) (sym is) (head_there k op.0 h),
      )

  forked_there : (kinds : Kinds) (text : TextNo) (args : Data) → FitsText us kinds text args → text.0 < length names.texts.items
  forked_there kinds text args fits = by (slice_get (process_texts us) text.0) refl fits
    where
      by : (o : Option TopName) → slice_get (process_texts us) text.0 ≡ o → FitsTop us kinds args o → text.0 < length names.texts.items
      by None at h = absurd h
      by (Some t) at h =
          let within = slice_get_within (process_texts us) text.0 t at in
          let long : length names.texts.items ≡ length (process_texts us) = ap length are.texts ∙ length-map (process_texts us) name_text in
          omega (arith, within, long)

  module _ (makes : MakesKnown us) (calls : CallsKnown us) (laws : Laws p q (FitsState us) (FitsArgs us) (FitsText us) (FitsReply us)) where
    abbrev FitsBehind : List Line → Type 0
    FitsBehind lines = FitsAfter p q (FitsState us) (FitsArgs us) (FitsText us) (FitsReply us) lines

    fits_behind : (lines : List Line) → Legal p q lines → FitsBehind lines
    fits_behind = fits_after p q (FitsState us) (FitsArgs us) (FitsText us) (FitsReply us) laws

    -- the process that a fork added fits
    fork_fits : (lines : List Line) (line : Line) → FitsBehind (lines ++ line ∷ []) → (text : TextNo) (args : Data) (place_on : Option ℤ) → line.action ≡ action.Fork text args place_on →
        text.0 < length names.texts.items
    fork_fits lines line fits text args place_on is =
        let c = after_lines p (opening q) lines in
        let before : List Process = replied c.processes line.process.0 line.reply (slice_get c.processes line.process.0) in
        let new : Process = record { text = text; args = args; replies = [] } in
        let number : ProcessNo = record { 0 = length before } in
        let whole : processes_of p q (lines ++ line ∷ []) ≡ before ++ forked line.action = ap (λ d. d.processes) (after_lines-append p (opening q) lines (line ∷ [])) in
        let there : slice_get (processes_of p q (lines ++ line ∷ [])) number.0 ≡ Some new =
        ap (λ xs. slice_get xs number.0) (whole ∙ ap (λ a. before ++ forked a) is) ∙ last_at before new in
        forked_there _ text args (fits.texts number new there)

    -- a call that comes next
    call_named : (lines : List Line) → FitsBehind lines → (number : ProcessNo) (x : Process) (kind : KindNo) (op : OpNo) (object : ObjectId) (args : Data) →
        slice_get (processes_of p q lines) number.0 ≡ Some x → next_of q x.text number x.args x.replies ≡ doing.At (action.Call kind op object args) →
        HasNames names (action.Call kind op object args)
    call_named lines fit number x kind op object args here next =
        let f = fit.calls number x kind op object args here next in
        called kind op kind.0 refl (calls f.0 kind op args f.2.args)

    line_named : (lines : List Line) (line : Line) → FitsBehind lines → FitsBehind (lines ++ line ∷ []) → IsStep p q (after_lines p (opening q) lines) line → HasNames names line.action
    line_named lines line fits next step = by line.action refl
      where
        by : (a : Action) → line.action ≡ a → HasNames names a
        by (action.Make kind object) is =
            let known = makes step.process.text line.process step.process.args step.process.replies most_turns kind object (step.next ∙ ap (λ a. doing.At a) is) in
            let there = kinds_there in
            omega (arith, known.1, there)
        by (action.Call kind op object args) is =
            call_named lines fits line.process step.process kind op object args step.exists (step.next ∙ ap (λ a. doing.At a) is)
        by (action.Fork text args place_on) is = fork_fits lines line next text args place_on is
        by action.Ended is = tt
        by (action.Faulted fault) is = tt

    walk : (done lines : List Line) → Legal p q (done ++ lines) → AllByRecursion (λ l. HasNames names l.action) lines
    walk done [] legal = tt
    walk done (line ∷ lines) legal =
        let longer : (done ++ line ∷ []) ++ lines ≡ done ++ line ∷ lines = append_assoc done (line ∷ []) lines in
        let more : Legal p q ((done ++ line ∷ []) ++ lines) = subst (Legal p q) (sym longer) legal in (
          line_named done line (fits_behind done (legal_left p q (opening q) done (line ∷ lines) legal))
              (fits_behind (done ++ line ∷ []) (legal_left p q (opening q) (done ++ line ∷ []) lines more))
              (legal_right p q (opening q) done (line ∷ lines) legal).0,
          walk (done ++ line ∷ []) lines more,
        )

    pub histories_named : HistoriesNamed us names
    histories_named lines legal = All-from_recursion (λ l. HasNames names l.action) lines (walk [] lines legal)

    pub calls_named : CallsNamed us names
    calls_named lines legal number x kind op object args here next = call_named lines (fits_behind lines legal) number x kind op object args here next
