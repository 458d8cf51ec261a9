-- Lines: what is read is sound and spelled so, and what is sound and spelled so is read.
use Rattle.std.proofs.Common.{◌≡◌, ℕ, ◌^◌, ◌<◌, List, [], ◌∷◌, ◌++◌, length, Some, refl, sym, ap, ◌∙◌, append_assoc, arith}
use Rattle.std.specs.Fmt.{decimal}
use Rattle.std.proofs.lemmas.List.{length-append}
use Rattle.orca_base.specs.declared.ids.CallNo.{CallNo}
use Rattle.orca_base.specs.declared.ids.ProcessNo.{ProcessNo}
use Rattle.value_core.specs.Sound.{IsSoundReply}
use Rattle.value_core.specs.declared.action.Line.{Line}
use Rattle.value_core.specs.declared.action.Reply.{Reply}
use Rattle.value_texts.specs.Spelling.{BeginsWithNoDigit}
use Rattle.value_texts.specs.Reading.{natural_at, natural_below}
use Rattle.value_texts.proofs.Steps.{some_is}
use Rattle.value_texts.proofs.Letters.{sign_again}
use Rattle.value_texts.proofs.Numerals.{below_again, natural_again}
use Rattle.history_text.specs.Reading.{action_at, caller_at, last_at, line_at, reply_at}
use Rattle.history_text.specs.Sound.{AreTables, IsLine}
use Rattle.history_text.specs.Spelling.{action_text, line_text, reply_text}
use Rattle.history_text.specs.declared.names.Names.{Names}
use Rattle.history_text.proofs.Chains.{Spells, done, field, mark, three}
use Rattle.history_text.proofs.Pieces.{Act, IsAct, act_spells, act_text, below_spells, natural_spells, reply_again, reply_spells}
use Rattle.history_text.proofs.ActsAgain.{act_again}

abbrev caller_text : ProcessNo × CallNo → List ℕ
caller_text caller = decimal caller.0.0 ++ 32 ∷ decimal caller.1.0

abbrev IsCaller : ProcessNo × CallNo → Type 0
IsCaller caller = (caller.0.0 < 2 ^ 16) × (caller.1.0 < 2 ^ 64)

abbrev caller_of : ℕ → ℕ → ProcessNo × CallNo
caller_of process call = (record { 0 = process }, record { 0 = call })

caller_spells : Spells caller_at caller_text IsCaller
unfolding caller_at
caller_spells =
    field [] (natural_below (2 ^ 16)) decimal (λ n. n < 2 ^ 16) _ caller_text IsCaller (below_spells (2 ^ 16)) (λ process small.
    let a = decimal process in
    mark a 32 _ caller_text IsCaller (
    field (a ++ 32 ∷ []) natural_at decimal (λ n. n < 2 ^ 64) _ caller_text IsCaller natural_spells (λ call fits.
    done ((a ++ 32 ∷ []) ++ decimal call) (caller_of process call) caller_text IsCaller (sym (append_assoc a (32 ∷ []) (decimal call))) (small, fits))))

caller_again : (caller : ProcessNo × CallNo) (rest : List ℕ) → IsCaller caller → BeginsWithNoDigit rest → caller_at (caller_text caller ++ rest) ≡ Some (caller, rest)
unfolding caller_at
caller_again caller rest is ends =
    let next = decimal caller.1.0 ++ rest in
    ap caller_at (append_assoc (decimal caller.0.0) (32 ∷ decimal caller.1.0) rest)
    ∙ rw (below_again (2 ^ 16) caller.0.0 (32 ∷ next) is.0 (omega (arith, is.0)) refl, sign_again 32 next, natural_again caller.1.0 rest is.1 ends) refl

abbrev last_text : Reply → List ℕ
last_text reply = reply_text reply ++ 10 ∷ []

last_spells : Spells last_at last_text IsSoundReply
unfolding last_at
last_spells =
    field [] reply_at reply_text IsSoundReply _ last_text IsSoundReply reply_spells (λ reply sound.
    mark (reply_text reply) 10 _ last_text IsSoundReply (
    done (reply_text reply ++ 10 ∷ []) reply last_text IsSoundReply refl sound))

last_again : (reply : Reply) (rest : List ℕ) → IsSoundReply reply → last_at (last_text reply ++ rest) ≡ Some (reply, rest)
unfolding last_at
last_again reply rest sound = ap last_at (append_assoc (reply_text reply) (10 ∷ []) rest) ∙ rw (reply_again reply (10 ∷ rest) sound refl refl, sign_again 10 rest) refl

abbrev line_of : ProcessNo × CallNo → Act → Reply → Line
line_of caller act reply = record { process = caller.0; call = caller.1; action = act.0; guard = act.1; reply = reply }

pub line_spells : (names : Names) → Spells (line_at names) (line_text names) (IsLine names)
unfolding line_at line_text
line_spells names =
    field [] caller_at caller_text IsCaller _ (line_text names) (IsLine names) caller_spells (λ caller fits.
    let a = caller_text caller in
    mark a 32 _ (line_text names) (IsLine names) (
    field (a ++ 32 ∷ []) (action_at names) (act_text names) (IsAct names) _ (line_text names) (IsLine names) (act_spells names) (λ act is.
    let b = (a ++ 32 ∷ []) ++ act_text names act in
    mark b 32 _ (line_text names) (IsLine names) (
    field (b ++ 32 ∷ []) last_at last_text IsSoundReply _ (line_text names) (IsLine names) last_spells (λ reply sound.
    done ((b ++ 32 ∷ []) ++ last_text reply) (line_of caller act reply) (line_text names) (IsLine names) (sym (three a (act_text names act) (last_text reply) 32 32 ∙ append_assoc (decimal caller.0.0) (32 ∷ decimal caller.1.0) (32 ∷ (act_text names act ++ 32 ∷ last_text reply))))
    (record { sound = record { action = is.sound; performable = is.performable; guard = is.is_guard; reply = sound }; process = fits.0; call = fits.1; guard = is.guard; action = is.named }))))))

pub line_again : (names : Names) → AreTables names → (line : Line) (rest : List ℕ) → IsLine names line → line_at names (line_text names line ++ rest) ≡ Some (line, rest)
unfolding line_at line_text
line_again names tables line rest is =
    let process = decimal line.process.0 in
    let call = decimal line.call.0 in
    let act = action_text names line.action line.guard in
    let said = last_text line.reply in
    let replied = said ++ rest in
    let acted = act ++ 32 ∷ replied in
    let is_act : IsAct names (line.action, line.guard) = record { sound = is.sound.action; performable = is.sound.performable; is_guard = is.sound.guard; guard = is.guard; named = is.action } in
    let grouped : (process ++ 32 ∷ (call ++ 32 ∷ (act ++ 32 ∷ said))) ++ rest ≡ (process ++ 32 ∷ call) ++ 32 ∷ acted =
    append_assoc process (32 ∷ (call ++ 32 ∷ (act ++ 32 ∷ said))) rest
    ∙ ap (λ (t : List ℕ). process ++ 32 ∷ t) (append_assoc call (32 ∷ (act ++ 32 ∷ said)) rest)
    ∙ ap (λ (t : List ℕ). process ++ 32 ∷ (call ++ 32 ∷ t)) (append_assoc act (32 ∷ said) rest)
    ∙ sym (append_assoc process (32 ∷ call) (32 ∷ acted)) in
    ap (line_at names) grouped
    ∙ rw (
      caller_again (line.process, line.call) (32 ∷ acted) (is.process, is.call) refl,
      sign_again 32 acted,
      act_again names tables line.action line.guard (32 ∷ replied) is_act refl,
      sign_again 32 replied,
      last_again line.reply rest is.sound.reply,
    ) refl

-- no line's text is a proper prefix of another's
pub line_prefix : (names : Names) → AreTables names → (one two : Line) (behind more : List ℕ) → IsLine names one → IsLine names two → line_text names one ++ behind ≡ line_text names two ++ more → (one ≡ two) × (behind ≡ more)
line_prefix names tables one two behind more is are same =
    let e : (one, behind) ≡ (two, more) = some_is (one, behind) (two, more) (sym (line_again names tables one behind is) ∙ ap (line_at names) same ∙ line_again names tables two more are) in
    (ap (λ (p : Line × List ℕ). p.0) e, ap (λ (p : Line × List ℕ). p.1) e)

-- a line's text isn't empty
pub line_some : (names : Names) (line : Line) → 0 < length (line_text names line)
unfolding line_text
line_some names line =
    let behind = decimal line.call.0 ++ 32 ∷ (action_text names line.action line.guard ++ 32 ∷ (reply_text line.reply ++ 10 ∷ [])) in
    omega (arith, length-append (decimal line.process.0) (32 ∷ behind))
