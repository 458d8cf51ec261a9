-- Messages and replies: what is read is sound and spelled so, and what is sound and spelled so is read.
use Rattle.std.proofs.Common.{◌≡◌, ℕ, zero, suc, ◌≤◌, true, cond, eqb, List, [], ◌∷◌, ◌++◌, length, None, Ok, refl, sym, ap, subst, ◌∙◌, append_assoc, arith, inl, inr}
use Rattle.std.specs.List.{flat_map}
use Rattle.std.specs.Int.{w16, w32, w64}
use Rattle.std.proofs.lemmas.List.Elements.{All-from_recursion, recursion_from_All}
use Rattle.orca_base.specs.declared.ids.ProcessNo.{ProcessNo}
use Rattle.orca_base.specs.declared.ids.CallNo.{CallNo}
use Rattle.orca_base.specs.declared.fault.FaultKind.{FaultKind}
use Rattle.orca_base.specs.declared.fault.FaultKind.TheVariants.{Overflow, DivideByZero, IndexOutside, FromEmpty, TooLarge, TooLong, TooDeep, NoReturn}
use Rattle.orca_base.specs.declared.limits.TheConstants.{VALUE_NESTING}
use Rattle.value_core.specs.Sound.{AreSoundArguments, IsSound, IsSoundReply}
use Rattle.value_core.specs.Datum.{Datum}
use Rattle.value_core.specs.View.{datum_of, value_of, datum_of-value_of, value_of-datum_of}
use Rattle.value_core.specs.declared.value.Value.{Value}
use Rattle.value_core.specs.Performable.{is_performable}
use Rattle.value_core.specs.declared.action.Action.{Action}
use Rattle.value_core.specs.declared.action.Action.TheVariants as action
use Rattle.value_core.specs.declared.action.Reply.{Reply}
use Rattle.value_core.specs.declared.action.Reply.TheVariants as answer
use Rattle.value_core.specs.declared.message.Message.{Message}
use Rattle.value_bytes.specs.Spelling.{spelling}
use Rattle.value_bytes.specs.Reading.{◌>>=◌, number_at, byte_at, items_at, value_at}
use Rattle.value_bytes.proofs.Fields.{byte_again}
use Rattle.value_bytes.proofs.Items.{joined, Spells}
use Rattle.value_bytes.proofs.Values.{Is, one, value_takes, value_again}
use Rattle.group_packets.specs.Sound.{AreSoundEntries}
use Rattle.packet_bytes.specs.Reading.{any, choice_at, object_at, place_at, arguments_at, make_at, call_at, fork_at, action_at, message_at, messages_at, fault_of, gave_at, broke_at, reply_at}
use Rattle.packet_bytes.specs.Sound.{Fits2, Fits4, Fits8, ObjectFits, PlaceFits, IsMessage}
use Rattle.packet_bytes.specs.Spelling.{two, four, eight, object_spelling, place_spelling, arguments_spelling, message_spelling, messages_spelling, fault_number, reply_spelling}
use Rattle.packet_bytes.proofs.Chains.{Behind, field, done, finish, Again}
use Rattle.packet_bytes.proofs.Pieces.{two_takes, four_takes, eight_takes, byte_taken, two_again, four_again, eight_again, IsChoice, choice_takes, object_takes, object_again, place_takes, place_again, AreSome, some_take, some_again, arguments_takes, arguments_again}
use Rattle.packet_bytes.proofs.Readers.{same_fact}

-- ---- a message that is read

-- what stands before the fields of the action with this byte
abbrev before : ℕ → ℕ → ℕ → List ℕ
before process call tag = (two process ++ eight call) ++ one tag

make_takes : (end process call : ℕ) → Fits2 process → Fits8 call → Behind (before process call 1) (make_at end (record { 0 = process }) (record { 0 = call })) message_spelling IsMessage
unfolding make_at message_spelling
make_takes end process call small fits =
    field (before process call 1) (number_at w16 end) two Fits2 _ _ _ (two_takes end) (λ kind kind-fits.
    field (before process call 1 ++ two kind) (object_at end) object_spelling ObjectFits _ _ _ (object_takes end) (λ object object-fits.
    done ((before process call 1 ++ two kind) ++ object_spelling object) (record { process = record { 0 = process }; call = record { 0 = call }; action = action.Make (record { 0 = kind }) object; performable = refl }) _ _
    (simp append_assoc)
    (record { sound = record { action = tt; performable = refl }; process = small; call = fits; action = (kind-fits, object-fits) })))

call_takes : (end process call : ℕ) → Fits2 process → Fits8 call → Behind (before process call 2) (call_at end (record { 0 = process }) (record { 0 = call })) message_spelling IsMessage
unfolding call_at message_spelling
call_takes end process call small fits =
    field (before process call 2) (number_at w16 end) two Fits2 _ _ _ (two_takes end) (λ kind kind-fits.
    field (before process call 2 ++ two kind) (number_at w16 end) two Fits2 _ _ _ (two_takes end) (λ op op-fits.
    field ((before process call 2 ++ two kind) ++ two op) (object_at end) object_spelling ObjectFits _ _ _ (object_takes end) (λ object object-fits.
    field (((before process call 2 ++ two kind) ++ two op) ++ object_spelling object) (arguments_at end) arguments_spelling AreSoundArguments _ _ _ (arguments_takes end) (λ args sound.
    done ((((before process call 2 ++ two kind) ++ two op) ++ object_spelling object) ++ arguments_spelling args)
    (record { process = record { 0 = process }; call = record { 0 = call }; action = action.Call (record { 0 = kind }) (record { 0 = op }) object args; performable = refl }) _ _
    (simp append_assoc)
    (record { sound = record { action = sound; performable = refl }; process = small; call = fits; action = (kind-fits, op-fits, object-fits) })))))

fork_takes : (end process call : ℕ) → Fits2 process → Fits8 call → Behind (before process call 3) (fork_at end (record { 0 = process }) (record { 0 = call })) message_spelling IsMessage
unfolding fork_at message_spelling
fork_takes end process call small fits =
    field (before process call 3) (number_at w16 end) two Fits2 _ _ _ (two_takes end) (λ text text-fits.
    field (before process call 3 ++ two text) (place_at end) place_spelling PlaceFits _ _ _ (place_takes end) (λ place place-fits.
    field ((before process call 3 ++ two text) ++ place_spelling place) (arguments_at end) arguments_spelling AreSoundArguments _ _ _ (arguments_takes end) (λ args sound.
    done (((before process call 3 ++ two text) ++ place_spelling place) ++ arguments_spelling args)
    (record { process = record { 0 = process }; call = record { 0 = call }; action = action.Fork (record { 0 = text }) args place; performable = refl }) _ _
    (simp append_assoc)
    (record { sound = record { action = sound; performable = refl }; process = small; call = fits; action = (text-fits, place-fits) }))))

action_takes : (end process call tag : ℕ) → Fits2 process → Fits8 call → IsChoice tag → Behind (before process call tag) (action_at tag end (record { 0 = process }) (record { 0 = call })) message_spelling IsMessage
action_takes end process call tag small fits (inl is) =
    subst (λ (t : ℕ). Behind (before process call t) (action_at t end (record { 0 = process }) (record { 0 = call })) message_spelling IsMessage) (sym is) (make_takes end process call small fits)
action_takes end process call tag small fits (inr (inl is)) =
    subst (λ (t : ℕ). Behind (before process call t) (action_at t end (record { 0 = process }) (record { 0 = call })) message_spelling IsMessage) (sym is) (call_takes end process call small fits)
action_takes end process call tag small fits (inr (inr is)) =
    subst (λ (t : ℕ). Behind (before process call t) (action_at t end (record { 0 = process }) (record { 0 = call })) message_spelling IsMessage) (sym is) (fork_takes end process call small fits)

pub message_takes : (end : ℕ) → Spells (message_at end) message_spelling IsMessage
unfolding message_at
message_takes end =
    field [] (number_at w16 end) two Fits2 _ _ _ (two_takes end) (λ process small.
    field (two process) (number_at w64 end) eight Fits8 _ _ _ (eight_takes end) (λ call fits.
    field (two process ++ eight call) (choice_at end) one IsChoice _ _ _ (choice_takes end) (λ tag is.
    action_takes end process call tag small fits is)))

-- ---- a message that is spelled

choice_1 : (end : ℕ) → Again (choice_at end) (one 1) 1
unfolding choice_at
choice_1 end rest = refl

choice_2 : (end : ℕ) → Again (choice_at end) (one 2) 2
unfolding choice_at
choice_2 end rest = refl

choice_3 : (end : ℕ) → Again (choice_at end) (one 3) 3
unfolding choice_at
choice_3 end rest = refl

acted_again : (end : ℕ) (process : ProcessNo) (call : CallNo) (a : Action) (ok : is_performable a ≡ true) → IsMessage (record { process = process; call = call; action = a; performable = ok }) →
    Again (message_at end) (message_spelling (record { process = process; call = call; action = a; performable = ok })) (record { process = process; call = call; action = a; performable = ok })
unfolding message_at message_spelling make_at call_at fork_at
acted_again end process call (action.Make kind object) ok is rest =
    simp (append_assoc, two_again end process.0 is.process, eight_again end call.0 is.call, choice_1 end, two_again end kind.0 is.action.0, object_again end object is.action.1)
    (ap (λ (p : true ≡ true). Ok (record { process = process; call = call; action = action.Make kind object; performable = p }, rest)) (same_fact true refl ok))
acted_again end process call (action.Call kind op object args) ok is rest =
    simp (
      append_assoc,
      two_again end process.0 is.process,
      eight_again end call.0 is.call,
      choice_2 end,
      two_again end kind.0 is.action.0,
      two_again end op.0 is.action.1,
      object_again end object is.action.2,
      arguments_again end args is.sound.action,
    )
    (ap (λ (p : true ≡ true). Ok (record { process = process; call = call; action = action.Call kind op object args; performable = p }, rest)) (same_fact true refl ok))
acted_again end process call (action.Fork text args place) ok is rest =
    simp (append_assoc, two_again end process.0 is.process, eight_again end call.0 is.call, choice_3 end, two_again end text.0 is.action.0, place_again end place is.action.1, arguments_again end args is.sound.action)
    (ap (λ (p : true ≡ true). Ok (record { process = process; call = call; action = action.Fork text args place; performable = p }, rest)) (same_fact true refl ok))
acted_again end process call action.Ended ok is rest = absurd (cc ok)
acted_again end process call (action.Faulted fault) ok is rest = absurd (cc ok)

pub message_again : (end : ℕ) (m : Message) → IsMessage m → Again (message_at end) (message_spelling m) m
message_again end m is = acted_again end m.process m.call m.action m.performable is

-- ---- messages

joined-flat : {X : Type 0} (spell : X → List ℕ) (xs : List X) → joined spell xs ≡ flat_map spell xs
joined-flat spell [] = refl
joined-flat spell (x ∷ xs) = ap (λ (t : List ℕ). spell x ++ t) (joined-flat spell xs)

pub messages_takes : (end : ℕ) → Spells (messages_at end) messages_spelling (AreSoundEntries IsMessage)
unfolding messages_at messages_spelling
messages_takes end =
    field [] (number_at w32 end) four Fits4 _ _ _ (four_takes end) (λ n fits.
    finish (four n) (items_at (message_at end) any end n None) (joined message_spelling) (AreSome IsMessage n) _ _ (some_take (message_at end) message_spelling IsMessage end n (message_takes end)) (λ ms are.
    let text : four (length ms) ++ flat_map message_spelling ms ≡ four n ++ joined message_spelling ms =
    ap (λ (k : ℕ). four k ++ flat_map message_spelling ms) are.0 ∙ ap (λ (t : List ℕ). four n ++ t) (sym (joined-flat message_spelling ms)) in
    (text, (All-from_recursion IsMessage ms are.1, omega (arith, are.0, fits)))))

pub messages_again : (end : ℕ) (ms : List Message) → AreSoundEntries IsMessage ms → Again (messages_at end) (messages_spelling ms) ms
unfolding messages_at messages_spelling
messages_again end ms sound rest =
    let n = length ms in
    let text = flat_map message_spelling ms in
    let items : items_at (message_at end) any end n None (text ++ rest) ≡ Ok (ms, rest) =
    ap (λ (s : List ℕ). items_at (message_at end) any end n None (s ++ rest)) (sym (joined-flat message_spelling ms))
    ∙ some_again (message_at end) message_spelling IsMessage end (λ m more is. message_again end m is more) ms (recursion_from_All IsMessage ms sound.0) rest in
    ap (λ (s : List ℕ). number_at w32 end s >>= λ n. items_at (message_at end) any end n.0 None n.1) (append_assoc (four n) text rest)
    ∙ rw (four_again end n sound.1 (text ++ rest), items) refl

-- ---- replies

number_back : (n : ℕ) → n ≤ 7 → fault_number (fault_of n) ≡ n
number_back zero le = refl
number_back (suc zero) le = refl
number_back (suc (suc zero)) le = refl
number_back (suc (suc (suc zero))) le = refl
number_back (suc (suc (suc (suc zero)))) le = refl
number_back (suc (suc (suc (suc (suc zero))))) le = refl
number_back (suc (suc (suc (suc (suc (suc zero)))))) le = refl
number_back (suc (suc (suc (suc (suc (suc (suc zero))))))) le = refl
number_back (suc (suc (suc (suc (suc (suc (suc (suc n)))))))) le = absurd (omega (arith, le))

fault_back : (f : FaultKind) → (fault_of (fault_number f) ≡ f) × (fault_number f ≤ 7)
fault_back Overflow = (refl, omega arith)
fault_back DivideByZero = (refl, omega arith)
fault_back IndexOutside = (refl, omega arith)
fault_back FromEmpty = (refl, omega arith)
fault_back TooLarge = (refl, omega arith)
fault_back TooLong = (refl, omega arith)
fault_back TooDeep = (refl, omega arith)
fault_back NoReturn = (refl, omega arith)

gave_takes : (end : ℕ) → Behind (one 1) (gave_at end) reply_spelling IsSoundReply
unfolding gave_at reply_spelling
gave_takes end =
    field (one 1) (value_at end VALUE_NESTING) spelling (Is VALUE_NESTING) _ _ _ (value_takes end VALUE_NESTING) (λ v is.
    let same = datum_of-value_of v in
    done (one 1 ++ spelling v) (answer.Gave (value_of v)) _ _ (ap (λ (d : Datum). 1 ∷ spelling d) same) (subst IsSound (sym same) (record { well_formed = is.0; shallow = is.1 })))

broke_takes : (end : ℕ) → Behind (one 2) (broke_at end) reply_spelling IsSoundReply
unfolding broke_at reply_spelling
broke_takes end =
    field (one 2) (byte_at 7 end) one (λ b. b ≤ 7) _ _ _ (byte_taken 7 end) (λ n le.
    done (one 2 ++ one n) (answer.Broke (fault_of n)) _ _ (ap (λ (k : ℕ). 2 ∷ k ∷ []) (number_back n le)) tt)

reply_by : (end tag : ℕ) → tag ≤ 2 → Behind (one tag) (λ rest. cond (eqb tag 0) (Ok (answer.Done, rest)) (cond (eqb tag 1) (gave_at end rest) (broke_at end rest))) reply_spelling IsSoundReply
unfolding reply_spelling
reply_by end zero le = done (one 0) answer.Done _ _ refl tt
reply_by end (suc zero) le = gave_takes end
reply_by end (suc (suc zero)) le = broke_takes end
reply_by end (suc (suc (suc n))) le = absurd (omega (arith, le))

pub reply_takes : (end : ℕ) → Spells (reply_at end) reply_spelling IsSoundReply
unfolding reply_at
reply_takes end = field [] (byte_at 2 end) one (λ b. b ≤ 2) _ _ _ (byte_taken 2 end) (λ tag le. reply_by end tag le)

pub reply_again : (end : ℕ) (r : Reply) → IsSoundReply r → Again (reply_at end) (reply_spelling r) r
unfolding reply_at gave_at broke_at reply_spelling
reply_again end answer.Done sound rest = rw (byte_again 2 end 0 rest (omega arith)) refl
reply_again end (answer.Gave v) sound rest =
    rw (byte_again 2 end 1 (spelling (datum_of v) ++ rest) (omega arith), value_again end VALUE_NESTING (datum_of v) rest (sound.well_formed, sound.shallow))
    (ap (λ (w : Value). Ok (answer.Gave w, rest)) (value_of-datum_of v))
reply_again end (answer.Broke f) sound rest =
    let b = fault_back f in
    rw (byte_again 2 end 2 (fault_number f ∷ rest) (omega arith), byte_again 7 end (fault_number f) rest b.1)
    (ap (λ (g : FaultKind). Ok (answer.Broke g, rest)) b.0)
