-- The parts of a line: what is read is spelled so, and what is spelled so is read.
use Rattle.std.proofs.Common.{◌≡◌, ℕ, ℤ, pos, negsuc, ◌^◌, ◌<◌, ◌≤◌, Bool, true, false, cond, eqb, List, [], ◌∷◌, ◌++◌, length, take, drop, Option, Some, None, refl, sym, ap, subst, ◌∙◌, append_assoc, arith, inl, inr}
use Rattle.std.specs.Prelude.{FitsSigned, IsTrue, codes, nat_le}
use Rattle.std.specs.Char.{is_ascii_digit}
use Rattle.std.specs.Fmt.{decimal, signed_decimal}
use Rattle.std.specs.Int.{w64}
use Rattle.std.specs.Str.{bytes_eq}
use Rattle.std.specs.List.{list_all}
use Rattle.std.proofs.lemmas.Bool.{le-leb, leb-true}
use Rattle.std.proofs.lemmas.Bool.Decides.{nat_tests}
use Rattle.std.proofs.lemmas.List.{take_at, drop_at, take-append-drop}
use Rattle.std.proofs.lemmas.Slice.Eq.{bytes_eq-Decides}
use Rattle.orca_base.specs.declared.fault.FaultKind.{FaultKind}
use Rattle.orca_base.specs.declared.fault.FaultKind.TheVariants as fault
use Rattle.orca_base.specs.declared.ids.KindNo.{KindNo}
use Rattle.orca_base.specs.declared.ids.ObjectId.{ObjectId}
use Rattle.orca_base.specs.declared.ids.OpNo.{OpNo}
use Rattle.orca_base.specs.declared.limits.TheConstants.{PARAMETERS, VALUE_NESTING}
use Rattle.value_core.specs.Datum.{Datum, Data, data_of, data_of-list_of, list_of, list_of-data_of}
use Rattle.value_core.specs.Datum as datum
use Rattle.value_core.specs.Performable.{is_performable}
use Rattle.value_core.specs.Sound.{AreSoundArguments, IsGuardOf, IsSound, IsSoundAction, IsSoundReply}
use Rattle.value_core.specs.View.{datum_of, datum_of-value_of, value_of, value_of-datum_of}
use Rattle.value_core.specs.declared.action.Action.{Action}
use Rattle.value_core.specs.declared.action.Action.TheVariants as action
use Rattle.value_core.specs.declared.action.Reply.{Reply}
use Rattle.value_core.specs.declared.action.Reply.TheVariants as answer
use Rattle.value_texts.specs.Spelling.{BeginsWithNoDigit, parts_text, value_text}
use Rattle.value_texts.specs.Reading.{◌>>=◌, begins, integer_at, natural_at, natural_below, object_id_at, sign_at, value_at, values_at, word_at}
use Rattle.value_texts.proofs.Steps.{bind_some, bound, some_is, guarded, chosen, no_is}
use Rattle.value_texts.proofs.Items.{Fits}
use Rattle.value_texts.proofs.Letters.{sign_again, sign_takes, word_again, word_takes}
use Rattle.value_texts.proofs.Numerals.{below_takes, front_is, natural_takes}
use Rattle.value_texts.proofs.Values.{integer_again, integer_takes, number_first, object_id_again, object_id_takes, values_again, values_take}
use Rattle.value_texts.proofs.Facts.{read_again, read_sound}
use Rattle.history_text.specs.Reading.{action_at, arguments_at, call_at, called_at, fault_at, fault_of, fork_at, given_at, guarded_at, make_at, name_len, named_at, object_at, place_at, place_from, reply_at}
use Rattle.history_text.specs.Sound.{IsNamed, ObjectFits, PlaceFits, is_name_byte}
use Rattle.history_text.specs.Spelling.{action_text, arguments_text, called_name, fault_name, name_of, object_text, operation_names, place_text, reply_text}
use Rattle.history_text.specs.declared.names.Names.{Names}
use Rattle.history_text.proofs.Chains.{Behind, Spells, done, field, mark, spoken, three, worded}
use Rattle.history_text.proofs.Tables.{InTable, named_takes}

-- ---- numbers

pub below_spells : (limit : ℕ) → Spells (natural_below limit) decimal (λ n. n < limit)
below_spells limit text x fits e = below_takes limit text x e

pub natural_spells : Spells natural_at decimal (λ n. n < 2 ^ 64)
natural_spells text x fits e = natural_takes text x e

-- ---- objects

pub object_spells : Spells object_at object_text ObjectFits
unfolding object_at
object_spells text x fits e =
    let b = bind_some (sign_at 111 text) (λ rest. object_id_at rest) x e in
    let t = object_id_takes b.0 x b.2 in
    (sign_takes 111 text b.0 b.1 ∙ ap (λ (r : List ℕ). 111 ∷ r) t.0, (t.1, t.2))

pub object_again : (object : ObjectId) (rest : List ℕ) → ObjectFits object → BeginsWithNoDigit rest → object_at (object_text object ++ rest) ≡ Some (object, rest)
unfolding object_at
object_again object rest fits ends =
    let text = (decimal object.process ++ 46 ∷ decimal object.number) ++ rest in
    bound (sign_at 111 (111 ∷ text)) (λ rest. object_id_at rest) text (sign_again 111 text) ∙ object_id_again object rest fits.0 fits.1 ends

-- ---- arguments

few_are : (n : ℕ) → nat_le n PARAMETERS ≡ true → n ≤ PARAMETERS
few_are n h = leb-true n PARAMETERS h

pub arguments_spells : Spells arguments_at arguments_text AreSoundArguments
unfolding arguments_at
arguments_spells text x fits e =
    let b = bind_some (values_at text) (λ x. cond (nat_le (length x.0) PARAMETERS) (Some (data_of x.0, x.1)) None) x e in
    let g = guarded (nat_le (length b.0.0) PARAMETERS) (data_of b.0.0, b.0.1) x b.2 in
    let t = values_take text b.0 fits b.1 in
    let few : length (list_of (data_of b.0.0)) ≤ PARAMETERS = subst (λ (vs : List Datum). length vs ≤ PARAMETERS) (sym (list_of-data_of b.0.0)) (few_are (length b.0.0) g.0) in
    let whole : text ≡ arguments_text (data_of b.0.0) ++ b.0.1 = t.0 ∙ ap (λ (r : List ℕ). 40 ∷ r) (sym (append_assoc (parts_text (data_of b.0.0)) (41 ∷ []) b.0.1)) in
    subst (λ (y : Data × List ℕ). (text ≡ arguments_text y.0 ++ y.1) × AreSoundArguments y.0) g.1 (whole, record { values = t.1; few = few })

pub arguments_again : (args : Data) (rest : List ℕ) → AreSoundArguments args → arguments_at (arguments_text args ++ rest) ≡ Some (args, rest)
unfolding arguments_at
arguments_again args rest sound =
    let grouped : arguments_text args ++ rest ≡ 40 ∷ (parts_text args ++ 41 ∷ rest) = ap (λ (r : List ℕ). 40 ∷ r) (append_assoc (parts_text args) (41 ∷ []) rest) in
    bound (values_at (arguments_text args ++ rest)) (λ x. cond (nat_le (length x.0) PARAMETERS) (Some (data_of x.0, x.1)) None) (list_of args, rest) (ap values_at grouped ∙ values_again args rest sound.values)
    ∙ ap (λ (b : Bool). cond b (Some (data_of (list_of args), rest)) None) (le-leb (length (list_of args)) PARAMETERS sound.few)
    ∙ ap (λ (d : Data). Some (d, rest)) (data_of-list_of args)

-- arguments that were read
pub arguments_read : (text : List ℕ) (w : Data) (rest : List ℕ) → values_at text ≡ Some (list_of w, rest) → length (list_of w) ≤ PARAMETERS → arguments_at text ≡ Some (w, rest)
unfolding arguments_at
arguments_read text w rest e few =
    bound (values_at text) (λ x. cond (nat_le (length x.0) PARAMETERS) (Some (data_of x.0, x.1)) None) (list_of w, rest) e
    ∙ ap (λ (b : Bool). cond b (Some (data_of (list_of w), rest)) None) (le-leb (length (list_of w)) PARAMETERS few)
    ∙ ap (λ (d : Data). Some (d, rest)) (data_of-list_of w)

too_many : (n : ℕ) → PARAMETERS < n → nat_le n PARAMETERS ≡ false
too_many n h = grind (arith, nat_tests)

pub arguments_refused : (text : List ℕ) (w : Data) (rest : List ℕ) → values_at text ≡ Some (list_of w, rest) → PARAMETERS < length (list_of w) → arguments_at text ≡ None
unfolding arguments_at
arguments_refused text w rest e many =
    bound (values_at text) (λ x. cond (nat_le (length x.0) PARAMETERS) (Some (data_of x.0, x.1)) None) (list_of w, rest) e
    ∙ ap (λ (b : Bool). cond b (Some (data_of (list_of w), rest)) None) (too_many (length (list_of w)) many)

-- ---- where a fork is placed

place_by : (w : Option (List ℕ)) (text : List ℕ) (x : Option ℤ × List ℕ) → word_at (codes "parent") text ≡ w → place_from w text ≡ Some x → (text ≡ place_text x.0 ++ x.1) × PlaceFits x.0
unfolding place_from
place_by (Some rest) text x is e =
    subst (λ (y : Option ℤ × List ℕ). (text ≡ place_text y.0 ++ y.1) × PlaceFits y.0) (some_is (None, rest) x e) (word_takes (codes "parent") text rest is, tt)
place_by None text x is e =
    let b = bind_some (integer_at text) (λ z. Some (Some z.0, z.1)) x e in
    let t = integer_takes text b.0 b.1 in
    subst (λ (y : Option ℤ × List ℕ). (text ≡ place_text y.0 ++ y.1) × PlaceFits y.0) (some_is (Some b.0.0, b.0.1) x b.2) (t.0, t.1)

pub place_spells : Spells place_at place_text PlaceFits
unfolding place_at
place_spells text x fits e = place_by (word_at (codes "parent") text) text x refl e

-- no integer is `parent`
not_parent : (z : ℤ) (rest : List ℕ) → FitsSigned w64 z → word_at (codes "parent") (signed_decimal z ++ rest) ≡ None
unfolding word_at sign_at
not_parent (pos n) rest fits =
    let d = number_first n (omega (arith, fits.sfits)) in
    ap (λ (t : List ℕ). word_at (codes "parent") (t ++ rest)) d.parts ∙ other_sign d.first (d.others ++ rest) (no_p d.first d.digit)
  where
    no_p : (c : ℕ) → is_ascii_digit c ≡ true → eqb c 112 ≡ false
    no_p c h = grind (arith, nat_tests)

    other_sign : (c : ℕ) (text : List ℕ) → eqb c 112 ≡ false → word_at (codes "parent") (c ∷ text) ≡ None
    other_sign c text h = rw h refl
not_parent (negsuc n) rest fits = refl

pub place_again : (place : Option ℤ) (rest : List ℕ) → PlaceFits place → BeginsWithNoDigit rest → place_at (place_text place ++ rest) ≡ Some (place, rest)
unfolding place_at place_from
place_again None rest fits ends = ap (λ w. place_from w (codes "parent" ++ rest)) (word_again (codes "parent") rest)
place_again (Some z) rest fits ends =
    ap (λ w. place_from w (signed_decimal z ++ rest)) (not_parent z rest fits)
    ∙ bound (integer_at (signed_decimal z ++ rest)) (λ z. Some (Some z.0, z.1)) (z, rest) (integer_again z rest fits ends)

-- ---- replies

fault_takes : (name : List ℕ) (kind : FaultKind) → fault_of name ≡ Some kind → name ≡ fault_name kind
unfolding fault_of
fault_takes name kind e =
    elim (chosen (bytes_eq name (codes "Overflow")) _ _ _ e) [
      | inl d ↦ is (codes "Overflow") fault.Overflow d.0 refl d.1
      | inr d1 ↦ elim (chosen (bytes_eq name (codes "DivideByZero")) _ _ _ d1.1) [
        | inl d ↦ is (codes "DivideByZero") fault.DivideByZero d.0 refl d.1
        | inr d2 ↦ elim (chosen (bytes_eq name (codes "IndexOutside")) _ _ _ d2.1) [
          | inl d ↦ is (codes "IndexOutside") fault.IndexOutside d.0 refl d.1
          | inr d3 ↦ elim (chosen (bytes_eq name (codes "FromEmpty")) _ _ _ d3.1) [
            | inl d ↦ is (codes "FromEmpty") fault.FromEmpty d.0 refl d.1
            | inr d4 ↦ elim (chosen (bytes_eq name (codes "TooLarge")) _ _ _ d4.1) [
              | inl d ↦ is (codes "TooLarge") fault.TooLarge d.0 refl d.1
              | inr d5 ↦ elim (chosen (bytes_eq name (codes "TooLong")) _ _ _ d5.1) [
                | inl d ↦ is (codes "TooLong") fault.TooLong d.0 refl d.1
                | inr d6 ↦ elim (chosen (bytes_eq name (codes "TooDeep")) _ _ _ d6.1) [
                  | inl d ↦ is (codes "TooDeep") fault.TooDeep d.0 refl d.1
                  | inr d7 ↦
                      let g = guarded (bytes_eq name (codes "NoReturn")) fault.NoReturn kind d7.1 in
                      (bytes_eq-Decides name (codes "NoReturn")).0 g.0 ∙ ap fault_name g.1
                ]
              ]
            ]
          ]
        ]
      ]
    ]
  where
    is : (word : List ℕ) (k : FaultKind) → bytes_eq name word ≡ true → word ≡ fault_name k → Some k ≡ Some kind → name ≡ fault_name kind
    is word k h same e = (bytes_eq-Decides name word).0 h ∙ same ∙ ap fault_name (some_is k kind e)

fault_again : (kind : FaultKind) → fault_of (fault_name kind) ≡ Some kind
unfolding fault_of
fault_again fault.Overflow = refl
fault_again fault.DivideByZero = refl
fault_again fault.IndexOutside = refl
fault_again fault.FromEmpty = refl
fault_again fault.TooLarge = refl
fault_again fault.TooLong = refl
fault_again fault.TooDeep = refl
fault_again fault.NoReturn = refl

pub fault_letters : (kind : FaultKind) → list_all is_name_byte (fault_name kind) ≡ true
fault_letters fault.Overflow = refl
fault_letters fault.DivideByZero = refl
fault_letters fault.IndexOutside = refl
fault_letters fault.FromEmpty = refl
fault_letters fault.TooLarge = refl
fault_letters fault.TooLong = refl
fault_letters fault.TooDeep = refl
fault_letters fault.NoReturn = refl

abbrev ReplyIs : List ℕ → Reply × List ℕ → Type 0
ReplyIs text x = (text ≡ reply_text x.0 ++ x.1) × IsSoundReply x.0

broke_takes : (text rest : List ℕ) (x : Reply × List ℕ) → text ≡ codes "fault " ++ rest → fault_at rest ≡ Some x → ReplyIs text x
unfolding fault_at reply_text
broke_takes text rest x is e =
    let len = name_len rest in
    let b = bind_some (fault_of (take len rest)) (λ kind. Some (answer.Broke kind, drop len rest)) x e in
    let parts : rest ≡ fault_name b.0 ++ drop len rest = sym (take-append-drop len rest) ∙ ap (λ (t : List ℕ). t ++ drop len rest) (fault_takes (take len rest) b.0 b.1) in
    subst (λ (y : Reply × List ℕ). ReplyIs text y) (some_is (answer.Broke b.0, drop len rest) x b.2)
    (is ∙ ap (λ (t : List ℕ). codes "fault " ++ t) parts ∙ sym (append_assoc (codes "fault ") (fault_name b.0) (drop len rest)), tt)

gave_takes : (text : List ℕ) (x : Reply × List ℕ) → Fits text → (value_at VALUE_NESTING text >>= λ v. Some (answer.Gave (value_of v.0), v.1)) ≡ Some x → ReplyIs text x
unfolding reply_text
gave_takes text x fits e =
    let b = bind_some (value_at VALUE_NESTING text) (λ v. Some (answer.Gave (value_of v.0), v.1)) x e in
    let t = read_sound text b.0 fits b.1 in
    let same : b.0.0 ≡ datum_of (value_of b.0.0) = sym (datum_of-value_of b.0.0) in
    subst (λ (y : Reply × List ℕ). ReplyIs text y) (some_is (answer.Gave (value_of b.0.0), b.0.1) x b.2)
    (t.1 ∙ ap (λ (d : Datum). value_text d ++ b.0.1) same, subst IsSound same t.0)

given_by : (w : Option (List ℕ)) (text : List ℕ) (x : Reply × List ℕ) → Fits text → word_at (codes "fault ") text ≡ w → given_at w text ≡ Some x → ReplyIs text x
unfolding given_at
given_by (Some rest) text x fits is e = broke_takes text rest x (word_takes (codes "fault ") text rest is) e
given_by None text x fits is e = gave_takes text x fits e

none_takes : (text : List ℕ) (x : Reply × List ℕ) → (word_at (codes "none") text >>= λ rest. Some (answer.Done, rest)) ≡ Some x → ReplyIs text x
unfolding reply_text
none_takes text x e =
    let b = bind_some (word_at (codes "none") text) (λ rest. Some (answer.Done, rest)) x e in
    subst (λ (y : Reply × List ℕ). ReplyIs text y) (some_is (answer.Done, b.0) x b.2) (word_takes (codes "none") text b.0 b.1, tt)

pub reply_spells : Spells reply_at reply_text IsSoundReply
unfolding reply_at
reply_spells text x fits e =
    elim (chosen (begins 110 text) _ _ _ e) [
      | inl d ↦ none_takes text x d.1
      | inr d ↦ given_by (word_at (codes "fault ") text) text x fits refl d.1
    ]

-- a value's text is no fault
no_fault : (v : Datum) (rest : List ℕ) → IsSound v → word_at (codes "fault ") (value_text v ++ rest) ≡ None
unfolding word_at sign_at
no_fault (datum.int (pos n)) rest sound =
    let d = number_first n (omega (arith, sound.well_formed.sfits)) in
    ap (λ (t : List ℕ). word_at (codes "fault ") (t ++ rest)) d.parts ∙ other_sign d.first (d.others ++ rest) (no_f d.first d.digit)
  where
    no_f : (c : ℕ) → is_ascii_digit c ≡ true → eqb c 102 ≡ false
    no_f c h = grind (arith, nat_tests)

    other_sign : (c : ℕ) (text : List ℕ) → eqb c 102 ≡ false → word_at (codes "fault ") (c ∷ text) ≡ None
    other_sign c text h = rw h refl
no_fault (datum.int (negsuc n)) rest sound = refl
no_fault (datum.truth true) rest sound = refl
no_fault (datum.truth false) rest sound = refl
no_fault (datum.char c) rest sound = refl
no_fault (datum.enumerated n) rest sound = refl
no_fault (datum.text t) rest sound = refl
no_fault (datum.array w) rest sound = refl
no_fault (datum.fields w) rest sound = refl
no_fault (datum.set w) rest sound = refl
no_fault (datum.bag w) rest sound = refl
no_fault (datum.object p n) rest sound = refl

-- nor is it `none`
no_none : (v : Datum) (rest : List ℕ) → IsSound v → begins 110 (value_text v ++ rest) ≡ false
no_none (datum.int (pos n)) rest sound =
    let d = number_first n (omega (arith, sound.well_formed.sfits)) in
    ap (λ (t : List ℕ). begins 110 (t ++ rest)) d.parts ∙ no_n d.first d.digit
  where
    no_n : (c : ℕ) → is_ascii_digit c ≡ true → eqb c 110 ≡ false
    no_n c h = grind (arith, nat_tests)
no_none (datum.int (negsuc n)) rest sound = refl
no_none (datum.truth true) rest sound = refl
no_none (datum.truth false) rest sound = refl
no_none (datum.char c) rest sound = refl
no_none (datum.enumerated n) rest sound = refl
no_none (datum.text t) rest sound = refl
no_none (datum.array w) rest sound = refl
no_none (datum.fields w) rest sound = refl
no_none (datum.set w) rest sound = refl
no_none (datum.bag w) rest sound = refl
no_none (datum.object p n) rest sound = refl

fault_reads : (kind : FaultKind) (rest : List ℕ) → name_len rest ≡ 0 → fault_at (fault_name kind ++ rest) ≡ Some (answer.Broke kind, rest)
unfolding fault_at
fault_reads kind rest ends =
    let text = fault_name kind ++ rest in
    let len : name_len text ≡ length (fault_name kind) = front_is is_name_byte (fault_name kind) rest (fault_letters kind) ends in
    let front : take (name_len text) text ≡ fault_name kind = take_at (fault_name kind) rest (name_len text) (sym len) in
    let back : drop (name_len text) text ≡ rest = drop_at (fault_name kind) rest (name_len text) (sym len) in
    bound (fault_of (take (name_len text) text)) (λ kind. Some (answer.Broke kind, drop (name_len text) text)) kind (ap fault_of front ∙ fault_again kind)
    ∙ ap (λ (t : List ℕ). Some (answer.Broke kind, t)) back

-- what ends a reply begins with no digit and no byte of a name
pub reply_again : (reply : Reply) (rest : List ℕ) → IsSoundReply reply → BeginsWithNoDigit rest → name_len rest ≡ 0 → reply_at (reply_text reply ++ rest) ≡ Some (reply, rest)
unfolding reply_at reply_text given_at
reply_again answer.Done rest sound ends stops = bound (word_at (codes "none") (codes "none" ++ rest)) (λ rest. Some (answer.Done, rest)) rest (word_again (codes "none") rest)
reply_again (answer.Gave value) rest sound ends stops =
    let v = datum_of value in
    let text = value_text v ++ rest in
    no_is (begins 110 text) (word_at (codes "none") text >>= λ rest. Some (answer.Done, rest)) (given_at (word_at (codes "fault ") text) text) (no_none v rest sound)
    ∙ ap (λ w. given_at w text) (no_fault v rest sound)
    ∙ bound (value_at VALUE_NESTING text) (λ v. Some (answer.Gave (value_of v.0), v.1)) (v, rest) (read_again v rest sound ends)
    ∙ ap (λ u. Some (answer.Gave u, rest)) (value_of-datum_of value)
reply_again (answer.Broke kind) rest sound ends stops =
    let grouped : (codes "fault " ++ fault_name kind) ++ rest ≡ codes "fault " ++ (fault_name kind ++ rest) = append_assoc (codes "fault ") (fault_name kind) rest in
    ap reply_at grouped
    ∙ ap (λ w. given_at w (codes "fault " ++ (fault_name kind ++ rest))) (word_again (codes "fault ") (fault_name kind ++ rest))
    ∙ fault_reads kind rest stops

-- ---- actions

abbrev pub Act : Type 0
Act = Action × ℕ

abbrev pub act_text : Names → Act → List ℕ
act_text names act = action_text names act.0 act.1

-- an action of a sound line, and its guard
pub record IsAct (names : Names) (act : Act) : Type 0 where
  pub sound : IsSoundAction act.0
  pub performable : IsTrue (is_performable act.0)
  pub is_guard : IsGuardOf act.0 act.1
  pub guard : act.1 < 2 ^ 16
  pub named : IsNamed names act.0

make_spells : (names : Names) → Behind (codes "make ") (make_at names) (act_text names) (IsAct names)
unfolding make_at action_text
make_spells names =
    field (codes "make ") (named_at names.kinds.items) (name_of names.kinds.items) (InTable names.kinds.items) _ (act_text names) (IsAct names) (named_takes names.kinds.items) (λ kind known.
    mark (codes "make " ++ name_of names.kinds.items kind) 32 _ (act_text names) (IsAct names) (
    field ((codes "make " ++ name_of names.kinds.items kind) ++ 32 ∷ []) object_at object_text ObjectFits _ (act_text names) (IsAct names) object_spells (λ object fits.
    done (((codes "make " ++ name_of names.kinds.items kind) ++ 32 ∷ []) ++ object_text object) (action.Make (record { 0 = kind }) object, 0) (act_text names) (IsAct names) (simp append_assoc)
    (record { sound = tt; performable = refl; is_guard = refl; guard = omega arith; named = (known, fits) }))))

abbrev pub called_text : Names → KindNo × OpNo → List ℕ
called_text names called = called_name names called.0 called.1

abbrev pub IsCalled : Names → KindNo × OpNo → Type 0
IsCalled names called = InTable names.kinds.items called.0.0 × InTable (operation_names names called.0.0) called.1.0

abbrev pub called_of : ℕ → ℕ → KindNo × OpNo
called_of kind op = (record { 0 = kind }, record { 0 = op })

pub called_spells : (names : Names) → Spells (called_at names) (called_text names) (IsCalled names)
unfolding called_at
called_spells names =
    field [] (named_at names.kinds.items) (name_of names.kinds.items) (InTable names.kinds.items) _ (called_text names) (IsCalled names) (named_takes names.kinds.items) (λ kind known.
    let ops = operation_names names kind in
    let a = name_of names.kinds.items kind in
    mark a 36 _ (called_text names) (IsCalled names) (
    field (a ++ 36 ∷ []) (named_at ops) (name_of ops) (InTable ops) _ (called_text names) (IsCalled names) (named_takes ops) (λ op listed.
    done ((a ++ 36 ∷ []) ++ name_of ops op) (called_of kind op) (called_text names) (IsCalled names) (sym (append_assoc a (36 ∷ []) (name_of ops op))) (known, listed))))

abbrev pub guarded_text : Data × ℕ → List ℕ
guarded_text given = arguments_text given.0 ++ (codes " guard " ++ decimal given.1)

abbrev pub IsGuarded : Data × ℕ → Type 0
IsGuarded given = AreSoundArguments given.0 × (given.1 < 2 ^ 16)

pub guarded_spells : Spells guarded_at guarded_text IsGuarded
unfolding guarded_at
guarded_spells =
    field [] arguments_at arguments_text AreSoundArguments _ guarded_text IsGuarded arguments_spells (λ args sound.
    spoken (arguments_text args) (codes " guard ") _ guarded_text IsGuarded (
    field (arguments_text args ++ codes " guard ") (natural_below (2 ^ 16)) decimal (λ n. n < 2 ^ 16) _ guarded_text IsGuarded (below_spells (2 ^ 16)) (λ guard small.
    done ((arguments_text args ++ codes " guard ") ++ decimal guard) (args, guard) guarded_text IsGuarded (sym (append_assoc (arguments_text args) (codes " guard ") (decimal guard))) (sound, small))))

call_spells : (names : Names) → Behind (codes "call ") (call_at names) (act_text names) (IsAct names)
unfolding call_at action_text
call_spells names =
    field (codes "call ") (called_at names) (called_text names) (IsCalled names) _ (act_text names) (IsAct names) (called_spells names) (λ called known.
    let a = codes "call " ++ called_text names called in
    mark a 32 _ (act_text names) (IsAct names) (
    field (a ++ 32 ∷ []) object_at object_text ObjectFits _ (act_text names) (IsAct names) object_spells (λ object fits.
    let b = (a ++ 32 ∷ []) ++ object_text object in
    mark b 32 _ (act_text names) (IsAct names) (
    field (b ++ 32 ∷ []) guarded_at guarded_text IsGuarded _ (act_text names) (IsAct names) guarded_spells (λ given is.
    done ((b ++ 32 ∷ []) ++ guarded_text given) (action.Call called.0 called.1 object given.0, given.1) (act_text names) (IsAct names) (sym (three a (object_text object) (guarded_text given) 32 32))
    (record { sound = is.0; performable = refl; is_guard = tt; guard = is.1; named = (known.0, known.1, fits) }))))))

fork_spells : (names : Names) → Behind (codes "fork ") (fork_at names) (act_text names) (IsAct names)
unfolding fork_at action_text
fork_spells names =
    field (codes "fork ") (named_at names.texts.items) (name_of names.texts.items) (InTable names.texts.items) _ (act_text names) (IsAct names) (named_takes names.texts.items) (λ process known.
    let a = codes "fork " ++ name_of names.texts.items process in
    mark a 32 _ (act_text names) (IsAct names) (
    field (a ++ 32 ∷ []) arguments_at arguments_text AreSoundArguments _ (act_text names) (IsAct names) arguments_spells (λ args sound.
    let b = (a ++ 32 ∷ []) ++ arguments_text args in
    spoken b (codes " on ") _ (act_text names) (IsAct names) (
    field (b ++ codes " on ") place_at place_text PlaceFits _ (act_text names) (IsAct names) place_spells (λ place fits.
    done ((b ++ codes " on ") ++ place_text place) (action.Fork (record { 0 = process }) args place, 0) (act_text names) (IsAct names) (sym (worded a (arguments_text args) (codes " on ") (place_text place) 32))
    (record { sound = sound; performable = refl; is_guard = refl; guard = omega arith; named = (known, fits) }))))))

pub act_spells : (names : Names) → Spells (action_at names) (act_text names) (IsAct names)
unfolding action_at
act_spells names text x fits e =
    elim (chosen (begins 109 text) _ _ _ e) [
      | inl d ↦ spoken [] (codes "make ") (make_at names) (act_text names) (IsAct names) (make_spells names) text x fits d.1
      | inr d1 ↦ elim (chosen (begins 99 text) _ _ _ d1.1) [
        | inl d ↦ spoken [] (codes "call ") (call_at names) (act_text names) (IsAct names) (call_spells names) text x fits d.1
        | inr d ↦ spoken [] (codes "fork ") (fork_at names) (act_text names) (IsAct names) (fork_spells names) text x fits d.1
      ]
    ]
