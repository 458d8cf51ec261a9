-- Choices text by text: of texts one after the other, what was asked and what was chosen.
use Rattle.std.proofs.Common.{◌≡◌, ℕ, suc, ◌+◌, ◌≤◌, List, [], ◌∷◌, ◌++◌, length, map, take, drop, refl, sym, ap, ◌∙◌, arith, append_assoc}
use Rattle.std.specs.List.{zip}
use Rattle.std.proofs.Common.{◌<◌, get_or, subst}
use Rattle.std.proofs.lemmas.List.{append-nil, drop-append-le, length-append, length-drop, map-append, take-append-drop, take-append-le, take_all}
use Rattle.std.proofs.Math.Seq.{take-append_seam}
use Rattle.std.proofs.lemmas.Grind.{flat_map-append}
use Rattle.orca_base.specs.declared.what.Choice.{Choice}
use Rattle.site_estimates.specs.declared.estimate.Estimate.{Estimate}
use Rattle.access_estimates.proofs.Rest.{rest_is}
use Rattle.estimate_rules.specs.Sites.{all_of, choices_of}
use Rattle.replica_choice.specs.declared.policy.Asked.{Asked}
use Rattle.replica_choice.specs.Asking.{AsksFirst, Rule, asked, choices_by, questions}

-- ---- some sites, and others behind them

zip_both : {A B : Type 0} (xs zs : List A) (ys ws : List B) → length ys ≡ length xs → zip (xs ++ zs) (ys ++ ws) ≡ zip xs ys ++ zip zs ws
zip_both [] zs [] ws e = refl
zip_both [] zs (y ∷ ys) ws e = absurd (omega (arith, e))
zip_both (x ∷ xs) zs [] ws e = absurd (omega (arith, e))
zip_both {A} {B} (x ∷ xs) zs (y ∷ ys) ws e = ap (λ (l : List (A × B)). (x, y) ∷ l) (zip_both xs zs ys ws (omega (arith, e)))

module _ (rule : Rule) (nodes : ℕ) where
  -- what is known behind these questions, and chosen by it
  abbrev after : List Asked → List Estimate → List Asked
  after told es = told ++ questions nodes es (choices_by rule nodes told es)

  pub each_chosen : (told : List Asked) (es : List Estimate) → length (choices_by rule nodes told es) ≡ length es
  each_chosen told [] = refl
  each_chosen told (e ∷ es) = ap (λ (n : ℕ). suc n) (each_chosen (told ++ asked nodes e (rule told nodes e) ∷ []) es)

  pub chosen_behind : (told : List Asked) (es fs : List Estimate) →
      choices_by rule nodes told (es ++ fs) ≡ choices_by rule nodes told es ++ choices_by rule nodes (after told es) fs
  chosen_behind told [] fs = ap (λ (l : List Asked). choices_by rule nodes l fs) (sym (append-nil told))
  chosen_behind told (e ∷ es) fs =
      let c = rule told nodes e in
      let first = told ++ asked nodes e c ∷ [] in
      let others = choices_by rule nodes first es in
      ap (λ (l : List Choice). c ∷ l)
      (chosen_behind first es fs
      ∙ ap (λ (l : List Asked). others ++ choices_by rule nodes l fs) (append_assoc told (asked nodes e c ∷ []) (questions nodes es others)))

  asked_both : (es fs : List Estimate) (cs ds : List Choice) → length cs ≡ length es →
      questions nodes (es ++ fs) (cs ++ ds) ≡ questions nodes es cs ++ questions nodes fs ds
  asked_both es fs cs ds long =
      ap (map (λ (p : Estimate × Choice). asked nodes p.0 p.1)) (zip_both es fs cs ds long)
      ∙ map-append (λ (p : Estimate × Choice). asked nodes p.0 p.1) (zip es cs) (zip fs ds)

  pub known_behind : (told : List Asked) (es fs : List Estimate) → after told (es ++ fs) ≡ after (after told es) fs
  known_behind told es fs =
      let cs = choices_by rule nodes told es in
      let ds = choices_by rule nodes (after told es) fs in
      ap (λ (l : List Choice). told ++ questions nodes (es ++ fs) l) (chosen_behind told es fs)
      ∙ ap (λ (l : List Asked). told ++ l) (asked_both es fs cs ds (each_chosen told es))
      ∙ sym (append_assoc told (questions nodes es cs) (questions nodes fs ds))

  -- ---- so many from the front

  -- who asked about all of some sites, and about the first of others behind them, asked about the first of all
  pub first_behind : (told now new : List Asked) (es fs gs : List Estimate) → now ≡ after told es → AsksFirst rule nodes fs now new →
      AsksFirst rule nodes (es ++ (fs ++ gs)) told new
  first_behind told now new es fs gs is first =
      let k = first.0 in
      let some = take k fs in
      let all : es ++ (fs ++ gs) ≡ (es ++ some) ++ (drop k fs ++ gs) =
      ap (λ (l : List Estimate). es ++ (l ++ gs)) (sym (take-append-drop k fs))
      ∙ ap (λ (l : List Estimate). es ++ l) (append_assoc some (drop k fs) gs)
      ∙ sym (append_assoc es some (drop k fs ++ gs))
      in
      let front : take (length (es ++ some)) (es ++ (fs ++ gs)) ≡ es ++ some =
      ap (take (length (es ++ some))) all ∙ take-append_seam (es ++ some) (drop k fs ++ gs)
      in (
        length (es ++ some),
        first.1
            ∙ ap (λ (l : List Asked). after l some) is
            ∙ sym (known_behind told es some)
            ∙ ap (λ (l : List Estimate). after told l) (sym front),
      )

-- ---- text by text

pub text_more : (ess : List (List Estimate)) (es : List Estimate) (cs ds : List Choice) → length cs ≡ length (all_of ess) → length ds ≡ length es →
    choices_of (ess ++ es ∷ []) (cs ++ ds) ≡ choices_of ess cs ++ ds ∷ []
text_more [] es [] ds many own = ap (λ (l : List Choice). l ∷ []) (take_all (length es) ds (omega (arith, own)))
text_more [] es (c ∷ cs) ds many own = absurd (omega (arith, many))
text_more (e ∷ ess) es cs ds many own =
    let both = length-append e (all_of ess) in
    let behind = length-drop (length e) cs in
    let within : length e ≤ length cs = omega (arith, many, both) in
    ap (λ (l : List Choice). l ∷ choices_of (ess ++ es ∷ []) (drop (length e) (cs ++ ds))) (take-append-le (length e) cs ds within)
    ∙ ap (λ (l : List Choice). take (length e) cs ∷ choices_of (ess ++ es ∷ []) l) (drop-append-le (length e) cs ds within)
    ∙ ap (λ (l : List (List Choice)). take (length e) cs ∷ l) (text_more ess es (drop (length e) cs) ds (omega (arith, many, both, behind)) own)

pub all_more : (ess : List (List Estimate)) (es : List Estimate) → all_of (ess ++ es ∷ []) ≡ all_of ess ++ es
all_more ess es = flat_map-append (λ (l : List Estimate). l) ess (es ∷ []) ∙ ap (λ (l : List Estimate). all_of ess ++ l) (append-nil es)

-- ---- a text more

module _ (rule : Rule) (nodes : ℕ) where
  abbrev after_all : List Asked → List (List Estimate) → List Asked
  after_all told ess = told ++ questions nodes (all_of ess) (choices_by rule nodes told (all_of ess))

  pub known_next : (told now new : List Asked) (ess more : List (List Estimate)) (es : List Estimate) (cs : List Choice) → more ≡ ess ++ es ∷ [] →
      now ≡ after_all told ess → cs ≡ choices_by rule nodes now es → new ≡ now ++ questions nodes es cs → new ≡ after_all told more
  known_next told now new ess more es cs e is chosen asked_so =
      asked_so
      ∙ ap (λ (l : List Choice). now ++ questions nodes es l) chosen
      ∙ ap (λ (l : List Asked). l ++ questions nodes es (choices_by rule nodes l es)) is
      ∙ sym (known_behind rule nodes told (all_of ess) es)
      ∙ ap (λ (l : List Estimate). told ++ questions nodes l (choices_by rule nodes told l)) (sym (all_more ess es))
      ∙ ap (λ (l : List (List Estimate)). after_all told l) (sym e)

  pub choices_next : (told now : List Asked) (ess more : List (List Estimate)) (es : List Estimate) (cs : List Choice) (old new : List (List Choice)) →
      more ≡ ess ++ es ∷ [] → now ≡ after_all told ess → cs ≡ choices_by rule nodes now es → old ≡ choices_of ess (choices_by rule nodes told (all_of ess)) →
      new ≡ old ++ cs ∷ [] → new ≡ choices_of more (choices_by rule nodes told (all_of more))
  choices_next told now ess more es cs old new e is chosen before pushed =
      let front = choices_by rule nodes told (all_of ess) in
      let own = choices_by rule nodes (after_all told ess) es in
      pushed
      ∙ ap (λ (l : List (List Choice)). l ++ cs ∷ []) before
      ∙ ap (λ (l : List Choice). choices_of ess front ++ l ∷ []) (chosen ∙ ap (λ (l : List Asked). choices_by rule nodes l es) is)
      ∙ sym (text_more ess es front own (each_chosen rule nodes told (all_of ess)) (each_chosen rule nodes (after_all told ess) es))
      ∙ ap (λ (l : List Choice). choices_of (ess ++ es ∷ []) l)
      (sym (chosen_behind rule nodes told (all_of ess) es) ∙ ap (λ (l : List Estimate). choices_by rule nodes told l) (sym (all_more ess es)))
      ∙ ap (λ (l : List (List Estimate)). choices_of l (choices_by rule nodes told (all_of l))) (sym e)

  -- who asked about all texts in front, and about the first sites of the next one, asked about the first of all
  pub first_next : {A : Type 0} (view : A → List Estimate) (xs : List A) (i : ℕ) (x : A) (told now new : List Asked) → i < length xs → x ≡ get_or xs i x →
      now ≡ after_all told (map view (take i xs)) → AsksFirst rule nodes (view x) now new → AsksFirst rule nodes (all_of (map view xs)) told new
  first_next {A} view xs i x told now new lt there is first =
      let others = map view (drop (i + 1) xs) in
      let all : all_of (map view (take i xs)) ++ (view x ++ all_of others) ≡ all_of (map view xs) =
      sym (flat_map-append (λ (l : List Estimate). l) (map view (take i xs)) (view x ∷ others))
      ∙ ap all_of
      (ap (λ (l : List A). map view (take i xs) ++ map view l) (sym (rest_is xs i x lt there))
      ∙ sym (map-append view (take i xs) (drop i xs))
      ∙ ap (map view) (take-append-drop i xs))
      in
      subst (λ (l : List Estimate). AsksFirst rule nodes l told new) all
      (first_behind rule nodes told now new (all_of (map view (take i xs))) (view x) (all_of others) is first)

-- by an equal rule, and about the same sites
pub same_first : (one two : Rule) (nodes : ℕ) (es fs : List Estimate) (old new : List Asked) → one ≡ two → es ≡ fs → AsksFirst one nodes es old new →
    AsksFirst two nodes fs old new
same_first one two nodes es fs old new rules sites first =
    subst (λ (l : List Estimate). AsksFirst two nodes l old new) sites (subst (λ (r : Rule). AsksFirst r nodes es old new) rules first)
