use Rattle.std.proofs.Common.{rules, ◌≡◌, ℕ, ◌+◌, ◌≤◌, List, [], ◌∷◌, ◌++◌, length, vec_len, map, filter, take, cond, sym, ap, subst, ◌∙◌, arith}
use Rattle.std.proofs.lemmas.List.{length-append, length-map, take_all}
use Rattle.type_rules.specs.TopLevel.{TopName}
use Rattle.meaning_rules.specs.Programs.{is_specification}
use Rattle.type_forms.specs.declared.tops.Top.{Top}
use Rattle.type_forms.specs.Seen.{top}
use Rattle.program_tables.proofs.Listing.{Has, has_more, passed_more, told}
use Rattle.program_tables.proofs.objects.kinds_of.Goals as goal

-- how many pass in front of a place
abbrev counted : List Top → ℕ → ℕ
counted tops i = length (filter is_specification (take i (map top tops)))

one_more : (xs ys : List ℕ) (y k : ℕ) → ys ≡ xs ++ y ∷ [] → length xs ≡ k → length ys ≡ k + 1
one_more xs ys y k e long = let sum = ap (λ (l : List ℕ). length l) e ∙ length-append xs (y ∷ []) in omega (arith, sum, long)

more : (tops specified : List Top) (xs ys : List ℕ) (k : ℕ) → ys ≡ xs ++ length specified ∷ [] → length xs ≡ k →
    map top specified ≡ filter is_specification (take k (map top tops)) → Has (counted tops) xs → Has (counted tops) ys
more tops specified xs ys k e long are has =
    subst (λ (l : List ℕ). Has (counted tops) l) (sym e)
    (has_more (counted tops) xs (length specified) has
    (sym (length-map specified top) ∙ ap (λ (l : List TopName). length l) are ∙ ap (counted tops) (sym long)))

pub tops-preserved : goal.tops-preserved
tops-preserved c =
    let counted_all : vec_len c.tops.specifications ≡ length c.tops.specifications.items = search rules in (
      (c.in_ok-add.ensures {u = tt})
          ∙ ap (λ (l : List TopName). l ++ cond (is_specification (top c.item-item.result)) (top c.item-item.result ∷ []) []) c.tops.invariant.0
          ∙ sym (passed_more top is_specification c.tops-tops.result.now c.tops.item-index c.item-item.result c.tops-test.true c.item-item.is),
      one_more c.tops.before.items _ _ c.tops.item-index c.in_ok-push.ensures.items c.tops.invariant.1,
      more c.tops-tops.result.now c.tops.specifications.items c.tops.before.items _ c.tops.item-index (c.in_ok-push.ensures.items ∙ ap (λ (n : ℕ). c.tops.before.items ++ n ∷ []) (c.len.ensures ∙ counted_all)) c.tops.invariant.1 c.tops.invariant.0 c.tops.invariant.2,
    )

past : (tops specified : List Top) (k i : ℕ) → length tops ≤ k → map top specified ≡ filter is_specification (take k (map top tops)) → k ≤ i →
    length specified ≡ counted tops i
past tops specified k i all are le =
    let long = length-map tops top in
    sym (length-map specified top) ∙ ap (λ (l : List TopName). length l) are
    ∙ ap (λ (l : List TopName). length (filter is_specification l))
    (take_all k (map top tops) (omega (arith, all, long)) ∙ sym (take_all i (map top tops) (omega (arith, all, long, le))))

pub returns : goal.returns
returns c = λ us t.
    let tops = c.tops-tops.result.now in
    let long = length-map tops top in
    let i0 = c.tops.invariant.1 in
    record {
      specifications = c.tops.invariant.0
          ∙ ap (filter is_specification) (take_all c.tops.item-index (map top tops) (omega (arith, long, c.tops-test.false)) ∙ c.tops-tops.ensures us t);
      before = λ i. told (counted tops) c.tops.before.items (length c.tops.specifications.items) c.tops.invariant.2
          (λ j le. past tops c.tops.specifications.items c.tops.item-index j (omega (arith, c.tops-test.false)) c.tops.invariant.0 (omega (arith, i0, le))) i
          ∙ ap (λ (l : List TopName). length (filter is_specification (take i l))) (c.tops-tops.ensures us t);
    }
