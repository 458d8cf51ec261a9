use Rattle.std.proofs.Common.{rules, ◌≡◌, ℕ, Bool, true, List, [], ◌∷◌, ◌++◌, length, vec_len, map, Some, None, Option, cond, sym, ap, ◌∙◌}
use Rattle.std.specs.Prelude.{bytes_eq, position}
use Rattle.std.specs.Borrow.{Bor}
use Rattle.std.specs.BTreeMap.{BTreeMap}
use Rattle.std.proofs.lemmas.List.{map-append, length-map}
use Rattle.type_rules.specs.TopLevel.{TopName, bears}
use Rattle.type_forms.specs.declared.tops.Top.{Top}
use Rattle.type_forms.specs.Seen.{top}
use Rattle.type_tables.specs.Entries.{entry, or_other}
use Rattle.program_tables.specs.declared.texts.Texts.{Texts}
use Rattle.program_tables.specs.Listed.{Lists}
use Rattle.program_tables.proofs.Listing.{placed_more}
use Rattle.program_tables.proofs.texts.add.Goals as goal

processes : (ts : List TopName) (t : Texts) (x : Top) (b : Bool) (items : List Top) → b ≡ true → Lists ts t → items ≡ t.processes.items ++ x ∷ [] →
    map top items ≡ ts ++ cond b (top x ∷ []) []
processes ts t x b items is lists e =
    rw is (ap (map top) e ∙ map-append top t.processes.items (x ∷ []) ∙ ap (λ (l : List TopName). l ++ top x ∷ []) lists.processes)

places : (ts : List TopName) (t : Texts) (x : Top) (b : Bool) (now : BTreeMap (Bor (List ℕ)) ℕ) (n : List ℕ) → b ≡ true → Lists ts t →
    entry now n ≡ or_other (entry t.places n) (cond (bytes_eq x.name.now n) (Some (length t.processes.items)) None) →
    entry now n ≡ position (bears n) (ts ++ cond b (top x ∷ []) [])
places ts t x b now n is lists e =
    rw is (e
    ∙ ap (λ (o : Option ℕ). or_other o (cond (bytes_eq x.name.now n) (Some (length t.processes.items)) None)) (lists.places n)
    ∙ ap (λ (k : ℕ). or_other (position (bears n) ts) (cond (bytes_eq x.name.now n) (Some k) None)) (sym (length-map t.processes.items top) ∙ ap length lists.processes)
    ∙ sym (placed_more (bears n) ts (top x)))

pub returns-in_ok-push : goal.returns-in_ok-push
returns-in_ok-push c = λ ts lists.
    let counted : vec_len c.args.texts.now.processes ≡ length c.args.texts.now.processes.items = search rules in
    let is = sym c.is_process.ensures ∙ c.if-is_process.true in
    record {
      processes = processes ts c.args.texts.now c.args.item.now _ _ is lists c.in_ok-push.ensures.items;
      places = λ n. places ts c.args.texts.now c.args.item.now _ c.note.new.table n is lists
          ((c.in_ok-note.ensures {u = tt}) n
          ∙ ap (λ (k : ℕ). or_other (entry c.args.texts.now.places n) (cond (bytes_eq c.args.item.now.name.now n) (Some k) None)) (c.len.ensures ∙ counted));
    }
