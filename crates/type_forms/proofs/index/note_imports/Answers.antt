use Rattle.std.proofs.Common.{◌≡◌, ℕ, List, Option, Some, Bool, true, false, cond, refl, sym, ap, ◌∙◌, map}
use Rattle.std.specs.Prelude.{bytes_eq, unwrap_or}
use Rattle.std.specs.Borrow.{Bor}
use Rattle.std.specs.BTreeMap.{BTreeMap, get_by}
use Rattle.std.specs.Cmp.Lexicographic.{slice_cmp}
use Rattle.std.specs.Ordering.{nat_cmp}
use Rattle.std.specs.List.{list_any}
use Rattle.std.proofs.lemmas.Map.Text.{btree_map_updates_str}
use Rattle.std.proofs.lemmas.Slice.Eq.{bytes_eq-Decides}
use Rattle.link_rules.specs.Units.{Source, imports, source}
use Rattle.type_forms.specs.Seen.{has, is_imported}
use Rattle.type_forms.specs.Indexed.{ImportsOf}
use Rattle.type_forms.proofs.index.note_imports.Goals as goal

abbrev Table : Type 0
Table = BTreeMap (Bor (List ℕ)) (Unit {0})

abbrev found : BTreeMap (Bor (List ℕ)) Table → List ℕ → Option Table
found tables m = get_by (λ k. slice_cmp nat_cmp m k.now) tables

-- a table more
with_table : (old new : BTreeMap (Bor (List ℕ)) Table) (us : List Source) (home : List ℕ) (value : Table) →
    ((m : List ℕ) → found new m ≡ cond (bytes_eq home m) (Some value) (found old m)) →
    ((n : List ℕ) → has value n ≡ list_any (is_imported home n) (imports us)) → ImportsOf old us → ImportsOf new us
with_table old new us home value update right before m names e n = by_test (bytes_eq home m) refl
  where
    by_test : (b : Bool) → bytes_eq home m ≡ b → has names n ≡ list_any (is_imported m n) (imports us)
    by_test true is =
        let same = ap (λ (o : Option Table). unwrap_or o value) (sym (ap (λ (b : Bool). cond b (Some value) (found old m)) is) ∙ sym (update m) ∙ e) in
        ap (λ (t : Table). has t n) (sym same) ∙ right n
        ∙ ap (λ (v : List ℕ). list_any (is_imported v n) (imports us)) ((bytes_eq-Decides home m).0 is)
    by_test false is =
        before m names (sym (ap (λ (b : Bool). cond b (Some value) (found old m)) is) ∙ sym (update m) ∙ e) n

pub returns-in_ok-insert : goal.returns-in_ok-insert
returns-in_ok-insert c = λ before.
    with_table c.args.tables.now c.insert.new.self (map source c.args.units.now) c.args.home.now c.in_ok-names.names
    (btree_map_updates_str _ c.args.tables.now c.insert.new.self _ (c.in_ok-insert.ensures {u = tt}).updates)
    (c.in_ok-names.ensures {u = tt}) before
