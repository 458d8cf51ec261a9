-- Writes beside a map: what they show, and what is found among them.
use Rattle.std.proofs.Common.{◌≡◌, ℕ, ◌+◌, T, Bool, true, false, cond, List, [], ◌∷◌, ◌++◌, length, Some, None, ap, ◌∙◌, sym, refl, subst, zero, suc, is_some, drop}
use Rattle.std.specs.Prelude.{slice_get}
use Rattle.std.specs.List.{AllByRecursion}
use Rattle.std.specs.Arc.{arc_value}
use Rattle.std.specs.BTreeMap.{BTreeMap, insert_entry, is_at}
use Rattle.std.specs.Cmp.{tied_itself}
use Rattle.std.specs.declared.alloc.Global.{Global}
use Rattle.std.specs.declared.sync.Arc.{Arc}
use Rattle.std.specs.Ordering.{is_eq, match_ordering}
use Rattle.std.specs.declared.cmp.Ordering.TheVariants.{Less, Equal, Greater}
use Rattle.std.specs.FinMap.Entries.{is_sorted, is_sorted-put, length-put, put, same_entries}
use Rattle.orca_base.specs.declared.ids.ObjectId.{ObjectId}
use Rattle.value_core.specs.declared.action.Instance.{Instance}
use Rattle.value_core.specs.History.{Objects, object_cmp, object_at, with_object}
use Rattle.guard_queue.specs.declared.objects.Write.{Write}
use Rattle.guard_queue.specs.Shown.{Rises, or_else, shown, shown_objects, with_all, written, written_at, written_objects}
use Rattle.guard_queue.proofs.Shared.{insert_shown}
use Rattle.guard_queue.proofs.Lookups.{exact_objects, found, object_at-with_object, object_total, placed}

-- one more write
pub all_last : (objects ws : Objects) (w : ObjectId × Instance) → with_all objects (ws ++ w ∷ []) ≡ with_object (with_all objects ws) w.0 w.1
all_last objects [] w = refl
all_last objects (v ∷ ws) w = all_last (with_object objects v.0 v.1) ws w

-- what is found: the last write at the id, else what was there before
pub found_all : (objects ws : Objects) (q : ObjectId) → object_at (with_all objects ws) q ≡ or_else (written_at ws q) (object_at objects q)
found_all objects [] q = refl
found_all objects (w ∷ ws) q =
    found_all (with_object objects w.0 w.1) ws q
    ∙ ap (or_else (written_at ws q)) (object_at-with_object objects w.0 w.1 q)
    ∙ elim (written_at ws q) as (λ o. or_else o (cond (is_at (object_cmp q) w.0) (Some w.1) (object_at objects q)) ≡ or_else (or_else o (cond (is_at (object_cmp q) w.0) (Some w.1) None)) (object_at objects q)) [
      | None ↦ elim (is_at (object_cmp q) w.0) as (λ b. cond b (Some w.1) (object_at objects q) ≡ or_else (cond b (Some w.1) None) (object_at objects q)) [ true ↦ refl | false ↦ refl ]
      | Some kept ↦ refl
    ]

-- ids that rise go on rising, and an object that is put in counts where it wasn't there
pub rises_with : (objects : Objects) (k : ObjectId) (v : Instance) → Rises objects → Rises (with_object objects k v)
rises_with objects k v rises = subst (λ es. T (is_sorted object_cmp es)) (placed objects k v) (is_sorted-put object_cmp object_total k v objects rises)

pub length_with : (objects : Objects) (k : ObjectId) (v : Instance) → Rises objects → length (with_object objects k v) ≡ cond (is_some (object_at objects k)) (length objects) (length objects + 1)
length_with objects k v rises =
    ap length (sym (placed objects k v)) ∙ length-put object_cmp object_total k v objects rises
    ∙ ap (λ o. cond (is_some o) (length objects) (length objects + 1)) (found objects k)

-- objects whose ids rise are the same where the same is found at each id
pub same_objects : (one other : Objects) → Rises one → Rises other → ((q : ObjectId) → object_at one q ≡ object_at other q) → one ≡ other
same_objects one other r s same = same_entries object_cmp object_total exact_objects one other r s (λ q. found one q ∙ same q ∙ sym (found other q))

-- P of the id of each entry
abbrev pub AllIds : (ObjectId → Type 0) → Objects → Type 0
AllIds P es = AllByRecursion (λ e. P e.0) es

ids_with : (P : ObjectId → Type 0) (es : Objects) (k : ObjectId) (v : Instance) → AllIds P es → P k → AllIds P (with_object es k v)
ids_with P [] k v all here = (here, tt)
ids_with P (e ∷ es) k v all here =
    elim (object_cmp k e.0) as (λ o. AllIds P (match_ordering o ((k, v) ∷ e ∷ es) ((e.0, v) ∷ es) (e ∷ with_object es k v))) [
      | Less ↦ (here, all)
      | Equal ↦ all
      | Greater ↦ (all.0, ids_with P es k v all.1 here)
    ]

pub ids_all : (P : ObjectId → Type 0) (objects ws : Objects) → AllIds P objects → AllIds P ws → AllIds P (with_all objects ws)
ids_all P objects [] all more = all
ids_all P objects (w ∷ ws) all more = ids_all P (with_object objects w.0 w.1) ws (ids_with P objects w.0 w.1 all more.0) more.1

-- P of an id at which there is an object
pub ids_found : (P : ObjectId → Type 0) (es : Objects) (q : ObjectId) → AllIds P es → is_some (object_at es q) ≡ true → P q
ids_found P [] q all there = cc
ids_found P (e ∷ es) q all there =
    elim (object_cmp q e.0) as (λ o. object_cmp q e.0 ≡ o → is_some (cond (is_eq o) (Some e.1) (object_at es q)) ≡ true → P q) [
      | Less ↦ λ is h. ids_found P es q all.1 h
      | Equal ↦ λ is h. subst P (sym (exact_objects q e.0 is)) all.0
      | Greater ↦ λ is h. ids_found P es q all.1 h
    ] refl there

-- the last write to an object
pub found_write : (recent : List Write) (object : ObjectId) (i : ℕ) (w v : Write) → slice_get recent i ≡ Some w → slice_get recent i ≡ Some v → w.object ≡ object
    → written_at (written_objects (drop (suc i) recent)) object ≡ None → Some (arc_value v.kept) ≡ written_at (written_objects recent) object
found_write [] object i w v at also same none = cc
found_write (x ∷ xs) object zero w v at also same none =
    let here : x ≡ w = cc at in
    let there : x ≡ v = cc also in
    let id : x.object ≡ object = ap (λ (y : Write). y.object) here ∙ same in
    let is : is_at (object_cmp object) x.object ≡ true = ap (λ q. is_at (object_cmp object) q) id ∙ ap is_eq (tied_itself object_total object) in
    sym (ap (λ o. or_else o (cond (is_at (object_cmp object) x.object) (Some (arc_value x.kept)) None)) none ∙ ap (λ b. cond b (Some (arc_value x.kept)) None) is ∙ ap (λ (y : Write). Some (arc_value y.kept)) there)
found_write (x ∷ xs) object (suc i) w v at also same none =
    sym (ap (λ o. or_else o (cond (is_at (object_cmp object) x.object) (Some (arc_value x.kept)) None)) (sym (found_write xs object i w v at also same none)))

-- what is found beside a map
pub found_shown : (shared : BTreeMap ObjectId (Arc Instance Global)) (recent : List Write) (now : Objects) (q : ObjectId) → shown shared recent ≡ now → object_at now q ≡ or_else (written_at (written_objects recent) q) (object_at (shown_objects shared.entries) q)
found_shown shared recent now q is = ap (λ o. object_at o q) (sym is) ∙ found_all (shown_objects shared.entries) (written_objects recent) q

written_last : (recent : List Write) (w : Write) → written_objects (recent ++ w ∷ []) ≡ written_objects recent ++ written w ∷ []
written_last [] w = refl
written_last (v ∷ ws) w = ap (λ xs. written v ∷ xs) (written_last ws w)

-- a write more beside a map
pub shown_last : (shared : BTreeMap ObjectId (Arc Instance Global)) (recent all : List Write) (w : Write) (now : Objects) (kept : Instance) → shown shared recent ≡ now → all ≡ recent ++ w ∷ [] → arc_value w.kept ≡ kept → shown shared all ≡ with_object now w.object kept
shown_last shared recent all w now kept is pushed same =
    ap (shown shared) pushed ∙ ap (with_all (shown_objects shared.entries)) (written_last recent w) ∙ all_last (shown_objects shared.entries) (written_objects recent) (written w)
    ∙ ap (λ o. with_object o w.object (arc_value w.kept)) is ∙ ap (with_object now w.object) same

-- the first write goes into the map
pub shown_first : (m n : BTreeMap ObjectId (Arc Instance Global)) (all rest : List Write) (w : Write) (kept : Arc Instance Global) → all ≡ w ∷ rest → n.entries ≡ insert_entry object_cmp m.entries w.object kept → arc_value kept ≡ arc_value w.kept → shown n rest ≡ shown m all
shown_first m n all rest w kept first put same =
    ap (λ es. with_all (shown_objects es) (written_objects rest)) put
    ∙ ap (λ es. with_all es (written_objects rest)) (insert_shown arc_value object_cmp m.entries w.object kept)
    ∙ ap (λ k. with_all (with_object (shown_objects m.entries) w.object k) (written_objects rest)) same
    ∙ sym (ap (shown m) first)

-- what has all of each other is the same
pub same_both : (one other : Objects) → Rises one → Rises other
    → ((id : ObjectId) → is_some (object_at other id) ≡ true → object_at one id ≡ object_at other id)
    → ((id : ObjectId) → is_some (object_at one id) ≡ true → object_at other id ≡ object_at one id) → one ≡ other
same_both one other r s there here =
    same_objects one other r s (λ q.
    elim (object_at other q) as (λ o. object_at other q ≡ o → object_at one q ≡ object_at other q) [
      | Some kept ↦ λ is. there q (ap is_some is)
      | None ↦ λ is. elim (object_at one q) as (λ o. object_at one q ≡ o → object_at one q ≡ object_at other q) [
        | Some kept ↦ λ has. sym (here q (ap is_some has))
        | None ↦ λ has. has ∙ sym is
      ] refl
    ] refl)

pub true_unless : (b : Bool) → (b ≡ false → ⊥) → b ≡ true
true_unless true apart = refl
true_unless false apart = absurd (apart refl)
