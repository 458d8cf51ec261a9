-- Which objects copies keep, by the test of what is single: those of the list keep no single one, a single copy is of a single object
-- and the only one of it, and what a member counted as single are the copies whose makes it applied.
use Rattle.std.specs.Prelude.{◌≡◌, ◌≤◌, ◌↔◌, true, false, ℕ, None, Some, slice_get}
use Rattle.orca_base.specs.declared.ids.ObjectId.{ObjectId}
use Rattle.value_core.specs.declared.message.Message.{Message}
use Rattle.value_core.specs.Meaning.{Performs, Computes}
use Rattle.value_core.specs.History.{object_at}
use Rattle.object_manager.specs.Singles.{IsCounted}
use Rattle.book_law.specs.Passes.{Test}
use Rattle.book_law.specs.Book.{copies_at}
use Rattle.book_law.specs.Singles.{Single}
use Rattle.book_law.specs.Course.{Came, Course}
use Rattle.book_law.specs.Events.{Calls, In}

-- `shared`, the copies after each number of entries keep no single object; `of_test`, each single copy is of a single object; `once`,
-- no two are of the same; `counted`, after n entries those are counted as single whose copy was made by one of them; `unlisted`, no
-- entry calls a single object
pub record IsApart (single : Test) (p : Performs) (w : Course) : Type 0 where
  pub shared : (n : ℕ) (o : ObjectId) → single o ≡ true → object_at (copies_at single p w.list n).objects o ≡ None
  pub of_test : (i : ℕ) (x : Single) → slice_get w.owned i ≡ Some x → single x.object ≡ true
  pub once :
      (i k : ℕ) (x y : Single) → slice_get w.owned i ≡ Some x → slice_get w.owned k ≡ Some y → x.object ≡ y.object → i ≡ k
  pub counted :
      (n : ℕ) (o : ObjectId) →
      IsCounted (copies_at single p w.list n).singles o
      ↔ ((i : ℕ) × (x : Single) × (slice_get w.owned i ≡ Some x) × (x.object ≡ o) × (x.place ≤ n))
  pub unlisted : (y : Message) (o : ObjectId) → In y w.list → Calls y.action o → single o ≡ false

-- so it is in every run
abbrev pub SinglesApart : Type 0
SinglesApart = (single : Test) (p : Performs) (q : Computes) (w : Course) → Came single p q w → IsApart single p w
