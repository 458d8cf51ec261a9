use Rattle.value_rows.proofs.Empty.{empty_rises, empty_sorted}
use Rattle.value_rows.proofs.element_rows.nothing.Goals as goal

pub returns-then-is_bag : goal.returns-then-is_bag
returns-then-is_bag c = empty_sorted c.new.result c.in_ok-parts.parts c.new.ensures (c.in_ok-parts.ensures {u = tt})

pub returns-else-is_bag : goal.returns-else-is_bag
returns-else-is_bag c = empty_rises c.new.result c.in_ok-parts.parts c.new.ensures (c.in_ok-parts.ensures {u = tt})
