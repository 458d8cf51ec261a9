-- Courses that come from a course by what may happen in it.
use Rattle.value_core.specs.Meaning.{Performs, Computes}
use Rattle.book_law.specs.Passes.{Test}
use Rattle.book_law.specs.Course.{Course, Next}

-- it stays, or one event comes first
pub data Leads (single : Test) (p : Performs) (q : Computes) : Course → Course → Type 0 where
  Stays : (c : Course) → Leads single p q c c
  By : (c d e : Course) → Next single p q c d → Leads single p q d e → Leads single p q c e
