-- The store of event texts and its tables, filled, in numbers. Assumes nothing.
use Rattle.std.specs.Prelude.{ℕ, ◌≡◌, List, length}
use Rattle.event_offset.specs.Fills.{Fills, fill_answer}
use Rattle.flat_form.specs.Form.{from_written}
use Rattle.flat_form.specs.declared.SelAnswer.{SelAnswer}

-- The promise: what is answered for the slices `a`, `b`, `c`, and what is left of them.
pub record Filled (a b c : List ℕ) (r : SelAnswer) (store starts lengths : List ℕ) : Type 0 where
  pub answered : r ≡ from_written (fill_answer (length a) (length b) (length c))
  pub leaves : Fills a b c (fill_answer (length a) (length b) (length c)) store starts lengths
