-- A writer of records, sentence by sentence. It is of IPMI 2.0. Assumes nothing.
use Rattle.std.specs.Prelude.{ℕ, List}
use Rattle.sel.specs.declared.Entry.{Entry}
use Rattle.record_writer.specs.Trips.{RoundTrips}
use Rattle.record_writer.specs.Turned.{TurnedAway}
use Rattle.record_writer.specs.Written.{WriteAnswer}
use Rattle.flat_form.specs.declared.SelAnswer.{SelAnswer}
use Rattle.flat_writer.specs.Trips.{FlatAnswers, FlatTrips}

pub record Writer : Type 0 where
  -- entries are written as 16 bytes in a lent output. What was written parses to the same entry, and what was parsed is written as the first 16 bytes
  -- that came in; a system entry that was made from fields has 0 in all bits that no field holds, and unspecified event data as kind 00 and value FFh. An
  -- entry that no record parses to is turned away, with 7, before the room is looked at; no other is
  pub round_trips : (entry : Entry) (oem out left : List ℕ) (r : WriteAnswer) → RoundTrips entry oem out left r
  -- the cases that the request lists
  pub turned_away : (oem : List ℕ) → TurnedAway oem
  -- the same of the function for C, which takes the flat bytes of an entry
  pub flat_trips : (f : List ℕ) → FlatTrips f
  pub flat_answers : (f out left : List ℕ) (r : SelAnswer) → FlatAnswers f out left r
