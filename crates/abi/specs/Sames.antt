-- What is said of two records, in numbers. Assumes nothing.
use Rattle.std.specs.Prelude.{ℕ, true, false, Ok, Err}
use Rattle.field.specs.Handed.{value_of}
use Rattle.sel.specs.Numbers.{refusal_of}
use Rattle.sel.specs.declared.ParseEntryError.{ParseEntryError}
use Rattle.same_entry.specs.Answer.{SameAnswer}
use Rattle.same_entry.specs.declared.SameError.{SameError}
use Rattle.abi.specs.declared.same.SelSame.{SelSame}

-- number, value, same, refused
abbrev pub told : ℕ → ℕ → ℕ → ℕ → SelSame
told number value same which = record { number = number; value = value; same = same; refused = which }

-- the number of a refusal and what it carries, and which of the two records it is
abbrev pub refused_record : ParseEntryError → ℕ → SelSame
refused_record why which = told (refusal_of why).number (value_of (refusal_of why)) 0 which

abbrev pub same_answer : SameAnswer → SelSame
same_answer (Ok true) = told 0 0 1 0
same_answer (Ok false) = told 0 0 0 0
same_answer (Err (SameError.First why)) = refused_record why 1
same_answer (Err (SameError.Second why)) = refused_record why 2
