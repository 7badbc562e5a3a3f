-- What a letter decides (docs/SCOPE.md, "The flat form"). Assumes nothing.
use Rattle.std.specs.Prelude.{ℕ}
use Rattle.answers.specs.Length.{bytes_that_count}
use Rattle.flat.specs.Lengths.{of_answer}
use Rattle.flat.specs.Letters.{kind_of}

-- the bytes that count of the kind of answer that it names; 0 where it names no answer
abbrev pub letter_bytes : ℕ → ℕ
letter_bytes letter = of_answer bytes_that_count 0 (kind_of letter)
