-- Numbers as texts. Assumes nothing.
use Rattle.std.specs.Prelude.{ℕ, zero, suc, ◌/◌, ◌%◌, List, [], ◌∷◌, ◌++◌, ltb, get_or, if◌then◌else◌}
use Rattle.text.specs.Text.{bytes}

-- the digit of a number below 16
unfoldable pub digit_of : ℕ → ℕ
digit_of d = get_or (bytes "0123456789ABCDEF") d 0

-- the decimal digits of a number that has at most k: below 10 its digit, else those of the tenth part, and then the last
unfoldable pub decimal_in : ℕ → ℕ → List ℕ
decimal_in zero n = []
decimal_in (suc k) n = if ltb n 10 then digit_of n ∷ [] else decimal_in k (n / 10) ++ (digit_of (n % 10) ∷ [])

-- a number of 64 bits in decimal: it has at most 20 digits
unfoldable pub decimal : ℕ → List ℕ
decimal n = decimal_in 20 n

-- the last two decimal digits of a number
abbrev pub last_two : ℕ → List ℕ
last_two n = digit_of (n / 10 % 10) ∷ digit_of (n % 10) ∷ []

-- the last k digits of a number in base 16, the highest first
abbrev pub hex : ℕ → ℕ → List ℕ
hex zero n = []
hex (suc k) n = hex k (n / 16) ++ (digit_of (n % 16) ∷ [])

-- bytes in hexadecimal, two digits each
abbrev pub hex_bytes : List ℕ → List ℕ
hex_bytes [] = []
hex_bytes (b ∷ bs) = hex 2 b ++ hex_bytes bs
