-- Worked cases of numbers as texts. Assumes nothing.
use mathlib.Core.Path.{◌≡◌, refl}
use Rattle.text.specs.Numbers.{digit_of, decimal_in, decimal, hex}
use Rattle.text.specs.Text.{bytes}

nought : decimal 0 ≡ bytes "0"
unfolding decimal decimal_in digit_of
nought = refl

ten : decimal 10 ≡ bytes "10"
unfolding decimal decimal_in digit_of
ten = refl

longest : decimal 4294967295 ≡ bytes "4294967295"
unfolding decimal decimal_in digit_of
longest = refl

byte : hex 2 0x0F ≡ bytes "0F"
unfolding digit_of
byte = refl

word : hex 4 0xAB1C ≡ bytes "AB1C"
unfolding digit_of
word = refl
