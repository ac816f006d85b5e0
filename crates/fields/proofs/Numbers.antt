-- A number in decimal is text.
use Rattle.std.proofs.Common.{◌≡◌, ℕ, zero, suc, ◌<◌, List, [], ◌∷◌, Bool, true, false, cond, ◌==◌, drop, refl, arith}
use Rattle.std.proofs.lemmas.Bool.Decides.{nat_tests}
use Rattle.std.proofs.lemmas.Str.{IsUtf8-from_ascii}
use Rattle.std.specs.Char.{digit_value}
use Rattle.std.specs.Str.{IsAscii, IsUtf8}
use Rattle.std.specs.Str.Parse.{AllDigits}
use Rattle.fields.specs.Numbers.{IsDecimal}

digit : (c : ℕ) → digit_value c < 10 → c < 128
digit c h = grind (arith, nat_tests, h)

digits : (text : List ℕ) → AllDigits 10 text → IsAscii text
digits [] h i = omega arith
digits (c ∷ cs) h zero = digit c h.0
digits (c ∷ cs) h (suc i) = digits cs h.1 i

first : (c n : ℕ) → (c == n) ≡ true → n < 128 → c < 128
first c n e h = grind (arith, nat_tests, e)

signed : (c : ℕ) (cs : List ℕ) (minus plus : Bool) → (c == 45) ≡ minus → (c == 43) ≡ plus → AllDigits 10 (cond minus cs (drop (cond plus 1 0) (c ∷ cs))) → IsAscii (c ∷ cs)
signed c cs true plus e f h zero = first c 45 e (omega arith)
signed c cs true plus e f h (suc i) = digits cs h i
signed c cs false true e f h zero = first c 43 f (omega arith)
signed c cs false true e f h (suc i) = digits cs h i
signed c cs false false e f h i = digits (c ∷ cs) h i

pub decimal_utf8 : (text : List ℕ) → IsDecimal text → IsUtf8 text
decimal_utf8 [] h = IsUtf8-from_ascii [] (digits [] tt)
decimal_utf8 (c ∷ cs) h = IsUtf8-from_ascii (c ∷ cs) (signed c cs _ _ refl refl h.0.1)
