-- Numbers: the preprocessing numbers (C11 6.4.8) that begin with a digit, and which of them are integer constants of
-- the profile (C11 6.4.4.1).
use Rattle.std.specs.Prelude.{ℕ, ◌-◌, ◌^◌, Bool, true, false, not, ◌&&◌, ◌||◌, ◌==◌, nat_eq, nat_lt, if◌then◌else◌, List, [], ◌∷◌, take, length, Option, Some, None, codes}
use Rattle.std.specs.Char.{is_ascii_digit, is_digit}
use Rattle.std.specs.Str.Parse.{digits_value}
use Rattle.std.specs.List.{list_all, ends_with}
use Rattle.c_tree.specs.declared.tree.Ty.{Ty}
use Rattle.c_tree.specs.declared.tree.Ty.TheVariants.{Int, Long}
use Rattle.c_lexer.specs.declared.token.TokenKind.{TokenKind}
use Rattle.c_lexer.specs.declared.token.TokenKind.TheVariants.{Number}
use Rattle.c_lexer.specs.Bytes.{goes_in_word}

-- `e`, `E`, `p` or `P`, after which a sign goes on
abbrev pub is_exponent : ℕ → Bool
is_exponent b = b == 101 || b == 69 || b == 112 || b == 80

-- what goes on after a byte of a number: a letter, a digit, `_`, `.`, or a sign directly after an exponent's letter
abbrev pub goes_on : ℕ → ℕ → Bool
goes_on before b = goes_in_word b || b == 46 || ((b == 43 || b == 45) && is_exponent before)

abbrev pub go_on : ℕ → List ℕ → Bool
go_on before [] = true
go_on before (b ∷ bs) = goes_on before b && go_on b bs

-- a digit, and what goes on after it
abbrev pub is_number : List ℕ → Bool
is_number [] = false
is_number (b ∷ bs) = is_ascii_digit b && go_on b bs

-- the suffix of a `long long` constant, `LL` or `ll`, and what stands before it
abbrev pub is_suffixed : List ℕ → Bool
is_suffixed w = ends_with nat_eq w (codes "LL") || ends_with nat_eq w (codes "ll")

abbrev pub without_suffix : List ℕ → List ℕ
without_suffix w = if is_suffixed w then take (length w - 2) w else w

-- the radix and the digits: hexadecimal after `0x` or `0X`, octal after another `0`, else decimal
abbrev pub radix_of : List ℕ → ℕ
radix_of [] = 10
radix_of (a ∷ []) = 10
radix_of (a ∷ b ∷ bs) = if a == 48 then (if b == 120 || b == 88 then 16 else 8) else 10

abbrev pub digits_of : List ℕ → List ℕ
digits_of [] = []
digits_of (a ∷ []) = a ∷ []
digits_of (a ∷ b ∷ bs) = if a == 48 then (if b == 120 || b == 88 then bs else b ∷ bs) else a ∷ b ∷ bs

-- digits of the radix, at least one
abbrev pub are_digits : ℕ → List ℕ → Bool
are_digits radix ds = not (length ds == 0) && list_all (λ d. is_digit d radix) ds

abbrev pub is_plain_zero : List ℕ → Bool
is_plain_zero [] = false
is_plain_zero (b ∷ []) = b == 48
is_plain_zero (a ∷ b ∷ bs) = false

-- no value is above that of `long long`, and an octal or hexadecimal one without a suffix none above that of `int`
abbrev pub is_in_range : Bool → ℕ → ℕ → Bool
is_in_range long radix value = nat_lt value (2 ^ 63) && (long || radix == 10 || nat_lt value (2 ^ 31))

-- `long long` where there is a suffix or `int` has no such value, else `int`
abbrev pub type_of : Bool → ℕ → Ty
type_of long value = if long || nat_lt (2 ^ 31 - 1) value then Long else Int

-- the token of an integer constant; None where the bytes are none of the profile
abbrev pub integer : List ℕ → Option TokenKind
integer w =
    let long = is_suffixed w in
    let number = without_suffix w in
    let value = digits_value (radix_of number) (digits_of number) in
    if are_digits (radix_of number) (digits_of number) && is_in_range long (radix_of number) value
    then Some (Number value (type_of long value) (is_plain_zero w)) else None
