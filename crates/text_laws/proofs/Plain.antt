-- Plain texts: a test for them, and that they are UTF-8.
use Rattle.text_laws.proofs.Common.{arith, Bool, IsPlain, IsPlainByte, IsUtf8, List, list_all, nat_le, nat_tests, not, true, ℕ, ◌&&◌, ◌<◌, ◌==◌, ◌≡◌}
use Rattle.std.proofs.lemmas.List.Elements.{All-weaker}
use Rattle.std.proofs.lemmas.List.Sums.{AllPass-from_list_all, list_all-from_AllPass}
use Rattle.std.proofs.lemmas.Str.{IsUtf8-from_ascii}
use Rattle.std.proofs.lemmas.Str.Ascii.{IsAscii-from_all}

abbrev pub is_plain_byte : ℕ → Bool
is_plain_byte b = nat_le 32 b && (nat_le b 126 && (not (b == 34) && not (b == 92)))

abbrev pub are_plain : List ℕ → Bool
are_plain text = list_all is_plain_byte text

pub plain_byte : (b : ℕ) → is_plain_byte b ≡ true → IsPlainByte b
plain_byte b h =
    (grind (arith, nat_tests, h), grind (arith, nat_tests, h), λ e. grind (arith, nat_tests, h, e), λ e. grind (arith, nat_tests, h, e))

-- bytes that pass a test which only plain bytes pass
pub passed_plain : (test : ℕ → Bool) → ((b : ℕ) → test b ≡ true → IsPlainByte b) → (text : List ℕ) → list_all test text ≡ true
    → IsPlain text
passed_plain test plain text h =
    All-weaker (λ (b : ℕ). test b ≡ true) IsPlainByte plain text (AllPass-from_list_all test text h)

pub all_plain : (text : List ℕ) → are_plain text ≡ true → IsPlain text
all_plain text h = passed_plain is_plain_byte plain_byte text h

pub plain_passes : (text : List ℕ) → IsPlain text → are_plain text ≡ true
plain_passes text h =
    list_all-from_AllPass is_plain_byte text
    (All-weaker IsPlainByte (λ (b : ℕ). is_plain_byte b ≡ true) (λ b p. grind (arith, nat_tests)) text h)

pub plain_utf8 : (text : List ℕ) → IsPlain text → IsUtf8 text
plain_utf8 text h =
    IsUtf8-from_ascii text (IsAscii-from_all text (All-weaker IsPlainByte (λ (b : ℕ). b < 128) (λ b p. omega (arith, p.1)) text h))
