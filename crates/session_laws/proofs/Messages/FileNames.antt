-- The last part of a path is a text where the path is, and no longer.
use Rattle.session_laws.proofs.Messages.Common.{[], ap, arith, Bool, eqb, eqb-true, false, file_name, inl, inr, IsTextWithin, IsUtf8, length, length-reverse, length-take, List, nat_tests, not, prefix_len, refl, reverse, subst, suc, sym, take_while, true, zero, ℕ, ◌++◌, ◌∙◌, ◌∷◌, ◌≡◌, ◌≤◌, ◌⊎◌}
use Rattle.answers.proofs.FileNames.{HasNoSlash, after_slash, whole}
use Rattle.text_laws.proofs.Strings.{text_after}

-- a path with its last slash
record Cut (path : List ℕ) : Type 0 where
  before : List ℕ
  name : List ℕ
  is : path ≡ before ++ 47 ∷ name
  none : HasNoSlash name

last_slash : (path : List ℕ) → HasNoSlash path ⊎ Cut path
last_slash [] = inl (λ i below. absurd (omega (arith, below)))
last_slash (byte ∷ path) = by (last_slash path) where
  none_before : eqb byte 47 ≡ false → HasNoSlash path → HasNoSlash (byte ∷ path)
  none_before other none zero below = λ same. absurd (grind (arith, nat_tests, other, same))
  none_before other none (suc i) below = none i (omega (arith, below))

  here : (b : Bool) → eqb byte 47 ≡ b → HasNoSlash path → HasNoSlash (byte ∷ path) ⊎ Cut (byte ∷ path)
  here true e none = inr (record { before = []; name = path; is = ap (λ (x : ℕ). x ∷ path) (eqb-true byte 47 e); none = none })
  here false e none = inl (none_before e none)

  by : HasNoSlash path ⊎ Cut path → HasNoSlash (byte ∷ path) ⊎ Cut (byte ∷ path)
  by (inl none) = here (eqb byte 47) refl none
  by (inr cut) =
      inr (record { before = byte ∷ cut.before; name = cut.name; is = ap (λ (l : List ℕ). byte ∷ l) cut.is; none = cut.none })

file_name_utf8 : (path : List ℕ) → IsUtf8 path → IsUtf8 (file_name path)
file_name_utf8 path h = by (last_slash path) where
  by : HasNoSlash path ⊎ Cut path → IsUtf8 (file_name path)
  by (inl none) = subst IsUtf8 (sym (whole path none)) h
  by (inr cut) =
      let named : file_name path ≡ cut.name = ap file_name cut.is ∙ after_slash cut.before cut.name cut.none in
      subst IsUtf8 (sym named) (text_after cut.before cut.name 47 (omega arith) (subst IsUtf8 cut.is h))

file_name_few : (path : List ℕ) → length (file_name path) ≤ length path
file_name_few path =
    let is_part : ℕ → Bool = λ byte. not (eqb byte 47) in
    let taken : List ℕ = take_while is_part (reverse path) in
    omega (arith, length-reverse path, length-reverse taken, length-take (prefix_len is_part (reverse path)) (reverse path))

pub file_name_within : (most : ℕ) (path : List ℕ) → IsTextWithin most path → IsTextWithin most (file_name path)
file_name_within most path h = (file_name_utf8 path h.0, omega (arith, file_name_few path, h.1))
