-- What a writer has after several writes.
use Rattle.std.proofs.Common.{◌≡◌, ℕ, ◌+◌, ◌-◌, List, ◌++◌, length, take, drop, Option, Some, None, sym, ap, subst, ◌∙◌, append_assoc, arith, length-drop}
use Rattle.std.proofs.lemmas.List.{take_all}
use Rattle.std.proofs.Math.Seq.{take-add}
use Rattle.std.specs.Io.KnownBytes.{Appends}

appends_twice : (a b c : Option (List ℕ)) (first second : List ℕ) → Appends a b first → Appends b c second → Appends a c (first ++ second)
appends_twice None b c first second h k = tt
appends_twice (Some xs) None c first second h k = absurd h
appends_twice (Some xs) (Some ys) None first second h k = absurd k
appends_twice (Some xs) (Some ys) (Some zs) first second h k = k ∙ ap (λ (l : List ℕ). l ++ second) h ∙ append_assoc xs first second

-- some more of the bytes, of those that are left
pub more_written : (a b c : Option (List ℕ)) (bytes : List ℕ) (written count : ℕ) → Appends a b (take written bytes)
    → Appends b c (take count (take (length bytes - written) (drop written bytes))) → Appends a c (take (written + count) bytes)
more_written a b c bytes written count h k =
    let P : List ℕ → Type 0 = λ l. Appends a c l in
    let rest : take (length bytes - written) (drop written bytes) ≡ drop written bytes = take_all (length bytes - written)
    (drop written bytes) (omega (arith, length-drop written bytes)) in
    subst P (ap (λ (l : List ℕ). take written bytes ++ take count l) rest ∙ sym (take-add written count bytes))
    (appends_twice a b c (take written bytes) (take count (take (length bytes - written) (drop written bytes))) h k)
