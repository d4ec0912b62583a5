-- Part of a list (DAP specification, `StackTraceArguments.startFrame` and `levels`, `VariablesArguments.start` and `count`).
--
-- A request may ask for part of a list: from which element on, counted from 0, and how many at most. Where it does not say
-- how many, or says 0, it asks for all from there on. A part that begins after the list's end is empty.
use Rattle.std.specs.Prelude.{◌≡◌, ℕ, ◌==◌, if◌then◌else◌, List, [], ◌∷◌, drop, take, Option, Some, None, refl}

abbrev pub at_most : {A : Type 0} → Option ℕ → List A → List A
at_most None list = list
at_most (Some count) list = if count == 0 then list else take count list

-- the part that is asked for
abbrev pub part : {A : Type 0} → ℕ → Option ℕ → List A → List A
part start count list = at_most count (drop start list)

the_second : part {A = ℕ} 1 (Some 1) (7 ∷ 8 ∷ 9 ∷ []) ≡ 8 ∷ []
the_second = refl

no_count_is_all : part {A = ℕ} 1 (Some 0) (7 ∷ 8 ∷ 9 ∷ []) ≡ 8 ∷ 9 ∷ []
no_count_is_all = refl

after_the_end : part {A = ℕ} 4 None (7 ∷ 8 ∷ 9 ∷ []) ≡ []
after_the_end = refl
