-- The one register that a text can name, found by its length and two of its bytes, with
-- whose names `reg_of` compares the text. A text that names no register has some candidate too.
use Rattle.std.specs.Prelude.{ℕ, ◌+◌, ◌*◌, ◌%◌, nat_lt, if◌then◌else◌, ◌==◌, List, [], ◌∷◌}

-- the value of a digit
abbrev pub digit : ℕ → ℕ
digit byte = (byte + 208) % 256 % 10

-- s0, s1 and s2 to s9; t0 to t2 and t3 to t6
abbrev pub numbered : ℕ → ℕ → ℕ → ℕ → ℕ
numbered few low high byte = if nat_lt (digit byte) few then low + digit byte else high + digit byte

-- a letter and the one byte after it
abbrev pub of_two : ℕ → ℕ → ℕ
of_two kind byte = if kind == 120 then digit byte
    else if kind == 97 then 10 + digit byte
    else if kind == 115 then (if byte == 112 then 2 else numbered 2 8 16 byte)
    else if kind == 116 then (if byte == 112 then 4 else numbered 3 5 25 byte)
    else if kind == 103 then 3
    else 1

-- a letter and the two digits after it
abbrev pub of_three : ℕ → ℕ → ℕ → ℕ
of_three kind tens ones = if kind == 115 then 26 + digit ones else digit tens * 10 + digit ones

-- the candidate of a text of two bytes or of three; of any other text x0
abbrev pub candidate : List ℕ → ℕ
candidate (kind ∷ byte ∷ []) = of_two kind byte
candidate (kind ∷ tens ∷ ones ∷ []) = of_three kind tens ones
candidate others = 0
