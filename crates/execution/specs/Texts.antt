-- The texts of a program, one after the other; each begins on a line of its own.
--
-- A text may lack its last line feed: the next one then follows a line feed that is put between them.
use Rattle.std.specs.Prelude.{◌≡◌, ℕ, suc, ◌+◌, ◌-◌, Bool, ◌==◌, ◌||◌, nat_le, if◌then◌else◌, List, [], ◌∷◌, ◌++◌, length}
use Rattle.std.specs.Prelude.{slice_index, count_by, codes, refl}

-- what follows a text begins on a line of its own
abbrev pub is_whole : List ℕ → Bool
is_whole text = (length text == 0) || (slice_index text (length text - 1) == 10)

-- the texts before, joined, and then these
abbrev pub joined_after : List ℕ → List (List ℕ) → List ℕ
joined_after whole [] = whole
joined_after whole (text ∷ texts) = joined_after ((if is_whole whole then whole else whole ++ 10 ∷ []) ++ text) texts

abbrev pub joined : List (List ℕ) → List ℕ
joined texts = joined_after [] texts

-- how many lines a text has: the last one may lack its line feed
abbrev pub line_count : List ℕ → ℕ
line_count text = count_by (λ byte. byte == 10) text + (if is_whole text then 0 else 1)

-- the text in which a line stands, after this many texts, and which line of that it is
abbrev pub place_after : ℕ → List (List ℕ) → ℕ → ℕ × ℕ
place_after passed [] line = (passed, line)
place_after passed (text ∷ texts) line = if nat_le line (line_count text) then (passed, line)
    else place_after (suc passed) texts (line - line_count text)

abbrev pub place_in : List (List ℕ) → ℕ → ℕ × ℕ
place_in texts line = place_after 0 texts line

-- ---- examples

a_text_lacks_its_line_feed : joined (codes "nop" ∷ codes "x: .word 5\n" ∷ codes "y: .word 6" ∷ []) ≡ codes "nop\nx: .word 5\ny: .word 6"
a_text_lacks_its_line_feed = refl

a_line_of_the_second : place_in (codes "nop" ∷ codes "x: .word 5\n" ∷ []) 2 ≡ (1, 1)
a_line_of_the_second = refl
