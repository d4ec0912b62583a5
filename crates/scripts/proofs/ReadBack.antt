-- What was written of events is read as these, wherever it is cut.
use Rattle.scripts.proofs.Common.{[], after_header, all_for, AllDigits, ap, append_assoc, arith, before, body_if, Bool, bytes_eq, can_end_line, codes, cut_of, decimal, decimal_is_IsNumeral, digit_value, drop, drop-append-add, false, HaveLines, in_one_line, last, length, length-append, line_of, line_then, lines, lines_of_parts, List, nat_lt, nat_tests, None, not, Ok, onto_first, Option, or_last, piece_line, position_or_len, read, recorded, Recv, refl, Result, slice_split, small, Some, Step, step_or, strip_carriage_return, suc, sym, take, take-append-add, take-append-le, take-nil, take_at, text_of, true, Watch, watch_all, watch_of, watching, whole_lines, whole_of_parts, words_round, zero, ℕ, ◌++◌, ◌+◌, ◌-◌, ◌<◌, ◌==◌, ◌^◌, ◌∙◌, ◌∷◌, ◌≡◌, ◌≤◌}
use Rattle.std.proofs.Common.{position}
use Rattle.std.proofs.lemmas.Slice.Eq.{bytes_eq-Decides}
use Rattle.std.proofs.lemmas.List.Splits.{slice_split-cons_yes, slice_split-cons_no}
use Rattle.byte_strings.proofs.Conjunctions.{and_both, and_left, and_right}
use Rattle.framing.specs.Frames.{minimal_frame}
use Rattle.scripts.proofs.Dividing.{feed, read_more, some_line, some_part}
use Rattle.scripts.proofs.Lines.{Says, Stays, can_end, number_ends, says, small_back, turned, word_stays}
use Rattle.scripts.proofs.Recording.{whole_next}
use Rattle.scripts.specs.Recordings.{recorded_of}
use Rattle.scripts.specs.Scripts.{script_of}

-- ---- parts

split_line : (line rest : List ℕ) → in_one_line line ≡ true → slice_split feed (line ++ 10 ∷ rest) ≡ line ∷ slice_split feed rest
split_line [] rest h = slice_split-cons_yes feed 10 rest refl
split_line (b ∷ line) rest h =
    slice_split-cons_no feed b (line ++ 10 ∷ rest) (turned (b == 10) (and_left (not (b == 10)) _ h))
    ∙ ap (onto_first b) (split_line line rest (and_right (not (b == 10)) _ h))

split_none : (text : List ℕ) → in_one_line text ≡ true → slice_split feed text ≡ text ∷ []
split_none [] h = refl
split_none (b ∷ text) h =
    slice_split-cons_no feed b text (turned (b == 10) (and_left (not (b == 10)) _ h))
    ∙ ap (onto_first b) (split_none text (and_right (not (b == 10)) _ h))

-- a line that was written, and what comes after it
whole_line : (line rest : List ℕ) → Stays line → whole_lines (line ++ 10 ∷ rest) ≡ line ∷ whole_lines rest
whole_line line rest h =
    ap whole_of_parts (split_line line rest h.one) ∙ whole_next line rest
    ∙ ap (λ (l : List ℕ). l ∷ whole_lines rest) h.whole

no_whole : (text : List ℕ) → in_one_line text ≡ true → whole_lines text ≡ []
no_whole text h = ap whole_of_parts (split_none text h)

-- ---- recordings

-- what is recorded from a number on
abbrev from : ℕ → List ℕ → Result (List Step × Option Watch) ℕ
from number text = recorded number (whole_lines text)

-- an event before others
step_more : (number : ℕ) (step : Step) (rest : List ℕ) (steps : List Step) (watch : Option Watch) → Says (line_of step) step
    → from (number + 1) rest ≡ Ok (steps, watch) → from number (line_of step ++ 10 ∷ rest) ≡ Ok (step ∷ steps, watch)
step_more number step rest steps watch h more =
    ap (recorded number) (whole_line (line_of step) rest h.stays)
    ∙ ap (λ (o : Option Step). step_or o (from (number + 1) rest)
    (or_last number (watch_of (line_of step)) (length (whole_lines rest) == 0))) h.says
    ∙ ap (before step) more

-- what is written of an event, and what comes after it
text_more : (step : Step) (steps : List Step) (end : List ℕ)
    → text_of (step ∷ steps) ++ end ≡ line_of step ++ 10 ∷ (text_of steps ++ end)
text_more step steps end = append_assoc (line_of step) (10 ∷ text_of steps) end

pub read_back : (number : ℕ) (steps : List Step) (end : List ℕ) (watch : Option Watch) → HaveLines steps
    → ((n : ℕ) → from n end ≡ Ok ([], watch)) → from number (text_of steps ++ end) ≡ Ok (steps, watch)
read_back number [] end watch h ends = ends number
read_back number (step ∷ steps) end watch h ends =
    ap (from number) (text_more step steps end)
    ∙ step_more number step (text_of steps ++ end) steps watch (says step h.0.0 h.0.1)
    (read_back (number + 1) steps end watch h.1 ends)

pub cut_off : (cut : List ℕ) → in_one_line cut ≡ true → (n : ℕ) → from n cut ≡ Ok ([], None)
cut_off cut h n = ap (recorded n) (no_whole cut h)

taken_one : (count : ℕ) (text : List ℕ) → in_one_line text ≡ true → in_one_line (take count text) ≡ true
taken_one count [] h = ap in_one_line (take-nil count)
taken_one zero (b ∷ text) h = refl
taken_one (suc count) (b ∷ text) h =
    and_both _ _ (and_left (not (b == 10)) _ h) (taken_one count text (and_right (not (b == 10)) _ h))

-- the first of the events are kept
abbrev Kept : ℕ → List ℕ → List Step → Type 0
Kept number text steps = (kept : List Step) × (more : List Step) × (steps ≡ kept ++ more) × (from number text ≡ Ok (kept, None))

pub cut_anywhere : (number : ℕ) (steps : List Step) (cut : List ℕ) (count : ℕ) → HaveLines steps → in_one_line cut ≡ true
    → Kept number (take count (text_of steps ++ cut)) steps
cut_anywhere number [] cut count h one = ([], [], refl, cut_off (take count cut) (taken_one count cut one) number)
cut_anywhere number (step ∷ steps) cut count h one =
    let line = line_of step in
    let said = says step h.0.0 h.0.1 in
    let rest = text_of steps ++ cut in
    let P : Bool → Type 0 = λ t. nat_lt (length line) count ≡ t → Kept number (take count (text_of (step ∷ steps) ++ cut)) (step ∷ steps) in
    let go : P (nat_lt (length line) count) = elim (nat_lt (length line) count) as P [
      | true ↦ λ t.
          let left : ℕ = count - length line - 1 in
          let long : length line < count = grind (arith, nat_tests) in
          let is : count ≡ length line + suc left = omega arith in
          let k = cut_anywhere (number + 1) steps cut left h.1 one in
          let cuts : take count (text_of (step ∷ steps) ++ cut) ≡ line ++ 10 ∷ take left rest =
          ap (λ (n : ℕ). take n (text_of (step ∷ steps) ++ cut)) is
          ∙ ap (take (length line + suc left)) (text_more step steps cut)
          ∙ take-append-add line (10 ∷ rest) (suc left) in (
            step ∷ k.0,
            k.1,
            ap (λ (l : List Step). step ∷ l) k.2,
            ap (from number) cuts ∙ step_more number step (take left rest) k.0 None said k.3,
          )
      | false ↦ λ t.
          let short : count ≤ length line = grind (arith, nat_tests) in
          let cuts : take count (text_of (step ∷ steps) ++ cut) ≡ take count line =
          ap (take count) (text_more step steps cut) ∙ take-append-le count line (10 ∷ rest) short in
          ([], step ∷ steps, refl, ap (from number) cuts ∙ cut_off (take count line) (taken_one count line said.stays.one) number)
    ] in go refl

-- ---- the last line

-- the first space of a number and what follows it
digits_before : (digits rest : List ℕ) → AllDigits 10 digits → position_or_len (λ b. b == 32) (digits ++ 32 ∷ rest) ≡ length digits
digits_before [] rest h = refl
digits_before (d ∷ digits) rest h =
    let no : (d == 32) ≡ false = other d h.0 in
    let one : 1 + length digits ≡ length (d ∷ digits) = omega arith in
    rw no (ap (λ (n : ℕ). 1 + n) (digits_before digits rest h.1) ∙ one) where
      other : (c : ℕ) → digit_value c < 10 → (c == 32) ≡ false
      other c h = grind (arith, nat_tests)

space_at : (digits rest : List ℕ) → AllDigits 10 digits → position (λ b. b == 32) (digits ++ 32 ∷ rest) ≡ Some (length digits)
space_at digits rest h =
    let at = digits_before digits rest h in
    let size = length-append digits (32 ∷ rest) in
    let more : length (32 ∷ rest) ≡ suc (length rest) = refl in
    let within : nat_lt (length digits) (length (digits ++ 32 ∷ rest)) ≡ true = grind (arith, nat_tests) in
    rw (at, within) refl

watch_says : (connection : ℕ) → connection < 2 ^ 32 → watch_of (watch_all connection) ≡ Some (all_for connection)
watch_says connection h =
    let digits = decimal connection in
    let d = decimal_is_IsNumeral connection (omega arith) in
    let text = digits ++ codes " all" in
    ap (words_round text) (space_at digits (codes "all") d.0.1)
    ∙ ap (λ (l : List ℕ). watching (small l) (cut_of (drop (length digits + 1) text))) (take_at digits (codes " all") (length digits) refl)
    ∙ ap (λ (l : List ℕ). watching (small digits) (cut_of l)) (drop-append-add digits (codes " all") 1)
    ∙ ap (λ (o : Option ℕ). watching o (cut_of (codes "all"))) (small_back connection h)

watch_stays : (connection : ℕ) → connection < 2 ^ 32 → Stays (watch_all connection)
watch_stays connection h =
    let d = can_end (decimal connection) (number_ends connection (omega arith)) in
    let head : in_one_line (codes "watch " ++ decimal connection) ≡ true = d.one in
    word_stays (codes "watch " ++ decimal connection) (codes " all") head refl

watch_ends : (connection : ℕ) → connection < 2 ^ 32 → (n : ℕ)
    → from n (watch_all connection ++ 10 ∷ []) ≡ Ok ([], Some (all_for connection))
watch_ends connection h n =
    ap (recorded n) (whole_line (watch_all connection) [] (watch_stays connection h))
    ∙ ap (λ (o : Option Watch). or_last n o true) (watch_says connection h)

-- ---- scripts

line_more : (line rest : List ℕ) → Stays line → 0 < length rest → lines (line ++ 10 ∷ rest) ≡ line ∷ lines rest
line_more line rest h some =
    let part = some_part rest in
    ap lines_of_parts (split_line line rest h.one ∙ ap (λ (p : List (List ℕ)). line ∷ p) part.2)
    ∙ ap (λ (l : List (List ℕ)). strip_carriage_return line ∷ l) (sym (ap lines_of_parts part.2))
    ∙ ap (λ (l : List ℕ). l ∷ lines rest) h.whole

line_end : (line : List ℕ) → Stays line → lines (line ++ 10 ∷ []) ≡ line ∷ []
line_end line h = ap lines_of_parts (split_line line [] h.one) ∙ ap (λ (l : List ℕ). l ∷ []) h.whole

script_back : (number : ℕ) (steps : List Step) (connection : ℕ) → HaveLines steps → connection < 2 ^ 32
    → read number (lines (text_of steps ++ (watch_all connection ++ 10 ∷ []))) ≡ Ok (steps, all_for connection)
script_back number [] connection h few =
    ap (read number) (line_end (watch_all connection) (watch_stays connection few)) ∙ ap (last number) (watch_says connection few)
script_back number (step ∷ steps) connection h few =
    let end = watch_all connection ++ 10 ∷ [] in
    let rest = text_of steps ++ end in
    let said = says step h.0.0 h.0.1 in
    let some : 0 < length rest = omega (arith, length-append (text_of steps) end) in
    let next = some_line rest some in
    ap (λ (t : List ℕ). read number (lines t)) (text_more step steps end)
    ∙ ap (read number) (line_more (line_of step) rest said.stays some)
    ∙ read_more number (line_of step) (lines rest) next.0 next.1 next.2
    ∙ ap (λ (o : Option Step). line_then number o (read (number + 1) (lines rest))) said.says
    ∙ ap (before step) (script_back (number + 1) steps connection h.1 few)

-- ---- the laws

pub events : (steps : List Step) (cut : List ℕ) → HaveLines steps → in_one_line cut ≡ true
    → recorded_of (text_of steps ++ cut) ≡ Ok (steps, None)
unfolding recorded_of
events steps cut h one = read_back 1 steps cut None h (cut_off cut one)

pub cuts : (steps : List Step) (cut : List ℕ) (count : ℕ) → HaveLines steps → in_one_line cut ≡ true
    → (kept : List Step) × (more : List Step) × (steps ≡ kept ++ more) × (recorded_of (take count (text_of steps ++ cut)) ≡ Ok (kept, None))
unfolding recorded_of
cuts steps cut count h one = cut_anywhere 1 steps cut count h one

pub scripts : (steps : List Step) (connection : ℕ) → HaveLines steps → connection < 2 ^ 32
    → (script_of (text_of steps ++ (watch_all connection ++ 10 ∷ [])) ≡ Ok (steps, all_for connection))
    × (recorded_of (text_of steps ++ (watch_all connection ++ 10 ∷ [])) ≡ Ok (steps, Some (all_for connection)))
unfolding recorded_of script_of
scripts steps connection h few = (
  script_back 1 steps connection h few,
  read_back 1 steps (watch_all connection ++ 10 ∷ []) (Some (all_for connection)) h (watch_ends connection few),
)

-- ---- frames

-- no line feed is in the digits of a length
digits_fed : (digits rest : List ℕ) → in_one_line digits ≡ true → position_or_len feed (digits ++ 13 ∷ 10 ∷ rest) ≡ length digits + 1
digits_fed [] rest h = refl
digits_fed (d ∷ digits) rest h =
    let no : (d == 10) ≡ false = turned (d == 10) (and_left (not (d == 10)) _ h) in
    let one : 1 + (length digits + 1) ≡ length (d ∷ digits) + 1 = omega arith in
    rw no (ap (λ (n : ℕ). 1 + n) (digits_fed digits rest (and_right (not (d == 10)) _ h)) ∙ one)

-- a smallest frame with these digits
abbrev framed : List ℕ → List ℕ → List ℕ
framed digits body = codes "Content-Length: " ++ digits ++ 13 ∷ 10 ∷ 13 ∷ 10 ∷ body

header_ends : (digits body : List ℕ) → in_one_line digits ≡ true → position feed (framed digits body) ≡ Some (17 + length digits)
header_ends digits body h =
    let at : position_or_len feed (framed digits body) ≡ 17 + length digits = header_at digits body h in
    let size : length (framed digits body) ≡ 16 + length (digits ++ 13 ∷ 10 ∷ 13 ∷ 10 ∷ body) =
    length-append (codes "Content-Length: ") (digits ++ 13 ∷ 10 ∷ 13 ∷ 10 ∷ body) in
    let more = length-append digits (13 ∷ 10 ∷ 13 ∷ 10 ∷ body) in
    let last : length (13 ∷ 10 ∷ 13 ∷ 10 ∷ body) ≡ 4 + length body = length-append (13 ∷ 10 ∷ 13 ∷ 10 ∷ []) body in
    let within : nat_lt (17 + length digits) (length (framed digits body)) ≡ true = grind (arith, nat_tests) in
    rw (at, within) refl where
      header_at : (digits body : List ℕ) → in_one_line digits ≡ true → position_or_len feed (framed digits body) ≡ 17 + length digits
      header_at digits body h =
          let all : 1 + (1 + (1 + (1 + (1 + (1 + (1 + (1 + (1 + (1 + (1 + (1 + (1 + (1 + (1 + (1 + (length digits + 1))))))))))))))))
          ≡ 17 + length digits = omega arith in
          ap (λ (n : ℕ). 1 + (1 + (1 + (1 + (1 + (1 + (1 + (1 + (1 + (1 + (1 + (1 + (1 + (1 + (1 + (1 + n))))))))))))))))
          (digits_fed digits (13 ∷ 10 ∷ body) h) ∙ all

body_after : (digits body : List ℕ) → drop (17 + length digits + 3) (framed digits body) ≡ body
body_after digits body =
    let is : 17 + length digits + 3 ≡ 16 + (length digits + 4) = omega arith in
    ap (λ (n : ℕ). drop n (framed digits body)) is
    ∙ drop-append-add (codes "Content-Length: ") (digits ++ 13 ∷ 10 ∷ 13 ∷ 10 ∷ body) (length digits + 4)
    ∙ drop-append-add digits (13 ∷ 10 ∷ 13 ∷ 10 ∷ body) 4

pub frames : (body : List ℕ) → length body < 2 ^ 64 → can_end_line body ≡ true → line_of (Recv (minimal_frame body)) ≡ codes "send " ++ body
frames body h ends =
    let digits = decimal (length body) in
    let one = (can_end digits (number_ends (length body) h)).one in
    let end : List ℕ = 13 ∷ 10 ∷ [] in
    let is : minimal_frame body ≡ framed digits body =
    ap (λ (l : List ℕ). codes "Content-Length: " ++ l) (append_assoc (digits ++ end) end body ∙ append_assoc digits end (end ++ body)) in
    let after : after_header (minimal_frame body) (position feed (minimal_frame body)) ≡ body =
    ap (λ (f : List ℕ). after_header f (position feed f)) is
    ∙ ap (after_header (framed digits body)) (header_ends digits body one) ∙ body_after digits body in
    let same : bytes_eq (minimal_frame body) (minimal_frame body) ≡ true =
    (bytes_eq-Decides (minimal_frame body) (minimal_frame body)).1 refl in
    ap (λ (b : List ℕ). piece_line (minimal_frame body) (body_if (minimal_frame body) b)) after ∙ rw (ends, same) refl
