-- The calls of a running program, as a function of all the instructions that retired since its start.
--
-- Of these instructions only the marks count, in their order. The *depth* is how many calls have not returned: a push
-- adds one to it, a pop takes one away, and a pop at depth 0 counts nothing, since what it returns from was called
-- before the start. A push is *open* as long as the depth stays above what it was before that push. A call that lies
-- too deep is forgotten: a push is *kept* if it is open and the depth has never since been more than 256 above what it
-- was before that push. What is forgotten does not come back with a return, so of 257 calls none is kept once the
-- newest 256 have returned, though the depth is 1.
--
-- The *calls* of the program are the addresses of the kept pushes, newest first.
use Rattle.std.specs.Prelude.{◌≡◌, ℕ, ◌+◌, ◌-◌, Bool, nat_lt, nat_le, ◌&&◌, if◌then◌else◌, List, [], ◌∷◌, ◌++◌}
use Rattle.std.specs.Prelude.{take, drop, refl}
use Rattle.std.specs.List.{list_all}
use Rattle.rv32i.specs.declared.instr.Instr.{Instr}
use Rattle.course.specs.Marks.{Mark, Retired, marks_at, marks_of}
use Rattle.course.specs.Marks.Mark.{Push, Pop}

-- ---- of all the instructions that retired

-- the depth after a mark; 0 - 1 is 0
abbrev pub depth_after : ℕ → Mark → ℕ
depth_after depth (Push pc) = depth + 1
depth_after depth Pop = depth - 1

-- the depth after marks
abbrev pub depth_through : ℕ → List Mark → ℕ
depth_through depth [] = depth
depth_through depth (mark ∷ marks) = depth_through (depth_after depth mark) marks

-- the depths from now on: the one of now, and the one after each of the marks to come
abbrev pub depths_through : ℕ → List Mark → List ℕ
depths_through depth [] = depth ∷ []
depths_through depth (mark ∷ marks) = depth ∷ depths_through (depth_after depth mark) marks

-- whether a push is open, by the depth before it and the depths since
abbrev pub is_open : ℕ → List ℕ → Bool
is_open before since = list_all (λ depth. nat_lt before depth) since

-- whether it is kept, where `most` calls may be
abbrev pub is_kept : ℕ → ℕ → List ℕ → Bool
is_kept most before since = is_open before since && list_all (λ depth. nat_le depth (before + most)) since

-- the addresses of the kept pushes among the marks, newest first, from a depth on
abbrev pub kept_through : ℕ → ℕ → List Mark → List ℕ
kept_through most depth [] = []
kept_through most depth (Push pc ∷ later) = kept_through most (depth + 1) later
    ++ (if is_kept most depth (depths_through (depth + 1) later) then pc ∷ [] else [])
kept_through most depth (Pop ∷ later) = kept_through most (depth - 1) later

-- the depth of the program after these instructions
abbrev pub depth_of : List Retired → ℕ
depth_of retired = depth_through 0 (marks_of retired)

-- the calls of the program after these instructions: those kept, newest first
abbrev pub calls_of : List Retired → List ℕ
calls_of retired = kept_through 256 0 (marks_of retired)

-- A call from 4, one from 8 that returned, one from 12.
calls_within_calls : kept_through 256 0 (Push 4 ∷ Push 8 ∷ Pop ∷ Push 12 ∷ []) ≡ 12 ∷ 4 ∷ []
calls_within_calls = refl

-- A return at depth 0 counts nothing.
returns_from_the_start : depth_through 0 (Pop ∷ Pop ∷ Push 4 ∷ []) ≡ 1
returns_from_the_start = refl

-- Where two calls are kept, of three the oldest is forgotten, and stays so when the others have returned.
three_calls : kept_through 2 0 (Push 4 ∷ Push 8 ∷ Push 12 ∷ []) ≡ 12 ∷ 8 ∷ []
three_calls = refl

one_is_left : depth_through 0 (Push 4 ∷ Push 8 ∷ Push 12 ∷ Pop ∷ Pop ∷ []) ≡ 1
one_is_left = refl

and_is_forgotten : kept_through 2 0 (Push 4 ∷ Push 8 ∷ Push 12 ∷ Pop ∷ Pop ∷ []) ≡ []
and_is_forgotten = refl

-- ---- as a value

-- what is kept of them: the depth, and the calls, newest first
pub record Kept : Type 0 where
  pub depth : ℕ
  pub calls : List ℕ

-- before the first instruction
abbrev pub nothing_kept : Kept
nothing_kept = record { depth = 0; calls = [] }

-- what is kept after a mark: a push puts its address before the others, where the oldest may go, and a pop takes the
-- newest away
abbrev pub with_mark : Kept → Mark → Kept
with_mark kept (Push pc) = record { depth = kept.depth + 1; calls = take 256 (pc ∷ kept.calls) }
with_mark kept Pop = record { depth = kept.depth - 1; calls = drop 1 kept.calls }

-- what is kept after marks
abbrev pub with_marks : Kept → List Mark → Kept
with_marks kept [] = kept
with_marks kept (mark ∷ marks) = with_marks (with_mark kept mark) marks

-- what is kept after an instruction
abbrev pub noted : Kept → Instr → ℕ → Kept
noted kept instr pc = with_marks kept (marks_at instr pc)

-- the instructions with one more
abbrev pub with_retired : List Retired → Instr → ℕ → List Retired
with_retired retired instr pc = retired ++ record { instr = instr; pc = pc } ∷ []

-- What is kept represents all that retired: the depth and the calls are those of the program.
pub record StandsFor (kept : Kept) (retired : List Retired) : Type 0 where
  pub depth : kept.depth ≡ depth_of retired
  pub calls : kept.calls ≡ calls_of retired
