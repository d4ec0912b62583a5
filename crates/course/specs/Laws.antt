-- What holds of every program. Each of these statements is the contract of a function of the module `laws`.
--
-- Calls that have all returned leave no trace: the depth is as it was before them, and so are the calls, but for those
-- that were forgotten since they lay too deep below. Those do not come back.
use Rattle.std.specs.Prelude.{◌≡◌, ℕ, ◌+◌, ◌-◌, List, [], ◌∷◌, ◌++◌, max, take, refl}
use Rattle.course.specs.Marks.{Mark, Retired, marks_of}
use Rattle.course.specs.Marks.Mark.{Push, Pop}
use Rattle.course.specs.Calls.{calls_of, depth_of}

-- calls that returned, one after the other: each has an address, the calls that were made and returned within it, and
-- those that came after it
pub data Returned : Type 0 where
  Done : Returned
  Called : ℕ → Returned → Returned → Returned

-- their marks
abbrev pub marks_in : Returned → List Mark
marks_in Done = []
marks_in (Called pc within after) = Push pc ∷ marks_in within ++ Pop ∷ marks_in after

-- how deep they went
abbrev pub height_of : Returned → ℕ
height_of Done = 0
height_of (Called pc within after) = max (height_of within + 1) (height_of after)

-- A call from 4, within which there is one from 8, and then a call from 12.
two_deep : height_of (Called 4 (Called 8 Done Done) (Called 12 Done Done)) ≡ 2
two_deep = refl

-- Where the marks since are those of calls that returned, the depth is as it was before.
abbrev pub ReturnsKeepDepth : Type 0
ReturnsKeepDepth = (before since : List Retired) (calls : Returned) → marks_of since ≡ marks_in calls
    → depth_of (before ++ since) ≡ depth_of before

-- Where the marks since are those of calls that returned, the calls are as before, as many of the newest as were never more than 256 deep.
abbrev pub ReturnsKeepCalls : Type 0
ReturnsKeepCalls = (before since : List Retired) (calls : Returned) → marks_of since ≡ marks_in calls
    → calls_of (before ++ since) ≡ take (256 - height_of calls) (calls_of before)
