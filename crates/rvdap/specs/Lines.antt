-- Lines that somebody types, or that are played: how one is cut out of what comes, where it comes from, and what is written for it.
--
-- A line ends with a line feed, and a carriage return before that belongs to its end. The last line may lack its end. A line has at most
-- 65,536 bytes: of a longer one no more is taken than shows that it is too long.
use Rattle.std.specs.Prelude.{◌≡◌, ℕ, ◌==◌, ◌&&◌, nat_le, not, if◌then◌else◌, Bool, true, false, List, [], ◌∷◌, ◌++◌, length, Option, Some, None, codes, refl}
use Rattle.std.specs.Io.BufRead.{ends_with_byte, strip_last}
use Rattle.rvdap.specs.declared.debug.origins.Origin.{Origin}
use Rattle.rvdap.specs.declared.debug.origins.Origin.TheVariants.{Typed, Played}
use Rattle.rvdap.specs.declared.debug.origins.Peer.{Peer}
use Rattle.rvdap.specs.declared.debug.origins.Peer.TheVariants.{Terminal, Other}

-- ---- how a line is cut out

-- the most bytes of a line
abbrev pub longest_line : ℕ
longest_line = 65536

-- as many bytes are taken of a line at once: those of the longest one, and its end
abbrev pub most_taken : ℕ
most_taken = 65538

-- what came of a line without its end, if that came too
abbrev pub without_end : List ℕ → List ℕ
without_end came = if ends_with_byte 10 came then strip_last 13 (strip_last 10 came) else came

-- the line that came, unless it is too long
abbrev pub line_of : List ℕ → Option (List ℕ)
line_of came = if nat_le (length (without_end came)) longest_line then Some (without_end came) else None

-- whether there may be more of the line than was taken
abbrev pub is_cut_off : List ℕ → Bool
is_cut_off came = (length came == most_taken) && not (ends_with_byte 10 came)

a_line : line_of (codes "step" ++ 13 ∷ 10 ∷ []) ≡ Some (codes "step")
a_line = refl

an_empty_line : line_of (10 ∷ []) ≡ Some []
an_empty_line = refl

a_last_line : line_of (codes "step") ≡ Some (codes "step")
a_last_line = refl

-- ---- where it comes from

-- from standard input: it is typed where that is a terminal, and else it is played
abbrev pub origin_at : Peer → Origin
origin_at Terminal = Typed
origin_at Other = Played

-- from what is left of a script, if something is, and else from standard input
abbrev pub origin_of : List ℕ → Peer → Origin
origin_of script input = if length script == 0 then origin_at input else Played

-- ---- what is written for it

abbrev pub prompt : List ℕ
prompt = codes "(rvdap) "

-- before a line is read: the prompt, where it is typed and the output is seen where it is typed
abbrev pub prompt_of : Origin → Peer → List ℕ
prompt_of Typed Terminal = prompt
prompt_of Typed Other = []
prompt_of Played output = []

-- where the input ends: a line feed, so that nothing stands beside a prompt after which nothing was typed
abbrev pub end_of : Origin → Peer → List ℕ
end_of Typed Terminal = 10 ∷ []
end_of Typed Other = []
end_of Played output = []

-- once it was read: the prompt and the line, where nobody typed it, so that the output is a transcript
abbrev pub echo_of : Origin → List ℕ → List ℕ
echo_of Typed line = []
echo_of Played line = prompt ++ line ++ 10 ∷ []
