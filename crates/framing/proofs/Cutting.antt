-- A stream that was cut reads as the whole.
use Rattle.framing.proofs.Common.{ap, append_assoc, arith, Frame, List, None, parts_of, Reading, reading_after, reading_of, refl, Start, start_of, sym, tail_by, with_bodies, with_body, ℕ, ◌++◌, ◌∙◌, ◌≡◌}
use Rattle.framing.proofs.Framing.{by_frames, frame_first}
use Rattle.framing.proofs.Readings.{starts_keep, reading_none}

-- the reading of a prefix, continued
abbrev continued : ℕ → Reading → List ℕ → Reading
continued limit r b = with_bodies r.bodies (reading_after limit r.tail b)

-- where the prefix has no whole frame
cut_none : (limit : ℕ) (b a : List ℕ) (s : Start) → s ≡ start_of limit a → reading_of limit (a ++ b) ≡ reading_after limit (tail_by s a) b
cut_none limit b a s e = grind (arith, starts_keep limit a b, reading_none limit (a ++ b) s)

continued_none : (limit : ℕ) (b a : List ℕ) → parts_of (start_of limit a) a ≡ None
    → reading_of limit (a ++ b) ≡ continued limit (reading_of limit a) b
continued_none limit b a h =
    cut_none limit b a (start_of limit a) refl
    ∙ sym (ap (λ (r : Reading). continued limit r b) (reading_none limit a (start_of limit a) refl h))

-- where it begins with a frame
continued_more : (limit : ℕ) (b f body after : List ℕ) → Frame limit f body
    → reading_of limit (after ++ b) ≡ continued limit (reading_of limit after) b
    → reading_of limit ((f ++ after) ++ b) ≡ continued limit (reading_of limit (f ++ after)) b
continued_more limit b f body after h others =
    ap (reading_of limit) (append_assoc f after b) ∙ frame_first limit f body (after ++ b) h ∙ ap (with_body body) others
    ∙ sym (ap (λ (r : Reading). continued limit r b) (frame_first limit f body after h))

pub reading_of-append : (limit : ℕ) (a b : List ℕ)
    → reading_of limit (a ++ b) ≡ with_bodies (reading_of limit a).bodies (reading_after limit (reading_of limit a).tail b)
reading_of-append limit a b =
    by_frames limit (λ x. reading_of limit (x ++ b) ≡ continued limit (reading_of limit x) b)
    (continued_none limit b) (continued_more limit b) a
