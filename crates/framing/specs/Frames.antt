-- Frames (Debug Adapter Protocol, base protocol, "Header Part" and "Content Part").
--
-- A message on a stream is a frame: a header part, and right after it a content part of as many bytes as the
-- header part says, which is the body. A stream is frames one after the other, and then a rest that begins with no
-- whole frame. The rest is the beginning of a frame, or it has a fault: then no frame ever comes there, and the
-- stream says nothing more. What is written is the smallest frame of a body.
use Rattle.std.specs.Prelude.{◌≡◌, ℕ, ◌<◌, ◌≤◌, true, List, [], ◌∷◌, ◌++◌, length, codes, decimal, Some}
use Rattle.std.specs.List.{list_all}
use Rattle.framing.specs.Headers.{Field, Head, SaysLength, end_of, end_of_line, header_of, is_field, length_fields}
use Rattle.framing.specs.declared.error.FrameError.{FrameError}
use Rattle.framing.specs.declared.error.FrameError.TheVariants.{Header, NoLength, TwoLengths, BadLength, TooLong}
use Rattle.framing.specs.declared.error.FrameError.TheVariants.{HeaderTooLong, NoMemory}

-- the smallest frame of a body: its length in decimal digits, without leading zeros, and no other field
abbrev pub minimal_frame : List ℕ → List ℕ
minimal_frame body = codes "Content-Length: " ++ decimal (length body) ++ end_of_line ++ end_of_line ++ body

-- f is a frame of a body, with a length within the limit
pub record Frame (limit : ℕ) (f body : List ℕ) : Type 0 where
  pub head : List ℕ
  pub spelled : f ≡ head ++ body
  pub says : Head limit head (length body)

-- these bytes are frames of the bodies, in order
abbrev pub AreFrames : ℕ → List ℕ → List (List ℕ) → Type 0
AreFrames limit bytes [] = bytes ≡ []
AreFrames limit bytes (body ∷ bodies) = (f : List ℕ) × (others : List ℕ) × (bytes ≡ f ++ others) × Frame limit f body
    × AreFrames limit others bodies

-- The stream is frames of the bodies, in order, and then the rest, which has no frame as a prefix.
pub record Framed (limit : ℕ) (stream : List ℕ) (bodies : List (List ℕ)) (rest : List ℕ) : Type 0 where
  pub prefix : List ℕ
  pub whole : stream ≡ prefix ++ rest
  pub frames : AreFrames limit prefix bodies
  pub no_more : (f body after : List ℕ) → rest ≡ f ++ after → Frame limit f body → ⊥

-- The header part that the bytes begin with is whole: it ends with their first CR LF CR LF, and is not too long.
pub record HasHeader (bytes header : List ℕ) : Type 0 where
  pub after : List ℕ
  pub whole : bytes ≡ header ++ after
  pub ends : end_of bytes ≡ Some (length header)
  pub short : length header ≤ 4096

-- It is whole, and made of these fields.
pub record HasFields (bytes : List ℕ) (fields : List Field) : Type 0 where
  pub header : HasHeader bytes (header_of fields)
  pub each : list_all is_field fields ≡ true

-- The bytes where a frame is to begin have the fault: the first in this order that they have. Only a header part that
-- is too long has a fault before it is whole.
abbrev pub Fault : ℕ → List ℕ → FrameError → Type 0
Fault limit bytes Header = (header : List ℕ) × HasHeader bytes header
    × ((fields : List Field) → list_all is_field fields ≡ true → header ≡ header_of fields → ⊥)
Fault limit bytes NoLength = (fields : List Field) × HasFields bytes fields × (length_fields fields ≡ [])
Fault limit bytes TwoLengths = (fields : List Field) × HasFields bytes fields × (1 < length (length_fields fields))
Fault limit bytes BadLength = (fields : List Field) × (field : Field) × HasFields bytes fields
    × (length_fields fields ≡ field ∷ []) × ((n : ℕ) → SaysLength field.value n → ⊥)
Fault limit bytes TooLong = (fields : List Field) × (field : Field) × (n : ℕ) × HasFields bytes fields
    × (length_fields fields ≡ field ∷ []) × SaysLength field.value n × (limit < n)
Fault limit bytes HeaderTooLong = (4096 ≤ length bytes) × ((size : ℕ) → end_of bytes ≡ Some size → 4096 < size)
Fault limit bytes NoMemory = ⊥
