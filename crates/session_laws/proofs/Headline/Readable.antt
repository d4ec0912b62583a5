-- The first bytes of messages that can be read: they have no fault, and the messages in them are those that lie wholly in them.
use Rattle.session_laws.proofs.Headline.Common.{[], All, All-cons, All-head, All-nil, All-tail, All-weaker, ap, append-nil, append_assoc, AreFrames, arith, drop, flat_map, frame_first, frame_said, HasTexts, if_keeps, leb, leb-false, leb-true, length, length-append, length-drop, List, map, Message, MessageError, minimal_frame, None, Ok, Option, Partial, reading_is_right, refl, Said, subst, sym, TailIs, take, take-append-add, take-append-drop, take-append-le, take_all, told_within, ℕ, ◌++◌, ◌+◌, ◌-◌, ◌<◌, ◌^◌, ◌∙◌, ◌∷◌, ◌≡◌, ◌≤◌}
use Rattle.queues.specs.Writing.{frame_of}
use Rattle.replies.specs.Messages.{text_of, IsNumber, IsProper}
use Rattle.framing.specs.Reading.{Reading, reading_of, with_body}
use Rattle.framing.proofs.Minimal.{minimal_is_read}
use Rattle.mirror.proofs.Lawful.{faults_stay}
use Rattle.mirror.specs.Streams.{error_in, error_of, fault_in, first_fault, message_of, messages_in, messages_of, messages_so_far, stream_fault, without_number}
use Rattle.replies.proofs.Finding.{reading_of-message_data}
use Rattle.replies.proofs.Values.{json_of-text_of}

-- ---- the bodies in the first bytes of frames

-- the text of a message, and its frame
unfoldable pub text_said : Said → List ℕ
text_said m = text_of m.seq m.message

pub is_frame : (m : Said) → frame_said m ≡ minimal_frame (text_said m)
unfolding frame_of text_said
is_frame m = refl

-- what is read as nothing is nothing
nothing_reads : (limit : ℕ) (more : List ℕ) → reading_of limit more ≡ record { bodies = []; tail = Partial [] } → more ≡ []
nothing_reads limit more e =
    let r = reading_is_right limit more in
    let prefix = subst (AreFrames limit r.framed.prefix) (ap (λ (x : Reading). x.bodies) e) r.framed.frames in
    let rest = subst (TailIs limit r.rest) (ap (λ (x : Reading). x.tail) e) r.tail in
    r.framed.whole ∙ ap (λ (l : List ℕ). l ++ r.rest) prefix ∙ rest.0

tails : (limit : ℕ) (a b : List ℕ) (r s : Reading) → with_body a r ≡ with_body b s → r ≡ s
tails limit a b r s e =
    let both : a ∷ r.bodies ≡ b ∷ s.bodies = ap (λ (x : Reading). x.bodies) e in
    let bodies : r.bodies ≡ s.bodies = cc in
    let tail : r.tail ≡ s.tail = ap (λ (x : Reading). x.tail) e in
    λ i. record { bodies = bodies i; tail = tail i }

module _ (limit : ℕ) (narrow : limit < 2 ^ 32) where
  abbrev nothing : Reading
  nothing = record { bodies = []; tail = Partial [] }

  empty_reads : reading_of limit [] ≡ nothing
  unfolding reading_of
  empty_reads = refl

  frame_reads : (body : List ℕ) → length body ≤ limit → reading_of limit (minimal_frame body) ≡ with_body body nothing
  frame_reads body few =
      ap (reading_of limit) (sym (append-nil (minimal_frame body))) ∙ minimal_is_read limit body [] narrow few ∙ ap
      (with_body body) empty_reads

  -- a frame that lacks bytes has no body
  part_has_none : (body x y : List ℕ) → length body ≤ limit → minimal_frame body ≡ x ++ y → 0 < length y
      → (reading_of limit x).bodies ≡ []
  part_has_none body x y few whole some =
      let r = reading_is_right limit x in by (reading_of limit x).bodies r.framed.prefix r.rest r.framed.whole r.framed.frames where
        by : (bodies : List (List ℕ)) (prefix rest : List ℕ) → x ≡ prefix ++ rest → AreFrames limit prefix bodies → bodies ≡ []
        by [] prefix rest is frames = refl
        by (b ∷ bs) prefix rest is frames =
            let f : List ℕ = frames.0 in
            let others : List ℕ = frames.1 in
            let more : List ℕ = others ++ (rest ++ y) in
            let shape : minimal_frame body ≡ f ++ more =
            whole ∙ ap (λ (l : List ℕ). l ++ y) (is ∙ ap (λ (l : List ℕ). l ++ rest) frames.2) ∙ append_assoc (f ++ others) rest y
            ∙ append_assoc f others (rest ++ y) in
            let none = ap length (nothing_reads limit more (sym (tails limit body b nothing (reading_of limit more)
            (sym (frame_reads body few) ∙ ap (reading_of limit) shape ∙ frame_first limit f b more frames.3)))) in
            absurd (omega (arith, length-append others (rest ++ y), length-append rest y, none, some))

  abbrev pub Short : Said → Type 0
  Short m = length (text_said m) ≤ limit

  pub bodies_within : (said : List Said) (count : ℕ) → All Short said
      → (reading_of limit (take count (flat_map frame_said said))).bodies ≡ map text_said (told_within count said)
  bodies_within [] count h =
      ap (λ (l : List ℕ). (reading_of limit l).bodies) (take_all count [] (omega arith)) ∙ ap (λ (r : Reading). r.bodies) empty_reads
  bodies_within (m ∷ said) count h =
      let f = frame_said m in
      let rest = flat_map frame_said said in
      let short = All-head Short m said h in
      if_keeps (λ (l : List Said). (reading_of limit (take count (f ++ rest))).bodies ≡ map text_said l) (leb (length f) count) _ _
      (λ e.
      let few = leb-true (length f) count e in
      let sum : count ≡ length f + (count - length f) = omega (arith, few) in
      ap (λ (n : ℕ). (reading_of limit (take n (f ++ rest))).bodies) sum
      ∙ ap (λ (l : List ℕ). (reading_of limit l).bodies)
      (take-append-add f rest (count - length f) ∙ ap (λ (l : List ℕ). l ++ take (count - length f) rest) (is_frame m))
      ∙ ap (λ (r : Reading). r.bodies) (minimal_is_read limit (text_said m) (take (count - length f) rest) narrow short)
      ∙ ap (λ (l : List (List ℕ)). text_said m ∷ l) (bodies_within said (count - length f) (All-tail Short m said h)))
      (λ e.
      let less = leb-false (length f) count e in
      let whole : minimal_frame (text_said m) ≡ take count f ++ drop count f = sym (is_frame m) ∙ sym (take-append-drop count f) in
      ap (λ (l : List ℕ). (reading_of limit l).bodies) (take-append-le count f rest (omega (arith, less)))
      ∙ part_has_none (text_said m) (take count f) (drop count f) short whole (omega (arith, less, length-drop count f)))

-- ---- messages that can be read

-- it has a number, and is one that an adapter may send
abbrev pub Good : Said → Type 0
Good m = IsNumber m.seq × IsProper m.message

-- its texts are UTF-8, and it has fewer bytes than a mirror reads of one
abbrev pub IsShort : Said → Type 0
IsShort m = HasTexts m.message × (length (text_of m.seq m.message) < 4294967295)

abbrev pub IsReadable : Said → Type 0
IsReadable m = Good m × IsShort m

pub framed_some : (m : Said) → 0 < length (frame_said m)
framed_some m = rw (is_frame m) (omega arith)

read_as : (m : Said) → IsReadable m → message_of (text_said m) ≡ Ok m.message
unfolding text_said
read_as m h =
    let good = h.0 in
    ap without_number (reading_of-message_data (text_of m.seq m.message) m.seq m.message good.0 good.1
    (json_of-text_of m.seq m.message good.0 good.1 h.1.0))

all_read : (said : List Said) → All IsReadable said → messages_of (map text_said said) ≡ map (λ (m : Said). m.message) said
all_read [] h = refl
all_read (m ∷ said) h =
    ap (λ r. messages_in (r ∷ map message_of (map text_said said))) (read_as m (All-head IsReadable m said h))
    ∙ ap (λ (l : List Message). m.message ∷ l) (all_read said (All-tail IsReadable m said h))

none_wrong : (said : List Said) → All IsReadable said → error_of (map text_said said) ≡ None
none_wrong [] h = refl
none_wrong (m ∷ said) h =
    ap (λ r. error_in (r ∷ map message_of (map text_said said))) (read_as m (All-head IsReadable m said h))
    ∙ none_wrong said (All-tail IsReadable m said h)

-- ---- all of them

-- the limit of a mirror is one that a frame can have
narrow : 4294967295 < 2 ^ 32
narrow = omega arith

short : (m : Said) → IsReadable m → Short 4294967295 narrow m
unfolding text_said
short m h = let few = h.1.1 in omega (arith, few)

nothing_read : reading_of 4294967295 [] ≡ record { bodies = []; tail = Partial [] }
unfolding reading_of
nothing_read = refl

read_whole : (said : List Said) → All IsReadable said
    → reading_of 4294967295 (flat_map frame_said said) ≡ record { bodies = map text_said said; tail = Partial [] }
read_whole [] h = nothing_read
read_whole (m ∷ said) h =
    let rest = flat_map frame_said said in
    ap (λ (l : List ℕ). reading_of 4294967295 (l ++ rest)) (is_frame m)
    ∙ minimal_is_read 4294967295 (text_said m) rest narrow (short m (All-head IsReadable m said h))
    ∙ ap (with_body (text_said m)) (read_whole said (All-tail IsReadable m said h))

whole_has_no_fault : (said : List Said) → All IsReadable said → stream_fault (flat_map frame_said said) ≡ None
whole_has_no_fault said h =
    ap fault_in (read_whole said h) ∙ ap (λ (e : Option MessageError). first_fault e None) (none_wrong said h)

-- ---- the first bytes

pub has_no_fault : (said : List Said) (count : ℕ) → All IsReadable said → stream_fault (take count (flat_map frame_said said)) ≡ None
has_no_fault said count h =
    let all = flat_map frame_said said in
    let whole = ap stream_fault (take-append-drop count all) ∙ whole_has_no_fault said h in
    grind (arith, whole, faults_stay (take count all) (drop count all))

-- what holds of all holds of those that were told
pub told_hold : (P : Said → Type 0) (said : List Said) (count : ℕ) → All P said → All P (told_within count said)
told_hold P [] count h = h
told_hold P (m ∷ said) count h =
    if_keeps (λ (l : List Said). All P l) (leb (length (frame_said m)) count) _ _
    (λ _. All-cons P m (told_within (count - length (frame_said m)) said) (All-head P m said h)
    (told_hold P said (count - length (frame_said m)) (All-tail P m said h)))
    (λ _. All-nil P)

pub messages_within : (said : List Said) (count : ℕ) → All IsReadable said
    → messages_so_far (take count (flat_map frame_said said)) ≡ map (λ (m : Said). m.message) (told_within count said)
messages_within said count h =
    ap messages_of (bodies_within 4294967295 narrow said count (All-weaker IsReadable (Short 4294967295 narrow) short said h))
    ∙ all_read (told_within count said) (told_hold IsReadable said count h)
