-- Streams of frames, as statements and as they are read.
use Rattle.framing.proofs.Common.{[], ap, append-nil, append_assoc, AreFrames, arith, Breaks, drop, drop-drop, drop_at, Faulty, Frame, Framed, length, length-append, length-drop, length-take-le, List, nat_tests, None, Partial, parts_of, Reading, reading_of, Reads, refl, Some, some_pair_parts, Start, start_of, subst, suc, sym, Tail, tail_by, TailIs, take, take-append-drop, take_at, with_bodies, with_body, zero, ℕ, ◌++◌, ◌<◌, ◌∙◌, ◌∷◌, ◌≡◌}
use Rattle.framing.proofs.Readings.{reading_none, reading_some, Parted, parts_are, fewer_after, some_of, WholeFrame}
use Rattle.framing.proofs.Heads.{head_starts}
use Rattle.framing.proofs.Faults.{fault_read, fault_from_start, head_from_start}

-- a frame that a stream begins with is its first
frame_parts : (limit : ℕ) (f body more : List ℕ) → Frame limit f body
    → parts_of (start_of limit (f ++ more)) (f ++ more) ≡ some_of body more
frame_parts limit f body more h =
    let all : List ℕ = h.head ++ (body ++ more) in
    grind (
      arith,
      nat_tests,
      append_assoc h.head body more,
      head_starts limit h.head (length body) (body ++ more) h.says,
      drop_at h.head (body ++ more) (length h.head) refl,
      take_at body more (length body) refl,
      drop_at body more (length body) refl,
      drop-drop (length body) (length h.head) all,
      length-append h.head (body ++ more),
      length-append body more,
    )

pub frame_first : (limit : ℕ) (f body more : List ℕ) → Frame limit f body
    → reading_of limit (f ++ more) ≡ with_body body (reading_of limit more)
frame_first limit f body more h = reading_some limit (f ++ more) body more _ refl (frame_parts limit f body more h)

-- the first whole frame of some bytes is a frame
whole_is : (s : Start) (bytes body after : List ℕ) → (w : WholeFrame s bytes body after)
    → (bytes ≡ (take w.size bytes ++ body) ++ after) × (w.n ≡ length body)
whole_is s bytes body after w =
    grind (
      arith,
      take-append-drop w.size bytes,
      take-append-drop w.n (drop w.size bytes),
      drop-drop w.n w.size bytes,
      append_assoc (take w.size bytes),
      length-take-le,
      length-drop w.size bytes,
    )

pub first_frame : (limit : ℕ) (bytes body after : List ℕ) (s : Start) → s ≡ start_of limit bytes → parts_of s bytes ≡ some_of body after
    → (f : List ℕ) × (bytes ≡ f ++ after) × Frame limit f body
first_frame limit bytes body after s e h =
    let w = parts_are s bytes body after h in
    let parts = whole_is s bytes body after w in
    let head : List ℕ = take w.size bytes in
    let says = rw parts.1 at (head_from_start limit bytes w.size w.n (sym e ∙ w.begins)) in
    (head ++ body, parts.0, record { head = head; spelled = refl; says = says })

-- What holds of bytes that begin with no whole frame, and of a frame before bytes of which it holds, holds of all.
module _ (limit : ℕ) (P : List ℕ → Type 0) (none : (bytes : List ℕ) → parts_of (start_of limit bytes) bytes ≡ None → P bytes)
    (more : (f body after : List ℕ) → Frame limit f body → P after → P (f ++ after)) where
  by_first : (bytes : List ℕ) → ((after : List ℕ) → length after < length bytes → P after)
      → (o : Parted) → parts_of (start_of limit bytes) bytes ≡ o → P bytes
  by_first bytes others None e = none bytes e
  by_first bytes others (Some p) e =
      let f = first_frame limit bytes p.0 p.1 (start_of limit bytes) refl e in
      subst P (sym f.1) (more f.0 p.0 p.1 f.2 (others p.1 (fewer_after limit bytes p.0 p.1 e)))

  by_length : (n : ℕ) (bytes : List ℕ) → length bytes < n → P bytes
  by_length zero bytes h = absurd (omega arith)
  by_length (suc n) bytes h = by_first bytes (λ after l. by_length n after (omega arith)) (parts_of (start_of limit bytes) bytes) refl

  pub by_frames : (bytes : List ℕ) → P bytes
  by_frames bytes = by_length (suc (length bytes)) bytes (omega arith)

-- frames of bodies are read as the bodies
frames_read : (limit : ℕ) (bodies : List (List ℕ)) (prefix rest : List ℕ) → AreFrames limit prefix bodies
    → reading_of limit (prefix ++ rest) ≡ with_bodies bodies (reading_of limit rest)
frames_read limit [] prefix rest h = rw h refl
frames_read limit (body ∷ bodies) prefix rest h =
    rw (h.2, append_assoc h.0 h.1 rest, frame_first limit h.0 body (h.1 ++ rest) h.3, frames_read limit bodies h.1 rest h.4) refl

-- where no prefix is a frame, the reading is the tail alone
parts_none : (limit : ℕ) (rest : List ℕ) → ((f body after : List ℕ) → rest ≡ f ++ after → Frame limit f body → ⊥) → (o : Parted)
    → parts_of (start_of limit rest) rest ≡ o → o ≡ None
parts_none limit rest none None e = refl
parts_none limit rest none (Some p) e =
    let f = first_frame limit rest p.0 p.1 (start_of limit rest) refl e in absurd (none f.0 p.0 p.1 f.1 f.2)

pub framed_read : (limit : ℕ) (stream : List ℕ) (bodies : List (List ℕ)) (rest : List ℕ) → Framed limit stream bodies rest
    → reading_of limit stream ≡ record { bodies = bodies; tail = tail_by (start_of limit rest) rest }
framed_read limit stream bodies rest h =
    let none = reading_none limit rest _ refl (parts_none limit rest h.no_more (parts_of (start_of limit rest) rest) refl) in
    rw (h.whole, frames_read limit bodies h.prefix rest h.frames, none, append-nil bodies) refl

-- The reading of a stream has its frames, and its tail is what the rest starts with.
tail_is : (limit : ℕ) (rest : List ℕ) (s : Start) → start_of limit rest ≡ s → TailIs limit rest (tail_by s rest)
tail_is limit rest (Breaks fault) e = fault_from_start limit rest fault e
tail_is limit rest _ e = (refl, λ fault h. (let other = fault_read limit rest fault h in cc))

no_frame : (limit : ℕ) (rest : List ℕ) → parts_of (start_of limit rest) rest ≡ None → (f body after : List ℕ) → rest ≡ f ++ after
    → Frame limit f body → ⊥
no_frame limit rest none f body after e h =
    let parts = ap (λ (x : List ℕ). parts_of (start_of limit x) x) e ∙ frame_parts limit f body after h in cc

reads_none : (limit : ℕ) (bytes : List ℕ) → parts_of (start_of limit bytes) bytes ≡ None → Reads limit bytes (reading_of limit bytes)
reads_none limit bytes h = rw (reading_none limit bytes (start_of limit bytes) refl h) (record {
  rest = bytes;
  framed = record { prefix = []; whole = refl; frames = refl; no_more = no_frame limit bytes h };
  tail = tail_is limit bytes (start_of limit bytes) refl;
})

reads_more : (limit : ℕ) (f body after : List ℕ) → Frame limit f body → Reads limit after (reading_of limit after)
    → Reads limit (f ++ after) (reading_of limit (f ++ after))
reads_more limit f body after h r = rw (frame_first limit f body after h) (record {
  rest = r.rest;
  framed = record {
    prefix = f ++ r.framed.prefix;
    whole = ap (λ (x : List ℕ). f ++ x) r.framed.whole ∙ sym (append_assoc f r.framed.prefix r.rest);
    frames = (f, r.framed.prefix, refl, h, r.framed.frames);
    no_more = r.framed.no_more;
  };
  tail = r.tail;
})

pub reading_is_right : (limit : ℕ) (stream : List ℕ) → Reads limit stream (reading_of limit stream)
reading_is_right limit stream = by_frames limit (λ x. Reads limit x (reading_of limit x)) (reads_none limit) (reads_more limit) stream

-- and back
tail_back : (limit : ℕ) (rest : List ℕ) (tail : Tail) (s : Start) → start_of limit rest ≡ s → TailIs limit rest tail → tail ≡ tail_by s rest
tail_back limit rest (Faulty fault) s e h = ap (λ (x : Start). tail_by x rest) (sym (fault_read limit rest fault h) ∙ e)
tail_back limit rest (Partial bytes) (Breaks fault) e h = absurd (h.1 fault (fault_from_start limit rest fault e))
tail_back limit rest (Partial bytes) _ e h = ap (λ (x : List ℕ). Partial x) (sym h.0)

pub reading_is_unique : (limit : ℕ) (stream : List ℕ) (reading : Reading) → Reads limit stream reading → reading ≡ reading_of limit stream
reading_is_unique limit stream reading h =
    ap (λ (t : Tail). let r : Reading = record { bodies = reading.bodies; tail = t } in r)
    (tail_back limit h.rest reading.tail (start_of limit h.rest) refl h.tail)
    ∙ sym (framed_read limit stream reading.bodies h.rest h.framed)

-- what follows the same bodies is the same
same_rest : (limit : ℕ) (bodies : List (List ℕ)) (prefix other rest left : List ℕ) → AreFrames limit prefix bodies
    → AreFrames limit other bodies → prefix ++ rest ≡ other ++ left → rest ≡ left
same_rest limit [] prefix other rest left a b e = sym (ap (λ (x : List ℕ). x ++ rest) a) ∙ e ∙ ap (λ (x : List ℕ). x ++ left) b
same_rest limit (body ∷ bodies) prefix other rest left a b e =
    let first = ap (λ (x : List ℕ). x ++ rest) a.2 ∙ append_assoc a.0 a.1 rest in
    let second = ap (λ (x : List ℕ). x ++ left) b.2 ∙ append_assoc b.0 b.1 left in
    let parts = sym (frame_parts limit a.0 body (a.1 ++ rest) a.3)
    ∙ ap (λ (x : List ℕ). parts_of (start_of limit x) x) (sym first ∙ e ∙ second) ∙ frame_parts limit b.0 body (b.1 ++ left) b.3 in
    same_rest limit bodies a.1 b.1 rest left a.4 b.4 (some_pair_parts body body (a.1 ++ rest) (b.1 ++ left) parts).1

pub frames_are_unique : (limit : ℕ) (stream : List ℕ) (bodies others : List (List ℕ)) (rest left : List ℕ) → Framed limit stream bodies rest
    → Framed limit stream others left → (bodies ≡ others) × (rest ≡ left)
frames_are_unique limit stream bodies others rest left a b =
    let same = ap (λ (r : Reading). r.bodies) (sym (framed_read limit stream bodies rest a) ∙ framed_read limit stream others left b) in
    let frames = subst (AreFrames limit b.prefix) (sym same) b.frames in
    (same, same_rest limit bodies a.prefix b.prefix rest left a.frames frames (sym a.whole ∙ b.whole))
