-- What the code holds of a stream, before a piece and after it.
use Rattle.framing.proofs.Common.{[], ap, append-nil, append_assoc, arith, before_by, Breaks, drop, drop-append-le, drop-take, drop_at, Err, false, fault_of, fed, Feeds, first_by, first_of, FrameError, Holds, is_broken, IsSome, length, length-append, length-drop, length-take, length-take-le, lent_from, List, ltb, NoMemory, None, Option, others_of, Partial, Parts, parts_of, range, Reading, reading_of, refl, Some, Start, start_of, Starts, sym, tail_by, take, take-add, take-append-drop, take-take, take_at, true, Unframed, waiting_in, ℕ, ◌++◌, ◌+◌, ◌-◌, ◌∙◌, ◌≡◌, ◌≤◌}
use Rattle.framing.specs.Private.Parts.{Fits}
use Rattle.framing.specs.declared.state.Mark.{Mark}
use Rattle.framing.specs.declared.state.State.TheInside.{Inside}
use Rattle.framing.proofs.Faults.{fault_from_start}
use Rattle.framing.proofs.Framing.{first_frame, frame_first}
use Rattle.framing.proofs.Passing.{AllWhole, bodies_with, first_now, whole_read, whole_with}
use Rattle.framing.proofs.Readings.{reading_none, some_of}
use Rattle.std.proofs.Math.Seq.{take-append-add}

-- ---- how the next frame starts

pub not_broken : (s : Start) → ((fault : FrameError) → s ≡ Breaks fault → ⊥) → is_broken s ≡ false
not_broken s h = grind arith

broken_by : (s : Start) (rest : List ℕ) → IsSome (fault_of (tail_by s rest)) → is_broken s ≡ true
broken_by s rest h = grind arith

pub unbroken_tail : (s : Start) (rest : List ℕ) → is_broken s ≡ false → tail_by s rest ≡ Partial rest
unbroken_tail s rest h = grind arith

broken_is : (s : Start) → is_broken s ≡ true → (fault : FrameError) × (s ≡ Breaks fault)
broken_is s h = grind arith

broken_tail : (s : Start) (a b : List ℕ) → is_broken s ≡ true → tail_by s a ≡ tail_by s b
broken_tail s a b h = grind arith

pub starts_known : {limit : ℕ} {start : Start} {rest : List ℕ} → start ≡ start_of limit rest → Starts limit start rest
starts_known {limit} {start} {rest} e = record { so = λ _. e; no_other = λ m. fault_from_start limit rest NoMemory (sym e ∙ m) }

starts_broken : {limit : ℕ} {start : Start} {known rest : List ℕ} → is_broken start ≡ true → Starts limit start known
    → Starts limit start rest
starts_broken breaks s = record { so = λ whole. cc; no_other = s.no_other }

-- ---- where it stands in the bytes: after x, the whole frames w, and then r

pub record Stand (bytes : List ℕ) (place done : ℕ) (x w r : List ℕ) : Type 0 where
  pub spelled : bytes ≡ x ++ (w ++ r)
  pub place_is : length x ≡ place
  pub done_is : length (x ++ w) ≡ done

range_is : {bytes x w r : List ℕ} {place done : ℕ} → Stand bytes place done x w r → range bytes place done ≡ w
range_is {bytes} {x} {w} {r} {place} {done} s = grind (arith, length-append x w, drop_at x (w ++ r) place, take_at w r (done - place))

waiting_is : (limit : ℕ) {bytes x w r : List ℕ} {place done : ℕ} → Stand bytes place done x w r
    → waiting_in limit bytes place done ≡ (reading_of limit w).bodies
waiting_is limit s = ap (λ (l : List ℕ). (reading_of limit l).bodies) (range_is s)

rest_is : {bytes x w r : List ℕ} {place done : ℕ} → Stand bytes place done x w r → drop done bytes ≡ r
rest_is {bytes} {x} {w} {r} {place} {done} s = grind (arith, append_assoc x w r, drop_at (x ++ w) r done)

-- it stands so in what is held, and is held where it stands so
stand : {limit : ℕ} {bytes : List ℕ} {place done : ℕ} {first start : Start} → Holds limit bytes place done first start
    → Stand bytes place done (take place bytes) (range bytes place done) (drop done bytes)
stand {limit} {bytes} {place} {done} {first} {start} h =
    grind (arith, take-add place (done - place) bytes, take-append-drop done bytes, append_assoc (take place bytes), length-take-le)

pub held : {limit : ℕ} {first start : Start} {bytes x w r : List ℕ} {place done : ℕ} → Stand bytes place done x w r → AllWhole limit w
    → first ≡ start_of limit w → Starts limit start r → Holds limit bytes place done first start
held {limit} {first} {start} {bytes} {x} {w} {r} {place} {done} s whole first_is starts =
    grind (arith, range_is s, rest_is s, length-append)

-- bytes that were read are dropped, and those at the end are cut off
stand-drop : {bytes x w r : List ℕ} {place done : ℕ} (d : ℕ) → Stand bytes place done x w r → d ≤ place
    → Stand (drop d bytes) (place - d) (done - d) (drop d x) w r
stand-drop {bytes} {x} {w} {r} {place} {done} d s within =
    grind (arith, drop-append-le d x (w ++ r), drop-append-le d x w, length-drop d x, length-drop d (x ++ w))

stand-take : {bytes x w r : List ℕ} {place done : ℕ} (cut : ℕ) → Stand bytes place done x w r → done ≤ cut
    → Stand (take cut bytes) place done x w (take (cut - done) r)
stand-take {bytes} {x} {w} {r} {place} {done} cut s within =
    grind (arith, append_assoc x w, take-append-add (x ++ w) r (cut - done))

-- bytes follow, more frames are whole, and the first of them were lent
stand-append : {bytes x w r : List ℕ} {place done : ℕ} (piece more : List ℕ) → Stand bytes place done x w r → more ≡ bytes ++ piece
    → Stand more place done x w (r ++ piece)
stand-append {bytes} {x} {w} {r} {place} {done} piece more s e =
    grind (arith, append_assoc x (w ++ r) piece, append_assoc w r piece)

stand-grow : {bytes x w r : List ℕ} {place done : ℕ} (f t : List ℕ) (now : ℕ) → Stand bytes place done x w r → r ≡ f ++ t
    → now ≡ length bytes - length t → Stand bytes place now x (w ++ f) t
stand-grow {bytes} {x} {w} {r} {place} {done} f t now s e l =
    grind (arith, append_assoc w f t, append_assoc x (w ++ f) t, length-append (x ++ (w ++ f)) t)

stand-pass : {bytes x w r : List ℕ} {place done : ℕ} (f after : List ℕ) → Stand bytes place done x w r → w ≡ f ++ after
    → Stand bytes (done - length after) done (x ++ f) after r
stand-pass {bytes} {x} {w} {r} {place} {done} f after s e =
    grind (arith, append_assoc f after r, append_assoc x f (after ++ r), append_assoc x f after, length-append (x ++ f) after)

-- ---- what is held, as a value

abbrev pub held_by : ℕ → List ℕ → ℕ → ℕ → Start → Option Mark → Unframed
held_by limit bytes place done start mark = record {
  limit = limit;
  waiting = waiting_in limit bytes place done;
  tail = tail_by start (drop done bytes);
  before = before_by limit bytes mark;
}

abbrev HoldsIn : Inside → Type 0
HoldsIn s = Holds s.limit s.bytes.items s.place s.done s.first s.start

-- after a fault, once bytes that are needed for nothing are dropped and cut off
abbrev pub moved : Mark → ℕ → Mark
moved m read = record { place = m.place - read; done = m.done - read; size = m.size - read; first = m.first; start = m.start }

pub record Needed (s : Inside) (read cut : ℕ) (m : Mark) (kept : List ℕ) : Type 0 where
  pub fits : Fits s.limit kept (s.place - read) (s.done - read) s.first s.start (Some (moved m read))
  pub same : held_by s.limit kept (s.place - read) (s.done - read) s.start (Some (moved m read))
      ≡ held_by s.limit s.bytes.items s.place s.done s.start (Some m)

pub needed : (s : Inside) (read cut : ℕ) (m : Mark) → HoldsIn s → Holds s.limit (take m.size s.bytes.items) m.place m.done m.first m.start
    → IsSome (fault_of (tail_by s.start (drop s.done s.bytes.items))) → read ≤ s.place → read ≤ m.place → m.size ≤ cut → s.done ≤ cut
    → Needed s read cut m (drop read (take cut s.bytes.items))
needed s read cut m h before fault read_place read_mark size_cut done_cut =
    let bytes : List ℕ = s.bytes.items in
    let broken = broken_by s.start (drop s.done bytes) fault in
    let mark_long : length (take m.size bytes) ≤ m.size = rw length-take (omega arith) in
    let from : read + (m.size - read) ≡ m.size = omega (arith, before.place_within, before.done_within) in
    let back = sym (drop-take read (m.size - read) (take cut bytes)) ∙ ap (λ n. drop read (take n (take cut bytes))) from
    ∙ ap (drop read) (take-take m.size cut bytes size_cut) in
    let now = stand-drop read (stand-take cut (stand h) done_cut) read_place in
    let then = stand-drop read (stand before) read_mark in
    let tails = broken_tail s.start (drop (s.done - read) (drop read (take cut bytes))) (drop s.done bytes) broken in
    record {
      fits = record {
        holds = held now h.whole h.first_is (starts_broken broken h.starts);
        mark_holds = rw back (held then before.whole before.first_is before.starts);
      };
      same = rw (back, waiting_is s.limit now, waiting_is s.limit then, rest_is then, tails) refl;
    }

-- a piece after a fault
pub faulty : (s : Inside) (piece : List ℕ) → HoldsIn s → IsSome (fault_of (tail_by s.start (drop s.done s.bytes.items)))
    → Holds s.limit (take s.done s.bytes.items) s.place s.done s.first s.start
    × (held_by s.limit s.bytes.items s.place s.done s.start
    (Some (record { place = s.place; done = s.done; size = s.done; first = s.first; start = s.start }))
    ≡ fed (held_by s.limit s.bytes.items s.place s.done s.start s.mark) piece)
faulty s piece h fault =
    let broken = broken_by s.start (drop s.done s.bytes.items) fault in
    let cut = stand-take s.done (stand h) (let e : s.done ≤ s.done = omega arith in e) in (
      held cut h.whole h.first_is (starts_broken broken h.starts),
      grind (arith, broken_is s.start broken, waiting_is s.limit cut, append-nil),
    )

-- What is held after a piece, and what the mark goes back to: it fits, and is the value that the piece leads to.
pub record Came (s : Inside) (piece more : List ℕ) (dropped size now : ℕ) (begun next : Start) (mark : Mark) : Type 0 where
  pub fits : Fits s.limit more (s.place - dropped) now begun next (Some mark)
  pub fed_is : held_by s.limit more (s.place - dropped) now next (Some mark)
      ≡ fed (held_by s.limit s.bytes.items s.place s.done s.start s.mark) piece

-- where the last piece began
abbrev pub marked : Inside → ℕ → ℕ → Mark
marked s dropped size =
    record { place = s.place - dropped; done = s.done - dropped; size = size; first = s.first; start = s.start }

pub came : (s : Inside) (piece more rest : List ℕ) (dropped size now left : ℕ) (given begun next : Start) → HoldsIn s
    → is_broken s.start ≡ false → dropped ≤ s.place → more ≡ drop dropped s.bytes.items ++ piece → rest ≡ drop (s.done - dropped) more
    → given ≡ start_of s.limit rest → begun ≡ first_by s.first given (ltb left (length rest)) → Parts s.limit rest next left
    → size ≡ length more - length piece → now ≡ length more - left → Came s piece more dropped size now begun next (marked s dropped size)
came s piece more rest dropped size now left given begun next h unbroken within more_is rest_from given_is begun_is p size_is now_is =
    let w : List ℕ = range s.bytes.items s.place s.done in
    let n : ℕ = length rest - left in
    let f : List ℕ = take n rest in
    let t : List ℕ = drop n rest in
    let was = stand-drop dropped (stand h) within in
    let grown = stand-append piece more was more_is in
    let joined : f ++ t ≡ rest = take-append-drop n rest in
    let parted = sym (rest_from ∙ rest_is grown) ∙ sym joined in
    let last : length t ≡ left = length-drop n rest ∙ (let e : length rest - n ≡ left = omega (arith, p.within) in e) in
    let here = stand-grow f t now grown parted (omega (arith, last)) in
    let old = ap length more_is ∙ length-append (drop dropped s.bytes.items) piece in
    let cut : take size more ≡ drop dropped s.bytes.items = ap (take size) more_is ∙ take_at _ piece size (omega (arith, old)) in
    let reads = ap (reading_of s.limit) parted ∙ whole_read s.limit f t next p.whole p.starts p.no_more in
    let begins = first_now s.limit w f t s.first given h.whole h.first_is p.whole (given_is ∙ ap (start_of s.limit) (sym joined)) in
    let bodies = bodies_with s.limit w f h.whole in
    let partial = unbroken_tail s.start (drop s.done s.bytes.items) unbroken in
    record {
      fits = record {
        holds = held here (whole_with s.limit w f h.whole p.whole) (begun_is ∙ rw (joined, last) at begins) (starts_known p.starts);
        mark_holds = rw cut (held was h.whole h.first_is h.starts);
      };
      fed_is = rw (cut, waiting_is s.limit here, rest_is here, waiting_is s.limit was, rest_is was, bodies, partial, reads) refl;
    }

pub feeds_fault : (old : Unframed) (piece : List ℕ) (new : Unframed) (fault : FrameError) → new ≡ fed old piece
    → fault_of new.tail ≡ Some fault → (fault ≡ NoMemory → ⊥) → Feeds {T = Unit {0}} old piece (Err fault) new
feeds_fault old piece new fault e f m = grind arith

-- the first body that waits, and the frames after it
pub record First (s : Inside) (body after : List ℕ) : Type 0 where
  pub body_is : Some body ≡ first_of (waiting_in s.limit s.bytes.items s.place s.done)
  pub lent : held_by s.limit s.bytes.items (s.done - length after) s.done s.start s.mark
      ≡ lent_from (held_by s.limit s.bytes.items s.place s.done s.start s.mark)
  pub holds : (first : Start) → first ≡ start_of s.limit after
      → Holds s.limit s.bytes.items (s.done - length after) s.done first s.start

pub first_waits : (s : Inside) (body after : List ℕ) → HoldsIn s
    → parts_of s.first (range s.bytes.items s.place s.done) ≡ some_of body after → First s body after
first_waits s body after h parts =
    let f = first_frame s.limit (range s.bytes.items s.place s.done) body after s.first h.first_is parts in
    let reads = ap (reading_of s.limit) f.1 ∙ frame_first s.limit f.0 body after f.2 in
    let now = stand-pass f.0 after (stand h) f.1 in
    record {
      body_is = sym (ap (λ (r : Reading). first_of r.bodies) reads);
      lent = rw (waiting_is s.limit now, sym (ap (λ (r : Reading). others_of r.bodies) reads)) refl;
      holds = λ next e. held now (sym (ap (λ (r : Reading). r.tail) reads) ∙ h.whole) e h.starts;
    }

-- or none
pub none_waits : (s : Inside) → HoldsIn s → parts_of s.first (range s.bytes.items s.place s.done) ≡ None
    → (None ≡ first_of (waiting_in s.limit s.bytes.items s.place s.done))
    × (held_by s.limit s.bytes.items s.place s.done s.start s.mark
    ≡ lent_from (held_by s.limit s.bytes.items s.place s.done s.start s.mark))
none_waits s h parts =
    let none : waiting_in s.limit s.bytes.items s.place s.done ≡ [] = ap (λ (r : Reading). r.bodies)
    (reading_none s.limit (range s.bytes.items s.place s.done) s.first h.first_is parts) in (rw none refl, rw none refl)
