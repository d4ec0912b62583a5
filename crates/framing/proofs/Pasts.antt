-- What is kept represents all that came.
use Rattle.framing.proofs.Common.{ap, append_assoc, arith, Err, fault_of, Faulty, fed, Feeds, first_of, FrameError, HasFault, lent_from, lent_times, List, NoMemory, None, nothing_came, nothing_fed, Ok, Reading, reading_after, refl, Result, Some, StandsFor, Stream, subst, suc, sym, Tail, TailIs, TakesPiece, Unframed, with_lent, with_piece, zero, ℕ, ◌++◌, ◌∙◌, ◌≡◌}
use Rattle.framing.specs.Reading.{reading_of}
use Rattle.framing.proofs.Cutting.{reading_of-append}
use Rattle.framing.proofs.Faults.{fault_read}
use Rattle.framing.proofs.Framing.{framed_read, reading_is_right}
use Rattle.std.proofs.lemmas.Grind.{common_steps}

pub nothing_stands : (limit : ℕ) → StandsFor (nothing_fed limit) nothing_came
unfolding reading_of
nothing_stands limit = record { reads = refl }

-- after a piece
pub fed_stands : (kept : Unframed) (s : Stream) (piece : List ℕ) → StandsFor kept s → StandsFor (fed kept piece) (with_piece s piece)
fed_stands kept s piece h =
    let more : Reading = reading_after kept.limit kept.tail piece in
    record { reads = reading_of-append kept.limit s.fed piece ∙ rw (h.reads, append_assoc s.lent kept.waiting more.bodies) refl }

-- after a body was lent
pub lent_stands : (kept : Unframed) (s : Stream) → StandsFor kept s → StandsFor (lent_from kept) (with_lent s (first_of kept.waiting))
lent_stands kept s h = grind (arith, common_steps)

-- loans change nothing but what waits
pub lent_keeps : (loans : ℕ) (kept : Unframed) → (waiting : List (List ℕ)) × (lent_times loans kept ≡ record kept { waiting = waiting })
lent_keeps zero kept = (kept.waiting, refl)
lent_keeps (suc loans) kept = lent_keeps loans (lent_from kept)

-- the fault of a stream is the one that is read
fault_is_read : (limit : ℕ) (stream : List ℕ) (fault : FrameError) → HasFault limit stream fault
    → (reading_of limit stream).tail ≡ Faulty fault
fault_is_read limit stream fault h = grind (arith, framed_read limit stream h.bodies h.rest h.framed, fault_read limit h.rest fault h.has)

fault_that_is_read : (limit : ℕ) (stream : List ℕ) (fault : FrameError) → (reading_of limit stream).tail ≡ Faulty fault
    → HasFault limit stream fault
fault_that_is_read limit stream fault e =
    let r = reading_is_right limit stream in
    record { bodies = (reading_of limit stream).bodies; rest = r.rest; framed = r.framed; has = subst (TailIs limit r.rest) e r.tail }

-- the tail of the stream with the piece is the one that is kept, and its fault too
new_tail : (old : Unframed) (s : Stream) (piece : List ℕ) (new : Unframed) → StandsFor old s → new ≡ fed old piece
    → new.tail ≡ (reading_of old.limit (s.fed ++ piece)).tail
new_tail old s piece new h e = grind (arith, fed_stands old s piece h)

tail_fault : (tail : Tail) (fault : FrameError) → fault_of tail ≡ Some fault → tail ≡ Faulty fault
tail_fault tail fault h = grind arith

pub taking : (T : Type 0) (old : Unframed) (piece : List ℕ) (result : Result T FrameError) (new : Unframed) → Feeds old piece result new
    → TakesPiece old piece result new
taking T old piece (Ok x) new f = record {
  to_each = λ s h. (
    rw f.0 (fed_stands old s piece h),
    λ fault has.
        (let tail = new_tail old s piece new h f.0 ∙ fault_is_read old.limit (s.fed ++ piece) fault has in
        let none : None ≡ Some fault = sym f.1 ∙ ap fault_of tail in cc),
  );
  before = λ s h. rw f.0 (record { reads = h.reads });
}
taking T old piece (Err NoMemory) new f = record { to_each = λ s h. rw f h; before = λ s h. rw f h }
taking T old piece (Err fault) new f = record {
  to_each = λ s h. (
    rw f.0 (fed_stands old s piece h),
    fault_that_is_read old.limit (s.fed ++ piece) fault (sym (new_tail old s piece new h f.0) ∙ tail_fault new.tail fault f.1),
  );
  before = λ s h. rw f.0 (record { reads = h.reads });
}
