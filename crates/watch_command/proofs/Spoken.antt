-- What an event says, in each session that was represented.
use Rattle.watch_command.proofs.Common.{[], ap, append-nil, append_assoc, came, closing, codes, Does, DoesOne, Err, Event, false, fed, first_of, flat_map, is_some, IsEmptied, IsReady, lacks_memory, left_over, line, List, None, nothing_fed, Ok, Option, others_of, piece_of, queued, Reading, reading_after, reading_of, refl, Result, SaysEach, SaysOne, SaysPiece, SaysTold, SaysWhatCame, Some, Stream, subst, sym, tail_after, told, told_each, true, Unframed, ℕ, ◌++◌, ◌∙◌, ◌∷◌, ◌≡◌}
use Rattle.framing.proofs.Passing.{nothing_read}
use Rattle.session.specs.Effects.{EndsWell, ran_out}
use Rattle.session.specs.Kept.{Happens, Kept, Stands}
use Rattle.session.specs.Sessions.{Answer, Effect, Session, histories}
use Rattle.session.specs.declared.event.Applied.{Applied}
use Rattle.session.specs.declared.event.EventError.{EventError}
use Rattle.session.specs.declared.event.EventError.TheVariants as error
use Rattle.session.specs.declared.event.LinkFault.{LinkFault}
use Rattle.watch_command.proofs.Leaving.{tail_on}
use Rattle.watch_command.specs.Conversing.{after, said}
use Rattle.watch_command.specs.declared.asked.Asked.{Asked}

-- where memory was left, the answer is the event's, and what is kept represents what the event leaves
ended_well : (s : Session) (e : Event) (new : Kept) (x : Applied) (o : Option ℕ) → is_some o ≡ false
    → EndsWell histories s e x o (λ t. Stands new t) → (Answer s e ≡ Ok x) × Stands new (Effect s e)
ended_well s e new x None none h = h
ended_well s e new x (Some moved) none h = absurd (let no : true ≡ false = none in cc)

happened : (s : Session) (e : Event) (old new : Kept) (r : Result Applied EventError) → lacks_memory r ≡ false → Stands old s
    → Happens old e r new → (Answer s e ≡ r) × Stands new (Effect s e)
happened s e old new (Ok x) left stands h = ended_well s e new x (ran_out x) left (h.to_each s stands)
happened s e old new (Err error.NotConnected) left stands h = h.to_each s stands
happened s e old new (Err error.AlreadyConnected) left stands h = h.to_each s stands
happened s e old new (Err error.Busy) left stands h = h.to_each s stands
happened s e old new (Err error.SentTooMuch) left stands h = h.to_each s stands
happened s e old new (Err error.PieceTooLong) left stands h = h.to_each s stands
happened s e old new (Err error.Closing) left stands h = h.to_each s stands
happened s e old new (Err error.NoMemory) left stands h = absurd (let no : true ≡ false = left in cc)
happened s e old new (Err error.Spent) left stands h = h.to_each s stands

module _ (knows : List (List ℕ)) (n : ℕ) (e : Event) (old new : Kept) (stream stream' : Stream) (answer : Result Applied EventError)
    (fault : Option LinkFault)
    (piece text between text' : List ℕ) (left : lacks_memory answer ≡ false) (h : Happens old e answer new) (closes : fault ≡ new.now.fault)
    (brings : piece ≡ piece_of e) (says : SaysWhatCame n piece fault answer stream stream' text between)
    (tells : text' ≡ between ++ told knows n (queued old.waiting new.waiting)) where
  pub does : Does knows n e old new stream stream' (λ lines. text' ≡ text ++ lines)
  unfolding said after
  does = record {
    ready = says.0;
    each = λ s stands. (
        let ends = happened s e old new answer left stands h in
        let same : answer ≡ Answer s e = sym ends.0 in
        let fault_is : fault ≡ (Effect s e).now.fault = closes ∙ ap (λ (k : Kept). k.now.fault) ends.1 in
        let waited : old.waiting ≡ s.waiting = ap (λ (k : Kept). k.waiting) stands in
        let waits : new.waiting ≡ (Effect s e).waiting = ap (λ (k : Kept). k.waiting) ends.1 in
        let lines : came n stream.unframer.tail piece fault answer ++ told knows n (queued old.waiting new.waiting)
        ≡ came n stream.unframer.tail (piece_of e) (Effect s e).now.fault (Answer s e) ++ told knows n
        (queued s.waiting (Effect s e).waiting) =
        (λ i. came n stream.unframer.tail (brings i) (fault_is i) (same i) ++ told knows n (queued (waited i) (waits i))) in (
          ends.1,
          (
            says.1.0 ∙ (λ i. tail_after stream.unframer.tail (brings i) (same i)),
            tells ∙ ap (λ (l : List ℕ). l ++ told knows n (queued old.waiting new.waiting)) says.1.1
                ∙ append_assoc text (came n stream.unframer.tail piece fault answer) (told knows n (queued old.waiting new.waiting))
                ∙ ap (λ (l : List ℕ). text ++ l) lines,
          ),
        )
        );
  }

-- with what was known
pub does_one : (asked : Asked) (n : ℕ) (e : Event) (old new : Kept) (stream stream' : Stream) (answer : Result Applied EventError) (fault : Option LinkFault)
    (piece bytes text between text' : List ℕ) → lacks_memory answer ≡ false → Happens old e answer new → fault ≡ new.now.fault
    → piece ≡ piece_of e
    → SaysWhatCame n piece fault answer stream stream' text between → bytes ≡ queued old.waiting new.waiting
    → SaysTold asked n bytes between text'
    → DoesOne asked n e old new stream stream' (λ lines. text' ≡ text ++ lines)
does_one asked n e old new stream stream' answer fault piece bytes text between text' left h closes brings says is tells = (
  tells.0,
  (
    tells.1.0,
    does tells.0 n e old new stream stream' answer fault piece text between text' left h closes brings says
        (tells.1.1 ∙ ap (λ (l : List ℕ). between ++ told tells.0 n l) is),
  ),
)

-- from nothing
pub does_from : (asked : Asked) (n : ℕ) (e : Event) (old new : Kept) (stream stream' : Stream) (text text' : List ℕ) → text ≡ []
    → DoesOne asked n e old new stream stream' (λ lines. text' ≡ text ++ lines)
    → DoesOne asked n e old new stream stream' (λ lines. text' ≡ lines)
does_from asked n e old new stream stream' text text' empty h =
    subst (λ (l : List ℕ). DoesOne asked n e old new stream stream' (λ lines. text' ≡ l ++ lines)) empty h

-- ---- what was known after each message

-- nothing
pub told_plain : (n : ℕ) (bodies : List (List ℕ)) → told_each [] n bodies ≡ flat_map (line n (codes " <- ")) bodies
told_plain n [] = refl
told_plain n (body ∷ bodies) = ap (λ (l : List ℕ). line n (codes " <- ") body ++ l) (told_plain n bodies)

-- what was known so far, and what is told of the bodies that wait, by what is known of them
pub record Telling (n : ℕ) (bodies waiting : List (List ℕ)) (text now : List ℕ) : Type 0 where
  pub knows : List (List ℕ)
  pub is : (more : List (List ℕ)) → now ++ told_each more n waiting ≡ text ++ told_each (knows ++ more) n bodies

pub telling_first : (n : ℕ) (bodies : List (List ℕ)) (text : List ℕ) → Telling n bodies bodies text text
telling_first n bodies text = record { knows = []; is = λ more. refl }

-- one more
telling_on : (n : ℕ) (bodies waiting : List (List ℕ)) (text now now' body : List ℕ) → Some body ≡ first_of waiting
    → SaysOne n body now now' → Telling n bodies waiting text now → Telling n bodies (others_of waiting) text now'
telling_on n bodies [] text now now' body first one h =
    absurd (let no : (let o : Option (List ℕ) = Some body in o) ≡ None = first in cc)
telling_on n bodies (x ∷ others) text now now' body first one h =
    let same : body ≡ x = cc in
    let known = one.0 in
    record {
      knows = h.knows ++ known ∷ [];
      is = λ more. (
          let rest = told_each more n others in
          let mark = line n (codes " <- ") in
          ap (λ (l : List ℕ). l ++ rest) (one.1 ∙ ap (λ (b : List ℕ). (now ++ mark b) ++ known) same)
          ∙ append_assoc (now ++ mark x) known rest ∙ append_assoc now (mark x) (known ++ rest)
          ∙ h.is (known ∷ more)
          ∙ ap (λ (l : List (List ℕ)). text ++ told_each l n bodies) (sym (append_assoc h.knows (known ∷ []) more))
          );
    }

pub telling_more : (n : ℕ) (bodies waiting waiting' : List (List ℕ)) (text now now' body : List ℕ) → Some body ≡ first_of waiting
    → waiting' ≡ others_of waiting → SaysOne n body now now' → Telling n bodies waiting text now → Telling n bodies waiting' text now'
telling_more n bodies waiting waiting' text now now' body first e one h =
    subst (λ (w : List (List ℕ)). Telling n bodies w text now') (sym e) (telling_on n bodies waiting text now now' body first one h)

-- all were told
pub telling_last : (n : ℕ) (bodies waiting : List (List ℕ)) (text now : List ℕ) → None ≡ first_of waiting
    → Telling n bodies waiting text now
    → SaysEach n bodies text now
telling_last n bodies [] text now none h =
    (h.knows, sym (append-nil now) ∙ h.is [] ∙ ap (λ (l : List (List ℕ)). text ++ told_each l n bodies) (append-nil h.knows))
telling_last n bodies (x ∷ others) text now none h = absurd (let no : (let o : Option (List ℕ) = None in o) ≡ Some x = none in cc)

-- no facts were asked for
pub plain_told : (asked : Asked) (n : ℕ) (bytes text text' : List ℕ) (waiting : List (List ℕ))
    → waiting ≡ (reading_of 4294967295 bytes).bodies
    → text' ≡ text ++ flat_map (line n (codes " <- ")) waiting → SaysTold asked n bytes text text'
plain_told asked n bytes text text' waiting e f = (
  [],
  (
    (λ off. refl),
    f ∙ ap (λ (l : List ℕ). text ++ l) (ap (λ (w : List (List ℕ)). flat_map (line n (codes " <- ")) w) e
        ∙ sym (told_plain n (reading_of 4294967295 bytes).bodies)),
  ),
)

-- they were
pub known_told : (asked : Asked) (n : ℕ) (bytes text text' : List ℕ) (waiting : List (List ℕ))
    → waiting ≡ (reading_of 4294967295 bytes).bodies
    → asked.facts ≡ true → SaysEach n waiting text text' → SaysTold asked n bytes text text'
known_told asked n bytes text text' waiting e on h =
    (h.0, ((λ off. absurd (let no : true ≡ false = sym on ∙ off in cc)), h.1 ∙ ap (λ (w : List (List ℕ)). text ++ told_each h.0 n w) e))

-- ---- what came

pub fresh : (bytes : List ℕ) (u : Unframed) → bytes ≡ [] → u ≡ nothing_fed 1048576 → IsReady (record { bytes = bytes; unframer = u })
fresh bytes u e f = (
  ap (λ (u : Unframed). u.limit) f,
  (
    ap (λ (u : Unframed). u.waiting) f,
    ap (λ (b : List ℕ). (reading_of 1048576 b).tail) e ∙ ap (λ (r : Reading). r.tail) (nothing_read 1048576)
        ∙ sym (ap (λ (u : Unframed). u.tail) f),
  ),
)

piece_said : (n : ℕ) (piece : List ℕ) (fault : Option LinkFault) (old : Stream) (u v : Unframed) (bytes text between text' : List ℕ)
    → IsReady old
    → bytes ≡ old.bytes ++ piece → u ≡ fed old.unframer piece → IsEmptied u v → between ≡ text ++ flat_map (line n (codes " -> ")) u.waiting
    → text' ≡ between ++ closing n fault → SaysPiece n piece fault old (record { bytes = bytes; unframer = v }) text text'
piece_said n piece fault old u v bytes text between text' ready b f emptied lines closes =
    let r : Reading = reading_after 1048576 old.unframer.tail piece in
    let read : reading_after old.unframer.limit old.unframer.tail piece ≡ r = ap
    (λ (k : ℕ). reading_after k old.unframer.tail piece) ready.0 in
    let waits : u.waiting ≡ r.bodies = ap (λ (x : Unframed). x.waiting) f
    ∙ ap (λ (w : List (List ℕ)). w ++ (reading_after old.unframer.limit old.unframer.tail piece).bodies) ready.1.0
    ∙ ap (λ (x : Reading). x.bodies) read in
    let tail : v.tail ≡ r.tail = emptied.1.1 ∙ ap (λ (x : Unframed). x.tail) f ∙ ap (λ (x : Reading). x.tail) read in (
      (
        emptied.0 ∙ ap (λ (x : Unframed). x.limit) f ∙ ready.0,
        (
          emptied.1.0,
          ap (λ (l : List ℕ). (reading_of 1048576 l).tail) b ∙ tail_on old.bytes piece old.unframer.tail ready.1.1 ∙ sym tail,
        ),
      ),
      (
        tail,
        closes ∙ ap (λ (l : List ℕ). l ++ closing n fault)
            (lines ∙ ap (λ (w : List (List ℕ)). text ++ flat_map (line n (codes " -> ")) w) waits)
            ∙ append_assoc text (flat_map (line n (codes " -> ")) r.bodies) (closing n fault),
      ),
    )

pub piece_inside : (n : ℕ) (piece : List ℕ) (fault : Option LinkFault) (old inside : Stream) (u v : Unframed) (bytes text between text' : List ℕ)
    → inside ≡ old → IsReady old → bytes ≡ inside.bytes ++ piece → u ≡ fed inside.unframer piece → IsEmptied u v
    → between ≡ text ++ flat_map (line n (codes " -> ")) u.waiting → text' ≡ between ++ closing n fault
    → SaysPiece n piece fault old (record { bytes = bytes; unframer = v }) text text'
piece_inside n piece fault old inside u v bytes text between text' is ready b f emptied lines closes =
    subst (λ (s : Stream). SaysPiece n piece fault s (record { bytes = bytes; unframer = v }) text text') is
    (piece_said n piece fault inside u v bytes text between text'
    (subst (λ (s : Stream). IsReady s) (sym is) ready) b f emptied lines closes)

pub left_line : (n : ℕ) (left text text' : List ℕ) → (left ≡ [] → ⊥) → text' ≡ text ++ line n (codes " -- ") left
    → text' ≡ text ++ left_over n left
left_line n [] text text' some h = absurd (some refl)
left_line n (byte ∷ rest) text text' some h = h
