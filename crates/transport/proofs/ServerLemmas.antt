-- What a server has heard, body by body.
use Rattle.transport.proofs.Common.{[], AllGiven, and_gave, and_read, ap, append-nil, append_assoc, arith, Bool, Consumes, Consumes-trans, Err, false, fed, first_of, has_fault, HasHeard, HasRead, Heard, if◌then◌else◌, inr, is_looked_at, lent_from, List, map-append, messages_of, NeedsMore, None, Ok, Option, reads, refl, Result, Some, subst, sym, true, Unframed, Unread, ℕ, ◌++◌, ◌∙◌, ◌∷◌, ◌≡◌, ◌⊎◌}
use Rattle.std.proofs.lemmas.List.Elements.{filter-append}
use Rattle.framing.specs.Reading.{reading_of}
use Rattle.framing.proofs.Pasts.{fed_stands, lent_stands}
use Rattle.protocol.specs.declared.request.Incoming.{Incoming}
use Rattle.protocol.specs.declared.request.Incoming.TheVariants.{Ignored}
use Rattle.protocol.specs.declared.request.MessageError.{MessageError}
use Rattle.protocol.specs.declared.request.MessageError.TheVariants.{NoMemory}
use Rattle.protocol.specs.Reading.{incoming_of, Gives}
use Rattle.session.specs.declared.TheConstants.{BODY_LIMIT}
use Rattle.transport.specs.declared.server.ServerError.{ServerError}
use Rattle.transport.specs.declared.server.ServerError.TheVariants.{Read, TooManyReads, NoMemory as NoMemoryLeft}
use Rattle.transport.specs.Heard.{messages_in}
use Rattle.transport.specs.Servers.{Polled, Gave, Polls}
use Rattle.transport.specs.Private.Inbox.{IsEmptied, Takes, polled_of, Reads, Listens}

first_some : (waiting : List (List ℕ)) (b : List ℕ) → Some b ≡ first_of waiting → (bs : List (List ℕ)) × (waiting ≡ b ∷ bs)
first_some waiting b e = grind arith

messages_of-append : (xs ys : List (List ℕ)) → messages_of (xs ++ ys) ≡ messages_of xs ++ messages_of ys
messages_of-append xs ys = rw (map-append, filter-append)

-- what is given of one body
abbrev looked_at : Result Incoming MessageError → List (Result Incoming MessageError)
looked_at r = if is_looked_at r then r ∷ [] else []

-- the next body is taken, and what is given of it follows what was given
heard_next : (old new : Unframed) (heard : Heard) (b : List ℕ) (r : Result Incoming MessageError)
    (given : List (Result Incoming MessageError)) → Some b ≡ first_of old.waiting → new ≡ lent_from old → incoming_of b ≡ r
    → given ≡ heard.given ++ looked_at r → HasHeard old heard → HasHeard new (record { read = heard.read; given = given })
heard_next old new heard b r given e after is more s =
    let lent = lent_stands old (record { fed = heard.read; lent = s.taken }) s.stands in rw after (record {
      taken = s.taken ++ b ∷ [];
      limit = s.limit;
      stands = rw (← e) at lent;
      given = rw (more, s.given, messages_of-append, is);
    })

pub ignored : (old new : Unframed) (heard : Heard) (b : List ℕ) → Some b ≡ first_of old.waiting → new ≡ lent_from old
    → incoming_of b ≡ Ok Ignored → HasHeard old heard → HasHeard new heard
ignored old new heard b e after is s = heard_next old new heard b (Ok Ignored) heard.given e after is (rw append-nil) s

pub gave : (old new : Unframed) (heard : Heard) (b : List ℕ) (i : Incoming) → (i ≡ Ignored → ⊥) → Some b ≡ first_of old.waiting
    → new ≡ lent_from old → incoming_of b ≡ Ok i → HasHeard old heard → HasHeard new (and_gave heard i)
gave old new heard b i other e after is s = heard_next old new heard b (Ok i) (heard.given ++ Ok i ∷ []) e after is (grind arith) s

reading_at : (k : Unframed) (heard : Heard) (s : HasHeard k heard)
    → reading_of BODY_LIMIT heard.read ≡ record { bodies = s.taken ++ k.waiting; tail = k.tail }
reading_at k heard s = ap (λ limit. reading_of limit heard.read) (sym s.limit) ∙ s.stands.reads

messages_at : (k : Unframed) (heard : Heard) → HasHeard k heard → messages_in heard.read ≡ heard.given ++ messages_of k.waiting
unfolding messages_in
messages_at k heard s = rw (reading_at k heard s, messages_of-append, s.given)

all_given : (k : Unframed) (heard : Heard) → k.waiting ≡ [] → HasHeard k heard → AllGiven heard
all_given k heard none s = rw (messages_at k heard s, none, append-nil)

pub fails : (k : Unframed) (heard : Heard) (b : List ℕ) (e : MessageError) → Some b ≡ first_of k.waiting → Gives (Err e) (incoming_of b)
    → HasHeard k heard → Takes heard (Err e) k
fails k heard b NoMemory first g s = s
fails k heard b e first g s =
    let split = first_some k.waiting b first in
    (s, (messages_of split.0, messages_at k heard s ∙ ap (λ w. heard.given ++ messages_of w) split.1 ∙ rw (sym g)))

-- ---- what was read and not yet fed

-- the pending piece is fed
pub feeds : (old : Unread) (heard : Heard) (unframer : Unframed) → unframer ≡ fed old.unframer old.pending → HasRead old heard
    → HasRead (record { unframer = unframer; pending = [] }) heard
feeds old heard unframer e s = rw e (record {
  fed = s.fed ++ old.pending;
  has_heard = record {
    taken = s.has_heard.taken;
    limit = s.has_heard.limit;
    stands = fed_stands old.unframer (record { fed = s.fed; lent = s.has_heard.taken }) old.pending s.has_heard.stands;
    given = s.has_heard.given;
  };
  read = rw append-nil s.read;
})

-- where no piece is pending, all that was read was fed
all_fed : (old : Unread) (heard : Heard) → old.pending ≡ [] → HasRead old heard → HasHeard old.unframer heard
all_fed old heard none s =
    let all : heard.read ≡ s.fed = rw (none, append-nil) at s.read in
    subst (λ r. HasHeard old.unframer (record { read = r; given = heard.given })) (sym all) s.has_heard

reads_all : (unframer : Unframed) (pending : List ℕ) (heard : Heard) → pending ≡ [] → HasHeard unframer heard
    → HasRead (record { unframer = unframer; pending = pending }) heard
reads_all unframer pending heard none s = record { fed = heard.read; has_heard = s; read = rw (none, append-nil) }

pub polls : (old : Unread) (heard : Heard) (taken : Result (Option Incoming) MessageError) (is_faulty : Bool) (unframer : Unframed)
    (pending : List ℕ) → old.pending ≡ [] → pending ≡ [] → unframer.tail ≡ old.unframer.tail
    → is_faulty ≡ has_fault old.unframer.tail → ((h : Heard) → HasHeard old.unframer h → Takes h taken unframer)
    → (taken ≡ Ok None → unframer.waiting ≡ []) → HasRead old heard
    → Polled heard (polled_of taken is_faulty) (record { unframer = unframer; pending = pending })
polls old heard (Ok (Some i)) is_faulty unframer pending none still tail flag takes all s =
    reads_all unframer pending (and_gave heard i) still (takes heard (all_fed old heard none s))
polls old heard (Ok None) is_faulty unframer pending none still tail flag takes all s =
    let t = takes heard (all_fed old heard none s) in
    grind (arith, reads_all unframer pending heard still t, all_given unframer heard (all refl) t, reading_at unframer heard t)
polls old heard (Err NoMemory) is_faulty unframer pending none still tail flag takes all s =
    reads_all unframer pending heard still (takes heard (all_fed old heard none s))
polls old heard (Err e) is_faulty unframer pending none still tail flag takes all s =
    let t = takes heard (all_fed old heard none s) in (reads_all unframer pending heard still t.0, (e, t.1))

-- where nothing is given, nothing is left to give
pub emptied : (old unframer : Unframed) (taken : Result (Option Incoming) MessageError) (is_faulty : Bool) (pending : List ℕ)
    → pending ≡ [] → unframer.tail ≡ old.tail → is_faulty ≡ has_fault old.tail → (taken ≡ Ok None → unframer.waiting ≡ [])
    → polled_of taken is_faulty ≡ Ok None → IsEmptied (record { unframer = unframer; pending = pending })
emptied old unframer taken is_faulty pending none tail flag all h = grind arith

-- ---- polling

gave_at : (left : Option (List ℕ)) (heard : Heard) (r : Result (Option Incoming) ServerError) (new : Unread) → (r ≡ Ok None → ⊥)
    → Polled heard r new → Gave left heard r new
gave_at left heard r new d p = grind arith

pub gives : {left_before left : Option (List ℕ)} {heard : Heard} {reads : ℕ} {old new : Unread} {r : Result (Option Incoming) ServerError}
    → (r ≡ Ok None → ⊥) → Listens left_before left heard reads old → ((h : Heard) → HasRead old h → Polled h r new)
    → Polls left_before left heard r reads new
gives {left = left} {heard = heard} {new = new} {r = r} d l polled = record {
  read = l.read;
  consumed = l.consumed;
  needed = l.needed;
  gave = gave_at left (and_read heard l.read) r new d (polled (and_read heard l.read) l.has_read);
}

-- more was needed before the first read too
needs_first : (heard : Heard) (read : List ℕ) (reads : ℕ) → ((reads ≡ 0) × (read ≡ [])) ⊎ NeedsMore heard
    → NeedsMore (and_read heard read) → NeedsMore heard
needs_first heard read reads needed more = grind (arith, append-nil)

-- nothing is given of what is whole
module _ {left_before left : Option (List ℕ)} {heard : Heard} {reads : ℕ} {old mid : Unread} (l : Listens left_before left heard reads old)
    (polled : (h : Heard) → HasRead old h → Polled h (Ok None) mid) where
  needs : HasRead mid (and_read heard l.read) × NeedsMore (and_read heard l.read)
  needs = polled (and_read heard l.read) l.has_read

  first : NeedsMore heard
  first = needs_first heard l.read reads l.needed needs.1

  no_more : (left' : Option (List ℕ)) → Consumes left left' [] → Consumes left_before left' l.read
  no_more left' c = rw append-nil at (Consumes-trans left_before left left' l.read [] l.consumed c)

  -- a piece is read
  pub listens_on : {left' : Option (List ℕ)} {reads' : ℕ} {new : Unread} → ((h : Heard) → HasRead mid h → Reads left left' h (Ok true) new)
      → Listens left_before left' heard reads' new
  listens_on {left' = left'} read =
      let r = read (and_read heard l.read) needs.0 in record {
        read = l.read ++ r.0;
        consumed = Consumes-trans left_before left left' l.read r.0 l.consumed r.1;
        needed = inr first;
        has_read = rw append_assoc at r.2;
      }

  -- the end of the input
  pub ends_reading : {left' : Option (List ℕ)} {reads' : ℕ} {new : Unread}
      → ((h : Heard) → HasRead mid h → Reads left left' h (Ok false) new) → Polls left_before left' heard (Ok None) reads' new
  ends_reading {left' = left'} read =
      let r = read (and_read heard l.read) needs.0 in
      record { read = l.read; consumed = no_more left' r.0; needed = inr first; gave = ((r.2, needs.1), r.1) }

  pub read_fails : {left' : Option (List ℕ)} {reads' : ℕ} {new : Unread} (e : ServerError)
      → ((h : Heard) → HasRead mid h → Reads left left' h (Err e) new) → Polls left_before left' heard (Err e) reads' new
  read_fails {left' = left'} Read read =
      let r = read (and_read heard l.read) needs.0 in
      record { read = l.read; consumed = no_more left' r.0; needed = inr first; gave = (r.1, needs.1) }
  read_fails {left' = left'} NoMemoryLeft read =
      let r = read (and_read heard l.read) needs.0 in
      record { read = l.read; consumed = no_more left' r.0; needed = inr first; gave = r.1 }
  read_fails _ read = absurd (read (and_read heard l.read) needs.0)

  pub reads_too_often : Polls left_before left heard (Err TooManyReads) reads mid
  reads_too_often = record { read = l.read; consumed = l.consumed; needed = l.needed; gave = needs }
