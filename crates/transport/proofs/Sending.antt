-- Write by write, until all is written.
use Rattle.transport.proofs.Common.{[], ap, append-nil, append_assoc, Appends, Appends-kept, Appends-trans, Err, holds, List, Ok, Option, Queued, Result, sent, sym, take, take-append-drop, ℕ, ◌++◌, ◌+◌, ◌∙◌, ◌≡◌}
use Rattle.replies.specs.declared.message.Message.{Message}
use Rattle.transport.specs.Private.Outbox.{queued, Sends, SendsPrefix}
use Rattle.queues.specs.Writing.{frame_of}

-- one write more
pub sends_on : {E : Type 0} (held mid holds : Option (List ℕ)) (old now new : Queued) (r : Result ℕ E) → SendsPrefix held mid old now
    → Sends mid holds now r new → SendsPrefix held holds old new
sends_on held mid holds old now new (Ok n) s w = rw w.2 (record {
  sent = s.sent ++ take n now.waiting;
  appended = Appends-trans held mid holds s.sent (take n now.waiting) s.appended w.1;
  rest = rw (append_assoc, take-append-drop) s.rest;
  count = s.count;
})
sends_on held mid holds old now new (Err e) s w =
    rw w.1 (record { sent = s.sent; appended = Appends-kept held mid holds s.sent s.appended w.0; rest = s.rest; count = s.count })

-- a message is written whole, where nothing waited before it
pub sent_whole : (held holds : Option (List ℕ)) (old mid new : Queued) (m : Message) → old.waiting ≡ [] → mid ≡ queued old m
    → SendsPrefix held holds mid new → new.waiting ≡ []
    → Appends held holds (frame_of (old.count + 1) m) × (new ≡ record { count = old.count + 1; waiting = [] })
sent_whole held holds old mid new m nothing e s all =
    let rest : old.waiting ++ frame_of (old.count + 1) m ≡ s.sent ++ new.waiting = ap (λ (q : Queued). q.waiting) (sym e) ∙ s.rest in
    let whole : frame_of (old.count + 1) m ≡ s.sent = rw (nothing, all, append-nil) at rest in
    let count : new.count ≡ old.count + 1 = s.count ∙ ap (λ (q : Queued). q.count) e in
    (rw whole s.appended, rw (count, all))
