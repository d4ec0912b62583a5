-- Call after call of a server.
use Rattle.transport.proofs.Common.{[], ap, append_assoc, Appends, Appends-nil, Appends-trans, arith, Err, IfSome, inl, inr, length, List, None, Ok, Option, Queued, refl, Result, Some, subst, suc, ℕ, ◌++◌, ◌+◌, ◌∙◌, ◌∷◌, ◌≡◌}
use Rattle.protocol.specs.declared.request.Incoming.{Incoming}
use Rattle.replies.specs.declared.message.Message.{Message as AMessage}
use Rattle.queues.specs.Writing.{frame_of}
use Rattle.transport.specs.Servers.{Writes}
use Rattle.transport.specs.declared.server.ServerError.{ServerError}
use Rattle.transport.specs.declared.server.ServerError.TheVariants.{Write, NoMemory, SeqSpent}
use Rattle.transport.specs.Laws.{Served, Call, Poll, Say, Polled, Said, DidAll, written, frames_from, IsPartOfNext, MessagesAreFramedInOrder}

-- ---- after a lasting error

-- nothing is written any more, and the error stays
stays_by : (calls : List Call) (a last : Served) (e : ServerError) → a.fault ≡ Some e → DidAll a calls last
    → (last ≡ a) × (written calls ≡ [])
stays_by [] a last e f d = (d, refl)
stays_by (Poll result ∷ calls) a last e f d =
    let p = subst (λ (o : Option ServerError). IfSome o (λ x. (result ≡ Err x) × (d.0 ≡ a))) f d.1.stays in
    let m = stays_by calls d.0 last e (rw p.1 f) d.2 in (m.0 ∙ p.1, m.1)
stays_by (Say message result ∷ calls) a last e f d =
    let p = subst (λ (o : Option ServerError). IfSome o (λ x. (result ≡ Err x) × (d.0 ≡ a))) f d.1.stays in
    let m = stays_by calls d.0 last e (rw p.1 f) d.2 in (m.0 ∙ p.1, rw p.0 m.1)

-- ---- before a lasting error

-- what was written, of the messages that were said with success: the fields of `Wrote`
abbrev WroteAll : ℕ → List AMessage → Option (List ℕ) → Served → Type 0
WroteAll n messages held last = (part : List ℕ) × Appends held last.held (frames_from (n + 1) messages ++ part)
    × IsPartOfNext (n + length messages + 1) last.fault part

kept : (a mid : Served) → mid.held ≡ a.held → Appends a.held mid.held []
kept a mid e = rw e (Appends-nil a.held)

-- nothing was written, and then what the other calls wrote
after_none : (n : ℕ) (messages : List AMessage) (a mid last : Served) → Appends a.held mid.held [] → WroteAll n messages mid.held last
    → WroteAll n messages a.held last
after_none n messages a mid last none w =
    (w.0, Appends-trans a.held mid.held last.held [] (frames_from (n + 1) messages ++ w.0) none w.1, w.2)

-- a part was written, and nothing more after an error
wrote_part : (n : ℕ) (calls : List Call) (a mid last : Served) (part : List ℕ) → Appends a.held mid.held part
    → (last ≡ mid) × (written calls ≡ []) → IsPartOfNext (n + 0 + 1) mid.fault part → WroteAll n (written calls) a.held last
wrote_part n calls a mid last part p s next = rw (s.1, s.0) (part, p, next)

abbrev empty_after : ℕ → Queued
empty_after n = record { count = n; waiting = [] }

said : (n : ℕ) (a mid : Served) (message : AMessage) (result : Result (Unit {0}) ServerError) → a.fault ≡ None → a.outbox ≡ empty_after n
    → Said a message result mid
    → Writes a.held mid.held (empty_after n) message result mid.outbox mid.fault
said n a mid message result f o q = rw o at (q.writes f (ap (λ (u : Queued). u.waiting) o))

polled : (n : ℕ) (calls : List Call) (a mid last : Served) (result : Result (Option Incoming) ServerError) → Polled a result mid
    → DidAll mid calls last → (mid.fault ≡ None → WroteAll n (written calls) mid.held last)
    → (w : Option ServerError) → mid.fault ≡ w → WroteAll n (written calls) a.held last
polled n calls a mid last result p d goes_on None g = after_none n (written calls) a mid last (kept a mid p.held) (goes_on g)
polled n calls a mid last result p d goes_on (Some e) g =
    wrote_part n calls a mid last [] (kept a mid p.held) (stays_by calls mid last e g d) (inl refl)

framed : (calls : List Call) (n : ℕ) (a last : Served) → a.fault ≡ None → a.outbox ≡ empty_after n → DidAll a calls last
    → WroteAll n (written calls) a.held last
framed [] n a last f o d = ([], rw d (Appends-nil a.held), inl refl)
framed (Poll result ∷ calls) n a last f o d =
    polled n calls a d.0 last result d.1 d.2 (λ g. framed calls n d.0 last g (d.1.outbox ∙ o) d.2) d.0.fault refl
framed (Say message (Ok x) ∷ calls) n a last f o d =
    let r = said n a d.0 message (Ok x) f o d.1 in
    let w = framed calls (n + 1) d.0 last r.2 r.1 d.2 in
    let frame = frame_of (n + 1) message in
    let others = frames_from (n + 1 + 1) (written calls) in
    let number : n + 1 + length (written calls) + 1 ≡ n + suc (length (written calls)) + 1 = omega arith in (
      w.0,
      rw append_assoc (Appends-trans a.held d.0.held last.held frame (others ++ w.0) r.0 w.1),
      rw number at w.2,
    )
framed (Say message (Err Write) ∷ calls) n a last f o d =
    let r = said n a d.0 message (Err Write) f o d.1 in
    let number : n + 1 ≡ n + 0 + 1 = omega arith in
    let next : IsPartOfNext (n + 1) d.0.fault r.0 = inr (r.4, (message, (d.0.outbox.waiting, r.2))) in
    wrote_part n calls a d.0 last r.0 r.1 (stays_by calls d.0 last Write r.4 d.2) (subst (λ k. IsPartOfNext k d.0.fault r.0) number next)
framed (Say message (Err NoMemory) ∷ calls) n a last f o d =
    let r = said n a d.0 message (Err NoMemory) f o d.1 in
    after_none n (written calls) a d.0 last r.0 (framed calls n d.0 last r.2 r.1 d.2)
framed (Say message (Err SeqSpent) ∷ calls) n a last f o d =
    let r = said n a d.0 message (Err SeqSpent) f o d.1 in
    after_none n (written calls) a d.0 last r.0 (framed calls n d.0 last r.2 r.1 d.2)
framed (Say message (Err e) ∷ calls) n a last f o d = absurd (said n a d.0 message (Err e) f o d.1)

pub messages_are_framed_in_order : MessagesAreFramedInOrder
messages_are_framed_in_order written held calls last d =
    let w = framed calls written _ last refl refl d in record { part = w.0; appended = w.1; rest = w.2 }
