-- An editor is connected, or refused: what is left of a session is what the event leaves.
use Rattle.std.proofs.Common.{◌≡◌, ℕ, Result, Ok, Err, refl}
use Rattle.session.specs.declared.event.Applied.TheVariants as applied
use Rattle.session.specs.declared.event.Event.TheVariants.{Connect}
use Rattle.session.specs.declared.event.EventError.{EventError}
use Rattle.session.specs.declared.event.EventError.TheVariants.{NotConnected, AlreadyConnected, Busy, SentTooMuch, PieceTooLong, Closing, NoMemory, Spent}
use Rattle.session.specs.Kept.{Kept, Stands, Happens, answered}
use Rattle.session.specs.Sessions.{Session, Effect}

pub connected : (k mid : Kept) (r : Result ℕ EventError) → (r ≡ Err NoMemory → ⊥) → Happens k Connect (answered applied.Connect r) mid
    → (s : Session) → Stands k s → Stands mid (Effect s Connect)
connected k mid (Ok n) none h s st = (h.to_each s st).1
connected k mid (Err NoMemory) none h s st = absurd (none refl)
connected k mid (Err NotConnected) none h s st = (h.to_each s st).1
connected k mid (Err AlreadyConnected) none h s st = (h.to_each s st).1
connected k mid (Err Busy) none h s st = (h.to_each s st).1
connected k mid (Err SentTooMuch) none h s st = (h.to_each s st).1
connected k mid (Err PieceTooLong) none h s st = (h.to_each s st).1
connected k mid (Err Closing) none h s st = (h.to_each s st).1
connected k mid (Err Spent) none h s st = (h.to_each s st).1
