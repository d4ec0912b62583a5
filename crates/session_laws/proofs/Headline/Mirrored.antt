-- What an editor's mirror holds was so.
use Rattle.session_laws.proofs.Headline.Common.{All, arith, Beginning, fed_in, Happened, length, life_of, List, MirrorsHoldWhatWasSo, Reached, subst, sym, WereSo, ℕ}
use Rattle.session_laws.proofs.Proper.{answers_are_proper}
use Rattle.session_laws.proofs.Messages.Numbered.{in_range}
use Rattle.session_laws.proofs.Headline.Truth.{headline}
use Rattle.session_laws.proofs.Headline.Readable.{IsReadable, IsShort}
use Rattle.session_laws.proofs.Headline.Editing.{facts_made, no_fault}

-- each message has a number, and is one that an adapter may send
pub all_are_readable : (from : Beginning) (events : List Happened) → ((c : ℕ) → All IsShort (life_of c (Reached from events)).said)
    → (c : ℕ) → All IsReadable (life_of c (Reached from events)).said
all_are_readable from events short c = λ k d less.
    let range = in_range from events c in
    let number = range.all k d less in
    let few = range.few in
    let high = number.1 in
    (((number.0, omega (arith, few, high)), answers_are_proper from events c k d less), short c k d less)

pub mirrors_hold : (from : Beginning) (events : List Happened) → ((c : ℕ) → All IsShort (life_of c (Reached from events)).said)
    → MirrorsHoldWhatWasSo (Reached from events)
mirrors_hold from events short c inputs editor =
    let life = life_of c (Reached from events) in
    let readable = all_are_readable from events short c in
    let count = length (fed_in inputs) in
    let facts = facts_made life readable inputs editor in
    let so = subst (WereSo count life) (sym facts) (headline from events c count) in
    record {
      readable = no_fault life readable inputs editor;
      facts = facts;
      so = so;
      mirror = λ kept stands. subst (WereSo count life) (sym stands.facts) so;
    }
