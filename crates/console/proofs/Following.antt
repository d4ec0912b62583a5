-- A client that followed a session follows one after each call.
use Rattle.std.proofs.Common.{◌≡◌, ◌∙◌, ap, List, [], ◌++◌, Result, Ok, Err, subst, sym, ℕ}
use Rattle.client.specs.Following.{Begins, Calls, GoesOn, Kept, Sends, Takes, taking}
use Rattle.client.specs.declared.error.SendError.{SendError}
use Rattle.client.specs.declared.error.SendError.TheVariants as send
use Rattle.protocol.specs.declared.request.Request.{Request}
use Rattle.session.specs.Reached.{Happened}
use Rattle.session.specs.declared.event.Applied.{Applied}
use Rattle.session.specs.declared.event.Event.{Event}
use Rattle.session.specs.declared.event.EventError.{EventError}
use Rattle.client.proofs.Following.{what_a_client_knows_was_so}
use Rattle.mirror.specs.Kept.{Kept as Mirrored, facts_of}
use Rattle.std.specs.Prelude.{IfOk}
use Rattle.console.specs.Following.{IsFollowing}
use Rattle.console.specs.Screens.{AreKnown, IsTrue}
use Rattle.console.proofs.Pages.{are_known}
use Rattle.console.specs.Private.Pages.{pieces_of}
use Rattle.console.specs.declared.page.Part.{Part}
use Rattle.console.specs.declared.page.Screen.{Screen}

goes_on : (more : List Happened) (old new : Kept) → GoesOn more old new → IsFollowing old → IsFollowing new
goes_on more old new goes (from, (happened, f)) = (from, (happened ++ more, goes from happened f))

pub sends : (r : Request) (old : Kept) (result : Result (Unit {0}) SendError) (new : Kept) → Sends r old result new → IsFollowing old → IsFollowing new
sends r old (Ok done) new s f = goes_on _ old new s.0 f
sends r old (Err send.Number) new s f = subst IsFollowing (sym s.1) f
sends r old (Err send.Range) new s f = subst IsFollowing (sym s.1) f
sends r old (Err (send.Session why)) new s f = goes_on [] old new s.0 f
sends r old (Err send.NoMemory) new s f = goes_on [] old new s.0 f

pub calls : (e : Event) (result : Result Applied EventError) (old new : Kept) → Calls e result old new → IsFollowing old → IsFollowing new
calls e result old new c (from, (happened, f)) =
    let (more, (adds, g)) = c.1 from happened f in (from, (happened ++ more, g))

pub takes : {A E : Type 0} (old : Kept) (result : Result A E) (new : Kept) → Takes old result new → IsFollowing old → IsFollowing new
takes old (Ok taken) new t f = goes_on (taking old) old new t f
takes old (Err why) new t f = subst IsFollowing (sym t) f

pub begins : (size : ℕ) (c : Kept) → Begins size (Ok c) → IsFollowing c
begins size c (from, b) = (from, (_, b.1))

-- what fills a page, by what is lent of it
pub fills : {E : Type 0} (c : Kept) (path given : List ℕ) (m : Mirrored) (parts taken : List Part) (result : Result Screen E)
    → m ≡ c.mirror → given ≡ path → taken ≡ parts → IfOk result (λ screen. screen.pieces.items ≡ pieces_of given (facts_of m.known) taken)
    → IfOk result (λ screen. screen.pieces.items ≡ pieces_of path (facts_of c.mirror.known) parts)
fills c path given m parts taken (Ok screen) same is all filled =
    filled ∙ ap (λ m. pieces_of given (facts_of m.known) taken) same ∙ ap (λ p. pieces_of p (facts_of c.mirror.known) taken) is
    ∙ ap (pieces_of path (facts_of c.mirror.known)) all
fills c path given m parts taken (Err why) same is all filled = tt

-- what fills a page is true of the session that the client follows
pub shows : {E : Type 0} (c : Kept) (path : List ℕ) (parts : List Part) (result : Result Screen E) → IsFollowing c
    → IfOk result (λ screen. screen.pieces.items ≡ pieces_of path (facts_of c.mirror.known) parts)
    → IfOk result (λ screen. IsTrue c path screen.pieces.items)
shows c path parts (Ok screen) (from, (happened, f)) is = (
  subst (AreKnown path (facts_of c.mirror.known)) (sym is) (are_known path (facts_of c.mirror.known) parts),
  (from, (happened, (f, what_a_client_knows_was_so from happened c f))),
)
shows c path parts (Err why) follows is = tt
