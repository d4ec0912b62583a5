-- What comes next in a slice, and many beats at once.
use Rattle.std.specs.Prelude.{◌≡◌, ℕ, ◌+◌, ◌<◌, ◌≤◌, nat_lt, Bool, true, List, [], ◌∷◌, ◌++◌, Option, Some, None}
use Rattle.debuggee.specs.Programs.{Program, ended, entered, next_tick, stays, stopped, told}
use Rattle.debuggee.specs.declared.program.Advanced.{Advanced}
use Rattle.debuggee.specs.declared.program.Advanced.TheVariants as advanced
use Rattle.debuggee.specs.declared.run.Why.TheVariants as why
use Rattle.replies.specs.declared.event.Event.{Event}
use Rattle.session.specs.declared.event.SliceEnd.{SliceEnd}
use Rattle.session.specs.declared.event.SliceEnd.TheVariants as ending
use Rattle.session.specs.declared.slices.Made.{Made}
use Rattle.session.specs.declared.slices.Made.TheVariants as made
use Rattle.session.specs.declared.slices.Next.{Next}
use Rattle.session.specs.declared.slices.Next.TheVariants as next
use Rattle.session.specs.declared.slices.Step.{Step}
use Rattle.session.specs.Effects.{MayLack, Slicing, beats, beats_on}
use Rattle.session.specs.Kept.{Drafted, Kept, keepings, settled}
use Rattle.session.specs.Slices.{IsFree, beat, ends, output_events, stops, becomes}
use Rattle.handlers.specs.Telling.{exit_events, stop_event}
use Rattle.stepping.specs.Runs.{MayLackMemory}
use Rattle.stepping.specs.declared.tick.Outcome.{Outcome}
use Rattle.stepping.specs.declared.tick.Outcome.TheVariants.{Went, Stopped, Ended}
use Rattle.stepping.specs.declared.tick.Tick.{Tick}

-- what the program owes, if there is one and it owes something
abbrev pub owed_of : Option Program → Option Tick
owed_of None = None
owed_of (Some p) = p.owed

-- what is told of a tick
abbrev pub outcome_events : Outcome → List ℕ → List Event
outcome_events Went ids = []
outcome_events (Stopped reason) ids = stop_event (why.Met reason) ids ∷ []
outcome_events (Ended code) ids = exit_events code

abbrev pub tick_events : Tick → List (List ℕ) → List ℕ → List Event
tick_events tick texts ids = output_events tick.printed texts ++ outcome_events tick.outcome ids

-- what it comes to is made
abbrev pub concluded : Outcome → Program → Program
concluded Went p = p
concluded (Stopped reason) p = stopped (why.Met reason) p
concluded (Ended code) p = ended (Some code) p

-- what is made of a program as the editor is told of it
abbrev pub after_made : Made → Program → Program
after_made (made.Told tick) p = concluded tick.outcome (told p)
after_made (made.Stopped why) p = stopped why p
after_made (made.Met outcome) p = concluded outcome p

-- what is kept once a draft is queued, where the program is then this
abbrev pub queued_with : Drafted → Program → Kept → Kept
queued_with d p k = record k {
  now = settled k.now.link d.seq k.now.arrivals.pending (record k.now { debuggee = record k.now.debuggee { program = Some p } });
  waiting = k.waiting ++ d.bytes;
}

-- that no memory was left ends no beat
abbrev pub unless_memory : Option SliceEnd → Option SliceEnd
unless_memory None = None
unless_memory (Some ending.Spent) = Some ending.Spent
unless_memory (Some ending.Full) = Some ending.Full
unless_memory (Some ending.Idle) = Some ending.Idle
unless_memory (Some ending.Stopped) = Some ending.Stopped
unless_memory (Some ending.Ended) = Some ending.Ended
unless_memory (Some ending.NoMemory) = None

-- ---- what comes next

-- what comes next is what the beat does
abbrev pub Decides : Next → Kept → Bool → Type 0
Decides (next.Tell tick) k more = owed_of k.now.debuggee.program ≡ Some tick
Decides (next.End e) k more = (beat (keepings.see k) more ≡ ends e) × (unless_memory (Some e) ≡ Some e)
Decides (next.Stop reason) k more =
    (p : Program) × ((k.now.debuggee.program ≡ Some p) × (beat (keepings.see k) more ≡ stops k.now p reason))
Decides next.Check k more = (p : Program) × ((k.now.debuggee.program ≡ Some p)
    × ((beat (keepings.see k) more ≡ record { acts = becomes k.now (entered p) ∷ []; moved = 0; ending = None })
    × ((p.machine.check_due ≡ true) × (p.owed ≡ None))))
Decides next.Advance k more = (more ≡ true) × ((p : Program) × IsFree p (keepings.see k))

-- ---- many beats

-- a slice under way, which continues
abbrev pub going : Kept → ℕ → Slicing Kept
going k moved = record { state = k; moved = moved; ending = None }

-- some beats of a slice of n moves, from where `moved` were made
pub record Stretches (n moved : ℕ) (old : Kept) (step : Step) (new : Kept) : Type 0 where
  pub count : ℕ
  pub goes : beats_on keepings n count (going old moved)
      ≡ record { state = new; moved = moved + step.moved; ending = unless_memory step.ending }
  pub some : step.ending ≡ None → 1 ≤ count
  pub lacks : step.ending ≡ Some ending.NoMemory → MayLack (keepings.see new) (nat_lt (moved + step.moved) n)

-- how many moves were made, where this many were asked for
abbrev pub moved_by : ℕ → Advanced → ℕ
moved_by most advanced.Spent = most
moved_by most (advanced.HasOutput n) = n
moved_by most (advanced.Stops n tick) = n
moved_by most (advanced.OutOfMemory n) = n

-- what is known of what comes next: nothing, as some move was made; or that the next one traps or ends the program; or
-- that it may lack memory
abbrev pub IsAhead : ℕ → ℕ → Advanced → Kept → Type 0
IsAhead left most advanced.Spent k = 1 ≤ most
IsAhead left most (advanced.HasOutput n) k = 1 ≤ n
IsAhead left most (advanced.Stops n tick) k = (n < left)
    × ((p : Program) × (IsFree p (keepings.see k) × ((next_tick p ≡ tick) × (stays tick.outcome ≡ true))))
IsAhead left most (advanced.OutOfMemory n) k = (n < left)
    × ((p : Program) × (IsFree p (keepings.see k) × MayLackMemory p.machine))

-- each of these moves is one beat, as all but the last have nothing to tell; and what is known of the next
-- instruction is true
pub record Moved (left : ℕ) (old : Kept) (most : ℕ) (advanced : Advanced) (new : Kept) : Type 0 where
  pub few : moved_by most advanced ≤ left
  pub goes : (n moved : ℕ) → moved + left ≤ n
      → beats_on keepings n (moved_by most advanced) (going old moved) ≡ going new (moved + moved_by most advanced)
  pub next : IsAhead left most advanced new

-- a slice under way, after at least this many beats
pub record Reached (n least : ℕ) (s : Kept) (moved : ℕ) (k : Kept) : Type 0 where
  pub count : ℕ
  pub goes : beats keepings n count s ≡ going k moved
  pub few : least ≤ count
  pub within : moved ≤ n
