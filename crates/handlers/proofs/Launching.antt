-- An image of a text can be loaded, and is the one that the text has.
use Rattle.std.proofs.Common.{◌≡◌, ℕ, Bool, List, true, false, [], ◌∷◌, Some, None, Result, Ok, Err, IfOk, sym, ap, ◌∙◌}
use Rattle.image.specs.declared.Image.{Image}
use Rattle.assembler.specs.Assembled.{assembled}
use Rattle.assembler.specs.Placed.{Placed, error_of}
use Rattle.assembler.proofs.Loadable.{loadable}
use Rattle.assembler.proofs.Made.{made}
use Rattle.debuggee.specs.Programs.{Program, just_loaded}
use Rattle.protocol.specs.declared.launch.LaunchArguments.{LaunchArguments}
use Rattle.replies.specs.declared.event.Event.TheVariants.{Initialized}
use Rattle.replies.specs.declared.response.Outcome.TheVariants.{Done}
use Rattle.replies.specs.declared.response.ResponseBody.TheVariants.{Empty}
use Rattle.handlers.specs.declared.change.Change.TheVariants.{Load}
use Rattle.handlers.specs.declared.phase.Phase.TheVariants.{Configuring}
use Rattle.handlers.specs.declared.terms.Terms.{Terms}
use Rattle.handlers.specs.Given.{Answering, Given}
use Rattle.handlers.specs.Sizes.{IsSize}
use Rattle.handlers.specs.Changes.{answering_as}
use Rattle.handlers.specs.Launch.{assembles}
use Rattle.stepping.specs.Loading.{CanBeLoaded}

pub can_be_loaded : (text : List ℕ) (image : Image) (size : ℕ) → IsSize size → Placed text size image → CanBeLoaded image size
can_be_loaded text image size s p =
    let l = loadable text size image p in
    record { whole = s.whole; some = s.some; few = s.few; fits = l.fits; aligned = l.aligned }

pub is_of_text : (text : List ℕ) (image : Image) (path : List ℕ) (stop : Bool) (size : ℕ) (p : Program) → Placed text size image
    → p ≡ just_loaded image path stop size → p ≡ just_loaded (assembled text) path stop size
is_of_text text image path stop size p h e = e ∙ ap (λ (i : Image). just_loaded i path stop size) (made text size image h)

pub if_ok : {A B : Type 0} (P Q : A → Type 0) (r : Result A B) → ((a : A) → P a → Q a) → IfOk r P → IfOk r Q
if_ok P Q (Ok a) f h = f a h
if_ok P Q (Err b) f h = h

pub loads_so : (given : Given) (terms seen : Terms) (arguments : LaunchArguments) (text : List ℕ) (p : Program) (path : List ℕ)
    → error_of text given.size ≡ None → seen ≡ terms → path ≡ arguments.program
    → p ≡ just_loaded (assembled text) path arguments.stop_on_entry given.size
    → answering_as given.debuggee (record { change = Load p; terms = record seen { phase = Configuring; launched = true }; outcome = Done Empty; event = Some Initialized; closes = false }) ≡ assembles given terms arguments text (error_of text given.size)
loads_so given terms seen arguments text p path right same is_path e =
    let loads_program : Terms → Program → Answering = λ t q. record {
      debuggee = record given.debuggee { program = Some q };
      references = None;
      terms = record t { phase = Configuring; launched = true };
      outcome = Done Empty;
      events = Initialized ∷ [];
      closes = false;
    } in
    let is : p ≡ just_loaded (assembled text) arguments.program arguments.stop_on_entry given.size =
    e ∙ ap (λ (x : List ℕ). just_loaded (assembled text) x arguments.stop_on_entry given.size) is_path in
    ap (λ (t : Terms). loads_program t p) same ∙ ap (loads_program terms) is ∙ sym (ap (assembles given terms arguments text) right)
