-- What fills the places of a page is known.
use Rattle.std.proofs.Common.{◌≡◌, arith, get_or, refl, ℕ, List, Option, Some, None, slice_get}
use Rattle.std.proofs.lemmas.List.Elements.{All-map}
use Rattle.facts.specs.Facts.{Facts}
use Rattle.console.specs.Private.Pages.{known, piece_of, pieces_of, word_at}
use Rattle.console.specs.Screens.{AreKnown, HasWord, IsKnown, listed}
use Rattle.console.specs.declared.page.Part.{Part}
use Rattle.console.specs.declared.page.Part.TheVariants as part
use Rattle.console.specs.declared.piece.Piece.{Piece}

-- a fact that is known, or that it is not
either : {A : Type 0} (path : List ℕ) (facts : Facts) (piece : A → Piece) (fact : Option A)
    → ((a : A) → fact ≡ Some a → IsKnown path facts (piece a)) → IsKnown path facts (known piece fact)
either path facts piece None is = tt
either path facts piece (Some a) is = is a refl

has_word : (facts : Facts) (address : ℕ) (w : ℕ × ℕ × ℕ × ℕ) → word_at facts address ≡ Some w → HasWord facts address w.0 w.1 w.2 w.3
has_word facts address w is = grind arith

is_known : (path : List ℕ) (facts : Facts) (part : Part) → IsKnown path facts (piece_of path facts part)
is_known path facts (part.Words tone words) = tt
is_known path facts part.Run = refl
is_known path facts (part.Register form number) = either path facts _ (facts.register number) (λ value is. is)
is_known path facts (part.Word address) = either path facts _ (word_at facts address) (λ w is. has_word facts address w is)
is_known path facts (part.Byte address) = either path facts _ (facts.byte address) (λ value is. is)
is_known path facts (part.Frame index) = either path facts _ (facts.frame index) (λ frame is. is)
is_known path facts (part.Break list index) = either path facts _ (slice_get (listed path facts list) index) (λ found is. is)

-- all that is shown is known, or words
pub are_known : (path : List ℕ) (facts : Facts) (parts : List Part) → AreKnown path facts (pieces_of path facts parts)
are_known path facts parts = All-map (IsKnown path facts) (piece_of path facts) parts (λ k d lt. is_known path facts (get_or parts k d))
