-- A text has one listing.
use Rattle.std.proofs.Common.{◌≡◌, ℕ, List, [], ◌∷◌, ◌++◌, ◌/◌, length, sym, ap, subst, ◌∙◌}
use Rattle.image.specs.Lines.{Table}
use Rattle.image.specs.Memory.{first_address}
use Rattle.rv32i.specs.Laws.{TextIsUnique}
use Rattle.assembler.specs.Placed.{PlacedIsUnique}
use Rattle.listing.specs.Entries.{addresses_in, entry, listed, word_in, words_from, AreEntries, IsEntry}
use Rattle.listing.specs.Listing.{memory_size, ListingIsUnique}

one_entry : TextIsUnique → (bytes : List ℕ) (address : ℕ) (line other : List ℕ) → IsEntry bytes address line → IsEntry bytes address other
    → line ≡ other
one_entry unique bytes address line other a b =
    a.is_line ∙ ap (entry address (word_in bytes address)) (unique (word_in bytes address) address a.text b.text a.is_text b.is_text)
    ∙ sym b.is_line

entries_unique : TextIsUnique → (bytes : List ℕ) (addresses : List ℕ) (lines others : List ℕ) → AreEntries bytes addresses lines
    → AreEntries bytes addresses others → lines ≡ others
entries_unique unique bytes [] lines others a b = a ∙ sym b
entries_unique unique bytes (address ∷ addresses) lines others (line, rest, one, more, e) (line', rest', one', more', e') =
    let first : line ≡ line' = one_entry unique bytes address line line' one one' in
    let last : rest ≡ rest' = entries_unique unique bytes addresses rest rest' more more' in
    e ∙ ap (λ (l : List ℕ). l ++ rest) first ∙ ap (λ (l : List ℕ). line' ++ l) last ∙ sym e'

pub unique : TextIsUnique → PlacedIsUnique → ListingIsUnique
unique texts images text lines other a b =
    let same = images text memory_size a.image b.image a.placed b.placed in
    let E : List ℕ → Table → Type 0 = λ bytes table. AreEntries bytes (listed table (words_from first_address (length bytes / 4))) other in
    let moved : E a.image.bytes b.image.lines = subst (λ (bytes : List ℕ). E bytes b.image.lines) (sym same.bytes) b.is_listing in
    let right : E a.image.bytes a.image.lines = subst (E a.image.bytes) (sym same.lines) moved in
    entries_unique texts a.image.bytes (addresses_in a.image) lines other a.is_listing right
