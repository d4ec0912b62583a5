-- The image that is made of a text is the one that is right for it.
use Rattle.assembler.proofs.Common.{[], ap, AreParts, AreWords, Code, code_bytes, Contained, content_at, Err, first_address, image_by, image_of, Instr, IsPart, Label, labels_in, length, List, Ok, part_of, parts_of, Place, Placed, placed, PlacedIsAssembled, Plain, sym, word_bytes, ℕ, ◌++◌, ◌+◌, ◌∙◌, ◌∷◌, ◌≡◌}
use Rattle.image.specs.declared.Image.{Image}
use Rattle.rv32i.proofs.Computed.{computed}
use Rattle.assembler.specs.Assembled.{assembled}

words_made : (list : List Instr) (bytes : List ℕ) → AreWords list bytes → bytes ≡ code_bytes list
words_made [] bytes h = h
words_made (i ∷ list) bytes (w, r, p, q, e) =
    e ∙ ap (λ (l : List ℕ). l ++ r) (p.low_first ∙ ap word_bytes (computed i p.word p.encodes))
    ∙ ap (λ (l : List ℕ). code_bytes (i ∷ []) ++ l) (words_made list r q)

part_made : (contained : Contained) (bytes : List ℕ) → IsPart contained bytes → bytes ≡ part_of contained
part_made (Ok (Code list)) bytes h = words_made list bytes h
part_made (Ok (Plain plain)) bytes h = h
part_made (Err kind) bytes h = absurd h

parts_made : (labels : List Label) (list : List Place) (bytes : List ℕ) → AreParts labels list bytes → bytes ≡ parts_of labels list
parts_made labels [] bytes h = h
parts_made labels (p ∷ list) bytes (w, r, x, y, e) =
    e ∙ ap (λ (l : List ℕ). l ++ r) (part_made (content_at labels p.address p.source.line.statement) w x)
    ∙ ap (λ (l : List ℕ). part_of (content_at labels p.address p.source.line.statement) ++ l) (parts_made labels list r y)

image_made : (text : List ℕ) (size : ℕ) (image : Image) (p : Placed text size image) → image ≡ image_of (placed p.program)
image_made text size image p =
    let list : List Place = placed p.program in
    let bytes : image.bytes ≡ parts_of (labels_in list) list = parts_made (labels_in list) list image.bytes p.bytes in
    let end : image.lines.end ≡ first_address + length (parts_of (labels_in list) list) = p.end
    ∙ ap (λ (b : List ℕ). first_address + length b) bytes in
    λ j. record { bytes = bytes j; entry = p.entry j; lines = record { rows = p.rows j; labels = p.labels j; end = end j } }

pub made : PlacedIsAssembled
unfolding assembled
made text size image p = image_made text size image p ∙ ap image_by (sym p.read)
