-- A text has one image.
use Rattle.assembler.proofs.Common.{[], ap, AreParts, AreWords, Code, Contained, content_at, entry_of, Err, first_address, Instr, IsPart, IsWord, Label, labels_in, length, List, Ok, Place, placed, PlacedIsUnique, Plain, rows_in, Source, subst, sym, word_bytes, ℕ, ◌++◌, ◌+◌, ◌∙◌, ◌∷◌, ◌≡◌}
use Rattle.rv32i.proofs.Unique.{one_word}

word_unique : (i : Instr) (a b : List ℕ) → IsWord i a → IsWord i b → a ≡ b
word_unique i a b p q = p.low_first ∙ ap word_bytes (one_word i p.word q.word p.encodes q.encodes) ∙ sym q.low_first

words_unique : (list : List Instr) (a b : List ℕ) → AreWords list a → AreWords list b → a ≡ b
words_unique [] a b h g = h ∙ sym g
words_unique (i ∷ list) a b (w, r, p, q, e) (v, s, t, u, f) =
    e ∙ ap (λ (l : List ℕ). l ++ r) (word_unique i w v p t) ∙ ap (λ (l : List ℕ). v ++ l) (words_unique list r s q u) ∙ sym f

pub part_unique : (contained : Contained) (a b : List ℕ) → IsPart contained a → IsPart contained b → a ≡ b
part_unique (Ok (Code list)) a b h g = words_unique list a b h g
part_unique (Ok (Plain bytes)) a b h g = h ∙ sym g
part_unique (Err kind) a b h g = absurd h

parts_unique : (labels : List Label) (list : List Place) (a b : List ℕ) → AreParts labels list a → AreParts labels list b → a ≡ b
parts_unique labels [] a b h g = h ∙ sym g
parts_unique labels (p ∷ list) a b (w, r, x, y, e) (v, s, t, u, f) =
    e ∙ ap (λ (l : List ℕ). l ++ r) (part_unique (content_at labels p.address p.source.line.statement) w v x t)
    ∙ ap (λ (l : List ℕ). v ++ l) (parts_unique labels list r s y u) ∙ sym f

pub unique : PlacedIsUnique
unique text size image other p q =
    let both = sym p.read ∙ q.read in
    let same : p.program ≡ q.program = cc in
    let rows = p.rows ∙ ap (λ (r : List Source). rows_in (placed r)) same ∙ sym q.rows in
    let labels = p.labels ∙ ap (λ (r : List Source). labels_in (placed r)) same ∙ sym q.labels in
    let bytes = parts_unique (labels_in (placed p.program)) (placed p.program) image.bytes other.bytes p.bytes
    (subst (λ (r : List Source). AreParts (labels_in (placed r)) (placed r) other.bytes) (sym same) q.bytes) in
    let end = p.end ∙ ap (λ (b : List ℕ). first_address + length b) bytes ∙ sym q.end in
    record {
      bytes = bytes;
      entry = p.entry ∙ ap (λ (r : List Source). entry_of (labels_in (placed r)) (rows_in (placed r))) same ∙ sym q.entry;
      lines = λ j. record { rows = rows j; labels = labels j; end = end j };
    }
