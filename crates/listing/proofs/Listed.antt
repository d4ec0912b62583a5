-- Addresses that are listed one by one.
use Rattle.std.proofs.Common.{◌≡◌, ℕ, zero, suc, ◌+◌, ◌-◌, ◌*◌, ◌/◌, ◌<◌, ◌≤◌, Bool, true, false, List, [], ◌∷◌, ◌++◌, length, is_some, refl, sym, ap, subst, ◌∙◌, arith, append_assoc}
use Rattle.std.proofs.lemmas.List.{append-nil}
use Rattle.std.specs.Prelude.{cond}
use Rattle.image.specs.Lines.{line_of}
use Rattle.image.specs.Memory.{first_address}
use Rattle.image.specs.declared.Image.{Image}
use Rattle.listing.specs.Entries.{addresses_in, AreEntries, IsListing, listed, words_from}

-- entries with others after them
pub joined : (bytes : List ℕ) (test : Bool) (address : ℕ) (others : List ℕ) (part more : List ℕ)
    → AreEntries bytes (cond test (address ∷ []) []) part → AreEntries bytes others more
    → AreEntries bytes (cond test (address ∷ others) others) (part ++ more)
joined bytes true address others part more (line, rest, entry, none, e) h =
    let same : part ≡ line = e ∙ ap (λ r. line ++ r) none ∙ append-nil line in
    (line, more, entry, h, ap (λ p. p ++ more) same)
joined bytes false address others part more e h = subst (AreEntries bytes others) (ap (λ p. p ++ more) (sym e)) h

-- the entries of this many words are made
pub record ArePartly (image : Image) (index : ℕ) (lines : List ℕ) : Type 0 where
  pub entries : (more : List ℕ)
      → AreEntries image.bytes (listed image.lines (words_from (first_address + 4 * index) (length image.bytes / 4 - index))) more
      → AreEntries image.bytes (addresses_in image) (lines ++ more)

pub none_yet : (image : Image) → ArePartly image 0 []
none_yet image =
    let all : length image.bytes / 4 - 0 ≡ length image.bytes / 4 = omega arith in
    record { entries = λ more h. subst (λ n. AreEntries image.bytes (listed image.lines (words_from first_address n)) more) all h }

words_from-step : (address count : ℕ) → 0 < count → words_from address count ≡ address ∷ words_from (address + 4) (count - 1)
words_from-step address zero h = absurd (omega (arith, h))
words_from-step address (suc count) h =
    let same : count ≡ suc count - 1 = omega arith in
    ap (λ n. address ∷ words_from (address + 4) n) same

pub one_more : (image : Image) (index address : ℕ) (lines lines' : List ℕ) → ArePartly image index lines → index < length image.bytes / 4
    → address ≡ first_address + 4 * index
    → (part : List ℕ) × AreEntries image.bytes (listed image.lines (address ∷ [])) part × (lines' ≡ lines ++ part)
    → ArePartly image (index + 1) lines'
one_more image index address lines lines' p within at (part, right, e) =
    let left : 0 < length image.bytes / 4 - index = omega (arith, within) in
    let count : length image.bytes / 4 - index - 1 ≡ length image.bytes / 4 - (index + 1) = omega (arith, within) in
    let next : address + 4 ≡ first_address + 4 * (index + 1) = omega (arith, at) in
    let words : words_from (first_address + 4 * index) (length image.bytes / 4 - index) ≡ address ∷ words_from
    (first_address + 4 * (index + 1)) (length image.bytes / 4 - (index + 1)) =
    ap (λ a. words_from a (length image.bytes / 4 - index)) (sym at) ∙ words_from-step address (length image.bytes / 4 - index) left
    ∙ ap (λ n. address ∷ words_from (address + 4) n) count ∙ ap (λ a. address ∷ words_from a (length image.bytes / 4 - (index + 1))) next in
    record {
      entries = λ more h.
          let both = joined image.bytes (is_some (line_of image.lines address)) address
          (listed image.lines (words_from (first_address + 4 * (index + 1)) (length image.bytes / 4 - (index + 1)))) part more right h in
          let all = p.entries (part ++ more) (subst (λ w. AreEntries image.bytes (listed image.lines w) (part ++ more)) (sym words) both) in
          subst (AreEntries image.bytes (addresses_in image)) (sym (append_assoc lines part more) ∙ ap (λ l. l ++ more) (sym e)) all;
    }

pub all_made : (image : Image) (index : ℕ) (lines : List ℕ) → ArePartly image index lines → length image.bytes / 4 ≤ index
    → IsListing image lines
all_made image index lines p end =
    let none : length image.bytes / 4 - index ≡ 0 = omega (arith, end) in
    let nothing : AreEntries image.bytes
    (listed image.lines (words_from (first_address + 4 * index) (length image.bytes / 4 - index))) [] = subst
    (λ n. AreEntries image.bytes (listed image.lines (words_from (first_address + 4 * index) n)) []) (sym none) refl in
    subst (AreEntries image.bytes (addresses_in image)) (append-nil lines) (p.entries [] nothing)

-- six parts that are written one after the other
pub six_parts : (old a b c d e f s1 s2 s3 s4 s5 s6 : List ℕ) → s1 ≡ old ++ a → s2 ≡ s1 ++ b → s3 ≡ s2 ++ c → s4 ≡ s3 ++ d → s5 ≡ s4 ++ e
    → s6 ≡ s5 ++ f → s6 ≡ old ++ (a ++ (b ++ (c ++ (d ++ (e ++ f)))))
six_parts old a b c d e f s1 s2 s3 s4 s5 s6 p q r s t u =
    u ∙ ap (λ l. l ++ f) (t ∙ ap (λ l. l ++ e) (s ∙ ap (λ l. l ++ d) (r ∙ ap (λ l. l ++ c) (q ∙ ap (λ l. l ++ b) p))))
    ∙ append_assoc ((((old ++ a) ++ b) ++ c) ++ d) e f
    ∙ append_assoc (((old ++ a) ++ b) ++ c) d (e ++ f)
    ∙ append_assoc ((old ++ a) ++ b) c (d ++ (e ++ f))
    ∙ append_assoc (old ++ a) b (c ++ (d ++ (e ++ f)))
    ∙ append_assoc old a (b ++ (c ++ (d ++ (e ++ f))))
