-- Bytes in base64 are a plain text, of four characters for three bytes.
use Rattle.text_laws.proofs.Common.{[], All-append, All-cons, All-get_or, All-nil, All-replicate, are_bytes, arith, encode_of, IsPlain, IsPlainByte, length, length-append, length-replicate, List, nat_lt, refl, replicate, slice_index, standard, true, written_length, ℕ, ◌%◌, ◌*◌, ◌+◌, ◌/◌, ◌<◌, ◌∷◌, ◌≡◌, ◌≤◌}
use Rattle.std.proofs.Common.{ltb-true}
use Rattle.std.proofs.lemmas.List.Elements.{recursion_from_All}
use Rattle.std.proofs.lemmas.List.Sums.{AllPass-from_list_all}
use Rattle.std.specs.List.{AllByRecursion}
use Rattle.base64.proofs.RoundTrip.{length-encode_symbols}
use Rattle.base64.specs.Rfc4648.{encode_symbols, padding_len}
use Rattle.text_laws.proofs.Plain.{all_plain, plain_byte}
use Rattle.text_laws.proofs.Sizes.{plain_texts_stand}

abbrev symbols : List ℕ
symbols = standard.encode_table

-- there are 64 symbols, and each is plain: one before others
one : (i : ℕ) (others : List ℕ) → i < 64 → IsPlain others → IsPlain (slice_index symbols i ∷ others)
one i others below rest =
    All-cons IsPlainByte (slice_index symbols i) others (All-get_or IsPlainByte symbols i 0 below (all_plain symbols refl)) rest

symbols_plain : (bytes : List ℕ) → AllByRecursion (λ b. nat_lt b 256 ≡ true) bytes → IsPlain (encode_symbols symbols bytes)
unfolding encode_symbols
symbols_plain [] h = All-nil IsPlainByte
symbols_plain (a ∷ []) h =
    one (a / 4) (slice_index symbols (a % 4 * 16) ∷ []) (omega (arith, ltb-true a 256 h.0))
    (one (a % 4 * 16) [] (omega arith) (All-nil IsPlainByte))
symbols_plain (a ∷ b ∷ []) h =
    let last : List ℕ = slice_index symbols (b % 16 * 4) ∷ [] in
    one (a / 4) (slice_index symbols (a % 4 * 16 + b / 16) ∷ last) (omega (arith, ltb-true a 256 h.0))
    (one (a % 4 * 16 + b / 16) last (omega (arith, ltb-true b 256 h.1.0)) (one (b % 16 * 4) [] (omega arith) (All-nil IsPlainByte)))
symbols_plain (a ∷ b ∷ c ∷ rest) h =
    let others : List ℕ = encode_symbols symbols rest in
    let last : List ℕ = slice_index symbols (b % 16 * 4 + c / 64) ∷ slice_index symbols (c % 64) ∷ others in
    one (a / 4) (slice_index symbols (a % 4 * 16 + b / 16) ∷ last) (omega (arith, ltb-true a 256 h.0))
    (one (a % 4 * 16 + b / 16) last (omega (arith, ltb-true b 256 h.1.0))
    (one (b % 16 * 4 + c / 64) (slice_index symbols (c % 64) ∷ others) (omega (arith, ltb-true c 256 h.1.1.0))
    (one (c % 64) others (omega arith) (symbols_plain rest h.1.1.1))))

pub encoded_fits : (bytes : List ℕ) → are_bytes bytes ≡ true → written_length (encode_of standard bytes) ≤ 5 + 2 * length bytes
encoded_fits bytes h =
    let pad = standard.padding.value in
    let padded = replicate (padding_len (length bytes)) pad in
    let each = recursion_from_All (λ (b : ℕ). nat_lt b 256 ≡ true) bytes (AllPass-from_list_all (λ (b : ℕ). nat_lt b 256) bytes h) in
    let plain = All-append IsPlainByte (encode_symbols symbols bytes) padded (symbols_plain bytes each)
    (All-replicate IsPlainByte (padding_len (length bytes)) pad (plain_byte pad refl)) in
    omega (
      arith,
      plain_texts_stand (encode_of standard bytes) plain,
      length-append (encode_symbols symbols bytes) padded,
      length-encode_symbols symbols bytes,
      length-replicate (padding_len (length bytes)) pad,
    )
