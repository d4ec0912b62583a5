-- What is promised of a text that is converted.
--
-- A text that assembles is one of this language already, whatever another assembler would make of it. It stays as it is, byte for byte,
-- and nothing is told of it.
use Rattle.std.specs.Prelude.{◌≡◌, ℕ, List, vec_len}
use Rattle.convert.specs.declared.converting.Conversion.{Conversion}

-- a text that stayed as it was
pub record AsItWas (original : List ℕ) (conversion : Conversion) : Type 0 where
  pub text : conversion.text.items ≡ original
  pub notes : vec_len conversion.notes ≡ 0
  pub errors : vec_len conversion.errors ≡ 0
