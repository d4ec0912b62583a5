-- Labels in a map by name, and in a list in the order of the text.
use Rattle.image.proofs.Common.{[], Bool, cond, false, find, labels_of, List, option_map, place_of, refl, Some, true, ℕ, ◌∷◌, ◌≡◌}
use Rattle.std.proofs.Common.{String}
use Rattle.std.specs.Map.{lookup}
use Rattle.std.specs.Str.{bytes_eq}
use Rattle.std.specs.String.{string_bytes}

-- what a look-up by name finds is the address that the first label of that name has
pub looked_up : {Z : Type 0} (entries : List (String Z × ℕ)) (name : List ℕ)
    → lookup (λ (k : String Z). bytes_eq name (string_bytes k)) entries
    ≡ option_map place_of (find (λ label. bytes_eq name label.0) (labels_of entries))
looked_up [] name = refl
looked_up {Z} (e ∷ es) name =
    let P : Bool → Type 0 = λ t. cond t (Some e.1) (lookup (λ (k : String Z). bytes_eq name (string_bytes k)) es)
    ≡ option_map place_of (cond t (Some (string_bytes e.0, e.1)) (find (λ label. bytes_eq name label.0) (labels_of es))) in
    elim (bytes_eq name (string_bytes e.0)) as P [ true ↦ refl | false ↦ looked_up es name ]
