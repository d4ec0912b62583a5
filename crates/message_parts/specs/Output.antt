-- The body of the event `output`: a text that the editor shows (DAP specification, `OutputEvent`).
--
-- The category says whose output it is: what the program printed, or what the adapter has to say, as the text of a
-- logpoint.
use Rattle.std.specs.Prelude.{ℕ, List, [], ◌∷◌, Some, codes}
use Rattle.message_parts.specs.Forms.{Form, object_of, none, field, made_of, one_of, text}
use Rattle.message_parts.specs.declared.output.Category.{Category}
use Rattle.message_parts.specs.declared.output.Category.TheVariants.{Console, Stdout}
use Rattle.message_parts.specs.declared.output.Output.{Output}

-- the categories
abbrev pub categories : List Category
categories = Console ∷ Stdout ∷ []

-- the name of a category
abbrev pub category_name : Category → List ℕ
category_name Console = codes "console"
category_name Stdout = codes "stdout"

-- a category
abbrev pub category : Form Category
category = one_of category_name categories

-- the body
abbrev pub output : Form Output
output =
    made_of (λ o. (o.category, (o.output, tt))) (λ p. Some (record { category = p.0; output = p.1.0 }))
    (object_of (field (codes "category") category (field (codes "output") text none)))
