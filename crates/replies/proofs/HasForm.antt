-- How the table of bodies has a body: in a form that is lawful, or always the same.
use Rattle.replies.proofs.Common.{always, body_in, Data, depth, false, Form, formed, has_float, in_form, is_ordered, is_simple, Lawful, List, ResponseBody, row, Some, true, ℕ, ◌≡◌, ◌≤◌}

-- the bodies that are made of such values, after a success of this command
pub record HasForm (n : ℕ) (command : List ℕ) {A : Type 0} (form : Form A) (make : A → ResponseBody) : Type 0 where
  pub lawful : Lawful n form
  pub shallow : n ≤ 100
  pub is_row : (x : A) → row (make x) ≡ in_form command form x
  pub is_taken : (message : Data) → body_in command message ≡ (formed command form make).found message

-- a body that has always this value
pub record IsAlways (command : List ℕ) (value : Data) (body : ResponseBody) : Type 0 where
  pub simple : is_simple value ≡ true
  pub shallow : depth value ≤ 100
  pub no_float : has_float value ≡ false
  pub ordered : is_ordered value ≡ true
  pub is_row : row body ≡ always command value
  pub is_taken : (message : Data) → body_in command message ≡ Some body
