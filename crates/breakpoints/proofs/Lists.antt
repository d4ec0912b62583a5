-- Lists of breakpoints, as a check leaves them.
use Rattle.breakpoints.proofs.Common.{[], ap, arith, Bool, checked, cond, counted, Covers, drop, false, filter, get_or, has_place, hit_in, hit_where, ids_where, is_among, is_at, is_hit, IsKept, length, List, list_any, list_any-append, Lists, logging_from, logs, looked, map, map-append, or_parts, Placed, refl, reset, SamePlaces, standing_in, stands, stopping_ids, stops, suc, take, true, with_hit, zero, ℕ, ◌++◌, ◌+◌, ◌<◌, ◌==◌, ◌||◌, ◌∙◌, ◌∷◌, ◌≡◌, ◌≤◌}
use Rattle.std.proofs.lemmas.List.Elements.{filter_more}
use Rattle.rv32i.specs.declared.hart.Hart.{Hart}

-- ---- the addresses stay

pub same_places : (f : Placed → Placed) → ((b : Placed) → (f b).address ≡ b.address) → (address : ℕ) (list : List Placed)
    → list_any (is_at address) (map f list) ≡ list_any (is_at address) list
same_places f same address [] = refl
same_places f same address (b ∷ list) = rw (same b) (rw (same_places f same address list) refl)

pub still_covers : (places : List ℕ) (f : Placed → Placed) → ((b : Placed) → (f b).address ≡ b.address)
    → (source instructions functions : List Placed) → Covers places source instructions functions
    → Covers places (map f source) (map f instructions) (map f functions)
still_covers places f same source instructions functions h address =
    rw (same_places f same address source)
    (rw (same_places f same address instructions) (rw (same_places f same address functions) (h address)))

pub same_length : (f : Placed → Placed) (list : List Placed) → length (map f list) ≡ length list
same_length f [] = refl
same_length f (b ∷ list) = ap suc (same_length f list)

pub still_kept : (places : List ℕ) (f : Placed → Placed) → ((b : Placed) → (f b).address ≡ b.address)
    → (source instructions functions : List Placed) (room more logging other : ℕ) → room ≤ more → logging ≤ other
    → IsKept places source instructions functions room logging
    → IsKept places (map f source) (map f instructions) (map f functions) more other
still_kept places f same source instructions functions room more logging other e g h = record {
  covers = still_covers places f same source instructions functions h.covers;
  fits = rw (same_length f source)
      (rw (same_length f instructions) (rw (same_length f functions) (omega (arith, h.fits, e))));
  logs_fit = rw (same_length f source) (omega (arith, h.logs_fit, g));
  few = rw (same_length f source) h.few;
}

pub reset_address : (b : Placed) → (reset b).address ≡ b.address
reset_address b = refl

pub counted_address : (pc : ℕ) (hart : Hart) (memory : List ℕ) (b : Placed) → (counted pc hart memory b).address ≡ b.address
counted_address pc hart memory b = go (is_hit pc hart memory b) where
  go : (t : Bool) → (cond t (with_hit b) b).address ≡ b.address
  go true = refl
  go false = refl

-- ---- where none is at pc, a check leaves all as it was

none_counted : (pc : ℕ) (hart : Hart) (memory : List ℕ) (b : Placed) → is_at pc b ≡ false → counted pc hart memory b ≡ b
none_counted pc hart memory b h = rw h refl

none_stops : (pc : ℕ) (hart : Hart) (memory : List ℕ) (b : Placed) → is_at pc b ≡ false → stops pc hart memory b ≡ false
none_stops pc hart memory b h = rw h refl

none_stands : (pc : ℕ) (hart : Hart) (memory : List ℕ) (b : Placed) → is_at pc b ≡ false → stands pc hart memory b ≡ false
none_stands pc hart memory b h = rw h refl

none_logs : (pc : ℕ) (hart : Hart) (memory : List ℕ) (b : Placed) → is_at pc b ≡ false → logs pc hart memory b ≡ false
none_logs pc hart memory b h = rw h refl

pub no_logs : (pc : ℕ) (hart : Hart) (memory : List ℕ) (place : ℕ) (list : List Placed) → list_any (is_at pc) list ≡ false
    → logging_from pc hart memory place list ≡ []
no_logs pc hart memory place [] h = refl
no_logs pc hart memory place (b ∷ list) h =
    let parts = or_parts (is_at pc b) (list_any (is_at pc) list) h in
    rw (none_logs pc hart memory b parts.0) (no_logs pc hart memory (place + 1) list parts.1)

pub unchanged : (pc : ℕ) (hart : Hart) (memory : List ℕ) (list : List Placed) → list_any (is_at pc) list ≡ false
    → map (counted pc hart memory) list ≡ list
unchanged pc hart memory [] h = refl
unchanged pc hart memory (b ∷ list) h =
    let parts = or_parts (is_at pc b) (list_any (is_at pc) list) h in
    rw (none_counted pc hart memory b parts.0) (ap (λ (x : List Placed). b ∷ x) (unchanged pc hart memory list parts.1))

-- this is true of breakpoints at pc alone
abbrev AtPc : ℕ → (Placed → Bool) → Type 0
AtPc pc test = (b : Placed) → is_at pc b ≡ false → test b ≡ false

no_ids : (pc : ℕ) (test : Placed → Bool) → AtPc pc test → (list : List Placed) → list_any (is_at pc) list ≡ false → ids_where test list ≡ []
no_ids pc test at [] h = refl
no_ids pc test at (b ∷ list) h =
    let parts = or_parts (is_at pc b) (list_any (is_at pc) list) h in
    rw (at b parts.0) (no_ids pc test at list parts.1)

no_stop : (pc : ℕ) (test : Placed → Bool) → AtPc pc test → (list : List Placed) → list_any (is_at pc) list ≡ false
    → list_any test list ≡ false
no_stop pc test at [] h = refl
no_stop pc test at (b ∷ list) h =
    let parts = or_parts (is_at pc b) (list_any (is_at pc) list) h in
    rw (at b parts.0) (no_stop pc test at list parts.1)

-- ---- one more breakpoint

pub ids_more : (pc : ℕ) (hart : Hart) (memory : List ℕ) (list : List Placed) (i : ℕ) (b : Placed) → i < length list
    → stopping_ids pc hart memory (take (i + 1) list) ≡ stopping_ids pc hart memory (take i list) ++ cond (stops pc hart memory (get_or list i b)) ((get_or list i b).id ∷ []) []
ids_more pc hart memory list i b h =
    ap (map (λ (x : Placed). x.id)) (filter_more (stops pc hart memory) list i b h)
    ∙ map-append (λ (x : Placed). x.id) (filter (stops pc hart memory) (take i list))
    (cond (stops pc hart memory (get_or list i b)) (get_or list i b ∷ []) [])
    ∙ ap (λ (x : List ℕ). stopping_ids pc hart memory (take i list) ++ x) (go (stops pc hart memory (get_or list i b)))
  where
    go : (t : Bool) → map (λ (x : Placed). x.id) (cond t (get_or list i b ∷ []) []) ≡ cond t ((get_or list i b).id ∷ []) []
    go true = refl
    go false = refl

-- ---- the places of all lists

abbrev addresses_of : List Placed → List ℕ
addresses_of list = map (λ (b : Placed). b.address) list

pub places_cover : (source instructions functions : List Placed) (addresses places : List ℕ) → SamePlaces addresses places
    → addresses ≡ addresses_of source ++ addresses_of instructions ++ addresses_of functions → Covers places source instructions functions
places_cover source instructions functions addresses places same e address =
    same address ∙ ap (has_place address) e
    ∙ list_any-append (λ place. place == address) (addresses_of source ++ addresses_of instructions) (addresses_of functions)
    ∙ both (list_any-append (λ place. place == address) (addresses_of source) (addresses_of instructions)
    ∙ both (any_address source) (any_address instructions)) (any_address functions)
  where
    any_address : (list : List Placed) → list_any (λ place. place == address) (addresses_of list) ≡ list_any (is_at address) list
    any_address [] = refl
    any_address (b ∷ list) = ap (λ t. is_at address b || t) (any_address list)

    both : {a b c d : Bool} → a ≡ b → c ≡ d → (a || c) ≡ (b || d)
    both {a} {b} {c} {d} p q = ap (λ x. x || c) p ∙ ap (λ x. b || x) q

-- ---- a step over a list

pub id_stays : (pc : ℕ) (hart : Hart) (memory : List ℕ) (b : Placed) → (counted pc hart memory b).id ≡ b.id
id_stays pc hart memory b = go (is_hit pc hart memory b) where
  go : (t : Bool) → (cond t (with_hit b) b).id ≡ b.id
  go true = refl
  go false = refl

-- what a loop has not come to is as it was
pub not_yet : {X : Type 0} (f : X → X) (xs ys : List X) (i : ℕ) (d : X) → i < length xs → ys ≡ map f (take i xs) ++ drop i xs
    → get_or ys i d ≡ get_or xs i d
not_yet f xs ys i d h e = ap (λ zs. get_or zs i d) e ∙ go f xs i d h where
  go : {X : Type 0} (f : X → X) (xs : List X) (i : ℕ) (d : X) → i < length xs → get_or (map f (take i xs) ++ drop i xs) i d ≡ get_or xs i d
  go f [] i d h = absurd (omega (arith, h))
  go f (x ∷ xs) zero d h = refl
  go f (x ∷ xs) (suc i) d h = go f xs i d (omega (arith, h))

-- none of the lists has one at pc
pub record NoneAt (pc : ℕ) (lists : Lists) : Type 0 where
  pub source : list_any (is_at pc) lists.source ≡ false
  pub instructions : list_any (is_at pc) lists.instructions ≡ false
  pub functions : list_any (is_at pc) lists.functions ≡ false

pub none_at : (pc : ℕ) (lists : Lists) → is_among pc lists.source lists.instructions lists.functions ≡ false → NoneAt pc lists
none_at pc lists h =
    let outer = or_parts (list_any (is_at pc) lists.source || list_any (is_at pc) lists.instructions)
    (list_any (is_at pc) lists.functions) h in
    let inner = or_parts (list_any (is_at pc) lists.source) (list_any (is_at pc) lists.instructions) outer.0 in
    record { source = inner.0; instructions = inner.1; functions = outer.1 }

-- the ids of all lists
abbrev all_ids : (Placed → Bool) → Lists → List ℕ
all_ids test lists = ids_where test lists.source ++ ids_where test lists.instructions ++ ids_where test lists.functions

no_ids_in : (pc : ℕ) (test : Placed → Bool) → AtPc pc test → (lists : Lists) → NoneAt pc lists → all_ids test lists ≡ []
no_ids_in pc test at lists n =
    λ j. (no_ids pc test at lists.source n.source j) ++ (no_ids pc test at lists.instructions n.instructions j) ++
    (no_ids pc test at lists.functions n.functions j)

no_hit_in : (pc : ℕ) (test : Placed → Bool) → AtPc pc test → (lists : Lists) → NoneAt pc lists
    → hit_where test lists ≡ record { source = false; instruction = false; function = false }
no_hit_in pc test at lists n =
    λ j. record {
      source = no_stop pc test at lists.source n.source j;
      instruction = no_stop pc test at lists.instructions n.instructions j;
      function = no_stop pc test at lists.functions n.functions j;
    }

pub no_check : (pc : ℕ) (hart : Hart) (memory : List ℕ) (lists : Lists)
    → is_among pc lists.source lists.instructions lists.functions ≡ false
    → checked pc hart memory lists ≡ record lists { ids = []; logs = [] }
no_check pc hart memory lists h =
    let n = none_at pc lists h in
    λ j. record {
      source = unchanged pc hart memory lists.source n.source j;
      instructions = unchanged pc hart memory lists.instructions n.instructions j;
      functions = unchanged pc hart memory lists.functions n.functions j;
      ids = no_ids_in pc (stops pc hart memory) (none_stops pc hart memory) lists n j;
      logs = no_logs pc hart memory 0 lists.source n.source j;
    }

pub no_hit : (pc : ℕ) (hart : Hart) (memory : List ℕ) (lists : Lists) → is_among pc lists.source lists.instructions lists.functions ≡ false
    → hit_in pc hart memory lists ≡ record { source = false; instruction = false; function = false }
no_hit pc hart memory lists h = no_hit_in pc (stops pc hart memory) (none_stops pc hart memory) lists (none_at pc lists h)

-- ---- and a look finds none

pub no_look : (pc : ℕ) (hart : Hart) (memory : List ℕ) (lists : Lists)
    → is_among pc lists.source lists.instructions lists.functions ≡ false
    → looked pc hart memory lists ≡ record lists { ids = []; logs = [] }
no_look pc hart memory lists h =
    λ j. record lists { ids = no_ids_in pc (stands pc hart memory) (none_stands pc hart memory) lists (none_at pc lists h) j; logs = [] }

pub none_standing : (pc : ℕ) (hart : Hart) (memory : List ℕ) (lists : Lists)
    → is_among pc lists.source lists.instructions lists.functions ≡ false
    → standing_in pc hart memory lists ≡ record { source = false; instruction = false; function = false }
none_standing pc hart memory lists h = no_hit_in pc (stands pc hart memory) (none_stands pc hart memory) lists (none_at pc lists h)

pub or_true : (t : Bool) → (t || true) ≡ true
or_true true = refl
or_true false = refl

pub or_false : (t : Bool) → (t || false) ≡ t
or_false true = refl
or_false false = refl
