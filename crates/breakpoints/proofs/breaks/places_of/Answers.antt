use Rattle.std.proofs.Common.{ℕ, List, ◌++◌, map, ap, ◌∙◌}
use Rattle.std.proofs.lemmas.Result.{IfOk-weaker}
use Rattle.breakpoints.proofs.Lists.{places_cover}

pub returns : Rattle.breakpoints.proofs.breaks.places_of.Goals.returns
returns c =
    let two = c.in_ok-push_addresses-2.ensures
    ∙ ap (λ (xs : List ℕ). xs ++ map (λ b. b.address) c.args.instructions.now)
    (c.in_ok-push_addresses.ensures ∙ ap (λ (xs : List ℕ). xs ++ map (λ b. b.address) c.args.source.now) c.new-addresses.ensures.items) in
    let all = c.in_ok-push_addresses-3.ensures ∙ ap (λ (xs : List ℕ). xs ++ map (λ b. b.address) c.args.functions.now) two in
    IfOk-weaker c.of.result _ _
    (λ places h. places_cover c.args.source.now c.args.instructions.now c.args.functions.now _ places h all) c.of.ensures
