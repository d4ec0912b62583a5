pub returns : Rattle.listing.proofs.laws.listing_is_unique.Goals.returns
returns c = Rattle.listing.proofs.Unique.unique c.text_is_unique.ensures c.placed_is_unique.ensures
