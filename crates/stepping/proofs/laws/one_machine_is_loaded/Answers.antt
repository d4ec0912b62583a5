use Rattle.stepping.proofs.Loading.{labels_are_not_loaded, one_is_loaded, one_is_reloaded}

pub returns : Rattle.stepping.proofs.laws.one_machine_is_loaded.Goals.returns
returns c = record { loaded = one_is_loaded; anew = one_is_reloaded; labels = labels_are_not_loaded }
