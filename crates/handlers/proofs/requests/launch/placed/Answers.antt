use Rattle.handlers.proofs.Launching.{can_be_loaded, if_ok, is_of_text}
use Rattle.handlers.proofs.requests.launch.placed.Goals as goal

pub new-requires : goal.new-requires
new-requires c = can_be_loaded c.args.text.now c.args.image c.args.size c.requires.size c.requires.placed

pub returns : goal.returns
returns c =
    if_ok _ _ _ (λ p e. is_of_text c.args.text.now c.args.image c.args.path c.args.stop_on_entry c.args.size p c.requires.placed e) c.new.ensures
