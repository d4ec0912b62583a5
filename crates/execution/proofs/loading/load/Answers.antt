use Rattle.execution.proofs.Starting.{can_be_loaded}

pub start-requires : Rattle.execution.proofs.loading.load.Goals.start-requires
start-requires c =
    can_be_loaded c.args.text.now c.in-Ok.image c.args.size c.requires.whole c.requires.some c.requires.few c.in-Ok.ensures.answers
