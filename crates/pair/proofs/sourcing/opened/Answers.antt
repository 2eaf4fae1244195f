use Rattle.pair.proofs.sourcing.opened.Goals as goal

pub go_on-requires-clause-idle : goal.go_on-requires-clause-idle
go_on-requires-clause-idle g c = c.in_ok-log.ensures.1.begins.waiting

pub go_on-requires-clause-sound : goal.go_on-requires-clause-sound
go_on-requires-clause-sound g c = c.in_ok-log.ensures.1.begins.sound
